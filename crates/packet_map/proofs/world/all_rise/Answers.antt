use Rattle.std.proofs.Common.{ℕ, ◌<◌, ◌≤◌, arith, length, refl, subst, sym, ◌∙◌, true≢false}
use Rattle.std.specs.Prelude.{All}
use Rattle.grants.specs.declared.grant.Grant.{Grant}
use Rattle.packet_map.specs.Rising.{SeesRising}
use Rattle.packet_map.proofs.Lists.{below-next}
use Rattle.packet_map.proofs.world.all_rise.Goals as goal

pub loop-grant-preserved : goal.loop-grant-preserved
loop-grant-preserved c =
    below-next SeesRising c.as_slice-grant-items.result.now c.loop-grant.grant-index c.grant-item.result
    c.loop-grant-test.true c.grant-item.is (c.rises.ensures.0 c.if-not-rises.false) c.loop-grant.invariant

pub returns-then-not-rises : goal.returns-then-not-rises
returns-then-not-rises c = (
  λ t. absurd (true≢false (sym t)),
  λ all.
      let each : All SeesRising c.as_slice-grant-items.result.now =
      subst (All SeesRising) (sym c.as_slice-grant-items.ensures) all in
      let this : SeesRising c.grant-item.result =
      subst SeesRising (sym c.grant-item.is)
      (each c.loop-grant.grant-index c.grant-item.result c.loop-grant-test.true) in
      absurd (true≢false (sym (c.rises.ensures.1 this) ∙ c.if-not-rises.true)),
)

pub returns : goal.returns
returns c =
    let end : length c.as_slice-grant-items.result.now ≤ c.loop-grant.grant-index = c.loop-grant-test.false in
    let each : All SeesRising c.as_slice-grant-items.result.now =
    λ (k : ℕ) (d : Grant) (lt : k < length c.as_slice-grant-items.result.now). c.loop-grant.invariant k d
    (omega arith) in
    (λ t. subst (All SeesRising) c.as_slice-grant-items.ensures each, λ all. refl)
