use Rattle.std.proofs.Common.{◌≡◌, ◌∙◌, ◌+◌, ◌<◌, ℕ, suc, Bool, false, Option, Some, None, List, length, get_or}
use Rattle.std.proofs.Common.{if◌then◌else◌, ap, subst, sym, arith}
use Rattle.std.specs.Option.{option_or}
use Rattle.inner_paths.specs.Distances.{distance_within, has_path}
use Rattle.inner_paths.specs.Tables.{leads_into}
use Rattle.inner_paths.proofs.Leads.{leads_are}
use Rattle.inner_paths.proofs.distance.distances.Goals as goal

pub loop-cables-preserved : goal.loop-cables-preserved
loop-cables-preserved c =
    let k = c.loop-cables.cables in
    let count = c.args.count in
    let layer = c.in_ok-layer-2.layer.items in
    let more : (s : ℕ) → s < count → get_or layer s false ≡ has_path c.args.ways.now (suc k) s c.args.to = λ s lt.
    c.in_ok-layer-2.ensures.each s lt
    ∙ (ap (λ (l : List Bool). leads_into c.args.ways.now l s) c.deref-in-loop-cables.ensures.value
    ∙ leads_are c.args.ways.now c.args.ways.now c.loop-cables.layer.items count k c.args.to s c.requires
    c.loop-cables.invariant.1) in
    let next : k + 1 ≡ suc k = omega arith in
    let Kept : ℕ → Type 0 = λ n. (length layer ≡ count)
    × ((s : ℕ) → s < count → get_or layer s false ≡ has_path c.args.ways.now n s c.args.to)
    × (length c.in_ok-distances-2.distances.items ≡ count)
    × ((s : ℕ) → s < count → get_or c.in_ok-distances-2.distances.items s None
    ≡ distance_within c.args.ways.now n s c.args.to) in
    subst Kept (sym next) (
      c.in_ok-layer-2.ensures.whole,
      more,
      c.in_ok-distances-2.ensures.whole,
      (λ s lt. c.in_ok-distances-2.ensures.each s lt
          ∙ (λ i. option_or
          ((ap (λ (d : List (Option ℕ)). get_or d s None) c.deref-in-loop-cables-2.ensures.value
          ∙ c.loop-cables.invariant.3 s lt) i)
          (if (ap (λ (l : List Bool). get_or l s false) c.deref-in-loop-cables-3.ensures.value ∙ more s lt) i
          then Some (next i) else None))),
    )
