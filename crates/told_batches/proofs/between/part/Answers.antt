use Rattle.std.proofs.Common.{◌≡◌, ◌∙◌, ◌++◌, ◌∷◌, [], ap, Bool}
use Rattle.std.specs.Prelude.{if◌then◌else◌, not}
use Rattle.install_plan.specs.declared.written.Written.{Written}
use Rattle.switch_meaning.proofs.Writing.{kept_more}
use Rattle.machine_meaning.specs.Batches.{is_among}
use Rattle.switch_meaning.specs.Batches.{by_key}
use Rattle.told_batches.proofs.Sought.{sought}
use Rattle.told_batches.proofs.between.part.Goals as goal

pub loop-written-preserved : goal.loop-written-preserved
loop-written-preserved c =
    let x = c.written-item.result in
    let wanted = c.args.wanted.now in
    let before = c.loop-written.parted in
    let stays : c.has.result ≡ is_among wanted x =
    sought wanted c.as_slice.result.now
    (c.as_slice.ensures ∙ c.in_ok-sorted.ensures ∙ ap by_key c.in_ok-copy.ensures) x.entry c.has.result c.has.ensures in
    record {
      going =
          kept_more (λ (w : Written). not (is_among wanted w)) c.args.standing.now c.loop-written.written-index x
          before.going c.push.new.self.going _ c.loop-written-test.true c.written-item.is
          (c.in_ok-push.ensures.going ∙ ap (λ (b : Bool). before.going ++ (if not b then x ∷ [] else []))
          stays) c.loop-written.invariant.going;
      staying =
          kept_more (is_among wanted) c.args.standing.now c.loop-written.written-index x before.staying
          c.push.new.self.staying _ c.loop-written-test.true c.written-item.is
          (c.in_ok-push.ensures.staying ∙ ap (λ (b : Bool). before.staying ++ (if b then x ∷ [] else []))
          stays) c.loop-written.invariant.staying;
    }
