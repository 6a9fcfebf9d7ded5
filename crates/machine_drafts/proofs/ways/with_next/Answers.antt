use Rattle.std.proofs.Common.{◌<◌, ◌≤◌, ◌||◌, ◌++◌, ◌∷◌, [], ◌∙◌, ℕ, Bool, ap, length, arith}
use Rattle.std.specs.Prelude.{if◌then◌else◌}
use Rattle.grants.specs.Ports.{is_one_of}
use Rattle.machine_drafts.proofs.Numbers.{all_kept, more_kept}
use Rattle.machine_meaning.specs.Ways.{is_next}
use Rattle.machine_drafts.proofs.ways.with_next.Goals as goal

pub loop-u-preserved : goal.loop-u-preserved
loop-u-preserved c =
    let t = c.args.topology.now in
    let vs = c.args.group.now in
    let u = c.loop-u.u in
    let count = c.virtual_count-count.ensures in
    let test = c.loop-u-test.true in
    let within : u < length t.virtuals = omega arith in
    more_kept (λ (u : ℕ). is_one_of vs u || is_next t vs u) t.virtuals u c.loop-u.wider c.push_if.new.numbers _ within
    (c.in_ok-push_if.ensures ∙ ap (λ (b : Bool). c.loop-u.wider ++ (if b then u ∷ [] else [])) c.is_in_next.ensures)
    c.loop-u.invariant

pub returns : goal.returns
returns c =
    let t = c.args.topology.now in
    let vs = c.args.group.now in
    let count = c.virtual_count-count.ensures in
    let test = c.loop-u-test.false in
    let end : length t.virtuals ≤ c.loop-u.u = omega arith in
    all_kept (λ (u : ℕ). is_one_of vs u || is_next t vs u) t.virtuals c.loop-u.u c.loop-u.wider _ end c.loop-u.invariant
