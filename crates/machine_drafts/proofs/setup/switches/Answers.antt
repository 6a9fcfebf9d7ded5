use Rattle.std.proofs.Common.{◌<◌, ◌≤◌, ◌++◌, ◌∷◌, [], ◌∙◌, ℕ, List, ap, length, arith}
use Rattle.machine_drafts.proofs.Numbers.{all_made, more_made}
use Rattle.machine_meaning.specs.Ways.{switches_in}
use Rattle.machine_drafts.proofs.setup.switches.Goals as goal

pub loop-v-preserved : goal.loop-v-preserved
loop-v-preserved c =
    let t = c.args.topology.now in
    let count = c.virtual_count-count.ensures in
    let test = c.loop-v-test.true in
    let within : c.loop-v.v < length t.virtuals = omega arith in
    more_made (switches_in t) t.virtuals c.loop-v.v c.loop-v.switches c.push.new.self within
    (c.in_ok-push.ensures.pushed ∙ ap (λ (ns : List ℕ). c.loop-v.switches ++ ns ∷ []) c.in_ok-own.ensures)
    c.loop-v.invariant

pub returns : goal.returns
returns c =
    let t = c.args.topology.now in
    let count = c.virtual_count-count.ensures in
    let test = c.loop-v-test.false in
    let end : length t.virtuals ≤ c.loop-v.v = omega arith in
    all_made (switches_in t) t.virtuals c.loop-v.v c.loop-v.switches end c.loop-v.invariant
