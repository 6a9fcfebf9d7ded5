use Rattle.std.proofs.Common.{◌∙◌, ◌<◌, ◌≤◌, length, refl, sym, ap, arith, map}
use Rattle.std.proofs.lemmas.List.{length-map}
use Rattle.policy_expr.specs.Policy.{Policy, policy_of}
use Rattle.machine_meaning.proofs.Places.{changed_past, map-set_changed}
use Rattle.machine_drafts.proofs.exprs_draft.set_expr.Goals as goal

pub returns-then-v-len : goal.returns-then-v-len
returns-then-v-len c =
    let within : c.args.v < length c.args.exprs.now = omega (arith, c.len.ensures, c.if-v-len.true) in
    ap (map policy_of) c.set.ensures
    ∙ map-set_changed policy_of (λ (old : Policy). policy_of c.args.expr) c.args.exprs.now c.args.v c.args.expr
    c.args.expr within refl

pub returns-else-v-len : goal.returns-else-v-len
returns-else-v-len c =
    let past : length c.args.exprs.now ≤ c.args.v = omega (arith, c.len.ensures, c.if-v-len.false) in
    let long : length (map policy_of c.args.exprs.now) ≤ c.args.v = rw length-map past in
    sym (changed_past (λ (old : Policy). policy_of c.args.expr) (map policy_of c.args.exprs.now) c.args.v long)
