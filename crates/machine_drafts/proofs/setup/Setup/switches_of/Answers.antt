use Rattle.std.proofs.Common.{◌∙◌, ◌<◌, ◌≡◌, length, slice_get, subst, sym, ap, arith}
use Rattle.policies.specs.Policies.{PolicyOf}
use Rattle.machine_drafts.proofs.Found.{as_many_made, made_found}
use Rattle.machine_meaning.specs.Ways.{switches_of}
use Rattle.machine_drafts.proofs.setup.Setup.switches_of.Goals as goal

pub numbers_at-requires : goal.numbers_at-requires
numbers_at-requires c =
    let p = c.self.inside.policy in
    let many : length c.self.inside.switches ≡ length p.virtuals =
    as_many_made (switches_of p) p.virtuals c.self.inside.switches c.self.invariant.switches_are in
    let within : c.args.v < length p.virtuals = subst (λ (q : PolicyOf). c.args.v < length q.virtuals)
    (sym c.self.view_is) c.requires in
    let same = c.as_slice.ensures in
    rw same (omega arith)

pub returns : goal.returns
returns c =
    let p = c.self.inside.policy in
    made_found (switches_of p) p.virtuals c.self.inside.switches c.args.v c.numbers_at.result.now
    c.self.invariant.switches_are (sym (ap (λ xs. slice_get xs c.args.v) c.as_slice.ensures) ∙ c.numbers_at.ensures)
    ∙ ap (λ (q : PolicyOf). switches_of q c.args.v) c.self.view_is
