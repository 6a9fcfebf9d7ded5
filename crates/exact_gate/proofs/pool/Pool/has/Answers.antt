use Rattle.std.proofs.Common.{◌∙◌, List, sym, ap}
use Rattle.std.specs.Map.{lookup}
use Rattle.switch_meaning.specs.declared.entry.PhysEntry.{PhysEntry}
use Rattle.exact_gate.specs.Standing.{one_key, stands_in}
use Rattle.exact_gate.proofs.Bucketed.{bucket_entries, has_in}
use Rattle.exact_gate.proofs.pool.Pool.has.Goals as goal

pub returns-in-Some : goal.returns-in-Some
returns-in-Some c =
    let e = c.args.entry.now in
    let bs = c.self.inside.buckets.entries in
    c.has.ensures
    ∙ (ap (λ o. stands_in (bucket_entries o) e) (c.in-Some.ensures.value ∙ ap (λ k. lookup (one_key k) bs) c.of.ensures)
    ∙ (sym (has_in bs e c.self.invariant.0) ∙ ap (λ (xs : List PhysEntry). stands_in xs e) c.self.view_is))

pub returns-in-None : goal.returns-in-None
returns-in-None c =
    let e = c.args.entry.now in
    let bs = c.self.inside.buckets.entries in
    ap (λ o. stands_in (bucket_entries o) e) (c.in-None.ensures.value ∙ ap (λ k. lookup (one_key k) bs) c.of.ensures)
    ∙ (sym (has_in bs e c.self.invariant.0) ∙ ap (λ (xs : List PhysEntry). stands_in xs e) c.self.view_is)
