use Rattle.std.proofs.Common.{◌∙◌, ℕ, List, sym, ap, subst}
use Rattle.std.specs.Prelude.{◌&&◌, not}
use Rattle.std.specs.List.{list_all, list_any, position}
use Rattle.std.specs.Map.{keys_of, lookup}
use Rattle.match_index.specs.Items.{AddsTo, same_item}
use Rattle.match_index.proofs.Lists.{none_from}
use Rattle.switch_meaning.specs.Same.{same_entry}
use Rattle.switch_meaning.specs.declared.entry.PhysEntry.{PhysEntry}
use Rattle.exact_gate.specs.InsideBuckets.{AreBuckets, AreKnown, BucketOf, in_buckets}
use Rattle.exact_gate.specs.Standing.{one_key, stands_in}
use Rattle.exact_gate.specs.declared.key.Key.{Key}
use Rattle.exact_gate.proofs.Bucketed.{bucket_entries, dropped_buckets, has_in, no_value, own_bucket, stands_dropped}
use Rattle.exact_gate.proofs.Bucketed.{value_at}
use Rattle.exact_gate.proofs.Pooled.{known_removed, known_there}
use Rattle.exact_gate.proofs.Standing.{absent-already}
use Rattle.exact_gate.proofs.pool.Pool.remove.Goals as goal

pub returns-in-None : goal.returns-in-None
returns-in-None c e =
    let x = c.args.entry.now in
    let bs = c.self.inside.buckets.entries in
    let none = none_from (lookup (one_key c.of.result) bs) c.in-None.ensures.found in
    absent-already c.args.self.now x e
    (ap (λ (xs : List PhysEntry). stands_in xs x) (sym c.self.view_is)
    ∙ (has_in bs x c.self.invariant.0
    ∙ ap (λ o. stands_in (bucket_entries o) x) (ap (λ (k : Key). lookup (one_key k) bs) (sym c.of.ensures) ∙ none)))

pub remove-requires : goal.remove-requires
remove-requires c =
    let b = c.in-Some-swap_remove_index.taken in
    ap (λ (id : ℕ). list_any (same_item (record { id = id; rank = b.0.priority; normal = b.0.m })) c.self.inside.finder)
    c.id.ensures
    ∙ known_there c.self.inside.buckets.entries c.in-Some.place b (sym c.in-Some-swap_remove_index.ensures.entry)
    c.self.inside.finder c.self.inside.next c.self.invariant.1

pub invariant_of-self-in-Some-swap_remove_index : goal.invariant_of-self-in-Some-swap_remove_index
invariant_of-self-in-Some-swap_remove_index c =
    let b = c.in-Some-swap_remove_index.taken in
    let bs = c.self.inside.buckets.entries in
    let at = sym c.in-Some-swap_remove_index.ensures.entry in
    let is = c.in-Some-swap_remove_index.ensures.entries in
    let A : ℕ → Type 0 = λ id. AddsTo (record { id = id; rank = b.0.priority; normal = b.0.m }) c.remove.new.self
    c.self.inside.finder in
    let K : List (Key × BucketOf) → Type 0 = λ cs. AreKnown cs c.remove.new.self c.self.inside.next in (
      subst AreBuckets (sym is) (dropped_buckets bs c.in-Some.place b at c.self.invariant.0),
      subst K (sym is) (known_removed bs c.in-Some.place b at c.self.inside.finder c.self.inside.next c.self.invariant.1
          c.remove.new.self (subst A c.id.ensures c.remove.ensures)),
    )

pub returns-in-Some-swap_remove_index : goal.returns-in-Some-swap_remove_index
returns-in-Some-swap_remove_index c e =
    let b = c.in-Some-swap_remove_index.taken in
    let x = c.args.entry.now in
    let bs = c.self.inside.buckets.entries in
    let at = sym c.in-Some-swap_remove_index.ensures.entry in
    ap (λ (cs : List (Key × BucketOf)). stands_in (in_buckets cs) e) c.in-Some-swap_remove_index.ensures.entries
    ∙ (stands_dropped bs c.in-Some.place b x e at c.self.invariant.0
    (own_bucket bs c.in-Some.place b x at (ap (λ (k : Key). position (one_key k) (keys_of bs)) (sym c.of.ensures)
    ∙ sym c.in-Some.ensures.index))
    (ap (λ (y : BucketOf). list_all (same_entry x) y.entries)
    (sym (value_at bs c.in-Some.place b c.index.result.now at c.index.ensures)) ∙ sym c.if-not-is_only.ensures)
    ∙ ap (λ (xs : List PhysEntry). stands_in xs e && not (same_entry e x)) c.self.view_is)

pub returns-in-None-swap_remove_index : goal.returns-in-None-swap_remove_index
returns-in-None-swap_remove_index c e =
    absurd (no_value c.self.inside.buckets.entries c.in-Some.place c.index.result.now
    (sym c.in-None-swap_remove_index.ensures.entry) c.index.ensures)
