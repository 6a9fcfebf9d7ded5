use Rattle.std.proofs.Common.{◌≡◌, ◌∙◌, ◌||◌, refl, ◌++◌, ◌∷◌, [], ◌+◌, List, sym, ap, ap₂, subst, subst₂}
use Rattle.std.specs.List.{IsDistinct}
use Rattle.std.specs.Map.{keys_of, lookup}
use Rattle.match_index.specs.declared.item.Item.{Item}
use Rattle.match_index.proofs.Lists.{none_from}
use Rattle.switch_meaning.specs.Same.{same_entry}
use Rattle.switch_meaning.specs.declared.entry.PhysEntry.{PhysEntry}
use Rattle.exact_gate.specs.InsideBuckets.{AreBuckets, AreKnown, BucketOf, in_buckets}
use Rattle.exact_gate.specs.Standing.{one_key, stands_in}
use Rattle.exact_gate.specs.declared.key.Key.{Key}
use Rattle.exact_gate.proofs.Bucketed.{buckets_pushed, stands_pushed}
use Rattle.exact_gate.proofs.Pooled.{known_pushed, new_id}
use Rattle.exact_gate.proofs.pool.Pool.insert.Goals as goal

pub insert-requires : goal.insert-requires
insert-requires c = new_id c.self.inside.finder c.self.inside.next (c.self.invariant.1).below

pub put-requires-clause-absent : goal.put-requires-clause-absent
put-requires-clause-absent c = ap (λ (bs : List (Key × BucketOf)). lookup (one_key c.of-key.result) bs)
    c.reserve.ensures.entries ∙ none_from _ c.in-None.ensures.found

pub invariant_of-self-in-None : goal.invariant_of-self-in-None
invariant_of-self-in-None c =
    let bs = c.self.inside.buckets.entries in
    let next = c.self.inside.next in
    let x = c.args.entry.now in
    let k = c.of-key.result in
    let is : c.put.new.buckets.entries ≡ bs ++ (k, record { id = next; entries = x ∷ [] }) ∷ [] =
    c.put.ensures.entries ∙ ap₂ (λ (cs : List (Key × BucketOf)) (b : BucketOf). cs ++ (k, b) ∷ [])
    c.reserve.ensures.entries c.in_ok-bucket-in-None.ensures in
    let D : List (Key × BucketOf) → Type 0 = λ cs. IsDistinct one_key (keys_of cs) in
    let K : List (Key × BucketOf) → List Item → Type 0 = λ cs items. AreKnown cs items (next + 1) in (
      subst AreBuckets (sym is)
          (buckets_pushed bs k next x c.self.invariant.0 (sym c.of-key.ensures) (subst D is c.put.ensures.unique)),
      subst₂ K (sym is) (sym c.in_ok-insert-in-None.ensures.added)
          (known_pushed bs c.self.inside.finder next (k, record { id = next; entries = x ∷ [] }) c.self.invariant.1
          refl),
    )

pub returns-in_ok-insert-in-None-clause-entries : goal.returns-in_ok-insert-in-None-clause-entries
returns-in_ok-insert-in-None-clause-entries c e =
    let bs = c.self.inside.buckets.entries in
    let x = c.args.entry.now in
    let k = c.of-key.result in
    let is : c.put.new.buckets.entries ≡ bs ++ (k, record { id = c.self.inside.next; entries = x ∷ [] }) ∷ [] =
    c.put.ensures.entries ∙ ap₂ (λ (cs : List (Key × BucketOf)) (b : BucketOf). cs ++ (k, b) ∷ [])
    c.reserve.ensures.entries c.in_ok-bucket-in-None.ensures in
    ap (λ (cs : List (Key × BucketOf)). stands_in (in_buckets cs) e) is
    ∙ (stands_pushed bs k c.self.inside.next x e
    ∙ ap (λ (xs : List PhysEntry). stands_in xs e || same_entry e x) c.self.view_is)
