-- Where a question is asked of the buckets of a group.
use Rattle.std.proofs.Common.{◌≡◌, Bool, true, false, List, filter, map, Option, Some, None, refl, sym, ap, subst, ◌∙◌}
use Rattle.std.proofs.Common.{if◌then◌else◌}
use Rattle.std.specs.List.{list_any}
use Rattle.std.specs.Map.{lookup}
use Rattle.of10_match.specs.Fields.{MatchOf}
use Rattle.of10_match.specs.Same.{same_match}
use Rattle.match_index.specs.InsideGroups.{AreBuckets, in_buckets}
use Rattle.match_index.specs.InsideShapes.{is_named_by, kept_by, place_in}
use Rattle.match_index.specs.Items.{IsTop, ids_of, same_item}
use Rattle.match_index.specs.Questions.{asks, probe}
use Rattle.match_index.specs.declared.item.Item.{Item}
use Rattle.match_index.specs.declared.question.Question.{Question}
use Rattle.match_index.specs.declared.shape.Shape.{Shape}
use Rattle.match_index.proofs.Buckets.{asked_in, bucket_items}
use Rattle.match_index.proofs.Counts.{item_decides}
use Rattle.match_index.proofs.Places.{place-is}
use Rattle.match_index.proofs.Tops.{any_all, top_filtered}

-- an item stands in the bucket of its match
pub has_in : (shape : Shape) (item : Item) (bs : List (MatchOf × List Item)) → AreBuckets shape bs
    → list_any (same_item item) (in_buckets bs) ≡ list_any (same_item item)
    (bucket_items (lookup (same_match item.normal) bs))
has_in shape item bs a =
    let p : Item → Bool = same_item item in
    let here = bucket_items (lookup (same_match item.normal) bs) in
    let same = asked_in shape p item.normal (λ e r s h. sym (ap (λ (z : Item). z.normal) ((item_decides item e).0 h)))
    bs a.each a.once in
    any_all p (in_buckets bs) ∙ (ap (list_any (λ _. true)) same ∙ sym (any_all p here))

-- where a place is told, it is of what the question names
record IsPlace (shape : Shape) (q : Question) (k : MatchOf) : Type 0 where
  named : is_named_by shape (probe q) ≡ true
  kept : kept_by shape (probe q) ≡ k

place_from : (shape : Shape) (q : Question) (k : MatchOf) → Some k ≡ place_in shape (probe q) → IsPlace shape q k
place_from shape q k e = by (is_named_by shape (probe q)) refl e
  where
    by : (b : Bool) → is_named_by shape (probe q) ≡ b → Some k ≡ (if b then Some (kept_by shape (probe q)) else None)
        → IsPlace shape q k
    by true t e = record { named = t; kept = let s : kept_by shape (probe q) ≡ k = cc in s }
    by false t e = absurd (cc)

-- what is asked for stands in the bucket of the question's place
pub asked_at : (shape : Shape) (q : Question) (k : MatchOf) (bs : List (MatchOf × List Item)) → AreBuckets shape bs
    → Some k ≡ place_in shape (probe q)
    → filter (asks q) (in_buckets bs) ≡ filter (asks q) (bucket_items (lookup (same_match k) bs))
asked_at shape q k bs a e =
    let at = place_from shape q k e in
    let Named : Shape → Type 0 = λ s. is_named_by s (probe q) ≡ true in
    asked_in shape (asks q) k
    (λ x r s h. sym (place-is q x r h (subst Named (sym s) at.named)) ∙ (ap (λ t. kept_by t (probe q)) s ∙ at.kept)) bs
    a.each a.once

pub top_at : (shape : Shape) (q : Question) (k : MatchOf) (bs : List (MatchOf × List Item)) (o : Option (List Item))
    (top : Option Item) → AreBuckets shape bs → Some k ≡ place_in shape (probe q)
    → o ≡ lookup (same_match k) bs → IsTop (asks q) (bucket_items o) top → IsTop (asks q) (in_buckets bs) top
top_at shape q k bs o top a e f m = top_filtered (asks q) (in_buckets bs) (bucket_items o) top
    (asked_at shape q k bs a e ∙ ap (λ b. filter (asks q) (bucket_items b)) (sym f)) m

pub ids_at : (shape : Shape) (q : Question) (k : MatchOf) (bs : List (MatchOf × List Item)) (o : Option (List Item))
    → AreBuckets shape bs → Some k ≡ place_in shape (probe q)
    → o ≡ lookup (same_match k) bs → ids_of (asks q) (bucket_items o) ≡ ids_of (asks q) (in_buckets bs)
ids_at shape q k bs o a e f = ap (λ xs. map (λ (x : Item). x.id) xs)
    (sym (asked_at shape q k bs a e ∙ ap (λ b. filter (asks q) (bucket_items b)) (sym f)))
