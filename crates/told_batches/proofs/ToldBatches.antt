-- What is told is the batch that is written, and makes it again of what stands.
use Rattle.std.proofs.Common.{◌≡◌, ◌∙◌, ℕ, Bool, true, false, not, List, [], ◌∷◌, map, filter, refl, sym, ap, subst}
use Rattle.std.specs.Prelude.{if◌then◌else◌}
use Rattle.std.specs.List.{list_any}
use Rattle.std.proofs.lemmas.List.Sorted.{IsPermutation-sym}
use Rattle.agreement.specs.FreeOrder.{BatchIsTheSame}
use Rattle.install_plan.specs.Tables.{entry_of, numbered}
use Rattle.install_plan.specs.declared.written.Batch.{Batch}
use Rattle.install_plan.specs.declared.written.Written.{Written}
use Rattle.switch_meaning.specs.Batches.{by_key as entries_by_key, missing}
use Rattle.switch_meaning.specs.Keys.{same_key}
use Rattle.switch_meaning.specs.Same.{same_entry}
use Rattle.switch_meaning.specs.declared.entry.Difference.{Difference}
use Rattle.switch_meaning.specs.declared.entry.PhysEntry.{PhysEntry}
use Rattle.switch_meaning.proofs.Alike.{entry_decides}
use Rattle.switch_meaning.proofs.Batched.{by_key-permutes, key-flips, key-self}
use Rattle.switch_meaning.proofs.Members.{IsIn, any-passes, filter-in, here, in-filter, in-map}
use Rattle.switch_meaning.proofs.Members.{in-permuted, one-alike, passes-any, there}
use Rattle.machine_meaning.specs.Batches.{by_key, is_among, staying}
use Rattle.machine_meaning.proofs.StandingAfter.{batch_is_difference}
use Rattle.shared_rows.specs.Rows.{IsLower}
use Rattle.told_batches.specs.Told.{AreListed, BatchesAreTold, IsBetween, IsToldOf, ToldChangesAreBetween}
use Rattle.told_batches.specs.Told.{has_key_in}
use Rattle.told_batches.proofs.Rising.{in_order, keys_apart, pairs_kept}
use Rattle.told_batches.proofs.Sought.{same_tests}

-- tests -------------------------------------------------------------------------------------------------------------

filter_same : (p q : Written → Bool) (xs : List Written) → ((x : Written) → IsIn x xs → p x ≡ q x)
    → filter p xs ≡ filter q xs
filter_same p q [] h = refl
filter_same p q (x ∷ xs) h =
    ap (λ b. if b then x ∷ filter p xs else filter p xs) (h x here)
    ∙ ap (λ ys. if q x then x ∷ ys else ys) (filter_same p q xs (λ y i. h y (there i)))

twice_not : (b : Bool) → not (not b) ≡ b
twice_not true = refl
twice_not false = refl

-- an entry is one of others
abbrev is_in : List PhysEntry → PhysEntry → Bool
is_in es e = list_any (λ (d : PhysEntry). same_entry d e) es

among_is : (es : List PhysEntry) (e : PhysEntry) → list_any (same_entry e) es ≡ true → IsIn e es
among_is es e t =
    let p = any-passes (same_entry e) es t in
    subst (λ (z : PhysEntry). IsIn z es) (sym ((entry_decides e p.item).0 p.passes)) p.stands

is_there : (es : List PhysEntry) (e : PhysEntry) → is_in es e ≡ true → IsIn e es
is_there es e t =
    let p = any-passes (λ (d : PhysEntry). same_entry d e) es t in
    subst (λ (z : PhysEntry). IsIn z es) ((entry_decides p.item e).0 p.passes) p.stands

there_is : (es : List PhysEntry) (e : PhysEntry) → IsIn e es → is_in es e ≡ true
there_is es e i = passes-any (λ (d : PhysEntry). same_entry d e) i ((entry_decides e e).1 refl)

is_among_there : (es : List PhysEntry) (e : PhysEntry) → IsIn e es → list_any (same_entry e) es ≡ true
is_among_there es e i = passes-any (same_entry e) i ((entry_decides e e).1 refl)

-- what is told ------------------------------------------------------------------------------------------------------

module _ (stood : List Written) (wanted : List PhysEntry) (told : Batch) (h : IsToldOf stood wanted told) where
  abbrev before : List PhysEntry
  before = map entry_of stood

  abbrev deletes : List PhysEntry
  deletes = map entry_of told.deletes

  deletes_are : deletes ≡ entries_by_key (missing wanted before)
  deletes_are = ap (λ (d : Difference). d.deletes) h.difference_is

  adds_are : map entry_of told.adds ≡ entries_by_key (missing before wanted)
  adds_are = ap (λ (d : Difference). d.adds) h.difference_is

  gone_in : (e : PhysEntry) → IsIn e deletes → IsIn e (missing wanted before)
  gone_in e i =
      in-permuted (entries_by_key (missing wanted before)) (missing wanted before) e
      (IsPermutation-sym (missing wanted before) (entries_by_key (missing wanted before))
      (by_key-permutes (missing wanted before))) (subst (λ es. IsIn e es) deletes_are i)

  in_gone : (e : PhysEntry) → IsIn e (missing wanted before) → IsIn e deletes
  in_gone e i =
      subst (λ es. IsIn e es) (sym deletes_are)
      (in-permuted (missing wanted before) (entries_by_key (missing wanted before)) e
      (by_key-permutes (missing wanted before)) i)

  -- a row that stands goes exactly where its entry isn't wanted
  goes_if : (w : Written) → IsIn w stood → has_key_in deletes w ≡ true → not (is_among wanted w) ≡ true
  goes_if w i t = by (is_among wanted w) refl
    where
      by : (b : Bool) → is_among wanted w ≡ b → not b ≡ true
      by false f = refl
      by true f =
          let p = any-passes (same_key w.entry) deletes t in
          let q = filter-in (λ e. not (is_in wanted e)) p.item before (gone_in p.item p.stands) in
          let same : w.entry ≡ p.item =
          one-alike same_key key-self key-flips (keys_apart stood h.rises) (in-map entry_of i) q.0 p.passes in
          let there : is_in wanted p.item ≡ true =
          there_is wanted p.item (subst (λ e. IsIn e wanted) same (among_is wanted w.entry f)) in
          let never : not (is_in wanted p.item) ≡ true = q.1 in
          cc

  if_goes : (w : Written) → IsIn w stood → not (is_among wanted w) ≡ true → has_key_in deletes w ≡ true
  if_goes w i t = passes-any (same_key w.entry) (in_gone w.entry missed) (key-self w.entry)
    where
      none : (b : Bool) → is_in wanted w.entry ≡ b → not b ≡ true
      none false f = refl
      none true f =
          let there : is_among wanted w ≡ true = is_among_there wanted w.entry (is_there wanted w.entry f) in cc

      missed : IsIn w.entry (missing wanted before)
      missed = in-filter (λ e. not (is_in wanted e)) (in-map entry_of i) (none (is_in wanted w.entry) refl)

  tests_agree : (w : Written) → IsIn w stood → has_key_in deletes w ≡ not (is_among wanted w)
  tests_agree w i = same_tests (has_key_in deletes w) (not (is_among wanted w)) (goes_if w i) (if_goes w i)

  abbrev gone : List Written
  gone = filter (λ (w : Written). not (is_among wanted w)) stood

  goes : filter (has_key_in deletes) stood ≡ gone
  goes = filter_same (has_key_in deletes) (λ (w : Written). not (is_among wanted w)) stood tests_agree

  stays : filter (λ w. not (has_key_in deletes w)) stood ≡ staying stood wanted
  stays =
      filter_same (λ w. not (has_key_in deletes w)) (is_among wanted) stood
      (λ w i. ap not (tests_agree w i) ∙ twice_not (is_among wanted w))

  module _ (next : ℕ) where
    listed : AreListed deletes stood
    listed =
        ap (λ (d : Difference). d.deletes) (h.difference_is ∙ sym (batch_is_difference next stood wanted))
        ∙ ap (map entry_of)
        (in_order gone (pairs_kept IsLower (λ (w : Written). not (is_among wanted w)) stood h.rises) ∙ sym goes)

    pub between : IsBetween next stood wanted told
    between = record {
      listed = listed;
      goes = ap by_key goes;
      stays = stays;
      comes = ap (numbered next) adds_are;
    }

pub told_between : ToldChangesAreBetween
told_between next stood wanted told h = between stood wanted told h next

-- the batch of two tables is told, in whatever order their entries are listed
pub batches-told : BatchIsTheSame → BatchesAreTold
batches-told same old new k told batch one other ranged ranged' stood wanted p q =
    batch.difference
    ∙ same (map entry_of old.standing) (map entry_of new.standing) (map entry_of stood) wanted one other ranged
    ranged' p q
