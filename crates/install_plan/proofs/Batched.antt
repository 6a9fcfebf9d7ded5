-- The batch of the slots that changed is the difference of what stood and what stands.
use Rattle.std.proofs.Common.{◌≡◌, ℕ, ◌⊎◌, inl, inr, Bool, true, false, List, [], ◌∷◌, refl, sym, ap, subst, ◌∙◌, map}
use Rattle.std.proofs.Common.{true≢false}
use Rattle.std.specs.Prelude.{Option, Some, None, IsSome, MatchOption, not, filter, flat_map, option_to_list, unwrap_or}
use Rattle.std.specs.Prelude.{if◌then◌else◌}
use Rattle.std.specs.List.{AllByRecursion, Contains, list_any}
use Rattle.switch_meaning.specs.Batches.{by_key, missing}
use Rattle.switch_meaning.specs.Same.{same_entry}
use Rattle.switch_meaning.specs.declared.entry.PhysEntry.{PhysEntry}
use Rattle.switch_meaning.proofs.Alike.{entry_decides}
use Rattle.switch_meaning.proofs.Members.{IsIn, all-in, any-passes, here, in-all, in-one, passes-any, place}
use Rattle.of10_match.specs.Ranges.{IsMatch}
use Rattle.install_plan.specs.InsideNumbering.{come, entries_at, entries_of, gone, head, is_same_head}
use Rattle.install_plan.specs.InsideSlots.{AreKept, Fits, Slots, as_is, as_saved, first, key_of, slot_at, table_by, top}
use Rattle.install_plan.specs.Tables.{IsBatch, entry_of, numbered}
use Rattle.install_plan.specs.declared.key.Key.{Key}
use Rattle.install_plan.specs.declared.slot.Slot.{Slot}
use Rattle.install_plan.specs.declared.written.Batch.{Batch}
use Rattle.install_plan.specs.declared.written.Written.{Written}
use Rattle.install_plan.proofs.Flat.{filter-flat, map-flat}
use Rattle.install_plan.proofs.Keyed.{Rise, flat-alike, flat-in, in-flat, in-found, no-items, none-there}
use Rattle.install_plan.proofs.Merging.{by_key-sorted, flat-merged}
use Rattle.install_plan.proofs.Cookies.{Stands, entries-numbered, saved-stood}
use Rattle.install_plan.proofs.Sound.{one-slot}
use Rattle.install_plan.proofs.Writing.{fit-of}

same_tests : (a b : Bool) → (a ≡ true → b ≡ true) → (b ≡ true → a ≡ true) → a ≡ b
same_tests true b f g = sym (f refl)
same_tests false true f g = g refl
same_tests false false f g = refl

entry-flips : (d e : PhysEntry) → same_entry d e ≡ same_entry e d
entry-flips d e = same_tests (same_entry d e) (same_entry e d)
    (λ t. (entry_decides e d).1 (sym ((entry_decides d e).0 t)))
    (λ t. (entry_decides d e).1 (sym ((entry_decides e d).0 t)))

heads-flip : (a b : Option PhysEntry) → is_same_head a b ≡ is_same_head b a
heads-flip None None = refl
heads-flip None (Some e) = refl
heads-flip (Some d) None = refl
heads-flip (Some d) (Some e) = entry-flips d e

-- the first of one that is not the first of the other
abbrev left : Option PhysEntry → Option PhysEntry → Option PhysEntry
left a b = if is_same_head a b then None else a

left-itself : (a : Option PhysEntry) → left a a ≡ None
left-itself None = refl
left-itself (Some e) = ap (λ b. if b then None else Some e) ((entry_decides e e).1 refl)

-- the firsts of slots
abbrev pub heads_by : (Key × Slot → Slot) → Slots → List PhysEntry
heads_by f slots = flat_map (λ p. option_to_list (head (f p).entries)) slots

entry-first : (es : List PhysEntry) (c : ℕ) → map entry_of (option_to_list (first es c)) ≡ option_to_list (head es)
entry-first [] c = refl
entry-first (e ∷ es) c = refl

pub heads-stand : (f : Key × Slot → Slot) (slots : Slots) → map entry_of (table_by f slots).standing ≡ heads_by f slots
heads-stand f slots =
    map-flat (λ (p : Key × Slot). option_to_list (top (f p))) entry_of slots
    ∙ flat-alike (λ (p : Key × Slot). map entry_of (option_to_list (top (f p))))
    (λ (p : Key × Slot). option_to_list (head (f p).entries)) slots
    (all-in (λ (p : Key × Slot). map entry_of (option_to_list (top (f p))) ≡ option_to_list (head (f p).entries)) slots
    (λ p i. entry-first (f p).entries (f p).cookie))

-- slots whose firsts have their keys
abbrev Heads : (Key × Slot → Slot) → Key × Slot → Type 0
Heads f p = MatchOption (head (f p).entries) (Unit {0}) (λ e. key_of e ≡ p.0)

heads-fit : (f : Key × Slot → Slot) (slots : Slots) → AllByRecursion (λ (p : Key × Slot). Fits (p.0, f p)) slots
    → AllByRecursion (Heads f) slots
heads-fit f [] a = tt
heads-fit f (p ∷ ps) a = (one (f p).entries a.0.keys, heads-fit f ps a.1)
  where
    one : (es : List PhysEntry) → AllByRecursion (λ (e : PhysEntry). (key_of e ≡ p.0) × IsMatch e.m) es
        → MatchOption (head es) (Unit {0}) (λ e. key_of e ≡ p.0)
    one [] b = tt
    one (e ∷ es) b = b.0.0

module _ (f g : Key × Slot → Slot) (slots : Slots) (rise : Rise slots) (fs : AllByRecursion (Heads f) slots)
    (gs : AllByRecursion (Heads g) slots) where
  head-in : (p : Key × Slot) → IsIn p slots → (o : Option PhysEntry) → head (f p).entries ≡ o → (d : PhysEntry)
      → IsIn d (option_to_list o) → (o ≡ Some d) × (key_of d ≡ p.0)
  head-in p i None h d j = no-items j
  head-in p i (Some e) h d j =
      let same : d ≡ e = in-one j in (
        ap Some (sym same),
        ap key_of same
            ∙ subst (λ (o : Option PhysEntry). MatchOption o (Unit {0}) (λ e. key_of e ≡ p.0)) h
            (in-all (Heads f) i fs),
      )

  -- an entry is among the firsts where it is that of its key
  any-head : (p : Key × Slot) → IsIn p slots → (e : PhysEntry) → key_of e ≡ p.0
      → list_any (λ (d : PhysEntry). same_entry d e) (heads_by f slots) ≡ is_same_head (Some e) (head (f p).entries)
  any-head p i e k = same_tests (list_any (λ (d : PhysEntry). same_entry d e) (heads_by f slots))
      (is_same_head (Some e) (head (f p).entries)) there' (λ t. back (head (f p).entries) refl t)
    where
      there' : list_any (λ (d : PhysEntry). same_entry d e) (heads_by f slots) ≡ true
          → is_same_head (Some e) (head (f p).entries) ≡ true
      there' t =
          let a = any-passes (λ (d : PhysEntry). same_entry d e) (heads_by f slots) t in
          let same = (entry_decides a.item e).0 a.passes in
          let s = flat-in (λ (q : Key × Slot). option_to_list (head (f q).entries)) a.item slots a.stands in
          let h = head-in s.from s.stands (head (f s.from).entries) refl a.item s.has in
          let one = one-slot slots rise s.from p s.stands i (sym h.1 ∙ (ap key_of same ∙ k)) in
          let is : head (f p).entries ≡ Some a.item = sym (ap (λ (q : Key × Slot). head (f q).entries) one) ∙ h.0 in
          ap (is_same_head (Some e)) is ∙ (entry_decides e a.item).1 (sym same)

      back : (o : Option PhysEntry) → head (f p).entries ≡ o → is_same_head (Some e) o ≡ true
          → list_any (λ (d : PhysEntry). same_entry d e) (heads_by f slots) ≡ true
      back None h t = absurd (true≢false (sym t))
      back (Some d) h t =
          let same = (entry_decides e d).0 t in
          passes-any (λ (c : PhysEntry). same_entry c e)
          (in-flat (λ (q : Key × Slot). option_to_list (head (f q).entries)) i
          (subst (λ (z : Option PhysEntry). IsIn d (option_to_list z)) (sym h) here))
          ((entry_decides d e).1 (sym same))

  abbrev misses : PhysEntry → Bool
  misses e = not (list_any (λ (d : PhysEntry). same_entry d e) (heads_by f slots))

  missing-of : (p : Key × Slot) → IsIn p slots → (o : Option PhysEntry) → MatchOption o (Unit {0}) (λ e. key_of e ≡ p.0)
      → filter misses (option_to_list o) ≡ option_to_list (left o (head (f p).entries))
  missing-of p i None k = refl
  missing-of p i (Some e) k = ap (λ b. if not b then e ∷ [] else []) (any-head p i e k)
      ∙ turn (is_same_head (Some e) (head (f p).entries))
    where
      turn : (b : Bool) → (if not b then e ∷ [] else []) ≡ option_to_list (if b then None else Some e)
      turn true = refl
      turn false = refl

  abbrev left_at : Key × Slot → Option PhysEntry
  left_at p = left (head (g p).entries) (head (f p).entries)

  left-key : (o b : Option PhysEntry) (k : Key) → MatchOption o (Unit {0}) (λ e. key_of e ≡ k)
      → MatchOption (left o b) (Unit {0}) (λ e. key_of e ≡ k)
  left-key o b k m = by (is_same_head o b)
    where
      by : (c : Bool) → MatchOption (if c then None else o) (Unit {0}) (λ e. key_of e ≡ k)
      by true = tt
      by false = m

  -- of the firsts of one those that the other has not, by key
  pub missing-heads : by_key (missing (heads_by f slots) (heads_by g slots))
      ≡ flat_map (λ p. option_to_list (left_at p)) slots
  missing-heads =
      let a = filter-flat (λ (p : Key × Slot). option_to_list (head (g p).entries)) misses slots in
      let b = flat-alike (λ (p : Key × Slot). filter misses (option_to_list (head (g p).entries)))
      (λ (p : Key × Slot). option_to_list (left_at p)) slots
      (all-in (λ (p : Key × Slot). filter misses (option_to_list (head (g p).entries)) ≡ option_to_list (left_at p))
      slots (λ p i. missing-of p i (head (g p).entries) (in-all (Heads g) i gs))) in
      ap by_key (a ∙ b)
      ∙ by_key-sorted left_at slots rise
      (all-in (λ (p : Key × Slot). MatchOption (left_at p) (Unit {0}) (λ e. key_of e ≡ p.0)) slots
      (λ p i. left-key (head (g p).entries) (head (f p).entries) p.0 (in-all (Heads g) i gs)))

module _ (slots saved : Slots) (kept : AreKept slots saved) where
  pub fits-saved : AllByRecursion (λ (p : Key × Slot). Fits (p.0, as_saved saved p)) slots
  fits-saved = all-in (λ (p : Key × Slot). Fits (p.0, as_saved saved p)) slots (λ p i. by p i (slot_at p.0 saved) refl)
    where
      by : (p : Key × Slot) → IsIn p slots → (o : Option Slot) → slot_at p.0 saved ≡ o → Fits (p.0, unwrap_or o p.1)
      by p i None e = in-all Fits i kept.fit
      by p i (Some s) e = fit-of p.0 s saved kept.saved_fit e

  olds : AllByRecursion (Heads (as_saved saved)) slots
  olds = heads-fit (as_saved saved) slots fits-saved

  nows : AllByRecursion (Heads as_is) slots
  nows = heads-fit as_is slots kept.fit

  gone-entry : (old : Slot) (es : List PhysEntry)
      → map entry_of (option_to_list (gone old es)) ≡ option_to_list (left (head old.entries) (head es))
  gone-entry old es = by (is_same_head (head old.entries) (head es))
    where
      by : (b : Bool) → map entry_of (option_to_list (if b then None else top old))
          ≡ option_to_list (if b then None else head old.entries)
      by true = refl
      by false = entry-first old.entries old.cookie

  come-entry : (old : Slot) (es : List PhysEntry)
      → option_to_list (come old es) ≡ option_to_list (left (head es) (head old.entries))
  come-entry old es = ap (λ b. option_to_list (if b then None else head es)) (heads-flip (head old.entries) (head es))

  pub gone-merged : flat_map (λ (p : Key × Slot). map entry_of (option_to_list (gone p.1 (entries_at slots p.0)))) saved
      ≡ flat_map (λ (p : Key × Slot). option_to_list (left (head (as_saved saved p).entries) (head p.1.entries))) slots
  gone-merged = flat-merged G H slots saved kept.rise kept.saved_rise kept.there
      (all-in (λ (p : Key × Slot). MatchOption (slot_at p.0 saved) (G p ≡ []) (λ old. H (p.0, old) ≡ G p)) slots
      (λ p i. by p i (slot_at p.0 saved) refl))
    where
      G : Key × Slot → List PhysEntry
      G p = option_to_list (left (head (as_saved saved p).entries) (head p.1.entries))

      H : Key × Slot → List PhysEntry
      H p = map entry_of (option_to_list (gone p.1 (entries_at slots p.0)))

      by : (p : Key × Slot) → IsIn p slots → (o : Option Slot) → slot_at p.0 saved ≡ o
          → MatchOption o (G p ≡ []) (λ old. H (p.0, old) ≡ G p)
      by p i None e =
          ap (λ (o : Option Slot). option_to_list (left (head (unwrap_or o p.1).entries) (head p.1.entries))) e
          ∙ ap option_to_list (left-itself (head p.1.entries))
      by p i (Some old) e =
          ap (λ (o : Option Slot). map entry_of (option_to_list (gone old (entries_of o))))
          (in-found p.0 p.1 slots kept.rise i)
          ∙ (gone-entry old p.1.entries
          ∙ sym (ap (λ (o : Option Slot). option_to_list (left (head (unwrap_or o p.1).entries) (head p.1.entries)))
          e))

  pub come-merged : flat_map (λ (p : Key × Slot). option_to_list (come p.1 (entries_at slots p.0))) saved
      ≡ flat_map (λ (p : Key × Slot). option_to_list (left (head p.1.entries) (head (as_saved saved p).entries))) slots
  come-merged = flat-merged G H slots saved kept.rise kept.saved_rise kept.there
      (all-in (λ (p : Key × Slot). MatchOption (slot_at p.0 saved) (G p ≡ []) (λ old. H (p.0, old) ≡ G p)) slots
      (λ p i. by p i (slot_at p.0 saved) refl))
    where
      G : Key × Slot → List PhysEntry
      G p = option_to_list (left (head p.1.entries) (head (as_saved saved p).entries))

      H : Key × Slot → List PhysEntry
      H p = option_to_list (come p.1 (entries_at slots p.0))

      by : (p : Key × Slot) → IsIn p slots → (o : Option Slot) → slot_at p.0 saved ≡ o
          → MatchOption o (G p ≡ []) (λ old. H (p.0, old) ≡ G p)
      by p i None e =
          ap (λ (o : Option Slot). option_to_list (left (head p.1.entries) (head (unwrap_or o p.1).entries))) e
          ∙ ap option_to_list (left-itself (head p.1.entries))
      by p i (Some old) e =
          ap (λ (o : Option Slot). option_to_list (come old (entries_of o))) (in-found p.0 p.1 slots kept.rise i)
          ∙ (come-entry old p.1.entries
          ∙ sym (ap (λ (o : Option Slot). option_to_list (left (head p.1.entries) (head (unwrap_or o p.1).entries)))
          e))

  module _ (after : Slots) (next : ℕ) (b : Batch) (heads : heads_by as_is after ≡ heads_by as_is slots)
      (deletes : b.deletes ≡ flat_map (λ (p : Key × Slot). option_to_list (gone p.1 (entries_at slots p.0))) saved)
      (adds : b.adds
      ≡ numbered next (flat_map (λ (p : Key × Slot). option_to_list (come p.1 (entries_at slots p.0))) saved))
      (stands : Stands (table_by (as_saved saved) slots).standing b.adds [] after) where
    abbrev comes : List PhysEntry
    comes = flat_map (λ (p : Key × Slot). option_to_list (come p.1 (entries_at slots p.0))) saved

    added : map entry_of b.adds ≡ comes
    added = ap (map entry_of) adds ∙ entries-numbered next comes

    same-deletes : map entry_of b.deletes ≡ by_key (missing (heads_by as_is slots) (heads_by (as_saved saved) slots))
    same-deletes =
        ap (map entry_of) deletes
        ∙ (map-flat (λ (p : Key × Slot). option_to_list (gone p.1 (entries_at slots p.0))) entry_of saved
        ∙ (gone-merged ∙ sym (missing-heads as_is (as_saved saved) slots kept.rise nows olds)))

    same-adds : map entry_of b.adds ≡ by_key (missing (heads_by (as_saved saved) slots) (heads_by as_is slots))
    same-adds = added ∙ (come-merged ∙ sym (missing-heads (as_saved saved) as_is slots kept.rise olds nows))

    were : (w : Written)
        → IsIn w (flat_map (λ (p : Key × Slot). option_to_list (gone p.1 (entries_at slots p.0))) saved)
        → Contains (table_by (as_saved saved) slots).standing w
    were w i =
        let s = flat-in (λ (p : Key × Slot). option_to_list (gone p.1 (entries_at slots p.0))) w saved i in
        let t = in-all (λ (p : Key × Slot). IsSome (slot_at p.0 slots)) s.stands kept.there in
        let f = in-found s.from.0 s.from.1 saved kept.saved_rise s.stands in
        place w (table_by (as_saved saved) slots).standing
        (saved-stood saved slots s.from.0 s.from.1 w f t (it-stood s.from.1 (entries_at slots s.from.0) s.has))
      where
        it-stood : (old : Slot) (es : List PhysEntry) → IsIn w (option_to_list (gone old es)) → top old ≡ Some w
        it-stood old es j = by (is_same_head (head old.entries) (head es)) j
          where
            one : (o : Option Written) → IsIn w (option_to_list o) → o ≡ Some w
            one None k = no-items k
            one (Some v) k = ap Some (sym (in-one k))

            by : (c : Bool) → IsIn w (option_to_list (if c then None else top old)) → top old ≡ Some w
            by true k = no-items k
            by false k = one (top old) k

    pub is-batch : IsBatch (table_by (as_saved saved) slots) (table_by as_is after) next b
    is-batch = record {
      difference = λ i. record {
        deletes = (same-deletes ∙ missing-of-deletes) i;
        adds = (same-adds ∙ missing-of-adds) i;
      };
      deleted = subst (AllByRecursion (Contains (table_by (as_saved saved) slots).standing)) (sym deletes)
          (all-in (Contains (table_by (as_saved saved) slots).standing)
          (flat_map (λ (p : Key × Slot). option_to_list (gone p.1 (entries_at slots p.0))) saved) were);
      added = adds ∙ ap (numbered next) (sym added);
      standing = all-in (λ (w : Written). Contains (table_by (as_saved saved) slots).standing w ⊎ Contains b.adds w)
          (table_by as_is after).standing now;
    }
      where
        olds-stand : map entry_of (table_by (as_saved saved) slots).standing ≡ heads_by (as_saved saved) slots
        olds-stand = heads-stand (as_saved saved) slots

        nows-stand : map entry_of (table_by as_is after).standing ≡ heads_by as_is slots
        nows-stand = heads-stand as_is after ∙ heads

        missing-of-deletes : by_key (missing (heads_by as_is slots) (heads_by (as_saved saved) slots))
            ≡ by_key (missing (map entry_of (table_by as_is after).standing)
            (map entry_of (table_by (as_saved saved) slots).standing))
        missing-of-deletes = λ i. by_key (missing (sym nows-stand i) (sym olds-stand i))

        missing-of-adds : by_key (missing (heads_by (as_saved saved) slots) (heads_by as_is slots))
            ≡ by_key (missing (map entry_of (table_by (as_saved saved) slots).standing)
            (map entry_of (table_by as_is after).standing))
        missing-of-adds = λ i. by_key (missing (sym olds-stand i) (sym nows-stand i))

        one : (p : Key × Slot) (w : Written) → IsIn p after → (o : Option Written) → top p.1 ≡ o
            → IsIn w (option_to_list o) → Contains (table_by (as_saved saved) slots).standing w ⊎ Contains b.adds w
        one p w i None h j = no-items j
        one p w i (Some v) h j = by (stands p i w (h ∙ ap Some (sym (in-one j))))
          where
            by : (IsIn w (table_by (as_saved saved) slots).standing ⊎ IsIn w b.adds) ⊎ IsSome (slot_at p.0 [])
                → Contains (table_by (as_saved saved) slots).standing w ⊎ Contains b.adds w
            by (inl (inl k)) = inl (place w (table_by (as_saved saved) slots).standing k)
            by (inl (inr k)) = inr (place w b.adds k)
            by (inr k) = none-there k

        now : (w : Written) → IsIn w (table_by as_is after).standing
            → Contains (table_by (as_saved saved) slots).standing w ⊎ Contains b.adds w
        now w i =
            let s = flat-in (λ (p : Key × Slot). option_to_list (top p.1)) w after i in
            one s.from w s.stands (top s.from.1) refl s.has
