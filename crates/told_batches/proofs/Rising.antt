-- Rows by rising key.
use Rattle.std.proofs.Common.{◌≡◌, ◌∙◌, Bool, true, false, List, [], ◌∷◌, ap, eq-eqb, filter, map, refl, subst, sym}
use Rattle.std.specs.Prelude.{◌==◌, if◌then◌else◌}
use Rattle.std.specs.List.{AllByRecursion, IsDistinct}
use Rattle.std.specs.Ordering.{is_le, is_lt, nat_cmp}
use Rattle.std.specs.declared.cmp.Ordering.TheVariants.{Equal, Less}
use Rattle.agreement.specs.FreeOrder.{HaveMatches}
use Rattle.install_plan.specs.Tables.{entry_of}
use Rattle.install_plan.specs.declared.written.Written.{Written}
use Rattle.of10_match.specs.Order.{by_bytes}
use Rattle.of10_match.specs.Ranges.{IsMatch}
use Rattle.of10_match.specs.Same.{same_match}
use Rattle.of10_match.proofs.ByteOrder.{by_bytes-equal}
use Rattle.of10_match.proofs.Same.{match_decides}
use Rattle.policy_meaning.specs.LeafFact.{EachPair}
use Rattle.policy_meaning.proofs.Booleans.{join_and}
use Rattle.policy_meaning.proofs.Listings.{both-equal, number-is}
use Rattle.policy_meaning.proofs.Lists.{all-map, all-mapped, all-zip}
use Rattle.policy_meaning.proofs.Rising.{differs-permuted, from-sorted}
use Rattle.switch_meaning.specs.BatchLaw.{HasOneAKey}
use Rattle.switch_meaning.specs.Batches.{by_key as entries_by_key, key_cmp}
use Rattle.switch_meaning.specs.Keys.{same_key}
use Rattle.switch_meaning.specs.declared.entry.PhysEntry.{PhysEntry}
use Rattle.switch_meaning.proofs.ByKey.{key_total, sorted-by-key}
use Rattle.machine_meaning.specs.Batches.{by_key, put_by_key}
use Rattle.shared_rows.specs.Rows.{IsLower}
use Rattle.shared_rows.proofs.InOrder.{lower_apart}

-- rows that rise are by key, and so are some of them -----------------------------------------------------------------

all_kept : {A : Type 0} (P : A → Type 0) (q : A → Bool) (xs : List A) → AllByRecursion P xs
    → AllByRecursion P (filter q xs)
all_kept P q [] h = tt
all_kept P q (x ∷ xs) h = by (q x) (all_kept P q xs h.1)
  where
    by : (b : Bool) → AllByRecursion P (filter q xs) → AllByRecursion P (if b then x ∷ filter q xs else filter q xs)
    by true rest = (h.0, rest)
    by false rest = rest

pub pairs_kept : {A : Type 0} (R : A → A → Type 0) (q : A → Bool) (xs : List A) → EachPair R xs
    → EachPair R (filter q xs)
pairs_kept R q [] h = tt
pairs_kept R q (x ∷ xs) h = by (q x) (pairs_kept R q xs h.1)
  where
    by : (b : Bool) → EachPair R (filter q xs) → EachPair R (if b then x ∷ filter q xs else filter q xs)
    by true rest = (all_kept (R x) q xs h.0, rest)
    by false rest = rest

-- a row that is lower than all others comes first
put_first : (w : Written) (xs : List Written) → AllByRecursion (IsLower w) xs → put_by_key w xs ≡ w ∷ xs
put_first w [] h = refl
put_first w (x ∷ xs) h = ap (λ b. if b then w ∷ x ∷ xs else x ∷ put_by_key w xs) (ap is_le h.0)

pub in_order : (ws : List Written) → EachPair IsLower ws → by_key ws ≡ ws
in_order [] h = refl
in_order (w ∷ ws) h = ap (put_by_key w) (in_order ws h.1) ∙ put_first w ws h.0

-- rows that rise have one key each -----------------------------------------------------------------------------------

pub keys_apart : (ws : List Written) → EachPair IsLower ws → HasOneAKey (map entry_of ws)
unfolding IsDistinct
keys_apart [] p = tt
keys_apart (w ∷ ws) p = (
  all-mapped (IsLower w) (λ (e : PhysEntry). same_key w.entry e ≡ false) entry_of ws
      (λ x low. lower_apart x.entry w (ap is_lt low)) p.0,
  keys_apart ws p.1,
)

-- rows whose entries were put by key rise, where they have one key each ----------------------------------------------

abbrev Unlike : PhysEntry → PhysEntry → Type 0
Unlike d e = key_cmp d e ≡ Equal → ⊥

keys_differ : (d e : PhysEntry) → same_key d e ≡ false → IsMatch d.m → IsMatch e.m → Unlike d e
keys_differ d e ne p q c =
    let s = both-equal (nat_cmp d.priority e.priority) (by_bytes d.m e.m) c in
    let same : same_match d.m e.m ≡ true = (match_decides d.m e.m).1 (by_bytes-equal d.m e.m p q s.1) in
    let t : same_key d e ≡ true =
    join_and (same_match d.m e.m) (d.priority == e.priority) same
    (eq-eqb d.priority e.priority (number-is d.priority e.priority s.0)) in
    cc

all_differ : (es : List PhysEntry) → HasOneAKey es → HaveMatches es → EachPair Unlike es
unfolding IsDistinct
all_differ [] d m = tt
all_differ (e ∷ es) d m = (
  all-map (λ (x : PhysEntry). (same_key e x ≡ false) × IsMatch x.m) (Unlike e) es
      (λ x q. keys_differ e x q.0 m.0 q.1)
      (all-zip (λ (x : PhysEntry). same_key e x ≡ false) (λ (x : PhysEntry). IsMatch x.m) es d.0 m.1),
  all_differ es d.1 m.1,
)

all_rows : (P : PhysEntry → Type 0) (ws : List Written) → AllByRecursion P (map entry_of ws)
    → AllByRecursion (λ w. P w.entry) ws
all_rows P [] h = tt
all_rows P (w ∷ ws) h = (h.0, all_rows P ws h.1)

each_row : (ws : List Written) → EachPair (λ d e. key_cmp d e ≡ Less) (map entry_of ws) → EachPair IsLower ws
each_row [] h = tt
each_row (w ∷ ws) h = (all_rows (λ e. key_cmp w.entry e ≡ Less) ws h.0, each_row ws h.1)

pub sorted_rise : (stood : List Written) (es : List PhysEntry) → HasOneAKey es → HaveMatches es
    → map entry_of stood ≡ entries_by_key es → EachPair IsLower stood
sorted_rise stood es one matches same =
    let sorted = sorted-by-key es in
    let differ = differs-permuted key_cmp key_total es (entries_by_key es) sorted.0 (all_differ es one matches) in
    each_row stood
    (subst (EachPair (λ d e. key_cmp d e ≡ Less)) (sym same)
    (from-sorted key_cmp key_total (entries_by_key es) sorted.1 differ))
