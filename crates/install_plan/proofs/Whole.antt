-- All that stands is numbered again.
use Rattle.std.proofs.Common.{◌≡◌, ℕ, ◌⊎◌, inl, inr, Bool, true, false, cond, List, [], ◌∷◌, ◌++◌, refl, sym, ap, subst}
use Rattle.std.proofs.Common.{◌∙◌, map, true≢false, zero, suc, ◌+◌, ◌<◌, ◌≤◌, length, get_or, drop, arith}
use Rattle.std.specs.Prelude.{Option, Some, None, IsSome, option_to_list}
use Rattle.std.specs.BTreeMap.{is_at}
use Rattle.std.specs.List.{AllByRecursion}
use Rattle.std.specs.List.Sorted.{IsStrictlySortedBy}
use Rattle.std.specs.Ordering.{is_lt}
use Rattle.std.specs.declared.cmp.Ordering.TheVariants.{Less}
use Rattle.std.proofs.lemmas.Cmp.{tied_itself}
use Rattle.of10_match.specs.Ranges.{IsMatch}
use Rattle.switch_meaning.specs.declared.entry.PhysEntry.{PhysEntry}
use Rattle.switch_meaning.proofs.Members.{IsIn, here, in-all, in-map, in-one, map-in, there}
use Rattle.install_plan.specs.InsideNumbering.{AreAllSaved, entries_at, entries_of, head, numbered_at}
use Rattle.install_plan.specs.InsideSlots.{AreKept, Fits, Slots, as_is, first, key_of, order, slot_at, table_by, top}
use Rattle.install_plan.specs.Tables.{entry_of}
use Rattle.install_plan.specs.declared.key.Key.{Key}
use Rattle.install_plan.specs.declared.slot.Slot.{Slot}
use Rattle.install_plan.specs.declared.written.Written.{Written}
use Rattle.install_plan.proofs.Batched.{heads-stand, heads_by}
use Rattle.install_plan.proofs.Keyed.{Rise, at_self, first-or-later, flat-in, found-in, found-written, in-flat}
use Rattle.install_plan.proofs.Keyed.{in-found, key-above, no-items, order_total}
use Rattle.install_plan.proofs.Cookies.{none-some, some-same}
use Rattle.install_plan.proofs.Progress.{IsAlike, alike-itself, alike-numbered}
use Rattle.install_plan.proofs.Writing.{found}

abbrev pub key_in : Written → Key
key_in w = key_of w.entry

-- what is not yet numbered waits for its number
pub record IsRenumbered (first saved : Slots) (all rest : List Written) (slots : Slots) : Type 0 where
  pub fit : AllByRecursion Fits first
  pub rise : Rise first
  pub alike : IsAlike first saved slots
  pub all_saved : AreAllSaved saved first
  pub adds : map entry_of all ≡ heads_by as_is first
  pub left : (w : Written) → IsIn w rest → IsIn w all
  pub stands : (p : Key × Slot) → IsIn p slots → (w : Written) → top p.1 ≡ Some w
      → IsIn w all ⊎ IsIn p.0 (map key_in rest)

heads-key : (slots : Slots) → AllByRecursion Fits slots → (p : Key × Slot) → IsIn p slots → (e : PhysEntry)
    → IsIn e (option_to_list (head p.1.entries)) → (head p.1.entries ≡ Some e) × (key_of e ≡ p.0)
heads-key slots fit p i e j = by p.1.entries (in-all Fits i fit).keys j
  where
    by : (es : List PhysEntry) → AllByRecursion (λ (d : PhysEntry). (key_of d ≡ p.0) × IsMatch d.m) es
        → IsIn e (option_to_list (head es)) → (head es ≡ Some e) × (key_of e ≡ p.0)
    by [] a k = no-items k
    by (d ∷ ds) a k = let same : e ≡ d = in-one k in (ap Some (sym same), ap key_of same ∙ a.0.0)

-- the slot of an entry that stands
record Headed (e : PhysEntry) (slots : Slots) : Type 0 where
  at : Key × Slot
  stands : IsIn at slots
  head-is : head at.1.entries ≡ Some e
  key-is : key_of e ≡ at.0

headed : (e : PhysEntry) (slots : Slots) → AllByRecursion Fits slots → IsIn e (heads_by as_is slots) → Headed e slots
headed e slots fit i =
    let s = flat-in (λ (p : Key × Slot). option_to_list (head p.1.entries)) e slots i in
    let h = heads-key slots fit s.from s.stands e s.has in
    record { at = s.from; stands = s.stands; head-is = h.0; key-is = h.1 }

some-entries : (o : Option Slot) (e : PhysEntry) → head (entries_of o) ≡ Some e → IsSome o
some-entries None e h = none-some h
some-entries (Some s) e h = refl

pub renumbered-first : (slots saved : Slots) (adds : List Written) → AreKept slots saved → AreAllSaved saved slots
    → map entry_of adds ≡ map entry_of (table_by as_is slots).standing → IsRenumbered slots saved adds adds slots
renumbered-first slots saved adds kept all e = record {
  fit = kept.fit;
  rise = kept.rise;
  alike = alike-itself slots saved kept;
  all_saved = all;
  adds = e ∙ heads-stand as_is slots;
  left = λ w i. i;
  stands = λ p i w t. inr (waits p i w t);
}
  where
    waits : (p : Key × Slot) → IsIn p slots → (w : Written) → top p.1 ≡ Some w → IsIn p.0 (map key_in adds)
    waits p i w t =
        let standing : IsIn w (table_by as_is slots).standing =
        in-flat (λ (q : Key × Slot). option_to_list (top q.1)) i
        (subst (λ (o : Option Written). IsIn w (option_to_list o)) (sym t) here) in
        let entry : IsIn w.entry (map entry_of adds) = subst (IsIn w.entry) (sym e) (in-map entry_of standing) in
        let c = map-in entry_of w.entry adds entry in
        let k =
        (in-all (λ (d : PhysEntry). (key_of d ≡ p.0) × IsMatch d.m) (of-first p.1.entries p.1.cookie t)
        (in-all Fits i kept.fit).keys).0 in
        subst (λ (z : Key). IsIn z (map key_in adds)) (ap key_of c.is ∙ k) (in-map key_in c.stands)
      where
        of-first : (es : List PhysEntry) (n : ℕ) → first es n ≡ Some w → IsIn w.entry es
        of-first [] n h = none-some h
        of-first (d ∷ ds) n h = let same = some-same h in
            subst (λ (z : PhysEntry). IsIn z (d ∷ ds)) (ap entry_of same) here

module _ (begun saved slots slots' : Slots) (adds rest : List Written) (v : Written)
    (n : IsRenumbered begun saved adds (v ∷ rest) slots) (is : slots' ≡ numbered_at (key_in v) v.cookie slots) where
  v-head : Headed v.entry begun
  v-head = headed v.entry begun n.fit (subst (IsIn v.entry) n.adds (in-map entry_of (n.left v here)))

  head-first : head (entries_at begun (key_in v)) ≡ Some v.entry
  head-first =
      ap (λ (z : Key). head (entries_at begun z)) v-head.key-is
      ∙ (ap (λ (o : Option Slot). head (entries_of o)) (in-found v-head.at.0 v-head.at.1 begun n.rise v-head.stands)
      ∙ v-head.head-is)

  head-now : head (entries_at slots (key_in v)) ≡ Some v.entry
  head-now = ap head (n.alike.under (key_in v)) ∙ head-first

  pub there-now : IsSome (slot_at (key_in v) slots)
  there-now = some-entries (slot_at (key_in v) slots) v.entry head-now

  saved-now : IsSome (slot_at (key_in v) saved)
  saved-now = subst (λ (z : Key). IsSome (slot_at z saved)) (sym v-head.key-is)
      (in-all (λ (p : Key × Slot). IsSome (slot_at p.0 saved)) v-head.stands n.all_saved)

  alike-now : IsAlike begun saved slots'
  alike-now = alike-numbered begun saved slots slots' (key_in v) there-now saved-now (v.cookie, is) n.alike

  abbrev new : Slot
  new = record { entries = entries_at slots (key_in v); cookie = v.cookie }

  at-now : (q : Key) → slot_at q slots' ≡ cond (is_at (order (key_in v)) q) (Some new) (slot_at q slots)
  at-now q = let f = found (slot_at (key_in v) slots) there-now in ap (slot_at q) is
      ∙ found-written (key_in v) q f.0 new slots f.1

  top-new : (es : List PhysEntry) (w : Written) → head es ≡ Some v.entry → first es v.cookie ≡ Some w → v ≡ w
  top-new [] w h t = none-some h
  top-new (d ∷ ds) w h t = sym (ap (λ (z : PhysEntry). record { entry = z; cookie = v.cookie }) (some-same h))
      ∙ some-same t

  pub renumbered-more : IsRenumbered begun saved adds rest slots'
  renumbered-more = record {
    fit = n.fit;
    rise = n.rise;
    alike = alike-now;
    all_saved = n.all_saved;
    adds = n.adds;
    left = λ w i. n.left w (there i);
    stands = λ p i w t. by p i w t (is_at (order (key_in v)) p.0) refl;
  }
    where
      later : (p : Key × Slot) (w : Written) → is_at (order (key_in v)) p.0 ≡ false
          → IsIn w adds ⊎ IsIn p.0 (map key_in (v ∷ rest)) → IsIn w adds ⊎ IsIn p.0 (map key_in rest)
      later p w f (inl j) = inl j
      later p w f (inr j) = inr (skip (first-or-later j))
        where
          skip : (p.0 ≡ key_in v) ⊎ IsIn p.0 (map key_in rest) → IsIn p.0 (map key_in rest)
          skip (inl e) = absurd (true≢false (sym (at_self (key_in v)) ∙ (ap (is_at (order (key_in v))) (sym e) ∙ f)))
          skip (inr k) = k

      by : (p : Key × Slot) → IsIn p slots' → (w : Written) → top p.1 ≡ Some w → (b : Bool)
          → is_at (order (key_in v)) p.0 ≡ b → IsIn w adds ⊎ IsIn p.0 (map key_in rest)
      by p i w t true u =
          let same : Some new ≡ Some p.1 = sym (at-now p.0 ∙ ap (λ c. cond c (Some new) (slot_at p.0 slots)) u)
          ∙ in-found p.0 p.1 slots' alike-now.kept.rise i in
          let is-v = top-new (entries_at slots (key_in v)) w head-now (ap top (some-same same) ∙ t) in
          inl (subst (λ (z : Written). IsIn z adds) is-v (n.left v here))
      by p i w t false u =
          let before : slot_at p.0 slots ≡ Some p.1 =
          sym (at-now p.0 ∙ ap (λ c. cond c (Some new) (slot_at p.0 slots)) u)
          ∙ in-found p.0 p.1 slots' alike-now.kept.rise i in
          later p w u (n.stands p (found-in p.0 p.1 slots before) w t)

-- no entry stands twice
abbrev NoneTwice : List PhysEntry → Type 0
NoneTwice [] = Unit {0}
NoneTwice (e ∷ es) = (IsIn e es → ⊥) × NoneTwice es

heads-once : (slots : Slots) → Rise slots → AllByRecursion Fits slots → NoneTwice (heads_by as_is slots)
unfolding IsStrictlySortedBy
heads-once [] r a = tt
heads-once (p ∷ ps) r a = by p.1.entries a.0.keys (heads-once ps r.1 a.1)
  where
    twice : (e : PhysEntry) → key_of e ≡ p.0 → IsIn e (heads_by as_is ps) → ⊥
    twice e k i =
        let h = headed e ps a.1 i in
        let less : order p.0 h.at.0 ≡ Less = key-above p.0 h.at h.stands r.0 in
        let same : p.0 ≡ h.at.0 = sym k ∙ h.key-is in
        true≢false (sym (ap is_lt (ap (order p.0) same ∙ less)) ∙ ap is_lt (tied_itself order_total p.0))

    by : (es : List PhysEntry) → AllByRecursion (λ (d : PhysEntry). (key_of d ≡ p.0) × IsMatch d.m) es
        → NoneTwice (heads_by as_is ps) → NoneTwice (option_to_list (head es) ++ heads_by as_is ps)
    by [] k rest = rest
    by (e ∷ es) k rest = (λ i. twice e k.0.0 i, rest)

heads-eq : {A : Type 0} {x y : A} {xs ys : List A} → x ∷ xs ≡ y ∷ ys → (x ≡ y) × (xs ≡ ys)
heads-eq e = (cc, cc)

-- rows of the same entries, of which no entry stands twice
same-rows : (xs ys : List Written) → map entry_of xs ≡ map entry_of ys → NoneTwice (map entry_of ys)
    → ((w : Written) → IsIn w xs → IsIn w ys) → xs ≡ ys
same-rows [] [] e n f = refl
same-rows [] (y ∷ ys) e n f = absurd cc
same-rows (x ∷ xs) [] e n f = absurd cc
same-rows (x ∷ xs) (y ∷ ys) e n f =
    let h = heads-eq e in
    let same : x ≡ y = first (first-or-later (f x here)) h.0 in
    let rest = same-rows xs ys h.1 n.1 (λ w i. later w i h.1 (first-or-later (f w (there i)))) in
    λ i. same i ∷ rest i
  where
    first : (x ≡ y) ⊎ IsIn x ys → x.entry ≡ y.entry → x ≡ y
    first (inl s) t = s
    first (inr i) t = absurd (n.0 (subst (λ (z : PhysEntry). IsIn z (map entry_of ys)) t (in-map entry_of i)))

    later : (w : Written) → IsIn w xs → map entry_of xs ≡ map entry_of ys → (w ≡ y) ⊎ IsIn w ys → IsIn w ys
    later w i t (inl s) =
        absurd
        (n.0 (subst (λ (z : PhysEntry). IsIn z (map entry_of ys)) (ap entry_of s)
        (subst (IsIn w.entry) t (in-map entry_of i))))
    later w i t (inr j) = j

pub renumbered-last : (first saved slots : Slots) (adds : List Written) → IsRenumbered first saved adds [] slots
    → (table_by as_is slots).standing ≡ adds
renumbered-last first saved slots adds n =
    same-rows (table_by as_is slots).standing adds (heads-stand as_is slots ∙ (n.alike.heads ∙ sym n.adds))
    (subst NoneTwice (sym n.adds) (heads-once first n.rise n.fit)) in-adds
  where
    one : (p : Key × Slot) (w : Written) → IsIn p slots → IsIn w (option_to_list (top p.1)) → IsIn w adds
    one p w i j = by (n.stands p i w (of-top (top p.1) j))
      where
        of-top : (o : Option Written) → IsIn w (option_to_list o) → o ≡ Some w
        of-top None k = no-items k
        of-top (Some v) k = ap Some (sym (in-one k))

        by : IsIn w adds ⊎ IsIn p.0 [] → IsIn w adds
        by (inl k) = k
        by (inr k) = no-items k

    in-adds : (w : Written) → IsIn w (table_by as_is slots).standing → IsIn w adds
    in-adds w i = let s = flat-in (λ (p : Key × Slot). option_to_list (top p.1)) w slots i in
        one s.from w s.stands s.has

-- the first of what is left
pub drop-first : (xs : List Written) (i : ℕ) (x : Written) → i < length xs → x ≡ get_or xs i x
    → drop i xs ≡ x ∷ drop (i + 1) xs
drop-first [] i x lt e = absurd (omega arith)
drop-first (y ∷ ys) zero x lt e = let one : suc 0 ≡ 0 + 1 = omega arith in λ i. sym e i ∷ drop (one i) (y ∷ ys)
drop-first (y ∷ ys) (suc i) x lt e =
    let next : suc (i + 1) ≡ suc i + 1 = omega arith in
    drop-first ys i x (omega arith) e ∙ ap (λ n. x ∷ drop n (y ∷ ys)) next

pub drop-all : (xs : List Written) (i : ℕ) → length xs ≤ i → drop i xs ≡ []
drop-all [] zero l = refl
drop-all [] (suc i) l = refl
drop-all (x ∷ xs) zero l = absurd (omega arith)
drop-all (x ∷ xs) (suc i) l = drop-all xs i (omega arith)
