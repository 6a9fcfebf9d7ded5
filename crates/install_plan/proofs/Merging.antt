-- Saved slots beside all slots.
use Rattle.std.proofs.Common.{◌≡◌, false, cond, List, [], ◌∷◌, ◌++◌, refl, sym, ap, subst, ◌∙◌}
use Rattle.std.specs.Prelude.{Option, Some, None, IsSome, MatchOption, flat_map, option_to_list, if◌then◌else◌}
use Rattle.std.specs.List.{AllByRecursion}
use Rattle.std.specs.List.Sorted.{IsStrictlySortedBy}
use Rattle.std.specs.Map.{keys_of}
use Rattle.std.specs.Ordering.{is_eq, is_le, ordering_reverse}
use Rattle.std.specs.declared.cmp.Ordering.{Ordering}
use Rattle.std.specs.declared.cmp.Ordering.TheVariants.{Less, Equal, Greater}
use Rattle.switch_meaning.specs.Batches.{by_key, key_cmp, put_by_key}
use Rattle.switch_meaning.specs.declared.entry.PhysEntry.{PhysEntry}
use Rattle.switch_meaning.proofs.Members.{all-in, in-all}
use Rattle.install_plan.specs.InsideSlots.{Slots, key_of, order, slot_at}
use Rattle.install_plan.specs.declared.key.Key.{Key}
use Rattle.install_plan.specs.declared.slot.Slot.{Slot}
use Rattle.install_plan.proofs.Keyed.{Rise, key-above, none-there, order_total, order_exact}

-- a look-up passes over a key that compares otherwise
pub passed-over : (k q : Key) (s : Slot) (ps : Slots) (r : Ordering) → order k q ≡ r → is_eq r ≡ false
    → slot_at k ((q, s) ∷ ps) ≡ slot_at k ps
passed-over k q s ps r e f = ap (λ b. cond b (Some s) (slot_at k ps)) (ap is_eq e ∙ f)

-- a key below all is not found
pub below-none : (k : Key) (ps : Slots) → AllByRecursion (λ (z : Key). order k z ≡ Less) (keys_of ps)
    → slot_at k ps ≡ None
below-none k [] a = refl
below-none k (p ∷ ps) a = passed-over k p.0 p.1 ps Less a.0 refl ∙ below-none k ps a.1

pub turned : (k q : Key) → order k q ≡ Less → order q k ≡ Greater
turned k q e = order_total.antisymm q k ∙ ap ordering_reverse e

greater-less : (k q : Key) → order k q ≡ Greater → order q k ≡ Less
greater-less k q e = order_total.antisymm q k ∙ ap ordering_reverse e

below-all : (k q : Key) (ps : Slots) → order k q ≡ Less → AllByRecursion (λ (z : Key). order q z ≡ Less) (keys_of ps)
    → AllByRecursion (λ (z : Key). order k z ≡ Less) (keys_of ps)
below-all k q [] e a = tt
below-all k q (p ∷ ps) e a = (order_total.trans k q p.0 e a.0, below-all k q ps e a.1)

module _ {A : Type 0} (G H : Key × Slot → List A) where
  -- what one gives of all slots the other gives of the saved ones
  abbrev pub Meets : Slots → Key × Slot → Type 0
  Meets saved p = MatchOption (slot_at p.0 saved) (G p ≡ []) (λ old. H (p.0, old) ≡ G p)

  no-more : (ps : Slots) → AllByRecursion (λ (p : Key × Slot). G p ≡ []) ps → [] ≡ flat_map G ps
  no-more [] a = refl
  no-more (p ∷ ps) a = no-more ps a.1 ∙ sym (ap (λ xs. xs ++ flat_map G ps) a.0)

  -- so they give the same
  pub flat-merged : (slots saved : Slots) → Rise slots → Rise saved
      → AllByRecursion (λ (o : Key × Slot). IsSome (slot_at o.0 slots)) saved → AllByRecursion (Meets saved) slots
      → flat_map H saved ≡ flat_map G slots
  unfolding IsStrictlySortedBy
  flat-merged slots [] r q t m = no-more slots m
  flat-merged [] (o ∷ os) r q t m = none-there t.0
  flat-merged (s ∷ ss) (o ∷ os) r q t m = by (order s.0 o.0) refl (λ u v. flat-merged ss os r.1 q.1 u v)
      (λ u v. flat-merged ss (o ∷ os) r.1 q u v)
    where
      Both : Slots → Type 0
      Both ps = AllByRecursion (λ (p : Key × Slot). IsSome (slot_at p.0 ss)) ps → AllByRecursion (Meets ps) ss
          → flat_map H ps ≡ flat_map G ss

      apart : (p : Key × Slot) → order s.0 p.0 ≡ Less → IsSome (slot_at p.0 (s ∷ ss)) → IsSome (slot_at p.0 ss)
      apart p l f = subst IsSome (passed-over p.0 s.0 s.1 ss Greater (turned s.0 p.0 l) refl) f

      -- the first of both have one key
      same-there : s.0 ≡ o.0 → AllByRecursion (λ (p : Key × Slot). IsSome (slot_at p.0 ss)) os
      same-there k = all-in (λ (p : Key × Slot). IsSome (slot_at p.0 ss)) os
          (λ p i. apart p (ap (λ (z : Key). order z p.0) k ∙ key-above o.0 p i q.0)
          (in-all (λ (p : Key × Slot). IsSome (slot_at p.0 (s ∷ ss))) i t.1))

      same-met : s.0 ≡ o.0 → AllByRecursion (Meets os) ss
      same-met k = all-in (Meets os) ss
          (λ p i. let below : order o.0 p.0 ≡ Less = ap (λ (z : Key). order z p.0) (sym k) ∙ key-above s.0 p i r.0 in
          subst (λ (z : Option Slot). MatchOption z (G p ≡ []) (λ old. H (p.0, old) ≡ G p))
          (passed-over p.0 o.0 o.1 os Greater (turned o.0 p.0 below) refl)
          (in-all (Meets (o ∷ os)) i m.1))

      same : order s.0 o.0 ≡ Equal → Both os → flat_map H (o ∷ os) ≡ flat_map G (s ∷ ss)
      same e both =
          let k : s.0 ≡ o.0 = order_exact s.0 o.0 e in
          let found : slot_at s.0 (o ∷ os) ≡ Some o.1 = ap (λ b. cond b (Some o.1) (slot_at s.0 os)) (ap is_eq e) in
          let first : H (s.0, o.1) ≡ G s =
          subst (λ (z : Option Slot). MatchOption z (G s ≡ []) (λ old. H (s.0, old) ≡ G s)) found m.0 in
          let rest = both (same-there k) (same-met k) in
          λ i. (ap (λ (z : Key). H (z, o.1)) (sym k) ∙ first) i ++ rest i

      -- the first slot is not saved
      unsaved-there : order s.0 o.0 ≡ Less → AllByRecursion (λ (p : Key × Slot). IsSome (slot_at p.0 ss)) (o ∷ os)
      unsaved-there e = (
        apart o e t.0,
        all-in (λ (p : Key × Slot). IsSome (slot_at p.0 ss)) os
            (λ p i. apart p (order_total.trans s.0 o.0 p.0 e (key-above o.0 p i q.0))
            (in-all (λ (p : Key × Slot). IsSome (slot_at p.0 (s ∷ ss))) i t.1)),
      )

      unsaved : order s.0 o.0 ≡ Less → Both (o ∷ os) → flat_map H (o ∷ os) ≡ flat_map G (s ∷ ss)
      unsaved e both =
          let none : slot_at s.0 (o ∷ os) ≡ None = below-none s.0 (o ∷ os) (e, below-all s.0 o.0 os e q.0) in
          let first : G s ≡ [] = subst (λ (z : Option Slot). MatchOption z (G s ≡ []) (λ old. H (s.0, old) ≡ G s)) none
          m.0 in
          both (unsaved-there e) m.1 ∙ sym (ap (λ xs. xs ++ flat_map G ss) first)

      -- the first that is saved would have no slot
      lost : order s.0 o.0 ≡ Greater → flat_map H (o ∷ os) ≡ flat_map G (s ∷ ss)
      lost e =
          let l = greater-less s.0 o.0 e in
          let none : slot_at o.0 (s ∷ ss) ≡ None = below-none o.0 (s ∷ ss) (l, below-all o.0 s.0 ss l r.0) in
          none-there (subst IsSome none t.0)

      by : (x : Ordering) → order s.0 o.0 ≡ x → Both os → Both (o ∷ os) → flat_map H (o ∷ os) ≡ flat_map G (s ∷ ss)
      by Less e a b = unsaved e b
      by Equal e a b = same e a
      by Greater e a b = lost e

one-front : (g : Key × Slot → Option PhysEntry) (e : PhysEntry) (q : Key × Slot) (qs : Slots) (o : Option PhysEntry)
    → MatchOption o (Unit {0}) (λ d. key_of d ≡ q.0) → order (key_of e) q.0 ≡ Less
    → put_by_key e (flat_map (λ q. option_to_list (g q)) qs) ≡ e ∷ flat_map (λ q. option_to_list (g q)) qs
    → put_by_key e (option_to_list o ++ flat_map (λ q. option_to_list (g q)) qs)
    ≡ e ∷ (option_to_list o ++ flat_map (λ q. option_to_list (g q)) qs)
one-front g e q qs None u l rest = rest
one-front g e q qs (Some d) u l rest =
    let less : key_cmp e d ≡ Less = ap (λ (z : Key). order (key_of e) z) u ∙ l in
    ap (λ c. if c then e ∷ d ∷ flat_map (λ q. option_to_list (g q)) qs
    else d ∷ put_by_key e (flat_map (λ q. option_to_list (g q)) qs)) (ap is_le less)

-- an entry whose key is below all others comes first
front : (g : Key × Slot → Option PhysEntry) (e : PhysEntry) (qs : Slots)
    → AllByRecursion (λ (z : Key). order (key_of e) z ≡ Less) (keys_of qs)
    → AllByRecursion (λ (q : Key × Slot). MatchOption (g q) (Unit {0}) (λ d. key_of d ≡ q.0)) qs
    → put_by_key e (flat_map (λ q. option_to_list (g q)) qs) ≡ e ∷ flat_map (λ q. option_to_list (g q)) qs
front g e [] b k = refl
front g e (q ∷ qs) b k = one-front g e q qs (g q) k.0 b.0 (front g e qs b.1 k.1)

-- entries that are one of each key, in the order of keys, are in order
pub by_key-sorted : (g : Key × Slot → Option PhysEntry) (slots : Slots) → Rise slots
    → AllByRecursion (λ (p : Key × Slot). MatchOption (g p) (Unit {0}) (λ e. key_of e ≡ p.0)) slots
    → by_key (flat_map (λ p. option_to_list (g p)) slots) ≡ flat_map (λ p. option_to_list (g p)) slots
unfolding IsStrictlySortedBy
by_key-sorted g [] r a = refl
by_key-sorted g (p ∷ ps) r a = by (g p) a.0 (by_key-sorted g ps r.1 a.1)
  where
    rest : List PhysEntry
    rest = flat_map (λ q. option_to_list (g q)) ps

    by : (o : Option PhysEntry) → MatchOption o (Unit {0}) (λ e. key_of e ≡ p.0) → by_key rest ≡ rest
        → by_key (option_to_list o ++ rest) ≡ option_to_list o ++ rest
    by None u h = h
    by (Some e) u h = ap (put_by_key e) h
        ∙ front g e ps (subst (λ (k : Key). AllByRecursion (λ (z : Key). order k z ≡ Less) (keys_of ps)) (sym u) r.0)
        a.1
