-- What is true of every table stays true when entries go, change or come.
use Rattle.std.proofs.Common.{◌≡◌, ℕ, ◌<◌, ◌+◌, ◌^◌, Bool, true, false, not, cond, ◌&&◌, ◌==◌, List, [], ◌∷◌, map}
use Rattle.std.proofs.Common.{filter, refl, sym, ap, ap₂, subst, ◌∙◌, arith, if◌then◌else◌, ne_eqb, ◌≢◌}
use Rattle.std.specs.List.{list_any, AllByRecursion, IsDistinct}
use Rattle.std.proofs.lemmas.Bool.Decides.{Decides-eqb}
use Rattle.member_table.specs.Entries.{identity_of, has_serial, is_at, is_near, put}
use Rattle.member_table.specs.Sound.{AreApart, EachPair, IsAsWritten, IsSound}
use Rattle.member_table.specs.Tables.{TableOf}
use Rattle.member_table.specs.declared.entry.Entry.{Entry}
use Rattle.member_table.proofs.Lists.{or_false, each_weaker}
use Rattle.member_table.proofs.Steps.{identity_decides}
use Rattle.member_table.proofs.Keyed.{keys_map, once_filter, once_put}
use Rattle.member_table.proofs.Means.{once_identity}

-- entries go
kept_more : {X : Type 0} (P : X → Type 0) (b : Bool) (x : X) (xs : List X) → P x → AllByRecursion P xs
    → AllByRecursion P (cond b (x ∷ xs) xs)
kept_more P true x xs h a = (h, a)
kept_more P false x xs h a = a

pub each_filter : {X : Type 0} (P : X → Type 0) (p : X → Bool) (xs : List X) → AllByRecursion P xs
    → AllByRecursion P (filter p xs)
each_filter P p [] a = tt
each_filter P p (x ∷ xs) a = kept_more P (p x) x (filter p xs) a.0 (each_filter P p xs a.1)

pair_kept : (b : Bool) (e : Entry) (es : List Entry) → AllByRecursion (AreApart e) es → EachPair AreApart es
    → EachPair AreApart (cond b (e ∷ es) es)
pair_kept true e es h a = (h, a)
pair_kept false e es h a = a

pair_filter : (p : Entry → Bool) (es : List Entry) → EachPair AreApart es → EachPair AreApart (filter p es)
pair_filter p [] a = tt
pair_filter p (e ∷ es) a = pair_kept (p e) e (filter p es) (each_filter (AreApart e) p es a.0) (pair_filter p es a.1)

pub sound_filter : (t : TableOf) (p : Entry → Bool) → IsSound t → IsSound (record t { entries = filter p t.entries })
sound_filter t p s =
    record {
      begun = s.begun;
      given = each_filter (λ e. (0 < e.serial) × (e.serial < t.next)) p t.entries s.given;
      fits = s.fits;
      written = each_filter IsAsWritten p t.entries s.written;
      once = once_filter ◌==◌ Decides-eqb (λ e. e.serial) p t.entries s.once;
      apart = pair_filter p t.entries s.apart;
    }

-- entries change in all but their number and identity
pub either_way : {Y : Type 0} (F : Entry → Y) (b : Bool) (x y : Entry) → F x ≡ F y → F (if b then x else y) ≡ F y
either_way F true x y e = e
either_way F false x y e = refl

pub either_has : (P : Entry → Type 0) (b : Bool) (x y : Entry) → P x → P y → P (if b then x else y)
either_has P true x y h k = h
either_has P false x y h k = k

module _ (f : Entry → Entry) (numbers : (e : Entry) → (f e).serial ≡ e.serial) (identities : (e : Entry)
    → identity_of (f e) ≡ identity_of e) where
  given_map : (next : ℕ) (es : List Entry) → AllByRecursion (λ e. (0 < e.serial) × (e.serial < next)) es
      → AllByRecursion (λ e. (0 < e.serial) × (e.serial < next)) (map f es)
  given_map next [] a = tt
  given_map next (e ∷ es) a = let P : ℕ → Type 0 = λ n. (0 < n)
      × (n < next) in (subst P (sym (numbers e)) a.0, given_map next es a.1)

  each_apart_map : (e : Entry) (es : List Entry) → AllByRecursion (AreApart e) es
      → AllByRecursion (AreApart (f e)) (map f es)
  each_apart_map e [] a = tt
  each_apart_map e (x ∷ es) a = (ap₂ is_near (identities x) (identities e) ∙ a.0, each_apart_map e es a.1)

  apart_map : (es : List Entry) → EachPair AreApart es → EachPair AreApart (map f es)
  apart_map [] a = tt
  apart_map (e ∷ es) a = (each_apart_map e es a.0, apart_map es a.1)

  written_map : ((e : Entry) → IsAsWritten e → IsAsWritten (f e)) → (es : List Entry) → AllByRecursion IsAsWritten es
      → AllByRecursion IsAsWritten (map f es)
  written_map w [] a = tt
  written_map w (e ∷ es) a = (w e a.0, written_map w es a.1)

  pub sound_map : ((e : Entry) → IsAsWritten e → IsAsWritten (f e)) → (t : TableOf) → IsSound t
      → IsSound (record t { entries = map f t.entries })
  sound_map w t s = record {
    begun = s.begun;
    given = given_map t.next t.entries s.given;
    fits = s.fits;
    written = written_map w t.entries s.written;
    once = (let P : List ℕ
        → Type 0 = IsDistinct ◌==◌ in subst P (sym (keys_map ◌==◌ Decides-eqb (λ e. e.serial) f numbers t.entries))
        s.once);
    apart = apart_map t.entries s.apart;
  }

-- an entry comes
pub each_put : (P : Entry → Type 0) (new : Entry) (es : List Entry) → P new → AllByRecursion P es
    → AllByRecursion P (put new es)
each_put P new [] h a = (h, tt)
each_put P new (e ∷ es) h a = by (is_at (identity_of new) e) (each_put P new es h a.1)
  where
    by : (b : Bool) → AllByRecursion P (put new es) → AllByRecursion P (if b then new ∷ es else e ∷ put new es)
    by true r = (h, a.1)
    by false r = (a.0, r)

-- it overlaps none of its rank but the identical one
abbrev pub is_blocked : Entry → Entry → Bool
is_blocked new e = is_near (identity_of new) (identity_of e) && not (is_at (identity_of new) e)

and_true_left : (a : Bool) → (a && true) ≡ a
and_true_left true = refl
and_true_left false = refl

apart_put : (new : Entry) (es : List Entry) → list_any (is_blocked new) es ≡ false → EachPair AreApart es
    → EachPair AreApart (put new es)
apart_put new [] n a = (tt, tt)
apart_put new (e ∷ es) n a = let o = or_false (is_blocked new e) (list_any (is_blocked new) es) n in
    by (is_at (identity_of new) e) refl o.0 (apart_put new es o.1 a.1)
  where
    same : identity_of new ≡ identity_of e → (x : Entry) → AreApart e x → AreApart new x
    same s x h = ap (is_near (identity_of x)) s ∙ h

    by : (b : Bool) → is_at (identity_of new) e ≡ b → is_blocked new e ≡ false → EachPair AreApart (put new es)
        → EachPair AreApart (if b then new ∷ es else e ∷ put new es)
    by true t o r = (
      each_weaker (AreApart e) (AreApart new) (same ((identity_decides (identity_of new) (identity_of e)).0 t)) es
          a.0,
      a.1,
    )
    by false t o r = (
      each_put (AreApart e) new es (sym (and_true_left (is_near (identity_of new) (identity_of e)))
          ∙ (ap (λ c. is_near (identity_of new) (identity_of e) && not c) (sym t) ∙ o)) a.0,
      r,
    )

pub sound_put : (t : TableOf) (new : Entry) → IsSound t → new.serial ≡ t.next → t.next + 2 < 2 ^ 64 → IsAsWritten new
    → list_any (is_blocked new) t.entries ≡ false
    → IsSound (record t { entries = put new t.entries; next = t.next + 1 })
sound_put t new s n more written blocked = record {
  begun = omega arith;
  fits = omega arith;
  written = each_put IsAsWritten new t.entries written s.written;
  given = each_put (λ e. (0 < e.serial) × (e.serial < t.next + 1)) new t.entries (begun_new s.begun)
      (each_weaker (λ e. (0 < e.serial) × (e.serial < t.next)) (λ e. (0 < e.serial) × (e.serial < t.next + 1))
      (λ e h. (h.0, up e.serial h.1)) t.entries s.given);
  once = once_put ◌==◌ Decides-eqb (λ e. e.serial) new t.entries (once_identity (identity_of new) t.entries s.apart)
      (each_weaker (λ e. (0 < e.serial) × (e.serial < t.next)) (λ e. is_at (identity_of new) e ≡ false
      → (new.serial == e.serial) ≡ false) (λ e h _. fresh e.serial h.1) t.entries s.given) s.once;
  apart = apart_put new t.entries blocked s.apart;
}
  where
    up : (k : ℕ) → k < t.next → k < t.next + 1
    up k h = omega arith

    fresh : (k : ℕ) → k < t.next → (new.serial == k) ≡ false
    fresh k h = ne_eqb new.serial k (other k h)
      where
        other : (k : ℕ) → k < t.next → new.serial ≢ k
        other k h = omega arith

    begun_new : 0 < t.next → (0 < new.serial) × (new.serial < t.next + 1)
    begun_new h = (omega arith, omega arith)

-- a number that wasn't given yet
pub fresh_number : (s : ℕ) (next : ℕ) (es : List Entry) → s ≡ next
    → AllByRecursion (λ (e : Entry). (0 < e.serial) × (e.serial < next)) es → list_any (has_serial s) es ≡ false
fresh_number s next [] e a = refl
fresh_number s next (x ∷ es) e a = let h = a.0.1 in let d : s ≢ x.serial = omega arith in
    rw (ne_eqb s x.serial d) (fresh_number s next es e a.1)
