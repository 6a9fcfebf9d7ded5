-- The item at a place, between those before it and those after it.
use Rattle.std.proofs.Common.{◌≡◌, ℕ, zero, suc, ◌+◌, ◌<◌, List, [], ◌∷◌, ◌++◌, length, take, drop, get_or, map, refl}
use Rattle.std.proofs.Common.{sym, ap, subst, ◌∙◌, arith}
use Rattle.rule_ancestry.specs.Holding.{Held, id_of}

module _ {X : Type 0} where
  pub record Nth (xs : List X) (i : ℕ) : Type 0 where
    pub item : X
    pub whole : xs ≡ take i xs ++ item ∷ drop (i + 1) xs
    pub more : take (i + 1) xs ≡ take i xs ++ item ∷ []
    pub at : (d : X) → get_or xs i d ≡ item

  record NthSuc (xs : List X) (i : ℕ) : Type 0 where
    pub item : X
    pub whole : xs ≡ take i xs ++ item ∷ drop (suc i) xs
    pub more : take (suc i) xs ≡ take i xs ++ item ∷ []
    pub at : (d : X) → get_or xs i d ≡ item

  nth-suc : (xs : List X) (i : ℕ) → i < length xs → NthSuc xs i
  nth-suc [] i lt = absurd (omega arith)
  nth-suc (x ∷ xs) zero lt = record { item = x; whole = refl; more = refl; at = λ d. refl }
  nth-suc (x ∷ xs) (suc i) lt =
      let r = nth-suc xs i (omega arith) in
      record { item = r.item; whole = ap (λ z. x ∷ z) r.whole; more = ap (λ z. x ∷ z) r.more; at = r.at }

  -- the item at a place
  pub nth : (xs : List X) (i : ℕ) → i < length xs → Nth xs i
  nth xs i lt =
      let r = nth-suc xs i lt in
      let next : suc i ≡ i + 1 = omega arith in
      record {
        item = r.item;
        whole = subst (λ k. xs ≡ take i xs ++ r.item ∷ drop k xs) next r.whole;
        more = subst (λ k. take k xs ≡ take i xs ++ r.item ∷ []) next r.more;
        at = r.at;
      }

module _ {R : Type 0} where
  get-mapped : (hs : List (Held R)) (i : ℕ) (h : Held R) (d : ℕ) → i < length hs → ((e : Held R) → get_or hs i e ≡ h)
      → get_or (map id_of hs) i d ≡ h.id
  get-mapped [] i h d lt f = absurd (omega arith)
  get-mapped (x ∷ hs) zero h d lt f = ap id_of (f x)
  get-mapped (x ∷ hs) (suc i) h d lt f = get-mapped hs i h d (omega arith) f

  -- its id, in a list of ids
  pub id-at : (hs : List (Held R)) (ids : List ℕ) (i d : ℕ) (lt : i < length hs) → map id_of hs ≡ ids
      → get_or ids i d ≡ (nth hs i lt).item.id
  id-at hs ids i d lt e = ap (λ z. get_or z i d) (sym e) ∙ get-mapped hs i (nth hs i lt).item d lt (nth hs i lt).at
