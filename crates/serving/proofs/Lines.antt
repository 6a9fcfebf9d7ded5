-- The endpoints that have a dial, one more; and counts that rose.
use Rattle.std.proofs.Common.{◌≡◌, ◌≤◌, ◌+◌, ◌⊎◌, ◌<◌, ℕ, zero, suc, nat_lt, min, Bool, true, false, List, [], ◌∷◌}
use Rattle.std.proofs.Common.{◌++◌, Option, length, All, refl, ap, sym, subst, ◌∙◌, inl, inr, arith, append_assoc, append-nil}
use Rattle.std.proofs.lemmas.List.Elements.{All-cons, All-head, All-nil, All-tail}
use Rattle.outside.specs.Connections.{Connection}
use Rattle.outside.specs.Outside.{MOST, Rose, RoseBy}
use Rattle.outside.specs.declared.links.Endpoint.{Endpoint}
use Rattle.cv_io.specs.declared.leaf.Who.{Who}
use Rattle.endpoint_works.specs.Sides.{IsServedSide}
use Rattle.serving.specs.Lines.{AreLinesOf, IsLineOf}
use Rattle.serving.specs.declared.dialling.Line.{Line}
use Rattle.serving.specs.declared.place.Place.{Place}

module _ {D : Type 0} (told : Endpoint → Option (List Connection)) (reliable : Endpoint → Bool)
    (left : D → Option (List Connection)) (never_fails : D → Bool) where
  -- one that could not be dialled
  pub lines-less : (undialled : ℕ) (places : List Place) (lines : List (Line D)) (place : Place)
      → AreLinesOf told reliable left never_fails undialled places lines
      → AreLinesOf told reliable left never_fails (suc undialled) (places ++ place ∷ []) lines
  lines-less undialled [] lines place are = inl (undialled, refl, are)
  lines-less undialled (p ∷ places) lines place (inl are) =
      inl (
        undialled,
        refl,
        subst (λ n. AreLinesOf told reliable left never_fails n (places ++ place ∷ []) lines)
            (sym are.1) (lines-less are.0 places lines place are.2),
      )
  lines-less undialled (p ∷ places) lines place (inr is) = inr (record {
    line = is.line;
    others = is.others;
    are = is.are;
    is = is.is;
    rest = lines-less undialled places is.others place is.rest;
  })

  -- one that could
  pub lines-more : (undialled : ℕ) (places : List Place) (lines : List (Line D)) (place : Place) (line : Line D)
      → AreLinesOf told reliable left never_fails undialled places lines
      → IsLineOf told reliable left never_fails place line
      → AreLinesOf told reliable left never_fails undialled (places ++ place ∷ []) (lines ++ line ∷ [])
  lines-more undialled [] lines place line are new = inr (record {
    line = line;
    others = [];
    are = ap (λ (l : List (Line D)). l ++ line ∷ []) are.1;
    is = new;
    rest = (are.0, refl);
  })
  lines-more undialled (p ∷ places) lines place line (inl are) new =
      inl (are.0, are.1, lines-more are.0 places lines place line are.2 new)
  lines-more undialled (p ∷ places) lines place line (inr is) new = inr (record {
    line = is.line;
    others = is.others ++ line ∷ [];
    are = ap (λ (l : List (Line D)). l ++ line ∷ []) is.are;
    is = is.is;
    rest = lines-more undialled places is.others place line is.rest new;
  })

  -- each place has a dial, but so many
  pub lines-count : (undialled : ℕ) (places : List Place) (lines : List (Line D))
      → AreLinesOf told reliable left never_fails undialled places lines → undialled + length lines ≡ length places
  lines-count undialled [] lines are = let h = ap length are.1 in let z = are.0 in grind arith
  lines-count undialled (p ∷ places) lines (inl are) =
      let h = lines-count are.0 places lines are.2 in let z = are.1 in grind arith
  lines-count undialled (p ∷ places) lines (inr is) =
      let h = lines-count undialled places is.others is.rest in let e = ap length is.are in grind arith

-- what a loop has gone over, and what is left
pub left-more : {X : Type 0} (done : List X) (x : X) (rest all whole : List X) → all ≡ x ∷ rest → done ++ all ≡ whole
    → (done ++ x ∷ []) ++ rest ≡ whole
left-more done x rest all whole next is = append_assoc done (x ∷ []) rest ∙ (ap (λ l. done ++ l) (sym next) ∙ is)

pub left-none : {X : Type 0} (done rest whole : List X) → rest ≡ [] → done ++ rest ≡ whole → done ≡ whole
left-none done rest whole none is = sym (append-nil done) ∙ (ap (λ l. done ++ l) (sym none) ∙ is)

-- a count that rose has risen since before, and stays so
rose-since : (a b c : ℕ) → a ≤ b → Rose b c → Rose a c
rose-since a b c le (inl lt) = inl (grind arith)
rose-since a b c le (inr most) = inr most

rose-still : (a b c : ℕ) → a ≤ b → b ≤ c → Rose a b → Rose a c
rose-still a b c up le (inl lt) = inl (grind arith)
rose-still a b c up le (inr most) = by (nat_lt a c) refl
  where
    by : (v : Bool) → nat_lt a c ≡ v → Rose a c
    by true q = inl (grind arith)
    by false q = inr (grind arith)

rise : (n a b c : ℕ) → min (a + n) MOST ≤ b → Rose b c → min (a + suc n) MOST ≤ c
rise n a b c le (inl lt) = omega (arith, le, lt)
rise n a b c le (inr most) = omega (arith, most)

risen-so-far : (n a b : ℕ) → a ≤ b → RoseBy n a b → min (a + n) MOST ≤ b
risen-so-far zero a b up r = omega (arith, up)
risen-so-far (suc n) a b up r = r.1

-- a count that rose at each of so many calls, and at one more
pub rose-by-more : (n a b c : ℕ) → RoseBy n a b → a ≤ b → Rose b c → RoseBy (suc n) a c
rose-by-more n a b c r up rose = (rose-since a b c up rose, rise n a b c (risen-so-far n a b up r) rose)

-- or at none more
pub rose-by-still : (n a b c : ℕ) → RoseBy n a b → a ≤ b → b ≤ c → RoseBy n a c
rose-by-still zero a b c r up le = omega (arith, up, le)
rose-by-still (suc n) a b c r up le = (rose-still a b c up le r.0, let most = r.1 in omega (arith, most, le))

-- links that tell the same have the same endpoints' dials
module _ {D : Type 0} (told now : Endpoint → Option (List Connection)) (reliable then : Endpoint → Bool)
    (left : D → Option (List Connection)) (never_fails : D → Bool) where
  pub line-same : (place : Place) (line : Line D) → now place.end ≡ told place.end → then place.end ≡ reliable place.end
      → IsLineOf now then left never_fails place line → IsLineOf told reliable left never_fails place line
  line-same place line t r is = record {
    side = is.side;
    gives = is.gives ∙ t;
    dials = λ e. is.dials (r ∙ e);
  }

-- what holds of the places holds of the lines
module _ {D : Type 0} (told : Endpoint → Option (List Connection)) (reliable : Endpoint → Bool)
    (left : D → Option (List Connection)) (never_fails : D → Bool) where
  pub lines-all : (X : Place → Type 0) (Y : Line D → Type 0)
      → ((place : Place) (line : Line D) → IsLineOf told reliable left never_fails place line → X place → Y line)
      → (undialled : ℕ) (places : List Place) (lines : List (Line D))
      → AreLinesOf told reliable left never_fails undialled places lines → All X places → All Y lines
  lines-all X Y f undialled [] lines are all = subst (All Y) (sym are.1) (All-nil Y)
  lines-all X Y f undialled (p ∷ places) lines (inl are) all =
      lines-all X Y f are.0 places lines are.2 (All-tail X p places all)
  lines-all X Y f undialled (p ∷ places) lines (inr is) all =
      subst (All Y) (sym is.are)
      (All-cons Y is.line is.others (f p is.line is.is (All-head X p places all))
      (lines-all X Y f undialled places is.others is.rest (All-tail X p places all)))

  pub lines-served : (serves : Who → Type 0) (undialled : ℕ) (places : List Place) (lines : List (Line D))
      → AreLinesOf told reliable left never_fails undialled places lines
      → All (λ (p : Place). IsServedSide serves p.side) places
      → All (λ (l : Line D). IsServedSide serves l.side) lines
  lines-served serves =
      lines-all (λ (p : Place). IsServedSide serves p.side) (λ (l : Line D). IsServedSide serves l.side)
      (λ p l is s. subst (IsServedSide serves) (sym is.side) s)

  pub lines-reliable : (undialled : ℕ) (places : List Place) (lines : List (Line D))
      → AreLinesOf told reliable left never_fails undialled places lines
      → All (λ (p : Place). reliable p.end ≡ true) places
      → All (λ (l : Line D). never_fails l.dial ≡ true) lines
  lines-reliable =
      lines-all (λ (p : Place). reliable p.end ≡ true) (λ (l : Line D). never_fails l.dial ≡ true)
      (λ p l is r. is.dials r)
