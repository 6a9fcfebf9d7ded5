-- Sessions that are closed as slow, round by round.
use Rattle.std.proofs.Common.{◌≡◌, ◌∙◌, ◌⊎◌, inl, inr, ℕ, zero, suc, ◌+◌, ◌<◌, ◌≤◌, ◌==◌, Bool, true, false, ◌&&◌, not}
use Rattle.std.proofs.Common.{true≢false, List, [], ◌∷◌, ◌++◌, map, filter, length, arith, refl, sym}
use Rattle.std.proofs.Common.{ap, ap₂, subst}
use Rattle.std.proofs.lemmas.Bool.{eq-eqb, eqb-true}
use Rattle.std.specs.Prelude.{if◌then◌else◌}
use Rattle.std.specs.List.{enumerate_from, list_all}
use Rattle.grants.specs.Ports.{is_one_of}
use Rattle.policies.specs.Policies.{PolicyOf}
use Rattle.switch_meaning.proofs.Members.{IsIn, any-passes, here, in-left, in-right, passes-any, there}
use Rattle.machine_meaning.specs.Laws.{IsLeast, Suffices, closed_in, is_within}
use Rattle.machine_meaning.specs.Lists.{places}
use Rattle.machine_meaning.specs.Phases.{both, draft_of, is_empty, nobody, overfilled}
use Rattle.machine_meaning.specs.Phases.{slow, slow_from}
use Rattle.machine_meaning.specs.Rounds.{Closing}
use Rattle.machine_meaning.specs.States.{State}
use Rattle.events.specs.declared.event.Event.{Event}
use Rattle.machine_meaning.proofs.Readied.{long_map}

-- numbers in lists --------------------------------------------------------------------------------------------------

number_there : (n : ℕ) (xs : List ℕ) → IsIn n xs → is_one_of xs n ≡ true
number_there n xs i = passes-any (λ (k : ℕ). k == n) i (eq-eqb n n refl)

there_number : (n : ℕ) (xs : List ℕ) → is_one_of xs n ≡ true → IsIn n xs
there_number n xs t =
    let p = any-passes (λ (k : ℕ). k == n) xs t in
    subst (λ (k : ℕ). IsIn k xs) (eqb-true p.item n p.passes) p.stands

-- each of some numbers is one of others
abbrev Sub : List ℕ → List ℕ → Type 0
Sub xs ys = (n : ℕ) → IsIn n xs → IsIn n ys

all_of : (xs ys : List ℕ) → Sub xs ys → list_all (is_one_of ys) xs ≡ true
all_of [] ys f = refl
all_of (x ∷ xs) ys f =
    ap₂ (λ (a b : Bool). a && b) (number_there x ys (f x here)) (all_of xs ys (λ n i. f n (there i)))

record IsWithin (a b : Closing) : Type 0 where
  switches : Sub a.switches b.switches
  members : Sub a.members b.members

within_test : (a b : Closing) → IsWithin a b → is_within a b ≡ true
within_test a b h =
    ap₂ (λ (x y : Bool). x && y) (all_of a.switches b.switches h.switches) (all_of a.members b.members h.members)

-- how many of some numbers others leave
abbrev left : List ℕ → List ℕ → ℕ
left xs gone = length (filter (λ n. not (is_one_of gone n)) xs)

kept_le : (a b : Bool) (x : ℕ) (ys zs : List ℕ) → (b ≡ true → a ≡ true) → length ys ≤ length zs
    → length (if b then x ∷ ys else ys) ≤ length (if a then x ∷ zs else zs)
kept_le true true x ys zs f h = omega (arith, h)
kept_le true false x ys zs f h = omega (arith, h)
kept_le false true x ys zs f h = absurd (true≢false (sym (f refl)))
kept_le false false x ys zs f h = h

kept_lt : (a b : Bool) (x : ℕ) (ys zs : List ℕ) → (b ≡ true → a ≡ true) → length ys < length zs
    → length (if b then x ∷ ys else ys) < length (if a then x ∷ zs else zs)
kept_lt true true x ys zs f h = omega (arith, h)
kept_lt true false x ys zs f h = omega (arith, h)
kept_lt false true x ys zs f h = absurd (true≢false (sym (f refl)))
kept_lt false false x ys zs f h = h

kept_first : (a b : Bool) (x : ℕ) (ys zs : List ℕ) → a ≡ true → b ≡ false → length ys ≤ length zs
    → length (if b then x ∷ ys else ys) < length (if a then x ∷ zs else zs)
kept_first true true x ys zs t f h = absurd (true≢false f)
kept_first true false x ys zs t f h = omega (arith, h)
kept_first false b x ys zs t f h = absurd (true≢false (sym t))

module _ (q r : ℕ → Bool) (narrower : (n : ℕ) → r n ≡ true → q n ≡ true) where
  no_more : (xs : List ℕ) → length (filter r xs) ≤ length (filter q xs)
  no_more [] = omega arith
  no_more (x ∷ xs) = kept_le (q x) (r x) x (filter r xs) (filter q xs) (narrower x) (no_more xs)

  fewer : (n : ℕ) (xs : List ℕ) → IsIn n xs → q n ≡ true → r n ≡ false → length (filter r xs) < length (filter q xs)
  fewer n [] i t f = elim i [ ]
  fewer n (x ∷ xs) here t f = kept_first (q x) (r x) x (filter r xs) (filter q xs) t f (no_more xs)
  fewer n (x ∷ xs) (there i) t f =
      kept_lt (q x) (r x) x (filter r xs) (filter q xs) (narrower x) (fewer n xs i t f)

shorter : (r : ℕ → Bool) (xs : List ℕ) → length (filter r xs) ≤ length xs
shorter r [] = omega arith
shorter r (x ∷ xs) = kept_le true (r x) x (filter r xs) xs (λ t. refl) (shorter r xs)

-- those that more leave
left_narrower : (xs ys : List ℕ) (n : ℕ) → not (is_one_of (xs ++ ys) n) ≡ true → not (is_one_of xs n) ≡ true
left_narrower xs ys n h = by (is_one_of xs n) refl
  where
    by : (b : Bool) → is_one_of xs n ≡ b → not b ≡ true
    by true t =
        absurd (true≢false (sym h ∙ ap not (number_there n (xs ++ ys) (in-left ys (there_number n xs t)))))
    by false t = refl

outside : (xs : List ℕ) (n : ℕ) → (IsIn n xs → ⊥) → not (is_one_of xs n) ≡ true
outside xs n h = by (is_one_of xs n) refl
  where
    by : (b : Bool) → is_one_of xs n ≡ b → not b ≡ true
    by true t = absurd (h (there_number n xs t))
    by false t = refl

left_no_more : (xs gone more : List ℕ) → left xs (gone ++ more) ≤ left xs gone
left_no_more xs gone more =
    no_more (λ n. not (is_one_of gone n)) (λ n. not (is_one_of (gone ++ more) n)) (left_narrower gone more) xs

left_fewer : (xs gone more : List ℕ) (n : ℕ) → IsIn n xs → (IsIn n gone → ⊥) → IsIn n more
    → left xs (gone ++ more) < left xs gone
left_fewer xs gone more n i out m =
    fewer (λ n. not (is_one_of gone n)) (λ n. not (is_one_of (gone ++ more) n)) (left_narrower gone more) n xs i
    (outside gone n out) (ap not (number_there n (gone ++ more) (in-right gone more m)))

-- numbers of places hang on how many there are
pub same_places_from : {X Y : Type 0} (k : ℕ) (xs : List X) (ys : List Y) → length xs ≡ length ys
    → map (λ (x : ℕ × X). x.0) (enumerate_from k xs) ≡ map (λ (y : ℕ × Y). y.0) (enumerate_from k ys)
same_places_from k [] [] e = refl
same_places_from k [] (y ∷ ys) e = absurd (omega (arith, e))
same_places_from k (x ∷ xs) [] e = absurd (omega (arith, e))
same_places_from k (x ∷ xs) (y ∷ ys) e = ap (λ ns. k ∷ ns) (same_places_from (k + 1) xs ys (omega (arith, e)))

long_from : {X : Type 0} (k : ℕ) (xs : List X) → length (enumerate_from k xs) ≡ length xs
long_from k [] = refl
long_from k (x ∷ xs) = ap suc (long_from (k + 1) xs)

long_places : {X : Type 0} (xs : List X) → length (places xs) ≡ length xs
long_places xs = long_map (λ x. x.0) (enumerate_from 0 xs) ∙ long_from 0 xs

-- rounds ------------------------------------------------------------------------------------------------------------

some_one : (a b : List ℕ) → ((length a == 0) && (length b == 0)) ≡ false
    → ((n : ℕ) × IsIn n a) ⊎ ((n : ℕ) × IsIn n b)
some_one [] [] h = absurd (true≢false h)
some_one [] (y ∷ ys) h = inr (y, here)
some_one (x ∷ xs) b h = inl (x, here)

module _ (p : PolicyOf) (s : State) (e : Event) where
  abbrev over : Closing → Closing
  over c = overfilled s (draft_of p s e c)

  grows : (k : ℕ) (c : Closing) → IsWithin c (closed_in k p s e c)
  grows zero c = record { switches = λ n i. i; members = λ n i. i }
  grows (suc k) c =
      let r = grows k (both c (over c)) in
      record {
        switches = λ n i. r.switches n (in-left (over c).switches i);
        members = λ n i. r.members n (in-left (over c).members i);
      }

  reached_from : (n : ℕ) (c : Closing) → (k : ℕ) × (slow_from n p s e c ≡ closed_in k p s e c)
  reached_from zero c = (0, refl)
  reached_from (suc n) c = by (is_empty (over c)) (reached_from n (both c (over c)))
    where
      by : (b : Bool)
          → (k : ℕ) × (slow_from n p s e (both c (over c)) ≡ closed_in k p s e (both c (over c)))
          → (k : ℕ) × ((if b then c else slow_from n p s e (both c (over c))) ≡ closed_in k p s e c)
      by true r = (0, refl)
      by false r = (suc r.0, r.1)

  least_from : (n : ℕ) (c : Closing) (k : ℕ) → Suffices p s e (closed_in k p s e c)
      → IsWithin (slow_from n p s e c) (closed_in k p s e c)
  least_from zero c k t = grows k c
  least_from (suc n) c k t = by (is_empty (over c)) refl (least_from n (both c (over c))) k t
    where
      by : (b : Bool) → is_empty (over c) ≡ b
          → ((k : ℕ) → Suffices p s e (closed_in k p s e (both c (over c)))
          → IsWithin (slow_from n p s e (both c (over c))) (closed_in k p s e (both c (over c))))
          → (k : ℕ) → Suffices p s e (closed_in k p s e c)
          → IsWithin (if b then c else slow_from n p s e (both c (over c))) (closed_in k p s e c)
      by true h again k t = grows k c
      by false h again zero t = absurd (true≢false (sym t ∙ h))
      by false h again (suc k) t = again k t

  -- sessions that are put more than they may be are there, and weren't closed
  pub record AreOpen (c : Closing) : Type 0 where
    pub switches : (n : ℕ) → IsIn n (over c).switches → IsIn n (places s.switches) × (IsIn n c.switches → ⊥)
    pub members : (n : ℕ) → IsIn n (over c).members → IsIn n (places s.members) × (IsIn n c.members → ⊥)

  module _ (open_ones : (c : Closing) → AreOpen c) where
    abbrev left_by : Closing → ℕ
    left_by c = left (places s.switches) c.switches + left (places s.members) c.members

    shrinks : (c : Closing) → is_empty (over c) ≡ false → left_by (both c (over c)) < left_by c
    shrinks c h = by (some_one (over c).switches (over c).members h)
      where
        by : ((n : ℕ) × IsIn n (over c).switches) ⊎ ((n : ℕ) × IsIn n (over c).members)
            → left_by (both c (over c)) < left_by c
        by (inl (n, i)) =
            let o = (open_ones c).switches n i in
            let first = left_fewer (places s.switches) c.switches (over c).switches n o.0 o.1 i in
            let second = left_no_more (places s.members) c.members (over c).members in
            omega (arith, first, second)
        by (inr (n, i)) =
            let o = (open_ones c).members n i in
            let first = left_no_more (places s.switches) c.switches (over c).switches in
            let second = left_fewer (places s.members) c.members (over c).members n o.0 o.1 i in
            omega (arith, first, second)

    suffices_from : (n : ℕ) (c : Closing) → left_by c ≤ n → Suffices p s e (slow_from n p s e c)
    suffices_from zero c h = by (is_empty (over c)) refl
      where
        by : (b : Bool) → is_empty (over c) ≡ b → is_empty (over c) ≡ true
        by true t = t
        by false t = let less = shrinks c t in absurd (omega (arith, h, less))
    suffices_from (suc n) c h = by (is_empty (over c)) refl (suffices_from n (both c (over c)))
      where
        by : (b : Bool) → is_empty (over c) ≡ b
            → (left_by (both c (over c)) ≤ n → Suffices p s e (slow_from n p s e (both c (over c))))
            → Suffices p s e (if b then c else slow_from n p s e (both c (over c)))
        by true t again = t
        by false t again = let less = shrinks c t in again (omega (arith, h, less))

    few_left : left_by nobody ≤ length s.switches + length s.members
    few_left =
        let first = shorter (λ n. not (is_one_of [] n)) (places s.switches) in
        let second = shorter (λ n. not (is_one_of [] n)) (places s.members) in
        let one = long_places s.switches in
        let two = long_places s.members in
        omega (arith, first, second, one, two)

    pub rounds_least : IsLeast p s e
    rounds_least =
        let total = length s.switches + length s.members in
        let r = reached_from total nobody in
        record {
          rounds = r.0;
          reached = r.1;
          suffices = suffices_from total nobody few_left;
          least = λ k t. within_test (slow p s e) (closed_in k p s e nobody) (least_from total nobody k t);
        }
