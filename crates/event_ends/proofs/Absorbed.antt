-- Steps that may be taken in any order, and twice as well as once.
use Rattle.std.proofs.Common.{◌≡◌, ◌∙◌, ℕ, Bool, true, false, List, [], ◌∷◌, ap, refl, subst, sym}
use Rattle.std.specs.Prelude.{◌==◌, ◌||◌, fold}
use Rattle.std.proofs.lemmas.Bool.Decides.{Decides-eqb}
use Rattle.member_table.specs.Changes.{is_among}

module _ {C : Type 0} (step : C → ℕ → C) (counts : ℕ → Bool)
    (either_first : (c : C) (m n : ℕ) → step (step c m) n ≡ step (step c n) m)
    (twice : (c : C) (n : ℕ) → step (step c n) n ≡ step c n)
    (idle : (c : C) (n : ℕ) → counts n ≡ false → step c n ≡ c) where
  -- a step that is taken among others may be taken before them
  absorbs : (n : ℕ) (ns : List ℕ) (c : C) → is_among ns n ≡ true → fold step (step c n) ns ≡ fold step c ns
  absorbs n [] c h = absurd (cc)
  absorbs n (m ∷ ms) c h = by (m == n) refl h (λ d. absorbs n ms d)
    where
      by : (b : Bool) → (m == n) ≡ b → (b || is_among ms n) ≡ true
          → ((d : C) → is_among ms n ≡ true → fold step (step d n) ms ≡ fold step d ms)
          → fold step (step (step c n) m) ms ≡ fold step (step c m) ms
      by true e h r =
          subst (λ k. fold step (step (step c k) m) ms ≡ fold step (step c m) ms) ((Decides-eqb m n).0 e)
          (ap (λ d. fold step d ms) (twice c m))
      by false e h r = ap (λ d. fold step d ms) (either_first c n m) ∙ r (step c m) h

  -- so may those that do nothing
  absorbs_if : (n : ℕ) (ns : List ℕ) (c : C) → (counts n ≡ true → is_among ns n ≡ true)
      → fold step (step c n) ns ≡ fold step c ns
  absorbs_if n ns c h = by (counts n) refl
    where
      by : (b : Bool) → counts n ≡ b → fold step (step c n) ns ≡ fold step c ns
      by true e = absorbs n ns c (h e)
      by false e = ap (λ d. fold step d ns) (idle c n e)

  absorbs_all : (ms ns : List ℕ) (c : C) → ((n : ℕ) → counts n ≡ true → is_among ns n ≡ true)
      → fold step (fold step c ms) ns ≡ fold step c ns
  absorbs_all [] ns c h = refl
  absorbs_all (m ∷ ms) ns c h = absorbs_all ms ns (step c m) h ∙ absorbs_if m ns c (h m)

  -- the first step may be the last
  put_off : (n : ℕ) (ns : List ℕ) (c : C) → fold step (step c n) ns ≡ step (fold step c ns) n
  put_off n [] c = refl
  put_off n (m ∷ ms) c = ap (λ d. fold step d ms) (either_first c n m) ∙ put_off n ms (step c m)

  swaps : (ms ns : List ℕ) (c : C) → fold step (fold step c ms) ns ≡ fold step (fold step c ns) ms
  swaps ms [] c = refl
  swaps ms (n ∷ ns) c = ap (λ d. fold step d ns) (sym (put_off n ms c)) ∙ swaps ms ns (step c n)

  -- two lists in which each step stands that does anything
  pub same_steps : (ms ns : List ℕ) (c : C) → ((n : ℕ) → counts n ≡ true → is_among ms n ≡ true)
      → ((n : ℕ) → counts n ≡ true → is_among ns n ≡ true) → fold step c ms ≡ fold step c ns
  same_steps ms ns c first second =
      sym (absorbs_all ns ms c first) ∙ (swaps ns ms c ∙ absorbs_all ms ns c second)
