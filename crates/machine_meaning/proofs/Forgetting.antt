-- What forgetting leaves does to counts.
use Rattle.std.proofs.Common.{◌≡◌, ◌∙◌, Bool, true, false, true≢false, not, ◌&&◌, ◌||◌, List, [], ◌∷◌, filter}
use Rattle.std.proofs.Common.{if◌then◌else◌, cond, refl, sym, ap, ap₂}
use Rattle.std.specs.Prelude.{fold}
use Rattle.std.specs.List.{list_any}
use Rattle.cv_io.specs.Leaves.{same_leaf}
use Rattle.cv_io.specs.declared.leaf.Leaf.{Leaf}
use Rattle.stats_map.specs.Counting.{CountsOf, forgot, is_named}
use Rattle.switch_meaning.proofs.Alike.{leaf_decides}
use Rattle.machine_meaning.specs.Counted.{is_one_of}
use Rattle.machine_meaning.specs.Telling.{uncounted}
use Rattle.machine_meaning.proofs.CountEffects.{no_numbers}

-- the leaf is one of those that are forgotten
abbrev pub is_dropped : Leaf → List Leaf → Bool
is_dropped q ls = list_any (λ leaf. same_leaf leaf q) ls

-- the cookies stay
pub forgot_live : (ls : List Leaf) (c : CountsOf) → (fold uncounted c ls).live ≡ c.live
forgot_live [] c = refl
forgot_live (l ∷ ls) c = forgot_live ls (forgot l c)

-- a leaf is to be forgotten if it was, or is one of these, and a cookie names it
pub forgot_marks : (q : Leaf) (ls : List Leaf) (c : CountsOf) → (c.forgotten q && is_named c q) ≡ c.forgotten q
    → (fold uncounted c ls).forgotten q ≡ ((is_dropped q ls || c.forgotten q) && is_named c q)
forgot_marks q [] c h = sym h
forgot_marks q (l ∷ ls) c h =
    forgot_marks q ls (forgot l c) (twice (same_leaf l q || c.forgotten q) (is_named c q))
    ∙ by (same_leaf l q) (is_dropped q ls) (c.forgotten q) (is_named c q)
  where
    twice : (a b : Bool) → ((a && b) && b) ≡ (a && b)
    twice true true = refl
    twice true false = refl
    twice false b = refl

    by : (s d f n : Bool) → ((d || ((s || f) && n)) && n) ≡ (((s || d) || f) && n)
    by true true f n = refl
    by true false f true = refl
    by true false f false = refl
    by false true f n = refl
    by false false f n = twice f n

-- a total that is gone stays so
pub forgot_none : (q : Leaf) (ls : List Leaf) (c : CountsOf) → c.totals q ≡ no_numbers
    → (fold uncounted c ls).totals q ≡ no_numbers
forgot_none q [] c h = h
forgot_none q (l ∷ ls) c h =
    forgot_none q ls (forgot l c) (by ((same_leaf l q || c.forgotten q) && not (is_named c q)))
  where
    by : (b : Bool) → (if b then no_numbers else c.totals q) ≡ no_numbers
    by true = refl
    by false = h

-- and that of a leaf that is forgotten, and that no cookie names, goes
pub forgot_total : (q : Leaf) (ls : List Leaf) (c : CountsOf) → is_dropped q ls ≡ true → is_named c q ≡ false
    → (fold uncounted c ls).totals q ≡ no_numbers
forgot_total q [] c t n = absurd (true≢false (sym t))
forgot_total q (l ∷ ls) c t n = by (same_leaf l q) refl t (λ u. forgot_total q ls (forgot l c) u n)
  where
    by : (b : Bool) → same_leaf l q ≡ b → (b || is_dropped q ls) ≡ true
        → (is_dropped q ls ≡ true → (fold uncounted (forgot l c) ls).totals q ≡ no_numbers)
        → (fold uncounted (forgot l c) ls).totals q ≡ no_numbers
    by true e u r =
        forgot_none q ls (forgot l c)
        (ap₂ (λ (a b : Bool). if (a || c.forgotten q) && not b then no_numbers else c.totals q) e n)
    by false e u r = r u

-- of some leaves those are forgotten that pass a test
pub dropped_is : (q : Leaf) (g : Leaf → Bool) (xs : List Leaf)
    → is_dropped q (filter g xs) ≡ (is_one_of xs q && g q)
dropped_is q g [] = refl
dropped_is q g (x ∷ xs) = by (same_leaf q x) refl (same_leaf x q) refl (g x) refl (dropped_is q g xs)
  where
    same : same_leaf q x ≡ true → q ≡ x
    same t = (leaf_decides q x).0 t

    kept : (b : Bool) → is_dropped q (cond b (x ∷ filter g xs) (filter g xs))
        ≡ ((b && same_leaf x q) || is_dropped q (filter g xs))
    kept true = refl
    kept false = refl

    by : (a : Bool) → same_leaf q x ≡ a → (b : Bool) → same_leaf x q ≡ b → (c : Bool) → g x ≡ c
        → is_dropped q (filter g xs) ≡ (is_one_of xs q && g q)
        → is_dropped q (cond (g x) (x ∷ filter g xs) (filter g xs)) ≡ ((a || is_one_of xs q) && g q)
    by true e b f c k r =
        kept (g x)
        ∙ (ap₂ (λ (m n : Bool). (m && n) || is_dropped q (filter g xs)) (sym (ap g (same e)))
        ((leaf_decides x q).1 (sym (same e)))
        ∙ (ap (λ (d : Bool). (g q && true) || d) r ∙ both (g q) (is_one_of xs q)))
      where
        both : (m n : Bool) → ((m && true) || (n && m)) ≡ m
        both true n = refl
        both false true = refl
        both false false = refl
    by false e true f c k r =
        absurd (true≢false (sym ((leaf_decides q x).1 (sym ((leaf_decides x q).0 f))) ∙ e))
    by false e false f c k r =
        kept (g x) ∙ (ap (λ (n : Bool). (g x && n) || is_dropped q (filter g xs)) f ∙ (none (g x) ∙ r))
      where
        none : (m : Bool) → ((m && false) || is_dropped q (filter g xs)) ≡ is_dropped q (filter g xs)
        none true = refl
        none false = refl
