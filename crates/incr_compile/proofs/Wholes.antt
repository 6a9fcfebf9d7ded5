-- A node made of operands that are whole.
use Rattle.std.proofs.Common.{◌≡◌, ℕ, ◌+◌, ◌<◌, ◌≤◌, ◌^◌, ◌==◌, List, [], ◌∷◌, ◌++◌, length, map, refl, sym, ap, subst}
use Rattle.std.proofs.Common.{◌∙◌}
use Rattle.std.proofs.Common.{arith}
use Rattle.std.specs.Prelude.{IsPermutation, count_by, filter_map}
use Rattle.std.specs.List.{All, AllByRecursion, IsDistinct}
use Rattle.std.proofs.lemmas.Grind.{common_steps}
use Rattle.std.proofs.lemmas.List.{append-nil}
use Rattle.std.proofs.lemmas.List.Elements.{All-from_recursion}
use Rattle.std.proofs.lemmas.List.Sums.{sum_by-cons}
use Rattle.std.proofs.lemmas.List.Sorted.{IsPermutation-append, IsPermutation-map, IsPermutation-refl}
use Rattle.std.proofs.lemmas.List.Sorted.{IsPermutation-sym, IsPermutation-trans}
use Rattle.list_change.specs.Pairing.{by_left, by_right, made}
use Rattle.list_change.proofs.Permute.{by-equation}
use Rattle.match_index.specs.declared.item.Item.{Item}
use Rattle.op_compose.specs.Composition.{alone_level, joined_level}
use Rattle.op_compose.specs.declared.op.Op.{Op}
use Rattle.op_compose.specs.declared.op.Op.TheVariants.{Par, Seq, Over, Hop}
use Rattle.op_compose.specs.declared.op.Side.TheVariants.{Left, Right}
use Rattle.policy_meaning.specs.declared.rule.Rule.{Rule}
use Rattle.policy_meaning.proofs.Lists.{all-map}
use Rattle.rule_ancestry.specs.Holding.{Held, held_as, id_of, item_of}
use Rattle.made_rules.specs.Rules.{rule_held, rules_in}
use Rattle.made_rules.specs.declared.made.Made.{Made}
use Rattle.made_rules.proofs.Ids.{Rising, one-each as once-each}
use Rattle.incr_compile.specs.Candidates.{asked, could_meet, left_cost, reach, right_cost, shown}
use Rattle.incr_compile.specs.Nodes.{AreFit, CanJoin, IsFit, IsNode, NodeOf, SizesFit}
use Rattle.incr_compile.specs.Showing.{AreClear}
use Rattle.incr_compile.specs.Sound.{AreSound, IsSound}
use Rattle.incr_compile.specs.Ways.{held_way}
use Rattle.incr_compile.proofs.Fits.{by-left-levels, fit-all-sound, fit-sound, left-levels}

pub all-clear : (ids : List ℕ) (items : List Item) → items ≡ [] → AreClear ids items
all-clear ids items e = subst (λ z. AreClear ids z) (sym e) tt

pub all-once : (store : List (Held Made)) (ids : List ℕ) → Rising store → ids ≡ map id_of store → IsDistinct ◌==◌ ids
all-once store ids up e = subst (λ z. IsDistinct ◌==◌ z) (sym e) (once-each store store up (IsPermutation-refl store))

pub all-held : {R : Type 0} (store : List (Held R)) → IsPermutation store (store ++ [])
all-held store = by-equation _ _ (sym (append-nil store))

-- ---- rules of the right alone
right-level : (op : Op) (b size : ℕ) → alone_level op Right b size ≡ b
right-level Par b size = refl
right-level Seq b size = refl
right-level Over b size = refl
right-level Hop b size = refl

pub alone-below : (op : Op) (size levels : ℕ) (come : List (Held Rule)) → levels < 2 ^ 64 → AreFit levels come
    → All (λ (b : Held Rule). alone_level op Right b.item.level size < 2 ^ 64) come
alone-below op size levels come w f =
    All-from_recursion _ come
    (all-map (λ (b : Held Rule). IsFit levels b.item)
    (λ (b : Held Rule). alone_level op Right b.item.level size < 2 ^ 64) come
    (λ b t. subst (λ (k : ℕ). k < 2 ^ 64) (sym (right-level op b.item.level size)) (let l = t.below in omega arith)) f)

none-joined : (op : Op) (size : ℕ) (come : List (Held Rule))
    → AllByRecursion
    (λ (b : Held Rule). All (λ (a : Held Rule). joined_level op a.item.level b.item.level size < 2 ^ 64) []) come
none-joined op size [] = tt
none-joined op size (b ∷ come) = (λ k d lt. absurd (omega arith), none-joined op size come)

pub none-below : (op : Op) (size : ℕ) (come lefts : List (Held Rule)) → lefts ≡ []
    → All (λ (b : Held Rule). All (λ (a : Held Rule). joined_level op a.item.level b.item.level size < 2 ^ 64) lefts)
    come
none-below op size come lefts e =
    subst
    (λ (z : List (Held Rule)). All
    (λ (b : Held Rule). All (λ (a : Held Rule). joined_level op a.item.level b.item.level size < 2 ^ 64) z) come)
    (sym e) (All-from_recursion _ come (none-joined op size come))

pub none-sound : (left : List (Held Made)) → left ≡ [] → AreSound (rules_in left)
none-sound left e = subst (λ (z : List (Held Made)). AreSound (rules_in z)) (sym e) tt

pub none-shown : (op : Op) (items : List Item) (left : List (Held Made)) → items ≡ [] → left ≡ []
    → IsPermutation items (filter_map (shown (reach op)) (rules_in left))
none-shown op items left e f =
    by-equation _ _ (e ∙ ap (λ (z : List (Held Made)). filter_map (shown (reach op)) (rules_in z)) (sym f))

pub others-alone : (op : Op) (size : ℕ) (fresh : List Made) (come : List (Held Rule)) (left right : List (Held Made))
    → left ≡ [] → come ≡ rules_in right → IsPermutation fresh (by_right (held_way op size) (rules_in left) come) →
    IsPermutation fresh (filter_map (held_way op size).other (rules_in right))
others-alone op size fresh come left right e f p =
    subst (λ (z : List (Held Rule)). IsPermutation fresh (filter_map (held_way op size).other z)) f
    (subst (λ (z : List (Held Made)). IsPermutation fresh (by_right (held_way op size) (rules_in z) come)) e p)

-- ---- operands that fit
module _ (op : Op) (size : ℕ) (lefts rights : List (Held Made)) (c : CanJoin op size lefts rights) where
  abbrev bare : NodeOf
  bare = record { op = op; size = size; made = []; lefts = []; rights = [] }

  sizes : SizesFit bare c.left_size c.right_size
  sizes = record {
    size = c.size_is;
    left_positive = c.left_positive;
    right_positive = c.right_positive;
    whole = c.whole;
  }

  module _ (come : List (Held Rule)) (e : come ≡ rules_in lefts) where
    come-fit : AreFit c.left_size come
    come-fit = subst (λ (z : List (Held Rule)). AreFit c.left_size z) (sym e) c.lefts_fit

    pub join-sound : All (λ (a : Held Rule). IsSound a.item) come
    join-sound = fit-all-sound c.left_size come come-fit

    pub join-alone : All (λ (a : Held Rule). alone_level op Left a.item.level size < 2 ^ 64) come
    join-alone = left-levels bare c.left_size c.right_size sizes come come-fit

    pub join-levels : All
        (λ (a : Held Rule). All (λ (b : Held Rule). joined_level op a.item.level b.item.level size < 2 ^ 64)
        (rules_in rights)) come
    join-levels = by-left-levels bare c.left_size c.right_size sizes come (rules_in rights) come-fit c.rights_fit

  pub join-rights : AreSound (rules_in rights)
  join-rights = fit-sound c.right_size (rules_in rights) c.rights_fit

pub both-made : (op : Op) (size : ℕ) (fresh alone new : List Made) (come : List (Held Rule))
    (lefts rights : List (Held Made)) → come ≡ rules_in lefts
    → IsPermutation fresh (by_left (held_way op size) come (rules_in rights)) →
    IsPermutation alone (filter_map (held_way op size).other (rules_in rights)) → new ≡ fresh ++ alone
    → IsPermutation new (made (held_way op size) (rules_in lefts) (rules_in rights))
both-made op size fresh alone new come lefts rights e f a n =
    IsPermutation-trans _ _ _ (by-equation _ _ n)
    (IsPermutation-append _ _ _ _
    (subst (λ (z : List (Held Rule)). IsPermutation fresh (by_left (held_way op size) z (rules_in rights))) e f) a)

-- ---- what is kept
kept-items : (ids : List ℕ) (items : List Made) → length ids ≡ length items → map item_of (held_as ids items) ≡ items
kept-items [] [] e = refl
kept-items [] (x ∷ items) e = absurd (let z : 0 ≡ length (x ∷ items) = e in grind (arith, common_steps))
kept-items (i ∷ ids) [] e = absurd (let z : length (i ∷ ids) ≡ 0 = e in grind (arith, common_steps))
kept-items (i ∷ ids) (x ∷ items) e =
    ap (λ z. x ∷ z)
    (kept-items ids items (let z : length (i ∷ ids) ≡ length (x ∷ items) = e in grind (arith, common_steps)))

-- a store that held nothing and keeps these items holds them
pub kept-all : (ids : List ℕ) (items : List Made) (old new : List (Held Made)) → old ≡ [] → length ids ≡ length items
    → IsPermutation (held_as ids items ++ old) new → IsPermutation (map item_of new) items
kept-all ids items old new e n p =
    IsPermutation-trans _ _ _
    (IsPermutation-map item_of _ _
    (IsPermutation-sym _ _ (subst (λ (z : List (Held Made)). IsPermutation (held_as ids items ++ z) new) e p)))
    (by-equation _ _ (ap (map item_of) (append-nil (held_as ids items)) ∙ kept-items ids items n))

pub whole-node : (n : NodeOf) (op : Op) (size : ℕ) (fresh : List Made) (lefts rights : List (Held Made)) → n.op ≡ op
    → n.size ≡ size → IsPermutation (map item_of n.made) fresh
    → IsPermutation fresh (made (held_way op size) (rules_in lefts) (rules_in rights)) →
    n.lefts ≡ filter_map (shown (reach op)) (rules_in lefts)
    → n.rights ≡ filter_map (shown (asked op)) (rules_in rights) → IsNode n (rules_in lefts) (rules_in rights)
whole-node n op size fresh lefts rights o s m f l r = record {
  made_are = IsPermutation-trans _ _ _ m
      (IsPermutation-trans _ _ _ f
      (by-equation _ _ (ap (λ z. made (held_way z size) (rules_in lefts) (rules_in rights)) (sym o)
      ∙ ap (λ (k : ℕ). made (held_way n.op k) (rules_in lefts) (rules_in rights)) (sym s))));
  shown = record {
    lefts_are = by-equation _ _ (l ∙ ap (λ z. filter_map (shown (reach z)) (rules_in lefts)) (sym o));
    rights_are = by-equation _ _ (r ∙ ap (λ z. filter_map (shown (asked z)) (rules_in rights)) (sym o));
  };
}

-- ---- steps
one-more : {X : Type 0} (x : X) (xs : List X) → length (x ∷ xs) ≡ 1 + length xs
one-more x xs = grind (arith, common_steps)

alone-ones : (op : Op) (rights : List (Held Made)) → right_cost op [] (rules_in rights) ≡ length rights
alone-ones op [] = refl
alone-ones op (h ∷ rights) =
    sum_by-cons (λ (b : Held Rule). 1 + count_by (λ (a : Held Rule). could_meet op a.item b.item) []) (rule_held h)
    (rules_in rights)
    ∙ (ap (λ (k : ℕ). 1 + k) (alone-ones op rights) ∙ sym (one-more h rights))

-- with no rules of the left, one step for each
pub alone-spent : (op : Op) (left right : List (Held Made)) (come : List (Held Rule)) (old new : ℕ) → left ≡ []
    → come ≡ rules_in right → new ≤ old + right_cost op (rules_in left) come → new ≤ old + length right
alone-spent op left right come old new e f p =
    subst (λ (k : ℕ). new ≤ old + k) (ap (λ (z : List (Held Made)). right_cost op (rules_in z) come) e
    ∙ ap (right_cost op []) f ∙ alone-ones op right) p

one-each : (op : Op) (lefts : List (Held Rule)) (rights : List (Held Made))
    → length rights ≤ right_cost op lefts (rules_in rights)
one-each op lefts [] = omega arith
one-each op lefts (h ∷ rights) =
    let e = sum_by-cons (λ (b : Held Rule). 1 + count_by (λ (a : Held Rule). could_meet op a.item b.item) lefts)
    (rule_held h) (rules_in rights) in
    at (length rights) (right_cost op lefts (rules_in rights))
    (count_by (λ (a : Held Rule). could_meet op a.item h.item.rule) lefts) (length (h ∷ rights)) _
    (one-each op lefts rights) (one-more h rights) e
  where
    at : (n c k m t : ℕ) → n ≤ c → m ≡ 1 + n → t ≡ (1 + k) + c → m ≤ t
    at n c k m t p e f = omega arith

-- the steps of whole operands, and where there was no memory after those of the left
pub both-spent : (op : Op) (come : List (Held Rule)) (lefts rights : List (Held Made)) (s0 s1 s2 : ℕ)
    → come ≡ rules_in lefts → s1 ≤ s0 + left_cost op (rules_in rights) come → s2 ≤ s1 + length rights →
    s2 ≤ s0 + (left_cost op (rules_in rights) (rules_in lefts) + right_cost op (rules_in lefts) (rules_in rights))
both-spent op come lefts rights s0 s1 s2 e p q =
    at (left_cost op (rules_in rights) (rules_in lefts)) (right_cost op (rules_in lefts) (rules_in rights))
    (length rights)
    (subst (λ (z : List (Held Rule)). s1 ≤ s0 + left_cost op (rules_in rights) z) e p) q
    (one-each op (rules_in lefts) rights)
  where
    at : (a b n : ℕ) → s1 ≤ s0 + a → s2 ≤ s1 + n → n ≤ b → s2 ≤ s0 + (a + b)
    at a b n p q r = omega arith

pub lefts-spent : (op : Op) (come : List (Held Rule)) (lefts rights : List (Held Made)) (s0 s1 : ℕ)
    → come ≡ rules_in lefts → s1 ≤ s0 + left_cost op (rules_in rights) come →
    s1 ≤ s0 + (left_cost op (rules_in rights) (rules_in lefts) + right_cost op (rules_in lefts) (rules_in rights))
lefts-spent op come lefts rights s0 s1 e p =
    at (left_cost op (rules_in rights) (rules_in lefts)) (right_cost op (rules_in lefts) (rules_in rights))
    (subst (λ (z : List (Held Rule)). s1 ≤ s0 + left_cost op (rules_in rights) z) e p)
  where
    at : (a b : ℕ) → s1 ≤ s0 + a → s1 ≤ s0 + (a + b)
    at a b p = omega arith

-- the same where the operands are written otherwise
pub spent-at : (op : Op) (xs us ys vs : List (Held Made)) (s0 s1 : ℕ) → xs ≡ us → ys ≡ vs
    → s1 ≤ s0 + (left_cost op (rules_in ys) (rules_in xs) + right_cost op (rules_in xs) (rules_in ys)) →
    s1 ≤ s0 + (left_cost op (rules_in vs) (rules_in us) + right_cost op (rules_in us) (rules_in vs))
spent-at op xs us ys vs s0 s1 e f p =
    subst
    (λ (z : List (Held Made)). s1 ≤ s0 +
    (left_cost op (rules_in z) (rules_in us) + right_cost op (rules_in us) (rules_in z))) f
    (subst
    (λ (z : List (Held Made)). s1 ≤ s0 +
    (left_cost op (rules_in ys) (rules_in z) + right_cost op (rules_in z) (rules_in ys))) e p)
