-- Levels and matches of what operators make fit where those of their operands do.
use Rattle.std.proofs.Common.{◌≡◌, ◌≢◌, ℕ, ◌*◌, ◌<◌, ◌≤◌, ◌^◌, Bool, true, false, List, [], ◌∷◌, Option, Some, None}
use Rattle.std.proofs.Common.{map, refl, sym, subst, arith}
use Rattle.std.specs.Prelude.{IsPermutation, filter_map, option_map}
use Rattle.std.specs.List.{All, AllByRecursion}
use Rattle.std.proofs.lemmas.List.Elements.{All-from_recursion}
use Rattle.std.proofs.lemmas.List.Sorted.{IsPermutation-sym}
use Rattle.std.proofs.Math.Nat.{mul-le-mul_right}
use Rattle.alg_priority.specs.Levels.{concat_level, shift_level}
use Rattle.list_change.specs.Pairing.{made}
use Rattle.of10_actions.specs.declared.effects.Tail.{Tail}
use Rattle.of10_actions.specs.declared.effects.Tail.TheVariants.{Nothing, Pass, Link}
use Rattle.of10_match.proofs.Both.{IsMatch-both}
use Rattle.of10_match.proofs.NormalMeet.{IsNormal-both}
use Rattle.op_compose.specs.Composition.{alone_level, joined, joined_level, passed}
use Rattle.op_compose.specs.declared.op.Op.{Op}
use Rattle.op_compose.specs.declared.op.Op.TheVariants.{Par, Seq, Over, Hop}
use Rattle.op_compose.specs.declared.op.Side.TheVariants.{Left, Right}
use Rattle.policy_meaning.specs.Rules.{chained, lifted, summed}
use Rattle.policy_meaning.specs.declared.rule.Rule.{Rule}
use Rattle.policy_meaning.proofs.Chains.{high}
use Rattle.policy_meaning.proofs.Lists.{all-append, all-filter_map, all-flat_map, all-map}
use Rattle.policy_meaning.proofs.Meeting.{some_met, some_pulled}
use Rattle.policy_meaning.proofs.Rising.{all-permuted}
use Rattle.policy_meaning.proofs.Sums.{below-size}
use Rattle.pull_back.specs.Pulling.{pulled}
use Rattle.pull_back.proofs.Normality.{normal-pulled}
use Rattle.rule_ancestry.specs.Holding.{Held, item_of}
use Rattle.made_rules.specs.Rules.{rules_in}
use Rattle.made_rules.specs.declared.made.Made.{Made}
use Rattle.incr_compile.specs.Nodes.{AreFit, IsFit, NodeOf, SizesFit, made_by, whole_size}
use Rattle.incr_compile.specs.Sound.{AreSound, IsSound}
use Rattle.incr_compile.specs.Ways.{held_way, lone, lone_by, other}
use Rattle.incr_compile.proofs.Images.{in-range}

-- ---- levels
product-above : (n k : ℕ) → 0 < n → 0 < k → k ≤ n * k
product-above n k p q =
    let one : 1 ≤ n = p in
    let h = mul-le-mul_right k one in
    omega arith

pub joined-fits : (op : Op) (n k size a b : ℕ) → size ≡ k → 0 < k → whole_size op n k < 2 ^ 64 → a < n → b < k
    → joined_level op a b size < 2 ^ 64
joined-fits Par n k size a b e pos w p q = omega arith
joined-fits Seq n k size a b e pos w p q =
    subst (λ (z : ℕ). concat_level a b z < 2 ^ 64) (sym e)
    (let h : concat_level a b k < n * k = high a n k b p q in omega arith)
joined-fits Over n k size a b e pos w p q = omega arith
joined-fits Hop n k size a b e pos w p q =
    subst (λ (z : ℕ). concat_level a b z < 2 ^ 64) (sym e)
    (let h : concat_level a b k < n * k = high a n k b p q in omega arith)

pub left-fits : (op : Op) (n k size a : ℕ) → size ≡ k → 0 < k → whole_size op n k < 2 ^ 64 → a < n
    → alone_level op Left a size < 2 ^ 64
left-fits Par n k size a e pos w p = omega arith
left-fits Seq n k size a e pos w p = subst (λ (z : ℕ). concat_level a 0 z < 2 ^ 64) (sym e)
    (let h : concat_level a 0 k < n * k = high a n k 0 p pos in omega arith)
left-fits Over n k size a e pos w p = omega arith
left-fits Hop n k size a e pos w p = subst (λ (z : ℕ). concat_level a 0 z < 2 ^ 64) (sym e)
    (let h : concat_level a 0 k < n * k = high a n k 0 p pos in omega arith)

pub right-fits : (op : Op) (n k size b : ℕ) → 0 < n → 0 < k → whole_size op n k < 2 ^ 64 → b < k
    → alone_level op Right b size < 2 ^ 64
right-fits Par n k size b pn pk w q = omega arith
right-fits Seq n k size b pn pk w q = let h : k ≤ n * k = product-above n k pn pk in omega arith
right-fits Over n k size b pn pk w q = omega arith
right-fits Hop n k size b pn pk w q = let h : k ≤ n * k = product-above n k pn pk in omega arith

module _ (n : NodeOf) (left right : ℕ) (s : SizesFit n left right) where
  pub left-levels : (come : List (Held Rule)) → AreFit left come
      → All (λ (a : Held Rule). alone_level n.op Left a.item.level n.size < 2 ^ 64) come
  left-levels come f =
      All-from_recursion _ come
      (all-map (λ (a : Held Rule). IsFit left a.item)
      (λ (a : Held Rule). alone_level n.op Left a.item.level n.size < 2 ^ 64) come
      (λ a t. left-fits n.op left right n.size a.item.level s.size s.right_positive s.whole t.below) f)

  pub right-levels : (come : List (Held Rule)) → AreFit right come
      → All (λ (b : Held Rule). alone_level n.op Right b.item.level n.size < 2 ^ 64) come
  right-levels come f =
      All-from_recursion _ come
      (all-map (λ (b : Held Rule). IsFit right b.item)
      (λ (b : Held Rule). alone_level n.op Right b.item.level n.size < 2 ^ 64) come
      (λ b t. right-fits n.op left right n.size b.item.level s.left_positive s.right_positive s.whole t.below) f)

  pub by-left-levels : (come rights : List (Held Rule)) → AreFit left come → AreFit right rights →
      All (λ (a : Held Rule). All (λ (b : Held Rule). joined_level n.op a.item.level b.item.level n.size < 2 ^ 64)
      rights) come
  by-left-levels come rights f g =
      All-from_recursion _ come
      (all-map (λ (a : Held Rule). IsFit left a.item)
      (λ (a : Held Rule). All (λ (b : Held Rule). joined_level n.op a.item.level b.item.level n.size < 2 ^ 64)
      rights) come
      (λ a t. All-from_recursion _ rights
      (all-map (λ (b : Held Rule). IsFit right b.item)
      (λ (b : Held Rule). joined_level n.op a.item.level b.item.level n.size < 2 ^ 64) rights
      (λ b u. joined-fits n.op left right n.size a.item.level b.item.level s.size s.right_positive s.whole t.below
      u.below) g)) f)

  pub by-right-levels : (lefts come : List (Held Rule)) → AreFit left lefts → AreFit right come →
      All (λ (b : Held Rule). All (λ (a : Held Rule). joined_level n.op a.item.level b.item.level n.size < 2 ^ 64)
      lefts) come
  by-right-levels lefts come f g =
      All-from_recursion _ come
      (all-map (λ (b : Held Rule). IsFit right b.item)
      (λ (b : Held Rule). All (λ (a : Held Rule). joined_level n.op a.item.level b.item.level n.size < 2 ^ 64)
      lefts) come
      (λ b u. All-from_recursion _ lefts
      (all-map (λ (a : Held Rule). IsFit left a.item)
      (λ (a : Held Rule). joined_level n.op a.item.level b.item.level n.size < 2 ^ 64) lefts
      (λ a t. joined-fits n.op left right n.size a.item.level b.item.level s.size s.right_positive s.whole t.below
      u.below) f)) g)

pub fit-sound : (size : ℕ) (rules : List (Held Rule)) → AreFit size rules → AreSound rules
fit-sound size rules f = all-map (λ (h : Held Rule). IsFit size h.item) (λ (h : Held Rule). IsSound h.item) rules
    (λ h t. t.sound) f

pub fit-all-sound : (size : ℕ) (rules : List (Held Rule)) → AreFit size rules
    → All (λ (h : Held Rule). IsSound h.item) rules
fit-all-sound size rules f = All-from_recursion _ rules (fit-sound size rules f)

-- ---- what is made of rules that fit
lifted-fit : (level size n : ℕ) (a : Rule) → IsFit n a → level < size → IsFit size (lifted level a)
lifted-fit level size n a f lt =
    record { sound = record { normal = f.sound.normal; in_range = f.sound.in_range }; below = lt }

raised : (n k : ℕ) (a : Rule) → n ≤ k → IsFit n a → IsFit k a
raised n k a le f = record { sound = f.sound; below = let b = f.below in omega arith }

module _ (n k size : ℕ) (e : size ≡ k) (pn : 0 < n) (pk : 0 < k) where
  sum-fit : (a b r : Rule) → joined Par size a b ≡ Some r → IsFit n a → IsFit k b → IsFit (whole_size Par n k) r
  sum-fit a b r j f g =
      let s = some_met (summed a b) a.m b.m r j in
      subst (λ (z : Rule). IsFit (whole_size Par n k) z) s.1 (record {
        sound = record {
          normal = IsNormal-both a.m b.m s.0 f.sound.normal g.sound.normal;
          in_range = IsMatch-both a.m b.m f.sound.in_range g.sound.in_range;
        };
        below = below-size a.level b.level n k f.below g.below;
      })

  pass-fit : (t : Tail) (a b r : Rule) → passed t size a b ≡ Some r → IsFit n a → IsFit k b → IsFit (n * k) r
  pass-fit Nothing a b r j f g = absurd (cc)
  pass-fit (Link w p) a b r j f g = absurd (cc)
  pass-fit (Pass w) a b r j f g =
      let s = some_pulled (chained size w a b) a.m b.m w r j in
      subst (λ (z : Rule). IsFit (n * k) z) s.2 (record {
        sound = record {
          normal = IsNormal-both a.m (pulled w b.m) s.1 f.sound.normal (normal-pulled w b.m g.sound.normal);
          in_range = IsMatch-both a.m (pulled w b.m) f.sound.in_range (in-range w b.m g.sound.in_range);
        };
        below = subst (λ (z : ℕ). concat_level a.level b.level z < n * k) (sym e)
            (high a.level n k b.level f.below g.below);
      })

  pair-fit : (op : Op) (a b r : Rule) → op ≢ Hop → joined op size a b ≡ Some r → IsFit n a → IsFit k b
      → IsFit (whole_size op n k) r
  pair-fit Par a b r h j f g = sum-fit a b r j f g
  pair-fit Seq a b r h j f g = pass-fit a.tail a b r j f g
  pair-fit Over a b r h j f g = absurd (cc)
  pair-fit Hop a b r h j f g = absurd (h refl)

  chain-alone : (a : Rule) → IsFit n a → IsFit (n * k) (lifted (concat_level a.level 0 size) a)
  chain-alone a f = lifted-fit (concat_level a.level 0 size) (n * k) n a f
      (subst (λ (z : ℕ). concat_level a.level 0 z < n * k) (sym e) (high a.level n k 0 f.below pk))

  lone-fit : (op : Op) (t : Tail) (touched : Bool) (a r : Rule) → op ≢ Hop → lone_by op t touched size a ≡ Some r
      → IsFit n a → IsFit (whole_size op n k) r
  lone-fit Par t touched a r h j f = absurd (cc)
  lone-fit Seq (Pass w) touched a r h j f = absurd (cc)
  lone-fit Seq Nothing touched a r h j f = let s : lifted (concat_level a.level 0 size) a ≡ r = cc in
      subst (λ (z : Rule). IsFit (n * k) z) s (chain-alone a f)
  lone-fit Seq (Link w p) touched a r h j f = let s : lifted (concat_level a.level 0 size) a ≡ r = cc in
      subst (λ (z : Rule). IsFit (n * k) z) s (chain-alone a f)
  lone-fit Over t true a r h j f =
      let s : lifted (shift_level a.level size) a ≡ r = cc in
      subst (λ (z : Rule). IsFit (whole_size Over n k) z) s
      (lifted-fit (shift_level a.level size) (whole_size Over n k) n a f (let b = f.below in omega arith))
  lone-fit Over t false a r h j f = absurd (cc)
  lone-fit Hop t touched a r h j f = absurd (h refl)

  other-fit : (op : Op) (b r : Rule) → other op b ≡ Some r → IsFit k b → IsFit (whole_size op n k) r
  other-fit Par b r j g = absurd (cc)
  other-fit Seq b r j g = absurd (cc)
  other-fit Over b r j g = let s : b ≡ r = cc in
      subst (λ (z : Rule). IsFit (whole_size Over n k) z) s (raised k (whole_size Over n k) b (omega arith) g)
  other-fit Hop b r j g = absurd (cc)

  of-option : (f : Rule → Made) (P : Rule → Type 0) → ((r : Rule) → (f r).rule ≡ r) → (o : Option Rule) (c : Made)
      → option_map f o ≡ Some c → ((r : Rule) → o ≡ Some r → P r) → P c.rule
  of-option f P is None c j h = absurd (cc)
  of-option f P is (Some r) c j h = let s : f r ≡ c = cc in
      subst (λ (z : Made). P z.rule) s (subst P (sym (is r)) (h r refl))

  pub made-fit : (op : Op) (xs ys : List (Held Rule)) → op ≢ Hop → AreFit n xs → AreFit k ys
      → AllByRecursion (λ (m : Made). IsFit (whole_size op n k) m.rule) (made (held_way op size) xs ys)
  made-fit op xs ys h f g =
      let P : Made → Type 0 = λ m. IsFit (whole_size op n k) m.rule in
      let w = held_way op size in
      all-append P _ _
      (all-append P _ _
      (all-filter_map (λ (a : Held Rule). IsFit n a.item) P w.lone xs
      (λ a m j t. of-option _ (IsFit (whole_size op n k)) (λ r. refl) (lone op size a.item) m j
      (λ r o. lone-fit op a.item.tail a.item.touched a.item r h o t)) f)
      (all-flat_map (λ (a : Held Rule). IsFit n a.item) P (λ a. filter_map (w.pair a) ys) xs
      (λ a t. all-filter_map (λ (b : Held Rule). IsFit k b.item) P (w.pair a) ys
      (λ b m j u. of-option _ (IsFit (whole_size op n k)) (λ r. refl) (joined op size a.item b.item) m j
      (λ r o. pair-fit op a.item b.item r h o t u)) g) f))
      (all-filter_map (λ (b : Held Rule). IsFit k b.item) P w.other ys
      (λ b m j u. of-option _ (IsFit (whole_size op n k)) (λ r. refl) (other op b.item) m j
      (λ r o. other-fit op b.item r o u)) g)

pub items-fit : (size : ℕ) (hs : List (Held Made)) → AllByRecursion (λ (m : Made). IsFit size m.rule) (map item_of hs)
    → AreFit size (rules_in hs)
items-fit size [] a = tt
items-fit size (h ∷ hs) a = (a.0, items-fit size hs a.1)

-- what a node makes of operands that fit fits
pub node-fit : (n : NodeOf) (left right : ℕ) (xs ys : List (Held Rule)) (hs : List (Held Made)) → SizesFit n left right
    → n.op ≢ Hop → AreFit left xs → AreFit right ys → IsPermutation (map item_of hs) (made_by n xs ys) →
    AreFit (whole_size n.op left right) (rules_in hs)
node-fit n left right xs ys hs s h f g p =
    items-fit (whole_size n.op left right) hs
    (all-permuted (made_by n xs ys) (map item_of hs) (IsPermutation-sym _ _ p)
    (λ (m : Made). IsFit (whole_size n.op left right) m.rule)
    (made-fit left right n.size s.size s.left_positive s.right_positive n.op xs ys h f g))

pub right-within : (op : Op) (n k : ℕ) → 0 < n → 0 < k → whole_size op n k < 2 ^ 64 → k < 2 ^ 64
right-within Par n k pn pk w = omega arith
right-within Seq n k pn pk w = let h : k ≤ n * k = product-above n k pn pk in omega arith
right-within Over n k pn pk w = omega arith
right-within Hop n k pn pk w = let h : k ≤ n * k = product-above n k pn pk in omega arith
