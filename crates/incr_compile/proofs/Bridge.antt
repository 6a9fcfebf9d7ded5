-- What operands make is what the rules of an operator are from scratch.
use Rattle.std.proofs.Common.{◌≡◌, ℕ, Bool, true, false, List, [], ◌∷◌, ◌++◌, Option, Some, None, refl, ap, ◌∙◌}
use Rattle.std.specs.Prelude.{flat_map, filter_map, map, option_map, IsPermutation, if◌then◌else◌}
use Rattle.std.specs.List.{cons_option}
use Rattle.std.proofs.lemmas.List.{append-nil, map-append}
use Rattle.std.proofs.lemmas.List.Sorted.{IsPermutation-trans}
use Rattle.alg_priority.specs.Levels.{concat_level, shift_level}
use Rattle.of10_actions.specs.declared.effects.Tail.{Tail}
use Rattle.of10_actions.specs.declared.effects.Tail.TheVariants.{Nothing, Pass, Link}
use Rattle.list_change.specs.Pairing.{made, pairs}
use Rattle.list_change.proofs.Flat.{filter-flat, flat-both, flat-same, none-of}
use Rattle.list_change.proofs.Permute.{by-equation}
use Rattle.op_compose.specs.Composition.{joined, passed}
use Rattle.op_compose.specs.declared.op.Op.{Op}
use Rattle.op_compose.specs.declared.op.Op.TheVariants.{Par, Seq, Over}
use Rattle.policy_meaning.specs.Rules.{sums_with, chains_with, chains_by, shifts_with, lifted}
use Rattle.policy_meaning.specs.declared.rule.Rule.{Rule}
use Rattle.rule_ancestry.specs.Holding.{Held, item_of}
use Rattle.made_rules.specs.Rules.{rule_of}
use Rattle.incr_compile.specs.Ways.{held_way, left_origin, lone, lone_by, made_with, other, right_origin, way}
use Rattle.incr_compile.specs.Ways.{without_ids}

module _ {B R C : Type 0} (v : B → R) (f : C → R) (mk : B → R → C) (is : (b : B) (r : R) → f (mk b r) ≡ r) (g : R
    → Option R) where
  head : (b : B) (o : Option R) (cs : List C) (rs : List R) → map f cs ≡ rs
      → map f (cons_option (option_map (mk b) o) cs) ≡ cons_option o rs
  head b None cs rs e = e
  head b (Some r) cs rs e = ap (λ z. f (mk b r) ∷ z) e ∙ ap (λ z. z ∷ rs) (is b r)

  mapped : (ys : List B) → map f (filter_map (λ b. option_map (mk b) (g (v b))) ys) ≡ filter_map g (map v ys)
  mapped [] = refl
  mapped (y ∷ ys) = head y (g (v y)) _ _ (mapped ys)

module _ (op : Op) (size : ℕ) where
  map-pairs : (xs ys : List (Held Rule))
      → map rule_of (pairs (held_way op size).pair xs ys) ≡ pairs (way op size).pair (without_ids xs) (without_ids ys)
  map-pairs [] ys = refl
  map-pairs (x ∷ xs) ys =
      map-append rule_of (filter_map ((held_way op size).pair x) ys) (pairs (held_way op size).pair xs ys)
      ∙ ap (λ z. z ++ map rule_of (pairs (held_way op size).pair xs ys))
      (mapped item_of rule_of (λ (b : Held Rule). made_with (left_origin x.id ∷ right_origin b.id ∷ []))
      (λ b r. refl) (joined op size x.item) ys)
      ∙ ap (λ z. filter_map (joined op size x.item) (without_ids ys) ++ z) (map-pairs xs ys)

  -- the rules that a node made are what the rules of the operands make
  pub rules-made : (xs ys : List (Held Rule))
      → map rule_of (made (held_way op size) xs ys) ≡ made (way op size) (without_ids xs) (without_ids ys)
  rules-made xs ys =
      map-append rule_of (filter_map (held_way op size).lone xs ++ pairs (held_way op size).pair xs ys)
      (filter_map (held_way op size).other ys)
      ∙ ap (λ z. z ++ map rule_of (filter_map (held_way op size).other ys))
      (map-append rule_of (filter_map (held_way op size).lone xs) (pairs (held_way op size).pair xs ys)
      ∙ ap (λ z. z ++ map rule_of (pairs (held_way op size).pair xs ys))
      (mapped item_of rule_of (λ (a : Held Rule). made_with (left_origin a.id ∷ [])) (λ b r. refl) (lone op size)
      xs)
      ∙ ap (λ z. filter_map (lone op size) (without_ids xs) ++ z) (map-pairs xs ys))
      ∙ ap (λ z. (filter_map (lone op size) (without_ids xs)
      ++ pairs (joined op size) (without_ids xs) (without_ids ys)) ++ z)
      (mapped item_of rule_of (λ (b : Held Rule). made_with (right_origin b.id ∷ [])) (λ b r. refl) (other op) ys)

pub made-sums : (size : ℕ) (xs ys : List Rule) → made (way Par size) xs ys ≡ flat_map (sums_with ys) xs
made-sums size xs ys =
    ap (λ z. (z ++ pairs (joined Par size) xs ys) ++ filter_map (other Par) ys) (none-of (lone Par size) (λ a. refl) xs)
    ∙ ap (λ z. pairs (joined Par size) xs ys ++ z) (none-of (other Par) (λ a. refl) ys) ∙ append-nil _

shift-one : (size : ℕ) (a : Rule) (t : Bool) → a.touched ≡ t
    → cons_option (lone_by Over a.tail t size a) [] ≡ (if t then lifted (shift_level a.level size) a ∷ [] else [])
shift-one size a true e = refl
shift-one size a false e = refl

some-all : {A : Type 0} (xs : List A) → filter_map (λ x. Some x) xs ≡ xs
some-all [] = refl
some-all (x ∷ xs) = ap (λ z. x ∷ z) (some-all xs)

none-paired : (xs ys : List Rule) (size : ℕ) → pairs (joined Over size) xs ys ≡ []
none-paired [] ys size = refl
none-paired (x ∷ xs) ys size = ap (λ z. z ++ pairs (joined Over size) xs ys)
    (none-of (joined Over size x) (λ b. refl) ys) ∙ none-paired xs ys size

chain-one : (size : ℕ) (a : Rule) (ys : List Rule) (t : Tail)
    → cons_option (lone_by Seq t a.touched size a) [] ++ filter_map (passed t size a) ys ≡ chains_by t size ys a
chain-one size a ys Nothing = ap (λ z. lifted (concat_level a.level 0 size) a ∷ z)
    (none-of (passed Nothing size a) (λ b. refl) ys)
chain-one size a ys (Link r p) = ap (λ z. lifted (concat_level a.level 0 size) a ∷ z)
    (none-of (passed (Link r p) size a) (λ b. refl) ys)
chain-one size a ys (Pass r) = refl

pub made-chains : (size : ℕ) (xs ys : List Rule)
    → IsPermutation (made (way Seq size) xs ys) (flat_map (chains_with size ys) xs)
made-chains size xs ys =
    IsPermutation-trans _ (flat_map (λ a. cons_option (lone Seq size a) []) xs ++ pairs (joined Seq size) xs ys) _
    (by-equation _ _ (ap (λ z. (filter_map (lone Seq size) xs ++ pairs (joined Seq size) xs ys) ++ z)
    (none-of (other Seq) (λ a. refl) ys) ∙ append-nil _
    ∙ ap (λ z. z ++ pairs (joined Seq size) xs ys) (filter-flat (lone Seq size) xs)))
    (IsPermutation-trans _ _ _
    (flat-both (λ a. cons_option (lone Seq size a) []) (λ a. filter_map (joined Seq size a) ys) xs)
    (by-equation _ _ (flat-same _ (chains_with size ys) (λ a. chain-one size a ys a.tail) xs)))

pub made-shifts : (size : ℕ) (xs ys : List Rule) → made (way Over size) xs ys ≡ flat_map (shifts_with size) xs ++ ys
made-shifts size xs ys =
    ap (λ z. (filter_map (lone Over size) xs ++ z) ++ filter_map (other Over) ys) (none-paired xs ys size)
    ∙ ap (λ z. z ++ filter_map (other Over) ys) (append-nil _ ∙ filter-flat (lone Over size) xs
    ∙ flat-same _ (shifts_with size) (λ a. shift-one size a a.touched refl) xs)
    ∙ ap (λ z. flat_map (shifts_with size) xs ++ z) (some-all ys)
