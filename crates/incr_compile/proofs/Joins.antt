-- What one rule of an operand makes.
use Rattle.std.proofs.Common.{◌≡◌, ℕ, ◌+◌, ◌<◌, length, get_or, take, Bool, true, false, List, [], ◌∷◌, ◌++◌, Option}
use Rattle.std.proofs.Common.{Some, None, refl, sym, ap, ◌∙◌}
use Rattle.std.specs.Prelude.{filter_map, option_map, option_to_list, IsTrue, ◌↔◌}
use Rattle.std.specs.List.{cons_option}
use Rattle.std.proofs.lemmas.List.{append-nil}
use Rattle.policy_meaning.proofs.Steps.{pushed_some}
use Rattle.op_compose.specs.Composition.{Joins, joined, alone, passed, crossed}
use Rattle.op_compose.specs.declared.op.Op.{Op}
use Rattle.op_compose.specs.declared.op.Op.TheVariants.{Par, Seq, Over, Hop}
use Rattle.op_compose.specs.declared.op.Side.TheVariants.{Left}
use Rattle.of10_actions.specs.declared.effects.Tail.{Tail}
use Rattle.of10_actions.specs.declared.effects.Tail.TheVariants.{Nothing, Pass, Link}
use Rattle.policy_meaning.specs.declared.rule.Rule.{Rule}
use Rattle.rule_ancestry.specs.Holding.{Held}
use Rattle.list_change.specs.Pairing.{by_left}
use Rattle.made_rules.specs.declared.made.Made.{Made}
use Rattle.incr_compile.specs.Ways.{held_way, left_origin, made_with, lone, lone_by, right_origin, stays_out}

pub lone-in : (op : Op) (t : Tail) (touched : Bool) (size : ℕ) (a : Rule) → stays_out op touched ≡ false
    → (Joins op t → ⊥) → lone_by op t touched size a ≡ Some (alone op Left size a)
lone-in Par t touched size a e n = absurd (n tt)
lone-in Seq (Pass r) touched size a e n = absurd (n tt)
lone-in Seq Nothing touched size a e n = refl
lone-in Seq (Link r p) touched size a e n = refl
lone-in Over t true size a e n = refl
lone-in Over t false size a e n = absurd (cc)
lone-in Hop (Link r p) touched size a e n = absurd (n tt)
lone-in Hop Nothing touched size a e n = refl
lone-in Hop (Pass r) touched size a e n = refl

pub lone-out : (op : Op) (t : Tail) (touched : Bool) (size : ℕ) (a : Rule) → stays_out op touched ≡ true
    → lone_by op t touched size a ≡ None
lone-out Par t touched size a e = refl
lone-out Seq (Pass r) touched size a e = refl
lone-out Seq Nothing touched size a e = absurd (cc)
lone-out Seq (Link r p) touched size a e = absurd (cc)
lone-out Over t true size a e = absurd (cc)
lone-out Over t false size a e = refl
lone-out Hop (Link r p) touched size a e = absurd (cc)
lone-out Hop Nothing touched size a e = absurd (cc)
lone-out Hop (Pass r) touched size a e = absurd (cc)

-- a rule that is joined doesn't stand alone
pub lone-joined : (op : Op) (t : Tail) (touched : Bool) (size : ℕ) (a : Rule) → Joins op t
    → lone_by op t touched size a ≡ None
lone-joined Par t touched size a j = refl
lone-joined Seq (Pass r) touched size a j = refl
lone-joined Seq Nothing touched size a j = absurd j
lone-joined Seq (Link r p) touched size a j = absurd j
lone-joined Over t touched size a j = absurd j
lone-joined Hop (Link r p) touched size a j = refl
lone-joined Hop Nothing touched size a j = absurd j
lone-joined Hop (Pass r) touched size a j = absurd j

passed-none : (t : Tail) (size : ℕ) (a b : Rule) → (Joins Seq t → ⊥) → passed t size a b ≡ None
passed-none Nothing size a b n = refl
passed-none (Link r p) size a b n = refl
passed-none (Pass r) size a b n = absurd (n tt)

crossed-none : (t : Tail) (size : ℕ) (a b : Rule) → (Joins Hop t → ⊥) → crossed t size a b ≡ None
crossed-none Nothing size a b n = refl
crossed-none (Pass r) size a b n = refl
crossed-none (Link r p) size a b n = absurd (n tt)

-- a rule that isn't joined makes no pair
pub unjoined : (op : Op) (size : ℕ) (a b : Rule) → (Joins op a.tail → ⊥) → joined op size a b ≡ None
unjoined Par size a b n = absurd (n tt)
unjoined Seq size a b n = passed-none a.tail size a b n
unjoined Over size a b n = refl
unjoined Hop size a b n = crossed-none a.tail size a b n

module _ {B C D : Type 0} (f : B → C → D) where
  nothing-made : (g : B → Option C) → ((b : B) → g b ≡ None) → (ys : List B)
      → filter_map (λ b. option_map (f b) (g b)) ys ≡ []
  nothing-made g h [] = refl
  nothing-made g h (y ∷ ys) = ap (λ o. cons_option (option_map (f y) o) (filter_map (λ b. option_map (f b) (g b)) ys))
      (h y) ∙ nothing-made g h ys

cons-nil : {C : Type 0} (o : Option C) → cons_option o [] ≡ option_to_list o
cons-nil None = refl
cons-nil (Some c) = refl

-- what one that isn't joined makes
pub by_left-alone : (op : Op) (size : ℕ) (a : Held Rule) (ys : List (Held Rule)) → (Joins op a.item.tail → ⊥) →
    by_left (held_way op size) (a ∷ []) ys ≡ option_to_list ((held_way op size).lone a)
by_left-alone op size a ys n =
    ap (λ r. cons_option ((held_way op size).lone a) [] ++ (r ++ []))
    (nothing-made (λ (b : Held Rule). made_with (left_origin a.id ∷ right_origin b.id ∷ []))
    (λ (b : Held Rule). joined op size a.item b.item) (λ b. unjoined op size a.item b.item n) ys)
    ∙ append-nil _ ∙ cons-nil _

-- what one that is joined makes
pub by_left-joined : (op : Op) (size : ℕ) (a : Held Rule) (ys : List (Held Rule)) → Joins op a.item.tail →
    by_left (held_way op size) (a ∷ []) ys ≡ filter_map ((held_way op size).pair a) ys
by_left-joined op size a ys j =
    ap (λ o. cons_option (option_map (made_with (left_origin a.id ∷ [])) o) []
    ++ (filter_map ((held_way op size).pair a) ys ++ [])) (lone-joined op a.item.tail a.item.touched size a.item j)
    ∙ append-nil _

-- one more is made
pub made-more : (op : Op) (size : ℕ) (a : Held Rule) (ys : List (Held Rule)) (i : ℕ) (b : Held Rule)
    (old out new : List Made) (r : Option Rule) → i < length ys → b ≡ get_or ys i b →
    out ≡ old ++ filter_map ((held_way op size).pair a) (take i ys) → r ≡ joined op size a.item b.item
    → new ≡ out ++ option_to_list (option_map (made_with (left_origin a.id ∷ right_origin b.id ∷ [])) r) →
    new ≡ old ++ filter_map ((held_way op size).pair a) (take (i + 1) ys)
made-more op size a ys i b old out new r lt is far so added =
    pushed_some ((held_way op size).pair a) ys i b old out new
    (option_map (made_with (left_origin a.id ∷ right_origin b.id ∷ [])) r) lt is far
    (ap (option_map (made_with (left_origin a.id ∷ right_origin b.id ∷ []))) so) added

-- what one that isn't joined makes, appended
pub alone-added : (op : Op) (size : ℕ) (a : Held Rule) (ys : List (Held Rule)) (old new : List Made) (r : Option Rule)
    → (Joins op a.item.tail → ⊥) →
    r ≡ lone op size a.item → new ≡ old ++ option_to_list (option_map (made_with (left_origin a.id ∷ [])) r)
    → new ≡ old ++ by_left (held_way op size) (a ∷ []) ys
alone-added op size a ys old new r n so added =
    added ∙ ap (λ o. old ++ option_to_list (option_map (made_with (left_origin a.id ∷ [])) o)) so
    ∙ ap (λ z. old ++ z) (sym (by_left-alone op size a ys n))

pub not-so : (b : Bool) (P : Type 0) → b ≡ false → (IsTrue b ↔ P) → P → ⊥
not-so false P e h p = let t : IsTrue false = h.1 p in absurd (cc)
not-so true P e h p = absurd (cc)
