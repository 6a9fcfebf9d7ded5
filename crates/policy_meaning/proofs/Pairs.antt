-- What holds of each rule that an operator makes.
use Rattle.std.proofs.Common.{◌≡◌, ℕ, true, List, ◌++◌, refl, subst, ◌∷◌, []}
use Rattle.std.specs.Prelude.{flat_map, if◌then◌else◌, Bool, false}
use Rattle.std.specs.List.{AllByRecursion}
use Rattle.of10_match.specs.Matching.{overlaps, both}
use Rattle.of10_actions.specs.Fields.{RewriteOf}
use Rattle.pull_back.specs.Pulling.{pulled}
use Rattle.of10_actions.specs.declared.effects.Tail.{Tail}
use Rattle.of10_actions.specs.declared.effects.Tail.TheVariants.{Nothing, Pass, Link}
use Rattle.alg_priority.specs.Levels.{concat_level, shift_level}
use Rattle.policy_meaning.specs.Rules.{summed, sum_rule, sums_with, chained, chain_rule, chains_by, chains_with, lifted}
use Rattle.policy_meaning.specs.Rules.{shifts_with}
use Rattle.policy_meaning.specs.declared.rule.Rule.{Rule}
use Rattle.policy_meaning.proofs.Lists.{all-append, all-flat_map, all-filter_map}
use Rattle.policy_meaning.proofs.Meeting.{some_met, some_pulled}

module _ (P Q R : Rule → Type 0) where
  pub each-sum : ((a x : Rule) → P a → Q x → overlaps a.m x.m ≡ true → R (summed a x (both a.m x.m))) →
      (xs bs : List Rule) → AllByRecursion P xs → AllByRecursion Q bs → AllByRecursion R (flat_map (sums_with bs) xs)
  each-sum make xs bs p q =
      all-flat_map P R (sums_with bs) xs
      (λ a pa. all-filter_map Q R (sum_rule a) bs (λ x y e qx. let s = some_met (summed a x) a.m x.m y e in
      subst R s.1 (make a x pa qx s.0)) q)
      p

  module _ (size : ℕ) (lone : (a : Rule) → P a → R (lifted (concat_level a.level 0 size) a))
      (make : (a x : Rule) (r : RewriteOf) → a.tail ≡ Pass r → P a → Q x → overlaps a.m (pulled r x.m) ≡ true
      → R (chained size r a x (both a.m (pulled r x.m)))) where
    chain-part : (bs : List Rule) → AllByRecursion Q bs → (a : Rule) → P a → (t : Tail) → a.tail ≡ t
        → AllByRecursion R (chains_by t size bs a)
    chain-part bs q a p Nothing e = (lone a p, tt)
    chain-part bs q a p (Link r port) e = (lone a p, tt)
    chain-part bs q a p (Pass r) e =
        all-filter_map Q R (chain_rule size r a) bs (λ x y f qx. let s =
        some_pulled (chained size r a x) a.m x.m r y f in subst R s.2 (make a x r e p qx s.1)) q

    pub each-chain : (xs bs : List Rule) → AllByRecursion P xs → AllByRecursion Q bs
        → AllByRecursion R (flat_map (chains_with size bs) xs)
    each-chain xs bs p q = all-flat_map P R (chains_with size bs) xs (λ a pa. chain-part bs q a pa a.tail refl) p

  shift-part : (a : Rule) (level : ℕ) → R (lifted level a) → (t : Bool)
      → AllByRecursion R (if t then lifted level a ∷ [] else [])
  shift-part a level r true = (r, tt)
  shift-part a level r false = tt

  pub each-shift : (size : ℕ) → ((a : Rule) → P a → R (lifted (shift_level a.level size) a)) →
      (xs bs : List Rule) → AllByRecursion P xs → AllByRecursion R bs
      → AllByRecursion R (flat_map (shifts_with size) xs ++ bs)
  each-shift size lone xs bs p q =
      all-append R (flat_map (shifts_with size) xs) bs
      (all-flat_map P R (shifts_with size) xs
      (λ a pa. shift-part a (shift_level a.level size) (lone a pa) a.touched) p) q
