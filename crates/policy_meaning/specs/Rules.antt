-- The rules of an expression, from scratch: all pairs that meet, and all rules that stand alone.
use Rattle.std.specs.Prelude.{ℕ, Bool, ◌||◌, Option, List, [], ◌∷◌, ◌++◌, if◌then◌else◌, map, filter_map, flat_map}
use Rattle.std.specs.Prelude.{option_map}
use Rattle.std.specs.Option.{option_and_then}
use Rattle.of10_match.specs.Fields.{MatchOf}
use Rattle.of10_match.specs.Matching.{meet}
use Rattle.of10_actions.specs.Fields.{RewriteOf}
use Rattle.pull_back.specs.Pulling.{pull}
use Rattle.of10_actions.specs.declared.effects.Tail.{Tail}
use Rattle.of10_actions.specs.declared.effects.Tail.TheVariants.{Nothing, Pass, Link}
use Rattle.alg_priority.specs.Levels.{sum_level, concat_level, shift_level}
use Rattle.policy_expr.specs.Policy.{Policy, member, parallel, sequential, override}
use Rattle.policy_expr.specs.Sizes.{size_of}
use Rattle.policy_meaning.specs.Meaning.{out_after, tail_after}
use Rattle.policy_meaning.specs.declared.rule.Rule.{Rule}

-- the rule of a pair of `+`, where it holds m
abbrev pub summed : Rule → Rule → MatchOf → Rule
summed a b m = record {
  m = m;
  level = sum_level a.level b.level;
  touched = a.touched || b.touched;
  outs = a.outs ++ b.outs;
  tail = b.tail;
  ancestry = a.ancestry ++ b.ancestry;
}

-- the rule of a pair of `+`, or none where no header is in both
abbrev pub sum_rule : Rule → Rule → Option Rule
sum_rule a b = option_map (summed a b) (meet a.m b.m)

-- the rule of a pair of which b, with `size` levels, acts on packets that r rewrote, where it holds m
abbrev pub after_rewrite : ℕ → RewriteOf → Rule → Rule → Bool → Tail → MatchOf → Rule
after_rewrite size r a b touched tail m =
    record {
      m = m;
      level = concat_level a.level b.level size;
      touched = touched;
      outs = a.outs ++ map (out_after r) b.outs;
      tail = tail;
      ancestry = a.ancestry ++ b.ancestry;
    }

-- such a rule, or none where no header of a is asked for after r
abbrev pub rule_after : ℕ → RewriteOf → Rule → Rule → MatchOf → Bool → Tail → Option Rule
rule_after size r a b asked touched tail =
    option_map (after_rewrite size r a b touched tail) (option_and_then (meet a.m) (pull r asked))

-- the rule of a pair of `>>`, where a passes r on, b has `size` levels, and it holds m
abbrev pub chained : ℕ → RewriteOf → Rule → Rule → MatchOf → Rule
chained size r a b m = after_rewrite size r a b a.touched (tail_after r b.tail) m

-- the rule of a pair of `>>`, or none where no header of a is in b after r
abbrev pub chain_rule : ℕ → RewriteOf → Rule → Rule → Option Rule
chain_rule size r a b = rule_after size r a b b.m a.touched (tail_after r b.tail)

-- a rule that stands alone, at its level in the whole
abbrev pub lifted : ℕ → Rule → Rule
lifted level a = record a { level = level }

-- the rules that a rule of the left of `+` makes
abbrev pub sums_with : List Rule → Rule → List Rule
sums_with bs a = filter_map (sum_rule a) bs

-- the rules that a rule of the left of `>>` makes, where its tail is this: alone, unless it passes the packet on
abbrev pub chains_by : Tail → ℕ → List Rule → Rule → List Rule
chains_by Nothing size bs a = lifted (concat_level a.level 0 size) a ∷ []
chains_by (Link r port) size bs a = lifted (concat_level a.level 0 size) a ∷ []
chains_by (Pass r) size bs a = filter_map (chain_rule size r a) bs

-- the rules that a rule of the left of `>>` makes
abbrev pub chains_with : ℕ → List Rule → Rule → List Rule
chains_with size bs a = chains_by a.tail size bs a

-- the rule that a rule of the left of `|>` makes: above the right, if it is touched
abbrev pub shifts_with : ℕ → Rule → List Rule
shifts_with size a = if a.touched then lifted (shift_level a.level size) a ∷ [] else []

-- the rules of an expression, by the sizes and rules of its members
abbrev pub rules_of : (ℕ → ℕ) → (ℕ → List Rule) → Policy → List Rule
rules_of sizes leaf (member i) = leaf i
rules_of sizes leaf (parallel a b) = flat_map (sums_with (rules_of sizes leaf b)) (rules_of sizes leaf a)
rules_of sizes leaf (sequential a b) = flat_map (chains_with (size_of sizes b) (rules_of sizes leaf b))
    (rules_of sizes leaf a)
rules_of sizes leaf (override a b) = flat_map (shifts_with (size_of sizes b)) (rules_of sizes leaf a)
    ++ rules_of sizes leaf b
