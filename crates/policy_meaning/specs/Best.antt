-- The one rule that is above all others that hold a header.
use Rattle.std.specs.Prelude.{◌≡◌, ℕ, ◌<◌, true, false, List, ◌∷◌}
use Rattle.std.specs.List.{AllByRecursion}
use Rattle.of10_match.specs.Fields.{HeaderOf}
use Rattle.of10_match.specs.Matching.{holds}
use Rattle.of10_match.specs.Normal.{IsNormal}
use Rattle.of10_actions.specs.Effects.{BuildsUp}
use Rattle.of10_actions.specs.declared.effects.Out.{Out}
use Rattle.of10_actions.specs.declared.effects.Tail.{Tail}
use Rattle.policy_meaning.specs.declared.meaning.Meaning.{Meaning}
use Rattle.policy_meaning.specs.declared.rule.Rule.{Rule}

-- each rule that holds the header is such
abbrev pub EachAt : HeaderOf → (Rule → Type 0) → List Rule → Type 0
EachAt h P xs = AllByRecursion (λ (x : Rule). holds x.m h ≡ true → P x) xs

-- the rule is below a level
abbrev pub Below : ℕ → Rule → Type 0
Below n x = x.level < n

-- no entry of a member acts
abbrev pub IsUntouched : Rule → Type 0
IsUntouched x = x.touched ≡ false

-- the rule stands once in the list, holds the header, and is above every other one that does
pub data IsBest (h : HeaderOf) : List Rule → Rule → Type 0 where
  first : {r : Rule} {rs : List Rule} → holds r.m h ≡ true → EachAt h (Below r.level) rs → IsBest h (r ∷ rs) r
  later : {r x : Rule} {rs : List Rule} → (holds x.m h ≡ true → x.level < r.level) → IsBest h rs r → IsBest h (x ∷ rs) r

-- what a rule does
abbrev pub meaning_of : Rule → Meaning
meaning_of r = record { touched = r.touched; outs = r.outs; tail = r.tail }

-- one list of actions can do it: each rewrite extends the one before it, and the tail's extends all
abbrev pub BuildUp : List Out → Tail → Type 0
BuildUp outs tail = BuildsUp (record { outs = outs; tail = tail })

-- the rule's match is normal, and one list of actions can do what it does
pub record IsSound (r : Rule) : Type 0 where
  pub is_normal : IsNormal r.m
  pub builds : BuildUp r.outs r.tail

-- what rules of so many levels say of a header: exactly one is best, it means this, and one list of actions can do it
pub record Says (h : HeaderOf) (rules : List Rule) (size : ℕ) (meaning : Meaning) : Type 0 where
  pub rule : Rule
  pub best : IsBest h rules rule
  pub below : rule.level < size
  pub means : meaning_of rule ≡ meaning
  -- where no entry acts in the best rule, none acts in any rule that holds the header
  pub untouched : rule.touched ≡ false → EachAt h IsUntouched rules
