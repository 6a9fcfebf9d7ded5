-- The central fact: the rules of an expression mean what the expression means.
use Rattle.std.specs.Prelude.{◌≡◌, ℕ, Bool, true, List}
use Rattle.std.specs.List.{AllByRecursion}
use Rattle.of10_match.specs.Fields.{HeaderOf}
use Rattle.of10_actions.specs.Rewriting.{no_rewrite}
use Rattle.of10_actions.specs.declared.effects.Out.{Out}
use Rattle.of10_actions.specs.declared.effects.Tail.{Tail}
use Rattle.of10_actions.specs.declared.effects.Tail.TheVariants.{Nothing}
use Rattle.policy_expr.specs.Policy.{Policy, member, parallel, sequential, override}
use Rattle.policy_expr.specs.Sizes.{size_of}
use Rattle.policy_meaning.specs.Meaning.{evaluate}
use Rattle.policy_meaning.specs.Rules.{rules_of}
use Rattle.policy_meaning.specs.Best.{IsSound, Says}
use Rattle.policy_meaning.specs.declared.meaning.Meaning.{Meaning}
use Rattle.policy_meaning.specs.declared.rule.Rule.{Rule}

-- nothing is set, and nothing follows
pub record ArePlain (outs : List Out) (tail : Tail) : Type 0 where
  pub sets : AllByRecursion (λ (o : Out). o.rewrite ≡ no_rewrite) outs
  pub ends : tail ≡ Nothing

-- the rule sets no field and has no tail
abbrev pub IsPlainRule : Rule → Type 0
IsPlainRule r = ArePlain r.outs r.tail

-- each member of the expression is such
abbrev pub EachMember : (ℕ → Type 0) → Policy → Type 0
EachMember P (member i) = P i
EachMember P (parallel a b) = EachMember P a × EachMember P b
EachMember P (sequential a b) = EachMember P a × EachMember P b
EachMember P (override a b) = EachMember P a × EachMember P b

-- each member of a left operand of `+` is such
abbrev pub EachLeft : (ℕ → Type 0) → Policy → Type 0
EachLeft P (member i) = Unit {0}
EachLeft P (parallel a b) = EachMember P a × EachLeft P a × EachLeft P b
EachLeft P (sequential a b) = EachLeft P a × EachLeft P b
EachLeft P (override a b) = EachLeft P a × EachLeft P b

-- what is asked of the members of an expression, for the headers that come by some ports
pub record AreSoundLeaves (port : ℕ → Bool) (sizes : ℕ → ℕ) (rules : ℕ → List Rule) (leaf : ℕ → HeaderOf
    → Meaning) (i : ℕ) : Type 0 where
  pub says : (h : HeaderOf) → port h.in_port ≡ true → Says h (rules i) (sizes i) (leaf i h)
  pub sound : AllByRecursion IsSound (rules i)

-- no rule of a member sets a field or has a tail
abbrev pub IsPlainLeaf : (ℕ → List Rule) → ℕ → Type 0
IsPlainLeaf rules i = AllByRecursion IsPlainRule (rules i)

-- of the rules of an expression that hold a header exactly one is best, below the expression's size, and it means
-- what the expression means
abbrev pub CentralFact : Type 0
CentralFact =
    (port : ℕ → Bool) (sizes : ℕ → ℕ) (rules : ℕ → List Rule) (leaf : ℕ → HeaderOf → Meaning) (e : Policy)
    → EachMember (AreSoundLeaves port sizes rules leaf) e
    → (h : HeaderOf) → port h.in_port ≡ true → Says h (rules_of sizes rules e) (size_of sizes e) (evaluate leaf e h)

-- and where no member of a left operand of `+` sets a field or has a tail, one list of actions can do what each rule
-- does
abbrev pub RulesAreSound : Type 0
RulesAreSound =
    (sizes : ℕ → ℕ) (rules : ℕ → List Rule) (e : Policy)
    → EachMember (λ i. AllByRecursion IsSound (rules i)) e → EachLeft (IsPlainLeaf rules) e
    → AllByRecursion IsSound (rules_of sizes rules e)
