-- The central fact, over the expression.
use Rattle.std.proofs.Common.{◌≡◌, ℕ, Bool, true, List, ◌++◌}
use Rattle.std.specs.List.{AllByRecursion}
use Rattle.of10_match.specs.Fields.{HeaderOf}
use Rattle.of10_actions.specs.Fields.{RewriteOf}
use Rattle.of10_actions.specs.Rewriting.{apply, no_rewrite}
use Rattle.pull_back.specs.Pulling.{pulled}
use Rattle.of10_actions.specs.declared.effects.Out.{Out}
use Rattle.of10_actions.specs.declared.effects.Tail.{Tail}
use Rattle.of10_actions.specs.declared.effects.Tail.TheVariants.{Nothing, Pass}
use Rattle.policy_expr.specs.Policy.{Policy, member, parallel, sequential, override}
use Rattle.policy_expr.specs.Sizes.{size_of}
use Rattle.policy_meaning.specs.Meaning.{evaluate}
use Rattle.policy_meaning.specs.Rules.{rules_of}
use Rattle.policy_meaning.specs.Best.{IsSound, BuildUp, Says}
use Rattle.policy_meaning.specs.CentralFact.{IsPlainRule, EachMember, EachLeft, AreSoundLeaves, IsPlainLeaf}
use Rattle.policy_meaning.specs.CentralFact.{CentralFact, RulesAreSound}
use Rattle.policy_meaning.specs.declared.meaning.Meaning.{Meaning}
use Rattle.policy_meaning.specs.declared.rule.Rule.{Rule}
use Rattle.policy_meaning.proofs.Lists.{all-map, all-zip, all-append}
use Rattle.of10_match.proofs.NormalMeet.{IsNormal-both}
use Rattle.pull_back.proofs.Normality.{normal-pulled}
use Rattle.policy_meaning.proofs.Building.{Rises, rises, builds, rises-then, rises-plain}
use Rattle.policy_meaning.proofs.Pairs.{each-sum, each-chain, each-shift}
use Rattle.policy_meaning.proofs.Sums.{sum-says}
use Rattle.policy_meaning.proofs.Chains.{HasNormal, chain-says}
use Rattle.policy_meaning.proofs.Shifts.{shift-says}

-- one list of actions can do what the rule does
abbrev Builds : Rule → Type 0
Builds r = BuildUp r.outs r.tail

-- such a rule, which sets no field and has no tail
abbrev PlainBuilds : Rule → Type 0
PlainBuilds r = IsPlainRule r × Builds r

pub each-member : (P Q : ℕ → Type 0) → ((i : ℕ) → P i → Q i) → (e : Policy) → EachMember P e → EachMember Q e
each-member P Q f (member i) p = f i p
each-member P Q f (parallel a b) p = (each-member P Q f a p.0, each-member P Q f b p.1)
each-member P Q f (sequential a b) p = (each-member P Q f a p.0, each-member P Q f b p.1)
each-member P Q f (override a b) p = (each-member P Q f a p.0, each-member P Q f b p.1)

not-passing : (t : Tail) (r : RewriteOf) → t ≡ Nothing → t ≡ Pass r → ⊥
not-passing t r e p = cc

sum-builds : (a x : Rule) → PlainBuilds a → Builds x → BuildUp (a.outs ++ x.outs) x.tail
sum-builds a x p q = builds (a.outs ++ x.outs) x.tail
    (rises-plain a.outs x.outs x.tail p.0.sets (rises x.outs x.tail q))

module _ (sizes : ℕ → ℕ) (rules : ℕ → List Rule) where
  abbrev Of : (Rule → Type 0) → Policy → Type 0
  Of P e = AllByRecursion P (rules_of sizes rules e)

  abbrev OfLeaf : (Rule → Type 0) → ℕ → Type 0
  OfLeaf P i = AllByRecursion P (rules i)

  pub all-normal : (e : Policy) → EachMember (OfLeaf HasNormal) e → Of HasNormal e
  all-normal (member i) p = p
  all-normal (parallel a b) p =
      each-sum HasNormal HasNormal HasNormal (λ x y nx ny o. IsNormal-both x.m y.m o nx ny) (rules_of sizes rules a)
      (rules_of sizes rules b) (all-normal a p.0) (all-normal b p.1)
  all-normal (sequential a b) p =
      each-chain HasNormal HasNormal HasNormal (size_of sizes b) (λ x n. n)
      (λ x y r t nx ny o. IsNormal-both x.m (pulled r y.m) o nx (normal-pulled r y.m ny)) (rules_of sizes rules a)
      (rules_of sizes rules b) (all-normal a p.0) (all-normal b p.1)
  all-normal (override a b) p =
      each-shift HasNormal HasNormal HasNormal (size_of sizes b) (λ x n. n) (rules_of sizes rules a)
      (rules_of sizes rules b) (all-normal a p.0) (all-normal b p.1)

  pub all-plain : (e : Policy) → EachMember (OfLeaf IsPlainRule) e → Of IsPlainRule e
  all-plain (member i) p = p
  all-plain (parallel a b) p =
      each-sum IsPlainRule IsPlainRule IsPlainRule
      (λ x y px py o. record
      { sets = all-append (λ (o : Out). o.rewrite ≡ no_rewrite) x.outs y.outs px.sets py.sets; ends = py.ends })
      (rules_of sizes rules a) (rules_of sizes rules b) (all-plain a p.0) (all-plain b p.1)
  all-plain (sequential a b) p =
      each-chain IsPlainRule IsPlainRule IsPlainRule (size_of sizes b) (λ x n. record { sets = n.sets; ends = n.ends })
      (λ x y r t px py o. absurd (not-passing x.tail r px.ends t)) (rules_of sizes rules a) (rules_of sizes rules b)
      (all-plain a p.0) (all-plain b p.1)
  all-plain (override a b) p =
      each-shift IsPlainRule IsPlainRule IsPlainRule (size_of sizes b) (λ x n. record { sets = n.sets; ends = n.ends })
      (rules_of sizes rules a) (rules_of sizes rules b) (all-plain a p.0) (all-plain b p.1)

  all-builds : (e : Policy) → EachMember (OfLeaf Builds) e → EachLeft (IsPlainLeaf rules) e → Of Builds e
  all-builds (member i) p l = p
  all-builds (parallel a b) p l =
      each-sum PlainBuilds Builds Builds (λ x y px py o. sum-builds x y px py) (rules_of sizes rules a)
      (rules_of sizes rules b)
      (all-zip IsPlainRule Builds (rules_of sizes rules a) (all-plain a l.0) (all-builds a p.0 l.1))
      (all-builds b p.1 l.2)
  all-builds (sequential a b) p l =
      each-chain Builds Builds Builds (size_of sizes b) (λ x n. n)
      (λ x y r t px py o. builds _ _
      (rises-then no_rewrite x.outs r y.outs y.tail
      (let q : Rises no_rewrite x.outs x.tail = rises x.outs x.tail px in rw t at q) (rises y.outs y.tail py)))
      (rules_of sizes rules a) (rules_of sizes rules b) (all-builds a p.0 l.0) (all-builds b p.1 l.1)
  all-builds (override a b) p l =
      each-shift Builds Builds Builds (size_of sizes b) (λ x n. n) (rules_of sizes rules a) (rules_of sizes rules b)
      (all-builds a p.0 l.0) (all-builds b p.1 l.1)

pub rules-are-sound : RulesAreSound
rules-are-sound sizes rules e p l =
    all-map (λ r. HasNormal r × Builds r) IsSound (rules_of sizes rules e)
    (λ r q. record { is_normal = q.0; builds = q.1 })
    (all-zip HasNormal Builds (rules_of sizes rules e)
    (all-normal sizes rules e (each-member _ _ (λ i s. all-map IsSound HasNormal (rules i) (λ r q. q.is_normal) s) e p))
    (all-builds sizes rules e (each-member _ _ (λ i s. all-map IsSound Builds (rules i) (λ r q. q.builds) s) e p) l))

module _ (port : ℕ → Bool) (sizes : ℕ → ℕ) (rules : ℕ → List Rule) (leaf : ℕ → HeaderOf → Meaning) where
  abbrev Good : Policy → Type 0
  Good e = EachMember (AreSoundLeaves port sizes rules leaf) e

  normal : (e : Policy) → Good e → AllByRecursion HasNormal (rules_of sizes rules e)
  normal e p = all-normal sizes rules e
      (each-member (AreSoundLeaves port sizes rules leaf) (λ i. AllByRecursion HasNormal (rules i))
      (λ i s. all-map IsSound HasNormal (rules i) (λ r q. q.is_normal) s.sound) e p)

  says : (e : Policy) → Good e → (h : HeaderOf) → port h.in_port ≡ true
      → Says h (rules_of sizes rules e) (size_of sizes e) (evaluate leaf e h)
  says (member i) p h ok = p.says h ok
  says (parallel a b) p h ok =
      sum-says h (rules_of sizes rules a) (rules_of sizes rules b) (size_of sizes a) (size_of sizes b)
      (evaluate leaf a h) (evaluate leaf b h) (says a p.0 h ok) (says b p.1 h ok)
  says (sequential a b) p h ok =
      chain-says h (rules_of sizes rules a) (rules_of sizes rules b) (size_of sizes a) (size_of sizes b)
      (evaluate leaf a h) (λ r. evaluate leaf b (apply r h)) (normal b p.1) (says a p.0 h ok)
      (λ r. says b p.1 (apply r h) ok)
  says (override a b) p h ok =
      shift-says h (rules_of sizes rules a) (rules_of sizes rules b) (size_of sizes a) (size_of sizes b)
      (evaluate leaf a h) (evaluate leaf b h) (says a p.0 h ok) (says b p.1 h ok)

pub central : CentralFact
central port sizes rules leaf e p h ok = says port sizes rules leaf e p h ok
