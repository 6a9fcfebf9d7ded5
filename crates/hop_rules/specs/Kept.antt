-- What a table keeps: the rules that were handed over, and the nodes for each number of hops.
use Rattle.std.specs.Prelude.{◌≡◌, ℕ, ◌<◌, ◌≤◌, ◌^◌, List, length, map, suc}
use Rattle.policy_meaning.specs.Hops.{hop_size}
use Rattle.policy_meaning.specs.declared.rule.Rule.{Rule}
use Rattle.rule_ancestry.specs.Holding.{item_of}
use Rattle.made_rules.specs.Rules.{rules_in}
use Rattle.hop_rules.specs.Handed.{AreListed, GivenOf}
use Rattle.hop_rules.specs.Levels.{AreMade, AreTold, IsGiven, IsRow, given_at}
use Rattle.hop_rules.specs.Links.{ends}
use Rattle.hop_rules.specs.Nodes.{held_at}
use Rattle.hop_rules.specs.Tables.{IsHanded, TableOf, fabric, own_ports}
use Rattle.hop_rules.specs.Under.{Rises}
use Rattle.hop_rules.specs.declared.level.Stand.{Stand}
use Rattle.hop_rules.specs.declared.level.Told.{Told}
use Rattle.hop_rules.specs.declared.parts.Parts.{Parts}

-- the rules of virtual switches
abbrev pub rules_of : List GivenOf → List (List Rule)
rules_of gs = map (λ (g : GivenOf). map item_of g.rules) gs

-- the parts of a table have the rules of its virtual switches, and for each number of hops the nodes made of them
pub record IsKept (t : TableOf) (p : Parts) : Type 0 where
  pub rules : t.rules ≡ rules_of p.given
  pub sizes : length t.sizes ≡ length p.given
  pub whole : length t.whole ≡ length p.given
  pub given : IsGiven (fabric t) (ends t.plan) p.given
  pub rising : (v : ℕ) → Rises (given_at p.given v).rules
  pub listed : (v : ℕ) → AreListed (given_at p.given v) (given_at p.given v).rules
  pub last : IsRow (fabric t) (ends t.plan) 0 p.last
  pub last_rising : (k : ℕ) → Rises (rules_in (held_at p.last k))
  pub made : AreMade (fabric t) (ends t.plan) 0 p.given p.last p.levels p.top
  pub hops : suc (length p.levels) ≡ t.hops
  pub ports : map (λ (s : Stand). s.at) p.top.stands ≡ own_ports t
  pub fits : (n v : ℕ) → n ≤ t.hops → hop_size (fabric t) n v < 2 ^ 64

-- a table with these rules of virtual switches
abbrev pub with_rules : TableOf → List GivenOf → TableOf
with_rules t gs = record t { rules = rules_of gs }

-- a change of the rules of a virtual switch went through the parts of a table
pub record IsThrough (t : TableOf) (old new : Parts) (v : ℕ) (gone come : List Rule) (tolds : List Told) : Type 0 where
  pub kept : IsKept (with_rules t new.given) new
  pub handed : IsHanded t (with_rules t new.given) v gone come
  pub stands : new.top.stands ≡ old.top.stands
  pub told : AreTold old.top.nodes new.top.nodes tolds
