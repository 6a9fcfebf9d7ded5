-- The values that rules set are in their ranges.
use Rattle.std.specs.Prelude.{◌≡◌, ℕ, ◌<◌, ◌^◌, ◌%◌, IfSome, List}
use Rattle.std.specs.List.{AllByRecursion}
use Rattle.of10_actions.specs.Fields.{RewriteOf}
use Rattle.of10_actions.specs.declared.effects.Out.{Out}
use Rattle.of10_actions.specs.declared.effects.Tail.{Tail}
use Rattle.of10_actions.specs.declared.effects.Tail.TheVariants.{Nothing, Pass, Link}
use Rattle.policy_expr.specs.Policy.{Policy}
use Rattle.policy_meaning.specs.Fitting.{composed_of}
use Rattle.policy_meaning.specs.Hops.{node}
use Rattle.policy_meaning.specs.Networks.{fabric_of}
use Rattle.policy_meaning.specs.declared.leaf.LeafEntry.{LeafEntry}
use Rattle.policy_meaning.specs.declared.leaf.LeafTable.{LeafTable}
use Rattle.policy_meaning.specs.declared.network.Network.{Network}
use Rattle.policy_meaning.specs.declared.rule.Rule.{Rule}

-- the values of a rewrite are in their ranges
pub record SetsInRange (r : RewriteOf) : Type 0 where
  pub dl_src : IfSome r.dl_src (λ v. v < 2 ^ 48)
  pub dl_dst : IfSome r.dl_dst (λ v. v < 2 ^ 48)
  pub nw_tos : IfSome r.nw_tos (λ v. v % 4 ≡ 0)

abbrev pub TailInRange : Tail → Type 0
TailInRange Nothing = Unit {0}
TailInRange (Pass r) = SetsInRange r
TailInRange (Link r port) = SetsInRange r

-- what outs and a tail set is
abbrev pub AllInRange : List Out → Tail → Type 0
AllInRange outs tail = AllByRecursion (λ (o : Out). SetsInRange o.rewrite) outs × TailInRange tail

-- what a rule sets is
abbrev pub RuleInRange : Rule → Type 0
RuleInRange r = AllInRange r.outs r.tail

-- what the entries of a member's table set is
abbrev pub EntriesInRange : LeafTable → Type 0
EntriesInRange t = AllByRecursion (λ (e : LeafEntry). AllInRange e.effects.outs e.effects.tail) t.entries

-- where the entries of members are, the rules of an expression are
abbrev pub RulesAreInRange : Type 0
RulesAreInRange =
    (tables : List LeafTable) → AllByRecursion EntriesInRange tables
    → (ports : List ℕ) (e : Policy) → AllByRecursion RuleInRange (composed_of tables ports e).rules

-- and so are those of a node, through hops
abbrev pub NodesAreInRange : Type 0
NodesAreInRange =
    (net : Network) → AllByRecursion EntriesInRange net.tables
    → (hops v port : ℕ) → AllByRecursion RuleInRange (node (fabric_of net) hops v port)
