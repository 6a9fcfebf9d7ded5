-- How many actions write what a rule does: at most as many for each of its leaves as a member's entry has.
use Rattle.std.specs.Prelude.{◌≡◌, ℕ, ◌+◌, ◌*◌, ◌<◌, ◌≤◌, ◌==◌, Option, Some, None, if◌then◌else◌, List, [], ◌∷◌}
use Rattle.std.specs.Prelude.{length, slice_get}
use Rattle.std.specs.List.{AllByRecursion}
use Rattle.of10_actions.specs.Fields.{RewriteOf}
use Rattle.of10_actions.specs.Rewriting.{no_rewrite}
use Rattle.of10_actions.specs.declared.effects.Out.{Out}
use Rattle.of10_actions.specs.declared.effects.Tail.{Tail}
use Rattle.of10_actions.specs.declared.effects.Tail.TheVariants.{Nothing, Pass, Link}
use Rattle.policy_expr.specs.Policy.{Policy}
use Rattle.policy_expr.specs.Sizes.{leaf_count}
use Rattle.policy_meaning.specs.CentralFact.{EachLeft, EachMember}
use Rattle.policy_meaning.specs.EveryNode.{HasPlainTable, HasSoundTable, IsSoundNetwork}
use Rattle.policy_meaning.specs.Fitting.{composed_of}
use Rattle.policy_meaning.specs.Hops.{node}
use Rattle.policy_meaning.specs.Networks.{fabric_of}
use Rattle.policy_meaning.specs.Switches.{SwitchOf}
use Rattle.policy_meaning.specs.declared.leaf.LeafEntry.{LeafEntry}
use Rattle.policy_meaning.specs.declared.leaf.LeafTable.{LeafTable}
use Rattle.policy_meaning.specs.declared.network.Network.{Network}
use Rattle.policy_meaning.specs.declared.rule.Rule.{Rule}

-- one action sets a field to the value that is wanted, unless it has it
abbrev pub field_writes : Option ℕ → Option ℕ → ℕ
field_writes now None = 0
field_writes None (Some v) = 1
field_writes (Some u) (Some v) = if u == v then 0 else 1

-- how many actions make of a packet what one rewrite wants which is what another made it
abbrev pub set_writes : RewriteOf → RewriteOf → ℕ
set_writes now want =
    field_writes now.dl_src want.dl_src +
    (field_writes now.dl_dst want.dl_dst +
    (field_writes now.nw_src want.nw_src + (field_writes now.nw_dst want.nw_dst
    + (field_writes now.nw_tos want.nw_tos +
    (field_writes now.tp_src want.tp_src + field_writes now.tp_dst want.tp_dst)))))

-- how many set the fields of a tail
abbrev pub tail_writes : RewriteOf → Tail → ℕ
tail_writes now Nothing = 0
tail_writes now (Pass r) = set_writes now r
tail_writes now (Link r port) = set_writes now r

-- how many write outs and then set the fields of a tail, where a rewrite is in force: one for each out, and its sets
abbrev pub writes_from : RewriteOf → List Out → Tail → ℕ
writes_from now [] tail = tail_writes now tail
writes_from now (o ∷ os) tail = set_writes now o.rewrite + (1 + writes_from o.rewrite os tail)

abbrev pub writes : List Out → Tail → ℕ
writes outs tail = writes_from no_rewrite outs tail

-- a rule is written by so many actions for each of its leaves
abbrev pub IsWrittenBy : ℕ → Rule → Type 0
IsWrittenBy n r = writes r.outs r.tail ≤ n * length r.ancestry

-- each entry of a member's table is written by so many
abbrev pub EntriesAreWrittenBy : ℕ → LeafTable → Type 0
EntriesAreWrittenBy n t = AllByRecursion (λ (e : LeafEntry). writes e.effects.outs e.effects.tail ≤ n) t.entries

-- where entries are written by so many actions, each rule of an expression is written by so many for each of its leaves
abbrev pub RulesAreWritten : Type 0
RulesAreWritten =
    (n : ℕ) → 0 < n → (tables : List LeafTable) → AllByRecursion (EntriesAreWrittenBy n) tables
    → (ports : List ℕ) (e : Policy) → EachMember (λ i. HasSoundTable (slice_get tables i)) e
    → EachLeft (λ i. HasPlainTable (slice_get tables i)) e
    → AllByRecursion (IsWrittenBy n) (composed_of tables ports e).rules

-- and so is each rule of a node, through hops
abbrev pub NodesAreWritten : Type 0
NodesAreWritten =
    (n : ℕ) → 0 < n → (net : Network) → AllByRecursion (EntriesAreWrittenBy n) net.tables → IsSoundNetwork net
    → (hops v port : ℕ) → AllByRecursion (IsWrittenBy n) (node (fabric_of net) hops v port)

-- a rule has at most so many leaves
abbrev pub HasLeaves : ℕ → Rule → Type 0
HasLeaves n r = length r.ancestry ≤ n

-- the rules of an expression have at most its leaves
abbrev pub RulesHaveLeaves : Type 0
RulesHaveLeaves = (tables : List LeafTable) (ports : List ℕ) (e : Policy)
    → AllByRecursion (HasLeaves (leaf_count e)) (composed_of tables ports e).rules

-- those of a node at most so many for each hop, where no expression has more
abbrev pub NodesHaveLeaves : Type 0
NodesHaveLeaves =
    (net : Network) (most : ℕ) → ((v : ℕ) (s : SwitchOf) → slice_get net.switches v ≡ Some s → leaf_count s.expr ≤ most)
    → (hops v port : ℕ) → AllByRecursion (HasLeaves (hops * most)) (node (fabric_of net) hops v port)
