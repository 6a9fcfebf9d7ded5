-- The evaluations of a walk, and the members that each asks.
use Rattle.std.specs.Prelude.{ℕ, zero, suc, ◌+◌, Bool, true, false, Option, Some, None, if◌then◌else◌, List, [], ◌∷◌}
use Rattle.std.specs.Prelude.{◌++◌, map, slice_get}
use Rattle.of10_match.specs.Fields.{HeaderOf}
use Rattle.of10_actions.specs.Fields.{RewriteOf}
use Rattle.of10_actions.specs.Rewriting.{apply}
use Rattle.of10_actions.specs.declared.effects.Tail.{Tail}
use Rattle.of10_actions.specs.declared.effects.Tail.TheVariants.{Nothing, Pass, Link}
use Rattle.policy_expr.specs.Policy.{Policy, member, parallel, sequential, override}
use Rattle.policy_meaning.specs.Hops.{leads}
use Rattle.policy_meaning.specs.Leaf.{best_entry, is_inside}
use Rattle.policy_meaning.specs.Meaning.{evaluate}
use Rattle.policy_meaning.specs.Networks.{table_meaning}
use Rattle.policy_meaning.specs.Switches.{SwitchOf}
use Rattle.policy_meaning.specs.Walk.{arriving, takes}
use Rattle.policy_meaning.specs.declared.leaf.LeafEntry.{LeafEntry}
use Rattle.policy_meaning.specs.declared.leaf.LeafTable.{LeafTable}
use Rattle.policy_meaning.specs.declared.meaning.Meaning.{Meaning}
use Rattle.policy_meaning.specs.declared.network.Network.{Network}
use Rattle.policy_meaning.specs.declared.network.Onward.{Onward}
use Rattle.explain_path.specs.declared.trace.HopTrace.{HopTrace}
use Rattle.explain_path.specs.declared.trace.LeafTrace.{LeafTrace}

-- a miss is 1, an entry 2 and its serial number
abbrev pub entry_kind : Option LeafEntry → ℕ
entry_kind None = 1
entry_kind (Some e) = 2 + e.serial

-- what of a member's table a header meets; 0 is outside
abbrev pub kind_of : LeafTable → HeaderOf → ℕ
kind_of t h = if is_inside t h then entry_kind (best_entry t.entries h) else 0

-- a member is asked; one without a table has nothing inside
abbrev pub asked_member : ℕ → Option LeafTable → HeaderOf → LeafTrace
asked_member i None h = record { member = i; kind = 0; used = true }
asked_member i (Some t) h = record { member = t.member; kind = kind_of t h; used = true }

-- it was asked, and what it has isn't used
abbrev pub unused : LeafTrace → LeafTrace
unused l = record l { used = false }

-- the right operand of `>>` is asked only where the left passes the packet on
abbrev pub asked_after : Tail → (RewriteOf → List LeafTrace) → List LeafTrace
asked_after Nothing right = []
asked_after (Link r port) right = []
asked_after (Pass r) right = right r

-- that of `|>` only where the left isn't touched, and then what the left has isn't used
abbrev pub asked_over : Bool → List LeafTrace → List LeafTrace → List LeafTrace
asked_over true left right = left
asked_over false left right = map unused left ++ right

-- what an expression over these tables does
abbrev pub does : List LeafTable → Policy → HeaderOf → Meaning
does tables e h = evaluate (λ i. table_meaning (slice_get tables i)) e h

-- the members that an expression asks of a header, in order
abbrev pub asked : List LeafTable → Policy → HeaderOf → List LeafTrace
asked tables (member i) h = asked_member i (slice_get tables i) h ∷ []
asked tables (parallel a b) h = asked tables a h ++ asked tables b h
asked tables (sequential a b) h = asked tables a h ++ asked_after (does tables a h).tail
    (λ r. asked tables b (apply r h))
asked tables (override a b) h = asked_over (does tables a h).touched (asked tables a h) (asked tables b h)

-- one evaluation
abbrev pub hop_trace : List LeafTable → Policy → ℕ → HeaderOf → HopTrace
hop_trace tables e v h = record { v = v; port = h.in_port; leaves = asked tables e h }

-- what follows, where the packet goes on so, or ends
abbrev pub traced_on : Option Onward → (ℕ → HeaderOf → List HopTrace) → HeaderOf → List HopTrace
traced_on None there h = []
traced_on (Some on) there h = there on.place.v (arriving on.rewrite on.place.port h)

-- one evaluation, and what follows; none where there is no such virtual switch, or where it doesn't take the packet
abbrev pub traced_at : List LeafTable → Option SwitchOf → ℕ → HeaderOf → (ℕ → HeaderOf → List HopTrace) → List HopTrace
traced_at tables None v h there = []
traced_at tables (Some s) v h there =
    if takes s.spread h
    then hop_trace tables s.expr v h ∷ traced_on (leads (does tables s.expr h).tail s.links h.in_port) there h
    else []

-- the evaluations of a walk in so many hops, in order
abbrev pub trace : Network → ℕ → ℕ → HeaderOf → List HopTrace
trace net zero v h = []
trace net (suc n) v h = traced_at net.tables (slice_get net.switches v) v h (trace net n)
