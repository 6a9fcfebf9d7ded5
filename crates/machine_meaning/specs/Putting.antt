-- What is said is put into outboxes and into the audit.
use Rattle.std.specs.Prelude.{ℕ, ◌==◌, List, ◌++◌, filter, flat_map, if◌then◌else◌, map}
use Rattle.std.specs.List.{enumerate_from}
use Rattle.member_replies.specs.Audit.{down_line, slow_line}
use Rattle.outbox.specs.Outboxes.{OutboxOf, with_more}
use Rattle.policies.specs.Policies.{PolicyOf}
use Rattle.policies.specs.declared.policy.MemberItem.{MemberItem}
use Rattle.machine_meaning.specs.Drafts.{Draft, said_to}
use Rattle.machine_meaning.specs.Lists.{places}
use Rattle.machine_meaning.specs.Names.{switch_name}
use Rattle.machine_meaning.specs.States.{MemberOf, State, SwitchOf}
use Rattle.machine_meaning.specs.declared.said.Down.{Down}

-- what is put to a member: the answer to its message, ports, what settles, removed entries, packets
abbrev pub for_member : Draft → ℕ → List (List ℕ)
for_member d n =
    said_to n d.answers ++ (said_to n d.ports ++ (said_to n d.settled ++ (said_to n d.removed ++ said_to n d.told)))

-- what is put to a switch: its batch, polls, packets, and then what has an xid of its own
abbrev pub for_switch : Draft → ℕ → List (List ℕ)
for_switch d n = said_to n d.batches ++ (said_to n d.polls ++ (said_to n d.packets ++ said_to n d.echoes))

-- an outbox that is put messages where the session is up
abbrev pub put_to : List (List ℕ) → OutboxOf → OutboxOf
put_to messages o = if o.up then with_more messages o else o

abbrev pub put_to_member : Draft → ℕ × MemberOf → MemberOf
put_to_member d (n, x) = record x { outbox = put_to (for_member d n) x.outbox }

abbrev pub put_to_switch : Draft → ℕ × SwitchOf → SwitchOf
put_to_switch d (n, x) = record x { outbox = put_to (for_switch d n) x.outbox }

-- the lines of a switch's rounds that ended
abbrev pub down_lines : PolicyOf → List Down → ℕ → List (List ℕ)
down_lines p downs n =
    map (λ (x : Down). down_line (switch_name p n) x.cause) (filter (λ (x : Down). x.switch == n) downs)

-- the line of a member that is closed as slow
abbrev pub slow_lines : List ℕ → ℕ × MemberItem → List (List ℕ)
slow_lines slows (n, m) = map (λ k. slow_line m.controller m.vsw) (filter (λ k. k == n) slows)

-- the audit's lines: a new expression; a denial; switches that went and then slow members, both in the order of the
-- file; notes
abbrev pub lines_of : PolicyOf → Draft → List (List ℕ)
lines_of p d =
    d.policies ++
    (d.denials ++
    (flat_map (down_lines p d.downs) (places p.switches)
    ++ (flat_map (slow_lines d.slows) (enumerate_from 0 p.members) ++ d.notes)))

-- all is put
abbrev pub put : PolicyOf → Draft → State
put p d = record d.state {
  members = map (put_to_member d) (enumerate_from 0 d.state.members);
  switches = map (put_to_switch d) (enumerate_from 0 d.state.switches);
  audit = d.state.audit ++ lines_of p d;
}
