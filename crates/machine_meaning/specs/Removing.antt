-- Entries leave the tables of members.
use Rattle.std.specs.Prelude.{ℕ, List, ◌++◌, filter, flat_map, map}
use Rattle.std.specs.List.{enumerate_from}
use Rattle.member_state.specs.Changes.{entries_of, expired, is_told, rising_serials}
use Rattle.member_state.specs.States.{MemberStateOf}
use Rattle.member_table.specs.Timeouts.{is_hard_due}
use Rattle.member_table.specs.declared.entry.Entry.{Entry}
use Rattle.machine_meaning.specs.States.{MemberOf, State}
use Rattle.machine_meaning.specs.declared.state.Owed.{Owed}

-- a member with another table and levels
abbrev pub with_kept : (MemberStateOf → MemberStateOf) → MemberOf → MemberOf
with_kept f x = record x { kept = f x.kept }

-- of the entries of a member that were removed those whose FLOW_REMOVED is owed, with the reason and the moment
abbrev pub owing : ℕ → ℕ → ℕ → List Entry → List Owed
owing n reason moment es =
    map (λ (e : Entry). record { member = n; entry = e; reason = reason; moment = moment }) (filter is_told es)

-- the entries of a member that have stood for their hard timeouts at a moment, by their numbers
abbrev pub due_in : ℕ → MemberOf → List Entry
due_in now x = entries_of x.kept.table.entries (rising_serials (is_hard_due now) x.kept.table.entries)

-- what is owed for them, with the reason HARD_TIMEOUT
abbrev pub owed_for : ℕ → ℕ × MemberOf → List Owed
owed_for now (n, x) = owing n 1 now (due_in now x)

-- such entries are removed
abbrev pub without_expired : State → State
without_expired s = record s {
  members = map (with_kept (expired s.moment)) s.members;
  owed = s.owed ++ flat_map (owed_for s.moment) (enumerate_from 0 s.members);
}
