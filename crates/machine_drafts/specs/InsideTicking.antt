-- How entries expire and come into doubt, member by member.
use Rattle.std.specs.Prelude.{◌≡◌, ℕ, ◌==◌, List, [], if◌then◌else◌, map, slice_get}
use Rattle.std.specs.Option.{option_map_or}
use Rattle.policies.specs.declared.policy.MemberItem.{MemberItem}
use Rattle.machine_drafts.specs.MemberDrafts.{MemberDraftOf}
use Rattle.machine_meaning.specs.Names.{virtual_of}
use Rattle.machine_drafts.specs.Outcomes.{member_bases, members_in}
use Rattle.machine_meaning.specs.Removing.{owed_for}
use Rattle.machine_meaning.specs.States.{MemberOf, State}
use Rattle.machine_meaning.specs.Ticking.{doubts_in}
use Rattle.machine_drafts.specs.Views.{member_of}
use Rattle.machine_meaning.specs.declared.state.Owed.{Owed}
use Rattle.waitings.specs.declared.state.Doubt.{Doubt}

-- the event changed no member yet
abbrev pub AreFresh : List MemberDraftOf → Type 0
AreFresh members = members_in members ≡ map member_of (member_bases members)

-- what is owed for the entries of the member of a number that have stood for their hard timeouts, if there is one
abbrev pub owed_at : ℕ → ℕ → List MemberOf → List Owed
owed_at now n members = option_map_or (λ (x : MemberOf). owed_for now (n, x)) (slice_get members n) []

-- the doubts on its entries
abbrev pub doubts_on : State → ℕ → List Doubt
doubts_on s n = option_map_or (λ (x : MemberOf). doubts_in s (n, x)) (slice_get s.members n) []

-- and where it is one of the virtual switch
abbrev pub doubts_on_member : State → ℕ → ℕ → MemberItem → List Doubt
doubts_on_member s v n m = if virtual_of m == v then doubts_on s n else []
