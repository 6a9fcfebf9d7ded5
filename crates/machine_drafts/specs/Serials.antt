-- Whether a serial number is left for an entry of each member.
use Rattle.std.specs.Prelude.{◌+◌, ◌<◌, ◌^◌, List}
use Rattle.std.specs.List.{AllByRecursion}
use Rattle.machine_meaning.specs.States.{MemberOf}
use Rattle.machine_drafts.specs.MemberDrafts.{MemberDraftOf}
use Rattle.machine_drafts.specs.Views.{member_of}
use Rattle.machine_drafts.specs.declared.session.Member.{Member}

-- a serial number is left for an entry of a member
abbrev pub HasSerial : MemberOf → Type 0
HasSerial x = x.kept.table.next + 1 < 2 ^ 64

-- of each member that stands, and of each as an event leaves it so far
abbrev pub StandingHaveSerials : List Member → Type 0
StandingHaveSerials ms = AllByRecursion (λ (m : Member). HasSerial (member_of m)) ms

abbrev pub DraftsHaveSerials : List MemberDraftOf → Type 0
DraftsHaveSerials ms = AllByRecursion (λ (m : MemberDraftOf). HasSerial m.now) ms
