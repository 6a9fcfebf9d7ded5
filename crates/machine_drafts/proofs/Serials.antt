-- A serial number is left for an entry of a member.
use Rattle.std.proofs.Common.{ℕ, ◌+◌, ◌<◌, ◌^◌, List, Option, Some, None, arith}
use Rattle.std.specs.Prelude.{IfSome, if◌then◌else◌, is_some}
use Rattle.member_state.specs.States.{HeldState, IsSoundState, held_table}
use Rattle.member_state.specs.declared.planned.Planned.{Planned}
use Rattle.member_table.specs.Changes.{CanAdd}
use Rattle.member_table.specs.declared.entry.Entry.{Entry}
use Rattle.machine_drafts.specs.MemberDrafts.{IsReadyPlan, kept_after}

-- the number of the next entry, with an entry more if one comes
after_added : (h : HeldState) (removed : List ℕ) (new : Option Entry) → h.state.table.next + 1 < 2 ^ 64
    → IfSome new (CanAdd (held_table h) removed)
    → (if is_some new then h.state.table.next + 1 else h.state.table.next) + 1 < 2 ^ 64
after_added h removed None fits can = fits
after_added h removed (Some e) fits can =
    let more : h.state.table.next + 2 < 2 ^ 64 = can.more in
    let left : h.state.table.next + 1 + 1 < 2 ^ 64 = omega (arith, more) in
    left

pub serial_left : (h : HeldState) (planned : Option Planned) (now : ℕ) → IsSoundState h.state → IsReadyPlan h planned
    → (kept_after h.state planned now).table.next + 1 < 2 ^ 64
serial_left h None now sound ready = sound.table.fits
serial_left h (Some p) now sound ready =
    after_added h p.change.removed p.change.added sound.table.fits ready.change.added
