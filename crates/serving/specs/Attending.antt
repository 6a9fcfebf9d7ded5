-- How a run ends by what its works came to.
use Rattle.std.specs.Prelude.{◌≡◌, Bool, true, false, [], Result, Ok, Err}
use Rattle.cv_io.specs.declared.memory.Memory.{Memory}
use Rattle.events.specs.declared.event.Event.{Event}
use Rattle.events.specs.declared.event.Reply.{Reply}
use Rattle.policy_lock.specs.Seat.{SeatOf}
use Rattle.endpoint_works.specs.declared.audit.AuditEnd.{AuditEnd}
use Rattle.endpoint_works.specs.declared.audit.AuditEnd.TheVariants as ends
use Rattle.lock_desk.specs.Passes.{own_posts}
use Rattle.serving.specs.declared.closing.Rest.{Rest}
use Rattle.serving.specs.declared.closing.Rest.TheVariants as rests
use Rattle.serving.specs.declared.run.Served.{Served}
use Rattle.serving.specs.declared.run.Served.TheVariants as serveds

-- a seat that has posted nothing
abbrev pub IsSilent : {S : Type 0} → SeatOf Event Reply S → Type 0
IsSilent seat = own_posts seat.pass ≡ []

-- a line of the audit could not be written
abbrev pub is_cut_off : Result AuditEnd Memory → Bool
is_cut_off (Ok ends.WriteFault) = true
is_cut_off (Ok ends.Ended) = false
is_cut_off (Err m) = false

-- how a run ends whose audit was written so far, where a dial failed or not, and memory was wanted or not
abbrev pub settled : Rest → (failed wanted : Bool) → Served
settled rests.WriteFault failed wanted = serveds.Write
settled rests.Memory failed wanted = serveds.Memory
settled rests.Written true wanted = serveds.Link
settled rests.Written false true = serveds.Memory
settled rests.Written false false = serveds.Done
