-- Steps of a reading.
use Rattle.std.specs.Prelude.{◌≡◌, ℕ, Bool, false, List, Option, ⊤}
use Rattle.outside.specs.Outside.{Rose}
use Rattle.sessions.specs.declared.ends.OpenEnd.{OpenEnd}
use Rattle.sessions.specs.declared.ends.OpenEnd.TheVariants as ends
use Rattle.sessions.specs.declared.incoming.Stop.{Stop}
use Rattle.sessions.specs.declared.incoming.Stop.TheVariants as stops
use Rattle.sessions.specs.Streams.{AppendsSome, IsAtEnd, IsCutShort, SinkFailed}

-- why a connection is not opened where there is no next frame
abbrev pub open_end : Stop → OpenEnd
open_end stops.Ended = ends.Ended
open_end (stops.Short length) = ends.Short length
open_end stops.ReadFault = ends.ReadFault
open_end stops.Memory = ends.Memory

-- why kept bytes give no frame
abbrev pub IsKeptStop : List ℕ → Stop → Type 0
IsKeptStop kept stops.Ended = ⊥
IsKeptStop kept (stops.Short length) = IsCutShort kept length
IsKeptStop kept stops.ReadFault = ⊥
IsKeptStop kept stops.Memory = ⊤

-- why a source gives nothing
abbrev pub IsReadStop : (before after : Option (List ℕ)) (faults risen : ℕ) → Bool → Stop → Type 0
IsReadStop before after faults risen is_reliable stops.Ended = (after ≡ before) × IsAtEnd after
IsReadStop before after faults risen is_reliable (stops.Short length) = ⊥
IsReadStop before after faults risen is_reliable stops.ReadFault = (after ≡ before) × Rose faults risen
    × (is_reliable ≡ false)
IsReadStop before after faults risen is_reliable stops.Memory = ⊥

-- why bytes are not sent
abbrev pub IsSendEnd : (held now : Option (List ℕ)) (bytes : List ℕ) (faults risen wants wanted : ℕ) → Bool → OpenEnd
    → Type 0
IsSendEnd held now bytes faults risen wants wanted is_reliable ends.WriteFault = AppendsSome held now bytes
    × SinkFailed faults risen wants wanted is_reliable
IsSendEnd held now bytes faults risen wants wanted is_reliable _ = ⊥
