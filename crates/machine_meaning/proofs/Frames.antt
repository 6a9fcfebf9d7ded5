-- A frame of a member that is read has its numbers in their ranges.
use Rattle.std.proofs.Common.{◌≡◌, ℕ, zero, suc, ◌<◌, ◌==◌, ◌&&◌, Bool, true, false, List, [], ◌∷◌, length, nat_le}
use Rattle.std.proofs.Common.{Result, Ok, Err, slice_index, arith, if◌then◌else◌}
use Rattle.std.proofs.lemmas.Bool.{eqb-true, leb-true}
use Rattle.std.specs.List.{AllByRecursion}
use Rattle.member_table.proofs.Least.{and_true}
use Rattle.of10_actions.specs.Spelling.{IsBytes}
use Rattle.of10_frames.specs.Frames.{IsFrame}
use Rattle.of10_frames.specs.Wire.{length_field}
use Rattle.of10_msgs.proofs.Found.{read_is_spelled}
use Rattle.of10_msgs.specs.Kinds.{kind_at}
use Rattle.of10_msgs.specs.Ranges.{IsInRange}
use Rattle.of10_msgs.specs.Reading.{reading}
use Rattle.of10_msgs.specs.Senders.{is_of_switch, reading_of_controller}
use Rattle.of10_msgs.specs.declared.fault.FormFault.{FormFault}
use Rattle.of10_msgs.specs.declared.message.Message.{Message}
use Rattle.machine_meaning.specs.Events.{AreBytes}
use Rattle.machine_meaning.specs.Glances.{is_frame}

-- bytes at any place
pub bytes_at : (bytes : List ℕ) → AllByRecursion (λ byte. byte < 256) bytes → IsBytes bytes
bytes_at [] h i = omega arith
bytes_at (byte ∷ bytes) h zero = h.0
bytes_at (byte ∷ bytes) h (suc i) = bytes_at bytes h.1 i

pub whole_frame : (frame : List ℕ) → is_frame frame ≡ true → IsFrame frame
whole_frame frame e =
    let both = and_true (nat_le 8 (length frame)) (length_field frame == length frame) e in
    record { header = leb-true 8 (length frame) both.0; whole = eqb-true (length_field frame) (length frame) both.1 }

-- what isn't refused of a controller is read as it is
pub of_controller : (b : Bool) (fault : FormFault) (r : Result Message FormFault) (m : Message)
    → (if b then Err fault else r) ≡ Ok m → r ≡ Ok m
of_controller true fault r m e = absurd (cc)
of_controller false fault r m e = e

pub read_in_range : (frame : List ℕ) → AreBytes frame → is_frame frame ≡ true → (m : Message)
    → reading_of_controller frame ≡ Ok m → IsInRange m.body
read_in_range frame bytes whole m e =
    let test = (slice_index frame 0 == 1) && is_of_switch (kind_at (slice_index frame 1)) in
    let read = of_controller test _ (reading frame) m e in
    let spelled = read_is_spelled frame m (bytes_at frame bytes.each) (whole_frame frame whole) read in
    spelled.1.body.in_range
