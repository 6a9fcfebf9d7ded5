-- A message that was read is spelled by its frame, and can be written.
use Rattle.std.proofs.Common.{◌≡◌, ℕ, zero, suc, ◌+◌, ◌^◌, ◌<◌, Bool, true, false, cond, eqb, eqb-true, List, ◌∷◌, ◌++◌}
use Rattle.std.proofs.Common.{length, drop, Option, Some, None, Result, Ok, Err, refl, sym, ap, subst, ◌∙◌, inl, inr}
use Rattle.std.proofs.Common.{arith}
use Rattle.std.specs.Prelude.{◌||◌, ◌⊎◌, IfOk, slice_index}
use Rattle.std.proofs.lemmas.List.{length-drop}
use Rattle.byteorder.specs.Endian.{big_bytes}
use Rattle.of10_actions.specs.Reading.{u32_at}
use Rattle.of10_actions.specs.Spelling.{IsBytes}
use Rattle.of10_frames.specs.Frames.{IsFrame}
use Rattle.of10_frames.specs.Wire.{length_field}
use Rattle.of10_msgs.specs.Bodies.{kind_of}
use Rattle.of10_msgs.specs.Kinds.{is_among, kind_at, lengths_of, number_of}
use Rattle.of10_msgs.specs.Ranges.{IsMessage}
use Rattle.of10_msgs.specs.Reading.{Gives, body_at, message_of, reading, typed}
use Rattle.of10_msgs.specs.Spelling.{IsVersion, Spells, body_bytes, body_with}
use Rattle.of10_msgs.specs.declared.fault.FormFault.{FormFault}
use Rattle.of10_msgs.specs.declared.fault.FormFault.TheVariants.{BadLen, BadVersion}
use Rattle.of10_msgs.specs.declared.kind.Kind.{Kind}
use Rattle.of10_msgs.specs.declared.kind.Kind.TheVariants as kinds
use Rattle.of10_msgs.specs.declared.message.Body.{Body}
use Rattle.of10_msgs.specs.declared.message.Body.TheVariants.{Hello}
use Rattle.of10_msgs.specs.declared.message.Message.{Message}
use Rattle.of10_msgs.proofs.Fields.{split}
use Rattle.of10_msgs.proofs.FoundBodies.{Found, body_found}
use Rattle.of10_msgs.proofs.FoundParts.{byte, number_lt}
use Rattle.of10_msgs.proofs.Spelled.{free_length}

option_is : (x y : Kind) → Some x ≡ Some y → x ≡ y
option_is x y e = cc

-- the number of a type
number_is : (n : ℕ) (k : Kind) → kind_at n ≡ Some k → n ≡ number_of k
number_is zero k e = ap number_of (option_is kinds.Hello k e)
number_is (suc zero) k e = ap number_of (option_is kinds.Error k e)
number_is (suc (suc zero)) k e = ap number_of (option_is kinds.EchoRequest k e)
number_is (suc (suc (suc zero))) k e = ap number_of (option_is kinds.EchoReply k e)
number_is (suc (suc (suc (suc zero)))) k e = ap number_of (option_is kinds.Vendor k e)
number_is (suc (suc (suc (suc (suc zero))))) k e = ap number_of (option_is kinds.FeaturesRequest k e)
number_is (suc (suc (suc (suc (suc (suc zero)))))) k e = ap number_of (option_is kinds.FeaturesReply k e)
number_is (suc (suc (suc (suc (suc (suc (suc zero))))))) k e = ap number_of (option_is kinds.GetConfigRequest k e)
number_is (suc (suc (suc (suc (suc (suc (suc (suc zero)))))))) k e = ap number_of (option_is kinds.GetConfigReply k e)
number_is (suc (suc (suc (suc (suc (suc (suc (suc (suc zero))))))))) k e = ap number_of (option_is kinds.SetConfig k e)
number_is (suc (suc (suc (suc (suc (suc (suc (suc (suc (suc zero)))))))))) k e =
    ap number_of (option_is kinds.PacketIn k e)
number_is (suc (suc (suc (suc (suc (suc (suc (suc (suc (suc (suc zero))))))))))) k e =
    ap number_of (option_is kinds.FlowRemoved k e)
number_is (suc (suc (suc (suc (suc (suc (suc (suc (suc (suc (suc (suc zero)))))))))))) k e =
    ap number_of (option_is kinds.PortStatus k e)
number_is (suc (suc (suc (suc (suc (suc (suc (suc (suc (suc (suc (suc (suc zero))))))))))))) k e =
    ap number_of (option_is kinds.PacketOut k e)
number_is (suc (suc (suc (suc (suc (suc (suc (suc (suc (suc (suc (suc (suc (suc zero)))))))))))))) k e =
    ap number_of (option_is kinds.FlowMod k e)
number_is (suc (suc (suc (suc (suc (suc (suc (suc (suc (suc (suc (suc (suc (suc (suc zero))))))))))))))) k e =
    ap number_of (option_is kinds.PortMod k e)
number_is (suc (suc (suc (suc (suc (suc (suc (suc (suc (suc (suc (suc (suc (suc (suc (suc zero)))))))))))))))) k e =
    ap number_of (option_is kinds.StatsRequest k e)
number_is (suc (suc (suc (suc (suc (suc (suc (suc (suc (suc (suc (suc (suc (suc (suc (suc (suc zero))))))))))))))))) k
    e = ap number_of (option_is kinds.StatsReply k e)
number_is
    (suc (suc (suc (suc (suc (suc (suc (suc (suc (suc (suc (suc (suc (suc (suc (suc (suc (suc zero)))))))))))))))))) k
    e = ap number_of (option_is kinds.BarrierRequest k e)
number_is
    (suc (suc
    (suc (suc (suc (suc (suc (suc (suc (suc (suc (suc (suc (suc (suc (suc (suc (suc (suc zero))))))))))))))))))) k e =
    ap number_of (option_is kinds.BarrierReply k e)
number_is
    (suc (suc
    (suc (suc (suc (suc (suc (suc (suc (suc (suc (suc (suc (suc (suc (suc (suc (suc (suc (suc zero)))))))))))))))))))) k
    e = ap number_of (option_is kinds.QueueGetConfigRequest k e)
number_is
    (suc (suc
    (suc (suc
    (suc (suc (suc (suc (suc (suc (suc (suc (suc (suc (suc (suc (suc (suc (suc (suc (suc zero))))))))))))))))))))) k e =
    ap number_of (option_is kinds.QueueGetConfigReply k e)
number_is
    (suc (suc
    (suc (suc
    (suc (suc (suc (suc (suc (suc (suc (suc (suc (suc (suc (suc (suc (suc (suc (suc (suc (suc n)))))))))))))))))))))) k
    e = absurd cc

-- ---- tests that passed

guard_ok : (t : Bool) (f : FormFault) (x : Result Message FormFault) (m : Message) → cond t x (Err f) ≡ Ok m
    → (t ≡ true) × (x ≡ Ok m)
guard_ok true f x m e = (refl, e)
guard_ok false f x m e = absurd cc

abbrev done : Message → Result Message FormFault
done m = Ok m

message_is : (x y : Message) → done x ≡ done y → x ≡ y
message_is x y e = cc

message_ok : (xid : ℕ) (r : Result Body FormFault) (m : Message) → message_of xid r ≡ Ok m
    → (b : Body) × (r ≡ Ok b) × (done (record { xid = xid; body = b }) ≡ done m)
message_ok xid (Ok b) m e = (b, refl, e)
message_ok xid (Err fault) m e = absurd cc

-- what a message that was read says of its type
record IsTyped (frame : List ℕ) (m : Message) : Type 0 where
  kind : Kind
  number : kind_at (slice_index frame 1) ≡ Some kind
  long : is_among (lengths_of kind) (length frame) ≡ true
  body : Body
  read : body_at kind frame ≡ Ok body
  whole : record { xid = u32_at 4 frame; body = body } ≡ m

typed_ok : (o : Option Kind) (frame : List ℕ) (m : Message) → kind_at (slice_index frame 1) ≡ o → typed o frame ≡ Ok m
    → IsTyped frame m
typed_ok None frame m is e = absurd cc
typed_ok (Some k) frame m is e =
    let g = guard_ok (is_among (lengths_of k) (length frame)) (BadLen (slice_index frame 1) (length frame))
    (message_of (u32_at 4 frame) (body_at k frame)) m e in
    let o = message_ok (u32_at 4 frame) (body_at k frame) m g.1 in
    record { kind = k; number = is; long = g.0; body = o.0; read = o.1; whole = message_is _ m o.2 }

or_either : (a b : Bool) → (a || b) ≡ true → (a ≡ true) ⊎ (b ≡ true)
or_either true b e = inl refl
or_either false b e = inr e

-- a version that was read
version_is : (b : Body) (version number : ℕ) → number ≡ number_of (kind_of b) → (eqb version 1 || eqb number 0) ≡ true
    → IsVersion version b
version_is (Hello bytes) version number is e = tt
version_is b version number is e =
    elim (or_either (eqb version 1) (eqb number 0) e) [
      | inl first ↦ eqb-true _ _ first
      | inr second ↦ absurd (omega (arith, is, eqb-true _ _ second))
    ]

-- ---- messages

-- the header of a frame, and what follows it
head_is : (frame : List ℕ) → IsBytes frame → IsFrame frame
    → frame ≡ slice_index frame 0
    ∷ (slice_index frame 1 ∷ (big_bytes 2 (length frame) ++ (big_bytes 4 (u32_at 4 frame) ++ drop 8 frame)))
head_is frame fits is_frame =
    let long = is_frame.header in
    let len : big_bytes 2 (length_field frame) ≡ big_bytes 2 (length frame) = ap (big_bytes 2) is_frame.whole in
    let f2 = split 2 2 frame fits (omega arith)
    ∙ (ap (λ (x : List ℕ). big_bytes 2 (length_field frame) ++ x) (split 4 4 frame fits (omega arith))
    ∙ ap (λ (x : List ℕ). x ++ (big_bytes 4 (u32_at 4 frame) ++ drop 8 frame)) len) in
    let f1 = byte 1 frame (omega arith) ∙ ap (λ (x : List ℕ). slice_index frame 1 ∷ x) f2 in
    byte 0 frame (omega arith) ∙ ap (λ (x : List ℕ). slice_index frame 0 ∷ x) f1

message_found : (frame : List ℕ) (k : Kind) (b : Body) → IsBytes frame → IsFrame frame
    → (eqb (slice_index frame 0) 1 || eqb (slice_index frame 1) 0) ≡ true → kind_at (slice_index frame 1) ≡ Some k
    → is_among (lengths_of k) (length frame) ≡ true → Found k frame b
    → Spells (record { xid = u32_at 4 frame; body = b }) frame × IsMessage (record { xid = u32_at 4 frame; body = b })
message_found frame k b fits is_frame version number long found =
    let body = body_with b found.free in
    let room = is_frame.header in
    let size : length frame ≡ 8 + length body = omega (arith, length-drop 8 frame, ap length found.whole) in
    let same = free_length b found.free found.ok in
    let number : slice_index frame 1 ≡ number_of (kind_of b) = number_is (slice_index frame 1) k number
    ∙ ap number_of (sym found.kind) in
    let written : 8 + length (body_bytes b) ≡ length frame = omega (arith, size, same) in
    let small : length frame < 2 ^ 16 = omega (arith, is_frame.whole, number_lt 2 2 frame fits) in
    let whole = head_is frame fits is_frame
    ∙ (ap
    (λ (n : ℕ). slice_index frame 0
    ∷ (n ∷ (big_bytes 2 (length frame) ++ (big_bytes 4 (u32_at 4 frame) ++ drop 8 frame)))) number
    ∙ (ap
    (λ (n : ℕ). slice_index frame 0
    ∷ (number_of (kind_of b) ∷ (big_bytes 2 n ++ (big_bytes 4 (u32_at 4 frame) ++ drop 8 frame)))) size
    ∙ ap (λ (x : List ℕ). slice_index frame 0
    ∷ (number_of (kind_of b) ∷ (big_bytes 2 (8 + length body) ++ (big_bytes 4 (u32_at 4 frame) ++ x))))
    found.whole)) in (
      record {
        version = slice_index frame 0;
        free = found.free;
        is_version = version_is b (slice_index frame 0) (slice_index frame 1) number version;
        pad = found.ok.pad;
        matched = found.ok.matched;
        actions = found.ok.actions;
        whole = whole;
      },
      record {
        xid = number_lt 4 4 frame fits;
        body = record {
          long = ap (is_among (lengths_of (kind_of b))) written
              ∙ (ap (λ (x : Kind). is_among (lengths_of x) (length frame)) found.kind ∙ long);
          fits = omega (arith, written, small);
          in_range = found.range;
        };
        fits = found.fits;
      },
    )

pub read_is_spelled : (frame : List ℕ) (m : Message) → IsBytes frame → IsFrame frame → reading frame ≡ Ok m
    → Spells m frame × IsMessage m
read_is_spelled frame m fits is_frame read =
    let g = guard_ok (eqb (slice_index frame 0) 1 || eqb (slice_index frame 1) 0) (BadVersion (slice_index frame 0))
    (typed (kind_at (slice_index frame 1)) frame) m read in
    let t = typed_ok (kind_at (slice_index frame 1)) frame m refl g.1 in
    subst (λ (x : Message). Spells x frame × IsMessage x) t.whole
    (message_found frame t.kind t.body fits is_frame g.0 t.number t.long
    (body_found t.kind frame t.body fits t.long t.read))

-- what a call that read a frame answered
pub answer_found : (frame : List ℕ) (answer : Result Message FormFault) → IsBytes frame → IsFrame frame
    → Gives answer (reading frame) → IfOk answer (λ m. Spells m frame × IsMessage m)
answer_found frame (Ok m) fits is_frame given = read_is_spelled frame m fits is_frame (sym given)
answer_found frame (Err fault) fits is_frame given = tt
