-- A message that is spelled is read, and what is written is spelled so.
use Rattle.std.proofs.Common.{◌≡◌, ℕ, ◌+◌, ◌%◌, ◌/◌, Bool, true, false, cond, eqb, List, [], ◌∷◌, ◌++◌, length, take}
use Rattle.std.proofs.Common.{drop, Option, Some, Result, Ok, Err, refl, ap, ◌∙◌, arith}
use Rattle.std.specs.Prelude.{◌||◌}
use Rattle.std.specs.List.{flat_map}
use Rattle.std.proofs.lemmas.List.{length-append, length-take, length-drop, length-replicate}
use Rattle.std.proofs.lemmas.List.Concat.{flat_map-cons}
use Rattle.byteorder.specs.Endian.{big_bytes}
use Rattle.of10_actions.specs.declared.action.Action.{Action as ActionOf}
use Rattle.of10_actions.specs.Spelling.{SpellsList, spelling as action_spelling, spellings}
use Rattle.of10_actions.specs.Reading.{u32_at}
use Rattle.of10_actions.proofs.Encoding.{spells_length}
use Rattle.of10_actions.proofs.Lists.{spelling_spells}
use Rattle.of10_msgs.specs.Bodies.{kind_of}
use Rattle.of10_msgs.specs.Kinds.{is_among, kind_at, lengths_of, number_of}
use Rattle.of10_msgs.specs.Ranges.{IsInRange, IsMessage}
use Rattle.of10_msgs.specs.Reading.{body_at, message_of, reading, typed}
use Rattle.of10_msgs.specs.Spelling.{Free, IsVersion, Spells, SpellsActions, actions_of, body_bytes, body_with}
use Rattle.of10_msgs.specs.Spelling.{clear_match, flow_mod_fields, match_of, packet_out_fields, padding, port_bytes}
use Rattle.of10_msgs.specs.Spelling.{spelling, with_free, written}
use Rattle.of10_msgs.specs.declared.fault.FormFault.{FormFault}
use Rattle.of10_msgs.specs.declared.fault.FormFault.TheVariants.{BadLen, BadVersion}
use Rattle.of10_msgs.specs.declared.kind.Kind.{Kind}
use Rattle.of10_msgs.specs.declared.kind.Kind.TheVariants as kinds
use Rattle.of10_msgs.specs.declared.message.Body.{Body}
use Rattle.of10_msgs.specs.declared.message.Body.TheVariants.{Hello, FeaturesReply, PacketIn, FlowRemoved, PortStatus}
use Rattle.of10_msgs.specs.declared.message.Body.TheVariants.{PacketOut, FlowMod}
use Rattle.of10_msgs.specs.declared.message.Message.{Message}
use Rattle.of10_msgs.proofs.Fields.{again}
use Rattle.of10_msgs.proofs.SpelledBodies.{Head, IsFree, body_is, length_clear}

-- ---- lengths

-- whatever is free in actions, they take as many bytes
actions_length : (list : List ActionOf) (bytes : List ℕ) → SpellsList list bytes
    → length bytes ≡ length (spellings list)
actions_length [] bytes spelled = ap length spelled
actions_length (a ∷ list) bytes spelled =
    let front = spelled.0 in
    let back = spelled.1 in
    omega (
      arith,
      ap length spelled.2,
      length-append front back,
      spells_length a front spelled.3,
      actions_length list back spelled.4,
      ap length (flat_map-cons action_spelling a list),
      length-append (action_spelling a) (spellings list),
      spells_length a (action_spelling a) (spelling_spells a),
    )

-- whatever is free in a body, it takes as many bytes
pub free_length : (b : Body) (free : Free) → IsFree b free → length (body_with b free) ≡ length (body_bytes b)
unfolding body_bytes packet_out_fields
free_length (FeaturesReply datapath_id n_buffers n_tables capabilities actions ports) free ok =
    let rest = big_bytes 4 capabilities ++ (big_bytes 4 actions ++ flat_map port_bytes ports) in
    omega (arith, length-append free.pad rest, ok.pad)
free_length (PacketIn buffer_id total_len in_port reason bytes) free ok =
    omega (arith, length-append free.pad bytes, ok.pad)
free_length (FlowRemoved m cookie priority reason duration_sec duration_nsec idle_timeout packet_count byte_count) free
    ok =
    let counts = big_bytes 8 packet_count ++ big_bytes 8 byte_count in
    let times : List ℕ
    → List ℕ = λ x. big_bytes 4 duration_sec ++ (big_bytes 4 duration_nsec ++ (big_bytes 2 idle_timeout ++ x)) in
    let entry : List ℕ → List ℕ = λ x. big_bytes 8 cookie ++ (big_bytes 2 priority ++ (reason ∷ x)) in
    omega (
      arith,
      length_clear free.m,
      ap length ok.matched,
      ok.pad,
      length-append free.m (entry (take 1 free.pad ++ times (drop 1 free.pad ++ counts))),
      length-append (take 1 free.pad) (times (drop 1 free.pad ++ counts)),
      length-append (drop 1 free.pad) counts,
      length-take 1 free.pad,
      length-drop 1 free.pad,
      length-append m (entry (0 ∷ times (0 ∷ 0 ∷ counts))),
    )
free_length (PortStatus reason port) free ok = omega (arith, length-append free.pad (port_bytes port), ok.pad)
free_length (PacketOut p) free ok =
    omega (
      arith,
      length-append free.actions p.bytes,
      length-append (spellings p.actions) p.bytes,
      actions_length p.actions free.actions ok.actions,
    )
free_length (FlowMod f) free ok =
    omega (
      arith,
      length_clear free.m,
      ap length ok.matched,
      length-append free.m (flow_mod_fields f ++ free.actions),
      length-append (flow_mod_fields f) free.actions,
      length-append f.m (flow_mod_fields f ++ spellings f.actions),
      length-append (flow_mod_fields f) (spellings f.actions),
      actions_length f.actions free.actions ok.actions,
    )
free_length _ free ok = refl

-- ---- headers

or_true : (x : Bool) → (x || true) ≡ true
or_true true = refl
or_true false = refl

-- the version is read
version_ok : (b : Body) (version : ℕ) → IsVersion version b → (eqb version 1 || eqb (number_of (kind_of b)) 0) ≡ true
version_ok (Hello bytes) version h = or_true (eqb version 1)
version_ok b version h = ap (λ (v : ℕ). eqb v 1 || eqb (number_of (kind_of b)) 0) h

-- a type's number is read as the type
pub kind_is : (k : Kind) → kind_at (number_of k) ≡ Some k
kind_is kinds.Hello = refl
kind_is kinds.Error = refl
kind_is kinds.EchoRequest = refl
kind_is kinds.EchoReply = refl
kind_is kinds.Vendor = refl
kind_is kinds.FeaturesRequest = refl
kind_is kinds.FeaturesReply = refl
kind_is kinds.GetConfigRequest = refl
kind_is kinds.GetConfigReply = refl
kind_is kinds.SetConfig = refl
kind_is kinds.PacketIn = refl
kind_is kinds.FlowRemoved = refl
kind_is kinds.PortStatus = refl
kind_is kinds.PacketOut = refl
kind_is kinds.FlowMod = refl
kind_is kinds.PortMod = refl
kind_is kinds.StatsRequest = refl
kind_is kinds.StatsReply = refl
kind_is kinds.BarrierRequest = refl
kind_is kinds.BarrierReply = refl
kind_is kinds.QueueGetConfigRequest = refl
kind_is kinds.QueueGetConfigReply = refl

-- ---- messages

spelled_read : (m : Message) (version : ℕ) (free : Free) → IsMessage m → IsVersion version m.body → IsFree m.body free
    → reading (with_free version m free) ≡ Ok m
spelled_read m version free good is_version ok =
    let body = body_with m.body free in
    let k = kind_of m.body in
    let n = number_of k in
    let len = 8 + length body in
    let h : Head = record {
      a = version;
      b = n;
      c = len / 256 % 256;
      d = len % 256;
      e = m.xid / 16777216 % 256;
      f = m.xid / 65536 % 256;
      g = m.xid / 256 % 256;
      h = m.xid % 256;
    } in
    let frame = with_free version m free in
    let same = free_length m.body free ok in
    let size : length frame ≡ 8 + length (body_bytes m.body) = omega (arith, same) in
    let among : is_among (lengths_of k) (length frame) ≡ true = ap (is_among (lengths_of k)) size ∙ good.body.long in
    let xid : u32_at 4 frame ≡ m.xid = again 4 m.xid body good.xid in
    let read : body_at k frame ≡ Ok m.body =
    body_is h m.body free good.fits good.body.in_range ok (omega (arith, same, good.body.fits)) in
    ap (λ (t : Bool). cond t (typed (kind_at n) frame) (Err (BadVersion version)))
    (version_ok m.body version is_version)
    ∙ (ap (λ (o : Option Kind). typed o frame) (kind_is k)
    ∙ (ap (λ (t : Bool). cond t (message_of (u32_at 4 frame) (body_at k frame)) (Err (BadLen n (length frame)))) among
    ∙ (ap (λ (r : Result Body FormFault). message_of (u32_at 4 frame) r) read
    ∙ (λ i. Ok (record { xid = xid i; body = m.body })))))

pub spelled_is_read : (frame : List ℕ) (m : Message) → IsMessage m → Spells m frame → reading frame ≡ Ok m
spelled_is_read frame m good s =
    ap reading s.whole ∙ spelled_read m s.version s.free good s.is_version
    (record { pad = s.pad; matched = s.matched; actions = s.actions })

-- ---- what is written

spells_list : (list : List ActionOf) → SpellsList list (spellings list)
spells_list [] = refl
spells_list (a ∷ list) =
    (action_spelling a, spellings list, flat_map-cons action_spelling a list, spelling_spells a, spells_list list)

written_matched : (b : Body) → IsInRange b → clear_match (match_of b) ≡ match_of b
written_matched (FlowRemoved m cookie priority reason duration_sec duration_nsec idle_timeout packet_count byte_count)
    range = range
written_matched (FlowMod f) range = range.0
written_matched b range = refl

written_actions : (b : Body) → SpellsActions b (actions_of b)
written_actions (PacketOut p) = spells_list p.actions
written_actions (FlowMod f) = spells_list f.actions
written_actions b = tt

written_version : (b : Body) → IsVersion 1 b
written_version (Hello bytes) = tt
written_version b = refl

-- what is written is a spelling
pub written_spells : (m : Message) → IsInRange m.body → Spells m (spelling m)
unfolding body_bytes
written_spells m range = record {
  version = 1;
  free = written m.body;
  is_version = written_version m.body;
  pad = length-replicate (padding m.body) 0;
  matched = written_matched m.body range;
  actions = written_actions m.body;
  whole = refl;
}

pub written_is_read : (m : Message) → IsMessage m → reading (spelling m) ≡ Ok m
written_is_read m good = spelled_is_read (spelling m) m good (written_spells m good.body.in_range)
