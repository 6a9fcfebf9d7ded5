-- A body that is spelled is read, whatever is free in it.
use Rattle.std.proofs.Common.{◌≡◌, ℕ, ◌+◌, ◌-◌, ◌/◌, ◌^◌, ◌<◌, Bool, false, cond, ltb, List, [], ◌∷◌, ◌++◌, length}
use Rattle.std.proofs.Common.{take, drop, All, Result, Ok, Err, refl, sym, ap, subst, ◌∙◌, arith}
use Rattle.std.specs.List.{flat_map}
use Rattle.std.proofs.lemmas.Bool.{le-ltb}
use Rattle.std.proofs.lemmas.List.{take_at, drop_at, length-append, length-set, append-nil}
use Rattle.std.proofs.lemmas.List.Elements.{recursion_from_All}
use Rattle.byteorder.specs.Endian.{big_bytes, big_number}
use Rattle.of10_actions.specs.declared.action.Action.{Action as ActionOf}
use Rattle.of10_actions.specs.declared.fault.ActionFault.{ActionFault}
use Rattle.of10_actions.specs.Reading.{reading as actions_in}
use Rattle.of10_actions.proofs.Lists.{spelled_is_read}
use Rattle.of10_msgs.specs.Bodies.{kind_of}
use Rattle.of10_msgs.specs.Ranges.{FitsTypes, HasAddress, IsInRange, PortFits}
use Rattle.of10_msgs.specs.Reading.{body_at, features_reply_of, flow_mod_of, flow_removed_of, listed, packet_out_at}
use Rattle.of10_msgs.specs.Reading.{packet_out_of, ports_at, with_actions}
use Rattle.of10_msgs.specs.Spelling.{Free, SpellsActions, body_with, clear_match, flow_mod_fields, match_of}
use Rattle.of10_msgs.specs.Spelling.{packet_out_fields, padding, port_bytes}
use Rattle.of10_msgs.specs.declared.fault.FormFault.TheVariants.{BadLen}
use Rattle.of10_msgs.specs.declared.message.Body.{Body}
use Rattle.of10_msgs.specs.declared.message.Body.TheVariants.{Hello, Error, EchoRequest, EchoReply, FeaturesRequest}
use Rattle.of10_msgs.specs.declared.message.Body.TheVariants.{FeaturesReply, GetConfigRequest, GetConfigReply}
use Rattle.of10_msgs.specs.declared.message.Body.TheVariants.{SetConfig, PacketIn, FlowRemoved, PortStatus, PacketOut}
use Rattle.of10_msgs.specs.declared.message.Body.TheVariants.{FlowMod, PortMod, StatsRequest, StatsReply}
use Rattle.of10_msgs.specs.declared.message.Body.TheVariants.{BarrierRequest, BarrierReply, QueueGetConfigRequest}
use Rattle.of10_msgs.specs.declared.message.Body.TheVariants.{QueueGetConfigReply}
use Rattle.of10_msgs.specs.declared.message.FlowMod.{FlowMod as FlowModOf}
use Rattle.of10_msgs.specs.declared.message.PacketOut.{PacketOut as PacketOutOf}
use Rattle.of10_msgs.specs.declared.message.PhyPort.{PhyPort}
use Rattle.of10_msgs.proofs.Fields.{again, byte_past, drop_past, cell, cells}
use Rattle.of10_msgs.proofs.PortFields.{length_ports, port_read, ports_read}

-- the eight bytes of a header
pub record Head : Type 0 where
  pub a : ℕ
  pub b : ℕ
  pub c : ℕ
  pub d : ℕ
  pub e : ℕ
  pub f : ℕ
  pub g : ℕ
  pub h : ℕ

abbrev pub framed : Head → List ℕ → List ℕ
framed h body = h.a ∷ (h.b ∷ (h.c ∷ (h.d ∷ (h.e ∷ (h.f ∷ (h.g ∷ (h.h ∷ body)))))))

-- these free bytes may stand in a body
pub record IsFree (b : Body) (free : Free) : Type 0 where
  pub pad : length free.pad ≡ padding b
  pub matched : clear_match free.m ≡ match_of b
  pub actions : SpellsActions b free.actions

-- clearing keeps the length
pub length_clear : (m : List ℕ) → length (clear_match m) ≡ length m
length_clear m = length-set _ 27 0 ∙ (length-set _ 26 0 ∙ length-set m 21 0)

features_cells : (h : Head) (datapath_id n_buffers n_tables capabilities actions : ℕ) (ports : List PhyPort) (x y z : ℕ)
    → FitsTypes (FeaturesReply datapath_id n_buffers n_tables capabilities actions ports) → All HasAddress ports
    → features_reply_of
    (framed h (body_with (FeaturesReply datapath_id n_buffers n_tables capabilities actions ports)
    (record { pad = x ∷ y ∷ z ∷ []; m = []; actions = [] })))
    ≡ FeaturesReply datapath_id n_buffers n_tables capabilities actions ports
unfolding features_reply_of
features_cells h datapath_id n_buffers n_tables capabilities actions ports x y z fits addresses =
    let bytes = flat_map port_bytes ports in
    let able = big_bytes 4 capabilities ++ (big_bytes 4 actions ++ bytes) in
    let tables = n_tables ∷ (x ∷ (y ∷ (z ∷ able))) in
    let frame = framed h (big_bytes 8 datapath_id ++ (big_bytes 4 n_buffers ++ tables)) in
    let each = recursion_from_All PortFits ports fits.4 in
    let size : length frame ≡ 32 + length bytes = omega arith in
    let count : (length frame - 32) / 48 ≡ length ports = omega (arith, size, length_ports ports each) in
    let read : ports_at ((length frame - 32) / 48) 32 frame ≡ ports = ap (λ (n : ℕ). ports_at n 32 frame) count
    ∙ ports_read ports 32 frame each (recursion_from_All HasAddress ports addresses) refl in
    λ i. FeaturesReply ((again 8 datapath_id (big_bytes 4 n_buffers ++ tables) fits.0) i)
    ((again 4 n_buffers tables fits.1) i) n_tables ((again 4 capabilities (big_bytes 4 actions ++ bytes) fits.2) i)
    ((again 4 actions bytes fits.3) i) (read i)

features_is : (h : Head) (datapath_id n_buffers n_tables capabilities actions : ℕ) (ports : List PhyPort) (free : Free)
    → FitsTypes (FeaturesReply datapath_id n_buffers n_tables capabilities actions ports) → All HasAddress ports
    → length free.pad ≡ 3
    → features_reply_of
    (framed h (body_with (FeaturesReply datapath_id n_buffers n_tables capabilities actions ports) free))
    ≡ FeaturesReply datapath_id n_buffers n_tables capabilities actions ports
features_is h datapath_id n_buffers n_tables capabilities actions ports free fits addresses pad =
    let p = cells 2 free.pad pad in
    let q = cells 1 p.1 p.3 in
    let r = cell q.1 q.3 in
    let whole : free.pad ≡ p.0 ∷ q.0 ∷ r.0 ∷ [] = p.2
    ∙ ap (λ (xs : List ℕ). p.0 ∷ xs) (q.2 ∙ ap (λ (xs : List ℕ). q.0 ∷ xs) r.1) in
    let b : Body = FeaturesReply datapath_id n_buffers n_tables capabilities actions ports in
    subst (λ (xs : List ℕ). features_reply_of (framed h (body_with b (record { pad = xs; m = []; actions = [] }))) ≡ b)
    (sym whole) (features_cells h datapath_id n_buffers n_tables capabilities actions ports p.0 q.0 r.0 fits
    addresses)

packet_in_is : (h : Head) (buffer_id total_len in_port reason : ℕ) (bytes : List ℕ) (free : Free)
    → FitsTypes (PacketIn buffer_id total_len in_port reason bytes) → length free.pad ≡ 1
    → body_at (kind_of (PacketIn buffer_id total_len in_port reason bytes))
    (framed h (body_with (PacketIn buffer_id total_len in_port reason bytes) free))
    ≡ Ok (PacketIn buffer_id total_len in_port reason bytes)
packet_in_is h buffer_id total_len in_port reason bytes free fits pad =
    let p = cell free.pad pad in
    let b : Body = PacketIn buffer_id total_len in_port reason bytes in
    let end = reason ∷ (p.0 ∷ bytes) in
    let one : body_at (kind_of b) (framed h (body_with b (record { pad = p.0 ∷ []; m = []; actions = [] }))) ≡ Ok b =
    λ i. Ok (PacketIn ((again 4 buffer_id (big_bytes 2 total_len ++ (big_bytes 2 in_port ++ end)) fits.0) i)
    ((again 2 total_len (big_bytes 2 in_port ++ end) fits.1) i) ((again 2 in_port end fits.2) i) reason bytes) in
    subst (λ (xs : List ℕ). body_at (kind_of b) (framed h (body_with b (record { pad = xs; m = []; actions = [] })))
    ≡ Ok b) (sym p.1) one

port_status_is : (h : Head) (reason : ℕ) (port : PhyPort) (free : Free) → PortFits port → HasAddress port
    → length free.pad ≡ 7
    → body_at (kind_of (PortStatus reason port)) (framed h (body_with (PortStatus reason port) free))
    ≡ Ok (PortStatus reason port)
port_status_is h reason port free fits address pad =
    let frame = framed h (reason ∷ (free.pad ++ port_bytes port)) in
    let after : drop 16 frame ≡ port_bytes port ++ [] = drop_at free.pad (port_bytes port) 7 pad
    ∙ sym (append-nil (port_bytes port)) in
    let read = port_read 16 frame [] port fits address after in
    λ i. Ok (PortStatus reason (read i))

removed_cells : (h : Head) (m : List ℕ)
    (cookie priority reason duration_sec duration_nsec idle_timeout packet_count byte_count : ℕ) (free_m : List ℕ)
    (x y z : ℕ)
    → FitsTypes (FlowRemoved m cookie priority reason duration_sec duration_nsec idle_timeout packet_count byte_count)
    → clear_match free_m ≡ m
    → flow_removed_of
    (framed h
    (body_with (FlowRemoved m cookie priority reason duration_sec duration_nsec idle_timeout packet_count
    byte_count) (record { pad = x ∷ y ∷ z ∷ []; m = free_m; actions = [] })))
    ≡ FlowRemoved m cookie priority reason duration_sec duration_nsec idle_timeout packet_count byte_count
unfolding flow_removed_of
removed_cells h m cookie priority reason duration_sec duration_nsec idle_timeout packet_count byte_count free_m x y z
    fits matched =
    let long : length free_m ≡ 40 = sym (length_clear free_m) ∙ (ap length matched ∙ fits.0) in
    let counts = big_bytes 8 packet_count ++ big_bytes 8 byte_count in
    let idle = big_bytes 2 idle_timeout ++ (y ∷ (z ∷ counts)) in
    let nsec = big_bytes 4 duration_nsec ++ idle in
    let sec = big_bytes 4 duration_sec ++ nsec in
    let why = reason ∷ (x ∷ sec) in
    let rank = big_bytes 2 priority ++ why in
    let rest = big_bytes 8 cookie ++ rank in
    let past : (k : ℕ) → drop (40 + k) (free_m ++ rest) ≡ drop k rest = λ k. drop_past 40 k free_m rest long in
    let e0 : clear_match (take 40 (free_m ++ rest)) ≡ m = ap clear_match (take_at free_m rest 40 long) ∙ matched in
    let e1 : big_number 8 (drop 40 (free_m ++ rest)) ≡ cookie = ap (big_number 8) (past 0)
    ∙ again 8 cookie rank fits.1 in
    let e2 : big_number 2 (drop 48 (free_m ++ rest)) ≡ priority = ap (big_number 2) (past 8)
    ∙ again 2 priority why fits.2 in
    let e3 = byte_past free_m rest 40 10 long in
    let e4 : big_number 4 (drop 52 (free_m ++ rest)) ≡ duration_sec = ap (big_number 4) (past 12)
    ∙ again 4 duration_sec nsec fits.3 in
    let e5 : big_number 4 (drop 56 (free_m ++ rest)) ≡ duration_nsec = ap (big_number 4) (past 16)
    ∙ again 4 duration_nsec idle fits.4 in
    let e6 : big_number 2 (drop 60 (free_m ++ rest)) ≡ idle_timeout = ap (big_number 2) (past 20)
    ∙ again 2 idle_timeout (y ∷ (z ∷ counts)) fits.5 in
    let e7 : big_number 8 (drop 64 (free_m ++ rest)) ≡ packet_count = ap (big_number 8) (past 24)
    ∙ again 8 packet_count (big_bytes 8 byte_count) fits.6 in
    let e8 : big_number 8 (drop 72 (free_m ++ rest)) ≡ byte_count = ap (big_number 8) (past 32)
    ∙ again 8 byte_count [] fits.7 in
    λ i. FlowRemoved (e0 i) (e1 i) (e2 i) (e3 i) (e4 i) (e5 i) (e6 i) (e7 i) (e8 i)

removed_is : (h : Head) (m : List ℕ)
    (cookie priority reason duration_sec duration_nsec idle_timeout packet_count byte_count : ℕ) (free : Free)
    → FitsTypes (FlowRemoved m cookie priority reason duration_sec duration_nsec idle_timeout packet_count byte_count)
    → clear_match free.m ≡ m → length free.pad ≡ 3
    → flow_removed_of
    (framed h
    (body_with (FlowRemoved m cookie priority reason duration_sec duration_nsec idle_timeout packet_count
    byte_count) free)) ≡ FlowRemoved m cookie priority reason duration_sec duration_nsec idle_timeout packet_count
    byte_count
removed_is h m cookie priority reason duration_sec duration_nsec idle_timeout packet_count byte_count free fits matched
    pad =
    let p = cells 2 free.pad pad in
    let q = cells 1 p.1 p.3 in
    let r = cell q.1 q.3 in
    let whole : free.pad ≡ p.0 ∷ q.0 ∷ r.0 ∷ [] = p.2
    ∙ ap (λ (xs : List ℕ). p.0 ∷ xs) (q.2 ∙ ap (λ (xs : List ℕ). q.0 ∷ xs) r.1) in
    let b : Body = FlowRemoved m cookie priority reason duration_sec duration_nsec idle_timeout packet_count
    byte_count in
    subst (λ (xs : List ℕ). flow_removed_of (framed h (body_with b (record { pad = xs; m = free.m; actions = [] })))
    ≡ b) (sym whole) (removed_cells h m cookie priority reason duration_sec duration_nsec idle_timeout packet_count
    byte_count free.m p.0 q.0 r.0 fits matched)

flow_mod_is : (h : Head) (f : FlowModOf) (free : Free) → FitsTypes (FlowMod f) → IsInRange (FlowMod f)
    → IsFree (FlowMod f) free
    → body_at (kind_of (FlowMod f)) (framed h (body_with (FlowMod f) free)) ≡ Ok (FlowMod f)
unfolding flow_mod_of flow_mod_fields
flow_mod_is h f free fits range ok =
    let long : length free.m ≡ 40 = sym (length_clear free.m) ∙ (ap length ok.matched ∙ fits.m) in
    let out = big_bytes 2 f.out_port ++ (big_bytes 2 f.flags ++ free.actions) in
    let buffer = big_bytes 4 f.buffer_id ++ out in
    let rank = big_bytes 2 f.priority ++ buffer in
    let hard = big_bytes 2 f.hard_timeout ++ rank in
    let idle = big_bytes 2 f.idle_timeout ++ hard in
    let command = big_bytes 2 f.command ++ idle in
    let rest = big_bytes 8 f.cookie ++ command in
    let frame = framed h (free.m ++ rest) in
    let past : (k : ℕ) → drop (40 + k) (free.m ++ rest) ≡ drop k rest = λ k. drop_past 40 k free.m rest long in
    let e0 : clear_match (take 40 (free.m ++ rest)) ≡ f.m = ap clear_match (take_at free.m rest 40 long) ∙ ok.matched in
    let e1 : big_number 8 (drop 40 (free.m ++ rest)) ≡ f.cookie = ap (big_number 8) (past 0)
    ∙ again 8 f.cookie command fits.cookie in
    let e2 : big_number 2 (drop 48 (free.m ++ rest)) ≡ f.command = ap (big_number 2) (past 8)
    ∙ again 2 f.command idle fits.command in
    let e3 : big_number 2 (drop 50 (free.m ++ rest)) ≡ f.idle_timeout = ap (big_number 2) (past 10)
    ∙ again 2 f.idle_timeout hard fits.idle_timeout in
    let e4 : big_number 2 (drop 52 (free.m ++ rest)) ≡ f.hard_timeout = ap (big_number 2) (past 12)
    ∙ again 2 f.hard_timeout rank fits.hard_timeout in
    let e5 : big_number 2 (drop 54 (free.m ++ rest)) ≡ f.priority = ap (big_number 2) (past 14)
    ∙ again 2 f.priority buffer fits.priority in
    let e6 : big_number 4 (drop 56 (free.m ++ rest)) ≡ f.buffer_id = ap (big_number 4) (past 16)
    ∙ again 4 f.buffer_id out fits.buffer_id in
    let e7 : big_number 2 (drop 60 (free.m ++ rest)) ≡ f.out_port = ap (big_number 2) (past 20)
    ∙ again 2 f.out_port (big_bytes 2 f.flags ++ free.actions) fits.out_port in
    let e8 : big_number 2 (drop 62 (free.m ++ rest)) ≡ f.flags = ap (big_number 2) (past 22)
    ∙ again 2 f.flags free.actions fits.flags in
    let actions : actions_in (drop 64 (free.m ++ rest)) ≡ Ok f.actions = ap actions_in (past 24)
    ∙ spelled_is_read free.actions f.actions (range.1, fits.actions) ok.actions in
    ap (λ (r : Result (List ActionOf) ActionFault). with_actions (listed r) (λ list. FlowMod (flow_mod_of list frame)))
    actions
    ∙ (λ i. Ok
    (FlowMod (record {
      m = e0 i;
      cookie = e1 i;
      command = e2 i;
      idle_timeout = e3 i;
      hard_timeout = e4 i;
      priority = e5 i;
      buffer_id = e6 i;
      out_port = e7 i;
      flags = e8 i;
      actions = f.actions;
    })))

packet_out_is : (h : Head) (p : PacketOutOf) (free : Free) → FitsTypes (PacketOut p) → IsInRange (PacketOut p)
    → IsFree (PacketOut p) free → length free.actions < 2 ^ 16
    → body_at (kind_of (PacketOut p)) (framed h (body_with (PacketOut p) free)) ≡ Ok (PacketOut p)
unfolding packet_out_at packet_out_of packet_out_fields
packet_out_is h p free fits range ok room =
    let n = length free.actions in
    let rest = free.actions ++ p.bytes in
    let lens = big_bytes 2 n ++ rest in
    let ports = big_bytes 2 p.in_port ++ lens in
    let frame = framed h (big_bytes 4 p.buffer_id ++ ports) in
    let len : big_number 2 (drop 14 frame) ≡ n = again 2 n rest room in
    let long : ltb (length frame) (16 + n) ≡ false = le-ltb _ _ (omega (arith, length-append free.actions p.bytes)) in
    let span : take n rest ≡ free.actions = take_at free.actions p.bytes n refl in
    let actions : actions_in (take n rest) ≡ Ok p.actions = ap actions_in span
    ∙ spelled_is_read free.actions p.actions (range, fits.actions) ok.actions in
    let bytes : drop (16 + n) frame ≡ p.bytes = drop_past 16 n (take 16 frame) rest refl
    ∙ drop_at free.actions p.bytes n refl in
    let e0 : big_number 4 (drop 8 frame) ≡ p.buffer_id = again 4 p.buffer_id ports fits.buffer_id in
    let e1 : big_number 2 (drop 12 frame) ≡ p.in_port = again 2 p.in_port lens fits.in_port in
    ap (λ (k : ℕ). packet_out_at k frame) len
    ∙ (ap (λ (t : Bool). cond t (Err (BadLen 13 (length frame)))
    (with_actions (listed (actions_in (take n rest))) (λ list. PacketOut (packet_out_of list n frame)))) long
    ∙ (ap (λ (r : Result (List ActionOf) ActionFault). with_actions (listed r)
    (λ list. PacketOut (packet_out_of list n frame))) actions
    ∙ (λ i. Ok (PacketOut (record { buffer_id = e0 i; in_port = e1 i; actions = p.actions; bytes = bytes i })))))

pub body_is : (h : Head) (b : Body) (free : Free) → FitsTypes b → IsInRange b → IsFree b free
    → length (body_with b free) < 2 ^ 16 → body_at (kind_of b) (framed h (body_with b free)) ≡ Ok b
body_is h (Hello bytes) free fits range ok room = refl
body_is h (Error kind code bytes) free fits range ok room =
    λ i. Ok (Error ((again 2 kind (big_bytes 2 code ++ bytes) fits.0) i) ((again 2 code bytes fits.1) i) bytes)
body_is h (EchoRequest bytes) free fits range ok room = refl
body_is h (EchoReply bytes) free fits range ok room = refl
body_is h FeaturesRequest free fits range ok room = refl
body_is h (FeaturesReply datapath_id n_buffers n_tables capabilities actions ports) free fits range ok room =
    λ i. Ok ((features_is h datapath_id n_buffers n_tables capabilities actions ports free fits range ok.pad) i)
body_is h GetConfigRequest free fits range ok room = refl
body_is h (GetConfigReply flags miss_send_len) free fits range ok room =
    λ i. Ok (GetConfigReply ((again 2 flags (big_bytes 2 miss_send_len) fits.0) i)
    ((again 2 miss_send_len [] fits.1) i))
body_is h (SetConfig flags miss_send_len) free fits range ok room =
    λ i. Ok (SetConfig ((again 2 flags (big_bytes 2 miss_send_len) fits.0) i) ((again 2 miss_send_len [] fits.1) i))
body_is h (PacketIn buffer_id total_len in_port reason bytes) free fits range ok room =
    packet_in_is h buffer_id total_len in_port reason bytes free fits ok.pad
body_is h (FlowRemoved m cookie priority reason duration_sec duration_nsec idle_timeout packet_count byte_count) free
    fits range ok room =
    λ i. Ok
    ((removed_is h m cookie priority reason duration_sec duration_nsec idle_timeout packet_count byte_count free
    fits ok.matched ok.pad) i)
body_is h (PortStatus reason port) free fits range ok room = port_status_is h reason port free fits range ok.pad
body_is h (PacketOut p) free fits range ok room =
    packet_out_is h p free fits range ok
    (omega (
      arith,
      room,
      length-append (packet_out_fields p (length free.actions)) (free.actions ++ p.bytes),
      length-append free.actions p.bytes,
    ))
body_is h (FlowMod f) free fits range ok room = flow_mod_is h f free fits range ok
body_is h (PortMod bytes) free fits range ok room = refl
body_is h (StatsRequest body) free fits range ok room = refl
body_is h (StatsReply body) free fits range ok room = refl
body_is h BarrierRequest free fits range ok room = refl
body_is h BarrierReply free fits range ok room = refl
body_is h (QueueGetConfigRequest bytes) free fits range ok room = refl
body_is h (QueueGetConfigReply bytes) free fits range ok room = refl
