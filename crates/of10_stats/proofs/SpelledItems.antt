-- Entries, ports and texts that are spelled are read.
use Rattle.std.proofs.Common.{◌≡◌, ℕ, ◌+◌, ◌-◌, true, List, [], ◌∷◌, ◌++◌, length, map, take, drop, Some, refl, sym, ap}
use Rattle.std.proofs.Common.{◌∙◌, append_assoc, arith}
use Rattle.std.specs.Prelude.{◌&&◌, nat_le}
use Rattle.std.proofs.lemmas.Bool.{le-leb}
use Rattle.std.proofs.lemmas.List.{append-nil, drop_at, length-append, take_at}
use Rattle.std.proofs.lemmas.List.Concat.{flat_map-cons}
use Rattle.byteorder.specs.Endian.{big_bytes, big_number}
use Rattle.of10_actions.specs.Reading.{u16_at}
use Rattle.of10_msgs.specs.Spelling.{clear_match}
use Rattle.of10_msgs.proofs.Fields.{again, drop_past}
use Rattle.of10_msgs.proofs.SpelledBodies.{length_clear}
use Rattle.of10_stats.specs.Ranges.{IsEntry, IsPort}
use Rattle.of10_stats.specs.Reading.{entry_at, entry_of, port_at, port_of, texts_of, when}
use Rattle.of10_stats.specs.Spelling.{SpellsEntry, SpellsPort, entry_size, entry_with, joined, port_size, port_with}
use Rattle.of10_stats.specs.declared.reply.FlowStat.{FlowStat}
use Rattle.of10_stats.specs.declared.reply.PortStat.{PortStat}
use Rattle.of10_stats.proofs.Items.{IsRead}

-- ---- entries

-- what stands behind the counts of an entry, behind its timeouts, and behind its match
abbrev counts : FlowStat → List ℕ → List ℕ
counts e back = big_bytes 8 e.cookie ++ (big_bytes 8 e.packets ++ (big_bytes 8 e.bytes ++ (e.actions ++ back)))

abbrev times : FlowStat → List ℕ → List ℕ → List ℕ
times e pads back = big_bytes 4 e.duration_sec
    ++ (big_bytes 4 e.duration_nsec
    ++ (big_bytes 2 e.priority ++ (big_bytes 2 e.idle ++ (big_bytes 2 e.hard ++ (pads ++ counts e back)))))

abbrev spread : FlowStat → List ℕ → ℕ → List ℕ → List ℕ → List ℕ
spread e m pad pads back = big_bytes 2 (entry_size e) ++ (e.table_id ∷ (pad ∷ (m ++ times e pads back)))

entry_spread : (e : FlowStat) (m : List ℕ) (pad : ℕ) (pads back : List ℕ)
    → entry_with e m pad pads ++ back ≡ spread e m pad pads back
unfolding entry_with
entry_spread e m pad pads back =
    let ends : List ℕ → List ℕ = λ x. big_bytes 8 e.cookie ++ (big_bytes 8 e.packets ++ (big_bytes 8 e.bytes ++ x)) in
    let clock : List ℕ → List ℕ = λ x. big_bytes 4 e.duration_sec
    ++ (big_bytes 4 e.duration_nsec
    ++ (big_bytes 2 e.priority ++ (big_bytes 2 e.idle ++ (big_bytes 2 e.hard ++ x)))) in
    let front : List ℕ → List ℕ = λ x. big_bytes 2 (entry_size e) ++ (e.table_id ∷ (pad ∷ x)) in
    let inner = append_assoc pads (ends e.actions) back in
    ap front (append_assoc m (clock (pads ++ ends e.actions)) back ∙ ap (λ (x : List ℕ). m ++ clock x) inner)

pub length_with : (e : FlowStat) (m : List ℕ) (pad : ℕ) (pads : List ℕ) → clear_match m ≡ e.m → length pads ≡ 6
    → length (entry_with e m pad pads) ≡ entry_size e
length_with e m pad pads matched six =
    let whole : entry_with e m pad pads ≡ spread e m pad pads [] = sym (append-nil (entry_with e m pad pads))
    ∙ entry_spread e m pad pads [] in
    omega (
      arith,
      ap length whole,
      length-append m (times e pads []),
      length-append pads (counts e []),
      length-append e.actions [],
      length_clear m,
      ap length matched,
      six,
    )

entry_is : (e : FlowStat) (m : List ℕ) (pad : ℕ) (pads back : List ℕ) → IsEntry e → clear_match m ≡ e.m
    → length pads ≡ 6 → entry_of (spread e m pad pads back) ≡ e
unfolding entry_of
entry_is e m pad pads back good matched six =
    let bytes = spread e m pad pads back in
    let long : length m ≡ 40 = sym (length_clear m) ∙ (ap length matched ∙ good.m) in
    let past : (k : ℕ) → drop (40 + k) (m ++ times e pads back) ≡ drop k (times e pads back) =
    λ k. drop_past 40 k m (times e pads back) long in
    let end : (k : ℕ) → drop (6 + k) (pads ++ counts e back) ≡ drop k (counts e back) =
    λ k. drop_past 6 k pads (counts e back) six in
    let hard = big_bytes 2 e.hard ++ (pads ++ counts e back) in
    let idle = big_bytes 2 e.idle ++ hard in
    let rank = big_bytes 2 e.priority ++ idle in
    let nsec = big_bytes 4 e.duration_nsec ++ rank in
    let n : u16_at 0 bytes ≡ entry_size e =
    again 2 (entry_size e) (e.table_id ∷ (pad ∷ (m ++ times e pads back))) good.size in
    let left : u16_at 0 bytes - 88 ≡ length e.actions = omega (arith, n, good.m) in
    let e1 : clear_match (take 40 (m ++ times e pads back)) ≡ e.m =
    ap clear_match (take_at m (times e pads back) 40 long) ∙ matched in
    let e2 : big_number 4 (drop 40 (m ++ times e pads back)) ≡ e.duration_sec = ap (big_number 4) (past 0)
    ∙ again 4 e.duration_sec nsec good.duration_sec in
    let e3 : big_number 4 (drop 44 (m ++ times e pads back)) ≡ e.duration_nsec = ap (big_number 4) (past 4)
    ∙ again 4 e.duration_nsec rank good.duration_nsec in
    let e4 : big_number 2 (drop 48 (m ++ times e pads back)) ≡ e.priority = ap (big_number 2) (past 8)
    ∙ again 2 e.priority idle good.priority in
    let e5 : big_number 2 (drop 50 (m ++ times e pads back)) ≡ e.idle = ap (big_number 2) (past 10)
    ∙ again 2 e.idle hard good.idle in
    let e6 : big_number 2 (drop 52 (m ++ times e pads back)) ≡ e.hard = ap (big_number 2) (past 12)
    ∙ again 2 e.hard (pads ++ counts e back) good.hard in
    let e7 : big_number 8 (drop 60 (m ++ times e pads back)) ≡ e.cookie = ap (big_number 8) (past 20 ∙ end 0)
    ∙ again 8 e.cookie (big_bytes 8 e.packets ++ (big_bytes 8 e.bytes ++ (e.actions ++ back))) good.cookie in
    let e8 : big_number 8 (drop 68 (m ++ times e pads back)) ≡ e.packets = ap (big_number 8) (past 28 ∙ end 8)
    ∙ again 8 e.packets (big_bytes 8 e.bytes ++ (e.actions ++ back)) good.packets in
    let e9 : big_number 8 (drop 76 (m ++ times e pads back)) ≡ e.bytes = ap (big_number 8) (past 36 ∙ end 16)
    ∙ again 8 e.bytes (e.actions ++ back) good.bytes in
    let tail : drop 84 (m ++ times e pads back) ≡ e.actions ++ back = past 44 ∙ end 24 in
    let e10 : take (u16_at 0 bytes - 88) (drop 84 (m ++ times e pads back)) ≡ e.actions =
    ap (take (u16_at 0 bytes - 88)) tail ∙ take_at e.actions back (u16_at 0 bytes - 88) (sym left) in
    λ i. record {
      table_id = e.table_id;
      m = e1 i;
      duration_sec = e2 i;
      duration_nsec = e3 i;
      priority = e4 i;
      idle = e5 i;
      hard = e6 i;
      cookie = e7 i;
      packets = e8 i;
      bytes = e9 i;
      actions = e10 i;
    }

pub entry_again : (e : FlowStat) (front : List ℕ) → IsEntry e → SpellsEntry e front → IsRead entry_at entry_size e front
entry_again e front good s =
    let long : length front ≡ entry_size e = ap length s.whole ∙ length_with e s.m s.pad s.pads s.matched s.pads_fit in
    let reads : (back : List ℕ) → entry_at (front ++ back) ≡ Some e = λ back.
    let bytes = spread e s.m s.pad s.pads back in
    let whole : front ++ back ≡ bytes = ap (λ (x : List ℕ). x ++ back) s.whole ∙ entry_spread e s.m s.pad s.pads back in
    let n : u16_at 0 bytes ≡ entry_size e =
    again 2 (entry_size e) (e.table_id ∷ (s.pad ∷ (s.m ++ times e s.pads back))) good.size in
    let size : length bytes ≡ entry_size e + length back =
    omega (arith, ap length whole, length-append front back, long) in
    let least : nat_le 88 (u16_at 0 bytes) ≡ true = le-leb _ _ (omega (arith, n, good.m)) in
    let within : nat_le (u16_at 0 bytes) (length bytes) ≡ true = le-leb _ _ (omega (arith, n, size)) in
    ap entry_at whole ∙ ((λ i. when (least i && within i) (entry_of bytes))
    ∙ ap (λ (x : FlowStat). Some x) (entry_is e s.m s.pad s.pads back good s.matched s.pads_fit)) in
    record { some = omega arith; long = long; reads = reads }

-- ---- ports

abbrev numbers : PortStat → List ℕ → List ℕ
numbers p back = big_bytes 8 p.rx_packets
    ++ (big_bytes 8 p.tx_packets
    ++ (big_bytes 8 p.rx_bytes
    ++ (big_bytes 8 p.tx_bytes
    ++ (big_bytes 8 p.rx_dropped
    ++ (big_bytes 8 p.tx_dropped
    ++ (big_bytes 8 p.rx_errors
    ++ (big_bytes 8 p.tx_errors
    ++ (big_bytes 8 p.rx_frame_err
    ++ (big_bytes 8 p.rx_over_err ++ (big_bytes 8 p.rx_crc_err ++ (big_bytes 8 p.collisions ++ back)))))))))))

port_spread : (p : PortStat) (pad back : List ℕ)
    → port_with p pad ++ back ≡ big_bytes 2 p.port_no ++ (pad ++ numbers p back)
unfolding port_with
port_spread p pad back = ap (λ (x : List ℕ). big_bytes 2 p.port_no ++ x) (append_assoc pad (numbers p []) back)

pub length_port_with : (p : PortStat) (pad : List ℕ) → length pad ≡ 6 → length (port_with p pad) ≡ 104
unfolding port_with
length_port_with p pad six = omega (arith, length-append pad (numbers p []), six)

port_is : (p : PortStat) (pad back : List ℕ) → IsPort p → length pad ≡ 6
    → port_of (big_bytes 2 p.port_no ++ (pad ++ numbers p back)) ≡ p
unfolding port_of
port_is p pad back good six =
    let past : (k : ℕ) → drop (6 + k) (pad ++ numbers p back) ≡ drop k (numbers p back) =
    λ k. drop_past 6 k pad (numbers p back) six in
    let r12 = back in
    let r11 = big_bytes 8 p.collisions ++ r12 in
    let r10 = big_bytes 8 p.rx_crc_err ++ r11 in
    let r9 = big_bytes 8 p.rx_over_err ++ r10 in
    let r8 = big_bytes 8 p.rx_frame_err ++ r9 in
    let r7 = big_bytes 8 p.tx_errors ++ r8 in
    let r6 = big_bytes 8 p.rx_errors ++ r7 in
    let r5 = big_bytes 8 p.tx_dropped ++ r6 in
    let r4 = big_bytes 8 p.rx_dropped ++ r5 in
    let r3 = big_bytes 8 p.tx_bytes ++ r4 in
    let r2 = big_bytes 8 p.rx_bytes ++ r3 in
    let r1 = big_bytes 8 p.tx_packets ++ r2 in
    let whole = pad ++ numbers p back in
    let e0 : big_number 2 (big_bytes 2 p.port_no ++ whole) ≡ p.port_no = again 2 p.port_no whole good.port_no in
    let e1 : big_number 8 (drop 6 whole) ≡ p.rx_packets = ap (big_number 8) (past 0)
    ∙ again 8 p.rx_packets r1 good.rx_packets in
    let e2 : big_number 8 (drop 14 whole) ≡ p.tx_packets = ap (big_number 8) (past 8)
    ∙ again 8 p.tx_packets r2 good.tx_packets in
    let e3 : big_number 8 (drop 22 whole) ≡ p.rx_bytes = ap (big_number 8) (past 16)
    ∙ again 8 p.rx_bytes r3 good.rx_bytes in
    let e4 : big_number 8 (drop 30 whole) ≡ p.tx_bytes = ap (big_number 8) (past 24)
    ∙ again 8 p.tx_bytes r4 good.tx_bytes in
    let e5 : big_number 8 (drop 38 whole) ≡ p.rx_dropped = ap (big_number 8) (past 32)
    ∙ again 8 p.rx_dropped r5 good.rx_dropped in
    let e6 : big_number 8 (drop 46 whole) ≡ p.tx_dropped = ap (big_number 8) (past 40)
    ∙ again 8 p.tx_dropped r6 good.tx_dropped in
    let e7 : big_number 8 (drop 54 whole) ≡ p.rx_errors = ap (big_number 8) (past 48)
    ∙ again 8 p.rx_errors r7 good.rx_errors in
    let e8 : big_number 8 (drop 62 whole) ≡ p.tx_errors = ap (big_number 8) (past 56)
    ∙ again 8 p.tx_errors r8 good.tx_errors in
    let e9 : big_number 8 (drop 70 whole) ≡ p.rx_frame_err = ap (big_number 8) (past 64)
    ∙ again 8 p.rx_frame_err r9 good.rx_frame_err in
    let e10 : big_number 8 (drop 78 whole) ≡ p.rx_over_err = ap (big_number 8) (past 72)
    ∙ again 8 p.rx_over_err r10 good.rx_over_err in
    let e11 : big_number 8 (drop 86 whole) ≡ p.rx_crc_err = ap (big_number 8) (past 80)
    ∙ again 8 p.rx_crc_err r11 good.rx_crc_err in
    let e12 : big_number 8 (drop 94 whole) ≡ p.collisions = ap (big_number 8) (past 88)
    ∙ again 8 p.collisions r12 good.collisions in
    λ i. record {
      port_no = e0 i;
      rx_packets = e1 i;
      tx_packets = e2 i;
      rx_bytes = e3 i;
      tx_bytes = e4 i;
      rx_dropped = e5 i;
      tx_dropped = e6 i;
      rx_errors = e7 i;
      tx_errors = e8 i;
      rx_frame_err = e9 i;
      rx_over_err = e10 i;
      rx_crc_err = e11 i;
      collisions = e12 i;
    }

pub port_again : (p : PortStat) (front : List ℕ) → IsPort p → SpellsPort p front → IsRead port_at port_size p front
port_again p front good s =
    let long : length front ≡ 104 = ap length s.whole ∙ length_port_with p s.pad s.pad_fits in
    let reads : (back : List ℕ) → port_at (front ++ back) ≡ Some p = λ back.
    let bytes = big_bytes 2 p.port_no ++ (s.pad ++ numbers p back) in
    let whole : front ++ back ≡ bytes = ap (λ (x : List ℕ). x ++ back) s.whole ∙ port_spread p s.pad back in
    let size : length bytes ≡ 104 + length back = omega (arith, ap length whole, length-append front back, long) in
    let least : nat_le 104 (length bytes) ≡ true = le-leb _ _ (omega (arith, size)) in
    ap port_at whole ∙ ((λ i. when (least i) (port_of bytes))
    ∙ ap (λ (x : PortStat). Some x) (port_is p s.pad back good s.pad_fits)) in
    record { some = omega arith; long = long; reads = reads }

-- ---- texts

pub texts_again : (texts : List (List ℕ)) → texts_of (map length texts) (joined texts) ≡ texts
unfolding texts_of
texts_again [] = refl
texts_again (text ∷ texts) =
    let whole : joined (text ∷ texts) ≡ text ++ joined texts = flat_map-cons (λ (t : List ℕ). t) text texts in
    let first : take (length text) (joined (text ∷ texts)) ≡ text = ap (take (length text)) whole
    ∙ take_at text (joined texts) (length text) refl in
    let rest : drop (length text) (joined (text ∷ texts)) ≡ joined texts = ap (drop (length text)) whole
    ∙ drop_at text (joined texts) (length text) refl in
    let others = ap (texts_of (map length texts)) rest ∙ texts_again texts in
    λ i. first i ∷ others i
