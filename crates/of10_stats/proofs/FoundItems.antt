-- Entries and ports that were read are spelled by their bytes.
use Rattle.std.proofs.Common.{◌≡◌, ℕ, ◌+◌, ◌-◌, ◌≤◌, List, [], ◌∷◌, ◌++◌, length, map, take, drop, Some, refl, sym, ap}
use Rattle.std.proofs.Common.{subst, ◌∙◌, append_assoc, arith}
use Rattle.std.specs.Prelude.{slice_index, sum}
use Rattle.std.proofs.lemmas.List.{length-drop, length-take-le, take-append-drop, take_at}
use Rattle.std.proofs.lemmas.List.Concat.{flat_map-cons}
use Rattle.byteorder.specs.Endian.{big_bytes, big_number}
use Rattle.of10_actions.specs.Reading.{u16_at}
use Rattle.of10_actions.specs.Spelling.{IsBytes}
use Rattle.of10_msgs.specs.Reading.{span}
use Rattle.of10_msgs.proofs.Fields.{split}
use Rattle.of10_msgs.proofs.FoundParts.{byte, clear_twice, length_part, number_lt, part}
use Rattle.of10_msgs.proofs.SpelledBodies.{length_clear}
use Rattle.of10_stats.specs.Ranges.{IsEntry, IsPort}
use Rattle.of10_stats.specs.Reading.{entry_at, entry_of, port_at, port_of, texts_of}
use Rattle.of10_stats.specs.Spelling.{SpellsEntry, SpellsPort, entry_size, entry_with, joined, port_size, port_with}
use Rattle.of10_stats.specs.declared.reply.FlowStat.{FlowStat}
use Rattle.of10_stats.specs.declared.reply.PortStat.{PortStat}
use Rattle.of10_stats.proofs.Items.{IsItem}
use Rattle.of10_stats.proofs.Lengths.{sum_cons}
use Rattle.of10_stats.proofs.SpelledItems.{length_port_with, length_with}
use Rattle.of10_stats.proofs.Whole.{entry_whole, port_whole, size_of_entry}

-- the bytes of a number at a place, and then the rest
number_at : (n at : ℕ) (bytes rest : List ℕ) → IsBytes bytes → at + n ≤ length bytes → drop (at + n) bytes ≡ rest
    → drop at bytes ≡ big_bytes n (big_number n (drop at bytes)) ++ rest
number_at n at bytes rest fits long behind = split n at bytes fits long
    ∙ ap (λ (x : List ℕ). big_bytes n (big_number n (drop at bytes)) ++ x) behind

-- ---- entries

-- the bytes of an entry that is read, and then the rest
entry_front : (bytes : List ℕ) → IsBytes bytes → 88 ≤ u16_at 0 bytes → u16_at 0 bytes ≤ length bytes
    → bytes ≡ entry_with (entry_of bytes) (span 4 40 bytes) (slice_index bytes 3) (span 58 6 bytes)
    ++ drop (u16_at 0 bytes) bytes
unfolding entry_of entry_with
entry_front bytes fits least within =
    let n = u16_at 0 bytes in
    let e = entry_of bytes in
    let m = span 4 40 bytes in
    let pads = span 58 6 bytes in
    let back = drop n bytes in
    let end : 88 + (n - 88) ≡ n = omega (arith, least) in
    let f12 : drop 88 bytes ≡ e.actions ++ back = part (n - 88) 88 bytes
    ∙ ap (λ (k : ℕ). e.actions ++ drop k bytes) end in
    let f11 = number_at 8 80 bytes (e.actions ++ back) fits (omega (arith, least, within)) f12 in
    let f10 = number_at 8 72 bytes (big_bytes 8 e.bytes ++ (e.actions ++ back)) fits (omega (arith, least, within))
    f11 in
    let f9 = number_at 8 64 bytes (big_bytes 8 e.packets ++ (big_bytes 8 e.bytes ++ (e.actions ++ back))) fits
    (omega (arith, least, within)) f10 in
    let counts = big_bytes 8 e.cookie ++ (big_bytes 8 e.packets ++ (big_bytes 8 e.bytes ++ e.actions)) in
    let f8 : drop 58 bytes ≡ (pads ++ counts) ++ back = part 6 58 bytes
    ∙ (ap (λ (x : List ℕ). pads ++ x) f9 ∙ sym (append_assoc pads counts back)) in
    let clock = pads ++ counts in
    let f7 = number_at 2 56 bytes (clock ++ back) fits (omega (arith, least, within)) f8 in
    let f6 = number_at 2 54 bytes (big_bytes 2 e.hard ++ (clock ++ back)) fits (omega (arith, least, within)) f7 in
    let f5 = number_at 2 52 bytes (big_bytes 2 e.idle ++ (big_bytes 2 e.hard ++ (clock ++ back))) fits
    (omega (arith, least, within)) f6 in
    let rank = big_bytes 2 e.priority ++ (big_bytes 2 e.idle ++ (big_bytes 2 e.hard ++ (clock ++ back))) in
    let f4 = number_at 4 48 bytes rank fits (omega (arith, least, within)) f5 in
    let f3 = number_at 4 44 bytes (big_bytes 4 e.duration_nsec ++ rank) fits (omega (arith, least, within)) f4 in
    let times = big_bytes 4 e.duration_sec
    ++ (big_bytes 4 e.duration_nsec
    ++ (big_bytes 2 e.priority ++ (big_bytes 2 e.idle ++ (big_bytes 2 e.hard ++ clock)))) in
    let f2 : drop 4 bytes ≡ (m ++ times) ++ back = part 40 4 bytes
    ∙ (ap (λ (x : List ℕ). m ++ x) f3 ∙ sym (append_assoc m times back)) in
    let f1 = byte 3 bytes (omega (arith, least, within)) ∙ ap (λ (x : List ℕ). slice_index bytes 3 ∷ x) f2 in
    let f0 = byte 2 bytes (omega (arith, least, within)) ∙ ap (λ (x : List ℕ). slice_index bytes 2 ∷ x) f1 in
    let size : entry_size e ≡ n = size_of_entry bytes least within in
    number_at 2 0 bytes (slice_index bytes 2 ∷ (slice_index bytes 3 ∷ ((m ++ times) ++ back))) fits
    (omega (arith, least, within)) f0
    ∙ ap (λ (k : ℕ). big_bytes 2 k ++ (slice_index bytes 2 ∷ (slice_index bytes 3 ∷ ((m ++ times) ++ back)))) (sym size)

entry_good : (bytes : List ℕ) → IsBytes bytes → 88 ≤ u16_at 0 bytes → u16_at 0 bytes ≤ length bytes
    → IsEntry (entry_of bytes)
unfolding entry_of
entry_good bytes fits least within =
    let long : length (span 4 40 bytes) ≡ 40 = length_part 40 4 bytes (omega (arith, least, within)) in
    record {
      m = length_clear (span 4 40 bytes) ∙ long;
      clear = clear_twice (span 4 40 bytes) long;
      duration_sec = number_lt 4 44 bytes fits;
      duration_nsec = number_lt 4 48 bytes fits;
      priority = number_lt 2 52 bytes fits;
      idle = number_lt 2 54 bytes fits;
      hard = number_lt 2 56 bytes fits;
      cookie = number_lt 8 64 bytes fits;
      packets = number_lt 8 72 bytes fits;
      bytes = number_lt 8 80 bytes fits;
      size = omega (arith, size_of_entry bytes least within, number_lt 2 0 bytes fits);
    }

entry_spelled : (bytes : List ℕ) → IsBytes bytes → 88 ≤ u16_at 0 bytes → u16_at 0 bytes ≤ length bytes
    → IsItem entry_size SpellsEntry IsEntry bytes (entry_of bytes)
unfolding entry_of
entry_spelled bytes fits least within =
    let n = u16_at 0 bytes in
    let e = entry_of bytes in
    let m = span 4 40 bytes in
    let pads = span 58 6 bytes in
    let six : length pads ≡ 6 = length_part 6 58 bytes (omega (arith, least, within)) in
    let front = entry_with e m (slice_index bytes 3) pads in
    let size : entry_size e ≡ n = size_of_entry bytes least within in
    let long : length front ≡ entry_size e = length_with e m (slice_index bytes 3) pads refl six in
    let whole : take (entry_size e) bytes ≡ front = ap (take (entry_size e)) (entry_front bytes fits least within)
    ∙ take_at front (drop n bytes) (entry_size e) long in
    record {
      some = omega (arith, size, least);
      within = omega (arith, size, within);
      spells = record { m = m; pad = slice_index bytes 3; pads = pads; matched = refl; pads_fit = six; whole = whole };
      good = entry_good bytes fits least within;
    }

pub entry_found : (bytes : List ℕ) (e : FlowStat) → IsBytes bytes → entry_at bytes ≡ Some e
    → IsItem entry_size SpellsEntry IsEntry bytes e
entry_found bytes e fits read =
    let w = entry_whole bytes e read in
    subst (IsItem entry_size SpellsEntry IsEntry bytes) w.is (entry_spelled bytes fits w.least w.within)

-- ---- ports

port_front : (bytes : List ℕ) → IsBytes bytes → 104 ≤ length bytes
    → bytes ≡ port_with (port_of bytes) (span 2 6 bytes) ++ drop 104 bytes
unfolding port_of port_with
port_front bytes fits long =
    let p = port_of bytes in
    let back = drop 104 bytes in
    let g12 = number_at 8 96 bytes back fits (omega arith) refl in
    let r12 = big_bytes 8 p.collisions ++ back in
    let g11 = number_at 8 88 bytes r12 fits (omega arith) g12 in
    let r11 = big_bytes 8 p.rx_crc_err ++ r12 in
    let g10 = number_at 8 80 bytes r11 fits (omega arith) g11 in
    let r10 = big_bytes 8 p.rx_over_err ++ r11 in
    let g9 = number_at 8 72 bytes r10 fits (omega arith) g10 in
    let r9 = big_bytes 8 p.rx_frame_err ++ r10 in
    let g8 = number_at 8 64 bytes r9 fits (omega arith) g9 in
    let r8 = big_bytes 8 p.tx_errors ++ r9 in
    let g7 = number_at 8 56 bytes r8 fits (omega arith) g8 in
    let r7 = big_bytes 8 p.rx_errors ++ r8 in
    let g6 = number_at 8 48 bytes r7 fits (omega arith) g7 in
    let r6 = big_bytes 8 p.tx_dropped ++ r7 in
    let g5 = number_at 8 40 bytes r6 fits (omega arith) g6 in
    let r5 = big_bytes 8 p.rx_dropped ++ r6 in
    let g4 = number_at 8 32 bytes r5 fits (omega arith) g5 in
    let r4 = big_bytes 8 p.tx_bytes ++ r5 in
    let g3 = number_at 8 24 bytes r4 fits (omega arith) g4 in
    let r3 = big_bytes 8 p.rx_bytes ++ r4 in
    let g2 = number_at 8 16 bytes r3 fits (omega arith) g3 in
    let r2 = big_bytes 8 p.tx_packets ++ r3 in
    let g1 = number_at 8 8 bytes r2 fits (omega arith) g2 in
    let pad = span 2 6 bytes in
    let numbers = big_bytes 8 p.rx_packets
    ++ (big_bytes 8 p.tx_packets
    ++ (big_bytes 8 p.rx_bytes
    ++ (big_bytes 8 p.tx_bytes
    ++ (big_bytes 8 p.rx_dropped
    ++ (big_bytes 8 p.tx_dropped
    ++ (big_bytes 8 p.rx_errors
    ++ (big_bytes 8 p.tx_errors
    ++ (big_bytes 8 p.rx_frame_err
    ++ (big_bytes 8 p.rx_over_err ++ (big_bytes 8 p.rx_crc_err ++ big_bytes 8 p.collisions)))))))))) in
    let g0 : drop 2 bytes ≡ (pad ++ numbers) ++ back = part 6 2 bytes
    ∙ (ap (λ (x : List ℕ). pad ++ x) g1 ∙ sym (append_assoc pad numbers back)) in
    number_at 2 0 bytes ((pad ++ numbers) ++ back) fits (omega arith) g0

port_good : (bytes : List ℕ) → IsBytes bytes → IsPort (port_of bytes)
unfolding port_of
port_good bytes fits = record {
  port_no = number_lt 2 0 bytes fits;
  rx_packets = number_lt 8 8 bytes fits;
  tx_packets = number_lt 8 16 bytes fits;
  rx_bytes = number_lt 8 24 bytes fits;
  tx_bytes = number_lt 8 32 bytes fits;
  rx_dropped = number_lt 8 40 bytes fits;
  tx_dropped = number_lt 8 48 bytes fits;
  rx_errors = number_lt 8 56 bytes fits;
  tx_errors = number_lt 8 64 bytes fits;
  rx_frame_err = number_lt 8 72 bytes fits;
  rx_over_err = number_lt 8 80 bytes fits;
  rx_crc_err = number_lt 8 88 bytes fits;
  collisions = number_lt 8 96 bytes fits;
}

port_spelled : (bytes : List ℕ) → IsBytes bytes → 104 ≤ length bytes
    → IsItem port_size SpellsPort IsPort bytes (port_of bytes)
port_spelled bytes fits long =
    let p = port_of bytes in
    let pad = span 2 6 bytes in
    let six : length pad ≡ 6 = length_part 6 2 bytes (omega arith) in
    let whole : take 104 bytes ≡ port_with p pad = ap (take 104) (port_front bytes fits long)
    ∙ take_at (port_with p pad) (drop 104 bytes) 104 (length_port_with p pad six) in
    record {
      some = omega arith;
      within = long;
      spells = record { pad = pad; pad_fits = six; whole = whole };
      good = port_good bytes fits;
    }

pub port_found : (bytes : List ℕ) (p : PortStat) → IsBytes bytes → port_at bytes ≡ Some p
    → IsItem port_size SpellsPort IsPort bytes p
port_found bytes p fits read =
    let w = port_whole bytes p read in
    subst (IsItem port_size SpellsPort IsPort bytes) w.1 (port_spelled bytes fits w.0)

-- ---- texts

pub texts_widths : (widths bytes : List ℕ) → sum widths ≤ length bytes → map length (texts_of widths bytes) ≡ widths
unfolding texts_of
texts_widths [] bytes room = refl
texts_widths (width ∷ widths) bytes room =
    let one : length (take width bytes) ≡ width =
    length-take-le width bytes (omega (arith, room, sum_cons width widths)) in
    let others = texts_widths widths (drop width bytes)
    (omega (arith, room, sum_cons width widths, length-drop width bytes)) in
    λ i. one i ∷ others i

pub texts_joined : (widths bytes : List ℕ) → sum widths ≡ length bytes → bytes ≡ joined (texts_of widths bytes)
unfolding texts_of
texts_joined [] [] whole = refl
texts_joined [] (byte ∷ bytes) whole = absurd (omega (arith, whole))
texts_joined (width ∷ widths) bytes whole =
    let others = texts_joined widths (drop width bytes)
    (omega (arith, whole, sum_cons width widths, length-drop width bytes)) in
    sym (take-append-drop width bytes)
    ∙ (ap (λ (x : List ℕ). take width bytes ++ x) others
    ∙ sym (flat_map-cons (λ (t : List ℕ). t) (take width bytes) (texts_of widths (drop width bytes))))
