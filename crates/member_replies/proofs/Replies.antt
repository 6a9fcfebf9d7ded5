-- Statistics of members can be written.
use Rattle.std.proofs.Common.{◌≡◌, ℕ, ◌+◌, ◌*◌, ◌≤◌, false, List, [], ◌∷◌, ◌++◌, length, map, min, take, ap, sym, subst}
use Rattle.std.proofs.Common.{refl, ◌∙◌, arith}
use Rattle.std.specs.Prelude.{codes, count_by, filter}
use Rattle.std.proofs.lemmas.List.{length-map, length-take}
use Rattle.std.proofs.lemmas.List.Sums.{count_by-le-length, length-filter}
use Rattle.byteorder.specs.Endian.{big_bytes}
use Rattle.hex.specs.Hex.{encode_lower}
use Rattle.of10_actions.specs.Spelling.{spellings}
use Rattle.of10_msgs.specs.Ranges.{IsClear}
use Rattle.of10_msgs.proofs.FoundParts.{clear_twice}
use Rattle.of10_msgs.proofs.SpelledBodies.{length_clear}
use Rattle.of10_stats.specs.Ranges.{CanWriteEntry, CanWriteReply, widths}
use Rattle.of10_stats.specs.declared.reply.FlowStat.{FlowStat}
use Rattle.of10_stats.specs.declared.reply.PortStat.{PortStat}
use Rattle.of10_stats.specs.declared.reply.ReplyBody.TheVariants.{Port}
use Rattle.of10_stats.proofs.Lengths.{length_ports}
use Rattle.member_table.specs.declared.entry.Entry.{Entry}
use Rattle.member_replies.specs.Packets.{written_match}
use Rattle.member_replies.specs.Statistics.{is_asked, texts_of, told_of}
use Rattle.member_replies.proofs.Entries.{length_actions}
use Rattle.member_replies.proofs.Widths.{length_filled}

-- the match of an entry has zeros for its padding
pub clear_written : (e : Entry) → length (written_match e) ≡ 40 → IsClear (written_match e)
clear_written e long = clear_twice e.raw (sym (length_clear e.raw) ∙ long)

-- an entry's statistics, where it has few actions
pub entry_writable : (e : Entry) (s : FlowStat) → s.m ≡ written_match e → length s.m ≡ 40
    → s.actions ≡ spellings e.actions → length e.actions ≤ 64 → CanWriteEntry s
entry_writable e s m long actions short = record {
  clear = subst IsClear (sym m) (clear_written e (ap length (sym m) ∙ long));
  small = omega (arith, long, ap length actions, length_actions e.actions, short);
}

-- the texts that describe a virtual switch are of their widths
pub texts_fit : (dpid : ℕ) (name : List ℕ) → map length (texts_of dpid name) ≡ widths
texts_fit dpid name =
    let product = length_filled 256 (codes "CoVisor") in
    let hardware = length_filled 256 (codes "virtual switch") in
    let software = length_filled 256 (codes "of10 profile 1") in
    let serial = length_filled 32 (encode_lower (big_bytes 8 dpid)) in
    let title = length_filled 256 name in
    λ i. product i ∷ hardware i ∷ software i ∷ serial i ∷ title i ∷ []

-- statistics of at most 64 ports
pub ports_writable : (ps told : List PortStat) (number : ℕ) (xs : List ℕ) (n : ℕ)
    → ps ≡ map (told_of told) (filter (is_asked number) (take n xs)) → length xs ≤ 64
    → CanWriteReply (record { more = false; body = Port ps })
ports_writable ps told number xs n made few =
    let asked = filter (is_asked number) (take n xs) in
    let many : length ps ≡ count_by (is_asked number) (take n xs) = ap length made
    ∙ (length-map asked (told_of told) ∙ length-filter (is_asked number) (take n xs)) in
    record {
      whole = refl;
      body =
          omega (arith, length_ports ps, many, count_by-le-length (is_asked number) (take n xs), length-take n xs, few);
    }
