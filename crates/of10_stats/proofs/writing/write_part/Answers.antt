use Rattle.std.proofs.Common.{◌≡◌, ◌+◌, ◌++◌, List, ℕ, length, ap, ◌∙◌, arith}
use Rattle.std.specs.List.{flat_map}
use Rattle.of10_frames.specs.Wire.{header_bytes}
use Rattle.of10_stats.specs.Spelling.{entry_bytes, more_flag, start}
use Rattle.of10_stats.proofs.Lengths.{length_entries}
use Rattle.of10_stats.proofs.writing.write_part.Goals as goal

pub returns : goal.returns
returns c =
    let part = c.args.part.now in
    let bytes = flat_map entry_bytes part in
    let head = c.in_ok-extend_from_slice.ensures.extended
    ∙ (ap (λ (x : List ℕ). x ++ c.head.result) c.in_ok-out.ensures ∙ c.head.ensures) in
    let long : 12 + c.entries_length-length.result ≡ 8 + length (start 1 (more_flag c.args.more) ++ bytes) =
    omega (arith, c.entries_length-length.ensures, length_entries part) in
    c.in_ok-write_entries.ensures
    ∙ (ap (λ (x : List ℕ). x ++ bytes) head
    ∙ ap (λ (n : ℕ). (header_bytes 17 n c.args.xid ++ start 1 (more_flag c.args.more)) ++ bytes) long)
