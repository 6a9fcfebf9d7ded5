use Rattle.std.proofs.Common.{◌≡◌, ◌++◌, All, length, map}
use Rattle.of10_stats.specs.Parts.{part_replies, parts}
use Rattle.of10_stats.specs.Ranges.{CanWriteEntry}
use Rattle.of10_stats.specs.Spelling.{reply_message}
use Rattle.of10_stats.proofs.writing.write_parts.Given as goal

abbrev pub invariant-loop-left : goal.invariant-loop-left
invariant-loop-left l = record {
  so_far : l.messages ++ map (reply_message l.xid) (part_replies (parts l.left))
      ≡ l.fn.messages ++ map (reply_message l.xid) (part_replies (parts l.entries));
  writable : All CanWriteEntry l.left;
}

abbrev pub decreases-loop-left : goal.decreases-loop-left
decreases-loop-left l = length l.left
