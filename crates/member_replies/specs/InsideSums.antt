-- Sums over the entries that were gone through so far.
use Rattle.std.specs.Prelude.{ℕ, ◌+◌, List, length, min, sum_by}
use Rattle.switch_meaning.specs.Counts.{Numbers, capped}
use Rattle.member_table.specs.declared.entry.Entry.{Entry}
use Rattle.member_replies.specs.declared.flows.Sums.{Sums}

-- sums with those over further entries
abbrev pub sums_with : (ℕ → Numbers) → Sums → List Entry → Sums
sums_with count s es = record {
  packets = capped (s.packets + sum_by (λ e. (count e.serial).packets) es);
  bytes = capped (s.bytes + sum_by (λ e. (count e.serial).bytes) es);
  flows = min (s.flows + length es) 4294967295;
}

-- sums over entries
abbrev pub sums_of : (ℕ → Numbers) → List Entry → Sums
sums_of count es = sums_with count (record { packets = 0; bytes = 0; flows = 0 }) es
