use Rattle.std.proofs.Common.{◌≡◌, drop}
use Rattle.soft_net.specs.Counting.{counted_all, ports_counted}
use Rattle.soft_net.proofs.switch.SoftSwitch.count.Given as goal

-- what was counted so far, and then what is left to count
abbrev pub invariant-loop-hit : goal.invariant-loop-hit
invariant-loop-hit l = record {
  table : counted_all (drop l.hit-index l.hits) l.self.table ≡ counted_all l.hits l.fn.self.table;
  ports : ports_counted (drop l.hit-index l.hits) l.self.ports.entries ≡ ports_counted l.hits l.fn.self.ports.entries;
}
