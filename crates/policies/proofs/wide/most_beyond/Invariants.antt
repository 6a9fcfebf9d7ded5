use Rattle.std.proofs.Common.{◌≡◌, ◌≤◌, max, map, drop}
use Rattle.policies.specs.Widths.{greatest, beyond, number_at}
use Rattle.policies.proofs.wide.most_beyond.Given as goal

abbrev pub invariant-loop-port : goal.invariant-loop-port
invariant-loop-port l =
    let f = beyond l.topology (number_at l.needed) l.v in
    record {
      some : 1 ≤ l.most;
      left : max l.most (greatest (map (λ p. f p.port) (drop l.port-index l.item.ports)))
          ≡ greatest (map (λ p. f p.port) l.item.ports);
    }
