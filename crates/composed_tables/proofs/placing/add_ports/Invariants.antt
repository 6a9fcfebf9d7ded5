use Rattle.std.proofs.Common.{◌≡◌, ◌++◌, take, Some}
use Rattle.std.specs.Prelude.{flat_map}
use Rattle.agreement.specs.Entries.{placed}
use Rattle.composed_tables.specs.Placing.{entrance, rules_at}
use Rattle.composed_tables.proofs.placing.add_ports.Given as goal

abbrev pub invariant-loop-port : goal.invariant-loop-port
invariant-loop-port l =
    l.entries ≡ l.initial.entries
    ++ flat_map (λ p. placed l.wiring l.site l.outside
    (record { port = Some p; rules = rules_at l.part l.deltas (entrance l.site.v (Some p)) }))
    (take l.port-index l.port-items)
