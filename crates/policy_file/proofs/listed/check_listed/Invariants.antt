use Rattle.std.proofs.Common.{◌≡◌, map, string_bytes}
use Rattle.toml.specs.View.{table_view}
use Rattle.virtual_topology.specs.Faults.{first_answer}
use Rattle.policy_file.specs.Listed.{unlisted, unlisted_key}
use Rattle.policy_file.proofs.listed.check_listed.Given as goal

abbrev pub invariant-loop-key : goal.invariant-loop-key
invariant-loop-key l = first_answer (unlisted_key l.section l.version) (map string_bytes l.key-iterator)
    ≡ unlisted l.version l.section (table_view l.table)
