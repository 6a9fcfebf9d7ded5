use Rattle.std.proofs.Common.{◌≡◌, map, string_bytes}
use Rattle.std.specs.List.{list_all}
use Rattle.toml.specs.View.{table_view}
use Rattle.policy_file.specs.Regions.{may_name, names_fields}
use Rattle.policy_file.specs.Words.{field}
use Rattle.policy_file.proofs.region.names_fields.Given as goal

abbrev pub invariant-loop-key : goal.invariant-loop-key
invariant-loop-key l = list_all (λ key. may_name (field key)) (map string_bytes l.key-iterator)
    ≡ names_fields (table_view l.table)
