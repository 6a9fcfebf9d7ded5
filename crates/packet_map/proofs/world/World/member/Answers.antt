use Rattle.std.proofs.Common.{ap, ◌∙◌, sym}
use Rattle.std.specs.Prelude.{option_map}
use Rattle.packet_map.specs.Answers.{table_of}
use Rattle.packet_map.proofs.Finding.{no-grant, no-table, table-there}
use Rattle.packet_map.proofs.world.World.member.Goals as goal

pub returns-in_err-grant-clause-table : goal.returns-in_err-grant-clause-table
returns-in_err-grant-clause-table c =
    ap (option_map table_of) c.from_residual.ensures
    ∙ sym (no-grant c.args.self.now.grants.now c.args.self.now.tables.now c.args.number
    (sym c.in_err-grant.ensures.value))

pub returns-in_err-table-clause-table : goal.returns-in_err-table-clause-table
returns-in_err-table-clause-table c =
    ap (option_map table_of) c.from_residual-in_err-table.ensures
    ∙ sym (no-table c.args.self.now.grants.now c.args.self.now.tables.now c.args.number
    (sym c.in_err-table.ensures.value))

pub returns-clause-table : goal.returns-clause-table
returns-clause-table c =
    sym (table-there c.args.self.now.grants.now c.args.self.now.tables.now c.args.number c.in_ok-grant.grant.now
    c.in_ok-table.table.now (sym c.in_ok-grant.ensures.value) (sym c.in_ok-table.ensures.value))
