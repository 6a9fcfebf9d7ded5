use Rattle.std.proofs.Common.{◌∙◌}
use Rattle.incr_compile.proofs.Built.{member-built}
use Rattle.incr_compile.proofs.Wholes.{kept-all}
use Rattle.incr_compile.proofs.building.member_tree.Goals as goal

pub returns : goal.returns
returns c =
    member-built c.args.tables.now c.args.ports.now c.requires.tables c.requires.sound c.args.member
    c.member_size.result c.in_ok-member_rules.field-0.items c.add_all.new.self c.member_size.ensures
    (c.in_ok-member_rules.ensures.rules ∙ c.in_ok-rules.ensures) c.in_ok-member_rules.ensures.found
    (kept-all c.in_ok-add_all.field-0.items c.in_ok-member_rules.field-0.items c.new-made.result c.add_all.new.self
    c.new-made.ensures c.in_ok-add_all.ensures.count c.in_ok-add_all.ensures.added)
