use Rattle.std.proofs.Common.{◌∙◌, ap, sym}
use Rattle.std.specs.Prelude.{option_map}
use Rattle.packet_map.specs.Networks.{leaf_entry, no_levels}
use Rattle.packet_map.proofs.BareWalks.{best-of}
use Rattle.packet_map.proofs.answer.Member.answer.Goals as goal

pub returns-in-None-clause-answer : goal.returns-in-None-clause-answer
returns-in-None-clause-answer c =
    let m = c.args.self.now in (
      sym c.is_inside.ensures ∙ c.if-not-is_inside.false,
      best-of no_levels m.number m.grant.now.ports c.args.header.now m.table.now.table.entries
          ∙ ap (option_map (leaf_entry no_levels m.number m.grant.now.ports)) (sym c.in-None.ensures.best),
    )

pub returns-in-Some-clause-answer : goal.returns-in-Some-clause-answer
returns-in-Some-clause-answer c =
    let m = c.args.self.now in (
      sym c.is_inside.ensures ∙ c.if-not-is_inside.false,
      best-of no_levels m.number m.grant.now.ports c.args.header.now m.table.now.table.entries
          ∙ ap (option_map (leaf_entry no_levels m.number m.grant.now.ports)) (sym c.in-Some.ensures.best),
    )
