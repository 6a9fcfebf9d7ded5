use Rattle.std.proofs.Common.{◌+◌, ◌<◌, ◌^◌, ◌∙◌}
use Rattle.of10_actions.specs.Actions.{AreInRange}
use Rattle.member_table.specs.Best.{best_entry}
use Rattle.member_table.specs.declared.entry.Entry.{Entry}
use Rattle.packet_map.proofs.Finding.{best-found, best-in_range, best-numbered, copied-each}
use Rattle.packet_map.proofs.answer.Member.best.Goals as goal

pub returns-clause-best : goal.returns-clause-best
returns-clause-best c = c.get.ensures
    ∙ best-found c.args.self.now.table.now.table c.args.header.now c.in_ok-serial.serial c.len.ensures.sound
    c.in_ok-serial.ensures

pub returns-clause-in_range : goal.returns-clause-in_range
returns-clause-in_range c =
    let t = c.args.self.now.table.now.table in
    let h = c.args.header.now in
    copied-each (λ (e : Entry). AreInRange e.actions) c.get.result (best_entry t.entries h)
    (c.get.ensures ∙ best-found t h c.in_ok-serial.serial c.len.ensures.sound c.in_ok-serial.ensures)
    (best-in_range t h c.len.ensures.sound)

pub returns-clause-serial : goal.returns-clause-serial
returns-clause-serial c =
    let t = c.args.self.now.table.now.table in
    let h = c.args.header.now in
    copied-each (λ (e : Entry). 2 + e.serial < 2 ^ 64) c.get.result (best_entry t.entries h)
    (c.get.ensures ∙ best-found t h c.in_ok-serial.serial c.len.ensures.sound c.in_ok-serial.ensures)
    (best-numbered t h c.len.ensures.sound)
