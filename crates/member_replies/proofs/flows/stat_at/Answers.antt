use Rattle.std.proofs.Common.{length, ◌≤◌, ◌<◌, arith}
use Rattle.member_table.specs.Sound.{IsAsWritten}
use Rattle.member_table.specs.declared.entry.Entry.{Entry}
use Rattle.member_replies.proofs.Entries.{at_place}
use Rattle.member_replies.proofs.flows.stat_at.Goals as goal

pub flow_stat-requires-clause-in_range : goal.flow_stat-requires-clause-in_range
flow_stat-requires-clause-in_range g c =
    (at_place IsAsWritten c.args.table.now.table.entries c.args.place c.in-Some.entry.now
    c.requires.sound.written c.in-Some.ensures).actions

pub flow_stat-requires-clause-short : goal.flow_stat-requires-clause-short
flow_stat-requires-clause-short g c =
    at_place (λ (e : Entry). length e.actions ≤ 64) c.args.table.now.table.entries c.args.place c.in-Some.entry.now
    c.requires.short c.in-Some.ensures

pub count-packets-requires : goal.count-packets-requires
count-packets-requires g c =
    let t = c.args.table.now.table in
    let sound = c.requires.sound in
    let given = at_place (λ (e : Entry). (0 < e.serial) × (e.serial < t.next)) t.entries c.args.place
    c.in-Some.entry.now
    sound.given c.in-Some.ensures in
    omega (arith, given.1, sound.fits)
