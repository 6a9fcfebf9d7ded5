use Rattle.std.proofs.Common.{◌<◌, arith}
use Rattle.member_table.specs.declared.entry.Entry.{Entry}
use Rattle.member_replies.proofs.Entries.{at_place}
use Rattle.member_replies.proofs.flows.with_entry_at.Goals as goal

pub count-packets-requires : goal.count-packets-requires
count-packets-requires g c =
    let t = c.args.table.now.table in
    let given = at_place (λ (e : Entry). (0 < e.serial) × (e.serial < t.next)) t.entries c.args.place
    c.in-Some.entry.now
    c.requires.given c.in-Some.ensures in
    omega (arith, given.1, c.requires.fits)
