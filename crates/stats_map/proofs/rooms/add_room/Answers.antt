use Rattle.stats_map.specs.Slots.{value_at}
use Rattle.stats_map.proofs.Drawing.{none-undone, not-there, put-undone}
use Rattle.stats_map.proofs.rooms.add_room.Goals as goal

pub returns-in_err-insert-clause-undone : goal.returns-in_err-insert-clause-undone
returns-in_err-insert-clause-undone g c =
    let none = not-there (value_at g.K.Ord.cmp c.args.key.now c.args.map.now.entries) c.contains_key.result
    c.contains_key.ensures c.if-contains_key.false in
    none-undone g.met.K.Ord.total c.args.made.now.items c.push.new.self.items c.args.key.now c.args.map.now.entries
    c.insert.new.self.entries c.in_ok-push.ensures.items c.in_err-insert.ensures.err none

pub returns-clause-undone : goal.returns-clause-undone
returns-clause-undone g c =
    let none = not-there (value_at g.K.Ord.cmp c.args.key.now c.args.map.now.entries) c.contains_key.result
    c.contains_key.ensures c.if-contains_key.false in
    put-undone g.met.K.Ord.total c.args.made.now.items c.push.new.self.items c.args.key.now c.in_ok-value.value
    c.args.map.now.entries c.insert.new.self.entries c.in_ok-push.ensures.items c.in_ok-insert.ensures.entries none
