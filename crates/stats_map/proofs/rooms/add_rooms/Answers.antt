use Rattle.std.proofs.Common.{◌∙◌}
use Rattle.stats_map.proofs.Making.{else-next, room-next}
use Rattle.stats_map.proofs.rooms.add_rooms.Goals as goal

pub loop-key-preserved : goal.loop-key-preserved
loop-key-preserved g c =
    let total = g.met.K.Ord.total in
    let step = c.in-Some.ensures.steps in (
      c.add_room.ensures.undone ∙ c.loop-key.invariant.0,
      else-next total c.args.slots.now.entries c.loop-key.key-iterator c.next.new.self c.loop-key.map.entries
          c.add_room.new.map.entries c.in-Some.key.now c.in-Some.slot.now step c.loop-key.invariant.2
          c.args.map.now.entries c.add_room.ensures.other c.loop-key.invariant.1,
      room-next total c.args.slots.now.entries c.loop-key.key-iterator c.next.new.self c.loop-key.map.entries
          c.add_room.new.map.entries c.in-Some.key.now c.in-Some.slot.now step c.loop-key.invariant.2
          c.add_room.ensures.stay c.in_ok-add_room.ensures.room,
    )

pub returns-in_err-add_room-clause-undone : goal.returns-in_err-add_room-clause-undone
returns-in_err-add_room-clause-undone g c = c.add_room.ensures.undone ∙ c.loop-key.invariant.0

pub returns-in_err-add_room-clause-other : goal.returns-in_err-add_room-clause-other
returns-in_err-add_room-clause-other g c =
    else-next g.met.K.Ord.total c.args.slots.now.entries c.loop-key.key-iterator c.next.new.self c.loop-key.map.entries
    c.add_room.new.map.entries c.in-Some.key.now c.in-Some.slot.now c.in-Some.ensures.steps c.loop-key.invariant.2
    c.args.map.now.entries c.add_room.ensures.other c.loop-key.invariant.1
