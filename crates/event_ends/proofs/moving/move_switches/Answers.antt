use Rattle.std.proofs.Common.{◌≡◌, ◌<◌, ◌∷◌, [], length, map, length-set, length-append, sym, ap, ◌∙◌, arith}
use Rattle.std.proofs.Common.{subst}
use Rattle.machine_drafts.proofs.Parted.{after_none, each_before, each_last, empty_list, moved_last}
use Rattle.machine_drafts.specs.Moving.{EachPart, IsSwitchPart, after_parts, standing_moved, switch_moved}
use Rattle.machine_drafts.specs.Views.{standing_of, switch_of}
use Rattle.event_ends.proofs.moving.move_switches.Goals as goal

pub bounds-switches-place : goal.bounds-switches-place
bounds-switches-place c =
    let long = ap (λ ps. length ps) c.in-Some.ensures.items in
    let more = length-append c.pop.new.self.items (c.in-Some.part ∷ []) in
    let n : c.len-place.result ≡ length c.pop.new.self.items = c.len-place.ensures ∙ c.pop.new.self.ok.0 in
    let room = c.loop-part.invariant.all in
    omega arith

pub move_switch-requires : goal.move_switch-requires
move_switch-requires c =
    let long = ap (λ ps. length ps) c.in-Some.ensures.items in
    let more = length-append c.pop.new.self.items (c.in-Some.part ∷ []) in
    let n : c.len-place.result ≡ length c.pop.new.self.items = c.len-place.ensures ∙ c.pop.new.self.ok.0 in
    let room = c.loop-part.invariant.all in
    let within : c.len-place.result < length c.loop-part.switches = omega arith in
    let each = subst (EachPart IsSwitchPart c.loop-part.switches) c.in-Some.ensures.items c.loop-part.invariant.each in
    each_last IsSwitchPart c.loop-part.switches c.pop.new.self.items c.in-Some.part c.len-place.result
    c.index-switches-place.result n within each

pub loop-part-preserved : goal.loop-part-preserved
loop-part-preserved c =
    let k = c.in-Some.ensures.items in
    let long = ap (λ ps. length ps) k in
    let more = length-append c.pop.new.self.items (c.in-Some.part ∷ []) in
    let n : c.len-place.result ≡ length c.pop.new.self.items = c.len-place.ensures ∙ c.pop.new.self.ok.0 in
    let room = c.loop-part.invariant.all in
    let within : c.len-place.result < length c.loop-part.switches = omega arith in
    let each = subst (EachPart IsSwitchPart c.loop-part.switches) k c.loop-part.invariant.each in
    record {
      sessions =
          moved_last switch_of switch_moved c.loop-part.switches c.pop.new.self.items c.in-Some.part
          c.len-place.result c.move_switch.new.switch c.index-switches-place.result n within
          c.move_switch.ensures.session
          ∙ (ap (after_parts switch_moved (map switch_of c.loop-part.switches)) (sym k)
          ∙ c.loop-part.invariant.sessions);
      standing =
          moved_last standing_of standing_moved c.loop-part.switches c.pop.new.self.items c.in-Some.part
          c.len-place.result c.move_switch.new.switch c.index-switches-place.result n within
          c.move_switch.ensures.standing
          ∙ (ap (after_parts standing_moved (map standing_of c.loop-part.switches)) (sym k)
          ∙ c.loop-part.invariant.standing);
      all = rw (length-set c.loop-part.switches c.len-place.result c.move_switch.new.switch) (omega arith);
      each = each_before IsSwitchPart c.loop-part.switches c.pop.new.self.items c.in-Some.part c.len-place.result
          c.move_switch.new.switch n each;
    }

pub returns-clause-sessions : goal.returns-clause-sessions
returns-clause-sessions c =
    let none : length c.loop-part.parts.items ≡ 0 = omega (
      arith,
      c.loop-part.parts.ok.0,
      c.in_default.ensures.cases.0,
    ) in
    let e = empty_list c.loop-part.parts.items none in
    sym (after_none switch_moved (map switch_of c.loop-part.switches))
    ∙ (ap (after_parts switch_moved (map switch_of c.loop-part.switches)) (sym e) ∙ c.loop-part.invariant.sessions)

pub returns-clause-standing : goal.returns-clause-standing
returns-clause-standing c =
    let none : length c.loop-part.parts.items ≡ 0 = omega (
      arith,
      c.loop-part.parts.ok.0,
      c.in_default.ensures.cases.0,
    ) in
    let e = empty_list c.loop-part.parts.items none in
    sym (after_none standing_moved (map standing_of c.loop-part.switches))
    ∙ (ap (after_parts standing_moved (map standing_of c.loop-part.switches)) (sym e) ∙ c.loop-part.invariant.standing)
