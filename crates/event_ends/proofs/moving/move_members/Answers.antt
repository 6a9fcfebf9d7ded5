use Rattle.std.proofs.Common.{◌≡◌, ◌<◌, ◌∷◌, [], length, map, length-set, length-append, sym, ap, ◌∙◌, arith}
use Rattle.std.proofs.Common.{subst}
use Rattle.machine_drafts.proofs.Parted.{after_none, each_before, each_last, empty_list, moved_last}
use Rattle.machine_drafts.specs.Moving.{EachPart, IsMemberPart, after_parts, member_moved}
use Rattle.machine_drafts.specs.Views.{member_of}
use Rattle.event_ends.proofs.moving.move_members.Goals as goal

pub bounds-members-place : goal.bounds-members-place
bounds-members-place c =
    let long = ap (λ ps. length ps) c.in-Some.ensures.items in
    let more = length-append c.pop.new.self.items (c.in-Some.part ∷ []) in
    let n : c.len-place.result ≡ length c.pop.new.self.items = c.len-place.ensures ∙ c.pop.new.self.ok.0 in
    let room = c.loop-part.invariant.all in
    omega arith

pub move_member-requires : goal.move_member-requires
move_member-requires c =
    let long = ap (λ ps. length ps) c.in-Some.ensures.items in
    let more = length-append c.pop.new.self.items (c.in-Some.part ∷ []) in
    let n : c.len-place.result ≡ length c.pop.new.self.items = c.len-place.ensures ∙ c.pop.new.self.ok.0 in
    let room = c.loop-part.invariant.all in
    let within : c.len-place.result < length c.loop-part.members = omega arith in
    let each = subst (EachPart IsMemberPart c.loop-part.members) c.in-Some.ensures.items c.loop-part.invariant.each in
    each_last IsMemberPart c.loop-part.members c.pop.new.self.items c.in-Some.part c.len-place.result
    c.index-members-place.result n within each

pub loop-part-preserved : goal.loop-part-preserved
loop-part-preserved c =
    let k = c.in-Some.ensures.items in
    let long = ap (λ ps. length ps) k in
    let more = length-append c.pop.new.self.items (c.in-Some.part ∷ []) in
    let n : c.len-place.result ≡ length c.pop.new.self.items = c.len-place.ensures ∙ c.pop.new.self.ok.0 in
    let room = c.loop-part.invariant.all in
    let within : c.len-place.result < length c.loop-part.members = omega arith in
    let each = subst (EachPart IsMemberPart c.loop-part.members) k c.loop-part.invariant.each in
    record {
      moved =
          moved_last member_of member_moved c.loop-part.members c.pop.new.self.items c.in-Some.part
          c.len-place.result c.move_member.new.member c.index-members-place.result n within
          c.move_member.ensures
          ∙ (ap (after_parts member_moved (map member_of c.loop-part.members)) (sym k) ∙ c.loop-part.invariant.moved);
      all = rw (length-set c.loop-part.members c.len-place.result c.move_member.new.member) (omega arith);
      each = each_before IsMemberPart c.loop-part.members c.pop.new.self.items c.in-Some.part c.len-place.result
          c.move_member.new.member n each;
    }

pub returns : goal.returns
returns c =
    let none : length c.loop-part.parts.items ≡ 0 = omega (
      arith,
      c.loop-part.parts.ok.0,
      c.in_default.ensures.cases.0,
    ) in
    let e = empty_list c.loop-part.parts.items none in
    sym (after_none member_moved (map member_of c.loop-part.members))
    ∙ (ap (after_parts member_moved (map member_of c.loop-part.members)) (sym e) ∙ c.loop-part.invariant.moved)
