use Rattle.std.proofs.Common.{◌≤◌, ◌+◌, ◌∙◌, take, List, sym, ap, subst, count_by, le_refl, le_trans, filter, take_all}
use Rattle.std.proofs.Common.{ℕ}
use Rattle.match_index.specs.InsideGroups.{SameItems}
use Rattle.member_table.specs.InsideRanking.{RanksOf, remains}
use Rattle.member_table.proofs.Ranking.{all_remain, goes_next, stays_next}
use Rattle.member_table.proofs.ranks.Ranks.remove_all.Goals as goal
use Rattle.member_table.proofs.ranks.Ranks.remove_all.Goals.{then-ne, else-ne}

pub loop-serial-init : goal.loop-serial-init
loop-serial-init c = record {
  items = λ p. ap (count_by p) (all_remain c.args.place c.args.self.now.items);
  room = le_refl _;
}

pub loop-serial-preserved : goal.loop-serial-preserved
loop-serial-preserved c =
    let all = c.args.self.now.items in
    let old = c.args.self.now.room in
    let serials = c.args.serials.now in
    let i = c.loop-serial.serial-index in
    let kept = c.loop-serial.invariant.room in
    elim c.if-ne.branch [
      | then-ne w ↦ record {
        items =
            (let S : RanksOf
            → Type 0 = λ o. SameItems (filter (remains (take (i + 1) serials) c.args.place) all) o.items in
            subst S (sym w.self-is)
            (goes_next serials i _ c.args.place all c.loop-serial.self.items w.remove.new.self.items
            c.loop-serial-test.true (sym c.ne.ensures ∙ w.if-ne.true) c.loop-serial.invariant.items
            w.remove.ensures.items));
        room = (let R : RanksOf → Type 0 = λ o. old ≤ o.room in
            subst R (sym w.self-is) (le_trans kept w.remove.ensures.room));
      }
      | else-ne w ↦ record {
        items =
            (let S : RanksOf
            → Type 0 = λ o. SameItems (filter (remains (take (i + 1) serials) c.args.place) all) o.items in
            subst S (sym w.self-is)
            (stays_next serials i _ c.args.place all c.loop-serial.self.items c.loop-serial-test.true
            (sym c.ne.ensures ∙ w.if-ne.false) c.loop-serial.invariant.items));
        room = (let R : RanksOf → Type 0 = λ o. old ≤ o.room in subst R (sym w.self-is) kept);
      }
    ]

pub returns-clause-items : goal.returns-clause-items
returns-clause-items c =
    let S : List ℕ
    → Type 0 = λ ss. SameItems (filter (remains ss c.args.place) c.args.self.now.items) c.loop-serial.self.items in
    subst S (take_all c.loop-serial.serial-index c.args.serials.now c.loop-serial-test.false)
    c.loop-serial.invariant.items
