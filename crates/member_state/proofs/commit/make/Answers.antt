use Rattle.std.proofs.Common.{◌≡◌, ◌∙◌, ap}
use Rattle.level_map.proofs.Rising.{ranks_of_rising}
use Rattle.member_table.specs.Tables.{Held, TableOf}
use Rattle.member_state.specs.InsideRanks.{without_unused}
use Rattle.member_state.specs.Plans.{after_planned, planned_table, without_all}
use Rattle.member_state.specs.States.{HeldState, held_by}
use Rattle.member_state.proofs.Plans.{levels_made, table_touched}
use Rattle.member_state.proofs.commit.make.Goals as goal

pub drop_all_unused-requires : goal.drop_all_unused-requires
drop_all_unused-requires c = ranks_of_rising 0 2 c.args.planned.levels.size c.args.planned.levels.ranked
    c.requires.levels.rising

pub returns : goal.returns
returns c =
    let p = c.args.planned in
    let now = c.args.now in
    let h : HeldState = held_by c.args.table.now c.args.levels.now in
    let dropped : c.drop_serials.new.self.table ≡ planned_table h.state.table p = c.drop_serials.ensures.table
    ∙ ap (without_all p.dropped) c.commit.ensures.table in
    let touched : c.touch_each.new.table.table ≡ table_touched p.touched now (planned_table h.state.table p) =
    c.touch_each.ensures
    ∙ (ap (λ ss. table_touched ss now c.drop_serials.new.self.table) c.as_slice.ensures
    ∙ ap (table_touched p.touched now) dropped) in
    let looked : c.look_ahead_unless.new.table.table ≡ table_touched p.touched now (planned_table h.state.table p) =
    ap (λ (t : Held). t.table) c.look_ahead_unless.ensures ∙ touched in
    let levels : c.drop_all_unused.new.levels ≡ (after_planned h.state p now).levels = c.drop_all_unused.ensures
    ∙ (ap (λ ss. without_unused c.look_ahead_unless.new.table.table.entries ss p.levels) c.as_slice-2.ensures
    ∙ (ap (λ (u : TableOf). without_unused u.entries p.ranks p.levels) looked ∙ levels_made h p now c.requires)) in
    λ i. record { table = looked i; levels = levels i }
