use Rattle.std.proofs.Common.{◌∙◌, ◌++◌, find, option_map, ap, subst}
use Rattle.std.specs.Prelude.{option_to_list}
use Rattle.std.proofs.lemmas.Result.{on_ok_weaker}
use Rattle.member_table.specs.Entries.{has_serial}
use Rattle.member_table.specs.Sound.{IsSound}
use Rattle.member_table.specs.declared.entry.Entry.{Entry}
use Rattle.member_state.specs.InsideRanks.{rank_if_added}
use Rattle.member_state.specs.Plans.{after_planned}
use Rattle.member_state.specs.States.{HeldState}
use Rattle.member_state.proofs.Plans.{drop_after, drop_keeps}
use Rattle.member_state.proofs.state.MemberState.plan_drop.Goals as goal

pub returns-clause-dropped : goal.returns-clause-dropped
returns-clause-dropped c =
    let x = c.args.self.now.state in
    let p = c.args.planned.now in
    on_ok_weaker c.drop.result
    (λ e now. ap (λ q. after_planned x q now) e
    ∙ drop_after x p c.args.serial
    (p.ranks ++ (option_to_list c.rank_of-rank.result
    ++ option_to_list (rank_if_added c.args.serial p.change.added))) now) c.drop.ensures.dropped

pub returns-clause-ready : goal.returns-clause-ready
returns-clause-ready c r =
    drop_keeps c.drop.result c.args.self.now c.args.planned.now c.drop.new.self c.args.serial c.rank_of-rank.result
    (subst (λ (h : HeldState). IsSound h.state.table) c.self.view_is c.len.ensures.sound)
    (c.rank_of-rank.ensures
    ∙ ap (λ (h : HeldState). option_map (λ (e : Entry). e.rank)
    (find (has_serial c.args.serial) h.state.table.entries)) c.self.view_is) c.drop.ensures.dropped
    c.drop.ensures.memory r
