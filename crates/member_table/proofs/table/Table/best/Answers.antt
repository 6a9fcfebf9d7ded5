use Rattle.std.proofs.Common.{◌∙◌, sym, ap, map, Some, option_map}
use Rattle.match_index.specs.Questions.{is_holding}
use Rattle.match_index.proofs.Counts.{same_any}
use Rattle.member_table.specs.Best.{best_entry}
use Rattle.member_table.specs.InsideRanking.{ranked_of}
use Rattle.member_table.proofs.Bests.{best_none, best_top}
use Rattle.member_table.proofs.Lists.{list_any-map}
use Rattle.member_table.proofs.table.Table.best.Goals as goal

pub returns-in-Some : goal.returns-in-Some
returns-in-Some c =
    let es = c.self.inside.order.entries in
    let h = c.args.header.now in
    let items = c.self.inside.ranks.items in
    let best = best_top h c.in-Some.top items es c.self.invariant.sound.apart
    (same_any items (map ranked_of es) c.self.invariant.ranked) c.in-Some.ensures in
    ap Some (sym best.of_serial)
    ∙ (sym (ap (option_map (λ e. e.serial)) best.is)
    ∙ ap (λ o. option_map (λ e. e.serial) (best_entry o.table.entries h)) c.self.view_is)

pub returns-in-None : goal.returns-in-None
returns-in-None c =
    let es = c.self.inside.order.entries in
    let h = c.args.header.now in
    let none = sym (list_any-map (is_holding h) ranked_of es)
    ∙ (sym (same_any c.self.inside.ranks.items (map ranked_of es) c.self.invariant.ranked (is_holding h))
    ∙ c.in-None.ensures) in
    sym (ap (option_map (λ e. e.serial)) (best_none h es none))
    ∙ ap (λ o. option_map (λ e. e.serial) (best_entry o.table.entries h)) c.self.view_is
