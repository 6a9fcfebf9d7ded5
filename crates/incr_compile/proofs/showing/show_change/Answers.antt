use Rattle.std.proofs.Common.{◌==◌, subst, sym, ◌∙◌}
use Rattle.std.specs.Prelude.{IsPermutation, filter}
use Rattle.std.specs.List.{IsDistinct}
use Rattle.incr_compile.specs.Showing.{AreClear, is_clear_of, shown_as}
use Rattle.incr_compile.proofs.Showings.{change-shown, clear-hidden, coming-first, coming-once}
use Rattle.incr_compile.proofs.showing.show_change.Goals as goal

pub show-requires-clause-clear : goal.show-requires-clause-clear
show-requires-clause-clear c =
    let s = c.requires.shown in
    let hidden = subst (λ ids. IsPermutation c.hide.new.index.items (filter (is_clear_of ids) c.args.index.now.items))
    c.gone.ensures c.hide.ensures.items in
    subst (λ ids. AreClear ids c.hide.new.index.items) (sym c.come.ensures)
    (clear-hidden s.0 c.args.store.now s.1 s.2 c.args.change.now s.3 c.len-count.ensures.rising
    (shown_as c.args.op c.args.side) c.args.index.now.items c.hide.new.index.items s.4 hidden)

pub show-requires-clause-once : goal.show-requires-clause-once
show-requires-clause-once c =
    let s = c.requires.shown in
    subst (λ ids. IsDistinct ◌==◌ ids) (sym c.come.ensures)
    (coming-once s.0 c.args.store.now s.1 s.2 c.args.change.now s.3 c.len-count.ensures.rising)

pub returns : goal.returns
returns c before lost fresh r p =
    let hidden = subst (λ ids. IsPermutation c.hide.new.index.items (filter (is_clear_of ids) c.args.index.now.items))
    c.gone.ensures c.hide.ensures.items in
    change-shown before c.args.store.now lost fresh c.args.change.now r c.len-count.ensures.rising
    (shown_as c.args.op c.args.side) c.args.index.now.items c.hide.new.index.items p hidden c.show.new.index.items
    (c.show.ensures r.coming _ (r.come ∙ sym c.come.ensures)
    (coming-first before c.args.store.now lost fresh c.args.change.now r c.len-count.ensures.rising))
