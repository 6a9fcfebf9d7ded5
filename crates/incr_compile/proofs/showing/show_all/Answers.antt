use Rattle.std.proofs.Common.{ap, sym, ◌++◌, ◌∙◌}
use Rattle.std.specs.Prelude.{filter_map}
use Rattle.made_rules.specs.Rules.{rules_in}
use Rattle.incr_compile.specs.Candidates.{shown}
use Rattle.incr_compile.specs.Showing.{shown_as}
use Rattle.incr_compile.proofs.Wholes.{all-held, all-once}
use Rattle.incr_compile.proofs.showing.show_all.Goals as goal

pub show-requires-clause-once : goal.show-requires-clause-once
show-requires-clause-once c = all-once c.args.store.now c.deref.result.now c.len-count.ensures.rising
    (c.deref.ensures.value ∙ c.in_ok-ids.ensures)

pub returns : goal.returns
returns c =
    c.reserve-2.ensures.items
    ∙ c.show.ensures c.args.store.now _ (sym (c.deref.ensures.value ∙ c.in_ok-ids.ensures)) (all-held c.args.store.now)
    ∙ ap (λ z. z ++ filter_map (shown (shown_as c.args.op c.args.side)) (rules_in c.args.store.now))
    (c.reserve.ensures.items ∙ c.requires)
