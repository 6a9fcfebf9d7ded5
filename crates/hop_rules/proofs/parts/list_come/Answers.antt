use Rattle.std.proofs.Common.{◌∙◌, List, ℕ, ap, subst, sym}
use Rattle.std.proofs.lemmas.List.{get_or-set_other, get_or-set_same, get_or_default}
use Rattle.std.proofs.lemmas.Result.{on_ok_weaker}
use Rattle.hop_rules.specs.Handed.{AreListed, AreUnlisted, GivenOf}
use Rattle.hop_rules.specs.Levels.{given_at, none_given}
use Rattle.hop_rules.proofs.Keeping.{differ, set-as}
use Rattle.hop_rules.proofs.parts.list_come.Goals as goal

pub list-requires : goal.list-requires
list-requires c =
    let here = get_or_default c.args.given.now c.args.event.now.v c.index-given-event.result none_given
    c.requires.there in
    subst (λ (x : GivenOf). AreUnlisted x c.as_slice.result.now) (sym here)
    (subst (λ (ids : List ℕ). AreUnlisted (given_at c.args.given.now c.args.event.now.v) ids)
    (sym c.as_slice.ensures) c.requires.unlisted)

pub returns-clause-listed : goal.returns-clause-listed
returns-clause-listed c =
    on_ok_weaker c.list.result
    (subst (λ (x : GivenOf). AreListed x x.rules)
    (sym (get_or-set_same c.args.given.now c.args.event.now.v c.list.new.self none_given c.requires.there)))
    c.list.ensures.listed

pub returns-clause-others : goal.returns-clause-others
returns-clause-others c u e = get_or-set_other c.args.given.now c.args.event.now.v u c.list.new.self none_given
    (differ u c.args.event.now.v e)

pub returns-clause-rules : goal.returns-clause-rules
returns-clause-rules c =
    let here = get_or_default c.args.given.now c.args.event.now.v c.index-given-event.result none_given
    c.requires.there in
    set-as (λ (x : GivenOf). x.rules) c.args.given.now c.args.event.now.v c.list.new.self c.requires.there
    (c.list.ensures.rules ∙ ap (λ (x : GivenOf). x.rules) here)

pub returns-clause-exits : goal.returns-clause-exits
returns-clause-exits c =
    let here = get_or_default c.args.given.now c.args.event.now.v c.index-given-event.result none_given
    c.requires.there in
    set-as (λ (x : GivenOf). x.exits) c.args.given.now c.args.event.now.v c.list.new.self c.requires.there
    (c.list.ensures.exits ∙ ap (λ (x : GivenOf). x.exits) here)
