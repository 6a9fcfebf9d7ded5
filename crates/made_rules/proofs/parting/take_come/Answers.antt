use Rattle.std.proofs.Common.{◌≡◌, ◌<◌, ◌++◌, ◌∷◌, [], List, get_or, length, ap, ◌∙◌, subst}
use Rattle.policy_meaning.specs.declared.rule.Rule.{Rule}
use Rattle.rule_ancestry.specs.Holding.{Held}
use Rattle.made_rules.specs.Parting.{Differ, OldsRise}
use Rattle.made_rules.specs.declared.parting.Both.{Both}
use Rattle.made_rules.proofs.Parted.{both-taken, come-taken}
use Rattle.made_rules.proofs.parting.take_come.Goals as goal

pub returns-in_ok-push-in-Some-place_of-clause-parted : goal.returns-in_ok-push-in-Some-place_of-clause-parted
returns-in_ok-push-in-Some-place_of-clause-parted c all others p =
    let found = c.in-Some-place_of.ensures.found in
    let x = c.remove-old.result in
    both-taken all others c.args.gone.now.items _ c.remove-old.new.self.items c.args.come.now.items c.pop.new.self.items
    _ c.args.parted.now.both.items _ c.in-Some.made x c.in-Some-place_of.place
    c.in-Some.ensures.items (subst (λ (z : List (Held Rule)). c.in-Some-place_of.place < length z) c.deref.ensures.value
    found.0) c.remove-old.ensures.value c.remove-old.ensures.items
    (ap (λ (h : Held Rule). h.item) c.remove-old.ensures.value
    ∙ subst (λ (z : List (Held Rule)). (get_or z c.in-Some-place_of.place x).item ≡ c.in-Some.made.rule)
    c.deref.ensures.value (found.1 x))
    (c.in_ok-push-in-Some-place_of.ensures.items
    ∙ ap (λ (h : Held Rule). c.args.parted.now.both.items ++ (record { id = h.id; made = c.in-Some.made }) ∷ [])
    c.old.view_is) p

pub returns-in_ok-push-in-None-clause-parted : goal.returns-in_ok-push-in-None-clause-parted
returns-in_ok-push-in-None-clause-parted c all others p =
    come-taken all others c.args.gone.now.items _ c.args.come.now.items c.pop.new.self.items _ _ _ c.in-Some.made
    c.in-Some.ensures.items c.in_ok-push-in-None.ensures.items
    (subst (λ (z : List (Held Rule)). OldsRise z → Differ z c.in-Some.made.rule) c.deref.ensures.value
    c.in-None.ensures.none p.left_rises) p
