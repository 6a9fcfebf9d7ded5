use Rattle.std.proofs.Common.{◌≡◌, ◌∙◌, ◌++◌, List, ap, refl, subst, sym}
use Rattle.std.specs.Prelude.{IsPermutation, filter, filter_map}
use Rattle.std.proofs.lemmas.List.Sorted.{IsPermutation-sym}
use Rattle.policy_meaning.specs.declared.rule.Rule.{Rule}
use Rattle.rule_ancestry.specs.Holding.{Held, held_as, is_outside}
use Rattle.hop_rules.specs.Handed.{AreFoundAt, AreListed, GivenOf, listed}
use Rattle.hop_rules.specs.Turns.{Hands}
use Rattle.hop_rules.proofs.Listed.{listed-numbered}
use Rattle.hop_rules.proofs.Noted.{as-ids, as-items, handed}
use Rattle.hop_rules.proofs.given.Given.turn.Goals as goal

pub returns-clause-turned : goal.returns-clause-turned
returns-clause-turned c =
    let exits = c.self.inside.exits in
    let store = c.self.inside.store in
    let ids = c.in_ok-ids.ids.items in
    let new = c.in_ok-new.new.items in
    let marked = c.in_ok-marked.marked.items in
    let coming : List (Held Rule) = held_as new marked in
    let kept : List (Held Rule) = filter (is_outside ids) store in
    let f = subst (λ (g : GivenOf). AreFoundAt g.rules ids c.args.gone.now) (sym c.self.view_is) c.in_ok-ids.ensures in
    let all = subst (λ (g : GivenOf). AreListed g g.rules) (sym c.self.view_is) c.requires in
    let left : filter (is_outside ids) c.add_all.new.self ≡ c.remove_all.new.self =
    sym (c.remove_all.ensures ∙ ap (λ z. filter (is_outside z) c.add_all.new.self) c.deref-2.ensures.value) in
    let over = handed store c.add_all.new.self ids c.args.gone.now f coming c.len-both.ensures.rising
    (IsPermutation-sym _ _ c.in_ok-new.ensures.added) in
    subst
    (λ (g : GivenOf). Hands g
    (record { exits = exits; rules = c.remove_all.new.self; items = c.hide.new.index.items }) c.args.gone.now
    c.args.come.now (record { gone = c.from_vec.result; come = c.from_vec-2.result })) c.self.view_is (record {
      own = record {
        turned = record {
          going = f.going;
          coming = coming;
          kept = kept;
          was = f.was;
          is = subst (λ z. IsPermutation z (coming ++ kept)) left over;
          gone_are = f.ids_are ∙ sym c.from_vec.ensures;
          come_are = as-ids new marked c.in_ok-new.ensures.count ∙ sym c.from_vec-2.ensures;
        };
        rising = c.len-first.ensures.rising;
        risen = c.len-last.ensures.rising;
        listed =
            subst (λ z. IsPermutation c.hide.new.index.items (filter_map (listed exits) (filter (is_outside z) store)))
            c.deref.ensures.value
            (c.hide.ensures.items (listed exits) (listed-numbered exits) store all);
      };
      gone_are = f.rules_are;
      come_are = as-items new marked c.in_ok-new.ensures.count ∙ c.in_ok-marked.ensures;
      exits = refl;
    })
