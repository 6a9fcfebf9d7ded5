-- What is told of a change of a node, by the rules alone.
use Rattle.std.proofs.Common.{◌≡◌, ℕ, ◌<◌, List, [], refl, sym, ap, subst, length, map, arith}
use Rattle.std.specs.Prelude.{IsPermutation}
use Rattle.std.proofs.lemmas.List.{map-append}
use Rattle.std.proofs.lemmas.List.Sorted.{IsPermutation-map, IsPermutation-refl, IsPermutation-sym, IsPermutation-trans}
use Rattle.list_change.specs.Changes.{Changed}
use Rattle.list_change.proofs.Permute.{by-equation}
use Rattle.policy_meaning.specs.Hops.{Fabric}
use Rattle.policy_meaning.specs.declared.rule.Rule.{Rule}
use Rattle.rule_ancestry.specs.Holding.{Held, item_of}
use Rattle.made_rules.specs.Rules.{rule_of, rules_in}
use Rattle.made_rules.specs.declared.made.Made.{Made}
use Rattle.hop_rules.specs.Counts.{CameThere}
use Rattle.hop_rules.specs.Levels.{IsRow, IsToldAt}
use Rattle.hop_rules.specs.Nodes.{NodeOf, held_at}
use Rattle.hop_rules.specs.Tables.{ChangesBy}
use Rattle.hop_rules.specs.Telling.{rules_held, rules_under}
use Rattle.hop_rules.specs.Turns.{IsTold, Turned, come_at}
use Rattle.hop_rules.specs.Under.{Rises, under}
use Rattle.hop_rules.specs.declared.exits.LinkEnd.{LinkEnd}
use Rattle.hop_rules.specs.declared.node.Turn.{Turn}
use Rattle.hop_rules.proofs.Turns.{came-under}

-- the items of a change by ids change so
pub turned-items : {R : Type 0} (before after : List (Held R)) (gone come : List ℕ) (t : Turned before after gone come)
    → Changed (map item_of before) (map item_of after) (map item_of t.going) (map item_of t.coming)
turned-items before after gone come t = record {
  kept = map item_of t.kept;
  was = IsPermutation-trans _ _ _ (IsPermutation-map item_of _ _ t.was)
      (by-equation _ _ (map-append item_of t.going t.kept));
  is = IsPermutation-trans _ _ _ (IsPermutation-map item_of _ _ t.is)
      (by-equation _ _ (map-append item_of t.coming t.kept));
}

-- a change of lists in another order
pub changed-as : {X : Type 0} (xs ys us vs gone come : List X) → IsPermutation xs us → IsPermutation ys vs
    → Changed xs ys gone come → Changed us vs gone come
changed-as xs ys us vs gone come p q c = record {
  kept = c.kept;
  was = IsPermutation-trans _ _ _ (IsPermutation-sym _ _ p) c.was;
  is = IsPermutation-trans _ _ _ (IsPermutation-sym _ _ q) c.is;
}

-- exactly what is told went and came
pub told-changes : (before after : List (Held Made)) (turn : Turn) (left : List Made) (us vs : List Rule)
    → IsTold before after turn left → IsPermutation (rules_held before) us → IsPermutation (rules_held after) vs →
    ChangesBy us vs (map rule_of left) (rules_under after turn.come)
told-changes before after turn left us vs t p q =
    let come : rules_under after turn.come ≡ map item_of t.turned.coming =
    ap (map item_of) (came-under (rules_in before) (rules_in after) turn.gone turn.come t.turned t.risen) in
    let made : ChangesBy us vs (map item_of t.turned.going) (map item_of t.turned.coming) = record {
      changed = changed-as _ _ us vs _ _ p q
          (turned-items (rules_in before) (rules_in after) turn.gone turn.come t.turned);
      apart = t.apart;
    } in
    subst (λ (z : List Rule). ChangesBy us vs (map rule_of left) z) (sym come)
    (subst (λ (z : List Rule). ChangesBy us vs z (map item_of t.turned.coming)) (sym t.left_are) made)

-- nothing is told of what didn't change
pub still-told : (held : List (Held Made)) → Rises (rules_in held)
    → IsTold held held (record { gone = []; come = [] }) []
still-told held up = record {
  turned = record {
    going = [];
    coming = [];
    kept = rules_in held;
    was = IsPermutation-refl _;
    is = IsPermutation-refl _;
    gone_are = refl;
    come_are = refl;
  };
  rising = up;
  risen = up;
  left_are = refl;
  apart = λ x a b. absurd (let h = a.1 in omega arith);
}

-- the rules that came to the nodes where links lead
pub came-there : (f g : Fabric) (es : List LinkEnd) (n : ℕ) (before below : List NodeOf) (turns : List Turn)
    → IsRow f es n before → IsRow g es n below →
    ((k : ℕ) → k < length es → IsToldAt before below turns k)
    → CameThere f g es n (λ k. map item_of (under (rules_in (held_at below k)) (come_at turns k)))
came-there f g es n before below turns r s told k lt =
    let t = told k lt in
    (map rule_of t.0, told-changes (held_at before k) (held_at below k) _ t.0 _ _ t.1 (r.rules k lt) (s.rules k lt))
