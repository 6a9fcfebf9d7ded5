-- What a change that is ready did to a node, once it is settled.
use Rattle.std.proofs.Common.{◌≡◌, ℕ, ◌≤◌, not, List, [], ◌∷◌, ◌++◌, length, map, refl, sym, ap, subst, ◌∙◌, arith}
use Rattle.std.specs.Prelude.{IsPermutation, filter, filter_map}
use Rattle.std.specs.List.Sorted.{IsStrictlySortedBy}
use Rattle.std.specs.Ordering.{nat_cmp}
use Rattle.std.proofs.lemmas.List.{map-append, length-append, length-map}
use Rattle.std.proofs.lemmas.List.Sorted.{IsPermutation-append_comm, IsPermutation-map, IsPermutation-trans}
use Rattle.std.proofs.lemmas.List.Sorted.{length_permutation}
use Rattle.list_change.proofs.Permute.{by-equation, permuted-filter_map}
use Rattle.match_index.specs.declared.item.Item.{Item}
use Rattle.rule_ancestry.specs.Holding.{Held, id_of, is_outside, item_of}
use Rattle.made_rules.specs.Changing.{ChangeOf, IsReady, is_of, settled, was_of}
use Rattle.made_rules.specs.Rules.{is_held_of, is_made_of, rule_held, rule_of, rules_in}
use Rattle.made_rules.specs.declared.made.Made.{Made}
use Rattle.made_rules.specs.declared.made.Origin.{Origin}
use Rattle.made_rules.specs.declared.stay.Stay.{Stay}
use Rattle.made_rules.proofs.Changes.{front}
use Rattle.made_rules.proofs.Ids.{without-all}
use Rattle.hop_rules.specs.Nodes.{found}
use Rattle.hop_rules.specs.Turns.{AreHidden, IsChange, IsFoundBefore, Turned}
use Rattle.hop_rules.specs.declared.node.Turn.{Turn}
use Rattle.hop_rules.proofs.HeldRules.{same-ids}
use Rattle.hop_rules.proofs.Settled.{settled-apart, settled-items}

pub rules-are : (hs : List (Held Made)) → map item_of (rules_in hs) ≡ map rule_of (map item_of hs)
rules-are [] = refl
rules-are (h ∷ hs) = ap (λ z. h.item.rule ∷ z) (rules-are hs)

same-rules : (stays : List Stay) → rules_in (map was_of stays) ≡ rules_in (map is_of stays)
same-rules [] = refl
same-rules (s ∷ stays) = ap (λ z. rule_held (is_of s) ∷ z) (same-rules stays)

rules-in-order : (a g m : List (Held Made))
    → IsPermutation (rules_in ((a ++ g) ++ m)) (rules_in g ++ (rules_in a ++ rules_in m))
rules-in-order a g m =
    IsPermutation-trans _ _ _ (IsPermutation-map rule_held _ _ (front a g m))
    (by-equation _ _ (map-append rule_held g (a ++ m) ∙ ap (λ z. rules_in g ++ z) (map-append rule_held a m)))

module _ (before now new : List (Held Made)) (lost : List ℕ) (fresh : List Made) (change : ChangeOf)
    (r : IsReady before now lost fresh change) (p : IsPermutation new (settled r)) where
  -- what turned
  pub ready-turned : (turn : Turn) → turn ≡ record { gone = change.gone; come = change.come }
      → Turned (rules_in before) (rules_in new) turn.gone turn.come
  ready-turned turn e = record {
    going = rules_in r.going;
    coming = rules_in r.coming;
    kept = rules_in r.kept ++ rules_in (map was_of change.stays);
    was = IsPermutation-trans _ _ _ (IsPermutation-map rule_held _ _ r.was)
        (rules-in-order r.kept r.going (map was_of change.stays));
    is = IsPermutation-trans _ _ _ (IsPermutation-map rule_held _ _ p)
        (IsPermutation-trans _ _ _ (rules-in-order r.kept r.coming (map is_of change.stays))
        (by-equation _ _ (ap (λ z. rules_in r.coming ++ (rules_in r.kept ++ z)) (sym (same-rules change.stays)))));
    gone_are = sym (same-ids r.going) ∙ r.gone ∙ sym (ap (λ (t : Turn). t.gone) e);
    come_are = sym (same-ids r.coming) ∙ r.come ∙ sym (ap (λ (t : Turn). t.come) e);
  }

  -- all that is told of it
  pub ready-change : (origins : List Origin) → lost ≡ map id_of (filter (is_held_of origins) before) → (turn : Turn)
      → turn ≡ record { gone = change.gone; come = change.come } →
      (left : List Made) → left ≡ map item_of r.going → IsStrictlySortedBy nat_cmp (map id_of new)
      → IsChange before new origins fresh turn left
  unfolding ready-turned
  ready-change origins e turn t left l up = record {
    told = record {
      turned = ready-turned turn t;
      rising = subst (IsStrictlySortedBy nat_cmp) (same-ids before) r.rises;
      risen = subst (IsStrictlySortedBy nat_cmp) (same-ids new) up;
      left_are = ap (map rule_of) l ∙ sym (rules-are r.going);
      apart = settled-apart before now lost fresh change r (map item_of (rules_in r.going))
          (map item_of (rules_in r.coming)) (rules-are r.going) (rules-are r.coming);
    };
    items = IsPermutation-trans _ _ _ (IsPermutation-map item_of _ _ p)
        (IsPermutation-trans _ _ _ (settled-items before now lost fresh change r (is_made_of origins) e)
        (IsPermutation-append_comm fresh (filter (λ m. not (is_made_of origins m)) (map item_of before))));
  }

-- there is room for what comes
pub come-count : (before now : List (Held Made)) (lost : List ℕ) (fresh : List Made) (change : ChangeOf)
    (r : IsReady before now lost fresh change) → length change.come ≤ length fresh
come-count before now lost fresh change r =
    let a = length_permutation fresh _ r.made_are in
    let b = length-map (r.coming ++ map is_of change.stays) item_of in
    let c = length-append r.coming (map is_of change.stays) in
    let e = ap (λ (z : List ℕ). length z) r.come in
    let f = length-map r.coming id_of in
    omega arith

-- what is found before a turn, once what went is hidden
pub found-hidden : (items hidden : List Item) (held : List (Held Made)) (turn : Turn)
    (b : IsFoundBefore items held turn)
    → IsPermutation hidden (filter_map found (filter (is_outside turn.gone) b.before)) → AreHidden hidden held turn.come
found-hidden items hidden held turn b h =
    let t = b.turned in
    record {
      coming = t.coming;
      kept = t.kept;
      all = t.is;
      ids_are = t.come_are;
      found_are = IsPermutation-trans _ _ _ h
          (permuted-filter_map found _ _
          (subst (λ ids. IsPermutation (filter (is_outside ids) b.before) t.kept) t.gone_are
          (without-all b.before t.going t.kept b.rising t.was)));
    }
