-- The ids of rules that an index finds.
use Rattle.std.proofs.Common.{◌≡◌, ℕ, Bool, true, false, List, [], ◌∷◌, Option, Some, None, refl, ap, sym, ◌∙◌, map}
use Rattle.std.proofs.Common.{cond}
use Rattle.std.specs.Prelude.{IsPermutation, filter, filter_map, option_map}
use Rattle.std.specs.List.{cons_option}
use Rattle.std.proofs.lemmas.List.Sorted.{IsPermutation-map, IsPermutation-trans}
use Rattle.list_change.proofs.Kept.{permuted-filter}
use Rattle.list_change.proofs.Permute.{by-equation}
use Rattle.of10_match.specs.Fields.{MatchOf}
use Rattle.of10_match.specs.Matching.{overlaps}
use Rattle.match_index.specs.Items.{ids_of}
use Rattle.match_index.specs.Questions.{is_meeting}
use Rattle.match_index.specs.declared.item.Item.{Item}
use Rattle.policy_meaning.specs.declared.rule.Rule.{Rule}
use Rattle.rule_ancestry.specs.Holding.{Held, id_of, item_at}
use Rattle.made_rules.specs.Rules.{rule_of, rules_in}
use Rattle.made_rules.specs.declared.made.Made.{Made}
use Rattle.hop_rules.proofs.HeldRules.{rule-at}
use Rattle.hop_rules.specs.Items.{IsNumbered, item_for}
use Rattle.hop_rules.specs.Nodes.{found}

-- each is found under its id
pub found-numbered : IsNumbered found
found-numbered h e s = let z : item_for h.id h.item.m ≡ e = cc in ap (λ (i : Item). i.id) (sym z)

-- an index finds rules, each by a match of it, if there is one
abbrev pub meets_by : MatchOf → Option MatchOf → Bool
meets_by m None = false
meets_by m (Some n) = overlaps m n

module _ (by : Held Rule → Option MatchOf) (m : MatchOf) where
  shown-one : (h : Held Rule) (o : Option MatchOf) (items : List Item) (more : List (Held Rule))
      → ids_of (is_meeting m) items ≡ map id_of more →
      ids_of (is_meeting m) (cons_option (option_map (item_for h.id) o) items)
      ≡ map id_of (cond (meets_by m o) (h ∷ more) more)
  shown-one h None items more e = e
  shown-one h (Some n) items more e = at (overlaps m n)
    where
      at : (t : Bool)
          → map (λ (i : Item). i.id)
          (cond t (item_for h.id n ∷ filter (is_meeting m) items) (filter (is_meeting m) items))
          ≡ map id_of (cond t (h ∷ more) more)
      at true = ap (λ z. h.id ∷ z) e
      at false = e

  shown-ids : (hs : List (Held Rule))
      → ids_of (is_meeting m) (filter_map (λ h. option_map (item_for h.id) (by h)) hs)
      ≡ map id_of (filter (λ h. meets_by m (by h)) hs)
  shown-ids [] = refl
  shown-ids (h ∷ hs) = shown-one h (by h) (filter_map (λ h. option_map (item_for h.id) (by h)) hs)
      (filter (λ h. meets_by m (by h)) hs) (shown-ids hs)

  pub found-by : (items : List Item) (hs : List (Held Rule))
      → IsPermutation items (filter_map (λ h. option_map (item_for h.id) (by h)) hs)
      → IsPermutation (ids_of (is_meeting m) items) (map id_of (filter (λ h. meets_by m (by h)) hs))
  found-by items hs h =
      IsPermutation-trans _ (ids_of (is_meeting m) (filter_map (λ h. option_map (item_for h.id) (by h)) hs)) _
      (IsPermutation-map (λ (e : Item). e.id) _ _ (permuted-filter (is_meeting m) items _ h))
      (by-equation _ _ (shown-ids hs))

-- the rules that overlap
abbrev pub meets : MatchOf → Held Rule → Bool
meets m h = overlaps m h.item.m

pub found-ids : (m : MatchOf) (items : List Item) (hs : List (Held Rule)) → IsPermutation items (filter_map found hs)
    → IsPermutation (ids_of (is_meeting m) items) (map id_of (filter (meets m) hs))
found-ids m items hs h = found-by (λ (h : Held Rule). Some h.item.m) m items hs h

mapped-twice : (o : Option Made) → option_map (λ (m : Made). m.rule.m) o
    ≡ option_map (λ (r : Rule). r.m) (option_map rule_of o)
mapped-twice None = refl
mapped-twice (Some m) = refl

-- what a node's rule of an id holds
pub match-at : (store : List (Held Made)) (h : Held Rule) (id : ℕ) (m : Option MatchOf) → id ≡ h.id
    → m ≡ option_map (λ (m : Made). m.rule.m) (item_at store id) → item_at (rules_in store) h.id ≡ Some h.item
    → option_map (item_for id) m ≡ found h
match-at store h id m k e there =
    let o : option_map (λ (m : Made). m.rule.m) (item_at store id)
    ≡ option_map (λ (r : Rule). r.m) (item_at (rules_in store) id) = mapped-twice (item_at store id)
    ∙ ap (option_map (λ (r : Rule). r.m)) (rule-at store id) in
    let t : item_at (rules_in store) id ≡ Some h.item = ap (item_at (rules_in store)) k ∙ there in
    ap (option_map (item_for id)) (e ∙ o ∙ ap (option_map (λ (r : Rule). r.m)) t)
    ∙ ap (λ i. Some (item_for i h.item.m)) k
