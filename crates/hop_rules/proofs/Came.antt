-- Loops over the exits of a virtual switch.
use Rattle.std.proofs.Common.{◌≡◌, ℕ, ◌+◌, ◌<◌, ◌≤◌, ◌==◌, ◌||◌, true, List, [], ◌∷◌, ◌++◌, length, get_or, take, drop}
use Rattle.std.proofs.Common.{map, sym, ap, ◌∙◌, append_assoc, arith}
use Rattle.std.specs.Prelude.{IsPermutation, count_by, filter_map}
use Rattle.std.proofs.lemmas.Grind.{flat_map-append}
use Rattle.std.proofs.lemmas.List.{append-nil, take-append-drop, take_more}
use Rattle.std.proofs.lemmas.List.Sums.{sum_by-append}
use Rattle.std.proofs.lemmas.List.Sorted.{IsPermutation-append_left, IsPermutation-trans}
use Rattle.std.specs.List.{AllByRecursion}
use Rattle.list_change.proofs.Permute.{by-equation}
use Rattle.policy_meaning.specs.declared.network.Place.{Place}
use Rattle.policy_meaning.specs.declared.rule.Rule.{Rule}
use Rattle.rule_ancestry.specs.Holding.{Held}
use Rattle.made_rules.specs.Rules.{rules_in}
use Rattle.made_rules.specs.declared.made.Made.{Made}
use Rattle.hop_rules.specs.Nodes.{Arrival, NodeOf, arrival, could, held_at, hop_way, leads_there, made_right}
use Rattle.hop_rules.specs.Turns.{came_at, came_there, come_at, right_cost}
use Rattle.hop_rules.specs.Under.{under}
use Rattle.hop_rules.specs.declared.exits.Exit.{Exit}
use Rattle.hop_rules.specs.declared.node.Turn.{Turn}
use Rattle.hop_rules.proofs.Names.{itself, or-true}

module _ (below : List NodeOf) (turns : List Turn) (exits : List Exit) (i : ℕ) (d e : Exit) (lt : i < length exits)
    (at : e ≡ get_or exits i d) where
  came-more : came_there below turns (take (i + 1) exits)
      ≡ came_there below turns (take i exits) ++ came_at below turns e
  came-more =
      ap (came_there below turns) (take_more exits i d lt)
      ∙ flat_map-append (came_at below turns) (take i exits) (get_or exits i d ∷ [])
      ∙ ap (λ z. came_there below turns (take i exits) ++ z)
      (append-nil (came_at below turns (get_or exits i d)) ∙ ap (came_at below turns) (sym at))

  module _ (place : Place) (all : List Exit) (kept : List (Held Rule)) (come : List ℕ)
      (same : come ≡ come_at turns e.place) where
    came-so : map (arrival e.place) (under (rules_in (held_at below e.place)) come) ≡ came_at below turns e
    came-so = ap (λ ids. map (arrival e.place) (under (rules_in (held_at below e.place)) ids)) same

    pub exits-made : (size : ℕ) (old out new : List Made)
        → IsPermutation out (old ++ made_right place size all kept (came_there below turns (take i exits))) →
        IsPermutation new (out ++ made_right place size all kept
        (map (arrival e.place) (under (rules_in (held_at below e.place)) come))) →
        IsPermutation new (old ++ made_right place size all kept (came_there below turns (take (i + 1) exits)))
    exits-made size old out new far now =
        let G = made_right place size all kept in
        IsPermutation-trans _ _ _ now
        (IsPermutation-trans _ _ _
        (IsPermutation-append_left (G (map (arrival e.place) (under (rules_in (held_at below e.place)) come))) _ _
        far)
        (by-equation _ _ (append_assoc old (G (came_there below turns (take i exits)))
        (G (map (arrival e.place) (under (rules_in (held_at below e.place)) come)))
        ∙ ap (λ z. old ++ z) (ap (λ ys. G (came_there below turns (take i exits)) ++ G ys) came-so
        ∙ sym (flat_map-append (λ (y : Arrival). filter_map (λ h. (hop_way place size all).pair h y) kept)
        (came_there below turns (take i exits)) (came_at below turns e))
        ∙ ap G (sym came-more)))))

    pub exits-steps : (old far new : ℕ) → far ≤ old + right_cost place all kept (came_there below turns (take i exits))
        →
        new ≤ far + right_cost place all kept (map (arrival e.place) (under (rules_in (held_at below e.place)) come)) →
        new ≤ old + right_cost place all kept (came_there below turns (take (i + 1) exits))
    exits-steps old far new p q =
        let N = right_cost place all kept in
        let a = ap N came-more in
        let b = sum_by-append (λ (y : Arrival). count_by (λ h. could place all h y) kept)
        (came_there below turns (take i exits)) (came_at below turns e) in
        let c = ap N came-so in
        omega arith

    -- also where it ends there
    pub exits-ended : (old far new : ℕ) → far ≤ old + right_cost place all kept (came_there below turns (take i exits))
        →
        new ≤ far + right_cost place all kept (map (arrival e.place) (under (rules_in (held_at below e.place)) come)) →
        new ≤ old + right_cost place all kept (came_there below turns exits)
    exits-ended old far new p q =
        let N = right_cost place all kept in
        let some = exits-steps old far new p q in
        let parts = ap (λ (es : List Exit). N (came_there below turns es)) (sym (take-append-drop (i + 1) exits))
        ∙ ap N (flat_map-append (came_at below turns) (take (i + 1) exits) (drop (i + 1) exits))
        ∙ sum_by-append (λ (y : Arrival). count_by (λ h. could place all h y) kept)
        (came_there below turns (take (i + 1) exits)) (came_there below turns (drop (i + 1) exits)) in
        omega arith

-- each exit leads there
lead-on : (e : Exit) (all es : List Exit) → AllByRecursion (λ (x : Exit). leads_there x.place all ≡ true) es
    → AllByRecursion (λ (x : Exit). leads_there x.place (e ∷ all) ≡ true) es
lead-on e all [] a = tt
lead-on e all (x ∷ es) a = (or-true (x.place == e.place) _ a.0, lead-on e all es a.1)

pub all-lead : (es : List Exit) → AllByRecursion (λ (x : Exit). leads_there x.place es ≡ true) es
all-lead [] = tt
all-lead (e ∷ es) = (ap (λ t. t || leads_there e.place es) (itself e.place), lead-on e es es (all-lead es))
