-- A loop over the nodes of a level.
use Rattle.std.proofs.Common.{◌≡◌, ℕ, ◌+◌, ◌<◌, ◌≤◌, ◌≢◌, List, [], ◌∷◌, ◌++◌, sym, ap, ◌∙◌, subst, length, get_or, set}
use Rattle.std.proofs.Common.{take, below_more, arith}
use Rattle.std.specs.Prelude.{sum_by}
use Rattle.std.proofs.lemmas.List.{get_or-set_other, get_or_default}
use Rattle.std.proofs.lemmas.List.Sums.{sum_by-take-le, sum_by_more}
use Rattle.policy_meaning.specs.declared.rule.Rule.{Rule}
use Rattle.rule_ancestry.specs.Holding.{Held}
use Rattle.made_rules.specs.declared.made.Made.{Made}
use Rattle.hop_rules.specs.Handed.{GivenOf}
use Rattle.hop_rules.specs.Levels.{AreTurnedAt, IsEvent, IsMadeAt, given_at, no_node, no_stand, node_cost, nothing_told}
use Rattle.hop_rules.specs.Levels.{stand_at, told_at, turn_at}
use Rattle.hop_rules.specs.Nodes.{IsMadeOf, NodeOf, arrivals, held_at}
use Rattle.hop_rules.specs.Turns.{AreTurned, IsOwnTurn, IsTold, came_there, left_cost, right_cost, stayed}
use Rattle.hop_rules.specs.Under.{under}
use Rattle.hop_rules.specs.declared.exits.Exit.{Exit}
use Rattle.hop_rules.specs.declared.level.Event.{Event}
use Rattle.hop_rules.specs.declared.level.Stand.{Stand}
use Rattle.hop_rules.specs.declared.level.Told.{Told}
use Rattle.hop_rules.specs.declared.node.Turn.{Turn}
use Rattle.hop_rules.proofs.Numbering.{held-is, held-other, held-same, push-before, push-last}

-- what the change of a node says of the place where it stands
module _ (gs old : List GivenOf) (below : List NodeOf) (e : Event) (turns : List Turn) (s : Stand) (g : GivenOf)
    (turn : Turn)
    (here : g ≡ given_at gs s.at.v) (told : turn ≡ turn_at e s.at.v) (event : IsEvent old gs e) where
  own-turn : IsOwnTurn (given_at old s.at.v).rules g turn
  own-turn =
      let xs = (given_at old s.at.v).rules in
      subst (λ (u : Turn). IsOwnTurn xs g u) (sym told)
      (subst (λ (x : GivenOf). IsOwnTurn xs x (turn_at e s.at.v)) (sym here) (event.each s.at.v))

  pub made-there : (before : List NodeOf) (was is : List (Held Made)) →
      ((xs : List (Held Rule)) → (nodes : List NodeOf) → IsOwnTurn xs g turn → AreTurned nodes below turns g.exits
      → IsMadeOf s.at s.size g.exits xs nodes was → IsMadeOf s.at s.size g.exits g.rules below is) →
      AreTurnedAt gs before below turns s → IsMadeAt old before s was → IsMadeAt gs below s is
  made-there before was is all t m =
      let xs = (given_at old s.at.v).rules in
      let exits : (given_at old s.at.v).exits ≡ g.exits = sym (event.exits s.at.v)
      ∙ ap (λ (x : GivenOf). x.exits) (sym here) in
      subst (λ (x : GivenOf). IsMadeOf s.at s.size x.exits x.rules below is) here
      (all xs before own-turn (subst (λ (x : GivenOf). AreTurned before below turns x.exits) (sym here) t)
      (subst (λ (es : List Exit). IsMadeOf s.at s.size es xs before was) exits m))

  pub steps-there : (first last : ℕ) →
      ((xs : List (Held Rule)) → IsOwnTurn xs g turn
      → last ≤ first + (left_cost s.at g.exits (arrivals below g.exits) (under g.rules turn.come) + right_cost s.at
      g.exits (stayed g turn.come) (came_there below turns g.exits))) →
      last ≤ first + node_cost gs below e turns s
  steps-there first last all =
      subst
      (λ (u : Turn). last ≤ first +
      (left_cost s.at (given_at gs s.at.v).exits (arrivals below (given_at gs s.at.v).exits)
      (under (given_at gs s.at.v).rules u.come)
      + right_cost s.at (given_at gs s.at.v).exits (stayed (given_at gs s.at.v) u.come)
      (came_there below turns (given_at gs s.at.v).exits))) told
      (subst
      (λ (x : GivenOf). last ≤ first +
      (left_cost s.at x.exits (arrivals below x.exits) (under x.rules turn.come) + right_cost s.at x.exits
      (stayed x turn.come) (came_there below turns x.exits))) here
      (all (given_at old s.at.v).rules own-turn))

module _ (first nodes : List NodeOf) (i : ℕ) (lt : i < length nodes) (node : NodeOf) where
  pub rest-more : ((k : ℕ) → i ≤ k → get_or nodes k no_node ≡ get_or first k no_node) → (k : ℕ) → i + 1 ≤ k
      → get_or (set nodes i node) k no_node ≡ get_or first k no_node
  rest-more rest k le = let ne : k ≢ i = omega arith in get_or-set_other nodes i k node no_node ne
      ∙ rest k (omega arith)

  -- the node that is next is as it was
  pub next-held : ((k : ℕ) → i ≤ k → get_or nodes k no_node ≡ get_or first k no_node) → (d : NodeOf)
      → (get_or nodes i d).held ≡ held_at first i
  next-held rest d = ap (λ (m : NodeOf). m.held) (get_or_default nodes i d no_node lt ∙ rest i (omega arith))
      ∙ sym (held-is first i)

  pub made-more : (gs old : List GivenOf) (before below : List NodeOf) (stands : List Stand) →
      ((k : ℕ) → k < i → IsMadeAt old before (stand_at stands k) (held_at first k)
      → IsMadeAt gs below (stand_at stands k) (held_at nodes k)) →
      (IsMadeAt old before (stand_at stands i) (held_at first i) → IsMadeAt gs below (stand_at stands i) node.held) →
      (k : ℕ) → k < i + 1 → IsMadeAt old before (stand_at stands k) (held_at first k)
      → IsMadeAt gs below (stand_at stands k) (held_at (set nodes i node) k)
  made-more gs old before below stands far now =
      below_more (λ k. IsMadeAt old before (stand_at stands k) (held_at first k)
      → IsMadeAt gs below (stand_at stands k) (held_at (set nodes i node) k)) i
      (λ k h m. let ne : k ≢ i = omega arith in
      subst (IsMadeAt gs below (stand_at stands k)) (sym (held-other nodes i k node ne)) (far k h m))
      (λ m. subst (IsMadeAt gs below (stand_at stands i)) (sym (held-same nodes i node lt)) (now m))

  pub told-more : (tolds : List Told) (told : Told) → length tolds ≡ i →
      ((k : ℕ) → k < i → IsTold (held_at first k) (held_at nodes k) (told_at tolds k).turn (told_at tolds k).left)
      → IsTold (held_at first i) node.held told.turn told.left →
      (k : ℕ) → k < i + 1
      → IsTold (held_at first k) (held_at (set nodes i node) k) (told_at (tolds ++ told ∷ []) k).turn
      (told_at (tolds ++ told ∷ []) k).left
  told-more tolds told c far now =
      below_more (λ k. IsTold (held_at first k) (held_at (set nodes i node) k) (told_at (tolds ++ told ∷ []) k).turn
      (told_at (tolds ++ told ∷ []) k).left) i
      (λ k h. let ne : k ≢ i = omega arith in
      subst (λ (t : Told). IsTold (held_at first k) (held_at (set nodes i node) k) t.turn t.left)
      (sym (push-before nothing_told tolds told k (omega arith)))
      (subst (λ (z : List (Held Made)). IsTold (held_at first k) z (told_at tolds k).turn (told_at tolds k).left)
      (sym (held-other nodes i k node ne)) (far k h)))
      (subst (λ (t : Told). IsTold (held_at first i) (held_at (set nodes i node) i) t.turn t.left)
      (sym (push-last nothing_told tolds told i (sym c)))
      (subst (λ (z : List (Held Made)). IsTold (held_at first i) z told.turn told.left)
      (sym (held-same nodes i node lt)) now))

-- the steps of one more
pub steps-more : (cost : Stand → ℕ) (stands : List Stand) (i first far last : ℕ) (s : Stand) → i < length stands
    → s ≡ get_or stands i s → far ≤ first + sum_by cost (take i stands) → last ≤ far + cost s →
    last ≤ first + sum_by cost (take (i + 1) stands)
steps-more cost stands i first far last s lt at h n =
    let a = sum_by_more cost stands i s lt in
    let b = ap cost at in
    omega arith

-- also where it ends there
pub steps-ended : (cost : Stand → ℕ) (stands : List Stand) (i first far last : ℕ) (s : Stand) → i < length stands
    → s ≡ get_or stands i s → far ≤ first + sum_by cost (take i stands) → last ≤ far + cost s →
    last ≤ first + sum_by cost stands
steps-ended cost stands i first far last s lt at h n =
    let some = steps-more cost stands i first far last s lt at h n in
    let part = sum_by-take-le cost stands (i + 1) in
    omega arith

pub stand-is : (stands : List Stand) (i : ℕ) (s : Stand) → i < length stands → s ≡ get_or stands i s
    → s ≡ stand_at stands i
stand-is stands i s lt e = e ∙ get_or_default stands i s no_stand lt
