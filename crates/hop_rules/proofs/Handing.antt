-- The steps of a change of the rules of a virtual switch, whatever table has them after it.
use Rattle.std.proofs.Common.{◌≡◌, ℕ, suc, ◌+◌, ◌≤◌, ◌==◌, Bool, true, false, List, [], ◌++◌, refl, sym, ap, ◌∙◌, subst}
use Rattle.std.proofs.Common.{length, map, arith}
use Rattle.std.specs.Prelude.{IsPermutation, if◌then◌else◌, slice_index_or}
use Rattle.std.specs.List.{AllByRecursion}
use Rattle.std.proofs.lemmas.List.Sorted.{IsPermutation-append_comm, IsPermutation-append_right, IsPermutation-refl}
use Rattle.std.proofs.lemmas.List.Sorted.{IsPermutation-sym, IsPermutation-trans}
use Rattle.list_change.specs.Changes.{Apart, Changed}
use Rattle.list_change.specs.Coming.{TellsEqual, came}
use Rattle.list_change.proofs.Came.{came-ordered, none-came, what-came}
use Rattle.list_change.proofs.Permute.{by-equation}
use Rattle.made_rules.specs.Coming.{is_rule}
use Rattle.made_rules.proofs.SameRules.{rule_decides}
use Rattle.policy_meaning.specs.Hops.{Fabric}
use Rattle.policy_meaning.specs.declared.network.Place.{Place}
use Rattle.policy_meaning.specs.declared.rule.Rule.{Rule}
use Rattle.policy_meaning.proofs.Rising.{all-permuted}
use Rattle.hop_rules.specs.Climbing.{IsBelow, IsHandedOver, came_to}
use Rattle.hop_rules.specs.Counts.{change_steps, rules_came, steps_from}
use Rattle.hop_rules.specs.Handed.{GivenOf}
use Rattle.hop_rules.specs.Kept.{IsKept, with_rules}
use Rattle.hop_rules.specs.Levels.{IsGiven}
use Rattle.hop_rules.specs.Links.{ends, links}
use Rattle.hop_rules.specs.Nodes.{IsOwn, NodeOf}
use Rattle.hop_rules.specs.Tables.{IsHanded, MayCome, TableOf, fabric, own_ports, rules_at}
use Rattle.hop_rules.specs.Turns.{no_turn}
use Rattle.hop_rules.specs.declared.level.Event.{Event}
use Rattle.hop_rules.specs.declared.level.Level.{Level}
use Rattle.hop_rules.specs.declared.level.Stand.{Stand}
use Rattle.hop_rules.specs.declared.node.Turn.{Turn}
use Rattle.hop_rules.specs.declared.parts.Parts.{Parts}
use Rattle.hop_rules.proofs.Counting.{from-order}
use Rattle.hop_rules.proofs.Keeping.{came-is, changed, given-new, is-below, same-rules}
use Rattle.hop_rules.proofs.Names.{is-same}

-- ---- two lists after the same change
module _ {X : Type 0} (same : X → X → Bool) (tells : TellsEqual same) where
  put-behind : (xs ys : List X) → Changed xs (xs ++ ys) [] ys
  put-behind xs ys = record { kept = xs; was = IsPermutation-refl xs; is = IsPermutation-append_comm xs ys }

  none-apart : (ys : List X) → Apart [] ys
  none-apart ys x i j = absurd (let h = i.1 in omega arith)

  -- what is the same behind a list is the same
  cancel : (xs ys zs : List X) → IsPermutation (xs ++ ys) (xs ++ zs) → IsPermutation ys zs
  cancel xs ys zs p =
      IsPermutation-trans _ _ _
      (IsPermutation-sym _ _ (what-came same tells xs (xs ++ ys) [] ys (put-behind xs ys) (none-apart ys)))
      (IsPermutation-trans _ _ _ (came-ordered same tells xs xs (xs ++ ys) (xs ++ zs) (IsPermutation-refl xs) p)
      (what-came same tells xs (xs ++ zs) [] zs (put-behind xs zs) (none-apart zs)))

  changed-both : (before us vs gone come : List X) → Changed before us gone come → Changed before vs gone come
      → IsPermutation us vs
  changed-both before us vs gone come c d =
      let kept = cancel gone c.kept d.kept (IsPermutation-trans _ _ _ (IsPermutation-sym _ _ c.was) d.was) in
      IsPermutation-trans _ _ _ c.is
      (IsPermutation-trans _ _ _ (IsPermutation-append_right come _ _ kept) (IsPermutation-sym _ _ d.is))

module _ (t : TableOf) (old : Parts) (k : IsKept t old) (v : ℕ) (gone come : List Rule)
    (mays : AllByRecursion (MayCome t v) come) (new : List GivenOf) (e : Event)
    (h : IsHandedOver old.given new v gone come e)
    (after : TableOf) (handed : IsHanded t after v gone come) where
  -- the virtual switches as they are after it
  abbrev pub now : Fabric
  now = record (fabric t) { rules = rules_at after }

  fabric-is : fabric after ≡ now
  fabric-is = λ i. record {
    rules = rules_at after;
    sizes = λ u. slice_index_or (handed.rest i).sizes u 1;
    links = links (handed.rest i).plan;
  }

  -- whatever table is after it has the rules that were handed over
  rules-by : (u : ℕ) (b : Bool) → (u == v) ≡ b → IsPermutation (rules_at (with_rules t new) u) (rules_at after u)
  rules-by u true d =
      subst (λ (w : ℕ). IsPermutation (rules_at (with_rules t new) w) (rules_at after w)) (sym (is-same u v d))
      (changed-both is_rule rule_decides (rules_at t v) (rules_at (with_rules t new) v) (rules_at after v) gone come
      (changed t old k v gone come mays new e h new (λ w. refl)) handed.rules)
  rules-by u false d = by-equation _ _ (same-rules t old k v gone come mays new e h new (λ w. refl) u d
      ∙ sym (handed.others u d))

  given-after : IsGiven now (ends t.plan) new
  given-after =
      let g = given-new t old k v gone come mays new e h new (λ w. refl) in
      record {
        exits_are = g.exits_are;
        links = g.links;
        rules = λ u. IsPermutation-trans _ _ _ (g.rules u) (rules-by u (u == v) refl);
        own = λ u. all-permuted (rules_at (with_rules t new) u) (rules_at after u) (rules-by u (u == v) refl)
            (IsOwn ((fabric t).sizes u)) (g.own u);
        peers = g.peers;
      }

  pub below-after : (turns : List Turn) → AllByRecursion (λ (u : Turn). u ≡ no_turn) turns
      → IsBelow (fabric t) (rules_at after) (ends t.plan) 0 old.given new old.last old.last old.levels old.top e turns
  below-after turns a =
      let b = is-below t old k v gone come mays new e h new (λ w. refl) turns a in
      record {
        was = b.was;
        now = given-after;
        event = b.event;
        row_was = b.row_was;
        row = record { count = b.row.count; read = b.row.read; rules = b.row.rules };
        told = b.told;
        made = b.made;
        fits = b.fits;
      }

  module _ (apart : Apart gone come) where
    came-by : (u : ℕ) (b : Bool) → (u == v) ≡ b → IsPermutation (if b then come else []) (rules_came (fabric t) now u)
    came-by u true d =
        subst (λ (w : ℕ). IsPermutation come (came is_rule (rules_at t w) (rules_at after w))) (sym (is-same u v d))
        (IsPermutation-sym _ _
        (what-came is_rule rule_decides (rules_at t v) (rules_at after v) gone come handed.rules apart))
    came-by u false d =
        by-equation _ _
        (sym (ap (came is_rule (rules_at t u)) (handed.others u d) ∙ none-came is_rule rule_decides (rules_at t u)))

    came-rules : (u : ℕ) → IsPermutation (came_to new e u) (rules_came (fabric t) now u)
    came-rules u =
        subst (λ (rs : List Rule). IsPermutation rs (rules_came (fabric t) now u))
        (sym (came-is t old k v gone come mays new e h new (λ w. refl) u))
        (came-by u (u == v) refl)

    -- what all levels took
    pub steps-after : (s0 s1 : ℕ)
        → s1 ≤ s0 + steps_from (fabric t) now (ends t.plan) (came_to new e) (map (λ (s : Stand). s.at) old.top.stands) 0
        (length old.levels) →
        s1 ≤ s0 + change_steps (fabric t) (fabric after) (ends t.plan) (own_ports t) t.hops
    steps-after s0 s1 less =
        let ports = map (λ (s : Stand). s.at) old.top.stands in
        let order = from-order (fabric t) now (ends t.plan) ports (came_to new e) (rules_came (fabric t) now) came-rules
        0 (length old.levels) in
        let counted : s1 ≤ s0 + change_steps (fabric t) now (ends t.plan) ports (suc (length old.levels)) =
        subst (λ (x : ℕ). s1 ≤ s0 + x) order less in
        subst (λ (f : Fabric). s1 ≤ s0 + change_steps (fabric t) f (ends t.plan) (own_ports t) t.hops) (sym fabric-is)
        (subst (λ (ps : List Place). s1 ≤ s0 + change_steps (fabric t) now (ends t.plan) ps t.hops) k.ports
        (subst (λ (m : ℕ). s1 ≤ s0 + change_steps (fabric t) now (ends t.plan) ports m) k.hops counted))

    -- what a climb through them took
    pub climb-after : (gs : List GivenOf) (below : List NodeOf) (levels : List Level) (turns : List Turn) → gs ≡ new
        → below ≡ old.last → levels ≡ old.levels → AllByRecursion (λ (u : Turn). u ≡ no_turn) turns → (s0 s1 : ℕ) →
        (IsBelow (fabric t) (rules_at after) (ends t.plan) 0 old.given gs old.last below levels old.top e turns
        → s1 ≤ s0 + steps_from (fabric t) now (ends t.plan) (came_to gs e)
        (map (λ (s : Stand). s.at) old.top.stands) 0 (length levels)) →
        s1 ≤ s0 + change_steps (fabric t) (fabric after) (ends t.plan) (own_ports t) t.hops
    climb-after gs below levels turns p q r a s0 s1 climbed =
        let ports = map (λ (s : Stand). s.at) old.top.stands in
        let is =
        subst (λ (xs : List GivenOf). IsBelow (fabric t) (rules_at after) (ends t.plan) 0 old.given xs old.last below
        levels old.top e turns) (sym p)
        (subst (λ (ns : List NodeOf). IsBelow (fabric t) (rules_at after) (ends t.plan) 0 old.given new old.last ns
        levels old.top e turns) (sym q)
        (subst (λ (ls : List Level). IsBelow (fabric t) (rules_at after) (ends t.plan) 0 old.given new old.last old.last
        ls old.top e turns) (sym r) (below-after turns a))) in
        steps-after s0 s1
        (subst (λ (ls : List Level). s1 ≤ s0 + steps_from (fabric t) now (ends t.plan) (came_to new e) ports 0
        (length ls)) r
        (subst (λ (xs : List GivenOf). s1 ≤ s0 + steps_from (fabric t) now (ends t.plan) (came_to xs e) ports 0
        (length levels)) p (climbed is)))
