-- What a rule makes at a node, as it is joined.
use Rattle.std.proofs.Common.{◌≡◌, ℕ, ◌==◌, Bool, true, false, List, [], ◌∷◌, ◌++◌, Option, Some, None, refl, sym, ap}
use Rattle.std.proofs.Common.{subst, ◌∙◌, map, append-nil}
use Rattle.std.specs.Prelude.{IfSome, filter_map, option_map, if◌then◌else◌}
use Rattle.std.specs.List.{AllByRecursion, cons_option}
use Rattle.std.specs.Option.{option_and_then}
use Rattle.list_change.specs.Pairing.{by_one}
use Rattle.of10_match.specs.Matching.{at_port, overlaps}
use Rattle.of10_match.specs.Normal.{IsNormal}
use Rattle.of10_match.proofs.NormalMeet.{IsNormal-both}
use Rattle.of10_actions.specs.Fields.{RewriteOf}
use Rattle.of10_actions.specs.declared.effects.Tail.{Tail}
use Rattle.of10_actions.specs.declared.effects.Tail.TheVariants.{Nothing, Pass, Link}
use Rattle.op_compose.specs.Composition.{Joins, crossed}
use Rattle.op_compose.specs.declared.op.Op.TheVariants.{Hop}
use Rattle.policy_meaning.specs.Hops.{at_node, hop_lone, hop_rule}
use Rattle.policy_meaning.specs.LeafRules.{rule_met}
use Rattle.policy_meaning.specs.declared.network.Place.{Place}
use Rattle.policy_meaning.specs.declared.rule.Rule.{Rule}
use Rattle.policy_meaning.proofs.Cells.{narrowed}
use Rattle.policy_meaning.proofs.Meeting.{some_met}
use Rattle.policy_meaning.proofs.Normality.{normal-at_port}
use Rattle.rule_ancestry.specs.Holding.{Held}
use Rattle.made_rules.specs.declared.made.Made.{Made}
use Rattle.hop_rules.specs.Nodes.{Arrival, IsAt, IsOwn, NodeOf, Once, arrivals, arrive, held_at, hop_way, leads_there}
use Rattle.hop_rules.specs.Nodes.{lone_by, made_alone, made_of_pair, pair_by}
use Rattle.hop_rules.specs.Standing.{asked, departing, exit_of, leaving, standing}
use Rattle.hop_rules.specs.declared.exits.Exit.{Exit}
use Rattle.hop_rules.specs.declared.standing.Departure.{Departure}
use Rattle.hop_rules.proofs.Arriving.{one-arrival}
use Rattle.hop_rules.proofs.Candidates.{none-hopped}
use Rattle.hop_rules.proofs.Names.{leaving-there}

-- ---- a rule that leads over a link
rewrite-of : (r : RewriteOf) (dep : Departure) (t : Bool) (o : Option Exit)
    → (if t then None else option_map (departing r) o) ≡ Some dep → r ≡ dep.rewrite
rewrite-of r dep true o e = absurd (cc)
rewrite-of r dep false None e = absurd (cc)
rewrite-of r dep false (Some x) e = let z : departing r x ≡ dep = cc in ap (λ (d : Departure). d.rewrite) z

module _ (exits : List Exit) (port : ℕ) (dep : Departure) where
  pub joins-by : (t : Tail) → leaving exits port t ≡ Some dep → Joins Hop t
  joins-by Nothing e = absurd (cc)
  joins-by (Pass r) e = absurd (cc)
  joins-by (Link r to) e = tt

  pub crossed-by : (size : ℕ) (a b : Rule) (t : Tail) → leaving exits port t ≡ Some dep
      → crossed t size a b ≡ hop_rule size dep.rewrite a b
  crossed-by size a b Nothing e = absurd (cc)
  crossed-by size a b (Pass r) e = absurd (cc)
  crossed-by size a b (Link r to) e = ap (λ z. hop_rule size z a b) (rewrite-of r dep (to == port) (exit_of exits to) e)

  -- the rule of a pair, with its names, as a node makes it
  pub pushed-pair : (size id place : ℕ) (a : Rule) (h : Held Rule) → leaving exits port a.tail ≡ Some dep
      → (dep.exit.place == place) ≡ true →
      option_map (made_of_pair id (record { place = place; held = h })) (crossed a.tail size a h.item)
      ≡ pair_by size id a (record { place = place; held = h }) (Some dep)
  pushed-pair size id place a h e s =
      let y : Arrival = record { place = place; held = h } in
      ap (option_map (made_of_pair id y)) (crossed-by size a h.item a.tail e)
      ∙ sym (ap (λ t. if t then option_map (made_of_pair id y) (hop_rule size dep.rewrite a h.item) else None) s)

-- ---- a rule as it stands at its node
stood-by : (own : ℕ) (at : Place) (a y : Rule) (o : Option Rule) → rule_met a (at_port at.port) ≡ o
    → option_map (at_node at.v at.port) o ≡ Some y → IsOwn own a → IsOwn own y
stood-by own at a y None e s o = absurd (cc)
stood-by own at a y (Some met) e s o =
    let z : at_node at.v at.port met ≡ y = cc in
    let k = some_met (narrowed a) a.m (at_port at.port) met e in
    let n : IsOwn own met =
    subst (IsOwn own) k.1
    (record { below = o.below; normal = IsNormal-both a.m (at_port at.port) k.0 o.normal (normal-at_port at.port) })
    in
    subst (IsOwn own) z (record { below = n.below; normal = n.normal })

pub stood-own : (own : ℕ) (at : Place) (a y : Rule) → standing at a ≡ Some y → IsOwn own a → IsOwn own y
stood-own own at a y e o = stood-by own at a y (rule_met a (at_port at.port)) refl e o

-- ---- what a rule makes alone, or with those to which its link leads
module _ (at : Place) (size : ℕ) (exits : List Exit) (below : List NodeOf) (h : Held Rule) where
  abbrev made_by_one : List Made
  made_by_one = by_one (hop_way at size exits) (arrivals below exits) h

  abbrev by_standing : Option Rule → List Made
  by_standing s = cons_option (option_and_then (λ (a : Rule). lone_by size h.id a (leaving exits at.port a.tail)) s) []
      ++ (filter_map (λ y. option_and_then (λ (a : Rule). pair_by size h.id a y (leaving exits at.port a.tail)) s)
      (arrivals below exits) ++ [])

  abbrev by_leaving : Rule → Option Departure → List Made
  by_leaving a o = cons_option (lone_by size h.id a o) []
      ++ (filter_map (λ y. pair_by size h.id a y o) (arrivals below exits) ++ [])

  nothing-paired : (a : Rule) (us : List Arrival) → filter_map (λ y. pair_by size h.id a y None) us ≡ []
  nothing-paired a [] = refl
  nothing-paired a (y ∷ us) = nothing-paired a us

  nothing-other : (us : List Arrival) → filter_map (hop_way at size exits).other us ≡ []
  nothing-other [] = refl
  nothing-other (y ∷ us) = nothing-other us

  pub makes-nothing : standing at h.item ≡ None → made_by_one ≡ []
  makes-nothing e = ap by_standing e ∙ ap (λ z. z ++ []) (nothing-other (arrivals below exits))

  pub makes-alone : (a : Rule) → standing at h.item ≡ Some a → leaving exits at.port a.tail ≡ None
      → made_by_one ≡ made_alone h.id (hop_lone size a) ∷ []
  makes-alone a e l = ap by_standing e ∙ ap (by_leaving a) l
      ∙ ap (λ z. made_alone h.id (hop_lone size a) ∷ (z ++ [])) (nothing-paired a (arrivals below exits))

  pub makes-pairs : (a : Rule) (dep : Departure) → standing at h.item ≡ Some a → leaving exits at.port a.tail ≡ Some dep
      → Once (map (λ (e : Exit). e.place) exits) →
      made_by_one ≡ filter_map (λ y. pair_by size h.id a y (Some dep))
      (arrive dep.exit.place (held_at below dep.exit.place))
  makes-pairs a dep e l once =
      let there : leads_there dep.exit.place exits ≡ true =
      subst (λ o. IfSome o (λ (d : Departure). leads_there d.exit.place exits ≡ true)) l
      (leaving-there exits at.port a.tail) in
      ap by_standing e ∙ ap (by_leaving a) l
      ∙ append-nil (filter_map (λ y. pair_by size h.id a y (Some dep)) (arrivals below exits))
      ∙ one-arrival size h.id a dep below exits once there

-- ---- those that can't be met make nothing
module _ (size id : ℕ) (a : Rule) (dep : Departure) (normal : IsNormal a.m) where
  unmet-by : (place : ℕ) (b : Held Rule) (t : Bool) → hop_rule size dep.rewrite a b.item ≡ None
      → (if t then option_map (made_of_pair id (record { place = place; held = b }))
      (hop_rule size dep.rewrite a b.item) else None) ≡ None
  unmet-by place b true e = ap (option_map (made_of_pair id (record { place = place; held = b }))) e
  unmet-by place b false e = refl

  pub unmet : (own place : ℕ) (b : Held Rule) → IsAt own dep.exit.peer.port b.item
      → overlaps (asked a.m dep) b.item.m ≡ false
      → pair_by size id a (record { place = place; held = b }) (Some dep) ≡ None
  unmet own place b at e = unmet-by place b (dep.exit.place == place)
      (none-hopped size dep.rewrite a b.item dep.exit.peer.port normal at.normal at.arrives e)

  pub all-unmet : (own place : ℕ) (bs : List (Held Rule))
      → AllByRecursion (λ (b : Held Rule). IsAt own dep.exit.peer.port b.item) bs →
      AllByRecursion (λ (b : Held Rule). overlaps (asked a.m dep) b.item.m ≡ false
      → pair_by size id a (record { place = place; held = b }) (Some dep) ≡ None) bs
  all-unmet own place [] at = tt
  all-unmet own place (b ∷ bs) at = (unmet own place b at.0, all-unmet own place bs at.1)
