-- What a node makes, once those changed of which it makes its rules.
use Rattle.std.proofs.Common.{◌≡◌, ℕ, not, List, [], ◌∷◌, ◌++◌, refl, subst, sym, ap, ◌∙◌, map}
use Rattle.std.specs.Prelude.{filter, IsPermutation}
use Rattle.std.specs.List.{AllByRecursion}
use Rattle.std.proofs.lemmas.List.{append-nil, map-append}
use Rattle.std.proofs.lemmas.List.Elements.{filter-append}
use Rattle.std.proofs.lemmas.List.Sorted.{IsPermutation-refl, IsPermutation-sym, IsPermutation-trans}
use Rattle.std.proofs.lemmas.List.Sorted.{IsPermutation-append, IsPermutation-append_comm, IsPermutation-map}
use Rattle.list_change.specs.Pairing.{by_left, by_right, made, pairs}
use Rattle.list_change.proofs.Kept.{permuted-filter}
use Rattle.list_change.proofs.Permute.{by-equation, interchange, permuted-filter_map}
use Rattle.rule_ancestry.specs.Holding.{Held, is_outside, item_of}
use Rattle.policy_meaning.specs.declared.network.Place.{Place}
use Rattle.policy_meaning.specs.declared.rule.Rule.{Rule}
use Rattle.made_rules.specs.Rules.{is_made_of, rules_in}
use Rattle.made_rules.specs.declared.made.Made.{Made}
use Rattle.hop_rules.specs.Handed.{AreListed, GivenOf, listed}
use Rattle.hop_rules.specs.Nodes.{Arrival, IsMadeOf, NodeOf, arrival, arrivals, arriving, held_at, hop_way, made_left}
use Rattle.hop_rules.specs.Nodes.{made_right, own}
use Rattle.hop_rules.specs.Turns.{AreTurned, IsOwnTurn, IsTurnedAt, Turned, came_there, gone_at, lost_there, stayed}
use Rattle.hop_rules.specs.Under.{AreFound, Rises, under}
use Rattle.hop_rules.specs.declared.exits.Exit.{Exit}
use Rattle.hop_rules.specs.declared.node.Turn.{Turn}
use Rattle.made_rules.proofs.Ids.{Rising, without-all}
use Rattle.hop_rules.proofs.Lists.{filter-map, made-both, made-permuted, pairs-turned}
use Rattle.hop_rules.proofs.Under.{part-found, under-ids}
use Rattle.hop_rules.proofs.Walking.{filter-found}
use Rattle.rule_ancestry.proofs.Lists.{found-all}
use Rattle.list_change.proofs.Flat.{each-made, none-of}
use Rattle.hop_rules.proofs.Names.{made-without, stays-there}

-- what came is what is held under the ids that came
pub came-under : {R : Type 0} (before after : List (Held R)) (gone come : List ℕ) (t : Turned before after gone come)
    → Rises after → under after come ≡ t.coming
came-under before after gone come t up = ap (under after) (sym t.come_are)
    ∙ under-ids after t.coming (part-found after t.coming t.kept up t.is)

module _ (before below : List NodeOf) (turns : List Turn) where
  -- what comes and what stays of that to which some exits lead
  abbrev pub come_there : (exits : List Exit) → AreTurned before below turns exits → List Arrival
  come_there [] ts = []
  come_there (e ∷ es) ts = map (arrival e.place) ts.0.turned.coming ++ come_there es ts.1

  abbrev pub kept_there : (exits : List Exit) → AreTurned before below turns exits → List Arrival
  kept_there [] ts = []
  kept_there (e ∷ es) ts = map (arrival e.place) ts.0.turned.kept ++ kept_there es ts.1

  kept-arriving : (e : Exit) (t : IsTurnedAt before below turns e.place)
      → IsPermutation (filter (stays-there turns) (arriving before e)) (map (arrival e.place) t.turned.kept)
  kept-arriving e t =
      let hs = rules_in (held_at before e.place) in
      IsPermutation-trans _ (map (arrival e.place) (filter (is_outside (gone_at turns e.place)) hs)) _
      (by-equation _ _ (filter-map (stays-there turns) (arrival e.place) hs))
      (IsPermutation-map (arrival e.place) _ _
      (subst (λ ids. IsPermutation (filter (is_outside ids) hs) t.turned.kept) t.turned.gone_are
      (without-all hs t.turned.going t.turned.kept t.rising t.turned.was)))

  pub kept-arrivals : (exits : List Exit)
      (ts : AllByRecursion (λ (e : Exit). IsTurnedAt before below turns e.place) exits) →
      IsPermutation (filter (stays-there turns) (arrivals before exits)) (kept_there exits ts)
  kept-arrivals [] ts = IsPermutation-refl []
  kept-arrivals (e ∷ es) ts =
      IsPermutation-trans _ (filter (stays-there turns) (arriving before e)
      ++ filter (stays-there turns) (arrivals before es)) _
      (by-equation _ _ (filter-append (stays-there turns) (arriving before e) (arrivals before es)))
      (IsPermutation-append _ _ _ _ (kept-arriving e ts.0) (kept-arrivals es ts.1))

  new-arriving : (e : Exit) (t : IsTurnedAt before below turns e.place)
      → IsPermutation (arriving below e) (map (arrival e.place) t.turned.coming ++ map (arrival e.place) t.turned.kept)
  new-arriving e t =
      IsPermutation-trans _ (map (arrival e.place) (t.turned.coming ++ t.turned.kept)) _
      (IsPermutation-map (arrival e.place) _ _ t.turned.is)
      (by-equation _ _ (map-append (arrival e.place) t.turned.coming t.turned.kept))

  pub new-arrivals : (exits : List Exit)
      (ts : AllByRecursion (λ (e : Exit). IsTurnedAt before below turns e.place) exits) →
      IsPermutation (arrivals below exits) (come_there exits ts ++ kept_there exits ts)
  new-arrivals [] ts = IsPermutation-refl []
  new-arrivals (e ∷ es) ts =
      IsPermutation-trans _ ((map (arrival e.place) ts.0.turned.coming ++ map (arrival e.place) ts.0.turned.kept)
      ++ (come_there es ts.1 ++ kept_there es ts.1)) _
      (IsPermutation-append _ _ _ _ (new-arriving e ts.0) (new-arrivals es ts.1))
      (interchange (map (arrival e.place) ts.0.turned.coming) (map (arrival e.place) ts.0.turned.kept)
      (come_there es ts.1) (kept_there es ts.1))

  -- the node makes of what there is now what it is to make
  pub turns-over : (at : Place) (size : ℕ) (exits : List Exit)
      (ts : AllByRecursion (λ (e : Exit). IsTurnedAt before below turns e.place) exits)
      (xs zs : List (Held Rule)) (gone come : List ℕ) (t : Turned xs zs gone come) → Rising xs →
      (held held' : List (Held Made)) (fresh : List Made) → IsMadeOf at size exits xs before held →
      IsPermutation fresh (by_left (hop_way at size exits) t.coming (arrivals below exits)
      ++ by_right (hop_way at size exits) t.kept (come_there exits ts)) →
      IsPermutation (map item_of held')
      (filter (λ m. not (is_made_of (map own gone ++ lost_there turns exits) m)) (map item_of held) ++ fresh) →
      IsMadeOf at size exits zs below held'
  turns-over at size exits ts xs zs gone come t rising held held' fresh whole f items =
      let w = hop_way at size exits in
      let ys = arrivals before exits in
      let p = λ (m : Made). not (is_made_of (map own gone ++ lost_there turns exits) m) in
      let left : IsPermutation (filter (is_outside gone) xs) t.kept =
      subst (λ ids. IsPermutation (filter (is_outside ids) xs) t.kept) t.gone_are
      (without-all xs t.going t.kept rising t.was) in
      let stays : IsPermutation (filter p (map item_of held)) (made w t.kept (kept_there exits ts)) =
      IsPermutation-trans _ (filter p (made w xs ys)) _ (permuted-filter p _ _ whole)
      (IsPermutation-trans _ (made w (filter (is_outside gone) xs) (filter (stays-there turns) ys)) _
      (by-equation _ _ (made-without at size exits gone turns xs ys))
      (made-permuted w _ _ _ _ left (kept-arrivals exits ts))) in
      IsPermutation-trans _ _ _ items
      (IsPermutation-trans _ (made w t.kept (kept_there exits ts)
      ++ (by_left w t.coming (arrivals below exits) ++ by_right w t.kept (come_there exits ts))) _
      (IsPermutation-append _ _ _ _ stays f)
      (IsPermutation-sym _ _ (made-both w zs t.coming t.kept (arrivals below exits) (come_there exits ts)
      (kept_there exits ts) t.is (new-arrivals exits ts))))

  -- what came there is what is held under the ids that came
  came-is : (exits : List Exit) (ts : AreTurned before below turns exits)
      → came_there below turns exits ≡ come_there exits ts
  came-is [] ts = refl
  came-is (e ∷ es) ts =
      let t = ts.0 in
      ap (λ z. map (arrival e.place) z ++ came_there below turns es)
      (came-under (rules_in (held_at before e.place)) (rules_in (held_at below e.place)) _ _ t.turned t.risen)
      ∙ ap (λ z. map (arrival e.place) t.turned.coming ++ z) (came-is es ts.1)

  -- the node makes of what there is now what it is to make, once what the rules make that came is put in
  pub node-turns : (at : Place) (size : ℕ) (exits : List Exit) (ts : AreTurned before below turns exits)
      (xs : List (Held Rule)) (given : GivenOf) (turn : Turn) (o : IsOwnTurn xs given turn) →
      (held held' : List (Held Made)) (fresh : List Made) → IsMadeOf at size exits xs before held →
      ((kept : List (Held Rule)) → AreListed given kept → AreFound given.rules kept →
      IsPermutation fresh (made_left at size exits (arrivals below exits) (under given.rules turn.come)
      ++ made_right at size exits kept (came_there below turns exits))) →
      IsPermutation (map item_of held')
      (filter (λ m. not (is_made_of (map own turn.gone ++ lost_there turns exits) m)) (map item_of held) ++ fresh) →
      IsMadeOf at size exits given.rules below held'
  node-turns at size exits ts xs given turn o held held' fresh whole made items =
      let w = hop_way at size exits in
      let t = o.turned in
      let ys = arrivals below exits in
      let came = come_there exits ts in
      let found = part-found given.rules t.kept t.coming o.risen
      (IsPermutation-trans _ _ _ t.is (IsPermutation-append_comm t.coming t.kept)) in
      let f : IsPermutation fresh (made_left at size exits ys t.coming ++ made_right at size exits t.kept came) =
      subst (λ z. IsPermutation fresh (made_left at size exits ys t.coming ++ made_right at size exits t.kept z))
      (came-is exits ts)
      (subst
      (λ z. IsPermutation fresh (made_left at size exits ys z
      ++ made_right at size exits t.kept (came_there below turns exits)))
      (came-under xs given.rules turn.gone turn.come t o.risen) (made t.kept o.listed found)) in
      let left : IsPermutation (made_left at size exits ys t.coming) (by_left w t.coming ys) =
      IsPermutation-sym _ _ (each-made w ys t.coming) in
      let right : IsPermutation (made_right at size exits t.kept came) (by_right w t.kept came) =
      IsPermutation-trans _ _ _ (pairs-turned w.pair t.kept came)
      (by-equation _ _
      (sym (ap (λ z. pairs w.pair t.kept came ++ z) (none-of w.other (λ y. refl) came)
      ∙ append-nil (pairs w.pair t.kept came)))) in
      turns-over at size exits ts xs given.rules turn.gone turn.come t o.rising held held' fresh whole
      (IsPermutation-trans _ _ _ f (IsPermutation-append _ _ _ _ left right)) items

-- what stayed of the rules of a virtual switch is listed
pub stayed-listed : (xs : List (Held Rule)) (given : GivenOf) (turn : Turn) (o : IsOwnTurn xs given turn)
    → AreListed given (stayed given turn.come)
stayed-listed xs given turn o =
    let t = o.turned in
    let same : IsPermutation (stayed given turn.come) t.kept =
    subst (λ ids. IsPermutation (filter (is_outside ids) given.rules) t.kept) t.come_are
    (without-all given.rules t.coming t.kept o.risen t.is) in
    IsPermutation-trans _ _ _ o.listed (IsPermutation-sym _ _ (permuted-filter_map (listed given.exits) _ _ same))

pub stayed-found : (given : GivenOf) (come : List ℕ) → Rises given.rules → AreFound given.rules (stayed given come)
stayed-found given come up = filter-found given.rules (is_outside come) given.rules (found-all given.rules up)
