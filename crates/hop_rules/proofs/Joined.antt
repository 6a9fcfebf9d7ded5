-- What loops over the rules of a node make of a rule that stands at the node of a port.
use Rattle.std.proofs.Common.{◌≡◌, ℕ, zero, suc, ◌+◌, ◌*◌, ◌<◌, ◌≤◌, ◌^◌, ◌==◌, ◌&&◌, ◌||◌, Bool, true, false, List, []}
use Rattle.std.proofs.Common.{◌∷◌, ◌++◌, Option, Some, None, refl, sym, ap, subst, ◌∙◌, map, cond, arith, length}
use Rattle.std.proofs.Common.{get_or}
use Rattle.std.specs.Prelude.{IfSome, IsPermutation, count_by, filter, filter_map, option_map, option_to_list}
use Rattle.std.specs.Prelude.{slice_get}
use Rattle.std.specs.List.{AllByRecursion, cons_option}
use Rattle.std.specs.Option.{option_map_or}
use Rattle.std.proofs.lemmas.List.{append-nil}
use Rattle.std.proofs.lemmas.List.Sums.{sum_by-append, sum_by-cons}
use Rattle.std.proofs.lemmas.List.Sorted.{IsPermutation-append_right, IsPermutation-trans}
use Rattle.list_change.proofs.Permute.{by-equation}
use Rattle.alg_priority.specs.Levels.{concat_level}
use Rattle.of10_match.specs.Matching.{overlaps}
use Rattle.of10_match.specs.Normal.{IsNormal}
use Rattle.op_compose.specs.Composition.{joined}
use Rattle.op_compose.specs.declared.op.Op.TheVariants.{Hop}
use Rattle.policy_meaning.specs.declared.network.Place.{Place}
use Rattle.policy_meaning.specs.declared.rule.Rule.{Rule}
use Rattle.policy_meaning.proofs.Chains.{high}
use Rattle.rule_ancestry.specs.Holding.{Held, id_of, item_at}
use Rattle.rule_ancestry.proofs.Lists.{found-all}
use Rattle.made_rules.specs.Rules.{rules_in}
use Rattle.made_rules.specs.declared.made.Made.{Made}
use Rattle.hop_rules.specs.Nodes.{Arrival, AreArriving, IsAt, IsOwn, NodeOf, arrival, arrivals, arrive, arriving, could}
use Rattle.hop_rules.specs.Nodes.{could_by, held_at, leads_there, made_of_pair, pair_by, pair_with}
use Rattle.hop_rules.specs.Standing.{asked, leaving, standing}
use Rattle.hop_rules.specs.Under.{Rises, held_under, under}
use Rattle.hop_rules.specs.declared.exits.Exit.{Exit}
use Rattle.hop_rules.specs.declared.standing.Departure.{Departure}
use Rattle.hop_rules.proofs.Arriving.{leaving-all}
use Rattle.hop_rules.proofs.Making.{all-unmet, pushed-pair}
use Rattle.hop_rules.proofs.Names.{is-same, itself, leaving-there}
use Rattle.hop_rules.proofs.Numbered.{one-kept}
use Rattle.hop_rules.proofs.Under.{held-none, held-some}
use Rattle.hop_rules.proofs.Walking.{walked}

-- ---- levels fit
pub pair-level : (own size : ℕ) (a b : Rule) → IsOwn own a → b.level < size → own * size < 2 ^ 64
    → concat_level a.level b.level size < 2 ^ 64
pair-level own size a b o lt fits = let h = high a.level own size b.level o.below lt in omega arith

pub lone-level : (own size : ℕ) (a : Rule) → IsOwn own a → 0 < size → own * size < 2 ^ 64
    → concat_level a.level 0 size < 2 ^ 64
lone-level own size a o lt fits = let h = high a.level own size 0 o.below lt in omega arith

-- ---- one rule
pub pair-pushed : (exits : List Exit) (port : ℕ) (dep : Departure) (size id : ℕ) (a : Rule) (held : List (Held Rule))
    (bid : ℕ) (b : Rule) (old new : List Made) → leaving exits port a.tail ≡ Some dep → item_at held bid ≡ Some b →
    new ≡ old ++ option_to_list
    (option_map (made_of_pair id (record { place = dep.exit.place; held = record { id = bid; item = b } }))
    (joined Hop size a b)) → new ≡ old ++ filter_map (pair_with size id a dep) (held_under held bid)
pair-pushed exits port dep size id a held bid b old new e there now =
    let h : Held Rule = record { id = bid; item = b } in
    now
    ∙ ap (λ z. old ++ z)
    (ap option_to_list (pushed-pair exits port dep size id dep.exit.place a h e (itself dep.exit.place))
    ∙ sym (one-kept (pair_with size id a dep h))
    ∙ ap (filter_map (pair_with size id a dep)) (sym (held-some held bid b there)))

-- where nothing is held under an id nothing is made
pub nothing-pushed : {R C : Type 0} (f : Held R → Option C) (held : List (Held R)) (id : ℕ) (old : List C)
    → item_at held id ≡ None → old ≡ old ++ filter_map f (held_under held id)
nothing-pushed f held id old e = sym (ap (λ z. old ++ filter_map f z) (held-none held id e) ∙ append-nil old)

pub nothing-made : {R C : Type 0} (G : List (Held R) → List C) (held : List (Held R)) (id : ℕ) (old : List C)
    → G [] ≡ [] → item_at held id ≡ None → IsPermutation old (old ++ G (held_under held id))
nothing-made G held id old none e =
    by-equation _ _ (sym (ap (λ z. old ++ G z) (held-none held id e) ∙ ap (λ z. old ++ z) none ∙ append-nil old))

-- ---- all that it could meet
pub pairs-walked : (size own id : ℕ) (a : Rule) (dep : Departure) (held : List (Held Rule)) (ids : List ℕ)
    (old new : List Made) → IsNormal a.m → AllByRecursion (λ (b : Held Rule). IsAt own dep.exit.peer.port b.item) held
    → Rises held →
    IsPermutation ids (map id_of (filter (λ (h : Held Rule). overlaps (asked a.m dep) h.item.m) held))
    → new ≡ old ++ filter_map (pair_with size id a dep) (under held ids)
    → IsPermutation new (old ++ filter_map (pair_with size id a dep) held)
pairs-walked size own id a dep held ids old new n at up p e =
    IsPermutation-trans _ _ _ (by-equation _ _ e)
    (IsPermutation-append_right old _ _
    (walked (pair_with size id a dep) (λ (h : Held Rule). overlaps (asked a.m dep) h.item.m) held held ids
    (found-all held up) p (all-unmet size id a dep n own dep.exit.place held at)))

over-mapped : (f : Arrival → Option Made) (place : ℕ) (rs : List (Held Rule))
    → filter_map f (map (arrival place) rs) ≡ filter_map (λ h. f (arrival place h)) rs
over-mapped f place [] = refl
over-mapped f place (h ∷ rs) = ap (cons_option (f (arrival place h))) (over-mapped f place rs)

-- those to which a link leads, as rules of the node there
pub over-pairs : (size id : ℕ) (a : Rule) (dep : Departure) (below : List NodeOf) →
    filter_map (λ y. pair_by size id a y (Some dep)) (arrive dep.exit.place (held_at below dep.exit.place))
    ≡ filter_map (pair_with size id a dep) (rules_in (held_at below dep.exit.place))
over-pairs size id a dep below = over-mapped (λ y. pair_by size id a y (Some dep)) dep.exit.place
    (rules_in (held_at below dep.exit.place))

-- ---- the node where a link leads
pub all-got : (P : NodeOf → Type 0) (below : List NodeOf) (place : ℕ) (n : NodeOf) → AllByRecursion P below
    → slice_get below place ≡ Some n → P n
all-got P [] place n a e = absurd (cc)
all-got P (m ∷ below) zero n a e = let s : m ≡ n = cc in subst P s a.0
all-got P (m ∷ below) (suc place) n a e = all-got P below place n a.1 e

-- the node at a place
pub got-some : (below : List NodeOf) (place : ℕ) (n : NodeOf) → place < length below → n ≡ get_or below place n
    → slice_get below place ≡ Some n
got-some [] place n lt e = absurd (omega arith)
got-some (m ∷ below) zero n lt e = ap Some (sym e)
got-some (m ∷ below) (suc place) n lt e = got-some below place n (omega arith) e

pub got-past : (below : List NodeOf) (place : ℕ) → length below ≤ place → slice_get below place ≡ None
got-past [] place le = refl
got-past (m ∷ below) zero le = absurd (omega arith)
got-past (m ∷ below) (suc place) le = got-past below place (omega arith)

pub got-held : (below : List NodeOf) (place : ℕ) (n : NodeOf) → slice_get below place ≡ Some n
    → held_at below place ≡ n.held
got-held below place n e = ap (λ o. option_map_or (λ (n : NodeOf). n.held) o []) e

pub got-none : (below : List NodeOf) (place : ℕ) → slice_get below place ≡ None → held_at below place ≡ []
got-none below place e = ap (λ o. option_map_or (λ (n : NodeOf). n.held) o []) e

pub arriving-there : (below : List NodeOf) (size : ℕ) (exits : List Exit) (port : ℕ) (a : Rule) (dep : Departure)
    → AllByRecursion (AreArriving below size) exits → leaving exits port a.tail ≡ Some dep
    → AreArriving below size dep.exit
arriving-there below size exits port a dep all e =
    subst (λ o. IfSome o (λ (l : Departure). AreArriving below size l.exit)) e
    (leaving-all (AreArriving below size) exits port a.tail all)

-- ---- how many it could meet
module _ (below : List NodeOf) (q : Arrival → Bool) where
  there-by : (place : ℕ) (e : Exit) (es : List Exit) (t : Bool) → (place == e.place) ≡ t
      → (t || leads_there place es) ≡ true →
      (leads_there place es ≡ true → count_by q (arrive place (held_at below place)) ≤ count_by q (arrivals below es))
      → count_by q (arrive place (held_at below place)) ≤ count_by q (arrivals below (e ∷ es))
  there-by place e es true s i next =
      let l = sum_by-append (λ y. cond (q y) 1 0) (arriving below e) (arrivals below es) in
      let k : count_by q (arrive place (held_at below place)) ≡ count_by q (arriving below e) =
      ap (λ n. count_by q (arrive n (held_at below n))) (is-same place e.place s) in
      omega arith
  there-by place e es false s i next =
      let l = sum_by-append (λ y. cond (q y) 1 0) (arriving below e) (arrivals below es) in
      let k = next i in
      omega arith

  pub there-count : (place : ℕ) (es : List Exit) → leads_there place es ≡ true
      → count_by q (arrive place (held_at below place)) ≤ count_by q (arrivals below es)
  there-count place [] i = absurd (cc)
  there-count place (e ∷ es) i = there-by place e es (place == e.place) refl i (there-count place es)

module _ (a : Rule) (dep : Departure) where
  here-count : (rs : List (Held Rule))
      → count_by (λ y. could_by a y (Some dep)) (map (arrival dep.exit.place) rs)
      ≡ count_by (λ (b : Held Rule). overlaps (asked a.m dep) b.item.m) rs
  here-count [] = refl
  here-count (b ∷ rs) =
      sum_by-cons (λ (y : Arrival). cond {A = ℕ} (could_by a y (Some dep)) 1 0) (arrival dep.exit.place b)
      (map (arrival dep.exit.place) rs)
      ∙ ap (λ t. cond {A = ℕ} (t && overlaps (asked a.m dep) b.item.m) 1 0 + count_by (λ y. could_by a y (Some dep))
      (map (arrival dep.exit.place) rs)) (itself dep.exit.place)
      ∙ ap (λ n. cond {A = ℕ} (overlaps (asked a.m dep) b.item.m) 1 0 + n) (here-count rs)
      ∙ sym (sum_by-cons (λ (b : Held Rule). cond {A = ℕ} (overlaps (asked a.m dep) b.item.m) 1 0) b rs)

  pub could-count : (at : Place) (exits : List Exit) (below : List NodeOf) (h : Held Rule) → standing at h.item ≡ Some a
      → leaving exits at.port a.tail ≡ Some dep →
      count_by (λ (b : Held Rule). overlaps (asked a.m dep) b.item.m) (rules_in (held_at below dep.exit.place)) ≤
      count_by (could at exits h) (arrivals below exits)
  could-count at exits below h e l =
      let there : leads_there dep.exit.place exits ≡ true =
      subst (λ o. IfSome o (λ (d : Departure). leads_there d.exit.place exits ≡ true)) l
      (leaving-there exits at.port a.tail) in
      let s : count_by (could at exits h) (arrivals below exits)
      ≡ count_by (λ y. could_by a y (Some dep)) (arrivals below exits) =
      ap (λ o. count_by (λ y. option_map_or (λ (x : Rule). could_by x y (leaving exits at.port x.tail)) o false)
      (arrivals below exits)) e
      ∙ ap (λ o. count_by (λ y. could_by a y o) (arrivals below exits)) l in
      let k = here-count (rules_in (held_at below dep.exit.place)) in
      let t = there-count below (λ y. could_by a y (Some dep)) dep.exit.place exits there in
      omega arith
