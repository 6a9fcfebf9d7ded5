-- Layers, distances and leads.
use Rattle.std.proofs.Common.{◌≡◌, ℕ, suc, ◌+◌, ◌-◌, ◌<◌, ◌≤◌, ◌==◌, ◌&&◌, ◌||◌, Bool, true, false, Option, Some, None}
use Rattle.std.proofs.Common.{List, [], ◌∷◌, length, get_or, drop, refl, sym, ap, ◌∙◌, eqb-true, arith, if◌then◌else◌}
use Rattle.std.specs.Prelude.{filter_map, option_map}
use Rattle.std.specs.List.{cons_option, list_any}
use Rattle.std.proofs.lemmas.List.{drop_more}
use Rattle.virtual_topology.specs.Wires.{Joint}
use Rattle.virtual_topology.specs.Within.{AreWithin}
use Rattle.virtual_topology.specs.declared.plan.TopologyPlan.{TopologyPlan}
use Rattle.inner_paths.specs.Distances.{distance, has_path, ways_of}
use Rattle.inner_paths.specs.Hops.{Lead, hop_between, lead_by, nearest, nearest_with}
use Rattle.inner_paths.specs.Tables.{IsRow, leads_into}

-- a way that leads to a switch of a layer is the first of a path that is longer by one cable
pub leads_are : (ways ws : List Joint) (layer : List Bool) (count n to s : ℕ) → AreWithin count ws
    → ((t : ℕ) → t < count → get_or layer t false ≡ has_path ways n t to)
    → leads_into ws layer s ≡ list_any (λ (w : Joint). (w.0.0 == s) && has_path ways n w.1.0 to) ws
leads_are ways [] layer count n to s within each = refl
leads_are ways (w ∷ ws) layer count n to s within each = λ i.
    ((w.0.0 == s) && each w.1.0 (within 0 w (omega arith)).1 i) || leads_are ways ws layer count n to s
    (λ k d lt. within (suc k) d (omega arith)) each i

-- what leads on by distances that are the same at the far ends
lead_same : (f g : ℕ → Option ℕ) (from : ℕ) (w : Joint) → f w.1.0 ≡ g w.1.0 → lead_by f from w ≡ lead_by g from w
lead_same f g from w e = ap (λ (o : Option ℕ). if w.0.0 == from then option_map (λ d. (d, w.0.1)) o else None) e

pub leads_same : (f g : ℕ → Option ℕ) (count from : ℕ) → ((s : ℕ) → s < count → f s ≡ g s) → (ws : List Joint)
    → AreWithin count ws → filter_map (lead_by f from) ws ≡ filter_map (lead_by g from) ws
leads_same f g count from each [] within = refl
leads_same f g count from each (w ∷ ws) within = λ i.
    cons_option (lead_same f g from w (each w.1.0 (within 0 w (omega arith)).1) i)
    (leads_same f g count from each ws (λ k d lt. within (suc k) d (omega arith)) i)

-- the nearest of one more
nearest_more : (o : Option Lead) (leads : List Lead) → nearest (cons_option o leads) ≡ nearest_with o (nearest leads)
nearest_more None leads = refl
nearest_more (Some a) leads = refl

pub nearest_step : (f : ℕ → Option ℕ) (from : ℕ) (ws : List Joint) (left : ℕ) (d : Joint) (best : Option Lead)
    → 0 < left → left ≤ length ws → best ≡ nearest (filter_map (lead_by f from) (drop left ws))
    → nearest_with (lead_by f from (get_or ws (left - 1) d)) best
    ≡ nearest (filter_map (lead_by f from) (drop (left - 1) ws))
nearest_step f from ws left d best low high before =
    let lt : left - 1 < length ws = omega arith in
    let on : (left - 1) + 1 ≡ left = omega arith in
    ap (nearest_with (lead_by f from (get_or ws (left - 1) d))) before
    ∙ (sym (nearest_more (lead_by f from (get_or ws (left - 1) d)) (filter_map (lead_by f from) (drop left ws)))
    ∙ sym (ap (λ us. nearest (filter_map (lead_by f from) us))
    (drop_more ws (left - 1) d lt ∙ ap (λ n. get_or ws (left - 1) d ∷ drop n ws) on)))

-- the port of what leads nearest
apart : (from to : ℕ) → (from ≡ to → ⊥) → (from == to) ≡ false
apart from to ne = by (from == to) refl
  where
    by : (b : Bool) → (from == to) ≡ b → (from == to) ≡ false
    by true e = absurd (ne (eqb-true from to e))
    by false e = e

pub hop_is : (plan : TopologyPlan) (from to : ℕ) → (from ≡ to → ⊥) → (distances : List (Option ℕ))
    → IsRow (length plan.switches) (λ s. distance plan s to) distances
    → (ways : List Joint) → ways ≡ ways_of plan → AreWithin (length plan.switches) ways → (o : Option Lead)
    → o ≡ nearest (filter_map (lead_by (λ s. get_or distances s None) from) ways)
    → option_map (λ (l : Lead). l.1) o ≡ hop_between plan from to
hop_is plan from to ne distances row ways are within o e =
    ap (option_map (λ (l : Lead). l.1))
    (e ∙ (ap nearest (leads_same (λ s. get_or distances s None) (λ s. distance plan s to) (length plan.switches)
    from row.each ways within)
    ∙ ap (λ ws. nearest (filter_map (lead_by (λ s. distance plan s to) from) ws)) are))
    ∙ sym
    (ap (λ (b : Bool). if b then None else option_map (λ (l : Lead). l.1)
    (nearest (filter_map (lead_by (λ s. distance plan s to) from) (ways_of plan)))) (apart from to ne))
