-- Tags are found by port.
use Rattle.std.proofs.Common.{◌≡◌, ℕ, ◌==◌, ◌&&◌, Bool, true, false, cond, Option, Some, None, List, [], ◌∷◌, refl, sym}
use Rattle.std.proofs.Common.{ap, ◌∙◌, eqb-true, if◌then◌else◌}
use Rattle.std.specs.Prelude.{filter_map, is_some}
use Rattle.std.specs.List.{cons_option}
use Rattle.std.specs.Map.{lookup}
use Rattle.virtual_topology.specs.declared.plan.TopologyPlan.{TopologyPlan}
use Rattle.virtual_topology.specs.Rows.{same_spot}
use Rattle.virtual_topology.specs.Wires.{Joint, is_spread_of, outside_joints}
use Rattle.inner_paths.specs.Tags.{place_of, tag_of, tag_row, tag_rows}

and_true : (a b : Bool) → (a && b) ≡ true → (a ≡ true) × (b ≡ true)
and_true true b e = (refl, e)
and_true false b e = absurd (cc)

-- the tag of a port, if its virtual switch is spread and it is found
abbrev tag_if : TopologyPlan → ℕ → ℕ → Bool → Option ℕ
tag_if plan v port found = if is_spread_of plan v && found then Some (place_of plan v port) else None

not_spread : (plan : TopologyPlan) (v port : ℕ) (found other : Bool) → is_spread_of plan v ≡ false
    → tag_if plan v port found ≡ tag_if plan v port other
not_spread plan v port found other e = ap (λ s. if s && found then Some (place_of plan v port) else None) e
    ∙ sym (ap (λ s. if s && other then Some (place_of plan v port) else None) e)

among : (plan : TopologyPlan) (v port : ℕ) (os : List Joint)
    → lookup (same_spot (v, port)) (filter_map (tag_row plan) os)
    ≡ tag_if plan v port (is_some (lookup (same_spot (v, port)) os))
among plan v port [] = by (is_spread_of plan v)
  where
    by : (s : Bool) → None ≡ (if s && false then Some (place_of plan v port) else None)
    by true = refl
    by false = refl
among plan v port (o ∷ os) = by (same_spot (v, port) o.0) refl (is_spread_of plan o.0.0) refl (among plan v port os)
  where
    by : (c : Bool) → same_spot (v, port) o.0 ≡ c → (b : Bool) → is_spread_of plan o.0.0 ≡ b
        → lookup (same_spot (v, port)) (filter_map (tag_row plan) os)
        ≡ tag_if plan v port (is_some (lookup (same_spot (v, port)) os))
        → lookup (same_spot (v, port))
        (cons_option (if b then Some (o.0, place_of plan o.0.0 o.0.1) else None) (filter_map (tag_row plan) os))
        ≡ tag_if plan v port (is_some (cond c (Some o.1) (lookup (same_spot (v, port)) os)))
    by true s true b rest =
        let same = and_true (v == o.0.0) (port == o.0.1) s in
        ap (λ c. cond c (Some (place_of plan o.0.0 o.0.1))
        (lookup (same_spot (v, port)) (filter_map (tag_row plan) os))) s
        ∙ ((λ i. Some (place_of plan (sym (eqb-true v o.0.0 same.0) i) (sym (eqb-true port o.0.1 same.1) i)))
        ∙ sym (ap (λ s. if s && true then Some (place_of plan v port) else None)
        (ap (is_spread_of plan) (eqb-true v o.0.0 same.0) ∙ b)))
    by true s false b rest =
        let same = and_true (v == o.0.0) (port == o.0.1) s in
        rest ∙ not_spread plan v port (is_some (lookup (same_spot (v, port)) os)) true
        (ap (is_spread_of plan) (eqb-true v o.0.0 same.0) ∙ b)
    by false s true b rest =
        ap (λ c. cond c (Some (place_of plan o.0.0 o.0.1))
        (lookup (same_spot (v, port)) (filter_map (tag_row plan) os))) s ∙ rest
    by false s false b rest = rest

pub tag_found : (plan : TopologyPlan) (v port : ℕ) → lookup (same_spot (v, port)) (tag_rows plan) ≡ tag_of plan v port
tag_found plan v port = among plan v port (outside_joints plan)
