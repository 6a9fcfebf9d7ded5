-- For each virtual switch whether its members see all its ports.
use Rattle.std.proofs.Common.{◌≡◌, ℕ, List, [], ◌∷◌, map, refl, ap}
use Rattle.std.specs.List.{enumerate_from, list_all}
use Rattle.policies.specs.Policies.{PolicyOf}
use Rattle.policy_setting.specs.OfPolicies.{seen, sees_its}
use Rattle.virtual_topology.specs.declared.plan.VirtualItem.{VirtualItem}
use Rattle.machine_drafts.specs.Setups.{is_seen, ports_at, ports_of}

-- so it is where all their ports are at hand
pub seen_all : (p : PolicyOf) → map (is_seen p.members) (ports_of p.virtuals) ≡ seen p
unfolding seen sees_its
seen_all p = by (enumerate_from 0 p.virtuals)
  where
    by : (vs : List (ℕ × VirtualItem)) → map (is_seen p.members) (map ports_at vs)
        ≡ map (λ (v : ℕ × VirtualItem). list_all (sees_its v) p.members) vs
    by [] = refl
    by (v ∷ vs) = ap (λ bs. is_seen p.members (ports_at v) ∷ bs) (by vs)
