-- How many levels of priority virtual switches need over hops.
use Rattle.std.specs.Prelude.{◌≡◌, ℕ, zero, suc, ◌^◌, ◌*◌, max, List, [], ◌∷◌, Option, Some, None, if◌then◌else◌}
use Rattle.std.specs.Prelude.{nat_le, map, slice_get}
use Rattle.std.specs.List.{enumerate_from}
use Rattle.std.specs.Option.{option_map_or}
use Rattle.alg_priority.specs.Levels.{capped}
use Rattle.policy_expr.specs.Policy.{Policy}
use Rattle.policy_expr.specs.Sizes.{size_of}
use Rattle.virtual_topology.specs.declared.plan.TopologyPlan.{TopologyPlan}
use Rattle.virtual_topology.specs.declared.plan.VirtualItem.{VirtualItem}
use Rattle.virtual_topology.specs.declared.plan.VirtualPort.{VirtualPort}
use Rattle.virtual_topology.specs.Faults.{first_answer}
use Rattle.virtual_topology.specs.Rows.{Spot}
use Rattle.virtual_topology.specs.Wires.{peer_of}
use Rattle.policies.specs.declared.fault.PolicyFault.{PolicyFault}
use Rattle.policies.specs.declared.fault.PolicyFault.TheVariants as faults
use Rattle.policies.specs.declared.policy.MemberItem.{MemberItem}

-- the bits of a member
abbrev pub bits_of : List MemberItem → ℕ → ℕ
bits_of members i = option_map_or (λ (m : MemberItem). m.bits) (slice_get members i) 0

-- the size of an expression, at most the greatest u64
abbrev pub size : List MemberItem → Policy → ℕ
size members p = capped (size_of (λ i. 2 ^ bits_of members i) p)

-- the greatest of some numbers and 1
abbrev pub greatest : List ℕ → ℕ
greatest [] = 1
greatest (n ∷ ns) = max n (greatest ns)

-- the number at a place, 1 beyond the end
abbrev pub number_at : List ℕ → ℕ → ℕ
number_at ns i = option_map_or (λ n. n) (slice_get ns i) 1

-- what the virtual switch beyond a port needs, 1 where no link leads on
abbrev pub beyond : TopologyPlan → (ℕ → ℕ) → ℕ → ℕ → ℕ
beyond plan needed v port = option_map_or (λ (s : Spot). needed s.0) (peer_of plan v port) 1

-- what a virtual switch needs with one hop more: its own size times the most that one to which a link leads needs
abbrev pub over_hop : TopologyPlan → List ℕ → (ℕ → ℕ) → ℕ × VirtualItem → ℕ
over_hop plan sizes needed v =
    capped (number_at sizes v.0 * greatest (map (λ (p : VirtualPort). beyond plan needed v.0 p.port) v.1.ports))

-- what a virtual switch of these sizes needs over so many hops: over none 1; and 1 for the number of no virtual switch
abbrev pub width : TopologyPlan → List ℕ → ℕ → ℕ → ℕ
width plan sizes zero v = 1
width plan sizes (suc n) v = option_map_or (λ (x : VirtualItem). over_hop plan sizes (width plan sizes n) (v, x))
    (slice_get plan.virtuals v) 1

-- what each needs over so many hops
abbrev pub AreWidths : TopologyPlan → List ℕ → ℕ → List ℕ → Type 0
AreWidths plan sizes hops needed = (v : ℕ) → number_at needed v ≡ width plan sizes hops v

-- a virtual switch needs more levels than there are
abbrev pub too_wide : VirtualItem → ℕ → Option PolicyFault
too_wide v needed = if nat_le needed 65534 then None else Some (faults.TooWide v.name needed 65534)

-- the first of these virtual switches that needs more
abbrev pub too_wide_at : (ℕ → ℕ) → ℕ × VirtualItem → Option PolicyFault
too_wide_at needed v = too_wide v.1 (needed v.0)

abbrev pub too_wide_among : List VirtualItem → (ℕ → ℕ) → Option PolicyFault
too_wide_among virtuals needed = first_answer (too_wide_at needed) (enumerate_from 0 virtuals)

-- 8: the first virtual switch that needs more levels than there are
abbrev pub too_wide_in : TopologyPlan → List MemberItem → List Policy → ℕ → Option PolicyFault
too_wide_in plan members exprs hops = too_wide_among plan.virtuals (width plan (map (size members) exprs) hops)
