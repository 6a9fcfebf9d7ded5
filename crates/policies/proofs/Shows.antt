-- The words of terse texts are shown as they are.
use Rattle.std.proofs.Common.{◌≡◌, List, ℕ, Option, Some, None, subst, refl}
use Rattle.policy_expr.specs.declared.fault.ExprFault.{ExprFault}
use Rattle.policy_expr.specs.declared.fault.ExprFault.TheVariants as expr
use Rattle.virtual_topology.specs.declared.fault.TopologyFault.{TopologyFault}
use Rattle.virtual_topology.specs.declared.fault.TopologyFault.TheVariants as topology
use Rattle.inner_paths.specs.declared.fault.PathFault.{PathFault}
use Rattle.inner_paths.specs.declared.fault.PathFault.TheVariants as path
use Rattle.policies.specs.declared.fault.PolicyFault.{PolicyFault}
use Rattle.policies.specs.declared.fault.PolicyFault.TheVariants.{Long, Syntax, Key, Missing, Value, Expr, Topology}
use Rattle.policies.specs.declared.fault.PolicyFault.TheVariants.{Paths, TooWide, Memory}
use Rattle.policies.specs.Showing.{shown}
use Rattle.policies.specs.Terse.{expr_kind, topology_kind, path_kind, kind, inner_kind}
use Rattle.std.specs.Option.{option_map}

pub kind_shown : (fault : PolicyFault) → shown (kind fault) ≡ kind fault
kind_shown Long = refl
kind_shown Syntax = refl
kind_shown (Key name) = refl
kind_shown (Missing name) = refl
kind_shown (Value name) = refl
kind_shown (Expr name fault) = refl
kind_shown (Topology fault) = refl
kind_shown (Paths fault) = refl
kind_shown (TooWide name needed limit) = refl
kind_shown Memory = refl

expr_shown : (fault : ExprFault) → shown (expr_kind fault) ≡ expr_kind fault
expr_shown (expr.Syntax at) = refl
expr_shown (expr.Unknown name) = refl
expr_shown (expr.Twice name) = refl
expr_shown (expr.Unused name) = refl
expr_shown (expr.TooMany leaves) = refl
expr_shown (expr.ParallelLeft name) = refl
expr_shown expr.Memory = refl

topology_shown : (fault : TopologyFault) → shown (topology_kind fault) ≡ topology_kind fault
topology_shown (topology.PortTwice name) = refl
topology_shown (topology.Unknown name) = refl
topology_shown (topology.LinkShape name) = refl
topology_shown (topology.Mixed name) = refl
topology_shown (topology.TooMany name limit) = refl
topology_shown topology.Memory = refl

path_shown : (fault : PathFault) → shown (path_kind fault) ≡ path_kind fault
path_shown (path.Unreachable from to) = refl
path_shown path.Memory = refl

pub inner_shown : (fault : PolicyFault) (word : List ℕ) → inner_kind fault ≡ Some word → shown word ≡ word
inner_shown (Expr name fault) word e = let p : expr_kind fault ≡ word = cc e in
    subst (λ (w : List ℕ). shown w ≡ w) p (expr_shown fault)
inner_shown (Topology fault) word e = let p : topology_kind fault ≡ word = cc e in
    subst (λ (w : List ℕ). shown w ≡ w) p (topology_shown fault)
inner_shown (Paths fault) word e = let p : path_kind fault ≡ word = cc e in
    subst (λ (w : List ℕ). shown w ≡ w) p (path_shown fault)
inner_shown Long word e = absurd (cc)
inner_shown Syntax word e = absurd (cc)
inner_shown (Key name) word e = absurd (cc)
inner_shown (Missing name) word e = absurd (cc)
inner_shown (Value name) word e = absurd (cc)
inner_shown (TooWide name needed limit) word e = absurd (cc)
inner_shown Memory word e = absurd (cc)
