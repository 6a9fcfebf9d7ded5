-- Faults as a report writes them.
use Rattle.std.specs.Prelude.{ℕ, codes, List, [], ◌∷◌, ◌++◌, Option, Some, None}
use Rattle.std.specs.Option.{option_map_or}
use Rattle.policy_expr.specs.declared.fault.ExprFault.{ExprFault}
use Rattle.policy_expr.specs.declared.fault.ExprFault.TheVariants as expr
use Rattle.virtual_topology.specs.declared.fault.TopologyFault.{TopologyFault}
use Rattle.virtual_topology.specs.declared.fault.TopologyFault.TheVariants as topology
use Rattle.inner_paths.specs.declared.fault.PathFault.{PathFault}
use Rattle.inner_paths.specs.declared.fault.PathFault.TheVariants as path
use Rattle.policies.specs.declared.fault.PolicyFault.{PolicyFault}
use Rattle.policies.specs.declared.fault.PolicyFault.TheVariants.{Long, Syntax, Key, Missing, Value, Expr, Topology}
use Rattle.policies.specs.declared.fault.PolicyFault.TheVariants.{Paths, TooWide, Memory}

-- the kind of a fault of an expression
abbrev pub expr_kind : ExprFault → List ℕ
expr_kind (expr.Syntax at) = codes "syntax"
expr_kind (expr.Unknown name) = codes "unknown"
expr_kind (expr.Twice name) = codes "twice"
expr_kind (expr.Unused name) = codes "unused"
expr_kind (expr.TooMany leaves) = codes "toomany"
expr_kind (expr.ParallelLeft name) = codes "parallelleft"
expr_kind expr.Memory = codes "memory"

-- that of a topology
abbrev pub topology_kind : TopologyFault → List ℕ
topology_kind (topology.PortTwice name) = codes "porttwice"
topology_kind (topology.Unknown name) = codes "unknown"
topology_kind (topology.LinkShape name) = codes "linkshape"
topology_kind (topology.Mixed name) = codes "mixed"
topology_kind (topology.TooMany name limit) = codes "toomany"
topology_kind topology.Memory = codes "memory"

-- that of paths
abbrev pub path_kind : PathFault → List ℕ
path_kind (path.Unreachable from to) = codes "unreachable"
path_kind path.Memory = codes "memory"

-- the kind of a fault, in lower case
abbrev pub kind : PolicyFault → List ℕ
kind Long = codes "long"
kind Syntax = codes "syntax"
kind (Key name) = codes "key"
kind (Missing name) = codes "missing"
kind (Value name) = codes "value"
kind (Expr name fault) = codes "expr"
kind (Topology fault) = codes "topology"
kind (Paths fault) = codes "paths"
kind (TooWide name needed limit) = codes "toowide"
kind Memory = codes "memory"

-- what a fault names: a key, or a virtual switch
abbrev pub named : PolicyFault → Option (List ℕ)
named (Key name) = Some name
named (Missing name) = Some name
named (Value name) = Some name
named (Expr name fault) = Some name
named (TooWide name needed limit) = Some name
named _ = None

-- the kind of the fault of an expression, a topology or paths
abbrev pub inner_kind : PolicyFault → Option (List ℕ)
inner_kind (Expr name fault) = Some (expr_kind fault)
inner_kind (Topology fault) = Some (topology_kind fault)
inner_kind (Paths fault) = Some (path_kind fault)
inner_kind _ = None

-- a blank (32) and a word
abbrev pub next_word : List ℕ → List ℕ
next_word word = 32 ∷ word

-- the kind, the name or `-`, and the inner kind where there is one
abbrev pub terse : PolicyFault → List ℕ
terse fault = (kind fault ++ next_word (option_map_or (λ name. name) (named fault) (codes "-")))
    ++ option_map_or next_word (inner_kind fault) []
