-- Lists of actions that are granted are short.
use Rattle.std.proofs.Common.{◌≡◌, ℕ, ◌+◌, ◌≤◌, Bool, true, false, List, [], ◌∷◌, length, max, arith}
use Rattle.std.specs.Prelude.{◌==◌, ◌||◌, if◌then◌else◌, sum_by}
use Rattle.std.proofs.lemmas.List.Sums.{sum_by-cons}
use Rattle.of10_actions.specs.Numbers.{ALL, FLOOD}
use Rattle.of10_actions.specs.declared.action.Action.{Action}
use Rattle.of10_actions.specs.declared.action.Action.TheVariants as actions
use Rattle.of10_actions.specs.declared.effects.PortView.{PortView}
use Rattle.grants.specs.Granted.{AreGranted}
use Rattle.grants.specs.Rows.{weight}
use Rattle.grants.specs.declared.grant.Grant.{Grant}

-- an action counts as one or more
some_weight : (g : Grant) (a : Action) → 1 ≤ weight g a
some_weight g (actions.Output port max_len) =
    elim ((port == FLOOD) || (port == ALL)) as (λ b. 1 ≤ (if b then max 1 (length g.ports.outside) else 1))
    [ true ↦ omega arith | false ↦ omega arith ]
some_weight g (actions.SetVlanVid vid) = omega arith
some_weight g (actions.SetVlanPcp pcp) = omega arith
some_weight g actions.StripVlan = omega arith
some_weight g (actions.SetDlSrc address) = omega arith
some_weight g (actions.SetDlDst address) = omega arith
some_weight g (actions.SetNwSrc address) = omega arith
some_weight g (actions.SetNwDst address) = omega arith
some_weight g (actions.SetNwTos tos) = omega arith
some_weight g (actions.SetTpSrc port) = omega arith
some_weight g (actions.SetTpDst port) = omega arith
some_weight g (actions.Enqueue port queue) = omega arith

length_weights : (g : Grant) (list : List Action) → length list ≤ sum_by (weight g) list
length_weights g [] = omega arith
length_weights g (a ∷ list) = omega (arith, sum_by-cons (weight g) a list, some_weight g a, length_weights g list)

pub granted_is_short : (in_flow : Bool) (g : Grant) (v : PortView) (list : List Action) → AreGranted in_flow g v list
    → length list ≤ 64
granted_is_short in_flow g v list granted = omega (arith, granted.few, length_weights g list)
