-- Equality of actions as a test.
use Rattle.std.specs.Prelude.{Bool, true, false, ◌==◌, ◌&&◌}
use Rattle.of10_actions.specs.declared.action.Action.{Action}
use Rattle.of10_actions.specs.declared.action.Action.TheVariants.{Output, SetVlanVid, SetVlanPcp, StripVlan, SetDlSrc}
use Rattle.of10_actions.specs.declared.action.Action.TheVariants.{SetDlDst, SetNwSrc, SetNwDst, SetNwTos, SetTpSrc}
use Rattle.of10_actions.specs.declared.action.Action.TheVariants.{SetTpDst, Enqueue}

-- two actions do the same
abbrev pub same_action : Action → Action → Bool
same_action (Output p n) (Output q m) = (p == q) && (n == m)
same_action (SetVlanVid v) (SetVlanVid w) = v == w
same_action (SetVlanPcp v) (SetVlanPcp w) = v == w
same_action StripVlan StripVlan = true
same_action (SetDlSrc v) (SetDlSrc w) = v == w
same_action (SetDlDst v) (SetDlDst w) = v == w
same_action (SetNwSrc v) (SetNwSrc w) = v == w
same_action (SetNwDst v) (SetNwDst w) = v == w
same_action (SetNwTos v) (SetNwTos w) = v == w
same_action (SetTpSrc v) (SetTpSrc w) = v == w
same_action (SetTpDst v) (SetTpDst w) = v == w
same_action (Enqueue p n) (Enqueue q m) = (p == q) && (n == m)
same_action _ _ = false
