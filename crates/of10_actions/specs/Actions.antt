-- The ranges of the numbers of actions.
use Rattle.std.specs.Prelude.{◌≡◌, List, All, ◌<◌, ◌^◌, ◌%◌}
use Rattle.of10_actions.specs.declared.action.Action.{Action}
use Rattle.of10_actions.specs.declared.action.Action.TheVariants.{Output, SetVlanVid, SetVlanPcp, StripVlan, SetDlSrc}
use Rattle.of10_actions.specs.declared.action.Action.TheVariants.{SetDlDst, SetNwSrc, SetNwDst, SetNwTos, SetTpSrc}
use Rattle.of10_actions.specs.declared.action.Action.TheVariants.{SetTpDst, Enqueue}

-- an action's numbers are in their ranges, as far as their types leave a choice
abbrev pub IsInRange : Action → Type 0
IsInRange (SetVlanVid vid) = vid < 4096
IsInRange (SetVlanPcp pcp) = pcp < 8
IsInRange (SetDlSrc address) = address < 2 ^ 48
IsInRange (SetDlDst address) = address < 2 ^ 48
IsInRange (SetNwTos tos) = tos % 4 ≡ 0
IsInRange _ = Unit {0}

-- an action's numbers fit their types
abbrev pub FitsTypes : Action → Type 0
FitsTypes (Output port max_len) = (port < 2 ^ 16) × (max_len < 2 ^ 16)
FitsTypes (SetVlanVid vid) = vid < 2 ^ 16
FitsTypes (SetVlanPcp pcp) = pcp < 2 ^ 8
FitsTypes StripVlan = Unit {0}
FitsTypes (SetDlSrc address) = address < 2 ^ 64
FitsTypes (SetDlDst address) = address < 2 ^ 64
FitsTypes (SetNwSrc address) = address < 2 ^ 32
FitsTypes (SetNwDst address) = address < 2 ^ 32
FitsTypes (SetNwTos tos) = tos < 2 ^ 8
FitsTypes (SetTpSrc port) = port < 2 ^ 16
FitsTypes (SetTpDst port) = port < 2 ^ 16
FitsTypes (Enqueue port queue) = (port < 2 ^ 16) × (queue < 2 ^ 32)

-- the numbers of a list's actions are in their ranges
abbrev pub AreInRange : List Action → Type 0
AreInRange list = All IsInRange list

-- a list of actions, each with its numbers in range and fit for their types
abbrev pub AreActions : List Action → Type 0
AreActions list = All IsInRange list × All FitsTypes list
