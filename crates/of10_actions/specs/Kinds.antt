-- The types of actions, with their numbers and lengths on the wire.
use Rattle.std.specs.Prelude.{ℕ, List, [], ◌∷◌, Option, slice_get}
use Rattle.of10_actions.specs.declared.action.Action.{Action}
use Rattle.of10_actions.specs.declared.action.Action.TheVariants as actions
use Rattle.of10_actions.specs.declared.kind.Kind.{Kind}
use Rattle.of10_actions.specs.declared.kind.Kind.TheVariants.{Output, SetVlanVid, SetVlanPcp, StripVlan, SetDlSrc}
use Rattle.of10_actions.specs.declared.kind.Kind.TheVariants.{SetDlDst, SetNwSrc, SetNwDst, SetNwTos, SetTpSrc}
use Rattle.of10_actions.specs.declared.kind.Kind.TheVariants.{SetTpDst, Enqueue}

-- the types, by their numbers from 0
abbrev pub kinds : List Kind
kinds = Output ∷ SetVlanVid ∷ SetVlanPcp ∷ StripVlan ∷ SetDlSrc ∷ SetDlDst ∷ SetNwSrc ∷ SetNwDst ∷ SetNwTos ∷ SetTpSrc
    ∷ SetTpDst ∷ Enqueue ∷ []

-- the type of a number
abbrev pub kind_of : ℕ → Option Kind
kind_of number = slice_get kinds number

-- the number of a type
abbrev pub number_of : Kind → ℕ
number_of Output = 0
number_of SetVlanVid = 1
number_of SetVlanPcp = 2
number_of StripVlan = 3
number_of SetDlSrc = 4
number_of SetDlDst = 5
number_of SetNwSrc = 6
number_of SetNwDst = 7
number_of SetNwTos = 8
number_of SetTpSrc = 9
number_of SetTpDst = 10
number_of Enqueue = 11

-- how many bytes an action of this type has, its type and length included
abbrev pub length_of : Kind → ℕ
length_of SetDlSrc = 16
length_of SetDlDst = 16
length_of Enqueue = 16
length_of _ = 8

-- the type of an action
abbrev pub type_of : Action → Kind
type_of (actions.Output port max_len) = Output
type_of (actions.SetVlanVid vid) = SetVlanVid
type_of (actions.SetVlanPcp pcp) = SetVlanPcp
type_of actions.StripVlan = StripVlan
type_of (actions.SetDlSrc address) = SetDlSrc
type_of (actions.SetDlDst address) = SetDlDst
type_of (actions.SetNwSrc address) = SetNwSrc
type_of (actions.SetNwDst address) = SetNwDst
type_of (actions.SetNwTos tos) = SetNwTos
type_of (actions.SetTpSrc port) = SetTpSrc
type_of (actions.SetTpDst port) = SetTpDst
type_of (actions.Enqueue port queue) = Enqueue
