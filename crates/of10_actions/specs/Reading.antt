-- Reading actions from left to right, with the first fault and its place.
use Rattle.std.specs.Prelude.{◌≡◌, ℕ, zero, suc, ◌+◌, ◌-◌, ◌%◌, Bool, List, [], ◌∷◌, length, drop, slice_index, Option}
use Rattle.std.specs.Prelude.{Some, None, Result, Ok, Err, nat_lt, nat_le, ◌==◌, ◌&&◌, if◌then◌else◌}
use Rattle.byteorder.specs.Endian.{big_number}
use Rattle.of10_actions.specs.declared.action.Action.{Action}
use Rattle.of10_actions.specs.declared.action.Action.TheVariants as actions
use Rattle.of10_actions.specs.declared.fault.ActionFault.{ActionFault}
use Rattle.of10_actions.specs.declared.fault.ActionFault.TheVariants.{BadType, BadLen, BadArgument, BadVendor, Memory}
use Rattle.of10_actions.specs.declared.kind.Kind.{Kind}
use Rattle.of10_actions.specs.declared.kind.Kind.TheVariants.{Output, SetVlanVid, SetVlanPcp, StripVlan, SetDlSrc}
use Rattle.of10_actions.specs.declared.kind.Kind.TheVariants.{SetDlDst, SetNwSrc, SetNwDst, SetNwTos, SetTpSrc}
use Rattle.of10_actions.specs.declared.kind.Kind.TheVariants.{SetTpDst, Enqueue}
use Rattle.of10_actions.specs.Kinds.{kind_of, length_of, type_of}
use Rattle.of10_actions.specs.Numbers.{VENDOR}

-- the numbers of 16, 32, 48 and 64 bits at a place
abbrev pub u16_at : ℕ → List ℕ → ℕ
u16_at at bytes = big_number 2 (drop at bytes)

abbrev pub u32_at : ℕ → List ℕ → ℕ
u32_at at bytes = big_number 4 (drop at bytes)

abbrev pub u48_at : ℕ → List ℕ → ℕ
u48_at at bytes = big_number 6 (drop at bytes)

abbrev pub u64_at : ℕ → List ℕ → ℕ
u64_at at bytes = big_number 8 (drop at bytes)

-- the value, unless the test found it out of its range
abbrev pub unless : Bool → Action → Option Action
unless bad action = if bad then None else Some action

-- the action of this type at the front of the bytes, or none where an argument is out of its range
abbrev pub action_of : Kind → List ℕ → Option Action
action_of Output bytes = Some (actions.Output (u16_at 4 bytes) (u16_at 6 bytes))
action_of SetVlanVid bytes = unless (nat_lt 4095 (u16_at 4 bytes)) (actions.SetVlanVid (u16_at 4 bytes))
action_of SetVlanPcp bytes = unless (nat_lt 7 (slice_index bytes 4)) (actions.SetVlanPcp (slice_index bytes 4))
action_of StripVlan bytes = Some actions.StripVlan
action_of SetDlSrc bytes = Some (actions.SetDlSrc (u48_at 4 bytes))
action_of SetDlDst bytes = Some (actions.SetDlDst (u48_at 4 bytes))
action_of SetNwSrc bytes = Some (actions.SetNwSrc (u32_at 4 bytes))
action_of SetNwDst bytes = Some (actions.SetNwDst (u32_at 4 bytes))
action_of SetNwTos bytes = Some (actions.SetNwTos (slice_index bytes 4 - slice_index bytes 4 % 4))
action_of SetTpSrc bytes = Some (actions.SetTpSrc (u16_at 4 bytes))
action_of SetTpDst bytes = Some (actions.SetTpDst (u16_at 4 bytes))
action_of Enqueue bytes = Some (actions.Enqueue (u16_at 4 bytes) (u32_at 12 bytes))

-- the action, or the fault of an argument out of its range
abbrev pub or_bad_argument : ℕ → Option Action → Result Action ActionFault
or_bad_argument at None = Err (BadArgument at)
or_bad_argument at (Some action) = Ok action

-- the length that is written is the type's, and there are so many bytes
abbrev pub is_long : Kind → List ℕ → Bool
is_long kind bytes = (u16_at 2 bytes == length_of kind) && nat_le (length_of kind) (length bytes)

-- the action of a type, or the fault of an unknown type, or of a length that isn't the type's
abbrev pub of_kind : ℕ → Option Kind → List ℕ → Result Action ActionFault
of_kind at None bytes = Err (BadType at)
of_kind at (Some kind) bytes = if is_long kind bytes then or_bad_argument at (action_of kind bytes) else Err (BadLen at)

-- the action at the front of bytes that begin at a place, or its fault
unfoldable pub action_at : ℕ → List ℕ → Result Action ActionFault
action_at at bytes =
    if nat_lt (length bytes) 4 then Err (BadLen at)
    else if u16_at 0 bytes == VENDOR then Err (BadVendor at)
    else of_kind at (kind_of (u16_at 0 bytes)) bytes

infixl 10 ◌>>=◌
abbrev pub ◌>>=◌ : {A B : Type 0} → Result A ActionFault → (A → Result B ActionFault) → Result B ActionFault
(Ok x) >>= f = f x
(Err e) >>= f = Err e

-- the actions of bytes that begin at a place and of which the first `skipped` belong to the action before,
-- or the first fault
unfoldable pub actions_at : ℕ → ℕ → List ℕ → Result (List Action) ActionFault
actions_at skipped at [] = Ok []
actions_at (suc skipped) at (byte ∷ bytes) = actions_at skipped (at + 1) bytes
actions_at zero at (byte ∷ bytes) = do
  action ← action_at at (byte ∷ bytes)
  list ← actions_at (length_of (type_of action) - 1) (at + 1) bytes
  Ok (action ∷ list)

-- all of the bytes
abbrev pub reading : List ℕ → Result (List Action) ActionFault
reading bytes = actions_at 0 0 bytes

-- what a call answered is what reading gives, unless memory ran out
abbrev pub Gives : Result (List Action) ActionFault → Result (List Action) ActionFault → Type 0
Gives (Err Memory) read = Unit {0}
Gives answer read = answer ≡ read
