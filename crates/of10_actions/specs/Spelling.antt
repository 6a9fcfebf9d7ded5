-- The bytes that stand for an action and for a list of actions.
use Rattle.std.specs.Prelude.{◌≡◌, ◌<◌, ℕ, ◌+◌, List, [], ◌∷◌, ◌++◌, length, slice_index, replicate}
use Rattle.std.specs.List.{flat_map}
use Rattle.byteorder.specs.Endian.{big_bytes}
use Rattle.of10_actions.specs.declared.action.Action.{Action}
use Rattle.of10_actions.specs.declared.action.Action.TheVariants.{Output, SetVlanVid, SetVlanPcp, StripVlan, SetDlSrc}
use Rattle.of10_actions.specs.declared.action.Action.TheVariants.{SetDlDst, SetNwSrc, SetNwDst, SetNwTos, SetTpSrc}
use Rattle.of10_actions.specs.declared.action.Action.TheVariants.{SetTpDst, Enqueue}
use Rattle.of10_actions.specs.declared.kind.Kind.{Kind}
use Rattle.of10_actions.specs.Kinds.{type_of, number_of, length_of}

-- numbers that are bytes
abbrev pub IsBytes : List ℕ → Type 0
IsBytes bytes = (i : ℕ) → slice_index bytes i < 256

-- how many bytes of padding an action has
abbrev pub padding : Action → ℕ
padding (SetVlanVid vid) = 2
padding (SetVlanPcp pcp) = 3
padding StripVlan = 4
padding (SetDlSrc address) = 6
padding (SetDlDst address) = 6
padding (SetNwTos tos) = 3
padding (SetTpSrc port) = 2
padding (SetTpDst port) = 2
padding (Enqueue port queue) = 6
padding _ = 0

-- an action's arguments with this padding, where the two low bits of a tos are those of low
abbrev pub arguments : Action → ℕ → List ℕ → List ℕ
arguments (Output port max_len) low pad = big_bytes 2 port ++ (big_bytes 2 max_len ++ pad)
arguments (SetVlanVid vid) low pad = big_bytes 2 vid ++ pad
arguments (SetVlanPcp pcp) low pad = pcp ∷ pad
arguments StripVlan low pad = pad
arguments (SetDlSrc address) low pad = big_bytes 6 address ++ pad
arguments (SetDlDst address) low pad = big_bytes 6 address ++ pad
arguments (SetNwSrc address) low pad = big_bytes 4 address ++ pad
arguments (SetNwDst address) low pad = big_bytes 4 address ++ pad
arguments (SetNwTos tos) low pad = (tos + low) ∷ pad
arguments (SetTpSrc port) low pad = big_bytes 2 port ++ pad
arguments (SetTpDst port) low pad = big_bytes 2 port ++ pad
arguments (Enqueue port queue) low pad = big_bytes 2 port ++ (pad ++ big_bytes 4 queue)

-- type and length
abbrev pub start : Kind → List ℕ
start kind = big_bytes 2 (number_of kind) ++ big_bytes 2 (length_of kind)

-- an action's bytes with this padding and these low bits of a tos
abbrev pub with_free : Action → ℕ → List ℕ → List ℕ
with_free action low pad = start (type_of action) ++ arguments action low pad

-- an action as it is written: what is free is zero
abbrev pub spelling : Action → List ℕ
spelling action = with_free action 0 (replicate (padding action) 0)

-- a list as it is written
abbrev pub spellings : List Action → List ℕ
spellings list = flat_map spelling list

-- the bytes stand for the action, whatever is free in them
pub record Spells (action : Action) (bytes : List ℕ) : Type 0 where
  pub low : ℕ
  pub pad : List ℕ
  pub low_fits : low < 4
  pub pad_fits : length pad ≡ padding action
  pub whole : bytes ≡ with_free action low pad

-- the bytes stand for the actions of the list, one after the other
abbrev pub SpellsList : List Action → List ℕ → Type 0
SpellsList [] bytes = bytes ≡ []
SpellsList (action ∷ list) bytes =
    (front : List ℕ) × (back : List ℕ) × (bytes ≡ front ++ back) × Spells action front × SpellsList list back
