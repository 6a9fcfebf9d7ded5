-- The definitions, computed on examples.
use Rattle.std.specs.Prelude.{◌≡◌, ℕ, List, [], ◌∷◌, Some, None, Ok, Err, true, false}
use Rattle.of10_msgs.specs.Commands.{command_at, command_number}
use Rattle.of10_msgs.specs.Kinds.{kind_at, lengths_of, is_among}
use Rattle.of10_msgs.specs.Reading.{reading}
use Rattle.of10_msgs.specs.Senders.{reading_of_controller}
use Rattle.of10_msgs.specs.declared.command.Command.TheVariants.{DeleteStrict}
use Rattle.of10_msgs.specs.declared.fault.FormFault.TheVariants.{BadLen, BadType, BadVersion}
use Rattle.of10_msgs.specs.declared.kind.Kind.TheVariants.{FeaturesReply, FlowMod}
use Rattle.of10_msgs.specs.declared.message.Body.TheVariants as bodies

-- a frame of eight bytes, of this version and type
abbrev pub short : ℕ → ℕ → List ℕ
short version kind = version ∷ kind ∷ 0 ∷ 8 ∷ 0 ∷ 0 ∷ 0 ∷ 7 ∷ []

-- types, their lengths, and the commands of FLOW_MOD
pub record Tables : Type 0 where
  pub flow_mod : kind_at 14 ≡ Some FlowMod
  pub above : kind_at 22 ≡ None
  pub two_ports : is_among (lengths_of FeaturesReply) 128 ≡ true
  pub cut_port : is_among (lengths_of FeaturesReply) 127 ≡ false
  pub last : command_at 4 ≡ Some DeleteStrict
  pub past : command_at 5 ≡ None
  pub number : command_number DeleteStrict ≡ 4

-- the first fault: the version, the type, the length; of a controller a switch's type is a bad type before its length
pub record FirstFaults : Type 0 where
  pub barrier : reading (short 1 18) ≡ Ok (record { xid = 7; body = bodies.BarrierRequest })
  pub version : reading (short 4 18) ≡ Err (BadVersion 4)
  pub kind : reading (short 1 22) ≡ Err (BadType 22)
  pub len : reading (short 1 6) ≡ Err (BadLen 6 8)
  pub of_controller : reading_of_controller (short 1 6) ≡ Err (BadType 6)
  pub old_version : reading_of_controller (short 4 6) ≡ Err (BadVersion 4)
  pub own : reading_of_controller (short 1 18) ≡ reading (short 1 18)
