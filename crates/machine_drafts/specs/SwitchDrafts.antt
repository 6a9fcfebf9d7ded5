-- What an event makes of a switch, beside the switch as it stands.
use Rattle.std.specs.Prelude.{◌≡◌, List, [], Option, unwrap_or}
use Rattle.install_plan.specs.declared.written.Written.{Written}
use Rattle.outbox.specs.Outboxes.{turned}
use Rattle.outbox.specs.declared.outbox.Turn.{Turn}
use Rattle.switch_state.specs.Known.{KnownOf}
use Rattle.machine_meaning.specs.States.{SwitchOf}
use Rattle.machine_drafts.specs.Views.{switch_of}
use Rattle.machine_drafts.specs.declared.session.Switch.{Switch}

-- the switch as it stands, its session and what is known of it as the event leaves them so far, and the entries that
-- stand on it then
pub record SwitchDraftOf : Type 0 where
  pub base : Switch
  pub now : SwitchOf
  pub standing : List Written

-- the switch after a turn of its session, and where other things are known of it
abbrev pub switch_after : Switch → Turn → Option KnownOf → SwitchOf
switch_after x turn known = record { outbox = turned turn x.outbox; known = unwrap_or known x.known }

-- other things are known of the switch
abbrev pub with_known : KnownOf → SwitchDraftOf → SwitchDraftOf
with_known known d = record d { now = record d.now { known = known } }

-- and other entries stand on it
abbrev pub with_written : KnownOf → List Written → SwitchDraftOf → SwitchDraftOf
with_written known standing d = record (with_known known d) { standing = standing }

-- a round of the switch ends or begins: nothing stands on it
abbrev pub with_round : (SwitchOf → SwitchOf) → SwitchDraftOf → SwitchDraftOf
with_round f d = record { base = d.base; now = f d.now; standing = [] }

-- the switch stays as it is
abbrev pub standing_switch : Switch → SwitchDraftOf
standing_switch x = record { base = x; now = switch_of x; standing = x.standing }

-- it is up or down as it was, and has the entries that it had
pub record IsUnmoved (d : SwitchDraftOf) : Type 0 where
  pub up : d.now.outbox.up ≡ d.base.outbox.up
  pub standing : d.standing ≡ d.base.standing

-- what is known of a switch has the dark ports that were known before
abbrev pub IsAsDark : KnownOf → KnownOf → Type 0
IsAsDark before now = now.dark ≡ before.dark

-- it is up or down as it was, and its ports are as dark as they were
pub record IsStill (d : SwitchDraftOf) : Type 0 where
  pub up : d.now.outbox.up ≡ d.base.outbox.up
  pub dark : IsAsDark d.base.known d.now.known
