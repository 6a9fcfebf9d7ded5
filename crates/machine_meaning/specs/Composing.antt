-- Each switch that is up is written the change from the entries that stand to those that the setting gives.
use Rattle.std.specs.Prelude.{ℕ, List, [], ◌++◌, Option, Some, None, fold, if◌then◌else◌, map, slice_get}
use Rattle.agreement.specs.Entries.{entries_of}
use Rattle.agreement.specs.declared.state.Setting.{Setting}
use Rattle.install_plan.specs.declared.written.Batch.{Batch}
use Rattle.policies.specs.Policies.{PolicyOf}
use Rattle.switch_meaning.specs.Keys.{installed}
use Rattle.switch_meaning.specs.declared.entry.PhysEntry.{PhysEntry}
use Rattle.switch_state.specs.Messages.{switch_messages}
use Rattle.switch_state.specs.Sending.{Sending, send_all}
use Rattle.machine_meaning.specs.Batches.{batch_between, counts_after, next_after, standing_after}
use Rattle.machine_meaning.specs.Drafts.{Draft, letter}
use Rattle.machine_meaning.specs.Lists.{changed_at, places}
use Rattle.machine_meaning.specs.Sessions.{is_switch, standing_of}
use Rattle.machine_meaning.specs.Settings.{setting_of}
use Rattle.machine_meaning.specs.States.{SwitchOf}

-- a switch that was sent messages
abbrev pub sent_to : Sending → SwitchOf → SwitchOf
sent_to sent x = record x { known = sent.known }

-- a batch is written to a switch: its session is sent the messages, its entries stand, and their cookies are counted
abbrev pub written : ℕ → List PhysEntry → Batch → Sending → Draft → Draft
written n wanted b sent d = record d {
  state = record d.state {
    switches = changed_at n (sent_to sent) d.state.switches;
    standing = changed_at n (λ old. standing_after d.state.next_cookie old wanted) d.state.standing;
    counts = counts_after n b.adds d.state.counts;
    next_cookie = next_after d.state.next_cookie b.adds;
  };
  batches = d.batches ++ map (letter n) sent.messages;
}

-- where its round begins it is configured and emptied before
abbrev pub write : ℕ → SwitchOf → List PhysEntry → Batch → Draft → Draft
write n x wanted b d =
    written n wanted b
    (send_all (switch_messages (is_switch n d.begun) b) (record { known = x.known; messages = [] })) d

-- a switch that is up gets the entries that are wanted of it
abbrev pub compose_on : ℕ → Option SwitchOf → List PhysEntry → Draft → Draft
compose_on n None wanted d = d
compose_on n (Some x) wanted d =
    if x.outbox.up then write n x wanted (batch_between d.state.next_cookie (standing_of d.state n) wanted) d else d

abbrev pub compose_at : Setting → Draft → ℕ → Draft
compose_at s d n = compose_on n (slice_get d.state.switches n) (installed (entries_of s n)) d

-- switches in the order of the file
abbrev pub compose_all : Setting → Draft → Draft
compose_all s d = fold (compose_at s) d (places d.state.switches)

abbrev pub compose : PolicyOf → Draft → Draft
compose p d = compose_all (setting_of p d.state) d
