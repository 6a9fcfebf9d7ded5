-- What of a state members' entries, cookies and counts hang on, and how events change it.
use Rattle.std.proofs.Common.{◌≡◌, ◌∙◌, ℕ, ◌==◌, Bool, true, false, List, ◌++◌, map, Option, Some, None}
use Rattle.std.proofs.Common.{if◌then◌else◌, refl, sym, ap}
use Rattle.std.specs.Prelude.{flat_map, option_map, slice_get}
use Rattle.std.specs.List.{enumerate_from}
use Rattle.std.specs.Option.{option_map_or}
use Rattle.cv_io.specs.declared.leaf.Who.TheVariants.{Switch}
use Rattle.install_plan.specs.declared.written.Written.{Written}
use Rattle.member_state.specs.Changes.{expired}
use Rattle.member_state.specs.States.{MemberStateOf}
use Rattle.member_table.specs.declared.entry.Entry.{Entry}
use Rattle.of10_msgs.specs.declared.message.PhyPort.{PhyPort}
use Rattle.outbox.specs.Outboxes.{OutboxOf, is_open}
use Rattle.policy_meaning.proofs.Booleans.{some_injective, split_and}
use Rattle.stats_map.specs.Counting.{CountsOf, downed, reported}
use Rattle.switch_meaning.specs.Counts.{Numbers}
use Rattle.switch_state.specs.Known.{KnownOf}
use Rattle.switch_state.specs.Reports.{flow_removed, port_status, removal, tells_down}
use Rattle.switch_state.specs.declared.removal.Removal.TheVariants.{Taken}
use Rattle.machine_meaning.specs.Barriers.{with_known}
use Rattle.machine_meaning.specs.Glances.{is_present}
use Rattle.machine_meaning.specs.Lists.{changed_at}
use Rattle.machine_meaning.specs.Removing.{owed_for, owing, with_kept}
use Rattle.machine_meaning.specs.Rounds.{begun_switch, emptied_at, ended_switch}
use Rattle.machine_meaning.specs.Sessions.{is_up}
use Rattle.machine_meaning.specs.States.{MemberOf, State, SwitchOf}
use Rattle.events.specs.declared.event.Event.{Event}
use Rattle.events.specs.declared.event.Event.TheVariants as events
use Rattle.machine_meaning.specs.declared.state.Owed.{Owed}
use Rattle.machine_meaning.proofs.Moves.{IsMove}
use Rattle.machine_meaning.proofs.Numbered.{at_changed}
use Rattle.std.specs.BTreeMap.{is_at}
use Rattle.std.specs.BTreeSet.{insert_key}
use Rattle.std.specs.Ordering.{nat_cmp}
use Rattle.std.specs.Set.{remove_key}

-- views -------------------------------------------------------------------------------------------------------------

pub record View : Type 0 where
  pub members : List MemberOf
  pub switches : List SwitchOf
  pub standing : List (List Written)
  pub counts : CountsOf
  pub owed : List Owed
  pub next : ℕ

abbrev pub view_of : State → View
view_of s = record {
  members = s.members;
  switches = s.switches;
  standing = s.standing;
  counts = s.counts;
  owed = s.owed;
  next = s.next_cookie;
}

-- a switch's round ends, or begins
abbrev pub ended_at : ℕ → View → View
ended_at n v = record v {
  switches = changed_at n ended_switch v.switches;
  standing = emptied_at n v.standing;
  counts = downed n v.counts;
}

abbrev pub begun_at : ℕ → View → View
begun_at n v = record v {
  switches = changed_at n (begun_switch v.next) v.switches;
  standing = emptied_at n v.standing;
}

-- the removal of a cookie is taken
abbrev pub removed_at : ℕ → ℕ → Numbers → View → View
removed_at n cookie numbers v = record v {
  switches = changed_at n (with_known (flow_removed cookie)) v.switches;
  counts = reported (n, cookie) numbers true v.counts;
}

-- a member's table changes, and some entries are removed; or all that are due
abbrev pub moved_at : ℕ → ℕ → ℕ → (MemberStateOf → MemberStateOf) → List Entry → View → View
moved_at n reason now f gone v = record v {
  members = changed_at n (with_kept f) v.members;
  owed = v.owed ++ owing n reason now gone;
}

abbrev pub expired_at : ℕ → View → View
expired_at now v = record v {
  members = map (with_kept (expired now)) v.members;
  owed = v.owed ++ flat_map (owed_for now) (enumerate_from 0 v.members);
}

-- the switch of a number is down, if there is one
abbrev pub IsDownAt : ℕ → View → Type 0
IsDownAt n v = (x : SwitchOf) → slice_get v.switches n ≡ Some x → x.outbox.up ≡ false

-- what is known of cookies, and the last xid, are the same
pub record AreSame (x y : KnownOf) : Type 0 where
  pub xid : y.xid ≡ x.xid
  pub first : y.first ≡ x.first
  pub deleted : y.deleted ≡ x.deleted

-- what holds of views stays so whatever happens before switches are composed
pub record IsStable (Q : View → Type 0) : Type 0 where
  pub member :
      (n : ℕ) (f : MemberOf → MemberOf) → ((x : MemberOf) → (f x).kept ≡ x.kept) → (v : View) → Q v
      → Q (record v { members = changed_at n f v.members })
  pub ended : (n : ℕ) (v : View) → Q v → Q (ended_at n v)
  pub begun : (n : ℕ) (v : View) → IsDownAt n v → Q v → Q (begun_at n v)
  pub known :
      (n : ℕ) (f : KnownOf → KnownOf) → ((x : KnownOf) → AreSame x (f x)) → (v : View) (x : SwitchOf)
      → slice_get v.switches n ≡ Some x → x.outbox.up ≡ true → Q v
      → Q (record v { switches = changed_at n (with_known f) v.switches })
  pub removed :
      (n cookie : ℕ) (numbers : Numbers) (v : View) (x : SwitchOf) → slice_get v.switches n ≡ Some x
      → x.outbox.up ≡ true → removal x.known cookie ≡ Taken → Q v → Q (removed_at n cookie numbers v)
  pub moved :
      (n reason now : ℕ) (f : MemberStateOf → MemberStateOf) (gone : List Entry) (v : View) (x : MemberOf)
      → slice_get v.members n ≡ Some x → IsMove x.kept.table (f x.kept).table gone → Q v
      → Q (moved_at n reason now f gone v)
  pub expired : (now : ℕ) (v : View) → Q v → Q (expired_at now v)

-- who sends a message is up, in its round
abbrev pub IsHeard : State → Event → Type 0
IsHeard s (events.Msg session frame) = is_present s session ≡ true
IsHeard s e = Unit {0}

pub ended_down : (n : ℕ) (v : View) → IsDownAt n (ended_at n v)
ended_down n v x e = by (slice_get v.switches n) (sym (at_changed n ended_switch v.switches) ∙ e)
  where
    by : (o : Option SwitchOf) → option_map ended_switch o ≡ Some x → x.outbox.up ≡ false
    by None f = absurd (cc f)
    by (Some y) f = ap (λ (z : SwitchOf). z.outbox.up) (sym (some_injective f))

pub was_down : (s : State) (n : ℕ) → is_up s (Switch n) ≡ false → IsDownAt n (view_of s)
was_down s n e x at =
    sym (ap (λ (o : Option SwitchOf).
    option_map_or (λ (b : OutboxOf). b.up) (option_map (λ (y : SwitchOf). y.outbox) o) false) at) ∙ e

pub present_up : (s : State) (n round : ℕ) (x : SwitchOf)
    → is_present s (record { who = Switch n; round = round }) ≡ true
    → slice_get s.switches n ≡ Some x → x.outbox.up ≡ true
present_up s n round x h at =
    (split_and x.outbox.up (x.outbox.round == round)
    (sym (ap (λ (o : Option SwitchOf).
    option_map_or (λ (b : OutboxOf). is_open b round) (option_map (λ (y : SwitchOf). y.outbox) o) false) at) ∙ h)).0

pub status_same : (reason : ℕ) (port : PhyPort) (x : KnownOf) → AreSame x (port_status reason port x)
status_same reason port x = by (tells_down reason port)
  where
    by : (b : Bool) → AreSame x
        (if b then record x { dark = insert_key nat_cmp x.dark port.port_no }
        else record x { dark = remove_key (is_at (nat_cmp port.port_no)) x.dark })
    by true = record { xid = refl; first = refl; deleted = refl }
    by false = record { xid = refl; first = refl; deleted = refl }
