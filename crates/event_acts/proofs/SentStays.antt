-- Packets leave for members' messages alone: whatever else an event does, and each phase after it, adds none.
use Rattle.std.proofs.Common.{◌≡◌, ◌∙◌, ℕ, Bool, true, false, List, [], ◌∷◌, Option, Some, None, Result, Ok, Err}
use Rattle.std.proofs.Common.{filter, refl}
use Rattle.std.specs.Prelude.{fold, if◌then◌else◌, slice_get}
use Rattle.agreement.specs.Entries.{entries_of}
use Rattle.agreement.specs.declared.state.Setting.{Setting}
use Rattle.cv_io.specs.declared.leaf.Who.{Who}
use Rattle.cv_io.specs.declared.leaf.Who.TheVariants.{Audit, Member, Switch}
use Rattle.of10_msgs.specs.Reading.{reading}
use Rattle.of10_msgs.specs.declared.fault.FormFault.{FormFault}
use Rattle.of10_msgs.specs.declared.message.Body.{Body}
use Rattle.of10_msgs.specs.declared.message.Body.TheVariants as bodies
use Rattle.of10_msgs.specs.declared.message.Message.{Message}
use Rattle.of10_stats.specs.Reading.{reply_in}
use Rattle.of10_stats.specs.declared.fault.StatsFault.{StatsFault}
use Rattle.of10_stats.specs.declared.reply.StatsReply.{StatsReply}
use Rattle.policy_expr.specs.Policy.{Policy}
use Rattle.policy_expr.specs.Reading.{reading as reading_of_expression}
use Rattle.policy_expr.specs.declared.fault.ExprFault.{ExprFault}
use Rattle.policies.specs.Exprs.{names}
use Rattle.policies.specs.Policies.{PolicyOf, plan}
use Rattle.policies.specs.Widths.{too_wide_in}
use Rattle.script_text.specs.declared.audit.DownCause.TheVariants as causes
use Rattle.switch_meaning.specs.Counts.{Numbers}
use Rattle.switch_meaning.specs.Keys.{installed}
use Rattle.switch_meaning.specs.declared.entry.PhysEntry.{PhysEntry}
use Rattle.switch_state.specs.Reports.{answered_number, removal}
use Rattle.switch_state.specs.declared.removal.Removal.{Removal}
use Rattle.switch_state.specs.declared.removal.Removal.TheVariants.{Ignored, Strange, Taken}
use Rattle.virtual_topology.specs.Rows.{Spot}
use Rattle.virtual_topology.specs.Wires.{entering_of}
use Rattle.waitings.specs.Waitings.{is_done}
use Rattle.waitings.specs.declared.state.Doubt.{Doubt}
use Rattle.waitings.specs.declared.state.Purpose.{Purpose}
use Rattle.waitings.specs.declared.state.Purpose.TheVariants as purposes
use Rattle.events.specs.declared.event.PolicyRefusal.{PolicyRefusal}
use Rattle.machine_meaning.specs.Barriers.{barrier_answered}
use Rattle.machine_meaning.specs.Batches.{batch_between}
use Rattle.machine_meaning.specs.Coming.{comes_up, goes, noting}
use Rattle.machine_meaning.specs.Composing.{compose, compose_at, compose_on, write}
use Rattle.machine_meaning.specs.Drafts.{Draft}
use Rattle.machine_meaning.specs.Lists.{places}
use Rattle.machine_meaning.specs.Packets.{comes_by}
use Rattle.machine_meaning.specs.Removals.{removed_by}
use Rattle.machine_meaning.specs.Removing.{without_expired}
use Rattle.machine_meaning.specs.Replacing.{exprs_with, replace_by, replace_unless, replaces, width_refusal}
use Rattle.machine_meaning.specs.Rounds.{Closing, begin_member, begin_switch, close, close_member, close_switch}
use Rattle.machine_meaning.specs.Rounds.{end_member, end_switch}
use Rattle.machine_meaning.specs.Sessions.{is_up, standing_of}
use Rattle.machine_meaning.specs.Settings.{setting_of}
use Rattle.machine_meaning.specs.Settling.{settle, settle_for, settle_one, with_undone}
use Rattle.machine_meaning.specs.States.{SwitchOf}
use Rattle.machine_meaning.specs.SwitchMessages.{hears, hears_from, hears_read, hears_switch, is_ignored}
use Rattle.machine_meaning.specs.SwitchMessages.{statistics_told}
use Rattle.machine_meaning.specs.Ticking.{doubt_at, doubts_at, poll_for, ticks}
use Rattle.machine_meaning.proofs.Composed.{fold_holds}

-- a phase adds no packet that leaves
abbrev Stays : Draft → Draft → Type 0
Stays d e = e.sent ≡ d.sent

fold_stays : {X : Type 0} (f : Draft → X → Draft) → ((d : Draft) (x : X) → Stays d (f d x)) → (xs : List X) (d : Draft)
    → Stays d (fold f d xs)
fold_stays f h xs d = fold_holds f (Stays d) (λ e x k. h e x ∙ k) xs d refl

-- sessions ----------------------------------------------------------------------------------------------------------

pub up_stays : (p : PolicyOf) (who : Who) (arp : Bool) (d : Draft) → (comes_up p who arp d).sent ≡ d.sent
up_stays p (Member n) arp d = by (is_up d.state (Member n))
  where
    by : (u : Bool) → Stays d (begin_member n (if u then end_member n d else d))
    by true = refl
    by false = refl
up_stays p (Switch n) arp d = by arp (is_up d.state (Switch n))
  where
    by : (b u : Bool) → Stays d (noting p n b (begin_switch n (if u then end_switch n causes.Again d else d)))
    by true true = refl
    by true false = refl
    by false true = refl
    by false false = refl
up_stays p Audit arp d = refl

pub gone_stays : (who : Who) (d : Draft) → (goes who d).sent ≡ d.sent
gone_stays (Member n) d = refl
gone_stays (Switch n) d = refl
gone_stays Audit d = refl

-- switches' messages ------------------------------------------------------------------------------------------------

comes_stays : (p : PolicyOf) (total : ℕ) (bytes : List ℕ) (o : Option Spot) (d : Draft)
    → Stays d (comes_by p total bytes o d)
comes_stays p total bytes None d = refl
comes_stays p total bytes (Some (v, port)) d = refl

answered_stays : (n xid : ℕ) (o : Option ℕ) (d : Draft) → Stays d (barrier_answered n xid o d)
answered_stays n xid None d = refl
answered_stays n xid (Some number) d = refl

told_stays : (p : PolicyOf) (n xid : ℕ) (r : Result StatsReply StatsFault) (d : Draft)
    → Stays d (statistics_told p n xid r d)
told_stays p n xid (Ok reply) d = refl
told_stays p n xid (Err fault) d = refl

removed_stays : (n : ℕ) (r : Removal) (cookie : ℕ) (numbers : Numbers) (d : Draft)
    → Stays d (removed_by n r cookie numbers d)
removed_stays n Ignored cookie numbers d = refl
removed_stays n Taken cookie numbers d = refl
removed_stays n Strange cookie numbers d = refl

hears_stays : (p : PolicyOf) (n : ℕ) (x : SwitchOf) (xid : ℕ) (body : Body) (d : Draft)
    → Stays d (hears p n x xid body d)
hears_stays p n x xid (bodies.PacketIn buffer total port reason bytes) d =
    comes_stays p total bytes (entering_of (plan p) n port) d
hears_stays p n x xid (bodies.FlowRemoved a cookie priority reason sec nsec idle packets bytes) d =
    removed_stays n (removal x.known cookie) cookie (record { packets = packets; bytes = bytes }) d
hears_stays p n x xid (bodies.StatsReply body) d = told_stays p n xid (reply_in body) d
hears_stays p n x xid bodies.BarrierReply d = answered_stays n xid (answered_number xid x.known) d
hears_stays p n x xid body d = refl

read_stays : (p : PolicyOf) (n : ℕ) (x : SwitchOf) (r : Result Message FormFault) (d : Draft)
    → Stays d (hears_read p n x r d)
read_stays p n x (Ok m) d = hears_stays p n x m.xid m.body d
read_stays p n x (Err fault) d = refl

from_stays : (p : PolicyOf) (n : ℕ) (o : Option SwitchOf) (frame : List ℕ) (d : Draft)
    → Stays d (hears_from p n o frame d)
from_stays p n None frame d = refl
from_stays p n (Some x) frame d = by (is_ignored frame)
  where
    by : (b : Bool) → Stays d (if b then d else hears_read p n x (reading frame) d)
    by true = refl
    by false = read_stays p n x (reading frame) d

pub switch_stays : (p : PolicyOf) (n : ℕ) (frame : List ℕ) (d : Draft) → (hears_switch p n frame d).sent ≡ d.sent
switch_stays p n frame d = from_stays p n (slice_get d.state.switches n) frame d

-- ticks and expressions ---------------------------------------------------------------------------------------------

poll_stays : (p : PolicyOf) (v : ℕ) (doubts : List Doubt) (d : Draft) → Stays d (poll_for p v doubts d)
poll_stays p v [] d = refl
poll_stays p v (doubt ∷ doubts) d = refl

pub tick_stays : (p : PolicyOf) (now : ℕ) (d : Draft) → (ticks p now d).sent ≡ d.sent
tick_stays p now d =
    fold_stays (doubt_at p) (λ e v. poll_stays p v (doubts_at p e.state v) e) (places p.virtuals)
    (record d { state = without_expired (record d.state { moment = now }) })

unless_stays : (p : PolicyOf) (v : ℕ) (e : Policy) (o : Option PolicyRefusal) (d : Draft)
    → Stays d (replace_unless o p v e d)
unless_stays p v e (Some refusal) d = refl
unless_stays p v e None d = refl

by_stays : (p : PolicyOf) (v : ℕ) (r : Result Policy ExprFault) (d : Draft) → Stays d (replace_by p v r d)
by_stays p v (Ok e) d =
    unless_stays p v e (width_refusal (too_wide_in (plan p) p.members (exprs_with v e d.state.exprs) p.hops)) d
by_stays p v (Err fault) d = refl

pub replace_stays : (p : PolicyOf) (v : ℕ) (text : List ℕ) (d : Draft) → (replaces p v text d).sent ≡ d.sent
replace_stays p v text d = by_stays p v (reading_of_expression (names p.members v) text) d

-- the phases after the event's own work -----------------------------------------------------------------------------

pub close_stays : (c : Closing) (d : Draft) → (close c d).sent ≡ d.sent
close_stays c d =
    fold_stays close_member (λ e n. refl) c.members (fold close_switch d c.switches)
    ∙ fold_stays close_switch (λ e n. refl) c.switches d

purpose_stays : (p : PolicyOf) (purpose : Purpose) (d : Draft) → Stays d (settle_for p purpose d)
purpose_stays p (purposes.Flow asker f) d = refl
purpose_stays p (purposes.Aggregate asker f) d = refl
purpose_stays p (purposes.Port asker port_no told) d = refl
purpose_stays p (purposes.Idle doubts) d = refl
purpose_stays p (purposes.Barrier asker) d = refl

pub settle_stays : (p : PolicyOf) (d : Draft) → (settle p d).sent ≡ d.sent
settle_stays p d =
    fold_stays (settle_one p) (λ e w. purpose_stays p w.purpose e) (filter is_done d.state.waiting) (with_undone d)

on_stays : (n : ℕ) (o : Option SwitchOf) (wanted : List PhysEntry) (d : Draft) → Stays d (compose_on n o wanted d)
on_stays n None wanted d = refl
on_stays n (Some x) wanted d = by x.outbox.up
  where
    by : (u : Bool) → Stays d
        (if u then write n x wanted (batch_between d.state.next_cookie (standing_of d.state n) wanted) d else d)
    by true = refl
    by false = refl

pub compose_stays : (p : PolicyOf) (d : Draft) → (compose p d).sent ≡ d.sent
compose_stays p d = all_stay (setting_of p d.state)
  where
    all_stay : (s : Setting) → Stays d (fold (compose_at s) d (places d.state.switches))
    all_stay s =
        fold_stays (compose_at s) (λ e n. on_stays n (slice_get e.state.switches n) (installed (entries_of s n)) e)
        (places d.state.switches) d
