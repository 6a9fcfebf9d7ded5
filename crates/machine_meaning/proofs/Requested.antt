-- What is told after composing: polls and packets go to switches, and nothing that changes their tables.
use Rattle.std.proofs.Common.{◌≡◌, ◌∙◌, ℕ, ◌+◌, Bool, true, false, List, [], ◌∷◌, map, Option, Some, None, refl, ap}
use Rattle.std.proofs.Common.{ap₂}
use Rattle.std.specs.Prelude.{fold, if◌then◌else◌, length, nat_lt, slice_get}
use Rattle.std.specs.List.{AllByRecursion, enumerate_from}
use Rattle.cv_io.specs.declared.leaf.Who.{Who}
use Rattle.install_plan.specs.declared.written.Written.{Written}
use Rattle.of10_msgs.specs.declared.message.Body.{Body}
use Rattle.of10_stats.specs.Spelling.{request_bytes}
use Rattle.of10_stats.specs.declared.request.StatsRequest.TheVariants.{Flow, Port}
use Rattle.of10_match.specs.Matching.{everything}
use Rattle.of10_match.specs.Wildcards.{match_bytes}
use Rattle.of10_actions.specs.declared.action.Action.TheVariants.{Output}
use Rattle.outbox.specs.Outboxes.{OutboxOf, with_more}
use Rattle.policy_expr.specs.Policy.{Policy}
use Rattle.policies.specs.Policies.{PolicyOf}
use Rattle.policy_setting.specs.OfPolicies as of_policies
use Rattle.switch_state.specs.Messages.{flow_request, packet_out, port_request}
use Rattle.switch_state.specs.Sending.{next_xid}
use Rattle.machine_meaning.specs.Composing.{sent_to}
use Rattle.machine_meaning.specs.Drafts.{Draft, letter, message}
use Rattle.machine_meaning.specs.Lists.{changed_at}
use Rattle.machine_meaning.specs.Putting.{for_switch, put, put_to, put_to_member, put_to_switch}
use Rattle.machine_meaning.specs.Requests.{dispatch, dispatched, dispatched_if_up, poll, poll_at, polled, polled_if_up}
use Rattle.machine_meaning.specs.Requests.{request}
use Rattle.machine_meaning.specs.Requests.{request_all, sent_one}
use Rattle.machine_meaning.specs.Settings.{setting_of, tables_with, ups_with}
use Rattle.machine_meaning.specs.States.{MemberOf, State, SwitchOf}
use Rattle.machine_meaning.specs.Telling.{tell}
use Rattle.machine_meaning.specs.Ways.{switches_of}
use Rattle.machine_meaning.specs.declared.said.Asked.{Asked}
use Rattle.machine_meaning.specs.declared.said.Letter.{Letter}
use Rattle.machine_meaning.specs.declared.said.Sent.{Sent}
use Rattle.machine_meaning.proofs.Composed.{fold_holds}
use Rattle.machine_meaning.proofs.Numbered.{changed_unseen}
use Rattle.machine_meaning.proofs.Quiet.{kept_of, same_tables}
use Rattle.machine_meaning.proofs.QuietMessages.{IsQuietLetter, IsQuietMessage, both_quiet, request_quiet, sent_quiet}

-- what telling leaves as it is
pub record Kept : Type 0 where
  pub exprs : List Policy
  pub members : List MemberOf
  pub ups : List Bool
  pub begun : Option Who
  pub standing : List (List Written)
  pub batches : List Letter
  pub echoes : List Letter

abbrev pub kept_in : Draft → Kept
kept_in d = record {
  exprs = d.state.exprs;
  members = d.state.members;
  ups = ups_with d.state.switches;
  begun = d.begun;
  standing = d.state.standing;
  batches = d.batches;
  echoes = d.echoes;
}

-- and of polls and packets nothing changes tables
pub record IsTold (v : Kept) (d : Draft) : Type 0 where
  pub kept : kept_in d ≡ v
  pub polls : AllByRecursion IsQuietLetter d.polls
  pub packets : AllByRecursion IsQuietLetter d.packets

requested : (xid : ℕ) (ports : Bool) → IsQuietMessage (message xid (if ports then port_request else flow_request))
requested xid true = request_quiet xid (request_bytes (Port 0xffff))
requested xid false = request_quiet xid (request_bytes (Flow (match_bytes everything) 0xff 0xffff))

left_packet : (xid port : ℕ) (bytes : List ℕ) → IsQuietMessage (message xid (packet_out port bytes))
left_packet xid port bytes =
    sent_quiet xid (record { buffer_id = 0xffffffff; in_port = 0xffff; actions = Output port 0 ∷ []; bytes = bytes })

-- a switch that is sent one message
up_still : (n : ℕ) (x : SwitchOf) (body : Body) (d : Draft)
    → map (λ (y : SwitchOf). y.outbox.up) (changed_at n (sent_to (sent_one x body)) d.state.switches)
    ≡ ups_with d.state.switches
up_still n x body d =
    changed_unseen (λ (y : SwitchOf). y.outbox.up) (sent_to (sent_one x body)) (λ y. refl) n d.state.switches

module _ (v : Kept) where
  poll_told : (a : Asked) (d : Draft) (n : ℕ) → IsTold v d → IsTold v (poll_at a d n)
  poll_told a d n h = by (slice_get d.state.switches n)
    where
      by : (o : Option SwitchOf) → IsTold v (polled_if_up n o a d)
      by None = h
      by (Some x) = up x.outbox.up
        where
          up : (u : Bool) → IsTold v (if u then polled n x a d else d)
          up true = record {
            kept =
                ap (λ (ups : List Bool). record (kept_in d) { ups = ups }) (up_still n x (request a) d) ∙ h.kept;
            polls =
                both_quiet d.polls (letter n (message (next_xid x.known.xid) (request a)) ∷ []) h.polls
                (requested (next_xid x.known.xid) a.ports, tt);
            packets = h.packets;
          }
          up false = h

  dispatch_told : (d : Draft) (a : Sent) → IsTold v d → IsTold v (dispatch d a)
  dispatch_told d a h = by (slice_get d.state.switches a.switch)
    where
      by : (o : Option SwitchOf) → IsTold v (dispatched_if_up o a d)
      by None = h
      by (Some x) = up x.outbox.up
        where
          up : (u : Bool) → IsTold v (if u then dispatched a.switch x (packet_out a.port a.bytes) d else d)
          up true = record {
            kept =
                ap (λ (ups : List Bool). record (kept_in d) { ups = ups })
                (up_still a.switch x (packet_out a.port a.bytes) d) ∙ h.kept;
            polls = h.polls;
            packets =
                both_quiet d.packets
                (letter a.switch (message (next_xid x.known.xid) (packet_out a.port a.bytes)) ∷ []) h.packets
                (left_packet (next_xid x.known.xid) a.port a.bytes, tt);
          }
          up false = h

  polls_told : (p : PolicyOf) (d : Draft) (a : Asked) → IsTold v d → IsTold v (poll p d a)
  polls_told p d a h = by (nat_lt a.v (length p.virtuals))
    where
      by : (b : Bool) → IsTold v (if b then fold (poll_at a) d (switches_of p a.v) else d)
      by true = fold_holds (poll_at a) (IsTold v) (λ f n. poll_told a f n) (switches_of p a.v) d h
      by false = h

  all_requested : (p : PolicyOf) (d : Draft) → IsTold v d → IsTold v (request_all p d)
  all_requested p d h =
      fold_holds dispatch (IsTold v) dispatch_told d.sent (fold (poll p) d d.asked)
      (fold_holds (poll p) (IsTold v) (polls_told p) d.asked d h)

  pub all_told : (p : PolicyOf) (before : State) (d : Draft) → IsTold v d → IsTold v (tell p before d)
  all_told p before d h =
      let r = all_requested p d h in record { kept = r.kept; polls = r.polls; packets = r.packets }

-- putting -----------------------------------------------------------------------------------------------------------

pub put_up : (ms : List (List ℕ)) (o : OutboxOf) → (put_to ms o).up ≡ o.up
put_up ms o = by o.up
  where
    by : (u : Bool) → (if u then with_more ms o else o).up ≡ o.up
    by true = refl
    by false = refl

ups_put : (d : Draft) (k : ℕ) (xs : List SwitchOf)
    → map (λ (x : SwitchOf). x.outbox.up) (map (put_to_switch d) (enumerate_from k xs))
    ≡ map (λ (x : SwitchOf). x.outbox.up) xs
ups_put d k [] = refl
ups_put d k (x ∷ xs) =
    ap₂ (λ (u : Bool) (us : List Bool). u ∷ us) (put_up (for_switch d k) x.outbox) (ups_put d (k + 1) xs)

members_put : (d : Draft) (k : ℕ) (xs : List MemberOf)
    → map kept_of (map (put_to_member d) (enumerate_from k xs)) ≡ map kept_of xs
members_put d k [] = refl
members_put d k (x ∷ xs) = ap (λ ys. kept_of x ∷ ys) (members_put d (k + 1) xs)

pub same_ups : (p : PolicyOf) (d : Draft) → ups_with (put p d).switches ≡ ups_with d.state.switches
same_ups p d = ups_put d 0 d.state.switches

-- a setting hangs on expressions, tables and which switches are up
pub put_setting : (p : PolicyOf) (d : Draft) (s : State) → d.state.exprs ≡ s.exprs → d.state.members ≡ s.members
    → ups_with d.state.switches ≡ ups_with s.switches → setting_of p (put p d) ≡ setting_of p s
put_setting p d s exprs members ups =
    let tables : tables_with p.members (put p d).members ≡ tables_with p.members s.members =
    same_tables 0 p.members (put p d).members s.members
    (members_put d 0 d.state.members ∙ ap (map kept_of) members) in
    let all = same_ups p d ∙ ups in
    λ i. of_policies.setting_of p (exprs i) (tables i) (all i)
