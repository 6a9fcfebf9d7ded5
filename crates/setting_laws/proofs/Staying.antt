-- What changes no expression and no member's table leaves what is kept of a setting as it is.
use Rattle.std.proofs.Common.{◌≡◌, ◌∙◌, ℕ, ◌+◌, Bool, true, false, List, [], ◌∷◌, map, Option, Some, None, refl, sym}
use Rattle.std.proofs.Common.{ap}
use Rattle.std.proofs.Common.{ap₂, fold, if◌then◌else◌, length, nat_lt, slice_get, subst}
use Rattle.std.specs.Prelude.{zip}
use Rattle.std.specs.List.{enumerate_from}
use Rattle.agreement.specs.Entries.{entries_of}
use Rattle.agreement.specs.declared.state.Setting.{Setting}
use Rattle.composed_tables.specs.Composing.{IsOf}
use Rattle.cv_io.specs.declared.leaf.Who.{Who}
use Rattle.cv_io.specs.declared.leaf.Who.TheVariants.{Audit, Member, Switch}
use Rattle.member_state.specs.Leaves.{leaf_of}
use Rattle.member_state.specs.States.{MemberStateOf}
use Rattle.outbox.specs.Outboxes.{taken}
use Rattle.policy_expr.specs.Policy.{Policy}
use Rattle.policies.specs.Policies.{PolicyOf}
use Rattle.policies.specs.declared.policy.MemberItem.{MemberItem}
use Rattle.policy_meaning.specs.declared.leaf.LeafTable.{LeafTable}
use Rattle.policy_setting.specs.OfPolicies as of_policies
use Rattle.switch_meaning.specs.Keys.{installed}
use Rattle.switch_meaning.specs.declared.entry.PhysEntry.{PhysEntry}
use Rattle.switch_state.specs.Messages.{packet_out}
use Rattle.machine_meaning.specs.Batches.{batch_between}
use Rattle.machine_meaning.specs.Composing.{compose, compose_at, compose_on, write}
use Rattle.machine_meaning.specs.Drafts.{Draft}
use Rattle.machine_meaning.specs.Lists.{places}
use Rattle.machine_meaning.specs.Phases.{draft_of, settled_of}
use Rattle.machine_meaning.specs.Putting.{put, put_to_member}
use Rattle.machine_meaning.specs.Requests.{dispatch, dispatched, dispatched_if_up, poll, poll_at, polled, polled_if_up}
use Rattle.machine_meaning.specs.Requests.{request_all}
use Rattle.machine_meaning.specs.Sessions.{standing_of}
use Rattle.machine_meaning.specs.Settings.{setting_of, setting_with, table_of, ups_with}
use Rattle.machine_meaning.specs.States.{MemberOf, State, SwitchOf}
use Rattle.machine_meaning.specs.Takings.{left_by}
use Rattle.machine_meaning.specs.Telling.{tell}
use Rattle.machine_meaning.specs.Ways.{switches_of}
use Rattle.machine_meaning.specs.declared.said.Asked.{Asked}
use Rattle.machine_meaning.specs.declared.said.Sent.{Sent}
use Rattle.machine_meaning.proofs.Composed.{fold_holds}
use Rattle.machine_meaning.proofs.Numbered.{changed_unseen}
use Rattle.setting_laws.specs.Staying.{LeavesAreOfTables, PhasesKeepTables, SettingsStay, StepsKeepTables, TablesStay}
use Rattle.setting_laws.specs.Staying.{TakingsKeepTables, kept_of}
use Rattle.setting_laws.proofs.Ups.{of_alike}

-- settings ----------------------------------------------------------------------------------------------------------

-- tables of members that keep the same
same_tables : (k : ℕ) (items : List MemberItem) (xs ys : List MemberOf) → map kept_of xs ≡ map kept_of ys
    → map table_of (enumerate_from k (zip items xs)) ≡ map table_of (enumerate_from k (zip items ys))
same_tables k [] xs ys e = refl
same_tables k (m ∷ ms) [] [] e = refl
same_tables k (m ∷ ms) [] (y ∷ ys) e = absurd (cc)
same_tables k (m ∷ ms) (x ∷ xs) [] e = absurd (cc)
same_tables k (m ∷ ms) (x ∷ xs) (y ∷ ys) e =
    let first : kept_of x ≡ kept_of y = cc in
    let rest : map kept_of xs ≡ map kept_of ys = cc in
    ap₂ (λ (z : MemberStateOf) (ts : List LeafTable). leaf_of k m.grant z ∷ ts) first
    (same_tables (k + 1) ms xs ys rest)

pub leaves_stay : LeavesAreOfTables
leaves_stay p s t h = record { exprs = h.exprs; leaves = same_tables 0 p.members t.members s.members h.kept }

pub settings_stay : SettingsStay
settings_stay p s t k c h =
    subst (λ (tables : List LeafTable). IsOf (of_policies.setting_of p t.exprs tables (ups_with t.switches)) c)
    (sym k.leaves)
    (subst (λ (exprs : List Policy). IsOf (setting_with p exprs s.members t.switches) c) (sym k.exprs)
    (of_alike p s.exprs s.members s.switches t.switches c h))

then_stay : (s t u : State) → TablesStay s t → TablesStay t u → TablesStay s u
then_stay s t u h k = record { exprs = k.exprs ∙ h.exprs; kept = k.kept ∙ h.kept }

-- phases ------------------------------------------------------------------------------------------------------------

module _ (p : PolicyOf) (s : State) where
  abbrev Stays : Draft → Type 0
  Stays d = TablesStay s d.state

  composed_at : (setting : Setting) (d : Draft) (k : ℕ) → Stays d → Stays (compose_at setting d k)
  composed_at setting d k h = by (slice_get d.state.switches k)
    where
      wanted : List PhysEntry
      wanted = installed (entries_of setting k)

      by : (o : Option SwitchOf) → Stays (compose_on k o wanted d)
      by None = h
      by (Some x) = up x.outbox.up
        where
          up : (u : Bool) → Stays
              (if u then write k x wanted (batch_between d.state.next_cookie (standing_of d.state k) wanted) d else d)
          up true = record { exprs = h.exprs; kept = h.kept }
          up false = h

  composed_stays : (d : Draft) → Stays d → Stays (compose p d)
  composed_stays d h =
      fold_holds (compose_at (setting_of p d.state)) Stays (λ e k t. composed_at (setting_of p d.state) e k t)
      (places d.state.switches) d h

  poll_stays : (a : Asked) (d : Draft) (n : ℕ) → Stays d → Stays (poll_at a d n)
  poll_stays a d n h = by (slice_get d.state.switches n)
    where
      by : (o : Option SwitchOf) → Stays (polled_if_up n o a d)
      by None = h
      by (Some x) = up x.outbox.up
        where
          up : (u : Bool) → Stays (if u then polled n x a d else d)
          up true = record { exprs = h.exprs; kept = h.kept }
          up false = h

  polls_stay : (d : Draft) (a : Asked) → Stays d → Stays (poll p d a)
  polls_stay d a h = by (nat_lt a.v (length p.virtuals))
    where
      by : (b : Bool) → Stays (if b then fold (poll_at a) d (switches_of p a.v) else d)
      by true = fold_holds (poll_at a) Stays (λ e n k. poll_stays a e n k) (switches_of p a.v) d h
      by false = h

  dispatch_stays : (d : Draft) (o : Sent) → Stays d → Stays (dispatch d o)
  dispatch_stays d o h = by (slice_get d.state.switches o.switch)
    where
      by : (x : Option SwitchOf) → Stays (dispatched_if_up x o d)
      by None = h
      by (Some x) = up x.outbox.up
        where
          up : (u : Bool) → Stays (if u then dispatched o.switch x (packet_out o.port o.bytes) d else d)
          up true = record { exprs = h.exprs; kept = h.kept }
          up false = h

  requested_stays : (d : Draft) → Stays d → Stays (request_all p d)
  requested_stays d h =
      fold_holds dispatch Stays dispatch_stays d.sent (fold (poll p) d d.asked)
      (fold_holds (poll p) Stays polls_stay d.asked d h)

  told_stays : (before : State) (d : Draft) → Stays d → Stays (tell p before d)
  told_stays before d h = let r = requested_stays d h in record { exprs = r.exprs; kept = r.kept }

put_kept : (d : Draft) (k : ℕ) (xs : List MemberOf)
    → map kept_of (map (put_to_member d) (enumerate_from k xs)) ≡ map kept_of xs
put_kept d k [] = refl
put_kept d k (x ∷ xs) = ap (λ (ys : List MemberStateOf). kept_of x ∷ ys) (put_kept d (k + 1) xs)

put_stays : (p : PolicyOf) (d : Draft) → TablesStay d.state (put p d)
put_stays p d = record { exprs = refl; kept = put_kept d 0 d.state.members }

same : (s : State) → TablesStay s s
same s = record { exprs = refl; kept = refl }

pub phases_stay : PhasesKeepTables
phases_stay p before d = record {
  composed = composed_stays p d.state d (same d.state);
  told = told_stays p d.state before d (same d.state);
  put = put_stays p d;
}

pub steps_stay : StepsKeepTables
steps_stay p s e c =
    let settled = settled_of p s e c in
    let final = draft_of p s e c in
    then_stay settled.state final.state (put p final)
    (told_stays p settled.state s (compose p settled)
    (composed_stays p settled.state settled (same settled.state)))
    (put_stays p final)

-- takings -----------------------------------------------------------------------------------------------------------

left_stays : (who : Who) (round : ℕ) (s : State) → TablesStay s (left_by who round s)
left_stays (Member n) round s = record {
  exprs = refl;
  kept = changed_unseen kept_of (λ (x : MemberOf). record x { outbox = taken x.outbox round }) (λ x. refl) n s.members;
}
left_stays (Switch n) round s = record { exprs = refl; kept = refl }
left_stays Audit round s = record { exprs = refl; kept = refl }

pub takings_stay : TakingsKeepTables
takings_stay session s = left_stays session.who session.round s
