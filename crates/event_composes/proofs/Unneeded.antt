-- Where nothing that composition reads changed, composing changes nothing.
use Rattle.std.proofs.Common.{◌≡◌, ◌∙◌, ℕ, Bool, true, false, List, [], ◌∷◌, map, Option, Some, None, refl, sym}
use Rattle.std.proofs.Common.{ap, ap₂}
use Rattle.std.specs.Prelude.{if◌then◌else◌, option_map, slice_get, unwrap_or}
use Rattle.std.specs.List.{AllByRecursion}
use Rattle.std.proofs.lemmas.Option.{slice_get-map}
use Rattle.agreement.specs.Entries.{entries_of}
use Rattle.agreement.specs.declared.state.Setting.{Setting}
use Rattle.install_plan.specs.declared.written.Batch.{Batch}
use Rattle.install_plan.specs.declared.written.Written.{Written}
use Rattle.member_state.specs.States.{MemberStateOf}
use Rattle.policies.specs.Policies.{PolicyOf}
use Rattle.policy_setting.specs.OfPolicies as of_policies
use Rattle.switch_meaning.specs.Keys.{installed}
use Rattle.switch_meaning.specs.declared.entry.PhysEntry.{PhysEntry}
use Rattle.switch_state.specs.Messages.{switch_messages}
use Rattle.switch_state.specs.Sending.{send_all}
use Rattle.machine_meaning.specs.Batches.{batch_between, standing_after}
use Rattle.machine_meaning.specs.Composing.{compose, compose_at, compose_on, sent_to, write, written}
use Rattle.machine_meaning.specs.Drafts.{Draft}
use Rattle.machine_meaning.specs.Lists.{changed_at, places}
use Rattle.machine_meaning.specs.Sessions.{is_switch, standing_of}
use Rattle.machine_meaning.specs.Settings.{setting_of, setting_with, tables_with, ups_with}
use Rattle.machine_meaning.specs.States.{State, SwitchOf}
use Rattle.machine_meaning.proofs.Numbered.{changed_same, fold_still}
use Rattle.machine_meaning.proofs.Places.{made_of}
use Rattle.machine_meaning.proofs.Quiet.{kept_of, same_tables}
use Rattle.machine_meaning.proofs.Unchanged.{nothing_after}
use Rattle.machine_drafts.specs.MemberDrafts.{IsUnplanned, MemberDraftOf}
use Rattle.machine_drafts.specs.Outcomes.{bases, draft_in, member_bases, members_in, standing_in, switch_bases}
use Rattle.machine_drafts.specs.Outcomes.{switches_in}
use Rattle.event_composes.specs.Settled.{AreSettled, IsSettled, IsSettledState, IsUnchanged, WasSettled}
use Rattle.machine_drafts.specs.SwitchDrafts.{IsUnmoved, SwitchDraftOf}
use Rattle.machine_drafts.specs.Views.{member_of, standing_of as stands_on, switch_of}
use Rattle.machine_drafts.specs.declared.outcome.Outcome.{Outcome}
use Rattle.event_composes.proofs.StaysSettled.{settled_same}

-- composing what is settled -----------------------------------------------------------------------------------------

-- something stands on the switch of a number, if it is nothing
pub record Stood (s : State) (n : ℕ) : Type 0 where
  pub standing : List Written
  pub at : slice_get s.standing n ≡ Some standing

known_stays : (n : ℕ) (x : SwitchOf) (d : Draft) → slice_get d.state.switches n ≡ Some x
    → changed_at n (sent_to (record { known = x.known; messages = [] })) d.state.switches ≡ d.state.switches
known_stays n x d e =
    changed_same n (sent_to (record { known = x.known; messages = [] })) d.state.switches
    (λ y t. let p : x ≡ y = cc in ap (λ (z : SwitchOf). record y { known = z.known }) p)

-- an empty batch is written
empty_written : (n : ℕ) (x : SwitchOf) (wanted : List PhysEntry) (d : Draft) → slice_get d.state.switches n ≡ Some x
    → ((stood : List Written) → slice_get d.state.standing n ≡ Some stood → IsSettled stood wanted)
    → written n wanted (record { deletes = []; adds = [] }) (record { known = x.known; messages = [] }) d ≡ d
empty_written n x wanted d e h =
    let switches = known_stays n x d e in
    let standing =
    changed_same n (λ old. standing_after d.state.next_cookie old wanted) d.state.standing
    (λ ws t. (h ws t).stays d.state.next_cookie) in
    let batches = nothing_after d.batches in
    λ i. record d {
      state = record d.state { switches = switches i; standing = standing i };
      batches = batches i;
    }

pub nothing_written : (n : ℕ) (x : SwitchOf) (wanted : List PhysEntry) (d : Draft)
    → slice_get d.state.switches n ≡ Some x
    → Stood d.state n → ((stood : List Written) → slice_get d.state.standing n ≡ Some stood → IsSettled stood wanted)
    → is_switch n d.begun ≡ false
    → write n x wanted (batch_between d.state.next_cookie (standing_of d.state n) wanted) d ≡ d
nothing_written n x wanted d e stood h b =
    let next = d.state.next_cookie in
    let stands = ap (λ (o : Option (List Written)). unwrap_or o []) stood.at in
    let batch = ap (λ (ws : List Written). batch_between next ws wanted) stands
    ∙ (h stood.standing stood.at).nothing next in
    ap₂ (λ (begins : Bool) (batch : Batch).
    written n wanted batch
    (send_all (switch_messages begins batch) (record { known = x.known; messages = [] })) d) b batch
    ∙ empty_written n x wanted d e h

nothing_at : (t : Setting) (d : Draft) → AreSettled t (ups_with d.state.switches) d.state.standing
    → ((n : ℕ) (x : SwitchOf) → slice_get d.state.switches n ≡ Some x → Stood d.state n)
    → ((n : ℕ) → is_switch n d.begun ≡ false) → (n : ℕ) → compose_at t d n ≡ d
nothing_at t d settled stood b n = by (slice_get d.state.switches n) refl
  where
    wanted : List PhysEntry
    wanted = installed (entries_of t n)

    by : (o : Option SwitchOf) → slice_get d.state.switches n ≡ o → compose_on n o wanted d ≡ d
    by None e = refl
    by (Some x) e = up x.outbox.up refl
      where
        up : (u : Bool) → x.outbox.up ≡ u
            → (if u then write n x wanted (batch_between d.state.next_cookie (standing_of d.state n) wanted) d else d)
            ≡ d
        up true is =
            let there : slice_get (ups_with d.state.switches) n ≡ Some true =
            slice_get-map (λ (y : SwitchOf). y.outbox.up) d.state.switches n
            ∙ (ap (option_map (λ (y : SwitchOf). y.outbox.up)) e ∙ ap (λ u. Some u) is) in
            nothing_written n x wanted d e (stood n x e) (λ ws at. settled n ws there at) (b n)
        up false is = refl

nothing_composed : (p : PolicyOf) (d : Draft) → IsSettledState p d.state
    → ((n : ℕ) (x : SwitchOf) → slice_get d.state.switches n ≡ Some x → Stood d.state n)
    → ((n : ℕ) → is_switch n d.begun ≡ false) → compose p d ≡ d
nothing_composed p d settled stood b =
    let t = setting_of p d.state in
    fold_still (compose_at t) d (nothing_at t d settled stood b) (places d.state.switches)

-- what composition reads --------------------------------------------------------------------------------------------

pub same_kept : (xs : List MemberDraftOf) → AllByRecursion IsUnplanned xs
    → map kept_of (members_in xs) ≡ map kept_of (map member_of (member_bases xs))
same_kept [] h = refl
same_kept (x ∷ xs) h = ap₂ (λ (k : MemberStateOf) (ks : List MemberStateOf). k ∷ ks) h.0 (same_kept xs h.1)

same_ups : (xs : List SwitchDraftOf) → AllByRecursion IsUnmoved xs
    → ups_with (switches_in xs) ≡ ups_with (map switch_of (switch_bases xs))
same_ups [] h = refl
same_ups (x ∷ xs) h = ap₂ (λ (u : Bool) (us : List Bool). u ∷ us) h.0.up (same_ups xs h.1)

same_standing : (xs : List SwitchDraftOf) → AllByRecursion IsUnmoved xs
    → standing_in xs ≡ map stands_on (switch_bases xs)
same_standing [] h = refl
same_standing (x ∷ xs) h =
    ap₂ (λ (s : List Written) (ss : List (List Written)). s ∷ ss) h.0.standing (same_standing xs h.1)

settled_still : (p : PolicyOf) (o : Outcome) → WasSettled p (bases o) → IsUnchanged o
    → IsSettledState p (draft_in o).state
settled_still p o was same =
    let tables : tables_with p.members (members_in o.members)
    ≡ tables_with p.members (map member_of (member_bases o.members))
    = same_tables 0 p.members (members_in o.members) (map member_of (member_bases o.members))
    (same_kept o.members same.members) in
    let ups = same_ups o.switches same.switches in
    let setting : setting_with p o.exprs.now (members_in o.members) (switches_in o.switches)
    ≡ setting_with p o.exprs.base (map member_of (member_bases o.members)) (map switch_of (switch_bases o.switches))
    = λ i. of_policies.setting_of p (same.exprs i) (tables i) (ups i) in
    settled_same
    (setting_with p o.exprs.base (map member_of (member_bases o.members)) (map switch_of (switch_bases o.switches)))
    (setting_of p (draft_in o).state) (ups_with (map switch_of (switch_bases o.switches)))
    (ups_with (switches_in o.switches)) (map stands_on (switch_bases o.switches)) (standing_in o.switches)
    (sym setting) (sym ups) (sym (same_standing o.switches same.switches)) was

all_stood : (xs : List SwitchDraftOf) (s : State) → s.standing ≡ standing_in xs → (n : ℕ) (x : SwitchOf)
    → slice_get (switches_in xs) n ≡ Some x → Stood s n
all_stood xs s is n x e =
    let made = made_of (λ (d : SwitchDraftOf). d.now) xs n x e in
    record {
      standing = made.item.standing;
      at =
          ap (λ (ss : List (List Written)). slice_get ss n) is
          ∙ (slice_get-map (λ (d : SwitchDraftOf). d.standing) xs n
          ∙ ap (option_map (λ (d : SwitchDraftOf). d.standing)) made.at);
    }

-- so composing it changes nothing
pub unchanged_composed : (p : PolicyOf) (o : Outcome) → WasSettled p (bases o) → IsUnchanged o
    → draft_in o ≡ compose p (draft_in o)
unchanged_composed p o was same =
    sym (nothing_composed p (draft_in o) (settled_still p o was same)
    (all_stood o.switches (draft_in o).state refl) same.begun)
