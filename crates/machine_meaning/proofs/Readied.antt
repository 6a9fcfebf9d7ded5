-- What an event does to switches before they are composed: nothing is written yet, and what stands on a switch that is
-- up is what stood, or nothing where its round begins.
use Rattle.std.proofs.Common.{◌≡◌, ◌∙◌, ℕ, zero, suc, ◌<◌, ◌^◌, ◌==◌, Bool, true, false, true≢false, List, [], ◌∷◌}
use Rattle.std.proofs.Common.{◌++◌}
use Rattle.std.proofs.Common.{map, filter, length, Option, Some, None, Result, Ok, Err, arith, refl, sym, ap, subst}
use Rattle.std.proofs.lemmas.Bool.{eq-eqb, eqb-true}
use Rattle.std.specs.Prelude.{find, fold, if◌then◌else◌, nat_lt, option_map, slice_get, unwrap_or}
use Rattle.std.specs.BTreeMap.{is_at}
use Rattle.std.specs.BTreeSet.{insert_key}
use Rattle.std.specs.List.{AllByRecursion}
use Rattle.std.specs.Ordering.{nat_cmp}
use Rattle.std.specs.Set.{remove_key}
use Rattle.cv_io.specs.declared.leaf.Who.{Who}
use Rattle.cv_io.specs.declared.leaf.Who.TheVariants.{Audit, Member, Switch}
use Rattle.grants.specs.declared.denial.Denial.{Denial}
use Rattle.install_plan.specs.declared.written.Written.{Written}
use Rattle.member_table.specs.Entries.{has_serial}
use Rattle.member_table.specs.declared.entry.Entry.{Entry}
use Rattle.of10_msgs.specs.Reading.{reading}
use Rattle.of10_msgs.specs.Senders.{reading_of_controller}
use Rattle.of10_msgs.specs.declared.fault.FormFault.{FormFault}
use Rattle.of10_msgs.specs.declared.message.Body.{Body}
use Rattle.of10_msgs.specs.declared.message.Body.TheVariants as bodies
use Rattle.of10_msgs.specs.declared.message.Message.{Message}
use Rattle.of10_msgs.specs.declared.message.PhyPort.{PhyPort}
use Rattle.of10_stats.specs.Reading.{reply_in, request_in}
use Rattle.of10_stats.specs.declared.fault.StatsFault.{StatsFault}
use Rattle.of10_stats.specs.declared.reply.ReplyBody.{ReplyBody}
use Rattle.of10_stats.specs.declared.reply.ReplyBody.TheVariants as replies
use Rattle.of10_stats.specs.declared.reply.StatsReply.{StatsReply}
use Rattle.of10_stats.specs.declared.request.StatsRequest.{StatsRequest}
use Rattle.of10_stats.specs.declared.request.StatsRequest.TheVariants as requests
use Rattle.policy_expr.specs.Policy.{Policy}
use Rattle.policy_expr.specs.Reading.{reading as reading_of_expression}
use Rattle.policy_expr.specs.declared.fault.ExprFault.{ExprFault}
use Rattle.policies.specs.Exprs.{names}
use Rattle.policies.specs.Policies.{PolicyOf, plan}
use Rattle.policies.specs.Widths.{too_wide_in}
use Rattle.policies.specs.declared.policy.MemberItem.{MemberItem}
use Rattle.script_text.specs.declared.audit.DownCause.{DownCause}
use Rattle.script_text.specs.declared.audit.DownCause.TheVariants as causes
use Rattle.switch_meaning.specs.Counts.{Numbers}
use Rattle.switch_state.specs.Known.{KnownOf}
use Rattle.switch_state.specs.Reports.{after_removal, answered_number, barrier_reply, flow_removed, port_status}
use Rattle.switch_state.specs.Reports.{removal}
use Rattle.switch_state.specs.Reports.{tells_down}
use Rattle.switch_state.specs.declared.removal.Removal.{Removal}
use Rattle.switch_state.specs.declared.removal.Removal.TheVariants.{Ignored, Strange, Taken}
use Rattle.virtual_topology.specs.Rows.{Spot}
use Rattle.virtual_topology.specs.Wires.{entering_of}
use Rattle.machine_meaning.specs.Acting.{act, sends}
use Rattle.machine_meaning.specs.Barriers.{barrier_answered, barrier_for, unanswered_of, with_known}
use Rattle.machine_meaning.specs.Coming.{comes_up, end_first, goes, noting}
use Rattle.machine_meaning.specs.Counted.{count_of}
use Rattle.machine_meaning.specs.Drafts.{Draft, letter, message, untouched}
use Rattle.machine_meaning.specs.Hearing.{heard}
use Rattle.machine_meaning.specs.Lists.{changed_at, places}
use Rattle.machine_meaning.specs.MemberMessages.{denial_of, hears_from as hears_from_member, hears_member, judged}
use Rattle.machine_meaning.specs.MemberMessages.{serve}
use Rattle.machine_meaning.specs.MemberMessages.{serve_read}
use Rattle.machine_meaning.specs.Names.{virtual_of}
use Rattle.machine_meaning.specs.Packets.{comes_by}
use Rattle.machine_meaning.specs.Parts.{part_told}
use Rattle.machine_meaning.specs.Phases.{settled_of}
use Rattle.machine_meaning.specs.Removals.{port_reported, removed_by}
use Rattle.machine_meaning.specs.Removing.{without_expired}
use Rattle.machine_meaning.specs.Replacing.{exprs_with, replace_by, replace_unless, replaces, width_refusal}
use Rattle.machine_meaning.specs.Rounds.{Closing, begin_member, begin_switch, begun_switch, close, close_member}
use Rattle.machine_meaning.specs.Rounds.{close_switch}
use Rattle.machine_meaning.specs.Rounds.{emptied_at, end_member, end_switch, ended_switch}
use Rattle.machine_meaning.specs.Sessions.{is_switch, is_up, standing_of}
use Rattle.machine_meaning.specs.Settling.{decided, decided_on, entries_at, settle, settle_for, settle_one, with_risen}
use Rattle.machine_meaning.specs.Settling.{with_undone, without_idle}
use Rattle.machine_meaning.specs.Sound.{IsSoundState}
use Rattle.machine_meaning.specs.States.{MemberOf, State, SwitchOf}
use Rattle.machine_meaning.specs.Statistics.{statistics}
use Rattle.machine_meaning.specs.SwitchMessages.{hears, hears_from, hears_read, is_ignored, statistics_told}
use Rattle.machine_meaning.specs.Ticking.{doubt_at, doubts_at, poll_for, ticks}
use Rattle.waitings.specs.Waitings.{is_done}
use Rattle.events.specs.declared.event.Event.{Event}
use Rattle.events.specs.declared.event.Event.TheVariants as events
use Rattle.events.specs.declared.event.PolicyRefusal.{PolicyRefusal}
use Rattle.machine_meaning.specs.declared.said.Letter.{Letter}
use Rattle.waitings.specs.declared.state.Doubt.{Doubt}
use Rattle.waitings.specs.declared.state.Part.{Part}
use Rattle.waitings.specs.declared.state.Purpose.{Purpose}
use Rattle.waitings.specs.declared.state.Purpose.TheVariants as purposes
use Rattle.machine_meaning.proofs.Composed.{elsewhere, fold_holds}
use Rattle.machine_meaning.proofs.Numbered.{at_changed, changed_unseen}
use Rattle.machine_meaning.proofs.QuietMessages.{IsQuietLetter, both_quiet, echo_quiet}

-- what is seen of switches ------------------------------------------------------------------------------------------

-- whether a switch is up, and its last xid
abbrev pub Side : Type 0
Side = Bool × ℕ

abbrev pub side_of : SwitchOf → Side
side_of x = (x.outbox.up, x.known.xid)

-- what concerns the tables of switches
pub record Seen : Type 0 where
  pub standing : List (List Written)
  pub sides : List Side
  pub next : ℕ
  pub begun : Option Who
  pub batches : List Letter
  pub polls : List Letter
  pub packets : List Letter
  pub echoes : List Letter

abbrev pub seen_of : Draft → Seen
seen_of d = record {
  standing = d.state.standing;
  sides = map side_of d.state.switches;
  next = d.state.next_cookie;
  begun = d.begun;
  batches = d.batches;
  polls = d.polls;
  packets = d.packets;
  echoes = d.echoes;
}

-- what stands on a switch
abbrev pub stands_at : Seen → ℕ → List Written
stands_at v n = unwrap_or (slice_get v.standing n) []

-- what stands on a switch that is up is what stood, or nothing where its round begins
pub record IsReadyAt (s : State) (v : Seen) (n : ℕ) (side : Side) : Type 0 where
  pub xid : side.1 < 2 ^ 32
  pub stays : side.0 ≡ true → is_switch n v.begun ≡ false → stands_at v n ≡ standing_of s n
  pub begins : is_switch n v.begun ≡ true → stands_at v n ≡ []

-- nothing is written to switches yet but answers to echoes
pub record IsReady (s : State) (v : Seen) : Type 0 where
  pub batches : v.batches ≡ []
  pub polls : v.polls ≡ []
  pub packets : v.packets ≡ []
  pub echoes : AllByRecursion IsQuietLetter v.echoes
  pub next : v.next < 2 ^ 64
  pub long : length v.standing ≡ length v.sides
  pub each : (n : ℕ) (side : Side) → slice_get v.sides n ≡ Some side → IsReadyAt s v n side

-- phases that change nothing of it ----------------------------------------------------------------------------------

abbrev pub Keeps : Draft → Draft → Type 0
Keeps d e = seen_of e ≡ seen_of d

still : (s : State) (d e : Draft) → Keeps d e → IsReady s (seen_of d) → IsReady s (seen_of e)
still s d e k h = subst (IsReady s) (sym k) h

fold_keeps : {X : Type 0} (f : Draft → X → Draft) → ((d : Draft) (x : X) → Keeps d (f d x)) → (xs : List X) (d : Draft)
    → Keeps d (fold f d xs)
fold_keeps f h xs d = fold_holds f (λ (e : Draft). seen_of e ≡ seen_of d) (λ e x k. h e x ∙ k) xs d refl

-- switches are changed
abbrev with_sides : Draft → List Side → Seen
with_sides d sides = record (seen_of d) { sides = sides }

-- rounds that begin and end -----------------------------------------------------------------------------------------

pub map_changed : {X Y : Type 0} (v : X → Y) (f : X → X) (g : Y → Y) → ((x : X) → v (f x) ≡ g (v x))
    → (n : ℕ) (xs : List X) → map v (changed_at n f xs) ≡ changed_at n g (map v xs)
map_changed v f g h n [] = refl
map_changed v f g h zero (x ∷ xs) = ap (λ y. y ∷ map v xs) (h x)
map_changed v f g h (suc n) (x ∷ xs) = ap (λ ys. v x ∷ ys) (map_changed v f g h n xs)

pub long_changed : {X : Type 0} (n : ℕ) (f : X → X) (xs : List X) → length (changed_at n f xs) ≡ length xs
long_changed n f [] = refl
long_changed zero f (x ∷ xs) = refl
long_changed (suc n) f (x ∷ xs) = ap suc (long_changed n f xs)

-- a switch at the first xid of its round, or down
abbrev turned : Bool → Side → Side
turned up side = (up, 0)

emptied : (n : ℕ) (standing : List (List Written)) → unwrap_or (slice_get (emptied_at n standing) n) [] ≡ []
emptied n standing = ap (λ o. unwrap_or o []) (at_changed n (λ old. []) standing) ∙ by (slice_get standing n)
  where
    by : (o : Option (List Written)) → unwrap_or {T = List Written} (option_map (λ (old : List Written). []) o) [] ≡ []
    by None = refl
    by (Some old) = refl

of_turned : (up : Bool) (o : Option Side) (side : Side) → option_map (turned up) o ≡ Some side → side ≡ (up, 0)
of_turned up None side e = absurd (cc)
of_turned up (Some old) side e = cc

abbrev turned_at : Seen → ℕ → Bool → Option Who → Seen
turned_at v n up begun = record v {
  sides = changed_at n (turned up) v.sides;
  standing = emptied_at n v.standing;
  begun = begun;
}

module _ (s : State) (v : Seen) (n : ℕ) (up : Bool) (begun : Option Who) (h : IsReady s v)
    (begins : up ≡ true → is_switch n begun ≡ true)
    (others : (m : ℕ) → (n == m) ≡ false → is_switch m begun ≡ is_switch m v.begun) where
  at_place : (side : Side) → slice_get (changed_at n (turned up) v.sides) n ≡ Some side
      → IsReadyAt s (turned_at v n up begun) n side
  at_place side e =
      let is = of_turned up (slice_get v.sides n) side (sym (at_changed n (turned up) v.sides) ∙ e) in
      record {
        xid = subst (λ (x : Side). x.1 < 2 ^ 32) (sym is) (omega arith);
        stays = λ t f. absurd (true≢false (sym (begins (sym (ap (λ (x : Side). x.0) is) ∙ t)) ∙ f));
        begins = λ t. emptied n v.standing;
      }

  apart : (m : ℕ) → (n == m) ≡ false → (side : Side) → slice_get (changed_at n (turned up) v.sides) m ≡ Some side
      → IsReadyAt s (turned_at v n up begun) m side
  apart m ne side e =
      let old = h.each m side (sym (elsewhere n m (turned up) v.sides ne) ∙ e) in
      let stands : stands_at (turned_at v n up begun) m ≡ stands_at v m =
      ap (λ (o : Option (List Written)). unwrap_or o []) (elsewhere n m (λ old. []) v.standing ne) in
      record {
        xid = old.xid;
        stays = λ t f. stands ∙ old.stays t (sym (others m ne) ∙ f);
        begins = λ t. stands ∙ old.begins (sym (others m ne) ∙ t);
      }

  ready_turned : IsReady s (turned_at v n up begun)
  ready_turned = record {
    batches = h.batches;
    polls = h.polls;
    packets = h.packets;
    echoes = h.echoes;
    next = h.next;
    long = long_changed n (λ old. []) v.standing ∙ (h.long ∙ sym (long_changed n (turned up) v.sides));
    each = λ m side e. by m (n == m) refl side e;
  }
    where
      by : (m : ℕ) (b : Bool) → (n == m) ≡ b → (side : Side)
          → slice_get (changed_at n (turned up) v.sides) m ≡ Some side → IsReadyAt s (turned_at v n up begun) m side
      by m true t =
          subst (λ (k : ℕ). (side : Side) → slice_get (changed_at n (turned up) v.sides) k ≡ Some side
          → IsReadyAt s (turned_at v n up begun) k side) (eqb-true n m t) at_place
      by m false t = apart m t

ended : (s : State) (n : ℕ) (cause : DownCause) (d : Draft) → IsReady s (seen_of d)
    → IsReady s (seen_of (end_switch n cause d))
ended s n cause d h =
    subst (IsReady s)
    (ap (λ (sides : List Side). record (seen_of d) { sides = sides; standing = emptied_at n d.state.standing })
    (sym (map_changed side_of ended_switch (turned false) (λ x. refl) n d.state.switches)))
    (ready_turned s (seen_of d) n false d.begun h (λ e. absurd (true≢false (sym e))) (λ m e. refl))

begun_at : (s : State) (n : ℕ) (d : Draft) → d.begun ≡ None → IsReady s (seen_of d)
    → IsReady s (seen_of (begin_switch n d))
begun_at s n d none h =
    subst (IsReady s)
    (ap (λ (sides : List Side). record (seen_of d) {
      sides = sides;
      standing = emptied_at n d.state.standing;
      begun = Some (Switch n);
    })
    (sym (map_changed side_of (begun_switch d.state.next_cookie) (turned true) (λ x. refl) n d.state.switches)))
    (ready_turned s (seen_of d) n true (Some (Switch n)) h (λ e. eq-eqb n n refl)
    (λ m e. e ∙ sym (ap (is_switch m) none)))

-- a member's round begins
member_begun : (s : State) (n : ℕ) (d : Draft) → d.begun ≡ None → IsReady s (seen_of d)
    → IsReady s (seen_of (begin_member n d))
member_begun s n d none h = record {
  batches = h.batches;
  polls = h.polls;
  packets = h.packets;
  echoes = h.echoes;
  next = h.next;
  long = h.long;
  each = λ m side e.
      let old = h.each m side e in
      record {
        xid = old.xid;
        stays = λ t f. old.stays t (ap (is_switch m) none);
        begins = λ t. absurd (true≢false (sym t));
      };
}

up_ready : (p : PolicyOf) (s : State) (who : Who) (arp : Bool) → IsReady s (seen_of (untouched s))
    → IsReady s (seen_of (comes_up p who arp (untouched s)))
up_ready p s (Member n) arp h = by (is_up s (Member n))
  where
    by : (u : Bool) → IsReady s (seen_of (begin_member n (if u then end_member n (untouched s) else untouched s)))
    by true = member_begun s n (end_member n (untouched s)) refl h
    by false = member_begun s n (untouched s) refl h
up_ready p s (Switch n) arp h =
    noted arp (begin_switch n (end_first (Switch n) (untouched s))) (by (is_up s (Switch n)))
  where
    noted : (b : Bool) (d : Draft) → IsReady s (seen_of d) → IsReady s (seen_of (noting p n b d))
    noted true d h = h
    noted false d h = h

    by : (u : Bool) → IsReady s
        (seen_of (begin_switch n (if u then end_switch n causes.Again (untouched s) else untouched s)))
    by true = begun_at s n (end_switch n causes.Again (untouched s)) refl (ended s n causes.Again (untouched s) h)
    by false = begun_at s n (untouched s) refl h
up_ready p s Audit arp h = h

gone_ready : (s : State) (who : Who) (d : Draft) → IsReady s (seen_of d) → IsReady s (seen_of (goes who d))
gone_ready s (Member n) d h = h
gone_ready s (Switch n) d h = ended s n causes.Gone d h
gone_ready s Audit d h = h

-- members' messages -------------------------------------------------------------------------------------------------

asked_keeps : (p : PolicyOf) (n v : ℕ) (x : MemberOf) (xid : ℕ) (r : Result StatsRequest StatsFault) (d : Draft)
    → Keeps d (statistics p n v x xid r d)
asked_keeps p n v x xid (Ok requests.Desc) d = refl
asked_keeps p n v x xid (Ok requests.Table) d = refl
asked_keeps p n v x xid (Ok (requests.Flow m table_id out_port)) d = refl
asked_keeps p n v x xid (Ok (requests.Aggregate m table_id out_port)) d = refl
asked_keeps p n v x xid (Ok (requests.Port port_no)) d = refl
asked_keeps p n v x xid (Err fault) d = refl

barrier_keeps : (n v xid : ℕ) (parts : List Part) (d : Draft) → Keeps d (barrier_for n v xid parts d)
barrier_keeps n v xid [] d = refl
barrier_keeps n v xid (part ∷ parts) d = refl

serve_keeps : (p : PolicyOf) (n : ℕ) (m : MemberItem) (x : MemberOf) (xid : ℕ) (body : Body) (d : Draft)
    → Keeps d (serve p n m x xid body d)
serve_keeps p n m x xid (bodies.StatsRequest body) d = asked_keeps p n (virtual_of m) x xid (request_in body) d
serve_keeps p n m x xid bodies.BarrierRequest d =
    barrier_keeps n (virtual_of m) xid (unanswered_of p d.state (virtual_of m)) d
serve_keeps p n m x xid body d = refl

read_keeps : (p : PolicyOf) (n : ℕ) (m : MemberItem) (x : MemberOf) (r : Result Message FormFault) (d : Draft)
    → Keeps d (serve_read p n m x r d)
read_keeps p n m x (Ok message) d = serve_keeps p n m x message.xid message.body d
read_keeps p n m x (Err fault) d = refl

judged_keeps : (p : PolicyOf) (n : ℕ) (m : MemberItem) (x : MemberOf) (frame : List ℕ) (o : Option Denial) (d : Draft)
    → Keeps d (judged p n m x frame o d)
judged_keeps p n m x frame (Some denied) d = refl
judged_keeps p n m x frame None d = read_keeps p n m x (reading_of_controller frame) d

member_keeps : (p : PolicyOf) (n : ℕ) (m : Option MemberItem) (x : Option MemberOf) (frame : List ℕ) (d : Draft)
    → Keeps d (hears_from_member p n m x frame d)
member_keeps p n (Some m) (Some x) frame d = judged_keeps p n m x frame (denial_of p m x frame) d
member_keeps p n (Some m) None frame d = refl
member_keeps p n None (Some x) frame d = refl
member_keeps p n None None frame d = refl

-- switches' messages ------------------------------------------------------------------------------------------------

comes_keeps : (p : PolicyOf) (total : ℕ) (bytes : List ℕ) (o : Option Spot) (d : Draft)
    → Keeps d (comes_by p total bytes o d)
comes_keeps p total bytes None d = refl
comes_keeps p total bytes (Some (v, port)) d = refl

-- what is known of a switch changes, but not its xid
known_keeps : (n : ℕ) (f : KnownOf → KnownOf) → ((x : KnownOf) → (f x).xid ≡ x.xid) → (switches : List SwitchOf)
    → map side_of (changed_at n (with_known f) switches) ≡ map side_of switches
known_keeps n f h switches =
    changed_unseen side_of (with_known f) (λ x. ap (λ (xid : ℕ). (x.outbox.up, xid)) (h x.known)) n switches

removal_xid : (r : Removal) (cookie : ℕ) (x : KnownOf) → (after_removal r cookie x).xid ≡ x.xid
removal_xid Taken cookie x = refl
removal_xid Ignored cookie x = refl
removal_xid Strange cookie x = refl

status_xid : (reason : ℕ) (port : PhyPort) (x : KnownOf) → (port_status reason port x).xid ≡ x.xid
status_xid reason port x = by (tells_down reason port)
  where
    by : (b : Bool)
        → (if b then record x { dark = insert_key nat_cmp x.dark port.port_no }
        else record x { dark = remove_key (is_at (nat_cmp port.port_no)) x.dark }).xid ≡ x.xid
    by true = refl
    by false = refl

answered_keeps : (n xid : ℕ) (o : Option ℕ) (d : Draft) → Keeps d (barrier_answered n xid o d)
answered_keeps n xid None d = refl
answered_keeps n xid (Some number) d =
    ap (with_sides d) (known_keeps n (barrier_reply xid) (λ x. refl) d.state.switches)

part_keeps : (p : PolicyOf) (n xid : ℕ) (more : Bool) (body : ReplyBody) (d : Draft)
    → Keeps d (part_told p n xid more body d)
part_keeps p n xid more (replies.Desc texts) d = refl
part_keeps p n xid more (replies.Flow entries) d = refl
part_keeps p n xid more (replies.Aggregate packets bytes flows) d = refl
part_keeps p n xid more (replies.Table id name wildcards most active lookup matched) d = refl
part_keeps p n xid more (replies.Port stats) d = refl

module _ (s : State) where
  told_ready : (p : PolicyOf) (n xid : ℕ) (r : Result StatsReply StatsFault) (d : Draft) → IsReady s (seen_of d)
      → IsReady s (seen_of (statistics_told p n xid r d))
  told_ready p n xid (Ok reply) d h =
      still s d (part_told p n xid reply.more reply.body d) (part_keeps p n xid reply.more reply.body d) h
  told_ready p n xid (Err fault) d h = ended s n causes.Form d h

  removed_ready : (n : ℕ) (r : Removal) (cookie : ℕ) (numbers : Numbers) (d : Draft) → IsReady s (seen_of d)
      → IsReady s (seen_of (removed_by n r cookie numbers d))
  removed_ready n Ignored cookie numbers d h = h
  removed_ready n Taken cookie numbers d h =
      still s d (removed_by n Taken cookie numbers d)
      (ap (with_sides d) (known_keeps n (flow_removed cookie) (λ x. removal_xid (removal x cookie) cookie x)
      d.state.switches)) h
  removed_ready n Strange cookie numbers d h = ended s n causes.Removal d h

  echoed_ready : (n xid : ℕ) (bytes : List ℕ) (d : Draft) → IsReady s (seen_of d) → IsReady s
      (record (seen_of d) { echoes = d.echoes ++ letter n (message xid (bodies.EchoReply bytes)) ∷ [] })
  echoed_ready n xid bytes d h = record {
    batches = h.batches;
    polls = h.polls;
    packets = h.packets;
    echoes =
        both_quiet d.echoes (letter n (message xid (bodies.EchoReply bytes)) ∷ []) h.echoes (echo_quiet xid bytes, tt);
    next = h.next;
    long = h.long;
    each = λ m side e.
        let old = h.each m side e in record { xid = old.xid; stays = old.stays; begins = old.begins };
  }

  hears_ready : (p : PolicyOf) (n : ℕ) (x : SwitchOf) (xid : ℕ) (body : Body) (d : Draft) → IsReady s (seen_of d)
      → IsReady s (seen_of (hears p n x xid body d))
  hears_ready p n x xid (bodies.Error kind code bytes) d h = ended s n causes.Error d h
  hears_ready p n x xid (bodies.EchoRequest bytes) d h = echoed_ready n xid bytes d h
  hears_ready p n x xid (bodies.PacketIn buffer total port reason bytes) d h =
      let o = entering_of (plan p) n port in
      still s d (comes_by p total bytes o d) (comes_keeps p total bytes o d) h
  hears_ready p n x xid (bodies.FlowRemoved a cookie priority reason sec nsec idle packets bytes) d h =
      removed_ready n (removal x.known cookie) cookie (record { packets = packets; bytes = bytes }) d h
  hears_ready p n x xid (bodies.PortStatus reason port) d h =
      still s d (port_reported n reason port d)
      (ap (with_sides d) (known_keeps n (port_status reason port) (status_xid reason port) d.state.switches)) h
  hears_ready p n x xid (bodies.StatsReply body) d h = told_ready p n xid (reply_in body) d h
  hears_ready p n x xid bodies.BarrierReply d h =
      let o = answered_number xid x.known in
      still s d (barrier_answered n xid o d) (answered_keeps n xid o d) h
  hears_ready p n x xid body d h = h

  switch_read_ready : (p : PolicyOf) (n : ℕ) (x : SwitchOf) (r : Result Message FormFault) (d : Draft)
      → IsReady s (seen_of d) → IsReady s (seen_of (hears_read p n x r d))
  switch_read_ready p n x (Ok m) d h = hears_ready p n x m.xid m.body d h
  switch_read_ready p n x (Err fault) d h = ended s n causes.Form d h

  switch_ready : (p : PolicyOf) (n : ℕ) (o : Option SwitchOf) (frame : List ℕ) (d : Draft) → IsReady s (seen_of d)
      → IsReady s (seen_of (hears_from p n o frame d))
  switch_ready p n None frame d h = h
  switch_ready p n (Some x) frame d h = by (is_ignored frame)
    where
      by : (b : Bool) → IsReady s (seen_of (if b then d else hears_read p n x (reading frame) d))
      by true = h
      by false = switch_read_ready p n x (reading frame) d h

  sends_ready : (p : PolicyOf) (who : Who) (frame : List ℕ) (d : Draft) → IsReady s (seen_of d)
      → IsReady s (seen_of (sends p who frame d))
  sends_ready p (Member n) frame d h =
      still s d (hears_member p n frame d)
      (member_keeps p n (slice_get p.members n) (slice_get d.state.members n) frame d) h
  sends_ready p (Switch n) frame d h = switch_ready p n (slice_get d.state.switches n) frame d h
  sends_ready p Audit frame d h = h

-- ticks and expressions ---------------------------------------------------------------------------------------------

doubt_keeps : (p : PolicyOf) (v : ℕ) (doubts : List Doubt) (d : Draft) → Keeps d (poll_for p v doubts d)
doubt_keeps p v [] d = refl
doubt_keeps p v (doubt ∷ doubts) d = refl

tick_keeps : (p : PolicyOf) (now : ℕ) (d : Draft) → Keeps d (ticks p now d)
tick_keeps p now d =
    let e = record d { state = without_expired (record d.state { moment = now }) } in
    fold_keeps (doubt_at p) (λ f v. doubt_keeps p v (doubts_at p f.state v) f) (places p.virtuals) e

unless_keeps : (p : PolicyOf) (v : ℕ) (e : Policy) (o : Option PolicyRefusal) (d : Draft)
    → Keeps d (replace_unless o p v e d)
unless_keeps p v e (Some refusal) d = refl
unless_keeps p v e None d = refl

replace_keeps : (p : PolicyOf) (v : ℕ) (r : Result Policy ExprFault) (d : Draft) → Keeps d (replace_by p v r d)
replace_keeps p v (Ok e) d =
    unless_keeps p v e (width_refusal (too_wide_in (plan p) p.members (exprs_with v e d.state.exprs) p.hops)) d
replace_keeps p v (Err fault) d = refl

-- settling ----------------------------------------------------------------------------------------------------------

-- what a state has of it
abbrev tables_in : State → List (List Written) × (List Side × ℕ)
tables_in s = (s.standing, (map side_of s.switches, s.next_cookie))

decided_keeps : (s : State) (doubt : Doubt) → tables_in (decided s doubt) ≡ tables_in s
decided_keeps s doubt = by (find (has_serial doubt.serial) (entries_at (slice_get s.members doubt.member)))
  where
    by : (o : Option Entry) → tables_in (decided_on o doubt s) ≡ tables_in s
    by None = refl
    by (Some e) = risen (nat_lt doubt.packets (count_of s doubt.member doubt.serial).packets)
      where
        risen : (b : Bool) → tables_in (if b then with_risen doubt s else without_idle doubt e s) ≡ tables_in s
        risen true = refl
        risen false = refl

settle_keeps : (p : PolicyOf) (purpose : Purpose) (d : Draft) → Keeps d (settle_for p purpose d)
settle_keeps p (purposes.Flow asker f) d = refl
settle_keeps p (purposes.Aggregate asker f) d = refl
settle_keeps p (purposes.Port asker port_no told) d = refl
settle_keeps p (purposes.Idle doubts) d =
    ap (λ (t : List (List Written) × (List Side × ℕ)).
    record (seen_of d) { standing = t.0; sides = t.1.0; next = t.1.1 })
    (fold_holds decided (λ (s : State). tables_in s ≡ tables_in d.state) (λ s doubt k. decided_keeps s doubt ∙ k) doubts
    d.state refl)
settle_keeps p (purposes.Barrier asker) d = refl

pub settled_keeps : (p : PolicyOf) (d : Draft) → Keeps d (settle p d)
settled_keeps p d =
    fold_keeps (settle_one p) (λ e w. settle_keeps p w.purpose e) (filter is_done d.state.waiting) (with_undone d)

-- all ---------------------------------------------------------------------------------------------------------------

pub long_map : {X Y : Type 0} (f : X → Y) (xs : List X) → length (map f xs) ≡ length xs
long_map f [] = refl
long_map f (x ∷ xs) = ap suc (long_map f xs)

side_at : (xs : List SwitchOf) (n : ℕ) (side : Side) → slice_get (map side_of xs) n ≡ Some side
    → (x : SwitchOf) × (slice_get xs n ≡ Some x) × (side_of x ≡ side)
side_at [] n side e = absurd (cc)
side_at (x ∷ xs) zero side e = (x, refl, cc)
side_at (x ∷ xs) (suc n) side e = side_at xs n side e

untouched_ready : (p : PolicyOf) (s : State) → IsSoundState p s → IsReady s (seen_of (untouched s))
untouched_ready p s h = record {
  batches = refl;
  polls = refl;
  packets = refl;
  echoes = tt;
  next = h.written.1;
  long = h.all_standing ∙ (sym h.all_switches ∙ sym (long_map side_of s.switches));
  each = λ n side e.
      let r = side_at s.switches n side e in
      record {
        xid = subst (λ (x : Side). x.1 < 2 ^ 32) r.2 (h.switches n r.0 r.1).xid;
        stays = λ t f. refl;
        begins = λ t. absurd (true≢false (sym t));
      };
}

-- as the event acts what a frame tells of counts is heard already
act_ready : (p : PolicyOf) (s : State) (e : Event) → IsReady s (seen_of (untouched s))
    → IsReady s (seen_of (act p (heard s e) e))
act_ready p s (events.Up who arp) h = up_ready p (heard s (events.Up who arp)) who arp h
act_ready p s (events.Msg session frame) h =
    sends_ready s p session.who frame (untouched (heard s (events.Msg session frame))) h
act_ready p s (events.Gone session) h = gone_ready s session.who (untouched (heard s (events.Gone session))) h
act_ready p s (events.Tick second) h =
    let d = untouched (heard s (events.Tick second)) in still s d (ticks p second d) (tick_keeps p second d) h
act_ready p s (events.Take session) h = h
act_ready p s (events.Policy v text) h =
    let d = untouched (heard s (events.Policy v text)) in
    still s d (replaces p v text d) (replace_keeps p v (reading_of_expression (names p.members v) text) d) h

closed_ready : (s : State) (c : Closing) (d : Draft) → IsReady s (seen_of d) → IsReady s (seen_of (close c d))
closed_ready s c d h =
    still s (fold close_switch d c.switches) (close c d)
    (fold_keeps close_member (λ e n. refl) c.members (fold close_switch d c.switches))
    (fold_holds close_switch (λ (e : Draft). IsReady s (seen_of e)) (λ e n k. ended s n causes.Slow e k) c.switches d h)

-- after what settles switches are ready to be composed
pub settled_ready : (p : PolicyOf) (s : State) → IsSoundState p s → (e : Event) (c : Closing)
    → IsReady s (seen_of (settled_of p (heard s e) e c))
settled_ready p s h e c =
    let d = close c (act p (heard s e) e) in
    still s d (settle p d) (settled_keeps p d)
    (closed_ready s c (act p (heard s e) e) (act_ready p s e (untouched_ready p s h)))
