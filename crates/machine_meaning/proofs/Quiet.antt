-- An event that leaves what switches are to have, and what nobody waits for, writes and tells nothing more.
use Rattle.std.proofs.Common.{◌≡◌, ◌∙◌, ℕ, ◌+◌, ◌<◌, Bool, true, false, not, ◌&&◌, List, [], ◌∷◌, ◌++◌, length, map}
use Rattle.std.proofs.Common.{filter, Option, Some, None, arith, refl, sym, ap, ap₂, eq-eqb}
use Rattle.std.specs.Prelude.{flat_map, fold, slice_get, unwrap_or, zip, if◌then◌else◌}
use Rattle.std.specs.List.{AllByRecursion, enumerate_from}
use Rattle.std.proofs.lemmas.Bool.{ne_eqb}
use Rattle.agreement.specs.Entries.{entries_of}
use Rattle.agreement.specs.declared.state.Setting.{Setting}
use Rattle.cv_io.specs.Leaves.{same_leaf}
use Rattle.cv_io.specs.declared.leaf.Leaf.{Leaf}
use Rattle.cv_io.specs.declared.leaf.Who.TheVariants.{Member}
use Rattle.install_plan.specs.Tables.{entry_of}
use Rattle.install_plan.specs.declared.written.Batch.{Batch}
use Rattle.install_plan.specs.declared.written.Written.{Written}
use Rattle.member_state.specs.States.{MemberStateOf}
use Rattle.policies.specs.Policies.{PolicyOf}
use Rattle.policies.specs.declared.policy.MemberItem.{MemberItem}
use Rattle.policy_meaning.specs.declared.leaf.LeafTable.{LeafTable}
use Rattle.policy_setting.specs.OfPolicies as of_policies
use Rattle.stats_map.specs.Counting.{is_named}
use Rattle.switch_meaning.specs.Batches.{by_key}
use Rattle.switch_meaning.specs.Keys.{installed}
use Rattle.switch_meaning.specs.declared.entry.PhysEntry.{PhysEntry}
use Rattle.switch_state.specs.Messages.{switch_messages}
use Rattle.switch_state.specs.Sending.{send_all}
use Rattle.machine_meaning.specs.Batches.{batch_between, standing_after}
use Rattle.machine_meaning.specs.Composing.{compose, compose_at, compose_on, sent_to, write, written}
use Rattle.machine_meaning.specs.Counted.{dropped_between, is_one_of, leaf_of, leaves_in, leaves_of}
use Rattle.machine_meaning.specs.Drafts.{Draft}
use Rattle.machine_meaning.specs.Lists.{changed_at, places}
use Rattle.machine_meaning.specs.Ports.{is_dark_at}
use Rattle.machine_meaning.specs.Requests.{dispatch, poll, request_all}
use Rattle.machine_meaning.specs.Sessions.{is_switch, is_up, standing_of}
use Rattle.machine_meaning.specs.Settings.{setting_of, table_of, ups_with}
use Rattle.machine_meaning.specs.Settling.{settle, settle_one}
use Rattle.machine_meaning.specs.Sound.{IsSoundOwed, IsSoundState}
use Rattle.machine_meaning.specs.States.{MemberOf, State, SwitchOf}
use Rattle.machine_meaning.specs.Telling.{by_serial, differ, forget, has_changed, may_go, port_told, ports_told}
use Rattle.machine_meaning.specs.Telling.{removal_told, seen_by, tell, tell_ports, tell_removals, uncounted}
use Rattle.waitings.specs.Waitings.{is_done}
use Rattle.machine_meaning.specs.declared.said.Letter.{Letter}
use Rattle.machine_meaning.specs.declared.state.Owed.{Owed}
use Rattle.waitings.specs.declared.state.Waiting.{Waiting}
use Rattle.machine_meaning.proofs.Numbered.{changed_same, filter_never, flat_none, fold_still}
use Rattle.machine_meaning.proofs.Unchanged.{all_stays, all_weaker, batch_empty, each_among, filter_all, filter_none}
use Rattle.machine_meaning.proofs.Unchanged.{nothing_after}

-- tables ------------------------------------------------------------------------------------------------------------

abbrev pub kept_of : MemberOf → MemberStateOf
kept_of x = x.kept

-- members with the same tables have the same leaf tables, and leaves
pub same_tables : (k : ℕ) (items : List MemberItem) (xs ys : List MemberOf) → map kept_of xs ≡ map kept_of ys
    → map table_of (enumerate_from k (zip items xs)) ≡ map table_of (enumerate_from k (zip items ys))
same_tables k [] xs ys h = refl
same_tables k (m ∷ ms) [] [] h = refl
same_tables k (m ∷ ms) [] (y ∷ ys) h = absurd (cc)
same_tables k (m ∷ ms) (x ∷ xs) [] h = absurd (cc)
same_tables k (m ∷ ms) (x ∷ xs) (y ∷ ys) h =
    let first : kept_of x ≡ kept_of y = cc in
    let rest : map kept_of xs ≡ map kept_of ys = cc in
    ap₂ (λ (t : LeafTable) (ts : List LeafTable). t ∷ ts)
    (ap (λ (kept : MemberStateOf). table_of (k, (m, record x { kept = kept }))) first)
    (same_tables (k + 1) ms xs ys rest)

same_leaves : (k : ℕ) (xs ys : List MemberOf) → map kept_of xs ≡ map kept_of ys
    → flat_map leaves_in (enumerate_from k xs) ≡ flat_map leaves_in (enumerate_from k ys)
same_leaves k [] [] h = refl
same_leaves k [] (y ∷ ys) h = absurd (cc)
same_leaves k (x ∷ xs) [] h = absurd (cc)
same_leaves k (x ∷ xs) (y ∷ ys) h =
    let first : kept_of x ≡ kept_of y = cc in
    let rest : map kept_of xs ≡ map kept_of ys = cc in
    ap₂ (λ (a b : List Leaf). a ++ b)
    (ap (λ (kept : MemberStateOf). map (leaf_of k) kept.table.entries) first) (same_leaves (k + 1) xs ys rest)

-- a state with other members, and others that wait
abbrev pub with_sessions : List MemberOf → List Waiting → State → State
with_sessions members waiting s = record s { members = members; waiting = waiting }

pub same_setting : (p : PolicyOf) (s : State) (members : List MemberOf) (waiting : List Waiting)
    → map kept_of members ≡ map kept_of s.members → setting_of p (with_sessions members waiting s) ≡ setting_of p s
same_setting p s members waiting h =
    ap (λ (tables : List LeafTable). of_policies.setting_of p s.exprs tables (ups_with s.switches))
    (same_tables 0 p.members members s.members h)

-- settling ----------------------------------------------------------------------------------------------------------

-- something is waited for
abbrev pub StillWaits : Waiting → Type 0
StillWaits w = 0 < length w.parts

undone : (w : Waiting) → StillWaits w → is_done w ≡ false
undone w h = ne_eqb (length w.parts) 0 (λ e. omega (arith, e, h))

nothing_settles : (p : PolicyOf) (d : Draft) → AllByRecursion StillWaits d.state.waiting → settle p d ≡ d
nothing_settles p d h =
    ap₂ (λ (left done : List Waiting).
    fold (settle_one p) (record d { state = record d.state { waiting = left } }) done)
    (filter_all (λ (w : Waiting). not (is_done w)) d.state.waiting
    (all_weaker StillWaits (λ (w : Waiting). not (is_done w) ≡ true) (λ w k. ap not (undone w k)) d.state.waiting h))
    (filter_none is_done d.state.waiting
    (all_weaker StillWaits (λ (w : Waiting). is_done w ≡ false) undone d.state.waiting h))

-- composing ---------------------------------------------------------------------------------------------------------

-- what stands on a switch is what is wanted of it
abbrev Stands : State → ℕ → List PhysEntry → Type 0
Stands s n wanted = map entry_of (standing_of s n) ≡ by_key wanted

known_stays : (n : ℕ) (x : SwitchOf) (d : Draft) → slice_get d.state.switches n ≡ Some x
    → changed_at n (sent_to (record { known = x.known; messages = [] })) d.state.switches ≡ d.state.switches
known_stays n x d e =
    changed_same n (sent_to (record { known = x.known; messages = [] })) d.state.switches
    (λ y t. let p : x ≡ y = cc in ap (λ (z : SwitchOf). record y { known = z.known }) p)

standing_stays : (n : ℕ) (wanted : List PhysEntry) (d : Draft) → Stands d.state n wanted
    → changed_at n (λ old. standing_after d.state.next_cookie old wanted) d.state.standing ≡ d.state.standing
standing_stays n wanted d h =
    changed_same n (λ old. standing_after d.state.next_cookie old wanted) d.state.standing
    (λ ws t. all_stays d.state.next_cookie ws wanted
    (ap (λ (o : Option (List Written)). map entry_of (unwrap_or o [])) (sym t) ∙ h))

-- an empty batch is written
empty_written : (n : ℕ) (x : SwitchOf) (wanted : List PhysEntry) (d : Draft) → slice_get d.state.switches n ≡ Some x
    → Stands d.state n wanted
    → written n wanted (record { deletes = []; adds = [] }) (record { known = x.known; messages = [] }) d ≡ d
empty_written n x wanted d e h =
    let switches = known_stays n x d e in
    let standing = standing_stays n wanted d h in
    let batches = nothing_after d.batches in
    λ i. record d {
      state = record d.state { switches = switches i; standing = standing i };
      batches = batches i;
    }

nothing_written : (n : ℕ) (x : SwitchOf) (wanted : List PhysEntry) (d : Draft) → slice_get d.state.switches n ≡ Some x
    → Stands d.state n wanted → is_switch n d.begun ≡ false
    → write n x wanted (batch_between d.state.next_cookie (standing_of d.state n) wanted) d ≡ d
nothing_written n x wanted d e h b =
    ap₂ (λ (begins : Bool) (batch : Batch).
    written n wanted batch
    (send_all (switch_messages begins batch) (record { known = x.known; messages = [] })) d)
    b (batch_empty d.state.next_cookie (standing_of d.state n) wanted h)
    ∙ empty_written n x wanted d e h

-- what switches that are up have is what a setting gives
abbrev pub AreGiven : Setting → State → Type 0
AreGiven setting s =
    (n : ℕ) (x : SwitchOf) → slice_get s.switches n ≡ Some x → x.outbox.up ≡ true
    → Stands s n (installed (entries_of setting n))

nothing_at : (setting : Setting) (d : Draft) → AreGiven setting d.state → ((n : ℕ) → is_switch n d.begun ≡ false)
    → (n : ℕ) → compose_at setting d n ≡ d
nothing_at setting d g b n = by (slice_get d.state.switches n) refl
  where
    by : (o : Option SwitchOf) → slice_get d.state.switches n ≡ o
        → compose_on n o (installed (entries_of setting n)) d ≡ d
    by None e = refl
    by (Some x) e = up x.outbox.up refl
      where
        up : (u : Bool) → x.outbox.up ≡ u
            → (if u then write n x (installed (entries_of setting n))
            (batch_between d.state.next_cookie (standing_of d.state n) (installed (entries_of setting n))) d else d) ≡ d
        up true t = nothing_written n x (installed (entries_of setting n)) d e (g n x e t) (b n)
        up false t = refl

nothing_composed : (p : PolicyOf) (d : Draft) → AreGiven (setting_of p d.state) d.state
    → ((n : ℕ) → is_switch n d.begun ≡ false) → compose p d ≡ d
nothing_composed p d g b =
    fold_still (compose_at (setting_of p d.state)) d (nothing_at (setting_of p d.state) d g b) (places d.state.switches)

-- telling -----------------------------------------------------------------------------------------------------------

nothing_requested : (p : PolicyOf) (d : Draft) → d.asked ≡ [] → d.sent ≡ [] → request_all p d ≡ d
nothing_requested p d a b = λ i. fold dispatch (fold (poll p) d (a i)) (b i)

same_differ : (b : Bool) → differ b b ≡ false
same_differ true = refl
same_differ false = refl

-- ports are as they were
no_ports : (p : PolicyOf) (s : State) (members : List MemberOf) (waiting : List Waiting) (x : ℕ × MemberItem)
    → ports_told p s (with_sessions members waiting s) x ≡ []
no_ports p s members waiting (n, m) = by (is_up after (Member n))
  where
    after : State
    after = with_sessions members waiting s

    v : ℕ
    v = m.grant.ports.v

    by : (u : Bool)
        → (if u then map (port_told p after n v) (filter (has_changed p s after v) (seen_by p m)) else []) ≡ []
    by true =
        ap (map (port_told p after n v))
        (filter_never (has_changed p s after v) (λ port. same_differ (is_dark_at p s v port)) (seen_by p m))
    by false = refl

no_ports_told : (p : PolicyOf) (s : State) (members : List MemberOf) (waiting : List Waiting) (d : Draft)
    → tell_ports p s (record d { state = with_sessions members waiting s })
    ≡ record d { state = with_sessions members waiting s }
no_ports_told p s members waiting d =
    ap (λ (ports : List Letter). record d { state = with_sessions members waiting s; ports = ports })
    (ap (λ (more : List Letter). d.ports ++ more)
    (flat_none (ports_told p s (with_sessions members waiting s)) (no_ports p s members waiting)
    (enumerate_from 0 p.members)) ∙ nothing_after d.ports)

stays_owed : (s t : State) → t.counts ≡ s.counts → (o : Owed) → IsSoundOwed s o → may_go t o ≡ false
stays_owed s t e o h = ap not (ap (λ counts. is_named counts (leaf_of o.member o.entry)) e ∙ h)

no_removals : (s : State) (d : Draft) → d.state.counts ≡ s.counts → AllByRecursion (IsSoundOwed s) d.state.owed
    → tell_removals d ≡ d
no_removals s d e h =
    let may =
    all_weaker (IsSoundOwed s) (λ (o : Owed). may_go d.state o ≡ false) (stays_owed s d.state e) d.state.owed h in
    let owed =
    filter_all (λ (o : Owed). not (may_go d.state o)) d.state.owed
    (all_weaker (λ (o : Owed). may_go d.state o ≡ false) (λ (o : Owed). not (may_go d.state o) ≡ true)
    (λ o k. ap not k) d.state.owed may) in
    let removed =
    ap (λ (os : List Owed). d.removed ++ map (removal_told d.state) (by_serial os))
    (filter_none (may_go d.state) d.state.owed may) ∙ nothing_after d.removed in
    λ i. record d { state = record d.state { owed = owed i }; removed = removed i }

leaf_itself : (leaf : Leaf) → same_leaf leaf leaf ≡ true
leaf_itself leaf = ap₂ (λ (a b : Bool). a && b) (eq-eqb leaf.member leaf.member refl) (eq-eqb leaf.kind leaf.kind refl)

-- leaves that all are among others are dropped by none
none_dropped : (before after : State) → leaves_of after ≡ leaves_of before → dropped_between before after ≡ []
none_dropped before after e =
    filter_none (λ leaf. not (is_one_of (leaves_of after) leaf)) (leaves_of before)
    (all_weaker (λ leaf. is_one_of (leaves_of before) leaf ≡ true)
    (λ leaf. not (is_one_of (leaves_of after) leaf) ≡ false)
    (λ leaf k. ap not (ap (λ (leaves : List Leaf). is_one_of leaves leaf) e ∙ k)) (leaves_of before)
    (each_among same_leaf leaf_itself (leaves_of before)))

nothing_forgotten : (before : State) (d : Draft) → leaves_of d.state ≡ leaves_of before → forget before d ≡ d
nothing_forgotten before d e =
    ap (λ (leaves : List Leaf). record d { state = record d.state { counts = fold uncounted d.state.counts leaves } })
    (none_dropped before d.state e)

-- all ---------------------------------------------------------------------------------------------------------------

-- a draft of an event after which members have the tables that they had, all that waits still does, and nothing is
-- asked of switches
pub record IsQuiet (s : State) (members : List MemberOf) (waiting : List Waiting) (d : Draft) : Type 0 where
  pub tables : map kept_of members ≡ map kept_of s.members
  pub waits : AllByRecursion StillWaits waiting
  pub asked : d.asked ≡ []
  pub sent : d.sent ≡ []
  pub begun : (n : ℕ) → is_switch n d.begun ≡ false

given : (p : PolicyOf) (s : State) → IsSoundState p s → (members : List MemberOf) (waiting : List Waiting)
    → map kept_of members ≡ map kept_of s.members
    → AreGiven (setting_of p (with_sessions members waiting s)) (with_sessions members waiting s)
given p s h members waiting e n x t up =
    (h.switches n x t).gives up
    ∙ ap (λ (setting : Setting). by_key (installed (entries_of setting n))) (sym (same_setting p s members waiting e))

-- the phases after the event's own work change and say nothing
pub nothing_more : (p : PolicyOf) (s : State) → IsSoundState p s → (members : List MemberOf) (waiting : List Waiting)
    (d : Draft) → IsQuiet s members waiting d
    → tell p s (compose p (settle p (record d { state = with_sessions members waiting s })))
    ≡ record d { state = with_sessions members waiting s }
nothing_more p s h members waiting d q =
    let e = record d { state = with_sessions members waiting s } in
    let settled = nothing_settles p e q.waits in
    let composed = nothing_composed p e (given p s h members waiting q.tables) q.begun in
    let requested = nothing_requested p e q.asked q.sent in
    let leaves =
    ap (λ (a : List Leaf). a ++ map (λ (o : Owed). leaf_of o.member o.entry) s.owed)
    (same_leaves 0 members s.members q.tables) in
    ap (λ (x : Draft). tell p s (compose p x)) settled
    ∙ (ap (tell p s) composed
    ∙ (ap (λ (x : Draft). forget s (tell_removals (tell_ports p s x))) requested
    ∙ (ap (λ (x : Draft). forget s (tell_removals x)) (no_ports_told p s members waiting d)
    ∙ (ap (forget s) (no_removals s e refl h.owed) ∙ nothing_forgotten s e leaves))))
