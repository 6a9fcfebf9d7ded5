-- A member's entries go whose time is up; where there are none its table stays as it is.
use Rattle.std.proofs.Common.{◌≡◌, ◌∙◌, ℕ, ◌==◌, Bool, true, false, List, [], ◌∷◌, Option, Some, length, refl, sym}
use Rattle.std.proofs.Common.{subst, ap, ap₂, eqb-true}
use Rattle.std.specs.Prelude.{cond, filter, map, nat_le, not}
use Rattle.level_map.specs.Levels.{Levels}
use Rattle.member_table.specs.Tables.{TableOf}
use Rattle.member_table.specs.Timeouts.{is_hard_due, serials_of, without_expired}
use Rattle.member_table.specs.declared.entry.Entry.{Entry}
use Rattle.member_state.specs.Changes.{entries_of, expired, inserted, is_told, levels_kept, rising, rising_serials}
use Rattle.member_state.specs.Plans.{after_planned}
use Rattle.member_state.specs.States.{AreLevelled, IsSoundState, MemberStateOf}
use Rattle.member_state.specs.declared.planned.Planned.{Planned}
use Rattle.member_state.proofs.Unused.{all_kept}
use Rattle.machine_drafts.proofs.Parted.{empty_list}
use Rattle.outbox.specs.declared.outbox.Turn.{Turn}
use Rattle.machine_meaning.specs.Removing.{due_in, with_kept}
use Rattle.machine_meaning.specs.declared.state.Config.{Config}
use Rattle.machine_drafts.specs.MemberDrafts.{IsUnplanned, MemberDraftOf, member_after, with_now}
use Rattle.machine_drafts.specs.declared.session.Member.{Member}

-- some number among others that rise isn't none
some_inserted : (n : ℕ) (ks : List ℕ) → inserted n ks ≡ [] → [] ≡ n ∷ ks
some_inserted n [] e = absurd (cc)
some_inserted n (k ∷ ks) e = by (nat_le n k) e
  where
    by : (b : Bool) → cond b (n ∷ k ∷ ks) (k ∷ inserted n ks) ≡ [] → [] ≡ n ∷ k ∷ ks
    by true e = absurd (cc)
    by false e = absurd (cc)

none_rising : (ns : List ℕ) → rising ns ≡ [] → ns ≡ []
none_rising [] e = refl
none_rising (n ∷ ns) e = let no = some_inserted n (rising ns) e in absurd (cc)

-- where none passes a test, all pass its opposite
none_passes : (test : Entry → Bool) (es : List Entry) → serials_of test es ≡ [] → filter (λ e. not (test e)) es ≡ es
none_passes test [] h = refl
none_passes test (e ∷ es) h = by (test e) refl (none_passes test es) h
  where
    by : (b : Bool) → test e ≡ b → (serials_of test es ≡ [] → filter (λ x. not (test x)) es ≡ es)
        → map (λ (x : Entry). x.serial) (cond b (e ∷ filter test es) (filter test es)) ≡ []
        → filter (λ x. not (test x)) (e ∷ es) ≡ e ∷ es
    by true t rest k = absurd (cc)
    by false t rest k =
        ap (λ c. cond (not c) (e ∷ filter (λ x. not (test x)) es) (filter (λ x. not (test x)) es)) t
        ∙ ap (λ passing. e ∷ passing) (rest k)

pub none_due : (now : ℕ) (x : MemberStateOf) → AreLevelled x.table.entries x.levels
    → [] ≡ rising_serials (is_hard_due now) x.table.entries → expired now x ≡ x
none_due now x ranks none =
    let serials = none_rising (serials_of (is_hard_due now) x.table.entries) (sym none) in
    let same : without_expired now x.table ≡ x.table
    = ap (λ (es : List Entry). record x.table { entries = es })
    (none_passes (is_hard_due now) x.table.entries serials) in
    let kept : levels_kept x.table.entries x.levels ≡ x.levels
    = all_kept x.table.entries x.levels (λ q e. sym (ranks q) ∙ e) in
    ap (λ (t : TableOf). record { table = t; levels = levels_kept t.entries x.levels }) same
    ∙ ap (λ (l : Levels). record x { levels = l }) kept

-- a draft of a member of which nothing is planned, and no entry's time is up
pub draft_stays : (d : MemberDraftOf) (base : Member) (moment : ℕ) (hard : List ℕ) → d.base ≡ base → d.moment ≡ moment
    → IsUnplanned d → IsSoundState base.kept.state → (length hard == 0) ≡ true
    → hard ≡ rising_serials (is_hard_due moment) base.kept.state.table.entries
    → d ≡ with_now (with_kept (expired d.moment)) d
draft_stays d base moment hard is_base is_moment unplanned sound none due =
    let x = base.kept.state in
    let kept : d.now.kept ≡ x = unplanned ∙ ap (λ (y : Member). y.kept.state) is_base in
    let empty : hard ≡ [] = empty_list hard (eqb-true (length hard) 0 none) in
    let same : expired d.moment d.now.kept ≡ d.now.kept
    = ap₂ expired is_moment kept ∙ (none_due moment x sound.kept.ranks (sym empty ∙ due) ∙ sym kept) in
    sym (ap (λ (k : MemberStateOf). record d { now = record d.now { kept = k } }) same)

-- and one of which some entries' time is up
pub draft_expires : (d : MemberDraftOf) (base : Member) (moment : ℕ) (turn : Turn) (config : Config)
    (before : Option Planned) (planned : Planned)
    → record { base = base; moment = moment; now = member_after base moment turn config before } ≡ d → IsUnplanned d
    → after_planned base.kept.state planned moment ≡ expired moment base.kept.state
    → record { base = base; moment = moment; now = member_after base moment turn config (Some planned) }
    ≡ with_now (with_kept (expired d.moment)) d
draft_expires d base moment turn config before planned is unplanned e =
    let x : MemberDraftOf =
    record { base = base; moment = moment; now = member_after base moment turn config before } in
    let y : MemberDraftOf =
    record { base = base; moment = moment; now = member_after base moment turn config (Some planned) } in
    let kept : x.now.kept ≡ base.kept.state = subst IsUnplanned (sym is) unplanned in
    let here : y ≡ with_now (with_kept (expired x.moment)) x =
    ap (λ (k : MemberStateOf). record x { now = record x.now { kept = k } }) (e ∙ ap (expired moment) (sym kept)) in
    subst (λ (z : MemberDraftOf). y ≡ with_now (with_kept (expired z.moment)) z) is here

-- of such entries those of which the member is told
pub due_told : (d : MemberDraftOf) (base : Member) (moment : ℕ) (hard : List ℕ) (es : List Entry) → d.base ≡ base
    → d.moment ≡ moment → IsUnplanned d
    → hard ≡ rising_serials (is_hard_due moment) base.kept.state.table.entries
    → es ≡ filter is_told (entries_of base.kept.state.table.entries hard)
    → es ≡ filter is_told (due_in d.moment d.now)
due_told d base moment hard es is_base is_moment unplanned due e =
    let kept : base.kept.state ≡ d.now.kept = sym (unplanned ∙ ap (λ (y : Member). y.kept.state) is_base) in
    e
    ∙ (ap (λ (ns : List ℕ). filter is_told (entries_of base.kept.state.table.entries ns)) due
    ∙ (λ i. filter is_told (entries_of (kept i).table.entries
    (rising_serials (is_hard_due (sym is_moment i)) (kept i).table.entries))))
