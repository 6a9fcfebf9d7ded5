-- What an event puts into the audit are lines of the audit.
use Rattle.std.proofs.Common.{◌≡◌, ◌∙◌, ℕ, suc, ◌+◌, ◌==◌, Bool, true, false, List, [], ◌∷◌, ◌++◌, map, filter}
use Rattle.std.proofs.Common.{Some, None}
use Rattle.std.proofs.Common.{Option, if◌then◌else◌, refl, ap}
use Rattle.std.specs.Prelude.{flat_map, slice_get}
use Rattle.std.specs.List.{AllByRecursion, enumerate_from}
use Rattle.cv_io.specs.declared.leaf.Who.{Who}
use Rattle.cv_io.specs.declared.leaf.Who.TheVariants.{Audit, Member, Switch}
use Rattle.events.specs.declared.event.Event.{Event}
use Rattle.events.specs.declared.event.Event.TheVariants as events
use Rattle.events.specs.declared.event.Reply.{Reply}
use Rattle.member_replies.specs.Audit.{down_line, note_line, slow_line}
use Rattle.member_replies.specs.Refusals.{deny_line}
use Rattle.outbox.specs.Outboxes.{is_open, later}
use Rattle.policies.specs.Policies.{PolicyOf}
use Rattle.policies.specs.declared.policy.MemberItem.{MemberItem}
use Rattle.switch_state.proofs.Fitting.{all_joined}
use Rattle.machine_meaning.specs.Drafts.{Draft}
use Rattle.machine_meaning.specs.Glances.{glance_of}
use Rattle.machine_meaning.specs.Hearing.{heard}
use Rattle.machine_meaning.specs.Lists.{places}
use Rattle.machine_meaning.specs.Names.{switch_name}
use Rattle.machine_meaning.specs.Phases.{drafted, slow}
use Rattle.machine_meaning.specs.Putting.{down_lines, lines_of, put, slow_lines}
use Rattle.machine_meaning.specs.States.{State}
use Rattle.machine_meaning.specs.Steps.{step_by}
use Rattle.machine_meaning.specs.Takings.{audit_outbox, left_by}
use Rattle.machine_meaning.specs.declared.said.Down.{Down}
use Rattle.machine_meaning.proofs.Numbered.{behind, from_zero, here}
use Rattle.written_tables.specs.AuditLines.{IsAuditLine, is_denied, is_down, is_noted, is_replaced, is_slow}
use Rattle.written_tables.specs.Laws.{AuditHasItsLines, HasAuditLines}
use Rattle.written_tables.proofs.Acting.{draft_holds}
use Rattle.written_tables.proofs.Boxes.{Boxes, IsStable}

module _ (p : PolicyOf) where
  abbrev AreLines : List (List ℕ) → Type 0
  AreLines ls = AllByRecursion (IsAuditLine p) ls

  both : (xs ys : List (List ℕ)) → AreLines xs → AreLines ys → AreLines (xs ++ ys)
  both xs ys a b = all_joined (IsAuditLine p) xs ys a b

  one_more : (xs : List (List ℕ)) (x : List ℕ) → AreLines xs → IsAuditLine p x → AreLines (xs ++ x ∷ [])
  one_more xs x a b = both xs (x ∷ []) a (b, tt)

  -- what a draft says to the audit
  abbrev Says : Boxes → Type 0
  Says v = AreLines v.audit × (AreLines v.policies × (AreLines v.denials × AreLines v.notes))

  says : (e : Event) → IsStable p e Says
  says e = record {
    ends = record { member = λ k v h. h; switch = λ k v h. h };
    member_begun = λ k arp is v h. h;
    switch_begun = λ k arp is v h. h;
    denied = λ k m at xid denial v h. (
      h.0,
      (
        h.1.0,
        (
          one_more v.denials (deny_line m.controller m.vsw xid denial) h.1.1.0
              (is_denied k m at xid denial),
          h.1.1.1,
        ),
      ),
    );
    replaced = λ k refusal v h.
        (h.0, (one_more v.policies _ h.1.0 (is_replaced k refusal), h.1.1));
    noted = λ k v h.
        (h.0, (h.1.0, (h.1.1.0, one_more v.notes (note_line (switch_name p k)) h.1.1.1 (is_noted k))));
  }

  -- the lines of rounds that ended
  downs_of : (n : ℕ) (downs : List Down) → AreLines (map (λ (x : Down). down_line (switch_name p n) x.cause) downs)
  downs_of n [] = tt
  downs_of n (x ∷ xs) = (is_down n x.cause, downs_of n xs)

  all_downs : (downs : List Down) (ns : List ℕ) → AreLines (flat_map (down_lines p downs) ns)
  all_downs downs [] = tt
  all_downs downs (n ∷ ns) =
      both (down_lines p downs n) (flat_map (down_lines p downs) ns)
      (downs_of n (filter (λ (x : Down). x.switch == n) downs)) (all_downs downs ns)

  -- the lines of members that are closed as slow
  slows_of : (n : ℕ) (m : MemberItem) → slice_get p.members n ≡ Some m → (ks : List ℕ)
      → AreLines (map (λ k. slow_line m.controller m.vsw) ks)
  slows_of n m at [] = tt
  slows_of n m at (k ∷ ks) = (is_slow n m at, slows_of n m at ks)

  all_slows : (slows : List ℕ) (j : ℕ) (ms : List MemberItem)
      → ((i : ℕ) (m : MemberItem) → slice_get ms i ≡ Some m → slice_get p.members (j + i) ≡ Some m)
      → AreLines (flat_map (slow_lines slows) (enumerate_from j ms))
  all_slows slows j [] there = tt
  all_slows slows j (m ∷ ms) there =
      both (slow_lines slows (j, m)) (flat_map (slow_lines slows) (enumerate_from (j + 1) ms))
      (slows_of j m (ap (slice_get p.members) (here j) ∙ there 0 m refl) (filter (λ k. k == j) slows))
      (all_slows slows (j + 1) ms
      (λ i x at. ap (slice_get p.members) (behind j i) ∙ there (suc i) x at))

  said : (d : Draft) → AreLines d.policies → AreLines d.denials → AreLines d.notes → AreLines (lines_of p d)
  said d policies denials notes =
      let downs = flat_map (down_lines p d.downs) (places p.switches) in
      let slows = flat_map (slow_lines d.slows) (enumerate_from 0 p.members) in
      both d.policies (d.denials ++ (downs ++ (slows ++ d.notes))) policies
      (both d.denials (downs ++ (slows ++ d.notes)) denials
      (both downs (slows ++ d.notes) (all_downs d.downs (places p.switches))
      (both slows d.notes
      (all_slows d.slows 0 p.members (λ i m at. ap (slice_get p.members) (from_zero i) ∙ at)) notes)))

  later_lines : (ls : List (List ℕ)) → AreLines ls → AreLines (later ls)
  later_lines [] h = tt
  later_lines (l ∷ ls) h = h.1

  module _ (s : State) (h : HasAuditLines p s) where
    through : (e : Event) → HasAuditLines p (put p (drafted p (heard s e) e))
    through e =
        let d = drafted p (heard s e) e in
        let r = draft_holds p e Says (says e) (heard s e) (slow p (heard s e) e) (h, (tt, (tt, tt))) in
        both d.state.audit (lines_of p d) r.0 (said d r.1.0 r.1.1.0 r.1.1.1)

    left : (who : Who) (round : ℕ) → HasAuditLines p (left_by who round s)
    left (Member n) round = h
    left (Switch n) round = h
    left Audit round = by (is_open (audit_outbox s) round)
      where
        by : (b : Bool)
            → AreLines (if b then record (audit_outbox s) { waiting = later s.audit } else audit_outbox s).waiting
        by true = later_lines s.audit h
        by false = h

    forth : (e : Event) → HasAuditLines p (step_by None p s e).1
    forth (events.Up who arp) = through (events.Up who arp)
    forth (events.Msg session frame) = through (events.Msg session frame)
    forth (events.Gone session) = through (events.Gone session)
    forth (events.Tick second) = through (events.Tick second)
    forth (events.Take session) = left session.who session.round
    forth (events.Policy v text) = through (events.Policy v text)

    each : (o : Option Reply) (e : Event) → HasAuditLines p (step_by o p s e).1
    each None e = forth e
    each (Some reply) e = h

pub audit_has_lines : AuditHasItsLines
audit_has_lines p s e h = each p s h (glance_of p s e) e
