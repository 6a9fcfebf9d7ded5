-- Steps of following a packet.
use Rattle.std.proofs.Common.{◌≡◌, ◌≢◌, ℕ, suc, ◌+◌, ◌-◌, ◌<◌, ◌≤◌, List, ◌∷◌, Some, length, get_or, drop, ap, sym, ◌∙◌}
use Rattle.std.proofs.Common.{append_assoc, add-one, arith}
use Rattle.std.proofs.lemmas.List.{append-nil, at_drop_more, at_drop_all}
use Rattle.std.proofs.lemmas.List.Elements.{recursion_from_All}
use Rattle.of10_match.specs.Fields.{HeaderOf}
use Rattle.of10_actions.specs.Actions.{AreInRange}
use Rattle.switch_meaning.specs.Firing.{fire_entry}
use Rattle.switch_meaning.specs.Following.{Choice, all_go, both_seen, copies_at, fires_on, follow, goes_out, unseen}
use Rattle.switch_meaning.specs.MayUse.{MayUse}
use Rattle.switch_meaning.specs.Tables.{IsTableInRange}
use Rattle.switch_meaning.specs.Wirings.{far_end}
use Rattle.switch_meaning.specs.declared.entry.FlowEntry.{FlowEntry}
use Rattle.switch_meaning.specs.declared.fired.Fired.{Fired}
use Rattle.switch_meaning.specs.declared.fired.Seen.{Seen}
use Rattle.switch_meaning.specs.declared.fired.Sent.{Sent}
use Rattle.switch_meaning.specs.declared.wiring.Wiring.{Wiring}
use Rattle.switch_meaning.proofs.Members.{from-place, in-all}

pub both_seen-groups : (a b c : Seen) → both_seen (both_seen a b) c ≡ both_seen a (both_seen b c)
both_seen-groups a b c = λ i. record {
  outs = (append_assoc a.outs b.outs c.outs) i;
  copies = (append_assoc a.copies b.copies c.copies) i;
}

pub both_seen-unseen : (a : Seen) → both_seen a unseen ≡ a
both_seen-unseen a = λ i. record { outs = (append-nil a.outs) i; copies = (append-nil a.copies) i }

-- one out more goes
pub gone_more : (w : Wiring) (on : List ℕ → ℕ → HeaderOf
    → Seen) (way : List ℕ) (switch : ℕ) (outs : List Sent) (i : ℕ) (out : Sent) (seen new all : Seen) →
    i < length outs → out ≡ get_or outs i out →
    new ≡ both_seen seen (goes_out (far_end w (record { switch = switch; port = out.port }))
    (record { switch = switch; port = out.port }) out.header (on (i ∷ way))) →
    both_seen seen (all_go w on way switch i (drop i outs)) ≡ all
    → both_seen new (all_go w on way switch (i + 1) (drop (i + 1) outs)) ≡ all
gone_more w on way switch outs i out seen new all lt is added e =
    let at = λ (o : Sent). goes_out (far_end w (record { switch = switch; port = o.port }))
    (record { switch = switch; port = o.port }) o.header (on (i ∷ way)) in
    let rest = all_go w on way switch (i + 1) (drop (i + 1) outs) in
    let split : all_go w on way switch i (drop i outs) ≡ both_seen (at out) rest =
    at_drop_more (all_go w on way switch i) outs i out lt
    ∙ (λ j. both_seen (at ((sym is) j)) (all_go w on way switch ((sym (add-one i)) j) (drop (i + 1) outs))) in
    ap (λ (s : Seen). both_seen s rest) added
    ∙ (both_seen-groups seen (at out) rest ∙ (ap (both_seen seen) (sym split) ∙ e))

-- all outs went
pub gone_all : (w : Wiring) (on : List ℕ → ℕ → HeaderOf
    → Seen) (way : List ℕ) (switch : ℕ) (outs : List Sent) (i : ℕ) (seen all : Seen) →
    length outs ≤ i → both_seen seen (all_go w on way switch i (drop i outs)) ≡ all → seen ≡ all
gone_all w on way switch outs i seen all le e =
    sym (both_seen-unseen seen) ∙ (ap (both_seen seen) (sym (at_drop_all (all_go w on way switch i) outs i le)) ∙ e)

turn : (n : ℕ) → n ≢ 0 → n ≡ suc (n - 1)
turn n ne = omega arith

-- a switch took a packet up
pub taken_up : (w : Wiring) (choice : Choice) (turns : ℕ) (way : List ℕ) (switch : ℕ) (h : HeaderOf)
    (old copied seen : Seen) (fired : Fired) (outs : List Sent) →
    outs ≡ fired.outs → turns ≢ 0 → fired ≡ fire_entry (choice way switch h) h
    → copied ≡ both_seen old (copies_at switch fired.copies) →
    seen ≡ both_seen copied (all_go w (follow w choice (turns - 1)) way switch 0 outs)
    → seen ≡ both_seen old (follow w choice turns way switch h)
taken_up w choice turns way switch h old copied seen fired outs sent ne is made e =
    e ∙ (ap (λ (xs : List Sent). both_seen copied (all_go w (follow w choice (turns - 1)) way switch 0 xs)) sent
    ∙ (ap (λ (s : Seen). both_seen s (all_go w (follow w choice (turns - 1)) way switch 0 fired.outs)) made
    ∙ (both_seen-groups old (copies_at switch fired.copies)
    (all_go w (follow w choice (turns - 1)) way switch 0 fired.outs)
    ∙ (ap (λ (f : Fired). both_seen old (fires_on w (follow w choice (turns - 1)) way switch f)) is
    ∙ ap (λ (n : ℕ). both_seen old (follow w choice n way switch h)) (sym (turn turns ne))))))

-- the actions of an entry that a switch may use
pub used-in_range : (table : List FlowEntry) (h : HeaderOf) (e : FlowEntry) → IsTableInRange table
    → MayUse table h (Some e) → AreInRange e.actions
used-in_range table h e in_range may = in-all (λ (e : FlowEntry). AreInRange e.actions) (from-place e table may.stands)
    (recursion_from_All (λ (e : FlowEntry). AreInRange e.actions) table in_range)
