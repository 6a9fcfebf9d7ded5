-- What comes of a draft that is put is what comes of the event's draft.
use Rattle.std.proofs.Common.{◌≡◌, ℕ, ◌-◌, ◌<◌, ◌^◌, Bool, true, length, map, sym, ap, ap₂, ◌∙◌, subst}
use Rattle.std.specs.Prelude.{◌==◌}
use Rattle.std.specs.Prelude.{IfSome, Option}
use Rattle.std.proofs.lemmas.List.{length-map}
use Rattle.composed_tables.specs.Composing.{ComposedOf}
use Rattle.policies.specs.Policies.{PolicyOf}
use Rattle.stats_map.specs.Changes.{CanMake, made}
use Rattle.stats_map.specs.Told.{HeldOf}
use Rattle.event_ends.specs.Closings.{closing_of}
use Rattle.hyper_core.specs.Drafting.{IsDraftOf, IsPutOf, bases_at}
use Rattle.machine_meaning.specs.Drafts.{Draft}
use Rattle.event_composes.specs.Kept.{IsComposedOf}
use Rattle.machine_drafts.specs.Machines.{HasAll, bases_of, state_in_held}
use Rattle.machine_drafts.specs.Moments.{moment_of}
use Rattle.machine_drafts.specs.Moving.{member_moved, switch_moved}
use Rattle.event_ends.specs.MovingIn.{AreParts, moved_in}
use Rattle.machine_drafts.specs.Outcomes.{Bases, IsBefore, bases, draft_in}
use Rattle.machine_meaning.specs.Phases.{both, draft_of, drafted, is_empty, overfilled, settled_of, slow, slow_from}
use Rattle.event_ends.specs.Puts.{IsPut, with_counts}
use Rattle.machine_drafts.specs.Outcomes.{HaveNumbers}
use Rattle.machine_meaning.specs.Putting.{put}
use Rattle.machine_meaning.specs.Rounds.{Closing}
use Rattle.machine_meaning.specs.States.{State}
use Rattle.machine_meaning.specs.Steps.{done}
use Rattle.machine_drafts.specs.Views.{member_of, switch_of}
use Rattle.events.specs.declared.event.Event.{Event}
use Rattle.events.specs.declared.event.Reply.{Reply}
use Rattle.machine_drafts.specs.declared.held.Held.{Held}
use Rattle.event_ends.specs.declared.moving.Parts.{Parts}
use Rattle.machine_drafts.specs.declared.outcome.Outcome.{Outcome}
use Rattle.event_ends.specs.declared.overfilled.Closing.{Closing as ClosingHeld}
use Rattle.event_ends.specs.declared.putting.Drafted.{Drafted}
use Rattle.event_ends.specs.declared.putting.Trial.{Trial}
use Rattle.event_ends.specs.declared.putting.Trial.TheVariants.{Ready, Slow}
use Rattle.machine_drafts.proofs.Parted.{length-after_parts}
use Rattle.event_composes.proofs.Phased.{slow_more, slow_settled, stands_before}

pub put_at : (p : PolicyOf) (h : Held) (e : Event) (c : Closing) (last : Bool) (o : Outcome) (r : Trial)
    → draft_in o ≡ draft_of p (state_in_held h) e c → bases o ≡ bases_at h e → IsPut p o last r → IsPutOf p h e c last r
put_at p h e c last o (Ready x) d b i =
    let before : IsBefore (bases o) (state_in_held h)
    = subst (λ z. IsBefore z (state_in_held h)) (sym b) (stands_before (moment_of e h.moment) h) in (
      record {
        reply = i.0.reply ∙ ap (λ (z : Draft). z.reply) d;
        state = ap (λ (z : Bases). moved_in (with_counts x z) x.parts) (sym b) ∙ (i.0.state ∙ ap (put p) d);
        counts = subst (λ (z : Bases). CanMake x.counts z.counts) b i.0.counts;
        parts = subst (λ z. AreParts z x.parts) b i.0.parts;
        moment = i.0.moment ∙ ap (λ (z : Bases). z.moment) b;
      },
      λ l. subst (λ z. is_empty (overfilled (state_in_held h) z) ≡ true) d (i.1 l (state_in_held h) before),
    )
put_at p h e c last o (Slow closing) d b i =
    let before : IsBefore (bases o) (state_in_held h)
    = subst (λ z. IsBefore z (state_in_held h)) (sym b) (stands_before (moment_of e h.moment) h) in
    (i.0, ap (overfilled (state_in_held h)) (sym d) ∙ i.1 (state_in_held h) before, i.2)

-- where the state is the same there are as many members and switches
same_members : (h new : Held) → state_in_held new ≡ state_in_held h → length new.members ≡ length h.members
same_members h new e =
    sym (length-map new.members member_of)
    ∙ (ap (λ (s : State). length s.members) e ∙ length-map h.members member_of)

same_switches : (h new : Held) → state_in_held new ≡ state_in_held h → length new.switches ≡ length h.switches
same_switches h new e =
    sym (length-map new.switches switch_of)
    ∙ (ap (λ (s : State). length s.switches) e ∙ length-map h.switches switch_of)

pub numbers_kept : (h new : Held) (then now : ℕ) → state_in_held new ≡ state_in_held h → HaveNumbers (bases_of then h)
    → HaveNumbers (bases_of now new)
numbers_kept h new then now e few = record {
  members = subst (λ k. k < 2 ^ 32) (sym (same_members h new e)) few.members;
  switches = subst (λ k. k < 2 ^ 32) (sym (same_switches h new e)) few.switches;
}

pub has_all_kept : (p : PolicyOf) (h new : Held) → HasAll p h → state_in_held new ≡ state_in_held h → HasAll p new
has_all_kept p h new all e =
    record { members = same_members h new e ∙ all.members; switches = same_switches h new e ∙ all.switches }

-- what is drafted at last closes all that are slow
pub all_drafted : (p : PolicyOf) (h : Held) (s : State) (e : Event) (c : Closing) (n : ℕ) (x : Drafted)
    → state_in_held h ≡ s → IsPutOf p h e c (n == 0) (Ready x) → slow_from n p s e c ≡ slow p s e
    → IsDraftOf h e (drafted p s e) p x
all_drafted p h s e c n x same put rest =
    let all : c ≡ slow p s e =
    sym (slow_settled p (state_in_held h) e c n put.1) ∙ (ap (λ z. slow_from n p z e c) same ∙ rest) in
    subst (λ z. IsDraftOf h e z p x) (ap (λ z. draft_of p z e c) same ∙ ap (draft_of p s e) all) put.0

-- and where more are slow, it is drafted anew once less
pub drafted_anew : (p : PolicyOf) (h : Held) (s : State) (e : Event) (c : Closing) (n : ℕ) (more : ClosingHeld)
    → state_in_held h ≡ s → IsPutOf p h e c (n == 0) (Slow more) → slow_from n p s e c ≡ slow p s e
    → slow_from (n - 1) p s e (both c (closing_of more)) ≡ slow p s e
drafted_anew p h s e c n more same put rest =
    slow_more p s e c (closing_of more) n put.0
    (subst (λ z. overfilled z (draft_of p z e c) ≡ closing_of more) same put.1) put.2
    ∙ rest

-- what is held, once counts are changed
abbrev pub held_with : Held → HeldOf → Held
held_with h counts = record h { counts = counts }

-- what is made ready can be moved into what is held then, and gives the state in which all is put
pub drafted_moves : (p : PolicyOf) (h : Held) (e : Event) (d : Draft) (x : Drafted) (counts : HeldOf)
    → IsDraftOf h e d p x → counts ≡ made x.counts h.counts
    → AreParts (bases_of x.parts.moment (held_with h counts)) x.parts
drafted_moves p h e d x counts i made = record {
  all_members = i.parts.all_members;
  all_switches = i.parts.all_switches;
  members = i.parts.members;
  switches = i.parts.switches;
  audit = i.parts.audit;
}

pub drafted_gives : (p : PolicyOf) (h : Held) (e : Event) (d : Draft) (x : Drafted) (counts : HeldOf)
    → IsDraftOf h e d p x → counts ≡ made x.counts h.counts
    → moved_in (bases_of x.parts.moment (held_with h counts)) x.parts ≡ put p d
drafted_gives p h e d x counts i is =
    ap (λ (c : HeldOf). moved_in (bases_of x.parts.moment (held_with h c)) x.parts) is
    ∙ (ap (λ m. moved_in (with_counts x (bases_of m h)) x.parts) i.moment ∙ i.state)

-- its reply and that state are what the draft gives
pub drafted_done : (p : PolicyOf) (h : Held) (e : Event) (d : Draft) (x : Drafted) (counts : HeldOf) (new : State)
    → IsDraftOf h e d p x → counts ≡ made x.counts h.counts
    → new ≡ moved_in (bases_of x.parts.moment (held_with h counts)) x.parts → (x.reply, new) ≡ done p d
drafted_done p h e d x counts new i made moved =
    ap₂ (λ (r : Reply) (s : State). (r, s)) i.reply (moved ∙ drafted_gives p h e d x counts i made)

-- there are as many members and switches as before
pub has_all_moved : (p : PolicyOf) (h new : Held) (now : ℕ) (parts : Parts) → HasAll p h
    → state_in_held new ≡ moved_in (bases_of now h) parts → HasAll p new
has_all_moved p h new now parts all e =
    let members = ap (λ (s : State). s.members) e in
    let switches = ap (λ (s : State). s.switches) e in
    record {
      members =
          sym (length-map new.members member_of)
          ∙ (ap (λ xs. length xs) members
          ∙ (length-after_parts member_moved (map member_of h.members) parts.members
          ∙ (length-map h.members member_of ∙ all.members)));
      switches =
          sym (length-map new.switches switch_of)
          ∙ (ap (λ xs. length xs) switches
          ∙ (length-after_parts switch_moved (map switch_of h.switches) parts.switches
          ∙ (length-map h.switches switch_of ∙ all.switches)));
    }

-- what is kept of what settled where these are closed is kept of what settled where all that are slow are
pub kept_drafted : (p : PolicyOf) (h : Held) (s : State) (e : Event) (c : Closing) (n : ℕ) (x : Drafted)
    (k : Option ComposedOf) → state_in_held h ≡ s → IsPutOf p h e c (n == 0) (Ready x)
    → slow_from n p s e c ≡ slow p s e → IfSome k (IsComposedOf p (settled_of p s e c).state)
    → IfSome k (IsComposedOf p (settled_of p s e (slow p s e)).state)
kept_drafted p h s e c n x k same put rest i =
    let all : c ≡ slow p s e =
    sym (slow_settled p (state_in_held h) e c n put.1) ∙ (ap (λ z. slow_from n p z e c) same ∙ rest) in
    subst (λ (z : Closing). IfSome k (IsComposedOf p (settled_of p s e z).state)) all i
