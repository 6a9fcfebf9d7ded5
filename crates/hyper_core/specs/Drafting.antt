-- The draft of an event, as it is to be moved into what is held.
use Rattle.std.specs.Prelude.{◌≡◌, Bool, true, false}
use Rattle.stats_map.specs.Changes.{CanMake}
use Rattle.policies.specs.Policies.{PolicyOf}
use Rattle.event_ends.specs.Closings.{closing_of}
use Rattle.machine_meaning.specs.Acting.{act_on}
use Rattle.machine_meaning.specs.Drafts.{Draft}
use Rattle.machine_drafts.specs.Machines.{bases_of, state_in_held}
use Rattle.machine_drafts.specs.Moments.{moment_of}
use Rattle.event_ends.specs.MovingIn.{AreParts, moved_in}
use Rattle.machine_drafts.specs.Outcomes.{Bases}
use Rattle.machine_meaning.specs.Phases.{draft_of, is_empty, overfilled}
use Rattle.event_ends.specs.Puts.{with_counts}
use Rattle.machine_meaning.specs.Putting.{put}
use Rattle.machine_meaning.specs.Rounds.{Closing, close}
use Rattle.machine_meaning.specs.Settling.{settle}
use Rattle.events.specs.declared.event.Event.{Event}
use Rattle.machine_drafts.specs.declared.held.Held.{Held}
use Rattle.event_ends.specs.declared.putting.Drafted.{Drafted}
use Rattle.event_ends.specs.declared.putting.Trial.{Trial}
use Rattle.event_ends.specs.declared.putting.Trial.TheVariants.{Ready, Slow}

-- what stands beside the draft of an event
abbrev pub bases_at : Held → Event → Bases
bases_at h e = bases_of (moment_of e h.moment) h

-- what settles where an event acts in a draft, and these sessions are closed as slow
abbrev pub settled_from : PolicyOf → Draft → Event → Closing → Draft
settled_from p d e c = settle p (close c (act_on p e d))

-- what is made ready moves this draft in
pub record IsDraftOf (h : Held) (e : Event) (d : Draft) (p : PolicyOf) (x : Drafted) : Type 0 where
  pub reply : x.reply ≡ d.reply
  pub state : moved_in (with_counts x (bases_at h e)) x.parts ≡ put p d
  pub counts : CanMake x.counts h.counts
  pub parts : AreParts (bases_at h e) x.parts
  pub moment : x.parts.moment ≡ moment_of e h.moment

-- what comes of the draft in which these sessions are closed as slow
abbrev pub IsPutOf : PolicyOf → Held → Event → Closing → Bool → Trial → Type 0
IsPutOf p h e c last (Ready x) =
    IsDraftOf h e (draft_of p (state_in_held h) e c) p x
    × (last ≡ false → is_empty (overfilled (state_in_held h) (draft_of p (state_in_held h) e c)) ≡ true)
IsPutOf p h e c last (Slow more) =
    (last ≡ false)
    × (overfilled (state_in_held h) (draft_of p (state_in_held h) e c) ≡ closing_of more)
    × (is_empty (closing_of more) ≡ false)
