-- Where no line of the audit can be taken, none waits.
use Rattle.std.proofs.Common.{◌≡◌, true, false, List, [], ◌∷◌, refl, true≢false, sym}
use Rattle.events.specs.declared.event.Event.TheVariants.{Take}
use Rattle.endpoint_works.specs.Audits.{audit}
use Rattle.event_composes.specs.Meanings.{StateData, is_idle}
use Rattle.machine_meaning.specs.Glances.{unless_taken}
use Rattle.machine_meaning.specs.Takings.{reply_of}
use Rattle.outbox.specs.Outboxes.{first}
use Rattle.std.specs.Prelude.{is_some, ℕ}

none_waits : (waiting : List (List ℕ)) → is_some (unless_taken (reply_of (first waiting))) ≡ true → waiting ≡ []
none_waits [] idle = refl
none_waits (line ∷ waiting) idle = absurd (true≢false (sym idle))

pub drained : (d : StateData) → is_idle d (Take audit) ≡ true → d.audit ≡ []
unfolding is_idle
drained d idle = none_waits d.audit idle
