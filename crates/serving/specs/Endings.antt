-- What is written at the end of a run of what still waits of the audit.
use Rattle.std.specs.Prelude.{◌≡◌, ℕ, true, false, List, Option, Some, None, All, take}
use Rattle.outside.specs.Outside.{Rose}
use Rattle.events.specs.declared.event.Event.{Event}
use Rattle.events.specs.declared.event.Event.TheVariants.{Take}
use Rattle.events.specs.declared.event.Reply.{Reply}
use Rattle.events.specs.declared.event.Reply.TheVariants.{Taken}
use Rattle.policy_lock.specs.History.{IsLegal, after}
use Rattle.policy_lock.specs.declared.machine.Machine.{Ghosts}
use Rattle.policy_lock.specs.declared.view.Entry.{Entry}
use Rattle.sessions.specs.Streams.{Appends}
use Rattle.endpoint_works.specs.Audits.{audit, lines}
use Rattle.serving.specs.Histories.{TakesLine, lines_taken}
use Rattle.serving.specs.declared.closing.Rest.{Rest}
use Rattle.serving.specs.declared.closing.Rest.TheVariants.{Written, WriteFault, Memory}

-- of a machine that meant s and then t
module _ {M S : Type 0} (g : Ghosts M Event Reply S) (s t : S) where
  -- the next line of the audit was taken, or none waited and nothing changed
  abbrev pub TakesNext : Option (List ℕ) → Type 0
  TakesNext None = (g.idle s (Take audit) ≡ true) × (t ≡ s)
  TakesNext (Some line) =
      (g.idle s (Take audit) ≡ false) × (g.reply s (Take audit) ≡ Taken line) × (t ≡ g.next s (Take audit))

module _ {M S : Type 0} (g : Ghosts M Event Reply S) (s t : S) (held written : Option (List ℕ)) where
  -- lines of the audit were taken, and are written
  pub record WroteRest : Type 0 where
    pub rest : List (Entry Event Reply)
    pub takings : All TakesLine rest
    pub legal : IsLegal g s rest
    pub means : t ≡ after g s rest
    pub wrote : Appends held written (lines (lines_taken rest))

  -- the same, but that the end of what was taken may be cut off
  pub record WroteRestUpTo : Type 0 where
    pub rest : List (Entry Event Reply)
    pub takings : All TakesLine rest
    pub legal : IsLegal g s rest
    pub count : ℕ
    pub wrote : Appends held written (take count (lines (lines_taken rest)))

  -- how the writing ended, to a sink whose faults were so many
  abbrev pub EndsRest : (faults risen : ℕ) → Rest → Type 0
  EndsRest faults risen Written = WroteRest × (g.idle t (Take audit) ≡ true)
  EndsRest faults risen WriteFault = WroteRestUpTo × Rose faults risen
  EndsRest faults risen Memory = WroteRest
