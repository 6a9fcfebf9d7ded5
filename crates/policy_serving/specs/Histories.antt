-- The lines of the audit in a history of the machine.
use Rattle.std.specs.Prelude.{◌≡◌, ℕ, List, [], ◌∷◌, ◌++◌}
use Rattle.events.specs.declared.event.Event.{Event}
use Rattle.events.specs.declared.event.Reply.{Reply}
use Rattle.event_composes.specs.Meanings.{StateData, state_in}
use Rattle.policy_lock.specs.History.{IsLegal, after}
use Rattle.policy_lock.specs.declared.machine.Machine.{Ghosts}
use Rattle.policy_lock.specs.declared.view.Entry.{Entry}
use Rattle.machine_answers.specs.AuditLines.{line_in, lines_put}

-- those that its entries take
abbrev pub lines_taken : List (Entry Event Reply) → List (List ℕ)
lines_taken [] = []
lines_taken (x ∷ xs) = line_in x.event x.reply ++ lines_taken xs

module _ {M : Type 0} (g : Ghosts M Event Reply StateData) where
  -- those that its events put
  abbrev pub lines_made : StateData → List (Entry Event Reply) → List (List ℕ)
  lines_made d [] = []
  lines_made d (x ∷ xs) = lines_put d.plan (state_in d) x.event ++ lines_made (g.next d x.event) xs

  -- each line that is put in a history is taken in it, in its turn and once, or waits after it
  abbrev pub AuditIsKept : Type 0
  AuditIsKept =
      (d : StateData) (log : List (Entry Event Reply)) → IsLegal g d log
      → d.audit ++ lines_made d log ≡ lines_taken log ++ (after g d log).audit
