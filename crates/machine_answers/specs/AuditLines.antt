-- The lines of the audit: those that events put to it, and those that are taken from it.
use Rattle.std.specs.Prelude.{◌≡◌, ℕ, Bool, true, false, List, [], ◌∷◌, ◌++◌, fold, if◌then◌else◌}
use Rattle.std.specs.Option.{option_map_or}
use Rattle.cv_io.specs.declared.leaf.Who.{Who}
use Rattle.cv_io.specs.declared.leaf.Who.TheVariants.{Audit, Member, Switch}
use Rattle.events.specs.declared.event.Event.{Event}
use Rattle.events.specs.declared.event.Event.TheVariants.{Take}
use Rattle.events.specs.declared.event.Reply.{Reply}
use Rattle.events.specs.declared.event.Reply.TheVariants.{Taken}
use Rattle.policies.specs.Policies.{PolicyOf}
use Rattle.machine_meaning.specs.Putting.{lines_of}
use Rattle.machine_meaning.specs.Runs.{after}
use Rattle.machine_meaning.specs.States.{State}
use Rattle.machine_meaning.specs.Steps.{step_of}
use Rattle.machine_meaning.specs.Written.{draft_in}

abbrev pub is_audit : Who → Bool
is_audit (Member n) = false
is_audit (Switch n) = false
is_audit Audit = true

-- the lines that an event puts to the audit
abbrev pub lines_put : PolicyOf → State → Event → List (List ℕ)
lines_put p s e = option_map_or (lines_of p) (draft_in p s e) []

-- the line that an event takes from it, with its reply
abbrev pub line_in : Event → Reply → List (List ℕ)
line_in (Take session) (Taken line) = if is_audit session.who then line ∷ [] else []
line_in e reply = []

-- the lines that events put one after the other, and those that they take
abbrev pub all_put : PolicyOf → State → List Event → List (List ℕ)
all_put p s [] = []
all_put p s (e ∷ es) = lines_put p s e ++ all_put p (after p s e) es

abbrev pub all_taken : PolicyOf → State → List Event → List (List ℕ)
all_taken p s [] = []
all_taken p s (e ∷ es) = line_in e (step_of p s e).0 ++ all_taken p (after p s e) es

-- each line that is put is taken, in its turn and once, or waits
abbrev pub AuditIsWhole : Type 0
AuditIsWhole =
    (p : PolicyOf) (s : State) (es : List Event)
    → s.audit ++ all_put p s es ≡ all_taken p s es ++ (fold (after p) s es).audit
