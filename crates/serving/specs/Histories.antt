-- What a history takes of the audit.
use Rattle.std.specs.Prelude.{◌≡◌, ℕ, List, [], ◌∷◌, ◌++◌, if◌then◌else◌}
use Rattle.events.specs.declared.event.Event.{Event}
use Rattle.events.specs.declared.event.Event.TheVariants.{Take}
use Rattle.events.specs.declared.event.Reply.{Reply}
use Rattle.events.specs.declared.event.Reply.TheVariants.{Taken}
use Rattle.policy_lock.specs.declared.view.Entry.{Entry}
use Rattle.endpoint_works.specs.Audits.{audit}
use Rattle.endpoint_works.specs.Sides.{is_audit}

-- the line that an event takes, with its reply
abbrev pub line_of : Event → Reply → List (List ℕ)
line_of (Take session) (Taken line) = if is_audit session.who then line ∷ [] else []
line_of e reply = []

-- those that the entries of a history take, in their order
abbrev pub lines_taken : List (Entry Event Reply) → List (List ℕ)
lines_taken [] = []
lines_taken (x ∷ xs) = line_of x.event x.reply ++ lines_taken xs

-- the entry takes a line
abbrev pub TakesLine : Entry Event Reply → Type 0
TakesLine x = (x.event ≡ Take audit) × ((line : List ℕ) × (x.reply ≡ Taken line))
