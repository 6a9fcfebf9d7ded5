-- The rule of a machine that keeps notes.
use Rattle.std.specs.Prelude.{◌≡◌, ℕ, ◌==◌, Bool, true, [], ◌∷◌, ◌++◌, length, if◌then◌else◌}
use Rattle.std.proofs.Common.{ap}
use Rattle.counting_machine.specs.declared.notebook.Note.{Note}
use Rattle.counting_machine.specs.declared.notebook.Notebook.{Notebook}

-- the notes after one more; one without bytes leaves them
abbrev pub noted : Notebook → Note → Notebook
noted book note = if length note.bytes == 0 then book
    else record { notes = book.notes ++ note ∷ []; last = note.author }

-- how many notes there are
abbrev pub pages : Notebook → ℕ
pages book = length book.notes

pub blank_stays : (book : Notebook) (note : Note) → (length note.bytes == 0) ≡ true → noted book note ≡ book
blank_stays book note is =
    ap (λ (b : Bool). if b then book else record { notes = book.notes ++ note ∷ []; last = note.author }) is
