-- Histories of a machine: what it means after a list of entries, and which lists of entries are legal.
use Rattle.std.specs.Prelude.{◌≡◌, ℕ, ◌==◌, ◌&&◌, nat_lt, Bool, true, false, List, [], ◌∷◌, length, if◌then◌else◌, ⊤}
use Rattle.policy_lock.specs.declared.machine.Machine.{Ghosts}
use Rattle.policy_lock.specs.declared.view.Entry.{Entry}

-- two numbers are the same
abbrev pub same_number : List ℕ → List ℕ → Bool
same_number [] [] = true
same_number (x ∷ xs) (y ∷ ys) = (x == y) && same_number xs ys
same_number [] (y ∷ ys) = false
same_number (x ∷ xs) [] = false

module _ {E R : Type 0} where
  -- the event, posted under the number, with its reply
  abbrev pub entry : List ℕ → E → R → Entry E R
  entry n e r = record { by = n; event = e; reply = r }

  -- the entries under a number, in order: the calls of the seat that has it
  abbrev pub calls_by : List ℕ → List (Entry E R) → List (Entry E R)
  calls_by n [] = []
  calls_by n (x ∷ xs) = if same_number x.by n then (x ∷ calls_by n xs) else calls_by n xs

  -- the events, without numbers and replies
  abbrev pub events_of : List (Entry E R) → List E
  events_of [] = []
  events_of (x ∷ xs) = x.event ∷ events_of xs

  -- the longer of two, and the second where they are as long
  abbrev pub longer : List (Entry E R) → List (Entry E R) → List (Entry E R)
  longer xs ys = if nat_lt (length ys) (length xs) then xs else ys

module _ {M E R S : Type 0} (g : Ghosts M E R S) where
  -- what the machine means after the entries
  abbrev pub after : S → List (Entry E R) → S
  after s [] = s
  after s (x ∷ xs) = after (g.next s x.event) xs

  -- no entry's event is idle where it stands, and each reply is the one that the machine's rule gives there
  abbrev pub IsLegal : S → List (Entry E R) → Type 0
  IsLegal s [] = ⊤
  IsLegal s (x ∷ xs) = (g.idle s x.event ≡ false) × (x.reply ≡ g.reply s x.event) × IsLegal (g.next s x.event) xs
