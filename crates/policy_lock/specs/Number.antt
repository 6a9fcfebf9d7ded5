-- The numbers of seats, and how many seats are missing among some. The first seat's number is empty. The seats split
-- off a seat have its number behind 0, 1 and so on.
use Rattle.std.specs.Prelude.{ℕ, zero, suc, ◌+◌, ◌∷◌, [], ◌||◌, Bool, false, List, map, if◌then◌else◌}
use Rattle.policy_lock.specs.declared.view.Pass.{Pass}
use Rattle.policy_lock.specs.History.{same_number}
use Rattle.policy_lock.specs.Seat.{SeatOf}

-- a seat's number, and how many seats were split off it
abbrev pub Numbered : Type 0
Numbered = List ℕ × ℕ

abbrev pub numbered : {E R S : Type 0} → Pass E R S → Numbered
numbered p = (p.number, p.children)

abbrev pub numbers : {E R S : Type 0} → List (SeatOf E R S) → List Numbered
numbers seats = map (λ seat. numbered seat.pass) seats

-- the number is among these
abbrev pub has_number : List ℕ → List Numbered → Bool
has_number n [] = false
has_number n (x ∷ xs) = same_number x.0 n || has_number n xs

-- 1 where the number isn't among these
abbrev pub lacks : List Numbered → List ℕ → ℕ
lacks all n = if has_number n all then 0 else 1

-- how many of the first k seats that were split off the number n are not among all
abbrev pub missing_children : List Numbered → List ℕ → ℕ → ℕ
missing_children all n zero = 0
missing_children all n (suc k) = missing_children all n k + lacks all (k ∷ n)

-- how many of the seats that were split off one of these are not among all
abbrev pub missing_below : List Numbered → List Numbered → ℕ
missing_below all [] = 0
missing_below all (x ∷ xs) = missing_children all x.0 x.1 + missing_below all xs

-- how many seats are missing, as far as these tell: the first one, and those that were split off one of these
abbrev pub missing : List Numbered → ℕ
missing all = lacks all [] + missing_below all all
