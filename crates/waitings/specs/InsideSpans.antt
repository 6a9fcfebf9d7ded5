-- Answers of one switch, of numbers in a row.
use Rattle.std.specs.Prelude.{◌≡◌, ℕ, zero, suc, ◌-◌, ◌≤◌, Bool, ◌==◌, ◌&&◌, List, [], ◌∷◌, ◌++◌, if◌then◌else◌}
use Rattle.std.specs.Prelude.{nat_le, nat_lt}
use Rattle.waitings.specs.declared.parts.Span.{Span}
use Rattle.waitings.specs.declared.state.Part.{Part}

-- so many answers of a switch, from a number on
abbrev pub row : ℕ → ℕ → ℕ → List Part
row switch first zero = []
row switch first (suc count) = record { switch = switch; number = first } ∷ row switch (suc first) count

abbrev pub spelled : Span → List Part
spelled s = row s.switch s.first (suc (s.last - s.first))

abbrev pub all_spelled : List Span → List Part
all_spelled [] = []
all_spelled (s ∷ ss) = spelled s ++ all_spelled ss

-- it doesn't end before it begins; the number 0 stands alone
abbrev pub IsSpan : Span → Type 0
IsSpan s = (s.first ≤ s.last) × (s.first ≡ 0 → s.last ≡ 0)

-- it has the answer of a switch and number
abbrev pub has_in : ℕ → ℕ → Span → Bool
has_in n number s = (s.switch == n) && (nat_le s.first number && nat_le number s.last)

-- the answer comes right behind it; number 0 stands alone
abbrev pub is_next : Part → Span → Bool
is_next part s =
    (s.switch == part.switch) && (nat_lt 0 s.first && (nat_lt s.last part.number && (part.number - s.last == 1)))

-- the answer without an xid is that to the request of this xid
abbrev pub span_with_xid : ℕ → ℕ → Span → Span
span_with_xid n xid s =
    if (s.switch == n) && (s.first == 0) then record { switch = s.switch; first = xid; last = xid } else s
