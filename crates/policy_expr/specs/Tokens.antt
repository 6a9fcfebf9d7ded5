-- The program's tokens as signs of the text.
use Rattle.std.specs.Prelude.{ℕ, ◌≤◌, List, length, take}
use Rattle.policy_expr.specs.declared.token.Token.{Token}
use Rattle.policy_expr.specs.declared.token.Token.TheVariants.{Name, Plus, Then, Else, Open, Close, Other}
use Rattle.policy_expr.specs.Signs.{Sign, name, plus, chain, fallback, opening, closing, other}

-- the sign that a token stands for, at the front of these bytes
abbrev pub seen : List ℕ → Token → Sign
seen bytes (Name len) = name (take len bytes)
seen bytes Plus = plus
seen bytes Then = chain
seen bytes Else = fallback
seen bytes Open = opening
seen bytes Close = closing
seen bytes Other = other

-- a name's length is at most that of the bytes
abbrev pub IsInside : List ℕ → Token → Type 0
IsInside bytes (Name len) = len ≤ length bytes
IsInside bytes Plus = Unit {0}
IsInside bytes Then = Unit {0}
IsInside bytes Else = Unit {0}
IsInside bytes Open = Unit {0}
IsInside bytes Close = Unit {0}
IsInside bytes Other = Unit {0}
