-- What the values of keys stand for, where they can be so.
use Rattle.std.specs.Prelude.{codes, ℕ, zero, suc, ℤ, pos, negsuc, ◌+◌, ◌-◌, ◌*◌, ◌==◌, ◌&&◌, not, Bool, true}
use Rattle.std.specs.Prelude.{false, List, [], ◌∷◌, Option, Some, None, if◌then◌else◌, nat_le, nat_lt, length}
use Rattle.std.specs.Prelude.{option_map, option_and_then, position, take, drop}
use Rattle.std.specs.Char.{is_ascii_digit, is_ascii}
use Rattle.std.specs.List.{list_all, list_any}
use Rattle.toml.specs.Data.{Data, string, integer, float, boolean, datetime, array, table, as_integer, as_str, same_key}
use Rattle.virtual_topology.specs.declared.plan.PortPlace.{PortPlace}
use Rattle.virtual_topology.specs.declared.plan.VirtualPort.{VirtualPort}
use Rattle.policies.specs.Names.{is_address, is_name}
use Rattle.policy_file.specs.Documents.{as_list}

-- a number in a range
abbrev pub within : ℕ → ℕ → ℕ → Option ℕ
within least greatest n = if nat_le least n && nat_le n greatest then Some n else None

abbrev pub within_range : ℕ → ℕ → ℤ → Option ℕ
within_range least greatest (pos n) = within least greatest n
within_range least greatest _ = None

abbrev pub number : ℕ → ℕ → Data → Option ℕ
number least greatest d = option_and_then (within_range least greatest) (as_integer d)

-- a text that passes a test
abbrev pub if_fits : (List ℕ → Bool) → List ℕ → Option (List ℕ)
if_fits test s = if test s then Some s else None

abbrev pub text_that : (List ℕ → Bool) → Data → Option (List ℕ)
text_that test d = option_and_then (if_fits test) (as_str d)

abbrev pub address : Data → Option (List ℕ)
address = text_that is_address

abbrev pub name : Data → Option (List ℕ)
name = text_that is_name

-- a text of ASCII; whether it is an expression is asked later
abbrev pub expression : Data → Option (List ℕ)
expression = text_that (list_all is_ascii)

-- the value of a hexadecimal digit: 0 to 9 (48 to 57), a to f (97 to 102), A to F (65 to 70)
abbrev pub digit : ℕ → Option ℕ
digit b =
    if nat_le 48 b && nat_le b 57 then Some (b - 48) else
    if nat_le 97 b && nat_le b 102 then Some (b - 87) else
    if nat_le 65 b && nat_le b 70 then Some (b - 55) else None

-- the number of digits, after those that are read
abbrev pub digits_after : ℕ → (ℕ → Option ℕ) → ℕ → List ℕ → Option ℕ
digits_after base digit n [] = Some n
digits_after base digit n (b ∷ bs) = option_and_then (λ d. digits_after base digit (n * base + d) bs) (digit b)

-- the number of hexadecimal digits
abbrev pub hexadecimal : List ℕ → Option ℕ
hexadecimal = digits_after 16 digit 0

-- 16 hexadecimal digits
abbrev pub dpid_text : List ℕ → Option ℕ
dpid_text s = if length s == 16 then hexadecimal s else None

abbrev pub dpid : Data → Option ℕ
dpid d = option_and_then dpid_text (as_str d)

-- the value of a decimal digit
abbrev pub decimal_digit : ℕ → Option ℕ
decimal_digit b = if is_ascii_digit b then Some (b - 48) else None

-- a zero before other digits
abbrev pub leads_with_zero : List ℕ → Bool
leads_with_zero (b ∷ c ∷ bs) = b == 48
leads_with_zero _ = false

-- one to five decimal digits, without a zero before others
abbrev pub is_short : List ℕ → Bool
is_short s = (nat_lt 0 (length s) && nat_le (length s) 5) && not (leads_with_zero s)

abbrev pub decimal_of : List ℕ → Option ℕ
decimal_of s = if is_short s then digits_after 10 decimal_digit 0 s else None

abbrev pub decimal_within : ℕ → ℕ → List ℕ → Option ℕ
decimal_within least greatest s = option_and_then (within least greatest) (decimal_of s)

-- what stands before the first such byte, and what after it
abbrev pub split_at_first : ℕ → List ℕ → Option (List ℕ × List ℕ)
split_at_first b s = option_map (λ i. (take i s, drop (i + 1) s)) (position (λ c. c == b) s)

abbrev pub place_at : List ℕ → ℕ → PortPlace
place_at name port = record { name = name; port = port }

abbrev pub place_if : List ℕ → ℕ → Option PortPlace
place_if name port = if is_name name then Some (place_at name port) else None

-- NAME:PORT, with a PORT up to 65535; `:` is 58
abbrev pub place : List ℕ → Option PortPlace
place s = option_and_then (λ (p : List ℕ × List ℕ). option_and_then (place_if p.0) (decimal_within 0 65535 p.1))
    (split_at_first 58 s)

abbrev pub port_place : Data → Option PortPlace
port_place d = option_and_then place (as_str d)

abbrev pub outside_port : ℕ → PortPlace → VirtualPort
outside_port port at = record { port = port; at = Some at }

abbrev pub link_port : ℕ → VirtualPort
link_port port = record { port = port; at = None }

abbrev pub is_link : List ℕ → Bool
is_link s = same_key s (codes "link")

abbrev pub virtual_port_at : ℕ → List ℕ → Option VirtualPort
virtual_port_at port s = if is_link s then Some (link_port port) else option_map (outside_port port) (place s)

-- N=SWITCH:PORT or N=link, with N from 1 to 65279; `=` is 61
abbrev pub virtual_port : List ℕ → Option VirtualPort
virtual_port s =
    option_and_then (λ (p : List ℕ × List ℕ). option_and_then (λ n. virtual_port_at n p.1) (decimal_within 1 65279 p.0))
    (split_at_first 61 s)

-- what a reader makes of each item of a list, if of each it makes something
abbrev pub each_of : {A B : Type 0} → (A → Option B) → List A → Option (List B)
each_of read [] = Some []
each_of read (x ∷ xs) = option_and_then (λ y. option_map (λ ys. y ∷ ys) (each_of read xs)) (read x)

-- what the items of a list, one after another, make of what was there, if of each they make something
abbrev pub all_after : {A B : Type 0} → (B → A → Option B) → B → List A → Option B
all_after add had [] = Some had
all_after add had (x ∷ xs) = option_and_then (λ more. all_after add more xs) (add had x)

-- the number of a port
abbrev pub port : Data → Option ℕ
port = number 1 65279

-- no two are the same
abbrev pub are_distinct : {A : Type 0} → (A → A → Bool) → List A → Bool
are_distinct same [] = true
are_distinct same (x ∷ xs) = not (list_any (same x) xs) && are_distinct same xs

abbrev pub if_distinct : {A : Type 0} → (A → A → Bool) → List A → Option (List A)
if_distinct same xs = if are_distinct same xs then Some xs else None

-- the numbers of a list of ports, each once
abbrev pub ports : Data → Option (List ℕ)
ports d = option_and_then (λ ds. option_and_then (if_distinct (λ a b. a == b)) (each_of port ds)) (as_list d)
