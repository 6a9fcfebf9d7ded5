-- One field asks for all that another asks for, exactly where what fits the second fits the first.
use Rattle.std.proofs.Common.{◌≡◌, ◌≢◌, ◌-◌, ◌^◌, ℕ, Bool, true, false, ◌&&◌, Option, Some, None, refl, ◌∙◌, sym, arith}
use Rattle.std.proofs.Common.{eqb-true, eq-eqb, leb-true, leb-false}
use Rattle.std.specs.Prelude.{◌==◌, IfSome, unwrap_or}
use Rattle.of10_match.specs.Matching.{fits, fits_prefix, asks, asks_prefix, is_longer, top_bits}
use Rattle.of10_match.specs.Ranges.{IsPrefix}
use Rattle.of10_match.specs.declared.header.Prefix.{Prefix}
use Rattle.of10_match.proofs.Twelve.{and-first, and-second}
use Rattle.of10_match.proofs.Prefixes.{same_shorter}
use Rattle.of10_match.proofs.Addresses.{first_address, second_address, second_apart}

-- what fits the second field fits the first, which asks for no more
pub fits-asks : (x y : Option ℕ) (v : ℕ) → asks x y ≡ true → fits y v ≡ true → fits x v ≡ true
fits-asks None y v e f = refl
fits-asks (Some w) None v e f = cc
fits-asks (Some w) (Some u) v e f = eq-eqb w v (eqb-true w u e ∙ eqb-true u v f)

pub fits_prefix-asks : (x y : Option Prefix) (v : ℕ) → asks_prefix x y ≡ true → fits_prefix y v ≡ true
    → fits_prefix x v ≡ true
fits_prefix-asks None y v e f = refl
fits_prefix-asks (Some p) None v e f = cc
fits_prefix-asks (Some p) (Some q) v e f =
    let longer = and-first (is_longer q p) (top_bits p.len p.addr == top_bits p.len q.addr) e in
    let begins = and-second (is_longer q p) (top_bits p.len p.addr == top_bits p.len q.addr) e in
    let within = same_shorter p.len q.len q.addr v (leb-true (32 - q.len) (32 - p.len) longer)
    (eqb-true (top_bits q.len q.addr) (top_bits q.len v) f) in
    eq-eqb (top_bits p.len p.addr) (top_bits p.len v) (eqb-true (top_bits p.len p.addr) (top_bits p.len q.addr) begins
    ∙ within)

-- where the first field fits the value of the second, whichever of two stands for none
pub asks-from_fits : (a b : ℕ) → a ≢ b → (x y : Option ℕ) → fits x (unwrap_or y a) ≡ true
    → fits x (unwrap_or y b) ≡ true → asks x y ≡ true
asks-from_fits a b apart None y low high = refl
asks-from_fits a b apart (Some w) None low high = absurd (apart (sym (eqb-true w a low) ∙ eqb-true w b high))
asks-from_fits a b apart (Some w) (Some u) low high = low

-- the same of an address, where the two that are tried differ in the first bit that is open
asks_prefix-cases : (p q : Prefix) → IsPrefix p → IsPrefix q → top_bits p.len p.addr ≡ top_bits p.len q.addr
    → top_bits p.len p.addr ≡ top_bits p.len (second_address (Some q))
    → (b : Bool) → is_longer q p ≡ b → (b && top_bits p.len p.addr == top_bits p.len q.addr) ≡ true
asks_prefix-cases p q ip iq low high true e = eq-eqb (top_bits p.len p.addr) (top_bits p.len q.addr) low
asks_prefix-cases p q ip iq low high false e =
    let lt = leb-false (32 - q.len) (32 - p.len) e in
    absurd (second_apart (32 - q.len) (32 - p.len) q.addr (omega arith) (sym low ∙ high))

pub asks_prefix-from_fits : (x y : Option Prefix) → IfSome x IsPrefix → IfSome y IsPrefix
    → fits_prefix x (first_address y) ≡ true → fits_prefix x (second_address y) ≡ true → asks_prefix x y ≡ true
asks_prefix-from_fits None y ip iq low high = refl
asks_prefix-from_fits (Some p) None ip iq low high =
    let first = eqb-true (top_bits p.len p.addr) (top_bits p.len 0) low in
    let second = eqb-true (top_bits p.len p.addr) (top_bits p.len (2 ^ 31)) high in
    absurd (second_apart 32 (32 - p.len) 0 (omega (arith, ip.0)) (sym first ∙ second))
asks_prefix-from_fits (Some p) (Some q) ip iq low high =
    let first = eqb-true (top_bits p.len p.addr) (top_bits p.len q.addr) low in
    let second = eqb-true (top_bits p.len p.addr) (top_bits p.len (second_address (Some q))) high in
    asks_prefix-cases p q ip iq first second (is_longer q p) refl
