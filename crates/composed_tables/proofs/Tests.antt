-- Tests that come out otherwise. Stated of numbers alone: a search among a lemma's own facts reads all of them.
use Rattle.std.proofs.Common.{◌≡◌, ◌≢◌, ℕ, ◌+◌, ◌<◌, ◌≤◌, ◌==◌, Bool, true, false, arith, eq-eqb}

pub both : (b : Bool) → b ≡ true → b ≡ false → ⊥
both true t f = cc
both false t f = cc

-- numbers that a test tells apart
pub differ : (m n : ℕ) → (m == n) ≡ false → m ≢ n
differ m n f e = both (m == n) (eq-eqb m n e) f

pub below-differ : (m n : ℕ) → m < n → m ≢ n
below-differ m n lt e = omega arith

pub past-differ : (m n : ℕ) → n + 1 ≤ m → m ≢ n
past-differ m n le e = omega arith

pub from-past : (m n : ℕ) → n + 1 ≤ m → n ≤ m
from-past m n le = omega arith

-- ---- sums of steps
pub more-spent : (s0 s1 s2 a b : ℕ) → s1 ≤ s0 + a → s2 ≤ s1 + b → s2 ≤ s0 + (a + b)
more-spent s0 s1 s2 a b le more = omega arith

pub spent-first : (s0 s1 a b : ℕ) → s1 ≤ s0 + a → s1 ≤ s0 + (a + b)
spent-first s0 s1 a b le = omega arith

pub spent-up : (s0 s1 a b : ℕ) → s1 ≤ s0 + a → a ≤ b → s1 ≤ s0 + b
spent-up s0 s1 a b le more = omega arith
