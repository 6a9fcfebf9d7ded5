-- Sizes of policies: none is 0, so saturating step by step loses nothing, and they do not depend on how
-- the members' bits are handed over.
use Rattle.std.proofs.Common.{◌≡◌, ℕ, ◌*◌, ◌<◌, ◌^◌, List, ◌++◌, drop, map, refl, arith, slice_index, append_assoc}
use Rattle.std.proofs.lemmas.Nat.{pow_pos}
use Rattle.std.proofs.lemmas.List.{length-map, map-append}
use Rattle.std.proofs.Math.Seq.{drop-append_seam}
use Rattle.std.proofs.Math.Nat.{mul-le-mul_left}
use Rattle.alg_priority.specs.Levels.{capped}
use Rattle.alg_priority.specs.Sizes.{sum_size, concat_size, shift_size}
use Rattle.alg_priority.proofs.Saturation.{sum_size-capped, concat_size-capped}
use Rattle.policy_expr.specs.Policy.{Policy, member, parallel, sequential, override, members_of}
use Rattle.policy_expr.specs.Sizes.{leaf_count, size_of, size_by_leaf}

positive_product : (a b : ℕ) → 0 < a → 0 < b → 0 < a * b
positive_product a b a_some b_some = omega (arith, mul-le-mul_left {m = 1} {n = b} a (omega arith))

-- no policy has size 0
pub size_is_positive : (p : Policy) (bits : List ℕ) → 0 < size_by_leaf bits p
size_is_positive (member index) bits = pow_pos (slice_index bits 0)
size_is_positive (parallel a b) bits =
    omega (arith, size_is_positive a bits, size_is_positive b (drop (leaf_count a) bits))
size_is_positive (sequential a b) bits =
    positive_product _ _ (size_is_positive a bits) (size_is_positive b (drop (leaf_count a) bits))
size_is_positive (override a b) bits =
    omega (arith, size_is_positive a bits, size_is_positive b (drop (leaf_count a) bits))

-- what each of the two parts of an expression gave, and the bits between them
pub record Measured (p q : Policy) (bits after : List ℕ) (a b : ℕ) : Type 0 where
  pub left : a ≡ capped (size_by_leaf bits p)
  pub between : after ≡ drop (leaf_count p) bits
  pub right : b ≡ capped (size_by_leaf after q)

pub sum_measured :
    (p q : Policy) (bits after : List ℕ) (a b : ℕ) → Measured p q bits after a b
    → capped (sum_size a b) ≡ capped (size_by_leaf bits (parallel p q))
sum_measured p q bits after a b m =
    rw (m.left, m.right, m.between)
    (sum_size-capped _ _ (size_is_positive p bits) (size_is_positive q (drop (leaf_count p) bits)))

pub concat_measured :
    (p q : Policy) (bits after : List ℕ) (a b : ℕ) → Measured p q bits after a b
    → capped (concat_size a b) ≡ capped (size_by_leaf bits (sequential p q))
concat_measured p q bits after a b m =
    rw (m.left, m.right, m.between)
    (concat_size-capped _ _ (size_is_positive p bits) (size_is_positive q (drop (leaf_count p) bits)))

-- the sizes of two operands, from the bits of both
both :
    (combine : ℕ → ℕ → ℕ) (bits : ℕ → ℕ) (a b : Policy) (more : List ℕ)
    → ((rest : List ℕ) → size_by_leaf (map bits (members_of a) ++ rest) a ≡ size_of (λ i. 2 ^ bits i) a)
    → ((rest : List ℕ) → size_by_leaf (map bits (members_of b) ++ rest) b ≡ size_of (λ i. 2 ^ bits i) b)
    → combine (size_by_leaf (map bits (members_of a ++ members_of b) ++ more) a)
    (size_by_leaf (drop (leaf_count a) (map bits (members_of a ++ members_of b) ++ more)) b)
    ≡ combine (size_of (λ i. 2 ^ bits i) a) (size_of (λ i. 2 ^ bits i) b)
both combine bits a b more left right =
    let together : map bits (members_of a ++ members_of b) ++ more
    ≡ map bits (members_of a) ++ (map bits (members_of b) ++ more) =
    rw (map-append, append_assoc) refl in
    let between : drop (leaf_count a) (map bits (members_of a ++ members_of b) ++ more)
    ≡ map bits (members_of b) ++ more =
    rw (together, ← length-map (members_of a) bits)
    (drop-append_seam (map bits (members_of a)) (map bits (members_of b) ++ more)) in
    rw (between, together, left, right) refl

-- bits that follow those of the policy's leaves change nothing
pub size_by_leaf-map :
    (bits : ℕ → ℕ) (p : Policy) (more : List ℕ)
    → size_by_leaf (map bits (members_of p) ++ more) p ≡ size_of (λ i. 2 ^ bits i) p
size_by_leaf-map bits (member index) more = refl
size_by_leaf-map bits (parallel a b) more =
    both sum_size bits a b more (size_by_leaf-map bits a) (size_by_leaf-map bits b)
size_by_leaf-map bits (sequential a b) more =
    both concat_size bits a b more (size_by_leaf-map bits a) (size_by_leaf-map bits b)
size_by_leaf-map bits (override a b) more =
    both shift_size bits a b more (size_by_leaf-map bits a) (size_by_leaf-map bits b)
