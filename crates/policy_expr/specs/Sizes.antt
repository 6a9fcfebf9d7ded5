-- How many levels the rules of a policy have.
use Rattle.std.specs.Prelude.{◌≡◌, ℕ, ◌^◌, List, length, drop, map, slice_index}
use Rattle.alg_priority.specs.Levels.{capped}
use Rattle.alg_priority.specs.Sizes.{sum_size, concat_size, shift_size}
use Rattle.policy_expr.specs.Policy.{Policy, member, parallel, sequential, override, members_of}

-- how many leaves a policy has
abbrev pub leaf_count : Policy → ℕ
leaf_count p = length (members_of p)

-- the levels of a policy whose members have these many levels
abbrev pub size_of : (ℕ → ℕ) → Policy → ℕ
size_of levels (member index) = levels index
size_of levels (parallel a b) = sum_size (size_of levels a) (size_of levels b)
size_of levels (sequential a b) = concat_size (size_of levels a) (size_of levels b)
size_of levels (override a b) = shift_size (size_of levels a) (size_of levels b)

-- the levels of a policy whose leaves have these many bits, from left to right
abbrev pub size_by_leaf : List ℕ → Policy → ℕ
size_by_leaf bits (member index) = 2 ^ slice_index bits 0
size_by_leaf bits (parallel a b) = sum_size (size_by_leaf bits a) (size_by_leaf (drop (leaf_count a) bits) b)
size_by_leaf bits (sequential a b) = concat_size (size_by_leaf bits a) (size_by_leaf (drop (leaf_count a) bits) b)
size_by_leaf bits (override a b) = shift_size (size_by_leaf bits a) (size_by_leaf (drop (leaf_count a) bits) b)

-- where the bits are those that a function gives the members of the leaves, the size is by that function
abbrev pub HasBitsOf : ℕ → List ℕ → Policy → Type 0
HasBitsOf size bits p = (bits_of : ℕ → ℕ) → bits ≡ map bits_of (members_of p)
    → size ≡ capped (size_of (λ i. 2 ^ bits_of i) p)
