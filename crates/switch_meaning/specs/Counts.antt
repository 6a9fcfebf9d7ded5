-- What is counted for a leaf: the packets and bytes of all entries that were made of it.
use Rattle.std.specs.Prelude.{◌≡◌, ℕ, ◌+◌, ◌-◌, ◌^◌, min, Bool, if◌then◌else◌}
use Rattle.std.specs.Prelude.{List, [], ◌∷◌, ◌++◌, sum_by, IsPermutation}
use Rattle.std.specs.List.{list_any}
use Rattle.cv_io.specs.Leaves.{same_leaf}
use Rattle.cv_io.specs.declared.leaf.Leaf.{Leaf}

-- packets and bytes
pub record Numbers : Type 0 where
  pub packets : ℕ
  pub bytes : ℕ

-- the cookie of an entry that was written: the leaves that the entry was made of, and its last numbers
pub record Cookie : Type 0 where
  pub ancestry : List Leaf
  pub numbers : Numbers

-- a number of 64 bits stands still at the greatest one
abbrev pub capped : ℕ → ℕ
capped n = min n (2 ^ 64 - 1)

-- numbers with others added to them
abbrev pub added : Numbers → Numbers → Numbers
added a b = record { packets = capped (a.packets + b.packets); bytes = capped (a.bytes + b.bytes) }

-- the cookie's ancestry names the leaf
abbrev pub names : Leaf → Cookie → Bool
names leaf c = list_any (same_leaf leaf) c.ancestry

-- what a cookie counts for a leaf: all where its ancestry names it, once or more, else nothing
abbrev pub packets_for : Leaf → Cookie → ℕ
packets_for leaf c = if names leaf c then c.numbers.packets else 0

abbrev pub bytes_for : Leaf → Cookie → ℕ
bytes_for leaf c = if names leaf c then c.numbers.bytes else 0

-- the count of a leaf over cookies, each once
abbrev pub count_of : Leaf → List Cookie → Numbers
count_of leaf cookies = record {
  packets = capped (sum_by (packets_for leaf) cookies);
  bytes = capped (sum_by (bytes_for leaf) cookies);
}

-- totals of leaves, with one more cookie
abbrev pub folded_in : (Leaf → Numbers) → Cookie → Leaf → Numbers
folded_in totals c leaf = if names leaf c then added (totals leaf) c.numbers else totals leaf

-- with some more, one after the other
abbrev pub folded : (Leaf → Numbers) → List Cookie → Leaf → Numbers
folded totals [] leaf = totals leaf
folded totals (c ∷ cs) leaf = folded (folded_in totals c) cs leaf

-- the totals of no cookie
abbrev pub no_totals : Leaf → Numbers
no_totals leaf = record { packets = 0; bytes = 0 }

-- the count of a leaf where some cookies are folded into totals, and the rest is kept
abbrev pub counted : (Leaf → Numbers) → List Cookie → Leaf → Numbers
counted totals rest leaf = added (totals leaf) (count_of leaf rest)

-- without totals it is the count over the cookies
abbrev pub CountsWithoutTotals : Type 0
CountsWithoutTotals = (cookies : List Cookie) (leaf : Leaf) → counted no_totals cookies leaf ≡ count_of leaf cookies

-- whichever cookies are folded into totals and forgotten, and in whatever order, the counts are as over all cookies
abbrev pub FoldingKeepsCounts : Type 0
FoldingKeepsCounts =
    (totals : Leaf → Numbers) (gone rest all : List Cookie) → IsPermutation (gone ++ rest) all
    → (leaf : Leaf) → counted (folded totals gone) rest leaf ≡ counted totals all leaf

-- the count of two lots of cookies is that of both, added
abbrev pub CountsAdd : Type 0
CountsAdd = (a b : List Cookie) (leaf : Leaf) → added (count_of leaf a) (count_of leaf b) ≡ count_of leaf (a ++ b)

-- two entries of a leaf, and one of another, of which the first names the leaf twice
abbrev pub a_leaf : ℕ → Leaf
a_leaf kind = record { member = 0; kind = kind }

abbrev pub cookie : List Leaf → ℕ → ℕ → Cookie
cookie ancestry packets bytes = record { ancestry = ancestry; numbers = record { packets = packets; bytes = bytes } }

abbrev pub two_cookies : List Cookie
two_cookies = cookie (a_leaf 3 ∷ a_leaf 3 ∷ []) 7 700 ∷ cookie (a_leaf 4 ∷ []) 50 5000 ∷ []

abbrev pub third_cookie : List Cookie
third_cookie = cookie (a_leaf 4 ∷ a_leaf 3 ∷ []) 3 300 ∷ []

-- one of 2^64 - 1 packets
abbrev pub full_cookie : Cookie
full_cookie = cookie (a_leaf 3 ∷ []) 18446744073709551615 1

-- 7 and 3 packets are 10; so they are where the first two cookies are folded into totals; and no count passes 2^64 - 1
abbrev pub ThreeAreCounted : Type 0
ThreeAreCounted =
    (count_of (a_leaf 3) (two_cookies ++ third_cookie) ≡ record { packets = 10; bytes = 1000 })
    × (counted (folded no_totals two_cookies) third_cookie (a_leaf 3) ≡ record { packets = 10; bytes = 1000 })
    × (count_of (a_leaf 3) (full_cookie ∷ two_cookies) ≡ record { packets = 18446744073709551615; bytes = 701 })
