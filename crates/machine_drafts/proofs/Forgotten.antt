-- Leaves that are forgotten, entry by entry.
use Rattle.std.proofs.Common.{◌≡◌, ◌∙◌, ℕ, zero, suc, ◌+◌, ◌<◌, Bool, true, false, List, [], ◌∷◌, ◌++◌, map}
use Rattle.std.proofs.Common.{Option, Some, refl, sym, ap, ap₂, arith}
use Rattle.std.specs.Prelude.{◌==◌, ◌&&◌, ◌||◌, filter, flat_map, fold, if◌then◌else◌, not, slice_get}
use Rattle.std.specs.List.{AllByRecursion, enumerate_from, list_any}
use Rattle.std.proofs.lemmas.Bool.Decides.{nat_tests}
use Rattle.std.proofs.lemmas.List.Folds.{list_any-append}
use Rattle.std.proofs.lemmas.List.Sums.{fold-append}
use Rattle.cv_io.specs.Leaves.{same_leaf}
use Rattle.cv_io.specs.declared.leaf.Leaf.{Leaf}
use Rattle.member_table.specs.Changes.{is_among}
use Rattle.member_table.specs.Entries.{has_serial}
use Rattle.member_table.specs.declared.entry.Entry.{Entry}
use Rattle.stats_map.specs.Counting.{CountsOf, forgot}
use Rattle.machine_meaning.specs.Counted.{dropped_between, is_one_of, leaf_at, leaf_of, leaves_among, leaves_in}
use Rattle.machine_drafts.specs.InsideForgetting.{forget_entry, forget_member, forget_owed, is_owed}
use Rattle.machine_drafts.specs.InsideForgetting.{matters}
use Rattle.machine_meaning.specs.Drafts.{Draft}
use Rattle.machine_drafts.specs.MemberDrafts.{MemberDraftOf}
use Rattle.machine_drafts.specs.Outcomes.{member_bases, members_in}
use Rattle.machine_meaning.specs.Settling.{entries_at}
use Rattle.machine_meaning.specs.States.{MemberOf, State}
use Rattle.machine_meaning.specs.Telling.{forget, uncounted}
use Rattle.machine_drafts.specs.Views.{member_of}
use Rattle.machine_meaning.specs.declared.state.Owed.{Owed}

-- a leaf among those that matter ------------------------------------------------------------------------------------

same_number : (a b : ℕ) → (2 + a == 2 + b) ≡ (a == b)
same_number a b = by (a == b) refl
  where
    by : (t : Bool) → (a == b) ≡ t → (2 + a == 2 + b) ≡ t
    by true e = grind (arith, nat_tests)
    by false e = grind (arith, nat_tests)

eq_self : (a : ℕ) → (a == a) ≡ true
eq_self a = grind (arith, nat_tests)

pub below_not : (a b : ℕ) → a < b → (a == b) ≡ false
below_not a b h = grind (arith, nat_tests)

above_not : (a b : ℕ) → b < a → (a == b) ≡ false
above_not a b h = grind (arith, nat_tests)

any_false : {A : Type 0} (t : A → Bool) (xs : List A) → ((x : A) → t x ≡ false) → list_any t xs ≡ false
any_false t [] h = refl
any_false t (x ∷ xs) h = ap (λ (b : Bool). b || list_any t xs) (h x) ∙ any_false t xs h

-- among those of one member
any_leaf : (m k serial : ℕ) (b : Bool) → (m == k) ≡ b → (es : List Entry)
    → list_any (same_leaf (leaf_at m serial)) (map (leaf_of k) es) ≡ (b && list_any (has_serial serial) es)
any_leaf m k serial true e [] = refl
any_leaf m k serial false e [] = refl
any_leaf m k serial true e (x ∷ xs) =
    ap₂ (λ (a c : Bool). a || c)
    (ap (λ (a : Bool). a && (2 + serial == 2 + x.serial)) e ∙ same_number serial x.serial)
    (any_leaf m k serial true e xs)
any_leaf m k serial false e (x ∷ xs) =
    ap₂ (λ (a c : Bool). a || c) (ap (λ (a : Bool). a && (2 + serial == 2 + x.serial)) e)
    (any_leaf m k serial false e xs)

-- among those of members of greater numbers
none_behind : (m k serial : ℕ) (xs : List MemberOf) → m < k
    → list_any (same_leaf (leaf_at m serial)) (flat_map leaves_in (enumerate_from k xs)) ≡ false
none_behind m k serial [] h = refl
none_behind m k serial (x ∷ xs) h =
    list_any-append (same_leaf (leaf_at m serial)) (map (leaf_of k) x.kept.table.entries)
    (flat_map leaves_in (enumerate_from (k + 1) xs))
    ∙ ap₂ (λ (a c : Bool). a || c) (any_leaf m k serial false (below_not m k h) x.kept.table.entries)
    (none_behind m (k + 1) serial xs (omega arith))

or_false : (a : Bool) → (a || false) ≡ a
or_false true = refl
or_false false = refl

any_member : (m k n serial : ℕ) (xs : List MemberOf) → m ≡ k + n
    → list_any (same_leaf (leaf_at m serial)) (flat_map leaves_in (enumerate_from k xs))
    ≡ list_any (has_serial serial) (entries_at (slice_get xs n))
any_member m k n serial [] e = refl
any_member m k zero serial (x ∷ xs) e =
    let here : (m == k) ≡ true = grind (arith, nat_tests) in
    list_any-append (same_leaf (leaf_at m serial)) (map (leaf_of k) x.kept.table.entries)
    (flat_map leaves_in (enumerate_from (k + 1) xs))
    ∙ (ap₂ (λ (a c : Bool). a || c) (any_leaf m k serial true here x.kept.table.entries)
    (none_behind m (k + 1) serial xs (omega arith))
    ∙ or_false (list_any (has_serial serial) x.kept.table.entries))
any_member m k (suc n) serial (x ∷ xs) e =
    list_any-append (same_leaf (leaf_at m serial)) (map (leaf_of k) x.kept.table.entries)
    (flat_map leaves_in (enumerate_from (k + 1) xs))
    ∙ ap₂ (λ (a c : Bool). a || c) (any_leaf m k serial false (above_not m k (omega arith)) x.kept.table.entries)
    (any_member m (k + 1) n serial xs (omega arith))

any_owed : (n serial : ℕ) (os : List Owed)
    → list_any (same_leaf (leaf_at n serial)) (map (λ (o : Owed). leaf_of o.member o.entry) os)
    ≡ list_any (is_owed n serial) os
any_owed n serial [] = refl
any_owed n serial (o ∷ os) =
    ap₂ (λ (a b : Bool). a || b) (ap (λ (t : Bool). (n == o.member) && t) (same_number serial o.entry.serial))
    (any_owed n serial os)

is_left : (ms : List MemberOf) (owed : List Owed) (n serial : ℕ)
    → is_one_of (leaves_among ms owed) (leaf_at n serial) ≡ matters (entries_at (slice_get ms n)) owed n serial
is_left ms owed n serial =
    list_any-append (same_leaf (leaf_at n serial)) (flat_map leaves_in (enumerate_from 0 ms))
    (map (λ (o : Owed). leaf_of o.member o.entry) owed)
    ∙ ap₂ (λ (a c : Bool). a || c) (any_member n 0 n serial ms (omega arith)) (any_owed n serial owed)

-- leaf by leaf ------------------------------------------------------------------------------------------------------

-- a leaf is forgotten, unless it is one of these
abbrev forget_leaf : List Leaf → CountsOf → Leaf → CountsOf
forget_leaf ls counts leaf = if is_one_of ls leaf then counts else forgot leaf counts

one_by_one : (ls : List Leaf) (c : CountsOf) (leaves : List Leaf)
    → fold uncounted c (filter (λ (leaf : Leaf). not (is_one_of ls leaf)) leaves) ≡ fold (forget_leaf ls) c leaves
one_by_one ls c [] = refl
one_by_one ls c (leaf ∷ leaves) = by (is_one_of ls leaf) (λ d. one_by_one ls d leaves)
  where
    by : (b : Bool)
        → ((d : CountsOf) → fold uncounted d (filter (λ (leaf : Leaf). not (is_one_of ls leaf)) leaves)
        ≡ fold (forget_leaf ls) d leaves)
        → fold uncounted c (if not b then leaf ∷ filter (λ (leaf : Leaf). not (is_one_of ls leaf)) leaves
        else filter (λ (leaf : Leaf). not (is_one_of ls leaf)) leaves)
        ≡ fold (forget_leaf ls) (if b then c else forgot leaf c) leaves
    by true r = r c
    by false r = r (forgot leaf c)

module _ (ms : List MemberOf) (owed : List Owed) where
  leaf_forgotten : (n : ℕ) (c : CountsOf) (e : Entry)
      → forget_leaf (leaves_among ms owed) c (leaf_of n e) ≡ forget_entry (entries_at (slice_get ms n)) owed n c e
  leaf_forgotten n c e = ap (λ (b : Bool). if b then c else forgot (leaf_of n e) c) (is_left ms owed n e.serial)

  entries_forgotten : (n : ℕ) (c : CountsOf) (es : List Entry)
      → fold (forget_leaf (leaves_among ms owed)) c (map (leaf_of n) es)
      ≡ fold (forget_entry (entries_at (slice_get ms n)) owed n) c es
  entries_forgotten n c [] = refl
  entries_forgotten n c (e ∷ es) =
      ap (λ (d : CountsOf). fold (forget_leaf (leaves_among ms owed)) d (map (leaf_of n) es)) (leaf_forgotten n c e)
      ∙ entries_forgotten n (forget_entry (entries_at (slice_get ms n)) owed n c e) es

  owed_forgotten : (c : CountsOf) (os : List Owed)
      → fold (forget_leaf (leaves_among ms owed)) c (map (λ (o : Owed). leaf_of o.member o.entry) os)
      ≡ fold (forget_owed ms owed) c os
  owed_forgotten c [] = refl
  owed_forgotten c (o ∷ os) =
      ap (λ (d : CountsOf). fold (forget_leaf (leaves_among ms owed)) d
      (map (λ (o : Owed). leaf_of o.member o.entry) os))
      (leaf_forgotten o.member c o.entry)
      ∙ owed_forgotten (forget_owed ms owed c o) os

  members_forgotten : (k : ℕ) (c : CountsOf) (xs : List MemberDraftOf)
      → ((i j : ℕ) → j ≡ k + i → slice_get ms j ≡ slice_get (members_in xs) i)
      → fold (forget_leaf (leaves_among ms owed)) c
      (flat_map leaves_in (enumerate_from k (map member_of (member_bases xs))))
      ≡ fold (forget_member owed) c (enumerate_from k xs)
  members_forgotten k c [] there = refl
  members_forgotten k c (x ∷ xs) there =
      let es = x.base.kept.state.table.entries in
      let rest = flat_map leaves_in (enumerate_from (k + 1) (map member_of (member_bases xs))) in
      let at : slice_get ms k ≡ Some x.now = there 0 k (omega arith) in
      let later : (i j : ℕ) → j ≡ (k + 1) + i → slice_get ms j ≡ slice_get (members_in xs) i =
      λ i j e. there (suc i) j (omega arith) in
      fold-append (forget_leaf (leaves_among ms owed)) c (map (leaf_of k) es) rest
      ∙ (ap (λ (d : CountsOf). fold (forget_leaf (leaves_among ms owed)) d rest)
      (entries_forgotten k c es
      ∙ ap (λ (o : Option MemberOf). fold (forget_entry (entries_at o) owed k) c es) at)
      ∙ members_forgotten (k + 1) (forget_member owed c (k, x)) xs later)

-- all that is forgotten
pub all_forgotten : (xs : List MemberDraftOf) (old now : List Owed) (c : CountsOf) (before after : State)
    → before.members ≡ map member_of (member_bases xs) → before.owed ≡ old
    → after.members ≡ members_in xs → after.owed ≡ now
    → fold uncounted c (dropped_between before after)
    ≡ fold (forget_owed (members_in xs) now) (fold (forget_member now) c (enumerate_from 0 xs)) old
all_forgotten xs old now c before after members owed members-now owed-now =
    let ls = leaves_among (members_in xs) now in
    let first = flat_map leaves_in (enumerate_from 0 (map member_of (member_bases xs))) in
    let second = map (λ (o : Owed). leaf_of o.member o.entry) old in
    let same : (i j : ℕ) → j ≡ 0 + i → slice_get (members_in xs) j ≡ slice_get (members_in xs) i =
    λ i j e. ap (slice_get (members_in xs)) (let h : j ≡ i = omega arith in h) in
    ap₂ (λ (ms : List MemberOf) (os : List Owed). fold uncounted c
    (filter (λ (leaf : Leaf). not (is_one_of (leaves_among ms os) leaf)) (leaves_among before.members before.owed)))
    members-now owed-now
    ∙ (ap₂ (λ (ms : List MemberOf) (os : List Owed). fold uncounted c
    (filter (λ (leaf : Leaf). not (is_one_of ls leaf)) (leaves_among ms os))) members owed
    ∙ (one_by_one ls c (first ++ second)
    ∙ (fold-append (forget_leaf ls) c first second
    ∙ (ap (λ (d : CountsOf). fold (forget_leaf ls) d second) (members_forgotten (members_in xs) now 0 c xs same)
    ∙ owed_forgotten (members_in xs) now (fold (forget_member now) c (enumerate_from 0 xs)) old))))

-- where nothing changed ---------------------------------------------------------------------------------------------

or_true : (a b : Bool) → b ≡ true → (a || b) ≡ true
or_true true b e = refl
or_true false b e = e

module _ {A : Type 0} (t : A → A → Bool) (self : (x : A) → t x x ≡ true) where
  among_more : (x : A) (all xs : List A) → AllByRecursion (λ y. list_any (t y) all ≡ true) xs
      → AllByRecursion (λ y. list_any (t y) (x ∷ all) ≡ true) xs
  among_more x all [] h = tt
  among_more x all (y ∷ ys) h = (or_true (t y x) (list_any (t y) all) h.0, among_more x all ys h.1)

  among_itself : (xs : List A) → AllByRecursion (λ y. list_any (t y) xs ≡ true) xs
  among_itself [] = tt
  among_itself (x ∷ xs) =
      (ap (λ (b : Bool). b || list_any (t x) xs) (self x), among_more x xs xs (among_itself xs))

owed_all : (ms : List MemberOf) (all : List Owed) (c : CountsOf) (os : List Owed)
    → AllByRecursion (λ (o : Owed). list_any (is_owed o.member o.entry.serial) all ≡ true) os
    → fold (forget_owed ms all) c os ≡ c
owed_all ms all c [] h = refl
owed_all ms all c (o ∷ os) h =
    ap (λ (b : Bool). fold (forget_owed ms all) (if b then c else forgot (leaf_of o.member o.entry) c) os)
    (or_true (list_any (has_serial o.entry.serial) (entries_at (slice_get ms o.member)))
    (list_any (is_owed o.member o.entry.serial) all) h.0)
    ∙ owed_all ms all c os h.1

-- what is owed is as it stood
pub none_told : (ms : List MemberOf) (os : List Owed) (c : CountsOf) → fold (forget_owed ms os) c os ≡ c
none_told ms os c =
    owed_all ms os c os
    (among_itself (λ (o p : Owed). is_owed o.member o.entry.serial p)
    (λ (o : Owed). ap₂ (λ (a b : Bool). a && b) (eq_self o.member) (eq_self o.entry.serial)) os)

-- each of some entries is one of them
pub each_there : (es : List Entry) → AllByRecursion (λ (e : Entry). list_any (has_serial e.serial) es ≡ true) es
each_there es = among_itself (λ (e d : Entry). has_serial e.serial d) (λ (e : Entry). eq_self e.serial) es

-- and each of some numbers
pub each_among : (ns : List ℕ) → AllByRecursion (λ (n : ℕ). is_among ns n ≡ true) ns
each_among ns = among_itself (λ (n k : ℕ). k == n) eq_self ns

-- drafts ------------------------------------------------------------------------------------------------------------

module _ (d : Draft) (before : State) (xs : List MemberDraftOf) (old : List Owed) (c : CountsOf)
    (members : before.members ≡ map member_of (member_bases xs)) (owed : before.owed ≡ old)
    (members-now : d.state.members ≡ members_in xs)
    (gone : c ≡ fold (forget_member d.state.owed) d.state.counts (enumerate_from 0 xs)) where
  pub forgotten_with : (last : CountsOf) → last ≡ fold (forget_owed (members_in xs) d.state.owed) c old
      → record d { state = record d.state { counts = last } } ≡ forget before d
  forgotten_with last e =
      ap (λ (k : CountsOf). record d { state = record d.state { counts = k } })
      (e ∙ (ap (λ (k : CountsOf). fold (forget_owed (members_in xs) d.state.owed) k old) gone
      ∙ sym (all_forgotten xs old d.state.owed d.state.counts before d.state members owed members-now refl)))

  pub forgotten_without : d.state.owed ≡ old → record d { state = record d.state { counts = c } } ≡ forget before d
  forgotten_without same =
      forgotten_with c
      (sym (ap (λ (os : List Owed). fold (forget_owed (members_in xs) os) c old) same
      ∙ none_told (members_in xs) old c))
