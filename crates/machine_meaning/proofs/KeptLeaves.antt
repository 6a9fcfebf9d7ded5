-- Leaves that matter: each once, of numbers that were given, and one that doesn't matter any more never does again.
use Rattle.std.proofs.Common.{◌≡◌, ◌∙◌, ℕ, zero, suc, ◌+◌, ◌<◌, ◌≤◌, ◌==◌, ◌&&◌, Bool, true, false, List, [], ◌∷◌}
use Rattle.std.proofs.Common.{map, filter, Option, Some, None, arith, refl, sym, ap, subst, eq-eqb, eqb-true}
use Rattle.std.specs.Prelude.{flat_map, option_map, slice_get}
use Rattle.std.specs.List.{enumerate_from}
use Rattle.std.specs.Option.{option_map_or}
use Rattle.std.proofs.lemmas.Bool.{eqb-false, ne_eqb}
use Rattle.member_state.specs.Changes.{expired, is_told}
use Rattle.member_state.specs.States.{MemberStateOf}
use Rattle.member_table.specs.Entries.{has_serial}
use Rattle.member_table.specs.Tables.{TableOf}
use Rattle.member_table.specs.Timeouts.{without_expired}
use Rattle.member_table.specs.declared.entry.Entry.{Entry}
use Rattle.machine_meaning.specs.Lists.{changed_at}
use Rattle.machine_meaning.specs.Removing.{due_in, owed_for, owing, with_kept}
use Rattle.machine_meaning.specs.States.{MemberOf}
use Rattle.machine_meaning.specs.declared.state.Owed.{Owed}
use Rattle.machine_meaning.proofs.Composed.{elsewhere}
use Rattle.machine_meaning.proofs.Moves.{IsMove, numbered, time_moves}
use Rattle.machine_meaning.proofs.Numbered.{at_changed}
use Rattle.machine_meaning.proofs.Tallies.{none_tallied, one, tally, tally_alike, tally_both, tally_fewer, tally_map}
use Rattle.machine_meaning.proofs.Views.{View, expired_at, moved_at}

-- leaves by members and serial numbers ------------------------------------------------------------------------------

-- the table of a member, its entries and its next number
abbrev pub table_in : List MemberOf → ℕ → Option TableOf
table_in members n = option_map (λ (x : MemberOf). x.kept.table) (slice_get members n)

abbrev pub entries_in : List MemberOf → ℕ → List Entry
entries_in members n = option_map_or (λ (t : TableOf). t.entries) (table_in members n) []

abbrev pub next_in : List MemberOf → ℕ → ℕ
next_in members n = option_map_or (λ (t : TableOf). t.next) (table_in members n) 0

-- an entry of the member and of the number is owed
abbrev pub is_owed : ℕ → ℕ → Owed → Bool
is_owed n k o = (n == o.member) && (k == o.entry.serial)

-- how often a leaf matters: in the member's table, and as what is owed
abbrev pub leaves : List MemberOf → List Owed → ℕ → ℕ → ℕ
leaves members owed n k = numbered k (entries_in members n) + tally (is_owed n k) owed

-- Each leaf matters once, and its number was given. Against the view as an event began no number was taken back, and
-- no leaf of a number that was given then matters that didn't then.
pub record AreKeptLeaves (start v : View) : Type 0 where
  pub next : (n : ℕ) → next_in start.members n ≤ next_in v.members n
  pub once : (n k : ℕ) → leaves v.members v.owed n k ≤ 1
  pub given : (n k : ℕ) → 0 < leaves v.members v.owed n k → k < next_in v.members n
  pub old :
      (n k : ℕ) → k < next_in start.members n → leaves v.members v.owed n k ≤ leaves start.members start.owed n k

-- steps -------------------------------------------------------------------------------------------------------------

-- the leaves of a member after a step: no more than before, but for that of the next number where it is given
record IsStepAt (v w : View) (n : ℕ) : Type 0 where
  given : Bool
  next : next_in w.members n ≡ next_in v.members n + one given
  each :
      (k : ℕ) → leaves w.members w.owed n k
      ≤ leaves v.members v.owed n k + one (given && (k == next_in v.members n))

kept_step : (start v w : View) → ((n : ℕ) → IsStepAt v w n) → AreKeptLeaves start v → AreKeptLeaves start w
kept_step start v w step h = record {
  next = λ n. let a = h.next n in let b = (step n).next in omega (arith, a, b);
  once = λ n k. one_more n k (step n) ((step n).given) refl (k == next_in v.members n) refl;
  given = λ n k t. next_more n k (step n) t ((step n).given) refl (k == next_in v.members n) refl;
  old = λ n k lt.
      let a = (step n).each k in
      let b = h.old n k lt in
      let c = h.next n in
      let other : (k == next_in v.members n) ≡ false = ne_eqb k (next_in v.members n) (λ e. omega (arith, e, lt, c)) in
      let none = never ((step n).given) (k == next_in v.members n) other in
      omega (arith, a, b, none);
}
  where
    never : (a b : Bool) → b ≡ false → one (a && b) ≡ 0
    never true b e = ap one e
    never false b e = refl

    both : (a b : Bool) → a ≡ true → b ≡ true → one (a && b) ≡ 1
    both a b e f = ap (λ (x : Bool). one (x && b)) e ∙ ap one f

    left : (a b : Bool) → a ≡ false → one (a && b) ≡ 0
    left a b e = ap (λ (x : Bool). one (x && b)) e

    none_yet : (n k : ℕ) → (k == next_in v.members n) ≡ true → leaves v.members v.owed n k ≡ 0
    none_yet n k t = by (leaves v.members v.owed n k) refl
      where
        by : (m : ℕ) → leaves v.members v.owed n k ≡ m → m ≡ 0
        by zero e = refl
        by (suc m) e =
            let is = eqb-true k (next_in v.members n) t in
            let lt = h.given n k (omega (arith, e)) in
            absurd (omega (arith, is, lt))

    one_more : (n k : ℕ) (s : IsStepAt v w n) (a : Bool) → s.given ≡ a → (b : Bool) → (k == next_in v.members n) ≡ b
        → leaves w.members w.owed n k ≤ 1
    one_more n k s true e true f =
        let le = s.each k in let c = both s.given (k == next_in v.members n) e f in let z = none_yet n k f in
        omega (arith, le, c, z)
    one_more n k s true e false f =
        let le = s.each k in let c = never s.given (k == next_in v.members n) f in let z = h.once n k in
        omega (arith, le, c, z)
    one_more n k s false e b f =
        let le = s.each k in let c = left s.given (k == next_in v.members n) e in let z = h.once n k in
        omega (arith, le, c, z)

    next_more : (n k : ℕ) (s : IsStepAt v w n) → 0 < leaves w.members w.owed n k → (a : Bool) → s.given ≡ a
        → (b : Bool) → (k == next_in v.members n) ≡ b → k < next_in w.members n
    next_more n k s t true e true f =
        let up = s.next in let is = eqb-true k (next_in v.members n) f in let c = ap one e in
        omega (arith, up, is, c)
    next_more n k s t true e false f =
        let le = s.each k in let c = never s.given (k == next_in v.members n) f in
        let lt = h.given n k (omega (arith, le, c, t)) in let up = s.next in
        omega (arith, lt, up)
    next_more n k s t false e b f =
        let le = s.each k in let c = left s.given (k == next_in v.members n) e in
        let lt = h.given n k (omega (arith, le, c, t)) in let up = s.next in
        omega (arith, lt, up)

-- a member whose table is the same, and of which no more is owed
still_at : (v w : View) (n : ℕ) → table_in w.members n ≡ table_in v.members n
    → ((k : ℕ) → tally (is_owed n k) w.owed ≤ tally (is_owed n k) v.owed) → IsStepAt v w n
still_at v w n same owed = record {
  given = false;
  next = let e = ap (λ (o : Option TableOf). option_map_or (λ (t : TableOf). t.next) o 0) same in omega (arith, e);
  each = λ k.
      let e = ap (λ (o : Option TableOf). numbered k (option_map_or (λ (t : TableOf). t.entries) o [])) same in
      let le = owed k in
      omega (arith, e, le);
}

-- a member whose table moves, and of which at most the entries that go are owed more
moved_step : (v w : View) (n : ℕ) (x y : TableOf) (gone : List Entry) → IsMove x y gone → table_in v.members n ≡ Some x
    → table_in w.members n ≡ Some y
    → ((k : ℕ) → tally (is_owed n k) w.owed ≤ tally (is_owed n k) v.owed + numbered k gone) → IsStepAt v w n
moved_step v w n x y gone move was is owed = record {
  given = move.given;
  next = let a = next_is v x was in let b = next_is w y is in let c = move.next in omega (arith, a, b, c);
  each = λ k.
      let a = entries_are v x k was in
      let b = entries_are w y k is in
      let c = move.each k in
      let le = owed k in
      let d = ap (λ (m : ℕ). one (move.given && (k == m))) (next_is v x was) in
      omega (arith, a, b, c, le, d);
}
  where
    next_is : (u : View) (t : TableOf) → table_in u.members n ≡ Some t → next_in u.members n ≡ t.next
    next_is u t e = ap (λ (o : Option TableOf). option_map_or (λ (t : TableOf). t.next) o 0) e

    entries_are : (u : View) (t : TableOf) (k : ℕ) → table_in u.members n ≡ Some t
        → numbered k (entries_in u.members n) ≡ numbered k t.entries
    entries_are u t k e = ap (λ (o : Option TableOf). numbered k (option_map_or (λ (t : TableOf). t.entries) o [])) e

-- members that change what isn't seen -------------------------------------------------------------------------------

table_unseen : (n : ℕ) (f : MemberOf → MemberOf) → ((x : MemberOf) → (f x).kept ≡ x.kept) → (ms : List MemberOf)
    (m : ℕ) → table_in (changed_at n f ms) m ≡ table_in ms m
table_unseen n f h [] m = refl
table_unseen zero f h (x ∷ xs) zero = ap (λ (k : MemberStateOf). Some k.table) (h x)
table_unseen zero f h (x ∷ xs) (suc m) = refl
table_unseen (suc n) f h (x ∷ xs) zero = refl
table_unseen (suc n) f h (x ∷ xs) (suc m) = table_unseen n f h xs m

pub leaves_unseen : (start v : View) (n : ℕ) (f : MemberOf → MemberOf) → ((x : MemberOf) → (f x).kept ≡ x.kept)
    → AreKeptLeaves start v → AreKeptLeaves start (record v { members = changed_at n f v.members })
leaves_unseen start v n f same h =
    kept_step start v (record v { members = changed_at n f v.members })
    (λ m. still_at v (record v { members = changed_at n f v.members }) m (table_unseen n f same v.members m)
    (λ k. omega arith)) h

-- a member whose table moves ----------------------------------------------------------------------------------------

owing_own : (n k reason now : ℕ) (gone : List Entry) → tally (is_owed n k) (owing n reason now gone) ≤ numbered k gone
owing_own n k reason now gone =
    let made = tally_map (is_owed n k)
    (λ (e : Entry). record { member = n; entry = e; reason = reason; moment = now }) (filter is_told gone) in
    let alike = tally_alike (λ (e : Entry). (n == n) && (k == e.serial)) (has_serial k)
    (λ e. ap (λ (b : Bool). b && (k == e.serial)) (eq-eqb n n refl)) (filter is_told gone) in
    let few = tally_fewer (has_serial k) is_told gone in
    omega (arith, made, alike, few)

owing_other : (m n k reason now : ℕ) (gone : List Entry) → (m == n) ≡ false
    → tally (is_owed m k) (owing n reason now gone) ≡ 0
owing_other m n k reason now gone e =
    tally_map (is_owed m k) (λ (e : Entry). record { member = n; entry = e; reason = reason; moment = now })
    (filter is_told gone)
    ∙ none_tallied (λ (d : Entry). (m == n) && (k == d.serial)) (λ d. ap (λ (b : Bool). b && (k == d.serial)) e)
    (filter is_told gone)

flipped : (a b : ℕ) → (a == b) ≡ false → (b == a) ≡ false
flipped a b e = ne_eqb b a (λ f. eqb-false a b e (sym f))

pub leaves_moved : (start v : View) (n reason now : ℕ) (f : MemberStateOf → MemberStateOf) (gone : List Entry)
    (x : MemberOf) → slice_get v.members n ≡ Some x → IsMove x.kept.table (f x.kept).table gone → AreKeptLeaves start v
    → AreKeptLeaves start (moved_at n reason now f gone v)
leaves_moved start v n reason now f gone x at move h =
    kept_step start v (moved_at n reason now f gone v) (λ m. by m (n == m) refl) h
  where
    own : IsStepAt v (moved_at n reason now f gone v) n
    own =
        moved_step v (moved_at n reason now f gone v) n x.kept.table (f x.kept).table gone move
        (ap (option_map (λ (y : MemberOf). y.kept.table)) at)
        (ap (option_map (λ (y : MemberOf). y.kept.table))
        (at_changed n (with_kept f) v.members ∙ ap (option_map (with_kept f)) at))
        (λ k.
        let both = tally_both (is_owed n k) v.owed (owing n reason now gone) in
        let le = owing_own n k reason now gone in
        omega (arith, both, le))

    by : (m : ℕ) (b : Bool) → (n == m) ≡ b → IsStepAt v (moved_at n reason now f gone v) m
    by m true e = subst (IsStepAt v (moved_at n reason now f gone v)) (eqb-true n m e) own
    by m false e =
        still_at v (moved_at n reason now f gone v) m
        (ap (option_map (λ (y : MemberOf). y.kept.table)) (elsewhere n m (with_kept f) v.members e))
        (λ k.
        let both = tally_both (is_owed m k) v.owed (owing n reason now gone) in
        let none = owing_other m n k reason now gone (flipped n m e) in
        omega (arith, both, none))

-- all entries that are due ------------------------------------------------------------------------------------------

abbrev due_of : ℕ → Option MemberOf → List Entry
due_of now None = []
due_of now (Some x) = due_in now x

due_before : (now : ℕ) (ms : List MemberOf) (j m k : ℕ) → m < j
    → tally (is_owed m k) (flat_map (owed_for now) (enumerate_from j ms)) ≡ 0
due_before now [] j m k lt = refl
due_before now (x ∷ xs) j m k lt =
    let both = tally_both (is_owed m k) (owing j 1 now (due_in now x))
    (flat_map (owed_for now) (enumerate_from (j + 1) xs)) in
    let first = owing_other m j k 1 now (due_in now x) (ne_eqb m j (λ e. omega (arith, e, lt))) in
    let rest = due_before now xs (j + 1) m k (omega (arith, lt)) in
    omega (arith, both, first, rest)

due_at : (now : ℕ) (ms : List MemberOf) (j i m k : ℕ) → j + i ≡ m
    → tally (is_owed m k) (flat_map (owed_for now) (enumerate_from j ms)) ≤ numbered k (due_of now (slice_get ms i))
due_at now [] j i m k e = omega arith
due_at now (x ∷ xs) j zero m k e =
    let both = tally_both (is_owed m k) (owing j 1 now (due_in now x))
    (flat_map (owed_for now) (enumerate_from (j + 1) xs)) in
    let same : j ≡ m = omega (arith, e) in
    let first : tally (is_owed m k) (owing j 1 now (due_in now x)) ≤ numbered k (due_in now x) =
    subst (λ (q : ℕ). tally (is_owed q k) (owing j 1 now (due_in now x)) ≤ numbered k (due_in now x)) same
    (owing_own j k 1 now (due_in now x)) in
    let rest = due_before now xs (j + 1) m k (omega (arith, same)) in
    omega (arith, both, first, rest)
due_at now (x ∷ xs) j (suc i) m k e =
    let both = tally_both (is_owed m k) (owing j 1 now (due_in now x))
    (flat_map (owed_for now) (enumerate_from (j + 1) xs)) in
    let first = owing_other m j k 1 now (due_in now x) (ne_eqb m j (λ f. omega (arith, e, f))) in
    let rest = due_at now xs (j + 1) i m k (omega (arith, e)) in
    omega (arith, both, first, rest)

table_mapped : (now : ℕ) (ms : List MemberOf) (n : ℕ) → table_in (map (with_kept (expired now)) ms) n
    ≡ option_map (without_expired now) (table_in ms n)
table_mapped now [] n = refl
table_mapped now (x ∷ xs) zero = refl
table_mapped now (x ∷ xs) (suc n) = table_mapped now xs n

pub leaves_expired : (start v : View) (now : ℕ) → AreKeptLeaves start v → AreKeptLeaves start (expired_at now v)
leaves_expired start v now h =
    kept_step start v (expired_at now v) (λ n. by n (slice_get v.members n) refl) h
  where
    more : (n k : ℕ) (o : Option MemberOf) → slice_get v.members n ≡ o
        → tally (is_owed n k) (expired_at now v).owed ≤ tally (is_owed n k) v.owed + numbered k (due_of now o)
    more n k o e =
        let both = tally_both (is_owed n k) v.owed (flat_map (owed_for now) (enumerate_from 0 v.members)) in
        let due = due_at now v.members 0 n n k (omega arith) in
        let same = ap (λ (p : Option MemberOf). numbered k (due_of now p)) e in
        omega (arith, both, due, same)

    by : (n : ℕ) (o : Option MemberOf) → slice_get v.members n ≡ o → IsStepAt v (expired_at now v) n
    by n None e =
        let none = ap (option_map (λ (y : MemberOf). y.kept.table)) e in
        still_at v (expired_at now v) n
        (table_mapped now v.members n ∙ (ap (option_map (without_expired now)) none ∙ sym none))
        (λ k. let le = more n k None e in omega (arith, le))
    by n (Some x) e =
        let there = ap (option_map (λ (y : MemberOf). y.kept.table)) e in
        moved_step v (expired_at now v) n x.kept.table (without_expired now x.kept.table) (due_in now x)
        (time_moves now x.kept.table) there
        (table_mapped now v.members n ∙ ap (option_map (without_expired now)) there) (λ k. more n k (Some x) e)
