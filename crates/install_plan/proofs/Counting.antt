-- How many entries pass a test.
use Rattle.std.proofs.Common.{◌≡◌, ℕ, zero, suc, ◌+◌, ◌≤◌, ◌<◌, Bool, true, false, cond, List, [], ◌∷◌, length, get_or}
use Rattle.std.proofs.Common.{take, refl, sym, ap, subst, ◌∙◌, arith, count_by, nat_lt, lt-ltb, ltb-true}
use Rattle.std.specs.Prelude.{Some, flat_map}
use Rattle.std.specs.List.{Contains, list_any}
use Rattle.std.specs.Map.{lookup, set_value}
use Rattle.std.specs.Ordering.{is_eq}
use Rattle.std.specs.Cmp.{IsTotalOrder, then_total}
use Rattle.std.proofs.lemmas.Cmp.{tied_itself}
use Rattle.std.proofs.lemmas.List.Sums.{sum_by-take-le}
use Rattle.match_index.proofs.Counts.{any_count, count-append, count-cons}
use Rattle.switch_meaning.specs.Same.{same_entry}
use Rattle.switch_meaning.specs.declared.entry.PhysEntry.{PhysEntry}
use Rattle.switch_meaning.proofs.Alike.{entry_decides}
use Rattle.switch_meaning.proofs.ByKey.{key_total}
use Rattle.switch_meaning.proofs.Members.{IsIn, any-passes, place}
use Rattle.install_plan.specs.Tables.{place_cmp, same_place}
use Rattle.install_plan.specs.declared.key.Key.{Key}
use Rattle.install_plan.specs.declared.slot.Slot.{Slot}
use Rattle.install_plan.proofs.Ancestries.{by_ancestry_total}

pub place_total : IsTotalOrder place_cmp
place_total = then_total key_total by_ancestry_total

-- one slot is written
pub count-written : {A : Type 0} (p : A → Bool) (g : Key × Slot → List A) (test : Key
    → Bool) (s w : Slot) (slots : List (Key × Slot)) (m n : ℕ) → lookup test slots ≡ Some s
    → ((k : Key) → test k ≡ true → count_by p (g (k, w)) + m ≡ count_by p (g (k, s)) + n)
    → count_by p (flat_map g (set_value test slots w)) + m ≡ count_by p (flat_map g slots) + n
count-written p g test s w [] m n e h = cc
count-written p g test s w (q ∷ qs) m n e h = by (test q.0) refl e (λ f. count-written p g test s w qs m n f h)
  where
    by : (b : Bool) → test q.0 ≡ b → cond b (Some q.1) (lookup test qs) ≡ Some s
        → (lookup test qs ≡ Some s → count_by p (flat_map g (set_value test qs w)) + m ≡ count_by p (flat_map g qs) + n)
        → count_by p (flat_map g (cond b ((q.0, w) ∷ qs) (q ∷ set_value test qs w))) + m
        ≡ count_by p (flat_map g (q ∷ qs)) + n
    by true t f rest =
        let is : q.1 ≡ s = cc in
        let here : count_by p (g (q.0, w)) + m ≡ count_by p (g q) + n =
        subst (λ (z : Slot). count_by p (g (q.0, w)) + m ≡ count_by p (g (q.0, z)) + n) (sym is) (h q.0 t) in
        let a = count-append p (g (q.0, w)) (flat_map g qs) in
        let b = count-append p (g q) (flat_map g qs) in
        omega (arith, here, a, b)
    by false t f rest =
        let r = rest f in
        let a = count-append p (g q) (flat_map g (set_value test qs w)) in
        let b = count-append p (g q) (flat_map g qs) in
        omega (arith, r, a, b)

-- an entry that is counted is there
pub counted-in : (e : PhysEntry) (es : List PhysEntry) → 0 < count_by (same_entry e) es → IsIn e es
counted-in e es lt =
    let p = any-passes (same_entry e) es (any_count (same_entry e) es ∙ lt-ltb 0 (count_by (same_entry e) es) lt) in
    subst (λ (d : PhysEntry). IsIn d es) (sym ((entry_decides e p.item).0 p.passes)) p.stands

-- one item more of a list
pub count-more : {A : Type 0} (p : A → Bool) (xs : List A) (i : ℕ) (x : A) → i < length xs → x ≡ get_or xs i x
    → count_by p (take (i + 1) xs) ≡ count_by p (take i xs) + count_by p (x ∷ [])
count-more p [] i x lt e = absurd (omega arith)
count-more p (y ∷ ys) zero x lt e =
    let one : 0 + 1 ≡ suc 0 = omega arith in
    let none : count_by p (x ∷ []) ≡ 0 + count_by p (x ∷ []) = omega arith in
    ap (λ n. count_by p (take n (y ∷ ys))) one ∙ (sym (ap (λ z. count_by p (z ∷ [])) e) ∙ none)
count-more p (y ∷ ys) (suc i) x lt e =
    let next : suc i + 1 ≡ suc (i + 1) = omega arith in
    let m = count-more p ys i x (omega arith) e in
    let a = count-cons p y (take (i + 1) ys) in
    let b = count-cons p y (take i ys) in
    subst (λ n. count_by p (take n (y ∷ ys)) ≡ count_by p (take (suc i) (y ∷ ys)) + count_by p (x ∷ [])) (sym next)
    (omega (arith, m, a, b))

pub count-take : {A : Type 0} (p : A → Bool) (xs : List A) (i : ℕ) → count_by p (take i xs) ≤ count_by p xs
count-take p xs i = sum_by-take-le (λ x. cond (p x) 1 0) xs i

count-one : {A : Type 0} (p : A → Bool) (x : A) → p x ≡ true → count_by p (x ∷ []) ≡ 1
count-one p x e = rw e refl

-- each entry that goes is still there as its turn comes
pub still-there : (gone old cur : List PhysEntry) (i : ℕ) (g : PhysEntry)
    → ((test : PhysEntry → Bool) → count_by test gone ≤ count_by test old)
    → ((test : PhysEntry → Bool) → count_by test (take i gone) + count_by test cur ≡ count_by test old)
    → i < length gone → g ≡ get_or gone i g → Contains cur g
still-there gone old cur i g there so_far lt e =
    let m = count-more (same_entry g) gone i g lt e in
    let o = count-one (same_entry g) g ((entry_decides g g).1 refl) in
    let t = count-take (same_entry g) gone (i + 1) in
    let a = there (same_entry g) in
    let b = so_far (same_entry g) in
    place g cur (counted-in g cur (omega (arith, m, o, t, a, b)))

none-counted : (b : Bool) (n : ℕ) → b ≡ nat_lt 0 n → n ≡ 0 → b ≡ false
none-counted true n e z = let lt : 0 < n = ltb-true 0 n (sym e) in absurd (omega (arith, lt, z))
none-counted false n e z = refl

-- each entry that comes has a place of its own as its turn comes
pub still-apart : (gone come old cur : List PhysEntry) (i : ℕ) (c : PhysEntry)
    → ((e : PhysEntry) → count_by (same_place e) old + count_by (same_place e) come ≤ count_by (same_place e) gone + 1)
    → ((test : PhysEntry → Bool) → count_by test old + count_by test (take i come)
    ≡ count_by test gone + count_by test cur) → i < length come → c ≡ get_or come i c
    → list_any (same_place c) cur ≡ false
still-apart gone come old cur i c apart so_far lt e =
    let m = count-more (same_place c) come i c lt e in
    let o = count-one (same_place c) c (ap is_eq (tied_itself place_total c)) in
    let t = count-take (same_place c) come (i + 1) in
    let a = apart c in
    let b = so_far (same_place c) in
    none-counted (list_any (same_place c) cur) (count_by (same_place c) cur) (any_count (same_place c) cur)
    (omega (arith, m, o, t, a, b))
