-- Counts are over all cookies that were ever written.
use Rattle.std.proofs.Common.{◌≡◌, ℕ, ◌+◌, Bool, true, false, ◌&&◌, ◌||◌, List, [], ◌∷◌, ◌++◌, refl, sym, ap, subst}
use Rattle.std.proofs.Common.{◌∙◌, arith, sum_by, true≢false}
use Rattle.std.specs.Prelude.{not, if◌then◌else◌, Option, Some, None}
use Rattle.std.specs.BTreeMap.{is_at}
use Rattle.std.specs.List.{list_any}
use Rattle.std.specs.Map.{remove_entry, values_of}
use Rattle.std.proofs.lemmas.List.{append-nil, append_assoc}
use Rattle.std.proofs.lemmas.List.Sums.{sum_by-append, sum_by-cons}
use Rattle.cv_io.specs.Leaves.{same_leaf}
use Rattle.cv_io.specs.declared.leaf.Leaf.{Leaf}
use Rattle.switch_meaning.specs.Counts.{Cookie, Numbers, added, bytes_for, capped, count_of, folded_in, names}
use Rattle.switch_meaning.specs.Counts.{packets_for}
use Rattle.switch_meaning.proofs.Counted.{counts-add}
use Rattle.stats_map.specs.Counting.{Cookies, CountsOf, Place, all_ended, cookie_at, ended, forgot, installed}
use Rattle.stats_map.specs.Counting.{installed_at, is_named, nothing, of_switch, place_cmp, reported_on, swept}
use Rattle.stats_map.specs.Counting.{with_numbers}
use Rattle.stats_map.specs.Histories.{CountsAreOfAll, Step, Wrote, Told, WentDown, Dropped, after, drops, gone, gone_at}
use Rattle.stats_map.specs.Histories.{gone_by, run}

abbrev numbers : ℕ → ℕ → Numbers
numbers p b = record { packets = p; bytes = b }

-- one cookie more
one-more : (leaf : Leaf) (cs : List Cookie) (c : Cookie) (t : Numbers) → t ≡ count_of leaf cs
    → (if names leaf c then added t c.numbers else t) ≡ count_of leaf (cs ++ c ∷ [])
one-more leaf cs c t e = by (names leaf c) refl
  where
    both : {p q b d : ℕ} → p ≡ q → b ≡ d → numbers p b ≡ numbers q d
    both e f = λ i. numbers (e i) (f i)

    named : (p s k all one : ℕ) → p ≡ capped s → all ≡ s + one → one ≡ k + 0 → capped (p + k) ≡ capped all
    named p s k all one e f h = omega (arith, e, f, h)

    other : (p s all one : ℕ) → p ≡ capped s → all ≡ s + one → one ≡ 0 + 0 → p ≡ capped all
    other p s all one e f h = omega (arith, e, f, h)

    packets : sum_by (packets_for leaf) (cs ++ c ∷ [])
        ≡ sum_by (packets_for leaf) cs + sum_by (packets_for leaf) (c ∷ [])
    packets = sum_by-append (packets_for leaf) cs (c ∷ [])

    bytes : sum_by (bytes_for leaf) (cs ++ c ∷ []) ≡ sum_by (bytes_for leaf) cs + sum_by (bytes_for leaf) (c ∷ [])
    bytes = sum_by-append (bytes_for leaf) cs (c ∷ [])

    packets-one : (b : Bool) → names leaf c ≡ b
        → sum_by (packets_for leaf) (c ∷ []) ≡ (if b then c.numbers.packets else 0) + 0
    packets-one b f = sum_by-cons (packets_for leaf) c [] ∙ ap (λ d. (if d then c.numbers.packets else 0) + 0) f

    bytes-one : (b : Bool) → names leaf c ≡ b
        → sum_by (bytes_for leaf) (c ∷ []) ≡ (if b then c.numbers.bytes else 0) + 0
    bytes-one b f = sum_by-cons (bytes_for leaf) c [] ∙ ap (λ d. (if d then c.numbers.bytes else 0) + 0) f

    by : (b : Bool) → names leaf c ≡ b → (if names leaf c then added t c.numbers else t) ≡ count_of leaf (cs ++ c ∷ [])
    by true f =
        ap (λ d. if d then added t c.numbers else t) f
        ∙ both
        (named t.packets (sum_by (packets_for leaf) cs) c.numbers.packets (sum_by (packets_for leaf) (cs ++ c ∷ []))
        (sum_by (packets_for leaf) (c ∷ [])) (ap (λ (n : Numbers). n.packets) e) packets (packets-one true f))
        (named t.bytes (sum_by (bytes_for leaf) cs) c.numbers.bytes (sum_by (bytes_for leaf) (cs ++ c ∷ []))
        (sum_by (bytes_for leaf) (c ∷ [])) (ap (λ (n : Numbers). n.bytes) e) bytes (bytes-one true f))
    by false f =
        ap (λ d. if d then added t c.numbers else t) f
        ∙ both
        (other t.packets (sum_by (packets_for leaf) cs) (sum_by (packets_for leaf) (cs ++ c ∷ []))
        (sum_by (packets_for leaf) (c ∷ [])) (ap (λ (n : Numbers). n.packets) e) packets (packets-one false f))
        (other t.bytes (sum_by (bytes_for leaf) cs) (sum_by (bytes_for leaf) (cs ++ c ∷ []))
        (sum_by (bytes_for leaf) (c ∷ [])) (ap (λ (n : Numbers). n.bytes) e) bytes (bytes-one false f))

-- the total of a leaf that is not to be forgotten is that over some cookies
abbrev IsTotal : Leaf → List Cookie → CountsOf → Type 0
IsTotal leaf cs s = (s.totals leaf ≡ count_of leaf cs) × (s.forgotten leaf ≡ false)

-- sweeping passes over it
swept-total : (leaf : Leaf) (cs : List Cookie) (s : CountsOf) → IsTotal leaf cs s → IsTotal leaf cs (swept s)
swept-total leaf cs s h = (
  ap (λ f. if f && not (is_named s leaf) then numbers 0 0 else s.totals leaf) h.1 ∙ h.0,
  ap (λ f. f && is_named s leaf) h.1,
)

-- what is swept where a cookie ends, and where a leaf is to be forgotten
abbrev closed : Place → Cookie → CountsOf → CountsOf
closed place c s = record {
  live = remove_entry (is_at (place_cmp place)) s.live;
  totals = folded_in s.totals c;
  forgotten = s.forgotten;
}

abbrev marked : Leaf → CountsOf → CountsOf
marked q s = record { live = s.live; totals = s.totals; forgotten = λ r. same_leaf q r || s.forgotten r }

ends-one : (leaf : Leaf) (place : Place) (c : Cookie) (s : CountsOf) (cs : List Cookie) → IsTotal leaf cs s
    → IsTotal leaf (cs ++ c ∷ []) (ended place c s)
ends-one leaf place c s cs h = swept-total leaf (cs ++ c ∷ []) (closed place c s)
    (one-more leaf cs c (s.totals leaf) h.0, h.1)

ends-all : (leaf : Leaf) (cookies : Cookies) (s : CountsOf) (cs : List Cookie) → IsTotal leaf cs s
    → IsTotal leaf (cs ++ values_of cookies) (all_ended cookies s)
ends-all leaf [] s cs h = subst (λ (xs : List Cookie). IsTotal leaf xs s) (sym (append-nil cs)) h
ends-all leaf (x ∷ xs) s cs h =
    subst (λ (ys : List Cookie). IsTotal leaf ys (all_ended xs (ended x.0 x.1 s)))
    (append_assoc cs (x.1 ∷ []) (values_of xs))
    (ends-all leaf xs (ended x.0 x.1 s) (cs ++ x.1 ∷ []) (ends-one leaf x.0 x.1 s cs h))

same-total : (leaf : Leaf) (s : CountsOf) (cs : List Cookie) → IsTotal leaf cs s → IsTotal leaf (cs ++ []) s
same-total leaf s cs h = subst (λ (xs : List Cookie). IsTotal leaf xs s) (sym (append-nil cs)) h

steps-once : (leaf : Leaf) (x : Step) (s : CountsOf) (cs : List Cookie) → drops leaf x ≡ false → IsTotal leaf cs s
    → IsTotal leaf (cs ++ gone_by x s) (after x s)
steps-once leaf (Wrote place ancestry) s cs n h =
    same-total leaf (installed place ancestry s) cs (by (cookie_at place s))
  where
    by : (o : Option Cookie) → IsTotal leaf cs (installed_at o place ancestry s)
    by None = h
    by (Some c) = h
steps-once leaf (Told place ns last) s cs n h = by (cookie_at place s) last
  where
    by : (o : Option Cookie) (b : Bool) → IsTotal leaf (cs ++ gone_at o ns b) (reported_on o place ns b s)
    by None b = same-total leaf s cs h
    by (Some c) true = ends-one leaf place (with_numbers ns c) s cs h
    by (Some c) false = same-total leaf (reported_on (Some c) place ns false s) cs h
steps-once leaf (WentDown switch) s cs n h = ends-all leaf (of_switch switch s.live) s cs h
steps-once leaf (Dropped q) s cs n h =
    same-total leaf (forgot q s) cs (swept-total leaf cs (marked q s) (h.0, ap (λ b. b || s.forgotten leaf) n ∙ h.1))

neither : (a b : Bool) → (a || b) ≡ false → (a ≡ false) × (b ≡ false)
neither true b e = absurd (true≢false e)
neither false b e = (refl, e)

steps-all : (leaf : Leaf) (steps : List Step) (s : CountsOf) (cs : List Cookie) → list_any (drops leaf) steps ≡ false
    → IsTotal leaf cs s → IsTotal leaf (cs ++ gone steps s) (run steps s)
steps-all leaf [] s cs n h = same-total leaf s cs h
steps-all leaf (x ∷ xs) s cs n h =
    let m = neither (drops leaf x) (list_any (drops leaf) xs) n in
    subst (λ (ys : List Cookie). IsTotal leaf ys (run xs (after x s)))
    (append_assoc cs (gone_by x s) (gone xs (after x s)))
    (steps-all leaf xs (after x s) (cs ++ gone_by x s) m.1 (steps-once leaf x s cs m.0 h))

pub counts-are-of-all : CountsAreOfAll
counts-are-of-all steps leaf n =
    let h = steps-all leaf steps nothing [] n (refl, refl) in
    let live = values_of (run steps nothing).live in
    ap (λ (t : Numbers). added t (count_of leaf live)) h.0 ∙ counts-add (gone steps nothing) live leaf
