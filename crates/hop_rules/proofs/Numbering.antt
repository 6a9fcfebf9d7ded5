-- What stands at a number of a list.
use Rattle.std.proofs.Common.{◌≡◌, ◌==◌, Bool, true, false, ℕ, zero, suc, ◌+◌, ◌<◌, ◌≤◌, ◌≢◌, List, [], ◌∷◌, ◌++◌}
use Rattle.std.proofs.Common.{Option, Some, None, refl, sym, ap, ◌∙◌, subst, length, get_or, set, map, take, drop}
use Rattle.std.proofs.Common.{below_more, arith}
use Rattle.std.specs.Prelude.{slice_get, filter_map, if◌then◌else◌}
use Rattle.std.specs.List.{AllByRecursion, cons_option, enumerate_from, refill}
use Rattle.std.proofs.lemmas.List.{get_or-set_same, get_or-set_other, get_or_append_left, get_or-append-add}
use Rattle.std.proofs.lemmas.List.Elements.{All-from_recursion}
use Rattle.hop_rules.specs.Levels.{no_node}
use Rattle.hop_rules.specs.Links.{exit_at, exits, peer_at, no_end}
use Rattle.hop_rules.specs.Nodes.{NodeOf, held_at}
use Rattle.hop_rules.specs.declared.exits.Exit.{Exit}
use Rattle.hop_rules.specs.declared.exits.LinkEnd.{LinkEnd}

-- ---- any list
module _ {X Y : Type 0} (f : X → Y) (d : X) where
  pub map-at : (xs : List X) (k : ℕ) → get_or (map f xs) k (f d) ≡ f (get_or xs k d)
  map-at [] k = refl
  map-at (x ∷ xs) zero = refl
  map-at (x ∷ xs) (suc k) = map-at xs k

module _ {X : Type 0} (d : X) where
  -- an item more at the end
  pub push-before : (xs : List X) (x : X) (k : ℕ) → k < length xs → get_or (xs ++ x ∷ []) k d ≡ get_or xs k d
  push-before xs x k lt = get_or_append_left xs (x ∷ []) d k lt

  pub push-last : (xs : List X) (x : X) (k : ℕ) → k ≡ length xs → get_or (xs ++ x ∷ []) k d ≡ x
  push-last xs x k e = ap (λ n. get_or (xs ++ x ∷ []) n d) (let h : k ≡ length xs + 0 = omega arith in h)
      ∙ get_or-append-add xs (x ∷ []) 0 d

  pub past-end : (xs : List X) (k : ℕ) → length xs ≤ k → get_or xs k d ≡ d
  past-end [] k le = refl
  past-end (x ∷ xs) zero le = absurd (omega arith)
  past-end (x ∷ xs) (suc k) le = past-end xs k (omega arith)

  pub get-at : (xs : List X) (k : ℕ) → k < length xs → slice_get xs k ≡ Some (get_or xs k d)
  get-at [] k lt = absurd (omega arith)
  get-at (x ∷ xs) zero lt = refl
  get-at (x ∷ xs) (suc k) lt = get-at xs k (omega arith)

  -- what holds of each at its number, with an item more at the end
  pub each-push : (P : ℕ → X → Type 0) (xs : List X) (x : X) (n : ℕ) → length xs ≡ n
      → ((k : ℕ) → k < n → P k (get_or xs k d)) → P n x → (k : ℕ) → k < n + 1 → P k (get_or (xs ++ x ∷ []) k d)
  each-push P xs x n c far now =
      below_more (λ k. P k (get_or (xs ++ x ∷ []) k d)) n
      (λ k lt. subst (P k) (sym (push-before xs x k (omega arith))) (far k lt))
      (subst (P n) (sym (push-last xs x n (sym c))) now)

take_front : {A : Type 0} (ws ys : List A) → take (length ws) (ws ++ ys) ≡ ws
take_front [] ys = refl
take_front (w ∷ ws) ys = ap (λ zs. w ∷ zs) (take_front ws ys)

-- a list whose items were lent, and of which as many come back
pub refilled : {A : Type 0} (xs ws : List A) → length ws ≡ length xs → refill (length xs) xs ws ≡ ws
refilled xs ws h = ap (λ n. take n (ws ++ drop (length ws) xs)) (sym h) ∙ take_front ws (drop (length ws) xs)

-- what holds of the items of two lists
pub all-joined : {X : Type 0} (P : X → Type 0) (xs ys : List X) → AllByRecursion P xs → AllByRecursion P ys
    → AllByRecursion P (xs ++ ys)
all-joined P [] ys a b = b
all-joined P (x ∷ xs) ys a b = (a.0, all-joined P xs ys a.1 b)

-- ---- nodes
pub held-is : (ns : List NodeOf) (k : ℕ) → held_at ns k ≡ (get_or ns k no_node).held
held-is [] k = refl
held-is (n ∷ ns) zero = refl
held-is (n ∷ ns) (suc k) = held-is ns k

pub held-other : (ns : List NodeOf) (i k : ℕ) (n : NodeOf) → k ≢ i → held_at (set ns i n) k ≡ held_at ns k
held-other ns i k n ne = held-is (set ns i n) k ∙ ap (λ (m : NodeOf). m.held) (get_or-set_other ns i k n no_node ne)
    ∙ sym (held-is ns k)

pub held-same : (ns : List NodeOf) (i : ℕ) (n : NodeOf) → i < length ns → held_at (set ns i n) i ≡ n.held
held-same ns i n lt = held-is (set ns i n) i ∙ ap (λ (m : NodeOf). m.held) (get_or-set_same ns i n no_node lt)

-- the other flag stays
pub read-same : (ns : List NodeOf) (i : ℕ) (n d : NodeOf) → i < length ns → n.read ≡ (get_or ns i d).read
    → map (λ (m : NodeOf). m.read) (set ns i n) ≡ map (λ (m : NodeOf). m.read) ns
read-same [] i n d lt e = refl
read-same (m ∷ ns) zero n d lt e = ap (λ t. t ∷ map (λ (m : NodeOf). m.read) ns) e
read-same (m ∷ ns) (suc i) n d lt e = ap (λ z. m.read ∷ z) (read-same ns i n d (omega arith) e)

pub reads : (ms ns : List NodeOf) → map (λ (m : NodeOf). m.read) ns ≡ map (λ (m : NodeOf). m.read) ms
    → AllByRecursion (λ (m : NodeOf). m.read ≡ true) ms → AllByRecursion (λ (m : NodeOf). m.read ≡ true) ns
reads [] [] e a = tt
reads [] (n ∷ ns) e a = absurd (cc)
reads (m ∷ ms) [] e a = absurd (cc)
reads (m ∷ ms) (n ∷ ns) e a =
    let h : n.read ≡ m.read = cc in
    let t : map (λ (m : NodeOf). m.read) ns ≡ map (λ (m : NodeOf). m.read) ms = cc in
    (h ∙ a.0, reads ms ns t a.1)

-- ---- exits by the places of ends
module _ (P : Exit → Type 0) (v : ℕ) where
  exit-by : (n : ℕ) (e : LinkEnd) (rest : List Exit) (o : Option Exit) → o ≡ exit_at v (n, e)
      → P (record { port = e.port; peer = e.peer; place = n }) → AllByRecursion P rest
      → AllByRecursion P (cons_option o rest)
  exit-by n e rest None s p a = a
  exit-by n e rest (Some x) s p a = (some-by (e.v == v) s, a)
    where
      some-by : (t : Bool) → Some x ≡ (if t then Some (record { port = e.port; peer = e.peer; place = n }) else None)
          → P x
      some-by true s = let h : record { port = e.port; peer = e.peer; place = n } ≡ x = cc in subst P h p
      some-by false s = absurd (cc)

  pub exits-all : (n : ℕ) (es : List LinkEnd)
      → ((k : ℕ) → k < length es
      → P (record { port = (get_or es k no_end).port; peer = (get_or es k no_end).peer; place = n + k }))
      → AllByRecursion P (filter_map (exit_at v) (enumerate_from n es))
  exits-all n [] a = tt
  exits-all n (e ∷ es) a =
      exit-by n e (filter_map (exit_at v) (enumerate_from (n + 1) es)) (exit_at v (n, e)) refl
      (subst (λ m. P (record { port = e.port; peer = e.peer; place = m })) (let h : n + 0 ≡ n = omega arith in h)
      (a 0 (omega arith)))
      (exits-all (n + 1) es
      (λ k lt. subst
      (λ m. P (record { port = (get_or es k no_end).port; peer = (get_or es k no_end).peer; place = m }))
      (let h : n + suc k ≡ n + 1 + k = omega arith in h) (a (suc k) (omega arith))))

-- an exit has the place of its end
pub record IsExitOf (es : List LinkEnd) (e : Exit) : Type 0 where
  pub there : e.place < length es
  pub peer : e.peer ≡ peer_at es e.place

pub exits-there : (es : List LinkEnd) (v : ℕ) → AllByRecursion (IsExitOf es) (exits es v)
exits-there es v =
    exits-all (IsExitOf es) v 0 es (λ k lt. record {
      there = omega arith;
      peer = ap (peer_at es) (let h : k ≡ 0 + k = omega arith in h);
    })

-- what holds of each holds at a number
pub all-at : {X : Type 0} (P : X → Type 0) (xs : List X) (d : X) → AllByRecursion P xs → (k : ℕ) → k < length xs
    → P (get_or xs k d)
all-at P xs d a k lt = All-from_recursion P xs a k d lt

-- what follows from what holds of each
pub all-from : {X : Type 0} (P Q : X → Type 0) → ((x : X) → P x → Q x) → (xs : List X) → AllByRecursion P xs
    → AllByRecursion Q xs
all-from P Q f [] a = tt
all-from P Q f (x ∷ xs) a = (f x a.0, all-from P Q f xs a.1)

pub all-both : {X : Type 0} (P Q R : X → Type 0) → ((x : X) → P x → Q x → R x) → (xs : List X) → AllByRecursion P xs
    → AllByRecursion Q xs → AllByRecursion R xs
all-both P Q R f [] a b = tt
all-both P Q R f (x ∷ xs) a b = (f x a.0 b.0, all-both P Q R f xs a.1 b.1)
