-- What a machine means, as plain data, is its state.
use Rattle.std.proofs.Common.{◌≡◌, ◌∙◌, ℕ, Bool, true, false, ◌&&◌, ◌||◌, List, [], ◌∷◌, ◌++◌, Option, Some, None}
use Rattle.std.proofs.Common.{arith, filter, map, refl, sym, ap, subst, true≢false}
use Rattle.std.proofs.Math.Path.{fun_ext}
use Rattle.std.specs.Prelude.{◌==◌, IfOk, MatchOption, MatchResult, OnErr, Result, Ok, Err, cond, flat_map}
use Rattle.std.specs.Prelude.{if◌then◌else◌, is_some, not}
use Rattle.std.specs.FinMap.{contains_key-keys, find, get, get-from_entries, keys, same_map}
use Rattle.std.specs.List.{list_any}
use Rattle.std.specs.Map.{keys_of}
use Rattle.std.specs.Ordering.{eq_by_cmp}
use Rattle.cv_io.specs.Leaves.{leaf_cmp, same_leaf}
use Rattle.cv_io.specs.declared.leaf.Leaf.{Leaf}
use Rattle.cv_io.specs.declared.memory.Memory.{Memory}
use Rattle.events.specs.declared.event.Event.{Event}
use Rattle.events.specs.declared.event.Reply.{Reply}
use Rattle.policies.specs.Policies.{PolicyOf}
use Rattle.stats_map.specs.Counting.{Cookies, CountsOf, Place, all_ended, cookie_at, ended, installed_at}
use Rattle.stats_map.specs.Counting.{is_named, of_switch, reported_on, swept, with_numbers}
use Rattle.stats_map.specs.Histories.{Dropped, Step, Told, WentDown, Wrote, after, gone, gone_at, gone_by, run}
use Rattle.stats_map.specs.InsideSums.{Sums, forgotten_in as forgotten_of, sum_at, total_in as total_of}
use Rattle.stats_map.specs.Told.{told}
use Rattle.stats_map.proofs.SlotSums.{at-same, leaf_exact, leaf_total}
use Rattle.switch_meaning.specs.Counts.{Cookie, Numbers, added, names}
use Rattle.switch_meaning.proofs.Alike.{leaf_decides}
use Rattle.machine_meaning.specs.Ever.{counted_by}
use Rattle.machine_meaning.specs.Glances.{glance_of}
use Rattle.machine_meaning.specs.States.{State}
use Rattle.machine_meaning.specs.Steps.{step_by, step_of}
use Rattle.machine_meaning.proofs.CountSteps.{counts_counted}
use Rattle.machine_drafts.specs.Machines.{MachineOf, state_of}
use Rattle.event_composes.specs.Meanings.{Left, Lefts, MeaningsAreStates, NextIsStep, StateData, counts_in, data_in}
use Rattle.event_composes.specs.Meanings.{data_of, dropped_by, forgotten_in, has_left, is_idle, is_something}
use Rattle.event_composes.specs.Meanings.{leaves_after, leaves_in, left_at, lefts_of, next_by, next_data, reply_to}
use Rattle.event_composes.specs.Meanings.{state_in, total_in, with_left}

-- what is left of leaves ---------------------------------------------------------------------------------------------

-- what is left, if it is something
abbrev some_left : Left → Option Left
some_left x = if is_something x then Some x else None

-- no leaf but these has something left
abbrev Covers : CountsOf → List Leaf → Type 0
Covers c leaves = (q : Leaf) → list_any (same_leaf q) leaves ≡ false → is_something (left_at c q) ≡ false

-- what is found of a leaf
found : (c : CountsOf) (q : Leaf) (leaves : List Leaf)
    → find leaf_cmp q (map (with_left c) (filter (has_left c) leaves))
    ≡ (if list_any (same_leaf q) leaves then some_left (left_at c q) else None)
found c q [] = refl
found c q (leaf ∷ leaves) = by (found c q leaves) (has_left c leaf) refl (same_leaf q leaf) refl
  where
    rest : Option Left
    rest = find leaf_cmp q (map (with_left c) (filter (has_left c) leaves))

    tied : (b : Bool) → same_leaf q leaf ≡ b → eq_by_cmp leaf_cmp q leaf ≡ b
    tied b e = at-same q leaf ∙ e

    same : same_leaf q leaf ≡ true → q ≡ leaf
    same e = (leaf_decides q leaf).0 e

    -- a leaf that has nothing isn't found
    nothing : (any : Bool) → is_something (left_at c q) ≡ false → (if any then some_left (left_at c q) else None) ≡ None
    nothing true e = ap (λ (b : Bool). if b then Some (left_at c q) else None) e
    nothing false e = refl

    Rest : Type 0
    Rest = rest ≡ (if list_any (same_leaf q) leaves then some_left (left_at c q) else None)

    Goal : Bool → Bool → Type 0
    Goal has is =
        find leaf_cmp q
        (map (with_left c) (if has then leaf ∷ filter (has_left c) leaves else filter (has_left c) leaves))
        ≡ (if is || list_any (same_leaf q) leaves then some_left (left_at c q) else None)

    each : Rest → (has : Bool) → has_left c leaf ≡ has → (is : Bool) → same_leaf q leaf ≡ is → Goal has is
    each more true h true e =
        ap (λ (b : Bool). cond b (Some (left_at c leaf)) rest) (tied true e)
        ∙ (ap (λ (l : Leaf). Some (left_at c l)) (sym (same e))
        ∙ sym (ap (λ (b : Bool). if b then Some (left_at c q) else None) (ap (has_left c) (same e) ∙ h)))
    each more true h false e =
        ap (λ (b : Bool). cond b (Some (left_at c leaf)) rest) (tied false e) ∙ more
    each more false h true e =
        let none : is_something (left_at c q) ≡ false = ap (has_left c) (same e) ∙ h in
        more ∙ (nothing (list_any (same_leaf q) leaves) none ∙ sym (nothing true none))
    each more false h false e = more

    by : Rest → (has : Bool) → has_left c leaf ≡ has → (is : Bool) → same_leaf q leaf ≡ is
        → Goal (has_left c leaf) (same_leaf q leaf)
    by more has h is e =
        subst (λ (b : Bool). Goal b (same_leaf q leaf)) (sym h)
        (subst (λ (b : Bool). Goal has b) (sym e) (each more has h is e))

-- what is got of a leaf, where the leaves are all that have something
got : (c : CountsOf) (leaves : List Leaf) → Covers c leaves → (q : Leaf)
    → get (lefts_of c leaves) q ≡ some_left (left_at c q)
got c leaves covers q =
    get-from_entries leaf_total (map (with_left c) (filter (has_left c) leaves)) q
    ∙ (found c q leaves ∙ by (list_any (same_leaf q) leaves) refl)
  where
    by : (any : Bool) → list_any (same_leaf q) leaves ≡ any
        → (if any then some_left (left_at c q) else None) ≡ some_left (left_at c q)
    by true e = refl
    by false e = sym (ap (λ (b : Bool). if b then Some (left_at c q) else None) (covers q e))

-- whichever leaves cover the counts, the same is left
same_lefts : (c : CountsOf) (a b : List Leaf) → Covers c a → Covers c b → lefts_of c a ≡ lefts_of c b
same_lefts c a b over_a over_b =
    same_map leaf_total leaf_exact (lefts_of c a) (lefts_of c b) (λ q. got c a over_a q ∙ sym (got c b over_b q))

-- a left that is nothing has no numbers, and isn't forgotten
record IsNothing (x : Left) : Type 0 where
  packets : x.packets ≡ 0
  bytes : x.bytes ≡ 0
  forgotten : x.forgotten ≡ false

is_nothing : (x : Left) → is_something x ≡ false → IsNothing x
is_nothing x e = by (x.packets == 0) refl (x.bytes == 0) refl x.forgotten refl
  where
    zero_if : (n : ℕ) → (n == 0) ≡ true → n ≡ 0
    zero_if n h = grind (arith, h)

    tests : (p b f : Bool) → (x.packets == 0) ≡ p → (x.bytes == 0) ≡ b → x.forgotten ≡ f
        → not (p && (b && not f)) ≡ false
    tests p b f i j k =
        ap (λ (z : Bool). not (z && (b && not f))) (sym i)
        ∙ (ap (λ (z : Bool). not ((x.packets == 0) && (z && not f))) (sym j)
        ∙ (ap (λ (z : Bool). not ((x.packets == 0) && ((x.bytes == 0) && not z))) (sym k) ∙ e))

    by : (p : Bool) → (x.packets == 0) ≡ p → (b : Bool) → (x.bytes == 0) ≡ b → (f : Bool) → x.forgotten ≡ f
        → IsNothing x
    by true i true j false k = record { packets = zero_if x.packets i; bytes = zero_if x.bytes j; forgotten = k }
    by true i true j true k = absurd (true≢false (tests true true true i j k))
    by true i false j f k = absurd (true≢false (tests true false f i j k))
    by false i b j f k = absurd (true≢false (tests false b f i j k))

-- a left that has no numbers and isn't forgotten is nothing
isnt_something : (x : Left) → x.packets ≡ 0 → x.bytes ≡ 0 → x.forgotten ≡ false → is_something x ≡ false
isnt_something x p b f = λ i. is_something (record { packets = p i; bytes = b i; forgotten = f i })

-- the counts are what is left of leaves that cover them
counts_back : (c : CountsOf) (leaves : List Leaf) → Covers c leaves → counts_in c.live (lefts_of c leaves) ≡ c
counts_back c leaves covers = λ i. record { live = c.live; totals = fun_ext totals i; forgotten = fun_ext forgotten i }
  where
    total : (x : Left) (b : Bool) → is_something x ≡ b
        → total_in (if b then Some x else None) ≡ record { packets = x.packets; bytes = x.bytes }
    total x true e = refl
    total x false e = let n = is_nothing x e in λ i. record { packets = sym n.packets i; bytes = sym n.bytes i }

    goes : (x : Left) (b : Bool) → is_something x ≡ b → forgotten_in (if b then Some x else None) ≡ x.forgotten
    goes x true e = refl
    goes x false e = sym (is_nothing x e).forgotten

    totals : (q : Leaf) → total_in (get (lefts_of c leaves) q) ≡ c.totals q
    totals q =
        ap total_in (got c leaves covers q) ∙ total (left_at c q) (is_something (left_at c q)) refl

    forgotten : (q : Leaf) → forgotten_in (get (lefts_of c leaves) q) ≡ c.forgotten q
    forgotten q =
        ap forgotten_in (got c leaves covers q) ∙ goes (left_at c q) (is_something (left_at c q)) refl

-- a state as plain data is the state
state_back : (p : PolicyOf) (s : State) (leaves : List Leaf) → Covers s.counts leaves
    → state_in (data_of p s leaves) ≡ s
state_back p s leaves covers =
    ap (λ (c : CountsOf). record s { counts = c }) (counts_back s.counts leaves covers)

same_data : (p : PolicyOf) (s : State) (a b : List Leaf) → Covers s.counts a → Covers s.counts b
    → data_of p s a ≡ data_of p s b
same_data p s a b over_a over_b =
    ap (λ (l : Lefts). record (data_of p s a) { lefts = l }) (same_lefts s.counts a b over_a over_b)

-- the leaves that have something left ---------------------------------------------------------------------------------

any_alike : {A : Type 0} (f g : A → Bool) → ((x : A) → f x ≡ g x) → (xs : List A) → list_any f xs ≡ list_any g xs
any_alike f g h [] = refl
any_alike f g h (x ∷ xs) = λ i. h x i || any_alike f g h xs i

neither : (a b : Bool) → (a || b) ≡ false → (a ≡ false) × (b ≡ false)
neither true b e = absurd (true≢false e)
neither false b e = (refl, e)

any_both : (f : Leaf → Bool) (xs ys : List Leaf) → list_any f (xs ++ ys) ≡ false
    → (list_any f xs ≡ false) × (list_any f ys ≡ false)
any_both f [] ys e = (refl, e)
any_both f (x ∷ xs) ys e =
    let h = neither (f x) (list_any f (xs ++ ys)) e in
    let r = any_both f xs ys h.1 in
    (λ i. h.0 i || r.0 i, r.1)

-- a leaf that isn't among the keys has nothing
no_key : (lefts : Lefts) (q : Leaf) → list_any (same_leaf q) (keys lefts) ≡ false → get lefts q ≡ None
no_key lefts q e = by (get lefts q) refl
  where
    none : is_some (get lefts q) ≡ false
    none =
        contains_key-keys lefts q
        ∙ (any_alike (eq_by_cmp leaf_cmp q) (same_leaf q) (at-same q) (keys lefts) ∙ e)

    by : (o : Option Left) → get lefts q ≡ o → o ≡ None
    by None h = refl
    by (Some x) h = absurd (true≢false (ap is_some (sym h) ∙ none))

-- what a leaf has that no step so far left anything of
record HasNothing (q : Leaf) (c : CountsOf) : Type 0 where
  total : c.totals q ≡ record { packets = 0; bytes = 0 }
  forgotten : c.forgotten q ≡ false

has_nothing : (q : Leaf) (c : CountsOf) → HasNothing q c → is_something (left_at c q) ≡ false
has_nothing q c h =
    isnt_something (left_at c q) (ap (λ (n : Numbers). n.packets) h.total) (ap (λ (n : Numbers). n.bytes) h.total)
    h.forgotten

swept_nothing : (q : Leaf) (c : CountsOf) → HasNothing q c → HasNothing q (swept c)
swept_nothing q c h = record {
  total = swept_total c.totals c.forgotten (is_named c q) h.total h.forgotten;
  forgotten = swept_goes c.forgotten (is_named c q) h.forgotten;
}
  where
    swept_total : (totals : Leaf → Numbers) (forgotten : Leaf → Bool) (named : Bool)
        → totals q ≡ record { packets = 0; bytes = 0 } → forgotten q ≡ false
        → (if forgotten q && not named then record { packets = 0; bytes = 0 } else totals q)
        ≡ record { packets = 0; bytes = 0 }
    swept_total totals forgotten named t f =
        ap (λ (b : Bool). if b && not named then record { packets = 0; bytes = 0 } else totals q) f ∙ t

    swept_goes : (forgotten : Leaf → Bool) (named : Bool) → forgotten q ≡ false → (forgotten q && named) ≡ false
    swept_goes forgotten named f = ap (λ (b : Bool). b && named) f

-- a cookie that doesn't name it ends
ends_nothing : (q : Leaf) (place : Place) (k : Cookie) (c : CountsOf) → names q k ≡ false → HasNothing q c
    → HasNothing q (ended place k c)
ends_nothing q place k c n h =
    swept_nothing q _ (record {
      total = ap (λ (b : Bool). if b then added (c.totals q) k.numbers else c.totals q) n ∙ h.total;
      forgotten = h.forgotten;
    })

all_end_nothing : (q : Leaf) (cookies : Cookies) (c : CountsOf)
    → list_any (same_leaf q) (leaves_in (map (λ p. p.1) cookies)) ≡ false → HasNothing q c
    → HasNothing q (all_ended cookies c)
all_end_nothing q [] c n h = h
all_end_nothing q (p ∷ ps) c n h =
    let m = any_both (same_leaf q) p.1.ancestry (leaves_in (map (λ p. p.1) ps)) n in
    all_end_nothing q ps (ended p.0 p.1 c) m.1 (ends_nothing q p.0 p.1 c m.0 h)

-- two leaves are the same either way
same_way : (a b : Leaf) → same_leaf a b ≡ false → same_leaf b a ≡ false
same_way a b e = by (same_leaf b a) refl
  where
    by : (t : Bool) → same_leaf b a ≡ t → t ≡ false
    by false h = refl
    by true h = absurd (true≢false (sym ((leaf_decides a b).1 (sym ((leaf_decides b a).0 h))) ∙ e))

step_nothing : (q : Leaf) (x : Step) (c : CountsOf) → list_any (same_leaf q) (leaves_in (gone_by x c)) ≡ false
    → list_any (same_leaf q) (dropped_by x) ≡ false → HasNothing q c → HasNothing q (after x c)
step_nothing q (Wrote place ancestry) c n m h = by (cookie_at place c)
  where
    by : (o : Option Cookie) → HasNothing q (installed_at o place ancestry c)
    by None = record { total = h.total; forgotten = h.forgotten }
    by (Some k) = h
step_nothing q (Told place numbers last) c n m h = by (cookie_at place c) last n
  where
    by : (o : Option Cookie) (b : Bool) → list_any (same_leaf q) (leaves_in (gone_at o numbers b)) ≡ false
        → HasNothing q (reported_on o place numbers b c)
    by None b n = h
    by (Some k) true n =
        ends_nothing q place (with_numbers numbers k) c (any_both (same_leaf q) k.ancestry [] n).0 h
    by (Some k) false n = record { total = h.total; forgotten = h.forgotten }
step_nothing q (WentDown switch) c n m h = all_end_nothing q (of_switch switch c.live) c n h
step_nothing q (Dropped leaf) c n m h =
    let other = same_way q leaf (neither (same_leaf q leaf) false m).0 in
    swept_nothing q _
    (record { total = h.total; forgotten = ap (λ (b : Bool). b || c.forgotten q) other ∙ h.forgotten })

run_nothing : (q : Leaf) (steps : List Step) (c : CountsOf) → list_any (same_leaf q) (leaves_in (gone steps c)) ≡ false
    → list_any (same_leaf q) (flat_map dropped_by steps) ≡ false → HasNothing q c → HasNothing q (run steps c)
run_nothing q [] c n m h = h
run_nothing q (x ∷ xs) c n m h =
    let a = any_both (same_leaf q) (leaves_in (gone_by x c)) (leaves_in (gone xs (after x c))) (split n) in
    let b = any_both (same_leaf q) (dropped_by x) (flat_map dropped_by xs) m in
    run_nothing q xs (after x c) a.1 b.1 (step_nothing q x c a.0 b.0 h)
  where
    leaves_both : (ks js : List Cookie) → leaves_in (ks ++ js) ≡ leaves_in ks ++ leaves_in js
    leaves_both [] js = refl
    leaves_both (k ∷ ks) js = ap (λ (l : List Leaf). k.ancestry ++ l) (leaves_both ks js) ∙ joined k.ancestry
      where
        joined : (l : List Leaf) → l ++ (leaves_in ks ++ leaves_in js) ≡ (l ++ leaves_in ks) ++ leaves_in js
        joined [] = refl
        joined (y ∷ ys) = ap (λ (l : List Leaf). y ∷ l) (joined ys)

    split : list_any (same_leaf q) (leaves_in (gone_by x c ++ gone xs (after x c))) ≡ false
        → list_any (same_leaf q) (leaves_in (gone_by x c) ++ leaves_in (gone xs (after x c))) ≡ false
    split e = ap (list_any (same_leaf q)) (sym (leaves_both (gone_by x c) (gone xs (after x c)))) ∙ e

-- the leaves of what is plain data cover its counts after steps
covered_after : (d : StateData) (steps : List Step)
    → Covers (run steps (counts_in d.live d.lefts)) (leaves_after d steps)
covered_after d steps q e =
    let went = leaves_in (gone steps (counts_in d.live d.lefts)) in
    let a = any_both (same_leaf q) (keys d.lefts) (went ++ flat_map dropped_by steps) e in
    let b = any_both (same_leaf q) went (flat_map dropped_by steps) a.1 in
    let none = no_key d.lefts q a.0 in
    has_nothing q (run steps (counts_in d.live d.lefts)) (run_nothing q steps (counts_in d.live d.lefts) b.0 b.1
    (record { total = ap total_in none; forgotten = ap forgotten_in none }))

-- the leaves that have a sum cover what is held
no_sum_of : (q : Leaf) (sums : Sums) → list_any (same_leaf q) (keys_of sums) ≡ false → sum_at q sums ≡ None
no_sum_of q [] e = refl
no_sum_of q (x ∷ xs) e =
    let m = neither (same_leaf q x.0) (list_any (same_leaf q) (keys_of xs)) e in
    ap (λ (b : Bool). cond b (Some x.1) (sum_at q xs)) (at-same q x.0 ∙ m.0) ∙ no_sum_of q xs m.1

covered : (m : MachineOf) → Covers (told m.holding.counts) (keys_of m.holding.counts.sums)
covered m q e =
    let none = no_sum_of q m.holding.counts.sums e in
    has_nothing q (told m.holding.counts) (record { total = ap total_of none; forgotten = ap forgotten_of none })

-- what a machine means ----------------------------------------------------------------------------------------------

pub meanings_are_states : MeaningsAreStates
unfolding data_in
meanings_are_states m = (refl, state_back m.plan (state_of m) (keys_of m.holding.counts.sums) (covered m))

-- the leaves after a step cover its counts
covered_by : (d : StateData) (e : Event)
    → Covers (step_of d.plan (state_in d) e).1.counts (leaves_after d (counted_by d.plan (state_in d) e))
covered_by d e =
    subst (λ (c : CountsOf). Covers c (leaves_after d (counted_by d.plan (state_in d) e)))
    (sym (counts_counted d.plan (state_in d) e)) (covered_after d (counted_by d.plan (state_in d) e))

state_after : (d : StateData) (e : Event) (o : Option Reply) → glance_of d.plan (state_in d) e ≡ o
    → state_in (next_by o d e) ≡ (step_of d.plan (state_in d) e).1
state_after d e (Some reply) g = sym (ap (λ o. (step_by o d.plan (state_in d) e).1) g)
state_after d e None g =
    state_back d.plan (step_of d.plan (state_in d) e).1 (leaves_after d (counted_by d.plan (state_in d) e))
    (covered_by d e)

plan_after : (d : StateData) (e : Event) (o : Option Reply) → (next_by o d e).plan ≡ d.plan
plan_after d e (Some reply) = refl
plan_after d e None = refl

pub next_is_step : NextIsStep
unfolding next_data reply_to
next_is_step d e = (
  plan_after d e (glance_of d.plan (state_in d) e),
  λ i. ((step_of d.plan (state_in d) e).0, state_after d e (glance_of d.plan (state_in d) e) refl i),
)

-- a machine of the same policy and state means the same
kept_meaning : (m n : MachineOf) → n.plan ≡ m.plan → state_of n ≡ state_of m → data_in n ≡ data_in m
unfolding data_in
kept_meaning m n plan state =
    ap (λ (p : PolicyOf). data_of p (state_of n) (keys_of n.holding.counts.sums)) plan
    ∙ (same_data m.plan (state_of n) (keys_of n.holding.counts.sums) (keys_of m.holding.counts.sums) (covered n)
    (subst (λ (s : State). Covers s.counts (keys_of m.holding.counts.sums)) (sym state) (covered m))
    ∙ ap (λ (s : State). data_of m.plan s (keys_of m.holding.counts.sums)) state)

-- so does a copy
pub copied_means : (m : MachineOf) (r : Result MachineOf Memory) → IfOk r (λ n. n.plan ≡ m.plan)
    → IfOk r (λ n. state_of n ≡ state_of m) → IfOk r (λ n. data_in n ≡ data_in m)
copied_means m (Ok n) plan state = kept_meaning m n plan state
copied_means m (Err e) plan state = tt

-- the meaning of a machine after a step is the next one
next_meaning : (m n : MachineOf) (e : Event) (reply : Reply) → n.plan ≡ m.plan
    → (reply, state_of n) ≡ step_of m.plan (state_of m) e
    → (reply ≡ reply_to (data_in m) e) × (data_in n ≡ next_data (data_in m) e)
unfolding data_in next_data reply_to
next_meaning m n e reply plan step = (
  ap (λ r. r.0) told_step,
  same (glance_of m.plan (state_in (data_in m)) e) refl,
)
  where
    d : StateData
    d = data_in m

    is_state : state_in d ≡ state_of m
    is_state = (meanings_are_states m).1

    told_step : (reply, state_of n) ≡ step_of m.plan (state_in d) e
    told_step = step ∙ ap (λ (s : State). step_of m.plan s e) (sym is_state)

    now : state_of n ≡ (step_of m.plan (state_in d) e).1
    now = ap (λ r. r.1) told_step

    same_plan : data_in n ≡ data_of m.plan (state_of n) (keys_of n.holding.counts.sums)
    same_plan = ap (λ (p : PolicyOf). data_of p (state_of n) (keys_of n.holding.counts.sums)) plan

    after_step : List Leaf
    after_step = leaves_after d (counted_by m.plan (state_in d) e)

    same : (o : Option Reply) → glance_of m.plan (state_in d) e ≡ o → data_in n ≡ next_by o d e
    same None g =
        same_plan
        ∙ (same_data m.plan (state_of n) (keys_of n.holding.counts.sums) after_step (covered n)
        (subst (λ (s : State). Covers s.counts after_step) (sym now) (covered_by d e))
        ∙ ap (λ (s : State). data_of m.plan s after_step) now)
    same (Some r) g =
        kept_meaning m n plan (now ∙ (ap (λ o. (step_by o m.plan (state_in d) e).1) g ∙ is_state))

-- what a step makes of the meaning, and what it leaves where memory is wanted
pub step_is : (m n : MachineOf) (e : Event) (r : Result Reply Memory) → n.plan ≡ m.plan
    → IfOk r (λ reply. (reply, state_of n) ≡ step_of m.plan (state_of m) e)
    → OnErr r (state_of n ≡ state_of m)
    → MatchResult r (λ reply. (reply ≡ reply_to (data_in m) e) × (data_in n ≡ next_data (data_in m) e))
    (λ _. data_in n ≡ data_in m)
step_is m n e (Ok reply) plan step memory = next_meaning m n e reply plan step
step_is m n e (Err fault) plan step memory = kept_meaning m n plan memory

-- what is answered at once of a machine's state is answered at once of its meaning
pub glance_is : (m : MachineOf) (e : Event) (o : Option Reply) → o ≡ glance_of m.plan (state_of m) e
    → MatchOption o (is_idle (data_in m) e ≡ false)
    (λ reply. (is_idle (data_in m) e ≡ true) × (reply ≡ reply_to (data_in m) e))
unfolding data_in is_idle reply_to
glance_is m e o g = by o (g ∙ ap (λ (s : State). glance_of m.plan s e) (sym (meanings_are_states m).1))
  where
    d : StateData
    d = data_in m

    by : (o : Option Reply) → o ≡ glance_of m.plan (state_in d) e
        → MatchOption o (is_some (glance_of m.plan (state_in d) e) ≡ false)
        (λ reply. (is_some (glance_of m.plan (state_in d) e) ≡ true) × (reply ≡ (step_of m.plan (state_in d) e).0))
    by None f = ap is_some (sym f)
    by (Some reply) f = (ap is_some (sym f), ap (λ o. (step_by o m.plan (state_in d) e).0) f)
