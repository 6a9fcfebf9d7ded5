-- What becomes of members' tables: how states follow on each other, and how the next cookie rises.
use Rattle.std.proofs.Common.{◌≡◌, ℕ, zero, suc, ◌+◌, ◌<◌, ◌≤◌, ◌^◌, List, [], ◌∷◌, map}
use Rattle.std.proofs.Common.{Ok, fold, arith}
use Rattle.std.specs.List.{enumerate_from}
use Rattle.std.proofs.Math.Nat.{min-le_right}
use Rattle.events.specs.declared.event.Event.{Event}
use Rattle.events.specs.declared.event.Event.TheVariants as events
use Rattle.install_plan.specs.Tables.{after}
use Rattle.install_plan.specs.declared.written.Written.{Written}
use Rattle.member_state.specs.Changes.{accepted, expired, touched, without}
use Rattle.member_state.specs.States.{MemberStateOf}
use Rattle.of10_msgs.specs.Senders.{reading_of_controller}
use Rattle.of10_msgs.specs.declared.message.Body.{Body}
use Rattle.of10_msgs.specs.declared.message.Body.TheVariants as bodies
use Rattle.of10_msgs.specs.declared.message.FlowMod.{FlowMod}
use Rattle.of10_msgs.specs.declared.message.Message.{Message}
use Rattle.machine_meaning.specs.Batches.{next_after}
use Rattle.machine_meaning.specs.Drafts.{Draft}
use Rattle.machine_meaning.specs.Lists.{changed_at}
use Rattle.machine_meaning.specs.Putting.{put_to_member}
use Rattle.machine_meaning.specs.States.{MemberOf, State}
use Rattle.machine_meaning.proofs.Composed.{after_fits}

-- the relation ------------------------------------------------------------------------------------------------------

-- what becomes of a member's state by each change, where messages are good
pub record IsChange (Good : FlowMod → Type 0) (R : MemberStateOf → MemberStateOf → Type 0) : Type 0 where
  pub same : (x : MemberStateOf) → R x x
  pub chained : (x y z : MemberStateOf) → R x y → R y z → R x z
  pub message : (m : FlowMod) (now : ℕ) (x : MemberStateOf) → Good m → R x (accepted m now x)
  pub time : (now : ℕ) (x : MemberStateOf) → R x (expired now x)
  pub removal : (serial : ℕ) (x : MemberStateOf) → R x (without serial x)
  pub count : (serial now : ℕ) (x : MemberStateOf) → R x (touched serial now x)

-- the state of each member became that of the other of its place
abbrev pub Follow : (MemberStateOf → MemberStateOf → Type 0) → List MemberOf → List MemberOf → Type 0
Follow R [] [] = Unit {0}
Follow R [] (y ∷ ys) = ⊥
Follow R (x ∷ xs) [] = ⊥
Follow R (x ∷ xs) (y ∷ ys) = R x.kept y.kept × Follow R xs ys

-- a cookie of 64 bits was followed by one that is no lower
abbrev pub Rises : ℕ → ℕ → Type 0
Rises n k = n < 2 ^ 64 → (n ≤ k) × (k < 2 ^ 64)

abbrev pub GoesOn : (MemberStateOf → MemberStateOf → Type 0) → State → State → Type 0
GoesOn R s t = Follow R s.members t.members × Rises s.next_cookie t.next_cookie

abbrev pub Moves : (MemberStateOf → MemberStateOf → Type 0) → Draft → Draft → Type 0
Moves R d e = GoesOn R d.state e.state

-- a message of a member, if it is a FLOW_MOD, is good
abbrev pub GoodBody : (FlowMod → Type 0) → Body → Type 0
GoodBody Good (bodies.FlowMod change) = Good change
GoodBody Good body = Unit {0}

abbrev pub GoodFrame : (FlowMod → Type 0) → List ℕ → Type 0
GoodFrame Good frame = (m : Message) → reading_of_controller frame ≡ Ok m → GoodBody Good m.body

-- the frame of an event that is heard, if it has one, is good
abbrev pub GoodEvent : (FlowMod → Type 0) → Event → Type 0
GoodEvent Good (events.Msg session frame) = GoodFrame Good frame
GoodEvent Good e = Unit {0}

after-rises : (n : ℕ) → Rises n (after n)
after-rises n lt = let least = min-le_right (n + 1) 18446744073709551615 in (omega arith, after_fits n)

pub next-rises : (n : ℕ) (ws : List Written) → Rises n (next_after n ws)
next-rises n [] lt = (omega arith, lt)
next-rises n (w ∷ ws) lt =
    let one = after-rises n lt in
    let rest = next-rises (after n) ws one.1 in
    let a = one.0 in
    let b = rest.0 in
    (omega (arith, a, b), rest.1)

module _ {Good : FlowMod → Type 0} {R : MemberStateOf → MemberStateOf → Type 0} (law : IsChange Good R) where
  pub follow-same : (xs : List MemberOf) → Follow R xs xs
  follow-same [] = tt
  follow-same (x ∷ xs) = (law.same x.kept, follow-same xs)

  pub follow-then : (xs ys zs : List MemberOf) → Follow R xs ys → Follow R ys zs → Follow R xs zs
  follow-then [] [] [] f g = tt
  follow-then [] [] (z ∷ zs) f g = g
  follow-then [] (y ∷ ys) zs f g = absurd f
  follow-then (x ∷ xs) [] zs f g = absurd f
  follow-then (x ∷ xs) (y ∷ ys) [] f g = g
  follow-then (x ∷ xs) (y ∷ ys) (z ∷ zs) f g =
      (law.chained x.kept y.kept z.kept f.0 g.0, follow-then xs ys zs f.1 g.1)

  pub follow-changed : (n : ℕ) (f : MemberOf → MemberOf) → ((x : MemberOf) → R x.kept (f x).kept) → (xs : List MemberOf)
      → Follow R xs (changed_at n f xs)
  follow-changed n f h [] = tt
  follow-changed zero f h (x ∷ xs) = (h x, follow-same xs)
  follow-changed (suc n) f h (x ∷ xs) = (law.same x.kept, follow-changed n f h xs)

  pub follow-mapped : (f : MemberOf → MemberOf) → ((x : MemberOf) → R x.kept (f x).kept) → (xs : List MemberOf)
      → Follow R xs (map f xs)
  follow-mapped f h [] = tt
  follow-mapped f h (x ∷ xs) = (h x, follow-mapped f h xs)

  pub follow-put : (d : Draft) (k : ℕ) (xs : List MemberOf) → Follow R xs (map (put_to_member d) (enumerate_from k xs))
  follow-put d k [] = tt
  follow-put d k (x ∷ xs) = (law.same x.kept, follow-put d (k + 1) xs)

  -- states ----------------------------------------------------------------------------------------------------------

  pub still : (s : State) → GoesOn R s s
  still s = (follow-same s.members, λ lt. (omega arith, lt))

  pub on : (s t u : State) → GoesOn R s t → GoesOn R t u → GoesOn R s u
  on s t u f g = (
    follow-then s.members t.members u.members f.0 g.0,
    λ lt. let a = f.1 lt in
        let b = g.1 a.1 in
        let p = a.0 in
        let q = b.0 in
        (omega (arith, p, q), b.1),
  )

  pub one : (s : State) (n : ℕ) (f : MemberOf → MemberOf) → ((x : MemberOf) → R x.kept (f x).kept)
      → GoesOn R s (record s { members = changed_at n f s.members })
  one s n f h = (follow-changed n f h s.members, λ lt. (omega arith, lt))

  pub folded : {X : Type 0} (f : Draft → X → Draft) → ((d : Draft) (x : X) → Moves R d (f d x))
      → (xs : List X) (d : Draft)
      → Moves R d (fold f d xs)
  folded f h [] d = still d.state
  folded f h (x ∷ xs) d = on d.state (f d x).state (fold f (f d x) xs).state (h d x) (folded f h xs (f d x))

  pub folded-states : {X : Type 0} (f : State → X → State) → ((s : State) (x : X) → GoesOn R s (f s x)) → (xs : List X)
      (s : State) → GoesOn R s (fold f s xs)
  folded-states f h [] s = still s
  folded-states f h (x ∷ xs) s = on s (f s x) (fold f (f s x) xs) (h s x) (folded-states f h xs (f s x))
