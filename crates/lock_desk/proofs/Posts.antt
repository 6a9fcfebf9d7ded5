-- Posts to the lock are posts to the desk.
use Rattle.std.proofs.Common.{◌≡◌, ◌⊎◌, ℕ, ◌≤◌, Bool, true, false, List, [], ◌∷◌, ◌++◌, length, map, take, Some, refl}
use Rattle.std.proofs.Common.{sym, ap, ◌∙◌, subst, arith, inl, inr, append_assoc}
use mathlib.Core.List.{IsPrefix}
use Rattle.std.proofs.lemmas.List.{append-nil, map-append, take_all}
use Rattle.cv_io.specs.declared.leaf.Session.{Session}
use Rattle.cv_io.specs.declared.leaf.Who.{Who}
use Rattle.events.specs.declared.event.Event.{Event}
use Rattle.events.specs.declared.event.Event.TheVariants.{Up, Take}
use Rattle.events.specs.declared.event.Reply.{Reply}
use Rattle.events.specs.declared.event.Reply.TheVariants.{Opened, Done, Taken, Empty, Closed}
use Rattle.policy_lock.specs.History.{after, calls_by, entry}
use Rattle.policy_lock.specs.Post.{IsPosted}
use Rattle.policy_lock.specs.Seat.{IsLater, IsSameSeat, IsSeatOf, LockOf, SeatOf}
use Rattle.policy_lock.specs.declared.machine.Machine.{Ghosts}
use Rattle.policy_lock.specs.declared.view.Entry.{Entry}
use Rattle.policy_lock.specs.declared.view.Pass.{Pass}
use Rattle.policy_lock.proofs.Histories.{after-append, calls-append, calls-mine, prefix_more}
use Rattle.policy_lock.proofs.Keeps.{opt_or}
use Rattle.sessions.specs.Posts.{AddsHeard, AddsTaken, Finds, IsRefusedWhere, MayAdd, taking}
use Rattle.sessions.specs.declared.desk.Post.{Post}
use Rattle.lock_desk.specs.Answers.{hearing_of, taking_of}
use Rattle.lock_desk.specs.Hosts.{IsDone, IsHeard, IsOpened, IsOver, IsTaken, NothingWaits}
use Rattle.lock_desk.specs.Passes.{HoldsAfter, IsSince, Shows, own_posts, post_of, posts_by}

abbrev pub answered : Event → Reply → Post
answered e r = record { event = e; reply = r }

-- one more entry of a number is one more post
posts-more : (number : List ℕ) (before seen log : List (Entry Event Reply)) (e : Event) (r : Reply)
    → calls_by number before ≡ calls_by number seen → log ≡ before ++ entry number e r ∷ []
    → posts_by number log ≡ posts_by number seen ++ answered e r ∷ []
posts-more number before seen log e r same is =
    ap (posts_by number) is
    ∙ (ap (map post_of) (calls-append number before (entry number e r ∷ [])
    ∙ (λ i. same i ++ calls-mine number number e r refl i))
    ∙ map-append post_of (calls_by number seen) (entry number e r ∷ []))

prefix_still : {A : Type 0} (xs ys zs : List A) → IsPrefix xs ys → IsPrefix ys zs → IsPrefix xs zs
prefix_still xs ys zs a b = (a.0 ++ b.0, sym (append_assoc xs a.0 b.0) ∙ (ap (λ l. l ++ b.0) a.1 ∙ b.1))

-- a seat is since it was itself
pub since_itself : {E R S : Type 0} (v : SeatOf E R S) → IsSince v v
since_itself v = record { number = refl; children = refl; start = refl; seen = ([], append-nil v.pass.seen) }

-- and since then, if it was since then before it saw more
pub since_still : {E R S : Type 0} (old v w : SeatOf E R S) → IsSince old v → IsSince v w → IsSince old w
since_still old v w h k = record {
  number = k.number ∙ h.number;
  children = k.children ∙ h.children;
  start = k.start ∙ h.start;
  seen = prefix_still old.pass.seen v.pass.seen w.pass.seen h.seen k.seen;
}

-- a seat is still admitted after a post
pub admitted : {E R S : Type 0} (lock : LockOf S) (old v w : SeatOf E R S) → IsSeatOf lock v → IsSince old v
    → IsSameSeat v w → IsPrefix v.pass.seen w.pass.seen → IsSeatOf lock w × IsSince old w
admitted lock old v w is since same seen = (
  (same.0 ∙ is.0, same.1 ∙ is.1),
  since_still old v w since (record { number = same.2; children = same.3; start = same.1; seen = seen }),
)

-- who is known is known after any history
pub known_after : {M S : Type 0} (g : Ghosts M Event Reply S) (knows : S → Who → Type 0)
    → ((s : S) (e : Event) (who : Who) → knows s who → knows (g.next s e) who)
    → (who : Who) (s : S) (log : List (Entry Event Reply)) → knows s who → knows (after g s log) who
known_after g knows stays who s [] h = h
known_after g knows stays who s (x ∷ xs) h = known_after g knows stays who (g.next s x.event) xs (stays s x.event who h)

-- a second that was told was told after any history
told_after : {M S : Type 0} (g : Ghosts M Event Reply S) (is_at : S → ℕ → Type 0)
    → ((s : S) (e : Event) (second : ℕ) → is_at s second → is_at (g.next s e) second)
    → (second : ℕ) (s : S) (log : List (Entry Event Reply)) → is_at s second → is_at (after g s log) second
told_after g is_at stays second s [] h = h
told_after g is_at stays second s (x ∷ xs) h =
    told_after g is_at stays second (g.next s x.event) xs (stays s x.event second h)

-- a seat that has seen more shows what it showed
pub still_shows : {M S : Type 0} (g : Ghosts M Event Reply S) (is_at : S → ℕ → Type 0)
    → ((s : S) (e : Event) (second : ℕ) → is_at s second → is_at (g.next s e) second)
    → (v w : Pass Event Reply S) → w.start ≡ v.start → IsPrefix v.seen w.seen
    → (second : ℕ) → Shows g is_at v second → Shows g is_at w second
still_shows {M} {S} g is_at stays v w same later second h = λ s began.
    subst (λ (log : List (Entry Event Reply)). is_at (after g s log) second) later.1
    (subst (λ (t : S). is_at t second) (sym (after-append g s v.seen later.0))
    (told_after g is_at stays second (after g s v.seen) later.0 (h s (sym same ∙ began))))

-- a seat that made no call has the posts that it had
pub posts-later : {S : Type 0} (v w : Pass Event Reply S) → w.number ≡ v.number → IsLater v w
    → own_posts w ≡ own_posts v
posts-later v w same later = ap (λ n. posts_by n w.seen) same ∙ ap (map post_of) later.1

-- a post leaves what was seen
pub seen_posted : {M E R S : Type 0} (g : Ghosts M E R S) (start : S) (v w : Pass E R S) (e : E) (place : ℕ) (r : R)
    (a b : ℕ)
    → IsPosted g start v w e place r a b → IsPrefix v.seen w.seen
seen_posted g start v w e place r a b p = by (g.idle (after g start p.before) e) refl
  where
    by : (i : Bool) → g.idle (after g start p.before) e ≡ i → IsPrefix v.seen w.seen
    by true i = subst (IsPrefix v.seen) (sym (p.idle i)) p.later
    by false i =
        subst (IsPrefix v.seen) (sym (p.entered i)) (prefix_more p.before v.seen (entry v.number e r ∷ []) p.later)

module _ {M S : Type 0} (g : Ghosts M Event Reply S) (start : S) (v w : Pass Event Reply S) (e : Event) (place : ℕ)
    (r : Reply) (a b : ℕ)
    (p : IsPosted g start v w e place r a b) (same : w.number ≡ v.number) (starts : w.start ≡ Some start) where
  -- what the machine meant as the event came
  abbrev pub met : S
  met = after g start p.before

  pub adds : g.idle met e ≡ false → own_posts w ≡ own_posts v ++ answered e r ∷ []
  adds busy = ap (λ n. posts_by n w.seen) same ∙ posts-more v.number p.before v.seen w.seen e r p.calls (p.entered busy)

  pub stays : g.idle met e ≡ true → own_posts w ≡ own_posts v
  stays idle = ap (λ n. posts_by n w.seen) same ∙ ap (map post_of) (ap (calls_by v.number) (p.idle idle) ∙ p.calls)

  pub there : (P : S → Type 0) → g.idle met e ≡ true → P met → HoldsAfter g w place P
  there P idle h =
      let is = p.placed in
      let all : take place w.seen ≡ w.seen = take_all place w.seen (omega arith) in record {
        long = omega arith;
        own = ap (calls_by w.number) all;
        holds = λ t began.
            subst (λ l. P (after g t l)) (sym all)
            (subst P (λ i. after g (ap (opt_or start) (sym starts ∙ began) i) (sym (p.idle idle) i)) h);
      }

-- an event that is done is one post more
module _ {M S : Type 0} (g : Ghosts M Event Reply S) (start : S) (v w : Pass Event Reply S) (e : Event) (place : ℕ)
    (r : Reply) (a b : ℕ)
    (p : IsPosted g start v w e place r a b) (same : w.number ≡ v.number) (starts : w.start ≡ Some start) where
  abbrev s : S
  s = after g start p.before

  pub opened_by : (who : Who) (arp : Bool) → e ≡ Up who arp → IsOpened g.idle g.reply s who arp
      → (round : ℕ) × (r ≡ Opened round) × (own_posts w ≡ own_posts v ++ answered e (Opened round) ∷ [])
  opened_by who arp is o =
      let busy : g.idle s e ≡ false = ap (g.idle s) is ∙ o.0 in
      let answer : r ≡ Opened o.1.0 = p.replied ∙ (ap (g.reply s) is ∙ o.1.1) in (
        o.1.0,
        answer,
        adds g start v w e place r a b p same starts busy
            ∙ ap (λ q. own_posts v ++ answered e q ∷ []) answer,
      )

  abbrev Over : Session → S → Type 0
  Over session t = IsOver g.reply t session

  abbrev Ended : Session → ℕ → Type 0
  Ended session at = HoldsAfter g w at (Over session)

  pub heard_posts : (session : Session) → IsHeard g.idle g.reply s session e
      → AddsHeard (own_posts v) (own_posts w) (answered e Done) (hearing_of place r)
      × IsRefusedWhere (Ended session) (hearing_of place r)
  heard_posts session h = by (g.idle s e) refl
    where
      by : (i : Bool) → g.idle s e ≡ i
          → AddsHeard (own_posts v) (own_posts w) (answered e Done) (hearing_of place r)
          × IsRefusedWhere (Ended session) (hearing_of place r)
      by true i =
          let t = h.1 i in
          subst (λ q. AddsHeard (own_posts v) (own_posts w) (answered e Done) (hearing_of place q)
          × IsRefusedWhere (Ended session) (hearing_of place q)) (sym (p.replied ∙ t.0)) (
            stays g start v w e place r a b p same starts i,
            there g start v w e place r a b p same starts (Over session) i t.1,
          )
      by false i =
          let is = p.replied ∙ h.0 i in
          subst (λ q. AddsHeard (own_posts v) (own_posts w) (answered e Done) (hearing_of place q)
          × IsRefusedWhere (Ended session) (hearing_of place q)) (sym is)
          (adds g start v w e place r a b p same starts i ∙ ap (λ q. own_posts v ++ answered e q ∷ []) is, tt)

  pub told_posts : IsDone g.idle g.reply s e → MayAdd (own_posts v) (own_posts w) (answered e Done)
  told_posts h = by (g.idle s e) refl
    where
      by : (i : Bool) → g.idle s e ≡ i → MayAdd (own_posts v) (own_posts w) (answered e Done)
      by true i = inl (stays g start v w e place r a b p same starts i)
      by false i = inr (adds g start v w e place r a b p same starts i
          ∙ ap (λ q. own_posts v ++ answered e q ∷ []) (p.replied ∙ h i))

  -- a second that was told is shown
  pub shows_told : (is_at : S → ℕ → Type 0) (second : ℕ) → (g.idle s e ≡ true → is_at s second)
      → (g.idle s e ≡ false → is_at (g.next s e) second) → Shows g is_at w second
  shows_told is_at second was now = λ t began.
      subst (λ (u : S). is_at (after g u w.seen) second) (ap (opt_or start) (sym starts ∙ began)) (by (g.idle s e) refl)
    where
      Is : List (Entry Event Reply) → Type 0
      Is log = is_at (after g start log) second

      by : (i : Bool) → g.idle s e ≡ i → Is w.seen
      by true i = subst Is (sym (p.idle i)) (was i)
      by false i =
          subst Is (sym (p.entered i))
          (subst (λ (u : S). is_at u second) (sym (after-append g start p.before (entry v.number e r ∷ []))) (now i))

  abbrev Waits : Session → ℕ → Type 0
  Waits session at = HoldsAfter g w at (λ t. NothingWaits g.reply t session)

  abbrev Took : Session → Reply → Type 0
  Took session q =
      AddsTaken (own_posts v) (own_posts w) session (taking_of place q)
      × Finds (Ended session) (Waits session) (taking_of place q)

  pub taken_posts : (session : Session) → e ≡ Take session → IsTaken g.idle g.reply s session
      → Took session r
  taken_posts session is h = by (g.idle s e) refl
    where
      said : r ≡ g.reply s (Take session)
      said = p.replied ∙ ap (g.reply s) is

      idly : (i : g.idle s e ≡ true) → NothingWaits g.reply s session
          ⊎ ((g.reply s (Take session) ≡ Closed) × IsOver g.reply s session)
          → Took session r
      idly i (inl none) =
          subst (Took session) (sym (said ∙ none)) (
            stays g start v w e place r a b p same starts i,
            there g start v w e place r a b p same starts (λ t. NothingWaits g.reply t session) i none,
          )
      idly i (inr over) =
          subst (Took session) (sym (said ∙ over.0)) (
            stays g start v w e place r a b p same starts i,
            there g start v w e place r a b p same starts (Over session) i over.1,
          )

      by : (i : Bool) → g.idle s e ≡ i → Took session r
      by true i = idly i (h.1 (ap (g.idle s) (sym is) ∙ i))
      by false i =
          let t = h.0 (ap (g.idle s) (sym is) ∙ i) in
          let q = said ∙ t.1 in
          subst (Took session) (sym q)
          (adds g start v w e place r a b p same starts i ∙ (λ k. own_posts v ++ answered (is k) (q k) ∷ []), tt)
