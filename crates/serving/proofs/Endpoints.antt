-- The works of a run stand for its endpoints.
use Rattle.std.proofs.Common.{◌≡◌, ◌⊎◌, ◌||◌, ℕ, Bool, true, false, List, [], ◌∷◌, ◌++◌, Option, All, IsTrue, map, refl}
use Rattle.std.proofs.Common.{sym, ap, ◌∙◌, subst, inl, inr}
use Rattle.std.proofs.lemmas.List.Elements.{All-cons, All-head, All-nil, All-tail}
use Rattle.outside.specs.Connections.{Connection}
use Rattle.outside.specs.declared.links.Endpoint.{Endpoint}
use Rattle.events.specs.declared.event.Event.{Event}
use Rattle.events.specs.declared.event.Reply.{Reply}
use Rattle.policy_lock.specs.Close.{HasSeen}
use Rattle.policy_lock.specs.History.{same_number}
use Rattle.policy_lock.specs.Number.{Numbered, has_number, numbered, numbers}
use Rattle.policy_lock.specs.Seat.{LockOf, SeatOf}
use Rattle.policy_lock.specs.declared.machine.Machine.{Ghosts}
use Rattle.policy_lock.specs.declared.view.Entry.{Entry}
use Rattle.policy_lock.proofs.Histories.{same-eq, same-true}
use Rattle.sessions.specs.declared.desk.Post.{Post}
use Rattle.endpoint_works.specs.Audits.{IsAudits}
use Rattle.endpoint_works.specs.Tasks.{HasReceived}
use Rattle.endpoint_works.specs.declared.side.Side.{Side}
use Rattle.lock_desk.specs.Passes.{HasEnded, IsSince, own_posts, post_of, posts_by}
use Rattle.serving.specs.Lines.{AreLinesOf, IsLineOf}
use Rattle.serving.specs.Runs.{AreServed, IsServed}
use Rattle.serving.specs.Working.{HasRead, HasWritten}
use Rattle.serving.specs.Works.{AreTeams}
use Rattle.serving.specs.declared.dialling.Line.{Line}
use Rattle.serving.specs.declared.place.Place.{Place}
use Rattle.serving.proofs.Audits.{IsAuditsAlone, of-number}
use Rattle.serving.proofs.Posts.{TakesNone, adds-rounds, senders-none}

-- the last of a list, or this
abbrev pub last_or : {A : Type 0} → A → List A → A
last_or d [] = d
last_or d (x ∷ xs) = last_or x xs

pub last-append : {A : Type 0} (d : A) (front : List A) (x : A) → last_or d (front ++ x ∷ []) ≡ x
last-append d [] x = refl
last-append d (y ∷ front) x = last-append y front x

either_true : (a b : Bool) → (a || b) ≡ true → (a ≡ true) ⊎ (b ≡ true)
either_true true b e = inl refl
either_true false b e = inr e

-- two of a list hold of each
both : {X : Type 0} (P Q R : X → Type 0) → ((x : X) → P x → Q x → R x) → (xs : List X) → All P xs → All Q xs → All R xs
both P Q R f [] p q = All-nil R
both P Q R f (x ∷ xs) p q =
    All-cons R x xs (f x (All-head P x xs p) (All-head Q x xs q))
    (both P Q R f xs (All-tail P x xs p) (All-tail Q x xs q))

every : {X : Type 0} (P Q : X → Type 0) → ((x : X) → P x → Q x) → (xs : List X) → All P xs → All Q xs
every P Q f [] p = All-nil Q
every P Q f (x ∷ xs) p = All-cons Q x xs (f x (All-head P x xs p)) (every P Q f xs (All-tail P x xs p))

module _ {M S D : Type 0} (g : Ghosts M Event Reply S) (told : Endpoint → Option (List Connection))
    (reliable : Endpoint → Bool) (may : ℕ → Type 0) (left : D → Option (List Connection)) (never_fails : D → Bool)
    (lock : LockOf S) (log : List (Entry Event Reply)) where
  abbrev Seated : Type 0
  Seated = SeatOf Event Reply S

  -- the seat of the audit's work took lines of the audit alone
  abbrev pub HasAudited : Seated → Type 0
  HasAudited s = All IsAudits (posts_by s.pass.number log)

  module _ (failed wanted : Bool) where
    served-one : (place : Place) (line : Line D) (s w r q : Seated) → IsLineOf told reliable left never_fails place line
        → (own_posts s.pass ≡ []) → HasSeen log w → HasRead g lock left never_fails failed wanted line s w
        → (own_posts r.pass ≡ []) → HasSeen log q → HasWritten lock may r q
        → IsServed g lock.start told reliable may failed wanted place log s.pass.number r.pass.number
    served-one place line s w r q is silent seen h mute met k = record {
      began = s;
      starts = sym h.later.since.start ∙ h.later.of.1;
      silent = silent;
      ended = w;
      number = sym h.later.since.number;
      seen = seen;
      end = h.end;
      fails = h.fails;
      wants = h.wants;
      never_fails = never_fails line.dial;
      dials = is.dials;
      left = h.rest;
      received =
          subst (λ (links : Option (List Connection)).
          HasReceived (λ (seat : Seated). own_posts seat.pass) (λ (seat : Seated). HasEnded g seat.pass) IsSince
          place.side (never_fails line.dial) links h.rest s w h.end) is.gives
          (subst (λ (side : Side). HasReceived (λ (seat : Seated). own_posts seat.pass)
          (λ (seat : Seated). HasEnded g seat.pass) IsSince
          side (never_fails line.dial) (left line.dial) h.rest s w h.end) is.side h.received);
      cut = k.cut;
      sent = record {
        more = k.sent.more;
        each = k.sent.each;
        posted =
            ap (λ (n : List ℕ). posts_by n log) (sym k.later.since.number)
            ∙ (ap (map post_of) met.1 ∙ (k.sent.posted ∙ ap (λ (l : List Post). l ++ k.sent.more) mute));
      };
    }

    pub served-all : (undialled : ℕ) (places : List Place) (lines : List (Line D)) (seats after : List Seated)
        (s : Seated)
        → AreLinesOf told reliable left never_fails undialled places lines
        → AreTeams (HasRead g lock left never_fails failed wanted) (HasWritten lock may) lines seats after
        → All (λ (x : Seated). own_posts x.pass ≡ []) seats → All (HasSeen log) after → HasAudited s
        → AreServed g lock.start told reliable may undialled failed wanted places log (numbers (seats ++ s ∷ []))
    served-all undialled [] lines seats after s are is silent seen audits =
        let a =
        subst (λ (l : List (Line D)). AreTeams (HasRead g lock left never_fails failed wanted) (HasWritten lock may) l
        seats after) are.1 is in (
          are.0,
          record {
            number = numbered s.pass;
            is = ap (λ (l : List Seated). numbers (l ++ s ∷ [])) a.0;
            takings = audits;
          },
        )
    served-all undialled (place ∷ places) lines seats after s (inl are) is silent seen audits =
        inl (are.0, are.1, served-all are.0 places lines seats after s are.2 is silent seen audits)
    served-all undialled (place ∷ places) lines seats after s (inr one) is silent seen audits =
        let a =
        subst (λ (l : List (Line D)). AreTeams (HasRead g lock left never_fails failed wanted) (HasWritten lock may) l
        seats after) one.are is in
        let Silent : Seated → Type 0 = λ (x : Seated). own_posts x.pass ≡ [] in
        let q = subst (All Silent) a.are_seats silent in
        let q1 = All-tail Silent a.first (a.second ∷ a.other_seats) q in
        let m = subst (All (HasSeen log)) a.are_works seen in
        let m1 = All-tail (HasSeen log) a.reader (a.writer ∷ a.other_works) m in
        inr (record {
          first = numbered a.first.pass;
          second = numbered a.second.pass;
          others = numbers (a.other_seats ++ s ∷ []);
          are = ap (λ (l : List Seated). numbers (l ++ s ∷ [])) a.are_seats;
          served = served-one place one.line a.first a.reader a.second a.writer one.is
              (All-head Silent a.first (a.second ∷ a.other_seats) q)
              (All-head (HasSeen log) a.reader (a.writer ∷ a.other_works) m) a.reads
              (All-head Silent a.second a.other_seats q1) (All-head (HasSeen log) a.writer a.other_works m1) a.writes;
          rest = served-all undialled places one.others a.other_seats a.other_works s one.rest a.rest
              (All-tail Silent a.second a.other_seats q1) (All-tail (HasSeen log) a.writer a.other_works m1) audits;
        })

    -- the audit's work posts takings of the audit alone
    audits-last : (d : Numbered) (undialled : ℕ) (places : List Place) (all : List Numbered)
        → AreServed g lock.start told reliable may undialled failed wanted places log all
        → All IsAudits (posts_by (last_or d all).0 log)
    audits-last d undialled [] all is =
        subst (λ (l : List Numbered). All IsAudits (posts_by (last_or d l).0 log)) (sym is.1.is) is.1.takings
    audits-last d undialled (place ∷ places) all (inl is) = audits-last d is.0 places all is.2
    audits-last d undialled (place ∷ places) all (inr is) =
        subst (λ (l : List Numbered). All IsAudits (posts_by (last_or d l).0 log)) (sym is.are)
        (audits-last is.second undialled places is.others is.rest)

    -- the works of an endpoint post no such
    first-none : (place : Place) (first second : List ℕ)
        → IsServed g lock.start told reliable may failed wanted place log first second
        → All TakesNone (posts_by first log)
    first-none place first second is =
        let more = adds-rounds (λ (seat : Seated). own_posts seat.pass) (λ (seat : Seated). HasEnded g seat.pass)
        IsSince place.side
        is.end.wanted (told place.end) is.left is.began is.ended is.received.passes is.received.rounds in
        subst (λ (n : List ℕ). All TakesNone (posts_by n log)) (sym is.number)
        (subst (All TakesNone)
        (sym (ap (map post_of) is.seen.1 ∙ (more.is ∙ ap (λ (l : List Post). l ++ more.more) is.silent))) more.none)

    second-none : (place : Place) (first second : List ℕ)
        → IsServed g lock.start told reliable may failed wanted place log first second
        → All TakesNone (posts_by second log)
    second-none place first second is =
        subst (All TakesNone) (sym is.sent.posted) (senders-none may is.cut is.sent.more is.sent.each)

    -- an entry under one of the numbers is the audit's, or takes no line
    abbrev IsOneOf : List Numbered → List ℕ → Entry Event Reply → Type 0
    IsOneOf all n x = has_number x.by all ≡ true → (same_number x.by n ≡ true) ⊎ TakesNone (post_of x)

    turned : (a b : List ℕ) → same_number a b ≡ true → same_number b a ≡ true
    turned a b e = same-eq b a (sym (same-true a b e))

    others-none : (d : Numbered) (undialled : ℕ) (places : List Place) (all : List Numbered)
        → AreServed g lock.start told reliable may undialled failed wanted places log all
        → All (IsOneOf all (last_or d all).0) log
    others-none d undialled [] all (none, is) =
        subst (λ (l : List Numbered). All (IsOneOf l (last_or d l).0) log) (sym is.is)
        (every (λ (x : Entry Event Reply). same_number x.by is.number.0 ≡ true → IsAudits (post_of x))
        (IsOneOf (is.number ∷ []) is.number.0)
        (λ x h e. inl (turned is.number.0 x.by (or-none (same_number is.number.0 x.by) e))) log
        (of-number IsAudits is.number.0 log is.takings))
      where
        or-none : (b : Bool) → (b || false) ≡ true → b ≡ true
        or-none true e = refl
        or-none false e = e
    others-none d undialled (place ∷ places) all (inl is) = others-none d is.0 places all is.2
    others-none d undialled (place ∷ places) all (inr is) =
        let n = (last_or is.second is.others).0 in
        subst (λ (l : List Numbered). All (IsOneOf l (last_or d l).0) log) (sym is.are)
        (both (λ (x : Entry Event Reply). same_number x.by is.first.0 ≡ true → TakesNone (post_of x))
        (λ (x : Entry Event Reply). (same_number x.by is.second.0 ≡ true → TakesNone (post_of x))
        × IsOneOf is.others n x)
        (IsOneOf (is.first ∷ is.second ∷ is.others) n)
        (λ x p q e. by x p q.0 q.1 (either_true (same_number is.first.0 x.by) _ e)) log
        (of-number TakesNone is.first.0 log (first-none place is.first.0 is.second.0 is.served))
        (both (λ (x : Entry Event Reply). same_number x.by is.second.0 ≡ true
        → TakesNone (post_of x)) (IsOneOf is.others n)
        (λ (x : Entry Event Reply). (same_number x.by is.second.0 ≡ true → TakesNone (post_of x))
        × IsOneOf is.others n x)
        (λ x p q. (p, q)) log
        (of-number TakesNone is.second.0 log (second-none place is.first.0 is.second.0 is.served))
        (others-none is.second undialled places is.others is.rest)))
      where
        by : (x : Entry Event Reply) → (same_number x.by is.first.0 ≡ true → TakesNone (post_of x))
            → (same_number x.by is.second.0 ≡ true → TakesNone (post_of x))
            → IsOneOf is.others (last_or is.second is.others).0 x
            → (same_number is.first.0 x.by ≡ true)
            ⊎ ((same_number is.second.0 x.by || has_number x.by is.others) ≡ true)
            → (same_number x.by (last_or is.second is.others).0 ≡ true) ⊎ TakesNone (post_of x)
        by x p q r (inl e) = inr (p (turned is.first.0 x.by e))
        by x p q r (inr e) = by-second (either_true (same_number is.second.0 x.by) (has_number x.by is.others) e)
          where
            by-second : (same_number is.second.0 x.by ≡ true) ⊎ (has_number x.by is.others ≡ true)
                → (same_number x.by (last_or is.second is.others).0 ≡ true) ⊎ TakesNone (post_of x)
            by-second (inl s) = inr (q (turned is.second.0 x.by s))
            by-second (inr s) = r s

    pub audits-alone : (undialled : ℕ) (places : List Place) (front : List Numbered) (n : Numbered)
        (all : List Numbered)
        → all ≡ front ++ n ∷ []
        → AreServed g lock.start told reliable may undialled failed wanted places log all
        → All (λ (x : Entry Event Reply). IsTrue (has_number x.by all)) log → All (IsAuditsAlone n.0) log
    audits-alone undialled places front n all e is under =
        let last : last_or n all ≡ n = ap (last_or n) e ∙ last-append n front n in
        subst (λ (m : Numbered). All (IsAuditsAlone m.0) log) last
        (both (λ (x : Entry Event Reply). same_number x.by (last_or n all).0 ≡ true → IsAudits (post_of x))
        (λ (x : Entry Event Reply). IsOneOf all (last_or n all).0 x × IsTrue (has_number x.by all))
        (IsAuditsAlone (last_or n all).0)
        (λ x p q. (p, λ isnt. other x isnt (q.0 q.1))) log
        (of-number IsAudits (last_or n all).0 log (audits-last n undialled places all is))
        (both (IsOneOf all (last_or n all).0) (λ (x : Entry Event Reply). IsTrue (has_number x.by all))
        (λ (x : Entry Event Reply). IsOneOf all (last_or n all).0 x × IsTrue (has_number x.by all)) (λ x p q. (p, q))
        log
        (others-none n undialled places all is) under))
      where
        other : (x : Entry Event Reply) → same_number x.by (last_or n all).0 ≡ false
            → (same_number x.by (last_or n all).0 ≡ true) ⊎ TakesNone (post_of x) → TakesNone (post_of x)
        other x isnt (inl same) = absurd (cc)
        other x isnt (inr takes) = takes
