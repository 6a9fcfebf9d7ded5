-- What became of each connection that was told, in a run of which all is done.
use Rattle.std.proofs.Common.{◌≡◌, ◌⊎◌, ℕ, suc, Bool, true, false, List, [], ◌∷◌, ◌++◌, All, Option, Some, None, map, take}
use Rattle.std.proofs.Common.{IfSome, drop, refl, sym, ap, ◌∙◌, subst, inl, inr, true≢false, append_assoc, arith}
use Rattle.std.specs.List.{Contains}
use Rattle.std.proofs.lemmas.List.{take-append-drop}
use Rattle.std.proofs.lemmas.List.Elements.{All-cons, All-nil, Contains-append_left, Contains-push}
use mathlib.Core.List.{IsPrefix}
use Rattle.outside.specs.Connections.{Connection, Gives, IsConnection}
use Rattle.outside.specs.declared.links.Endpoint.{Endpoint}
use Rattle.cv_io.specs.declared.leaf.Session.{Session}
use Rattle.events.specs.declared.event.Event.{Event}
use Rattle.events.specs.declared.event.Reply.{Reply}
use Rattle.policy_lock.specs.Close.{HasSeen}
use Rattle.policy_lock.specs.Number.{Numbered}
use Rattle.policy_lock.specs.Seat.{SeatOf}
use Rattle.policy_lock.specs.declared.machine.Machine.{Ghosts}
use Rattle.policy_lock.specs.declared.view.Entry.{Entry}
use Rattle.sessions.specs.Posts.{Leaves, coming_up, going, messages}
use Rattle.sessions.specs.Reading.{HasPostedAll, ReaderPosts}
use Rattle.sessions.specs.declared.desk.Post.{Post}
use Rattle.sessions.specs.declared.ends.OpenEnd.{OpenEnd}
use Rattle.sessions.specs.declared.ends.ReadEnd.{ReadEnd}
use Rattle.sessions.specs.declared.ends.ReadEnd.TheVariants as read_ends
use Rattle.endpoint_works.specs.Chains.{AreRounds, IsGiven, IsRound}
use Rattle.endpoint_works.specs.Rounds.{RoundPosts, RoundWants, WasRead, WasUnopened, in_round, up_posts}
use Rattle.endpoint_works.specs.Sides.{IsUnopened}
use Rattle.endpoint_works.specs.declared.round.RoundEnd.{RoundEnd}
use Rattle.endpoint_works.specs.declared.round.RoundEnd.TheVariants as round_ends
use Rattle.endpoint_works.specs.declared.side.Side.{Side}
use Rattle.lock_desk.specs.Passes.{HasEnded, IsSince, own_posts, post_of, posts_by}
use Rattle.lock_desk.proofs.Posts.{since_itself, since_still}
use Rattle.serving.specs.Laws.{CutOnlyWhereClosed, DoneServesAll, IsCutAt, IsReadOut, OfEach, Opens, OpensNothing}
use Rattle.serving.specs.Laws.{OpensUp, Reads}
use Rattle.serving.specs.Runs.{AreServed, IsServed}
use Rattle.serving.specs.declared.place.Place.{Place}
use Rattle.serving.proofs.Posts.{Adds, adds-read, adds-rounds}

prefix_still : {A : Type 0} (xs ys zs : List A) → IsPrefix xs ys → IsPrefix ys zs → IsPrefix xs zs
prefix_still xs ys zs a b = (a.0 ++ b.0, sym (append_assoc xs a.0 b.0) ∙ (ap (λ l. l ++ b.0) a.1 ∙ b.1))

module _ {M S : Type 0} (g : Ghosts M Event Reply S) (side : Side) where
  abbrev Seated : Type 0
  Seated = SeatOf Event Reply S

  abbrev posts : Seated → List Post
  posts seat = own_posts seat.pass

  abbrev ends : Seated → Session → ℕ → Type 0
  ends seat = HasEnded g seat.pass

  -- a work that had the seat `began`, and `ended` then, took this connection
  pub record IsTaken (began ended : Seated) (link : Connection) : Type 0 where
    pub old : Seated
    pub now : Seated
    pub since : IsSince began now
    pub before : IsSince now ended
    pub adds : Adds (posts now) (posts ended)
    pub round :
        IsRound posts ends IsSince side false (Some link.bytes) link.is_reliable (Some []) link.is_reliable old now

  -- a seat goes on from round to round
  since-rounds : (links left : Option (List Connection)) (v w : Seated) (us : List Seated)
      → AreRounds posts ends IsSince side false links left v w us → IsSince v w
  since-rounds links left v w [] h = subst (IsSince v) (sym h.1) (since_itself v)
  since-rounds links left v w (u ∷ us) h = since_still v u w h.1.round.since (since-rounds h.0 left u w us h.2)

  of-link : (link : Connection) (bytes : Option (List ℕ)) (reads : Bool) (held : Option (List ℕ)) (writes : Bool)
      (v u : Seated) → IsConnection link bytes reads held writes
      → IsRound posts ends IsSince side false bytes reads held writes v u
      → IsRound posts ends IsSince side false (Some link.bytes) link.is_reliable (Some []) link.is_reliable v u
  of-link link bytes reads held writes v u c round =
      subst (λ (x : Bool).
      IsRound posts ends IsSince side false (Some link.bytes) link.is_reliable (Some []) x v u) c.never_fails_either
      (subst (λ (x : Option (List ℕ)).
      IsRound posts ends IsSince side false (Some link.bytes) link.is_reliable x writes v u) c.empty
      (subst (λ (x : Bool). IsRound posts ends IsSince side false (Some link.bytes) x held writes v u) c.never_fails
      (subst (λ (x : Option (List ℕ)). IsRound posts ends IsSince side false x reads held writes v u) c.bytes round)))

  pub each-taken : (links : List Connection) (left : Option (List Connection)) (began v w : Seated) (us : List Seated)
      → IsSince began v → IfSome left (λ (rest : List Connection). rest ≡ [])
      → AreRounds posts ends IsSince side false (Some links) left v w us → All (IsTaken began w) links
  each-taken links left began v w [] since all h =
      let none : links ≡ [] = subst (λ (o : Option (List Connection)). IfSome o (λ rest. rest ≡ [])) h.0 all in
      subst (All (IsTaken began w)) (sym none) (All-nil (IsTaken began w))
  each-taken [] left began v w (u ∷ us) since all h = absurd h.1.gives
  each-taken (link ∷ links) left began v w (u ∷ us) since all h =
      let given = h.1.gives in
      let here = since_still began v u since h.1.round.since in
      All-cons (IsTaken began w) link links
      (record {
        old = v;
        now = u;
        since = here;
        before = since-rounds h.0 left u w us h.2;
        adds = adds-rounds posts ends IsSince side false h.0 left u w us h.2;
        round = of-link link h.1.bytes h.1.reads h.1.held h.1.writes v u given.1 h.1.round;
      })
      (each-taken links left began u w us here all
      (subst (λ (o : Option (List Connection)). AreRounds posts ends IsSince side false o left u w us) given.0 h.2))

  module _ (began ended : Seated) (link : Connection) (t : IsTaken began ended link)
      (sound : link.is_reliable ≡ true) where
    abbrev bytes : Option (List ℕ)
    bytes = Some link.bytes

    -- its session came up
    abbrev up-of : (end : ReadEnd)
        → WasRead side bytes t.round.after (Some []) link.is_reliable (posts t.old) (posts t.now) (ends t.now)
        t.round.risen link.is_reliable end
        → OpensUp side link.bytes (posts ended)
    up-of end h =
        let up = h.up in
        let x = coming_up up.who up.arp up.round in
        let first = posts t.old ++ x ∷ [] in
        let read = adds-read up.middle t.round.after up.kept (in_round up.who up.round) first
        (ends t.now (in_round up.who up.round)) (posts t.now) h.left end h.posted in
        record {
          rest = up.middle;
          kept = up.kept;
          sink = up.sink;
          who = up.who;
          arp = up.arp;
          round = up.round;
          opened = up.opened;
          posted = subst (λ l. Contains l x) (sym t.adds.is)
              (Contains-append_left (posts t.now) t.adds.more x
              (subst (λ l. Contains l x) (sym read.is)
              (Contains-append_left first read.more x (Contains-push (posts t.old) x))));
        }

    -- it was not opened
    nothing-of : (faults risen : ℕ) (end : OpenEnd)
        → WasUnopened side bytes t.round.after (Some []) link.is_reliable (posts t.old) (posts t.now) faults risen
        link.is_reliable end
        → OpensNothing side link.bytes
    nothing-of faults risen end h = record {
      rest = t.round.after;
      kept = h.kept;
      sink = h.sink;
      faults = faults;
      risen = risen;
      end = end;
      why = subst (λ (b : Bool). IsUnopened bytes t.round.after h.kept h.sink side faults risen b end) sound h.why;
      found = h.found;
      sent = h.sound sound;
    }

    pub opened-of : OpensUp side link.bytes (posts ended) ⊎ OpensNothing side link.bytes
    opened-of = by t.round.posted
      where
        of : (end : RoundEnd)
            → RoundPosts side bytes t.round.after (Some []) link.is_reliable (posts t.old) (posts t.now) (ends t.now)
            t.round.faults t.round.risen link.is_reliable end
            → OpensUp side link.bytes (posts ended) ⊎ OpensNothing side link.bytes
        of (round_ends.Unopened end) h = inr (nothing-of t.round.faults t.round.risen end h)
        of (round_ends.Read end) h = inl (up-of end h)

        by : ((end : RoundEnd)
            × RoundPosts side bytes t.round.after (Some []) link.is_reliable (posts t.old) (posts t.now) (ends t.now)
            t.round.faults t.round.risen link.is_reliable end)
            ⊎ ((false ≡ true)
            × RoundWants side bytes t.round.after (Some []) link.is_reliable (posts t.old) (posts t.now))
            → OpensUp side link.bytes (posts ended) ⊎ OpensNothing side link.bytes
        by (inl h) = of h.0 h.1
        by (inr h) = absurd (true≢false (sym h.0))

    -- of a history that the seat has seen
    module _ (start : S) (log : List (Entry Event Reply)) (starts : began.pass.start ≡ Some start)
        (seen : HasSeen log ended) where
      own : posts_by ended.pass.number log ≡ posts ended
      own = ap (map post_of) seen.1

      cut-at : (session : Session) (at : ℕ) → ends t.now session at
          → IsCutAt g start log ended.pass.number (posts t.now) session
      cut-at session at h = record {
        before = take at t.now.pass.seen;
        begins =
            prefix_still (take at t.now.pass.seen) ended.pass.seen log
            (prefix_still (take at t.now.pass.seen) t.now.pass.seen ended.pass.seen
            (drop at t.now.pass.seen, take-append-drop at t.now.pass.seen) t.before.seen) seen.0;
        same =
            ap (λ (n : List ℕ). posts_by n (take at t.now.pass.seen)) t.before.number ∙ ap (map post_of) h.own;
        over = h.holds start (t.since.start ∙ starts);
      }

      read-of : (end : ReadEnd)
          → WasRead side bytes t.round.after (Some []) link.is_reliable (posts t.old) (posts t.now) (ends t.now)
          t.round.risen link.is_reliable end
          → IsReadOut g start log ended.pass.number side link.bytes
      read-of end h = record {
        up = record {
          rest = h.up.middle;
          kept = h.up.kept;
          sink = h.up.sink;
          who = h.up.who;
          arp = h.up.arp;
          round = h.up.round;
          opened = h.up.opened;
          posted = subst (λ l. Contains l (coming_up h.up.who h.up.arp h.up.round)) (sym own) (up-of end h).posted;
        };
        old = posts t.old;
        now = posts t.now;
        rest = t.round.after;
        left = h.left;
        posted = by end h.posted;
      }
        where
          session : Session
          session = in_round h.up.who h.up.round

          first : List Post
          first = posts t.old ++ coming_up h.up.who h.up.arp h.up.round ∷ []

          IsCut : Type 0
          IsCut = IsCutAt g start log ended.pass.number (posts t.now) session

          left-by : (all : List Post) → Leaves (ends t.now session) all (posts t.now) session
              → Leaves (λ at. IsCut) all (posts t.now) session
          left-by all (inl e) = inl e
          left-by all (inr e) = inr (e.0, (e.1.0, cut-at session e.1.0 e.1.1))

          all-of : HasPostedAll h.up.middle t.round.after h.up.kept session first (ends t.now session) (posts t.now)
              h.left
              → HasPostedAll h.up.middle t.round.after h.up.kept session first (λ at. IsCut) (posts t.now) h.left
          all-of k = record {
            read = k.read;
            next = k.next;
            frames = k.frames;
            cut = k.cut;
            posted = left-by (first ++ messages session k.frames) k.posted;
          }

          by : (e : ReadEnd)
              → ReaderPosts h.up.middle t.round.after h.up.kept session first (ends t.now session) (posts t.now) h.left e
              → HasPostedAll h.up.middle t.round.after h.up.kept session first (λ at. IsCut) (posts t.now) h.left
              ⊎ IsCut
          by (read_ends.Closed at) k = inr (cut-at session at k.1)
          by read_ends.Ended k = inl (all-of k)
          by (read_ends.Short length) k = inl (all-of k)
          by read_ends.ReadFault k = inl (all-of k)

      pub read-out : IsReadOut g start log ended.pass.number side link.bytes ⊎ OpensNothing side link.bytes
      read-out = by t.round.posted
        where
          of : (end : RoundEnd)
              → RoundPosts side bytes t.round.after (Some []) link.is_reliable (posts t.old) (posts t.now) (ends t.now)
              t.round.faults t.round.risen link.is_reliable end
              → IsReadOut g start log ended.pass.number side link.bytes ⊎ OpensNothing side link.bytes
          of (round_ends.Unopened end) h = inr (nothing-of t.round.faults t.round.risen end h)
          of (round_ends.Read end) h = inl (read-of end h)

          by : ((end : RoundEnd)
              × RoundPosts side bytes t.round.after (Some []) link.is_reliable (posts t.old) (posts t.now) (ends t.now)
              t.round.faults t.round.risen link.is_reliable end)
              ⊎ ((false ≡ true)
              × RoundWants side bytes t.round.after (Some []) link.is_reliable (posts t.old) (posts t.now))
              → IsReadOut g start log ended.pass.number side link.bytes ⊎ OpensNothing side link.bytes
          by (inl h) = of h.0 h.1
          by (inr h) = absurd (true≢false (sym h.0))

weaker : {X : Type 0} (P Q : X → Type 0) → ((x : X) → P x → Q x) → (xs : List X) → All P xs → All Q xs
weaker P Q f xs all = λ k d lt. f _ (all k d lt)

none : (b : Bool) → (b ≡ true → false ≡ true) → b ≡ false
none false f = refl
none true f = absurd (true≢false (sym (f refl)))

module _ {M S : Type 0} (g : Ghosts M Event Reply S) (start : S) (told : Endpoint → Option (List Connection))
    (reliable : Endpoint → Bool) (may : ℕ → Type 0) (log : List (Entry Event Reply)) where
  -- each connection that was told of an endpoint, as its first work took it
  taken : (place : Place) (first second : List ℕ) (is : IsServed g start told reliable may false false place log first
      second) (links : List Connection) → told place.end ≡ Some links
      → All (IsTaken g place.side is.began is.ended) links
  taken place first second is links tells =
      each-taken g place.side links is.left is.began is.began is.ended is.received.passes (since_itself is.began)
      (is.received.all (none is.end.failed is.fails))
      (subst (λ (o : Option (List Connection)).
      AreRounds (λ (seat : SeatOf Event Reply S). own_posts seat.pass)
      (λ (seat : SeatOf Event Reply S). HasEnded g seat.pass) IsSince place.side false o is.left is.began is.ended
      is.received.passes) tells
      (subst (λ (b : Bool). AreRounds (λ (seat : SeatOf Event Reply S). own_posts seat.pass)
      (λ (seat : SeatOf Event Reply S). HasEnded g seat.pass) IsSince place.side b (told place.end) is.left is.began
      is.ended is.received.passes) (none is.end.wanted is.wants) is.received.rounds))

  module _ (Is : (number : List ℕ) → Side → List ℕ → Type 0)
      (each : (place : Place) (first second : List ℕ)
      (is : IsServed g start told reliable may false false place log first second) (link : Connection)
      → IsTaken g place.side is.began is.ended link → link.is_reliable ≡ true → Is first place.side link.bytes) where
    pub of-places : (places : List Place) (all : List Numbered)
        → AreServed g start told reliable may 0 false false places log all → All (OfEach told Is) places
    of-places [] all h = All-nil (OfEach told Is)
    of-places (place ∷ places) all (inl h) = absurd (let e = h.1 in grind arith)
    of-places (place ∷ places) all (inr h) =
        All-cons (OfEach told Is) place places
        (λ links tells. (
          h.first.0,
          weaker (IsTaken g place.side h.served.began h.served.ended)
              (λ (link : Connection). link.is_reliable ≡ true → Is h.first.0 place.side link.bytes)
              (each place h.first.0 h.second.0 h.served) links
              (taken place h.first.0 h.second.0 h.served links tells),
        ))
        (of-places places h.others h.rest)

module _ {M S C : Type 0} (g : Ghosts M Event Reply S) (may : C → ℕ → Type 0) where
  pub done : DoneServesAll g may
  done start clock told reliable audit_of places held written faults risen run =
      of-places g start told reliable (may clock) run.log
      (Opens g may start clock told reliable audit_of places held written faults risen run)
      (λ place first second is link t sound.
      subst (λ (l : List Post). OpensUp place.side link.bytes l ⊎ OpensNothing place.side link.bytes)
      (sym (ap (λ (n : List ℕ). posts_by n run.log) is.number ∙ ap (map post_of) is.seen.1))
      (opened-of g place.side is.began is.ended link t sound)) places run.run.numbers run.run.works

  pub cut : CutOnlyWhereClosed g may
  cut start clock told reliable audit_of places held written faults risen run =
      of-places g start told reliable (may clock) run.log
      (Reads g may start clock told reliable audit_of places held written faults risen run)
      (λ place first second is link t sound.
      subst (λ (n : List ℕ). IsReadOut g start run.log n place.side link.bytes ⊎ OpensNothing place.side link.bytes)
      (sym is.number)
      (read-out g place.side is.began is.ended link t sound start run.log is.starts is.seen)) places run.run.numbers
      run.run.works
