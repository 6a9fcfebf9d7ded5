-- How a run ends, once its lock is closed.
use Rattle.std.specs.List.{IsDistinct}
use Rattle.std.proofs.Common.{◌≡◌, nat_lt, ◌+◌, ◌-◌, ◌||◌, ℕ, zero, suc, Bool, true, false, List, [], ◌∷◌, ◌++◌, Option}
use Rattle.std.proofs.Common.{Result}
use Rattle.std.proofs.Common.{Ok, Err, All, IsTrue, map, take, length, refl, sym, ap, ◌∙◌, subst, append_assoc, inl}
use Rattle.std.proofs.Common.{inr, arith}
use Rattle.std.proofs.Math.Seq.{take-append-add}
use Rattle.std.proofs.lemmas.List.{append-nil, length-append, map-append, take_all}
use Rattle.std.proofs.lemmas.List.Elements.{All-append, All-cons, All-head, All-nil, All-tail}
use Rattle.outside.specs.Connections.{Connection}
use Rattle.outside.specs.Outside.{Rose, RoseBy}
use Rattle.outside.specs.declared.links.Endpoint.{Endpoint}
use Rattle.cv_io.specs.declared.memory.Memory.{Memory}
use Rattle.endpoint_works.specs.declared.audit.AuditEnd.{AuditEnd}
use Rattle.events.specs.declared.event.Event.{Event}
use Rattle.events.specs.declared.event.Event.TheVariants.{Take}
use Rattle.events.specs.declared.event.Reply.{Reply}
use Rattle.policy_lock.specs.Close.{HasSeen, IsClosed}
use Rattle.policy_lock.specs.History.{IsLegal, after, same_number}
use Rattle.policy_lock.specs.Number.{Numbered, has_number, numbered, numbers}
use Rattle.policy_lock.specs.Opening.{children_of_first, new_seat, opening_seats}
use Rattle.policy_lock.specs.Seat.{LockOf, SeatOf}
use Rattle.policy_lock.specs.declared.machine.Machine.{Ghosts}
use Rattle.policy_lock.specs.declared.view.Entry.{Entry}
use Rattle.policy_lock.proofs.Histories.{after-append}
use Rattle.sessions.specs.Streams.{Appends}
use Rattle.sessions.specs.Writing.{taken_in}
use Rattle.sessions.specs.declared.desk.Post.{Post}
use Rattle.sessions.proofs.Bytes.{appends-more}
use Rattle.endpoint_works.specs.Audits.{IsAudits, audit, lines}
use Rattle.endpoint_works.specs.Tasks.{HasWrittenAudit}
use Rattle.lock_desk.specs.Passes.{own_posts, post_of, posts_by}
use Rattle.endpoint_works.specs.Audits.{HasAudited, HasAuditedUpTo}
use Rattle.endpoint_works.specs.declared.audit.AuditEnd.TheVariants as ends
use Rattle.serving.specs.Attending.{IsSilent, is_cut_off, settled}
use Rattle.serving.specs.Endings.{EndsRest, WroteRest, WroteRestUpTo}
use Rattle.serving.specs.Histories.{TakesLine, lines_taken}
use Rattle.serving.specs.Lines.{AreLinesOf}
use Rattle.serving.specs.Runs.{AreServed, IsRun, Serves, WritesAll, WritesSome}
use Rattle.serving.specs.Working.{HasRead, HasWritten, HaveWorked, IsLaterSeat}
use Rattle.serving.specs.declared.closing.Rest.{Rest}
use Rattle.serving.specs.declared.closing.Rest.TheVariants as rests
use Rattle.serving.specs.declared.dialling.Line.{Line}
use Rattle.serving.specs.declared.run.Served.TheVariants as serveds
use Rattle.serving.specs.declared.place.Place.{Place}
use Rattle.serving.proofs.Audits.{taken-both, taken-by}
use Rattle.serving.proofs.Endings.{lines-both}
use Rattle.serving.proofs.Endpoints.{audits-alone, served-all}
use Rattle.serving.proofs.Works.{teams-all, teams-same}

-- the seats that a new lock begins with have posted nothing
children-silent : {S : Type 0} (lock : LockOf S) (k : ℕ)
    → All IsSilent (children_of_first {E = Event} {R = Reply} lock k)
children-silent lock zero = All-nil IsSilent
children-silent lock (suc k) =
    All-append IsSilent (children_of_first lock k) (new_seat lock (k ∷ []) 0 ∷ []) (children-silent lock k)
    (All-cons IsSilent (new_seat lock (k ∷ []) 0) [] refl (All-nil IsSilent))

pub opening-silent : {S : Type 0} (lock : LockOf S) (n : ℕ)
    → All IsSilent (opening_seats {E = Event} {R = Reply} lock n)
opening-silent lock n = All-cons IsSilent (new_seat lock [] (n - 1)) (children_of_first lock (n - 1)) refl
    (children-silent lock (n - 1))

-- what is written up to where memory was wanted is a beginning of what is to be written
pub up-to-here : {M S : Type 0} (g : Ghosts M Event Reply S) (s t : S) (mid written : Option (List ℕ))
    → WroteRest g s t mid written → WroteRestUpTo g s t mid written
up-to-here g s t mid written r = record {
  rest = r.rest;
  takings = r.takings;
  legal = r.legal;
  count = length (lines (lines_taken r.rest));
  wrote = subst (Appends mid written)
      (sym (take_all (length (lines (lines_taken r.rest))) (lines (lines_taken r.rest)) (grind arith))) r.wrote;
}

-- whichever of two failed
neither : (u f : Bool) → (u || f) ≡ false → (u ≡ false) × (f ≡ false)
neither false false e = (refl, refl)
neither false true e = absurd (cc)
neither true f e = absurd (cc)

none-above : (n : ℕ) → nat_lt 0 n ≡ false → n ≡ 0
none-above n e = grind arith

-- so many seats
children-count : {S : Type 0} (lock : LockOf S) (k : ℕ) → length (children_of_first {E = Event} {R = Reply} lock k) ≡ k
children-count lock zero = refl
children-count lock (suc k) =
    length-append (children_of_first {E = Event} {R = Reply} lock k) (new_seat lock (k ∷ []) 0 ∷ [])
    ∙ (let n = children-count lock k in grind arith)

pub opening-count : {S : Type 0} (lock : LockOf S) (k : ℕ)
    → length (opening_seats {E = Event} {R = Reply} lock (k + 1)) ≡ k + 1
opening-count lock k = let n = children-count lock k in grind arith

-- at the same lock, with the same clock
pub worked-at : {M S D C : Type 0} (g : Ghosts M Event Reply S) (left : D → Option (List Connection))
    (never_fails : D → Bool) (may : C → ℕ → Type 0) {lock same : LockOf S} {clock copy : C} {failed wanted : Bool}
    {line_list : List (Line D)} {old new : List (SeatOf Event Reply S)} {held mid : Option (List ℕ)}
    {faults risen : ℕ} {end : Result AuditEnd Memory} → same ≡ lock → copy ≡ clock
    → HaveWorked g same left never_fails (may copy) failed wanted line_list old new held mid faults risen end
    → HaveWorked g lock left never_fails (may clock) failed wanted line_list old new held mid faults risen end
worked-at {M} {S} {D} {C} g left never_fails may {lock} {same} {clock} {copy} {failed} {wanted} {line_list} {old} {new}
    {held} {mid}
    {faults} {risen} {end} l k w =
    subst (λ (x : LockOf S).
    HaveWorked g x left never_fails (may clock) failed wanted line_list old new held mid faults risen end) l
    (subst (λ x. HaveWorked g same left never_fails (may x) failed wanted line_list old new held mid faults risen end) k
    w)

module _ {M S D : Type 0} (g : Ghosts M Event Reply S) (lock : LockOf S) (told : Endpoint → Option (List Connection))
    (reliable : Endpoint → Bool) (may : ℕ → Type 0) (left : D → Option (List Connection)) (never_fails : D → Bool)
    (failed wanted : Bool) (line_list : List (Line D)) (old new : List (SeatOf Event Reply S))
    (held mid : Option (List ℕ)) where
  abbrev Seated : Type 0
  Seated = SeatOf Event Reply S

  legal-both : (s : S) (xs ys : List (Entry Event Reply)) → IsLegal g s xs → IsLegal g (after g s xs) ys
      → IsLegal g s (xs ++ ys)
  legal-both s [] ys h k = k
  legal-both s (x ∷ xs) ys h k = (h.0, h.1, legal-both (g.next s x.event) xs ys h.2 k)

  module _ {faults risen : ℕ} {end : Result AuditEnd Memory}
      (w : HaveWorked g lock left never_fails may failed wanted line_list old new held mid faults risen end) where
    -- the seats are of the lock
    pub seats-of : All (λ (seat : Seated). seat.lock ≡ lock.id) new
    seats-of =
        subst (All (λ (seat : Seated). seat.lock ≡ lock.id)) (sym w.are)
        (All-append (λ (seat : Seated). seat.lock ≡ lock.id) w.front_new (w.last_new ∷ [])
        (teams-all (HasRead g lock left never_fails failed wanted) (HasWritten lock may)
        (λ (seat : Seated). seat.lock ≡ lock.id)
        (λ line s t h. h.later.of.0) (λ s t h. h.later.of.0) line_list w.front w.front_new w.teams)
        (All-cons (λ (seat : Seated). seat.lock ≡ lock.id) w.last_new [] w.later.of.0
        (All-nil (λ (seat : Seated). seat.lock ≡ lock.id))))

    same-number : (s t : Seated) → IsLaterSeat lock s t → numbered t.pass ≡ numbered s.pass
    same-number s t h = λ i. (h.since.number i, h.since.children i)

    -- and have their numbers still
    pub numbers-same : numbers new ≡ numbers old
    numbers-same =
        ap numbers w.are
        ∙ (map-append (λ (seat : Seated). numbered seat.pass) w.front_new (w.last_new ∷ [])
        ∙ (ap (λ l. l ++ numbered w.last_new.pass ∷ [])
        (teams-same (HasRead g lock left never_fails failed wanted) (HasWritten lock may)
        (λ (seat : Seated). numbered seat.pass)
        (λ (seat : Seated). numbered seat.pass)
        (λ line s t h. same-number s t h.later) (λ s t h. same-number s t h.later) line_list w.front w.front_new
        w.teams)
        ∙ (ap (λ n. numbers w.front ++ n ∷ []) (same-number w.last w.last_new w.later)
        ∙ (sym (map-append (λ (seat : Seated). numbered seat.pass) w.front (w.last ∷ [])) ∙ ap numbers (sym w.were)))))

    -- a dial failed only where one is not known never to
    pub link-fails : (undialled : ℕ) (lost : Bool) (rest : Rest)
        → settled rest (nat_lt 0 undialled || failed) (wanted || lost) ≡ serveds.Link → undialled ≡ 0
        → All (λ (line : Line D). never_fails line.dial ≡ true) line_list → ⊥
    link-fails undialled lost rest is none well =
        by rest (nat_lt 0 undialled || failed) (wanted || lost) is
        (ap (λ (n : ℕ). nat_lt 0 n || failed) none ∙ w.dials well)
      where
        by : (r : Rest) (x y : Bool) → settled r x y ≡ serveds.Link → x ≡ false → ⊥
        by rests.WriteFault x y e f = absurd (cc)
        by rests.Memory x y e f = absurd (cc)
        by rests.Written true y e f = absurd (cc)
        by rests.Written false true e f = absurd (cc)
        by rests.Written false false e f = absurd (cc)

    -- links of which so many calls failed before and after, one for each endpoint that could not be dialled
    module _ (misses missed : ℕ) (undialled : ℕ) (undials : RoseBy undialled misses missed) (places : List Place)
        (are : AreLinesOf told reliable left never_fails undialled places line_list)
        (silent : All IsSilent old) (once : IsDistinct same_number (map (λ (n : Numbered). n.0) (numbers old))) (m : M)
        (c : IsClosed g lock.start new m) where
      mute : All IsSilent (w.front ++ w.last ∷ [])
      mute = subst (All IsSilent) w.were silent

      seen : All (HasSeen c.log) (w.front_new ++ w.last_new ∷ [])
      seen = subst (All (HasSeen c.log)) w.are c.seen

      -- of the posts of the audit's work
      module _ (more : List Post) (each : All IsAudits more)
          (posted : own_posts w.last_new.pass ≡ own_posts w.last.pass ++ more) where
        last-silent : own_posts w.last.pass ≡ []
        last-silent = last-of w.front mute
          where
            last-of : (front : List Seated) → All IsSilent (front ++ w.last ∷ []) → IsSilent w.last
            last-of [] all = All-head IsSilent w.last [] all
            last-of (x ∷ front) all = last-of front (All-tail IsSilent x (front ++ w.last ∷ []) all)

        last-seen : HasSeen c.log w.last_new
        last-seen = last-of w.front_new seen
          where
            last-of : (front : List Seated) → All (HasSeen c.log) (front ++ w.last_new ∷ []) → HasSeen c.log w.last_new
            last-of [] all = All-head (HasSeen c.log) w.last_new [] all
            last-of (x ∷ front) all = last-of front (All-tail (HasSeen c.log) x (front ++ w.last_new ∷ []) all)

        -- its calls in the history
        calls : posts_by w.last.pass.number c.log ≡ more
        calls =
            ap (λ n. posts_by n c.log) (sym w.later.since.number)
            ∙ (ap (map post_of) last-seen.1 ∙ (posted ∙ ap (λ l. l ++ more) last-silent))

        fronts : {X : Type 0} (P : X → Type 0) (front : List X) (x : X) → All P (front ++ x ∷ []) → All P front
        fronts P [] x all = All-nil P
        fronts P (y ∷ front) x all =
            All-cons P y front (All-head P y (front ++ x ∷ []) all)
            (fronts P front x (All-tail P y (front ++ x ∷ []) all))

        served : AreServed g lock.start told reliable may undialled failed wanted places c.log (numbers old)
        served =
            subst (λ (l : List Seated). AreServed g lock.start told reliable may undialled failed wanted places c.log
            (numbers l)) (sym w.were)
            (served-all g told reliable may left never_fails lock c.log failed wanted undialled places line_list
            w.front w.front_new w.last are w.teams (fronts IsSilent w.front w.last mute)
            (fronts (HasSeen c.log) w.front_new w.last_new seen) (subst (All IsAudits) (sym calls) each))

        pub run-with : (rest : List (Entry Event Reply)) → All TakesLine rest
            → IsLegal g (after g lock.start c.log) rest
            → IsRun g lock.start told reliable may undialled failed wanted places c.log rest
        run-with rest takings legal = record {
          legal = legal-both lock.start c.log rest c.legal legal;
          takings = takings;
          numbers = numbers old;
          once = once;
          under = subst (λ n. All (λ (x : Entry Event Reply). IsTrue (has_number x.by n)) c.log) numbers-same c.under;
          works = served;
        }

        -- what the works took of the audit is what its work took
        lines-by-audit : lines_taken c.log ≡ taken_in more
        lines-by-audit =
            taken-by w.last.pass.number c.log
            (audits-alone g told reliable may left never_fails lock c.log failed wanted undialled places
            (numbers w.front) (numbered w.last.pass) (numbers old)
            (ap numbers w.were ∙ map-append (λ (seat : Seated). numbered seat.pass) w.front (w.last ∷ [])) served
            (subst (λ n. All (λ (x : Entry Event Reply). IsTrue (has_number x.by n)) c.log) numbers-same c.under))
            ∙ ap taken_in calls

        all-lines : (rest : List (Entry Event Reply))
            → lines (lines_taken (c.log ++ rest)) ≡ lines (taken_in more) ++ lines (lines_taken rest)
        all-lines rest =
            ap lines (taken-both c.log rest)
            ∙ (lines-both (lines_taken c.log) (lines_taken rest)
            ∙ ap (λ l. lines l ++ lines (lines_taken rest)) lines-by-audit)

        module _ (wrote : Appends held mid (lines (taken_in more))) (written : Option (List ℕ)) where
          -- all that waited was written too
          pub writes-all : (t : S) → WroteRest g (g.meaning m) t mid written → g.idle t (Take audit) ≡ true
              → WritesAll g lock.start told reliable may lines_taken places held written misses missed undialled failed
              wanted
          writes-all t r idle = record {
            log = c.log;
            rest = r.rest;
            run = run-with r.rest r.takings (subst (λ (s : S). IsLegal g s r.rest) c.means r.legal);
            undials = undials;
            drained =
                subst (λ (s : S). g.idle s (Take audit) ≡ true)
                (r.means ∙ (ap (λ (s : S). after g s r.rest) c.means ∙ sym (after-append g lock.start c.log r.rest)))
                idle;
            wrote = subst (Appends held written) (sym (all-lines r.rest))
                (appends-more held mid written (lines (taken_in more)) (lines (lines_taken r.rest)) wrote r.wrote);
          }

          -- some of it was
          pub writes-some : (s t : S) → s ≡ g.meaning m → WroteRestUpTo g s t mid written
              → WritesSome g lock.start told reliable may lines_taken places held written misses missed
          writes-some s t is r = record {
            undialled = undialled;
            failed = failed;
            wanted = wanted;
            log = c.log;
            rest = r.rest;
            run = run-with r.rest r.takings (subst (λ (s : S). IsLegal g s r.rest) (is ∙ c.means) r.legal);
            undials = undials;
            count = length (lines (taken_in more)) + r.count;
            wrote = subst (λ l. Appends held written (take (length (lines (taken_in more)) + r.count) l))
                (sym (all-lines r.rest))
                (subst (Appends held written)
                (sym (take-append-add (lines (taken_in more)) (lines (lines_taken r.rest)) r.count))
                (appends-more held mid written (lines (taken_in more)) (take r.count (lines (lines_taken r.rest))) wrote
                r.wrote));
          }

        -- the end of what was taken is cut off
        pub writes-cut : (count : ℕ) → Appends held mid (take count (lines (taken_in more)))
            → WritesSome g lock.start told reliable may lines_taken places held mid misses missed
        writes-cut count wrote = record {
          undialled = undialled;
          failed = failed;
          wanted = wanted;
          log = c.log;
          rest = [];
          run = run-with [] (All-nil TakesLine) (record {});
          undials = undials;
          count = count;
          wrote = subst (λ l. Appends held mid (take count l)) (sym (all-lines [] ∙ append-nil (lines (taken_in more))))
              wrote;
        }

      -- a run whose audit could not be written
      pub serves-cut : is_cut_off end ≡ true
          → Serves g lock.start told reliable may lines_taken places held mid misses missed serveds.Write
      serves-cut cut = by end cut w.audit
        where
          by : (e : Result AuditEnd Memory) → is_cut_off e ≡ true
              → HasWrittenAudit (own_posts w.last.pass) held mid faults risen (own_posts w.last_new.pass) e
              → WritesSome g lock.start told reliable may lines_taken places held mid misses missed
          by (Ok ends.WriteFault) is h = writes-cut h.0.more h.0.each h.0.posted h.0.count h.0.wrote
          by (Ok ends.Ended) is h = absurd (cc)
          by (Err m) is h = absurd (cc)

      -- else all that its work took is
      audited : is_cut_off end ≡ false → HasAudited (own_posts w.last.pass) held mid (own_posts w.last_new.pass)
      audited whole = by end whole w.audit
        where
          by : (e : Result AuditEnd Memory) → is_cut_off e ≡ false
              → HasWrittenAudit (own_posts w.last.pass) held mid faults risen (own_posts w.last_new.pass) e
              → HasAudited (own_posts w.last.pass) held mid (own_posts w.last_new.pass)
          by (Ok ends.WriteFault) is h = absurd (cc)
          by (Ok ends.Ended) is h = h.0
          by (Err m) is h = h.0

      some-of : (written : Option (List ℕ))
          → WritesAll g lock.start told reliable may lines_taken places held written misses missed undialled failed
          wanted
          → WritesSome g lock.start told reliable may lines_taken places held written misses missed
      some-of written a = record {
        undialled = undialled;
        failed = failed;
        wanted = wanted;
        log = a.log;
        rest = a.rest;
        run = a.run;
        undials = a.undials;
        count = length (lines (lines_taken (a.log ++ a.rest)));
        wrote = subst (Appends held written)
            (sym (take_all (length (lines (lines_taken (a.log ++ a.rest)))) (lines (lines_taken (a.log ++ a.rest)))
            (grind arith))) a.wrote;
      }

      -- and what waited, as far as is told
      pub serves-rest : is_cut_off end ≡ false
          → (lost : Bool) (t : S) (written : Option (List ℕ)) (before after : ℕ) (rest : Rest)
          → EndsRest g (g.meaning m) t mid written before after rest
          → Serves g lock.start told reliable may lines_taken places held written misses missed
          (settled rest (nat_lt 0 undialled || failed) (wanted || lost))
      serves-rest whole lost t written before after rests.WriteFault h =
          let a = audited whole in writes-some a.more a.each a.posted a.wrote written (g.meaning m) t refl h.0
      serves-rest whole lost t written before after rests.Memory h =
          let a = audited whole in
          inr (writes-some a.more a.each a.posted a.wrote written (g.meaning m) t refl
          (up-to-here g (g.meaning m) t mid written h))
      serves-rest whole lost t written before after rests.Written h =
          let a = audited whole in
          by (nat_lt 0 undialled || failed) (wanted || lost) refl refl
          (writes-all a.more a.each a.posted a.wrote written t h.0 h.1)
        where
          by : (x y : Bool) → (nat_lt 0 undialled || failed) ≡ x → (wanted || lost) ≡ y
              → WritesAll g lock.start told reliable may lines_taken places held written misses missed undialled failed
              wanted
              → Serves g lock.start told reliable may lines_taken places held written misses missed
              (settled rests.Written x y)
          by true y e d a = (undialled, (failed, (wanted, a)))
          by false true e d a = inr (some-of written a)
          by false false e d a =
              let u = neither (nat_lt 0 undialled) failed e in let v = neither wanted lost d in
              subst (λ (n : ℕ). WritesAll g lock.start told reliable may lines_taken places held written misses missed n
              false false) (none-above undialled u.0)
              (subst (λ (x : Bool). WritesAll g lock.start told reliable may lines_taken places held written misses
              missed
              undialled x false) u.1
              (subst (λ (x : Bool). WritesAll g lock.start told reliable may lines_taken places held written misses
              missed
              undialled failed x) v.0 a))

-- no run ends so for want of works
pub never-spawns : (rest : Rest) (x y : Bool) → settled rest x y ≡ serveds.Spawn → ⊥
never-spawns rests.WriteFault x y e = absurd (cc)
never-spawns rests.Memory x y e = absurd (cc)
never-spawns rests.Written true y e = absurd (cc)
never-spawns rests.Written false true e = absurd (cc)
never-spawns rests.Written false false e = absurd (cc)

pub write-rises : {M S : Type 0} (g : Ghosts M Event Reply S) (s t : S) (mid written : Option (List ℕ))
    (before after : ℕ) (rest : Rest) (x y : Bool)
    → EndsRest g s t mid written before after rest → settled rest x y ≡ serveds.Write → Rose before after
write-rises g s t mid written before after rests.WriteFault x y h e = h.1
write-rises g s t mid written before after rests.Memory x y h e = absurd (cc)
write-rises g s t mid written before after rests.Written true y h e = absurd (cc)
write-rises g s t mid written before after rests.Written false true h e = absurd (cc)
write-rises g s t mid written before after rests.Written false false h e = absurd (cc)

-- a run that doesn't end so wrote all that it took
pub rest-quiet : (rest : Rest) (x y : Bool) → (settled rest x y ≡ serveds.Write → ⊥) → rest ≡ rests.WriteFault → ⊥
rest-quiet rests.WriteFault x y not is = not refl
rest-quiet rests.Memory x y not is = absurd (cc)
rest-quiet rests.Written x y not is = absurd (cc)

-- an audit that is cut off met a sink that failed
pub cut-rises : (end : Result AuditEnd Memory) (posts now : List Post) (held mid : Option (List ℕ)) (before after : ℕ)
    → is_cut_off end ≡ true
    → HasWrittenAudit posts held mid before after now end → Rose before after
cut-rises (Ok ends.WriteFault) posts now held mid before after is h = h.1
cut-rises (Ok ends.Ended) posts now held mid before after is h = absurd (cc)
cut-rises (Err m) posts now held mid before after is h = absurd (cc)

-- one that isn't did not
pub whole-quiet : (end : Result AuditEnd Memory) (posts now : List Post) (held mid : Option (List ℕ)) (before after : ℕ)
    → is_cut_off end ≡ false
    → HasWrittenAudit posts held mid before after now end → after ≡ before
whole-quiet (Ok ends.WriteFault) posts now held mid before after is h = absurd (cc)
whole-quiet (Ok ends.Ended) posts now held mid before after is h = h.1
whole-quiet (Err m) posts now held mid before after is h = h.1

-- why a dial failed
pub link-cause : (undialled before after : ℕ) → RoseBy undialled before after → (undialled ≡ 0 → ⊥)
    → Rose before after
link-cause zero before after rose none = absurd (none refl)
link-cause (suc n) before after rose none = rose.0
