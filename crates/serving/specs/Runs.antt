-- What a run comes to: the history of its lock, whose works posted it, and what is written.
use Rattle.std.specs.Prelude.{◌≡◌, ◌⊎◌, ℕ, suc, Bool, true, false, List, [], ◌∷◌, ◌++◌, Option, Some, All, IsTrue}
use Rattle.std.specs.Prelude.{map, take}
use Rattle.std.specs.List.{IsDistinct}
use Rattle.outside.specs.Connections.{Connection}
use Rattle.outside.specs.Outside.{RoseBy}
use Rattle.cv_io.specs.declared.leaf.Session.{Session}
use Rattle.outside.specs.declared.links.Endpoint.{Endpoint}
use Rattle.events.specs.declared.event.Event.{Event}
use Rattle.events.specs.declared.event.Event.TheVariants.{Take}
use Rattle.events.specs.declared.event.Reply.{Reply}
use Rattle.policy_lock.specs.Close.{HasSeen}
use Rattle.policy_lock.specs.History.{IsLegal, after, same_number}
use Rattle.policy_lock.specs.Number.{Numbered, has_number}
use Rattle.policy_lock.specs.Seat.{SeatOf}
use Rattle.policy_lock.specs.declared.machine.Machine.{Ghosts}
use Rattle.policy_lock.specs.declared.view.Entry.{Entry}
use Rattle.sessions.specs.Streams.{Appends}
use Rattle.sessions.specs.declared.desk.Post.{Post}
use Rattle.endpoint_works.specs.Audits.{IsAudits, audit, lines}
use Rattle.endpoint_works.specs.Sendings.{HasSent}
use Rattle.endpoint_works.specs.Tasks.{HasReceived}
use Rattle.endpoint_works.specs.declared.receiving.Received.{Received}
use Rattle.lock_desk.specs.Passes.{HasEnded, IsSince, own_posts, posts_by}
use Rattle.serving.specs.Histories.{TakesLine}
use Rattle.serving.specs.declared.place.Place.{Place}
use Rattle.serving.specs.declared.run.Served.{Served}
use Rattle.serving.specs.declared.run.Served.TheVariants.{Done, Link, Spawn, Write, Memory}

-- of a machine, which meant `start` as its lock was opened; of links, which tell the connections of an endpoint and
-- that its dial never fails; and of a clock, which may answer some seconds
module _ {M S : Type 0} (g : Ghosts M Event Reply S) (start : S) (told : Endpoint → Option (List Connection))
    (reliable : Endpoint → Bool) (may : ℕ → Type 0) where
  -- of two numbers one is that of the work that took the connections of an endpoint and read from them, and the other
  -- that of the work that wrote to them: what each posted in the history. Whether a dial failed, and whether memory was
  -- wanted, is known of all works
  pub record IsServed (failed wanted : Bool) (place : Place) (log : List (Entry Event Reply))
      (first second : List ℕ) : Type 0 where
    -- the first work's seat as it began, where the lock did, when it had posted nothing, and in the end
    pub began : SeatOf Event Reply S
    pub starts : began.pass.start ≡ Some start
    pub silent : own_posts began.pass ≡ []
    pub ended : SeatOf Event Reply S
    pub number : first ≡ ended.pass.number
    pub seen : HasSeen log ended
    pub end : Received
    pub fails : end.failed ≡ true → failed ≡ true
    pub wants : end.wanted ≡ true → wanted ≡ true
    -- what its dial told
    pub never_fails : Bool
    pub dials : reliable place.end ≡ true → never_fails ≡ true
    pub left : Option (List Connection)
    pub received :
        HasReceived (λ (seat : SeatOf Event Reply S). own_posts seat.pass)
        (λ (seat : SeatOf Event Reply S). HasEnded g seat.pass) IsSince
        place.side never_fails (told place.end) left began ended end
    pub cut : Bool
    pub sent : HasSent may cut [] (posts_by second log)

  -- the first two numbers are those of the works of the endpoint, and of the others this holds
  pub record HasWorks (failed wanted : Bool) (place : Place) (log : List (Entry Event Reply))
      (Rest : List Numbered → Type 0) (numbers : List Numbered) : Type 0 where
    pub first : Numbered
    pub second : Numbered
    pub others : List Numbered
    pub are : numbers ≡ first ∷ second ∷ others
    pub served : IsServed failed wanted place log first.0 second.0
    pub rest : Rest others

  -- the number is that of the work that wrote the audit
  pub record HasAuditAlone (log : List (Entry Event Reply)) (numbers : List Numbered) : Type 0 where
    pub number : Numbered
    pub is : numbers ≡ number ∷ []
    pub takings : All IsAudits (posts_by number.0 log)

  -- the works of the endpoints have the first of these numbers, two for each but those so many that were not dialled,
  -- and the audit's has the last
  abbrev pub AreServed : (undialled : ℕ) (failed wanted : Bool) → List Place → List (Entry Event Reply)
      → List Numbered → Type 0
  AreServed undialled failed wanted [] log numbers = (undialled ≡ 0) × HasAuditAlone log numbers
  AreServed undialled failed wanted (place ∷ places) log numbers =
      ((others : ℕ) × (undialled ≡ suc others) × AreServed others failed wanted places log numbers)
      ⊎ HasWorks failed wanted place log (AreServed undialled failed wanted places log) numbers

  -- the one history of a run, which `rest` continues: then takings of the audit followed
  pub record IsRun (undialled : ℕ) (failed wanted : Bool) (places : List Place) (log rest : List (Entry Event Reply))
      : Type 0 where
    pub legal : IsLegal g start (log ++ rest)
    pub takings : All TakesLine rest
    -- whose works posted the entries of the history: no two works have one number
    pub numbers : List Numbered
    pub once : IsDistinct same_number (map (λ (n : Numbered). n.0) numbers)
    pub under : All (λ (x : Entry Event Reply). IsTrue (has_number x.by numbers)) log
    pub works : AreServed undialled failed wanted places log numbers

  -- of the lines of the audit that a history has, and of links of which so many calls failed before and after
  module _ (audit_of : List (Entry Event Reply) → List (List ℕ)) (places : List Place) (held written : Option (List ℕ))
      (faults risen : ℕ) where
    -- each line of the audit is written, in its turn and once, and no further one can be taken
    pub record WritesAll (undialled : ℕ) (failed wanted : Bool) : Type 0 where
      pub log : List (Entry Event Reply)
      pub rest : List (Entry Event Reply)
      pub run : IsRun undialled failed wanted places log rest
      pub undials : RoseBy undialled faults risen
      pub drained : g.idle (after g start (log ++ rest)) (Take audit) ≡ true
      pub wrote : Appends held written (lines (audit_of (log ++ rest)))

    -- a beginning of those lines is written
    pub record WritesSome : Type 0 where
      pub undialled : ℕ
      pub failed : Bool
      pub wanted : Bool
      pub log : List (Entry Event Reply)
      pub rest : List (Entry Event Reply)
      pub run : IsRun undialled failed wanted places log rest
      pub undials : RoseBy undialled faults risen
      pub count : ℕ
      pub wrote : Appends held written (take count (lines (audit_of (log ++ rest))))

    -- how a run ends: where all is done, every endpoint was dialled, no dial failed and no memory was wanted
    abbrev pub Serves : Served → Type 0
    Serves Done = WritesAll 0 false false
    Serves Link = (undialled : ℕ) × ((failed : Bool) × ((wanted : Bool) × WritesAll undialled failed wanted))
    Serves Spawn = written ≡ held
    Serves Write = WritesSome
    Serves Memory = (written ≡ held) ⊎ WritesSome
