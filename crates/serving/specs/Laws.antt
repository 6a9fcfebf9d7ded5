-- What follows of a run of which all is done.
use Rattle.std.specs.Prelude.{◌≡◌, ◌≢◌, ◌⊎◌, ℕ, Bool, true, List, [], ◌∷◌, ◌++◌, Option, Some, All}
use Rattle.std.specs.List.{Contains}
use mathlib.Core.List.{IsPrefix}
use Rattle.outside.specs.Connections.{Connection}
use Rattle.outside.specs.declared.links.Endpoint.{Endpoint}
use Rattle.cv_io.specs.declared.leaf.Session.{Session}
use Rattle.cv_io.specs.declared.leaf.Who.{Who}
use Rattle.events.specs.declared.event.Event.{Event}
use Rattle.events.specs.declared.event.Reply.{Reply}
use Rattle.policy_lock.specs.History.{after}
use Rattle.policy_lock.specs.declared.machine.Machine.{Ghosts}
use Rattle.policy_lock.specs.declared.view.Entry.{Entry}
use Rattle.sessions.specs.Posts.{coming_up}
use Rattle.sessions.specs.Reading.{HasPostedAll}
use Rattle.sessions.specs.declared.desk.Post.{Post}
use Rattle.sessions.specs.declared.ends.OpenEnd.{OpenEnd}
use Rattle.sessions.specs.declared.ends.OpenEnd.TheVariants as opens
use Rattle.endpoint_works.specs.Rounds.{in_round}
use Rattle.endpoint_works.specs.Sides.{IsOpenedFor, IsUnopened, SinkSeen}
use Rattle.endpoint_works.specs.declared.side.Side.{Side}
use Rattle.lock_desk.specs.Hosts.{IsOver}
use Rattle.lock_desk.specs.Passes.{posts_by}
use Rattle.serving.specs.Runs.{Serves}
use Rattle.serving.specs.declared.place.Place.{Place}
use Rattle.serving.specs.declared.run.Served.TheVariants.{Done}

module _ (side : Side) (bytes : List ℕ) where
  -- a connection with these bytes, whose calls never fail, is not opened: they end too early, begin with no greeting, or
  -- name no switch that is known
  pub record OpensNothing : Type 0 where
    pub rest : Option (List ℕ)
    pub kept : List ℕ
    pub sink : SinkSeen
    pub faults : ℕ
    pub risen : ℕ
    pub end : OpenEnd
    pub why : IsUnopened (Some bytes) rest kept sink side faults risen true end
    pub found : end ≢ opens.Memory
    pub sent : end ≢ opens.WriteFault

  -- one is opened for whom they name, whose session came up in some round, which is among these posts
  pub record OpensUp (posts : List Post) : Type 0 where
    pub rest : Option (List ℕ)
    pub kept : List ℕ
    pub sink : SinkSeen
    pub who : Who
    pub arp : Bool
    pub round : ℕ
    pub opened : IsOpenedFor (Some bytes) rest kept sink side who arp
    pub posted : Contains posts (coming_up who arp round)

module _ {M S : Type 0} (g : Ghosts M Event Reply S) (start : S) (log : List (Entry Event Reply)) (number : List ℕ) where
  -- the history has a beginning that has these posts of the number and none that came later, after which the session has
  -- ended
  pub record IsCutAt (posts : List Post) (session : Session) : Type 0 where
    pub before : List (Entry Event Reply)
    pub begins : IsPrefix before log
    pub same : posts_by number before ≡ posts
    pub over : IsOver g.reply (after g start before) session

  -- of the bytes of a connection that was opened each frame behind the opening is posted, and then that the session went,
  -- or it had ended; or the posts are cut off where the history has it ended
  pub record IsReadOut (side : Side) (bytes : List ℕ) : Type 0 where
    pub up : OpensUp side bytes (posts_by number log)
    pub old : List Post
    pub now : List Post
    pub rest : Option (List ℕ)
    pub left : List ℕ
    pub posted :
        HasPostedAll up.rest rest up.kept (in_round up.who up.round) (old ++ coming_up up.who up.arp up.round ∷ [])
        (λ (at : ℕ). IsCutAt now (in_round up.who up.round)) now left
        ⊎ IsCutAt now (in_round up.who up.round)

-- what holds of each connection that the links told of an endpoint and that never fails: one work posted so of all
abbrev pub OfEach : (Endpoint → Option (List Connection)) → ((number : List ℕ) → Side → List ℕ → Type 0) → Place
    → Type 0
OfEach told Is place =
    (links : List Connection) → told place.end ≡ Some links
    → (number : List ℕ) × All (λ (link : Connection). link.is_reliable ≡ true → Is number place.side link.bytes) links

module _ {M S C : Type 0} (g : Ghosts M Event Reply S) (may : C → ℕ → Type 0) where
  module _ (start : S) (clock : C) (told : Endpoint → Option (List Connection)) (reliable : Endpoint → Bool)
      (audit_of : List (Entry Event Reply) → List (List ℕ)) (places : List Place) (held written : Option (List ℕ))
      (faults risen : ℕ) (run : Serves g start told reliable (may clock) audit_of places held written faults risen Done)
    where
      -- its session came up, or its bytes open nothing
      abbrev pub Opens : (number : List ℕ) → Side → List ℕ → Type 0
      Opens number side bytes = OpensUp side bytes (posts_by number run.log) ⊎ OpensNothing side bytes

      -- it is read out, or its bytes open nothing
      abbrev pub Reads : (number : List ℕ) → Side → List ℕ → Type 0
      Reads number side bytes = IsReadOut g start run.log number side bytes ⊎ OpensNothing side bytes

  -- where all is done, each connection that was told came up in the history, or its bytes open nothing
  abbrev pub DoneServesAll : Type 0
  DoneServesAll =
      (start : S) (clock : C) (told : Endpoint → Option (List Connection)) (reliable : Endpoint → Bool)
      (audit_of : List (Entry Event Reply) → List (List ℕ)) (places : List Place) (held written : Option (List ℕ))
      (faults risen : ℕ) (run : Serves g start told reliable (may clock) audit_of places held written faults risen Done)
      → All (OfEach told (Opens start clock told reliable audit_of places held written faults risen run)) places

  -- and is read to its end, but where the history has the session ended
  abbrev pub CutOnlyWhereClosed : Type 0
  CutOnlyWhereClosed =
      (start : S) (clock : C) (told : Endpoint → Option (List Connection)) (reliable : Endpoint → Bool)
      (audit_of : List (Entry Event Reply) → List (List ℕ)) (places : List Place) (held written : Option (List ℕ))
      (faults risen : ℕ) (run : Serves g start told reliable (may clock) audit_of places held written faults risen Done)
      → All (OfEach told (Reads start clock told reliable audit_of places held written faults risen run)) places
