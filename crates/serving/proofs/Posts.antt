-- Which posts take a line of the audit.
use Rattle.std.proofs.Common.{◌≡◌, ◌⊎◌, ℕ, Bool, true, false, List, [], ◌∷◌, ◌++◌, Option, All, map, if◌then◌else◌}
use Rattle.std.proofs.Common.{refl, sym, ap, ◌∙◌, subst, inl, inr, append_assoc, append-nil}
use Rattle.std.proofs.lemmas.List.Elements.{All-append, All-cons, All-head, All-nil, All-tail}
use Rattle.outside.specs.Connections.{Connection}
use Rattle.cv_io.specs.declared.leaf.Session.{Session}
use Rattle.sessions.specs.Posts.{Leaves, coming_up, going, message, messages, second_told, taking}
use Rattle.sessions.specs.Reading.{HasFoundEnded, HasPosted, HasPostedAll, HasPostedSome, ReaderPosts}
use Rattle.sessions.specs.declared.desk.Post.{Post}
use Rattle.sessions.specs.declared.ends.ReadEnd.{ReadEnd}
use Rattle.sessions.specs.declared.ends.ReadEnd.TheVariants as read_ends
use Rattle.endpoint_works.specs.Chains.{AreRounds, IsGiven, IsRound}
use Rattle.endpoint_works.specs.Rounds.{CameUp, RoundPosts, RoundWants, WasRead, in_round, up_posts}
use Rattle.endpoint_works.specs.Sendings.{IsSenders}
use Rattle.endpoint_works.specs.Sides.{is_audit}
use Rattle.endpoint_works.specs.declared.round.RoundEnd.{RoundEnd}
use Rattle.endpoint_works.specs.declared.round.RoundEnd.TheVariants as round_ends
use Rattle.endpoint_works.specs.declared.side.Side.{Side}
use Rattle.serving.specs.Histories.{line_of}

-- the post takes no line
abbrev pub TakesNone : Post → Type 0
TakesNone post = line_of post.event post.reply ≡ []

-- the second list is the first, and posts behind it that take none
pub record Adds (old new : List Post) : Type 0 where
  pub more : List Post
  pub none : All TakesNone more
  pub is : new ≡ old ++ more

pub adds-nothing : (old new : List Post) → new ≡ old → Adds old new
adds-nothing old new e = record { more = []; none = All-nil TakesNone; is = e ∙ sym (append-nil old) }

pub adds-both : (a b c : List Post) → Adds a b → Adds b c → Adds a c
adds-both a b c p q = record {
  more = p.more ++ q.more;
  none = All-append TakesNone p.more q.more p.none q.none;
  is = q.is ∙ (ap (λ (l : List Post). l ++ q.more) p.is ∙ append_assoc a p.more q.more);
}

adds-one : (old new : List Post) (post : Post) → TakesNone post → new ≡ old ++ post ∷ [] → Adds old new
adds-one old new post none e =
    record { more = post ∷ []; none = All-cons TakesNone post [] none (All-nil TakesNone); is = e }

frames-none : (session : Session) (frames : List (List ℕ)) → All TakesNone (messages session frames)
frames-none session [] = All-nil TakesNone
frames-none session (frame ∷ frames) = All-cons TakesNone (message session frame) (messages session frames) refl
    (frames-none session frames)

adds-frames : (old new : List Post) (session : Session) (frames : List (List ℕ)) → new ≡ old ++ messages session frames
    → Adds old new
adds-frames old new session frames e =
    record { more = messages session frames; none = frames-none session frames; is = e }

adds-leaving : (ended : ℕ → Type 0) (old new : List Post) (session : Session) → Leaves ended old new session
    → Adds old new
adds-leaving ended old new session (inl e) = adds-one old new (going session) refl e
adds-leaving ended old new session (inr e) = adds-nothing old new e.0

module _ (before after : Option (List ℕ)) (old : List ℕ) (session : Session) (posts : List Post) where
  adds-all : (ended : ℕ → Type 0) (now : List Post) (left : List ℕ)
      → HasPostedAll before after old session posts ended now left → Adds posts now
  adds-all ended now left h =
      adds-both posts (posts ++ messages session h.frames) now (adds-frames posts _ session h.frames refl)
      (adds-leaving ended _ now session h.posted)

  pub adds-read : (ended : ℕ → Type 0) (now : List Post) (left : List ℕ) (end : ReadEnd)
      → ReaderPosts before after old session posts ended now left end → Adds posts now
  adds-read ended now left (read_ends.Closed at) h = adds-frames posts now session h.0.front.frames h.0.front.posted
  adds-read ended now left read_ends.Ended h = adds-all ended now left h
  adds-read ended now left (read_ends.Short length) h = adds-all ended now left h
  adds-read ended now left read_ends.ReadFault h = adds-all ended now left h

  pub adds-some : (now : List Post) → HasPostedSome before after old session posts now → Adds posts now
  adds-some now h = adds-both posts h.heard now (adds-frames posts h.heard session h.front.frames h.front.posted)
      (gone h.posted)
    where
      gone : (now ≡ h.heard) ⊎ (now ≡ h.heard ++ going session ∷ []) → Adds h.heard now
      gone (inl e) = adds-nothing h.heard now e
      gone (inr e) = adds-one h.heard now (going session) refl e

module _ (side : Side) (before after held : Option (List ℕ)) (writes : Bool) (posts now : List Post) where
  adds-up : (up : CameUp side before after held writes posts now)
      → Adds posts (up_posts side before after held writes posts now up)
  adds-up up = adds-one posts _ (coming_up up.who up.arp up.round) refl refl

  adds-round : (ended : Session → ℕ → Type 0) (faults risen : ℕ) (reads : Bool) (end : RoundEnd)
      → RoundPosts side before after held writes posts now ended faults risen reads end → Adds posts now
  adds-round ended faults risen reads (round_ends.Unopened end) h = adds-nothing posts now h.posted
  adds-round ended faults risen reads (round_ends.Read end) h =
      adds-both posts _ now (adds-up h.up)
      (adds-read h.up.middle after h.up.kept (in_round h.up.who h.up.round) _ _ now h.left end h.posted)

  adds-wanting : RoundWants side before after held writes posts now → Adds posts now
  adds-wanting (inl e) = adds-nothing posts now e
  adds-wanting (inr h) = adds-both posts _ now (adds-up h.0)
      (adds-some h.0.middle after h.0.kept (in_round h.0.who h.0.round) _ now h.1)

-- a work that takes connections takes no line
module _ {P : Type 0} (posts : P → List Post) (ended : P → Session → ℕ → Type 0) (later : P → P
    → Type 0) (side : Side) (wanted : Bool) where
  adds-given : (links left : Option (List Connection)) (v w : P) → IsGiven posts ended later side wanted links left v w
      → Adds (posts v) (posts w)
  adds-given links left v w g = by g.round.posted
    where
      by : ((end : RoundEnd) × RoundPosts side g.bytes g.round.after g.held g.writes (posts v) (posts w) (ended w)
          g.round.faults g.round.risen g.reads end)
          ⊎ ((wanted ≡ true) × RoundWants side g.bytes g.round.after g.held g.writes (posts v) (posts w))
          → Adds (posts v) (posts w)
      by (inl h) = adds-round side g.bytes g.round.after g.held g.writes (posts v) (posts w) (ended w) g.round.faults
          g.round.risen g.reads h.0 h.1
      by (inr h) = adds-wanting side g.bytes g.round.after g.held g.writes (posts v) (posts w) h.1

  pub adds-rounds : (links left : Option (List Connection)) (v w : P) (passes : List P)
      → AreRounds posts ended later side wanted links left v w passes → Adds (posts v) (posts w)
  adds-rounds links left v w [] h = adds-nothing (posts v) (posts w) (ap posts h.1)
  adds-rounds links left v w (u ∷ us) h =
      adds-both (posts v) (posts u) (posts w) (adds-given links h.0 v u h.1) (adds-rounds h.0 left u w us h.2)

-- nor does one that writes to them
pub senders-none : (may : ℕ → Type 0) (cut : Bool) (posts : List Post) → All (IsSenders may cut) posts
    → All TakesNone posts
senders-none may cut [] h = All-nil TakesNone
senders-none may cut (post ∷ posts) h =
    All-cons TakesNone post posts (by (All-head (IsSenders may cut) post posts h))
    (senders-none may cut posts (All-tail (IsSenders may cut) post posts h))
  where
    other : (b : Bool) (line : List ℕ) → b ≡ false → (if b then line ∷ [] else []) ≡ []
    other false line e = refl
    other true line e = absurd (cc)

    by : IsSenders may cut post → TakesNone post
    by (inl t) = ap (λ (p : Post). line_of p.event p.reply) t.2.1 ∙ other (is_audit t.0.who) t.2.0 t.1
    by (inr (inl s)) = ap (λ (p : Post). line_of p.event p.reply) s.2
    by (inr (inr g)) = ap (λ (p : Post). line_of p.event p.reply) g.1.2
