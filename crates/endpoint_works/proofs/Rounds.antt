-- Who comes up at a connection, and what is posted of it.
use Rattle.std.proofs.Common.{◌≡◌, ◌<◌, ◌==◌, ℕ, Bool, true, false, List, [], ◌∷◌, ◌++◌, Option, Some, None, length}
use Rattle.std.proofs.Common.{nat_lt, if◌then◌else◌, refl, sym, ap, subst, ◌∙◌, inr, arith}
use Rattle.std.specs.List.{position_or_len}
use Rattle.cv_io.specs.declared.leaf.Who.{Who}
use Rattle.cv_io.specs.declared.leaf.Session.{Session}
use Rattle.sessions.specs.Greetings.{place_of}
use Rattle.sessions.specs.Posts.{coming_up}
use Rattle.sessions.specs.Reading.{HasPostedSome, IsReadEnd, ReaderPosts}
use Rattle.sessions.specs.declared.desk.Post.{Post}
use Rattle.sessions.specs.declared.ends.ReadEnd.{ReadEnd}
use Rattle.endpoint_works.specs.Rounds.{CameUp, IsSink, RoundWants, WasRead}
use Rattle.endpoint_works.specs.Sides.{IsOpenedFor, IsServedSide, SinkSeen, is_audit}
use Rattle.endpoint_works.specs.declared.side.Side.{Side}
use Rattle.endpoint_works.specs.declared.side.Side.TheVariants as sides

-- a place that is found is there
chosen : (at len n : ℕ) (b : Bool) → nat_lt at len ≡ b → (if b then Some at else None) ≡ Some n → n < len
chosen at len n true lt e = grind arith
chosen at len n false lt e = absurd (cc)

pub place-within : (dpid : ℕ) (dpids : List ℕ) (n : ℕ) → place_of dpid dpids ≡ Some n → n < length dpids
place-within dpid dpids n e =
    chosen (position_or_len (λ (d : ℕ). d == dpid) dpids) (length dpids) n
    (nat_lt (position_or_len (λ (d : ℕ). d == dpid) dpids) (length dpids)) refl e

module _ (before after : Option (List ℕ)) (kept : List ℕ) (sink : SinkSeen) (who : Who) (arp : Bool) where
  -- whoever comes up there is served
  pub served : (serves : Who → Type 0) (side : Side) → IsServedSide serves side
      → IsOpenedFor before after kept sink side who arp → serves who
  served serves (sides.Member index) s o = subst serves (sym o.0) s
  served serves (sides.Switch dpids) s o =
      subst serves (sym o.1) (s.1 o.0.switch (place-within _ dpids o.0.switch o.3.switch))

  -- and isn't the audit
  pub no-audit : (side : Side) → IsOpenedFor before after kept sink side who arp → is_audit who ≡ false
  no-audit (sides.Member index) o = ap is_audit o.0
  no-audit (sides.Switch dpids) o = ap is_audit o.1

module _ (side : Side) (before middle after held : Option (List ℕ)) (writes : Bool) (posts up now : List Post)
    (kept : List ℕ)
    (sink : SinkSeen) (who : Who) (arp : Bool) (session : Session) (began : IsSink held writes sink)
    (opened : IsOpenedFor before middle kept sink side who arp) (same : session.who ≡ who)
    (posted : up ≡ posts ++ coming_up who arp session.round ∷ []) where
  abbrev came : CameUp side before after held writes posts now
  came = record {
    sink = sink;
    began = began;
    middle = middle;
    kept = kept;
    who = session.who;
    arp = arp;
    round = session.round;
    opened = subst (λ w. IsOpenedFor before middle kept sink side w arp) (sym same) opened;
  }

  came_posted : up ≡ posts ++ coming_up session.who arp session.round ∷ []
  came_posted = posted ∙ ap (λ w. posts ++ coming_up w arp session.round ∷ []) (sym same)

  -- a session that came up was read to an end
  pub was-read : (ended : Session → ℕ → Type 0) (faults risen : ℕ) (reads still : Bool) (left : List ℕ) (end : ReadEnd)
      → still ≡ reads
      → ReaderPosts middle after kept session up (ended session) now left end
      → IsReadEnd after left faults risen still end
      → WasRead side before after held writes posts now ended risen reads end
  was-read ended faults risen reads still left end rel p w = record {
    up = came;
    faults = faults;
    left = left;
    posted = subst (λ z. ReaderPosts middle after kept session z (ended session) now left end) came_posted p;
    why = subst (λ z. IsReadEnd after left faults risen z end) rel w;
  }

  -- or until memory was wanted
  pub was-wanted : HasPostedSome middle after kept session up now → RoundWants side before after held writes posts now
  was-wanted p = inr (came, subst (λ z. HasPostedSome middle after kept session z now) came_posted p)
