-- Frames that are posted one by one.
use Rattle.std.proofs.Common.{◌≡◌, ℕ, Bool, List, [], ◌∷◌, ◌++◌, Option, refl, sym, ap, subst, ◌∙◌, append_assoc}
use Rattle.std.proofs.lemmas.List.{append-nil, map-append}
use Rattle.std.proofs.lemmas.List.Elements.{All-nil, All-push}
use Rattle.cv_io.specs.declared.leaf.Session.{Session}
use Rattle.of10_frames.specs.Frames.{IsFrame}
use Rattle.sessions.specs.declared.desk.Post.{Post}
use Rattle.sessions.specs.declared.incoming.Stop.{Stop}
use Rattle.sessions.specs.declared.incoming.Stop.TheVariants as stops
use Rattle.sessions.specs.Posts.{message, messages}
use Rattle.sessions.specs.Reading.{HasFoundEnded, HasHeard, HasKept, HasNext, HasPosted, HasStopped}
use Rattle.sessions.specs.Streams.{Reads, joined}
use Rattle.sessions.proofs.Bytes.{joined-more, reads-more, reads-none, source-failed}

-- bytes that are read go on from what was left
goes_on : (old read more taken mid left : List ℕ) → old ++ read ≡ taken ++ mid → mid ++ more ≡ left
    → old ++ (read ++ more) ≡ taken ++ left
goes_on old read more taken mid left p q =
    sym (append_assoc old read more) ∙ (ap (λ z. z ++ more) p ∙ (append_assoc taken mid more ∙ ap (λ z. taken ++ z) q))

module _ (a : Option (List ℕ)) (old : List ℕ) (s : Session) (p : List Post) where
  -- nothing is posted yet
  pub posted-none : HasPosted a a old s p p old
  posted-none = record {
    read = [];
    next = reads-none a;
    frames = [];
    whole = All-nil IsFrame;
    parts = append-nil old;
    posted = sym (append-nil p);
  }

module _ (a b c : Option (List ℕ)) (old mid new : List ℕ) (s : Session) (p q r : List Post)
    (h : HasPosted a b old s p q mid) where
  -- one more frame is posted
  pub posted-more : (f : List ℕ) → HasNext b c mid new f → r ≡ q ++ message s f ∷ [] → HasPosted a c old s p r new
  posted-more f n e = record {
    read = h.read ++ n.read;
    next = reads-more a b c h.read n.read h.next n.next;
    frames = h.frames ++ f ∷ [];
    whole = All-push IsFrame h.frames f h.whole n.whole;
    parts = goes_on old h.read n.read (joined h.frames) mid (f ++ new) h.parts n.parts ∙ joined-more h.frames f new;
    posted = e ∙ (ap (λ z. z ++ message s f ∷ []) h.posted
        ∙ (append_assoc p (messages s h.frames) (message s f ∷ [])
        ∙ ap (λ z. p ++ z) (sym (map-append (message s) h.frames (f ∷ [])))));
  }

  -- one more frame is read
  pub posted-seen : (f : List ℕ) → HasNext b c mid new f → r ≡ q → HasPosted a c old s p r (f ++ new)
  posted-seen f n e = record {
    read = h.read ++ n.read;
    next = reads-more a b c h.read n.read h.next n.next;
    frames = h.frames;
    whole = h.whole;
    parts = goes_on old h.read n.read (joined h.frames) mid (f ++ new) h.parts n.parts;
    posted = e ∙ h.posted;
  }

  -- which finds the session ended
  pub posted-ended : (f : List ℕ) → HasNext b c mid new f → r ≡ q → HasFoundEnded a c old s p r new
  posted-ended f n e = record { refused = f; whole = n.whole; front = posted-seen f n e }

  -- more is read
  pub posted-read : (read : List ℕ) → Reads b c read → r ≡ q → HasPosted a c old s p r (mid ++ read)
  posted-read read n e = record {
    read = h.read ++ read;
    next = reads-more a b c h.read read h.next n;
    frames = h.frames;
    whole = h.whole;
    parts = goes_on old h.read read (joined h.frames) mid (mid ++ read) h.parts refl;
    posted = e ∙ h.posted;
  }

  -- more is read and kept
  pub posted-kept : HasKept b c mid new → r ≡ q → HasPosted a c old s p r new
  posted-kept k e = subst (HasPosted a c old s p r) (sym k.parts) (posted-read k.read k.next e)

-- there is no next frame
pub posted-stopped : (a b c : Option (List ℕ)) (old mid new : List ℕ) (s : Session) (p q : List Post) (f m g : ℕ)
    (w v : Bool) (stop : Stop)
    → HasPosted a b old s p q mid → m ≡ f → v ≡ w → HasStopped b c mid new m g v stop
    → HasHeard a c old s p q new f g w stop
posted-stopped a b c old mid new s p q f m g w v stops.Ended h i j n =
    (posted-kept a b c old mid new s p q q h n.0 refl, n.1)
posted-stopped a b c old mid new s p q f m g w v (stops.Short len) h i j n =
    (posted-kept a b c old mid new s p q q h n.0 refl, n.1)
posted-stopped a b c old mid new s p q f m g w v stops.ReadFault h i j n =
    (posted-kept a b c old mid new s p q q h n.0 refl, source-failed new f m g w v i j n.1)
posted-stopped a b c old mid new s p q f m g w v stops.Memory h i j n =
    (mid ++ n.0, posted-read a b c old mid new s p q q h n.0 n.1 refl)
