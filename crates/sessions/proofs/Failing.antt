-- Why a switch is not opened.
use Rattle.std.proofs.Common.{◌≡◌, ◌<◌, ℕ, Bool, true, false, List, [], ◌∷◌, ◌++◌, Option, length, refl, subst, inl}
use Rattle.std.proofs.Common.{inr}
use Rattle.sessions.specs.declared.ends.Greeted.{Greeted}
use Rattle.sessions.specs.declared.ends.OpenEnd.{OpenEnd}
use Rattle.sessions.specs.declared.ends.OpenEnd.TheVariants as ends
use Rattle.sessions.specs.declared.incoming.Stop.{Stop}
use Rattle.sessions.specs.declared.incoming.Stop.TheVariants as stops
use Rattle.sessions.specs.Greetings.{echo, features_request, hello_message, is_features, to_switch}
use Rattle.sessions.specs.InsideOpening.{IsNamed, IsNoFirst, IsNotNamed}
use Rattle.sessions.specs.InsideReading.{IsSendEnd, open_end}
use Rattle.sessions.specs.Opening.{HasFeatures, HasPassed, IsKnown, IsNoSwitch, IsNotGreeted}
use Rattle.sessions.specs.Reading.{HasNext, HasStopped}
use Rattle.sessions.specs.Streams.{Appends, AppendsSome}
use Rattle.sessions.proofs.Bytes.{appends-part, sink-failed, source-failed}
use Rattle.sessions.proofs.Opens.{passed-kept, passed-more, passed-reply, to-switch-more}

module _ (dpids : List ℕ) (kf kg kw kv : ℕ) (ks : Bool) (held : Option (List ℕ)) where
  -- the greeting is not written
  pub greeting-fails : (a now : Option (List ℕ)) (old : List ℕ) (sf : ℕ) (w : Bool) (end : OpenEnd)
      → IsSendEnd held now (hello_message ++ features_request) kf kg kw kv ks end
      → IsNoSwitch a a old old held now dpids sf sf w kf kg kw kv ks end
  greeting-fails a now old sf w ends.Ended h = absurd h
  greeting-fails a now old sf w (ends.Short len) h = absurd h
  greeting-fails a now old sf w ends.NoHello h = absurd h
  greeting-fails a now old sf w ends.NoFeatures h = absurd h
  greeting-fails a now old sf w (ends.Unknown dpid) h = absurd h
  greeting-fails a now old sf w ends.ReadFault h = absurd h
  greeting-fails a now old sf w ends.WriteFault h = (inl (record { left = refl; kept = refl }, h.0), h.1)
  greeting-fails a now old sf w ends.Memory h = absurd h

  module _ (a b now : Option (List ℕ)) (old new : List ℕ) (written : Appends held now (to_switch [])) where
    -- no HELLO comes
    pub hello-fails : (sf sg : ℕ) (w : Bool) (end : OpenEnd) → IsNoFirst a b old new sf sg w end
        → IsNoSwitch a b old new held now dpids sf sg w kf kg kw kv ks end
    hello-fails sf sg w ends.Ended h = (inl (record { kept = h.0; written = written }), h.1)
    hello-fails sf sg w (ends.Short len) h = (inl (record { kept = h.0; written = written }), h.1)
    hello-fails sf sg w ends.NoHello h = (h, written)
    hello-fails sf sg w ends.NoFeatures h = absurd h
    hello-fails sf sg w (ends.Unknown dpid) h = absurd h
    hello-fails sf sg w ends.ReadFault h = (inl (record { kept = h.0; written = written }), h.1)
    hello-fails sf sg w ends.WriteFault h = absurd h
    hello-fails sf sg w ends.Memory h = tt

  module _ (a b c now : Option (List ℕ)) (old mid new : List ℕ) (passed : List (List ℕ))
      (h : HasPassed a b old passed mid) (written : Appends held now (to_switch passed)) where
    -- no further frame comes
    pub frame-fails : (sf sm sg : ℕ) (w v : Bool) (stop : Stop) → length passed < 64 → sm ≡ sf → v ≡ w
        → HasStopped b c mid new sm sg v stop
        → IsNoSwitch a c old new held now dpids sf sg w kf kg kw kv ks (open_end stop)
    frame-fails sf sm sg w v stops.Ended few e i n = (
      inr (record {
        passed = passed;
        came = passed-kept a b c old mid new passed h n.0;
        few = few;
        written = written;
      }),
      n.1,
    )
    frame-fails sf sm sg w v (stops.Short len) few e i n = (
      inr (record {
        passed = passed;
        came = passed-kept a b c old mid new passed h n.0;
        few = few;
        written = written;
      }),
      n.1,
    )
    frame-fails sf sm sg w v stops.ReadFault few e i n = (
      inr (record {
        passed = passed;
        came = passed-kept a b c old mid new passed h n.0;
        few = few;
        written = written;
      }),
      source-failed new sf sm sg w v e i n.1,
    )
    frame-fails sf sm sg w v stops.Memory few e i n = tt

    -- a frame is not answered
    pub answer-fails : (later : Option (List ℕ)) (sf sg : ℕ) (w : Bool) (km kx : ℕ) (kt : Bool) (f : List ℕ)
        (end : OpenEnd)
        → km ≡ kf → kx ≡ kw → kt ≡ ks → HasNext b c mid new f → is_features f ≡ false
        → IsSendEnd now later (echo f) km kg kx kv kt end
        → IsNoSwitch a c old new held later dpids sf sg w kf kg kw kv ks end
    answer-fails later sf sg w km kx kt f ends.Ended p q r n other s = absurd s
    answer-fails later sf sg w km kx kt f (ends.Short len) p q r n other s = absurd s
    answer-fails later sf sg w km kx kt f ends.NoHello p q r n other s = absurd s
    answer-fails later sf sg w km kx kt f ends.NoFeatures p q r n other s = absurd s
    answer-fails later sf sg w km kx kt f (ends.Unknown dpid) p q r n other s = absurd s
    answer-fails later sf sg w km kx kt f ends.ReadFault p q r n other s = absurd s
    answer-fails later sf sg w km kx kt f ends.WriteFault p q r n other s = (
      inr (
        passed ++ f ∷ [],
        passed-more a b c old mid new passed h f n other,
        subst (AppendsSome held later) (to-switch-more passed f)
            (appends-part held now later (to_switch passed) (echo f) written s.0),
      ),
      sink-failed kf km kg kw kx kv ks kt p q r s.1,
    )
    answer-fails later sf sg w km kx kt f ends.Memory p q r n other s = absurd s

    -- the frame tells the features
    features : (f : List ℕ) → length passed < 64 → HasNext b c mid new f → is_features f ≡ true
        → HasFeatures a c old new held now f
    features f few n is = record {
      passed = passed;
      came = passed-reply a b c old mid new passed h f n;
      few = few;
      whole = n.whole;
      features = is;
      written = written;
    }

    pub is-known : (f r ds : List ℕ) (g : Greeted) → length passed < 64 → HasNext b c mid new f → is_features f ≡ true
        → r ≡ f → ds ≡ dpids → IsNamed ds r g → IsKnown a c old new held now dpids g
    is-known f r ds g few n is p q named = let k = subst (λ z. IsNamed z f g) q (subst (λ z. IsNamed ds z g) p named) in
        record { reply = f; came = features f few n is; switch = k.switch; arp = k.arp }

    is-unknown : (sf sg : ℕ) (w : Bool) (f : List ℕ) (end : OpenEnd) → length passed < 64 → HasNext b c mid new f
        → is_features f ≡ true → IsNotNamed dpids f end
        → IsNoSwitch a c old new held now dpids sf sg w kf kg kw kv ks end
    is-unknown sf sg w f ends.Ended few n is u = absurd u
    is-unknown sf sg w f (ends.Short len) few n is u = absurd u
    is-unknown sf sg w f ends.NoHello few n is u = absurd u
    is-unknown sf sg w f ends.NoFeatures few n is u = absurd u
    is-unknown sf sg w f (ends.Unknown dpid) few n is u =
        record { reply = f; came = features f few n is; named = u.0; none = u.1 }
    is-unknown sf sg w f ends.ReadFault few n is u = absurd u
    is-unknown sf sg w f ends.WriteFault few n is u = absurd u
    is-unknown sf sg w f ends.Memory few n is u = absurd u

    pub is-not-known : (sf sg : ℕ) (w : Bool) (f r ds : List ℕ) (end : OpenEnd) → length passed < 64
        → HasNext b c mid new f → is_features f ≡ true → r ≡ f → ds ≡ dpids → IsNotNamed ds r end
        → IsNoSwitch a c old new held now dpids sf sg w kf kg kw kv ks end
    is-not-known sf sg w f r ds end few n is p q u =
        is-unknown sf sg w f end few n is (subst (λ z. IsNotNamed z f end) q (subst (λ z. IsNotNamed ds z end) p u))

-- a controller was written its HELLO before its first frame was read for
pub not-greeted : (a b : Option (List ℕ)) (old new : List ℕ) (held now : Option (List ℕ))
    → Appends held now hello_message → (sf sg : ℕ) (w : Bool) (kf kg kw kv : ℕ) (ks : Bool) (end : OpenEnd)
    → IsNoFirst a b old new sf sg w end → IsNotGreeted held now kf kg kw kv ks end
not-greeted a b old new held now written sf sg w kf kg kw kv ks ends.Ended h = written
not-greeted a b old new held now written sf sg w kf kg kw kv ks (ends.Short len) h = written
not-greeted a b old new held now written sf sg w kf kg kw kv ks ends.NoHello h = written
not-greeted a b old new held now written sf sg w kf kg kw kv ks ends.NoFeatures h = written
not-greeted a b old new held now written sf sg w kf kg kw kv ks (ends.Unknown dpid) h = written
not-greeted a b old new held now written sf sg w kf kg kw kv ks ends.ReadFault h = written
not-greeted a b old new held now written sf sg w kf kg kw kv ks ends.WriteFault h = absurd h
not-greeted a b old new held now written sf sg w kf kg kw kv ks ends.Memory h = (8, written)
