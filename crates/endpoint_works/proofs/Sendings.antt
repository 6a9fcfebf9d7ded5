-- Writings one after the other.
use Rattle.std.proofs.Common.{◌≡◌, ◌⊎◌, ℕ, Bool, true, false, List, [], ◌∷◌, ◌++◌, All, Option, refl, sym, ap, subst}
use Rattle.std.proofs.Common.{◌∙◌, append_assoc, inl, inr}
use Rattle.std.proofs.lemmas.List.{append-nil}
use Rattle.std.proofs.lemmas.List.Elements.{All-append, All-nil, All-push, All-weaker}
use Rattle.cv_io.specs.declared.leaf.Session.{Session}
use Rattle.sessions.specs.Posts.{Leaves, going}
use Rattle.sessions.specs.Writing.{HasNoMemory, HasWritten, HasWrittenPart, IsWriters, WriterPosts}
use Rattle.sessions.specs.declared.desk.Post.{Post}
use Rattle.sessions.specs.declared.ends.WriteEnd.TheVariants as ends
use Rattle.endpoint_works.specs.Sendings.{HasSent, IsSenders}
use Rattle.endpoint_works.specs.Sides.{is_audit}

module _ (may : ℕ → Type 0) where
  pub sent-none : (cut : Bool) (p : List Post) → HasSent may cut p p
  sent-none cut p = record { more = []; each = All-nil (IsSenders may cut); posted = sym (append-nil p) }

  -- a writing that is known to be cut off may have gone well
  wider : (cut : Bool) (post : Post) → IsSenders may cut post → IsSenders may true post
  wider cut post (inl t) = inl t
  wider cut post (inr (inl t)) = inr (inl t)
  wider cut post (inr (inr t)) = inr (inr (refl, t.1))

  pub sent-cut : (cut : Bool) (p q : List Post) → HasSent may cut p q → HasSent may true p q
  sent-cut cut p q h = record {
    more = h.more;
    each = All-weaker (IsSenders may cut) (IsSenders may true) (wider cut) h.more h.each;
    posted = h.posted;
  }

  module _ (session : Session) (known : is_audit session.who ≡ false) (seconds : ℕ → Type 0)
      (some : (n : ℕ) → seconds n → may n) (cut : Bool) where
    writers : (post : Post) → IsWriters session seconds post → IsSenders may cut post
    writers post (inl t) = inl (session, known, t)
    writers post (inr t) = inr (inl (t.0, some t.0 t.1, t.2))

    -- what a writer posted
    pub sent-more : (p q r more : List Post) → HasSent may cut p q → All (IsWriters session seconds) more
        → r ≡ q ++ more → HasSent may cut p r
    sent-more p q r more h each e = record {
      more = h.more ++ more;
      each = All-append (IsSenders may cut) h.more more h.each
          (All-weaker (IsWriters session seconds) (IsSenders may cut) writers more each);
      posted = e ∙ (ap (λ z. z ++ more) h.posted ∙ append_assoc p h.more more);
    }

  -- and that the session went
  pub sent-gone : (session : Session) → is_audit session.who ≡ false → (p q r : List Post) → HasSent may true p q
      → r ≡ q ++ going session ∷ [] → HasSent may true p r
  sent-gone session known p q r h e = record {
    more = h.more ++ going session ∷ [];
    each = All-push (IsSenders may true) h.more (going session) h.each (inr (inr (refl, (session, known, refl))));
    posted = e ∙ (ap (λ z. z ++ going session ∷ []) h.posted ∙ append_assoc p h.more (going session ∷ []));
  }

  module _ (session : Session) (known : is_audit session.who ≡ false) (seconds : ℕ → Type 0)
      (some : (n : ℕ) → seconds n → may n) (p q r : List Post) (a b : Option (List ℕ)) where
    -- a writer whose session ended
    pub sent-closed : (cut : Bool) → HasSent may cut p q → HasWritten session seconds q a b r → HasSent may cut p r
    sent-closed cut h w = sent-more session known seconds some cut p q r w.more h w.each w.posted

    -- up to where its sink failed
    part : (cut : Bool) (s : List Post) → HasSent may cut p q → HasWrittenPart session seconds q a b s
        → HasSent may true p s
    part cut s h (inl w) =
        sent-more session known seconds some true p q s w.more (sent-cut cut p q h) w.each w.posted
    part cut s h (inr w) =
        sent-more session known seconds some true p q s w.more (sent-cut cut p q h) w.each w.posted

    -- then perhaps that the session went
    and-gone : (s : List Post) → HasSent may true p s → (r ≡ s) ⊎ (r ≡ s ++ going session ∷ [])
        → HasSent may true p r
    and-gone s g (inl e) = subst (HasSent may true p) (sym e) g
    and-gone s g (inr e) = sent-gone session known p s r g e

    -- one whose sink failed
    pub sent-fault : (cut : Bool) (ended : ℕ → Type 0) → HasSent may cut p q
        → WriterPosts session seconds q a b ended r ends.WriteFault → HasSent may true p r
    sent-fault cut ended h w = by (part cut w.0 h w.1) w.2
      where
        by : HasSent may true p w.0 → Leaves ended w.0 r session → HasSent may true p r
        by g (inl e) = sent-gone session known p w.0 r g e
        by g (inr e) = subst (HasSent may true p) (sym e.0) g

    -- one that found no memory
    pub sent-wanted : (cut : Bool) (failed : Type 0) → HasSent may cut p q
        → HasNoMemory session seconds q a b failed r → HasSent may true p r
    sent-wanted cut failed h (inl w) = and-gone w.sent (part cut w.sent h (inr w.written)) w.posted
    sent-wanted cut failed h (inr w) = and-gone w.1.sent (part cut w.1.sent h w.1.written) w.1.posted
