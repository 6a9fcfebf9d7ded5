-- Messages that are taken and written one by one.
use Rattle.std.proofs.Common.{◌≡◌, ◌≤◌, ℕ, List, [], ◌∷◌, ◌++◌, Option, take, refl, sym, ap, subst, ◌∙◌, append_assoc}
use Rattle.std.proofs.Common.{◌<◌, Bool, true, false, nat_lt, inl, inr, arith}
use Rattle.std.proofs.lemmas.List.{append-nil}
use Rattle.std.proofs.lemmas.List.Concat.{flat_map-append}
use Rattle.std.proofs.lemmas.List.Elements.{All-nil, All-push, All-weaker}
use Rattle.cv_io.specs.declared.leaf.Session.{Session}
use Rattle.sessions.specs.declared.desk.Post.{Post}
use Rattle.sessions.specs.Posts.{ShowsUpTo, StillShows, second_told, taking}
use Rattle.sessions.specs.Streams.{Appends, AppendsSome, joined}
use Rattle.sessions.specs.Writing.{HasWritten, HasWrittenUpTo, IsWriters, MayTell, message_of, taken_in}
use Rattle.sessions.proofs.Bytes.{appends-more, appends-none}

-- one more taking
taken-more : (posts : List Post) (s : Session) (m : List ℕ)
    → taken_in (posts ++ taking s m ∷ []) ≡ taken_in posts ++ m ∷ []
taken-more posts s m = flat_map-append (λ (post : Post). message_of post.event post.reply) posts (taking s m ∷ [])

-- a second takes nothing
taken-second : (posts : List Post) (t : ℕ) → taken_in (posts ++ second_told t ∷ []) ≡ taken_in posts
taken-second posts t = flat_map-append (λ (post : Post). message_of post.event post.reply) posts (second_told t ∷ [])
    ∙ append-nil (taken_in posts)

joined-push : (parts : List (List ℕ)) (part : List ℕ) → joined (parts ++ part ∷ []) ≡ joined parts ++ part
joined-push parts part = flat_map-append (λ (x : List ℕ). x) parts (part ∷ [])
    ∙ ap (λ z. joined parts ++ z) (append-nil part)

-- of seconds that are some of others
later : (s : Session) (these those : ℕ → Type 0) → ((n : ℕ) → these n → those n) → (post : Post)
    → IsWriters s these post → IsWriters s those post
later s these those some post (inl t) = inl t
later s these those some post (inr t) = inr (t.0, some t.0 t.1, t.2)

module _ (s : Session) (seconds : ℕ → Type 0) (p : List Post) (a : Option (List ℕ)) where
  -- nothing is taken yet
  pub written-none : HasWritten s seconds p a a p
  written-none = record {
    more = [];
    each = All-nil (IsWriters s seconds);
    posted = sym (append-nil p);
    written = appends-none a;
  }

module _ (s : Session) (seconds : ℕ → Type 0) (p q r : List Post) (a b c : Option (List ℕ))
    (h : HasWritten s seconds p a b q) where
  -- a message is taken and written
  pub written-more : (m : List ℕ) → r ≡ q ++ taking s m ∷ [] → Appends b c m → HasWritten s seconds p a c r
  written-more m e w = record {
    more = h.more ++ taking s m ∷ [];
    each = All-push (IsWriters s seconds) h.more (taking s m) h.each (inl (m, refl));
    posted = e ∙ (ap (λ z. z ++ taking s m ∷ []) h.posted ∙ append_assoc p h.more (taking s m ∷ []));
    written = subst (Appends a c) (sym (ap joined (taken-more h.more s m) ∙ joined-push (taken_in h.more) m))
        (appends-more a b c (joined (taken_in h.more)) m h.written w);
  }

  -- a message is taken, of which some is written
  pub written-part : (m : List ℕ) → r ≡ q ++ taking s m ∷ [] → AppendsSome b c m → HasWrittenUpTo s seconds p a c r
  written-part m e w = record {
    more = h.more ++ taking s m ∷ [];
    each = All-push (IsWriters s seconds) h.more (taking s m) h.each (inl (m, refl));
    posted = e ∙ (ap (λ z. z ++ taking s m ∷ []) h.posted ∙ append_assoc p h.more (taking s m ∷ []));
    front = taken_in h.more;
    last = m;
    messages = taken-more h.more s m;
    count = w.0;
    written = appends-more a b c (joined (taken_in h.more)) (take w.0 m) h.written w.1;
  }

module _ (s : Session) (p : List Post) (a b : Option (List ℕ)) (these those : ℕ → Type 0)
    (some : (n : ℕ) → these n → those n) where
  -- the clock went on
  pub written-later : (q : List Post) → HasWritten s these p a b q → HasWritten s those p a b q
  written-later q h = record {
    more = h.more;
    each = All-weaker (IsWriters s these) (IsWriters s those) (later s these those some) h.more h.each;
    posted = h.posted;
    written = h.written;
  }

  -- a second may be told
  pub written-told : (q r : List Post) → HasWritten s these p a b q → MayTell those q r → HasWritten s those p a b r
  written-told q r h (inl e) = subst (HasWritten s those p a b) (sym e) (written-later q h)
  written-told q r h (inr t) = let k = written-later q h in record {
    more = k.more ++ second_told t.0 ∷ [];
    each = All-push (IsWriters s those) k.more (second_told t.0) k.each (inr (t.0, t.1, refl));
    posted = t.2 ∙ (ap (λ z. z ++ second_told t.0 ∷ []) k.posted ∙ append_assoc p k.more (second_told t.0 ∷ []));
    written = subst (Appends a b) (sym (ap joined (taken-second k.more t.0))) k.written;
  }

-- of seconds that are some of others
pub tells-more : (these those : ℕ → Type 0) → ((n : ℕ) → these n → those n) → (old new : List Post)
    → MayTell these old new → MayTell those old new
tells-more these those some old new (inl e) = inl e
tells-more these those some old new (inr t) = inr (t.0, some t.0 t.1, t.2)

-- what is shown goes on to be
pub shows-still : (shown shows : ℕ → Type 0) (first last : ℕ) → ShowsUpTo shown first last → StillShows shown shows
    → ShowsUpTo shows first last
shows-still shown shows first last h still = λ n above within. still n (h n above within)

pub shows-more : (shows : ℕ → Type 0) (first middle last : ℕ) → ShowsUpTo shows first middle
    → ShowsUpTo shows middle last → ShowsUpTo shows first last
shows-more shows first middle last h k = λ n above within. by n above within (nat_lt middle n) refl
  where
    by : (n : ℕ) → first < n → n ≤ last → (b : Bool) → nat_lt middle n ≡ b → shows n
    by n above within true e = k n (grind arith) within
    by n above within false e = h n above (grind arith)
