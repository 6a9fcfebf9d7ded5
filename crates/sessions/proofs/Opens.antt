-- Frames of a switch that are passed over one by one.
use Rattle.std.proofs.Common.{◌≡◌, ℕ, true, false, List, [], ◌∷◌, ◌++◌, Option, sym, ap, ◌∙◌, append_assoc}
use Rattle.std.specs.List.{flat_map}
use Rattle.std.proofs.lemmas.List.{append-nil}
use Rattle.std.proofs.lemmas.List.Concat.{flat_map-append}
use Rattle.std.proofs.lemmas.List.Elements.{All-nil, All-push}
use Rattle.of10_frames.specs.Frames.{IsFrame}
use Rattle.sessions.specs.Greetings.{echo, features_request, hello_message, is_features, is_hello, to_switch}
use Rattle.sessions.specs.Opening.{HasPassed}
use Rattle.sessions.specs.Reading.{HasKept, HasNext}
use Rattle.sessions.specs.Streams.{Reads, joined}
use Rattle.sessions.proofs.Bytes.{joined-more, reads-more}

-- the answer to one more frame
pub to-switch-more : (passed : List (List ℕ)) (f : List ℕ) → to_switch passed ++ echo f ≡ to_switch (passed ++ f ∷ [])
to-switch-more passed f =
    append_assoc (hello_message ++ features_request) (flat_map echo passed) (echo f)
    ∙ ap (λ z. (hello_message ++ features_request) ++ z)
    (ap (λ z. flat_map echo passed ++ z) (sym (append-nil (echo f))) ∙ sym (flat_map-append echo passed (f ∷ [])))

-- bytes that are read go on from what was left, behind two parts
goes_on : (old read more hello taken mid left : List ℕ) → old ++ read ≡ hello ++ (taken ++ mid) → mid ++ more ≡ left
    → old ++ (read ++ more) ≡ hello ++ (taken ++ left)
goes_on old read more hello taken mid left p q =
    sym (append_assoc old read more)
    ∙ (ap (λ z. z ++ more) p
    ∙ (append_assoc hello (taken ++ mid) more
    ∙ ap (λ z. hello ++ z) (append_assoc taken mid more ∙ ap (λ z. taken ++ z) q)))

-- the HELLO came
pub passed-none : (a b : Option (List ℕ)) (old new f : List ℕ) → HasNext a b old new f → is_hello f ≡ true
    → HasPassed a b old [] new
passed-none a b old new f n is = record {
  read = n.read;
  next = n.next;
  hello = f;
  first = n.whole;
  greets = is;
  whole = All-nil IsFrame;
  others = All-nil (λ (frame : List ℕ). is_features frame ≡ false);
  parts = n.parts;
}

module _ (a b c : Option (List ℕ)) (old mid new : List ℕ) (passed : List (List ℕ)) (h : HasPassed a b old passed mid)
  where
    -- more is read
    pub passed-read : (read left : List ℕ) → Reads b c read → mid ++ read ≡ left → HasPassed a c old passed left
    passed-read read left n e = record {
      read = h.read ++ read;
      next = reads-more a b c h.read read h.next n;
      hello = h.hello;
      first = h.first;
      greets = h.greets;
      whole = h.whole;
      others = h.others;
      parts = goes_on old h.read read h.hello (joined passed) mid left h.parts e;
    }

    pub passed-kept : HasKept b c mid new → HasPassed a c old passed new
    passed-kept k = passed-read k.read new k.next (sym k.parts)

    -- the next frame is the last
    pub passed-reply : (f : List ℕ) → HasNext b c mid new f → HasPassed a c old passed (f ++ new)
    passed-reply f n = passed-read n.read (f ++ new) n.next n.parts

    -- the next frame is passed over
    pub passed-more : (f : List ℕ) → HasNext b c mid new f → is_features f ≡ false
        → HasPassed a c old (passed ++ f ∷ []) new
    passed-more f n other = let k = passed-reply f n in record {
      read = k.read;
      next = k.next;
      hello = k.hello;
      first = k.first;
      greets = k.greets;
      whole = All-push IsFrame passed f h.whole n.whole;
      others = All-push (λ (frame : List ℕ). is_features frame ≡ false) passed f h.others other;
      parts = k.parts ∙ ap (λ z. k.hello ++ z) (joined-more passed f new);
    }
