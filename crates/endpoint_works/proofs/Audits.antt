-- Lines of the audit that are taken and written one by one.
use Rattle.std.proofs.Common.{◌≡◌, ◌+◌, ◌≤◌, ◌<◌, ◌⊎◌, ℕ, min, List, [], ◌∷◌, ◌++◌, Option, length, take, refl, sym}
use Rattle.std.proofs.Common.{ap, subst, ◌∙◌, append_assoc, arith, inl, inr}
use Rattle.std.specs.Prelude.{Result, Ok, Err, IfOk, OnErr}
use Rattle.std.proofs.Math.Nat.{eq-or-lt_of_le}
use Rattle.std.proofs.Math.Seq.{take-append-add}
use Rattle.std.proofs.lemmas.List.{append-nil, take-append-le, take_all, take_min}
use Rattle.std.proofs.lemmas.List.Concat.{flat_map-append}
use Rattle.std.proofs.lemmas.List.Elements.{All-append, All-nil, All-push}
use Rattle.outside.specs.Outside.{Rose}
use Rattle.cv_io.specs.declared.memory.Memory.{Memory}
use Rattle.sessions.specs.Posts.{AddsTaken, taking}
use Rattle.sessions.specs.declared.desk.Taken.{Taken}
use Rattle.sessions.specs.declared.desk.Taken.TheVariants as takings
use Rattle.sessions.specs.Streams.{Appends, AppendsSome}
use Rattle.sessions.specs.Writing.{message_of, taken_in}
use Rattle.sessions.specs.declared.desk.Post.{Post}
use Rattle.sessions.proofs.Bytes.{appends-more, appends-none}
use Rattle.endpoint_works.specs.Audits.{HasAudited, HasAuditedUpTo, IsAudits, TakesLines, audit, lines}

-- some of the first bytes of a piece are some of those of a longer one
pub some-front : (a b : Option (List ℕ)) (xs ys : List ℕ) → AppendsSome a b xs → AppendsSome a b (xs ++ ys)
some-front a b xs ys p =
    let n = min p.0 (length xs) in
    let same : take n (xs ++ ys) ≡ take p.0 xs =
    take-append-le n xs ys (omega arith) ∙ take_min p.0 xs in
    (n, subst (Appends a b) (sym same) p.1)

-- the lines of more takings
lines-both : (posts more : List Post)
    → lines (taken_in (posts ++ more)) ≡ lines (taken_in posts) ++ lines (taken_in more)
lines-both posts more =
    ap lines (flat_map-append (λ (post : Post). message_of post.event post.reply) posts more)
    ∙ flat_map-append (λ (x : List ℕ). x ++ 10 ∷ []) (taken_in posts) (taken_in more)

-- one more line
lines-more : (posts : List Post) (line : List ℕ)
    → lines (taken_in (posts ++ taking audit line ∷ [])) ≡ lines (taken_in posts) ++ (line ++ 10 ∷ [])
lines-more posts line =
    lines-both posts (taking audit line ∷ []) ∙ ap (λ z. lines (taken_in posts) ++ z) (append-nil (line ++ 10 ∷ []))

-- a count that rose is higher still after it did not fall
pub rose-on : (a b c : ℕ) → a ≤ b → Rose a b → b ≤ c → Rose a c
rose-on a b c low (inl above) more = inl (omega arith)
rose-on a b c low (inr most) more = by (eq-or-lt_of_le more)
  where
    by : (b ≡ c) ⊎ (b < c) → Rose a c
    by (inl same) = inr (sym same ∙ most)
    by (inr above) = inl (omega arith)

pub takes-none : (p : List Post) → TakesLines p p
takes-none p = record { more = []; each = All-nil IsAudits; posted = sym (append-nil p) }

pub takes-more : (p q r : List Post) → TakesLines p q → (line : List ℕ) → r ≡ q ++ taking audit line ∷ []
    → TakesLines p r
takes-more p q r h line e = record {
  more = h.more ++ taking audit line ∷ [];
  each = All-push IsAudits h.more (taking audit line) h.each (line, refl);
  posted = e ∙ (ap (λ z. z ++ taking audit line ∷ []) h.posted ∙ append_assoc p h.more (taking audit line ∷ []));
}

pub takes-both : (p q r : List Post) → TakesLines p q → TakesLines q r → TakesLines p r
takes-both p q r h k = record {
  more = h.more ++ k.more;
  each = All-append IsAudits h.more k.more h.each k.each;
  posted = k.posted ∙ (ap (λ z. z ++ k.more) h.posted ∙ append_assoc p h.more k.more);
}

pub audited-none : (p : List Post) (a : Option (List ℕ)) → HasAudited p a a p
audited-none p a = record {
  more = [];
  each = All-nil IsAudits;
  posted = sym (append-nil p);
  wrote = appends-none a;
}

module _ (p q r : List Post) (a b c : Option (List ℕ)) (h : HasAudited p a b q) (line : List ℕ)
    (e : r ≡ q ++ taking audit line ∷ []) where
  -- a line is taken and written
  pub audited-more : Appends b c (line ++ 10 ∷ []) → HasAudited p a c r
  audited-more w = record {
    more = h.more ++ taking audit line ∷ [];
    each = All-push IsAudits h.more (taking audit line) h.each (line, refl);
    posted = e ∙ (ap (λ z. z ++ taking audit line ∷ []) h.posted ∙ append_assoc p h.more (taking audit line ∷ []));
    wrote = subst (Appends a c) (sym (lines-more h.more line))
        (appends-more a b c (lines (taken_in h.more)) (line ++ 10 ∷ []) h.wrote w);
  }

  -- a line is taken, of which some is written
  pub audited-part : AppendsSome b c (line ++ 10 ∷ []) → HasAuditedUpTo p a c r
  audited-part w = record {
    more = h.more ++ taking audit line ∷ [];
    each = All-push IsAudits h.more (taking audit line) h.each (line, refl);
    posted = e ∙ (ap (λ z. z ++ taking audit line ∷ []) h.posted ∙ append_assoc p h.more (taking audit line ∷ []));
    count = length (lines (taken_in h.more)) + w.0;
    wrote = subst (λ z. Appends a c (take (length (lines (taken_in h.more)) + w.0) z)) (sym (lines-more h.more line))
        (subst (Appends a c) (sym (take-append-add (lines (taken_in h.more)) (line ++ 10 ∷ []) w.0))
        (appends-more a b c (lines (taken_in h.more)) (take w.0 (line ++ 10 ∷ [])) h.wrote w.1));
  }

-- whatever a taking finds
pub takes-any : (p q r : List Post) (found : Result Taken Memory) → TakesLines p q
    → IfOk found (AddsTaken q r audit) → OnErr found (r ≡ q) → TakesLines p r
takes-any p q r (Ok (takings.Message line)) h e n = takes-more p q r h line e
takes-any p q r (Ok (takings.Empty at)) h e n = subst (TakesLines p) (sym e) h
takes-any p q r (Ok (takings.Closed at)) h e n = subst (TakesLines p) (sym e) h
takes-any p q r (Err m) h e n = subst (TakesLines p) (sym n) h

module _ (p q : List Post) (a b : Option (List ℕ)) where
  -- what was taken is written whole
  pub audited-whole : (c : Option (List ℕ)) → HasAudited p a b q → c ≡ b → HasAuditedUpTo p a c q
  audited-whole c h e =
      let all = lines (taken_in h.more) in record {
        more = h.more;
        each = h.each;
        posted = h.posted;
        count = length all;
        wrote = subst (λ z. Appends a c z) (sym (take_all (length all) all (omega arith)))
            (subst (λ z. Appends a z all) (sym e) h.wrote);
      }

  -- the lines that are taken then are dropped
  pub audited-dropped : (r : List Post) (c : Option (List ℕ)) → HasAuditedUpTo p a b q → TakesLines q r → c ≡ b
      → HasAuditedUpTo p a c r
  audited-dropped r c h t e =
      let some = some-front a b (lines (taken_in h.more)) (lines (taken_in t.more)) (h.count, h.wrote) in record {
        more = h.more ++ t.more;
        each = All-append IsAudits h.more t.more h.each t.each;
        posted = t.posted ∙ (ap (λ z. z ++ t.more) h.posted ∙ append_assoc p h.more t.more);
        count = some.0;
        wrote = subst (λ z. Appends a z (take some.0 (lines (taken_in (h.more ++ t.more))))) (sym e)
            (subst (λ z. Appends a b (take some.0 z)) (sym (lines-both h.more t.more)) some.1);
      }
