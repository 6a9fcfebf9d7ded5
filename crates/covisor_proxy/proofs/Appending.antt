-- What several writes append, one after the other.
use Rattle.std.proofs.Common.{◌≡◌, ◌<◌, ◌≤◌, ◌+◌, ◌-◌, min, ℕ, List, [], ◌++◌, Option, Some, None, take, drop, length}
use Rattle.std.proofs.Common.{sym, ap, ◌∙◌, subst, refl, append_assoc, length-drop, arith}
use Rattle.std.proofs.Math.Seq.{take-add, take-append-add, take-length}
use Rattle.std.proofs.lemmas.List.{append-nil, length-append, take-append-le, take_all, take_min}
use Rattle.outside.specs.Outside.{AppendsFirst}
use Rattle.covisor_proxy.specs.Written.{Appends, AppendsShort, AppendsSome}

-- before the first write
pub appends_none : (a : Option (List ℕ)) → Appends a a []
appends_none None = refl
appends_none (Some held) = ap Some (sym (append-nil held))

-- what is left of a piece, as it is lent
rest_is : (xs : List ℕ) (k : ℕ) → take (length xs - k) (drop k xs) ≡ drop k xs
rest_is xs k = take_all (length xs - k) (drop k xs) (omega (arith, length-drop k xs))

-- a write of the first n of what is left
pub appends-more : (a b c : Option (List ℕ)) (xs : List ℕ) (k n : ℕ) → Appends a b (take k xs)
    → AppendsFirst b c n (take (length xs - k) (drop k xs)) → Appends a c (take (k + n) xs)
appends-more None b c xs k n e f = subst (λ z. AppendsFirst z c n (take (length xs - k) (drop k xs))) e f
appends-more (Some held) b c xs k n e f =
    let g : c ≡ Some ((held ++ take k xs) ++ take n (take (length xs - k) (drop k xs))) =
    subst (λ z. AppendsFirst z c n (take (length xs - k) (drop k xs))) e f in
    g ∙ ap Some (append_assoc held (take k xs) (take n (take (length xs - k) (drop k xs)))
    ∙ ap (λ z. held ++ z) (ap (λ z. take k xs ++ take n z) (rest_is xs k) ∙ sym (take-add k n xs)))

-- all is written
pub appends-all : (a b : Option (List ℕ)) (xs : List ℕ) (k : ℕ) → length xs ≤ k → Appends a b (take k xs)
    → Appends a b xs
appends-all a b xs k most e = subst (Appends a b) (take_all k xs most) e

-- bytes, and then others
pub appends_both : (a b c : Option (List ℕ)) (xs ys : List ℕ) → Appends a b xs → Appends b c ys → Appends a c (xs ++ ys)
appends_both None b c xs ys e f = subst (λ z. Appends z c ys) e f
appends_both (Some held) b c xs ys e f =
    let g : c ≡ Some ((held ++ xs) ++ ys) = subst (λ z. Appends z c ys) e f in
    g ∙ ap Some (append_assoc held xs ys)

-- bytes, and then the first of others
pub some_after : (a b c : Option (List ℕ)) (xs ys : List ℕ) → Appends a b xs → AppendsSome b c ys
    → AppendsSome a c (xs ++ ys)
some_after a b c xs ys e f =
    (length xs + f.0, subst (Appends a c) (sym (take-append-add xs ys f.0)) (appends_both a b c xs (take f.0 ys) e f.1))

-- none, or all, are the first bytes too
pub some_none : (a : Option (List ℕ)) (xs : List ℕ) → AppendsSome a a xs
some_none a xs = (0, appends_none a)

pub some_all : (a b : Option (List ℕ)) (xs : List ℕ) → Appends a b xs → AppendsSome a b xs
some_all a b xs e = (length xs, subst (Appends a b) (sym (take-length xs)) e)

-- the first bytes are those of more bytes
pub some_more : (a b : Option (List ℕ)) (xs ys : List ℕ) → AppendsSome a b xs → AppendsSome a b (xs ++ ys)
some_more a b xs ys e =
    let short : min e.0 (length xs) ≤ length xs = omega arith in (
      min e.0 (length xs),
      subst (Appends a b) (sym (take-append-le (min e.0 (length xs)) xs ys short ∙ take_min e.0 xs))
          e.1,
    )

-- ---- not all

-- where a write behind the first bytes failed
pub short_kept : (a b c : Option (List ℕ)) (xs : List ℕ) (k : ℕ) → k < length xs → Appends a b (take k xs) → c ≡ b
    → AppendsShort a c xs
short_kept a b c xs k less e same = (k, less, subst (λ z. Appends a z (take k xs)) (sym same) e)

pub short_some : (a b : Option (List ℕ)) (xs : List ℕ) → AppendsShort a b xs → AppendsSome a b xs
short_some a b xs e = (e.0, e.2)

-- bytes, and then not all of others
pub short_after : (a b c : Option (List ℕ)) (xs ys : List ℕ) → Appends a b xs → AppendsShort b c ys
    → AppendsShort a c (xs ++ ys)
short_after a b c xs ys e f = (
  length xs + f.0,
  omega (arith, f.1, length-append xs ys),
  subst (Appends a c) (sym (take-append-add xs ys f.0)) (appends_both a b c xs (take f.0 ys) e f.2),
)

-- not all of bytes is not all of more
pub short_more : (a b : Option (List ℕ)) (xs ys : List ℕ) → AppendsShort a b xs → AppendsShort a b (xs ++ ys)
short_more a b xs ys e =
    let short : e.0 ≤ length xs = omega (arith, e.1) in (
      e.0,
      omega (arith, e.1, length-append xs ys),
      subst (Appends a b) (sym (take-append-le e.0 xs ys short)) e.2,
    )
