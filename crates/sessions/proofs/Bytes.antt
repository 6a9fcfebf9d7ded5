-- Bytes that are read and written piece by piece.
use Rattle.std.proofs.Common.{◌≡◌, ◌≤◌, ◌+◌, ◌-◌, ℕ, List, [], ◌∷◌, ◌++◌, Option, Some, None, length, take, drop, refl}
use Rattle.std.proofs.Common.{sym, ap, subst, ◌∙◌, append_assoc, arith, length-drop}
use Rattle.std.specs.Prelude.{Bool, Result, Ok, Err, IfErr, OnErr, OnOk, true, false}
use Rattle.std.specs.Result.{is_err}
use Rattle.std.proofs.Math.Seq.{take-add, take-append-add}
use Rattle.std.proofs.lemmas.List.{append-nil, take_all, take-append-drop}
use Rattle.std.proofs.lemmas.List.Concat.{flat_map-append}
use Rattle.outside.specs.Outside.{AppendsFirst, Rose, TakesNext}
use Rattle.of10_frames.specs.Frames.{BeginsWithFrame, IsShort}
use Rattle.of10_frames.specs.Wire.{length_field}
use Rattle.of10_frames.proofs.Fronts.{length_field-append}
use Rattle.sessions.specs.Streams.{Appends, AppendsSome, Reads, SinkFailed, SourceFailed, joined}

-- before the first read
pub reads-none : (a : Option (List ℕ)) → Reads a a []
reads-none None = refl
reads-none (Some left) = (left, refl, refl)

-- reads one after the other
pub reads-more : (a b c : Option (List ℕ)) (xs ys : List ℕ) → Reads a b xs → Reads b c ys → Reads a c (xs ++ ys)
reads-more None b c xs ys p q = subst (λ z. Reads z c ys) p q
reads-more (Some left) b c xs ys p q =
    let r : Reads (Some p.0) c ys = subst (λ z. Reads z c ys) p.2 q in
    (r.0, p.1 ∙ (ap (λ z. xs ++ z) r.1 ∙ sym (append_assoc xs ys r.0)), r.2)

-- one read of the next n
pub reads-one : (a b : Option (List ℕ)) (n : ℕ) (into : List ℕ) → TakesNext a b n into → Reads a b (take n into)
reads-one None b n into p = p
reads-one (Some left) b n into p = (
  drop n left,
  sym (take-append-drop n left)
      ∙ ap (λ z. z ++ drop n left) (sym p.0),
  p.1,
)

-- nothing was read
pub reads-same : (a b : Option (List ℕ)) → b ≡ a → Reads a b []
reads-same a b e = subst (λ z. Reads a z []) (sym e) (reads-none a)

-- before the first write
pub appends-none : (a : Option (List ℕ)) → Appends a a []
appends-none None = refl
appends-none (Some held) = ap Some (sym (append-nil held))

-- what is left of a piece, as it is lent
rest_is : (xs : List ℕ) (k : ℕ) → take (length xs - k) (drop k xs) ≡ drop k xs
rest_is xs k = take_all (length xs - k) (drop k xs) (omega (arith, length-drop k xs))

-- a write of the first n of what is left
pub appends-first : (a b c : Option (List ℕ)) (xs : List ℕ) (k n : ℕ) → Appends a b (take k xs)
    → AppendsFirst b c n (take (length xs - k) (drop k xs)) → Appends a c (take (k + n) xs)
appends-first None b c xs k n e f = subst (λ z. AppendsFirst z c n (take (length xs - k) (drop k xs))) e f
appends-first (Some held) b c xs k n e f =
    let g : c ≡ Some ((held ++ take k xs) ++ take n (take (length xs - k) (drop k xs))) =
    subst (λ z. AppendsFirst z c n (take (length xs - k) (drop k xs))) e f in
    g ∙ ap Some (append_assoc held (take k xs) (take n (take (length xs - k) (drop k xs)))
    ∙ ap (λ z. held ++ z) (ap (λ z. take k xs ++ take n z) (rest_is xs k) ∙ sym (take-add k n xs)))

-- all is written
pub appends-all : (a b : Option (List ℕ)) (xs : List ℕ) (k : ℕ) → length xs ≤ k → Appends a b (take k xs)
    → Appends a b xs
appends-all a b xs k most e = subst (Appends a b) (take_all k xs most) e

-- some of the first are written, and a write of more failed
pub appends-some : (a b c : Option (List ℕ)) (xs : List ℕ) (k : ℕ) → Appends a b (take k xs) → c ≡ b
    → AppendsSome a c xs
appends-some a b c xs k p e = (k, subst (λ z. Appends a z (take k xs)) (sym e) p)

-- pieces one after the other
pub appends-more : (a b c : Option (List ℕ)) (xs ys : List ℕ) → Appends a b xs → Appends b c ys → Appends a c (xs ++ ys)
appends-more None b c xs ys p q = subst (λ z. Appends z c ys) p q
appends-more (Some held) b c xs ys p q =
    let r : c ≡ Some ((held ++ xs) ++ ys) = subst (λ z. Appends z c ys) p q in
    r ∙ ap Some (append_assoc held xs ys)

-- a piece, and some of the first bytes of the next
pub appends-part : (a b c : Option (List ℕ)) (xs ys : List ℕ) → Appends a b xs → AppendsSome b c ys
    → AppendsSome a c (xs ++ ys)
appends-part a b c xs ys p q =
    (length xs + q.0, subst (Appends a c) (sym (take-append-add xs ys q.0)) (appends-more a b c xs (take q.0 ys) p q.1))

-- one more part
pub joined-more : (parts : List (List ℕ)) (part rest : List ℕ)
    → joined parts ++ (part ++ rest) ≡ joined (parts ++ part ∷ []) ++ rest
joined-more parts part rest =
    sym (append_assoc (joined parts) part rest)
    ∙ ap (λ z. z ++ rest) (ap (λ z. joined parts ++ z) (sym (append-nil part))
    ∙ sym (flat_map-append (λ (x : List ℕ). x) parts (part ∷ [])))

-- what shows a short length begins with no frame
pub short-begins : (bytes : List ℕ) → IsShort bytes → BeginsWithFrame bytes → ⊥
short-begins bytes s b =
    let same : length_field bytes ≡ length_field b.0 = ap length_field b.3
    ∙ length_field-append b.0 b.1 (omega (arith, b.2.header)) in
    absurd (omega (arith, s.1, b.2.header, b.2.whole, same))

-- a fact holds whether a call failed or not
pub in_any_case : {T E P : Type 0} (r : Result T E) → P → OnErr r P
in_any_case (Ok x) p = tt
in_any_case (Err e) p = p

-- what holds after a failure, where there was one
pub after-err : {T E P : Type 0} (r : Result T E) → is_err r ≡ true → OnErr r P → P
after-err (Ok x) e p = absurd (cc)
after-err (Err d) e p = p

-- what holds after a success, where there was one
pub after-ok : {T E P : Type 0} (r : Result T E) → is_err r ≡ false → OnOk r P → P
after-ok (Ok x) e p = p
after-ok (Err d) e p = absurd (cc)

-- the counts are those as it began
pub sink-failed : (f m g w x v : ℕ) (s t : Bool) → m ≡ f → x ≡ w → t ≡ s → SinkFailed m g x v t → SinkFailed f g w v s
sink-failed f m g w x v s t p q r h = record {
  rose = subst (λ z. Rose z g) p h.rose;
  want = λ is. subst (λ z. Rose z v) q (h.want (r ∙ is));
}

pub source-failed : (kept : List ℕ) (f m g : ℕ) (w v : Bool) → m ≡ f → v ≡ w → SourceFailed kept m g v
    → SourceFailed kept f g w
source-failed kept f m g w v p q h = record {
  unfinished = h.unfinished;
  rose = subst (λ z. Rose z g) p h.rose;
  unreliable = sym q ∙ h.unreliable;
}

-- a failure says no less
pub if-err-weaker : {T E : Type 0} (r : Result T E) (P Q : E → Type 0) → ((e : E) → P e → Q e) → IfErr r P → IfErr r Q
if-err-weaker (Ok x) P Q f h = tt
if-err-weaker (Err e) P Q f h = f e h
