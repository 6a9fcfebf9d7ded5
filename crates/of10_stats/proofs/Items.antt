-- Items that are read one after the other, each at the front of what is left.
use Rattle.std.proofs.Common.{◌≡◌, ℕ, zero, suc, ◌+◌, ◌-◌, ◌<◌, ◌≤◌, List, [], ◌∷◌, ◌++◌, length, take, drop, Option}
use Rattle.std.proofs.Common.{Some, None, refl, sym, ap, subst, ◌∙◌, append_assoc, drop-drop, arith}
use Rattle.std.specs.List.{AllByRecursion}
use Rattle.std.proofs.lemmas.List.{append-nil, drop_at, drop_all, length-append, length-drop, take-append-drop}
use Rattle.of10_actions.specs.Spelling.{IsBytes}
use Rattle.of10_actions.proofs.Digits.{IsBytes-drop}
use Rattle.of10_stats.specs.Reading.{◌>>=◌, items_at}
use Rattle.of10_stats.specs.Spelling.{SpellsEach}

-- items that were read before, and what is still read
abbrev pub with_front : {A : Type 0} → List A → Option (List A) → Option (List A)
with_front front read = read >>= λ items. Some (front ++ items)

with_front-with_front : {A : Type 0} (front : List A) (a : A) (read : Option (List A))
    → with_front front (with_front (a ∷ []) read) ≡ with_front (front ++ a ∷ []) read
with_front-with_front {A} front a (Some list) = ap (λ (xs : List A). Some xs) (sym (append_assoc front (a ∷ []) list))
with_front-with_front front a None = refl

-- ---- bytes that are passed over

passes : {A : Type 0} (read : List ℕ → Option A) (size : A → ℕ) (n : ℕ) (bytes : List ℕ)
    → items_at read size n bytes ≡ items_at read size 0 (drop n bytes)
unfolding items_at
passes read size zero bytes = refl
passes read size (suc n) [] = refl
passes read size (suc n) (byte ∷ bytes) = passes read size n bytes

passes_item : {A : Type 0} (read : List ℕ → Option A) (size : A → ℕ) (n byte : ℕ) (bytes : List ℕ) → 0 < n
    → items_at read size (n - 1) bytes ≡ items_at read size 0 (drop n (byte ∷ bytes))
passes_item read size n byte bytes some =
    let next : n ≡ suc (n - 1) = omega arith in
    passes read size (n - 1) bytes ∙ ap (λ (k : ℕ). items_at read size 0 (drop k (byte ∷ bytes))) (sym next)

-- one item, and then the others
pub reads_on : {A : Type 0} (read : List ℕ → Option A) (size : A → ℕ) (bytes : List ℕ) (a : A) → 0 < length bytes
    → 0 < size a → read bytes ≡ Some a →
    items_at read size 0 bytes ≡ with_front (a ∷ []) (items_at read size 0 (drop (size a) bytes))
unfolding items_at
reads_on read size [] a some more found = absurd (omega (arith, some))
reads_on {A} read size (byte ∷ bytes) a some more found =
    ap (λ (r : Option A). r >>= λ item. items_at read size (size item - 1) bytes >>= λ items. Some (item ∷ items)) found
    ∙ ap (with_front (a ∷ [])) (passes_item read size (size a) byte bytes more)

-- an item that can't be read
pub reads_none : {A : Type 0} (read : List ℕ → Option A) (size : A → ℕ) (bytes : List ℕ) → 0 < length bytes
    → read bytes ≡ None → items_at read size 0 bytes ≡ None
unfolding items_at
reads_none read size [] some found = absurd (omega (arith, some))
reads_none {A} read size (byte ∷ bytes) some found =
    ap (λ (r : Option A). r >>= λ item. items_at read size (size item - 1) bytes >>= λ items. Some (item ∷ items)) found

pub reads_end : {A : Type 0} (read : List ℕ → Option A) (size : A → ℕ) → items_at read size 0 [] ≡ Some []
unfolding items_at
reads_end read size = refl

-- ---- the loop that reads

pub goes_on : {A : Type 0} (read : List ℕ → Option A) (size : A
    → ℕ) (front : List A) (bytes : List ℕ) (at : ℕ) (a : A) (whole : Option (List A)) → at < length bytes → 0 < size a
    → read (drop at bytes) ≡ Some a →
    with_front front (items_at read size 0 (drop at bytes)) ≡ whole
    → with_front (front ++ a ∷ []) (items_at read size 0 (drop (at + size a) bytes)) ≡ whole
goes_on read size front bytes at a whole lt more found so_far =
    let one = reads_on read size (drop at bytes) a (omega (arith, length-drop at bytes)) more found in
    ap (λ (left : List ℕ). with_front (front ++ a ∷ []) (items_at read size 0 left)) (sym (drop-drop (size a) at bytes))
    ∙ (sym (with_front-with_front front a (items_at read size 0 (drop (size a) (drop at bytes))))
    ∙ ap (with_front front) (sym one) ∙ so_far)

pub fails : {A : Type 0} (read : List ℕ → Option A) (size : A
    → ℕ) (front : List A) (bytes : List ℕ) (at : ℕ) (whole : Option (List A)) → at < length bytes
    → read (drop at bytes) ≡ None →
    with_front front (items_at read size 0 (drop at bytes)) ≡ whole → None ≡ whole
fails read size front bytes at whole lt found so_far =
    ap (with_front front) (sym (reads_none read size (drop at bytes) (omega (arith, length-drop at bytes)) found))
    ∙ so_far

pub is_done : {A : Type 0} (read : List ℕ → Option A) (size : A
    → ℕ) (front : List A) (bytes : List ℕ) (at : ℕ) (whole : Option (List A)) → length bytes ≤ at →
    with_front front (items_at read size 0 (drop at bytes)) ≡ whole → Some front ≡ whole
is_done {A} read size front bytes at whole over so_far =
    let ended : with_front front (items_at read size 0 (drop at bytes)) ≡ Some (front ++ []) =
    ap (with_front front) (ap (items_at read size 0) (drop_all at bytes over) ∙ reads_end read size) in
    ap (λ (xs : List A). Some xs) (sym (append-nil front)) ∙ sym ended ∙ so_far

-- ---- what is read is spelled so

some_is : {A : Type 0} (x y : A) → Some x ≡ Some y → x ≡ y
some_is x y e = cc

bind_some : {A B : Type 0} (r : Option A) (f : A → Option B) (y : B) → (r >>= f) ≡ Some y
    → (x : A) × (r ≡ Some x) × (f x ≡ Some y)
bind_some (Some x) f y e = (x, refl, e)
bind_some None f y e = absurd cc

-- what is known of an item that was read at the front of bytes
pub record IsItem {A : Type 0} (size : A → ℕ) (S : A → List ℕ → Type 0) (P : A
    → Type 0) (bytes : List ℕ) (a : A) : Type 0 where
  pub some : 0 < size a
  pub within : size a ≤ length bytes
  pub spells : S a (take (size a) bytes)
  pub good : P a

items_found : {A : Type 0} (read : List ℕ → Option A) (size : A → ℕ) (S : A → List ℕ → Type 0) (P : A
    → Type 0) (found : (bytes : List ℕ) (a : A) → IsBytes bytes → read bytes ≡ Some a → IsItem size S P bytes a)
    (n : ℕ) (bytes : List ℕ) (list : List A) → length bytes ≤ n → IsBytes bytes → items_at read size 0 bytes ≡ Some list
    → SpellsEach S list bytes × AllByRecursion P list
unfolding items_at
items_found {A} read size S P found n [] list le fits e =
    subst (λ (xs : List A). SpellsEach S xs [] × AllByRecursion P xs) (some_is [] list e) (refl, tt)
items_found read size S P found zero (byte ∷ bytes) list le fits e = absurd (omega (arith, le))
items_found {A} read size S P found (suc n) (byte ∷ bytes) list le fits e =
    let p = bind_some (read (byte ∷ bytes))
    (λ item. items_at read size (size item - 1) bytes >>= λ items. Some (item ∷ items)) list e in
    let a = p.0 in
    let q = bind_some (items_at read size (size a - 1) bytes) (λ items. Some (a ∷ items)) list p.2 in
    let first = found (byte ∷ bytes) a fits p.1 in
    let others : items_at read size 0 (drop (size a) (byte ∷ bytes)) ≡ Some q.0 =
    sym (passes_item read size (size a) byte bytes first.some) ∙ q.1 in
    let shorter : length (drop (size a) (byte ∷ bytes)) ≤ n =
    omega (arith, le, length-drop (size a) (byte ∷ bytes), first.some) in
    let rest = items_found read size S P found n (drop (size a) (byte ∷ bytes)) q.0 shorter
    (IsBytes-drop (size a) (byte ∷ bytes) fits) others in
    subst (λ (xs : List A). SpellsEach S xs (byte ∷ bytes) × AllByRecursion P xs) (some_is (a ∷ q.0) list q.2) (
      (
        take (size a) (byte ∷ bytes),
        drop (size a) (byte ∷ bytes),
        sym (take-append-drop (size a) (byte ∷ bytes)),
        first.spells,
        rest.0,
      ),
      (first.good, rest.1),
    )

pub are_spelled : {A : Type 0} (read : List ℕ → Option A) (size : A → ℕ) (S : A → List ℕ → Type 0) (P : A
    → Type 0) (found : (bytes : List ℕ) (a : A) → IsBytes bytes → read bytes ≡ Some a → IsItem size S P bytes a)
    (bytes : List ℕ) (list : List A) → IsBytes bytes → items_at read size 0 bytes ≡ Some list
    → SpellsEach S list bytes × AllByRecursion P list
are_spelled read size S P found bytes list fits e =
    items_found read size S P found (length bytes) bytes list (omega arith) fits e

-- ---- what is spelled so is read

-- bytes that stand for an item are read as it, whatever follows
pub record IsRead {A : Type 0} (read : List ℕ → Option A) (size : A → ℕ) (a : A) (front : List ℕ) : Type 0 where
  pub some : 0 < size a
  pub long : length front ≡ size a
  pub reads : (back : List ℕ) → read (front ++ back) ≡ Some a

pub are_read : {A : Type 0} (read : List ℕ → Option A) (size : A → ℕ) (S : A → List ℕ → Type 0) (P : A
    → Type 0) (again : (a : A) (front : List ℕ) → P a → S a front → IsRead read size a front)
    (list : List A) (bytes : List ℕ) → AllByRecursion P list → SpellsEach S list bytes
    → items_at read size 0 bytes ≡ Some list
are_read read size S P again [] bytes good spells = ap (items_at read size 0) spells ∙ reads_end read size
are_read read size S P again (a ∷ list) bytes good spells =
    let front = spells.0 in
    let back = spells.1 in
    let item = again a front good.0 spells.3 in
    let some : 0 < length (front ++ back) = omega (arith, length-append front back, item.long, item.some) in
    let one = reads_on read size (front ++ back) a some item.some (item.reads back) in
    let rest = ap (items_at read size 0) (drop_at front back (size a) item.long)
    ∙ are_read read size S P again list back good.1 spells.4 in
    ap (items_at read size 0) spells.2 ∙ (one ∙ ap (with_front (a ∷ [])) rest)
