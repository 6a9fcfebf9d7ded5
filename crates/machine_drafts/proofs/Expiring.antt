-- Members whose entries expire one after the other, by their numbers.
use Rattle.std.proofs.Common.{◌≡◌, ◌∙◌, ℕ, zero, suc, ◌+◌, ◌<◌, ◌≤◌, List, [], ◌∷◌, ◌++◌, drop, get_or, length, map}
use Rattle.std.proofs.Common.{Option, Some, refl, sym, ap, append-nil, append_assoc, arith}
use Rattle.std.specs.Prelude.{filter, flat_map, slice_get}
use Rattle.std.proofs.lemmas.List.{drop_all}
use Rattle.std.specs.List.{AllByRecursion, enumerate_from}
use Rattle.std.specs.Option.{option_map_or}
use Rattle.member_state.specs.Changes.{is_told}
use Rattle.member_table.specs.declared.entry.Entry.{Entry}
use Rattle.machine_drafts.specs.InsideTicking.{AreFresh, owed_at}
use Rattle.machine_meaning.specs.Lists.{changed_at}
use Rattle.machine_drafts.specs.MemberDrafts.{IsUnplanned, MemberDraftOf}
use Rattle.machine_drafts.specs.Outcomes.{member_bases, members_in, moments_of}
use Rattle.machine_meaning.specs.Removing.{due_in, owed_for}
use Rattle.machine_meaning.specs.States.{MemberOf}
use Rattle.machine_drafts.specs.Views.{member_of}
use Rattle.machine_drafts.specs.declared.session.Member.{Member}
use Rattle.machine_meaning.specs.declared.state.Owed.{Owed}
use Rattle.machine_meaning.proofs.Places.{slice_get-there}

-- the list where the first items are changed
abbrev pub first_changed : {A : Type 0} → ℕ → (A → A) → List A → List A
first_changed n f [] = []
first_changed zero f (x ∷ xs) = x ∷ xs
first_changed (suc n) f (x ∷ xs) = f x ∷ first_changed n f xs

pub none_first : {A : Type 0} (f : A → A) (xs : List A) → xs ≡ first_changed 0 f xs
none_first f [] = refl
none_first f (x ∷ xs) = refl

pub all_first : {A : Type 0} (f : A → A) (n : ℕ) (xs : List A) → length xs ≤ n → first_changed n f xs ≡ map f xs
all_first f n [] h = refl
all_first f zero (x ∷ xs) h = absurd (omega arith)
all_first f (suc n) (x ∷ xs) h = ap (λ ys. f x ∷ ys) (all_first f n xs (omega arith))

-- one more is changed
one_first : {A : Type 0} (f : A → A) (n : ℕ) (xs : List A)
    → changed_at n f (first_changed n f xs) ≡ first_changed (suc n) f xs
one_first f n [] = refl
one_first f zero (x ∷ []) = refl
one_first f zero (x ∷ y ∷ xs) = refl
one_first f (suc n) (x ∷ xs) = ap (λ ys. f x ∷ ys) (one_first f n xs)

pub more_first : {A : Type 0} (f : A → A) (n : ℕ) (xs ys zs : List A) → ys ≡ first_changed n f xs
    → zs ≡ changed_at n f ys → zs ≡ first_changed (n + 1) f xs
more_first f n xs ys zs e h =
    let more : suc n ≡ n + 1 = omega arith in
    h ∙ (ap (changed_at n f) e ∙ (one_first f n xs ∙ ap (λ k. first_changed k f xs) more))

-- the next one isn't changed yet
pub next_same : {A : Type 0} (f : A → A) (n : ℕ) (xs : List A) → slice_get (first_changed n f xs) n ≡ slice_get xs n
next_same f n [] = refl
next_same f zero (x ∷ xs) = refl
next_same f (suc n) (x ∷ xs) = next_same f n xs

-- what stands at a place of a list that is mapped
pub mapped_at : {A B : Type 0} (f : A → B) (xs : List A) (n : ℕ) (x : A) → slice_get xs n ≡ Some x
    → slice_get (map f xs) n ≡ Some (f x)
mapped_at f [] n x e = absurd (cc)
mapped_at f (y ∷ ys) zero x e = let p : y ≡ x = cc in ap (λ z. Some (f z)) p
mapped_at f (y ∷ ys) (suc n) x e = mapped_at f ys n x e

-- nothing is planned yet for the next member
pub next_unplanned : (f : MemberOf → MemberOf) (n : ℕ) (old new : List MemberDraftOf) (x : MemberDraftOf)
    → AreFresh old → members_in new ≡ first_changed n f (members_in old) → member_bases new ≡ member_bases old
    → slice_get new n ≡ Some x → IsUnplanned x
next_unplanned f n old new x fresh now bases e =
    let there : slice_get (members_in new) n ≡ Some x.now = mapped_at (λ (m : MemberDraftOf). m.now) new n x e in
    let based : slice_get (member_bases new) n ≡ Some x.base = mapped_at (λ (m : MemberDraftOf). m.base) new n x e in
    let stood : slice_get (map member_of (member_bases new)) n ≡ Some (member_of x.base) =
    mapped_at member_of (member_bases new) n x.base based in
    let began : slice_get (members_in new) n ≡ slice_get (map member_of (member_bases new)) n =
    ap (λ (ms : List MemberOf). slice_get ms n) now
    ∙ (next_same f n (members_in old)
    ∙ (ap (λ (ms : List MemberOf). slice_get ms n) fresh
    ∙ ap (λ (bs : List Member). slice_get (map member_of bs) n) (sym bases))) in
    let same : x.now ≡ member_of x.base = cc in
    ap (λ (m : MemberOf). m.kept) same

-- its draft is of the moment
pub at_moment : (n now : ℕ) (ms : List MemberDraftOf) (x : MemberDraftOf)
    → AllByRecursion (λ moment. moment ≡ now) (moments_of ms) → slice_get ms n ≡ Some x → x.moment ≡ now
at_moment n now [] x h e = absurd (cc)
at_moment zero now (y ∷ ys) x h e = let p : y ≡ x = cc in ap (λ (m : MemberDraftOf). m.moment) (sym p) ∙ h.0
at_moment (suc n) now (y ∷ ys) x h e = at_moment n now ys x h.1 e

-- what is told of the next one, and of those behind it
told_next : {A B : Type 0} (f : ℕ × A → List B) (k n : ℕ) (xs : List A)
    → flat_map f (enumerate_from k (drop n xs))
    ≡ option_map_or (λ x. f (k, x)) (slice_get xs n) [] ++ flat_map f (enumerate_from (k + 1) (drop (suc n) xs))
told_next f k zero [] = refl
told_next f k zero (x ∷ xs) = refl
told_next f k (suc n) [] = refl
told_next f k (suc n) (x ∷ xs) = told_next f k n xs

pub more_told : {A B : Type 0} (f : ℕ × A → List B) (n : ℕ) (xs : List A) (old new all : List B)
    → new ≡ old ++ option_map_or (λ x. f (n, x)) (slice_get xs n) []
    → old ++ flat_map f (enumerate_from n (drop n xs)) ≡ all
    → new ++ flat_map f (enumerate_from (n + 1) (drop (n + 1) xs)) ≡ all
more_told f n xs old new all e h =
    let more : suc n ≡ n + 1 = omega arith in
    let one = option_map_or (λ x. f (n, x)) (slice_get xs n) [] in
    let rest = flat_map f (enumerate_from (n + 1) (drop (suc n) xs)) in
    ap (λ k. new ++ flat_map f (enumerate_from (n + 1) (drop k xs))) (sym more)
    ∙ (ap (λ ys. ys ++ rest) e
    ∙ (append_assoc old one rest ∙ (ap (λ ys. old ++ ys) (sym (told_next f n n xs)) ∙ h)))

pub none_told : {A B : Type 0} (f : ℕ × A → List B) (n : ℕ) (xs : List A) (new all : List B) → length xs ≤ n
    → new ++ flat_map f (enumerate_from n (drop n xs)) ≡ all → new ≡ all
none_told f n xs new all h e =
    sym (append-nil new) ∙ (ap (λ ys. new ++ flat_map f (enumerate_from n ys)) (sym (drop_all n xs h)) ∙ e)

-- the item that stands at a place
pub stands_there : {A : Type 0} (xs : List A) (n : ℕ) (x : A) → n < length xs → x ≡ get_or xs n x
    → slice_get xs n ≡ Some x
stands_there xs n x h e = slice_get-there xs n x h ∙ ap (λ y. Some y) (sym e)

-- what is owed for the member of a number
pub owed_there : (now n : ℕ) (ms : List MemberDraftOf) (x : MemberDraftOf) (told : List Entry) (old new : List Owed)
    → slice_get ms n ≡ Some x → x.moment ≡ now → told ≡ filter is_told (due_in x.moment x.now)
    → new ≡ old ++ map (λ (e : Entry). record { member = n; entry = e; reason = 1; moment = now }) told
    → new ≡ old ++ owed_at now n (members_in ms)
owed_there now n ms x told old new there moment is e =
    let at : slice_get (members_in ms) n ≡ Some x.now = mapped_at (λ (m : MemberDraftOf). m.now) ms n x there in
    let as_owed = λ (es : List Entry).
    old ++ map (λ (e : Entry). record { member = n; entry = e; reason = 1; moment = now }) es in
    e ∙ (ap as_owed (is ∙ ap (λ (k : ℕ). filter is_told (due_in k x.now)) moment)
    ∙ ap (λ (o : Option MemberOf). old ++ option_map_or (λ (m : MemberOf). owed_for now (n, m)) o []) (sym at))

-- what is owed for the next one is what it was before others expired
pub owed_same : (now n : ℕ) (f : MemberOf → MemberOf) (old new : List MemberOf) → new ≡ first_changed n f old
    → owed_at now n new ≡ owed_at now n old
owed_same now n f old new e =
    ap (λ (o : Option MemberOf). option_map_or (λ (m : MemberOf). owed_for now (n, m)) o [])
    (ap (λ (ms : List MemberOf). slice_get ms n) e ∙ next_same f n old)
