-- Lists of actions, read from left to right.
use Rattle.std.proofs.Common.{◌≡◌, ℕ, zero, suc, ◌+◌, ◌-◌, ◌<◌, ◌≤◌, List, [], ◌∷◌, ◌++◌, length, take, drop, Result}
use Rattle.std.proofs.Common.{Ok, Err, refl, sym, ap, subst, ◌∙◌, append_assoc, add-zero, drop-drop, arith}
use Rattle.std.specs.List.{AllByRecursion}
use Rattle.std.specs.Prelude.{replicate}
use Rattle.std.proofs.lemmas.List.{append-nil, drop_at, drop_all, take_all, length-append, length-drop}
use Rattle.std.proofs.lemmas.List.{take-append-drop}
use Rattle.std.proofs.lemmas.List.Elements.{All-from_recursion, recursion_from_All}
use Rattle.std.proofs.lemmas.List.Concat.{flat_map-cons}
use Rattle.of10_actions.specs.declared.action.Action.{Action}
use Rattle.of10_actions.specs.declared.fault.ActionFault.{ActionFault}
use Rattle.of10_actions.specs.declared.fault.ActionFault.TheVariants as faults
use Rattle.of10_actions.specs.declared.kind.Kind.{Kind}
use Rattle.of10_actions.specs.Actions.{IsInRange, FitsTypes, AreActions}
use Rattle.of10_actions.specs.Kinds.{length_of, type_of}
use Rattle.of10_actions.specs.Reading.{◌>>=◌, action_at, actions_at, reading, Gives}
use Rattle.of10_actions.specs.Spelling.{IsBytes, Spells, SpellsList, spelling, spellings, padding}
use Rattle.of10_actions.proofs.Digits.{IsBytes-drop}
use Rattle.of10_actions.proofs.Decoding.{IsFound, action_found, action_long}
use Rattle.of10_actions.proofs.Encoding.{length_of-le, reads_spelled, spells_length}

-- how many bytes an action has
abbrev pub span : Action → ℕ
span action = length_of (type_of action)

-- actions that were read before, and what is still read
abbrev pub with_front : List Action → Result (List Action) ActionFault → Result (List Action) ActionFault
with_front front read = read >>= λ list. Ok (front ++ list)

with_front-with_front : (front : List Action) (a : Action) (read : Result (List Action) ActionFault)
    → with_front front (with_front (a ∷ []) read) ≡ with_front (front ++ a ∷ []) read
with_front-with_front front a (Ok list) = ap (λ (xs : List Action). Ok xs) (sym (append_assoc front (a ∷ []) list))
with_front-with_front front a (Err fault) = refl

-- the value of a step that did not fail
bind_ok : {A B : Type 0} (r : Result A ActionFault) (f : A → Result B ActionFault) (y : B) → (r >>= f) ≡ Ok y
    → (x : A) × (r ≡ Ok x) × (f x ≡ Ok y)
bind_ok (Ok x) f y e = (x, refl, e)
bind_ok (Err d) f y e = absurd cc

abbrev done : List Action → Result (List Action) ActionFault
done list = Ok list

ok_is : (xs ys : List Action) → done xs ≡ done ys → xs ≡ ys
ok_is xs ys e = cc

-- ---- bytes that are passed over

passes : (n at : ℕ) (bytes : List ℕ) → actions_at n at bytes ≡ actions_at 0 (at + n) (drop n bytes)
unfolding actions_at
passes zero at bytes = rw add-zero refl
passes (suc n) at [] = refl
passes (suc n) at (byte ∷ bytes) =
    let k : at + 1 + n ≡ at + suc n = omega arith in
    passes n (at + 1) bytes ∙ ap (λ (place : ℕ). actions_at 0 place (drop n bytes)) k

passes_action : (k : Kind) (at byte : ℕ) (bytes : List ℕ)
    → actions_at (length_of k - 1) (at + 1) bytes ≡ actions_at 0 (at + length_of k) (drop (length_of k) (byte ∷ bytes))
passes_action k at byte bytes =
    let m = length_of k - 1 in
    let next : length_of k ≡ suc m = omega (arith, length_of-le k) in
    let place : at + 1 + m ≡ at + length_of k = omega (arith, length_of-le k) in
    passes m (at + 1) bytes ∙ ap (λ (p : ℕ). actions_at 0 p (drop m bytes)) place
    ∙ ap (λ (n : ℕ). actions_at 0 (at + length_of k) (drop n (byte ∷ bytes))) (sym next)

-- one action, and then the others
pub reads_on : (at : ℕ) (bytes : List ℕ) (a : Action) → 0 < length bytes → action_at at bytes ≡ Ok a
    → actions_at 0 at bytes ≡ with_front (a ∷ []) (actions_at 0 (at + span a) (drop (span a) bytes))
unfolding actions_at
reads_on at [] a some read = absurd (omega (arith, some))
reads_on at (byte ∷ bytes) a some read =
    ap (λ (r : Result Action ActionFault). r >>= λ action. actions_at (span action - 1) (at + 1) bytes >>= λ list. Ok
    (action ∷ list)) read
    ∙ ap (with_front (a ∷ [])) (passes_action (type_of a) at byte bytes)

-- a fault
pub reads_fault : (at : ℕ) (bytes : List ℕ) (fault : ActionFault) → 0 < length bytes → action_at at bytes ≡ Err fault
    → actions_at 0 at bytes ≡ Err fault
unfolding actions_at
reads_fault at [] fault some read = absurd (omega (arith, some))
reads_fault at (byte ∷ bytes) fault some read =
    ap (λ (r : Result Action ActionFault). r >>= λ action. actions_at (span action - 1) (at + 1) bytes >>= λ list. Ok
    (action ∷ list)) read

pub reads_end : (at : ℕ) → actions_at 0 at [] ≡ Ok []
unfolding actions_at
reads_end at = refl

-- ---- the loop that reads

-- what a slice from a place on is
pub tail_slice : (bytes : List ℕ) (at : ℕ) → take (length bytes - at) (drop at bytes) ≡ drop at bytes
tail_slice bytes at = take_all (length bytes - at) (drop at bytes) (omega (arith, length-drop at bytes))

pub goes_on : (front : List Action) (bytes : List ℕ) (at : ℕ) (a : Action) (whole : Result (List Action) ActionFault)
    → at < length bytes → action_at at (drop at bytes) ≡ Ok a →
    with_front front (actions_at 0 at (drop at bytes)) ≡ whole
    → with_front (front ++ a ∷ []) (actions_at 0 (at + span a) (drop (at + span a) bytes)) ≡ whole
goes_on front bytes at a whole lt read so_far =
    let one = reads_on at (drop at bytes) a (omega (arith, length-drop at bytes)) read in
    ap (λ (left : List ℕ). with_front (front ++ a ∷ []) (actions_at 0 (at + span a) left))
    (sym (drop-drop (span a) at bytes))
    ∙ (sym (with_front-with_front front a (actions_at 0 (at + span a) (drop (span a) (drop at bytes))))
    ∙ ap (with_front front) (sym one) ∙ so_far)

pub within : (bytes : List ℕ) (at : ℕ) (a : Action) → at < length bytes → action_at at (drop at bytes) ≡ Ok a
    → at + span a ≤ length bytes
within bytes at a lt read = omega (arith, action_long at (drop at bytes) a read, length-drop at bytes)

pub fails : (front : List Action) (bytes : List ℕ) (at : ℕ) (fault : ActionFault)
    (whole : Result (List Action) ActionFault) → at < length bytes → action_at at (drop at bytes) ≡ Err fault →
    with_front front (actions_at 0 at (drop at bytes)) ≡ whole → Err fault ≡ whole
fails front bytes at fault whole lt read so_far =
    ap (with_front front) (sym (reads_fault at (drop at bytes) fault (omega (arith, length-drop at bytes)) read))
    ∙ so_far

pub is_done : (front : List Action) (bytes : List ℕ) (at : ℕ) (whole : Result (List Action) ActionFault)
    → length bytes ≤ at →
    with_front front (actions_at 0 at (drop at bytes)) ≡ whole → Ok front ≡ whole
is_done front bytes at whole over so_far =
    let ended : with_front front (actions_at 0 at (drop at bytes)) ≡ Ok (front ++ []) =
    ap (with_front front) (ap (actions_at 0 at) (drop_all at bytes over) ∙ reads_end at) in
    ap (λ (xs : List Action). Ok xs) (sym (append-nil front)) ∙ sym ended ∙ so_far

-- ---- what is read is spelled so

record AreFound (list : List Action) (bytes : List ℕ) : Type 0 where
  spells : SpellsList list bytes
  in_range : AllByRecursion IsInRange list
  fits : AllByRecursion FitsTypes list

found_more : (a : Action) (list : List Action) (bytes : List ℕ) → IsFound a (take (span a) bytes)
    → AreFound list (drop (span a) bytes) → AreFound (a ∷ list) bytes
found_more a list bytes first rest = record {
  spells = (take (span a) bytes, drop (span a) bytes, sym (take-append-drop (span a) bytes), first.spells, rest.spells);
  in_range = (first.in_range, rest.in_range);
  fits = (first.fits, rest.fits);
}

list_found : (n at : ℕ) (bytes : List ℕ) (list : List Action) → length bytes ≤ n → IsBytes bytes
    → actions_at 0 at bytes ≡ Ok list → AreFound list bytes
unfolding actions_at
list_found n at [] list le fits e = subst (λ (xs : List Action). AreFound xs []) (ok_is [] list e)
    (record { spells = refl; in_range = tt; fits = tt })
list_found zero at (byte ∷ bytes) list le fits e = absurd (omega (arith, le))
list_found (suc n) at (byte ∷ bytes) list le fits e =
    let p = bind_ok (action_at at (byte ∷ bytes))
    (λ action. actions_at (span action - 1) (at + 1) bytes >>= λ list. Ok (action ∷ list)) list e in
    let a = p.0 in
    let q = bind_ok (actions_at (span a - 1) (at + 1) bytes) (λ list. Ok (a ∷ list)) list p.2 in
    let read : actions_at 0 (at + span a) (drop (span a) (byte ∷ bytes)) ≡ Ok q.0 =
    sym (passes_action (type_of a) at byte bytes) ∙ q.1 in
    let shorter : length (drop (span a) (byte ∷ bytes)) ≤ n =
    omega (arith, le, length-drop (span a) (byte ∷ bytes), length_of-le (type_of a)) in
    let rest = list_found n (at + span a) (drop (span a) (byte ∷ bytes)) q.0 shorter
    (IsBytes-drop (span a) (byte ∷ bytes) fits) read in
    let first = action_found at (byte ∷ bytes) a p.1 fits in
    subst (λ (xs : List Action). AreFound xs (byte ∷ bytes)) (ok_is (a ∷ q.0) list q.2)
    (found_more a q.0 (byte ∷ bytes) first rest)

pub read_is_spelled : (bytes : List ℕ) (list : List Action) → IsBytes bytes → reading bytes ≡ Ok list
    → SpellsList list bytes × AreActions list
read_is_spelled bytes list fits e =
    let found = list_found (length bytes) 0 bytes list (omega arith) fits e in
    (found.spells, (All-from_recursion IsInRange list found.in_range, All-from_recursion FitsTypes list found.fits))

-- ---- what is spelled so is read

again : (list : List Action) (at : ℕ) (bytes : List ℕ) → AllByRecursion IsInRange list → AllByRecursion FitsTypes list
    → SpellsList list bytes → actions_at 0 at bytes ≡ Ok list
again [] at bytes range fits spells = ap (actions_at 0 at) spells ∙ reads_end at
again (a ∷ list) at bytes range fits spells =
    let front = spells.0 in
    let back = spells.1 in
    let long : length front ≡ span a = spells_length a front spells.3 in
    let some : 0 < length (front ++ back) = omega (arith, length-append front back, long, length_of-le (type_of a)) in
    let one = reads_on at (front ++ back) a some (reads_spelled at a front back fits.0 range.0 spells.3) in
    let rest : actions_at 0 (at + span a) (drop (span a) (front ++ back)) ≡ Ok list =
    ap (actions_at 0 (at + span a)) (drop_at front back (span a) long)
    ∙ again list (at + span a) back range.1 fits.1 spells.4 in
    ap (actions_at 0 at) spells.2 ∙ (one ∙ ap (with_front (a ∷ [])) rest)

pub spelled_is_read : (bytes : List ℕ) (list : List Action) → AreActions list → SpellsList list bytes
    → reading bytes ≡ Ok list
spelled_is_read bytes list known spells = again list 0 bytes (recursion_from_All IsInRange list known.0)
    (recursion_from_All FitsTypes list known.1) spells

-- ---- what is written is read

length-replicate : (n x : ℕ) → length (replicate n x) ≡ n
length-replicate zero x = refl
length-replicate (suc n) x = ap suc (length-replicate n x)

pub spelling_spells : (a : Action) → Spells a (spelling a)
spelling_spells a = record {
  low = 0;
  pad = replicate (padding a) 0;
  low_fits = omega arith;
  pad_fits = length-replicate (padding a) 0;
  whole = refl;
}

spellings_spell : (list : List Action) → SpellsList list (spellings list)
spellings_spell [] = refl
spellings_spell (a ∷ list) =
    (spelling a, spellings list, flat_map-cons spelling a list, spelling_spells a, spellings_spell list)

pub written_is_read : (list : List Action) → AreActions list → reading (spellings list) ≡ Ok list
written_is_read list known = spelled_is_read (spellings list) list known (spellings_spell list)

-- ---- what the call answers

pub gives_fault : (fault : ActionFault) (read : Result (List Action) ActionFault) → Err fault ≡ read
    → Gives (Err fault) read
gives_fault (faults.BadType at) read e = e
gives_fault (faults.BadLen at) read e = e
gives_fault (faults.BadArgument at) read e = e
gives_fault (faults.BadVendor at) read e = e
gives_fault faults.Memory read e = tt
