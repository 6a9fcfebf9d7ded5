-- Entries that are gone through by their places.
use Rattle.std.proofs.Common.{◌≡◌, ℕ, ◌+◌, ◌*◌, ◌≤◌, List, [], ◌∷◌, ◌++◌, length, map, take, ap, sym, refl, subst, suc}
use Rattle.std.proofs.Common.{zero, suc-add, ◌∙◌, arith}
use Rattle.std.specs.Prelude.{Option, Some, None, option_to_list}
use Rattle.std.specs.List.{AllByRecursion, slice_get}
use Rattle.std.proofs.lemmas.List.{length-append, map-append}
use Rattle.std.proofs.lemmas.List.Concat.{flat_map-cons}
use Rattle.std.proofs.lemmas.List.Elements.{filter-append}
use Rattle.of10_actions.specs.Spelling.{spelling, spellings}
use Rattle.of10_actions.specs.declared.action.Action.{Action}
use Rattle.of10_actions.specs.declared.action.Action.TheVariants as actions
use Rattle.member_table.specs.declared.entry.Entry.{Entry}
use Rattle.member_replies.specs.Filters.{listed}
use Rattle.member_replies.specs.declared.filter.Filter.{Filter}

-- the first so many items and the next
pub take_with : {X : Type 0} (xs : List X) (n : ℕ) → take (n + 1) xs ≡ take n xs ++ option_to_list (slice_get xs n)
take_with [] zero = refl
take_with [] (suc n) = rw suc-add refl
take_with (x ∷ xs) zero = refl
take_with (x ∷ xs) (suc n) = rw suc-add (ap (λ ys. x ∷ ys) (take_with xs n))

-- what is true of each item is true of one by its place
pub at_place : {X : Type 0} (P : X → Type 0) (xs : List X) (n : ℕ) (x : X) → AllByRecursion P xs
    → Some x ≡ slice_get xs n → P x
at_place P [] n x all is = absurd (cc)
at_place P (y ∷ ys) zero x all is = let e : y ≡ x = cc in subst P e all.0
at_place P (y ∷ ys) (suc n) x all is = at_place P ys n x all.1 is

-- one more place: what the filter lists, and what is made of it
pub listed_more : (f : Filter) (es : List Entry) (n : ℕ)
    → listed f (take (n + 1) es) ≡ listed f (take n es) ++ listed f (option_to_list (slice_get es n))
listed_more f es n = ap (listed f) (take_with es n) ∙ filter-append _ (take n es) (option_to_list (slice_get es n))

pub made_more : {X : Type 0} (make : Entry → X) (f : Filter) (es : List Entry) (n : ℕ) (made more : List X)
    → made ≡ map make (listed f (take n es)) → more ≡ map make (listed f (option_to_list (slice_get es n)))
    → made ++ more ≡ map make (listed f (take (n + 1) es))
made_more make f es n made more so_far next =
    ap (λ ys. ys ++ more) so_far
    ∙ (ap (λ ys. map make (listed f (take n es)) ++ ys) next
    ∙ (sym (map-append make (listed f (take n es)) (listed f (option_to_list (slice_get es n))))
    ∙ ap (map make) (sym (listed_more f es n))))

-- an action takes at most 16 bytes
length_action : (a : Action) → length (spelling a) ≤ 16
length_action (actions.Output port max_len) = omega arith
length_action (actions.SetVlanVid vid) = omega arith
length_action (actions.SetVlanPcp pcp) = omega arith
length_action actions.StripVlan = omega arith
length_action (actions.SetDlSrc address) = omega arith
length_action (actions.SetDlDst address) = omega arith
length_action (actions.SetNwSrc address) = omega arith
length_action (actions.SetNwDst address) = omega arith
length_action (actions.SetNwTos tos) = omega arith
length_action (actions.SetTpSrc port) = omega arith
length_action (actions.SetTpDst port) = omega arith
length_action (actions.Enqueue port queue) = omega arith

pub length_actions : (list : List Action) → length (spellings list) ≤ 16 * length list
length_actions [] = omega arith
length_actions (a ∷ list) =
    omega (
      arith,
      ap length (flat_map-cons spelling a list),
      length-append (spelling a) (spellings list),
      length_action a,
      length_actions list,
    )
