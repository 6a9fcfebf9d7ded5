-- A BARRIER_REPLY that answers no barrier changes nothing.
use Rattle.std.proofs.Common.{◌≡◌, ◌∙◌, ℕ, zero, suc, ◌<◌, Bool, true, false, cond, List, [], ◌∷◌, Option, Some, None}
use Rattle.std.proofs.Common.{length, get_or, refl, sym, ap, ap₂, true≢false}
use Rattle.std.specs.Prelude.{◌||◌, find, is_some, option_map, slice_get}
use Rattle.std.specs.Set.{remove_key}
use Rattle.switch_state.specs.Known.{KnownOf}
use Rattle.switch_state.specs.Reports.{answered_number, barrier_reply, has_xid}
use Rattle.switch_state.specs.declared.barrier.Barrier.{Barrier}
use Rattle.machine_meaning.proofs.Places.{slice_get-map}
use Rattle.machine_meaning.specs.Barriers.{with_known}
use Rattle.machine_meaning.specs.Lists.{changed_at}
use Rattle.machine_drafts.specs.Outcomes.{switches_in}
use Rattle.machine_drafts.specs.SwitchDrafts.{SwitchDraftOf}

none_removed : {A : Type 0} (p : A → Bool) (xs : List A) → find p xs ≡ None → remove_key p xs ≡ xs
none_removed p [] h = refl
none_removed {A} p (x ∷ xs) h = by (p x) refl (λ none. none_removed p xs none)
  where
    by : (b : Bool) → p x ≡ b → (find p xs ≡ None → remove_key p xs ≡ xs) → remove_key p (x ∷ xs) ≡ x ∷ xs
    by true f rest =
        let found : Some x ≡ None = sym (ap (λ b. cond b (Some x) (find p xs)) f) ∙ h in
        absurd (true≢false (ap is_some found))
    by false f rest =
        ap (λ b. cond b xs (x ∷ remove_key p xs)) f
        ∙ ap (λ ys. x ∷ ys) (rest (sym (ap (λ b. cond b (Some x) (find p xs)) f) ∙ h))

no_number : (o : Option Barrier) → option_map (λ (b : Barrier). b.number) o ≡ None → o ≡ None
no_number None h = refl
no_number (Some b) h = absurd (true≢false (ap is_some h))

or_false : (b : Bool) → (b || false) ≡ b
or_false true = refl
or_false false = refl

-- what is known stays
unanswered_known : (xid : ℕ) (k : KnownOf) → answered_number xid k ≡ None → barrier_reply xid k ≡ k
unanswered_known xid k h =
    let none = no_number (find (has_xid xid) k.barriers) h in
    ap₂ (λ answered barriers. record k { answered = answered; barriers = barriers })
    (ap (λ o. k.answered || is_some o) none ∙ or_false k.answered)
    (none_removed (has_xid xid) k.barriers none)

-- an item that f leaves as it is
same_there : {A : Type 0} (f : A → A) (xs : List A) (n : ℕ) (x : A) → slice_get xs n ≡ Some x → f x ≡ x
    → changed_at n f xs ≡ xs
same_there f [] n x h e = refl
same_there f (y ∷ ys) zero x h e = let same : y ≡ x = cc in ap (λ z. z ∷ ys) (ap f same ∙ (e ∙ sym same))
same_there f (y ∷ ys) (suc n) x h e = ap (λ zs. y ∷ zs) (same_there f ys n x h e)

pub none_stays : (xs : List SwitchDraftOf) (n xid : ℕ) (d : SwitchDraftOf) (number : Option ℕ) → n < length xs
    → number ≡ answered_number xid (get_or xs n d).now.known → number ≡ None
    → changed_at n (with_known (barrier_reply xid)) (switches_in xs) ≡ switches_in xs
none_stays xs n xid d number there answered none =
    let x = (get_or xs n d).now in
    same_there (with_known (barrier_reply xid)) (switches_in xs) n x
    (slice_get-map (λ (x : SwitchDraftOf). x.now) xs n d there)
    (ap (λ k. record x { known = k }) (unanswered_known xid x.known (sym answered ∙ none)))
