-- What is found by its number.
use Rattle.std.proofs.Common.{Bor, ◌≡◌, ◌∙◌, ℕ, zero, suc, ◌+◌, ◌<◌, All, None, Some, IfSome, IsSome, List, [], ◌∷◌}
use Rattle.std.proofs.Common.{Option, length, map, slice_get, refl, sym, subst, ap, arith}
use Rattle.std.specs.Prelude.{option_map}
use Rattle.std.specs.List.{enumerate_from}
use Rattle.std.specs.Option.{option_copied, option_map_or}
use Rattle.std.proofs.lemmas.List.{length-map}
use Rattle.std.proofs.lemmas.List.Elements.{All-head, All-tail}
use Rattle.std.proofs.lemmas.List.FromFn.{length-enumerate_from}
use Rattle.of10_actions.specs.declared.effects.PortView.{PortView}
use Rattle.policies.specs.Policies.{PolicyOf}
use Rattle.policies.specs.Views.{view_of}
use Rattle.virtual_topology.proofs.Steps.{numbered_get}
use Rattle.virtual_topology.specs.declared.plan.VirtualItem.{VirtualItem}
use Rattle.machine_drafts.proofs.Numbers.{length-places}
use Rattle.machine_meaning.specs.Lists.{places}
use Rattle.machine_meaning.specs.Names.{all_ports}
use Rattle.machine_drafts.specs.Setups.{ports_at, ports_of}

-- what is true of an item that is there is true of the one that is found
pub copied_each : {A : Type 0} (P : A → Type 0) (o : Option (Bor A)) (b : Option A) → option_copied o ≡ b → IfSome b P
    → IfSome o (λ x. P x.now)
copied_each P None b e p = tt
copied_each P (Some x) b e p = subst (λ z. IfSome z P) (sym e) p

pub copied_some : {A : Type 0} (o : Option (Bor A)) (b : Option A) → option_copied o ≡ b → IsSome b → IsSome o
copied_some None b e p = subst IsSome (sym e) p
copied_some (Some x) b e p = refl

pub some_copied : {A : Type 0} (o : Option (Bor A)) (b : Option A) → option_copied o ≡ b → IsSome o → IsSome b
some_copied None b e p = subst IsSome e p
some_copied (Some x) b e p = subst IsSome e refl

-- what is true of each item is true of the one at a place, if there is one
pub each_there : {A : Type 0} (P : A → Type 0) (xs : List A) (n : ℕ) → All P xs → IfSome (slice_get xs n) P
each_there P [] zero h = tt
each_there P [] (suc n) h = tt
each_there P (x ∷ xs) zero h = All-head P x xs h
each_there P (x ∷ xs) (suc n) h = each_there P xs n (All-tail P x xs h)

-- an item is at a place exactly within the list
pub some_within : {A : Type 0} (xs : List A) (n : ℕ) → IsSome (slice_get xs n) → n < length xs
some_within [] zero h = absurd (cc)
some_within [] (suc n) h = absurd (cc)
some_within (x ∷ xs) zero h = omega arith
some_within (x ∷ xs) (suc n) h = let r = some_within xs n h in omega arith

pub within_some : {A : Type 0} (xs : List A) (n : ℕ) → n < length xs → IsSome (slice_get xs n)
within_some [] n h = absurd (omega arith)
within_some (x ∷ xs) zero h = refl
within_some (x ∷ xs) (suc n) h = within_some xs n (omega arith)

of_virtual : (v k : ℕ) (d : PortView) (o : Option VirtualItem) → k ≡ v
    → IfSome (option_map (λ (x : VirtualItem). ports_at (k, x)) o)
    (λ y. y ≡ option_map_or (λ (x : VirtualItem). view_of v x None) o d)
of_virtual v k d None e = tt
of_virtual v k d (Some x) e = ap (λ n. view_of n x None) e

-- all ports of a virtual switch are found by its number
pub ports_found : (p : PolicyOf) (ports : List PortView) (v : ℕ) → ports ≡ ports_of p.virtuals
    → IfSome (slice_get ports v) (λ y. y ≡ all_ports p v)
ports_found p ports v e =
    let none : PortView = record { v = v; outside = []; links = [] } in
    let same : 0 + v ≡ v = omega arith in
    let there : slice_get ports v ≡ option_map (λ (x : VirtualItem). ports_at (0 + v, x)) (slice_get p.virtuals v) =
    ap (λ ps. slice_get ps v) e ∙ numbered_get ports_at 0 p.virtuals v in
    subst (λ o. IfSome o (λ y. y ≡ all_ports p v)) (sym there) (of_virtual v (0 + v) none (slice_get p.virtuals v) same)

-- there are as many of them as virtual switches
pub as_many_ports : (virtuals : List VirtualItem) (ports : List PortView) → ports ≡ ports_of virtuals
    → length ports ≡ length virtuals
as_many_ports virtuals ports e = ap length e ∙ (length-map (enumerate_from 0 virtuals) ports_at
    ∙ length-enumerate_from 0 virtuals)

-- and so with what is made of each number
pub as_many_made : {A B : Type 0} (f : ℕ → B) (xs : List A) (ys : List B) → ys ≡ map f (places xs)
    → length ys ≡ length xs
as_many_made f xs ys e = ap length e ∙ (length-map (places xs) f ∙ length-places xs)

made_from : {A B : Type 0} (f : ℕ → B) (n : ℕ) (xs : List A) (v : ℕ) (r : B)
    → slice_get (map f (map (λ (x : ℕ × A). x.0) (enumerate_from n xs))) v ≡ Some r → r ≡ f (n + v)
made_from f n [] zero r h = absurd (cc)
made_from f n [] (suc v) r h = absurd (cc)
made_from f n (x ∷ xs) zero r h =
    let same : n ≡ n + 0 = omega arith in
    let here : f n ≡ r = cc in
    sym here ∙ ap f same
made_from f n (x ∷ xs) (suc v) r h =
    let same : (n + 1) + v ≡ n + suc v = omega arith in
    made_from f (n + 1) xs v r h ∙ ap f same

-- what was made of a number is found by it
pub made_found : {A B : Type 0} (f : ℕ → B) (xs : List A) (ys : List B) (v : ℕ) (r : B) → ys ≡ map f (places xs)
    → slice_get ys v ≡ Some r → r ≡ f v
made_found f xs ys v r e h =
    let same : 0 + v ≡ v = omega arith in
    made_from f 0 xs v r (sym (ap (λ zs. slice_get zs v) e) ∙ h) ∙ ap f same
