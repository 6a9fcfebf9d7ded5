-- What is found at a place of a list, and members' drafts that change there.
use Rattle.std.proofs.Common.{◌≡◌, ℕ, zero, suc, ◌<◌, List, [], ◌∷◌, Option, None, Some, length, get_or, set}
use Rattle.std.proofs.Common.{slice_get, sym, ap, ◌∙◌, arith}
use Rattle.std.specs.Prelude.{unwrap_or}
use Rattle.std.proofs.Math.Seq.{map-set_same}
use Rattle.std.proofs.lemmas.Option.{unwrap_or-slice_get}
use Rattle.of10_msgs.specs.declared.message.FlowMod.{FlowMod}
use Rattle.member_state.specs.Changes.{accepted}
use Rattle.member_state.specs.Plans.{after_planned}
use Rattle.member_state.specs.declared.planned.Planned.{Planned}
use Rattle.machine_meaning.specs.Lists.{changed_at}
use Rattle.machine_drafts.specs.MemberDrafts.{MemberDraftOf, with_now}
use Rattle.machine_drafts.specs.Outcomes.{member_bases, members_in, moments_of}
use Rattle.machine_meaning.specs.Removing.{with_kept}
use Rattle.machine_meaning.specs.States.{MemberOf}
use Rattle.machine_meaning.proofs.Places.{map-set_changed}

-- an item that stands at a place is what is looked up there
pub same_there : {A : Type 0} (xs : List A) (n : ℕ) (x e : A) → slice_get xs n ≡ Some x → e ≡ get_or xs n e → x ≡ e
same_there {A} xs n x e there is =
    sym (is ∙ (sym (unwrap_or-slice_get xs n e) ∙ ap (λ (o : Option A). unwrap_or o e) there))

pub get_there : {A : Type 0} (xs : List A) (n : ℕ) (x d : A) → slice_get xs n ≡ Some x → x ≡ get_or xs n d
get_there {A} xs n x d there =
    sym (sym (unwrap_or-slice_get xs n d) ∙ ap (λ (o : Option A). unwrap_or o d) there)

-- two look-ups find the same
pub one_there : {A : Type 0} (xs : List A) (n : ℕ) (x y : A) → slice_get xs n ≡ Some x → slice_get xs n ≡ Some y → x ≡ y
one_there xs n x y a b = cc

-- a member that plans a message is after it
pub after_message : (x y : MemberDraftOf) (now : ℕ) (m : FlowMod) (p : Planned)
    → y ≡ with_now (with_kept (λ old. after_planned x.base.kept.state p x.moment)) x → x.moment ≡ now
    → x.now.kept ≡ x.base.kept.state → after_planned x.base.kept.state p now ≡ accepted m now x.base.kept.state
    → y.now ≡ with_kept (accepted m now) x.now
after_message x y now m p e moment kept after =
    ap (λ (z : MemberDraftOf). z.now) e
    ∙ ap (λ k. record x.now { kept = k })
    (ap (after_planned x.base.kept.state p) moment ∙ (after ∙ ap (accepted m now) (sym kept)))

-- something stands at a place within a list
pub never_missing : {A : Type 0} (xs : List A) (n : ℕ) → n < length xs → None ≡ slice_get xs n → ⊥
never_missing [] n lt e = omega arith
never_missing (x ∷ xs) zero lt e = cc
never_missing (x ∷ xs) (suc n) lt e = never_missing xs n (omega arith) e

-- drafts of members of which one changes
pub now_changed : (f : MemberOf → MemberOf) (xs : List MemberDraftOf) (n : ℕ) (y d : MemberDraftOf) → n < length xs
    → y.now ≡ f (get_or xs n d).now → members_in (set xs n y) ≡ changed_at n f (members_in xs)
now_changed f xs n y d lt e = map-set_changed (λ (z : MemberDraftOf). z.now) f xs n y d lt e

pub bases_kept : (xs : List MemberDraftOf) (n : ℕ) (y d : MemberDraftOf) → y.base ≡ (get_or xs n d).base
    → member_bases (set xs n y) ≡ member_bases xs
bases_kept xs n y d e = map-set_same (λ (z : MemberDraftOf). z.base) xs n y d e

pub moments_kept : (xs : List MemberDraftOf) (n : ℕ) (y d : MemberDraftOf) → y.moment ≡ (get_or xs n d).moment
    → moments_of (set xs n y) ≡ moments_of xs
moments_kept xs n y d e = map-set_same (λ (z : MemberDraftOf). z.moment) xs n y d e
