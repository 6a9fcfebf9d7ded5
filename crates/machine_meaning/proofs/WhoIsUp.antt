-- Which sessions are up, while one comes up or goes.
use Rattle.std.proofs.Common.{◌≡◌, ◌∙◌, ℕ, ◌==◌, Bool, true, false, List, map, Option, Some, None, option_map}
use Rattle.std.proofs.Common.{slice_get, unwrap_or, refl, sym, ap, subst}
use Rattle.std.proofs.lemmas.Bool.{eqb-true}
use Rattle.std.proofs.lemmas.Option.{slice_get-map}
use Rattle.std.specs.Option.{option_map_or}
use Rattle.cv_io.specs.declared.leaf.Who.TheVariants.{Member, Switch}
use Rattle.member_state.proofs.Lists.{eqb_flip}
use Rattle.outbox.specs.Outboxes.{OutboxOf}
use Rattle.machine_meaning.specs.Lists.{changed_at}
use Rattle.machine_meaning.specs.Sessions.{is_up}
use Rattle.machine_meaning.specs.States.{MemberOf, State, SwitchOf}
use Rattle.machine_meaning.proofs.Composed.{elsewhere}
use Rattle.machine_meaning.proofs.Numbered.{at_changed}

abbrev pub switch_up : SwitchOf → Bool
switch_up x = x.outbox.up

abbrev pub member_up : MemberOf → Bool
member_up x = x.outbox.up

-- one of them
abbrev pub up_in : List Bool → ℕ → Bool
up_in us n = unwrap_or (slice_get us n) false

pub is_up_switch : (s : State) (n : ℕ) → is_up s (Switch n) ≡ up_in (map switch_up s.switches) n
is_up_switch s n =
    by (slice_get s.switches n)
    ∙ ap (λ (o : Option Bool). unwrap_or o false) (sym (slice_get-map switch_up s.switches n))
  where
    by : (o : Option SwitchOf)
        → option_map_or (λ (o : OutboxOf). o.up) (option_map (λ (x : SwitchOf). x.outbox) o) false
        ≡ unwrap_or (option_map switch_up o) false
    by None = refl
    by (Some x) = refl

pub is_up_member : (s : State) (n : ℕ) → is_up s (Member n) ≡ up_in (map member_up s.members) n
is_up_member s n =
    by (slice_get s.members n) ∙ ap (λ (o : Option Bool). unwrap_or o false) (sym (slice_get-map member_up s.members n))
  where
    by : (o : Option MemberOf)
        → option_map_or (λ (o : OutboxOf). o.up) (option_map (λ (x : MemberOf). x.outbox) o) false
        ≡ unwrap_or (option_map member_up o) false
    by None = refl
    by (Some x) = refl

-- one goes, and one comes up
abbrev pub down : Bool → Bool
down u = false

abbrev pub up : Bool → Bool
up u = true

abbrev pub off : List Bool → ℕ → List Bool
off us n = changed_at n down us

abbrev pub on : List Bool → ℕ → List Bool
on us n = changed_at n up us

-- it is up
abbrev pub IsUpAt : List Bool → ℕ → Type 0
IsUpAt us n = up_in us n ≡ true

-- who is up stays so where another goes
pub stays_up : (us : List Bool) (k n : ℕ) → (n == k) ≡ false → IsUpAt us n → IsUpAt (off us k) n
stays_up us k n other h =
    ap (λ (o : Option Bool). unwrap_or o false) (elsewhere k n down us (eqb_flip k n ∙ other)) ∙ h

-- and where one comes up
pub up_still : (us : List Bool) (k n : ℕ) → IsUpAt us n → IsUpAt (on us k) n
up_still us k n h = by (k == n) refl
  where
    here : (o : Option Bool) → unwrap_or o false ≡ true → unwrap_or (option_map up o) false ≡ true
    here None e = e
    here (Some u) e = refl

    by : (b : Bool) → (k == n) ≡ b → IsUpAt (on us k) n
    by true t =
        let same : n ≡ k = sym (eqb-true k n t) in
        subst (IsUpAt (on us k)) (sym same)
        (ap (λ (o : Option Bool). unwrap_or o false) (at_changed k up us)
        ∙ here (slice_get us k) (ap (up_in us) (sym same) ∙ h))
    by false t = ap (λ (o : Option Bool). unwrap_or o false) (elsewhere k n up us t) ∙ h
