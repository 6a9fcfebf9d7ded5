-- A member or a switch of a draft is changed at its place.
use Rattle.std.proofs.Common.{◌≡◌, ℕ, zero, suc, ◌<◌, ◌≤◌, List, [], ◌∷◌, length, get_or, set, map, sym, ap, arith}
use Rattle.std.proofs.lemmas.List.{length-map}
use Rattle.install_plan.specs.declared.written.Written.{Written}
use Rattle.switch_state.specs.Known.{KnownOf}
use Rattle.machine_meaning.proofs.Places.{changed_past, map-set_changed}
use Rattle.machine_meaning.specs.Barriers.{with_known as known_as}
use Rattle.machine_meaning.specs.Lists.{changed_at}
use Rattle.machine_drafts.specs.MemberDrafts.{MemberDraftOf, with_now}
use Rattle.machine_drafts.specs.Outcomes.{member_bases, members_in, moments_of, standing_in, switch_bases, switches_in}
use Rattle.machine_meaning.specs.Rounds.{emptied_at}
use Rattle.machine_meaning.specs.States.{MemberOf, SwitchOf}
use Rattle.machine_drafts.specs.SwitchDrafts.{SwitchDraftOf, with_known, with_round}

-- an item that looks as the one before leaves all looks as they are
map-set_same : {A B : Type 0} (f : A → B) (xs : List A) (n : ℕ) (y d : A)
    → n < length xs → f y ≡ f (get_or xs n d) → map f (set xs n y) ≡ map f xs
map-set_same f [] n y d h e = absurd (omega arith)
map-set_same f (x ∷ xs) zero y d h e = ap (λ z. z ∷ map f xs) e
map-set_same f (x ∷ xs) (suc n) y d h e = ap (λ zs. f x ∷ zs) (map-set_same f xs n y d (omega arith) e)

-- past the end nothing changes
pub none_changed : {A B : Type 0} (f : A → B) (g : B → B) (xs : List A) (n : ℕ) → length xs ≤ n
    → map f xs ≡ changed_at n g (map f xs)
none_changed f g xs n h =
    let long : length (map f xs) ≤ n = rw length-map h in sym (changed_past g (map f xs) n long)

module _ (f : MemberOf → MemberOf) (ms : List MemberDraftOf) (n : ℕ) (y d : MemberDraftOf)
    (there : n < length ms) (is : y ≡ with_now f (get_or ms n d)) where
  pub member_changed : members_in (set ms n y) ≡ changed_at n f (members_in ms)
  member_changed =
      map-set_changed (λ (m : MemberDraftOf). m.now) f ms n y d there (ap (λ (m : MemberDraftOf). m.now) is)

  pub member_based : member_bases (set ms n y) ≡ member_bases ms
  member_based = map-set_same (λ (m : MemberDraftOf). m.base) ms n y d there (ap (λ (m : MemberDraftOf). m.base) is)

  pub member_timed : moments_of (set ms n y) ≡ moments_of ms
  member_timed = map-set_same (λ (m : MemberDraftOf). m.moment) ms n y d there (ap (λ (m : MemberDraftOf). m.moment) is)

module _ (f : SwitchOf → SwitchOf) (xs : List SwitchDraftOf) (n : ℕ) (y d : SwitchDraftOf)
    (there : n < length xs) (is : y ≡ with_round f (get_or xs n d)) where
  pub round_changed : switches_in (set xs n y) ≡ changed_at n f (switches_in xs)
  round_changed = map-set_changed (λ (x : SwitchDraftOf). x.now) f xs n y d there (ap (λ (x : SwitchDraftOf). x.now) is)

  pub round_emptied : standing_in (set xs n y) ≡ emptied_at n (standing_in xs)
  round_emptied =
      map-set_changed (λ (x : SwitchDraftOf). x.standing) (λ (old : List Written). []) xs n y d there
      (ap (λ (x : SwitchDraftOf). x.standing) is)

  pub round_based : switch_bases (set xs n y) ≡ switch_bases xs
  round_based = map-set_same (λ (x : SwitchDraftOf). x.base) xs n y d there (ap (λ (x : SwitchDraftOf). x.base) is)

module _ (f : KnownOf → KnownOf) (xs : List SwitchDraftOf) (n : ℕ) (y d : SwitchDraftOf)
    (there : n < length xs) (is : y ≡ with_known (f (get_or xs n d).now.known) (get_or xs n d)) where
  pub known_changed : switches_in (set xs n y) ≡ changed_at n (known_as f) (switches_in xs)
  known_changed =
      map-set_changed (λ (x : SwitchDraftOf). x.now) (known_as f) xs n y d there (ap (λ (x : SwitchDraftOf). x.now) is)

  pub known_stands : standing_in (set xs n y) ≡ standing_in xs
  known_stands =
      map-set_same (λ (x : SwitchDraftOf). x.standing) xs n y d there (ap (λ (x : SwitchDraftOf). x.standing) is)

  pub known_based : switch_bases (set xs n y) ≡ switch_bases xs
  known_based = map-set_same (λ (x : SwitchDraftOf). x.base) xs n y d there (ap (λ (x : SwitchDraftOf). x.base) is)
