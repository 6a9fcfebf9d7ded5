-- What members are told of ports, put together switch by switch.
use Rattle.std.proofs.Common.{◌≡◌, ◌∙◌, ℕ, Bool, true, false, List, [], ◌∷◌, ◌++◌, map, refl, sym, ap, ap₂}
use Rattle.std.specs.Prelude.{filter, flat_map, if◌then◌else◌}
use Rattle.std.specs.List.{enumerate_from}
use Rattle.policies.specs.Policies.{PolicyOf}
use Rattle.policies.specs.declared.policy.MemberItem.{MemberItem}
use Rattle.machine_drafts.specs.InsideSessions.{is_member_up}
use Rattle.event_ends.specs.InsideTelling.{member_letters, switches_before}
use Rattle.machine_meaning.specs.Lists.{places}
use Rattle.machine_meaning.specs.Names.{virtual_of}
use Rattle.machine_drafts.specs.Outcomes.{switch_bases}
use Rattle.machine_meaning.specs.States.{State, SwitchOf}
use Rattle.machine_drafts.specs.SwitchDrafts.{SwitchDraftOf}
use Rattle.machine_drafts.specs.Views.{switch_of}
use Rattle.machine_meaning.specs.Telling.{has_changed, lies_on, port_told, ports_told}
use Rattle.machine_meaning.specs.declared.said.Letter.{Letter}

module _ {A B : Type 0} (f : A → B) (g : A → Bool) where
  joined : (xs ys : List A) → map f (filter g (xs ++ ys)) ≡ map f (filter g xs) ++ map f (filter g ys)
  joined [] ys = refl
  joined (x ∷ xs) ys = by (g x) (joined xs ys)
    where
      by : (b : Bool) → map f (filter g (xs ++ ys)) ≡ map f (filter g xs) ++ map f (filter g ys)
          → map f (if b then x ∷ filter g (xs ++ ys) else filter g (xs ++ ys))
          ≡ map f (if b then x ∷ filter g xs else filter g xs) ++ map f (filter g ys)
      by true r = ap (λ zs. f x ∷ zs) r
      by false r = r

  abbrev singles : (A → Bool) → List A → List B
  singles h xs = flat_map (λ x. if h x then (if g x then f x ∷ [] else []) else []) xs

  -- those that pass two tests, one by one
  one_by_one : (h : A → Bool) (xs : List A)
      → map f (filter g (filter h xs)) ≡ flat_map (λ x. if h x then (if g x then f x ∷ [] else []) else []) xs
  one_by_one h [] = refl
  one_by_one h (x ∷ xs) = outer (h x) (one_by_one h xs)
    where
      inner : (rest : List B) (b : Bool) → map f (filter g (filter h xs)) ≡ rest
          → map f (if b then x ∷ filter g (filter h xs) else filter g (filter h xs))
          ≡ (if b then f x ∷ [] else []) ++ rest
      inner rest true r = ap (λ zs. f x ∷ zs) r
      inner rest false r = r

      outer : (a : Bool) → map f (filter g (filter h xs)) ≡ singles h xs
          → map f (filter g (if a then x ∷ filter h xs else filter h xs))
          ≡ (if a then (if g x then f x ∷ [] else []) else []) ++ singles h xs
      outer true r = inner (singles h xs) (g x) r
      outer false r = r

  -- list by list
  pub list_by_list : {K : Type 0} (h : K → A → Bool) (xs : List A) (ks : List K)
      → map f (filter g (flat_map (λ k. filter (h k) xs) ks))
      ≡ flat_map (λ k. flat_map (λ x. if h k x then (if g x then f x ∷ [] else []) else []) xs) ks
  list_by_list h xs [] = refl
  list_by_list h xs (k ∷ ks) =
      joined (filter (h k) xs) (flat_map (λ k. filter (h k) xs) ks)
      ∙ ap₂ (λ (ys zs : List B). ys ++ zs) (one_by_one (h k) xs) (list_by_list h xs ks)

each_alike : {A B : Type 0} (f g : A → List B) (xs : List A) → ((x : A) → f x ≡ g x) → flat_map f xs ≡ flat_map g xs
each_alike f g [] h = refl
each_alike f g (x ∷ xs) h = ap₂ (λ (ys zs : List _). ys ++ zs) (h x) (each_alike f g xs h)

-- what a member is told of the ports that it sees
module _ (p : PolicyOf) (before s : State) where
  one_told : (n : ℕ) (m : MemberItem)
      → member_letters p s.members before.switches s.switches (n, m) ≡ ports_told p before s (n, m)
  one_told n m =
      ap (λ (zs : List Letter). if is_member_up s.members n then zs else [])
      (sym (list_by_list (port_told p s n (virtual_of m)) (has_changed p before s (virtual_of m))
      (λ (k : ℕ). lies_on p (virtual_of m) k) m.grant.ports.outside (places p.switches)))

  pub all_told : (xs : List SwitchOf) → before.switches ≡ xs
      → flat_map (member_letters p s.members xs s.switches) (enumerate_from 0 p.members)
      ≡ flat_map (ports_told p before s) (enumerate_from 0 p.members)
  all_told xs e =
      ap (λ (zs : List SwitchOf). flat_map (member_letters p s.members zs s.switches) (enumerate_from 0 p.members))
      (sym e)
      ∙ each_alike (member_letters p s.members before.switches s.switches) (ports_told p before s)
      (enumerate_from 0 p.members) (λ x. one_told x.0 x.1)

-- the switches as they stood, in one step
pub before_twice : (xs : List SwitchDraftOf) → map switch_of (switch_bases xs) ≡ switches_before xs
before_twice [] = refl
before_twice (x ∷ xs) = ap (λ (ys : List SwitchOf). switch_of x.base ∷ ys) (before_twice xs)
