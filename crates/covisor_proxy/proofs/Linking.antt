-- How serving a policy ends.
use Rattle.std.proofs.Common.{◌≡◌, true, All, List, [], ◌∷◌}
use Rattle.std.proofs.lemmas.List.Elements.{All-cons, All-nil}
use Rattle.serving.specs.declared.place.Place.{Place}
use Rattle.serving.specs.declared.run.Served.{Served}
use Rattle.serving.specs.declared.run.Served.TheVariants as serveds
use Rattle.covisor_proxy.specs.Outside.{NeverFail, Outside}

-- where no dial ever fails, those of some endpoints don't
pub all_reliable : (before : Outside) → NeverFail before → (places : List Place)
    → All (λ (place : Place). before.reliable place.end ≡ true) places
all_reliable before never [] = All-nil (λ (place : Place). before.reliable place.end ≡ true)
all_reliable before never (place ∷ places) =
    All-cons (λ (other : Place). before.reliable other.end ≡ true) place places (never place.end)
    (all_reliable before never places)

-- neither is an audit that could not be written
pub link_other : (e : ◌≡◌ {A = Served} serveds.Link serveds.Write) → ⊥
link_other e = cc

pub spawn_other : (e : ◌≡◌ {A = Served} serveds.Spawn serveds.Write) → ⊥
spawn_other e = cc
