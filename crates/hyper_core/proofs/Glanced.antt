-- What is seen of a session that is looked up.
use Rattle.std.proofs.Common.{Bor, ◌≡◌, ◌∙◌, ℕ, List, Option, Some, None, map, slice_get, refl, sym, ap}
use Rattle.std.specs.Prelude.{option_map}
use Rattle.std.specs.Option.{option_copied}
use Rattle.std.proofs.lemmas.Option.{slice_get-map}
use Rattle.outbox.specs.Outboxes.{unless_taken as none_taken}
use Rattle.outbox.specs.declared.outbox.Taking.{Taking}
use Rattle.outbox.specs.declared.outbox.Taking.TheVariants as takings
use Rattle.machine_meaning.specs.Glances.{unless_taken}
use Rattle.machine_meaning.specs.Takings.{reply_of}

after_map : {A B C : Type 0} (f : A → B) (g : B → C) (o : Option A)
    → option_map (λ x. g (f x)) o ≡ option_map g (option_map f o)
after_map f g None = refl
after_map f g (Some x) = refl

-- what is seen of the item that is found is seen of the one that stands there
pub seen_there : {A B C : Type 0} (f : A → B) (g : B → C) (got : Option (Bor A)) (xs : List A) (n : ℕ)
    → option_copied got ≡ slice_get xs n
    → option_map (λ x. g (f x)) (option_copied got) ≡ option_map g (slice_get (map f xs) n)
seen_there f g got xs n e =
    ap (option_map (λ x. g (f x))) e
    ∙ (after_map f g (slice_get xs n) ∙ ap (option_map g) (sym (slice_get-map f xs n)))

-- a taking that finds nothing is answered at once
pub glanced : (t : Taking) → option_map reply_of (none_taken t) ≡ unless_taken (reply_of t)
glanced (takings.Taken message) = refl
glanced takings.Empty = refl
glanced takings.Closed = refl
