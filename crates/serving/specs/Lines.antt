-- The endpoints that have a dial.
use Rattle.std.specs.Prelude.{◌≡◌, ◌⊎◌, ℕ, suc, Bool, true, List, [], ◌∷◌, Option}
use Rattle.outside.specs.Connections.{Connection}
use Rattle.outside.specs.declared.links.Endpoint.{Endpoint}
use Rattle.serving.specs.declared.dialling.Line.{Line}
use Rattle.serving.specs.declared.place.Place.{Place}

-- of links, which tell the connections of an endpoint and that its dial never fails, and of dials, which tell the same
module _ {D : Type 0} (told : Endpoint → Option (List Connection)) (reliable : Endpoint → Bool)
    (left : D → Option (List Connection)) (never_fails : D → Bool) where
  -- the endpoint of the place has this dial
  pub record IsLineOf (place : Place) (line : Line D) : Type 0 where
    pub side : line.side ≡ place.side
    pub gives : left line.dial ≡ told place.end
    pub dials : reliable place.end ≡ true → never_fails line.dial ≡ true

  -- the endpoint of the place has the first dial, and of the others this holds
  pub record IsDialled (place : Place) (Rest : List (Line D) → Type 0) (lines : List (Line D)) : Type 0 where
    pub line : Line D
    pub others : List (Line D)
    pub are : lines ≡ line ∷ others
    pub is : IsLineOf place line
    pub rest : Rest others

  -- the endpoints of the places have these dials, in their order, but for so many that could not be dialled
  abbrev pub AreLinesOf : (undialled : ℕ) → List Place → List (Line D) → Type 0
  AreLinesOf undialled [] lines = (undialled ≡ 0) × (lines ≡ [])
  AreLinesOf undialled (place ∷ places) lines =
      ((others : ℕ) × (undialled ≡ suc others) × AreLinesOf others places lines)
      ⊎ IsDialled place (AreLinesOf undialled places) lines
