-- Connections: which are told, and what one that is given is.
use Rattle.std.specs.Prelude.{ℕ, Bool, false, ◌==◌, ◌&&◌, ◌≡◌, List, [], ◌∷◌, Option, Some, None, nat_eq}
use Rattle.std.specs.Cmp.Lexicographic.{pointwise}
use Rattle.outside.specs.declared.links.Endpoint.{Endpoint}
use Rattle.outside.specs.declared.links.Endpoint.TheVariants.{Member, Switch, Standby, Lead}

-- a connection: the bytes that its source will give, and whether its source and its sink never fail (its sink but for
-- want of memory)
pub record Connection : Type 0 where
  pub bytes : List ℕ
  pub is_reliable : Bool

-- what is told of a source and a sink is that of a connection, to which nothing was written
pub record IsConnection (link : Connection) (remaining : Option (List ℕ)) (reads : Bool) (held : Option (List ℕ))
    (writes : Bool) : Type 0 where
  pub bytes : remaining ≡ Some link.bytes
  pub never_fails : reads ≡ link.is_reliable
  pub empty : held ≡ Some []
  pub never_fails_either : writes ≡ link.is_reliable

-- the connection that is given is the first of those that were told, and the others are left
abbrev pub Gives : Option (List Connection) → Option (List Connection) → Option (List ℕ) → Bool → Option (List ℕ) → Bool
    → Type 0
Gives None after remaining reads held writes = after ≡ None
Gives (Some []) after remaining reads held writes = ⊥
Gives (Some (link ∷ links)) after remaining reads held writes = (after ≡ Some links)
    × IsConnection link remaining reads held writes

-- both are the same endpoint
abbrev pub is_same : Endpoint → Endpoint → Bool
is_same (Member index address rounds) (Member i a r) = (index == i) && pointwise nat_eq address a && (rounds == r)
is_same (Switch index listen rounds dpid) (Switch i l r d) =
    (index == i) && pointwise nat_eq listen l && (rounds == r) && (dpid == d)
is_same (Standby address rounds) (Standby a r) = pointwise nat_eq address a && (rounds == r)
is_same (Lead listen) (Lead l) = pointwise nat_eq listen l
is_same _ _ = false
