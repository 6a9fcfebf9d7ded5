-- Where links lead, and the greatest size there.
use Rattle.std.proofs.Common.{◌≡◌, ℕ, ◌<◌, ◌≤◌, Bool, true, false, List, [], ◌∷◌, Option, Some, None, refl, arith}
use Rattle.std.proofs.Common.{subst}
use Rattle.std.specs.Prelude.{if◌then◌else◌, max, ◌==◌, option_map}
use Rattle.of10_actions.specs.Fields.{RewriteOf}
use Rattle.of10_actions.specs.declared.effects.Tail.{Tail}
use Rattle.policy_meaning.specs.Hops.{peer_of, peers_size, greatest, leads}
use Rattle.policy_meaning.specs.declared.network.Place.{Place}
use Rattle.policy_meaning.specs.declared.network.Link.{Link}
use Rattle.policy_meaning.specs.declared.network.Onward.{Onward}
use Rattle.policy_meaning.proofs.Booleans.{some_injective}

pub positive : (xs : List ℕ) → 0 < greatest xs
positive [] = omega arith
positive (x ∷ xs) = let p = positive xs in omega arith

peers-next : (w : ℕ → ℕ) (l : Place) (b : Bool) (o : Option Place) (q : Place) (n : ℕ)
    → (if b then Some l else o) ≡ Some q → (o ≡ Some q → w q.v ≤ n) → w q.v ≤ max (w l.v) n
peers-next w l true o q n e f = let same : l ≡ q = some_injective e in
    subst (λ (z : Place). w z.v ≤ max (w l.v) n) same (omega arith)
peers-next w l false o q n e f = let le : w q.v ≤ n = f e in omega arith

-- a size at a peer is at most the greatest
pub peer-size : (w : ℕ → ℕ) (links : List Link) (p : ℕ) (q : Place) → peer_of links p ≡ Some q
    → w q.v ≤ peers_size w links
peer-size w [] p q e = cc
peer-size w (l ∷ ls) p q e = peers-next w l.peer (l.port == p) (peer_of ls p) q (peers_size w ls) e
    (λ u. peer-size w ls p q u)

-- what is known of a tail that leads on
pub record Leading (t : Tail) (links : List Link) (on : Onward) : Type 0 where
  pub by : ℕ
  pub tail : t ≡ Tail.Link on.rewrite by
  pub peer : peer_of links by ≡ Some on.place

leading-to : (r : RewriteOf) (p : ℕ) (links : List Link) (on : Onward) (b : Bool) (o : Option Place)
    → peer_of links p ≡ o →
    (if b then None else option_map (λ q. record { rewrite = r; place = q }) o) ≡ Some on
    → Leading (Tail.Link r p) links on
leading-to r p links on true o u e = cc
leading-to r p links on false None u e = cc
leading-to r p links on false (Some q) u e =
    let same : record { rewrite = r; place = q } ≡ on = some_injective e in
    subst (λ (z : Onward). Leading (Tail.Link r p) links z) same (record { by = p; tail = refl; peer = u })

pub leading : (t : Tail) (links : List Link) (port : ℕ) (on : Onward) → leads t links port ≡ Some on
    → Leading t links on
leading Tail.Nothing links port on e = cc
leading (Tail.Pass r) links port on e = cc
leading (Tail.Link r p) links port on e = leading-to r p links on (p == port) (peer_of links p) refl e
