-- What a virtual switch is, as definitions and contracts see it.
use Rattle.std.specs.Prelude.{ℕ, Bool, List, refl}
use Rattle.std.specs.Coded.{Coded, code_by, coded_bool, coded_list, coded×, coded_ℕ}
use Rattle.policy_expr.specs.Policy.{Policy}
use Rattle.policy_expr.specs.Stored.{policy_code}
use Rattle.policy_meaning.specs.declared.network.Link.{Link}

-- how its members are composed, its outside ports and its links; whether its outside ports lie on several physical
-- switches, and whether it is all of its physical switch
pub record SwitchOf : Type 0 where
  pub expr : Policy
  pub outside : List ℕ
  pub links : List Link
  pub spread : Bool
  pub whole : Bool

-- a link is stored as its three numbers
abbrev pub link_code : Coded Link
link_code =
    code_by (ℕ × (ℕ × ℕ)) (coded× coded_ℕ (coded× coded_ℕ coded_ℕ)) (λ l. (l.port, (l.peer.v, l.peer.port)))
    (λ p. record { port = p.0; peer = record { v = p.1.0; port = p.1.1 } }) (λ _. refl)

-- a virtual switch is stored as the tuple of its fields
abbrev pub switch_code : Coded SwitchOf
switch_code =
    code_by (Policy × (List ℕ × (List Link × (Bool × Bool))))
    (coded× policy_code
    (coded× (coded_list coded_ℕ) (coded× (coded_list link_code) (coded× coded_bool coded_bool))))
    (λ s. (s.expr, (s.outside, (s.links, (s.spread, s.whole)))))
    (λ p. record { expr = p.0; outside = p.1.0; links = p.1.1.0; spread = p.1.1.1.0; whole = p.1.1.1.1 }) (λ _. refl)
