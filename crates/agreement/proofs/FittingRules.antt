-- The rules of a setting that fits have levels that leave room for priorities.
use Rattle.std.proofs.Common.{◌≡◌, ℕ, zero, suc, ◌*◌, ◌<◌, ◌≤◌, Bool, true, false, List, [], ◌∷◌, Some, None, refl}
use Rattle.std.proofs.Common.{subst, sym, arith, length, get_or}
use Rattle.std.specs.Prelude.{All, if◌then◌else◌, map, slice_get}
use Rattle.std.specs.List.{AllByRecursion}
use Rattle.std.proofs.Math.Nat.{mul-le-mul_left}
use Rattle.std.proofs.lemmas.List.Elements.{All-from_recursion, All-get_or}
use Rattle.policy_meaning.specs.Best.{Below}
use Rattle.policy_meaning.specs.Fitting.{levels_of}
use Rattle.policy_meaning.specs.Hops.{hop_size, node, peers_size}
use Rattle.policy_meaning.specs.Networks.{entering, fabric_of, ports_of, switch_rules}
use Rattle.policy_meaning.specs.declared.fabric.Entering.{Entering}
use Rattle.policy_meaning.specs.declared.network.Network.{Network}
use Rattle.policy_meaning.specs.declared.network.VirtualSwitch.{VirtualSwitch}
use Rattle.policy_meaning.specs.declared.rule.Rule.{Rule}
use Rattle.policy_meaning.proofs.LevelsBelow.{node-below, rules-below}
use Rattle.policy_meaning.proofs.Lists.{all-each, all-map, all-mapped}
use Rattle.policy_meaning.proofs.Peers.{positive}
use Rattle.agreement.specs.Fitting.{IsFittingSetting}
use Rattle.agreement.specs.declared.state.Setting.{Setting}

-- over a hop or more there are no fewer levels than those of the expression
own-within : (net : Network) (hops v : ℕ) (x : VirtualSwitch) → 0 < hops → slice_get net.switches v ≡ Some x
    → levels_of net.tables x.expr ≤ hop_size (fabric_of net) hops v
own-within net zero v x lt at = omega arith
own-within net (suc n) v x lt at =
    let own = levels_of net.tables x.expr in
    let over = peers_size (hop_size (fabric_of net) n) x.links in
    let is : hop_size (fabric_of net) (suc n) v ≡ own * over = rw at refl in
    let p : 1 ≤ over = positive _ in
    let le = mul-le-mul_left own p in
    omega arith

module _ (s : Setting) (fits : IsFittingSetting s) (v : ℕ) (x : VirtualSwitch)
    (at : slice_get s.network.switches v ≡ Some x) where
  abbrev HasRoom : Rule → Type 0
  HasRoom r = r.level < 65535

  abbrev EachHasRoom : Entering → Type 0
  EachHasRoom e = AllByRecursion HasRoom e.rules

  abbrev at_port : ℕ → Entering
  at_port p = record { port = Some p; rules = node (fabric_of s.network) s.hops v p }

  at-port : (p : ℕ) → EachHasRoom (at_port p)
  at-port p =
      let size = fits.sizes v in
      all-map (Below (hop_size (fabric_of s.network) s.hops v)) HasRoom (at_port p).rules (λ r lt. omega arith)
      (node-below s.network fits.tables s.hops v p)

  at-all : AllByRecursion HasRoom (switch_rules s.network.tables (Some x))
  at-all =
      let size = fits.sizes v in
      let own = own-within s.network s.hops v x fits.hops at in
      all-map (Below (levels_of s.network.tables x.expr)) HasRoom (switch_rules s.network.tables (Some x))
      (λ r lt. omega arith) (rules-below s.network.tables fits.tables (ports_of x) x.expr)

  entering-fit : (whole : Bool)
      → AllByRecursion EachHasRoom
      (if whole then record { port = None; rules = switch_rules s.network.tables (Some x) } ∷ []
      else map at_port x.outside)
  entering-fit true = (at-all, tt)
  entering-fit false = all-mapped (λ p. Unit {0}) EachHasRoom at_port x.outside (λ p _. at-port p)
      (all-each (λ p. Unit {0}) x.outside (λ p. tt))

  -- what is put on a switch at once
  pub part-fits : (parts : List Entering) (i : ℕ) (part : Entering) → parts ≡ entering s.network s.hops v (Some x)
      → i < length parts → part ≡ get_or parts i part → All HasRoom part.rules
  part-fits parts i part is lt here =
      let all : AllByRecursion EachHasRoom parts =
      subst (λ (es : List Entering). AllByRecursion EachHasRoom es) (sym is) (entering-fit x.whole) in
      let each : EachHasRoom (get_or parts i part) =
      All-get_or EachHasRoom parts i part lt (All-from_recursion EachHasRoom parts all) in
      All-from_recursion HasRoom part.rules (subst EachHasRoom (sym here) each)
