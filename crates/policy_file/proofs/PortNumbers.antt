-- The ports of a virtual switch that is read have numbers of ports.
use Rattle.std.proofs.Common.{◌≡◌, sym, ap, subst, ℕ, ◌≤◌, Bool, true, false, List, Option, Some, None, arith}
use Rattle.std.specs.List.{AllByRecursion}
use Rattle.std.specs.Prelude.{option_and_then, option_map, if◌then◌else◌}
use Rattle.toml.specs.Data.{Data, same_key}
use Rattle.virtual_topology.specs.declared.plan.VirtualPort.{VirtualPort}
use Rattle.virtual_topology.specs.declared.plan.PortPlace.{PortPlace}
use Rattle.policies.specs.Sound.{IsPortNumber}
use Rattle.policy_file.specs.Values.{are_distinct, decimal_of, decimal_within, each_of, is_link, link_port}
use Rattle.policy_file.specs.Values.{outside_port}
use Rattle.policy_file.specs.Values.{place, split_at_first, virtual_port, virtual_port_at, within}
use Rattle.policy_file.specs.Words.{virtual_ports, virtual_ports_of, words}
use Rattle.policy_file.proofs.Options.{mapped, through}
use Rattle.policy_file.proofs.Kept.{within_bounds}
use Rattle.policy_file.proofs.Unlike.{each_all}

abbrev HasNumber : VirtualPort → Type 0
HasNumber q = IsPortNumber q.port

-- an outside port, or a link port, of this number
at_side : (n : ℕ) (links : Bool) (o : Option PortPlace) (q : VirtualPort) → IsPortNumber n
    → (if links then Some (link_port n) else option_map (outside_port n) o) ≡ Some q → HasNumber q
at_side n true o q h e = let p : link_port n ≡ q = cc e in subst HasNumber p h
at_side n false o q h e = let m = mapped (outside_port n) o q e in subst HasNumber m.second h

port_number : (s : List ℕ) (q : VirtualPort) → virtual_port s ≡ Some q → HasNumber q
port_number s q e =
    let cut = through _ (split_at_first 61 s) q e in
    let number = through _ (decimal_within 1 65279 cut.via.0) q cut.second in
    let read = through (within 1 65279) (decimal_of cut.via.0) number.via number.first in
    let k = within_bounds 1 65279 read.via number.via read.second in
    at_side number.via (is_link cut.via.1) (place cut.via.1) q (k.least_is, k.greatest_is) number.second

if_true : (b : Bool) (ports qs : List VirtualPort) → (if b then Some ports else None) ≡ Some qs → ports ≡ qs
if_true true ports qs e = cc e
if_true false ports qs e = absurd (cc)

listed : (ws : List (List ℕ)) (qs : List VirtualPort) → virtual_ports_of ws ≡ Some qs
    → AllByRecursion HasNumber qs
listed ws qs e =
    let a = through _ (each_of virtual_port ws) qs e in
    let p : a.via ≡ qs = if_true (are_distinct same_key ws) a.via qs a.second in
    subst (AllByRecursion HasNumber) p (each_all virtual_port HasNumber port_number ws a.via a.first)

pub virtual_ports_within : (o : Option Data) (qs : List VirtualPort) → option_and_then virtual_ports o ≡ Some qs
    → AllByRecursion (λ (q : VirtualPort). IsPortNumber q.port) qs
virtual_ports_within o qs e =
    let d = through virtual_ports o qs e in
    let w = through virtual_ports_of (words d.via) qs d.second in
    listed w.via qs w.second
