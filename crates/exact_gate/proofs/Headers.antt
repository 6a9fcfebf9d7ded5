-- Matches that hold one header.
use Rattle.std.proofs.Common.{◌≡◌, ℕ, Bool, true, false, ◌&&◌, Option, Some, None, refl, eqb-true, le-leb, arith}
use Rattle.std.specs.Prelude.{◌==◌, ◌-◌, IfSome, is_some, unwrap_or}
use Rattle.of10_match.specs.Fields.{MatchOf}
use Rattle.of10_match.specs.Matching.{asks, asks_prefix, covers, fits, fits_prefix, holds, is_address, is_longer}
use Rattle.of10_match.specs.Matching.{is_one_header, top_bits}
use Rattle.of10_match.specs.declared.header.Prefix.{Prefix}
use Rattle.of10_match.proofs.Twelve.{each-fields, each-same}
use Rattle.exact_gate.specs.InsideKeys.{address_of, header_of}

-- a field asks for the value that another names exactly where it fits that value
asks-fits : (x y : Option ℕ) → is_some y ≡ true → asks x y ≡ fits x (unwrap_or y 0)
asks-fits None y n = refl
asks-fits (Some v) None n = cc
asks-fits (Some v) (Some w) n = refl

longest : (p q : Prefix) → q.len ≡ 32 → is_longer q p ≡ true
longest p q e = le-leb (32 - q.len) (32 - p.len) (omega arith)

and-kept : (a b : Bool) → a ≡ true → (a && b) ≡ b
and-kept true b e = refl
and-kept false b e = cc

asks_prefix-fits : (x y : Option Prefix) → is_address y ≡ true → asks_prefix x y ≡ fits_prefix x (address_of y)
asks_prefix-fits None y n = refl
asks_prefix-fits (Some p) None n = cc
asks_prefix-fits (Some p) (Some q) n = and-kept (is_longer q p) (top_bits p.len p.addr == top_bits p.len q.addr)
    (longest p q (eqb-true q.len 32 n))

-- a match covers that of one header exactly where it holds the header
pub covers-is : (m n : MatchOf) → is_one_header n ≡ true → covers m n ≡ holds m (header_of n)
covers-is m n e =
    let t = each-fields (is_some n.in_port) (is_some n.dl_src) (is_some n.dl_dst) (is_some n.dl_vlan)
    (is_some n.dl_vlan_pcp) (is_some n.dl_type)
    (is_some n.nw_tos) (is_some n.nw_proto) (is_address n.nw_src) (is_address n.nw_dst) (is_some n.tp_src)
    (is_some n.tp_dst) e in
    each-same (asks-fits m.in_port n.in_port t.at_a) (asks-fits m.dl_src n.dl_src t.at_b)
    (asks-fits m.dl_dst n.dl_dst t.at_c)
    (asks-fits m.dl_vlan n.dl_vlan t.at_d) (asks-fits m.dl_vlan_pcp n.dl_vlan_pcp t.at_e)
    (asks-fits m.dl_type n.dl_type t.at_f)
    (asks-fits m.nw_tos n.nw_tos t.at_g) (asks-fits m.nw_proto n.nw_proto t.at_h)
    (asks_prefix-fits m.nw_src n.nw_src t.at_i)
    (asks_prefix-fits m.nw_dst n.nw_dst t.at_j) (asks-fits m.tp_src n.tp_src t.at_k)
    (asks-fits m.tp_dst n.tp_dst t.at_l)

-- what a field asks for is in range, and so is zero
pub value_in : (P : ℕ → Type 0) (o : Option ℕ) → IfSome o P → P 0 → P (unwrap_or o 0)
value_in P None i z = z
value_in P (Some v) i z = i
