-- The wildcards of a match, digit by digit.
use Rattle.std.proofs.Common.{◌≡◌, ◌<◌, ◌≤◌, ◌+◌, ◌*◌, ◌/◌, ◌%◌, ◌^◌, ℕ, Option, Some, None, ◌∙◌, ap, arith}
use Rattle.std.proofs.Math.Nat.{mod-eq_of_lt, add-mul-mod_self_right}
use Rattle.std.proofs.lemmas.Nat.{div-mul-add}
use Rattle.of10_match.specs.Fields.{MatchOf}
use Rattle.of10_match.specs.Wildcards.{bit_of, open_bits, wildcards_of}
use Rattle.of10_match.specs.declared.header.Prefix.{Prefix}

-- one where a field is absent
abbrev pub digit : Option ℕ → ℕ
digit None = 1
digit (Some v) = 0

digit-le : (o : Option ℕ) → digit o ≤ 1
digit-le None = omega arith
digit-le (Some v) = omega arith

bit_of-digit : (k : ℕ) (o : Option ℕ) → bit_of k o ≡ digit o * 2 ^ k
bit_of-digit k None = omega arith
bit_of-digit k (Some v) = omega arith

open_bits-le : (o : Option Prefix) → open_bits o ≤ 32
open_bits-le None = omega arith
open_bits-le (Some p) = omega arith

-- a digit of d values stands at a place, between what is below it and what is above
digit_at : (w d place low here high : ℕ) → low < place → here < d → w ≡ (here + high * d) * place + low
    → (w / place) % d ≡ here
digit_at w d place low here high below fits e =
    ap (λ n. (n / place) % d) e
    ∙ (ap (λ n. n % d) (div-mul-add (here + high * d) place low below)
    ∙ (add-mul-mod_self_right here high d ∙ mod-eq_of_lt fits))

-- the digits of the wildcards, from the lowest
pub record IsDigits (m : MatchOf) (w : ℕ) : Type 0 where
  pub in_port : (w / 2 ^ 0) % 2 ≡ digit m.in_port
  pub dl_src : (w / 2 ^ 2) % 2 ≡ digit m.dl_src
  pub dl_dst : (w / 2 ^ 3) % 2 ≡ digit m.dl_dst
  pub dl_vlan : (w / 2 ^ 1) % 2 ≡ digit m.dl_vlan
  pub dl_vlan_pcp : (w / 2 ^ 20) % 2 ≡ digit m.dl_vlan_pcp
  pub dl_type : (w / 2 ^ 4) % 2 ≡ digit m.dl_type
  pub nw_tos : (w / 2 ^ 21) % 2 ≡ digit m.nw_tos
  pub nw_proto : (w / 2 ^ 5) % 2 ≡ digit m.nw_proto
  pub nw_src : (w / 2 ^ 8) % 64 ≡ open_bits m.nw_src
  pub nw_dst : (w / 2 ^ 14) % 64 ≡ open_bits m.nw_dst
  pub tp_src : (w / 2 ^ 6) % 2 ≡ digit m.tp_src
  pub tp_dst : (w / 2 ^ 7) % 2 ≡ digit m.tp_dst

-- ten digits of two values and two of 64 make the number
pub digits_of : (m : MatchOf) → IsDigits m (wildcards_of m)
digits_of m =
    let in_port_le = digit-le m.in_port in
    let in_port_bit = bit_of-digit 0 m.in_port in
    let dl_vlan_le = digit-le m.dl_vlan in
    let dl_vlan_bit = bit_of-digit 1 m.dl_vlan in
    let dl_src_le = digit-le m.dl_src in
    let dl_src_bit = bit_of-digit 2 m.dl_src in
    let dl_dst_le = digit-le m.dl_dst in
    let dl_dst_bit = bit_of-digit 3 m.dl_dst in
    let dl_type_le = digit-le m.dl_type in
    let dl_type_bit = bit_of-digit 4 m.dl_type in
    let nw_proto_le = digit-le m.nw_proto in
    let nw_proto_bit = bit_of-digit 5 m.nw_proto in
    let tp_src_le = digit-le m.tp_src in
    let tp_src_bit = bit_of-digit 6 m.tp_src in
    let tp_dst_le = digit-le m.tp_dst in
    let tp_dst_bit = bit_of-digit 7 m.tp_dst in
    let nw_src_le = open_bits-le m.nw_src in
    let nw_dst_le = open_bits-le m.nw_dst in
    let dl_vlan_pcp_le = digit-le m.dl_vlan_pcp in
    let dl_vlan_pcp_bit = bit_of-digit 20 m.dl_vlan_pcp in
    let nw_tos_le = digit-le m.nw_tos in
    let nw_tos_bit = bit_of-digit 21 m.nw_tos in
    record {
      in_port = digit_at (wildcards_of m) 2 (2 ^ 0) (0) (digit m.in_port)
          (digit m.dl_vlan + digit m.dl_src * 2 + digit m.dl_dst * 4 + digit m.dl_type * 8 + digit m.nw_proto * 16 +
          digit m.tp_src * 32 + digit m.tp_dst * 64 + open_bits m.nw_src * 128 + open_bits m.nw_dst * 8192 + digit
          m.dl_vlan_pcp * 524288 + digit m.nw_tos * 1048576) (omega arith) (omega arith) (omega arith);
      dl_vlan = digit_at (wildcards_of m) 2 (2 ^ 1) (digit m.in_port) (digit m.dl_vlan)
          (digit m.dl_src + digit m.dl_dst * 2 + digit m.dl_type * 4 + digit m.nw_proto * 8 + digit m.tp_src * 16 +
          digit m.tp_dst * 32 + open_bits m.nw_src * 64 + open_bits m.nw_dst * 4096 + digit m.dl_vlan_pcp * 262144 +
          digit m.nw_tos * 524288) (omega arith) (omega arith) (omega arith);
      dl_src = digit_at (wildcards_of m) 2 (2 ^ 2) (digit m.in_port + digit m.dl_vlan * 2) (digit m.dl_src)
          (digit m.dl_dst + digit m.dl_type * 2 + digit m.nw_proto * 4 + digit m.tp_src * 8 + digit m.tp_dst * 16 +
          open_bits m.nw_src * 32 + open_bits m.nw_dst * 2048 + digit m.dl_vlan_pcp * 131072 + digit m.nw_tos * 262144)
          (omega arith) (omega arith) (omega arith);
      dl_dst = digit_at (wildcards_of m) 2 (2 ^ 3) (digit m.in_port + digit m.dl_vlan * 2 + digit m.dl_src * 4)
          (digit m.dl_dst) (digit m.dl_type + digit m.nw_proto * 2 + digit m.tp_src * 4 + digit m.tp_dst * 8 + open_bits
          m.nw_src * 16 + open_bits m.nw_dst * 1024 + digit m.dl_vlan_pcp * 65536 + digit m.nw_tos * 131072)
          (omega arith) (omega arith) (omega arith);
      dl_type = digit_at (wildcards_of m) 2 (2 ^ 4)
          (digit m.in_port + digit m.dl_vlan * 2 + digit m.dl_src * 4 + digit m.dl_dst * 8) (digit m.dl_type)
          (digit m.nw_proto + digit m.tp_src * 2 + digit m.tp_dst * 4 + open_bits m.nw_src * 8 + open_bits m.nw_dst *
          512 + digit m.dl_vlan_pcp * 32768 + digit m.nw_tos * 65536) (omega arith) (omega arith) (omega arith);
      nw_proto = digit_at (wildcards_of m) 2 (2 ^ 5)
          (digit m.in_port + digit m.dl_vlan * 2 + digit m.dl_src * 4 + digit m.dl_dst * 8 + digit m.dl_type * 16)
          (digit m.nw_proto) (digit m.tp_src + digit m.tp_dst * 2 + open_bits m.nw_src * 4 + open_bits m.nw_dst * 256 +
          digit m.dl_vlan_pcp * 16384 + digit m.nw_tos * 32768) (omega arith) (omega arith) (omega arith);
      tp_src = digit_at (wildcards_of m) 2 (2 ^ 6)
          (digit m.in_port + digit m.dl_vlan * 2 + digit m.dl_src * 4 + digit m.dl_dst * 8 + digit m.dl_type * 16 +
          digit m.nw_proto * 32) (digit m.tp_src)
          (digit m.tp_dst + open_bits m.nw_src * 2 + open_bits m.nw_dst * 128 + digit m.dl_vlan_pcp * 8192 + digit
          m.nw_tos * 16384) (omega arith) (omega arith) (omega arith);
      tp_dst = digit_at (wildcards_of m) 2 (2 ^ 7)
          (digit m.in_port + digit m.dl_vlan * 2 + digit m.dl_src * 4 + digit m.dl_dst * 8 + digit m.dl_type * 16 +
          digit m.nw_proto * 32 + digit m.tp_src * 64) (digit m.tp_dst)
          (open_bits m.nw_src + open_bits m.nw_dst * 64 + digit m.dl_vlan_pcp * 4096 + digit m.nw_tos * 8192)
          (omega arith) (omega arith) (omega arith);
      nw_src = digit_at (wildcards_of m) 64 (2 ^ 8)
          (digit m.in_port + digit m.dl_vlan * 2 + digit m.dl_src * 4 + digit m.dl_dst * 8 + digit m.dl_type * 16 +
          digit m.nw_proto * 32 + digit m.tp_src * 64 + digit m.tp_dst * 128) (open_bits m.nw_src)
          (open_bits m.nw_dst + digit m.dl_vlan_pcp * 64 + digit m.nw_tos * 128) (omega arith) (omega arith)
          (omega arith);
      nw_dst = digit_at (wildcards_of m) 64 (2 ^ 14)
          (digit m.in_port + digit m.dl_vlan * 2 + digit m.dl_src * 4 + digit m.dl_dst * 8 + digit m.dl_type * 16 +
          digit m.nw_proto * 32 + digit m.tp_src * 64 + digit m.tp_dst * 128 + open_bits m.nw_src * 256)
          (open_bits m.nw_dst) (digit m.dl_vlan_pcp + digit m.nw_tos * 2) (omega arith) (omega arith) (omega arith);
      dl_vlan_pcp = digit_at (wildcards_of m) 2 (2 ^ 20)
          (digit m.in_port + digit m.dl_vlan * 2 + digit m.dl_src * 4 + digit m.dl_dst * 8 + digit m.dl_type * 16 +
          digit m.nw_proto * 32 + digit m.tp_src * 64 + digit m.tp_dst * 128 + open_bits m.nw_src * 256 + open_bits
          m.nw_dst * 16384) (digit m.dl_vlan_pcp) (digit m.nw_tos) (omega arith) (omega arith) (omega arith);
      nw_tos = digit_at (wildcards_of m) 2 (2 ^ 21)
          (digit m.in_port + digit m.dl_vlan * 2 + digit m.dl_src * 4 + digit m.dl_dst * 8 + digit m.dl_type * 16 +
          digit m.nw_proto * 32 + digit m.tp_src * 64 + digit m.tp_dst * 128 + open_bits m.nw_src * 256 + open_bits
          m.nw_dst * 16384 + digit m.dl_vlan_pcp * 1048576) (digit m.nw_tos) (0) (omega arith) (omega arith)
          (omega arith);
    }

-- the wildcards have 22 bits
pub wildcards_of-lt : (m : MatchOf) → wildcards_of m < 2 ^ 22
wildcards_of-lt m =
    let in_port_le = digit-le m.in_port in
    let in_port_bit = bit_of-digit 0 m.in_port in
    let dl_vlan_le = digit-le m.dl_vlan in
    let dl_vlan_bit = bit_of-digit 1 m.dl_vlan in
    let dl_src_le = digit-le m.dl_src in
    let dl_src_bit = bit_of-digit 2 m.dl_src in
    let dl_dst_le = digit-le m.dl_dst in
    let dl_dst_bit = bit_of-digit 3 m.dl_dst in
    let dl_type_le = digit-le m.dl_type in
    let dl_type_bit = bit_of-digit 4 m.dl_type in
    let nw_proto_le = digit-le m.nw_proto in
    let nw_proto_bit = bit_of-digit 5 m.nw_proto in
    let tp_src_le = digit-le m.tp_src in
    let tp_src_bit = bit_of-digit 6 m.tp_src in
    let tp_dst_le = digit-le m.tp_dst in
    let tp_dst_bit = bit_of-digit 7 m.tp_dst in
    let nw_src_le = open_bits-le m.nw_src in
    let nw_dst_le = open_bits-le m.nw_dst in
    let dl_vlan_pcp_le = digit-le m.dl_vlan_pcp in
    let dl_vlan_pcp_bit = bit_of-digit 20 m.dl_vlan_pcp in
    let nw_tos_le = digit-le m.nw_tos in
    let nw_tos_bit = bit_of-digit 21 m.nw_tos in
    omega arith
