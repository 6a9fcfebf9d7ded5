-- What a rewrite leaves of a frame and what it sets, field by field.
use Rattle.std.proofs.Common.{◌==◌, nat_le, ◌≡◌, ◌<◌, ◌≤◌, ◌+◌, ◌%◌, ◌^◌, ◌⊎◌, ◌&&◌, ℕ, Bool, true, false, List, length}
use Rattle.std.proofs.Common.{slice_index, Option, Some, None, refl, sym, ap, ◌∙◌, inl, inr, arith}
use Rattle.std.specs.Prelude.{OnSome, IfSome}
use Rattle.std.specs.Option.{option_map}
use Rattle.std.proofs.lemmas.Bool.{cases_Bool, and_parts, leb-true}
use Rattle.of10_actions.specs.Fields.{RewriteOf}
use Rattle.of10_match.specs.Ranges.{IsTos}
use Rattle.of10_actions.specs.Rewriting.{set_to, is_tcp_udp}
use Rattle.pkt_bytes.specs.declared.ipv4.Ipv4.{Ipv4}
use Rattle.pkt_bytes.specs.declared.rewriting.Checksum.{Checksum}
use Rattle.pkt_bytes.specs.Ipv4.{has_ports, is_start, is_whole}
use Rattle.pkt_bytes.specs.Numbers.{number_at, has, put, put_if}
use Rattle.pkt_bytes.specs.Rewritten.{with_dl, with_nw, with_tp, with_ip, with_checksum, new_checksum, checksum_place}
use Rattle.pkt_bytes.specs.Rewritten.{tos_byte, header_checksum, transport_checksum}
use Rattle.pkt_bytes.specs.Touched.{IsOutside, IsApartInIp, IsRewrite}
use Rattle.pkt_bytes.proofs.Places.{length-put, length-put_if, get-put_other, get-put_if, number_at-same}
use Rattle.pkt_bytes.proofs.Places.{number_at-put_if, beside}

-- the header is there with its options
pub record IsIn (ip : Ipv4) (bytes : List ℕ) : Type 0 where
  pub header : ip.place + 20 ≤ ip.transport
  pub there : ip.transport ≤ length bytes

-- two stretches of places
abbrev pub Apart : ℕ → ℕ → ℕ → ℕ → Type 0
Apart place n at m = (at + m ≤ place) ⊎ (place + n ≤ at)

outside_from : (place n at m k : ℕ) → Apart place n at m → at ≤ k → k < at + m → IsOutside place n k
outside_from place n at m k apart lo hi =
    elim apart [ inl front ↦ inl (omega arith) | inr behind ↦ inr (omega arith) ]

-- a number apart from one that may be put
number_apart : (place n : ℕ) (value : Option ℕ) (at m : ℕ) (xs : List ℕ) → place + n ≤ length xs → Apart place n at m
    → number_at at m (put_if place n value xs) ≡ number_at at m xs
number_apart place n value at m xs h apart =
    number_at-same at m (put_if place n value xs) xs
    (λ k lo hi. get-put_if place n value k xs h (beside value (outside_from place n at m k apart lo hi)))

-- ---- the Ethernet addresses
pub length-with_dl : (r : RewriteOf) (xs : List ℕ) → 14 ≤ length xs → length (with_dl r xs) ≡ length xs
unfolding with_dl
length-with_dl r xs h =
    let first = length-put_if 0 6 r.dl_dst xs (omega arith) in
    length-put_if 6 6 r.dl_src (put_if 0 6 r.dl_dst xs) (omega arith) ∙ first

pub get-with_dl : (r : RewriteOf) (k : ℕ) (xs : List ℕ) → 14 ≤ length xs → OnSome r.dl_dst (IsOutside 0 6 k)
    → OnSome r.dl_src (IsOutside 6 6 k)
    → slice_index (with_dl r xs) k ≡ slice_index xs k
unfolding with_dl
get-with_dl r k xs h dst src =
    let first = length-put_if 0 6 r.dl_dst xs (omega arith) in
    get-put_if 6 6 r.dl_src k (put_if 0 6 r.dl_dst xs) (omega arith) src
    ∙ get-put_if 0 6 r.dl_dst k xs (omega arith) dst

pub behind-with_dl : (r : RewriteOf) (k : ℕ) (xs : List ℕ) → 14 ≤ length xs → 12 ≤ k
    → slice_index (with_dl r xs) k ≡ slice_index xs k
behind-with_dl r k xs h behind =
    get-with_dl r k xs h (beside r.dl_dst (inr (omega arith))) (beside r.dl_src (inr (omega arith)))

pub dl_src-with_dl : (r : RewriteOf) (xs : List ℕ) → IsRewrite r → 14 ≤ length xs
    → number_at 6 6 (with_dl r xs) ≡ set_to true r.dl_src (number_at 6 6 xs)
unfolding with_dl
dl_src-with_dl r xs fits h =
    let first = length-put_if 0 6 r.dl_dst xs (omega arith) in
    number_at-put_if 6 6 r.dl_src (put_if 0 6 r.dl_dst xs) (omega arith) fits.dl_src
    ∙ ap (set_to true r.dl_src) (number_apart 0 6 r.dl_dst 6 6 xs (omega arith) (inr (omega arith)))

pub dl_dst-with_dl : (r : RewriteOf) (xs : List ℕ) → IsRewrite r → 14 ≤ length xs
    → number_at 0 6 (with_dl r xs) ≡ set_to true r.dl_dst (number_at 0 6 xs)
unfolding with_dl
dl_dst-with_dl r xs fits h =
    let first = length-put_if 0 6 r.dl_dst xs (omega arith) in
    number_apart 6 6 r.dl_src 0 6 (put_if 0 6 r.dl_dst xs) (omega arith) (inl (omega arith))
    ∙ number_at-put_if 0 6 r.dl_dst xs (omega arith) fits.dl_dst

-- ---- the fields of IPv4

pub length-with_nw : (ip : Ipv4) (r : RewriteOf) (xs : List ℕ) → ip.place + 20 ≤ length xs
    → length (with_nw ip r xs) ≡ length xs
unfolding with_nw
length-with_nw ip r xs h =
    let tos = tos_byte r.nw_tos (slice_index xs (ip.place + 1)) in
    let first = length-put_if (ip.place + 1) 1 tos xs (omega arith) in
    let second = length-put_if (ip.place + 12) 4 r.nw_src (put_if (ip.place + 1) 1 tos xs) (omega arith) in
    length-put_if (ip.place + 16) 4 r.nw_dst (put_if (ip.place + 12) 4 r.nw_src (put_if (ip.place + 1) 1 tos xs))
    (omega arith) ∙ second ∙ first

on_mapped : {A B : Type 0} (f : A → B) (value : Option A) (P : Type 0) → OnSome value P → OnSome (option_map f value) P
on_mapped f None P p = tt
on_mapped f (Some v) P p = p

pub get-with_nw : (ip : Ipv4) (r : RewriteOf) (k : ℕ) (xs : List ℕ) → ip.place + 20 ≤ length xs
    → OnSome r.nw_tos (IsOutside (ip.place + 1) 1 k) → OnSome r.nw_src (IsOutside (ip.place + 12) 4 k)
    → OnSome r.nw_dst (IsOutside (ip.place + 16) 4 k)
    → slice_index (with_nw ip r xs) k ≡ slice_index xs k
unfolding with_nw
get-with_nw ip r k xs h tos_out src_out dst_out =
    let tos = tos_byte r.nw_tos (slice_index xs (ip.place + 1)) in
    let first = length-put_if (ip.place + 1) 1 tos xs (omega arith) in
    let second = length-put_if (ip.place + 12) 4 r.nw_src (put_if (ip.place + 1) 1 tos xs) (omega arith) in
    get-put_if (ip.place + 16) 4 r.nw_dst k (put_if (ip.place + 12) 4 r.nw_src (put_if (ip.place + 1) 1 tos xs))
    (omega arith) dst_out
    ∙ get-put_if (ip.place + 12) 4 r.nw_src k (put_if (ip.place + 1) 1 tos xs) (omega arith) src_out
    ∙ get-put_if (ip.place + 1) 1 tos k xs (omega arith)
    (on_mapped (λ upper. upper + slice_index xs (ip.place + 1) % 4) r.nw_tos (IsOutside (ip.place + 1) 1 k) tos_out)

byte_is : (place : ℕ) (xs : List ℕ) → number_at place 1 xs ≡ slice_index xs place
byte_is place xs = omega arith

tos_fits : (value : Option ℕ) (old : ℕ) → IfSome value IsTos → IfSome (tos_byte value old) (λ v. v < 256 ^ 1)
tos_fits None old fits = tt
tos_fits (Some v) old fits = omega (arith, fits.0, fits.1)

pub tos-with_nw : (ip : Ipv4) (r : RewriteOf) (xs : List ℕ) → IsRewrite r → ip.place + 20 ≤ length xs
    → slice_index (with_nw ip r xs) (ip.place + 1)
    ≡ set_to true (tos_byte r.nw_tos (slice_index xs (ip.place + 1))) (slice_index xs (ip.place + 1))
unfolding with_nw
tos-with_nw ip r xs fits h =
    let tos = tos_byte r.nw_tos (slice_index xs (ip.place + 1)) in
    let inner = put_if (ip.place + 1) 1 tos xs in
    let first = length-put_if (ip.place + 1) 1 tos xs (omega arith) in
    let second = length-put_if (ip.place + 12) 4 r.nw_src inner (omega arith) in
    get-put_if (ip.place + 16) 4 r.nw_dst (ip.place + 1) (put_if (ip.place + 12) 4 r.nw_src inner) (omega arith)
    (beside r.nw_dst (inl (omega arith)))
    ∙ get-put_if (ip.place + 12) 4 r.nw_src (ip.place + 1) inner (omega arith) (beside r.nw_src (inl (omega arith)))
    ∙ sym (byte_is (ip.place + 1) inner)
    ∙ number_at-put_if (ip.place + 1) 1 tos xs (omega arith)
    (tos_fits r.nw_tos (slice_index xs (ip.place + 1)) fits.nw_tos)
    ∙ ap (set_to true tos) (byte_is (ip.place + 1) xs)

pub nw_src-with_nw : (ip : Ipv4) (r : RewriteOf) (xs : List ℕ) → IsRewrite r → ip.place + 20 ≤ length xs
    → number_at (ip.place + 12) 4 (with_nw ip r xs) ≡ set_to true r.nw_src (number_at (ip.place + 12) 4 xs)
unfolding with_nw
nw_src-with_nw ip r xs fits h =
    let tos = tos_byte r.nw_tos (slice_index xs (ip.place + 1)) in
    let inner = put_if (ip.place + 1) 1 tos xs in
    let first = length-put_if (ip.place + 1) 1 tos xs (omega arith) in
    let second = length-put_if (ip.place + 12) 4 r.nw_src inner (omega arith) in
    number_apart (ip.place + 16) 4 r.nw_dst (ip.place + 12) 4 (put_if (ip.place + 12) 4 r.nw_src inner) (omega arith)
    (inl (omega arith))
    ∙ number_at-put_if (ip.place + 12) 4 r.nw_src inner (omega arith) fits.nw_src
    ∙ ap (set_to true r.nw_src)
    (number_apart (ip.place + 1) 1 tos (ip.place + 12) 4 xs (omega arith) (inr (omega arith)))

pub nw_dst-with_nw : (ip : Ipv4) (r : RewriteOf) (xs : List ℕ) → IsRewrite r → ip.place + 20 ≤ length xs
    → number_at (ip.place + 16) 4 (with_nw ip r xs) ≡ set_to true r.nw_dst (number_at (ip.place + 16) 4 xs)
unfolding with_nw
nw_dst-with_nw ip r xs fits h =
    let tos = tos_byte r.nw_tos (slice_index xs (ip.place + 1)) in
    let inner = put_if (ip.place + 1) 1 tos xs in
    let first = length-put_if (ip.place + 1) 1 tos xs (omega arith) in
    let second = length-put_if (ip.place + 12) 4 r.nw_src inner (omega arith) in
    number_at-put_if (ip.place + 16) 4 r.nw_dst (put_if (ip.place + 12) 4 r.nw_src inner) (omega arith) fits.nw_dst
    ∙ ap (set_to true r.nw_dst)
    (number_apart (ip.place + 12) 4 r.nw_src (ip.place + 16) 4 inner (omega arith) (inr (omega arith))
    ∙ number_apart (ip.place + 1) 1 tos (ip.place + 16) 4 xs (omega arith) (inr (omega arith)))

-- ---- the ports
pub ports_there : (ip : Ipv4) (xs : List ℕ) → has_ports ip xs ≡ true → ip.transport + 4 ≤ length xs
ports_there ip xs on =
    let rest = and_parts (is_whole ip.fragment) (is_tcp_udp ip.protocol && has (ip.transport + 4) xs) on in
    let last = and_parts (is_tcp_udp ip.protocol) (has (ip.transport + 4) xs) rest.1 in
    leb-true (ip.transport + 4) (length xs) last.1

pub has_ports-same : (ip : Ipv4) (xs ys : List ℕ) → length xs ≡ length ys → has_ports ip xs ≡ has_ports ip ys
has_ports-same ip xs ys e =
    ap (λ (n : ℕ). is_whole ip.fragment && (is_tcp_udp ip.protocol && nat_le (ip.transport + 4) n)) e

pub with_tp-there : (ip : Ipv4) (r : RewriteOf) (xs : List ℕ) → has_ports ip xs ≡ true
    → with_tp ip r xs ≡ put_if (ip.transport + 2) 2 r.tp_dst (put_if ip.transport 2 r.tp_src xs)
unfolding with_tp
with_tp-there ip r xs on = rw on refl

pub with_tp-absent : (ip : Ipv4) (r : RewriteOf) (xs : List ℕ) → has_ports ip xs ≡ false → with_tp ip r xs ≡ xs
unfolding with_tp
with_tp-absent ip r xs off = rw off refl

pub length-with_tp : (ip : Ipv4) (r : RewriteOf) (xs : List ℕ) → length (with_tp ip r xs) ≡ length xs
length-with_tp ip r xs =
    elim (cases_Bool (has_ports ip xs)) [
      | inl on ↦ let there = ports_there ip xs on in
          let first = length-put_if ip.transport 2 r.tp_src xs (omega arith) in
          ap length (with_tp-there ip r xs on)
          ∙ length-put_if (ip.transport + 2) 2 r.tp_dst (put_if ip.transport 2 r.tp_src xs) (omega arith) ∙ first
      | inr off ↦ ap length (with_tp-absent ip r xs off)
    ]

pub get-with_tp : (ip : Ipv4) (r : RewriteOf) (k : ℕ) (xs : List ℕ) → OnSome r.tp_src (IsOutside ip.transport 2 k)
    → OnSome r.tp_dst (IsOutside (ip.transport + 2) 2 k) → slice_index (with_tp ip r xs) k ≡ slice_index xs k
get-with_tp ip r k xs src dst =
    elim (cases_Bool (has_ports ip xs)) [
      | inl on ↦ let there = ports_there ip xs on in
          let first = length-put_if ip.transport 2 r.tp_src xs (omega arith) in
          ap (λ (zs : List ℕ). slice_index zs k) (with_tp-there ip r xs on)
          ∙ get-put_if (ip.transport + 2) 2 r.tp_dst k (put_if ip.transport 2 r.tp_src xs) (omega arith) dst
          ∙ get-put_if ip.transport 2 r.tp_src k xs (omega arith) src
      | inr off ↦ ap (λ (zs : List ℕ). slice_index zs k) (with_tp-absent ip r xs off)
    ]

pub tp_src-with_tp : (ip : Ipv4) (r : RewriteOf) (xs : List ℕ) → IsRewrite r → has_ports ip xs ≡ true
    → number_at ip.transport 2 (with_tp ip r xs) ≡ set_to true r.tp_src (number_at ip.transport 2 xs)
tp_src-with_tp ip r xs fits on =
    let there = ports_there ip xs on in
    let first = length-put_if ip.transport 2 r.tp_src xs (omega arith) in
    ap (λ (zs : List ℕ). number_at ip.transport 2 zs) (with_tp-there ip r xs on)
    ∙ number_apart (ip.transport + 2) 2 r.tp_dst ip.transport 2 (put_if ip.transport 2 r.tp_src xs) (omega arith)
    (inl (omega arith))
    ∙ number_at-put_if ip.transport 2 r.tp_src xs (omega arith) fits.tp_src

pub tp_dst-with_tp : (ip : Ipv4) (r : RewriteOf) (xs : List ℕ) → IsRewrite r → has_ports ip xs ≡ true
    → number_at (ip.transport + 2) 2 (with_tp ip r xs) ≡ set_to true r.tp_dst (number_at (ip.transport + 2) 2 xs)
tp_dst-with_tp ip r xs fits on =
    let there = ports_there ip xs on in
    let first = length-put_if ip.transport 2 r.tp_src xs (omega arith) in
    ap (λ (zs : List ℕ). number_at (ip.transport + 2) 2 zs) (with_tp-there ip r xs on)
    ∙ number_at-put_if (ip.transport + 2) 2 r.tp_dst (put_if ip.transport 2 r.tp_src xs) (omega arith) fits.tp_dst
    ∙ ap (set_to true r.tp_dst)
    (number_apart ip.transport 2 r.tp_src (ip.transport + 2) 2 xs (omega arith) (inr (omega arith)))

-- ---- the checksums
-- where a checksum of TCP or UDP stands
abbrev pub IsChecksumPlace : Ipv4 → List ℕ → ℕ → Type 0
IsChecksumPlace ip xs place = (ip.transport + 6 ≤ place) × (place + 2 ≤ length xs)

place_there : (ip : Ipv4) (n : ℕ) (start is_it : Bool) (xs : List ℕ)
    → (start && (is_it && has (ip.transport + n) xs)) ≡ true → ip.transport + n ≤ length xs
place_there ip n start is_it xs on =
    let rest = and_parts start (is_it && has (ip.transport + n) xs) on in
    let last = and_parts is_it (has (ip.transport + n) xs) rest.1 in
    leb-true (ip.transport + n) (length xs) last.1

pub checksum_place-there : (ip : Ipv4) (xs : List ℕ) → IfSome (checksum_place ip xs) (IsChecksumPlace ip xs)
unfolding checksum_place
checksum_place-there ip xs =
    let tcp = is_start ip.fragment && (ip.protocol == 6 && has (ip.transport + 18) xs) in
    let udp = is_start ip.fragment && (ip.protocol == 17 && has (ip.transport + 8) xs) in
    elim (cases_Bool tcp) [
      | inl on ↦ let there = place_there ip 18 (is_start ip.fragment) (ip.protocol == 6) xs on in
          rw on (omega arith, omega arith)
      | inr off ↦ elim (cases_Bool udp) [
        | inl on ↦ let there = place_there ip 8 (is_start ip.fragment) (ip.protocol == 17) xs on in
            rw (off, on) (omega arith, omega arith)
        | inr nor ↦ rw (off, nor) tt
      ]
    ]

-- a new checksum and where it stands
abbrev pub IsNewChecksum : Ipv4 → List ℕ → Checksum → Type 0
IsNewChecksum ip xs c = IsChecksumPlace ip xs c.place

new_from : (ip : Ipv4) (r : RewriteOf) (xs : List ℕ) (place : Option ℕ) → IfSome place (IsChecksumPlace ip xs)
    → IfSome (option_map (λ at. record { place = at; value = transport_checksum at ip r xs }) place)
    (IsNewChecksum ip xs)
new_from ip r xs None h = tt
new_from ip r xs (Some at) h = h

pub new_checksum-there : (ip : Ipv4) (r : RewriteOf) (xs : List ℕ) → IfSome (new_checksum ip r xs) (IsNewChecksum ip xs)
unfolding new_checksum
new_checksum-there ip r xs = new_from ip r xs (checksum_place ip xs) (checksum_place-there ip xs)

pub length-with_checksum : (ip : Ipv4) (c : Option Checksum) (xs ys : List ℕ) → IfSome c (IsNewChecksum ip xs)
    → length ys ≡ length xs
    → length (with_checksum c ys) ≡ length ys
length-with_checksum ip None xs ys h e = refl
length-with_checksum ip (Some c) xs ys h e = length-put c.place 2 c.value ys (omega (arith, h.1))

pub get-with_checksum : (ip : Ipv4) (c : Option Checksum) (k : ℕ) (xs ys : List ℕ) → IfSome c (IsNewChecksum ip xs)
    → length ys ≡ length xs
    → IfSome c (λ s. IsOutside s.place 2 k) → slice_index (with_checksum c ys) k ≡ slice_index ys k
get-with_checksum ip None k xs ys h e out = refl
get-with_checksum ip (Some c) k xs ys h e out = get-put_other c.place 2 c.value k ys (omega (arith, h.1)) out

outside_new : (ip : Ipv4) (r : RewriteOf) (xs : List ℕ) (k : ℕ) (place : Option ℕ)
    → IfSome place (λ at. IsOutside at 2 k)
    → IfSome {T = Checksum} (option_map (λ at. record { place = at; value = transport_checksum at ip r xs }) place)
    (λ s. IsOutside s.place 2 k)
outside_new ip r xs k None h = tt
outside_new ip r xs k (Some at) h = h

-- ---- all of IPv4
pub length-with_ip : (ip : Ipv4) (r : RewriteOf) (xs : List ℕ) → IsIn ip xs → length (with_ip ip r xs) ≡ length xs
unfolding with_ip
length-with_ip ip r xs inside =
    let nw = length-with_nw ip r xs (omega (arith, inside.header, inside.there)) in
    let tp = length-with_tp ip r (with_nw ip r xs) in
    let sum = length-put (ip.place + 10) 2 (header_checksum ip r xs) (with_tp ip r (with_nw ip r xs))
    (omega (arith, inside.header, inside.there)) in
    length-with_checksum ip (new_checksum ip r xs) xs
    (put (ip.place + 10) 2 (header_checksum ip r xs) (with_tp ip r (with_nw ip r xs))) (new_checksum-there ip r xs)
    (sum ∙ tp ∙ nw)
    ∙ sum ∙ tp ∙ nw

-- before the checksum of the transport
summed : Ipv4 → RewriteOf → List ℕ → List ℕ
summed ip r xs = put (ip.place + 10) 2 (header_checksum ip r xs) (with_tp ip r (with_nw ip r xs))

length-summed : (ip : Ipv4) (r : RewriteOf) (xs : List ℕ) → IsIn ip xs → length (summed ip r xs) ≡ length xs
unfolding summed
length-summed ip r xs inside =
    let nw = length-with_nw ip r xs (omega (arith, inside.header, inside.there)) in
    let tp = length-with_tp ip r (with_nw ip r xs) in
    length-put (ip.place + 10) 2 (header_checksum ip r xs) (with_tp ip r (with_nw ip r xs))
    (omega (arith, inside.header, inside.there)) ∙ tp ∙ nw

-- a byte that neither the header's checksum nor the transport's holds
get-with_ip : (ip : Ipv4) (r : RewriteOf) (k : ℕ) (xs : List ℕ) → IsIn ip xs → IsOutside (ip.place + 10) 2 k
    → IfSome (checksum_place ip xs) (λ at. IsOutside at 2 k)
    → slice_index (with_ip ip r xs) k ≡ slice_index (with_tp ip r (with_nw ip r xs)) k
unfolding with_ip summed new_checksum
get-with_ip ip r k xs inside sum_out out =
    let nw = length-with_nw ip r xs (omega (arith, inside.header, inside.there)) in
    let tp = length-with_tp ip r (with_nw ip r xs) in
    get-with_checksum ip (new_checksum ip r xs) k xs (summed ip r xs) (new_checksum-there ip r xs)
    (length-summed ip r xs inside) (outside_new ip r xs k (checksum_place ip xs) out)
    ∙ get-put_other (ip.place + 10) 2 (header_checksum ip r xs) k (with_tp ip r (with_nw ip r xs))
    (omega (arith, inside.header, inside.there)) sum_out

pub apart-with_ip : (ip : Ipv4) (r : RewriteOf) (k : ℕ) (xs : List ℕ) → IsIn ip xs → IsApartInIp ip r xs k
    → slice_index (with_ip ip r xs) k ≡ slice_index xs k
apart-with_ip ip r k xs inside apart =
    get-with_ip ip r k xs inside apart.checksum apart.transport_checksum
    ∙ get-with_tp ip r k (with_nw ip r xs) apart.tp_src apart.tp_dst
    ∙ get-with_nw ip r k xs (omega (arith, inside.header, inside.there)) apart.nw_tos apart.nw_src apart.nw_dst

place_out : (ip : Ipv4) (xs : List ℕ) (k : ℕ) (place : Option ℕ) → IfSome place (IsChecksumPlace ip xs)
    → k < ip.transport + 6
    → IfSome place (λ at. IsOutside at 2 k)
place_out ip xs k None h lt = tt
place_out ip xs k (Some at) h lt = inl (omega (arith, h.0))

-- a byte in front of the transport's checksum and apart from the header's
pub front-with_ip : (ip : Ipv4) (r : RewriteOf) (k : ℕ) (xs : List ℕ) → IsIn ip xs → IsOutside (ip.place + 10) 2 k
    → k < ip.transport + 6
    → slice_index (with_ip ip r xs) k ≡ slice_index (with_tp ip r (with_nw ip r xs)) k
front-with_ip ip r k xs inside sum_out lt =
    get-with_ip ip r k xs inside sum_out (place_out ip xs k (checksum_place ip xs) (checksum_place-there ip xs) lt)
