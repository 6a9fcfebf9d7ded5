-- The bytes of a rewritten frame that stay, and its length.
use Rattle.std.proofs.Common.{◌≡◌, ℕ, true, List, length, slice_index, Option, Some, None, refl, sym, ap, ◌∙◌, inl, inr}
use Rattle.std.proofs.lemmas.Bool.{cases_Bool, leb-true}
use Rattle.of10_actions.specs.Fields.{RewriteOf}
use Rattle.pkt_bytes.specs.declared.ipv4.Ipv4.{Ipv4}
use Rattle.pkt_bytes.specs.Ipv4.{ipv4_of}
use Rattle.pkt_bytes.specs.Numbers.{has}
use Rattle.pkt_bytes.specs.Rewritten.{checksum_place, rewritten, with_dl}
use Rattle.pkt_bytes.specs.Touched.{IsApart, IsApartInIp}
use Rattle.pkt_bytes.proofs.Fields.{apart-with_ip, get-with_dl, length-with_dl, length-with_ip}
use Rattle.pkt_bytes.proofs.PacketAfter.{Packet, inside_after, packet_rewritten, after_of}
use Rattle.pkt_bytes.proofs.PlainAfter.{plain_rewritten, short_rewritten}

-- the place of a checksum depends on how long the frame is
checksum_place-same : (ip : Ipv4) (xs ys : List ℕ) → length xs ≡ length ys → checksum_place ip xs ≡ checksum_place ip ys
unfolding checksum_place
checksum_place-same ip xs ys e = rw e refl

apart_found : (r : RewriteOf) (k : ℕ) (xs : List ℕ) (found : Option Ipv4) → ipv4_of xs ≡ found → has 14 xs ≡ true
    → IsApart r xs k
    → slice_index (rewritten r xs) k ≡ slice_index xs k
apart_found r k xs None is long apart =
    ap (λ (zs : List ℕ). slice_index zs k) (plain_rewritten r xs long is)
    ∙ get-with_dl r k xs (leb-true 14 (length xs) long) apart.dl_dst apart.dl_src
apart_found r k xs (Some ip) is long apart =
    let p : Packet xs ip = record { long = long; is = is } in
    let a = after_of r xs ip p in
    let zs = with_dl r xs in
    let in_ip : IsApartInIp ip r xs k = rw is at apart.ip in
    let same = checksum_place-same ip xs zs (sym (length-with_dl r xs a.long)) in
    let in_ip' : IsApartInIp ip r zs k = record {
      nw_tos = in_ip.nw_tos;
      checksum = in_ip.checksum;
      nw_src = in_ip.nw_src;
      nw_dst = in_ip.nw_dst;
      tp_src = in_ip.tp_src;
      tp_dst = in_ip.tp_dst;
      transport_checksum = rw same at in_ip.transport_checksum;
    } in
    ap (λ (ys : List ℕ). slice_index ys k) (packet_rewritten r xs ip p)
    ∙ apart-with_ip ip r k zs (inside_after r xs ip a.long a.inside) in_ip'
    ∙ get-with_dl r k xs a.long apart.dl_dst apart.dl_src

pub apart_stays : (r : RewriteOf) (xs : List ℕ) (k : ℕ) → IsApart r xs k
    → slice_index (rewritten r xs) k ≡ slice_index xs k
apart_stays r xs k apart =
    elim (cases_Bool (has 14 xs)) [
      | inl e ↦ apart_found r k xs (ipv4_of xs) refl e apart
      | inr e ↦ ap (λ (zs : List ℕ). slice_index zs k) (short_rewritten r xs e)
    ]

length_found : (r : RewriteOf) (xs : List ℕ) (found : Option Ipv4) → ipv4_of xs ≡ found → has 14 xs ≡ true
    → length (rewritten r xs) ≡ length xs
length_found r xs None is long = ap length (plain_rewritten r xs long is)
    ∙ length-with_dl r xs (leb-true 14 (length xs) long)
length_found r xs (Some ip) is long =
    let p : Packet xs ip = record { long = long; is = is } in
    let a = after_of r xs ip p in
    ap length (packet_rewritten r xs ip p) ∙ length-with_ip ip r (with_dl r xs) (inside_after r xs ip a.long a.inside)
    ∙ length-with_dl r xs a.long

pub length_stays : (r : RewriteOf) (xs : List ℕ) → length (rewritten r xs) ≡ length xs
length_stays r xs =
    elim (cases_Bool (has 14 xs)) [
      | inl e ↦ length_found r xs (ipv4_of xs) refl e
      | inr e ↦ ap length (short_rewritten r xs e)
    ]
