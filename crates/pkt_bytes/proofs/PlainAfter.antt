-- The header of a rewritten frame that carries no whole IPv4 packet.
use Rattle.std.proofs.Common.{◌==◌, nat_le, ◌≡◌, ◌≤◌, ◌+◌, ◌&&◌, ℕ, Bool, true, false, List, length, slice_index}
use Rattle.std.proofs.Common.{Option, Some, None, refl, sym, ap, ◌∙◌, inl, inr, arith}
use Rattle.std.specs.Prelude.{is_some, IsTrue}
use Rattle.std.proofs.lemmas.Bool.{cases_Bool, or_left, or_right, both_ways, leb-true, eqb-true}
use Rattle.of10_match.specs.Fields.{HeaderOf}
use Rattle.of10_actions.specs.Fields.{RewriteOf}
use Rattle.of10_actions.specs.Rewriting.{apply, has_tcp_udp, set_to, is_ip, is_tcp_udp}
use Rattle.pkt_bytes.specs.declared.ipv4.Ipv4.{Ipv4}
use Rattle.pkt_bytes.specs.declared.link.Payload.{Payload}
use Rattle.pkt_bytes.specs.Headers.{header_in, link_header, no_header, with_payload}
use Rattle.pkt_bytes.specs.Ipv4.{ipv4_at, ipv4_of}
use Rattle.pkt_bytes.specs.Link.{link_of}
use Rattle.pkt_bytes.specs.Numbers.{number_at, has}
use Rattle.pkt_bytes.specs.Rewritten.{rewritten, with_dl}
use Rattle.pkt_bytes.specs.Touched.{AreWhole, IsRewrite, sets_dl, sets_nw}
use Rattle.pkt_bytes.proofs.Fields.{behind-with_dl, dl_dst-with_dl, dl_src-with_dl, length-with_dl}
use Rattle.pkt_bytes.proofs.Layers.{Agree, ipv4_agrees, ipv4_of_none, link_agrees, link_behind}
use Rattle.pkt_bytes.proofs.Places.{number_at-same}

-- ---- fields that the rewrite does not set
pub unset : (b : Bool) (value : Option ℕ) (x : ℕ) → (IsTrue (is_some value) → b ≡ false) → set_to b value x ≡ x
unset b None x h = refl
unset b (Some v) x h = rw (h refl) refl

never : (b : Bool) (value : Option ℕ) (x : ℕ) → b ≡ false → set_to b value x ≡ x
never b value x e = unset b value x (λ s. e)

absent : (b : Bool) (value : Option ℕ) (x : ℕ) → (IsTrue (is_some value) → ⊥) → set_to b value x ≡ x
absent b value x h = unset b value x (λ s. absurd (h s))

-- a header whose nw and tp fields stay
pub record OnlyDl (r : RewriteOf) (h : HeaderOf) : Type 0 where
  pub nw : IsTrue (sets_nw r) → is_ip h.dl_type ≡ false
  pub tp : has_tcp_udp h.dl_type h.nw_proto ≡ false

abbrev pub with_addresses : RewriteOf → HeaderOf → HeaderOf
with_addresses r h = record h { dl_src = set_to true r.dl_src h.dl_src; dl_dst = set_to true r.dl_dst h.dl_dst }

apply_dl : (r : RewriteOf) (h : HeaderOf) → OnlyDl r h → apply r h ≡ with_addresses r h
apply_dl r h only =
    let tos = unset (is_ip h.dl_type) r.nw_tos h.nw_tos (λ s. only.nw (or_left (is_some r.nw_tos) _ s)) in
    let src = unset (is_ip h.dl_type) r.nw_src h.nw_src
    (λ s. only.nw (or_right (is_some r.nw_tos) _ (or_left (is_some r.nw_src) _ s))) in
    let dst = unset (is_ip h.dl_type) r.nw_dst h.nw_dst
    (λ s. only.nw (or_right (is_some r.nw_tos) _ (or_right (is_some r.nw_src) _ s))) in
    let tp_src = never (has_tcp_udp h.dl_type h.nw_proto) r.tp_src h.tp_src only.tp in
    let tp_dst = never (has_tcp_udp h.dl_type h.nw_proto) r.tp_dst h.tp_dst only.tp in
    λ i. record {
      in_port = h.in_port;
      dl_src = set_to true r.dl_src h.dl_src;
      dl_dst = set_to true r.dl_dst h.dl_dst;
      dl_vlan = h.dl_vlan;
      dl_vlan_pcp = h.dl_vlan_pcp;
      dl_type = h.dl_type;
      nw_tos = tos i;
      nw_proto = h.nw_proto;
      nw_src = src i;
      nw_dst = dst i;
      tp_src = tp_src i;
      tp_dst = tp_dst i;
    }

-- ---- frames below 14 bytes
short_header : (in_port : ℕ) (xs : List ℕ) → has 14 xs ≡ false → header_in in_port xs ≡ no_header in_port
short_header in_port xs e = rw e refl

pub short_rewritten : (r : RewriteOf) (xs : List ℕ) → has 14 xs ≡ false → rewritten r xs ≡ xs
unfolding rewritten
short_rewritten r xs e = rw e refl

no_dl : (r : RewriteOf) (in_port : ℕ) → (IsTrue (sets_dl r) → ⊥) → apply r (no_header in_port) ≡ no_header in_port
no_dl r in_port h =
    let src = absent true r.dl_src 0 (λ s. h (or_left (is_some r.dl_src) _ s)) in
    let dst = absent true r.dl_dst 0 (λ s. h (or_right (is_some r.dl_src) _ s)) in
    let none = never false r.nw_tos 0 refl in
    apply_dl r (no_header in_port) (record { nw = λ s. refl; tp = refl })
    ∙ (λ i. record (no_header in_port) { dl_src = src i; dl_dst = dst i })

pub after_short : (r : RewriteOf) (in_port : ℕ) (xs : List ℕ) → AreWhole r xs → has 14 xs ≡ false
    → header_in in_port (rewritten r xs) ≡ apply r (header_in in_port xs)
after_short r in_port xs whole e =
    ap (header_in in_port) (short_rewritten r xs e) ∙ short_header in_port xs e
    ∙ sym (ap (apply r) (short_header in_port xs e) ∙ no_dl r in_port (λ s. both_ways (has 14 xs) e (whole.dl s)))

-- ---- frames that do not carry a whole IPv4 packet
pub long_header : (in_port : ℕ) (xs : List ℕ) → has 14 xs ≡ true
    → header_in in_port xs ≡ with_payload (link_of xs).payload xs (link_header (link_of xs) in_port xs)
long_header in_port xs e = rw e refl

pub plain_rewritten : (r : RewriteOf) (xs : List ℕ) → has 14 xs ≡ true → ipv4_of xs ≡ None
    → rewritten r xs ≡ with_dl r xs
unfolding rewritten
plain_rewritten r xs e none = rw (e, none) refl

with_dl_agrees : (r : RewriteOf) (xs : List ℕ) (to : ℕ) → 14 ≤ length xs → Agree 12 to xs (with_dl r xs)
with_dl_agrees r xs to h = record {
  long = sym (length-with_dl r xs h);
  bytes = λ k lo hi. sym (behind-with_dl r k xs h lo);
}

pub behind_is : (r : RewriteOf) (place n : ℕ) (xs : List ℕ) → 14 ≤ length xs → 12 ≤ place
    → number_at place n (with_dl r xs) ≡ number_at place n xs
behind_is r place n xs h lo = number_at-same place n (with_dl r xs) xs (λ k l u. behind-with_dl r k xs h (omega arith))

-- what the network layer says of a frame whose Ethernet addresses alone changed, where it is no whole IPv4 packet
payload_after : (r : RewriteOf) (payload : Payload) (h : HeaderOf) (xs : List ℕ) → 14 ≤ length xs → 12 ≤ payload.place
    → (payload.dl_type ≡ 0x0800 → ipv4_at payload.place xs ≡ None)
    → with_payload payload (with_dl r xs) (with_addresses r h) ≡ with_addresses r (with_payload payload xs h)
payload_after r payload h xs long lo none =
    elim (cases_Bool (payload.dl_type == 0x0800)) [
      | inl e ↦ let was = none (eqb-true payload.dl_type 0x0800 e) in
          let first = behind-with_dl r payload.place xs long lo in
          let protocol = behind-with_dl r (payload.place + 9) xs long (omega arith) in
          let word = behind_is r (payload.place + 6) 2 xs long (omega arith) in
          let now : ipv4_at payload.place (with_dl r xs) ≡ None =
          ipv4_agrees payload.place (with_dl r xs) xs (length-with_dl r xs long) first protocol word ∙ was in
          rw (e, was, now) refl
      | inr e ↦ let same : has (payload.place + 28) (with_dl r xs) ≡ has (payload.place + 28) xs =
          ap (λ (n : ℕ). nat_le (payload.place + 28) n) (length-with_dl r xs long) in
          elim (cases_Bool (payload.dl_type == 0x0806 && has (payload.place + 28) xs)) [
            | inl f ↦ let f' : (payload.dl_type == 0x0806 && has (payload.place + 28) (with_dl r xs)) ≡ true =
                ap (λ (b : Bool). payload.dl_type == 0x0806 && b) same ∙ f in
                let proto = behind-with_dl r (payload.place + 7) xs long (omega arith) in
                let src = behind_is r (payload.place + 14) 4 xs long (omega arith) in
                let dst = behind_is r (payload.place + 24) 4 xs long (omega arith) in
                rw (e, f, f') (λ i. record (with_addresses r h) { nw_proto = proto i; nw_src = src i; nw_dst = dst i })
            | inr f ↦ let f' : (payload.dl_type == 0x0806 && has (payload.place + 28) (with_dl r xs)) ≡ false =
                ap (λ (b : Bool). payload.dl_type == 0x0806 && b) same ∙ f in
                rw (e, f, f') refl
          ]
    ]

-- of such a frame dl_type is the link's, and there are no ports
payload_type : (payload : Payload) (h : HeaderOf) (xs : List ℕ) → h.dl_type ≡ payload.dl_type → h.nw_proto ≡ 0
    → (payload.dl_type ≡ 0x0800 → ipv4_at payload.place xs ≡ None)
    → ((with_payload payload xs h).dl_type ≡ payload.dl_type)
    × (has_tcp_udp (with_payload payload xs h).dl_type (with_payload payload xs h).nw_proto ≡ false)
payload_type payload h xs type proto none =
    elim (cases_Bool (payload.dl_type == 0x0800)) [
      | inl e ↦ let was = none (eqb-true payload.dl_type 0x0800 e) in
          rw (e, was) (type, rw (type, proto, eqb-true payload.dl_type 0x0800 e) refl)
      | inr e ↦ let no_ip : is_ip h.dl_type ≡ false = ap is_ip type ∙ e in
          elim (cases_Bool (payload.dl_type == 0x0806 && has (payload.place + 28) xs)) [
            | inl f ↦ rw (e, f) (type, ap (λ (b : Bool). b && is_tcp_udp (slice_index xs (payload.place + 7))) no_ip)
            | inr f ↦ rw (e, f) (type, ap (λ (b : Bool). b && is_tcp_udp h.nw_proto) no_ip)
          ]
    ]

some_is_not_none : (value : Option Ipv4) → value ≡ None → IsTrue (is_some value) → ⊥
some_is_not_none value e t = both_ways (is_some value) (ap (is_some {T = Ipv4}) e) t

plain_header : (r : RewriteOf) (in_port : ℕ) (xs : List ℕ) → IsRewrite r → has 14 xs ≡ true → ipv4_of xs ≡ None
    → header_in in_port (with_dl r xs) ≡ with_addresses r (header_in in_port xs)
plain_header r in_port xs fits e none =
    let long = leb-true 14 (length xs) e in
    let e' : has 14 (with_dl r xs) ≡ true = ap (λ (n : ℕ). nat_le 14 n) (length-with_dl r xs long) ∙ e in
    let link = sym (link_agrees xs (with_dl r xs) (with_dl_agrees r xs 26 long)) in
    let src = dl_src-with_dl r xs fits long in
    let dst = dl_dst-with_dl r xs fits long in
    long_header in_port (with_dl r xs) e'
    ∙ (λ i. with_payload (link i).payload (with_dl r xs)
    (record (link_header (link i) in_port xs) { dl_src = src i; dl_dst = dst i }))
    ∙ payload_after r (link_of xs).payload (link_header (link_of xs) in_port xs) xs long (link_behind xs)
    (ipv4_of_none xs none)
    ∙ sym (ap (with_addresses r) (long_header in_port xs e))

pub after_plain : (r : RewriteOf) (in_port : ℕ) (xs : List ℕ) → IsRewrite r → AreWhole r xs → has 14 xs ≡ true
    → ipv4_of xs ≡ None
    → header_in in_port (rewritten r xs) ≡ apply r (header_in in_port xs)
after_plain r in_port xs fits whole e none =
    let known = payload_type (link_of xs).payload (link_header (link_of xs) in_port xs) xs refl refl
    (ipv4_of_none xs none) in
    let type : (header_in in_port xs).dl_type ≡ (link_of xs).payload.dl_type =
    ap (λ (h : HeaderOf). h.dl_type) (long_header in_port xs e) ∙ known.0 in
    let known_0 = payload_type (link_of xs).payload (link_header (link_of xs) 0 xs) xs refl refl
    (ipv4_of_none xs none) in
    let type_0 : (header_in 0 xs).dl_type ≡ (link_of xs).payload.dl_type =
    ap (λ (h : HeaderOf). h.dl_type) (long_header 0 xs e) ∙ known_0.0 in
    let ports : has_tcp_udp (header_in in_port xs).dl_type (header_in in_port xs).nw_proto ≡ false =
    ap (λ (h : HeaderOf). has_tcp_udp h.dl_type h.nw_proto) (long_header in_port xs e) ∙ known.1 in
    let nw : IsTrue (sets_nw r) → is_ip (header_in in_port xs).dl_type ≡ false =
    λ (s : IsTrue (sets_nw r)). elim (cases_Bool (is_ip (header_in in_port xs).dl_type)) [
      | inr f ↦ f
      | inl f ↦ absurd
          (some_is_not_none (ipv4_of xs) none
          (whole.nw s (type_0 ∙ sym type ∙ eqb-true (header_in in_port xs).dl_type 0x0800 f)))
    ] in
    ap (header_in in_port) (plain_rewritten r xs e none)
    ∙ plain_header r in_port xs fits e none
    ∙ sym (apply_dl r (header_in in_port xs) (record { nw = nw; tp = ports }))
