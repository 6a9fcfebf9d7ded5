-- Frames that agree where their layers are read have the same layers.
use Rattle.std.proofs.Common.{◌==◌, nat_le, nat_lt, ◌≡◌, ◌<◌, ◌≤◌, ◌+◌, ◌/◌, ◌%◌, ◌&&◌, ℕ, true, false, List, length}
use Rattle.std.proofs.Common.{slice_index, Some, None, refl, sym, ap, ◌∙◌, inl, inr, arith}
use Rattle.std.proofs.lemmas.Bool.{cases_Bool, and_parts, leb-true, eqb-true}
use Rattle.pkt_bytes.specs.declared.ipv4.Ipv4.{Ipv4}
use Rattle.pkt_bytes.specs.declared.link.Link.{Link}
use Rattle.pkt_bytes.specs.declared.link.Payload.{Payload}
use Rattle.pkt_bytes.specs.Ipv4.{fragment_of, header_end, ipv4_at, ipv4_of}
use Rattle.pkt_bytes.specs.Link.{is_snap, link_of, payload_at, payload_behind_length, tagged, untagged}
use Rattle.pkt_bytes.specs.Numbers.{number_at, has}
use Rattle.pkt_bytes.proofs.Fields.{IsIn}
use Rattle.pkt_bytes.proofs.Places.{number_at-same}

-- two frames of one length, with the same bytes from one place up to another
pub record Agree (from to : ℕ) (xs ys : List ℕ) : Type 0 where
  pub long : length xs ≡ length ys
  pub bytes : (k : ℕ) → from ≤ k → k < to → slice_index xs k ≡ slice_index ys k

pub agree_in : (from to from' to' : ℕ) (xs ys : List ℕ) → from ≤ from' → to' ≤ to → Agree from to xs ys
    → Agree from' to' xs ys
agree_in from to from' to' xs ys lo hi a =
    record { long = a.long; bytes = λ k l h. a.bytes k (omega arith) (omega arith) }

number_agrees : (place n from to : ℕ) (xs ys : List ℕ) → from ≤ place → place + n ≤ to → Agree from to xs ys
    → number_at place n xs ≡ number_at place n ys
number_agrees place n from to xs ys lo hi a =
    number_at-same place n xs ys (λ k l h. a.bytes k (omega arith) (omega arith))

snap_agrees : (place from to : ℕ) (xs ys : List ℕ) → from ≤ place → place + 6 ≤ to → Agree from to xs ys
    → is_snap place xs ≡ is_snap place ys
snap_agrees place from to xs ys lo hi a =
    let snap = number_agrees place 6 from to xs ys lo hi a in
    λ i. nat_le (place + 6) (a.long i) && snap i == 0xaaaa03000000

-- what follows a length
behind_agrees : (place from to : ℕ) (xs ys : List ℕ) → from ≤ place → place + 8 ≤ to → Agree from to xs ys
    → payload_behind_length place xs ≡ payload_behind_length place ys
behind_agrees place from to xs ys lo hi a =
    let snap = snap_agrees place from to xs ys lo (omega arith) a in
    let type = number_agrees (place + 6) 2 from to xs ys (omega arith) (omega arith) a in
    rw (snap, type, a.long) refl

pub payload_agrees : (place from to : ℕ) (xs ys : List ℕ) → from ≤ place → place + 10 ≤ to → Agree from to xs ys
    → payload_at place xs ≡ payload_at place ys
unfolding payload_at
payload_agrees place from to xs ys lo hi a =
    let type = number_agrees place 2 from to xs ys lo (omega arith) a in
    let behind = behind_agrees (place + 2) from to xs ys (omega arith) (omega arith) a in
    rw (type, behind) refl

pub link_agrees : (xs ys : List ℕ) → Agree 12 26 xs ys → link_of xs ≡ link_of ys
unfolding link_of
link_agrees xs ys a =
    let type = number_agrees 12 2 12 26 xs ys (omega arith) (omega arith) a in
    let tag = number_agrees 14 2 12 26 xs ys (omega arith) (omega arith) a in
    let outer = payload_agrees 12 12 26 xs ys (omega arith) (omega arith) a in
    let inner = payload_agrees 16 12 26 xs ys (omega arith) (omega arith) a in
    rw (type, tag, outer, inner, a.long) refl

-- ---- frames that carry IPv4 are read no further than where it begins
length_case : (place : ℕ) (xs : List ℕ) → nat_lt (number_at place 2 xs) 0x0600 ≡ true
    → payload_at place xs ≡ payload_behind_length (place + 2) xs
unfolding payload_at
length_case place xs e = rw e refl

type_case : (place : ℕ) (xs : List ℕ) → nat_lt (number_at place 2 xs) 0x0600 ≡ false
    → payload_at place xs ≡ record { dl_type = number_at place 2 xs; place = place + 2 }
unfolding payload_at
type_case place xs e = rw e refl

no_snap : (place : ℕ) (xs : List ℕ) → is_snap place xs ≡ false
    → payload_behind_length place xs ≡ record { dl_type = 0x05ff; place = place }
no_snap place xs e = rw e refl

cut_snap : (place : ℕ) (xs : List ℕ) → is_snap place xs ≡ true → has (place + 8) xs ≡ false
    → payload_behind_length place xs ≡ record { dl_type = 0; place = place + 6 }
cut_snap place xs e f = rw (e, f) refl

whole_snap : (place : ℕ) (xs : List ℕ) → is_snap place xs ≡ true → has (place + 8) xs ≡ true
    → payload_behind_length place xs ≡ record { dl_type = number_at (place + 6) 2 xs; place = place + 8 }
whole_snap place xs e f = rw (e, f) refl

-- the place of IPv4 behind a type or length: 2 bytes on, or 10 with a SNAP header
pub record IsBehind (place : ℕ) (xs ys : List ℕ) : Type 0 where
  pub behind : place + 2 ≤ (payload_at place xs).place
  pub same : Agree place (payload_at place xs).place xs ys → payload_at place xs ≡ payload_at place ys

behind_type : (place : ℕ) (xs ys : List ℕ) → nat_lt (number_at place 2 xs) 0x0600 ≡ false → IsBehind place xs ys
behind_type place xs ys e =
    let is = type_case place xs e in
    let at : (payload_at place xs).place ≡ place + 2 = ap (λ (p : Payload). p.place) is in
    record {
      behind = omega arith;
      same = λ a. let type = number_agrees place 2 place (payload_at place xs).place xs ys (omega arith) (omega arith)
          a in
          let e' : nat_lt (number_at place 2 ys) 0x0600 ≡ false = ap (λ (n : ℕ). nat_lt n 0x0600) (sym type) ∙ e in
          is ∙ (λ i. record { dl_type = type i; place = place + 2 }) ∙ sym (type_case place ys e');
    }

behind_snap : (place : ℕ) (xs ys : List ℕ) → (payload_at place xs).place ≡ place + 10 → IsBehind place xs ys
behind_snap place xs ys at = record {
  behind = omega arith;
  same = λ a. payload_agrees place place (payload_at place xs).place xs ys (omega arith) (omega arith) a;
}

pub ipv4_behind : (place : ℕ) (xs ys : List ℕ) → (payload_at place xs).dl_type ≡ 0x0800 → IsBehind place xs ys
ipv4_behind place xs ys ip =
    elim (cases_Bool (nat_lt (number_at place 2 xs) 0x0600)) [
      | inr e ↦ behind_type place xs ys e
      | inl e ↦ let long = length_case place xs e in
          elim (cases_Bool (is_snap (place + 2) xs)) [
            | inr f ↦ let none : (payload_at place xs).dl_type ≡ 0x05ff =
                ap (λ (p : Payload). p.dl_type) (long ∙ no_snap (place + 2) xs f) in absurd (omega arith)
            | inl f ↦ elim (cases_Bool (has (place + 2 + 8) xs)) [
              | inr g ↦ let none : (payload_at place xs).dl_type ≡ 0 =
                  ap (λ (p : Payload). p.dl_type) (long ∙ cut_snap (place + 2) xs f g) in absurd (omega arith)
              | inl g ↦ behind_snap place xs ys (ap (λ (p : Payload). p.place) (long ∙ whole_snap (place + 2) xs f g)
                  ∙ omega arith)
            ]
          ]
    ]

tagged_case : (xs : List ℕ) → (number_at 12 2 xs == 0x8100) ≡ true → link_of xs ≡ tagged xs
unfolding link_of
tagged_case xs e = rw e refl

untagged_case : (xs : List ℕ) → (number_at 12 2 xs == 0x8100) ≡ false → link_of xs ≡ untagged xs
unfolding link_of
untagged_case xs e = rw e refl

whole_tag : (xs : List ℕ) → has 18 xs ≡ true
    → tagged xs ≡ record {
      dl_vlan = number_at 14 2 xs % 4096;
      dl_vlan_pcp = number_at 14 2 xs / 8192;
      payload = payload_at 16 xs;
    }
whole_tag xs e = rw e refl

cut_tag : (xs : List ℕ) → has 18 xs ≡ false
    → tagged xs ≡ record { dl_vlan = 0; dl_vlan_pcp = 0; payload = record { dl_type = 0; place = 14 } }
cut_tag xs e = rw e refl

untagged_ipv4 : (xs ys : List ℕ) → (number_at 12 2 xs == 0x8100) ≡ false → (link_of xs).payload.dl_type ≡ 0x0800
    → Agree 12 (link_of xs).payload.place xs ys → link_of xs ≡ link_of ys
untagged_ipv4 xs ys e ip a =
    let is = untagged_case xs e in
    let payload : (link_of xs).payload ≡ payload_at 12 xs = ap (λ (l : Link). l.payload) is in
    let b = ipv4_behind 12 xs ys (ap (λ (p : Payload). p.dl_type) (sym payload) ∙ ip) in
    let at : (link_of xs).payload.place ≡ (payload_at 12 xs).place = ap (λ (p : Payload). p.place) payload in
    let b_behind = b.behind in
    let type = number_agrees 12 2 12 (link_of xs).payload.place xs ys (omega arith) (omega arith) a in
    let same =
    b.same (agree_in 12 (link_of xs).payload.place 12 (payload_at 12 xs).place xs ys (omega arith) (omega arith) a)
    in
    let e' : (number_at 12 2 ys == 0x8100) ≡ false = ap (λ (n : ℕ). n == 0x8100) (sym type) ∙ e in
    is ∙ (λ i. record { dl_vlan = 65535; dl_vlan_pcp = 0; payload = same i }) ∙ sym (untagged_case ys e')

tagged_ipv4 : (xs ys : List ℕ) → (number_at 12 2 xs == 0x8100) ≡ true → has 18 xs ≡ true
    → (link_of xs).payload.dl_type ≡ 0x0800
    → Agree 12 (link_of xs).payload.place xs ys → link_of xs ≡ link_of ys
tagged_ipv4 xs ys e f ip a =
    let is = tagged_case xs e ∙ whole_tag xs f in
    let payload : (link_of xs).payload ≡ payload_at 16 xs = ap (λ (l : Link). l.payload) is in
    let b = ipv4_behind 16 xs ys (ap (λ (p : Payload). p.dl_type) (sym payload) ∙ ip) in
    let at : (link_of xs).payload.place ≡ (payload_at 16 xs).place = ap (λ (p : Payload). p.place) payload in
    let b_behind = b.behind in
    let type = number_agrees 12 2 12 (link_of xs).payload.place xs ys (omega arith) (omega arith) a in
    let tag = number_agrees 14 2 12 (link_of xs).payload.place xs ys (omega arith) (omega arith) a in
    let same =
    b.same (agree_in 12 (link_of xs).payload.place 16 (payload_at 16 xs).place xs ys (omega arith) (omega arith) a)
    in
    let e' : (number_at 12 2 ys == 0x8100) ≡ true = ap (λ (n : ℕ). n == 0x8100) (sym type) ∙ e in
    let f' : has 18 ys ≡ true = ap (λ (n : ℕ). nat_le 18 n) (sym a.long) ∙ f in
    is ∙ (λ i. record { dl_vlan = tag i % 4096; dl_vlan_pcp = tag i / 8192; payload = same i })
    ∙ sym (tagged_case ys e' ∙ whole_tag ys f')

pub link_ipv4 : (xs ys : List ℕ) → (link_of xs).payload.dl_type ≡ 0x0800 → Agree 12 (link_of xs).payload.place xs ys
    → link_of xs ≡ link_of ys
link_ipv4 xs ys ip a =
    elim (cases_Bool (number_at 12 2 xs == 0x8100)) [
      | inr e ↦ untagged_ipv4 xs ys e ip a
      | inl e ↦ elim (cases_Bool (has 18 xs)) [
        | inl f ↦ tagged_ipv4 xs ys e f ip a
        | inr f ↦ let none : (link_of xs).payload.dl_type ≡ 0 =
            ap (λ (l : Link). l.payload.dl_type) (tagged_case xs e ∙ cut_tag xs f) in absurd (omega arith)
      ]
    ]

-- ---- the packet
pub ipv4_agrees : (place : ℕ) (xs ys : List ℕ) → length xs ≡ length ys → slice_index xs place ≡ slice_index ys place
    → slice_index xs (place + 9) ≡ slice_index ys (place + 9) → number_at (place + 6) 2 xs ≡ number_at (place + 6) 2 ys
    → ipv4_at place xs ≡ ipv4_at place ys
unfolding ipv4_at
ipv4_agrees place xs ys long first protocol word = rw (long, first, protocol, word) refl

ipv4_there : (place : ℕ) (xs : List ℕ)
    → (nat_le (place + 20) (header_end place xs) && has (header_end place xs) xs) ≡ true
    → ipv4_at place xs
    ≡ Some (record {
      place = place;
      transport = header_end place xs;
      protocol = slice_index xs (place + 9);
      fragment = fragment_of (number_at (place + 6) 2 xs);
    })
unfolding ipv4_at
ipv4_there place xs e = rw e refl

ipv4_absent : (place : ℕ) (xs : List ℕ)
    → (nat_le (place + 20) (header_end place xs) && has (header_end place xs) xs) ≡ false → ipv4_at place xs ≡ None
unfolding ipv4_at
ipv4_absent place xs e = rw e refl

-- what is known of a packet that is there
pub record IsAt (place : ℕ) (ip : Ipv4) (xs : List ℕ) : Type 0 where
  pub inside : IsIn ip xs
  pub place_is : ip.place ≡ place
  pub transport_is : ip.transport ≡ header_end place xs

none_is_some : {A : Type 0} (x : A) → None ≡ Some x → ⊥
none_is_some x e = cc

same_value : {A : Type 0} (x y : A) → Some x ≡ Some y → x ≡ y
same_value x y e = cc

pub ipv4_is_at : (place : ℕ) (xs : List ℕ) (ip : Ipv4) → ipv4_at place xs ≡ Some ip → IsAt place ip xs
ipv4_is_at place xs ip is =
    elim (cases_Bool (nat_le (place + 20) (header_end place xs) && has (header_end place xs) xs)) [
      | inr e ↦ absurd (none_is_some ip (sym (ipv4_absent place xs e) ∙ is))
      | inl e ↦ let same = same_value _ ip (sym (ipv4_there place xs e) ∙ is) in
          let at : place ≡ ip.place = ap (λ (p : Ipv4). p.place) same in
          let ends : header_end place xs ≡ ip.transport = ap (λ (p : Ipv4). p.transport) same in
          let parts = and_parts (nat_le (place + 20) (header_end place xs)) (has (header_end place xs) xs) e in
          let low = leb-true (place + 20) (header_end place xs) parts.0 in
          let high = leb-true (header_end place xs) (length xs) parts.1 in
          record {
            inside = record { header = omega arith; there = omega arith };
            place_is = sym at;
            transport_is = sym ends;
          }
    ]

-- the packet of a frame
pub record Carries (xs : List ℕ) (ip : Ipv4) : Type 0 where
  pub dl_type : (link_of xs).payload.dl_type ≡ 0x0800
  pub at : ipv4_at (link_of xs).payload.place xs ≡ Some ip

pub ipv4_of_carries : (xs : List ℕ) (ip : Ipv4) → ipv4_of xs ≡ Some ip → Carries xs ip
ipv4_of_carries xs ip is =
    elim (cases_Bool ((link_of xs).payload.dl_type == 0x0800)) [
      | inr e ↦ absurd (none_is_some ip (sym (rw e refl) ∙ is))
      | inl e ↦ record { dl_type = eqb-true (link_of xs).payload.dl_type 0x0800 e; at = rw e at is }
    ]

-- a payload begins behind its type, also where it is cut short
pub payload_behind : (place : ℕ) (xs : List ℕ) → place ≤ (payload_at place xs).place
payload_behind place xs =
    elim (cases_Bool (nat_lt (number_at place 2 xs) 0x0600)) [
      | inr e ↦ let at : (payload_at place xs).place ≡ place + 2 =
          ap (λ (p : Payload). p.place) (type_case place xs e) in omega arith
      | inl e ↦ let long = length_case place xs e in
          elim (cases_Bool (is_snap (place + 2) xs)) [
            | inr f ↦ let at : (payload_at place xs).place ≡ place + 2 =
                ap (λ (p : Payload). p.place) (long ∙ no_snap (place + 2) xs f) in omega arith
            | inl f ↦ elim (cases_Bool (has (place + 2 + 8) xs)) [
              | inr g ↦ let at : (payload_at place xs).place ≡ place + 2 + 6 =
                  ap (λ (p : Payload). p.place) (long ∙ cut_snap (place + 2) xs f g) in omega arith
              | inl g ↦ let at : (payload_at place xs).place ≡ place + 2 + 8 =
                  ap (λ (p : Payload). p.place) (long ∙ whole_snap (place + 2) xs f g) in omega arith
            ]
          ]
    ]

pub link_behind : (xs : List ℕ) → 12 ≤ (link_of xs).payload.place
link_behind xs =
    elim (cases_Bool (number_at 12 2 xs == 0x8100)) [
      | inr e ↦ let at : (link_of xs).payload.place ≡ (payload_at 12 xs).place =
          ap (λ (l : Link). l.payload.place) (untagged_case xs e) in
          let low = payload_behind 12 xs in omega arith
      | inl e ↦ elim (cases_Bool (has 18 xs)) [
        | inr f ↦ let at : (link_of xs).payload.place ≡ 14 =
            ap (λ (l : Link). l.payload.place) (tagged_case xs e ∙ cut_tag xs f) in omega arith
        | inl f ↦ let at : (link_of xs).payload.place ≡ (payload_at 16 xs).place =
            ap (λ (l : Link). l.payload.place) (tagged_case xs e ∙ whole_tag xs f) in
            let low = payload_behind 16 xs in omega arith
      ]
    ]

-- no packet is at the place of a payload of IPv4
pub ipv4_of_none : (xs : List ℕ) → ipv4_of xs ≡ None → (link_of xs).payload.dl_type ≡ 0x0800
    → ipv4_at (link_of xs).payload.place xs ≡ None
ipv4_of_none xs none e = rw e at none
