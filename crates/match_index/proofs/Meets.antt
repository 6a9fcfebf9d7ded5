-- What is asked for meets the match that the question has.
use Rattle.std.proofs.Common.{◌≡◌, ℕ, ◌-◌, ◌/◌, ◌^◌, Bool, true, false, ◌&&◌, Option, Some, None, refl, sym, subst, ◌∙◌}
use Rattle.std.proofs.Common.{arith, leb-true, true≢false, if◌then◌else◌}
use Rattle.std.specs.Prelude.{◌==◌}
use Rattle.of10_match.specs.Fields.{HeaderOf, MatchOf}
use Rattle.of10_match.specs.Matching.{holds, fits, fits_prefix, covers, asks, asks_prefix, agree, agree_prefix}
use Rattle.of10_match.specs.Matching.{overlaps, is_longer, top_bits}
use Rattle.of10_match.specs.declared.header.Prefix.{Prefix}
use Rattle.of10_match.proofs.FieldTests.{holds-fields, covers-fields, overlaps-intro}
use Rattle.of10_match.proofs.Prefixes.{eqb-flip}
use Rattle.of10_match.proofs.Twelve.{and-first, and-second}
use Rattle.match_index.specs.Questions as spec
use Rattle.match_index.specs.declared.item.Item.{Item}
use Rattle.match_index.specs.declared.question.Question.{Question}
use Rattle.match_index.specs.declared.question.Question.TheVariants.{Holding, Meeting, Covered, InWay}

-- a value that fits is agreed upon
agree-fits : (x : Option ℕ) (v : ℕ) → fits x v ≡ true → agree (Some v) x ≡ true
agree-fits None v e = refl
agree-fits (Some w) v e = eqb-flip v w ∙ e

agree_whole : (p : Prefix) (v : ℕ) (b : Bool) → is_longer p (record { addr = v; len = 32 }) ≡ b
    → (top_bits p.len p.addr == top_bits p.len v) ≡ true
    → (if b then (top_bits 32 v == top_bits 32 p.addr) else (top_bits p.len v == top_bits p.len p.addr)) ≡ true
agree_whole p v true l e =
    let z : 32 - p.len ≡ 32 - 32 = let le = leb-true (32 - p.len) (32 - 32) l in omega arith in
    let P : ℕ → Type 0 = λ k. (v / 2 ^ k == p.addr / 2 ^ k) ≡ true in
    subst P z (eqb-flip (top_bits p.len v) (top_bits p.len p.addr) ∙ e)
agree_whole p v false l e = eqb-flip (top_bits p.len v) (top_bits p.len p.addr) ∙ e

agree_prefix-fits : (x : Option Prefix) (v : ℕ) → fits_prefix x v ≡ true
    → agree_prefix (Some (record { addr = v; len = 32 })) x ≡ true
agree_prefix-fits None v e = refl
agree_prefix-fits (Some p) v e = agree_whole p v (is_longer p (record { addr = v; len = 32 })) refl e

-- a match that holds a header overlaps that of the header alone
pub overlaps-holds : (m : MatchOf) (h : HeaderOf) → holds m h ≡ true → overlaps (spec.exact h) m ≡ true
overlaps-holds m h e =
    let t = holds-fields m h e in
    overlaps-intro (spec.exact h) m (record {
      in_port = agree-fits m.in_port h.in_port t.in_port;
      dl_src = agree-fits m.dl_src h.dl_src t.dl_src;
      dl_dst = agree-fits m.dl_dst h.dl_dst t.dl_dst;
      dl_vlan = agree-fits m.dl_vlan h.dl_vlan t.dl_vlan;
      dl_vlan_pcp = agree-fits m.dl_vlan_pcp h.dl_vlan_pcp t.dl_vlan_pcp;
      dl_type = agree-fits m.dl_type h.dl_type t.dl_type;
      nw_tos = agree-fits m.nw_tos h.nw_tos t.nw_tos;
      nw_proto = agree-fits m.nw_proto h.nw_proto t.nw_proto;
      nw_src = agree_prefix-fits m.nw_src h.nw_src t.nw_src;
      nw_dst = agree_prefix-fits m.nw_dst h.nw_dst t.nw_dst;
      tp_src = agree-fits m.tp_src h.tp_src t.tp_src;
      tp_dst = agree-fits m.tp_dst h.tp_dst t.tp_dst;
    })

agree-asks : (x y : Option ℕ) → asks x y ≡ true → agree x y ≡ true
agree-asks None y e = refl
agree-asks (Some v) None e = refl
agree-asks (Some v) (Some w) e = e

agree_longer : (p q : Prefix) (b : Bool) → is_longer q p ≡ b
    → (b && (top_bits p.len p.addr == top_bits p.len q.addr)) ≡ true
    → (if b then (top_bits p.len p.addr == top_bits p.len q.addr) else (top_bits q.len p.addr == top_bits q.len q.addr))
    ≡ true
agree_longer p q true l e = e
agree_longer p q false l e = absurd (true≢false (sym e))

agree_prefix-asks : (x y : Option Prefix) → asks_prefix x y ≡ true → agree_prefix x y ≡ true
agree_prefix-asks None y e = refl
agree_prefix-asks (Some p) None e = refl
agree_prefix-asks (Some p) (Some q) e = agree_longer p q (is_longer q p) refl e

-- a match overlaps what it covers
pub overlaps-covers : (m n : MatchOf) → covers m n ≡ true → overlaps m n ≡ true
overlaps-covers m n e =
    let t = covers-fields m n e in
    overlaps-intro m n (record {
      in_port = agree-asks m.in_port n.in_port t.in_port;
      dl_src = agree-asks m.dl_src n.dl_src t.dl_src;
      dl_dst = agree-asks m.dl_dst n.dl_dst t.dl_dst;
      dl_vlan = agree-asks m.dl_vlan n.dl_vlan t.dl_vlan;
      dl_vlan_pcp = agree-asks m.dl_vlan_pcp n.dl_vlan_pcp t.dl_vlan_pcp;
      dl_type = agree-asks m.dl_type n.dl_type t.dl_type;
      nw_tos = agree-asks m.nw_tos n.nw_tos t.nw_tos;
      nw_proto = agree-asks m.nw_proto n.nw_proto t.nw_proto;
      nw_src = agree_prefix-asks m.nw_src n.nw_src t.nw_src;
      nw_dst = agree_prefix-asks m.nw_dst n.nw_dst t.nw_dst;
      tp_src = agree-asks m.tp_src n.tp_src t.tp_src;
      tp_dst = agree-asks m.tp_dst n.tp_dst t.tp_dst;
    })

-- what is asked for overlaps the match of the question
pub meets-probe : (q : Question) (e : Item) → spec.asks q e ≡ true → overlaps (spec.probe q) e.normal ≡ true
meets-probe (Holding h) e t = overlaps-holds e.normal h t
meets-probe (Meeting m) e t = t
meets-probe (Covered m) e t = overlaps-covers m e.normal t
meets-probe (InWay rank m) e t = and-first (overlaps m e.normal) _ (and-second (rank == e.rank) _ t)
