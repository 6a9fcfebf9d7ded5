-- Matches that a rewrite's image doesn't overlap hold no header after the rewrite.
use Rattle.std.proofs.Common.{◌≡◌, ℕ, Bool, true, false, ◌&&◌, Option, Some, None, refl, sym, ap, ◌∙◌}
use Rattle.std.specs.Prelude.{if◌then◌else◌}
use Rattle.std.specs.Option.{option_and_then}
use Rattle.std.proofs.lemmas.Bool.{false≢true}
use Rattle.std.proofs.Math.Bool.{and-true}
use Rattle.of10_match.specs.Fields.{HeaderOf, MatchOf}
use Rattle.of10_match.specs.Matching.{agree, both, holds, meet, overlaps}
use Rattle.of10_match.specs.Normal.{IsNormal}
use Rattle.of10_match.specs.Ranges.{IsMatch}
use Rattle.of10_match.proofs.Both.{IsMatch-both}
use Rattle.of10_match.proofs.Holding.{holds-both}
use Rattle.of10_match.proofs.MeetSelf.{overlaps_self}
use Rattle.of10_match.proofs.Overlapping.{overlaps_exact}
use Rattle.of10_match.proofs.Twelve.{and-first, and-second}
use Rattle.of10_actions.specs.Fields.{RewriteOf}
use Rattle.of10_actions.specs.Rewriting.{apply}
use Rattle.pull_back.specs.Pulling.{can_pull, image, pull, pulled, sets_nw, sets_tp}
use Rattle.pull_back.proofs.Exactness.{image_holds, kept, pull_is_exact}
use Rattle.policy_meaning.specs.Hops.{without_port}

-- a pull asks for no other values than the match
pub in-range : (r : RewriteOf) (n : MatchOf) → IsMatch n → IsMatch (pulled r n)
in-range r n i = record {
  in_port = i.in_port;
  dl_src = kept _ true r.dl_src n.dl_src i.dl_src;
  dl_dst = kept _ true r.dl_dst n.dl_dst i.dl_dst;
  dl_vlan = i.dl_vlan;
  dl_vlan_pcp = i.dl_vlan_pcp;
  dl_type = i.dl_type;
  nw_tos = kept _ (sets_nw n) r.nw_tos n.nw_tos i.nw_tos;
  nw_proto = i.nw_proto;
  nw_src = kept _ (sets_nw n) r.nw_src n.nw_src i.nw_src;
  nw_dst = kept _ (sets_nw n) r.nw_dst n.nw_dst i.nw_dst;
  tp_src = kept _ (sets_tp n) r.tp_src n.tp_src i.tp_src;
  tp_dst = kept _ (sets_tp n) r.tp_dst n.tp_dst i.tp_dst;
}

-- where both hold a header, they overlap
overlap-at : (m n : MatchOf) (h : HeaderOf) → holds m h ≡ true → holds n h ≡ true → overlaps m n ≡ true
overlap-at m n h a b = and-second (holds (both m n) h) (overlaps m n) (holds-both m n h ∙ rw (a, b) refl)

module _ (r : RewriteOf) (m n : MatchOf) (a : IsNormal m) (b : IsNormal n) (i : IsMatch m) (j : IsMatch n)
    (apart : overlaps (image r m) n ≡ false) where
  -- no header of m is in n after r
  none-at : (h : HeaderOf) → holds m h ≡ true → holds n (apply r h) ≡ true → ⊥
  none-at h in-m in-n =
      let o = overlap-at (image r m) n (apply r h) (image_holds r m a h in-m) in-n in
      false≢true (sym apart ∙ o)

  meets-none : (t u : Bool) → can_pull r n ≡ t → overlaps m (pulled r n) ≡ u
      → option_and_then (meet m) (if t then Some (pulled r n) else None) ≡ None
  meets-none false u e f = refl
  meets-none true false e f = ap (λ b. if b then Some (both m (pulled r n)) else None) f
  meets-none true true e f =
      let q = both m (pulled r n) in
      let s = IsMatch-both m (pulled r n) i (in-range r n j) in
      let o = (overlaps_exact true q q s s (sym (overlaps_self q))).0 refl in
      let both-hold : (holds m o.header && holds (pulled r n) o.header) ≡ true =
      sym (holds-both m (pulled r n) o.header)
      ∙ (ap (λ z. holds q o.header && z) f ∙ (and-true (holds q o.header) ∙ o.in_first)) in
      let in-n : holds n (apply r o.header) ≡ true =
      sym (pull_is_exact r n o.header b)
      ∙ (ap (λ z. holds (pulled r n) o.header && z) e
      ∙ (and-true (holds (pulled r n) o.header)
      ∙ and-second (holds m o.header) (holds (pulled r n) o.header) both-hold)) in
      absurd (none-at o.header (and-first (holds m o.header) (holds (pulled r n) o.header) both-hold) in-n)

  -- m doesn't meet what n asks for before r
  pub apart-image : option_and_then (meet m) (pull r n) ≡ None
  apart-image = meets-none (can_pull r n) (overlaps m (pulled r n)) refl refl

first-open : (x y : Option ℕ) → agree None y ≡ agree x None
first-open None y = refl
first-open (Some v) y = refl

-- without the port of one is without the port of the other
pub open-port : (m n : MatchOf) → overlaps (without_port m) n ≡ overlaps m (without_port n)
open-port m n = ap (λ b. b && overlaps (without_port m) n) (first-open m.in_port n.in_port)
