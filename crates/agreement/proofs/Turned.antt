-- Rules at the ports of virtual switches, and their entries at physical ports.
use Rattle.std.proofs.Common.{◌≡◌, ◌≢◌, ℕ, Bool, true, false, ◌&&◌, Option, Some, refl, ap, sym, eq-eqb, eqb-true}
use Rattle.std.specs.Prelude.{◌==◌}
use Rattle.of10_match.specs.Fields.{HeaderOf, MatchOf}
use Rattle.of10_match.specs.Matching.{fits, fits_prefix, holds}
use Rattle.policy_meaning.proofs.Booleans.{fails}
use Rattle.agreement.specs.Seeing.{comes_by}

-- the match, where it asks this of the port
abbrev pub by_port : Option ℕ → MatchOf → MatchOf
by_port i m = record m { in_port = i }

-- the other eleven fields
abbrev pub rest : MatchOf → HeaderOf → Bool
rest m h = fits m.dl_src h.dl_src &&
    (fits m.dl_dst h.dl_dst &&
    (fits m.dl_vlan h.dl_vlan &&
    (fits m.dl_vlan_pcp h.dl_vlan_pcp &&
    (fits m.dl_type h.dl_type &&
    (fits m.nw_tos h.nw_tos &&
    (fits m.nw_proto h.nw_proto &&
    (fits_prefix m.nw_src h.nw_src &&
    (fits_prefix m.nw_dst h.nw_dst && (fits m.tp_src h.tp_src && fits m.tp_dst h.tp_dst)))))))))

-- where the ports fit alike, the matches hold alike
pub holds-turned : (i : Option ℕ) (m : MatchOf) (h : HeaderOf) (a : ℕ) → fits i a ≡ fits m.in_port h.in_port
    → holds (by_port i m) (comes_by a h) ≡ holds m h
holds-turned i m h a e = ap (λ (b : Bool). b && rest m h) e

-- where the port doesn't fit, the match holds no header
pub holds-apart : (i : Option ℕ) (m : MatchOf) (h : HeaderOf) (a : ℕ) → fits i a ≡ false
    → holds (by_port i m) (comes_by a h) ≡ false
holds-apart i m h a e = ap (λ (b : Bool). b && rest m h) e

pub fits-named : (o : Option ℕ) (p q : ℕ) → o ≡ Some p → q ≡ p → fits o q ≡ true
fits-named o p q e f = rw (e, f, eq-eqb p p refl) refl

pub fits-other : (o : Option ℕ) (p q : ℕ) → o ≡ Some p → q ≢ p → fits o q ≡ false
fits-other o p q e ne = let n : (p == q) ≡ false = fails (p == q) (λ t. ne (sym (eqb-true p q t))) in rw (e, n) refl
