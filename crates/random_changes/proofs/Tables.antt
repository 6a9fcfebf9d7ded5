-- A table without entries is sound.
use Rattle.std.proofs.Common.{◌≡◌, ◌==◌, ℕ, false, List, [], ◌∷◌, refl, sym, subst, arith}
use Rattle.std.specs.List.{AllByRecursion}
use Rattle.of10_match.specs.Fields.{MatchOf}
use Rattle.of10_match.specs.Matching.{everything, overlaps}
use Rattle.of10_match.specs.Normal.{IsNormal}
use Rattle.policy_meaning.specs.LeafFact.{AreApart, EachPair, IsSoundEntry, IsSoundTable}
use Rattle.policy_meaning.specs.declared.leaf.LeafEntry.{LeafEntry}
use Rattle.policy_meaning.proofs.Normality.{normal-everything}

pub empty-sound : (member : ℕ) (region : List MatchOf) (visible : List ℕ) (entries : List LeafEntry)
    → region ≡ everything ∷ [] → visible ≡ 1 ∷ 2 ∷ 8 ∷ 9 ∷ []
    → entries ≡ []
    → IsSoundTable
    (record { member = member; size = 8; region = region; visible = visible; misses = false; entries = entries })
empty-sound member region visible entries r v e = record {
  apart = subst (λ (z : List LeafEntry). EachPair AreApart z) (sym e) tt;
  entries = subst (λ (z : List LeafEntry). AllByRecursion (IsSoundEntry 8) z) (sym e) tt;
  room = omega arith;
  boxes = subst (λ (z : List MatchOf). AllByRecursion IsNormal z) (sym r) (normal-everything, tt);
  disjoint = subst (λ (z : List MatchOf). EachPair (λ m n. overlaps m n ≡ false) z) (sym r) (tt, tt);
  visible = subst (λ (z : List ℕ). EachPair (λ p q. (q == p) ≡ false) z) (sym v)
      ((refl, (refl, (refl, tt))), ((refl, (refl, tt)), ((refl, tt), (tt, tt))));
}
