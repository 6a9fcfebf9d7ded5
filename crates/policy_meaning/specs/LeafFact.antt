-- The rules of a member's table mean what the table means.
use Rattle.std.specs.Prelude.{◌≡◌, ℕ, ◌<◌, true, false, ◌==◌, List, [], ◌∷◌}
use Rattle.std.specs.List.{AllByRecursion}
use Rattle.of10_match.specs.Fields.{HeaderOf}
use Rattle.of10_match.specs.Matching.{overlaps}
use Rattle.of10_match.specs.Normal.{IsNormal}
use Rattle.of10_actions.specs.Effects.{BuildsUp}
use Rattle.policy_meaning.specs.Leaf.{leaf_meaning, has_port}
use Rattle.policy_meaning.specs.LeafRules.{leaf_rules}
use Rattle.policy_meaning.specs.Best.{IsSound, Says}
use Rattle.policy_meaning.specs.declared.leaf.LeafEntry.{LeafEntry}
use Rattle.policy_meaning.specs.declared.leaf.LeafTable.{LeafTable}

-- two entries of one rank don't overlap, and levels keep the order of ranks
pub record AreApart (d e : LeafEntry) : Type 0 where
  pub disjoint : d.rank ≡ e.rank → overlaps d.m e.m ≡ false
  pub up : d.rank < e.rank → d.level < e.level
  pub down : e.rank < d.rank → e.level < d.level

-- an entry's level is from 2 to one less than the size, its match is normal, and one list of actions makes its effects
pub record IsSoundEntry (size : ℕ) (e : LeafEntry) : Type 0 where
  pub above : 1 < e.level
  pub below : e.level < size
  pub is_normal : IsNormal e.m
  pub builds : BuildsUp e.effects

-- each two of these are so
abbrev pub EachPair : {A : Type 0} → (A → A → Type 0) → List A → Type 0
EachPair P [] = Unit {0}
EachPair P (x ∷ xs) = AllByRecursion (P x) xs × EachPair P xs

-- what is asked of a member's table
pub record IsSoundTable (t : LeafTable) : Type 0 where
  pub apart : EachPair AreApart t.entries
  pub entries : AllByRecursion (IsSoundEntry t.size) t.entries
  pub room : 1 < t.size
  -- the boxes of the region are normal and don't overlap
  pub boxes : AllByRecursion IsNormal t.region
  pub disjoint : EachPair (λ m n. overlaps m n ≡ false) t.region
  -- no port is named twice
  pub visible : EachPair (λ p q. (q == p) ≡ false) t.visible

-- for every header that comes by a port of the virtual switch
abbrev pub LeafFact : Type 0
LeafFact =
    (ports : List ℕ) (t : LeafTable) → IsSoundTable t → (h : HeaderOf) → has_port ports h.in_port ≡ true
    → Says h (leaf_rules ports t) t.size (leaf_meaning t h)

-- and each rule is sound
abbrev pub LeafRulesAreSound : Type 0
LeafRulesAreSound = (ports : List ℕ) (t : LeafTable) → IsSoundTable t → AllByRecursion IsSound (leaf_rules ports t)
