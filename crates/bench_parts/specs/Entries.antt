-- The entries of a member, each at a rank and a level of its own, by its number.
use Rattle.std.specs.Prelude.{◌≡◌, ℕ, ◌<◌, ◌+◌, ◌^◌, List}
use Rattle.std.specs.List.{AllByRecursion}
use Rattle.of10_actions.specs.Effects.{BuildsUp}
use Rattle.of10_match.specs.Normal.{IsNormal}
use Rattle.policy_meaning.specs.LeafFact.{AreApart, EachPair, IsSoundEntry}
use Rattle.policy_meaning.specs.declared.leaf.LeafEntry.{LeafEntry}

-- how many levels a member has
abbrev pub SIZE : ℕ
SIZE = 131072

-- the entry of a number
pub record IsEntry (number : ℕ) (e : LeafEntry) : Type 0 where
  pub few : number < 2 ^ 16
  pub serial : e.serial ≡ 1 + number
  pub rank : e.rank ≡ 2 + number
  pub level : e.level ≡ 2 + number
  pub is_normal : IsNormal e.m
  pub builds : BuildsUp e.effects

-- entries of different ranks
pub record AreEntries (entries : List LeafEntry) : Type 0 where
  pub sound : AllByRecursion (IsSoundEntry SIZE) entries
  pub apart : EachPair AreApart entries
