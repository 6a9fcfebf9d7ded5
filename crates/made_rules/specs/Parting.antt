-- What goes, what comes and what stays of two lists of rules.
use Rattle.std.specs.Prelude.{◌≡◌, List, ◌++◌, Contains, IsPermutation, IsSortedBy, map}
use Rattle.std.specs.Ordering.{is_lt}
use Rattle.rule_ancestry.specs.Holding.{Held}
use Rattle.policy_meaning.specs.Order.{by_ancestry}
use Rattle.policy_meaning.specs.declared.rule.Rule.{Rule}
use Rattle.made_rules.specs.declared.made.Made.{Made}
use Rattle.made_rules.specs.declared.parting.Both.{Both}

-- a rule that stays, as it was, and as it is made anew
abbrev pub was_of : Both → Held Rule
was_of b = record { id = b.id; item = b.made.rule }

abbrev pub is_of : Both → Made
is_of b = b.made

-- none of them is this rule
abbrev pub Differ : List (Held Rule) → Rule → Type 0
Differ olds rule = (h : Held Rule) → Contains olds h → h.item ≡ rule → ⊥

-- no rule of the first list is one of the second
abbrev pub AreApart : List (Held Rule) → List Made → Type 0
AreApart olds mades = (h : Held Rule) (m : Made) → Contains olds h → Contains mades m → h.item ≡ m.rule → ⊥

-- nothing is lost, and no rule both goes and comes
pub record IsToldApart (gone : List (Held Rule)) (come : List Made) (rest : List (Held Rule)) (others : List Made)
    (both : List Both) : Type 0 where
  pub was : IsPermutation gone (rest ++ map was_of both)
  pub is : IsPermutation come (others ++ map is_of both)
  pub apart : AreApart rest others

-- the rules rise as they are listed
abbrev pub OldsRise : List (Held Rule) → Type 0
OldsRise olds = IsSortedBy (λ x y. is_lt (by_ancestry x.item y.item)) olds

abbrev pub MadesRise : List Made → Type 0
MadesRise mades = IsSortedBy (λ x y. is_lt (by_ancestry x.rule y.rule)) mades

-- the same where some of either list, in rising order, are still to be told apart
pub record IsParted (gone : List (Held Rule)) (come : List Made) (left : List (Held Rule)) (right : List Made)
    (rest : List (Held Rule)) (others : List Made) (both : List Both) : Type 0 where
  pub was : IsPermutation gone (left ++ (rest ++ map was_of both))
  pub is : IsPermutation come (right ++ (others ++ map is_of both))
  pub left_rises : OldsRise left
  pub right_rises : MadesRise right
  pub rest_apart : AreApart rest (right ++ others)
  pub others_apart : AreApart left others
