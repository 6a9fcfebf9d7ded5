-- Of some rules at most one is best for a header.
use Rattle.std.proofs.Common.{◌≡◌, ℕ, ◌<◌, List, refl, arith}
use Rattle.cv_io.specs.declared.leaf.Leaf.{Leaf}
use Rattle.of10_match.specs.Fields.{HeaderOf}
use Rattle.policy_meaning.specs.Best.{Below, IsBest, Says, first, later}
use Rattle.policy_meaning.specs.declared.meaning.Meaning.{Meaning}
use Rattle.policy_meaning.specs.declared.rule.Rule.{Rule}
use Rattle.policy_meaning.proofs.BestLemmas.{At, best_each, best_holds}

module _ (h : HeaderOf) where
  -- a best rule below one that is above all is none
  above : {rs : List Rule} {r s : Rule} → IsBest h rs s → r.level < s.level → (s.level < r.level) → r ≡ s
  above p a b = absurd (omega arith)

  pub unique : {rs : List Rule} {r s : Rule} → IsBest h rs r → IsBest h rs s → r ≡ s
  unique (first e b) (first f c) = refl
  unique (first {r = r} e b) (later {r = s} lt q) =
      above q (lt e) (best_each h (At h (Below r.level)) q b (best_holds h q))
  unique (later {r = r} {x = x} lt p) (first f c) =
      absurd (let l = lt f in let m = best_each h (At h (Below x.level)) p c (best_holds h p) in omega arith)
  unique (later lt p) (later mt q) = unique p q

-- what rules say of a header, and the leaves of the best one
pub record Uses (h : HeaderOf) (rules : List Rule) (size : ℕ) (meaning : Meaning) (leaves : List Leaf) : Type 0 where
  pub says : Says h rules size meaning
  pub is : says.rule.ancestry ≡ leaves

-- where these are the leaves of some best rule
pub uses : (h : HeaderOf) (rules : List Rule) (size : ℕ) (meaning : Meaning) (leaves : List Leaf) (r : Rule)
    → Says h rules size meaning → IsBest h rules r → r.ancestry ≡ leaves → Uses h rules size meaning leaves
uses h rules size meaning leaves r s b e = record { says = s; is = rw (unique h s.best b) e }
