-- What the rules of `a >> b` say.
use Rattle.std.proofs.Common.{◌≡◌, ℕ, ◌*◌, ◌<◌, true, List, [], ◌∷◌, Some, refl, ap, ◌∙◌, arith, sym}
use Rattle.std.specs.Prelude.{flat_map}
use Rattle.std.specs.List.{AllByRecursion}
use Rattle.std.proofs.Math.Nat.{mul-le-mul_right}
use Rattle.of10_match.specs.Fields.{HeaderOf}
use Rattle.of10_match.specs.Matching.{holds, overlaps, both}
use Rattle.of10_match.specs.Normal.{IsNormal}
use Rattle.of10_actions.specs.Fields.{RewriteOf}
use Rattle.of10_actions.specs.Rewriting.{apply, no_rewrite}
use Rattle.pull_back.specs.Pulling.{can_pull, pulled}
use Rattle.of10_actions.specs.declared.effects.Tail.{Tail}
use Rattle.of10_actions.specs.declared.effects.Tail.TheVariants.{Nothing, Pass, Link}
use Rattle.alg_priority.specs.Levels.{concat_level}
use Rattle.alg_priority.specs.Sizes.{concat_size}
use Rattle.policy_meaning.specs.Meaning.{in_turn}
use Rattle.policy_meaning.specs.Rules.{chained, chain_rule, chains_by, chains_with, lifted}
use Rattle.policy_meaning.specs.Best.{EachAt, Below, IsBest, first, IsUntouched, Says, meaning_of}
use Rattle.policy_meaning.specs.declared.meaning.Meaning.{Meaning}
use Rattle.policy_meaning.specs.declared.rule.Rule.{Rule}
use Rattle.policy_meaning.proofs.Booleans.{split_and, join_and}
use Rattle.policy_meaning.proofs.BestLemmas.{best_holds, best_most, best_each, at-flat_map, at-filter_map, at-below}
use Rattle.policy_meaning.proofs.BestLemmas.{best-flat_map, best-filter_map}
use Rattle.policy_meaning.proofs.Meeting.{meet_there, meet_holds, some_pulled, is_pulled}
use Rattle.pull_back.proofs.PulledMatches.{holds-pulled}
use Rattle.pull_back.proofs.Normality.{normal-guarded}

-- the rule's match is normal
abbrev pub HasNormal : Rule → Type 0
HasNormal r = IsNormal r.m

-- the rule of two
abbrev pub chain_of : ℕ → RewriteOf → Rule → Rule → Rule
chain_of k r a b = chained k r a b (both a.m (pulled r b.m))

-- what is known of a rule of two that holds a header
pub record Chained (h : HeaderOf) (k : ℕ) (r : RewriteOf) (a x y : Rule) : Type 0 where
  pub left : holds a.m h ≡ true
  pub right : holds x.m (apply r h) ≡ true
  pub is : chain_of k r a x ≡ y
  pub level : y.level ≡ concat_level a.level x.level k

pub chained-holds : (h : HeaderOf) (k : ℕ) (r : RewriteOf) (a x y : Rule) → HasNormal x → chain_rule k r a x ≡ Some y
    → holds y.m h ≡ true → Chained h k r a x y
chained-holds h k r a x y n e t =
    let s : (can_pull r x.m ≡ true) × (overlaps a.m (pulled r x.m) ≡ true)
    × (chain_of k r a x ≡ y) = some_pulled (chained k r a x) a.m x.m r y e in
    let u : holds (both a.m (pulled r x.m)) h ≡ true = ap (λ (z : Rule). holds z.m h) s.2 ∙ t in
    let w = meet_holds a.m (pulled r x.m) h u s.1 in
    record {
      left = w.0;
      right = sym (holds-pulled r x.m h (normal-guarded x.m n))
          ∙ join_and _ _ w.1 s.0;
      is = s.2;
      level = sym (ap (λ (z : Rule). z.level) s.2);
    }

-- the rule of two is there where a header is in both, and holds it
pub chain-there : (h : HeaderOf) (k : ℕ) (r : RewriteOf) (a b : Rule) → HasNormal b → holds a.m h ≡ true
    → holds b.m (apply r h) ≡ true → (chain_rule k r a b ≡ Some (chain_of k r a b))
    × (holds (both a.m (pulled r b.m)) h ≡ true)
chain-there h k r a b n p q =
    let s = split_and (holds (pulled r b.m) h) (can_pull r b.m) (holds-pulled r b.m h (normal-guarded b.m n) ∙ q) in
    let m = meet_there a.m (pulled r b.m) h p s.0 in
    (is_pulled (chained k r a b) a.m b.m r s.1 m.1, m.0)

-- a level in the high part
pub high : (x n k y : ℕ) → x < n → y < k → concat_level x y k < n * k
high x n k y p q = let e = mul-le-mul_right k p in omega arith

module _ (h : HeaderOf) (k : ℕ) (bs : List Rule) (g : AllByRecursion HasNormal bs) (all : (r : RewriteOf)
    → EachAt (apply r h) (Below k) bs) where
  -- what one rule of the left operand makes
  chain-part : (x : Rule) (P : Rule → Type 0) →
      (holds x.m h ≡ true → P (lifted (concat_level x.level 0 k) x)) →
      ((r : RewriteOf) (b y : Rule) → Chained h k r x b y → b.level < k → P y) → (t : Tail)
      → EachAt h P (chains_by t k bs x)
  chain-part x P lone chain Nothing = (lone, tt)
  chain-part x P lone chain (Link r p) = (lone, tt)
  chain-part x P lone chain (Pass r) =
      at-filter_map h (apply r h) (chain_rule k r x) HasNormal (Below k) P bs
      (λ b y gb e t low. let c = chained-holds h k r x b y gb e t in chain r b y c (low c.right)) g (all r)

  -- all that a lower rule makes is lower
  chain-lower : (n : ℕ) (x : Rule) → 0 < k → (holds x.m h ≡ true → x.level < n)
      → EachAt h (Below (n * k)) (chains_with k bs x)
  chain-lower n x pos lt =
      chain-part x (Below (n * k)) (λ e. high x.level n k 0 (lt e) pos)
      (λ r b y c l. let at = c.level in let up = high x.level n k b.level (lt c.left) l in omega arith) x.tail

  untouched-chain : (xs : List Rule) → EachAt h IsUntouched xs → EachAt h IsUntouched (flat_map (chains_with k bs) xs)
  untouched-chain xs u =
      at-flat_map h IsUntouched IsUntouched (chains_with k bs) xs
      (λ x ux. chain-part x IsUntouched ux (λ r b y c l. sym (ap (λ (z : Rule). z.touched) c.is) ∙ ux c.left) x.tail) u

  -- a best rule without a pass stands alone
  pub best-alone : (xs : List Rule) (a : Rule) → 0 < k → chains_with k bs a ≡ lifted (concat_level a.level 0 k) a ∷ []
      → IsBest h xs a → IsBest h (flat_map (chains_with k bs) xs) (lifted (concat_level a.level 0 k) a)
  best-alone xs a pos e p =
      best-flat_map h (chains_with k bs) (lifted (concat_level a.level 0 k) a) (rw e (first (best_holds h p) tt))
      (λ x lt. at-below h (a.level * k) (concat_level a.level 0 k) (chains_with k bs x) (omega arith)
      (chain-lower a.level x pos lt)) p

  -- a best rule with a pass is joined with the best one for the rewritten header
  pub best-pass : (xs : List Rule) (a b : Rule) (r : RewriteOf) → a.tail ≡ Pass r → b.level < k → IsBest h xs a
      → IsBest (apply r h) bs b → IsBest h (flat_map (chains_with k bs) xs) (chain_of k r a b)
  best-pass xs a b r e lt p q =
      let there = chain-there h k r a b (best_each (apply r h) HasNormal q g) (best_holds h p)
      (best_holds (apply r h) q) in
      best-flat_map h (chains_with k bs) (chain_of k r a b)
      (rw e (best-filter_map h (apply r h) (chain_rule k r a) HasNormal (chain_of k r a b) there.0 there.1
      (λ x y gx u t low. let c = chained-holds h k r a x y gx u t in let l : x.level < b.level = low c.right in let at =
      c.level in omega arith) g q))
      (λ x low. at-below h (a.level * k) (concat_level a.level b.level k) (chains_with k bs x) (omega arith)
      (chain-lower a.level x (omega arith) low))
      p

module _ (h : HeaderOf) (xs bs : List Rule) (n k : ℕ) (x : Meaning) (y : RewriteOf
    → Meaning) (g : AllByRecursion HasNormal bs) (p : Says h xs n x) (q : (r : RewriteOf)
    → Says (apply r h) bs k (y r)) where
  bounded : (r : RewriteOf) → EachAt (apply r h) (Below k) bs
  bounded r = best_most (apply r h) (q r).best k (q r).below

  positive : 0 < k
  positive = let l = (q no_rewrite).below in omega arith

  says-alone : (chains_with k bs p.rule ≡ lifted (concat_level p.rule.level 0 k) p.rule ∷ [])
      → (in_turn (meaning_of p.rule) y ≡ meaning_of p.rule)
      → Says h (flat_map (chains_with k bs) xs) (concat_size n k) (in_turn x y)
  says-alone e m = record {
    rule = lifted (concat_level p.rule.level 0 k) p.rule;
    best = best-alone h k bs g bounded xs p.rule positive e p.best;
    below = high p.rule.level n k 0 p.below positive;
    means = rw (← p.means) (sym m);
    untouched = λ u. untouched-chain h k bs g bounded xs (p.untouched u);
  }

  says-by : (t : Tail) → p.rule.tail ≡ t → Says h (flat_map (chains_with k bs) xs) (concat_size n k) (in_turn x y)
  says-by Nothing e = says-alone (rw e) (rw e)
  says-by (Link r o) e = says-alone (rw e) (rw e)
  says-by (Pass r) e = record {
    rule = chain_of k r p.rule (q r).rule;
    best = best-pass h k bs g bounded xs p.rule (q r).rule r e (q r).below p.best (q r).best;
    below = high p.rule.level n k (q r).rule.level p.below (q r).below;
    means = rw (← p.means, e, ← (q r).means);
    untouched = λ u. untouched-chain h k bs g bounded xs (p.untouched u);
  }

  pub chain-says : Says h (flat_map (chains_with k bs) xs) (concat_size n k) (in_turn x y)
  chain-says = says-by p.rule.tail refl
