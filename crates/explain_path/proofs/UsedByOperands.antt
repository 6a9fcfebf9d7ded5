-- The leaves of an expression's best rule are those that it uses.
use Rattle.std.proofs.Common.{◌≡◌, ℕ, ◌+◌, ◌<◌, Bool, true, false, List, [], ◌∷◌, ◌++◌, refl, ap, ap₂, ◌∙◌, arith, sym}
use Rattle.std.proofs.Common.{append-nil}
use Rattle.std.specs.Prelude.{flat_map}
use Rattle.std.specs.List.{AllByRecursion}
use Rattle.of10_match.specs.Fields.{HeaderOf}
use Rattle.of10_match.specs.Matching.{both}
use Rattle.of10_actions.specs.Fields.{RewriteOf}
use Rattle.of10_actions.specs.Rewriting.{apply, no_rewrite}
use Rattle.of10_actions.specs.declared.effects.Tail.{Tail}
use Rattle.of10_actions.specs.declared.effects.Tail.TheVariants.{Nothing, Pass, Link}
use Rattle.alg_priority.specs.Levels.{concat_level, shift_level}
use Rattle.alg_priority.specs.Sizes.{concat_size, shift_size, sum_size}
use Rattle.policy_meaning.specs.Best.{Below, EachAt, Says}
use Rattle.policy_meaning.specs.Meaning.{both_act, first_touched, in_turn}
use Rattle.policy_meaning.specs.Rules.{chains_with, lifted, shifts_with, summed, sums_with}
use Rattle.policy_meaning.specs.declared.meaning.Meaning.{Meaning}
use Rattle.policy_meaning.specs.declared.rule.Rule.{Rule}
use Rattle.policy_meaning.proofs.BestLemmas.{best-append_right, best_most}
use Rattle.policy_meaning.proofs.Chains.{HasNormal, best-alone, best-pass, chain-says, chain_of}
use Rattle.policy_meaning.proofs.Shifts.{best-touched, none-touched, shift-says}
use Rattle.policy_meaning.proofs.Sums.{best-sum, sum-says}
use Rattle.explain_path.specs.Traces.{asked_after, asked_over}
use Rattle.explain_path.specs.Used.{used_leaves}
use Rattle.explain_path.specs.declared.trace.LeafTrace.{LeafTrace}
use Rattle.explain_path.proofs.Leaves.{used-append, used-over}
use Rattle.explain_path.proofs.Unique.{Uses, uses}

-- of `+`
module _ (h : HeaderOf) (xs bs : List Rule) where
  pub sum-uses : (n k : ℕ) (x y : Meaning) (ls bs' : List LeafTrace) → Uses h xs n x (used_leaves ls)
      → Uses h bs k y (used_leaves bs') →
      Uses h (flat_map (sums_with bs) xs) (sum_size n k) (both_act x y) (used_leaves (ls ++ bs'))
  sum-uses n k x y ls bs' p q =
      uses h (flat_map (sums_with bs) xs) (sum_size n k) (both_act x y) (used_leaves (ls ++ bs'))
      (summed p.says.rule q.says.rule (both p.says.rule.m q.says.rule.m))
      (sum-says h xs bs n k x y p.says q.says) (best-sum h xs bs p.says.rule q.says.rule p.says.best q.says.best)
      (ap₂ (λ u v. u ++ v) p.is q.is ∙ sym (used-append ls bs'))

-- a rule without a pass stands alone
lone : (k : ℕ) (bs : List Rule) (x : Rule) → x.tail ≡ Nothing
    → chains_with k bs x ≡ lifted (concat_level x.level 0 k) x ∷ []
lone k bs x e = rw e refl

lone-link : (k : ℕ) (bs : List Rule) (x : Rule) (r : RewriteOf) (o : ℕ) → x.tail ≡ Link r o
    → chains_with k bs x ≡ lifted (concat_level x.level 0 k) x ∷ []
lone-link k bs x r o e = rw e refl

-- of `>>`
module _ (h : HeaderOf) (xs bs : List Rule) (n k : ℕ) (x : Meaning) (y : RewriteOf
    → Meaning) (g : AllByRecursion HasNormal bs) (ls : List LeafTrace) (cs : RewriteOf → List LeafTrace)
    (p : Uses h xs n x (used_leaves ls)) (q : (r : RewriteOf) → Uses (apply r h) bs k (y r) (used_leaves (cs r))) where
  abbrev a : Rule
  a = p.says.rule

  bounded : (r : RewriteOf) → EachAt (apply r h) (Below k) bs
  bounded r = best_most (apply r h) (q r).says.best k (q r).says.below

  positive : 0 < k
  positive = let l = (q no_rewrite).says.below in omega arith

  whole : Says h (flat_map (chains_with k bs) xs) (concat_size n k) (in_turn x y)
  whole = chain-says h xs bs n k x y g p.says (λ r. (q r).says)

  same-tail : (t : Tail) → a.tail ≡ t → x.tail ≡ t
  same-tail t e = ap (λ (m : Meaning). m.tail) (sym p.says.means) ∙ e

  alone : (t : Tail) → a.tail ≡ t → asked_after t cs ≡ []
      → (chains_with k bs a ≡ lifted (concat_level a.level 0 k) a ∷ [])
      → Uses h (flat_map (chains_with k bs) xs) (concat_size n k) (in_turn x y)
      (used_leaves (ls ++ asked_after x.tail cs))
  alone t e none made =
      uses h (flat_map (chains_with k bs) xs) (concat_size n k) (in_turn x y)
      (used_leaves (ls ++ asked_after x.tail cs)) (lifted (concat_level a.level 0 k) a)
      whole (best-alone h k bs g bounded xs a positive made p.says.best)
      (p.is
      ∙ ap used_leaves
      (sym (ap (λ s. ls ++ asked_after s cs) (same-tail t e) ∙ (ap (λ zs. ls ++ zs) none ∙ append-nil ls))))

  by-tail : (t : Tail) → a.tail ≡ t
      → Uses h (flat_map (chains_with k bs) xs) (concat_size n k) (in_turn x y)
      (used_leaves (ls ++ asked_after x.tail cs))
  by-tail Nothing e = alone Nothing e refl (lone k bs a e)
  by-tail (Link r o) e = alone (Link r o) e refl (lone-link k bs a r o e)
  by-tail (Pass r) e =
      uses h (flat_map (chains_with k bs) xs) (concat_size n k) (in_turn x y)
      (used_leaves (ls ++ asked_after x.tail cs)) (chain_of k r a (q r).says.rule)
      whole (best-pass h k bs g bounded xs a (q r).says.rule r e (q r).says.below p.says.best (q r).says.best)
      (ap₂ (λ u v. u ++ v) p.is (q r).is
      ∙ (sym (used-append ls (cs r)) ∙ ap (λ s. used_leaves (ls ++ asked_after s cs)) (sym (same-tail (Pass r) e))))

  pub chain-uses : Uses h (flat_map (chains_with k bs) xs) (concat_size n k) (in_turn x y)
      (used_leaves (ls ++ asked_after x.tail cs))
  chain-uses = by-tail a.tail refl

-- of `|>`
module _ (h : HeaderOf) (xs bs : List Rule) where
  module _ (n k : ℕ) (x y : Meaning) (ls cs : List LeafTrace) (p : Uses h xs n x (used_leaves ls))
      (q : Uses h bs k y (used_leaves cs)) where
    abbrev shifted : List Rule
    shifted = flat_map (shifts_with k) xs ++ bs

    over-whole : Says h shifted (shift_size n k) (first_touched x y)
    over-whole = shift-says h xs bs n k x y p.says q.says

    over-by : (t : Bool) → p.says.rule.touched ≡ t
        → Uses h shifted (shift_size n k) (first_touched x y) (used_leaves (asked_over t ls cs))
    over-by true t =
        uses h shifted (shift_size n k) (first_touched x y) (used_leaves ls)
        (lifted (shift_level p.says.rule.level k) p.says.rule)
        over-whole (best-touched h xs bs k p.says.rule q.says.rule t p.says.best q.says.best q.says.below) p.is
    over-by false t =
        uses h shifted (shift_size n k) (first_touched x y) (used_leaves (asked_over false ls cs)) q.says.rule
        over-whole (best-append_right h (flat_map (shifts_with k) xs)
        (none-touched h xs bs k (Below q.says.rule.level) (p.says.untouched t)) q.says.best)
        (q.is ∙ sym (used-over ls cs))

    pub shift-uses : Uses h shifted (shift_size n k) (first_touched x y) (used_leaves (asked_over x.touched ls cs))
    shift-uses = over-by x.touched (ap (λ (m : Meaning). m.touched) p.says.means)
