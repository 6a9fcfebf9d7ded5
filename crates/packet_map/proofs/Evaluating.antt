-- What operands give, joined as their operator says.
use Rattle.std.proofs.Common.{◌≡◌, ℕ, List, ◌++◌, Some, refl, ap, ◌∙◌, sym}
use Rattle.std.specs.Prelude.{map}
use Rattle.of10_match.specs.Fields.{HeaderOf}
use Rattle.of10_actions.specs.Fields.{RewriteOf}
use Rattle.of10_actions.specs.Rewriting.{and_then, apply}
use Rattle.of10_actions.specs.declared.effects.Out.{Out}
use Rattle.of10_actions.specs.declared.effects.Tail.TheVariants.{Pass}
use Rattle.policy_expr.specs.Policy.{Policy, parallel, sequential}
use Rattle.policy_meaning.specs.Meaning.{evaluate, out_after}
use Rattle.policy_meaning.specs.Walk.{both_walked, here, walked_after}
use Rattle.policy_meaning.specs.declared.meaning.Meaning.{Meaning}
use Rattle.policy_meaning.specs.declared.walking.Walked.{Walked}
use Rattle.packet_map.specs.Acting.{with_outs}
use Rattle.packet_map.specs.declared.hop.Hop.{Hop}
use Rattle.packet_map.proofs.Giving.{after-further, after-two, given-after, given-append}

module _ (v p : ℕ) (r : RewriteOf) (w w1 w2 : Walked) (xs ys : List Out) where
  -- the right gives on after the left
  pub both-gave : w1 ≡ both_walked w (walked_after r (here v p xs)) → w2 ≡ both_walked w1 (walked_after r (here v p ys))
      → w2 ≡ both_walked w (walked_after r (here v p (xs ++ ys)))
  both-gave e f =
      f ∙ (ap (λ z. both_walked z (walked_after r (here v p ys))) e
      ∙ (after-two w r (here v p xs) (here v p ys)
      ∙ ap (λ z. both_walked w (walked_after r z)) (sym (given-append v (Some p) p xs ys))))

  -- and where it gives on what the left passes to it
  pub further-gave : (s : RewriteOf) → w1 ≡ both_walked w (walked_after r (here v p xs))
      → w2 ≡ both_walked w1 (walked_after (and_then r s) (here v p ys)) →
      w2 ≡ both_walked w (walked_after r (here v p (xs ++ map (out_after s) ys)))
  further-gave s e f =
      f ∙ (ap (λ z. both_walked z (walked_after (and_then r s) (here v p ys))) e
      ∙ (after-further w r s (here v p xs) (here v p ys)
      ∙ ap (λ z. both_walked w (walked_after r z))
      (ap (both_walked (here v p xs)) (sym (given-after v (Some p) p s ys))
      ∙ sym (given-append v (Some p) p xs (map (out_after s) ys)))))

module _ (leaf : ℕ → HeaderOf → Meaning) (a b : Policy) (hop : Hop) (w w1 w2 : Walked) where
  pub sum-gave : w1 ≡ with_outs w hop (evaluate leaf a hop.header).outs
      → w2 ≡ with_outs w1 hop (evaluate leaf b hop.header).outs
      → w2 ≡ with_outs w hop (evaluate leaf (parallel a b) hop.header).outs
  sum-gave f g = both-gave hop.v hop.header.in_port hop.rewrite w w1 w2 (evaluate leaf a hop.header).outs
      (evaluate leaf b hop.header).outs f g

  passed : (s : RewriteOf) → (evaluate leaf a hop.header).tail ≡ Pass s →
      (evaluate leaf a hop.header).outs ++ map (out_after s) (evaluate leaf b (apply s hop.header)).outs
      ≡ (evaluate leaf (sequential a b) hop.header).outs
  passed s t = rw t refl

  pub chain-gave : (next : Hop) (s : RewriteOf) → (evaluate leaf a hop.header).tail ≡ Pass s → next.v ≡ hop.v
      → next.header ≡ apply s hop.header → next.rewrite ≡ and_then hop.rewrite s →
      w1 ≡ with_outs w hop (evaluate leaf a hop.header).outs → w2 ≡ with_outs w1 next (evaluate leaf b next.header).outs
      → w2 ≡ with_outs w hop (evaluate leaf (sequential a b) hop.header).outs
  chain-gave next s t ev eh er f g =
      let same : with_outs w1 next (evaluate leaf b next.header).outs
      ≡ both_walked w1 (walked_after (and_then hop.rewrite s)
      (here hop.v hop.header.in_port (evaluate leaf b (apply s hop.header)).outs)) =
      λ i. both_walked w1 (walked_after (er i) (here (ev i) (eh i).in_port (evaluate leaf b (eh i)).outs)) in
      further-gave hop.v hop.header.in_port hop.rewrite w w1 w2 (evaluate leaf a hop.header).outs
      (evaluate leaf b (apply s hop.header)).outs s f (g ∙ same) ∙ ap (with_outs w hop) (passed s t)
