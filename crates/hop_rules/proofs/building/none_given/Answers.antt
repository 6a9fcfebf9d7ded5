use Rattle.std.proofs.Common.{◌≡◌, ◌∙◌, ◌<◌, ◌+◌, [], ℕ, List, ap, length, subst, sym, arith}
use Rattle.std.proofs.lemmas.List.{length_push}
use Rattle.hop_rules.specs.Building.{none_of}
use Rattle.hop_rules.specs.Handed.{GivenOf}
use Rattle.hop_rules.specs.Levels.{given_at, none_given}
use Rattle.hop_rules.specs.declared.exits.Exit.{Exit}
use Rattle.hop_rules.proofs.Numbering.{each-push}
use Rattle.hop_rules.proofs.building.none_given.Goals as goal

pub loop-v-preserved : goal.loop-v-preserved
loop-v-preserved c =
    let inv = c.loop-v.invariant in
    let g = c.new.result in
    let v = c.loop-v.v in
    let is : g ≡ none_of c.args.ends.now v = c.new.ensures
    ∙ ap (λ (es : List Exit). record { exits = es; rules = []; items = [] }) c.in_ok-found.ensures in
    record {
      count = let p = ap length c.in_ok-push.ensures.pushed in let l = length_push c.loop-v.given g in let n =
          inv.count in omega arith;
      each =
          subst (λ (gs : List GivenOf). (k : ℕ) → k < v + 1
          → given_at gs k ≡ none_of c.args.ends.now k) (sym c.in_ok-push.ensures.pushed)
          (each-push none_given (λ k x. x ≡ none_of c.args.ends.now k) c.loop-v.given g v inv.count inv.each is);
    }
