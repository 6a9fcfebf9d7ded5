-- The oldest of the host that has most, found by one look at each stranger.
use Rattle.std.proofs.Common.{ℕ, ◌+◌, ◌<◌, ◌≤◌, List, arith}
use Rattle.std.proofs.lemmas.List.Sums.{best_keeps, best_none, best_takes}
use Rattle.switch_arrivals.specs.Strangers.{IsCrowdOf, IsCrowdingAmong, crowd}
use Rattle.switch_arrivals.specs.declared.strangers.Stranger.{Stranger}

module _ {C : Type 0} where
  pub begins : (xs : List (Stranger C)) → IsCrowdingAmong xs 1 0
  begins xs = best_none (λ (s : Stranger C). crowd xs s.host) xs

  pub takes : (xs : List (Stranger C)) (many place size most : ℕ) → IsCrowdingAmong xs many place
      → IsCrowdOf xs many size → IsCrowdOf xs place most → most < size → IsCrowdingAmong xs (many + 1) many
  takes xs many place size most best last former more =
      best_takes (λ (s : Stranger C). crowd xs s.host) xs many place best
      (λ d. let a = last d in let b = former d in omega arith)

  pub keeps : (xs : List (Stranger C)) (many place size most : ℕ) → IsCrowdingAmong xs many place
      → IsCrowdOf xs many size → IsCrowdOf xs place most → size ≤ most → IsCrowdingAmong xs (many + 1) place
  keeps xs many place size most best last former less =
      best_keeps (λ (s : Stranger C). crowd xs s.host) xs many place best
      (λ d. let a = last d in let b = former d in omega arith)
