use Rattle.std.proofs.Common.{◌≡◌, rules}
use Rattle.std.specs.Cmp.Lexicographic.{slice_cmp}
use Rattle.std.specs.Option.{option_cmp}
use Rattle.std.specs.Ordering.{nat_cmp, ordering_then}
use Rattle.std.specs.declared.cmp.Ordering.{Ordering}
use Rattle.std.specs.declared.cmp.Ordering.TheVariants.{Equal, Greater, Less}
use Rattle.of10_match.specs.Order.{by_bytes}
use Rattle.cv_io.specs.Leaves.{leaf_cmp}
use Rattle.policy_meaning.proofs.rule.Rule.cmp_listed.Goals as goal

-- what the first two decide, a third does not change
decided : (l p b o : Ordering) → o ≡ ordering_then l p → (o ≡ Equal → ⊥) → o ≡ ordering_then l (ordering_then p b)
decided Less p b o e undecided = e
decided Greater p b o e undecided = e
decided Equal Less b o e undecided = e
decided Equal Greater b o e undecided = e
decided Equal Equal b o e undecided = absurd (undecided e)

pub returns-in_default : goal.returns-in_default
returns-in_default c =
    let a = c.args.self.now in
    let b = c.args.other.now in
    let leaves : c.cmp-leaves.result ≡ slice_cmp leaf_cmp a.ancestry b.ancestry = search rules in
    let ports : c.cmp-ports.result ≡ option_cmp nat_cmp a.m.in_port b.m.in_port = search rules in
    decided (slice_cmp leaf_cmp a.ancestry b.ancestry) (option_cmp nat_cmp a.m.in_port b.m.in_port) (by_bytes a.m b.m)
    c.then.result (rw (← leaves, ← ports) c.then.ensures) c.in_default.not-Equal
