use Rattle.std.proofs.Common.{◌<◌, ◌^◌, ◌%◌, ◌≡◌}
use Rattle.of10_actions.proofs.Composing.{if_some_or}
use Rattle.of10_actions.proofs.rewrite.Rewrite.then.Goals as goal

pub invariant_of-result : goal.invariant_of-result
invariant_of-result c = record {
  dl_src = rw c.or.ensures (if_some_or (λ v. v < 2 ^ 48) _ _ c.next.invariant.dl_src c.self.invariant.dl_src);
  dl_dst = rw c.or-2.ensures (if_some_or (λ v. v < 2 ^ 48) _ _ c.next.invariant.dl_dst c.self.invariant.dl_dst);
  nw_tos = rw c.or-5.ensures (if_some_or (λ v. v % 4 ≡ 0) _ _ c.next.invariant.nw_tos c.self.invariant.nw_tos);
}
