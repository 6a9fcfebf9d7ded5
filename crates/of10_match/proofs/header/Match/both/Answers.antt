use Rattle.std.proofs.Common.{◌<◌, ◌^◌, subst, rules}
use Rattle.of10_match.specs.Ranges.{IsMatch, IsVlan, IsTos, IsPrefix}
use Rattle.of10_match.proofs.Meeting.{both_commutes}
use Rattle.of10_match.proofs.Values.{if_some_or, if_some_longer}
use Rattle.of10_match.proofs.header.Match.both.Goals as goal

pub invariant_of-result : goal.invariant_of-result
invariant_of-result c = record {
  in_port = rw c.or.ensures (if_some_or (λ v. v < 2 ^ 16) _ _ c.self.invariant.in_port c.other.invariant.in_port);
  dl_src = rw c.or-2.ensures (if_some_or (λ v. v < 2 ^ 48) _ _ c.self.invariant.dl_src c.other.invariant.dl_src);
  dl_dst = rw c.or-3.ensures (if_some_or (λ v. v < 2 ^ 48) _ _ c.self.invariant.dl_dst c.other.invariant.dl_dst);
  dl_vlan = rw c.or-4.ensures (if_some_or IsVlan _ _ c.self.invariant.dl_vlan c.other.invariant.dl_vlan);
  dl_vlan_pcp =
      rw c.or-5.ensures (if_some_or (λ v. v < 8) _ _ c.self.invariant.dl_vlan_pcp c.other.invariant.dl_vlan_pcp);
  dl_type = rw c.or-6.ensures (if_some_or (λ v. v < 2 ^ 16) _ _ c.self.invariant.dl_type c.other.invariant.dl_type);
  nw_tos = rw c.or-7.ensures (if_some_or IsTos _ _ c.self.invariant.nw_tos c.other.invariant.nw_tos);
  nw_proto = rw c.or-8.ensures (if_some_or (λ v. v < 2 ^ 8) _ _ c.self.invariant.nw_proto c.other.invariant.nw_proto);
  nw_src = rw c.longer.ensures (if_some_longer IsPrefix _ _ c.self.invariant.nw_src c.other.invariant.nw_src);
  nw_dst = rw c.longer-2.ensures (if_some_longer IsPrefix _ _ c.self.invariant.nw_dst c.other.invariant.nw_dst);
  tp_src = rw c.or-9.ensures (if_some_or (λ v. v < 2 ^ 16) _ _ c.self.invariant.tp_src c.other.invariant.tp_src);
  tp_dst = rw c.or-10.ensures (if_some_or (λ v. v < 2 ^ 16) _ _ c.self.invariant.tp_dst c.other.invariant.tp_dst);
}

pub returns-clause-commutes : goal.returns-clause-commutes
returns-clause-commutes c =
    let m = c.args.self.now in
    let n = c.args.other.now in
    both_commutes _ m n c.requires (subst IsMatch c.self.view_is c.self.invariant)
    (subst IsMatch c.other.view_is c.other.invariant) (search rules)
