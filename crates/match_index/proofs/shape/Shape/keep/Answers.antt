use Rattle.std.proofs.Common.{◌≡◌, ◌<◌, ◌^◌, ℕ, Bool, true, false, Option, IfSome, subst, sym}
use Rattle.of10_match.specs.Normal.{kept}
use Rattle.of10_match.specs.Ranges.{IsTos, IsVlan}
use Rattle.match_index.proofs.shape.Shape.keep.Goals as goal

kept_in : (P : ℕ → Type 0) (b : Bool) (x r : Option ℕ) → r ≡ kept b x → IfSome x P → IfSome r P
kept_in P b x r e h = let Q : Option ℕ → Type 0 = λ o. IfSome o P in subst Q (sym e) (by b)
  where
    by : (c : Bool) → IfSome (kept c x) P
    by true = h
    by false = tt

pub invariant_of-result : goal.invariant_of-result
invariant_of-result c = record {
  in_port = kept_in (λ v. v < 2 ^ 16) _ _ _ c.kept.ensures c.m.invariant.in_port;
  dl_src = kept_in (λ v. v < 2 ^ 48) _ _ _ c.kept-2.ensures c.m.invariant.dl_src;
  dl_dst = kept_in (λ v. v < 2 ^ 48) _ _ _ c.kept-3.ensures c.m.invariant.dl_dst;
  dl_vlan = kept_in IsVlan _ _ _ c.kept-4.ensures c.m.invariant.dl_vlan;
  dl_vlan_pcp = kept_in (λ v. v < 8) _ _ _ c.kept-5.ensures c.m.invariant.dl_vlan_pcp;
  dl_type = kept_in (λ v. v < 2 ^ 16) _ _ _ c.kept-6.ensures c.m.invariant.dl_type;
  nw_tos = kept_in IsTos _ _ _ c.kept-7.ensures c.m.invariant.nw_tos;
  nw_proto = kept_in (λ v. v < 2 ^ 8) _ _ _ c.kept-8.ensures c.m.invariant.nw_proto;
  nw_src = c.shortened.ensures.in_range;
  nw_dst = c.shortened-2.ensures.in_range;
  tp_src = kept_in (λ v. v < 2 ^ 16) _ _ _ c.kept-9.ensures c.m.invariant.tp_src;
  tp_dst = kept_in (λ v. v < 2 ^ 16) _ _ _ c.kept-10.ensures c.m.invariant.tp_dst;
}
