-- From the fields of the struct to what contracts see, and back; the ranges of fields.
use Rattle.std.specs.Prelude.{◌<◌, ◌^◌, ◌%◌, ◌≡◌, IfSome}
use Rattle.of10_actions.specs.Fields.{RewriteOf}
use Rattle.of10_actions.specs.declared.rewrite.Rewrite.TheInside as Rewrite

abbrev pub rewrite_view : Rewrite.Inside → RewriteOf
rewrite_view a = record {
  dl_src = a.dl_src;
  dl_dst = a.dl_dst;
  nw_src = a.nw_src;
  nw_dst = a.nw_dst;
  nw_tos = a.nw_tos;
  tp_src = a.tp_src;
  tp_dst = a.tp_dst;
}

abbrev pub rewrite_inside : RewriteOf → Rewrite.Inside
rewrite_inside a = record {
  dl_src = a.dl_src;
  dl_dst = a.dl_dst;
  nw_src = a.nw_src;
  nw_dst = a.nw_dst;
  nw_tos = a.nw_tos;
  tp_src = a.tp_src;
  tp_dst = a.tp_dst;
}

-- the values of a rewrite are in their ranges
pub record RewriteInRange (a : Rewrite.Inside) : Type 0 where
  pub dl_src : IfSome a.dl_src (λ v. v < 2 ^ 48)
  pub dl_dst : IfSome a.dl_dst (λ v. v < 2 ^ 48)
  pub nw_tos : IfSome a.nw_tos (λ v. v % 4 ≡ 0)
