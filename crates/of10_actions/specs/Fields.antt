-- What contracts see of a rewrite: a plain record of numbers.
use Rattle.std.specs.Prelude.{ℕ, Option}

-- a rewrite
pub record RewriteOf : Type 0 where
  pub dl_src : Option ℕ
  pub dl_dst : Option ℕ
  pub nw_src : Option ℕ
  pub nw_dst : Option ℕ
  pub nw_tos : Option ℕ
  pub tp_src : Option ℕ
  pub tp_dst : Option ℕ
