-- The definitions, computed on examples.
use Rattle.std.specs.Prelude.{◌≡◌}
use Rattle.op_compose.specs.Composition.{joined_level, alone_level}
use Rattle.op_compose.specs.declared.op.Op.TheVariants.{Par, Seq, Over, Hop}
use Rattle.op_compose.specs.declared.op.Side.TheVariants.{Left, Right}

-- levels of pairs and of lone rules, where the right operand has eight levels, or the peers' nodes have 512
pub record LevelsOfRules : Type 0 where
  pub both : joined_level Par 4 6 8 ≡ 10
  pub passed : joined_level Seq 4 4 8 ≡ 36
  pub crossed : joined_level Hop 4 288 512 ≡ 2336
  pub passed_alone : alone_level Seq Left 1 8 ≡ 8
  pub above : alone_level Over Left 4 8 ≡ 12
  pub below : alone_level Over Right 4 8 ≡ 4
  pub ended : alone_level Hop Left 1 512 ≡ 512
