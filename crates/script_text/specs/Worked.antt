-- The definitions, computed on examples.
use Rattle.std.specs.Prelude.{◌≡◌, ℕ, true, false, List, [], ◌∷◌, Ok, Err, codes}
use Rattle.script_text.specs.Reading.{line_in}
use Rattle.script_text.specs.declared.fault.LineFault.TheVariants.{Word, Name, Hex, Number}
use Rattle.script_text.specs.declared.form.Form.TheVariants.{Replay, Explain, Sim}
use Rattle.script_text.specs.declared.line.Line.TheVariants.{Blank, Up, From, Gone, Tick, Expr, Ask}

-- lines that every form knows
pub record LinesSay : Type 0 where
  pub empty : line_in Replay [] ≡ Ok Blank
  pub comment : line_in Replay (35 ∷ 9 ∷ 255 ∷ []) ≡ Ok Blank
  pub up : line_in Replay (codes "up s1") ≡ Ok (Up (codes "s1") false)
  pub noarp : line_in Replay (codes "up s1 noarp") ≡ Ok (Up (codes "s1") true)
  pub from : line_in Replay (codes "from app@v1 0aF0") ≡ Ok (From (codes "app@v1") (10 ∷ 240 ∷ []))
  pub gone : line_in Replay (codes "gone app@v1") ≡ Ok (Gone (codes "app@v1"))
  pub tick : line_in Replay (codes "tick 10") ≡ Ok (Tick 10)
  pub expr : line_in Replay (codes "expr v1 mon|>rt") ≡ Ok (Expr (codes "v1") (codes "mon|>rt"))

-- the first fault, in the order word, name, hex, number
pub record FaultsInOrder : Type 0 where
  pub words : line_in Replay (codes "up s1 arp") ≡ Err Word
  pub member : line_in Replay (codes "up app@v1 noarp") ≡ Err Word
  pub name : line_in Replay (codes "from S1 0") ≡ Err Name
  pub hex : line_in Replay (codes "from s1 0") ≡ Err Hex
  pub zero : line_in Replay (codes "tick 01") ≡ Err Number

-- what one form knows and another does not
pub record FormsDiffer : Type 0 where
  pub ask : line_in Explain (codes "ask s1:1 00") ≡ Ok (Ask (codes "s1") 1 (0 ∷ []))
  pub not_asked : line_in Replay (codes "ask s1:1 00") ≡ Err Word
  pub switch : line_in Sim (codes "from s1 00") ≡ Err Word
  pub place : line_in Explain (codes "ask s1:01 00") ≡ Err Name
