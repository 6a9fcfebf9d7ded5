-- Which headers are in the rule of a pair.
use Rattle.std.specs.Prelude.{◌≡◌, ◌&&◌, IsTrue}
use Rattle.of10_match.specs.Fields.{HeaderOf, MatchOf}
use Rattle.of10_match.specs.Matching.{holds}
use Rattle.of10_match.specs.Ranges.{IsHeader}
use Rattle.of10_actions.specs.Rewriting.{apply}
use Rattle.of10_actions.specs.declared.effects.Tail.{Tail}
use Rattle.of10_actions.specs.declared.effects.Tail.TheVariants.{Nothing, Pass, Link}
use Rattle.policy_meaning.specs.Hops.{without_port}
use Rattle.policy_meaning.specs.declared.rule.Rule.{Rule}
use Rattle.op_compose.specs.declared.op.Op.{Op}
use Rattle.op_compose.specs.declared.op.Op.TheVariants.{Par, Seq, Over, Hop}

-- the header after a tail's rewrite
abbrev pub after_tail : Tail → HeaderOf → HeaderOf
after_tail Nothing h = h
after_tail (Pass r) h = apply r h
after_tail (Link r p) h = apply r h

-- the header of the left rule as the right one gets it
abbrev pub onward : Op → Tail → HeaderOf → HeaderOf
onward Par t h = h
onward Seq t h = after_tail t h
onward Over t h = h
onward Hop t h = after_tail t h

-- what the right rule asks of it: over a link it comes by the peer's port, whichever port the packet came by
abbrev pub asked : Op → MatchOf → MatchOf
asked Par m = m
asked Seq m = m
asked Over m = m
asked Hop m = without_port m

-- some header of the left rule is in the right one, as that gets it
pub record SomeIsInBoth (op : Op) (a b : Rule) : Type 0 where
  pub header : HeaderOf
  pub is_header : IsHeader header
  pub in_left : IsTrue (holds a.m header)
  pub in_right : IsTrue (holds (asked op b.m) (onward op a.tail header))

-- a rule holds the headers of the left that are in the right, as that gets them, and no others
abbrev pub HoldsBoth : Op → Rule → Rule → Rule → Type 0
HoldsBoth op a b r = (h : HeaderOf) → holds r.m h ≡ (holds a.m h && holds (asked op b.m) (onward op a.tail h))
