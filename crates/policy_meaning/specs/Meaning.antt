-- What an expression does to a packet, by what its members do.
use Rattle.std.specs.Prelude.{ℕ, ◌||◌, ◌++◌, if◌then◌else◌, map}
use Rattle.of10_match.specs.Fields.{HeaderOf}
use Rattle.of10_actions.specs.Fields.{RewriteOf}
use Rattle.of10_actions.specs.Rewriting.{apply, and_then}
use Rattle.of10_actions.specs.declared.effects.Out.{Out}
use Rattle.of10_actions.specs.declared.effects.Tail.{Tail}
use Rattle.of10_actions.specs.declared.effects.Tail.TheVariants.{Nothing, Pass, Link}
use Rattle.policy_expr.specs.Policy.{Policy, member, parallel, sequential, override}
use Rattle.policy_meaning.specs.declared.meaning.Meaning.{Meaning}

-- an out whose rewrite stands after r
abbrev pub out_after : RewriteOf → Out → Out
out_after r o = record { rewrite = and_then r o.rewrite; dest = o.dest }

-- a tail whose rewrite stands after r
abbrev pub tail_after : RewriteOf → Tail → Tail
tail_after r Nothing = Nothing
tail_after r (Pass s) = Pass (and_then r s)
tail_after r (Link s port) = Link (and_then r s) port

-- both act: the outs of the left, then those of the right; the tail of the right
abbrev pub both_act : Meaning → Meaning → Meaning
both_act a b = record { touched = a.touched || b.touched; outs = a.outs ++ b.outs; tail = b.tail }

-- what a does, where its tail is this: where it passes the packet on, b acts on what r made of it
abbrev pub passed_on : Tail → Meaning → (RewriteOf → Meaning) → Meaning
passed_on Nothing a b = a
passed_on (Link r port) a b = a
passed_on (Pass r) a b = record {
  touched = a.touched;
  outs = a.outs ++ map (out_after r) (b r).outs;
  tail = tail_after r (b r).tail;
}

-- the left acts, then the right on what the left passes on
abbrev pub in_turn : Meaning → (RewriteOf → Meaning) → Meaning
in_turn a b = passed_on a.tail a b

-- the left acts where it is touched, else the right
abbrev pub first_touched : Meaning → Meaning → Meaning
first_touched a b = record {
  touched = a.touched || b.touched;
  outs = if a.touched then a.outs else b.outs;
  tail = if a.touched then a.tail else b.tail;
}

-- what an expression does to the packets of a header, by what each member does
abbrev pub evaluate : (ℕ → HeaderOf → Meaning) → Policy → HeaderOf → Meaning
evaluate leaf (member i) h = leaf i h
evaluate leaf (parallel a b) h = both_act (evaluate leaf a h) (evaluate leaf b h)
evaluate leaf (sequential a b) h = in_turn (evaluate leaf a h) (λ r. evaluate leaf b (apply r h))
evaluate leaf (override a b) h = first_touched (evaluate leaf a h) (evaluate leaf b h)
