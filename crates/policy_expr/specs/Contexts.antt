-- The program's state of reading, seen as policies.
use Rattle.std.specs.Prelude.{Option, map, reverse}
use Rattle.std.specs.Option.{option_map}
use Rattle.policy_expr.specs.declared.context.Pending as pending
use Rattle.policy_expr.specs.declared.context.Context as context
use Rattle.policy_expr.specs.declared.context.Progress as progress
use Rattle.policy_expr.specs.declared.context.Parsed as parsed
use Rattle.policy_expr.specs.Policy.{Policy, policy_of}
use Rattle.policy_expr.specs.Reading.{Pending, State, Read}

-- what is pending
abbrev pub pending_of : pending.Pending → Pending
pending_of f = record {
  over = option_map policy_of f.over;
  par = option_map policy_of f.par;
  seq = option_map policy_of f.seq;
}

-- the state round an operand; the vector has the innermost parenthesis last
abbrev pub state_at : context.Context → Option Policy → State
state_at c operand = record {
  outside = reverse (map pending_of c.outside.items);
  inside = pending_of c.inside;
  operand = operand;
  names = c.names;
}

-- the state of reading
abbrev pub state_of : progress.Progress → State
state_of p = state_at p.context (option_map policy_of p.operand)

-- what was parsed
abbrev pub read_of : parsed.Parsed → Read
read_of p = record { policy = policy_of p.expr; names = p.names }
