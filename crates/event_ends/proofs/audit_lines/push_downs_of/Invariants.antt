use Rattle.std.proofs.Common.{◌≡◌, ◌++◌, drop, map}
use Rattle.std.specs.Prelude.{◌==◌, filter}
use Rattle.member_replies.specs.Audit.{down_line}
use Rattle.machine_meaning.specs.declared.said.Down.{Down}
use Rattle.event_ends.proofs.audit_lines.push_downs_of.Given as goal

-- the lines so far, and those of the rounds that are left
abbrev pub invariant-loop-down : goal.invariant-loop-down
invariant-loop-down l =
    l.lines ++ map (λ (x : Down). down_line l.name x.cause)
    (filter (λ (x : Down). x.switch == l.n) (drop l.down-index l.downs))
    ≡ l.fn.lines ++ map (λ (x : Down). down_line l.name x.cause) (filter (λ (x : Down). x.switch == l.n) l.downs)
