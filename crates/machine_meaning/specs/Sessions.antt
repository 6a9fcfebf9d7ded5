-- Sessions by who has them, and what stands on switches.
use Rattle.std.specs.Prelude.{ℕ, Bool, false, ◌==◌, List, [], Option, Some, None, option_map, slice_get, unwrap_or}
use Rattle.std.specs.Option.{option_map_or}
use Rattle.cv_io.specs.declared.leaf.Who.{Who}
use Rattle.cv_io.specs.declared.leaf.Who.TheVariants.{Member, Switch, Audit}
use Rattle.install_plan.specs.declared.written.Written.{Written}
use Rattle.outbox.specs.Outboxes.{OutboxOf}
use Rattle.machine_meaning.specs.States.{MemberOf, State, SwitchOf}

-- the outbox of a member, and of a switch, if the policy has it
abbrev pub member_outbox : State → ℕ → Option OutboxOf
member_outbox s n = option_map (λ (x : MemberOf). x.outbox) (slice_get s.members n)

abbrev pub switch_outbox : State → ℕ → Option OutboxOf
switch_outbox s n = option_map (λ (x : SwitchOf). x.outbox) (slice_get s.switches n)

-- the entries that stand on a switch
abbrev pub standing_of : State → ℕ → List Written
standing_of s n = unwrap_or (slice_get s.standing n) []

-- the outbox of a session, if the policy has it; the audit has no session
abbrev pub outbox_of : State → Who → Option OutboxOf
outbox_of s (Member n) = member_outbox s n
outbox_of s (Switch n) = switch_outbox s n
outbox_of s Audit = None

-- the session is up
abbrev pub is_up : State → Who → Bool
is_up s who = option_map_or (λ (o : OutboxOf). o.up) (outbox_of s who) false

-- the present round of a session
abbrev pub round_of : State → Who → ℕ
round_of s who = option_map_or (λ (o : OutboxOf). o.round) (outbox_of s who) 0

-- who is this member, or this switch
abbrev pub is_member : ℕ → Option Who → Bool
is_member n (Some (Member k)) = k == n
is_member n _ = false

abbrev pub is_switch : ℕ → Option Who → Bool
is_switch n (Some (Switch k)) = k == n
is_switch n _ = false
