-- Sessions among members and among switches, by their numbers.
use Rattle.std.specs.Prelude.{ℕ, Bool, false, List, option_map, slice_get}
use Rattle.std.specs.Option.{option_map_or}
use Rattle.outbox.specs.Outboxes.{OutboxOf}
use Rattle.machine_meaning.specs.States.{MemberOf, SwitchOf}

-- the member of a number is up, and its round
abbrev pub is_member_up : List MemberOf → ℕ → Bool
is_member_up members n =
    option_map_or (λ (o : OutboxOf). o.up) (option_map (λ (x : MemberOf). x.outbox) (slice_get members n)) false

abbrev pub member_round : List MemberOf → ℕ → ℕ
member_round members n =
    option_map_or (λ (o : OutboxOf). o.round) (option_map (λ (x : MemberOf). x.outbox) (slice_get members n)) 0

-- the switch of a number is up, and its round
abbrev pub is_switch_up : List SwitchOf → ℕ → Bool
is_switch_up switches n =
    option_map_or (λ (o : OutboxOf). o.up) (option_map (λ (x : SwitchOf). x.outbox) (slice_get switches n)) false

abbrev pub switch_round : List SwitchOf → ℕ → ℕ
switch_round switches n =
    option_map_or (λ (o : OutboxOf). o.round) (option_map (λ (x : SwitchOf). x.outbox) (slice_get switches n)) 0
