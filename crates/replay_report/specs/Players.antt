-- A replay as contracts see it. What it is made of stays closed to callers, whose proofs would else open the whole
-- machine.
use Rattle.std.specs.Prelude.{◌≡◌, ℕ, true, List, ◌++◌, Option, Some, None, Result, Ok, Err}
use Rattle.hyper_core.specs.Worlds.{rule_count}
use Rattle.policies.specs.Policies.{PolicyOf}
use Rattle.script_text.specs.declared.form.Form.{Form}
use Rattle.replay_report.specs.Playing.{Played}
use Rattle.replay_report.specs.Plays.{stand_in}
use Rattle.replay_report.specs.Reports.{Progress, further}
use Rattle.replay_report.specs.declared.kind.Kind.{Kind}
use Rattle.replay_report.specs.declared.player.Player.{Player}

-- which lines it knows, its policy, and what it reported
unfoldable pub form_of : Player → Form
form_of player = player.form

unfoldable pub plan_of : Player → PolicyOf
plan_of player = player.stage.machine.plan

unfoldable pub reported : Player → List ℕ
reported player = player.stage.report

-- how far it is
unfoldable pub progress_of : Player → Progress
progress_of player = record { number = player.number; size = player.size; stand = stand_in player.stage player.streams }

-- its machine keeps its composed part, so that a line composes only what descends from its changes
unfoldable pub is_ready : Player → Type 0
is_ready player = player.stage.machine.compiled ≡ true

-- how many composed rules the expression of the first virtual switch has
unfoldable pub rules_at : PolicyOf → Progress → ℕ
rules_at p progress = rule_count p progress.stand.state 0

-- a line was done: what it does was reported; or it was not, and nothing is other than it was
abbrev pub Takes : Option Kind → Result Played Kind → ℕ → Progress → Progress → List ℕ → List ℕ → Type 0
Takes None (Ok played) used before after old new =
    (after ≡ further used before played.stand) × (new ≡ old ++ played.text)
Takes (Some kind) (Err other) used before after old new = (kind ≡ other) × (after ≡ before) × (new ≡ old)
Takes None (Err other) used before after old new = ⊥
Takes (Some kind) (Ok played) used before after old new = ⊥
