-- How long an address isn't tried.
use Rattle.std.specs.Prelude.{ℕ, ◌*◌, min, nat_lt, if◌then◌else◌}

-- the pause in seconds that follows on one, after a connection that lasted so many seconds: twice as long up to
-- sixteen, or one again
abbrev pub pause_after : (pause lasted : ℕ) → ℕ
pause_after pause lasted = if nat_lt lasted 10 then min (2 * pause) 16 else 1
