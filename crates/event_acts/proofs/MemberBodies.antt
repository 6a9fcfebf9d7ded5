-- How long the bytes of bodies are that can be written.
use Rattle.std.proofs.Common.{◌≡◌, ◌+◌, ◌^◌, ◌<◌, ◌≤◌, ℕ, List, true, length, arith}
use Rattle.std.specs.Prelude.{nat_le}
use Rattle.std.proofs.lemmas.Bool.Decides.{nat_tests}
use Rattle.of10_msgs.specs.Ranges.{CanWrite}
use Rattle.of10_msgs.specs.Spelling.{body_bytes}
use Rattle.of10_msgs.specs.declared.message.Body.TheVariants as bodies

-- the bytes of an echo
pub echo_fits : (bytes : List ℕ) → CanWrite (bodies.EchoRequest bytes) → 8 + length bytes < 2 ^ 16
unfolding body_bytes
echo_fits bytes w = w.fits

-- the bytes of a request for statistics
pub statistics_room : (bytes : List ℕ) → CanWrite (bodies.StatsRequest bytes) → 4 ≤ length bytes
unfolding body_bytes
statistics_room bytes w = let long : nat_le 12 (8 + length bytes) ≡ true = w.long in grind (arith, nat_tests)

pub statistics_fits : (bytes : List ℕ) → CanWrite (bodies.StatsRequest bytes) → length bytes < 4294967296
unfolding body_bytes
statistics_fits bytes w = let fits : 8 + length bytes < 2 ^ 16 = w.fits in omega arith
