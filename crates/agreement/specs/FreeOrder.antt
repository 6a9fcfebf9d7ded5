-- In whatever order entries are listed, a switch has the same ones installed, and the same batch is written.
use Rattle.std.specs.Prelude.{◌≡◌, List, IsPermutation}
use Rattle.std.specs.List.{AllByRecursion}
use Rattle.of10_match.specs.Ranges.{IsMatch}
use Rattle.switch_meaning.specs.BatchLaw.{HasNoTwins, HasOneAKey}
use Rattle.switch_meaning.specs.Batches.{difference}
use Rattle.switch_meaning.specs.Keys.{installed}
use Rattle.switch_meaning.specs.declared.entry.PhysEntry.{PhysEntry}

-- what a switch has of entries in another order is the same, in another order
abbrev pub InstalledIsPermuted : Type 0
InstalledIsPermuted = (entries others : List PhysEntry) → HasNoTwins entries → IsPermutation entries others
    → IsPermutation (installed entries) (installed others)

-- the numbers of each match are in their ranges
abbrev pub HaveMatches : List PhysEntry → Type 0
HaveMatches entries = AllByRecursion (λ (e : PhysEntry). IsMatch e.m) entries

-- tables in another order before and after give the same batch, each phase in the same order
abbrev pub BatchIsTheSame : Type 0
BatchIsTheSame =
    (before after first next : List PhysEntry) → HasOneAKey before → HasOneAKey after → HaveMatches before
    → HaveMatches after
    → IsPermutation before first → IsPermutation after next → difference before after ≡ difference first next
