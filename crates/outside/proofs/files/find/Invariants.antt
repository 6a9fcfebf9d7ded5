use Rattle.std.proofs.Common.{◌≡◌, drop}
use Rattle.outside.specs.Files.{found}
use Rattle.outside.proofs.files.find.Given as goal

abbrev pub invariant-loop-file : goal.invariant-loop-file
invariant-loop-file l = found l.files l.name ≡ found (drop l.file-index l.files) l.name
