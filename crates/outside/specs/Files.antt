-- What is known of files in memory.
use Rattle.std.specs.Prelude.{ℕ, List, [], ◌∷◌, Option, Some, None, if◌then◌else◌}
use Rattle.std.specs.Cmp.Lexicographic.{pointwise}
use Rattle.std.specs.Prelude.{nat_eq}
use Rattle.outside.specs.declared.files.MemFile.{MemFile}

-- the bytes of the first file of a name
abbrev pub found : List MemFile → List ℕ → Option (List ℕ)
found [] name = None
found (file ∷ files) name = if pointwise nat_eq file.name name then Some file.bytes else found files name

-- the files, the calls that are to fail, how many were made and failed
pub record FilesOf : Type 0 where
  pub files : List MemFile
  pub fails : List ℕ
  pub made : ℕ
  pub faults : ℕ
