-- Why a line of a script isn't done, in words.
use Rattle.std.specs.Prelude.{◌≡◌, ℕ, List, Option, Some, None, Result, Ok, Err, codes}
use Rattle.script_text.specs.declared.fault.LineFault.{LineFault}
use Rattle.script_text.specs.declared.fault.LineFault.TheVariants as faults
use Rattle.script_text.specs.declared.line.Line.{Line}
use Rattle.replay_report.specs.declared.kind.Kind.{Kind}
use Rattle.replay_report.specs.declared.kind.Kind.TheVariants.{Word, Name, Hex, Number, Unknown, Long, Size}

abbrev pub kind_text : Kind → List ℕ
kind_text Word = codes "word"
kind_text Name = codes "name"
kind_text Hex = codes "hex"
kind_text Number = codes "number"
kind_text Unknown = codes "unknown"
kind_text Long = codes "long"
kind_text Size = codes "size"

-- the kind of a fault of a line; want of memory is none
abbrev pub kind_of : LineFault → Option Kind
kind_of faults.Word = Some Word
kind_of faults.Name = Some Name
kind_of faults.Hex = Some Hex
kind_of faults.Number = Some Number
kind_of faults.Memory = None

-- a line was read so
abbrev pub Reads : Result Line LineFault → Result Line Kind → Type 0
Reads said (Ok line) = said ≡ Ok line
Reads said (Err kind) = (fault : LineFault) × (said ≡ Err fault) × (kind_of fault ≡ Some kind)
