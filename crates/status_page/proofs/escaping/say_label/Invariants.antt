use Rattle.std.proofs.Common.{◌≡◌, ◌++◌, take}
use Rattle.std.specs.List.{flat_map}
use Rattle.status_page.specs.Escaping.{label_of}
use Rattle.status_page.proofs.escaping.say_label.Given as goal

abbrev pub invariant-loop-byte : goal.invariant-loop-byte
invariant-loop-byte l = l.text ≡ l.fn.text ++ flat_map label_of (take l.byte-index l.byte-items)
