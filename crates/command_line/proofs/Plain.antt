-- The test of the words: first each of them, then the form.
use Rattle.std.proofs.Common.{◌≡◌, ◌∙◌, true, false, List, is_some, map, refl}
use Rattle.std.proofs.lemmas.List.Folds.{list_all-map}
use Rattle.std.specs.List.{list_all}
use Rattle.std.specs.String.{string_bytes}
use Rattle.std.specs.declared.alloc.Global.{Global}
use Rattle.std.specs.declared.string.String.{String}
use Rattle.command_line.specs.Forms.{command_of, form_of, is_plain}

pub listed_of_plain : (words : List (String Global)) → list_all (λ word. is_plain (string_bytes word)) words ≡ true
    → is_some (form_of (map string_bytes words)) ≡ is_some (command_of words)
listed_of_plain words h = let e : list_all is_plain (map string_bytes words) ≡ true =
    list_all-map is_plain string_bytes words ∙ h in rw e refl

pub none_of_other : (words : List (String Global)) → list_all (λ word. is_plain (string_bytes word)) words ≡ false
    → false ≡ is_some (command_of words)
none_of_other words h = let e : list_all is_plain (map string_bytes words) ≡ false =
    list_all-map is_plain string_bytes words ∙ h in rw e refl
