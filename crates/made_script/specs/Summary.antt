-- The one line that tells what a made script gave.
use Rattle.std.specs.Prelude.{ℕ, List, ◌++◌, codes, decimal}
use Rattle.made_script.specs.declared.summary.Summary.{Summary}

abbrev pub summary_text : Summary → List ℕ
summary_text s =
    codes "make lines=" ++ (decimal s.lines ++ (codes " accepted=" ++ (decimal s.accepted
    ++ (codes " rules=" ++ (decimal s.rules ++ (codes " sent=" ++ decimal s.sent))))))
