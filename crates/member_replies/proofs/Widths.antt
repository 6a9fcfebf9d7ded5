-- Texts that are filled up to a width.
use Rattle.std.proofs.Common.{◌≡◌, ℕ, List, ◌++◌, length, replicate, arith}
use Rattle.std.proofs.lemmas.List.{length-append, length-replicate, length-take-le}
use Rattle.member_replies.specs.Ports.{filled}

pub length_filled : (width : ℕ) (text : List ℕ) → length (filled width text) ≡ width
length_filled width text =
    length-take-le width (text ++ replicate width 0)
    (omega (arith, length-append text (replicate width 0), length-replicate {A = ℕ} width 0))
