-- The internet checksum (RFC 1071): the complement of the one's complement sum of words of 16 bits, and how
-- it is mended where words change (RFC 1624).
use Rattle.std.specs.Prelude.{ℕ, zero, suc, ◌+◌, ◌-◌, ◌%◌, ◌≡◌, ◌==◌, List, if◌then◌else◌}
use Rattle.pkt_bytes.specs.Numbers.{number_at}

-- the one's complement sum of words whose plain sum this is: 0 for 0 alone, else from 1 to 65535, equal
-- to it modulo 65535
unfoldable pub ones_sum : ℕ → ℕ
ones_sum total = if total == 0 then 0 else (total - 1) % 65535 + 1

-- the complement of a word
abbrev pub complement : ℕ → ℕ
complement word = 65535 - word

-- what a word that changes adds to a sum: the complement of the old one, and the new one
unfoldable pub change : ℕ → ℕ → ℕ
change old new = if old == new then 0 else complement old + new

-- a checksum after changes that add this much: the complement of the sum of its complement and of them
unfoldable pub mended : ℕ → ℕ → ℕ
mended checksum changes = complement (ones_sum (complement checksum + changes))

-- the plain sum of n words from a place
abbrev pub words_sum : ℕ → ℕ → List ℕ → ℕ
words_sum place zero bytes = 0
words_sum place (suc n) bytes = number_at place 2 bytes + words_sum (place + 2) n bytes

-- words that hold a right checksum: their one's complement sum has no zero bit
abbrev pub IsRight : ℕ → Type 0
IsRight total = ones_sum total ≡ 65535
