-- The tag of a frame (IEEE 802.1Q): 8100 and two bytes more, behind the addresses.
use Rattle.std.specs.Prelude.{ℕ, ◌==◌, ◌&&◌, nat_le, List, [], ◌++◌, length, take, drop, Option, Some, None}
use Rattle.std.specs.Prelude.{if◌then◌else◌}
use Rattle.byteorder.specs.Endian.{big_bytes, big_from}

-- what the tag says, if it is whole
abbrev pub tag_in : List ℕ → Option ℕ
tag_in frame = if nat_le 16 (length frame) && (big_from 12 2 frame == 0x8100) then Some (big_from 14 2 frame) else None

-- where what follows the addresses and the tag begins
abbrev pub start : Option ℕ → ℕ
start None = 12
start (Some tag) = 16

-- what follows the addresses and the tag
abbrev pub behind : List ℕ → List ℕ
behind frame = drop (start (tag_in frame)) frame

-- the bytes of a tag, if there is one
abbrev pub tag_bytes : Option ℕ → List ℕ
tag_bytes None = []
tag_bytes (Some tag) = big_bytes 2 0x8100 ++ big_bytes 2 tag

-- the frame with this tag in the place of its own, or without one
abbrev pub with_tag : Option ℕ → List ℕ → List ℕ
with_tag tag frame = (take 12 frame ++ tag_bytes tag) ++ behind frame
