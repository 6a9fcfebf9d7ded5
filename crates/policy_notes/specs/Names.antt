-- The name of a fault: that of a top key, as `hops`, of an item, as `member[32]`, or of a key of one, as `member[0].bits`.
use Rattle.std.specs.Prelude.{ℕ, Bool, ◌+◌, ◌==◌, ◌&&◌, List, Option, Some, None, drop, is_none, is_some}
use Rattle.std.specs.Prelude.{if◌then◌else◌}
use Rattle.std.specs.List.{position}
use Rattle.std.specs.Str.{bytes_eq}
use Rattle.policy_file.specs.Keys.{kind_key}
use Rattle.policy_file.specs.declared.keys.ItemKind.{ItemKind}
use Rattle.policy_file.specs.declared.keys.ItemKind.TheVariants.{Switch, Cable, Virtual, Link, Member}

-- where such a byte stands first
abbrev pub first : ℕ → List ℕ → Option ℕ
first byte name = position (λ other. other == byte) name

-- the key: what stands behind the first `.` (46), or all
abbrev pub behind : List ℕ → Option ℕ → List ℕ
behind name (Some at) = drop (at + 1) name
behind name None = name

-- the key in a name
unfoldable pub key_in : List ℕ → List ℕ
key_in name = behind name (first 46 name)

-- it is that of an item itself: there is a `[` (91), and no `.`
unfoldable pub is_item : List ℕ → Bool
is_item name = is_some (first 91 name) && is_none (first 46 name)

-- the kind of item that a top key lists
unfoldable pub kind_named : List ℕ → Option ItemKind
kind_named name =
    if bytes_eq name (kind_key Switch) then Some Switch
    else (if bytes_eq name (kind_key Cable) then Some Cable
    else (if bytes_eq name (kind_key Virtual) then Some Virtual
    else (if bytes_eq name (kind_key Link) then Some Link
    else (if bytes_eq name (kind_key Member) then Some Member
    else None))))

-- a top key lists items of a kind
abbrev pub is_kind : List ℕ → Bool
is_kind name = is_some (kind_named name)
