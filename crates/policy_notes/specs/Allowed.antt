-- What a key of a policy file may hold, and which keys there are.
use Rattle.std.specs.Prelude.{ℕ, ◌++◌, List, [], ◌∷◌, Option, Some, None, codes, if◌then◌else◌}
use Rattle.std.specs.Str.{bytes_eq}
use Rattle.policies.specs.Showing.{shown}
use Rattle.policy_file.specs.Keys.{Row, item_rows, top_rows}
use Rattle.policy_file.specs.Listed.{may_stand}
use Rattle.policy_file.specs.declared.keys.ItemKind.{ItemKind}
use Rattle.policy_file.specs.declared.keys.ItemKind.TheVariants.{Switch, Cable, Virtual, Link, Member}
use Rattle.policy_file.specs.declared.keys.Version.{Version}
use Rattle.policy_file.specs.declared.keys.Version.TheVariants.{One, Two}

-- the ports that an item lists
unfoldable pub ports_allowed : Option ItemKind → List ℕ
ports_allowed (Some Virtual) = codes "a list of N=SWITCH:PORT or N=link, each once, with N from 1 to 65279"
ports_allowed (Some Member) = codes "a list of ports of the virtual switch, each once"
ports_allowed (Some Switch) = codes "a list of numbers from 1 to 65279, each once"
ports_allowed (Some Cable) = codes "a list of numbers from 1 to 65279, each once"
ports_allowed (Some Link) = codes "a list of numbers from 1 to 65279, each once"
ports_allowed None = codes "a list of numbers from 1 to 65279, each once"

-- what a key that says what a member sees may hold
unfoldable pub allowed_in_rights : List ℕ → List ℕ
allowed_in_rights key =
    if bytes_eq key (codes "match")
    then codes "a list of fields, each once; nw_src and nw_dst may have a prefix of 1 to 32, as nw_dst/24"
    else (if bytes_eq key (codes "misses") then codes "true or false"
    else (if bytes_eq key (codes "packet_out") then codes "true or false"
    else (if bytes_eq key (codes "region")
    then codes "a table of fields; nw_ fields need dl_type, tp_ fields nw_proto too"
    else (if bytes_eq key (codes "regions")
    then codes "a list of 1 to 16 tables of fields, no two of which overlap; nw_ fields need dl_type, tp_ fields nw_proto too"
    else codes "what docs/FORMATS.md says"))))

-- what a key of a member may hold
unfoldable pub allowed_in_member : List ℕ → List ℕ
allowed_in_member key =
    if bytes_eq key (codes "bits") then codes "a number from 2 to 15"
    else (if bytes_eq key (codes "entries") then codes "a number from 1 to 4,096"
    else (if bytes_eq key (codes "controller") then codes "a letter a to z and up to 15 of a to z, 0 to 9 and _"
    else (if bytes_eq key (codes "virtual") then codes "the name of a virtual switch"
    else (if bytes_eq key (codes "actions") then codes "a list of kinds of action, each once"
    else allowed_in_rights key))))

-- what a key of an item may hold
unfoldable pub allowed_in_item : List ℕ → List ℕ
allowed_in_item key =
    if bytes_eq key (codes "name") then codes "a letter a to z and up to 15 of a to z, 0 to 9 and _"
    else (if bytes_eq key (codes "dpid") then codes "a text of 16 hexadecimal digits"
    else (if bytes_eq key (codes "expr") then codes "a text in ASCII, as \"monitor + router\""
    else (if bytes_eq key (codes "a") then codes "a text NAME:PORT, as \"s1:4\""
    else (if bytes_eq key (codes "b") then codes "a text NAME:PORT, as \"s1:4\""
    else allowed_in_member key))))

-- what a key may hold, by its kind of item
unfoldable pub allowed : Option ItemKind → List ℕ → List ℕ
allowed item key =
    if bytes_eq key (codes "version") then codes "1 or 2"
    else (if bytes_eq key (codes "hops") then codes "a number from 1 to 4"
    else (if bytes_eq key (codes "rounds") then codes "a number from 1 to 1,000,000"
    else (if bytes_eq key (codes "listen") then codes "a text of 1 to 64 printable characters, as 127.0.0.1:6633"
    else (if bytes_eq key (codes "standby") then codes "a text of 1 to 64 printable characters, as 10.0.0.2:6653"
    else (if bytes_eq key (codes "address") then codes "a text of 1 to 64 printable characters, as 127.0.0.1:6634"
    else (if bytes_eq key (codes "ports") then ports_allowed item
    else allowed_in_item key))))))

-- the keys that may stand in an item, or in the file itself
abbrev pub rows_in : Option ItemKind → List Row
rows_in (Some kind) = item_rows kind
rows_in None = top_rows

-- each key that may stand in a version, behind a comma and a blank
abbrev pub more_keys : Option Version → List Row → List ℕ
more_keys version [] = []
more_keys version (row ∷ rows) =
    (if may_stand row.only version then codes ", " ++ shown row.key else []) ++ more_keys version rows

-- the first of them without
unfoldable pub keys : Option Version → List Row → List ℕ
keys version [] = []
keys version (row ∷ rows) = shown row.key ++ more_keys version rows

-- in which version
unfoldable pub version_text : Option Version → List ℕ
version_text (Some One) = codes "in version 1 "
version_text (Some Two) = codes "in version 2 "
version_text None = []
