-- Where in a policy file something stands, and its name.
use Rattle.std.specs.Prelude.{ℕ, List, [], ◌∷◌, ◌++◌}
use Rattle.std.specs.Fmt.{decimal}
use Rattle.policy_file.specs.declared.keys.ItemKind.{ItemKind}
use Rattle.policy_file.specs.declared.section.Section.{Section}
use Rattle.policy_file.specs.declared.section.Section.TheVariants.{Top, Item}
use Rattle.policies.specs.Showing.{shown}
use Rattle.policy_file.specs.Keys.{Row, top_rows, item_rows, kind_key}

-- the keys that may stand there
abbrev pub rows_of : Section → List Row
rows_of Top = top_rows
rows_of (Item kind number) = item_rows kind

-- KIND[NUMBER]; `[` is 91, `]` 93
abbrev pub item_name : ItemKind → ℕ → List ℕ
item_name kind number = shown (kind_key kind) ++ (91 ∷ decimal number) ++ (93 ∷ [])

-- the section itself
abbrev pub section_name : Section → List ℕ
section_name Top = []
section_name (Item kind number) = item_name kind number

-- what stands before a key there: nothing, or KIND[NUMBER] and `.` (46)
abbrev pub key_prefix : Section → List ℕ
key_prefix Top = []
key_prefix (Item kind number) = item_name kind number ++ (46 ∷ [])

-- a key there: KEY, or KIND[NUMBER].KEY
abbrev pub key_name : Section → List ℕ → List ℕ
key_name section key = key_prefix section ++ shown key
