-- Keys that aren't listed, and keys that are missing.
use Rattle.std.specs.Prelude.{ℕ, ℤ, pos, ◌==◌, ◌&&◌, not, Bool, true, false, codes, is_none, List, [], ◌∷◌, Option}
use Rattle.std.specs.Prelude.{Some, None, if◌then◌else◌, option_and_then, option_map, unwrap_or}
use Rattle.std.specs.List.{enumerate_from, list_any}
use Rattle.std.specs.Option.{option_or}
use Rattle.toml.specs.Data.{Data, string, integer, float, boolean, datetime, array, table, as_integer, Members}
use Rattle.toml.specs.Data.{get_member, same_key}
use Rattle.virtual_topology.specs.Faults.{first_answer}
use Rattle.policies.specs.declared.fault.PolicyFault.{PolicyFault}
use Rattle.policies.specs.declared.fault.PolicyFault.TheVariants as faults
use Rattle.policy_file.specs.declared.keys.ItemKind.{ItemKind}
use Rattle.policy_file.specs.declared.keys.Version.{Version}
use Rattle.policy_file.specs.declared.keys.Version.TheVariants.{One, Two}
use Rattle.policy_file.specs.declared.section.Section.{Section}
use Rattle.policy_file.specs.declared.section.Section.TheVariants.{Top, Item}
use Rattle.policy_file.specs.Documents.{as_list, keys_in}
use Rattle.policy_file.specs.Keys.{Row, kind_key, item_kinds}
use Rattle.policy_file.specs.Sections.{rows_of, key_name}

-- a version by its number
abbrev pub version_at : ℕ → Option Version
version_at n = if n == 1 then Some One else if n == 2 then Some Two else None

abbrev pub version_of_number : ℤ → Option Version
version_of_number (pos n) = version_at n
version_of_number _ = None

abbrev pub version : Data → Option Version
version d = option_and_then version_of_number (as_integer d)

-- the version that a file is in, if it names one
abbrev pub version_of : Members → Option Version
version_of file = option_and_then version (get_member (codes "version") file)

-- the values that a top key lists
abbrev pub listed : Option Data → List Data
listed d = unwrap_or (option_and_then as_list d) []

abbrev pub items : Members → ItemKind → List Data
items file kind = listed (get_member (kind_key kind) file)

abbrev pub same_version : Version → Version → Bool
same_version One One = true
same_version Two Two = true
same_version One Two = false
same_version Two One = false

-- a key of one version may stand in that one alone; where the file names no version, both versions' keys may
abbrev pub may_stand : Option Version → Option Version → Bool
may_stand (Some only) (Some version) = same_version only version
may_stand None version = true
may_stand (Some only) None = true

abbrev pub is_row : Option Version → List ℕ → Row → Bool
is_row version key row = same_key row.key key && may_stand row.only version

abbrev pub is_listed : List Row → Option Version → List ℕ → Bool
is_listed rows version key = list_any (is_row version key) rows

-- a key that isn't listed
abbrev pub unlisted_key : Section → Option Version → List ℕ → Option PolicyFault
unlisted_key section version key = if is_listed (rows_of section) version key then None
    else Some (faults.Key (key_name section key))

abbrev pub unlisted : Option Version → Section → Members → Option PolicyFault
unlisted version section ms = first_answer (unlisted_key section version) (keys_in ms)

-- a key that has to stand and doesn't
abbrev pub missing_row : Section → Members → Row → Option PolicyFault
missing_row section ms row = if row.needed && is_none (get_member row.key ms)
    then Some (faults.Missing (key_name section row.key)) else None

abbrev pub missing : Section → Members → Option PolicyFault
missing section ms = first_answer (missing_row section ms) (rows_of section)

-- of an item that is a table; another is looked at later
abbrev pub of_table : (Members → Option PolicyFault) → Data → Option PolicyFault
of_table fault (table ms) = fault ms
of_table fault _ = None

-- the first fault of items of a kind
abbrev pub in_item : (Section → Members → Option PolicyFault) → ItemKind → ℕ × Data → Option PolicyFault
in_item fault kind i = of_table (fault (Item kind i.0)) i.1

abbrev pub among_items : (Section → Members → Option PolicyFault) → ItemKind → List Data → Option PolicyFault
among_items fault kind ds = first_answer (in_item fault kind) (enumerate_from 0 ds)

abbrev pub in_items : (Section → Members → Option PolicyFault) → Members → ItemKind → Option PolicyFault
in_items fault file kind = among_items fault kind (items file kind)

-- the first fault of the file itself and then of its items
abbrev pub in_file : (Section → Members → Option PolicyFault) → Members → Option PolicyFault
in_file fault file = option_or (fault Top file) (first_answer (in_items fault file) item_kinds)

-- 2: the first key that isn't listed
abbrev pub unlisted_in : Members → Option PolicyFault
unlisted_in file = in_file (unlisted (version_of file)) file

-- 3: the first key that is missing
abbrev pub missing_in : Members → Option PolicyFault
missing_in = in_file missing
