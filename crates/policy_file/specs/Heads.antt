-- What the top keys say.
use Rattle.std.specs.Prelude.{ℕ, Bool, true, false, codes, is_some, List, [], ◌∷◌, Option, Some, None, Result, Ok, Err}
use Rattle.std.specs.Prelude.{if◌then◌else◌, option_map}
use Rattle.std.specs.List.{list_all}
use Rattle.std.specs.Option.{option_map_or}
use Rattle.toml.specs.Data.{Data, string, integer, float, boolean, datetime, array, table, as_table, Members}
use Rattle.toml.specs.Data.{get_member}
use Rattle.policies.specs.declared.fault.PolicyFault.{PolicyFault}
use Rattle.policy_file.specs.declared.head.Head.{Head}
use Rattle.policy_file.specs.declared.keys.ItemKind.{ItemKind}
use Rattle.policy_file.specs.declared.keys.ItemKind.TheVariants.{Switch, Cable, Virtual, Link, Member}
use Rattle.policy_file.specs.declared.keys.Version.{Version}
use Rattle.policy_file.specs.declared.section.Section.TheVariants.{Top}
use Rattle.policy_file.specs.Documents.{as_list}
use Rattle.policy_file.specs.Keys.{kind_key}
use Rattle.policy_file.specs.Listed.{version_of}
use Rattle.policy_file.specs.Outcomes.{found}
use Rattle.policies.specs.Outcomes.{then_do}
use Rattle.policy_file.specs.Regions.{if_there}
use Rattle.policy_file.specs.Values.{number, address}

-- what is read of a value, or what stands where there is none
abbrev pub or_absent : {A : Type 0} → A → (Data → Option A) → Option Data → Option A
or_absent absent read None = Some absent
or_absent absent read (Some d) = read d

abbrev pub is_table : Data → Bool
is_table d = is_some (as_table d)

abbrev pub lists_tables : Data → Bool
lists_tables d = option_map_or (list_all is_table) (as_list d) false

-- a top key of items lists tables
abbrev pub tables : Data → Option (Unit {0})
tables d = if lists_tables d then Some tt else None

abbrev pub items_at : Members → ItemKind → Result (Unit {0}) PolicyFault
items_at file kind = found Top (kind_key kind) (or_absent tt tables (get_member (kind_key kind) file))

-- the top keys from `cable` to `member`: the most hops, and where switches connect
abbrev pub first_of : Members → Result (ℕ × List ℕ) PolicyFault
first_of file =
    then_do (items_at file Cable) (λ _.
    then_do (found Top (codes "hops") (or_absent 4 (number 1 4) (get_member (codes "hops") file))) (λ hops.
    then_do (items_at file Link) (λ _.
    then_do (found Top (codes "listen") (or_absent (codes "127.0.0.1:6633") address (get_member (codes "listen") file)))
    (λ listen.
    then_do (items_at file Member) (λ _.
    Ok (hops, listen))))))

-- those from `rounds` to `virtual`: the rounds, the second proxy, and the version
abbrev pub last_of : Members → Result (ℕ × Option (List ℕ) × Version) PolicyFault
last_of file =
    then_do (found Top (codes "rounds") (or_absent 1000 (number 1 1000000) (get_member (codes "rounds") file)))
    (λ rounds.
    then_do (found Top (codes "standby") (if_there address (get_member (codes "standby") file))) (λ standby.
    then_do (items_at file Switch) (λ _.
    then_do (found Top (codes "version") (version_of file)) (λ version.
    then_do (items_at file Virtual) (λ _.
    Ok (rounds, standby, version))))))

-- the top keys, each looked at in the order of their bytes
abbrev pub head_of : Members → Result Head PolicyFault
head_of file =
    then_do (first_of file) (λ (a : ℕ × List ℕ). then_do (last_of file) (λ (b : ℕ × Option (List ℕ) × Version).
    Ok (record { version = b.2; hops = a.0; listen = a.1; standby = b.1; rounds = b.0 })))
