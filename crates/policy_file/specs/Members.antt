-- Members: controllers at virtual switches, and what they may do there.
use Rattle.std.specs.Prelude.{ℕ, ◌==◌, ◌&&◌, not, Bool, true, false, codes, is_some, is_none, position, List, [], ◌∷◌}
use Rattle.std.specs.Prelude.{◌++◌, Option, Some, None, Result, Ok, Err, if◌then◌else◌, nat_lt, nat_le, option_and_then}
use Rattle.std.specs.Prelude.{option_map, filter, map, slice_get}
use Rattle.std.specs.List.{list_all, list_any}
use Rattle.std.specs.Option.{option_map_or}
use Rattle.toml.specs.Data.{Data, as_str, as_bool, Members, get_member}
use Rattle.of10_match.specs.Fields.{MatchOf}
use Rattle.of10_actions.specs.declared.effects.PortView.{PortView}
use Rattle.grants.specs.declared.grant.Grant.{Grant}
use Rattle.virtual_topology.specs.Places.{same_name}
use Rattle.virtual_topology.specs.declared.plan.VirtualItem.{VirtualItem}
use Rattle.virtual_topology.specs.declared.plan.VirtualPort.{VirtualPort}
use Rattle.policies.specs.declared.fault.PolicyFault.{PolicyFault}
use Rattle.policies.specs.declared.fault.PolicyFault.TheVariants as faults
use Rattle.policy_file.specs.declared.keys.ItemKind.TheVariants.{Member}
use Rattle.policy_file.specs.declared.keys.Version.{Version}
use Rattle.policy_file.specs.declared.keys.Version.TheVariants.{One, Two}
use Rattle.policy_file.specs.declared.member.Place.{Place}
use Rattle.policy_file.specs.declared.member.Rights.{Rights}
use Rattle.policies.specs.declared.policy.MemberItem.{MemberItem}
use Rattle.policy_file.specs.declared.section.Section.{Section}
use Rattle.policy_file.specs.declared.section.Section.TheVariants.{Top, Item}
use Rattle.policy_file.specs.Heads.{or_absent}
use Rattle.policies.specs.Sound.{is_at}
use Rattle.policy_file.specs.Outcomes.{found}
use Rattle.policies.specs.Outcomes.{then_do}
use Rattle.policy_file.specs.Plans.{items_of, read_at, if_new}
use Rattle.policy_file.specs.Regions.{region, regions, all_headers, if_there}
use Rattle.policy_file.specs.Sections.{section_name}
use Rattle.policies.specs.Views.{has_port, view_of}
use Rattle.policy_file.specs.Values.{number, name, address, ports}
use Rattle.policy_file.specs.declared.words.Nameable.{Nameable}
use Rattle.policy_file.specs.Words.{actions, fields, nothing}

-- the number of the virtual switch that a member names, if it is there
abbrev pub virtual_at : List VirtualItem → Members → Option ℕ
virtual_at virtuals ms = option_and_then (λ s. position (λ (v : VirtualItem). same_name v.name s) virtuals)
    (read_at as_str (codes "virtual") ms)

-- an earlier member has the controller at the virtual switch that is named
abbrev pub is_used : List MemberItem → List ℕ → Option (List ℕ) → Bool
is_used earlier controller vsw = option_map_or (λ name. list_any (is_at controller name) earlier) vsw false

-- the controller, unless an earlier member has it at this virtual switch
abbrev pub new_controller : List MemberItem → Members → Option (List ℕ)
new_controller earlier ms =
    option_and_then (if_new (λ c. is_used earlier c (read_at as_str (codes "virtual") ms)))
    (read_at name (codes "controller") ms)

-- a virtual switch, if it is known, has each of the ports
abbrev pub are_there : Option VirtualItem → List ℕ → Bool
are_there None ports = true
are_there (Some v) ports = list_all (has_port v) ports

abbrev pub ports_there : Option VirtualItem → Data → Option (List ℕ)
ports_there v d = option_and_then (λ ps. if are_there v ps then Some ps else None) (ports d)

-- the virtual switch that a member names, if it is there
abbrev pub known : List VirtualItem → Members → Option VirtualItem
known virtuals ms = option_and_then (slice_get virtuals) (virtual_at virtuals ms)

-- the ports that a member names: Some None if it names none, and so all
abbrev pub ports_at : List VirtualItem → Members → Option (Option (List ℕ))
ports_at virtuals ms = if_there (ports_there (known virtuals ms)) (get_member (codes "ports") ms)

-- the key of a region
abbrev pub region_key : Version → List ℕ
region_key One = codes "region"
region_key Two = codes "regions"

-- what a region says, one box or a list of boxes
abbrev pub region_in : Version → Data → Option (List MatchOf)
region_in One = region
region_in Two = regions

-- a member at a virtual switch, by what its keys say
abbrev pub member_with : ℕ → VirtualItem → Place → Rights → MemberItem
member_with number v place rights =
    record {
      controller = place.controller;
      vsw = v.name;
      bits = place.bits;
      entries = place.entries;
      address = place.address;
      grant = record {
        fields = rights.nameable.fields;
        src_max = rights.nameable.src_max;
        dst_max = rights.nameable.dst_max;
        actions = place.actions;
        ports = view_of number v rights.listed;
        regions = rights.regions;
        misses = rights.misses;
        packet_out = rights.packet_out;
      };
    }

-- what the keys up to `entries` say, each looked at in the order of their bytes
abbrev pub place : List MemberItem → Section → Members → Result Place PolicyFault
place earlier section ms =
    then_do (found section (codes "actions") (or_absent 0 actions (get_member (codes "actions") ms))) (λ actions.
    then_do
    (found section (codes "address") (or_absent (codes "127.0.0.1:6634") address (get_member (codes "address") ms)))
    (λ address.
    then_do (found section (codes "bits") (read_at (number 2 15) (codes "bits") ms)) (λ bits.
    then_do (found section (codes "controller") (new_controller earlier ms)) (λ controller.
    then_do (found section (codes "entries") (or_absent 1024 (number 1 4096) (get_member (codes "entries") ms)))
    (λ entries.
    Ok (record { actions = actions; address = address; bits = bits; controller = controller; entries = entries }))))))

-- and those from `match` to the region
abbrev pub rights : Version → List VirtualItem → Section → Members → Result Rights PolicyFault
rights version virtuals section ms =
    then_do (found section (codes "match") (or_absent nothing fields (get_member (codes "match") ms))) (λ nameable.
    then_do (found section (codes "misses") (or_absent true as_bool (get_member (codes "misses") ms))) (λ misses.
    then_do (found section (codes "packet_out") (or_absent false as_bool (get_member (codes "packet_out") ms)))
    (λ packet_out.
    then_do (found section (codes "ports") (ports_at virtuals ms)) (λ listed.
    then_do
    (found section (region_key version)
    (or_absent all_headers (region_in version) (get_member (region_key version) ms))) (λ regions.
    Ok (record {
      nameable = nameable;
      misses = misses;
      packet_out = packet_out;
      listed = listed;
      regions = regions;
    }))))))

-- the number of the virtual switch that a member names, and the virtual switch
abbrev pub numbered : List VirtualItem → Members → Option (ℕ × VirtualItem)
numbered virtuals ms = option_and_then (λ n. option_map (λ v. (n, v)) (slice_get virtuals n)) (virtual_at virtuals ms)

-- a member after others; its keys are looked at in the order of their bytes
abbrev pub member : Version → List VirtualItem → List MemberItem → Section → Members → Result MemberItem PolicyFault
member version virtuals earlier section ms =
    then_do (place earlier section ms) (λ place.
    then_do (rights version virtuals section ms) (λ rights.
    then_do (found section (codes "virtual") (numbered virtuals ms)) (λ v.
    Ok (member_with v.0 v.1 place rights))))

-- the number of an item
abbrev pub number_of : Section → ℕ
number_of Top = 0
number_of (Item kind number) = number

-- there may be 32 members; another is refused before its keys are looked at
abbrev pub next_member : Version → List VirtualItem → List MemberItem → Section → Members
    → Result MemberItem PolicyFault
next_member version virtuals earlier section ms =
    if nat_lt (number_of section) 32 then member version virtuals earlier section ms
    else Err (faults.Value (section_name section))

abbrev pub members_of : Version → List VirtualItem → Members → Result (List MemberItem) PolicyFault
members_of version virtuals = items_of (next_member version virtuals) Member
