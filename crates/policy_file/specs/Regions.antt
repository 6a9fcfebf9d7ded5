-- Regions: boxes of headers, each a table of fields and their values.
use Rattle.std.specs.Prelude.{ℕ, ◌+◌, ◌-◌, ◌*◌, ◌%◌, ◌^◌, ◌==◌, ◌&&◌, ◌||◌, Bool, true, false, codes, List, [], ◌∷◌}
use Rattle.std.specs.Prelude.{◌++◌, Option, Some, None, if◌then◌else◌, nat_le, nat_lt, length, slice_index, option_map}
use Rattle.std.specs.Prelude.{option_and_then}
use Rattle.std.specs.List.{list_all, list_any}
use Rattle.toml.specs.Data.{Data, as_str, as_table, Members, get_member}
use Rattle.of10_match.specs.declared.header.Prefix.{Prefix}
use Rattle.of10_match.specs.Fields.{MatchOf}
use Rattle.of10_match.specs.Matching.{everything, overlaps}
use Rattle.of10_match.specs.Normal.{normal as normal_fields}
use Rattle.of10_match.specs.Same.{same_match}
use Rattle.grants.specs.declared.field.Field.{Field}
use Rattle.grants.specs.declared.field.Field.TheVariants.{InPort, DlVlanPcp}
use Rattle.policy_file.specs.Documents.{as_list, keys_in}
use Rattle.policy_file.specs.Values.{all_after, number, digit, decimal_within, split_at_first}
use Rattle.policy_file.specs.Words.{field}

-- a number that passes a test
abbrev pub number_that : (ℕ → Bool) → ℕ → Data → Option ℕ
number_that test greatest d = option_and_then (λ n. if test n then Some n else None) (number 0 greatest d)

-- a VLAN number: 0 to 4095, or 65535 for no tag
abbrev pub vlan : Data → Option ℕ
vlan = number_that (λ n. nat_le n 4095 || (n == 65535)) 65535

-- a type of service: a multiple of 4
abbrev pub tos : Data → Option ℕ
tos = number_that (λ n. n % 4 == 0) 255

-- the byte that two hexadecimal digits at a place say
abbrev pub pair_of : ℕ → ℕ → Option ℕ
pair_of a b = option_and_then (λ high. option_map (λ low. high * 16 + low) (digit b)) (digit a)

abbrev pub pair_at : List ℕ → ℕ → Option ℕ
pair_at s i = pair_of (slice_index s i) (slice_index s (i + 1))

-- three bytes from a place on, with one character between each two
abbrev pub half_at : List ℕ → ℕ → Option ℕ
half_at s i =
    option_and_then (λ a. option_and_then (λ b. option_map (λ c. (a * 256 + b) * 256 + c) (pair_at s (i + 6)))
    (pair_at s (i + 3))) (pair_at s i)

-- 17 characters, of which each third is `:` (58)
abbrev pub is_ether_form : List ℕ → Bool
is_ether_form s =
    (length s == 17) && (((slice_index s 2 == 58) && (slice_index s 5 == 58)) &&
    ((slice_index s 8 == 58) && ((slice_index s 11 == 58) && (slice_index s 14 == 58))))

-- an address of Ethernet, as `00:00:00:00:00:01`
abbrev pub ether_text : List ℕ → Option ℕ
ether_text s = if is_ether_form s then option_and_then (λ high. option_map (λ low. high * 16777216 + low) (half_at s 9))
    (half_at s 0) else None

abbrev pub ether : Data → Option ℕ
ether d = option_and_then ether_text (as_str d)

-- a number below 256, and what is after the next `.` (46)
abbrev pub next_octet : List ℕ → Option (ℕ × List ℕ)
next_octet s = option_and_then (λ (p : List ℕ × List ℕ). option_map (λ o. (o, p.1)) (decimal_within 0 255 p.0))
    (split_at_first 46 s)

-- an address of IP, as `10.0.0.1`
abbrev pub ip_text : List ℕ → Option ℕ
ip_text s =
    option_and_then (λ (a : ℕ × List ℕ). option_and_then (λ (b : ℕ × List ℕ). option_and_then (λ (c : ℕ × List ℕ).
    option_map (λ d. ((a.0 * 256 + b.0) * 256 + c.0) * 256 + d) (decimal_within 0 255 c.1)) (next_octet b.1))
    (next_octet a.1)) (next_octet s)

abbrev pub prefix_of : ℕ → ℕ → Prefix
prefix_of addr len = record { addr = addr; len = len }

-- the further bits are zero
abbrev pub prefix_if : ℕ → ℕ → Option Prefix
prefix_if addr len = if addr % (2 ^ (32 - len)) == 0 then Some (prefix_of addr len) else None

abbrev pub prefix_text : List ℕ → Option Prefix
prefix_text s =
    option_and_then (λ (p : List ℕ × List ℕ). option_and_then
    (λ addr. option_and_then (prefix_if addr) (decimal_within 1 32 p.1)) (ip_text p.0)) (split_at_first 47 s)

-- a prefix of addresses, as `10.0.0.0/8`
abbrev pub prefix : Data → Option Prefix
prefix d = option_and_then prefix_text (as_str d)

-- what is read of a value, if it stands: Some None where it doesn't, None where it can't be so
abbrev pub if_there : {A : Type 0} → (Data → Option A) → Option Data → Option (Option A)
if_there read None = Some None
if_there read (Some d) = option_map Some (read d)

-- a region may name each field but in_port and dl_vlan_pcp
abbrev pub may_name : Option Field → Bool
may_name None = false
may_name (Some InPort) = false
may_name (Some DlVlanPcp) = false
may_name (Some _) = true

abbrev pub names_fields : Members → Bool
names_fields ms = list_all (λ key. may_name (field key)) (keys_in ms)

-- the value of a field that a table names
abbrev pub at : {A : Type 0} → (Data → Option A) → List ℕ → Members → Option (Option A)
at read key ms = if_there read (get_member key ms)

abbrev pub then_of : {A B : Type 0} → Option A → (A → Option B) → Option B
then_of o f = option_and_then f o

-- a match of the fields of Ethernet that a table names
abbrev pub link_fields : Members → Option MatchOf
link_fields ms =
    then_of (at ether (codes "dl_src") ms) (λ dl_src. then_of (at ether (codes "dl_dst") ms) (λ dl_dst.
    then_of (at vlan (codes "dl_vlan") ms) (λ dl_vlan. option_map (λ dl_type.
    record everything { dl_src = dl_src; dl_dst = dl_dst; dl_vlan = dl_vlan; dl_type = dl_type })
    (at (number 0 65535) (codes "dl_type") ms))))

-- a match with the fields of IP that a table names
abbrev pub with_network_fields : MatchOf → Members → Option MatchOf
with_network_fields m ms =
    then_of (at tos (codes "nw_tos") ms) (λ nw_tos. then_of (at (number 0 255) (codes "nw_proto") ms) (λ nw_proto.
    then_of (at prefix (codes "nw_src") ms) (λ nw_src. option_map (λ nw_dst.
    record m { nw_tos = nw_tos; nw_proto = nw_proto; nw_src = nw_src; nw_dst = nw_dst })
    (at prefix (codes "nw_dst") ms))))

-- a match with the ports of TCP or UDP, or the type and code of ICMP, that a table names
abbrev pub with_transport_fields : MatchOf → Members → Option MatchOf
with_transport_fields m ms =
    then_of (at (number 0 65535) (codes "tp_src") ms) (λ tp_src. option_map (λ tp_dst.
    record m { tp_src = tp_src; tp_dst = tp_dst }) (at (number 0 65535) (codes "tp_dst") ms))

-- the fields of a table, as a match
abbrev pub fields_named : Members → Option MatchOf
fields_named ms = then_of (link_fields ms)
    (λ link. then_of (with_network_fields link ms) (λ m. with_transport_fields m ms))

-- each field of a match stands with the fields that it needs: it is its own normal form
abbrev pub is_normal : MatchOf → Bool
is_normal m = same_match (normal_fields m) m

abbrev pub if_normal : MatchOf → Option MatchOf
if_normal m = if is_normal m then Some m else None

-- a box: the fields of a table, each with the fields that it needs
abbrev pub box_of : Members → Option MatchOf
box_of ms = if names_fields ms then option_and_then if_normal (fields_named ms) else None

abbrev pub box : Data → Option MatchOf
box d = option_and_then box_of (as_table d)

-- a region of one box
abbrev pub region : Data → Option (List MatchOf)
region d = option_map (λ m. m ∷ []) (box d)

-- boxes with one more, which overlaps none of them
abbrev pub with_box : List MatchOf → Data → Option (List MatchOf)
with_box earlier d = option_and_then (λ m. if list_any (λ e. overlaps e m) earlier then None
    else Some (earlier ++ m ∷ [])) (box d)

abbrev pub boxes : List Data → Option (List MatchOf)
boxes ds = if nat_lt 0 (length ds) && nat_le (length ds) 16 then all_after with_box [] ds else None

-- a region of 1 to 16 boxes, no two of which overlap
abbrev pub regions : Data → Option (List MatchOf)
regions d = option_and_then boxes (as_list d)

-- the one box that holds everything
abbrev pub all_headers : List MatchOf
all_headers = everything ∷ []
