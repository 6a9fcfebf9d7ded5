-- Lists of words: fields, kinds of action, ports of a virtual switch.
use Rattle.std.specs.Prelude.{ℕ, ◌^◌, bit_or, List, Option, Some, None, if◌then◌else◌, option_map, option_and_then}
use Rattle.std.specs.List.{find}
use Rattle.toml.specs.Data.{Data, as_str, same_key}
use Rattle.virtual_topology.specs.declared.plan.VirtualPort.{VirtualPort}
use Rattle.grants.specs.declared.field.Field.{Field}
use Rattle.grants.specs.declared.field.Field.TheVariants.{NwSrc, NwDst}
use Rattle.grants.specs.declared.kind.Kind.{Kind}
use Rattle.grants.specs.Names.{field_bit, field_name, fields as fields_by_bit, kind_bit, kind_name, kinds, has_bit}
use Rattle.policy_file.specs.declared.words.Nameable.{Nameable}
use Rattle.policy_file.specs.Documents.{as_list}
use Rattle.policy_file.specs.Values.{all_after, each_of, are_distinct, virtual_port, decimal_within, split_at_first}

-- the texts of a list
abbrev pub words : Data → Option (List (List ℕ))
words d = option_and_then (each_of as_str) (as_list d)

abbrev pub virtual_ports_of : List (List ℕ) → Option (List VirtualPort)
virtual_ports_of ws = option_and_then (λ ports. if are_distinct same_key ws then Some ports else None)
    (each_of virtual_port ws)

-- the ports of a virtual switch, each text once
abbrev pub virtual_ports : Data → Option (List VirtualPort)
virtual_ports d = option_and_then virtual_ports_of (words d)

-- a set of bits with one more, if it isn't there
abbrev pub with_bit : ℕ → ℕ → Option ℕ
with_bit mask bit = if has_bit mask bit then None else Some (bit_or mask (2 ^ bit))

-- the kind of action of this name
abbrev pub kind : List ℕ → Option Kind
kind w = find (λ k. same_key (kind_name k) w) kinds

-- a set of kinds of action with the one that a value names, if it isn't there
abbrev pub with_kind : ℕ → Data → Option ℕ
with_kind mask d = option_and_then (λ k. with_bit mask (kind_bit k)) (option_and_then kind (as_str d))

-- the kinds of action of a list, each once, as a set of bits
abbrev pub actions : Data → Option ℕ
actions d = option_and_then (all_after with_kind 0) (as_list d)

-- the field of this name
abbrev pub field : List ℕ → Option Field
field w = find (λ f. same_key (field_name f) w) fields_by_bit

-- no field may be named
abbrev pub nothing : Nameable
nothing = record { fields = 0; src_max = 32; dst_max = 32 }

-- with one more field, named with a prefix of so many bits at most
abbrev pub extended : Nameable → Field → ℕ → ℕ → Nameable
extended n NwSrc longest fields = record { fields = fields; src_max = longest; dst_max = n.dst_max }
extended n NwDst longest fields = record { fields = fields; src_max = n.src_max; dst_max = longest }
extended n _ longest fields = record { fields = fields; src_max = n.src_max; dst_max = n.dst_max }

abbrev pub with_field : Nameable → Field × ℕ → Option Nameable
with_field n f = option_map (extended n f.0 f.1) (with_bit n.fields (field_bit f.0))

-- addresses alone are named by prefixes
abbrev pub with_prefix : List ℕ → Field → Option (Field × ℕ)
with_prefix s NwSrc = option_map (λ n. (NwSrc, n)) (decimal_within 1 32 s)
with_prefix s NwDst = option_map (λ n. (NwDst, n)) (decimal_within 1 32 s)
with_prefix s _ = None

abbrev pub field_if_split : List ℕ → Option (List ℕ × List ℕ) → Option (Field × ℕ)
field_if_split s None = option_map (λ f. (f, 32)) (field s)
field_if_split s (Some p) = option_and_then (with_prefix p.1) (field p.0)

-- a field, and the most bits of it that may be named: `nw_src/24` is at most 24; `/` is 47
abbrev pub field_and_bits : List ℕ → Option (Field × ℕ)
field_and_bits s = field_if_split s (split_at_first 47 s)

-- the fields that may be named, with the one that a value names, if it isn't there
abbrev pub with_named : Nameable → Data → Option Nameable
with_named n d = option_and_then (with_field n) (option_and_then field_and_bits (as_str d))

-- the fields of a list, each once
abbrev pub fields : Data → Option Nameable
fields d = option_and_then (all_after with_named nothing) (as_list d)
