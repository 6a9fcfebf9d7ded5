-- The built-in policy, by its text: one member, `app`, at a virtual switch of the four ports of a switch.
use Rattle.std.specs.Prelude.{ℕ, List, [], ◌∷◌, Result, codes}
use Rattle.std.specs.List.{flat_map}
use Rattle.policies.specs.Policies.{PolicyOf}
use Rattle.policy_file.specs.Reading.{policy_in_bytes}
use Rattle.policies.specs.declared.fault.PolicyFault.{PolicyFault}
use Rattle.replay_report.specs.Takings.{as_line}

abbrev pub built_in_lines : List (List ℕ)
built_in_lines =
    codes "version = 1"
    ∷ codes "[[switch]]"
    ∷ codes "name = \"s1\""
    ∷ codes "dpid = \"0000000000000001\""
    ∷ codes "ports = [1, 2, 3, 4]"
    ∷ codes "[[virtual]]"
    ∷ codes "name = \"v1\""
    ∷ codes "dpid = \"00000000000000a1\""
    ∷ codes "ports = [\"1=s1:1\", \"2=s1:2\", \"3=s1:3\", \"4=s1:4\"]"
    ∷ codes "expr = \"app\""
    ∷ codes "[[member]]"
    ∷ codes "controller = \"app\""
    ∷ codes "virtual = \"v1\""
    ∷ codes "bits = 8"
    ∷ codes "match = [\"in_port\", \"dl_src\", \"dl_dst\", \"dl_vlan\", \"dl_type\", \"nw_tos\","
    ∷ codes "  \"nw_proto\", \"nw_src\", \"nw_dst\", \"tp_src\", \"tp_dst\"]"
    ∷ codes "actions = [\"output\", \"controller\", \"set_dl_src\", \"set_dl_dst\", \"set_nw_src\","
    ∷ codes "  \"set_nw_dst\", \"set_nw_tos\", \"set_tp_src\", \"set_tp_dst\"]"
    ∷ codes "packet_out = true"
    ∷ []

abbrev pub built_in_text : List ℕ
built_in_text = flat_map as_line built_in_lines

-- what the text says
unfoldable pub built_in_read : Result PolicyOf PolicyFault
built_in_read = policy_in_bytes built_in_text
