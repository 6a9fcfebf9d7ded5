-- The policy of benchmarks, by its text: two members in parallel at a virtual switch of the four ports of a switch.
use Rattle.std.specs.Prelude.{◌≡◌, ℕ, List, [], ◌∷◌, Result, Ok, codes}
use Rattle.std.specs.List.{flat_map}
use Rattle.policies.specs.Policies.{PolicyOf}
use Rattle.policies.specs.declared.fault.PolicyFault.{PolicyFault}
use Rattle.policy_file.specs.Reading.{policy_in_bytes}
use Rattle.replay_report.specs.Takings.{as_line}

abbrev pub bench_lines : List (List ℕ)
bench_lines =
    codes "version = 1"
    ∷ codes "[[switch]]"
    ∷ codes "name = \"s1\""
    ∷ codes "dpid = \"0000000000000001\""
    ∷ codes "ports = [1, 2, 3, 4]"
    ∷ codes "[[virtual]]"
    ∷ codes "name = \"v1\""
    ∷ codes "dpid = \"00000000000000a1\""
    ∷ codes "ports = [\"1=s1:1\", \"2=s1:2\", \"3=s1:3\", \"4=s1:4\"]"
    ∷ codes "expr = \"mon + rt\""
    ∷ codes "[[member]]"
    ∷ codes "controller = \"mon\""
    ∷ codes "virtual = \"v1\""
    ∷ codes "bits = 3"
    ∷ codes "match = [\"in_port\", \"dl_src\", \"dl_dst\", \"dl_vlan\", \"dl_type\", \"nw_tos\","
    ∷ codes "  \"nw_proto\", \"nw_src\", \"nw_dst\"]"
    ∷ codes "actions = [\"output\"]"
    ∷ codes "misses = false"
    ∷ codes "[[member]]"
    ∷ codes "controller = \"rt\""
    ∷ codes "virtual = \"v1\""
    ∷ codes "bits = 3"
    ∷ codes "match = [\"in_port\", \"dl_src\", \"dl_dst\", \"dl_vlan\", \"dl_type\", \"nw_tos\","
    ∷ codes "  \"nw_proto\", \"nw_src\", \"nw_dst\", \"tp_src\", \"tp_dst\"]"
    ∷ codes "actions = [\"output\", \"controller\"]"
    ∷ []

abbrev pub bench_text : List ℕ
bench_text = flat_map as_line bench_lines

-- what the text says
unfoldable pub bench_read : Result PolicyOf PolicyFault
bench_read = policy_in_bytes bench_text

-- it says this policy
abbrev pub IsBench : PolicyOf → Type 0
IsBench p = bench_read ≡ Ok p
