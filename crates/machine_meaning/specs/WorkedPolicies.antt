-- Small policies.
use Rattle.std.specs.Prelude.{ℕ, Bool, true, false, List, [], ◌∷◌, None, codes}
use Rattle.grants.specs.declared.grant.Grant.{Grant}
use Rattle.of10_match.specs.Matching.{everything}
use Rattle.policies.specs.Policies.{PolicyOf}
use Rattle.policies.specs.declared.policy.MemberItem.{MemberItem}
use Rattle.virtual_topology.specs.Worked.{outside_at, pair_of, s1, s2, s3, switch_of, v1}
use Rattle.virtual_topology.specs.declared.plan.VirtualItem.{VirtualItem}
use Rattle.virtual_topology.specs.declared.plan.VirtualPort.{VirtualPort}

abbrev pub four_ports : List ℕ
four_ports = 1 ∷ 2 ∷ 3 ∷ 4 ∷ []

-- all fields but dl_vlan_pcp are granted, and these kinds of action, at four ports, everywhere
abbrev pub granting : ℕ → Bool → Bool → Grant
granting actions misses packet_out = record {
  fields = 0xfef;
  src_max = 32;
  dst_max = 32;
  actions = actions;
  ports = record { v = 0; outside = four_ports; links = [] };
  regions = everything ∷ [];
  misses = misses;
  packet_out = packet_out;
}

-- a controller at the first virtual switch
abbrev pub member_of : List ℕ → ℕ → Grant → MemberItem
member_of controller bits g =
    record {
      controller = controller;
      vsw = v1;
      grant = g;
      bits = bits;
      entries = 1024;
      address = codes "127.0.0.1:6634";
    }

-- a virtual switch of these ports with this expression
abbrev pub virtual_with : List VirtualPort → List ℕ → VirtualItem
virtual_with ports expr = record { name = v1; dpid = 0xa1; ports = ports; expr = expr }

-- one switch of four ports, each of them a port of the one virtual switch
abbrev pub on_one_switch : List ℕ → List MemberItem → PolicyOf
on_one_switch expr members = record {
  version = 1;
  hops = 4;
  listen = codes "127.0.0.1:6633";
  standby = None;
  rounds = 1000;
  switches = switch_of s1 1 four_ports ∷ [];
  cables = [];
  virtuals = virtual_with (outside_at 1 s1 1 ∷ outside_at 2 s1 2 ∷ outside_at 3 s1 3 ∷ outside_at 4 s1 4 ∷ []) expr
      ∷ [];
  links = [];
  members = members;
}

-- the built-in policy: one member may output, send to itself, rewrite, and send packets
abbrev pub built_in : PolicyOf
built_in = on_one_switch (codes "app") (member_of (codes "app") 8 (granting 0x7f3 true true) ∷ [])

-- a monitor that may only output beside a router
abbrev pub monitored : PolicyOf
monitored =
    on_one_switch (codes "mon + rt")
    (member_of (codes "mon") 3 (granting 1 false false) ∷ member_of (codes "rt") 3 (granting 3 true false) ∷ [])

-- a monitor that is sent packets, beside a balancer before a router
abbrev pub balanced : PolicyOf
balanced =
    on_one_switch (codes "mon + (lb >> rt)")
    (member_of (codes "mon") 3 (granting 2 false false) ∷ member_of (codes "lb") 3 (granting 0x85 false false)
    ∷ member_of (codes "rt") 3 (granting 3 true false) ∷ [])

-- one virtual switch over three switches in a row
abbrev pub spread : PolicyOf
spread = record built_in {
  switches = switch_of s1 1 (1 ∷ 2 ∷ 3 ∷ []) ∷ switch_of s2 2 (1 ∷ 3 ∷ 4 ∷ []) ∷ switch_of s3 3 (1 ∷ 3 ∷ []) ∷ [];
  cables = pair_of s1 3 s2 3 ∷ pair_of s2 4 s3 3 ∷ [];
  virtuals = virtual_with (outside_at 1 s1 1 ∷ outside_at 2 s2 1 ∷ outside_at 3 s1 2 ∷ outside_at 4 s3 1 ∷ [])
      (codes "app") ∷ [];
}
