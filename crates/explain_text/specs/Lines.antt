-- The lines of an answer.
use Rattle.std.specs.Prelude.{ℕ, ◌-◌, ◌==◌, Bool, true, false, List, [], ◌++◌, codes, decimal, slice_get, if◌then◌else◌}
use Rattle.std.specs.Option.{option_map_or}
use Rattle.explain_path.specs.declared.trace.LeafTrace.{LeafTrace}
use Rattle.hex.specs.Hex.{encode_lower}
use Rattle.pkt_bytes.specs.Rewritten.{rewritten}
use Rattle.policies.specs.Policies.{PolicyOf}
use Rattle.policies.specs.declared.policy.MemberItem.{MemberItem}
use Rattle.virtual_topology.specs.declared.plan.SwitchItem.{SwitchItem}
use Rattle.virtual_topology.specs.declared.plan.VirtualItem.{VirtualItem}
use Rattle.explain_text.specs.declared.finding.Finding.{Finding}
use Rattle.explain_text.specs.declared.finding.Finding.TheVariants.{Hop, Leaf, Out, Tell, Entry, Down}

-- names by number
abbrev pub switch_name : PolicyOf → ℕ → List ℕ
switch_name p n = option_map_or (λ (s : SwitchItem). s.name) (slice_get p.switches n) []

abbrev pub virtual_name : PolicyOf → ℕ → List ℕ
virtual_name p v = option_map_or (λ (x : VirtualItem). x.name) (slice_get p.virtuals v) []

abbrev pub controller_name : PolicyOf → ℕ → List ℕ
controller_name p n = option_map_or (λ (m : MemberItem). m.controller) (slice_get p.members n) []

abbrev pub serial_text : ℕ → List ℕ
serial_text serial = codes "entry serial=" ++ decimal serial

-- what of a member's table the packet meets: 0 is outside, 1 a miss, and 2 and its serial number an entry
abbrev pub kind_text : ℕ → List ℕ
kind_text kind =
    if kind == 0 then codes "outside"
    else (if kind == 1 then codes "miss"
    else serial_text (kind - 2))

abbrev pub used_text : Bool → List ℕ
used_text true = codes "yes"
used_text false = codes "no"

abbrev pub leaf_text : PolicyOf → LeafTrace → List ℕ
leaf_text p l =
    codes "leaf ctl=" ++ (controller_name p l.member
    ++ (codes " kind=" ++ (kind_text l.kind ++ (codes " used=" ++ used_text l.used))))

abbrev pub hop_text : PolicyOf → ℕ → ℕ → List ℕ
hop_text p v port = codes "hop vsw=" ++ (virtual_name p v ++ (codes " port=" ++ decimal port))

abbrev pub out_text : PolicyOf → ℕ → ℕ → List ℕ → List ℕ
out_text p switch port bytes =
    codes "out " ++ (switch_name p switch ++ (codes ":" ++ (decimal port ++ (codes " " ++ encode_lower bytes))))

abbrev pub tell_text : PolicyOf → ℕ → ℕ → List ℕ
tell_text p member reason = codes "tell ctl=" ++ (controller_name p member ++ (codes " reason=" ++ decimal reason))

abbrev pub entry_text : PolicyOf → ℕ → ℕ → ℕ → List ℕ
entry_text p switch cookie priority =
    codes "entry switch=" ++ (switch_name p switch
    ++ (codes " cookie=" ++ (decimal cookie ++ (codes " priority=" ++ decimal priority))))

abbrev pub down_text : PolicyOf → ℕ → List ℕ
down_text p switch = codes "entry switch=" ++ (switch_name p switch ++ codes " down")

-- the line of a finding about a packet; one that leaves is written as it is once it is rewritten
abbrev pub finding_text : PolicyOf → List ℕ → Finding → List ℕ
finding_text p bytes (Hop v port) = hop_text p v port
finding_text p bytes (Leaf leaf) = leaf_text p leaf
finding_text p bytes (Out switch port rewrite) = out_text p switch port (rewritten rewrite bytes)
finding_text p bytes (Tell member reason) = tell_text p member reason
finding_text p bytes (Entry switch cookie priority) = entry_text p switch cookie priority
finding_text p bytes (Down switch) = down_text p switch
