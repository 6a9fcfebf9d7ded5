-- Why a packet goes where it goes.
use Rattle.std.specs.Prelude.{ℕ, List, ◌∷◌, ◌++◌, [], Option, flat_map, option_map}
use Rattle.explain_path.specs.Traces.{trace}
use Rattle.install_plan.specs.declared.written.Written.{Written}
use Rattle.pkt_bytes.specs.Headers.{header_in}
use Rattle.policies.specs.Policies.{PolicyOf, plan}
use Rattle.policy_meaning.specs.Networks.{ground_of}
use Rattle.policy_meaning.specs.Walk.{walk}
use Rattle.policy_meaning.specs.declared.network.Network.{Network}
use Rattle.virtual_topology.specs.declared.plan.TopologyPlan.{TopologyPlan}
use Rattle.explain_text.specs.Entering.{entrance_of}
use Rattle.explain_text.specs.Findings.{findings}
use Rattle.explain_text.specs.Lines.{finding_text}
use Rattle.explain_text.specs.Using.{used_for}
use Rattle.explain_text.specs.declared.entrance.Entrance.{Entrance}
use Rattle.explain_text.specs.declared.finding.Finding.{Finding}

-- what there is to say of a packet that comes in at a place, where these entries stand on the switch; none where it is
-- down
abbrev pub explained : TopologyPlan → Network → ℕ → Option (List Written) → Entrance → List ℕ → List Finding
explained plan net hops standing at bytes =
    findings plan (trace net hops at.v (header_in at.by bytes)) (walk (ground_of net) hops at.v (header_in at.by bytes))
    at.switch (option_map (used_for (header_in at.port bytes)) standing)

-- a line with its line feed
abbrev pub as_line : List ℕ → List ℕ
as_line text = text ++ 10 ∷ []

-- the lines of findings about a packet
abbrev pub findings_text : PolicyOf → List ℕ → List Finding → List ℕ
findings_text p bytes found = flat_map (λ f. as_line (finding_text p bytes f)) found

-- what is answered about a packet that comes in at a place, where these entries stand on switches by number
abbrev pub answer_text : PolicyOf → Network → (ℕ → Option (List Written)) → List ℕ → Entrance → List ℕ
answer_text p net standing bytes at =
    findings_text p bytes (explained (plan p) net p.hops (standing at.switch) at bytes)

-- the same by the name of the switch; none where the place is no outside port
abbrev pub asked_text : PolicyOf → Network → (ℕ → Option (List Written)) → List ℕ → ℕ → List ℕ → Option (List ℕ)
asked_text p net standing name port bytes =
    option_map (answer_text p net standing bytes) (entrance_of (plan p) name port)
