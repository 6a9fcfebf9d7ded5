-- What is said of a packet, by its parts.
use Rattle.std.proofs.Common.{◌≡◌, ℕ, true, false, List, ◌++◌, Option, Some, None, refl, sym, ap, subst, ◌∙◌}
use Rattle.std.specs.Prelude.{option_map}
use Rattle.explain_text.specs.Answers.{answer_text, explained, findings_text}
use Rattle.explain_text.specs.Entering.{entrance_of}
use Rattle.explain_text.specs.declared.entrance.Entrance.{Entrance}
use Rattle.explain_text.specs.declared.finding.Finding.{Finding}
use Rattle.hyper_core.specs.Worlds.{installed_on, network_in}
use Rattle.install_plan.specs.declared.written.Written.{Written}
use Rattle.machine_meaning.specs.States.{State}
use Rattle.policies.specs.Policies.{PolicyOf, plan}
use Rattle.policy_meaning.specs.declared.network.Network.{Network}
use Rattle.virtual_topology.specs.declared.plan.TopologyPlan.{TopologyPlan}
use Rattle.replay_report.specs.Explaining.{Asks, asked}

-- no virtual switch has the port
pub not_asked : (p : PolicyOf) (s : State) (switch : List ℕ) (port : ℕ) (bytes text : List ℕ) (t : TopologyPlan)
    → t ≡ plan p → None ≡ entrance_of t switch port → Asks false (asked p s switch port bytes) text text
unfolding asked
not_asked p s switch port bytes text t a e =
    subst (λ o. Asks false (option_map (answer_text p (network_in p s) (installed_on s) bytes) o) text text)
    (e ∙ ap (λ x. entrance_of x switch port) a) refl

-- it has, and what is found is said
pub was_asked : (p : PolicyOf) (s : State) (switch : List ℕ) (port : ℕ) (bytes old new : List ℕ) (at : Entrance)
    (t u : TopologyPlan) (net : Network) (hops : ℕ) (standing : Option (List Written)) (found : List Finding)
    (q : PolicyOf)
    → t ≡ plan p → Some at ≡ entrance_of t switch port → u ≡ plan p → net ≡ network_in p s → hops ≡ p.hops
    → standing ≡ installed_on s at.switch → found ≡ explained u net hops standing at bytes → q ≡ p
    → new ≡ old ++ findings_text q bytes found → Asks true (asked p s switch port bytes) old new
unfolding asked
was_asked p s switch port bytes old new at t u net hops standing found q a e b c d f g h is =
    let same : found ≡ explained (plan p) (network_in p s) p.hops (installed_on s at.switch) at bytes = g
    ∙ (λ i. explained (b i) (c i) (d i) (f i) at bytes) in
    subst (λ o. Asks true (option_map (answer_text p (network_in p s) (installed_on s) bytes) o) old new)
    (e ∙ ap (λ x. entrance_of x switch port) a)
    (is ∙ (λ i. old ++ findings_text (h i) bytes (same i)))
