-- How members are told of ports: over the switches as they stood, and as the event leaves them.
use Rattle.std.specs.Prelude.{ℕ, Bool, false, ◌==◌, List, [], ◌∷◌, IfSome, flat_map, if◌then◌else◌, map, slice_get}
use Rattle.std.specs.Option.{option_map_or}
use Rattle.member_replies.specs.Switches.{port_changed}
use Rattle.policies.specs.Policies.{PolicyOf, plan}
use Rattle.policies.specs.declared.policy.MemberItem.{MemberItem}
use Rattle.virtual_topology.specs.Rows.{Spot}
use Rattle.virtual_topology.specs.Wires.{outside_of}
use Rattle.virtual_topology.specs.declared.plan.TopologyPlan.{TopologyPlan}
use Rattle.machine_meaning.specs.Drafts.{letter, message}
use Rattle.machine_drafts.specs.InsideSessions.{is_member_up}
use Rattle.machine_drafts.specs.InsideSwitches.{is_dark_over}
use Rattle.machine_meaning.specs.Lists.{places}
use Rattle.machine_meaning.specs.Names.{virtual_of}
use Rattle.machine_meaning.specs.States.{MemberOf, SwitchOf}
use Rattle.machine_drafts.specs.SwitchDrafts.{IsStill, SwitchDraftOf}
use Rattle.machine_meaning.specs.Telling.{differ}
use Rattle.machine_drafts.specs.Views.{switch_of}
use Rattle.machine_meaning.specs.declared.said.Letter.{Letter}

-- the switches of a draft as they stood before the event
abbrev pub switches_before : List SwitchDraftOf → List SwitchOf
switches_before switches = map (λ (x : SwitchDraftOf). switch_of x.base) switches

-- the switch of a number, if there is one, is up or down as it was, and its ports are as dark as they were
abbrev pub IsStillAt : List SwitchDraftOf → ℕ → Type 0
IsStillAt switches n = IfSome (slice_get switches n) IsStill

-- an outside port went dark, or isn't dark any more
abbrev pub has_turned : TopologyPlan → List SwitchOf → List SwitchOf → ℕ → ℕ → Bool
has_turned t before after v port = differ (is_dark_over t before v port) (is_dark_over t after v port)

-- the PORT_STATUS of an outside port, to the member of a number
abbrev pub port_letter : TopologyPlan → List SwitchOf → ℕ → ℕ → ℕ → Letter
port_letter t after n v port = letter n (message 0 (port_changed v port false (is_dark_over t after v port)))

-- the outside port lies on the switch
abbrev pub lies_over : TopologyPlan → ℕ → ℕ → ℕ → Bool
lies_over t v n port = option_map_or (λ (s : Spot). s.0 == n) (outside_of t v port) false

-- what a member is told of an outside port, if it changed
abbrev pub turn_letters : TopologyPlan → List SwitchOf → List SwitchOf → ℕ → ℕ → ℕ → List Letter
turn_letters t before after n v port =
    if has_turned t before after v port then port_letter t after n v port ∷ [] else []

-- and of those of some outside ports that lie on a switch
abbrev pub letters_on : TopologyPlan → List SwitchOf → List SwitchOf → ℕ → ℕ → List ℕ → ℕ → List Letter
letters_on t before after n v ports k =
    flat_map (λ port. if lies_over t v k port then turn_letters t before after n v port else []) ports

-- what a member is told, if it is up: switch by switch
abbrev pub member_letters :
    PolicyOf → List MemberOf → List SwitchOf → List SwitchOf → ℕ × MemberItem → List Letter
member_letters p members before after (n, m) =
    if is_member_up members n
    then flat_map (letters_on (plan p) before after n (virtual_of m) m.grant.ports.outside) (places p.switches) else []
