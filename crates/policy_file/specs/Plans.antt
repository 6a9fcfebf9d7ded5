-- The switches, cables, virtual switches and links of a file.
use Rattle.std.specs.Prelude.{ℕ, ◌==◌, Bool, codes, List, [], ◌∷◌, ◌++◌, Option, Some, None, Result, Ok, Err}
use Rattle.std.specs.Prelude.{if◌then◌else◌, option_and_then}
use Rattle.std.specs.List.{enumerate_from, list_any}
use Rattle.toml.specs.Data.{Data, string, integer, float, boolean, datetime, array, table, Members, get_member}
use Rattle.virtual_topology.specs.declared.plan.PairItem.{PairItem}
use Rattle.virtual_topology.specs.declared.plan.SwitchItem.{SwitchItem}
use Rattle.virtual_topology.specs.declared.plan.TopologyPlan.{TopologyPlan}
use Rattle.virtual_topology.specs.declared.plan.VirtualItem.{VirtualItem}
use Rattle.virtual_topology.specs.Places.{same_name}
use Rattle.policies.specs.declared.fault.PolicyFault.{PolicyFault}
use Rattle.policy_file.specs.declared.keys.ItemKind.{ItemKind}
use Rattle.policy_file.specs.declared.keys.ItemKind.TheVariants.{Switch, Cable, Virtual, Link, Member}
use Rattle.policy_file.specs.declared.section.Section.{Section}
use Rattle.policy_file.specs.declared.section.Section.TheVariants.{Item}
use Rattle.policy_file.specs.Listed.{items}
use Rattle.policy_file.specs.Outcomes.{found}
use Rattle.policies.specs.Outcomes.{then_do}
use Rattle.policy_file.specs.Values.{dpid, name, expression, port_place, ports}
use Rattle.policy_file.specs.Words.{virtual_ports}

-- what is read of the value at a key
abbrev pub read_at : {A : Type 0} → (Data → Option A) → List ℕ → Members → Option A
read_at read key ms = option_and_then read (get_member key ms)

-- an earlier item has the value
abbrev pub is_taken : {A B : Type 0} → (B → B → Bool) → (A → B) → List A → B → Bool
is_taken same value_of earlier x = list_any (λ item. same x (value_of item)) earlier

-- a value that no earlier item has
abbrev pub if_new : {B : Type 0} → (B → Bool) → B → Option B
if_new is_taken x = if is_taken x then None else Some x

abbrev pub dpid_is_taken : {A : Type 0} → (A → ℕ) → List A → ℕ → Bool
dpid_is_taken = is_taken (λ a b. a == b)

abbrev pub name_is_taken : {A : Type 0} → (A → List ℕ) → List A → List ℕ → Bool
name_is_taken = is_taken same_name

abbrev pub new_dpid : {A : Type 0} → (A → ℕ) → List A → Members → Option ℕ
new_dpid dpid_of earlier ms = option_and_then (if_new (dpid_is_taken dpid_of earlier)) (read_at dpid (codes "dpid") ms)

abbrev pub new_name : {A : Type 0} → (A → List ℕ) → List A → Members → Option (List ℕ)
new_name name_of earlier ms = option_and_then (if_new (name_is_taken name_of earlier)) (read_at name (codes "name") ms)

-- a physical switch after others
abbrev pub switch : List SwitchItem → Section → Members → Result SwitchItem PolicyFault
switch earlier section ms =
    then_do (found section (codes "dpid") (new_dpid (λ (s : SwitchItem). s.dpid) earlier ms)) (λ dpid.
    then_do (found section (codes "name") (new_name (λ (s : SwitchItem). s.name) earlier ms)) (λ name.
    then_do (found section (codes "ports") (read_at ports (codes "ports") ms)) (λ ports.
    Ok (record { name = name; dpid = dpid; ports = ports }))))

-- a cable or a link
abbrev pub pair : Section → Members → Result PairItem PolicyFault
pair section ms =
    then_do (found section (codes "a") (read_at port_place (codes "a") ms)) (λ a.
    then_do (found section (codes "b") (read_at port_place (codes "b") ms)) (λ b.
    Ok (record { a = a; b = b })))

-- a virtual switch after others
abbrev pub virtual_switch : List VirtualItem → Section → Members → Result VirtualItem PolicyFault
virtual_switch earlier section ms =
    then_do (found section (codes "dpid") (new_dpid (λ (s : VirtualItem). s.dpid) earlier ms)) (λ dpid.
    then_do (found section (codes "expr") (read_at expression (codes "expr") ms)) (λ expr.
    then_do (found section (codes "name") (new_name (λ (s : VirtualItem). s.name) earlier ms)) (λ name.
    then_do (found section (codes "ports") (read_at virtual_ports (codes "ports") ms)) (λ ports.
    Ok (record { name = name; dpid = dpid; ports = ports; expr = expr })))))

-- an item with those before it; what is no table was refused before
abbrev pub with_item : {A : Type 0} → (List A → Section → Members → Result A PolicyFault) → Section → List A → Data
    → Result (List A) PolicyFault
with_item read section earlier (table ms) = then_do (read earlier section ms) (λ x. Ok (earlier ++ x ∷ []))
with_item read section earlier _ = Ok earlier

-- the items after those that are read
abbrev pub items_after : {A : Type 0} → (List A → Section → Members → Result A PolicyFault) → ItemKind → List A
    → List (ℕ × Data) → Result (List A) PolicyFault
items_after read kind earlier [] = Ok earlier
items_after read kind earlier (i ∷ is) = then_do (with_item read (Item kind i.0) earlier i.1)
    (λ more. items_after read kind more is)

abbrev pub items_of : {A : Type 0} → (List A → Section → Members → Result A PolicyFault) → ItemKind → Members
    → Result (List A) PolicyFault
items_of read kind file = items_after read kind [] (enumerate_from 0 (items file kind))

abbrev pub switches : Members → Result (List SwitchItem) PolicyFault
switches = items_of switch Switch

abbrev pub virtuals : Members → Result (List VirtualItem) PolicyFault
virtuals = items_of virtual_switch Virtual

abbrev pub pairs : ItemKind → Members → Result (List PairItem) PolicyFault
pairs kind = items_of (λ _. pair) kind

abbrev pub plan_of : Members → Result TopologyPlan PolicyFault
plan_of file =
    then_do (switches file) (λ switches.
    then_do (pairs Cable file) (λ cables.
    then_do (virtuals file) (λ virtuals.
    then_do (pairs Link file) (λ links.
    Ok (record { switches = switches; cables = cables; virtuals = virtuals; links = links })))))
