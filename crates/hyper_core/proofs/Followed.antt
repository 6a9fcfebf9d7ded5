-- What packets are followed over is what the state says.
use Rattle.std.proofs.Common.{◌≡◌, ◌∙◌, ℕ, ◌+◌, List, [], ◌∷◌, All, ap, map, refl, sym}
use Rattle.std.specs.Prelude.{zip}
use Rattle.std.specs.List.{enumerate_from}
use Rattle.std.proofs.lemmas.List.Elements.{All-cons, All-head, All-nil, All-tail}
use Rattle.grants.specs.declared.grant.Grant.{Grant}
use Rattle.member_table.specs.Tables.{Held}
use Rattle.of10_actions.specs.Ports.{AreRising}
use Rattle.packet_map.specs.Networks.{leaf_table, no_levels, numbered_switch, numbered_table, switches_of, tables_of}
use Rattle.packet_map.specs.Rising.{SeesRising}
use Rattle.policy_expr.specs.Policy.{policy_of}
use Rattle.policy_expr.specs.declared.expr.Expr.{Expr}
use Rattle.policies.specs.Policies.{PolicyOf, plan}
use Rattle.policies.specs.declared.policy.MemberItem.{MemberItem}
use Rattle.virtual_topology.specs.declared.plan.TopologyPlan.{TopologyPlan}
use Rattle.machine_meaning.specs.States.{MemberOf, State}
use Rattle.hyper_core.specs.Worlds.{grant_of, network_in, numbered_member, numbered_virtual, table_in, table_of}

-- the parts of lists that are equal
same_head : {A : Type 0} {x y : A} {xs ys : List A} → x ∷ xs ≡ y ∷ ys → x ≡ y
same_head e = cc

same_tail : {A : Type 0} {x y : A} {xs ys : List A} → x ∷ xs ≡ y ∷ ys → xs ≡ ys
same_tail e = cc

apart : {A : Type 0} {B : Type 0} {x : A} {xs : List A} → x ∷ xs ≡ [] → B
apart e = cc

same_tables : (n : ℕ) (items : List MemberItem) (members : List MemberOf) (tables : List Held)
    → map table_in tables ≡ map table_of members
    → map numbered_table (enumerate_from n (zip (map grant_of items) tables))
    ≡ map numbered_member (enumerate_from n (zip items members))
same_tables n [] members tables h = refl
same_tables n (m ∷ ms) [] [] h = refl
same_tables n (m ∷ ms) [] (t ∷ ts) h = apart h
same_tables n (m ∷ ms) (x ∷ xs) [] h = apart (sym h)
same_tables n (m ∷ ms) (x ∷ xs) (t ∷ ts) h =
    let table : table_in t ≡ table_of x = same_head h in
    λ i. leaf_table no_levels n m.grant (table i).entries ∷ same_tables (n + 1) ms xs ts (same_tail h) i

same_switches : (t : TopologyPlan) (n : ℕ) (exprs : List Expr)
    → map (numbered_switch t) (enumerate_from n exprs)
    ≡ map (numbered_virtual t) (enumerate_from n (map policy_of exprs))
same_switches t n [] = refl
same_switches t n (e ∷ es) = λ i. numbered_virtual t (n, policy_of e) ∷ same_switches t (n + 1) es i

-- the network of copies of the members' tables
pub same_network : (p : PolicyOf) (s : State) (t : TopologyPlan) (grants : List Grant) (tables : List Held)
    (exprs : List Expr)
    → t ≡ plan p → grants ≡ map grant_of p.members → map table_in tables ≡ map table_of s.members
    → map policy_of exprs ≡ s.exprs
    → record { tables = tables_of grants tables; switches = switches_of t exprs } ≡ network_in p s
same_network p s t grants tables exprs same_plan same_grants same_held same_exprs =
    λ i. record {
      tables = tables_are i;
      switches = switches_are i;
    }
  where
    tables_are : tables_of grants tables ≡ map numbered_member (enumerate_from 0 (zip p.members s.members))
    tables_are =
        ap (λ (gs : List Grant). tables_of gs tables) same_grants ∙ same_tables 0 p.members s.members tables same_held

    switches_are : switches_of t exprs ≡ map (numbered_virtual (plan p)) (enumerate_from 0 s.exprs)
    switches_are =
        ap (λ (u : TopologyPlan). switches_of u exprs) same_plan
        ∙ (same_switches (plan p) 0 exprs
        ∙ ap (λ es. map (numbered_virtual (plan p)) (enumerate_from 0 es)) same_exprs)

-- the ports that members see rise
pub grants_rise : (items : List MemberItem) → All (λ (m : MemberItem). AreRising m.grant.ports) items
    → All SeesRising (map grant_of items)
grants_rise [] h = All-nil SeesRising
grants_rise (m ∷ ms) h =
    All-cons SeesRising m.grant (map grant_of ms)
    (record { ports = All-head (λ (m : MemberItem). AreRising m.grant.ports) m ms h })
    (grants_rise ms (All-tail (λ (m : MemberItem). AreRising m.grant.ports) m ms h))
