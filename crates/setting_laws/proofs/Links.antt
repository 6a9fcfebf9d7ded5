-- The links and outside ports of a policy's setting are those of its topology.
use Rattle.std.proofs.Common.{◌≡◌, ◌∙◌, ℕ, suc, ◌==◌, Bool, true, false, true≢false, List, [], ◌∷◌}
use Rattle.std.proofs.Common.{map, Option, Some, None, arith, refl, sym, ap, subst}
use Rattle.std.specs.Prelude.{Contains, filter, filter_map, if◌then◌else◌, is_some, option_map, slice_get, ◌&&◌, ◌||◌}
use Rattle.std.specs.List.{AllByRecursion, cons_option, list_any}
use Rattle.std.specs.Option.{option_map_or}
use Rattle.std.proofs.lemmas.Bool.{eqb-true}
use Rattle.composed_tables.specs.Rules.{IsOutside, LeadsToParted}
use Rattle.hop_rules.specs.Links.{end, link_of, links, place as place_of, port_ends}
use Rattle.hop_rules.specs.declared.exits.LinkEnd.{LinkEnd}
use Rattle.policy_expr.specs.Policy.{Policy}
use Rattle.policy_meaning.specs.Networks.{switch_links}
use Rattle.policy_meaning.specs.Switches.{SwitchOf}
use Rattle.policy_meaning.specs.declared.leaf.LeafTable.{LeafTable}
use Rattle.policy_meaning.specs.declared.network.Link.{Link}
use Rattle.policy_meaning.specs.declared.network.Place.{Place}
use Rattle.policy_setting.specs.Networks.{is_of, link, outside_ports, place, virtual_switch}
use Rattle.policy_setting.specs.Premises.{HaveNumbers}
use Rattle.policy_setting.specs.Settings.{expr_at, holds_at, switches}
use Rattle.policy_setting.proofs.Apart.{Faultless}
use Rattle.policy_setting.proofs.Joints.{all_filtered}
use Rattle.policy_setting.proofs.Linked.{way_is}
use Rattle.policy_setting.proofs.Lone.{sound_ports}
use Rattle.policy_setting.proofs.Parts.{all_weaker}
use Rattle.policy_setting.proofs.Placing.{switch_at}
use Rattle.policy_setting.proofs.Spots.{has_link}
use Rattle.virtual_topology.specs.Rows.{Spot}
use Rattle.virtual_topology.specs.Wires.{Joint, outside_joints, peer_of}
use Rattle.virtual_topology.specs.declared.plan.TopologyPlan.{TopologyPlan}
use Rattle.virtual_topology.specs.declared.plan.VirtualItem.{VirtualItem}
use Rattle.virtual_topology.specs.declared.plan.VirtualPort.{VirtualPort}

-- links -------------------------------------------------------------------------------------------------------------

ends_link : (plan : TopologyPlan) (v : ℕ) (q : VirtualPort) (o : Option Spot) (rest : List LinkEnd) (more : List Link)
    → map link_of rest ≡ more
    → map link_of (cons_option (option_map (λ s. record { v = v; port = q.port; peer = place_of s }) o) rest)
    ≡ cons_option (option_map (λ s. record { port = q.port; peer = place s }) o) more
ends_link plan v q None rest more e = e
ends_link plan v q (Some s) rest more e = ap (λ ls. record { port = q.port; peer = place s } ∷ ls) e

ends_are_links : (plan : TopologyPlan) (v : ℕ) (qs : List VirtualPort)
    → map link_of (filter_map (end plan v) qs) ≡ filter_map (link plan v) qs
ends_are_links plan v [] = refl
ends_are_links plan v (q ∷ qs) =
    ends_link plan v q (peer_of plan v q.port) (filter_map (end plan v) qs) (filter_map (link plan v) qs)
    (ends_are_links plan v qs)

module _ (plan : TopologyPlan) (exprs : List Policy) (seen : List Bool) where
  links_by : (v : ℕ) (o : Option VirtualItem) → option_map_or (λ x. map link_of (port_ends plan (v, x))) o []
      ≡ switch_links
      (option_map (λ (x : VirtualItem). virtual_switch plan (expr_at exprs v) (holds_at seen v) (v, x)) o)
  links_by v None = refl
  links_by v (Some x) = ends_are_links plan v x.ports

  pub links_are : (v : ℕ) → links plan v ≡ switch_links (slice_get (switches plan exprs seen) v)
  links_are v =
      links_by v (slice_get plan.virtuals v)
      ∙ sym (ap (λ (o : Option SwitchOf). switch_links o) (switch_at plan exprs seen v))

-- where they lead ---------------------------------------------------------------------------------------------------

-- a virtual switch that is alone has no links, so no link leads to one
led_by : (plan : TopologyPlan) (v : ℕ) (q : VirtualPort) (l : Link) (o : Option Spot) → peer_of plan v q.port ≡ o
    → option_map (λ s. record { port = q.port; peer = place s }) o ≡ Some l
    → peer_of plan v l.port ≡ Some (l.peer.v, l.peer.port)
led_by plan v q l None t e = absurd (cc)
led_by plan v q l (Some s) t e =
    let same : record { port = q.port; peer = place s } ≡ l = cc e in
    subst (λ (l : Link). peer_of plan v l.port ≡ Some (l.peer.v, l.peer.port)) same t

some_link : (plan : TopologyPlan) (v : ℕ) (q : VirtualPort) (o : Option Spot) (s : Spot) (rest : List Link)
    → o ≡ Some s → cons_option (option_map (λ s. record { port = q.port; peer = place s }) o) rest ≡ [] → ⊥
some_link plan v q None s rest t e = absurd (cc)
some_link plan v q (Some r) s rest t e = absurd (cc)

none_more : (o : Option Link) (rest : List Link) → cons_option o rest ≡ [] → rest ≡ []
none_more None rest e = e
none_more (Some l) rest e = absurd (cc)

linked_port : (plan : TopologyPlan) (v n : ℕ) (s : Spot) (qs : List VirtualPort) → peer_of plan v n ≡ Some s
    → list_any (has_link n) qs ≡ true → filter_map (link plan v) qs ≡ [] → ⊥
linked_port plan v n s [] t e none = absurd (true≢false (sym e))
linked_port plan v n s (q ∷ qs) t e none =
    by (has_link n q) refl e
    (λ g. linked_port plan v n s qs t g (none_more (link plan v q) (filter_map (link plan v) qs) none))
  where
    same_port : (b c : Bool) → (b && c) ≡ true → c ≡ true
    same_port true c f = f
    same_port false c f = absurd (true≢false (sym f))

    by : (b : Bool) → has_link n q ≡ b → (b || list_any (has_link n) qs) ≡ true
        → (list_any (has_link n) qs ≡ true → ⊥) → ⊥
    by true f g rest =
        let port : q.port ≡ n = eqb-true q.port n (same_port _ (q.port == n) f) in
        some_link plan v q (peer_of plan v q.port) s (filter_map (link plan v) qs)
        (subst (λ (m : ℕ). peer_of plan v m ≡ Some s) (sym port) t) none
    by false f g rest = rest g

some_of : (o : Option Spot) → is_some o ≡ true → (s : Spot) × (o ≡ Some s)
some_of None e = absurd (true≢false (sym e))
some_of (Some s) e = (s, refl)

module _ (plan : TopologyPlan) (numbers : HaveNumbers plan.switches) (fault : Faultless plan) (exprs : List Policy)
    (seen : List Bool) (tables : List LeafTable) (up : List Bool) (hops : ℕ)
  where
    -- a virtual switch at whose port a link ends isn't whole
    parted : (u n : ℕ) (y : VirtualItem) → slice_get plan.virtuals u ≡ Some y → list_any (has_link n) y.ports ≡ true
        → (s : Spot) → peer_of plan u n ≡ Some s
        → (virtual_switch plan (expr_at exprs u) (holds_at seen u) (u, y)).whole ≡ false
    parted u n y there listed s t =
        by (virtual_switch plan (expr_at exprs u) (holds_at seen u) (u, y)).whole refl
      where
        x : SwitchOf
        x = virtual_switch plan (expr_at exprs u) (holds_at seen u) (u, y)

        at : slice_get (switches plan exprs seen) u ≡ Some x
        at =
            switch_at plan exprs seen u
            ∙ ap (option_map (λ (y : VirtualItem). virtual_switch plan (expr_at exprs u) (holds_at seen u) (u, y)))
            there

        by : (b : Bool) → x.whole ≡ b → b ≡ false
        by true e =
            absurd (linked_port plan u n s y.ports t listed
            ((sound_ports plan numbers fault exprs seen tables up hops u x at).whole e).links)
        by false e = refl

    led : (v : ℕ) (l : Link) → peer_of plan v l.port ≡ Some (l.peer.v, l.peer.port)
        → LeadsToParted (record { tables = tables; switches = switches plan exprs seen }) l
    led v l e =
        let w = way_is plan numbers v l.port (l.peer.v, l.peer.port) e in
        let back = some_of (peer_of plan l.peer.v l.peer.port) w.back in
        record {
          to = virtual_switch plan (expr_at exprs l.peer.v) (holds_at seen l.peer.v) (l.peer.v, w.to.item);
          there =
              switch_at plan exprs seen l.peer.v
              ∙ ap (option_map (λ (y : VirtualItem).
              virtual_switch plan (expr_at exprs l.peer.v) (holds_at seen l.peer.v) (l.peer.v, y))) w.to.there;
          parted = parted l.peer.v l.peer.port w.to.item w.to.there w.to.listed back.0 back.1;
        }

    leads_by : (v : ℕ) (o : Option VirtualItem)
        → AllByRecursion (LeadsToParted (record { tables = tables; switches = switches plan exprs seen }))
        (switch_links
        (option_map (λ (x : VirtualItem). virtual_switch plan (expr_at exprs v) (holds_at seen v) (v, x)) o))
    leads_by v None = tt
    leads_by v (Some x) =
        all_filtered (link plan v) (LeadsToParted (record { tables = tables; switches = switches plan exprs seen }))
        (λ q l e. led v l (led_by plan v q l (peer_of plan v q.port) refl e)) x.ports

    pub leads : (v : ℕ)
        → AllByRecursion (LeadsToParted (record { tables = tables; switches = switches plan exprs seen }))
        (links plan v)
    leads v =
        subst (AllByRecursion (LeadsToParted (record { tables = tables; switches = switches plan exprs seen })))
        (sym (links_are plan exprs seen v ∙ ap (λ (o : Option SwitchOf). switch_links o) (switch_at plan exprs seen v)))
        (leads_by v (slice_get plan.virtuals v))

-- outside ports -----------------------------------------------------------------------------------------------------

spot_of : Joint → Place
spot_of j = place_of j.0

pub contained : {A : Type 0} (x y : A) (xs : List A) → Contains xs y → Contains (x ∷ xs) y
contained x y xs (k, lt, is) = (suc k, omega (arith, lt), is)

module _ (v : ℕ) where
  own_next : (all : List Place) (j : Joint) (js : List Joint) (b : Bool) → (j.0.0 == v) ≡ b
      → Contains all (place_of j.0)
      → AllByRecursion (λ (p : ℕ). Contains all (record { v = v; port = p })) (map (λ (j : Joint). j.0.1) js)
      → AllByRecursion (λ (p : ℕ). Contains all (record { v = v; port = p }))
      (map (λ (j : Joint). j.0.1) (if b then j ∷ js else js))
  own_next all j js true e c h =
      let own : j.0.0 ≡ v = eqb-true j.0.0 v e in
      (subst (λ (n : ℕ). Contains all (record { v = n; port = j.0.1 })) own c, h)
  own_next all j js false e c h = h

  own_in : (all : List Place) (js : List Joint) → AllByRecursion (λ (j : Joint). Contains all (place_of j.0)) js
      → AllByRecursion (λ (p : ℕ). Contains all (record { v = v; port = p }))
      (map (λ (j : Joint). j.0.1) (filter (is_of v) js))
  own_in all [] h = tt
  own_in all (j ∷ js) h = own_next all j (filter (is_of v) js) (j.0.0 == v) refl h.0 (own_in all js h.1)

each_there : (js : List Joint)
    → AllByRecursion (λ (j : Joint). Contains (map (λ (j : Joint). place_of j.0) js) (place_of j.0)) js
each_there [] = tt
each_there (j ∷ js) = (
  (0, omega arith, refl),
  all_weaker (λ (k : Joint). Contains (map (λ (j : Joint). place_of j.0) js) (place_of k.0))
      (λ (k : Joint). Contains (map (λ (j : Joint). place_of j.0) (j ∷ js)) (place_of k.0))
      (λ k h. contained (place_of j.0) (place_of k.0) (map (λ (j : Joint). place_of j.0) js) h) js (each_there js),
)

pub ports_are : (plan : TopologyPlan) (v : ℕ) → AllByRecursion (IsOutside plan v) (outside_ports plan v)
ports_are plan v =
    own_in v (map (λ (j : Joint). place_of j.0) (outside_joints plan)) (outside_joints plan)
    (each_there (outside_joints plan))
