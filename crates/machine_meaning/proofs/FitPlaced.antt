-- The entries of a setting have matches that are normal and in range, and actions whose numbers fit their types.
use Rattle.std.proofs.Common.{◌≡◌, ℕ, ◌<◌, ◌^◌, Bool, true, false, List, [], ◌∷◌, ◌++◌, Option, Some, None, refl, sym}
use Rattle.std.proofs.Common.{subst, arith, inl, inr, filter, map, not}
use Rattle.std.specs.Prelude.{◌==◌, IfSome, filter_map, flat_map, if◌then◌else◌, option_map, option_to_list}
use Rattle.std.specs.List.{AllByRecursion, enumerate_from}
use Rattle.std.specs.Option.{option_and_then}
use Rattle.agreement.specs.Entries.{dropping, enters_on, entries_for, entries_of, flat, is_whole, placed, ports_at}
use Rattle.agreement.specs.Entries.{site_at}
use Rattle.agreement.specs.declared.state.Setting.{Setting}
use Rattle.agreement.proofs.Levels.{left_of}
use Rattle.agreement.proofs.RuleEntries.{written}
use Rattle.agreement.proofs.Turned.{by_port}
use Rattle.of10_actions.specs.Actions.{FitsTypes}
use Rattle.of10_actions.specs.Numbers.{MAX}
use Rattle.of10_actions.specs.declared.action.Action.{Action}
use Rattle.of10_actions.specs.declared.action.Action.TheVariants.{Output}
use Rattle.of10_actions.specs.declared.action.Action.TheVariants.{StripVlan}
use Rattle.of10_actions.specs.declared.effects.Out.{Out}
use Rattle.of10_match.specs.Fields.{MatchOf}
use Rattle.of10_match.specs.Matching.{at_port}
use Rattle.of10_match.specs.Normal.{IsNormal}
use Rattle.of10_match.specs.Ranges.{IsMatch}
use Rattle.policy_meaning.specs.Hops.{node}
use Rattle.policy_meaning.specs.Networks.{entering, fabric_of, switch_rules}
use Rattle.policy_meaning.specs.Switches.{SwitchOf}
use Rattle.policy_meaning.specs.declared.fabric.Entering.{Entering}
use Rattle.policy_meaning.specs.declared.rule.Rule.{Rule}
use Rattle.policy_meaning.proofs.Booleans.{some_injective}
use Rattle.policy_meaning.proofs.Lists.{all-append, all-each, all-filter_map, all-flat_map, all-mapped}
use Rattle.policy_meaning.proofs.Meeting.{some_meet}
use Rattle.switch_meaning.specs.Fixed.{drop_entry, drops, ends_at, fixed_entries, guard, guards, is_guarded, is_outside}
use Rattle.switch_meaning.specs.Fixed.{passes, transit, transits, transits_to}
use Rattle.switch_meaning.specs.Placing.{entry_of, ingress_of, is_silent}
use Rattle.switch_meaning.specs.Placing.{outs_written, untagged}
use Rattle.switch_meaning.specs.Wirings.{next_hop, outside_at}
use Rattle.switch_meaning.specs.declared.entry.PhysEntry.{PhysEntry}
use Rattle.switch_meaning.specs.declared.entry.Site.{Site}
use Rattle.switch_meaning.specs.declared.wiring.Cable.{Cable}
use Rattle.switch_meaning.specs.declared.wiring.Outside.{Outside}
use Rattle.switch_meaning.specs.declared.wiring.SwitchPort.{SwitchPort}
use Rattle.switch_meaning.specs.declared.wiring.Wiring.{Wiring}
use Rattle.switch_meaning.proofs.Items.{all-filter}
use Rattle.machine_meaning.proofs.FitRules.{IsFine, OutFits, RuleFits, TableFits, fine-at, fine-both}
use Rattle.machine_meaning.proofs.FitRules.{nodes-fit}
use Rattle.machine_meaning.proofs.FitRules.{switch-fit}
use Rattle.machine_meaning.proofs.FitActions.{Good, HasTag, IsNumbered, IsPort, hop-at, of-good, port-at}

-- an entry whose match is normal and in range, and whose actions have numbers that fit their types
pub record EntryFits (e : PhysEntry) : Type 0 where
  pub in_range : IsMatch e.m
  pub normal : IsNormal e.m
  pub types : AllByRecursion FitsTypes e.actions

module _ (w : Wiring) (good : IsNumbered w) where
  kept : (b : Bool) (p : Out → Bool) (outs : List Out) → AllByRecursion OutFits outs
      → AllByRecursion OutFits (if b then filter p outs else outs)
  kept true p outs g = all-filter OutFits p outs g
  kept false p outs g = g

  -- matches ---------------------------------------------------------------------------------------------------------

  abbrev PortGood : Option ℕ → Type 0
  PortGood o = IfSome o (λ p. p < 2 ^ 16)

  ingress-by : (o : Option Outside) → IfSome o IsPort → PortGood (option_map (λ (o : Outside). o.at.port) o)
  ingress-by None g = tt
  ingress-by (Some o) g = let lt = g.at in omega (arith, lt)

  ingress-good : (v : ℕ) (o : Option ℕ)
      → PortGood (option_and_then (λ p. option_map (λ (o : Outside). o.at.port) (outside_at w v p)) o)
  ingress-good v None = tt
  ingress-good v (Some p) = ingress-by (outside_at w v p) (port-at w good v p (outside_at w v p) refl)

  -- with a port in range
  ported : (o : Option ℕ) (m : MatchOf) → PortGood o → IsFine m → IsMatch (by_port o m)
  ported o m g f =
      let p = f.ranged in
      record {
        in_port = g;
        dl_src = p.dl_src;
        dl_dst = p.dl_dst;
        dl_vlan = p.dl_vlan;
        dl_vlan_pcp = p.dl_vlan_pcp;
        dl_type = p.dl_type;
        nw_tos = p.nw_tos;
        nw_proto = p.nw_proto;
        nw_src = p.nw_src;
        nw_dst = p.nw_dst;
        tp_src = p.tp_src;
        tp_dst = p.tp_dst;
      }

  still-normal : (o : Option ℕ) (m : MatchOf) → IsNormal m → IsNormal (by_port o m)
  still-normal o m n = record {
    dl_vlan_pcp = n.dl_vlan_pcp;
    nw_tos = n.nw_tos;
    nw_proto = n.nw_proto;
    nw_src = n.nw_src;
    nw_dst = n.nw_dst;
    tp_src = n.tp_src;
    tp_dst = n.tp_dst;
  }

  fine-untagged : IsFine untagged
  fine-untagged = record {
    ranged = record {
      in_port = tt;
      dl_src = tt;
      dl_dst = tt;
      dl_vlan = inr refl;
      dl_vlan_pcp = tt;
      dl_type = tt;
      nw_tos = tt;
      nw_proto = tt;
      nw_src = tt;
      nw_dst = tt;
      tp_src = tt;
      tp_dst = tt;
    };
    normal = record {
      dl_vlan_pcp = tt;
      nw_tos = tt;
      nw_proto = tt;
      nw_src = tt;
      nw_dst = tt;
      tp_src = tt;
      tp_dst = tt;
    };
  }

  left-fine : (b : Bool) (m n : MatchOf) → left_of b m ≡ Some n → IsFine m → IsFine n
  left-fine false m n e f = subst IsFine (some_injective e) f
  left-fine true m n e f =
      let s = some_meet m untagged n e in subst IsFine s.1 (fine-both m untagged s.0 f fine-untagged)

  -- the entries of rules --------------------------------------------------------------------------------------------

  entry-fits : (site : Site) (r : Rule) (d : PhysEntry) → RuleFits r → entry_of w site (flat r) ≡ Some d → EntryFits d
  entry-fits site r d g e =
      let x = written w site (flat r) d e in
      let port = ingress_of w site (flat r) in
      let left = left-fine site.spread r.m x.left x.is_left g.0 in
      record {
        in_range = subst IsMatch (sym x.m) (ported port x.left (ingress-good site.v r.m.in_port) left);
        normal = subst IsNormal (sym x.m) (still-normal port x.left left.normal);
        types =
            subst Good (sym x.actions)
            (of-good w good site.switch port (outs_written site (flat r))
            (kept site.whole (λ (o : Out). not (is_silent site.v r.m.in_port o.dest)) r.outs g.1.0));
      }

  placed-fits : (site : Site) (outside : List ℕ) (e : Entering) → AllByRecursion RuleFits e.rules
      → AllByRecursion EntryFits (placed w site outside e)
  placed-fits site outside e g = by (enters_on w site outside e.port)
    where
      by : (b : Bool)
          → AllByRecursion EntryFits (if b then filter_map (λ r. entry_of w site (flat r)) e.rules else [])
      by true =
          all-filter_map RuleFits EntryFits (λ r. entry_of w site (flat r)) e.rules
          (λ r d f p. entry-fits site r d p f) g
      by false = tt

  -- the fixed entries -----------------------------------------------------------------------------------------------

  port-entry : (port priority : ℕ) (acts : List Action) → port < MAX → Good acts
      → EntryFits (record { m = at_port port; priority = priority; actions = acts; ancestry = [] })
  port-entry port priority acts lt g = record {
    in_range = ported (Some port) (at_port port) (omega (arith, lt)) (fine-at port);
    normal = (fine-at port).normal;
    types = g;
  }

  on-good : (o : Option ℕ) → IfSome o (λ p. p < MAX) → Good (map (λ p. Output p 0) (option_to_list o))
  on-good None h = tt
  on-good (Some p) h = ((omega (arith, h), omega arith), tt)

  carried-good : (b : Bool) (p : ℕ) (o : Option ℕ) → p < MAX → IfSome o (λ p. p < MAX)
      → Good (if b then StripVlan ∷ Output p 0 ∷ [] else map (λ p. Output p 0) (option_to_list o))
  carried-good true p o lt h = (tt, ((omega (arith, lt), omega arith), tt))
  carried-good false p o lt h = on-good o h

  transit-fits : (s : SwitchPort) (goal : Outside) (tag : ℕ) → s.port < MAX → goal.at.port < MAX → tag < 4096
      → EntryFits (transit w s goal tag)
  transit-fits s goal tag lt port small = record {
    in_range = record {
      in_port = omega (arith, lt);
      dl_src = tt;
      dl_dst = tt;
      dl_vlan = inl small;
      dl_vlan_pcp = tt;
      dl_type = tt;
      nw_tos = tt;
      nw_proto = tt;
      nw_src = tt;
      nw_dst = tt;
      tp_src = tt;
      tp_dst = tt;
    };
    normal = record {
      dl_vlan_pcp = tt;
      nw_tos = tt;
      nw_proto = tt;
      nw_src = tt;
      nw_dst = tt;
      tp_src = tt;
      tp_dst = tt;
    };
    types =
        carried-good (goal.at.switch == s.switch) goal.at.port (next_hop w s.switch goal.at.switch) port
        (hop-at w good s.switch goal.at.switch);
  }

  ends-numbered : (switch : ℕ) (cables : List Cable)
      → AllByRecursion (λ (c : Cable). (c.one.port < MAX) × (c.other.port < MAX)) cables
      → AllByRecursion (λ (s : SwitchPort). s.port < MAX) (ends_at switch cables)
  ends-numbered switch cables g =
      all-flat_map (λ (c : Cable). (c.one.port < MAX) × (c.other.port < MAX)) (λ (s : SwitchPort). s.port < MAX)
      (λ (c : Cable). filter (λ (s : SwitchPort). s.switch == switch) (c.one ∷ c.other ∷ [])) cables
      (λ c h. all-filter (λ (s : SwitchPort). s.port < MAX) (λ (s : SwitchPort). s.switch == switch)
      (c.one ∷ c.other ∷ []) (h.0, (h.1, tt))) g

  of-tag : (goal : Outside) (o : Option ℕ) → HasTag o → AllByRecursion (λ t. t < 4096) (option_to_list o)
  of-tag goal None g = tt
  of-tag goal (Some t) g = (g, tt)

  to-fits : (switch : ℕ) (goal : Outside) → goal.at.port < MAX → HasTag goal.tag
      → AllByRecursion EntryFits (transits_to w switch goal)
  to-fits switch goal port tagged =
      all-flat_map (λ t. t < 4096) EntryFits
      (λ (tag : ℕ). map (λ (s : SwitchPort). transit w s goal tag)
      (filter (λ (s : SwitchPort). passes w s goal) (ends_at switch w.cables))) (option_to_list goal.tag)
      (λ tag small. all-mapped (λ (s : SwitchPort). s.port < MAX) EntryFits (λ (s : SwitchPort). transit w s goal tag)
      (filter (λ (s : SwitchPort). passes w s goal) (ends_at switch w.cables))
      (λ s lt. transit-fits s goal tag lt port small)
      (all-filter (λ (s : SwitchPort). s.port < MAX) (λ (s : SwitchPort). passes w s goal) (ends_at switch w.cables)
      (ends-numbered switch w.cables good.cables)))
      (of-tag goal goal.tag tagged)

  all-transits : (switch : ℕ) (outside : List Outside) → AllByRecursion (λ (o : Outside). o.at.port < MAX) outside
      → AllByRecursion (λ (o : Outside). HasTag o.tag) outside
      → AllByRecursion EntryFits (flat_map (transits_to w switch) outside)
  all-transits switch [] p t = tt
  all-transits switch (o ∷ os) p t =
      all-append EntryFits (transits_to w switch o) (flat_map (transits_to w switch) os) (to-fits switch o p.0 t.0)
      (all-transits switch os p.1 t.1)

  fixed-fit : (switch : ℕ) → AllByRecursion EntryFits (fixed_entries w switch)
  fixed-fit switch =
      all-append EntryFits (guards w switch) (transits w switch)
      (all-mapped (λ (o : Outside). o.at.port < MAX) EntryFits guard (filter (is_guarded switch) w.outside)
      (λ o lt. port-entry o.at.port 0 [] lt tt)
      (all-filter (λ (o : Outside). o.at.port < MAX) (is_guarded switch) w.outside good.outside))
      (all-transits switch w.outside good.outside good.tags)

  drops-fit : (switch : ℕ) (ports : List ℕ) → AllByRecursion (λ p. p < MAX) ports → (b : Bool)
      → AllByRecursion EntryFits (if b then drops w switch ports else [])
  drops-fit switch ports g true =
      all-mapped (λ (p : ℕ). p < MAX) EntryFits drop_entry (filter (λ (p : ℕ). not (is_outside w switch p)) ports)
      (λ p lt. port-entry p 65535 [] lt tt)
      (all-filter (λ (p : ℕ). p < MAX) (λ (p : ℕ). not (is_outside w switch p)) ports g)
  drops-fit switch ports g false = tt

-- all ---------------------------------------------------------------------------------------------------------------

module _ (s : Setting) (tables : AllByRecursion TableFits s.network.tables) (wiring : IsNumbered s.wiring)
    (ports : (switch : ℕ) → AllByRecursion (λ p. p < MAX) (ports_at s switch)) where
  abbrev RulesFit : Entering → Type 0
  RulesFit e = AllByRecursion RuleFits e.rules

  entering-fit : (v : ℕ) (x : SwitchOf) (b : Bool)
      → AllByRecursion RulesFit
      (if b then record { port = None; rules = switch_rules s.network.tables (Some x) } ∷ []
      else map (λ p. record { port = Some p; rules = node (fabric_of s.network) s.hops v p }) x.outside)
  entering-fit v x true = (switch-fit s.network.tables tables (Some x), tt)
  entering-fit v x false =
      all-mapped (λ (p : ℕ). Unit {0}) RulesFit
      (λ p. record { port = Some p; rules = node (fabric_of s.network) s.hops v p }) x.outside
      (λ p _. nodes-fit s.network tables s.hops v p) (all-each (λ (p : ℕ). Unit {0}) x.outside (λ p. tt))

  switch-entries : (switch v : ℕ) (x : SwitchOf) → AllByRecursion EntryFits (entries_for s switch (v, x))
  switch-entries switch v x =
      all-flat_map RulesFit EntryFits (placed s.wiring (site_at switch v x) x.outside)
      (entering s.network s.hops v (Some x))
      (λ e q. placed-fits s.wiring wiring (site_at switch v x) x.outside e q) (entering-fit v x x.whole)

  pub entries-fit : (switch : ℕ) → AllByRecursion EntryFits (entries_of s switch)
  entries-fit switch =
      all-append EntryFits (flat_map (entries_for s switch) (enumerate_from 0 s.network.switches))
      (fixed_entries s.wiring switch ++ dropping s switch)
      (all-flat_map (λ (i : ℕ × SwitchOf). Unit {0}) EntryFits (entries_for s switch)
      (enumerate_from 0 s.network.switches) (λ i _. switch-entries switch i.0 i.1)
      (all-each (λ (i : ℕ × SwitchOf). Unit {0}) (enumerate_from 0 s.network.switches) (λ i. tt)))
      (all-append EntryFits (fixed_entries s.wiring switch) (dropping s switch) (fixed-fit s.wiring wiring switch)
      (drops-fit s.wiring wiring switch (ports_at s switch) (ports switch) (is_whole s switch)))
