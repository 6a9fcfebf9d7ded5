-- The actions of entries are in range.
use Rattle.std.proofs.Common.{◌≡◌, ℕ, ◌<◌, ◌^◌, ◌%◌, Bool, true, false, List, [], ◌∷◌, ◌++◌, Option, Some, None, refl}
use Rattle.std.proofs.Common.{sym, subst}
use Rattle.std.specs.Prelude.{◌==◌, ◌&&◌, IfSome, filter, filter_map, flat_map, if◌then◌else◌, map, not, option_map}
use Rattle.std.specs.Prelude.{option_to_list}
use Rattle.std.specs.List.{AllByRecursion, enumerate_from}
use Rattle.std.specs.Option.{option_and_then}
use Rattle.std.proofs.lemmas.List.Elements.{All-from_recursion, recursion_from_All}
use Rattle.of10_actions.specs.Actions.{IsInRange}
use Rattle.of10_actions.specs.Fields.{RewriteOf}
use Rattle.of10_actions.specs.Numbers.{CONTROLLER}
use Rattle.of10_actions.specs.Rewriting.{and_then, no_rewrite}
use Rattle.of10_actions.specs.declared.action.Action.{Action}
use Rattle.of10_actions.specs.declared.action.Action.TheVariants.{Output, SetDlDst, SetDlSrc, SetNwDst, SetNwSrc}
use Rattle.of10_actions.specs.declared.action.Action.TheVariants.{SetNwTos, SetTpDst, SetTpSrc, SetVlanVid, StripVlan}
use Rattle.of10_actions.specs.declared.effects.Dest.{Dest}
use Rattle.of10_actions.specs.declared.effects.Dest.TheVariants.{Port, Flood, Ingress, Tell}
use Rattle.of10_actions.specs.declared.effects.Out.{Out}
use Rattle.policy_meaning.specs.Hops.{node}
use Rattle.policy_meaning.specs.Networks.{entering, fabric_of, switch_rules}
use Rattle.policy_meaning.specs.Ranged.{EntriesInRange, RuleInRange, SetsInRange}
use Rattle.policy_meaning.specs.Switches.{SwitchOf}
use Rattle.policy_meaning.specs.declared.fabric.Entering.{Entering}
use Rattle.policy_meaning.specs.declared.rule.Rule.{Rule}
use Rattle.policy_meaning.proofs.Lists.{all-append, all-each, all-filter_map, all-flat_map, all-map, all-mapped}
use Rattle.policy_meaning.proofs.RangedRules.{nodes-are-in-range, switch-range}
use Rattle.switch_meaning.specs.Fixed.{AreTagsInRange, drop_entry, drops, fixed_entries, guard, guards, is_guarded}
use Rattle.switch_meaning.specs.Fixed.{transit, transits, transits_to}
use Rattle.switch_meaning.specs.Placing.{actions_from, actions_of, entry_of, field_sets, going, ingress_of, is_silent}
use Rattle.switch_meaning.specs.Placing.{outs_written, retag, set_unless, sets, sets_after, tells, way_across, way_of}
use Rattle.switch_meaning.specs.Placing.{way_to, written_port}
use Rattle.of10_actions.specs.Same.{same_action}
use Rattle.switch_meaning.specs.Wirings.{next_hop, outside_at}
use Rattle.switch_meaning.specs.declared.entry.PhysEntry.{PhysEntry}
use Rattle.switch_meaning.specs.declared.entry.Site.{Site}
use Rattle.switch_meaning.specs.declared.placing.Way.{Way}
use Rattle.switch_meaning.specs.declared.wiring.Outside.{Outside}
use Rattle.switch_meaning.specs.declared.wiring.SwitchPort.{SwitchPort}
use Rattle.switch_meaning.specs.declared.wiring.Wiring.{Wiring}
use Rattle.switch_meaning.proofs.Items.{all-filter}
use Rattle.agreement.specs.declared.state.Setting.{Setting}
use Rattle.agreement.specs.Entries.{dropping, enters_on, entries_for, entries_of, flat, is_whole, placed, ports_at}
use Rattle.agreement.specs.Entries.{site_at}
use Rattle.agreement.specs.Ranges.{ActionsAreInRange, CanStand}
use Rattle.agreement.proofs.Finding.{find-gives}
use Rattle.agreement.proofs.RuleEntries.{written}

-- actions in range, one by one
abbrev Good : List Action → Type 0
Good acts = AllByRecursion IsInRange acts

abbrev EntryGood : PhysEntry → Type 0
EntryGood e = Good e.actions

-- a tag, where there is one, is the number of a VLAN
abbrev HasTag : Option ℕ → Type 0
HasTag tag = IfSome tag (λ t. t < 4096)

-- one action, unless it is needless
unless-good : (b : Bool) (a : Action) → IsInRange a → Good (if b then [] else a ∷ [])
unless-good true a g = tt
unless-good false a g = (g, tt)

set-good : (done set : Option Action) → IfSome set IsInRange → Good (set_unless done set)
set-good done None g = tt
set-good None (Some a) g = (g, tt)
set-good (Some d) (Some a) g = unless-good (same_action d a) a g

sets-good : (dones rest : List (Option Action)) → AllByRecursion (λ (o : Option Action). IfSome o IsInRange) rest
    → Good (sets_after dones rest)
sets-good [] rest g = tt
sets-good (d ∷ ds) [] g = tt
sets-good (d ∷ ds) (x ∷ xs) g = all-append IsInRange (set_unless d x) (sets_after ds xs) (set-good d x g.0)
    (sets-good ds xs g.1)

-- the action that sets a field
map-good : (P : ℕ → Type 0) (f : ℕ → Action) → ((v : ℕ) → P v → IsInRange (f v)) → (o : Option ℕ) → IfSome o P
    → IfSome (option_map f o) IsInRange
map-good P f g None p = tt
map-good P f g (Some v) p = g v p

map-free : (f : ℕ → Action) → ((v : ℕ) → IsInRange (f v)) → (o : Option ℕ) → IfSome (option_map f o) IsInRange
map-free f g None = tt
map-free f g (Some v) = g v

fields-good : (r : RewriteOf) → SetsInRange r
    → AllByRecursion (λ (o : Option Action). IfSome o IsInRange) (field_sets r)
fields-good r g = (
  map-good (λ v. v < 2 ^ 48) SetDlSrc (λ v lt. lt) r.dl_src g.dl_src,
  (
    map-good (λ v. v < 2 ^ 48) SetDlDst (λ v lt. lt) r.dl_dst g.dl_dst,
    (
      map-free SetNwSrc (λ v. tt) r.nw_src,
      (
        map-free SetNwDst (λ v. tt) r.nw_dst,
        (
          map-good (λ v. v % 4 ≡ 0) SetNwTos (λ v e. e) r.nw_tos g.nw_tos,
          (map-free SetTpSrc (λ v. tt) r.tp_src, (map-free SetTpDst (λ v. tt) r.tp_dst, tt)),
        ),
      ),
    ),
  ),
)

retag-good : (t u : Option ℕ) → HasTag u → Good (retag t u)
retag-good None None g = tt
retag-good (Some t) None g = (tt, tt)
retag-good None (Some u) g = (g, tt)
retag-good (Some t) (Some u) g = unless-good (t == u) (SetVlanVid u) g

module _ (w : Wiring) (tags : AreTagsInRange w) where
  abbrev Tagged : Outside → Type 0
  Tagged o = HasTag o.tag

  tagged : (v p : ℕ) (m : Option Outside) → outside_at w v p ≡ m → IfSome m Tagged
  tagged v p None e = tt
  tagged v p (Some o) e =
      (find-gives Tagged (λ (o : Outside). (o.v == v) && (o.port == p)) w.outside o
      (recursion_from_All Tagged w.outside tags) e).0

  module _ (switch : ℕ) (ingress : Option ℕ) where
    abbrev WayGood : Option Way → Type 0
    WayGood way = IfSome way (λ (x : Way). HasTag x.tag)

    across-good : (tag port : Option ℕ) → HasTag tag → WayGood (way_across tag port)
    across-good (Some t) (Some p) g = g
    across-good None port g = tt
    across-good (Some t) None g = tt

    near-good : (o : Outside) → Tagged o → (b : Bool)
        → WayGood (if b then Some (record { tag = None; port = written_port ingress o.at.port })
        else way_across o.tag (next_hop w switch o.at.switch))
    near-good o g true = tt
    near-good o g false = across-good o.tag (next_hop w switch o.at.switch) g

    to-good : (m : Option Outside) → IfSome m Tagged → WayGood (option_and_then (way_to w switch ingress) m)
    to-good None g = tt
    to-good (Some o) g = near-good o g (o.at.switch == switch)

    way-good : (d : Dest) → WayGood (way_of w switch ingress d)
    way-good (Port v p) = to-good (outside_at w v p) (tagged v p (outside_at w v p) refl)
    way-good (Flood v p) = to-good (outside_at w v p) (tagged v p (outside_at w v p) refl)
    way-good Ingress = tt
    way-good (Tell member reason) = tt

    going-good : (way : Option Way) → WayGood way → (now : RewriteOf) (tag : Option ℕ) (r : RewriteOf) → SetsInRange r
        → (later : RewriteOf → Option ℕ → List Action) →
        ((now : RewriteOf) (tag : Option ℕ) → Good (later now tag)) → Good (going way now tag r later)
    going-good None g now tag r f later rest = rest now tag
    going-good (Some way) g now tag r f later rest =
        all-append IsInRange (sets now r) (retag tag way.tag ++ (Output way.port 0 ∷ later (and_then now r) way.tag))
        (sets-good (field_sets now) (field_sets r) (fields-good r f))
        (all-append IsInRange (retag tag way.tag) (Output way.port 0 ∷ later (and_then now r) way.tag)
        (retag-good tag way.tag g) (tt, rest (and_then now r) way.tag))

    from-good : (outs : List Out) → AllByRecursion (λ (o : Out). SetsInRange o.rewrite) outs
        → (now : RewriteOf) (tag : Option ℕ) → Good (actions_from w switch ingress now tag outs)
    from-good [] g now tag = tt
    from-good (o ∷ os) g now tag =
        going-good (way_of w switch ingress o.dest) (way-good o.dest) now tag o.rewrite g.0
        (λ now tag. actions_from w switch ingress now tag os) (λ now tag. from-good os g.1 now tag)

    telling-good : (b : Bool) → Good (if b then Output CONTROLLER 65535 ∷ [] else [])
    telling-good true = (tt, tt)
    telling-good false = tt

    of-good : (outs : List Out) → AllByRecursion (λ (o : Out). SetsInRange o.rewrite) outs
        → Good (actions_of w switch ingress outs)
    of-good outs g = all-append IsInRange (if tells outs then Output CONTROLLER 65535 ∷ [] else [])
        (actions_from w switch ingress no_rewrite None outs) (telling-good (tells outs))
        (from-good outs g no_rewrite None)

  kept : (b : Bool) (p : Out → Bool) (outs : List Out) → AllByRecursion (λ (o : Out). SetsInRange o.rewrite) outs
      → AllByRecursion (λ (o : Out). SetsInRange o.rewrite) (if b then filter p outs else outs)
  kept true p outs g = all-filter (λ (o : Out). SetsInRange o.rewrite) p outs g
  kept false p outs g = g

  -- the entries of rules
  entry-good : (site : Site) (r : Rule) (d : PhysEntry) → RuleInRange r → entry_of w site (flat r) ≡ Some d
      → EntryGood d
  entry-good site r d g e =
      subst Good (sym (written w site (flat r) d e).actions)
      (of-good site.switch (ingress_of w site (flat r)) (outs_written site (flat r))
      (kept site.whole (λ (o : Out). not (is_silent site.v r.m.in_port o.dest)) r.outs g.0))

  placed-good : (site : Site) (outside : List ℕ) (e : Entering) → AllByRecursion RuleInRange e.rules
      → AllByRecursion EntryGood (placed w site outside e)
  placed-good site outside e g = by (enters_on w site outside e.port)
    where
      by : (b : Bool) → AllByRecursion EntryGood (if b then filter_map (λ r. entry_of w site (flat r)) e.rules else [])
      by true = all-filter_map RuleInRange EntryGood (λ r. entry_of w site (flat r)) e.rules
          (λ r d f p. entry-good site r d p f) g
      by false = tt

  -- the fixed entries
  on-good : (o : Option ℕ) → Good (map (λ p. Output p 0) (option_to_list o))
  on-good None = tt
  on-good (Some p) = (tt, tt)

  carried-good : (b : Bool) (p : ℕ) (o : Option ℕ)
      → Good (if b then StripVlan ∷ Output p 0 ∷ [] else map (λ p. Output p 0) (option_to_list o))
  carried-good true p o = (tt, (tt, tt))
  carried-good false p o = on-good o

  transit-good : (at : SwitchPort) (goal : Outside) (tag : ℕ) → EntryGood (transit w at goal tag)
  transit-good at goal tag = carried-good (goal.at.switch == at.switch) goal.at.port
      (next_hop w at.switch goal.at.switch)

  fixed-good : (switch : ℕ) → AllByRecursion EntryGood (fixed_entries w switch)
  fixed-good switch =
      all-append EntryGood (guards w switch) (transits w switch)
      (all-mapped (λ (o : Outside). Unit {0}) EntryGood guard (filter (is_guarded switch) w.outside) (λ o _. tt)
      (all-each (λ (o : Outside). Unit {0}) (filter (is_guarded switch) w.outside) (λ o. tt)))
      (all-flat_map (λ (o : Outside). Unit {0}) EntryGood (transits_to w switch) w.outside
      (λ o _. all-flat_map (λ (t : ℕ). Unit {0}) EntryGood _ (option_to_list o.tag)
      (λ t _. all-mapped (λ (s : SwitchPort). Unit {0}) EntryGood (λ (s : SwitchPort). transit w s o t) _
      (λ s _. transit-good s o t) (all-each (λ (s : SwitchPort). Unit {0}) _ (λ s. tt)))
      (all-each (λ (t : ℕ). Unit {0}) (option_to_list o.tag) (λ t. tt)))
      (all-each (λ (o : Outside). Unit {0}) w.outside (λ o. tt)))

  drops-good : (switch : ℕ) (ports : List ℕ) (b : Bool)
      → AllByRecursion EntryGood (if b then drops w switch ports else [])
  drops-good switch ports true = all-mapped (λ (p : ℕ). Unit {0}) EntryGood drop_entry _ (λ p _. tt)
      (all-each (λ (p : ℕ). Unit {0}) _ (λ p. tt))
  drops-good switch ports false = tt

module _ (s : Setting) (good : AllByRecursion EntriesInRange s.network.tables) (tags : AreTagsInRange s.wiring) where
  entering-good : (v : ℕ) (x : SwitchOf) (b : Bool) →
      AllByRecursion (λ (e : Entering). AllByRecursion RuleInRange e.rules)
      (if b then record { port = None; rules = switch_rules s.network.tables (Some x) } ∷ []
      else map (λ p. record { port = Some p; rules = node (fabric_of s.network) s.hops v p }) x.outside)
  entering-good v x true = (switch-range s.network.tables good (Some x), tt)
  entering-good v x false =
      all-mapped (λ p. Unit {0}) (λ (e : Entering). AllByRecursion RuleInRange e.rules) _ x.outside
      (λ p _. nodes-are-in-range s.network good s.hops v p) (all-each (λ p. Unit {0}) x.outside (λ p. tt))

  switch-good : (switch v : ℕ) (x : SwitchOf) → AllByRecursion EntryGood (entries_for s switch (v, x))
  switch-good switch v x =
      all-flat_map (λ (e : Entering). AllByRecursion RuleInRange e.rules) EntryGood
      (placed s.wiring (site_at switch v x) x.outside) (entering s.network s.hops v (Some x))
      (λ e q. placed-good s.wiring tags (site_at switch v x) x.outside e q) (entering-good v x x.whole)

  all-good : (switch : ℕ) → AllByRecursion CanStand (entries_of s switch)
  all-good switch =
      all-map EntryGood CanStand (entries_of s switch) (λ e g. All-from_recursion IsInRange e.actions g)
      (all-append EntryGood (flat_map (entries_for s switch) (enumerate_from 0 s.network.switches))
      (fixed_entries s.wiring switch ++ dropping s switch)
      (all-flat_map (λ (i : ℕ × SwitchOf). Unit {0}) EntryGood (entries_for s switch)
      (enumerate_from 0 s.network.switches) (λ i _. switch-good switch i.0 i.1)
      (all-each (λ (i : ℕ × SwitchOf). Unit {0}) (enumerate_from 0 s.network.switches) (λ i. tt)))
      (all-append EntryGood (fixed_entries s.wiring switch) (dropping s switch) (fixed-good s.wiring tags switch)
      (drops-good s.wiring tags switch (ports_at s switch) (is_whole s switch))))

pub actions-are-in-range : ActionsAreInRange
actions-are-in-range s good tags switch =
    let all = all-good s good tags switch in
    (all, all-filter CanStand _ _ (all-filter CanStand _ (entries_of s switch) all))
