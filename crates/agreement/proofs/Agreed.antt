-- Installed tables agree.
use Rattle.switch_meaning.proofs.Going.{fire-actions_of, goes}
use Rattle.switch_meaning.specs.declared.entry.FlatRule.{FlatRule}
use Rattle.switch_meaning.specs.Fixed.{guard}
use Rattle.policy_meaning.specs.declared.network.Network.{Network}
use Rattle.agreement.proofs.WholeRules.{RuleKeeps}
use Rattle.agreement.proofs.Guarded.{guard-is-best}
use Rattle.agreement.proofs.ShowingSpread.{all-good, outs-go}
use Rattle.agreement.proofs.RuleEntries.{Best, written}
use Rattle.agreement.proofs.SwitchEntries.{best-of-part, best-of-whole, ingress, keeps, part-best, whole-best}
use Rattle.agreement.specs.Premises.{GoesWithin, IsSoundSetting, outside_ports}
use Rattle.std.proofs.Common.{◌≡◌, ℕ, suc, ◌⊎◌, arith, inl, inr, eqb-true, Bool, true, false, List, [], ◌∷◌, Option}
use Rattle.std.proofs.Common.{Some, None, refl, ap, ◌∙◌, sym, subst, length}
use Rattle.std.specs.Prelude.{IfSome, ◌-◌, ◌==◌, filter, filter_map, if◌then◌else◌, is_some, not, slice_get}
use Rattle.std.specs.List.{AllByRecursion, cons_option}
use Rattle.std.proofs.lemmas.List.{append-nil}
use Rattle.of10_match.specs.Fields.{HeaderOf}
use Rattle.of10_actions.specs.Fields.{RewriteOf}
use Rattle.of10_actions.specs.declared.effects.Dest.{Dest}
use Rattle.of10_actions.specs.declared.effects.Dest.TheVariants.{Port, Flood, Ingress, Tell}
use Rattle.of10_actions.specs.declared.effects.Out.{Out}
use Rattle.of10_actions.specs.declared.effects.Tail.{Tail}
use Rattle.of10_actions.specs.declared.effects.Tail.TheVariants.{Nothing, Pass, Link}
use Rattle.of10_match.specs.Matching.{fits}
use Rattle.of10_match.proofs.FieldTests.{holds-fields}
use Rattle.policy_meaning.specs.HopFact.{HopSays, leaving}
use Rattle.policy_meaning.specs.Hops.{hop_size, leads, node, peer_of}
use Rattle.policy_meaning.specs.Leaf.{has_port}
use Rattle.policy_meaning.specs.Networks.{fabric_of, ground_of, switch_meaning, switch_links, switch_spread}
use Rattle.policy_meaning.specs.Walk.{here, walk, nowhere, takes}
use Rattle.policy_meaning.specs.Best.{IsSound}
use Rattle.policy_meaning.specs.declared.meaning.Meaning.{Meaning}
use Rattle.policy_meaning.specs.declared.network.Onward.{Onward}
use Rattle.policy_meaning.specs.declared.walking.Walked.{Walked}
use Rattle.policy_meaning.specs.declared.network.VirtualSwitch.{VirtualSwitch}
use Rattle.policy_meaning.specs.declared.rule.Rule.{Rule}
use Rattle.policy_meaning.specs.declared.walking.PortOut.{PortOut}
use Rattle.policy_meaning.proofs.BestLemmas.{best_each, best_holds}
use Rattle.policy_meaning.proofs.Everywhere.{every_node, switch-says, switch-sound}
use Rattle.policy_meaning.proofs.Booleans.{some_injective}
use Rattle.policy_meaning.proofs.Lists.{all-map}
use Rattle.switch_meaning.specs.Firing.{fire, fire_entry, unsent}
use Rattle.switch_meaning.specs.FiringLaw.{IsPlaceable, StaysOn, said, speaking}
use Rattle.switch_meaning.specs.Following.{Choice, IsAllowed, fires_on, follow}
use Rattle.switch_meaning.specs.BestLaw.{IsBestEntry}
use Rattle.switch_meaning.specs.Keys.{flow_of}
use Rattle.switch_meaning.specs.Placing.{is_silent, actions_of, outs_written, tells}
use Rattle.switch_meaning.specs.Wirings.{outside_at}
use Rattle.switch_meaning.specs.declared.entry.FlowEntry.{FlowEntry}
use Rattle.switch_meaning.specs.declared.entry.Site.{Site}
use Rattle.switch_meaning.specs.declared.entry.PhysEntry.{PhysEntry}
use Rattle.switch_meaning.specs.declared.fired.Fired.{Fired}
use Rattle.switch_meaning.specs.declared.fired.Seen.{Seen}
use Rattle.switch_meaning.specs.declared.wiring.Outside.{Outside}
use Rattle.switch_meaning.proofs.Placed.{firing-gives-outs}
use Rattle.agreement.specs.declared.state.Setting.{Setting}
use Rattle.agreement.specs.Agree.{AreInstalled}
use Rattle.agreement.specs.Entries.{entries_of, flat, site_at}
use Rattle.agreement.specs.Law.{Agreement}
use Rattle.agreement.specs.Reach.{LeadsTo, at_once, lies, AreUp, IsSwitchOf, over}
use Rattle.agreement.specs.Seeing.{Alike, comes_by, expected}
use Rattle.agreement.proofs.Levels.{all-name, enters-outside, has-outside}
use Rattle.agreement.specs.Followed.{AreNumbered}
use Rattle.agreement.proofs.NodeRules.{Names, node-numbered}
use Rattle.agreement.proofs.Used.{all-speak, untagged-is, used}
use Rattle.agreement.proofs.Showing.{said-shows, fired-shows}
use Rattle.agreement.proofs.ShowingWhole.{whole-shows}
use Rattle.agreement.proofs.Within.{IsWithin, OutsWithin, switch-within, walk-leaves}

-- what is known of a virtual switch that has an outside port
record Has (s : Setting) (v p : ℕ) : Type 0 where
  x : VirtualSwitch
  at : slice_get s.network.switches v ≡ Some x
  port : has_port x.outside p ≡ true

has-by : (s : Setting) (v p : ℕ) (o : Option VirtualSwitch) → slice_get s.network.switches v ≡ o
    → true ≡ has_port (outside_ports o) p → Has s v p
has-by s v p None e t = cc
has-by s v p (Some x) e t = record { x = x; at = e; port = sym t }

-- where they are for all ports, those that are not silent
some-speak : (site : Site) (port : ℕ) (outs : List Out) → site.whole ≡ true
    → speaking site port outs ≡ filter (λ (o : Out). not (is_silent site.v (Some port) o.dest)) outs
some-speak site port outs e = rw e refl

all-written : (site : Site) (r : FlatRule) → site.whole ≡ false → outs_written site r ≡ r.outs
all-written site r e = rw e refl

-- what is so of each item that gives one
kept-from : {B : Type 0} (P : B → Type 0) (o : Option B) (xs : List B) → AllByRecursion P (cons_option o xs)
    → IfSome o P × AllByRecursion P xs
kept-from P None xs a = (tt, a)
kept-from P (Some x) xs a = a

all-back : {A B : Type 0} (P : B → Type 0) (f : A → Option B) (xs : List A) → AllByRecursion P (filter_map f xs)
    → AllByRecursion (λ x. IfSome (f x) P) xs
all-back P f [] a = tt
all-back P f (x ∷ xs) a = let k = kept-from P (f x) (filter_map f xs) a in (k.0, all-back P f xs k.1)

either-none : (b : Bool) (o : Option Onward) → o ≡ None → (if b then None else o) ≡ None
either-none true o e = refl
either-none false o e = e

-- a packet of a whole virtual switch goes on over no link
leads-nowhere : (t : Tail) (port : ℕ) → leads t [] port ≡ None
leads-nowhere Nothing port = refl
leads-nowhere (Pass r) port = refl
leads-nowhere (Link r p) port = either-none (p == port) None refl

-- a rule that names a port and holds a packet names that of the packet
port-of : (i : Option ℕ) (p : ℕ) → fits i p ≡ true → (i ≡ Some p) ⊎ (i ≡ None)
port-of None p e = inr refl
port-of (Some q) p e = inl (ap Some (eqb-true q p e))

-- where no links lead on, a virtual switch is left nowhere else
leads-self : (net : Network) {v u : ℕ} → switch_links (slice_get net.switches v) ≡ [] → LeadsTo net v u → u ≡ v
leads-self net e at_once = refl
leads-self net {v = v} e (over p q f l) = let g : peer_of [] p ≡ Some q = rw e at f in cc

module _ (s : Setting) (good : IsSoundSetting s) (v : ℕ) (x : VirtualSwitch)
    (e : slice_get s.network.switches v ≡ Some x) (h : HeaderOf) (o : Outside)
    (at : outside_at s.wiring v h.in_port ≡ Some o) (has : has_port x.outside h.in_port ≡ true) where
  abbrev k : HeaderOf
  k = comes_by o.at.port h

  abbrev walked : Walked
  walked = walk (ground_of s.network) s.hops v h

  abbrev site : Site
  site = site_at o.at.switch v x

  spread-as : switch_spread (slice_get s.network.switches v) ≡ x.spread
  spread-as = ap (λ z. switch_spread z) e

  one : s.hops ≡ suc (s.hops - 1)
  one = let lt = good.hops in omega arith

  -- outs of a virtual switch that isn't spread lie on its switch
  module _ (lone : x.spread ≡ false) where
    lies-together : (u q : ℕ) (b : Option Outside) → outside_at s.wiring u q ≡ b → LeadsTo s.network v u
        → IfSome b (λ (b : Outside). b.at.switch ≡ o.at.switch)
    lies-together u q None f l = tt
    lies-together u q (Some b) f l = sym (good.placing.together v u h.in_port q o b (spread-as ∙ lone) l at f)

    stays : (r : RewriteOf) (d : Dest) → IfSome (leaving r d) (λ (y : PortOut). LeadsTo s.network v y.v)
        → StaysOn s.wiring o.at.switch d
    stays r (Port u q) l = lies-together u q (outside_at s.wiring u q) refl l
    stays r (Flood u q) l = lies-together u q (outside_at s.wiring u q) refl l
    stays r Ingress l = tt
    stays r (Tell who reason) l = tt

    stays-within : (d : Dest) → GoesWithin v d → StaysOn s.wiring o.at.switch d
    stays-within (Port u q) f = lies-together u q (outside_at s.wiring u q) refl
        (subst (λ (z : ℕ). LeadsTo s.network v z) (sym f) at_once)
    stays-within (Flood u q) f = lies-together u q (outside_at s.wiring u q) refl
        (subst (λ (z : ℕ). LeadsTo s.network v z) (sym f) at_once)
    stays-within Ingress f = tt
    stays-within (Tell who reason) f = tt

  -- outs of one that is spread go to ports of its own
  goes-within : (r : RewriteOf) (d : Dest) → x.links ≡ []
      → IfSome (leaving r d) (λ (y : PortOut). LeadsTo s.network v y.v) → GoesWithin v d
  goes-within r (Port u q) none l = leads-self s.network (ap (λ z. switch_links z) e ∙ none) l
  goes-within r (Flood u q) none l = leads-self s.network (ap (λ z. switch_links z) e ∙ none) l
  goes-within r Ingress none l = tt
  goes-within r (Tell who reason) none l = tt

  abbrev AtNode : Type 0
  AtNode = HopSays h (node (fabric_of s.network) s.hops v h.in_port) (hop_size (fabric_of s.network) s.hops v) walked

  -- where the outs of the best rule go
  all-leave : (says : AtNode)
      → AllByRecursion (λ (d : Out). IfSome (leaving d.rewrite d.dest) (λ (y : PortOut). LeadsTo s.network v y.v))
      says.rule.outs
  all-leave says =
      all-back (λ (y : PortOut). LeadsTo s.network v y.v) (λ (d : Out). leaving d.rewrite d.dest) says.rule.outs
      (subst (λ (ys : List PortOut). AllByRecursion (λ (y : PortOut). LeadsTo s.network v y.v) ys) (sym says.outs.ports)
      (walk-leaves s.network (λ u y f. (good.virtuals u y f).within) s.hops v h))

  module _ (tables : ℕ → List FlowEntry) (installed : AreInstalled s tables) (up : AreUp s v) (choice : Choice)
      (allowed : IsAllowed tables choice) where
    -- what the switches of the virtual switch use
    uses : (switch : ℕ) → IsSwitchOf s v switch → (way : List ℕ) (hd : HeaderOf) (best : PhysEntry)
        → IsBestEntry hd (entries_of s switch) best → choice way switch hd ≡ Some (flow_of best)
    uses = used s good v tables installed up choice allowed

    abbrev on : List ℕ → ℕ → HeaderOf → Seen
    on = follow s.wiring choice (length s.switches)

    abbrev Shown : Type 0
    Shown = Alike (fires_on s.wiring on [] o.at.switch (fire_entry (choice [] o.at.switch k) k))
        (expected s.wiring o.at h walked)

    -- where an entry is the best, and what it sends shows the walk
    shown-by : (c : PhysEntry) → IsBestEntry k (entries_of s o.at.switch) c → (f : Fired) → fire c.actions k ≡ f
        → Alike (fires_on s.wiring on [] o.at.switch f) (expected s.wiring o.at h walked) → Shown
    shown-by c top f fired alike =
        let used = uses o.at.switch (lies v h.in_port o at_once at) [] k c top in
        subst (λ (f : Fired). Alike (fires_on s.wiring on [] o.at.switch f) (expected s.wiring o.at h walked))
        (sym (ap (λ (z : Option FlowEntry). fire_entry z k) used ∙ fired)) alike

    module _ (t : x.whole ≡ false) (says : AtNode) (names : Names h.in_port says.rule)
        (numbered : AreNumbered says.rule.outs) (c : Best s.wiring site (flat says.rule) k) where
      top : IsBestEntry k (entries_of s o.at.switch) c.entry
      top = best-of-part s good v x e h o at says.rule c t has says.best

      -- of a virtual switch that isn't spread
      shown-near : x.spread ≡ false → Shown
      shown-near lone =
          let stay = all-map (λ (d : Out). IfSome (leaving d.rewrite d.dest) (λ (y : PortOut). LeadsTo s.network v y.v))
          (λ (d : Out). StaysOn s.wiring o.at.switch d.dest) says.rule.outs (λ d l. stays lone d.rewrite d.dest l)
          (all-leave says) in
          let placeable : IsPlaceable s.wiring site h.in_port (flat says.rule) =
          record { outs = stay; extends = says.sound.builds.outs; in_port = inl names } in
          shown-by c.entry top (said s.wiring k says.rule.outs)
          (firing-gives-outs s.wiring good.placing.wiring site h.in_port o at refl (flat says.rule) placeable c.entry
          c.is k refl ∙ ap (λ outs. said s.wiring k outs) (all-speak site h.in_port says.rule.outs t))
          (said-shows s.wiring good.placing.open_ends o.at h on says.rule.outs walked stay numbered says.outs)

      -- of one that is
      shown-far : x.spread ≡ true → h.dl_vlan ≡ 65535 → Shown
      shown-far lone plain =
          let within =
          all-map (λ (d : Out). IfSome (leaving d.rewrite d.dest) (λ (y : PortOut). LeadsTo s.network v y.v))
          (λ (d : Out). GoesWithin v d.dest) says.rule.outs
          (λ d l. goes-within d.rewrite d.dest ((good.virtuals v x e).unlinked lone) l) (all-leave says) in
          let acts : c.entry.actions ≡ actions_of s.wiring o.at.switch (Some o.at.port) says.rule.outs =
          (written s.wiring site (flat says.rule) c.entry c.is).actions
          ∙ (ap (λ (i : Option ℕ). actions_of s.wiring o.at.switch i (outs_written site (flat says.rule)))
          (ingress s good o.at.switch v x h.in_port o at says.rule names)
          ∙ ap (λ outs. actions_of s.wiring o.at.switch (Some o.at.port) outs)
          (all-written site (flat says.rule) t)) in
          let sends = outs-go s good v h o at (spread-as ∙ lone) plain choice uses says.rule.outs within numbered in
          shown-by c.entry top
          (record {
            outs = filter_map (goes k s.wiring o.at.switch (Some o.at.port)) says.rule.outs;
            copies = if tells says.rule.outs then k ∷ [] else [];
          })
          (ap (λ acts. fire acts k) acts
          ∙ fire-actions_of k s.wiring o.at.switch (Some o.at.port) says.rule.outs says.sound.builds.outs
          (all-good s good v h o at (spread-as ∙ lone) plain choice uses says.rule.outs within numbered))
          (fired-shows s.wiring good.placing.open_ends o.at h on
          (filter_map (goes k s.wiring o.at.switch (Some o.at.port)) says.rule.outs) says.rule.outs walked sends
          says.outs)

      by-spread : (b : Bool) → x.spread ≡ b → takes b h ≡ true → Shown
      by-spread false lone taken = shown-near lone
      by-spread true lone taken = shown-far lone (untagged-is h taken)

    shown-part : x.whole ≡ false → takes x.spread h ≡ true → Shown
    shown-part t taken =
        let says : AtNode = every_node s.network good.network s.hops v h (enters-outside s.network v x h e taken has) in
        let names : Names h.in_port says.rule =
        best_each h (Names h.in_port) says.best (all-name s.network s.hops v h.in_port good.hops) in
        let numbered : AreNumbered says.rule.outs =
        best_each h (λ (r : Rule). AreNumbered r.outs) says.best
        (node-numbered (fabric_of s.network) s.hops v h.in_port) in
        by-spread t says names numbered (part-best s good v x e h o at says.rule taken names (best_holds h says.best))
        x.spread refl taken

    -- a packet with a tag goes nowhere
    shown-tagged : takes x.spread h ≡ false → Shown
    shown-tagged tagged =
        let nothing : walked ≡ nowhere = ap (λ m. walk (ground_of s.network) m v h) one ∙ rw (e, tagged) refl in
        shown-by (guard o) (guard-is-best s good v x e h o at tagged) unsent refl
        (subst (λ (y : Walked). Alike (fires_on s.wiring on [] o.at.switch unsent) (expected s.wiring o.at h y))
        (sym nothing) (record { outs = refl; copies = refl }))

    -- the walk of a whole virtual switch ends there
    walk-here : x.spread ≡ false → x.links ≡ []
        → walked ≡ here v h.in_port (switch_meaning s.network.tables (Some x) h).outs
    walk-here lone none =
        let lead = leads-nowhere (switch_meaning s.network.tables (Some x) h).tail h.in_port in
        ap (λ m. walk (ground_of s.network) m v h) one
        ∙ rw (e, lone, none, lead)
        (λ i. record {
          outs = (append-nil (here v h.in_port (switch_meaning s.network.tables (Some x) h).outs).outs)
              i;
          told = (append-nil (here v h.in_port (switch_meaning s.network.tables (Some x) h).outs).told) i;
        })

    placed-port : (i : Option ℕ) → (i ≡ Some h.in_port) ⊎ (i ≡ None) → x.whole ≡ true
        → (i ≡ Some h.in_port) ⊎ ((x.whole ≡ true) × (i ≡ None))
    placed-port i (inl p) t = inl p
    placed-port i (inr p) t = inr (t, p)

    shown-whole : x.whole ≡ true → Shown
    shown-whole t =
        let whole = (good.virtuals v x e).whole t in
        let means = switch_meaning s.network.tables (Some x) h in
        let says = switch-says s.network.tables x (good.network.switches v x e) h (has-outside x h.in_port has) in
        let sound = best_each h IsSound says.best (switch-sound s.network.tables x (good.network.switches v x e)) in
        let keep = best_each h (RuleKeeps x.outside) says.best (keeps s good v x e t) in
        let outs : says.rule.outs ≡ means.outs = ap (λ (m : Meaning). m.outs) says.means in
        let within : OutsWithin v says.rule.outs =
        subst (OutsWithin v) (sym outs)
        (switch-within v s.network.tables (Some x)
        (λ y same. subst (IsWithin v s.network.tables) (some_injective same) (good.virtuals v x e).within) h) in
        let stay = all-map (λ (d : Out). GoesWithin v d.dest) (λ (d : Out). StaysOn s.wiring o.at.switch d.dest)
        says.rule.outs (λ d g. stays-within whole.lone d.dest g) within in
        let port = port-of says.rule.m.in_port h.in_port
        (holds-fields says.rule.m h (best_holds h says.best)).in_port in
        let placeable : IsPlaceable s.wiring site h.in_port (flat says.rule) =
        record { outs = stay; extends = sound.builds.outs; in_port = placed-port says.rule.m.in_port port t } in
        let shows = whole-shows s.wiring good.placing.open_ends v h o at on says.rule.outs stay in
        let is : here v h.in_port says.rule.outs ≡ walked = ap (λ (ds : List Out). here v h.in_port ds) outs
        ∙ sym (walk-here whole.lone whole.links) in
        let c = whole-best s good v x e h o at says.rule whole.lone keep (best_holds h says.best) in
        shown-by c.entry (best-of-whole s good v x e h o at says.rule c t has says.best)
        (said s.wiring k (filter (λ (d : Out). not (is_silent v (Some h.in_port) d.dest)) says.rule.outs))
        (firing-gives-outs s.wiring good.placing.wiring site h.in_port o at refl (flat says.rule) placeable c.entry c.is
        k refl ∙ ap (λ outs. said s.wiring k outs) (some-speak site h.in_port says.rule.outs t))
        (subst
        (λ (y : Walked). Alike
        (fires_on s.wiring on [] o.at.switch
        (said s.wiring k (filter (λ (d : Out). not (is_silent v (Some h.in_port) d.dest)) says.rule.outs)))
        (expected s.wiring o.at h y)) is shows)

    shown : (b : Bool) → x.whole ≡ b → (c : Bool) → takes x.spread h ≡ c → Shown
    shown true t c u = shown-whole t
    shown false t true u = shown-part t u
    shown false t false u = shown-tagged u

pub agreed : Agreement
agreed s good tables installed v p o at up h by_it choice allowed =
    let here : outside_at s.wiring v h.in_port ≡ Some o = ap (λ (q : ℕ). outside_at s.wiring v q) by_it ∙ at in
    let has = has-by s v h.in_port (slice_get s.network.switches v) refl
    (ap (λ (z : Option Outside). is_some z) (sym here) ∙ good.placing.same v h.in_port) in
    shown s good v has.x has.at h o here has.port tables installed up choice allowed has.x.whole refl
    (takes has.x.spread h) refl
