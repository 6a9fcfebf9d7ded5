-- One entry of a rule, followed over the cables.
use Rattle.std.proofs.Common.{◌≡◌, ℕ, Bool, true, false, List, [], ◌∷◌, Option, Some, refl, ap, ◌∙◌, sym, subst, length}
use Rattle.std.proofs.Common.{inl}
use Rattle.std.specs.Prelude.{if◌then◌else◌, filter_map, map, slice_get}
use Rattle.std.proofs.lemmas.List.{append-nil}
use Rattle.of10_match.specs.Fields.{HeaderOf}
use Rattle.of10_actions.specs.declared.effects.Out.{Out}
use Rattle.policy_meaning.specs.HopFact.{leaving}
use Rattle.policy_meaning.specs.Networks.{switch_spread}
use Rattle.policy_meaning.specs.Walk.{takes}
use Rattle.policy_meaning.specs.declared.network.VirtualSwitch.{VirtualSwitch}
use Rattle.switch_meaning.specs.Firing.{fire}
use Rattle.switch_meaning.specs.FiringLaw.{IsPlaceable, leaves_by, said}
use Rattle.switch_meaning.specs.Following.{Choice, IsAllowed, fires_on, follow}
use Rattle.switch_meaning.specs.Placing.{actions_of, entry_of, ingress_of, outs_written, tells}
use Rattle.switch_meaning.specs.Wirings.{outside_at}
use Rattle.switch_meaning.specs.declared.entry.FlatRule.{FlatRule}
use Rattle.switch_meaning.specs.declared.entry.FlowEntry.{FlowEntry}
use Rattle.switch_meaning.specs.declared.entry.PhysEntry.{PhysEntry}
use Rattle.switch_meaning.specs.declared.entry.Site.{Site}
use Rattle.switch_meaning.specs.declared.fired.Copied.{Copied}
use Rattle.switch_meaning.specs.declared.fired.Fired.{Fired}
use Rattle.switch_meaning.specs.declared.fired.Seen.{Seen}
use Rattle.switch_meaning.specs.declared.fired.Sent.{Sent}
use Rattle.switch_meaning.specs.declared.wiring.Outside.{Outside}
use Rattle.switch_meaning.specs.declared.wiring.SwitchPort.{SwitchPort}
use Rattle.switch_meaning.proofs.Going.{fire-actions_of, goes}
use Rattle.switch_meaning.proofs.Placed.{firing-gives-outs}
use Rattle.agreement.specs.declared.state.Setting.{Setting}
use Rattle.agreement.specs.Agree.{AreInstalled}
use Rattle.agreement.specs.Entries.{site_at}
use Rattle.agreement.specs.Followed.{IsForPort, OnePlacedEntry, outs_seen}
use Rattle.agreement.specs.Premises.{IsSoundSetting}
use Rattle.agreement.specs.Reach.{AreUp}
use Rattle.agreement.specs.Seeing.{Alike, comes_by}
use Rattle.agreement.proofs.RuleEntries.{written}
use Rattle.agreement.proofs.Showing.{Shows, outs-show}
use Rattle.agreement.proofs.ShowingSpread.{all-good, outs-go}
use Rattle.agreement.proofs.Used.{all-speak, untagged-is, used}

-- a copy of a packet, made at a switch
abbrev copied : ℕ → HeaderOf → Copied
copied switch k = record { switch = switch; header = k }

copies-are : (at : SwitchPort) (h : HeaderOf) (b : Bool)
    → map (copied at.switch) (if b then comes_by at.port h ∷ [] else [])
    ≡ (if b then copied at.switch (comes_by at.port h) ∷ [] else [])
copies-are at h true = refl
copies-are at h false = refl

module _ (s : Setting) (good : IsSoundSetting s) (tables : ℕ
    → List FlowEntry) (installed : AreInstalled s tables) (v : ℕ) (x : VirtualSwitch)
    (there : slice_get s.network.switches v ≡ Some x) (t : x.whole ≡ false) (up : AreUp s v)
    (h : HeaderOf) (o : Outside) (at : outside_at s.wiring v h.in_port ≡ Some o) (r : FlatRule)
    (is : IsForPort s.wiring v x o h.in_port r) (e : PhysEntry)
    (made : entry_of s.wiring (site_at o.at.switch v x) r ≡ Some e) (choice : Choice)
    (allowed : IsAllowed tables choice) where
  abbrev k : HeaderOf
  k = comes_by o.at.port h

  abbrev site : Site
  site = site_at o.at.switch v x

  abbrev on : List ℕ → ℕ → HeaderOf → Seen
  on = follow s.wiring choice (length s.switches)

  abbrev Seems : Fired → Type 0
  Seems f = Alike (fires_on s.wiring on [] o.at.switch f) (outs_seen s.wiring o.at h r.outs)

  seems : (sent : List Sent)
      → Shows s.wiring good.placing.open_ends o.at h on sent (filter_map (λ (d : Out). leaving d.rewrite d.dest) r.outs)
      → Seems (record { outs = sent; copies = if tells r.outs then k ∷ [] else [] })
  seems sent shows = let both = shows 0 in
      record { outs = both.0; copies = rw (both.1) (append-nil _ ∙ copies-are o.at h (tells r.outs)) }

  near : x.spread ≡ false → Seems (fire e.actions k)
  near lone =
      let placeable : IsPlaceable s.wiring site h.in_port r =
      record { outs = is.stays lone; extends = is.extends; in_port = inl is.names } in
      subst Seems
      (sym (firing-gives-outs s.wiring good.placing.wiring site h.in_port o at refl r placeable e made k refl
      ∙ ap (λ outs. said s.wiring k outs) (all-speak site h.in_port r.outs t)))
      (seems (filter_map (λ (d : Out). leaves_by s.wiring k d.rewrite d.dest) r.outs)
      (outs-show s.wiring good.placing.open_ends o.at h on r.outs (is.stays lone) is.numbered))

  ingress : ingress_of s.wiring site r ≡ Some o.at.port
  ingress = rw (is.names, at) refl

  all-written : outs_written site r ≡ r.outs
  all-written = rw t refl

  far : x.spread ≡ true → h.dl_vlan ≡ 65535 → Seems (fire e.actions k)
  far lone plain =
      let spread : switch_spread (slice_get s.network.switches v) ≡ true = ap (λ z. switch_spread z) there ∙ lone in
      let uses = used s good v tables installed up choice allowed in
      let acts : e.actions ≡ actions_of s.wiring o.at.switch (Some o.at.port) r.outs =
      (written s.wiring site r e made).actions
      ∙ (ap (λ (i : Option ℕ). actions_of s.wiring o.at.switch i (outs_written site r)) ingress
      ∙ ap (λ outs. actions_of s.wiring o.at.switch (Some o.at.port) outs) all-written) in
      subst Seems
      (sym (ap (λ acts. fire acts k) acts
      ∙ fire-actions_of k s.wiring o.at.switch (Some o.at.port) r.outs is.extends
      (all-good s good v h o at spread plain choice uses r.outs (is.within lone) is.numbered)))
      (seems (filter_map (goes k s.wiring o.at.switch (Some o.at.port)) r.outs)
      (outs-go s good v h o at spread plain choice uses r.outs (is.within lone) is.numbered))

  by-spread : (b : Bool) → x.spread ≡ b → takes b h ≡ true → Seems (fire e.actions k)
  by-spread false lone taken = near lone
  by-spread true lone taken = far lone (untagged-is h taken)

pub one-placed-entry : OnePlacedEntry
one-placed-entry s good tables installed v x there t up h o at taken r is e made choice allowed =
    by-spread s good tables installed v x there t up h o at r is e made choice allowed x.spread refl taken
