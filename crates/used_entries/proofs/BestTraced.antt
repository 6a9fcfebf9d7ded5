-- The best entry of a switch for a packet has the leaves that the packet's trace uses.
use Rattle.std.proofs.Common.{◌≡◌, ℕ, suc, arith, Bool, true, false, List, [], Option, Some, None, refl, ap, ◌∙◌, sym}
use Rattle.std.specs.Prelude.{◌-◌, ◌==◌, if◌then◌else◌, is_some, slice_get}
use Rattle.std.proofs.lemmas.List.{append-nil}
use Rattle.cv_io.specs.declared.leaf.Leaf.{Leaf}
use Rattle.of10_match.specs.Fields.{HeaderOf}
use Rattle.of10_actions.specs.declared.effects.Tail.{Tail}
use Rattle.of10_actions.specs.declared.effects.Tail.TheVariants.{Nothing, Pass, Link}
use Rattle.policy_meaning.specs.Hops.{leads}
use Rattle.policy_meaning.specs.Leaf.{has_port}
use Rattle.policy_meaning.specs.Networks.{ports_of}
use Rattle.policy_meaning.specs.Walk.{takes}
use Rattle.policy_meaning.specs.declared.network.Onward.{Onward}
use Rattle.policy_meaning.specs.declared.network.VirtualSwitch.{VirtualSwitch}
use Rattle.policy_meaning.proofs.BestLemmas.{best_each, best_holds}
use Rattle.policy_meaning.proofs.Everywhere.{every_node, switch-says}
use Rattle.switch_meaning.specs.Fixed.{guard}
use Rattle.switch_meaning.specs.Placing.{entry_of, entry_with, match_written}
use Rattle.switch_meaning.specs.Wirings.{outside_at}
use Rattle.switch_meaning.specs.declared.entry.FlatRule.{FlatRule}
use Rattle.switch_meaning.specs.declared.entry.PhysEntry.{PhysEntry}
use Rattle.switch_meaning.specs.declared.entry.Site.{Site}
use Rattle.switch_meaning.specs.declared.wiring.Outside.{Outside}
use Rattle.switch_meaning.specs.declared.wiring.Wiring.{Wiring}
use Rattle.switch_meaning.proofs.Items.{mapped}
use Rattle.agreement.specs.Entries.{flat, site_at}
use Rattle.agreement.specs.Premises.{IsSoundSetting, outside_ports}
use Rattle.agreement.specs.declared.state.Setting.{Setting}
use Rattle.agreement.proofs.Guarded.{guard-is-best}
use Rattle.agreement.proofs.Levels.{all-name, enters-outside, has-outside}
use Rattle.agreement.proofs.NodeRules.{Names}
use Rattle.agreement.proofs.SwitchEntries.{best-of-part, best-of-whole, keeps, part-best, whole-best}
use Rattle.agreement.proofs.WholeRules.{RuleKeeps}
use Rattle.explain_path.specs.Traces.{asked, does, trace}
use Rattle.explain_path.specs.Used.{used_leaves, used_of}
use Rattle.explain_path.proofs.UsedByHops.{used_of_expressions, used_of_nodes}
use Rattle.used_entries.specs.Traced.{BestEntriesAreTraced, HasTracedEntry}

-- an entry has the leaves of its rule
same-leaves : (w : Wiring) (site : Site) (r : FlatRule) (d : PhysEntry) → entry_of w site r ≡ Some d
    → d.ancestry ≡ r.ancestry
same-leaves w site r d e =
    let m = mapped (entry_with w site r) (match_written w site r) d e in
    ap (λ (z : PhysEntry). z.ancestry) (sym m.is)

either-none : (b : Bool) (o : Option Onward) → o ≡ None → (if b then None else o) ≡ None
either-none true o e = refl
either-none false o e = e

-- a packet goes on over no link
leads-nowhere : (t : Tail) (port : ℕ) → leads t [] port ≡ None
leads-nowhere Nothing port = refl
leads-nowhere (Pass r) port = refl
leads-nowhere (Link r p) port = either-none (p == port) None refl

-- what is known of a virtual switch that has an outside port
record Has (s : Setting) (v p : ℕ) : Type 0 where
  x : VirtualSwitch
  at : slice_get s.network.switches v ≡ Some x
  port : has_port x.outside p ≡ true

has-by : (s : Setting) (v p : ℕ) (o : Option VirtualSwitch) → slice_get s.network.switches v ≡ o
    → true ≡ has_port (outside_ports o) p → Has s v p
has-by s v p None e t = cc
has-by s v p (Some x) e t = record { x = x; at = e; port = sym t }

module _ (s : Setting) (good : IsSoundSetting s) (v : ℕ) (x : VirtualSwitch)
    (e : slice_get s.network.switches v ≡ Some x) (h : HeaderOf) (o : Outside)
    (at : outside_at s.wiring v h.in_port ≡ Some o) (has : has_port x.outside h.in_port ≡ true) where
  abbrev traced : List Leaf
  traced = used_of (trace s.network s.hops v h)

  one : s.hops ≡ suc (s.hops - 1)
  one = let lt = good.hops in omega arith

  -- where rules are for one port, and the packet is taken
  at-part : x.whole ≡ false → takes x.spread h ≡ true → HasTracedEntry s v o h
  at-part t taken =
      let enters = enters-outside s.network v x h e taken has in
      let says = every_node s.network good.network s.hops v h enters in
      let names : Names h.in_port says.rule =
      best_each h (Names h.in_port) says.best (all-name s.network s.hops v h.in_port good.hops) in
      let c = part-best s good v x e h o at says.rule taken names (best_holds h says.best) in
      record {
        entry = c.entry;
        best = best-of-part s good v x e h o at says.rule c t has says.best;
        ancestry = same-leaves s.wiring (site_at o.at.switch v x) (flat says.rule) c.entry c.is
            ∙ used_of_nodes s.network good.network s.hops v h enters says.rule says.best;
      }

  -- a packet that isn't taken has no trace, and meets the guard
  at-guard : takes x.spread h ≡ false → HasTracedEntry s v o h
  at-guard tagged =
      let nothing : trace s.network s.hops v h ≡ [] = ap (λ n. trace s.network n v h) one ∙ rw (e, tagged) refl in
      record {
        entry = guard o;
        best = guard-is-best s good v x e h o at tagged;
        ancestry = ap (λ hops. used_of hops) (sym nothing);
      }

  -- the trace at a virtual switch that is all of its switch ends there
  ends-here : x.spread ≡ false → x.links ≡ [] → traced ≡ used_leaves (asked s.network.tables x.expr h)
  ends-here lone none =
      ap (λ n. used_of (trace s.network n v h)) one
      ∙ (rw (e, lone, none, leads-nowhere (does s.network.tables x.expr h).tail h.in_port) refl
      ∙ append-nil (used_leaves (asked s.network.tables x.expr h)))

  at-whole : x.whole ≡ true → HasTracedEntry s v o h
  at-whole t =
      let whole = (good.virtuals v x e).whole t in
      let sound = good.network.switches v x e in
      let says = switch-says s.network.tables x sound h (has-outside x h.in_port has) in
      let keep = best_each h (RuleKeeps x.outside) says.best (keeps s good v x e t) in
      let c = whole-best s good v x e h o at says.rule whole.lone keep (best_holds h says.best) in
      record {
        entry = c.entry;
        best = best-of-whole s good v x e h o at says.rule c t has says.best;
        ancestry = same-leaves s.wiring (site_at o.at.switch v x) (flat says.rule) c.entry c.is
            ∙ (used_of_expressions s.network.tables (ports_of x) x.expr sound.members h (has-outside x h.in_port has)
            says.rule says.best
            ∙ sym (ends-here whole.lone whole.links));
      }

  by-case : (b : Bool) → x.whole ≡ b → (c : Bool) → takes x.spread h ≡ c → HasTracedEntry s v o h
  by-case true t c u = at-whole t
  by-case false t true u = at-part t u
  by-case false t false u = at-guard u

pub best_entries_traced : BestEntriesAreTraced
best_entries_traced s good v o h at =
    let known = has-by s v h.in_port (slice_get s.network.switches v) refl
    (ap (λ (z : Option Outside). is_some z) (sym at) ∙ good.placing.same v h.in_port) in
    by-case s good v known.x known.at h o at known.port known.x.whole refl (takes known.x.spread h) refl
