-- One entry of a rule, followed over the cables.
use Rattle.std.specs.Prelude.{◌≡◌, ℕ, true, false, Some, if◌then◌else◌, List, [], ◌∷◌, filter_map, length, slice_get}
use Rattle.std.specs.List.{AllByRecursion}
use Rattle.of10_match.specs.Fields.{HeaderOf}
use Rattle.of10_actions.specs.Effects.{EachExtends}
use Rattle.of10_actions.specs.Rewriting.{no_rewrite}
use Rattle.of10_actions.specs.declared.effects.Dest.{Dest}
use Rattle.of10_actions.specs.declared.effects.Dest.TheVariants.{Port, Flood, Ingress, Tell}
use Rattle.of10_actions.specs.declared.effects.Out.{Out}
use Rattle.policy_meaning.specs.HopFact.{leaving}
use Rattle.policy_meaning.specs.Walk.{takes}
use Rattle.policy_meaning.specs.declared.network.VirtualSwitch.{VirtualSwitch}
use Rattle.switch_meaning.specs.Firing.{fire}
use Rattle.switch_meaning.specs.FiringLaw.{StaysOn}
use Rattle.switch_meaning.specs.Following.{Choice, IsAllowed, fires_on, follow}
use Rattle.switch_meaning.specs.Placing.{entry_of, tells}
use Rattle.switch_meaning.specs.Wirings.{outside_at}
use Rattle.switch_meaning.specs.declared.entry.FlatRule.{FlatRule}
use Rattle.switch_meaning.specs.declared.entry.FlowEntry.{FlowEntry}
use Rattle.switch_meaning.specs.declared.entry.PhysEntry.{PhysEntry}
use Rattle.switch_meaning.specs.declared.fired.Seen.{Seen}
use Rattle.switch_meaning.specs.declared.wiring.Outside.{Outside}
use Rattle.switch_meaning.specs.declared.wiring.SwitchPort.{SwitchPort}
use Rattle.switch_meaning.specs.declared.wiring.Wiring.{Wiring}
use Rattle.agreement.specs.Agree.{AreInstalled}
use Rattle.agreement.specs.Entries.{site_at}
use Rattle.agreement.specs.Premises.{GoesWithin, IsSoundSetting}
use Rattle.agreement.specs.Reach.{AreUp}
use Rattle.agreement.specs.Seeing.{Alike, comes_by, left_at}
use Rattle.agreement.specs.declared.state.Setting.{Setting}

-- the out goes to the port of the packet under its number, if it goes there
abbrev pub IsNumbered : Dest → Type 0
IsNumbered (Port v p) = Unit {0}
IsNumbered (Flood v p) = Unit {0}
IsNumbered Ingress = ⊥
IsNumbered (Tell member reason) = Unit {0}

abbrev pub AreNumbered : List Out → Type 0
AreNumbered outs = AllByRecursion (λ (o : Out). IsNumbered o.dest) outs

-- a rule for packets that come in at one outside port: the outs of a spread virtual switch go to its own ports, those
-- of another to ports of the same physical switch
pub record IsForPort (w : Wiring) (v : ℕ) (x : VirtualSwitch) (o : Outside) (port : ℕ) (r : FlatRule) : Type 0 where
  pub names : r.m.in_port ≡ Some port
  pub extends : EachExtends no_rewrite r.outs
  pub numbered : AreNumbered r.outs
  pub within : x.spread ≡ true → AllByRecursion (λ (d : Out). GoesWithin v d.dest) r.outs
  pub stays : x.spread ≡ false → AllByRecursion (λ (d : Out). StaysOn w o.at.switch d.dest) r.outs

-- what outs say is seen of a packet that comes in at a physical port: each packet where its port lies, in order, and
-- one copy where somebody is told
abbrev pub outs_seen : Wiring → SwitchPort → HeaderOf → List Out → Seen
outs_seen w at h outs = record {
  outs = filter_map (left_at w h) (filter_map (λ (d : Out). leaving d.rewrite d.dest) outs);
  copies = if tells outs then record { switch = at.switch; header = comes_by at.port h } ∷ [] else [];
}

-- where the tables of a sound setting are installed, and the switches of a virtual switch are up, a packet for which
-- the entry of a rule is used gives what the rule's outs say, wherever cables carry it
abbrev pub OnePlacedEntry : Type 0
OnePlacedEntry =
    (s : Setting) → IsSoundSetting s → (tables : ℕ → List FlowEntry) → AreInstalled s tables
    → (v : ℕ) (x : VirtualSwitch) → slice_get s.network.switches v ≡ Some x → x.whole ≡ false → AreUp s v
    → (h : HeaderOf) (o : Outside) → outside_at s.wiring v h.in_port ≡ Some o → takes x.spread h ≡ true
    → (r : FlatRule) → IsForPort s.wiring v x o h.in_port r → (e : PhysEntry)
    → entry_of s.wiring (site_at o.at.switch v x) r ≡ Some e
    → (choice : Choice) → IsAllowed tables choice
    → Alike (fires_on s.wiring (follow s.wiring choice (length s.switches)) [] o.at.switch
    (fire e.actions (comes_by o.at.port h))) (outs_seen s.wiring o.at h r.outs)
