-- Firing the entry of a rule gives the rule's outs.
use Rattle.std.specs.Prelude.{◌≡◌, ℕ, ◌<◌, ◌⊎◌, true, Option, Some, None, if◌then◌else◌, List, [], ◌∷◌, filter}
use Rattle.std.specs.Prelude.{filter_map, not, IfSome, option_map}
use Rattle.std.specs.List.{AllByRecursion}
use Rattle.of10_match.specs.Fields.{HeaderOf}
use Rattle.of10_actions.specs.Fields.{RewriteOf}
use Rattle.of10_actions.specs.Rewriting.{apply, no_rewrite}
use Rattle.of10_actions.specs.Effects.{EachExtends}
use Rattle.of10_actions.specs.declared.effects.Dest.{Dest}
use Rattle.of10_actions.specs.declared.effects.Dest.TheVariants.{Port, Flood, Ingress, Tell}
use Rattle.of10_actions.specs.declared.effects.Out.{Out}
use Rattle.of10_actions.specs.Numbers.{MAX}
use Rattle.switch_meaning.specs.Firing.{fire}
use Rattle.switch_meaning.specs.Placing.{entry_of, is_silent, tells}
use Rattle.switch_meaning.specs.Wirings.{outside_at}
use Rattle.switch_meaning.specs.declared.entry.FlatRule.{FlatRule}
use Rattle.switch_meaning.specs.declared.entry.PhysEntry.{PhysEntry}
use Rattle.switch_meaning.specs.declared.entry.Site.{Site}
use Rattle.switch_meaning.specs.declared.fired.Fired.{Fired}
use Rattle.switch_meaning.specs.declared.fired.Sent.{Sent}
use Rattle.switch_meaning.specs.declared.wiring.Outside.{Outside}
use Rattle.switch_meaning.specs.declared.wiring.Wiring.{Wiring}

-- the packet that goes out at a port of a virtual switch
abbrev pub sent_at : Option Outside → HeaderOf → Option Sent
sent_at o h = option_map (λ (o : Outside). record { port = o.at.port; header = h }) o

-- the packet that an out sends, of one that came with this header
abbrev pub leaves_by : Wiring → HeaderOf → RewriteOf → Dest → Option Sent
leaves_by w h r (Port v p) = sent_at (outside_at w v p) (apply r h)
leaves_by w h r (Flood v p) = sent_at (outside_at w v p) (apply r h)
leaves_by w h r Ingress = Some (record { port = h.in_port; header = apply r h })
leaves_by w h r (Tell member reason) = None

-- the outs that speak of a packet that came by a port: a rule for all ports has outs to that port, which are silent
abbrev pub speaking : Site → ℕ → List Out → List Out
speaking site port outs = if site.whole then filter (λ (o : Out). not (is_silent site.v (Some port) o.dest)) outs
    else outs

-- what outs say of a packet: what is sent, in order, and one copy where somebody is told
abbrev pub said : Wiring → HeaderOf → List Out → Fired
said w h outs = record {
  outs = filter_map (λ (o : Out). leaves_by w h o.rewrite o.dest) outs;
  copies = if tells outs
      then h ∷ [] else [];
}

-- the outside port, if it is one, lies on this switch
abbrev pub LiesOn : Wiring → ℕ → ℕ → ℕ → Type 0
LiesOn w switch v p = IfSome (outside_at w v p) (λ (o : Outside). o.at.switch ≡ switch)

-- the out goes to a port of this switch, if it goes to one
abbrev pub StaysOn : Wiring → ℕ → Dest → Type 0
StaysOn w switch (Port v p) = LiesOn w switch v p
StaysOn w switch (Flood v p) = LiesOn w switch v p
StaysOn w switch Ingress = Unit {0}
StaysOn w switch (Tell member reason) = Unit {0}

-- outside ports have numbers of ports, and no two of them are one port of a switch
pub record IsSoundWiring (w : Wiring) : Type 0 where
  pub numbers : (v p : ℕ) → IfSome (outside_at w v p) (λ (o : Outside). o.at.port < MAX)
  pub apart :
      (v p u q : ℕ) (a b : Outside) → outside_at w v p ≡ Some a → outside_at w u q ≡ Some b
      → a.at.switch ≡ b.at.switch → a.at.port ≡ b.at.port → (v ≡ u) × (p ≡ q)

-- a rule that can be put on the switch of its ports, for packets that come by a port of its virtual switch
pub record IsPlaceable (w : Wiring) (site : Site) (port : ℕ) (r : FlatRule) : Type 0 where
  pub outs : AllByRecursion (λ (o : Out). StaysOn w site.switch o.dest) r.outs
  pub extends : EachExtends no_rewrite r.outs
  -- it names that port; a rule for all ports may name none
  pub in_port : (r.m.in_port ≡ Some port) ⊎ ((site.whole ≡ true) × (r.m.in_port ≡ None))

-- for every header that comes by a port of the virtual switch, and that the rule's entry holds
abbrev pub FiringGivesOuts : Type 0
FiringGivesOuts =
    (w : Wiring) → IsSoundWiring w → (site : Site) (port : ℕ) (at : Outside) → outside_at w site.v port ≡ Some at
    → at.at.switch ≡ site.switch
    → (r : FlatRule) → IsPlaceable w site port r → (e : PhysEntry) → entry_of w site r ≡ Some e
    → (h : HeaderOf) → h.in_port ≡ at.at.port → fire e.actions h ≡ said w h (speaking site port r.outs)
