-- What the switches of a virtual switch use, and what packets come by its ports.
use Rattle.std.proofs.Common.{◌≡◌, ℕ, Bool, true, false, ◌&&◌, List, Some, refl, eqb-true}
use Rattle.std.specs.Prelude.{◌==◌, not}
use Rattle.of10_match.specs.Fields.{HeaderOf}
use Rattle.of10_actions.specs.declared.effects.Out.{Out}
use Rattle.policy_meaning.specs.Walk.{takes}
use Rattle.switch_meaning.specs.BestLaw.{IsBestEntry}
use Rattle.switch_meaning.specs.FiringLaw.{speaking}
use Rattle.switch_meaning.specs.Following.{Choice, IsAllowed}
use Rattle.switch_meaning.specs.Keys.{flow_of}
use Rattle.switch_meaning.specs.declared.entry.FlowEntry.{FlowEntry}
use Rattle.switch_meaning.specs.declared.entry.PhysEntry.{PhysEntry}
use Rattle.switch_meaning.specs.declared.entry.Site.{Site}
use Rattle.switch_meaning.proofs.Gate.{best-is-installed}
use Rattle.agreement.specs.declared.state.Setting.{Setting}
use Rattle.agreement.specs.Agree.{AreInstalled}
use Rattle.agreement.specs.Entries.{entries_of, table_of}
use Rattle.agreement.specs.Premises.{IsSoundSetting}
use Rattle.agreement.specs.Reach.{AreUp, IsSwitchOf}
use Rattle.agreement.proofs.SameTables.{may-carried}
use Rattle.agreement.proofs.SwitchEntries.{all-fit}

-- where the best entry of a setting is
pub used : (s : Setting) → IsSoundSetting s → (v : ℕ) (tables : ℕ → List FlowEntry) → AreInstalled s tables → AreUp s v
    → (choice : Choice) → IsAllowed tables choice
    → (switch : ℕ) → IsSwitchOf s v switch → (way : List ℕ) (hd : HeaderOf) (best : PhysEntry)
    → IsBestEntry hd (entries_of s switch) best → choice way switch hd ≡ Some (flow_of best)
used s good v tables installed up choice allowed switch is way hd best top =
    best-is-installed (entries_of s switch) hd best top (all-fit s good switch) (choice way switch hd)
    (may-carried (tables switch) (table_of s switch) hd (choice way switch hd) (installed switch (up switch is))
    (allowed way switch hd))

-- where rules are for one port, all outs speak of its packets
pub all-speak : (site : Site) (port : ℕ) (outs : List Out) → site.whole ≡ false → speaking site port outs ≡ outs
all-speak site port outs e = rw e refl

-- a packet that a spread virtual switch takes has no tag
pub untagged-is : (h : HeaderOf) → takes true h ≡ true → h.dl_vlan ≡ 65535
untagged-is h e = by_tag (h.dl_vlan == 65535) refl e
  where
    by_tag : (b : Bool) → (h.dl_vlan == 65535) ≡ b → not (true && not b) ≡ true → h.dl_vlan ≡ 65535
    by_tag true t u = eqb-true h.dl_vlan 65535 t
    by_tag false t u = cc
