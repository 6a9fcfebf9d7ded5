-- What is to be seen of a packet, by its walk.
use Rattle.std.specs.Prelude.{◌≡◌, ℕ, Option, List, [], ◌∷◌, map, filter_map, option_map}
use Rattle.of10_match.specs.Fields.{HeaderOf}
use Rattle.of10_actions.specs.Rewriting.{apply}
use Rattle.policy_meaning.specs.declared.walking.PortOut.{PortOut}
use Rattle.policy_meaning.specs.declared.walking.Told.{Told}
use Rattle.policy_meaning.specs.declared.walking.Walked.{Walked}
use Rattle.switch_meaning.specs.Following.{Choice, IsAllowed, follow}
use Rattle.switch_meaning.specs.Wirings.{outside_at}
use Rattle.switch_meaning.specs.declared.entry.FlowEntry.{FlowEntry}
use Rattle.switch_meaning.specs.declared.fired.Copied.{Copied}
use Rattle.switch_meaning.specs.declared.fired.Left.{Left}
use Rattle.switch_meaning.specs.declared.fired.Seen.{Seen}
use Rattle.switch_meaning.specs.declared.wiring.Outside.{Outside}
use Rattle.switch_meaning.specs.declared.wiring.SwitchPort.{SwitchPort}
use Rattle.switch_meaning.specs.declared.wiring.Wiring.{Wiring}

-- the header of a packet as it comes in at a port
abbrev pub comes_by : ℕ → HeaderOf → HeaderOf
comes_by port h = record h { in_port = port }

-- the packet that a walk sends out at a port of a virtual switch, where that port lies
abbrev pub left_at : Wiring → HeaderOf → PortOut → Option Left
left_at w h out = option_map (λ (o : Outside). record { at = o.at; header = apply out.rewrite h })
    (outside_at w out.v out.port)

-- one copy of the packet as it came, where somebody is told
abbrev pub copy_at : SwitchPort → HeaderOf → List Told → List Copied
copy_at at h [] = []
copy_at at h (t ∷ ts) = record { switch = at.switch; header = comes_by at.port h } ∷ []

-- what is to be seen of a packet that comes in at a physical port: the outs of its walk where their ports lie, in
-- order, and a copy where the walk tells somebody
abbrev pub expected : Wiring → SwitchPort → HeaderOf → Walked → Seen
expected w at h walked = record { outs = filter_map (left_at w h) walked.outs; copies = copy_at at h walked.told }

-- a packet that left, without the port by which it came to its last switch
abbrev pub but_in_port : Left → Left
but_in_port l = record l { header = comes_by 0 l.header }

-- the same is seen, in the same order, but for the in_port of what left
pub record Alike (a b : Seen) : Type 0 where
  pub outs : map but_in_port a.outs ≡ map but_in_port b.outs
  pub copies : a.copies ≡ b.copies

-- whichever entries the switches use, such is seen of a packet that comes in at a physical port, and that at most so
-- many switches take up in turn
abbrev pub AlwaysShows : Wiring → (ℕ → List FlowEntry) → ℕ → SwitchPort → HeaderOf → Seen → Type 0
AlwaysShows w tables n at h seen = (choice : Choice) → IsAllowed tables choice
    → Alike (follow w choice n [] at.switch (comes_by at.port h)) seen
