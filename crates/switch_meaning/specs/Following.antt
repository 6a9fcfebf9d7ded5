-- Where a packet gets to over cables, whichever entries the switches use.
use Rattle.std.specs.Prelude.{◌≡◌, ℕ, zero, suc, Option, Some, None, List, [], ◌∷◌, ◌++◌, map}
use Rattle.of10_match.specs.Fields.{HeaderOf}
use Rattle.switch_meaning.specs.Firing.{fire_entry}
use Rattle.switch_meaning.specs.MayUse.{MayUse}
use Rattle.switch_meaning.specs.Wirings.{far_end}
use Rattle.switch_meaning.specs.declared.entry.FlowEntry.{FlowEntry}
use Rattle.switch_meaning.specs.declared.fired.Fired.{Fired}
use Rattle.switch_meaning.specs.declared.fired.Seen.{Seen}
use Rattle.switch_meaning.specs.declared.fired.Sent.{Sent}
use Rattle.switch_meaning.specs.declared.wiring.SwitchPort.{SwitchPort}
use Rattle.switch_meaning.specs.declared.wiring.Wiring.{Wiring}

-- nothing leaves, and no copy is made
abbrev pub unseen : Seen
unseen = record { outs = []; copies = [] }

-- one after the other
abbrev pub both_seen : Seen → Seen → Seen
both_seen a b = record { outs = a.outs ++ b.outs; copies = a.copies ++ b.copies }

-- the copies that a switch makes
abbrev pub copies_at : ℕ → List HeaderOf → Seen
copies_at switch copies = record { outs = []; copies = map (λ h. record { switch = switch; header = h }) copies }

-- how the entry is chosen that a switch uses for a packet: also by the way on which the packet came, that is by the
-- places of its outs among those of each switch on the way, the last first
abbrev pub Choice : Type 0
Choice = List ℕ → ℕ → HeaderOf → Option FlowEntry

-- a packet that goes out at a spot with this far end: without a cable it leaves, else it goes on
abbrev pub goes_out : Option SwitchPort → SwitchPort → HeaderOf → (ℕ → HeaderOf → Seen) → Seen
goes_out None at h on = record { outs = record { at = at; header = h } ∷ []; copies = [] }
goes_out (Some end) at h on = on end.switch (record h { in_port = end.port })

-- the outs of a switch, the first of which has this place among them
abbrev pub all_go : Wiring → (List ℕ → ℕ → HeaderOf → Seen) → List ℕ → ℕ → ℕ → List Sent → Seen
all_go w on way switch place [] = unseen
all_go w on way switch place (out ∷ outs) =
    both_seen (goes_out (far_end w (record { switch = switch; port = out.port }))
    (record { switch = switch; port = out.port }) out.header (on (place ∷ way)))
    (all_go w on way switch (suc place) outs)

-- a switch fires, and then its outs go
abbrev pub fires_on : Wiring → (List ℕ → ℕ → HeaderOf → Seen) → List ℕ → ℕ → Fired → Seen
fires_on w on way switch fired = both_seen (copies_at switch fired.copies) (all_go w on way switch 0 fired.outs)

-- what is seen of a packet that comes to a switch, and that at most so many switches take up in turn
abbrev pub follow : Wiring → Choice → ℕ → List ℕ → ℕ → HeaderOf → Seen
follow w choice zero way switch h = unseen
follow w choice (suc n) way switch h = fires_on w (follow w choice n) way switch (fire_entry (choice way switch h) h)

-- each choice is of an entry that the switch may use
abbrev pub IsAllowed : (ℕ → List FlowEntry) → Choice → Type 0
IsAllowed tables choice = (way : List ℕ) (switch : ℕ) (h : HeaderOf) → MayUse (tables switch) h (choice way switch h)

-- whichever entries the switches use, this is seen of a packet that comes to a switch
abbrev pub AlwaysSees : Wiring → (ℕ → List FlowEntry) → ℕ → ℕ → HeaderOf → Seen → Type 0
AlwaysSees w tables n switch h seen = (choice : Choice) → IsAllowed tables choice → follow w choice n [] switch h ≡ seen
