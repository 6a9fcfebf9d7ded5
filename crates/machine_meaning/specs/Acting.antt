-- What an event itself does.
use Rattle.std.specs.Prelude.{ℕ, List}
use Rattle.cv_io.specs.declared.leaf.Who.{Who}
use Rattle.cv_io.specs.declared.leaf.Who.TheVariants.{Member, Switch, Audit}
use Rattle.policies.specs.Policies.{PolicyOf}
use Rattle.machine_meaning.specs.Coming.{comes_up, goes}
use Rattle.machine_meaning.specs.Drafts.{Draft, untouched}
use Rattle.machine_meaning.specs.MemberMessages.{hears_member}
use Rattle.machine_meaning.specs.Replacing.{replaces}
use Rattle.machine_meaning.specs.States.{State}
use Rattle.machine_meaning.specs.SwitchMessages.{hears_switch}
use Rattle.machine_meaning.specs.Ticking.{ticks}
use Rattle.events.specs.declared.event.Event.{Event}
use Rattle.events.specs.declared.event.Event.TheVariants.{Up, Msg, Gone, Tick, Take, Policy}

-- a session sends a frame
abbrev pub sends : PolicyOf → Who → List ℕ → Draft → Draft
sends p (Member n) frame d = hears_member p n frame d
sends p (Switch n) frame d = hears_switch p n frame d
sends p Audit frame d = d

-- what an event does; a taking only takes
abbrev pub act_on : PolicyOf → Event → Draft → Draft
act_on p (Up who arp) d = comes_up p who arp d
act_on p (Msg session frame) d = sends p session.who frame d
act_on p (Gone session) d = goes session.who d
act_on p (Tick second) d = ticks p second d
act_on p (Take session) d = d
act_on p (Policy v text) d = replaces p v text d

abbrev pub act : PolicyOf → State → Event → Draft
act p s e = act_on p e (untouched s)
