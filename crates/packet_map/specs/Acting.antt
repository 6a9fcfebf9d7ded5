-- What is done at a virtual switch, and what a walk gives with it.
use Rattle.std.specs.Prelude.{List}
use Rattle.of10_actions.specs.Effects.{effects_of}
use Rattle.of10_actions.specs.Fields.{RewriteOf}
use Rattle.of10_actions.specs.declared.effects.Effects.{Effects}
use Rattle.of10_actions.specs.declared.effects.Out.{Out}
use Rattle.member_table.specs.declared.entry.Entry.{Entry}
use Rattle.policy_meaning.specs.Walk.{both_walked, here, walked_after}
use Rattle.policy_meaning.specs.declared.meaning.Meaning.{Meaning}
use Rattle.policy_meaning.specs.declared.walking.Walked.{Walked}
use Rattle.packet_map.specs.declared.acted.Acted.{Acted}
use Rattle.packet_map.specs.declared.answer.Member.{Member}
use Rattle.packet_map.specs.declared.hop.Hop.{Hop}

-- whether an entry acts, and the tail
abbrev pub acted_of : Meaning → Acted
acted_of m = record { touched = m.touched; tail = m.tail }

-- what an entry of a member does
abbrev pub entry_effects : Member → Entry → Effects
entry_effects m e = effects_of m.grant.now.ports m.number e.actions

-- a walk, and then what stands after a rewrite
abbrev pub with_more : Walked → RewriteOf → Walked → Walked
with_more w r more = both_walked w (walked_after r more)

-- a walk, and then what outs give where the packet is
abbrev pub with_outs : Walked → Hop → List Out → Walked
with_outs w hop outs = with_more w hop.rewrite (here hop.v hop.header.in_port outs)
