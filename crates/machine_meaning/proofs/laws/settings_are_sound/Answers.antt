use Rattle.machine_meaning.proofs.SoundSettings.{settings_sound}
use Rattle.machine_meaning.proofs.laws.settings_are_sound.Goals as goal

pub returns : goal.returns
returns c =
    settings_sound c.topologies_are_sound.ensures c.settings_are_sound.ensures c.member_tables_are_sound.ensures
    c.members_keep_to_ports.ensures c.plain_grants_give_plain_tables.ensures
