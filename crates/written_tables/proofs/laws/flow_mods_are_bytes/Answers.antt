use Rattle.written_tables.proofs.PutBytes.{flow_mods_are}
use Rattle.written_tables.proofs.laws.flow_mods_are_bytes.Goals as goal

pub returns : goal.returns
returns c = flow_mods_are c.states_are_writable.ensures c.soundness_is_kept.ensures
