use Rattle.written_tables.proofs.Reported.{reported_agree}
use Rattle.written_tables.proofs.laws.reported_tables_agree.Goals as goal

pub returns : goal.returns
returns c =
    reported_agree c.opening_is_sound.ensures c.soundness_is_kept.ensures c.messages_are_read_back.ensures
    c.reports_are_read_back.ensures c.runs_make_tables.ensures c.flow_mods_are_bytes.ensures
    c.made_tables_agree.ensures
