use Rattle.replayed_tables.proofs.Replayed.{replayed_agree}
use Rattle.replayed_tables.proofs.replayed_tables_agree.Goals as goal

pub returns : goal.returns
returns c =
    replayed_agree c.opening_is_sound.ensures
    (record {
      kept = c.soundness_is_kept.ensures;
      fits = c.rounds_fit.ensures;
      audit = c.audit_has_its_lines.ensures;
      waits = c.what_is_put_waits.ensures;
      steps = c.steps_make_tables.ensures;
      bytes = c.flow_mods_are_bytes.ensures;
      reads = c.messages_are_read_back.ensures;
      reports = c.reports_are_read_back.ensures;
    }) c.made_tables_agree.ensures
