use Rattle.std.proofs.Common.{rules}
use Rattle.std.specs.Prelude.{not}
use Rattle.std.proofs.lemmas.Fn.{filter_same}
use Rattle.switch_meaning.specs.Same.{same_entry}
use Rattle.switch_meaning.specs.declared.entry.PhysEntry.{PhysEntry}
use Rattle.exact_gate.proofs.bucket.take_out.Goals as goal

pub returns : goal.returns
returns c = filter_same _ (λ (e : PhysEntry). not (same_entry c.args.entry.now e)) _ (λ x b f' k. search rules) _ _
    c.retain.ensures.filtered
