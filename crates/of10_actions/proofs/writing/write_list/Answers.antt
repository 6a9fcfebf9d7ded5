use Rattle.std.proofs.Common.{◌≡◌, ◌∙◌, ◌++◌, ap}
use Rattle.of10_actions.specs.Reading.{reading}
use Rattle.of10_actions.specs.Spelling.{spellings}
use Rattle.of10_actions.proofs.Lists.{written_is_read}
use Rattle.of10_actions.proofs.writing.write_list.Goals as goal

pub returns-clause-reads_back : goal.returns-clause-reads_back
returns-clause-reads_back c =
    let list = c.args.list.now in
    let written : c.write_actions.new.into ≡ spellings list = c.in_ok-write_actions.ensures.written
    ∙ ap (λ xs. xs ++ spellings list) c.in_ok-bytes.ensures in
    ap reading written ∙ written_is_read list (c.requires, c.in_ok-write_actions.ensures.types)
