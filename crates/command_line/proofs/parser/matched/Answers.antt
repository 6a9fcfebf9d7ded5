use Rattle.std.proofs.Common.{◌∙◌, ap, map}
use Rattle.std.specs.String.{string_bytes}
use Rattle.clap.specs.Words.{App, is_simple, subcommand_of, takes}
use Rattle.command_line.proofs.Told.{told_of}
use Rattle.command_line.proofs.parser.matched.Goals as goal

pub want_of_memory-requires : goal.want_of_memory-requires
want_of_memory-requires c =
    let texts = map string_bytes c.args.words.now in
    c.in-Err.ensures.passes (ap (λ (a : App). takes a texts) c.in_ok-forms.ensures
    ∙ (told_of c.args.words.now c.requires).0)

pub returns-in-Ok : goal.returns-in-Ok
returns-in-Ok c =
    let texts = map string_bytes c.args.words.now in
    (c.in-Ok.ensures.matches (ap is_simple c.in_ok-forms.ensures)).1
    ∙ ap (λ (a : App). subcommand_of a texts) c.in_ok-forms.ensures
