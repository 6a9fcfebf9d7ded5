use Rattle.std.proofs.Common.{◌≡◌, ◌∙◌, true, ap, ap₂}
use Rattle.std.proofs.lemmas.Result.{IfOk-weaker}
use Rattle.clap.specs.Words.{App, app_of, with_subcommand}
use Rattle.clap.specs.Simple.{app_of_fields, on_top}
use Rattle.command_line.specs.Parser.{explain_form, no_form, replay_form, serve_form}
use Rattle.command_line.proofs.Shapes.{own}
use Rattle.command_line.proofs.parser.forms.Goals as goal

pub returns : goal.returns
returns c =
    let plain = λ (a : App). a.top.is_plain in
    let top = λ (a : App). a.top in
    let base : app_of c.no_binary_name.result ≡ no_form =
    ap app_of_fields c.no_binary_name.ensures
    ∙ ap (on_top (λ s. record s { no_binary_name = true })) c.new.ensures.app in
    let one : app_of c.in_ok-subcommand.field-0 ≡ with_subcommand no_form replay_form.top =
    c.in_ok-subcommand.ensures.shape (own c.in_ok-replay.field-0 (ap plain c.in_ok-replay.ensures))
    ∙ ap₂ with_subcommand base (ap top c.in_ok-replay.ensures) in
    let two : app_of c.in_ok-subcommand-2.field-0
    ≡ with_subcommand (with_subcommand no_form replay_form.top) explain_form.top =
    c.in_ok-subcommand-2.ensures.shape (own c.in_ok-explain.field-0 (ap plain c.in_ok-explain.ensures))
    ∙ ap₂ with_subcommand one (ap top c.in_ok-explain.ensures) in
    let three : app_of c.in_ok-subcommand-3.field-0
    ≡ with_subcommand (with_subcommand (with_subcommand no_form replay_form.top) explain_form.top) serve_form.top =
    c.in_ok-subcommand-3.ensures.shape (own c.in_ok-serve.field-0 (ap plain c.in_ok-serve.ensures))
    ∙ ap₂ with_subcommand two (ap top c.in_ok-serve.ensures) in
    IfOk-weaker c.subcommand-4.result _ _
    (λ r h. h.shape (own c.in_ok-make.field-0 (ap plain c.in_ok-make.ensures))
    ∙ ap₂ with_subcommand three (ap top c.in_ok-make.ensures))
    c.subcommand-4.ensures
