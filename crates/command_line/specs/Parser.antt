-- The forms as a command of `clap`: each verb is a subcommand, whose arguments are positional texts.
use Rattle.std.specs.Prelude.{true, codes}
use Rattle.clap.specs.Words.{App, Rule, Text, new_app, new_rule, with_rule, with_subcommand}
use Rattle.clap.specs.Simple.{on_top}

-- a text that may be there, and one that must
abbrev pub optional_text : Text → Rule
optional_text name = new_rule name

abbrev pub wanted_text : Text → Rule
wanted_text name = record (new_rule name) { required = true }

abbrev pub replay_form : App
replay_form = with_rule (new_app (codes "replay")) (optional_text (codes "POLICY"))

abbrev pub explain_form : App
explain_form = with_rule (new_app (codes "explain")) (wanted_text (codes "POLICY"))

abbrev pub serve_form : App
serve_form = with_rule (new_app (codes "serve")) (wanted_text (codes "POLICY"))

abbrev pub make_form : App
make_form = with_rule (with_rule (new_app (codes "make")) (wanted_text (codes "SEED"))) (wanted_text (codes "N"))

-- no word is the program's name
abbrev pub no_form : App
no_form = on_top (λ s. record s { no_binary_name = true }) (new_app (codes "covisor"))

abbrev pub forms : App
forms =
    with_subcommand (with_subcommand (with_subcommand (with_subcommand no_form replay_form.top) explain_form.top)
    serve_form.top) make_form.top
