use Rattle.std.proofs.Common.{◌≡◌, ◌∙◌, Some, true, false, ap, ap₂, codes, rules}
use Rattle.std.specs.Str.{bytes_eq}
use Rattle.clap.specs.Words.{Text, found_of, rows_of}
use Rattle.clap.proofs.WalkLemmas.{first_value-rows}
use Rattle.command_line.specs.Forms.{count_in, making, seed_in}
use Rattle.command_line.specs.Meaning.{replaying}
use Rattle.command_line.specs.declared.command.Command.{Command}
use Rattle.command_line.specs.declared.command.Command.TheVariants.{ExplainPolicy, Serve}
use Rattle.std.proofs.Common.{option_map}
use Rattle.command_line.proofs.Meant.{ascii_given, explain_meant, make_meant, number_given, replay_meant, serve_meant}
use Rattle.command_line.proofs.meaning.meant.Goals as goal

pub text-requires : goal.text-requires
text-requires c = ascii_given c.get_str.result _ (c.get_str.ensures
    ∙ first_value-rows (found_of c.args.given.now) (codes "POLICY")) c.requires

pub text-requires-then-is_text-2 : goal.text-requires-then-is_text-2
text-requires-then-is_text-2 c =
    ascii_given c.get_str-then-is_text-2.result _ (c.get_str-then-is_text-2.ensures
    ∙ first_value-rows (found_of c.args.given.now) (codes "POLICY")) c.requires

pub text-requires-then-is_text-3 : goal.text-requires-then-is_text-3
text-requires-then-is_text-3 c =
    ascii_given c.get_str-then-is_text-3.result _ (c.get_str-then-is_text-3.ensures
    ∙ first_value-rows (found_of c.args.given.now) (codes "POLICY")) c.requires

pub returns-in_ok-name : goal.returns-in_ok-name
returns-in_ok-name c =
    let is : bytes_eq c.args.verb.now (codes "replay") ≡ true = search rules in
    ap (λ (x : Command). Some x) (c.replaying.ensures ∙ ap replaying (c.in_ok-name.ensures
    ∙ (c.get_str.ensures ∙ first_value-rows (found_of c.args.given.now) (codes "POLICY"))))
    ∙ replay_meant c.args.verb.now (rows_of (found_of c.args.given.now)) is

pub returns-in_ok-name-2 : goal.returns-in_ok-name-2
returns-in_ok-name-2 c =
    let no : bytes_eq c.args.verb.now (codes "replay") ≡ false = search rules in
    let is : bytes_eq c.args.verb.now (codes "explain") ≡ true = search rules in
    c.explaining.ensures ∙ ap (option_map (λ (name : Text). ExplainPolicy name)) (c.in_ok-name-2.ensures
    ∙ (c.get_str-then-is_text-2.ensures ∙ first_value-rows (found_of c.args.given.now) (codes "POLICY")))
    ∙ explain_meant c.args.verb.now (rows_of (found_of c.args.given.now)) no is

pub returns-in_ok-name-3 : goal.returns-in_ok-name-3
returns-in_ok-name-3 c =
    let no : bytes_eq c.args.verb.now (codes "replay") ≡ false = search rules in
    let nor : bytes_eq c.args.verb.now (codes "explain") ≡ false = search rules in
    let is : bytes_eq c.args.verb.now (codes "serve") ≡ true = search rules in
    c.serving.ensures ∙ ap (option_map (λ (name : Text). Serve name)) (c.in_ok-name-3.ensures
    ∙ (c.get_str-then-is_text-3.ensures ∙ first_value-rows (found_of c.args.given.now) (codes "POLICY")))
    ∙ serve_meant c.args.verb.now (rows_of (found_of c.args.given.now)) no nor is

pub returns-then-is_text-4 : goal.returns-then-is_text-4
returns-then-is_text-4 c =
    let no : bytes_eq c.args.verb.now (codes "replay") ≡ false = search rules in
    let nor : bytes_eq c.args.verb.now (codes "explain") ≡ false = search rules in
    let neither : bytes_eq c.args.verb.now (codes "serve") ≡ false = search rules in
    let is : bytes_eq c.args.verb.now (codes "make") ≡ true = search rules in
    c.making.ensures ∙ ap₂ making
    (number_given seed_in c.get_str-then-is_text-4.result _ (c.get_str-then-is_text-4.ensures
    ∙ first_value-rows (found_of c.args.given.now) (codes "SEED")))
    (number_given count_in c.get_str-then-is_text-4-2.result _
    (c.get_str-then-is_text-4-2.ensures ∙ first_value-rows (found_of c.args.given.now) (codes "N")))
    ∙ make_meant c.args.verb.now (rows_of (found_of c.args.given.now)) no nor neither is
