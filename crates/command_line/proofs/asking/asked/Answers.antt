use Rattle.std.proofs.Common.{◌≡◌, ◌∙◌, is_some, map, subst, sym, true, rules}
use Rattle.std.proofs.lemmas.Result.{IfOk-weaker}
use Rattle.std.specs.String.{string_bytes}
use Rattle.clap.specs.Words.{found_of, rows_of}
use Rattle.command_line.specs.Forms.{command_of}
use Rattle.command_line.proofs.Meant.{met, unmet}
use Rattle.command_line.proofs.Told.{Tells, form_is, told_of}
use Rattle.command_line.proofs.asking.asked.Goals as goal

pub meant-requires : goal.meant-requires
meant-requires c =
    let some : is_some (command_of c.args.words.now) ≡ true = search rules in
    let verb = c.in-Some.verb.now in
    let rows = rows_of (found_of c.in-Some.given.now) in
    (subst (Tells (map string_bytes c.args.words.now)) (sym c.in_ok-matches.ensures
    ∙ met _ _ _ verb rows c.in-Some.ensures.name c.in-Some.ensures.rows)
    (told_of c.args.words.now some).1).1

pub returns-in-Some-clause-form : goal.returns-in-Some-clause-form
returns-in-Some-clause-form c =
    let some : is_some (command_of c.args.words.now) ≡ true = search rules in
    let verb = c.in-Some.verb.now in
    let rows = rows_of (found_of c.in-Some.given.now) in
    let told = subst (Tells (map string_bytes c.args.words.now))
    (sym c.in_ok-matches.ensures ∙ met _ _ _ verb rows c.in-Some.ensures.name c.in-Some.ensures.rows)
    (told_of c.args.words.now some).1 in
    IfOk-weaker c.meant.result _ _ (λ command h. h ∙ told.0 ∙ form_is c.args.words.now some) c.meant.ensures

pub returns-clause-form : goal.returns-clause-form
returns-clause-form c =
    let some : is_some (command_of c.args.words.now) ≡ true = search rules in
    absurd (subst (Tells (map string_bytes c.args.words.now))
    (sym c.in_ok-matches.ensures ∙ unmet _ _ _ c.in-None.ensures.name)
    (told_of c.args.words.now some).1)
