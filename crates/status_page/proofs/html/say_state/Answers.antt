use Rattle.std.proofs.Common.{◌≡◌, ◌++◌, ap, subst, sym, ◌∙◌}
use Rattle.std.specs.Prelude.{codes, flat_map}
use Rattle.status_page.specs.Page.{cell, duration, escaped, state_cells}
use Rattle.status_page.proofs.Chains.{join}
use Rattle.status_page.proofs.html.say_state.Goals as goal

pub returns-in_ok-say_duration_cell-in-Up : goal.returns-in_ok-say_duration_cell-in-Up
returns-in_ok-say_duration_cell-in-Up c =
    subst (λ s. c.say_duration_cell.new.text ≡ c.args.text.now ++ state_cells s) (sym c.in-Up.is)
    (join c.args.text.now ((codes "<td class=\"up\">up</td>") ++ (cell (escaped c.in-Up.peer))) (cell (duration c.in-Up.seconds))
    (join c.args.text.now ((codes "<td class=\"up\">up</td>")) (cell (escaped c.in-Up.peer))
    c.in_ok-say-in-Up.ensures
    c.in_ok-say_cell-in-Up.ensures)
    c.in_ok-say_duration_cell-in-Up.ensures)

pub returns-in_ok-say-in-Waiting : goal.returns-in_ok-say-in-Waiting
returns-in_ok-say-in-Waiting c =
    subst (λ s. c.say-in-Waiting.new.line ≡ c.args.text.now ++ state_cells s) (sym c.in-Waiting.is)
    c.in_ok-say-in-Waiting.ensures

pub returns-in_ok-say-in-Spent : goal.returns-in_ok-say-in-Spent
returns-in_ok-say-in-Spent c =
    subst (λ s. c.say-in-Spent.new.line ≡ c.args.text.now ++ state_cells s) (sym c.in-Spent.is)
    c.in_ok-say-in-Spent.ensures
