use Rattle.std.proofs.Common.{List, ℕ, ◌∷◌, ◌++◌, ◌+◌, ◌-◌, ap, sym, ◌∙◌, arith, drop}
use Rattle.made_script.proofs.Stepping.{next_message}
use Rattle.made_script.specs.Script.{lines_behind, opening}
use Rattle.made_script.proofs.script.Made.next.Goals as goal

pub returns-clause-line : goal.returns-clause-line
returns-clause-line c =
    let a = c.self.inside in
    let y = c.after-x.result in
    let stepped = next_message a.opened a.done a.count a.x y (omega arith) (omega arith) (omega arith)
    c.after-x.ensures.value in
    let rest : List (List ℕ) = drop a.opened opening ++ lines_behind (a.done + 1) y (a.count - (a.done + 1)) in
    sym c.self.view_is ∙ stepped ∙ ap (λ (line : List ℕ). line ∷ rest) (sym c.in_ok-line.ensures)
