-- Where a replay ends, from how far it was.
use Rattle.std.proofs.Common.{◌≡◌, ◌<◌, ◌≤◌, ◌+◌, ℕ, Bool, true, false, List, [], ◌++◌, Option, Some, None, Result, Ok}
use Rattle.std.proofs.Common.{Err, length}
use Rattle.std.proofs.Common.{sym, ap, ◌∙◌, subst, refl, OnOk, IfErr}
use Rattle.std.proofs.lemmas.List.{append-nil}
use Rattle.outside.specs.Outside.{Rose}
use Rattle.policies.specs.Policies.{PolicyOf}
use Rattle.replay_report.specs.Playing.{Played}
use Rattle.replay_report.specs.Reports.{Progress, Report, after_text, ended, plays_from, plays_last, refused}
use Rattle.replay_report.specs.Reports.{steps_from, steps_in, steps_of_last, taken}
use Rattle.replay_report.specs.declared.kind.Kind.{Kind}
use Rattle.replay_report.specs.declared.kind.Kind.TheVariants.{Long}
use Rattle.script_text.specs.declared.form.Form.{Form}
use Rattle.covisor_proxy.specs.Asked.{given_of}
use Rattle.covisor_proxy.specs.Chunks.{GoesOn, IsAtEnd, LinesOf}
use Rattle.covisor_proxy.specs.Following.{Begins, Closes, ClosesNot, Comes, Follows, Halts, Reaches, Reads, ReadsNot}
use Rattle.covisor_proxy.specs.Outcomes.{Moment, moment}
use Rattle.covisor_proxy.specs.Written.{Appends, AppendsSome}
use Rattle.covisor_proxy.specs.declared.lines.Taken.TheVariants.{Whole, Part}
use Rattle.covisor_proxy.specs.declared.stop.Stop.{Stop}
use Rattle.covisor_proxy.specs.declared.stop.Stop.TheVariants.{Refused, Read, Write, Memory}
use Rattle.covisor_proxy.proofs.Appending.{some_none}
use Rattle.covisor_proxy.proofs.Going.{begins-here, breaks, comes, comes-long, comes-refused, falls-here, falls-line}
use Rattle.covisor_proxy.proofs.Going.{follows-read, left_steps, line-left}
use Rattle.covisor_proxy.proofs.Counting.{still}
use Rattle.covisor_proxy.proofs.Reading.{none-left, rest_in}

-- nothing more was written
pub begins-still : (form : Form) (p : PolicyOf) (old new next : Moment) (at : Progress) (lines : LinesOf) (w : List ℕ)
    → Follows form p old new at lines w → next.held ≡ new.held → next.steps ≤ new.steps + left_steps form p new at lines
    → Begins (given_of form p) old next
begins-still form p old new next at lines w f e s =
    begins-here form p old new next at lines w f
    (subst (λ (x : Option (List ℕ)). AppendsSome new.held x w) (sym e) (some_none new.held w)) s

-- nothing more was done
pub begins-so : (form : Form) (p : PolicyOf) (old new : Moment) (at : Progress) (lines : LinesOf) (w : List ℕ)
    → Follows form p old new at lines w → Begins (given_of form p) old new
begins-so form p old new at lines w f = begins-still form p old new new at lines w f refl
    (still new.steps new.steps (left_steps form p new at lines) refl)

-- at a line whose line feed was read
pub reaches-halted : (stop : Stop) (form : Form) (p : PolicyOf) (old new : Moment) (held : Option (List ℕ))
    (writes steps : ℕ) (at at' : Progress) (lines mid : LinesOf) (w w' : List ℕ)
    → Follows form p old new at lines w → GoesOn Whole lines mid → new.writes ≡ old.writes
    → Halts stop (taken form p at mid.line (length mid.line + 1)) at at' new.held held new.writes writes w w'
    → steps ≤ new.steps + steps_in (taken form p at mid.line (length mid.line + 1))
    → Reaches (Err stop) form p at' w' old (moment new.left new.reads held writes steps)
reaches-halted (Refused kind) form p old new held writes steps at at' lines mid w w' f g q h s =
    let next = moment new.left new.reads held writes steps in (
      subst (λ (x : List ℕ). Comes (given_of form p) (refused kind at') old next x) (sym h.4)
          (subst (λ (x : Progress). Comes (given_of form p) (refused kind x) old next w) (sym h.1)
          (comes-refused form p old new next at lines mid w kind f g h.0 h.2
          (line-left form p new steps at lines mid g s))),
      h.3 ∙ q,
    )
reaches-halted Write form p old new held writes steps at at' lines mid w w' f g q h s = (
  subst (λ (x : ℕ). Rose x writes) q h.0,
  falls-line form p old new (moment new.left new.reads held writes steps) at lines mid w h.1.played f g h.1.is h.1.short
      (line-left form p new steps at lines mid g s),
)
reaches-halted Memory form p old new held writes steps at at' lines mid w w' f g q h s =
    begins-still form p old new (moment new.left new.reads held writes steps) at lines w f h
    (line-left form p new steps at lines mid g s)
reaches-halted Read form p old new held writes steps at at' lines mid w w' f g q h s = absurd h

-- where the script isn't read on
pub reaches-unread : (stop : Stop) (form : Form) (p : PolicyOf) (old new next : Moment) (at at' : Progress)
    (lines : LinesOf) (w w' : List ℕ)
    → Follows form p old new at lines w → lines.unread ≡ [] → new.reads ≡ old.reads → new.writes ≡ old.writes
    → next.steps ≡ new.steps → at' ≡ at
    → ReadsNot stop new next lines.line w w' → Reaches (Err stop) form p at' w' old next
reaches-unread (Refused kind) form p old new next at at' lines w w' f none r q s same h = (
  subst (λ (x : List ℕ). Comes (given_of form p) (refused kind at') old next x) (sym h.3)
      (subst (λ (x : Progress). Comes (given_of form p) (refused kind x) old next w) (sym same)
      (subst (λ (x : Kind). Comes (given_of form p) (refused x at) old next w) (sym h.0)
      (subst (λ (x : Moment). Comes (given_of form p) (refused Long at) old x w) (sym h.2)
      (comes-long form p old new at lines w f h.1)))),
  ap (λ (x : Moment). x.writes) h.2 ∙ q,
)
reaches-unread Write form p old new next at at' lines w w' f none r q s same h = (
  subst (λ (x : ℕ). Rose x next.writes) q h.0,
  falls-here form p old new next at lines w f h.1 (still next.steps new.steps (left_steps form p new at lines) s),
)
reaches-unread Read form p old new next at at' lines w w' f none r q s same h = (
  breaks form p old new next at lines w f none h.1 h.2 s,
  subst (λ (x : ℕ). Rose x next.reads) r h.0,
  h.3 ∙ q,
)
reaches-unread Memory form p old new next at at' lines w w' f none r q s same h = absurd h

-- what follows the line so far, at the end of the script
at_last : (form : Form) (p : PolicyOf) (next : Moment) (at : Progress) (more : LinesOf) → IsAtEnd next.left
    → more.unread ≡ []
    → plays_from form p (plays_last form p) at more.line (more.unread ++ rest_in next.left)
    ≡ plays_from form p (plays_last form p) at more.line []
at_last form p next at more e none =
    ap (λ (x : List ℕ). plays_from form p (plays_last form p) at more.line (x ++ rest_in next.left)) none
    ∙ ap (plays_from form p (plays_last form p) at more.line) (none-left next.left e)

-- and its steps
last_left : (form : Form) (p : PolicyOf) (next : Moment) (at : Progress) (more : LinesOf) (steps : ℕ)
    → IsAtEnd next.left → more.unread ≡ []
    → steps ≤ next.steps + steps_of_last form p more.line at → steps ≤ next.steps + left_steps form p next at more
last_left form p next at more steps e none s =
    subst (λ (x : List ℕ). steps ≤ next.steps + steps_from form p (steps_of_last form p) at more.line
    (x ++ rest_in next.left)) (sym none)
    (subst (λ (x : List ℕ). steps ≤ next.steps + steps_from form p (steps_of_last form p) at more.line x)
    (sym (none-left next.left e)) s)

-- behind the last line
pub reaches-closed : (form : Form) (p : PolicyOf) (old next : Moment) (steps : ℕ) (at at' : Progress) (more : LinesOf)
    (w' : List ℕ)
    → Follows form p old next at more [] → IsAtEnd next.left → more.unread ≡ [] → next.reads ≡ old.reads
    → next.writes ≡ old.writes
    → steps ≤ next.steps + steps_of_last form p more.line at
    → Closes form p more.line at at' [] w'
    → Reaches (Ok tt) form p at' w' old (moment next.left next.reads next.held next.writes steps)
reaches-closed form p old next steps at at' more w' f e none r q s c =
    let last = moment next.left next.reads next.held next.writes steps in (
      subst (Comes (given_of form p) (ended at') old last) (sym c.waits)
          (comes form p old next last at more [] c.text (ended at') f (at_last form p next at more e none ∙ c.report)
          refl
          (last_left form p next at more steps e none s)),
      e,
      r,
      q,
    )

pub reaches-unclosed : (stop : Stop) (form : Form) (p : PolicyOf) (old next : Moment) (steps : ℕ) (at at' : Progress)
    (more : LinesOf) (w' : List ℕ)
    → Follows form p old next at more [] → IsAtEnd next.left → more.unread ≡ [] → next.writes ≡ old.writes
    → steps ≤ next.steps + steps_of_last form p more.line at
    → ClosesNot stop form p more.line at at' [] w'
    → Reaches (Err stop) form p at' w' old (moment next.left next.reads next.held next.writes steps)
reaches-unclosed (Refused kind) form p old next steps at at' more w' f e none q s h =
    let last = moment next.left next.reads next.held next.writes steps in (
      subst (Comes (given_of form p) (refused kind at') old last) (sym h.1)
          (comes form p old next last at more [] [] (refused kind at') f (at_last form p next at more e none ∙ h.0) refl
          (last_left form p next at more steps e none s)),
      q,
    )
reaches-unclosed Memory form p old next steps at at' more w' f e none q s h =
    begins-still form p old next (moment next.left next.reads next.held next.writes steps) at more [] f refl
    (last_left form p next at more steps e none s)
reaches-unclosed Read form p old next steps at at' more w' f e none q s h = absurd h
reaches-unclosed Write form p old next steps at at' more w' f e none q s h = absurd h

-- what a line does, where form and policy are the same
pub taken-same : (F form : Form) (P p : PolicyOf) (at : Progress) (line : List ℕ) (used : ℕ) → F ≡ form → P ≡ p
    → taken F P at line used ≡ taken form p at line used
taken-same F form P p at line used e e' = ap (λ (x : Form). taken x P at line used) e
    ∙ ap (λ (x : PolicyOf). taken form x at line used) e'

closed_same : (F form : Form) (P p : PolicyOf) (line line' : List ℕ) (at at' : Progress) (w w' : List ℕ) → F ≡ form
    → P ≡ p → line ≡ line' → w ≡ []
    → Closes F P line at at' w w' → Closes form p line' at at' [] w'
closed_same F form P p line line' at at' w w' a b e d c =
    subst (λ (x : List ℕ). Closes form p line' at at' x w') d
    (subst (λ (x : List ℕ). Closes form p x at at' w w') e
    (subst (λ (x : PolicyOf). Closes form x line at at' w w') b
    (subst (λ (x : Form). Closes x P line at at' w w') a c)))

unclosed_same : (stop : Stop) (F form : Form) (P p : PolicyOf) (line line' : List ℕ) (at at' : Progress) (w w' : List ℕ)
    → F ≡ form → P ≡ p → line ≡ line' → w ≡ []
    → ClosesNot stop F P line at at' w w' → ClosesNot stop form p line' at at' [] w'
unclosed_same stop F form P p line line' at at' w w' a b e d c =
    subst (λ (x : List ℕ). ClosesNot stop form p line' at at' x w') d
    (subst (λ (x : List ℕ). ClosesNot stop form p x at at' w w') e
    (subst (λ (x : PolicyOf). ClosesNot stop form x line at at' w w') b
    (subst (λ (x : Form). ClosesNot stop x P line at at' w w') a c)))

last_same : (F form : Form) (P p : PolicyOf) (line line' : List ℕ) (at : Progress) (before steps : ℕ) → F ≡ form → P ≡ p
    → line ≡ line'
    → steps ≤ before + steps_of_last F P line at → steps ≤ before + steps_of_last form p line' at
last_same F form P p line line' at before steps a b e s =
    subst (λ (x : List ℕ). steps ≤ before + steps_of_last form p x at) e
    (subst (λ (x : PolicyOf). steps ≤ before + steps_of_last form x line at) b
    (subst (λ (x : Form). steps ≤ before + steps_of_last x P line at) a s))

-- at the end of the script
pub reaches-last : (result : Result (Unit {0}) Stop) (F form : Form) (P p : PolicyOf) (old next : Moment) (steps : ℕ)
    (at at' : Progress) (more : LinesOf) (line w w' : List ℕ)
    → F ≡ form → P ≡ p → line ≡ more.line → w ≡ []
    → Follows form p old next at more [] → IsAtEnd next.left → more.unread ≡ [] → next.reads ≡ old.reads
    → next.writes ≡ old.writes
    → steps ≤ next.steps + steps_of_last F P line at
    → OnOk result (Closes F P line at at' w w') → IfErr result (λ stop. ClosesNot stop F P line at at' w w')
    → Reaches result form p at' w' old (moment next.left next.reads next.held next.writes steps)
reaches-last (Ok done) F form P p old next steps at at' more line w w' a b e d f at_end none r q s c n =
    reaches-closed form p old next steps at at' more w' f at_end none r q
    (last_same F form P p line more.line at next.steps steps a b e s)
    (closed_same F form P p line more.line at at' w w' a b e d c)
reaches-last (Err stop) F form P p old next steps at at' more line w w' a b e d f at_end none r q s c n =
    reaches-unclosed stop form p old next steps at at' more w' f at_end none q
    (last_same F form P p line more.line at next.steps steps a b e s)
    (unclosed_same stop F form P p line more.line at at' w w' a b e d n)

-- the steps of a line, where form and policy are the same
pub steps-same : (F form : Form) (P p : PolicyOf) (at : Progress) (line : List ℕ) (used before steps : ℕ) → F ≡ form
    → P ≡ p
    → steps ≤ before + steps_in (taken F P at line used) → steps ≤ before + steps_in (taken form p at line used)
steps-same F form P p at line used before steps e e' s =
    subst (λ (x : Result Played Kind). steps ≤ before + steps_in x) (taken-same F form P p at line used e e') s
