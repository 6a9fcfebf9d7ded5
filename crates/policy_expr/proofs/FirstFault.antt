-- A text that is not read stops at the first sign that cannot stand where it does.
use Rattle.std.proofs.Common.{◌≡◌, ◌∙◌, ℕ, List, [], ◌∷◌, ◌++◌, Option, None, Some, Err, refl, sym, ap, subst}
use Rattle.std.proofs.Common.{append_assoc}
use Rattle.std.proofs.lemmas.List.{append-nil, map-append}
use Rattle.policy_expr.specs.declared.member.MemberName.{MemberName}
use Rattle.policy_expr.specs.Policy.{Policy}
use Rattle.policy_expr.specs.Signs.{Sign, name, closing}
use Rattle.policy_expr.specs.Reading.{State, Pending, Read, whole, step, run, run_on, ended, end_result, start}
use Rattle.policy_expr.specs.Grammar.{Derives, over, bare, IsFirstFault, Stops}
use Rattle.policy_expr.proofs.Steps.{onward, steps, steps-append}
use Rattle.policy_expr.proofs.Complete.{all_stand}
use Rattle.policy_expr.proofs.Sound.{Stands, step_stands, ended_derives, start_stands}

module _ (members : List MemberName) where
  -- signs after which the text may end
  record Finish (s : State) : Type 0 where
    more : List Sign
    last : State
    read : Read
    stepped : steps members s more ≡ Some last
    ends : ended last ≡ Some read

  -- behind an operand each parenthesis is closed
  finish_operand : (outside : List Pending) (inside : Pending) (p : Policy) (names : List (List ℕ))
      → Finish (record { outside = outside; inside = inside; operand = Some p; names = names })
  finish_operand [] inside p names =
      record {
        more = [];
        last = record { outside = []; inside = inside; operand = Some p; names = names };
        read = record { policy = whole inside p; names = names };
        stepped = refl;
        ends = refl;
      }
  finish_operand (f ∷ fs) inside p names =
      let rest = finish_operand fs f (whole inside p) names in
      record {
        more = closing ∷ rest.more;
        last = rest.last;
        read = rest.read;
        stepped = rest.stepped;
        ends = rest.ends;
      }

  -- where an operand is wanted, a name may stand
  finish_at : (operand : Option Policy) (outside : List Pending) (inside : Pending) (names : List (List ℕ))
      → Finish (record { outside = outside; inside = inside; operand = operand; names = names })
  finish_at (Some p) outside inside names = finish_operand outside inside p names
  finish_at None outside inside names =
      let rest = finish_operand outside inside _ (names ++ (97 ∷ []) ∷ []) in
      record {
        more = name (97 ∷ []) ∷ rest.more;
        last = rest.last;
        read = rest.read;
        stepped = rest.stepped;
        ends = rest.ends;
      }

  finish : (s : State) → Finish s
  finish s = finish_at s.operand s.outside s.inside s.names

  -- what each state says stays so along steps
  steps_stand : (s last : State) (before signs : List Sign) → Stands members s before
      → steps members s signs ≡ Some last → Stands members last (before ++ signs)
  steps_stand s last before [] st there =
      let same : s ≡ last = cc in subst (λ (t : State). Stands members t (before ++ [])) same
      (subst (Stands members s) (sym (append-nil before)) st)
  steps_stand s last before (sign ∷ signs) st there =
      by_step (step members s sign) refl there
      (λ after st_after more. steps_stand after last (before ++ sign ∷ []) signs st_after more)
    where
      by_step : (o : Option State) → step members s sign ≡ o → onward o (λ after. steps members after signs) ≡ Some last
          → ((after : State) → Stands members after (before ++ sign ∷ []) → steps members after signs ≡ Some last
          → Stands members last ((before ++ sign ∷ []) ++ signs)) → Stands members last (before ++ sign ∷ signs)
      by_step None e none rest = cc
      by_step (Some after) e more rest = subst (Stands members last) (append_assoc before (sign ∷ []) signs)
          (rest after (step_stands members s after before sign st e) more)

  -- signs that may all stand can be continued
  continues : (s : State) (before : List Sign) → steps members start before ≡ Some s
      → (more : List Sign) × (p : Policy) × Derives members 32 over (before ++ more) p
  continues s before there =
      let f = finish s in
      let all : steps members start (before ++ f.more) ≡ Some f.last = steps-append members start before f.more
      ∙ ap (λ (o : Option State). onward o (λ after. steps members after f.more)) there ∙ f.stepped in
      let st = steps_stand start f.last [] (before ++ f.more) (start_stands members) all in
      (f.more, f.read.policy, (ended_derives members f.last (before ++ f.more) f.read st f.ends).0)

  -- signs that derive with more behind them may all stand
  derived_stands : (before more : List Sign) (p : Policy) (s : State) (sign : Sign)
      → steps members start before ≡ Some s → step members s sign ≡ None
      → Derives members 32 over (before ++ sign ∷ more) p → ⊥
  derived_stands before more p s sign there none d =
      let all = all_stand members (before ++ sign ∷ more) p [] d in
      let stopped : steps members start ((before ++ sign ∷ more) ++ []) ≡ None =
      ap (steps members start) (append-nil (before ++ sign ∷ more)) ∙ steps-append members start before (sign ∷ more)
      ∙ ap (λ (o : Option State). onward o (λ after. steps members after (sign ∷ more))) there
      ∙ ap (λ (o : Option State). onward o (λ after. steps members after more)) none in
      let stepped : steps members start ((before ++ sign ∷ more) ++ []) ≡ Some all.last = all.stepped in
      cc

  derived_ends : (before : List Sign) (p : Policy) (s : State) → steps members start before ≡ Some s → ended s ≡ None
      → Derives members 32 over before p → ⊥
  derived_ends before p s there none d =
      let all = all_stand members before p [] d in
      let stepped : steps members start before ≡ Some all.last = ap (steps members start) (sym (append-nil before))
      ∙ all.stepped in
      let same : s ≡ all.last = cc in
      let ends : ended s ≡ Some _ = ap ended same ∙ all.ends in
      cc

  first_fault_from : (end at : ℕ) (s : State) (before signs : List (ℕ × Sign))
      → steps members start (bare before) ≡ Some s → run members end s signs ≡ Err at
      → IsFirstFault members end (before ++ signs) at
  first_fault_from end at s before [] there done = record {
    before = before;
    rest = [];
    split = refl;
    continued = continues s (bare before) there;
    stops = by_end (ended s) refl done;
  }
    where
      by_end : (o : Option Read) → ended s ≡ o → end_result end o ≡ Err at → Stops members end (bare before) [] at
      by_end None e done = (cc, λ p d. derived_ends (bare before) p s there e d)
      by_end (Some read) e done = cc
  first_fault_from end at s before (sign ∷ signs) there done =
      by_step (step members s sign.1) refl done
      (λ after st. first_fault_from end at after (before ++ sign ∷ []) signs st)
    where
      by_step : (o : Option State) → step members s sign.1 ≡ o
          → run_on sign.0 o (λ after. run members end after signs) ≡ Err at
          → ((after : State) → steps members start (bare (before ++ sign ∷ [])) ≡ Some after
          → run members end after signs ≡ Err at → IsFirstFault members end ((before ++ sign ∷ []) ++ signs) at)
          → IsFirstFault members end (before ++ sign ∷ signs) at
      by_step None e done rest = record {
        before = before;
        rest = sign ∷ signs;
        split = refl;
        continued = continues s (bare before) there;
        stops = (cc, λ more p d. derived_stands (bare before) more p s sign.1 there e d);
      }
      by_step (Some after) e done rest =
          let further : steps members start (bare (before ++ sign ∷ [])) ≡ Some after =
          ap (steps members start) (map-append (λ (x : ℕ × Sign). x.1) before (sign ∷ []))
          ∙ steps-append members start (bare before) (sign.1 ∷ [])
          ∙ ap (λ (o : Option State). onward o (λ last. steps members last (sign.1 ∷ []))) there
          ∙ ap (λ (o : Option State). onward o (λ last. Some last)) e in
          subst (λ all. IsFirstFault members end all at) (append_assoc before (sign ∷ []) signs)
          (rest after further done)

  -- a text that is not read has its first fault there
  pub first_fault : (end at : ℕ) (signs : List (ℕ × Sign)) → run members end start signs ≡ Err at
      → IsFirstFault members end signs at
  first_fault end at signs done = first_fault_from end at start [] signs refl done
