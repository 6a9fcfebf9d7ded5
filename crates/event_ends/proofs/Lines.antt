-- The lines of the audit, one list after the other.
use Rattle.std.proofs.Common.{◌≡◌, ◌∙◌, ℕ, suc, ◌+◌, Some, List, [], ◌∷◌, ◌++◌, append_assoc, arith, refl, sym, ap, ap₂}
use Rattle.std.proofs.Common.{subst}
use Rattle.std.specs.Prelude.{◌==◌, filter, flat_map, map, slice_get}
use Rattle.std.specs.List.{enumerate_from}
use Rattle.std.specs.Option.{option_map_or}
use Rattle.member_replies.specs.Audit.{down_line}
use Rattle.policies.specs.Policies.{PolicyOf}
use Rattle.virtual_topology.specs.declared.plan.SwitchItem.{SwitchItem}
use Rattle.event_ends.specs.Boxes.{down_lines_at}
use Rattle.machine_meaning.specs.Names.{switch_name}
use Rattle.machine_meaning.specs.Putting.{down_lines}
use Rattle.machine_meaning.specs.declared.said.Down.{Down}

-- five lists behind one another
pub five_lists : (a b c d e l₀ l₁ l₂ l₃ l₄ l₅ : List (List ℕ)) → l₀ ≡ [] → l₁ ≡ l₀ ++ a → l₂ ≡ l₁ ++ b → l₃ ≡ l₂ ++ c
    → l₄ ≡ l₃ ++ d → l₅ ≡ l₄ ++ e → l₅ ≡ a ++ (b ++ (c ++ (d ++ e)))
five_lists a b c d e l₀ l₁ l₂ l₃ l₄ l₅ e₀ e₁ e₂ e₃ e₄ e₅ =
    let one : l₁ ≡ a = e₁ ∙ ap (λ l. l ++ a) e₀ in
    let two : l₂ ≡ a ++ b = e₂ ∙ ap (λ l. l ++ b) one in
    let three : l₃ ≡ (a ++ b) ++ c = e₃ ∙ ap (λ l. l ++ c) two in
    let four : l₄ ≡ ((a ++ b) ++ c) ++ d = e₄ ∙ ap (λ l. l ++ d) three in
    e₅ ∙ (ap (λ l. l ++ e) four
    ∙ (append_assoc ((a ++ b) ++ c) d e ∙ (append_assoc (a ++ b) c (d ++ e) ∙ append_assoc a b (c ++ (d ++ e)))))

-- switches by their items, and by their numbers
pub downs_named : (p : PolicyOf) (downs : List Down) (k : ℕ) (items : List SwitchItem)
    → ((i : ℕ) → slice_get p.switches (k + i) ≡ slice_get items i)
    → flat_map (down_lines_at downs) (enumerate_from k items)
    ≡ flat_map (down_lines p downs) (map (λ x. x.0) (enumerate_from k items))
downs_named p downs k [] h = refl
downs_named p downs k (item ∷ items) h =
    let here : slice_get p.switches k ≡ Some item
    = subst (λ j. slice_get p.switches j ≡ Some item) (omega arith) (h 0) in
    let name : switch_name p k ≡ item.name
    = ap (λ o. option_map_or (λ (s : SwitchItem). s.name) o []) here in
    ap₂ (λ lines rest. lines ++ rest)
    (ap (λ n. map (λ (x : Down). down_line n x.cause) (filter (λ (x : Down). x.switch == k) downs)) (sym name))
    (downs_named p downs (k + 1) items
    (λ i. subst (λ j. slice_get p.switches j ≡ slice_get items i) (omega arith) (h (suc i))))
