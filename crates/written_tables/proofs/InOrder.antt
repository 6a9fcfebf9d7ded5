-- A switch that takes messages one after the other takes the changes between two barriers in an order.
use Rattle.std.proofs.Common.{◌≡◌, ◌∙◌, ℕ, List, [], ◌∷◌, ◌++◌, refl, sym, ap, subst}
use Rattle.std.specs.Prelude.{flat_map}
use Rattle.std.proofs.lemmas.List.Concat.{flat_map-append}
use Rattle.std.proofs.lemmas.List.Sorted.{IsPermutation-refl}
use Rattle.of10_msgs.specs.declared.message.Body.{Body}
use Rattle.of10_msgs.specs.declared.message.Body.TheVariants.{BarrierRequest}
use Rattle.of10_msgs.specs.Reading.{reading}
use Rattle.switch_meaning.specs.Tables.{table_after, table_after_all}
use Rattle.switch_meaning.specs.declared.entry.Change.{Change}
use Rattle.switch_meaning.specs.declared.entry.FlowEntry.{FlowEntry}
use Rattle.switch_state.specs.Frames.{bodies_in, said_by}
use Rattle.switch_state.specs.Writing.{MayGo, MayMake, between_barriers, changes_of, in_first}
use Rattle.written_tables.specs.Making.{made_by}

pub after_both : (table : List FlowEntry) (xs ys : List Change)
    → table_after_all table (xs ++ ys) ≡ table_after_all (table_after_all table xs) ys
after_both table [] ys = refl
after_both table (x ∷ xs) ys = after_both (table_after table x) xs ys

-- all changes, section by section
abbrev taken : List (List Change) → List FlowEntry → List FlowEntry
taken [] table = table
taken (changes ∷ later) table = taken later (table_after_all table changes)

may_take : (sections : List (List Change)) (table : List FlowEntry) → MayGo sections table (taken sections table)
may_take [] table = refl
may_take (changes ∷ later) table =
    (changes, IsPermutation-refl changes, may_take later (table_after_all table changes))

taken_first : (changes : List Change) (sections : List (List Change)) (table : List FlowEntry)
    → taken (in_first changes sections) table ≡ taken sections (table_after_all table changes)
taken_first changes [] table = refl
taken_first changes (first ∷ later) table = ap (taken later) (after_both table changes first)

abbrev all_changes : List Body → List Change
all_changes bodies = flat_map changes_of bodies

taken_all : (bodies : List Body) (table : List FlowEntry)
    → taken (between_barriers bodies) table ≡ table_after_all table (all_changes bodies)
taken_all [] table = refl
taken_all (BarrierRequest ∷ bodies) table = taken_all bodies table
taken_all (body ∷ bodies) table =
    taken_first (changes_of body) (between_barriers bodies) table
    ∙ (taken_all bodies (table_after_all table (changes_of body))
    ∙ sym (after_both table (changes_of body) (all_changes bodies)))

-- so it may make the table that it makes in order
pub may_make : (messages : List (List ℕ)) (table : List FlowEntry)
    → MayMake (bodies_in messages) table (made_by messages table)
may_make messages table =
    subst (MayGo (between_barriers (bodies_in messages)) table) (taken_all (bodies_in messages) table)
    (may_take (between_barriers (bodies_in messages)) table)

-- of messages and others, the others are taken by the table that the first made
pub made_both : (xs ys : List (List ℕ)) (table : List FlowEntry)
    → made_by (xs ++ ys) table ≡ made_by ys (made_by xs table)
made_both xs ys table =
    ap (table_after_all table)
    (ap all_changes (flat_map-append (λ message. said_by (reading message)) xs ys)
    ∙ flat_map-append changes_of (bodies_in xs) (bodies_in ys))
    ∙ after_both table (all_changes (bodies_in xs)) (all_changes (bodies_in ys))
