-- What the messages to a switch make of its table.
use Rattle.std.proofs.Common.{◌≡◌, List, [], ◌∷◌, ◌++◌, map, refl, ap, sym, subst, ◌∙◌, append_assoc}
use Rattle.std.proofs.Common.{append-nil, arith}
use Rattle.std.specs.Prelude.{IsPermutation, flat_map}
use Rattle.std.specs.List.{AllByRecursion}
use Rattle.std.proofs.lemmas.List.Sorted.{IsPermutation-map, IsPermutation-refl, IsPermutation-sym}
use Rattle.std.proofs.lemmas.List.Sorted.{IsPermutation-trans, length_permutation}
use Rattle.install_plan.specs.Tables.{entry_of}
use Rattle.install_plan.specs.declared.written.Batch.{Batch}
use Rattle.install_plan.specs.declared.written.Written.{Written}
use Rattle.of10_match.specs.Matching.{everything}
use Rattle.of10_match.proofs.ReadingBack.{normal_of-match_bytes}
use Rattle.of10_msgs.specs.declared.message.Body.{Body}
use Rattle.of10_msgs.specs.declared.message.Body.TheVariants.{BarrierRequest}
use Rattle.switch_meaning.specs.BatchLaw.{IsTableOf}
use Rattle.switch_meaning.specs.Batches.{adding, by_key, deleting, difference, missing}
use Rattle.switch_meaning.specs.Keys.{flow_of}
use Rattle.switch_meaning.specs.Tables.{table_after, table_after_all}
use Rattle.switch_meaning.specs.declared.entry.Change.{Change}
use Rattle.switch_meaning.specs.declared.entry.Change.TheVariants.{Add, Delete, DeleteStrict}
use Rattle.switch_meaning.specs.declared.entry.FlowEntry.{FlowEntry}
use Rattle.switch_meaning.specs.declared.entry.PhysEntry.{PhysEntry}
use Rattle.switch_meaning.proofs.Batched.{batch-gives-table, by_key-permutes, fresh-gives-table}
use Rattle.switch_meaning.proofs.Members.{all-permuted}
use Rattle.switch_state.specs.Messages.{addition, batch_messages, delete_strict, installation, phase}
use Rattle.switch_state.specs.Writing.{BatchIsWritten, InstallationIsWritten, IsReadable, MayGo, MayMake}
use Rattle.switch_state.specs.Writing.{between_barriers, changes_of, in_first}

-- nothing has one order, and so has one item

none_moves : {A : Type 0} (xs : List A) → IsPermutation [] xs → xs ≡ []
none_moves [] p = refl
none_moves (x ∷ xs) p = absurd (omega (arith, length_permutation [] (x ∷ xs) p))

one_stays : {A : Type 0} (x : A) (xs : List A) → IsPermutation (x ∷ []) xs → xs ≡ x ∷ []
one_stays x [] p = absurd (omega (arith, length_permutation (x ∷ []) [] p))
one_stays x (y ∷ []) p = ap (λ z. z ∷ []) (all-permuted (λ z. z ≡ x) (x ∷ []) (y ∷ []) p (refl, tt)).0
one_stays x (y ∷ z ∷ zs) p = absurd (omega (arith, length_permutation (x ∷ []) (y ∷ z ∷ zs) p))

-- a switch takes the changes in some order, and goes on with the messages that are left
record Takes (changes : List Change) (left : List Body) (old new : List FlowEntry) : Type 0 where
  order : List Change
  moves : IsPermutation changes order
  goes_on : MayMake left (table_after_all old order) new

-- without messages it stays
stays : (old new : List FlowEntry) → MayMake [] old new → old ≡ new
stays old new may = subst (λ (order : List Change). table_after_all old order ≡ new) (none_moves may.0 may.1) may.2

-- messages that are no barriers
module _ (f : Written → Body) (plain : (w : Written) (left : List Body)
    → between_barriers (f w ∷ left) ≡ in_first (changes_of (f w)) (between_barriers left)) where
  abbrev changes : List Written → List Change
  changes ws = flat_map (λ w. changes_of (f w)) ws

  up_to : (ws : List Written) (left : List Body)
      → between_barriers (map f ws ++ BarrierRequest ∷ left) ≡ changes ws ∷ between_barriers left
  up_to [] left = refl
  up_to (w ∷ ws) left = plain w (map f ws ++ BarrierRequest ∷ left) ∙ ap (in_first (changes_of (f w))) (up_to ws left)

  -- a phase is taken up to its barrier
  phase_taken : (ws : List Written) (left : List Body) (old new : List FlowEntry)
      → MayMake (phase (map f ws) ++ left) old new → Takes (changes ws) left old new
  phase_taken [] left old new may = record { order = []; moves = IsPermutation-refl []; goes_on = may }
  phase_taken (w ∷ ws) left old new may =
      let cut : between_barriers (phase (map f (w ∷ ws)) ++ left) ≡ changes (w ∷ ws) ∷ between_barriers left =
      ap between_barriers (append_assoc (map f (w ∷ ws)) (BarrierRequest ∷ []) left) ∙ up_to (w ∷ ws) left in
      let taken = subst (λ (sections : List (List Change)). MayGo sections old new) cut may in
      record { order = taken.0; moves = taken.1; goes_on = taken.2 }

  -- the last phase
  last_taken : (ws : List Written) (old new : List FlowEntry) → MayMake (phase (map f ws)) old new
      → Takes (changes ws) [] old new
  last_taken ws old new may = phase_taken ws [] old new (subst (λ (bodies : List Body). MayMake bodies old new)
      (sym (append-nil (phase (map f ws)))) may)

-- the changes of deletions and additions are those of the difference

deletions_change : (ws : List Written) → AllByRecursion IsReadable ws
    → flat_map (λ w. changes_of (delete_strict w)) ws
    ≡ map (λ (e : PhysEntry). DeleteStrict e.m e.priority) (map entry_of ws)
deletions_change [] a = refl
deletions_change (w ∷ ws) a = λ i. DeleteStrict (normal_of-match_bytes w.entry.m a.0.in_range a.0.normal i)
    w.entry.priority ∷ deletions_change ws a.1 i

additions_change : (ws : List Written) → AllByRecursion IsReadable ws
    → flat_map (λ w. changes_of (addition w)) ws ≡ map (λ (e : PhysEntry). Add (flow_of e)) (map entry_of ws)
additions_change [] a = refl
additions_change (w ∷ ws) a =
    λ i. Add (record {
      m = normal_of-match_bytes w.entry.m a.0.in_range a.0.normal i;
      priority = w.entry.priority;
      actions = w.entry.actions;
    }) ∷ additions_change ws a.1 i

pub batch_is_written : BatchIsWritten
batch_is_written before after b is one_before one_after deletes adds old new held may =
    let first = phase_taken delete_strict (λ w left. refl) b.deletes (phase (map addition b.adds)) old new may in
    let second = last_taken addition (λ w left. refl) b.adds (table_after_all old first.order) new first.goes_on in
    let gone : IsPermutation (deleting (difference before after)) first.order =
    subst (λ (cs : List Change). IsPermutation cs first.order)
    (deletions_change b.deletes deletes ∙ ap deleting is) first.moves in
    let come : IsPermutation (adding (difference before after)) second.order =
    subst (λ (cs : List Change). IsPermutation cs second.order) (additions_change b.adds adds ∙ ap adding is)
    second.moves in
    subst (IsTableOf after) (stays (table_after_all (table_after_all old first.order) second.order) new second.goes_on)
    (batch-gives-table before after one_before one_after old held first.order gone second.order come)

-- of no table nothing is missing
all_missing : (es : List PhysEntry) → missing [] es ≡ es
all_missing [] = refl
all_missing (e ∷ es) = ap (λ (xs : List PhysEntry). e ∷ xs) (all_missing es)

-- entries in any order are added
adding_permuted : (after entries : List PhysEntry) → IsPermutation after entries
    → IsPermutation (adding (difference [] after)) (map (λ (e : PhysEntry). Add (flow_of e)) entries)
adding_permuted after entries p =
    let add = λ (e : PhysEntry). Add (flow_of e) in
    let sorted : IsPermutation (by_key (missing [] after)) entries =
    IsPermutation-trans (by_key (missing [] after)) after entries
    (subst (λ (xs : List PhysEntry). IsPermutation (by_key (missing [] after)) xs) (all_missing after)
    (IsPermutation-sym (missing [] after) (by_key (missing [] after)) (by_key-permutes (missing [] after)))) p in
    IsPermutation-map add (by_key (missing [] after)) entries sorted

-- what an installation without deletions takes after its first barrier
cleared : (b : Batch) → b.deletes ≡ [] → (old new : List FlowEntry)
    → MayMake (installation ++ batch_messages b) old new
    → MayMake (phase (map addition b.adds)) (table_after old (Delete everything)) new
cleared b none old new may =
    let order = one_stays (Delete everything) may.0 may.1 in
    subst (λ (ws : List Written). MayMake (phase (map delete_strict ws) ++ phase (map addition b.adds))
    (table_after old (Delete everything)) new) none
    (subst (λ (cs : List Change). MayMake (batch_messages b) (table_after_all old cs) new) order may.2)

pub installation_is_written : InstallationIsWritten
installation_is_written after b none same one adds old new may =
    let taken = last_taken addition (λ w left. refl) b.adds (table_after old (Delete everything)) new
    (cleared b none old new may) in
    let come : IsPermutation (map (λ (e : PhysEntry). Add (flow_of e)) (map entry_of b.adds)) taken.order =
    subst (λ (cs : List Change). IsPermutation cs taken.order) (additions_change b.adds adds) taken.moves in
    let added =
    IsPermutation-trans (adding (difference [] after)) (map (λ (e : PhysEntry). Add (flow_of e))
    (map entry_of b.adds)) taken.order
    (adding_permuted after (map entry_of b.adds) same) come in
    subst (IsTableOf after) (stays (table_after_all (table_after old (Delete everything)) taken.order) new
    taken.goes_on) (fresh-gives-table after one old taken.order added)
