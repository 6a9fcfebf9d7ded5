-- What is kept, after a change of a member.
use Rattle.std.proofs.Common.{◌≡◌, ℕ, zero, suc, ◌<◌, List, [], ◌∷◌, ◌++◌, Some, None, length, map, set, take, drop}
use Rattle.std.proofs.Common.{refl, sym, ap, subst, ◌∙◌, arith}
use Rattle.std.specs.Prelude.{slice_get}
use Rattle.std.proofs.lemmas.List.{append-nil}
use Rattle.std.proofs.lemmas.List.Sorted.{IsPermutation-refl}
use Rattle.std.specs.List.{IsDistinct, range_with_len, refill}
use Rattle.std.proofs.lemmas.List.FromFn.{get_or-map-range_with_len, length-map-range_with_len}
use Rattle.std.proofs.lemmas.Option.{slice_get-get_or, slice_get_within}
use Rattle.agreement.specs.Entries.{dropping, entries_of}
use Rattle.agreement.specs.declared.state.Setting.{Setting}
use Rattle.agreement.proofs.Twins.{no-twins}
use Rattle.exact_gate.specs.declared.delta.GateDelta.{GateDelta}
use Rattle.hop_rules.specs.declared.delta.PortDelta.{PortDelta}
use Rattle.incr_compile.specs.declared.compiled.LeafDelta.{LeafDelta}
use Rattle.install_plan.specs.declared.written.Batch.{Batch}
use Rattle.list_change.specs.Changes.{Changed}
use Rattle.list_change.proofs.Permute.{by-equation}
use Rattle.policy_meaning.specs.Switches.{SwitchOf}
use Rattle.switch_meaning.specs.BatchLaw.{HasNoTwins}
use Rattle.switch_meaning.specs.Fixed.{fixed_entries}
use Rattle.switch_meaning.specs.declared.entry.PhysEntry.{PhysEntry}
use Rattle.switch_meaning.specs.declared.wiring.Wiring.{Wiring}
use Rattle.switch_meaning.proofs.Items.{some_injective}
use Rattle.switch_tables.specs.Tables.{HasNow, IsKept, IsTurned, SwitchTableOf}
use Rattle.switch_tables.specs.Turning.{AreBatches, AreKept, AreTurned, HaveHad, HaveNow, IsUndoneAt, StandAsBefore}
use Rattle.switch_tables.specs.Turning.{cookie_after}
use Rattle.switch_tables.specs.declared.tables.SwitchBatch.{SwitchBatch}
use Rattle.composed_tables.specs.Composing.{AreExact, Changes, ComposedOf, IsGood, IsMovedFrom, IsOf, WasOf, rules_in}
use Rattle.composed_tables.specs.Placing.{changed_by, entries_by, entry_delta}
use Rattle.composed_tables.specs.Rules.{AreRulesOf, RulesOf}
use Rattle.composed_tables.specs.declared.part.Part.TheVariants.{Come, Gone}
use Rattle.composed_tables.proofs.Entering.{entries-by-entrance, entries-change}
use Rattle.composed_tables.proofs.Kept.{beside}
use Rattle.composed_tables.proofs.Moving.{changed-with}

pub good-no-twins : (s : Setting) → IsGood s → (n : ℕ) → HasNoTwins (entries_of s n)
good-no-twins s g n = no-twins s g.sound g.once n

-- the item of a number in a list of all numbers below a count
pub delta-at : {A : Type 0} (f : ℕ → A) (count n : ℕ) → n < count
    → slice_get (map f (range_with_len 0 count)) n ≡ Some (f n)
delta-at f count n lt =
    let long = length-map-range_with_len f 0 count in
    slice_get-get_or (map f (range_with_len 0 count)) n (f n) (omega arith)
    ∙ ap Some (get_or-map-range_with_len f 0 count n n (f n) lt (omega arith))

-- the entries of a switch change exactly so
module _ (v : ℕ) (delta : LeafDelta) (before after : Setting) (c : Changes v delta before after)
    (deltas : List PortDelta)
    (exact : AreExact before.network.switches (rules_in before) (rules_in after) deltas) (n : ℕ) where
  after-entries : entries_of after n ≡ entries_by before.wiring before.network.switches (rules_in after) n
      ++ (fixed_entries before.wiring n ++ dropping before n)
  after-entries =
      entries-by-entrance after n
      ∙ (λ i. let z = c.rest i in entries_by z.wiring z.network.switches (rules_in after) n
      ++ (fixed_entries z.wiring n ++ dropping z n))

  pub entries-changed : Changed (entries_of before n) (entries_of after n)
      (entries_by before.wiring before.network.switches (changed_by Gone deltas) n)
      (entries_by before.wiring before.network.switches (changed_by Come deltas) n)
  entries-changed =
      let w = before.wiring in
      let switches = before.network.switches in
      let gone = entries_by w switches (changed_by Gone deltas) n in
      let come = entries_by w switches (changed_by Come deltas) n in
      let fixed = fixed_entries w n ++ dropping before n in
      subst (λ (z : List PhysEntry). Changed z (entries_of after n) gone come) (sym (entries-by-entrance before n))
      (subst (λ (z : List PhysEntry). Changed (entries_by w switches (rules_in before) n ++ fixed) z gone come)
      (sym after-entries)
      (changed-with (entries_by w switches (rules_in before) n) (entries_by w switches (rules_in after) n) gone come
      fixed
      (entries-change w switches (rules_in before) (rules_in after) deltas exact n)))

-- each switch was turned
module _ (w : Wiring) (switches : List SwitchOf) (deltas : List PortDelta) (next : ℕ) (old new : List SwitchTableOf)
    (batches : List SwitchBatch)
    (long : length new ≡ length old) (count : length batches ≡ length old)
    (turned : AreTurned (length old) (map (entry_delta w switches deltas) (range_with_len 0 (length old))) next old new
    batches) where
  turned-at : (n : ℕ) (x y : SwitchTableOf) → slice_get old n ≡ Some x → slice_get new n ≡ Some y → (b : SwitchBatch)
      → slice_get batches n ≡ Some b
      → IsTurned (entry_delta w switches deltas n).gone (entry_delta w switches deltas n).come
      (cookie_after next (take n batches)) x y b.batch
  turned-at n x y at to b is =
      let lt = slice_get_within old n x at in
      turned n (entry_delta w switches deltas n) b lt (delta-at (entry_delta w switches deltas) (length old) n lt) is x
      y at to

  pub batches-are : AreBatches next old new batches
  batches-are n x y b at to is = (turned-at n x y at to b is).is_batch

  pub had-all : (entries : ℕ → List PhysEntry) → HaveNow entries old → HaveHad entries new
  had-all entries h n y to =
      let x = beside new old n y (sym long) to in
      let b = beside new batches n y (count ∙ sym long) to in
      (turned-at n x.item y x.is to b.item b.is).had (entries n) (h n x.item x.is)

  pub now-all : (entries others : ℕ → List PhysEntry) → ((n : ℕ) → HasNoTwins (entries n))
      → ((n : ℕ) → HasNoTwins (others n))
      → ((n : ℕ) → Changed (entries n) (others n) (entry_delta w switches deltas n).gone
      (entry_delta w switches deltas n).come)
      → HaveNow entries old → HaveNow others new
  now-all entries others none one ch h n y to =
      let x = beside new old n y (sym long) to in
      let b = beside new batches n y (count ∙ sym long) to in
      (turned-at n x.item y x.is to b.item b.is).now_has (entries n) (others n) (h n x.item x.is) (none n) (one n)
      (ch n)

pub kept-all : (entries : ℕ → List PhysEntry) (old new : List SwitchTableOf) → length new ≡ length old → AreKept old new
    → HaveNow entries old → HaveNow entries new
kept-all entries old new long kept h n y to = let x = beside new old n y (sym long) to in
    (kept n x.item y x.is to).has (entries n) (h n x.item x.is)

pub kept-stands : (old new : List SwitchTableOf) → AreKept old new → StandAsBefore old new
kept-stands old new kept n x y at to = (kept n x y at to).stands

pub undone-all : (entries : ℕ → List PhysEntry) (old new : List SwitchTableOf) → length new ≡ length old
    → ((n : ℕ) → IsUndoneAt n old new)
    → HaveHad entries old → HaveNow entries new
undone-all entries old new long undone h n y to = let x = beside new old n y (sym long) to in
    (undone n x.item y x.is to).has (entries n) (h n x.item x.is)

-- ---- the whole

pub of-after : (v : ℕ) (delta : LeafDelta) (before after : Setting) (c d : ComposedOf) → IsGood before → IsGood after
    → IsOf before c → Changes v delta before after
    → d.wiring ≡ c.wiring → d.switches ≡ c.switches → length d.tables ≡ length c.tables
    → ((r : RulesOf) → d.rules ≡ Some r → AreRulesOf after r)
    → (deltas : List PortDelta) → AreExact before.network.switches (rules_in before) (rules_in after) deltas
    → (next : ℕ) (batches : List SwitchBatch)
    → length batches ≡ length c.tables
    → AreTurned (length c.tables) (map (entry_delta c.wiring c.switches deltas) (range_with_len 0 (length c.tables)))
    next c.tables d.tables batches → IsOf after d
of-after v delta before after c d good good' of ch w x long rules deltas exact next batches count turned = record {
  wiring = w ∙ (of.wiring ∙ sym (ap (λ (z : Setting). z.wiring) ch.rest));
  switches = x ∙ (of.switches ∙ sym (ap (λ (z : Setting). z.network.switches) ch.rest));
  rules = rules;
  tables = now-all c.wiring c.switches deltas next c.tables d.tables batches long count turned (entries_of before)
      (entries_of after)
      (good-no-twins before good) (good-no-twins after good')
      (λ n. subst (λ (z : Wiring). Changed (entries_of before n) (entries_of after n)
      (entry_delta z c.switches deltas n).gone (entry_delta z c.switches deltas n).come) (sym of.wiring)
      (subst (λ (z : List SwitchOf). Changed (entries_of before n) (entries_of after n)
      (entry_delta before.wiring z deltas n).gone (entry_delta before.wiring z deltas n).come) (sym of.switches)
      (entries-changed v delta before after ch deltas exact n)))
      of.tables;
  count = long ∙ (of.count ∙ sym (ap (λ (z : Setting). length z.switches) ch.rest));
}

pub was-after : (before : Setting) (c d : ComposedOf) → IsOf before c → d.wiring ≡ c.wiring → d.switches ≡ c.switches
    → length d.tables ≡ length c.tables
    → (deltas : List PortDelta) (next : ℕ) (batches : List SwitchBatch) → length batches ≡ length c.tables
    → AreTurned (length c.tables) (map (entry_delta c.wiring c.switches deltas) (range_with_len 0 (length c.tables)))
    next c.tables d.tables batches → WasOf before d
was-after before c d of w x long deltas next batches count turned = record {
  wiring = w ∙ of.wiring;
  switches = x ∙ of.switches;
  tables = had-all c.wiring c.switches deltas next c.tables d.tables batches long count turned (entries_of before)
      of.tables;
  count = long ∙ of.count;
}

never-some : (r : RulesOf) → None ≡ Some r → ⊥
never-some r e = cc

-- want of memory: the tables are as they were, and the rules are given up
pub of-kept : (before : Setting) (c d : ComposedOf) → IsOf before c → d.wiring ≡ c.wiring → d.switches ≡ c.switches
    → d.rules ≡ None → length d.tables ≡ length c.tables
    → AreKept c.tables d.tables → IsOf before d
of-kept before c d of w x none long kept = record {
  wiring = w ∙ of.wiring;
  switches = x ∙ of.switches;
  rules = λ r e. let f : None ≡ Some r = sym none ∙ e in absurd (never-some r f);
  tables = kept-all (entries_of before) c.tables d.tables long kept of.tables;
  count = long ∙ of.count;
}

-- a switch of a setting, from nothing
pub built-table : (s : Setting) (n : ℕ) → IsGood s → (next : ℕ) (x y : SwitchTableOf) (b : Batch) → HasNow [] x
    → IsTurned [] (entries_of s n) next x y b → HasNow (entries_of s n) y
unfolding IsDistinct
built-table s n good next x y b h t =
    t.now_has [] (entries_of s n) h tt (good-no-twins s good n)
    (record {
      kept = [];
      was = IsPermutation-refl [];
      is = by-equation (entries_of s n) (entries_of s n ++ []) (sym (append-nil (entries_of s n)));
    })

pub built-from : (s : Setting) (n : ℕ) → IsGood s → (gone come : List PhysEntry) → gone ≡ [] → come ≡ entries_of s n
    → (next : ℕ) (x y : SwitchTableOf) (b : Batch)
    → HasNow [] x → IsTurned gone come next x y b → HasNow (entries_of s n) y
built-from s n good gone come none all next x y b h t =
    built-table s n good next x y b h
    (subst (λ (z : List PhysEntry). IsTurned z (entries_of s n) next x y b) none
    (subst (λ (z : List PhysEntry). IsTurned gone z next x y b) all t))

-- ---- tables that are lent, and come back

take-front : {A : Type 0} (ws ys : List A) → take (length ws) (ws ++ ys) ≡ ws
take-front [] ys = refl
take-front (w ∷ ws) ys = ap (λ zs. w ∷ zs) (take-front ws ys)

-- as many as were lent
pub refilled : {A : Type 0} (xs ws : List A) → length ws ≡ length xs → refill (length xs) xs ws ≡ ws
refilled xs ws h = ap (λ n. take n (ws ++ drop (length ws) xs)) (sym h) ∙ take-front ws (drop (length ws) xs)

pub turned-lent : (tables lent new back : List SwitchTableOf) (deltas all : List GateDelta) (next : ℕ)
    (batches : List SwitchBatch)
    → lent ≡ tables → back ≡ new → deltas ≡ all → AreTurned (length lent) deltas next lent new batches
    → AreTurned (length tables) all next tables back batches
turned-lent tables lent new back deltas all next batches l b d t =
    subst (λ (z : List GateDelta). AreTurned (length tables) z next tables back batches) d
    (subst (λ (z : List SwitchTableOf). AreTurned (length tables) deltas next tables z batches) (sym b)
    (subst (λ (z : List SwitchTableOf). AreTurned (length z) deltas next z new batches) l t))

-- nothing changed
pub same-kept : (tables : List SwitchTableOf) → AreKept tables tables
same-kept tables n x y at to =
    subst (λ (z : SwitchTableOf). IsKept x z) (some_injective (sym at ∙ to))
    (record { has = λ old h. h; stands = refl })

-- a change taken back, and the rules given up
pub undone-of : (s : Setting) (c d : ComposedOf) → WasOf s c → length d.tables ≡ length c.tables
    → ((n : ℕ) → IsUndoneAt n c.tables d.tables)
    → d.wiring ≡ c.wiring → d.switches ≡ c.switches → d.rules ≡ None → IsOf s d
undone-of s c d was long undone w x none = record {
  wiring = w ∙ was.wiring;
  switches = x ∙ was.switches;
  rules = λ r e. let f : None ≡ Some r = sym none ∙ e in absurd (never-some r f);
  tables = undone-all (entries_of s) c.tables d.tables long undone was.tables;
  count = long ∙ was.count;
}

-- an item put in its own place
pub same-set : {A : Type 0} (xs : List A) (n : ℕ) (x : A) → slice_get xs n ≡ Some x → set xs n x ≡ xs
same-set [] n x e = refl
same-set (y ∷ ys) zero x e = ap (λ z. z ∷ ys) (sym (some_injective e))
same-set (y ∷ ys) (suc n) x e = ap (λ z. y ∷ z) (same-set ys n x e)

-- ---- all of it, after a change that went well

module _ (v : ℕ) (delta : LeafDelta) (next : ℕ) (c d : ComposedOf) (batches : List SwitchBatch)
    (w : d.wiring ≡ c.wiring) (x : d.switches ≡ c.switches)
    (long : length d.tables ≡ length c.tables)
    (m : IsMovedFrom v delta c.wiring c.switches next c.rules d.rules c.tables d.tables batches) where
  pub of-moved : (before after : Setting) → IsGood before → IsGood after → IsOf before c → Changes v delta before after
      → IsOf after d
  of-moved before after good good' of ch =
      let was = of.rules m.from m.was in
      of-after v delta before after c d good good' of ch w x long
      (λ r e. subst (AreRulesOf after) (some_injective (sym m.is ∙ e)) (m.moved.rules before after was ch))
      m.moved.deltas (m.moved.exact before after was ch) next batches m.moved.count m.moved.turned

  pub was-moved : (before : Setting) → IsOf before c → WasOf before d
  was-moved before of = was-after before c d of w x long m.moved.deltas next batches m.moved.count m.moved.turned

  pub batches-moved : AreBatches next c.tables d.tables batches
  batches-moved = batches-are c.wiring c.switches m.moved.deltas next c.tables d.tables batches long m.moved.count
      m.moved.turned
