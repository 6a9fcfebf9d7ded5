-- What a gate keeps, before and after a step.
use Rattle.std.proofs.Common.{◌≡◌, ◌∙◌, Bool, true, false, List, [], refl, sym, ap}
use Rattle.std.specs.Prelude.{◌&&◌, ◌||◌, if◌then◌else◌, not}
use Rattle.switch_meaning.specs.Keys.{passing}
use Rattle.switch_meaning.specs.declared.entry.PhysEntry.{PhysEntry}
use Rattle.exact_gate.specs.Gates.{IsChanged, IsDifference}
use Rattle.exact_gate.specs.InsideLogs.{IsSettled, earlier, present, settled, turned_back}
use Rattle.exact_gate.specs.Standing.{HaveSame, stands_in}
use Rattle.exact_gate.specs.declared.log.Log.{Log}
use Rattle.exact_gate.specs.declared.state.State.{State}
use Rattle.exact_gate.proofs.Changing.{difference-same}
use Rattle.exact_gate.proofs.Logged.{logged-same, nothing-logged}
use Rattle.exact_gate.proofs.Standing.{passing-same}

pub same-sym : (xs ys : List PhysEntry) → HaveSame xs ys → HaveSame ys xs
same-sym xs ys h e = sym (h e)

pub same-trans : (xs ys zs : List PhysEntry) → HaveSame xs ys → HaveSame ys zs → HaveSame xs zs
same-trans xs ys zs f g e = f e ∙ g e

-- a pool and a log that say the same
module _ (s : State) (pool : List PhysEntry) (owed : Log)
    (h : HaveSame (turned_back s.pool s.owed) (turned_back pool owed)) where
  pub earlier-kept : HaveSame (earlier s) (earlier (record s { pool = pool; owed = owed }))
  earlier-kept = logged-same (settled s) (turned_back pool owed) s.last h

  either-kept : (b : Bool)
      → HaveSame (if b then earlier s else settled s) (if b then turned_back (turned_back pool owed) s.last
      else turned_back pool owed)
  either-kept true = earlier-kept
  either-kept false = h

  pub present-kept : HaveSame (present s) (present (record s { pool = pool; owed = owed }))
  present-kept = either-kept s.undone

abbrev nothing : Log
nothing = record { gone = []; come = [] }

-- what is owed is the last change
module _ (s : State) (owed last : Log) (g : s.owed.gone ≡ []) (c : s.owed.come ≡ []) (o : owed ≡ s.last)
    (l : last ≡ nothing) where
  settled-owed : HaveSame (earlier s) (turned_back s.pool owed)
  settled-owed e =
      sym (logged-same s.pool (settled s) s.last (nothing-logged s.pool s.owed g c) e)
      ∙ ap (λ x. stands_in (turned_back s.pool x) e) (sym o)

  pub present-owed : s.undone ≡ true → HaveSame (present s) (turned_back s.pool owed)
  present-owed u e = ap (λ b. stands_in (if b then earlier s else settled s) e) u ∙ settled-owed e

  pub earlier-owed : HaveSame (earlier s) (turned_back (turned_back s.pool owed) last)
  earlier-owed e = settled-owed e
      ∙ (nothing-logged (turned_back s.pool owed) nothing refl refl e
      ∙ ap (λ x. stands_in (turned_back (turned_back s.pool owed) x) e) (sym l))

-- what was owed is the last change now
module _ (s : State) (owed last : Log) (o : owed ≡ nothing) (l : last ≡ s.owed) where
  pool-settled : HaveSame s.pool (turned_back s.pool owed)
  pool-settled e = nothing-logged s.pool nothing refl refl e ∙ ap (λ x. stands_in (turned_back s.pool x) e) (sym o)

  pub present-made : s.undone ≡ false → HaveSame s.pool (present (record s { owed = owed; last = last }))
  present-made u e = pool-settled e
      ∙ sym (ap (λ b. stands_in (if b then turned_back (turned_back s.pool owed) last else turned_back s.pool owed) e)
      u)

  pub earlier-made : HaveSame (settled s) (earlier (record s { owed = owed; last = last }))
  earlier-made e = logged-same s.pool (turned_back s.pool owed) s.owed pool-settled e
      ∙ ap (λ x. stands_in (turned_back (turned_back s.pool owed) x) e) (sym l)

-- where nothing is owed
module _ (s : State) (is : IsSettled s) where
  pub pool-present : HaveSame (present s) s.pool
  pool-present e =
      ap (λ b. stands_in (if b then earlier s else settled s) e) is.done
      ∙ sym (nothing-logged s.pool s.owed is.gone is.come e)

  pub settled-present : HaveSame (settled s) (present s)
  settled-present e = sym (ap (λ b. stands_in (if b then earlier s else settled s) e) is.done)

-- lists that have the same entries are changed alike
pub changed-same : (xs ys us vs gone come : List PhysEntry) → HaveSame us xs → HaveSame ys vs
    → IsChanged xs gone come ys → IsChanged us gone come vs
changed-same xs ys us vs gone come f g d e = sym (g e)
    ∙ (d e ∙ ap (λ b. (b && not (stands_in gone e)) || stands_in come e) (sym (f e)))

pub passing-difference : (xs ys us vs ds : List PhysEntry) → HaveSame xs us → HaveSame ys vs
    → IsDifference (passing xs) (passing ys) ds → IsDifference (passing us) (passing vs) ds
passing-difference xs ys us vs ds f g = difference-same (passing xs) (passing ys) (passing us) (passing vs) ds
    (passing-same xs us f) (passing-same ys vs g)
