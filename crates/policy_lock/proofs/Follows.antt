-- What is stored after a place follows it in the history.
use Rattle.std.proofs.Common.{◌≡◌, ℕ, zero, suc, ◌≤◌, ◌+◌, ◌-◌, ◌%◌, List, [], ◌∷◌, length, take, drop, refl, sym, ap}
use Rattle.std.proofs.Common.{◌∙◌, arith}
use Rattle.std.proofs.Math.Seq.{drop-append-add}
use Rattle.policy_lock.specs.declared.after.After.{After}
use Rattle.policy_lock.specs.declared.after.After.TheVariants.{Events, Waiting, Past}
use Rattle.policy_lock.specs.declared.machine.Machine.{Ghosts}
use Rattle.policy_lock.specs.declared.locked.Locked.{Locked}
use Rattle.policy_lock.specs.declared.view.Entry.{Entry}
use Rattle.policy_lock.specs.After.{IsAfter}
use Rattle.policy_lock.specs.History.{events_of}
use Rattle.policy_lock.specs.Locked.{Stands, IsStoredAfter}
use Rattle.policy_lock.proofs.Stand.{stored-count}

drop-events : {E R : Type 0} (k : ℕ) (xs : List (Entry E R)) → events_of (drop k xs) ≡ drop k (events_of xs)
drop-events zero xs = refl
drop-events (suc k) [] = refl
drop-events (suc k) (x ∷ xs) = drop-events k xs

module _ {M E R S : Type 0} (g : Ghosts M E R S) (s : S) (x : Locked M E R S g) (log : List (Entry E R))
    (h : Stands g s x log) (place : ℕ) where
  stored : x.before ≤ place → drop (place - x.before) x.events.items ≡ events_of (drop place log)
  stored le = let old = h.old in let k : ℕ = place - x.before in let at : place ≡ length h.past + k = omega arith in
      ap (drop k) h.stored
      ∙ (sym (drop-events k h.recent)
      ∙ (ap events_of (sym (drop-append-add h.past h.recent k))
      ∙ (λ i. events_of (drop (sym at i) (sym h.parts i)))))

  pub follows : place ≤ length log → (a : After E) → IsStoredAfter g x place a → IsAfter log place a
  follows known (Events list) t = let count = stored-count g s x log h in let few : length x.events.items ≤ 16384 =
      x.few in (t.1 ∙ ap (take 256) (stored t.0), t.2, omega arith)
  follows known (Waiting at) t = let count = stored-count g s x log h in let past = t.1 in (t.0, omega arith)
  follows known (Past first) t = let count = stored-count g s x log h in let few : length x.events.items ≤ 16384 =
      x.few in let is = t.0 in let below = t.1 in
      (below, omega arith, omega arith, ap (λ (n : ℕ). n % 16384) is ∙ x.rounds)
