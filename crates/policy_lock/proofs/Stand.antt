-- What the locked value stands for.
use Rattle.std.proofs.Common.{◌≡◌, ℕ, ◌≤◌, ◌+◌, true, false, List, [], ◌∷◌, ◌++◌, length, fold, sym, ap, ◌∙◌, arith}
use Rattle.std.proofs.Common.{append_assoc, length-append}
use mathlib.Core.List.{append-nil}
use base.Stored.{Coded}
use Rattle.std.proofs.lemmas.List.Sums.{fold-append}
use Rattle.policy_lock.specs.declared.machine.Machine.{Ghosts}
use Rattle.policy_lock.specs.declared.locked.Locked.{Locked}
use Rattle.policy_lock.specs.declared.view.Entry.{Entry}
use Rattle.policy_lock.specs.History.{after, entry}
use Rattle.policy_lock.specs.Locked.{Stands, StandsAs, Costs, IsIdle, Stores}
use Rattle.policy_lock.proofs.Histories.{events-append, events-length, after-append, after-events}

module _ {M E R S : Type 0} (g : Ghosts M E R S) where
  -- the machine means what the whole history leaves
  pub means : Coded S → (s : S) (x : Locked M E R S g) (log : List (Entry E R)) → Stands g s x log
      → g.meaning x.machine ≡ after g s log
  means code s x log h = x.replays
      ∙ ((λ i. fold g.next (h.begins i) (h.stored i))
      ∙ (after-events g (after g s h.past) h.recent
      ∙ (sym (after-append g s h.past h.recent) ∙ ap (after g s) (sym h.parts))))

  -- the store has the events since the checkpoint
  pub stored-count : (s : S) (x : Locked M E R S g) (log : List (Entry E R)) → Stands g s x log
      → x.before + length x.events.items ≡ length log
  stored-count s x log h = let a = h.old in let b = ap length h.parts
      ∙ length-append h.past h.recent in let d = ap length h.stored ∙ events-length h.recent in omega arith

  -- the machine became the checkpoint
  pub restarts : Coded S → (x y : Locked M E R S g) → length x.events.items ≡ 16384
      → g.meaning y.checkpoint ≡ g.meaning x.machine → y.before ≡ x.before + 16384 → y.events.items ≡ []
      → StandsAs g x y
  restarts code x y full same up none = λ s log h. let a = stored-count s x log h in record {
    past = log;
    recent = [];
    parts = sym (append-nil log);
    old = omega arith;
    begins = same ∙ means code s x log h;
    stored = none;
  }

  pub idles : Coded S → (x y : Locked M E R S g) (e : E) (r : R) → StandsAs g x y
      → g.idle (g.meaning y.machine) e ≡ true → r ≡ g.reply (g.meaning y.machine) e → StandsAs g x y × IsIdle g x e r
  idles code x y e r same is told = (
    same,
    λ s log h. let m = means code s y log (same s log h) in
        (ap (λ z. g.idle z e) (sym m) ∙ is, told ∙ ap (λ z. g.reply z e) m),
  )

  pub stores : Coded S → (x y z : Locked M E R S g) (e : E) (r : R) → StandsAs g x y
      → g.idle (g.meaning y.machine) e ≡ false → r ≡ g.reply (g.meaning y.machine) e → z.checkpoint ≡ y.checkpoint
      → z.before ≡ y.before
      → z.events.items ≡ y.events.items ++ e ∷ [] → Stores g x e r z
  stores code x y z e r same is told check before events = (
    (y.events.items, events),
    λ s log h. let hy = same s log h in let m = means code s y log hy in (
      ap (λ z. g.idle z e) (sym m) ∙ is,
      told ∙ ap (λ z. g.reply z e) m,
      λ n. record {
        past = hy.past;
        recent = hy.recent ++ entry n e r ∷ [];
        parts = ap (λ l. l ++ entry n e r ∷ []) hy.parts ∙ append_assoc hy.past hy.recent (entry n e r ∷ []);
        old = hy.old ∙ sym before;
        begins = ap g.meaning check ∙ hy.begins;
        stored = events ∙ (ap (λ l. l ++ e ∷ []) hy.stored ∙ sym (events-append hy.recent (entry n e r ∷ [])));
      },
    ),
  )

  pub replays-more : Coded S → (y : Locked M E R S g) (m : M) (e : E) (items : List E)
      → items ≡ y.events.items ++ e ∷ [] → g.meaning m ≡ g.next (g.meaning y.machine) e
      → g.meaning m ≡ fold g.next (g.meaning y.checkpoint) items
  replays-more code y m e items more is = let was : g.meaning y.machine
      ≡ fold g.next (g.meaning y.checkpoint) y.events.items = y.replays in
      is ∙ (ap (λ z. g.next z e) was
      ∙ sym (ap (fold g.next (g.meaning y.checkpoint)) more
      ∙ fold-append g.next (g.meaning y.checkpoint) y.events.items (e ∷ [])))

  pub costs : Coded S → (x y : Locked M E R S g) (e : E) (a b : ℕ) → StandsAs g x y
      → b ≤ a + g.most (g.meaning y.machine) e → Costs g x e a b
  costs code x y e a b same le = λ s log h. let m = means code s y log (same s log h) in
      let k : g.most (g.meaning y.machine) e ≡ g.most (after g s log) e = ap (λ z. g.most z e) m in omega arith
