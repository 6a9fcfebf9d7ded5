-- A post, put together from its steps.
use Rattle.std.proofs.Common.{◌≡◌, ℕ, ◌≤◌, ◌+◌, ◌/◌, false, [], ◌∷◌, ◌++◌, length, refl, sym, ap, ◌∙◌, subst, arith}
use Rattle.std.proofs.Common.{Some, Result, Ok, Err, IfOk, length-append}
use mathlib.Core.Option.{none}
use mathlib.Core.List.{IsPrefix}
use Rattle.std.proofs.lemmas.Bool.{false≢true}
use Rattle.atomic_table.specs.Table.{step, Allows, rest}
use Rattle.cv_io.specs.declared.memory.Memory.{Memory}
use Rattle.policy_lock.specs.declared.after.After.{After}
use Rattle.policy_lock.specs.declared.machine.Machine.{Ghosts}
use Rattle.policy_lock.specs.declared.held.Held.{Held}
use Rattle.policy_lock.specs.declared.view.Pass.{Pass}
use Rattle.policy_lock.specs.declared.view.View.{View}
use Rattle.policy_lock.specs.History.{after, IsLegal, entry, calls_by}
use Rattle.policy_lock.specs.After.{IsAfter}
use Rattle.policy_lock.specs.Locked.{Stands, Costs, IsIdle, Stores, IsStoredAfter}
use Rattle.policy_lock.specs.Post.{IsPosted, IsUncommitted}
use Rattle.policy_lock.specs.View.{took, let_go}
use Rattle.policy_lock.specs.Rule.{Sat, Kept}
use Rattle.policy_lock.specs.Play.{made, added, Commits, HasTaken}
use Rattle.policy_lock.proofs.Histories.{legal-snoc}
use Rattle.policy_lock.proofs.Follows.{follows}
use Rattle.policy_lock.proofs.Keeps.{commits, opt_or}

if_ok_map : {A B : Type 0} {P Q : A → Type 0} (r : Result A B) → ((a : A) → Q a → P a) → IfOk r Q → IfOk r P
if_ok_map (Ok a) f h = f a h
if_ok_map (Err b) f h = h

-- the seat of the view v has taken x, where its pass was p, and began at s
module _ {M E R S : Type 0} (g : Ghosts M E R S) (v : View E R S) (word : ℕ) (x : Held M E R S g) (m : Sat g)
    (h : HasTaken g v word x m) (p : Pass E R S) (is : v.pass ≡ p) (s : S) (at : p.start ≡ Some s) where
  began : h.start ≡ s
  began = ap (opt_or h.start) (sym h.starts ∙ (ap (λ q. q.start) is ∙ at))

  stood : Stands g s x.boxed.value h.log
  stood = subst (λ z. Stands g z x.boxed.value h.log) began h.stands

  legal_there : IsLegal g s h.log
  legal_there = subst (λ z. IsLegal g z h.log) began h.legal

  stood_at : (z : S) → v.pass.start ≡ Some z → Stands g z x.boxed.value h.log
  stood_at z e = subst (λ q. Stands g q x.boxed.value h.log) (ap (opt_or h.start) (sym h.starts ∙ e)) h.stands

  -- the event was stored, and the value put back into the slot
  module _ (y : Held M E R S g) (m1 : Sat g) (e : E) (r : R) (did : Stores g x.boxed.value e r y.boxed.value)
      (me : m1 ≡ (m.0, (0, Some y) ∷ rest m.1)) where
    abbrev pub w : View E R S
    w = took h.log v

    in_hand : m1 ≡ (w, (0, Some y) ∷ [])
    in_hand = me ∙ (λ i. ((h.me i).0, (0, Some y) ∷ rest (h.me i).1))

    done : (z : S) → v.pass.start ≡ Some z → (g.idle (after g z w.pass.seen) e ≡ false)
        × Stands g z y.boxed.value (w.pass.seen ++ made g z w e ∷ [])
    done z is = let t = did.1 z h.log (stood_at z is) in (
      t.0,
      subst (λ (q : R). Stands g z y.boxed.value (h.log ++ entry v.pass.number e q ∷ [])) t.1
          (t.2 v.pass.number),
    )

    pub ready : v.gathered ≡ [] → (start : S) (slots id new : ℕ) → new ≡ word + 2 → slots ≡ 1
        → Allows (Kept g start) slots id m1 0 (λ _. new) (λ _. Commits g (step slots 0 new 0 none) m1 new)
    ready empty start slots id new up one = let a = h.word_is in
        commits g start slots id m1 w new y did.0.0 e in_hand refl empty did.0.1 done (omega arith) one

    pub committed : (new slots : ℕ) (m2 : Sat g) → Commits g (step slots 0 new 0 none) m1 new m2
        → m2 ≡ (added g s w e, [])
    committed new slots m2 tells = tells s y did.0.0 e (ap (λ (z : Sat g). z.0.pass.start) in_hand
        ∙ (ap (λ q. q.start) is ∙ at)) (ap (λ (z : Sat g). z.1) in_hand) did.0.1
        ∙ ap (λ (z : Sat g). (added g s z.0 e, [])) in_hand

    module _ (m2 : Sat g) (then : m2 ≡ (added g s w e, [])) where
      pub legal_then : IsLegal g s m2.0.pass.seen
      legal_then = let t = did.1 s h.log stood in
          subst (λ (z : Sat g). IsLegal g s z.0.pass.seen) (sym then)
          (legal-snoc g s h.log v.pass.number e (made g s w e).reply legal_there t.0 refl)

      pub posted : (place a b : ℕ) → place ≡ word / 2 + 1 → Costs g x.boxed.value e a b
          → IsPosted g s p m2.0.pass e place r a b
      posted place a b up cost = let t = did.1 s h.log stood in let it = made g s w e in let n = h.word_is in let long =
          length-append h.log (it ∷ []) in
          let same : it ≡ entry v.pass.number e r = ap (entry v.pass.number e) (sym t.1) in
          subst (λ (z : Pass E R S × Sat g). IsPosted g s z.0 z.1.0.pass e place r a b) (λ i. (is i, sym then i)) record {
            before = h.log;
            later = h.later;
            calls = h.calls;
            placed = omega arith;
            replied = t.1;
            idle = λ q. absurd (false≢true (sym t.0 ∙ q));
            entered = λ _. ap (λ z. h.log ++ z ∷ []) same;
            bounded = cost s h.log stood;
          }

  -- the lock was given back
  module _ (m2 : Sat g) (back : m2 ≡ (let_go m.0, [])) where
    seen_is : m2.0.pass.seen ≡ h.log
    seen_is = ap (λ (z : Sat g). z.0.pass.seen) (back ∙ ap (λ (z : Sat g). (let_go z.0, [])) h.me)

    pub legal_still : IsLegal g s m2.0.pass.seen
    legal_still = subst (IsLegal g s) (sym seen_is) legal_there

    pub glanced : (e : E) (r : R) (place a b : ℕ) → IsIdle g x.boxed.value e r → place ≡ word / 2
        → Costs g x.boxed.value e a b → IsPosted g s p m2.0.pass e place r a b
    glanced e r place a b idle up cost = let t = idle s h.log stood in let n = h.word_is in let long =
        ap length seen_is in
        subst (λ (q : Pass E R S). IsPosted g s q m2.0.pass e place r a b) is record {
          before = h.log;
          later = h.later;
          calls = h.calls;
          placed = omega arith;
          replied = t.1;
          idle = λ _. seen_is;
          entered = λ q. absurd (false≢true (sym q ∙ t.0));
          bounded = cost s h.log stood;
        }

    pub followed : (place : ℕ) → place ≤ length p.seen → (r : Result (After E) Memory)
        → IfOk r (IsStoredAfter g x.boxed.value place) → IfOk r (IsAfter m2.0.pass.seen place)
    followed place known r = let more = h.later in let same : length v.pass.seen ≡ length p.seen =
        ap (λ q. length q.seen) is in
        let long : length h.log ≡ length v.pass.seen + length more.0 = ap length (sym more.1)
        ∙ length-append v.pass.seen more.0 in
        if_ok_map r (λ a t. subst (λ l. IsAfter l place a) (sym seen_is)
        (follows g s x.boxed.value h.log stood place (omega arith) a t))

    pub uncommitted : (e : E) (a b : ℕ) → Costs g x.boxed.value e a b → IsUncommitted g s p m2.0.pass e a b
    uncommitted e a b cost = subst (λ (q : Pass E R S). IsUncommitted g s q m2.0.pass e a b) is record {
      later = (subst (IsPrefix v.pass.seen) (sym seen_is) h.later, ap (calls_by v.pass.number) seen_is ∙ h.calls);
      bounded = subst (λ l. b ≤ a + g.most (after g s l) e) (sym seen_is) (cost s h.log stood);
    }
