-- The lock is taken for an event and given back, and taken again later.
use Rattle.std.proofs.Common.{◌≡◌, ℕ, true, List, [], ◌∷◌, ◌++◌, refl, sym, ap, ◌∙◌, subst, append_assoc, None}
use mathlib.Core.List.{IsPrefix}
use Rattle.policy_lock.specs.declared.machine.Machine.{Ghosts}
use Rattle.policy_lock.specs.declared.held.Held.{Held}
use Rattle.policy_lock.specs.declared.view.Entry.{Entry}
use Rattle.policy_lock.specs.declared.view.View.{View}
use Rattle.policy_lock.specs.History.{calls_by}
use Rattle.policy_lock.specs.Seat.{IsLater}
use Rattle.policy_lock.specs.View.{took, let_go}
use Rattle.policy_lock.specs.Rule.{Sat}
use Rattle.policy_lock.specs.Play.{HasTaken}
use Rattle.policy_lock.proofs.Histories.{prefix_refl}

prefix_trans : {A : Type 0} (xs ys zs : List A) → IsPrefix xs ys → IsPrefix ys zs → IsPrefix xs zs
prefix_trans xs ys zs a b = (a.0 ++ b.0, sym (append_assoc xs a.0 b.0) ∙ (ap (λ l. l ++ b.0) a.1 ∙ b.1))

module _ {M E R S : Type 0} (g : Ghosts M E R S) (v : View E R S) where
  -- the seat of the view v has nothing in hand, and may have seen more since
  pub record IsBack (m : Sat g) : Type 0 where
    pub empty : m.1 ≡ []
    pub same : (log : List (Entry E R)) → took log m.0 ≡ took log v
    pub later : IsLater v.pass m.0.pass

  abbrev in_hand : View E R S → Sat g
  in_hand z = (z, (0, None) ∷ [])

  abbrev given : Sat g → Sat g
  given m = (let_go m.0, [])

  pub never_away : (m : Sat g) → m.1 ≡ [] → m.0 ≡ v → IsBack m
  never_away m empty is = record {
    empty = empty;
    same = λ log. ap (took log) is;
    later = subst (λ (z : View E R S). IsLater v.pass z.pass) (sym is) (prefix_refl v.pass.seen, refl);
  }

  pub seated_still : (m : Sat g) → IsBack m → v.seated ≡ true → m.0.seated ≡ true
  seated_still m b seated = ap (λ (z : View E R S). z.seated) (b.same []) ∙ seated

  module _ (m : Sat g) (b : IsBack m) (word : ℕ) (x : Held M E R S g) (m1 : Sat g) (h : HasTaken g m.0 word x m1) where
    number : m.0.pass.number ≡ v.pass.number
    number = ap (λ (z : View E R S). z.pass.number) (b.same [])

    since : IsLater v.pass (took h.log v).pass
    since = (
      prefix_trans v.pass.seen m.0.pass.seen h.log b.later.0 h.later,
      ap (λ n. calls_by n h.log) (sym number)
          ∙ (h.calls ∙ (ap (λ n. calls_by n m.0.pass.seen) number ∙ b.later.1)),
    )

    in_hand_now : m1 ≡ in_hand (took h.log v)
    in_hand_now = h.me ∙ ap in_hand (b.same h.log)

    -- what is taken later could have been taken at once
    pub taken_since : HasTaken g v word x m1
    taken_since = record {
      start = h.start;
      log = h.log;
      starts = ap (λ (z : View E R S). z.pass.start) (sym (b.same [])) ∙ h.starts;
      me = in_hand_now;
      stands = h.stands;
      word_is = h.word_is;
      legal = h.legal;
      later = since.0;
      calls = since.1;
    }

    pub back_again : (m2 : Sat g) → m2 ≡ (let_go m1.0, []) → IsBack m2
    back_again m2 back = subst IsBack (sym (back ∙ ap given in_hand_now))
        record { empty = refl; same = λ log. refl; later = since }
