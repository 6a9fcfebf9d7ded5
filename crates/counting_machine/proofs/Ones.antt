-- A post of a 1 makes one more.
use Rattle.std.proofs.Common.{◌≡◌, ℕ, suc, ◌+◌, false, arith, List, [], ◌∷◌, ◌++◌, refl, sym, ap, ◌∙◌, subst}
use Rattle.std.proofs.Common.{append_assoc}
use mathlib.Core.List.{IsPrefix, append-nil}
use Rattle.policy_lock.specs.declared.machine.Machine.{Ghosts}
use Rattle.policy_lock.specs.declared.view.Entry.{Entry}
use Rattle.policy_lock.specs.declared.view.Pass.{Pass}
use Rattle.policy_lock.specs.History.{entry, calls_by, events_of}
use Rattle.policy_lock.specs.Post.{IsPosted}
use Rattle.policy_lock.specs.Seat.{IsLater}
use Rattle.policy_lock.proofs.Histories.{calls-append, calls-mine, events-append, prefix_more}
use Rattle.counting_machine.specs.Ones.{ones, HasPostedOnes}

later_still : (xs ys zs : List (Entry ℕ ℕ)) → IsPrefix xs ys → IsPrefix ys zs → IsPrefix xs zs
later_still xs ys zs a b = (a.0 ++ b.0, sym (append_assoc xs a.0 b.0) ∙ (ap (λ l. l ++ b.0) a.1 ∙ b.1))

-- nothing was posted yet
pub none_yet : (v : Pass ℕ ℕ ℕ) → HasPostedOnes v v 0
none_yet v = record { later = ([], append-nil v.seen); calls = sym (append-nil (events_of (calls_by v.number v.seen))) }

-- nothing more was posted
pub no_more : (v w u : Pass ℕ ℕ ℕ) (k : ℕ) → w.number ≡ v.number → HasPostedOnes v w k → IsLater w u
    → HasPostedOnes v u k
no_more v w u k same h more = record {
  later = later_still v.seen w.seen u.seen h.later more.0;
  calls = ap events_of ((λ i. calls_by (sym same i) u.seen) ∙ (more.1 ∙ (λ i. calls_by (same i) w.seen))) ∙ h.calls;
}

-- one more was posted
pub one_more : {M : Type 0} (g : Ghosts M ℕ ℕ ℕ) (start : ℕ) (v w u : Pass ℕ ℕ ℕ) (k place reply a b : ℕ)
    → w.number ≡ v.number → HasPostedOnes v w k
    → IsPosted g start w u 1 place reply a b → ((s : ℕ) → g.idle s 1 ≡ false) → HasPostedOnes v u (k + 1)
one_more g start v w u k place reply a b same h p busy = let up : suc k ≡ k + 1 = omega arith in let it : Entry ℕ ℕ =
    entry w.number 1 reply in let e : u.seen ≡ p.before ++ it ∷ [] = p.entered (busy _) in record {
      later = later_still v.seen w.seen u.seen h.later
          (subst (IsPrefix w.seen) (sym e) (prefix_more p.before w.seen (it ∷ []) p.later));
      calls = ap events_of ((λ i. calls_by (sym same i) (e i))
          ∙ (calls-append w.number p.before (it ∷ [])
          ∙ (λ i. p.calls i ++ calls-mine w.number w.number 1 reply refl i)))
          ∙ (events-append (calls_by w.number w.seen) (it ∷ [])
          ∙ (ap (λ n. events_of (calls_by n w.seen) ++ 1 ∷ []) same
          ∙ (ap (λ l. l ++ 1 ∷ []) h.calls
          ∙ (append_assoc (events_of (calls_by v.number v.seen)) (ones k) (1 ∷ [])
          ∙ ap (λ n. events_of (calls_by v.number v.seen) ++ ones n) up))));
    }
