-- A lock begins with one seat, and seats and notes are split off: the rule is kept.
use Rattle.std.proofs.Common.{◌≡◌, ◌≢◌, ℕ, true, List, [], ◌∷◌, length, get_or, set, refl, sym, ap, ◌∙◌, subst, arith}
use Rattle.std.proofs.Common.{Some, length-set, le_refl}
use mathlib.Core.Option.{none, some-injective, some-ne-none}
use Rattle.std.proofs.lemmas.Bool.{false≢true}
use Rattle.atomic_table.specs.Table.{Splits, opening}
use Rattle.atomic_table.proofs.Lists.{at_longer}
use Rattle.policy_lock.specs.declared.machine.Machine.{Ghosts}
use Rattle.policy_lock.specs.declared.held.Held.{Held}
use Rattle.policy_lock.specs.declared.view.Pass.{Pass}
use Rattle.policy_lock.specs.declared.view.View.{View}
use Rattle.policy_lock.specs.History.{calls_by}
use Rattle.policy_lock.specs.Locked.{Stands}
use Rattle.policy_lock.specs.View.{first_view, born, bearer, note}
use Rattle.policy_lock.specs.Rule.{Lock, Roster, Kept, Known, AllKnown, Knows, IsHolder}
use Rattle.policy_lock.proofs.Histories.{prefix_none, calls_none, hd, tl}
use Rattle.policy_lock.proofs.Roster.{put, put_here, put_other, put_none, longer_number, seats_stay, snoc_stay}
use Rattle.policy_lock.proofs.Roster.{known_put, all_put}
use Rattle.policy_lock.proofs.Keeps.{holder_stays}

module _ {M E R S : Type 0} (g : Ghosts M E R S) (start : S) where
  abbrev Rule : Lock g → Type 0
  Rule = Kept g start

  pub starts : (x : Held M E R S g) → Stands g start x.boxed.value []
      → Rule (opening (0 ∷ []) (Some x ∷ []) (first_view start))
  starts x stands = let none_yet : Roster = λ _. none in record {
    log = [];
    roster = put none_yet [] 0;
    holder = 0;
    one_word = refl;
    legal = tt;
    word_is = refl;
    each_seat = snoc_stay (λ j v. Knows start [] (put none_yet [] 0) j v) [] (first_view start)
        (([], refl), ([], refl), (λ _. (refl, ([], refl), refl, refl, λ k _. refl)), tt)
        (λ j d e. absurd (some-ne-none d (sym e)));
    unborn = λ n _. refl;
    parents = λ n k _. refl;
    out = snoc_stay (λ j v. v.holds ≡ true → IsHolder 0 [] 0 j v) [] (first_view start) (λ h. absurd (false≢true h))
        (λ j d e. absurd (some-ne-none d (sym e)));
    busy = λ e. absurd (omega arith);
    home = λ _. (x, refl, stands);
  }

  -- a new seat is split off
  pub bears : (id : ℕ) (v : View E R S) → v.seated ≡ true → v.gathered ≡ [] → Splits Rule id v (bearer v) (born v)
  bears id v seated empty s k at = let n : ℕ = length s.views in let new : List ℕ = v.pass.children ∷ v.pass.number in
      let known = k.each_seat id v at in let mine = known.2 seated in
      let free : k.roster new ≡ none = mine.4 v.pass.children (le_refl v.pass.children) in let r : Roster =
      put k.roster new n in
      let apart : (j : ℕ) → j ≢ id → (p : Pass E R S) → Known start k.log k.roster j p
      → (p.number ≢ new) × ((q : ℕ) → q ∷ p.number ≢ new) = λ j other p h. (
        (λ e. some-ne-none j (sym h.3 ∙ (ap k.roster e ∙ free))),
        λ q e. other (some-injective j id (sym h.3 ∙ (ap k.roster (ap tl e) ∙ mine.3))),
      ) in
      let unborn' : calls_by new k.log ≡ [] = k.unborn new free in let len : length (set s.views id (bearer v)) ≡ n =
      length-set s.views id (bearer v) in
      let newest : Knows start k.log r n (born v) = (
        known.0,
        prefix_none k.log,
        (λ _. (
          mine.0,
          known.0,
          unborn' ∙ sym (calls_none new k.log v.pass.seen known.0 unborn'),
          put_here k.roster new n,
          λ q _. put_other k.roster new n (q ∷ new) (longer_number q new) ∙ k.parents new q free,
        )),
        tt,
      ) in record {
        log = k.log;
        roster = r;
        holder = k.holder;
        one_word = k.one_word;
        legal = k.legal;
        word_is = k.word_is;
        each_seat = snoc_stay (λ j u. Knows start k.log r j u) (set s.views id (bearer v)) (born v)
            (subst (λ (z : ℕ). Knows start k.log r z (born v)) (sym len) newest)
            (seats_stay (λ j u. Knows start k.log r j u) s.views id (bearer v) (
              known.0,
              known.1,
              (λ _. (
                mine.0,
                mine.1,
                mine.2,
                put_other k.roster new n v.pass.number (λ e. longer_number v.pass.children v.pass.number (sym e))
                    ∙ mine.3,
                λ q le. put_other k.roster new n (q ∷ v.pass.number)
                    (λ e. let same : q ≡ v.pass.children = ap (hd q) e in absurd (omega arith))
                    ∙ mine.4 q (omega arith),
              )),
              subst (AllKnown start k.log r id) (sym empty) tt,
            )
            (λ j u other there. let ku = k.each_seat j u there in (
              ku.0,
              ku.1,
              (λ sits. let t = ku.2 sits in let a = apart j other u.pass t in
                  known_put start k.log k.roster new n j u.pass a.0 (λ q _. a.1 q) t),
              all_put start k.log k.roster new n j u.gathered (apart j other) ku.3,
            )));
        unborn = λ q e. k.unborn q (put_none k.roster new n q e).1;
        parents = λ q i e. let t = put_none k.roster new n q e in
            put_other k.roster new n (i ∷ q)
            (λ same. some-ne-none id (sym mine.3 ∙ (ap k.roster (sym (ap tl same)) ∙ t.1))) ∙ k.parents q i t.1;
        out = snoc_stay (λ j u. u.holds ≡ true → IsHolder (get_or s.words 0 0) k.log k.holder j u)
            (set s.views id (bearer v)) (born v) (λ h. absurd (false≢true h))
            (seats_stay (λ j u. u.holds ≡ true → IsHolder (get_or s.words 0 0) k.log k.holder j u) s.views id (bearer v)
            (k.out id v at) (λ j u _. k.out j u));
        busy = λ odd. let h = holder_stays s.views id v (bearer v) k.holder at (λ x. x) (λ x. x) (k.busy odd) in
            (h.0, at_longer (set s.views id (bearer v)) (born v ∷ []) k.holder h.0 h.1, h.2, h.3);
        home = k.home;
      }

  -- a note of what was seen is split off
  pub notes : (id : ℕ) (v : View E R S) → Splits Rule id v v (note v)
  notes id v s k at = let known = k.each_seat id v at in record {
    log = k.log;
    roster = k.roster;
    holder = k.holder;
    one_word = k.one_word;
    legal = k.legal;
    word_is = k.word_is;
    each_seat = snoc_stay (λ j u. Knows start k.log k.roster j u) (set s.views id v) (note v)
        (prefix_none k.log, known.0, (λ q. absurd (false≢true q)), tt)
        (seats_stay (λ j u. Knows start k.log k.roster j u) s.views id v known (λ j u _. k.each_seat j u));
    unborn = k.unborn;
    parents = k.parents;
    out = snoc_stay (λ j u. u.holds ≡ true → IsHolder (get_or s.words 0 0) k.log k.holder j u) (set s.views id v)
        (note v) (λ h. absurd (false≢true h))
        (seats_stay (λ j u. u.holds ≡ true → IsHolder (get_or s.words 0 0) k.log k.holder j u) s.views id v
        (k.out id v at) (λ j u _. k.out j u));
    busy = λ odd. let h = holder_stays s.views id v v k.holder at (λ x. x) (λ x. x) (k.busy odd) in
        (h.0, at_longer (set s.views id v) (note v ∷ []) k.holder h.0 h.1, h.2, h.3);
    home = k.home;
  }
