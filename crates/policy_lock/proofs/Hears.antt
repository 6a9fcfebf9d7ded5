-- A note is taken in, and seats are gathered: the rule is kept.
use Rattle.std.proofs.Common.{◌≡◌, ◌≢◌, ℕ, true, false, List, ◌∷◌, get_or, set, refl, sym, ap, ◌∙◌, subst}
use mathlib.Core.Option.{none, some, some-ne-none}
use lib.Seq.{set-get_or}
use Rattle.std.proofs.lemmas.Bool.{false≢true}
use Rattle.atomic_table.specs.Table.{step, keeps, Allows, Joins}
use Rattle.atomic_table.proofs.Lists.{set_else}
use Rattle.policy_lock.specs.declared.machine.Machine.{Ghosts}
use Rattle.policy_lock.specs.declared.view.Entry.{Entry}
use Rattle.policy_lock.specs.declared.view.View.{View}
use Rattle.policy_lock.specs.View.{told, heard, gathered, spent}
use Rattle.policy_lock.specs.Rule.{Lock, Sat, Roster, Kept, Known, Knows, IsHolder}
use Rattle.policy_lock.specs.Play.{Hears}
use Rattle.policy_lock.proofs.Histories.{longest, calls_between, prefix_none}
use Rattle.policy_lock.proofs.Roster.{put, put_here, put_other, put_none, longer_number, seats_stay, known_moved}
use Rattle.policy_lock.proofs.Roster.{all_moved, all_snoc}
use Rattle.policy_lock.proofs.Keeps.{holder_stays, holder_else}

module _ {M E R S : Type 0} (g : Ghosts M E R S) (start : S) where
  abbrev Rule : Lock g → Type 0
  Rule = Kept g start

  spent_knows : (log : List (Entry E R)) (r : Roster) (j : ℕ) → Knows start log r j spent
  spent_knows log r j = (prefix_none log, prefix_none log, (λ q. absurd (false≢true q)), tt)

  -- a note is handed to a seat
  pub tells : (id : ℕ) (v : View E R S) (other : ℕ) (w : View E R S) → w.holds ≡ false
      → Joins Rule id v other w (told v w) spent
  tells id v other w free s k at ne there = let known = k.each_seat id v at in let kw =
      k.each_seat other w (sym (set_else s.views id other (told v w) ne) ∙ there) in record {
        log = k.log;
        roster = k.roster;
        holder = k.holder;
        one_word = k.one_word;
        legal = k.legal;
        word_is = k.word_is;
        each_seat = seats_stay (λ j u. Knows start k.log k.roster j u) (set s.views id (told v w)) other spent
            (spent_knows k.log k.roster other)
            (λ j u _. seats_stay (λ j u. Knows start k.log k.roster j u) s.views id (told v w)
            (known.0, kw.1, known.2, known.3) (λ j u _. k.each_seat j u) j u);
        unborn = k.unborn;
        parents = k.parents;
        out = seats_stay (λ j u. u.holds ≡ true → IsHolder (get_or s.words 0 0) k.log k.holder j u)
            (set s.views id (told v w)) other spent (λ h. absurd (false≢true h))
            (λ j u _. seats_stay (λ j u. u.holds ≡ true → IsHolder (get_or s.words 0 0) k.log k.holder j u) s.views id
            (told v w) (k.out id v at) (λ j u _. k.out j u) j u);
        busy = λ odd. holder_else (set s.views id (told v w)) other w spent k.holder there free
            (holder_stays s.views id v (told v w) k.holder at (λ x. x) (λ x. x) (k.busy odd));
        home = k.home;
      }

  -- the seat has seen the longer of what it had seen and what it was told
  pub hears : (slots id : ℕ) (me : Sat g) → me.0.seated ≡ true → me.0.holds ≡ false
      → Allows Rule slots id me 0 (λ n. n) (Hears g (step slots 0 0 0 none) me)
  hears slots id me seated free s k wide at small = let v : View E R S = me.0 in let w : View E R S = heard v in
      let known = k.each_seat id v at in let mine = known.2 seated in
      let l = longest k.log v.pass.seen v.told known.0 known.1 in let calls =
      calls_between v.pass.number k.log w.pass.seen v.pass.seen l.0 l.1 mine.2 in (
        w,
        keeps,
        tt,
        subst (λ (z : List ℕ). Rule record { words = z; homes = s.homes; views = set s.views id w })
            (sym (set-get_or s.words 0 0)) record {
              log = k.log;
              roster = k.roster;
              holder = k.holder;
              one_word = k.one_word;
              legal = k.legal;
              word_is = k.word_is;
              each_seat = seats_stay (λ j u. Knows start k.log k.roster j u) s.views id w
                  (l.0, prefix_none k.log, (λ _. (mine.0, l.0, mine.2 ∙ sym calls, mine.3, mine.4)), known.3)
                  (λ j u _. k.each_seat j u);
              unborn = k.unborn;
              parents = k.parents;
              out = seats_stay (λ j u. u.holds ≡ true → IsHolder (get_or s.words 0 0) k.log k.holder j u) s.views id w
                  (λ h. absurd (false≢true (sym free ∙ h))) (λ j u _. k.out j u);
              busy = λ odd. holder_stays s.views id v w k.holder at (λ x. x) (λ x. x) (k.busy odd);
              home = k.home;
            },
        (refl, l.1, l.2, calls),
      )

  -- a seat is gathered
  pub gathers : (id : ℕ) (v : View E R S) (other : ℕ) (w : View E R S) → w.seated ≡ true → w.holds ≡ false
      → Joins Rule id v other w (gathered v w) spent
  gathers id v other w seated free s k at ne there = let known = k.each_seat id v at in let kw =
      k.each_seat other w (sym (set_else s.views id other (gathered v w) ne) ∙ there) in
      let mine = kw.2 seated in let new : List ℕ = w.pass.number in let had : k.roster new ≡ some other = mine.3 in
      let r : Roster = put k.roster new id in let ne' : id ≢ other = λ e. ne (sym e) in
      let moved : Known start k.log r id w.pass = (
        mine.0,
        mine.1,
        mine.2,
        put_here k.roster new id,
        λ q le. put_other k.roster new id (q ∷ new) (longer_number q new) ∙ mine.4 q le,
      ) in
      let keep : (j : ℕ) (u : View E R S) → j ≢ other → Knows start k.log k.roster j u
      → Knows start k.log r j u = λ j u away h. (
        h.0,
        h.1,
        (λ sits. known_moved start k.log k.roster new id other j u.pass had away (h.2 sits)),
        all_moved start k.log k.roster new id other j u.gathered had away h.3,
      ) in
      let mine' = keep id v ne' known in record {
        log = k.log;
        roster = r;
        holder = k.holder;
        one_word = k.one_word;
        legal = k.legal;
        word_is = k.word_is;
        each_seat = seats_stay (λ j u. Knows start k.log r j u) (set s.views id (gathered v w)) other spent
            (spent_knows k.log r other)
            (λ j u away found. seats_stay (λ j u. j ≢ other
            → Knows start k.log r j u) s.views id (gathered v w)
            (λ _. (mine'.0, mine'.1, mine'.2, all_snoc start k.log r id v.gathered w.pass mine'.3 moved))
            (λ j u _ there away. keep j u away (k.each_seat j u there)) j u found away);
        unborn = λ q e. k.unborn q (put_none k.roster new id q e).1;
        parents = λ q i e. let t = put_none k.roster new id q e in let up = k.parents q i t.1 in
            put_other k.roster new id (i ∷ q) (λ same. some-ne-none other (sym had ∙ (ap k.roster (sym same) ∙ up)))
            ∙ up;
        out = seats_stay (λ j u. u.holds ≡ true → IsHolder (get_or s.words 0 0) k.log k.holder j u)
            (set s.views id (gathered v w)) other spent (λ h. absurd (false≢true h))
            (λ j u _. seats_stay (λ j u. u.holds ≡ true
            → IsHolder (get_or s.words 0 0) k.log k.holder j u) s.views id (gathered v w) (k.out id v at)
            (λ j u _. k.out j u) j u);
        busy = λ odd. holder_else (set s.views id (gathered v w)) other w spent k.holder there free
            (holder_stays s.views id v (gathered v w) k.holder at (λ x. x) (λ x. x) (k.busy odd));
        home = k.home;
      }
