-- Each step of a seat that takes, commits, gives back or looks keeps the rule of the lock.
use Rattle.std.proofs.Common.{◌≡◌, ◌≢◌, ℕ, ◌+◌, ◌*◌, ◌/◌, ◌%◌, true, false, eqb, List, [], ◌∷◌, ◌++◌, length, get_or}
use Rattle.std.proofs.Common.{set, refl, sym, ap, ◌∙◌, subst, arith, Option, Some, None, length-set, length-append}
use Rattle.std.proofs.Common.{get_or-set_same, eq-eqb, ne_eqb}
use mathlib.Core.Logic.{dite}
use mathlib.Core.Option.{none, some, some-injective}
use mathlib.Core.Option as maybe
use mathlib.Core.List.{IsPrefix}
use native.Mathlib.Decide.{ℕ_discrete}
use lib.ListN.{get_elem?}
use lib.Seq.{set-get_or}
use prog.Atomic.{either}
use Rattle.std.proofs.lemmas.Bool.{false≢true}
use Rattle.std.proofs.lemmas.List.{same_from_push}
use Rattle.atomic_table.specs.Table.{step, keeps, takes, gives, stepped, Allows}
use Rattle.atomic_table.proofs.Lists.{set_here, set_else, set_again}
use Rattle.policy_lock.specs.declared.machine.Machine.{Ghosts}
use Rattle.policy_lock.specs.declared.held.Held.{Held}
use Rattle.policy_lock.specs.declared.view.Entry.{Entry}
use Rattle.policy_lock.specs.declared.view.Pass.{Pass}
use Rattle.policy_lock.specs.declared.view.View.{View}
use Rattle.policy_lock.specs.History.{after, calls_by}
use Rattle.policy_lock.specs.Locked.{Stands}
use Rattle.policy_lock.specs.View.{took, let_go}
use Rattle.policy_lock.specs.Rule.{Lock, Sat, Kept, Known, AllKnown, Knows, IsHolder}
use Rattle.policy_lock.specs.Play.{made, added, Takes, Commits, GivesBack, Looks}
use Rattle.policy_lock.proofs.Histories.{calls-append, calls-other, prefix_more, prefix_refl, legal-snoc, legal_before}
use Rattle.policy_lock.proofs.Histories.{calls_none}
use Rattle.policy_lock.proofs.Roster.{seats_stay, inside, known_more, all_more}

module _ {E R S : Type 0} where
  abbrev pub HasHolder : List (View E R S) → ℕ → Type 0
  HasHolder vs j = (v : View E R S) × (get_elem? vs j ≡ some v) × (v.holds ≡ true) × (v.seated ≡ true)

  pub holder_stays : (vs : List (View E R S)) (id : ℕ) (v w : View E R S) (j : ℕ) → get_elem? vs id ≡ some v
      → (v.holds ≡ true → w.holds ≡ true) → (v.seated ≡ true → w.seated ≡ true) → HasHolder vs j
      → HasHolder (set vs id w) j
  holder_stays vs id v w j at holds seated h = dite (ℕ_discrete j id)
      (λ e. let same : h.0 ≡ v = some-injective h.0 v (sym h.1 ∙ (ap (get_elem? vs) e ∙ at)) in (
        w,
        ap (get_elem? (set vs id w)) e ∙ set_here vs id w (inside vs id v at),
        holds (ap (λ (z : View E R S). z.holds) (sym same) ∙ h.2),
        seated (ap (λ (z : View E R S). z.seated) (sym same) ∙ h.3),
      ))
      (λ ne. (h.0, set_else vs id j w ne ∙ h.1, h.2, h.3))

  pub holder_else : (vs : List (View E R S)) (other : ℕ) (w u : View E R S) (j : ℕ) → get_elem? vs other ≡ some w
      → w.holds ≡ false → HasHolder vs j → HasHolder (set vs other u) j
  holder_else vs other w u j at free h = (
    h.0,
    set_else vs other j u (λ e. let same : h.0 ≡ w = some-injective h.0 w (sym h.1 ∙ (ap (get_elem? vs) e ∙ at)) in
        false≢true (sym free ∙ (ap (λ (z : View E R S). z.holds) (sym same) ∙ h.2))) ∙ h.1,
    h.2,
    h.3,
  )

abbrev pub opt_or : {A : Type 0} → A → Option A → A
opt_or d None = d
opt_or d (Some y) = y

abbrev pub val_or : {A : Type 0} → A → List (ℕ × Option A) → A
val_or d [] = d
val_or d (z ∷ zs) = opt_or d z.1

module _ {M E R S : Type 0} (g : Ghosts M E R S) (start : S) where
  abbrev Rule : Lock g → Type 0
  Rule = Kept g start

  -- a step that changes nothing
  pub rests : (s : Lock g) (k : Rule s) (id : ℕ) (v : View E R S) (c : List (ℕ × Option (Held M E R S g)))
      → get_elem? s.views id ≡ some v → Rule (stepped s 0 (get_or s.words 0 0) id c v keeps)
  rests s k id v c at =
      subst (λ (z : List ℕ × List (View E R S)). Rule record { words = z.0; homes = s.homes; views = z.1 })
      (λ i. (sym (set-get_or s.words 0 0) i, sym (set_again s.views id v at) i)) k

  pub takes_it : (slots id : ℕ) (me : Sat g) (old new : ℕ) → me.0.seated ≡ true → old % 2 ≡ 0 → new ≡ old + 1
      → Allows Rule slots id me 0 (λ n. either (eqb n old) new n) (Takes g (step slots 0 old new none) me)
  takes_it slots id me old new seated even up s k wide at small = let n : ℕ = get_or s.words 0 0 in let one =
      k.one_word in dite (ℕ_discrete n old)
      (λ hit. let still : n % 2 ≡ 0 = ap (λ (z : ℕ). z % 2) hit
      ∙ even in let h = k.home still in let x : Held M E R S g = h.0 in let w : View E R S = took k.log me.0 in
      let now : get_or (set s.words 0 new) 0 0 ≡ new = get_or-set_same s.words 0 new 0 (omega arith) in let known =
      k.each_seat id me.0 at in let mine = known.2 seated in
      let half = k.word_is in (
        w,
        takes 0 (Some x),
        h.1,
        subst (λ b. Rule (stepped s 0 (either b new n) id me.1 w (takes 0 (Some x)))) (sym (eq-eqb n old hit)) record {
          log = k.log;
          roster = k.roster;
          holder = id;
          one_word = length-set s.words 0 new ∙ one;
          legal = k.legal;
          word_is = ap (λ (z : ℕ). z / 2) now ∙ omega arith;
          each_seat = seats_stay (λ j v. Knows start k.log k.roster j v) s.views id w
              (prefix_refl k.log, known.1, (λ _. (mine.0, prefix_refl k.log, refl, mine.3, mine.4)), known.3)
              (λ j d _. k.each_seat j d);
          unborn = k.unborn;
          parents = k.parents;
          out = seats_stay (λ j v. v.holds ≡ true → IsHolder (get_or (set s.words 0 new) 0 0) k.log id j v) s.views id w
              (λ _. (ap (λ (z : ℕ). z % 2) now ∙ omega arith, refl, refl, seated))
              (λ j d other there holds. let o = (k.out j d there holds).0 in absurd (omega arith));
          busy = λ _. (w, set_here s.views id w (inside s.views id me.0 at), refl, seated);
          home = λ e. let e' : new % 2 ≡ 0 = ap (λ (z : ℕ). z % 2) (sym now) ∙ e in absurd (omega arith);
        },
        ((λ ne. absurd (ne hit)), λ _. (start, x, k.log, mine.0, refl, h.2, omega arith, k.legal, known.0, mine.2)),
      ))
      (λ miss. (
        me.0,
        keeps,
        tt,
        subst (λ b. Rule (stepped s 0 (either b new n) id me.1 me.0 keeps)) (sym (ne_eqb n old miss))
            (rests s k id me.0 me.1 at),
        ((λ _. refl), λ hit. absurd (miss hit)),
      ))

  pub commits : (slots id : ℕ) (me : Sat g) (v : View E R S) (new : ℕ) (x : Held M E R S g) (old : List E) (e : E)
      → me ≡ (v, (0, Some x) ∷ []) → v.holds ≡ true → v.gathered ≡ [] → x.boxed.value.events.items ≡ old ++ e ∷ []
      → ((s : S) → v.pass.start ≡ Some s → (g.idle (after g s v.pass.seen) e ≡ false)
      × Stands g s x.boxed.value (v.pass.seen ++ made g s v e ∷ [])) → new ≡ 2 * length v.pass.seen + 2 → slots ≡ 1
      → Allows Rule slots id me 0 (λ _. new) (λ _. Commits g (step slots 0 new 0 none) me new)
  commits slots id me v new x old e is holds empty last stays up one_slot =
      subst (λ (m : Sat g). Allows Rule slots id m 0 (λ _. new) (λ _. Commits g (step slots 0 new 0 none) m new))
      (sym is)
      (λ s k wide at small. let it : Entry E R = made g start v e in let w : View E R S = added g start v e in let o =
      k.out id v at holds in let known = k.each_seat id v at in let mine = known.2 o.3 in
      let stood = stays start mine.0 in let busy = stood.0 in let stands = stood.1 in
      let one = k.one_word in let half = k.word_is in let odd = o.0 in
      let now : get_or (set s.words 0 new) 0 0 ≡ new = get_or-set_same s.words 0 new 0 (omega arith) in
      let log : List (Entry E R) = k.log ++ it ∷ [] in let grown : w.pass.seen ≡ log = ap (λ l. l ++ it ∷ []) o.2 in
      let long = length-append k.log (it ∷ []) in let long' : length v.pass.seen ≡ length k.log = ap length o.2 in
      let more : g.idle (after g start k.log) e ≡ false = ap (λ l. g.idle (after g start l) e) (sym o.2) ∙ busy in
      let told : it.reply ≡ g.reply (after g start k.log) e = ap (λ l. g.reply (after g start l) e) o.2 in
      let others : (n : List ℕ) → n ≢ v.pass.number
      → calls_by n (it ∷ []) ≡ [] = λ n ne. calls-other n v.pass.number e it.reply (λ q. ne (sym q)) in
      let alien : (j : ℕ) → j ≢ id → (u : Pass E R S) → Known start k.log k.roster j u
      → calls_by u.number (it ∷ []) ≡ [] =
      λ j other u h. others u.number (λ q. other (some-injective j id (sym h.3 ∙ (ap k.roster q ∙ mine.3)))) in (
        w,
        gives,
        tt,
        record {
          log = log;
          roster = k.roster;
          holder = k.holder;
          one_word = length-set s.words 0 new ∙ one;
          legal = legal-snoc g start k.log v.pass.number e it.reply k.legal more told;
          word_is = ap (λ (z : ℕ). z / 2) now ∙ omega arith;
          each_seat = seats_stay (λ j u. Knows start log k.roster j u) s.views id w (
            subst (λ l. IsPrefix w.pass.seen l) grown (prefix_refl w.pass.seen),
            prefix_more k.log v.told (it ∷ []) known.1,
            (λ _. (
              mine.0,
              subst (λ l. IsPrefix w.pass.seen l) grown (prefix_refl w.pass.seen),
              ap (calls_by v.pass.number) (sym grown),
              mine.3,
              mine.4,
            )),
            subst (AllKnown start log k.roster id) (sym empty) tt,
          )
              (λ j u other there. let ku = k.each_seat j u there in (
                prefix_more k.log u.pass.seen (it ∷ []) ku.0,
                prefix_more k.log u.told (it ∷ []) ku.1,
                (λ sits. let t = ku.2 sits in
                    known_more start k.log (it ∷ []) k.roster j u.pass (alien j other u.pass t) t),
                all_more start k.log (it ∷ []) k.roster j u.gathered (alien j other) ku.3,
              ));
          unborn = λ n free. calls-append n k.log (it ∷ [])
              ∙ (λ i. k.unborn n free i ++ others n
              (λ q. absurd (maybe.some-ne-none id (sym (sym free ∙ (ap k.roster q ∙ mine.3))))) i);
          parents = k.parents;
          out = seats_stay (λ j u. u.holds ≡ true → IsHolder (get_or (set s.words 0 new) 0 0) log k.holder j u) s.views
              id w
              (λ h. absurd (false≢true h))
              (λ j u other there h. absurd (other ((k.out j u there h).1 ∙ sym o.1)));
          busy = λ e. let e' : new % 2 ≡ 1 = ap (λ (z : ℕ). z % 2) (sym now) ∙ e in absurd (omega arith);
          home = λ _. (
            x,
            set_here s.homes 0 (some (Some x)) (omega arith),
            subst (Stands g start x.boxed.value) grown stands,
          );
        },
        λ s0 y old' e' is' at' last'. let p : start ≡ s0 = ap (opt_or start) (sym mine.0 ∙ is') in let q : x ≡ y =
            ap (val_or x) at' in
            let r : e ≡ e' =
            (same_from_push old old' e e' (sym last
            ∙ (ap (λ (z : Held M E R S g). z.boxed.value.events.items) q ∙ last'))).1 in
            λ i. (added g (p i) v (r i), []),
      ))

  pub gives_back : (slots id : ℕ) (me : Sat g) (v : View E R S) (word : ℕ) (x : Held M E R S g)
      → me ≡ (v, (0, Some x) ∷ []) → v.holds ≡ true
      → ((s : S) → v.pass.start ≡ Some s → Stands g s x.boxed.value v.pass.seen) → word ≡ 2 * length v.pass.seen
      → slots ≡ 1
      → Allows Rule slots id me 0 (λ _. word) (λ _. GivesBack g (step slots 0 word 0 none) me word)
  gives_back slots id me v word x is holds stays up one_slot =
      subst (λ (m : Sat g). Allows Rule slots id m 0 (λ _. word) (λ _. GivesBack g (step slots 0 word 0 none) m word))
      (sym is)
      (λ s k wide at small. let w : View E R S = let_go v in let o = k.out id v at holds in let known =
      k.each_seat id v at in let stands = stays start (known.2 o.3).0 in
      let one = k.one_word in let half = k.word_is in let odd = o.0 in let long' : length v.pass.seen ≡ length k.log =
      ap length o.2 in
      let now : get_or (set s.words 0 word) 0 0 ≡ word = get_or-set_same s.words 0 word 0 (omega arith) in (
        w,
        gives,
        tt,
        record {
          log = k.log;
          roster = k.roster;
          holder = k.holder;
          one_word = length-set s.words 0 word ∙ one;
          legal = k.legal;
          word_is = ap (λ (z : ℕ). z / 2) now ∙ omega arith;
          each_seat = seats_stay (λ j u. Knows start k.log k.roster j u) s.views id w known
              (λ j u other there. k.each_seat j u there);
          unborn = k.unborn;
          parents = k.parents;
          out = seats_stay (λ j u. u.holds ≡ true → IsHolder (get_or (set s.words 0 word) 0 0) k.log k.holder j u)
              s.views id w
              (λ h. absurd (false≢true h))
              (λ j u other there h. absurd (other ((k.out j u there h).1 ∙ sym o.1)));
          busy = λ e. let e' : word % 2 ≡ 1 = ap (λ (z : ℕ). z % 2) (sym now) ∙ e in absurd (omega arith);
          home = λ _. (
            x,
            set_here s.homes 0 (some (Some x)) (omega arith),
            subst (Stands g start x.boxed.value) o.2 stands,
          );
        },
        refl,
      ))

  -- a look: the word is at least what was seen
  pub looks : (slots id : ℕ) (me : Sat g) → Allows Rule slots id me 0 (λ n. n) (Looks g (step slots 0 0 0 none) me)
  looks slots id me s k wide at small = let known = k.each_seat id me.0 at in let half = k.word_is in let t = known.0 in
      let long : length k.log ≡ length me.0.pass.seen + length t.0 = ap length (sym t.1)
      ∙ length-append me.0.pass.seen t.0 in (
        me.0,
        keeps,
        tt,
        rests s k id me.0 me.1 at,
        (
          refl,
          omega arith,
          (λ sits q le. let mine = known.2 sits in
              calls_none (q ∷ me.0.pass.number) k.log me.0.pass.seen known.0
              (k.unborn (q ∷ me.0.pass.number) (mine.4 q le))),
          λ z sits is. let mine = known.2 sits in let same : start ≡ z = ap (opt_or start) (sym mine.0 ∙ is) in (
            subst (λ y. Rattle.policy_lock.specs.History.IsLegal g y me.0.pass.seen) same
                (legal_before g start k.log me.0.pass.seen known.0 k.legal),
            record {
              log = k.log;
              legal = subst (λ y. Rattle.policy_lock.specs.History.IsLegal g y k.log) same k.legal;
              later = known.0;
              calls = mine.2;
              long = sym half;
            },
          ),
        ),
      )
