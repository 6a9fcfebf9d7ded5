-- What is to stand on a switch, changed through its gate.
use Rattle.std.proofs.Common.{◌≡◌, ℕ, ◌+◌, ◌⊎◌, inl, inr, Bool, true, false, ◌&&◌, ◌||◌, List, [], ◌∷◌, ◌++◌, refl, sym}
use Rattle.std.proofs.Common.{ap, subst, ◌∙◌, arith, count_by}
use Rattle.std.specs.Prelude.{filter, not, IsPermutation}
use Rattle.std.specs.List.{list_any}
use Rattle.std.proofs.lemmas.List.Sorted.{IsPermutation-sym, IsPermutation-trans, list_any-IsPermutation}
use Rattle.std.proofs.lemmas.Map.Keys.{IsDistinct-IsPermutation}
use Rattle.agreement.specs.FreeOrder.{HaveMatches}
use Rattle.list_change.specs.Changes.{Changed}
use Rattle.match_index.proofs.Counts.{count-append, count-permuted}
use Rattle.of10_match.specs.Ranges.{IsMatch}
use Rattle.switch_meaning.specs.BatchLaw.{HasNoTwins}
use Rattle.switch_meaning.specs.Keys.{displaces, installed, one_per_key, passes_over, passing}
use Rattle.switch_meaning.specs.Same.{same_entry}
use Rattle.switch_meaning.specs.declared.entry.PhysEntry.{PhysEntry}
use Rattle.switch_meaning.proofs.Items.{join_and, split_and}
use Rattle.switch_meaning.proofs.Members.{IsIn, all-permuted, distinct-filter, filter-in, in-filter, in-permuted}
use Rattle.switch_meaning.proofs.Members.{same-items}
use Rattle.install_plan.specs.Tables.{AreApart, AreThere, Exchanges, IsBatch, TableOf, same_place}
use Rattle.install_plan.specs.declared.written.Batch.{Batch}
use Rattle.exact_gate.specs.Gates.{IsChanged, IsDifference}
use Rattle.exact_gate.specs.Standing.{HaveSame, stands_in}
use Rattle.exact_gate.specs.declared.delta.GateDelta.{GateDelta}
use Rattle.exact_gate.proofs.Changing.{difference-same}
use Rattle.exact_gate.proofs.Standing.{in-stands, passing-same, same-flip, same-self, stands-in}
use Rattle.policy_meaning.proofs.Lists.{all-append}
use Rattle.switch_tables.specs.StandingLaw.{StandsAsInstalled}
use Rattle.switch_tables.specs.Tables.{Has, HasHad, HasNow, IsKept, IsTurned, SwitchTableOf}
use Rattle.switch_tables.proofs.Sets.{Once, are_twins, changed-stands, counts-permuted, in-parts, no-twins-once}
use Rattle.switch_tables.proofs.Sets.{place-once}

-- ---- what passes before and after, in parts

module _ (old new gone come : List PhysEntry) (once_old : Once old) (once_new : Once new)
    (left : IsDifference old new gone) (more : IsDifference new old come) (once_gone : Once gone)
    (once_come : Once come) where
  abbrev kept : List PhysEntry
  kept = filter (stands_in new) old

  in-gone : (e : PhysEntry) → IsIn e gone → (stands_in old e ≡ true) × (not (stands_in new e) ≡ true)
  in-gone e i = split_and (stands_in old e) (not (stands_in new e)) (sym (left e) ∙ in-stands gone e i)

  in-come : (e : PhysEntry) → IsIn e come → (stands_in new e ≡ true) × (not (stands_in old e) ≡ true)
  in-come e i = split_and (stands_in new e) (not (stands_in old e)) (sym (more e) ∙ in-stands come e i)

  never : (b : Bool) → b ≡ true → not b ≡ true → ⊥
  never true t f = cc
  never false t f = cc

  was-parts : (e : PhysEntry) → IsIn e old → IsIn e gone ⊎ IsIn e kept
  was-parts e i = by (stands_in new e) refl
    where
      by : (b : Bool) → stands_in new e ≡ b → IsIn e gone ⊎ IsIn e kept
      by true t = inr (in-filter (stands_in new) i t)
      by false f =
          inl (stands-in gone e (left e
          ∙ join_and (stands_in old e) (not (stands_in new e)) (in-stands old e i) (ap not f)))

  is-parts : (e : PhysEntry) → IsIn e new → IsIn e come ⊎ IsIn e kept
  is-parts e i = by (stands_in old e) refl
    where
      by : (b : Bool) → stands_in old e ≡ b → IsIn e come ⊎ IsIn e kept
      by true t = inr (in-filter (stands_in new) (stands-in old e t) (in-stands new e i))
      by false f =
          inl (stands-in come e (more e
          ∙ join_and (stands_in new e) (not (stands_in old e)) (in-stands new e i) (ap not f)))

  once_kept : Once kept
  once_kept = distinct-filter same_entry (stands_in new) old once_old

  -- lists that differ so changed so
  pub differ-changed : Changed old new gone come
  differ-changed = record {
    kept = kept;
    was = in-parts old gone kept once_old once_gone once_kept
        (λ e i j. never (stands_in new e) (filter-in (stands_in new) e old j).1 (in-gone e i).1)
        was-parts (λ e i. stands-in old e (in-gone e i).0) (λ e j. (filter-in (stands_in new) e old j).0);
    is = in-parts new come kept once_new once_come once_kept
        (λ e i j. never (stands_in old e) (in-stands old e (filter-in (stands_in new) e old j).0) (in-come e i).1)
        is-parts (λ e i. stands-in new e (in-come e i).0)
        (λ e j. stands-in new e (filter-in (stands_in new) e old j).1);
  }

-- ---- the table follows what passes

module _ (was is gone come : List PhysEntry) (c : Changed was is gone come) (t u : TableOf)
    (old : IsPermutation was t.entries)
    (none : HasNoTwins is) (in_range : HaveMatches t.entries) (come_in : HaveMatches come) (x : Exchanges gone come t u)
  where
    stood : (q : PhysEntry → Bool) → count_by q t.entries ≡ count_by q gone + count_by q c.kept
    stood q = count-permuted q was t.entries old
        ∙ (sym (count-permuted q was (gone ++ c.kept) c.was) ∙ count-append q gone c.kept)

    kept-in : HaveMatches c.kept
    kept-in =
        right-all gone c.kept (all-permuted (λ (e : PhysEntry). IsMatch e.m) was (gone ++ c.kept) c.was
        (all-permuted (λ (e : PhysEntry). IsMatch e.m) t.entries was (IsPermutation-sym was t.entries old) in_range))
      where
        right-all : (xs ys : List PhysEntry) → HaveMatches (xs ++ ys) → HaveMatches ys
        right-all [] ys a = a
        right-all (x ∷ xs) ys a = right-all xs ys a.1

    all-in-range : HaveMatches (come ++ c.kept)
    all-in-range = all-append (λ (e : PhysEntry). IsMatch e.m) come c.kept come_in kept-in

    are-there : AreThere gone t
    are-there q = let s = stood q in omega (arith, s)

    are-apart : AreApart gone come t
    are-apart e =
        let s = stood (same_place e) in
        let a = count-append (same_place e) come c.kept in
        let p = count-permuted (same_place e) is (come ++ c.kept) c.is in
        let one =
        place-once e is none
        (all-permuted (λ (e : PhysEntry). IsMatch e.m) (come ++ c.kept) is
        (IsPermutation-sym is (come ++ c.kept) c.is) all-in-range) in
        omega (arith, s, a, p, one)

    now-stands : (q : PhysEntry → Bool) → count_by q (come ++ c.kept) ≡ count_by q u.entries
    now-stands q =
        let e = x are-there are-apart q in
        let s = stood q in
        let a = count-append q come c.kept in
        omega (arith, e, s, a)

    now-permuted : IsPermutation (come ++ c.kept) u.entries
    now-permuted = counts-permuted (come ++ c.kept) u.entries now-stands

    pub follows : IsPermutation is u.entries
    follows = IsPermutation-trans is (come ++ c.kept) u.entries c.is now-permuted

    pub follows-in : HaveMatches u.entries
    follows-in = all-permuted (λ (e : PhysEntry). IsMatch e.m) (come ++ c.kept) u.entries now-permuted all-in-range

-- ---- one change of a switch

passing-none : (xs : List PhysEntry) → HasNoTwins xs → HasNoTwins (passing xs)
passing-none xs d = distinct-filter are_twins
    (λ (e : PhysEntry). not (list_any (λ (d : PhysEntry). passes_over d e) xs)) xs d

same-trans : (xs ys zs : List PhysEntry) → HaveSame xs ys → HaveSame ys zs → HaveSame xs zs
same-trans xs ys zs f g e = f e ∙ g e

same-sym : (xs ys : List PhysEntry) → HaveSame xs ys → HaveSame ys xs
same-sym xs ys f e = sym (f e)

module _ (gone come : List PhysEntry) (x y : SwitchTableOf)
    (changed : IsChanged x.gate.candidates gone come y.gate.candidates) where
  new-candidates : (old new : List PhysEntry) → HaveSame old x.gate.candidates → HasNoTwins old
      → Changed old new gone come → HaveSame new y.gate.candidates
  new-candidates old new same none c e =
      changed-stands old new gone come (no-twins-once old none) c e
      ∙ (ap (λ (b : Bool). (b && not (stands_in gone e)) || stands_in come e) (same e) ∙ sym (changed e))

  module _ (d : GateDelta) (left : IsDifference (passing x.gate.candidates) (passing y.gate.candidates) d.gone)
      (more : IsDifference (passing y.gate.candidates) (passing x.gate.candidates) d.come) (once_gone : Once d.gone)
      (once_come : Once d.come)
      (come_in : HaveMatches d.come) (exchanged : Exchanges d.gone d.come x.installed.now y.installed.now) where
    pub now-has : (old new : List PhysEntry) → HasNow old x → HasNoTwins old → HasNoTwins new
        → Changed old new gone come → HasNow new y
    now-has old new h none_old none_new c =
        let same = new-candidates old new h.candidates_are none_old c in
        let pold = passing-same old x.gate.candidates h.candidates_are in
        let pnew = passing-same new y.gate.candidates same in
        let l = difference-same (passing x.gate.candidates) (passing y.gate.candidates) (passing old) (passing new)
        d.gone
        (same-sym (passing old) (passing x.gate.candidates) pold)
        (same-sym (passing new) (passing y.gate.candidates) pnew) left in
        let m = difference-same (passing y.gate.candidates) (passing x.gate.candidates) (passing new) (passing old)
        d.come
        (same-sym (passing new) (passing y.gate.candidates) pnew)
        (same-sym (passing old) (passing x.gate.candidates) pold) more in
        let p = differ-changed (passing old) (passing new) d.gone d.come
        (no-twins-once (passing old) (passing-none old none_old))
        (no-twins-once (passing new) (passing-none new none_new)) l m once_gone once_come in
        record {
          candidates_are = same;
          passing_are = follows (passing old) (passing new) d.gone d.come p x.installed.now y.installed.now
              h.passing_are (passing-none new none_new) h.in_range come_in exchanged;
          in_range = follows-in (passing old) (passing new) d.gone d.come p x.installed.now y.installed.now
              h.passing_are (passing-none new none_new) h.in_range come_in exchanged;
        }

pub had-before : (x y : SwitchTableOf) → HaveSame x.gate.candidates y.gate.before → y.installed.before ≡ x.installed.now
    → (old : List PhysEntry) → HasNow old x → HasHad old y
had-before x y same is old h =
    subst (λ (t : TableOf). Has old y.gate.before t) (sym is)
    (record {
      candidates_are = same-trans old x.gate.candidates y.gate.before h.candidates_are same;
      passing_are = h.passing_are;
      in_range = h.in_range;
    })

pub turned : (gone come : List PhysEntry) (next : ℕ) (x y : SwitchTableOf) (d : GateDelta) (b : Batch)
    → IsChanged x.gate.candidates gone come y.gate.candidates → HaveSame x.gate.candidates y.gate.before
    → IsDifference (passing x.gate.candidates) (passing y.gate.candidates) d.gone
    → IsDifference (passing y.gate.candidates) (passing x.gate.candidates) d.come → Once d.gone → Once d.come
    → HaveMatches d.come
    → Exchanges d.gone d.come x.installed.now y.installed.now → IsBatch x.installed.now y.installed.now next b
    → y.installed.before ≡ x.installed.now
    → IsTurned gone come next x y b
turned gone come next x y d b changed before left more once_gone once_come come_in exchanged batch is = record {
  now_has = now-has gone come x y changed d left more once_gone once_come come_in exchanged;
  had = had-before x y before is;
  is_batch = batch;
  stood = is;
}

pub kept-as : (x y : SwitchTableOf) → HaveSame x.gate.candidates y.gate.candidates → y.installed.now ≡ x.installed.now
    → IsKept x y
kept-as x y same is = record {
  has = λ old h. subst (λ (t : TableOf). Has old y.gate.candidates t) (sym is)
      (record {
        candidates_are = same-trans old x.gate.candidates y.gate.candidates h.candidates_are same;
        passing_are = h.passing_are;
        in_range = h.in_range;
      });
  stands = is;
}

-- ---- what stands is what is installed

pub one-per-key-permuted : (xs ys : List PhysEntry) → HasNoTwins xs → IsPermutation xs ys
    → IsPermutation (one_per_key xs) (one_per_key ys)
one-per-key-permuted xs ys none m =
    let test = λ (zs : List PhysEntry). λ (e : PhysEntry). not (list_any (λ (d : PhysEntry). displaces d e) zs) in
    let once = no-twins-once xs none in
    let same : (e : PhysEntry) → test xs e ≡ test ys e =
    λ e. ap not (list_any-IsPermutation (λ (d : PhysEntry). displaces d e) xs ys m) in
    same-items same_entry same-self same-flip (one_per_key xs) (one_per_key ys)
    (distinct-filter same_entry (test xs) xs once)
    (distinct-filter same_entry (test ys) ys (IsDistinct-IsPermutation same_entry same-flip xs ys m once))
    (λ e i. let f = filter-in (test xs) e xs i in in-filter (test ys) (in-permuted xs ys e m f.0) (sym (same e) ∙ f.1))
    (λ e i. let f = filter-in (test ys) e ys i in
    in-filter (test xs) (in-permuted ys xs e (IsPermutation-sym xs ys m) f.0) (same e ∙ f.1))

pub stands-as-installed : StandsAsInstalled
stands-as-installed entries x none h t =
    subst (IsPermutation (installed entries)) (sym t.standing)
    (one-per-key-permuted (passing entries) x.installed.now.entries (passing-none entries none) h.passing_are)
