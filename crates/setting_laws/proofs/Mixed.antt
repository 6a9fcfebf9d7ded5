-- Between two states members change one after the other.
use Rattle.std.proofs.Common.{◌≡◌, ◌≢◌, ◌∙◌, ℕ, zero, suc, ◌+◌, List, [], ◌∷◌, ◌++◌, add-one, arith, drop, length, map}
use Rattle.std.proofs.Common.{Option, Some, refl, sym, ap, subst, take}
use Rattle.std.specs.Prelude.{slice_get, zip}
use Rattle.std.specs.List.{enumerate_from}
use Rattle.member_state.specs.Leaves.{leaf_of}
use Rattle.policies.specs.Policies.{PolicyOf}
use Rattle.policies.specs.declared.policy.MemberItem.{MemberItem}
use Rattle.policy_meaning.specs.declared.leaf.LeafTable.{LeafTable}
use Rattle.machine_meaning.specs.Settings.{table_of, tables_with}
use Rattle.machine_meaning.specs.Sound.{IsSoundMember}
use Rattle.machine_meaning.specs.States.{MemberOf, State}
use Rattle.machine_meaning.proofs.Numbered.{behind, from_zero, here}
use Rattle.setting_laws.specs.Members.{ChangesAt, MembersChange, RulesChange}
use Rattle.setting_laws.specs.Mixed.{MixturesAreSound, MixturesChange, MixturesLead, MixturesStay, MixturesTurn, mixed}
use Rattle.setting_laws.specs.Ready.{SettingsAreReady}
use Rattle.setting_laws.specs.Staying.{kept_of}
use Rattle.setting_laws.specs.Taking.{ChangesCanBeTaken}

-- lists -------------------------------------------------------------------------------------------------------------

module _ {A : Type 0} where
  abbrev mix : ℕ → List A → List A → List A
  mix k xs ys = take k ys ++ drop k xs

  long_mix : (k : ℕ) (xs ys : List A) → length ys ≡ length xs → length (mix k xs ys) ≡ length xs
  long_mix zero xs ys e = refl
  long_mix (suc k) [] [] e = refl
  long_mix (suc k) [] (y ∷ ys) e = absurd (omega (arith, e))
  long_mix (suc k) (x ∷ xs) [] e = absurd (omega (arith, e))
  long_mix (suc k) (x ∷ xs) (y ∷ ys) e = ap suc (long_mix k xs ys (omega (arith, e)))

  -- what holds of the items of a number holds of that of the mixture
  mix_has : (P : Option A → Type 0) (k n : ℕ) (xs ys : List A) → length ys ≡ length xs → P (slice_get xs n)
      → P (slice_get ys n) → P (slice_get (mix k xs ys) n)
  mix_has P zero n xs ys e h g = h
  mix_has P (suc k) n [] [] e h g = h
  mix_has P (suc k) n [] (y ∷ ys) e h g = absurd (omega (arith, e))
  mix_has P (suc k) n (x ∷ xs) [] e h g = absurd (omega (arith, e))
  mix_has P (suc k) zero (x ∷ xs) (y ∷ ys) e h g = g
  mix_has P (suc k) (suc n) (x ∷ xs) (y ∷ ys) e h g = mix_has P k n xs ys (omega (arith, e)) h g

  -- the item that is next, and that was last
  mix_next : (i : ℕ) (xs ys : List A) → length ys ≡ length xs → slice_get (mix i xs ys) i ≡ slice_get xs i
  mix_next zero xs ys e = refl
  mix_next (suc i) [] [] e = refl
  mix_next (suc i) [] (y ∷ ys) e = absurd (omega (arith, e))
  mix_next (suc i) (x ∷ xs) [] e = absurd (omega (arith, e))
  mix_next (suc i) (x ∷ xs) (y ∷ ys) e = mix_next i xs ys (omega (arith, e))

  mix_last : (i : ℕ) (xs ys : List A) → length ys ≡ length xs → slice_get (mix (suc i) xs ys) i ≡ slice_get ys i
  mix_last i [] [] e = refl
  mix_last i [] (y ∷ ys) e = absurd (omega (arith, e))
  mix_last i (x ∷ xs) [] e = absurd (omega (arith, e))
  mix_last zero (x ∷ xs) (y ∷ ys) e = refl
  mix_last (suc i) (x ∷ xs) (y ∷ ys) e = mix_last i xs ys (omega (arith, e))

  -- all others stay
  mix_rest : (i j : ℕ) (xs ys : List A) → length ys ≡ length xs → j ≢ i
      → slice_get (mix (suc i) xs ys) j ≡ slice_get (mix i xs ys) j
  mix_rest zero j [] [] e ne = refl
  mix_rest (suc i) j [] [] e ne = refl
  mix_rest i j [] (y ∷ ys) e ne = absurd (omega (arith, e))
  mix_rest i j (x ∷ xs) [] e ne = absurd (omega (arith, e))
  mix_rest zero zero (x ∷ xs) (y ∷ ys) e ne = absurd (ne refl)
  mix_rest zero (suc j) (x ∷ xs) (y ∷ ys) e ne = refl
  mix_rest (suc i) zero (x ∷ xs) (y ∷ ys) e ne = refl
  mix_rest (suc i) (suc j) (x ∷ xs) (y ∷ ys) e ne =
      mix_rest i j xs ys (omega (arith, e)) (λ f. ne (ap suc f))

  mix_all : (xs ys : List A) → length ys ≡ length xs → mix (length xs) xs ys ≡ ys
  mix_all [] [] e = refl
  mix_all [] (y ∷ ys) e = absurd (omega (arith, e))
  mix_all (x ∷ xs) [] e = absurd (omega (arith, e))
  mix_all (x ∷ xs) (y ∷ ys) e = ap (λ (zs : List A). y ∷ zs) (mix_all xs ys (omega (arith, e)))

some_same : {A : Type 0} {x y : A} → Some x ≡ Some y → x ≡ y
some_same e = cc

-- tables ------------------------------------------------------------------------------------------------------------

-- a member's table is seen as before
abbrev IsSame : ℕ → MemberItem → MemberOf → MemberOf → Type 0
IsSame n m x y = leaf_of n m.grant y.kept ≡ leaf_of n m.grant x.kept

-- where that of a number is, all are
mix_tables : (k i : ℕ) (items : List MemberItem) (xs ys : List MemberOf) → length ys ≡ length xs
    → ((m : MemberItem) (x y : MemberOf) → slice_get items i ≡ Some m → slice_get xs i ≡ Some x
    → slice_get ys i ≡ Some y → IsSame (k + i) m x y)
    → map table_of (enumerate_from k (zip items (mix (suc i) xs ys)))
    ≡ map table_of (enumerate_from k (zip items (mix i xs ys)))
mix_tables k i [] xs ys e h = refl
mix_tables k zero (m ∷ ms) [] [] e h = refl
mix_tables k (suc i) (m ∷ ms) [] [] e h = refl
mix_tables k i (m ∷ ms) [] (y ∷ ys) e h = absurd (omega (arith, e))
mix_tables k i (m ∷ ms) (x ∷ xs) [] e h = absurd (omega (arith, e))
mix_tables k zero (m ∷ ms) (x ∷ xs) (y ∷ ys) e h =
    ap (λ (t : LeafTable). t ∷ map table_of (enumerate_from (k + 1) (zip ms xs)))
    (subst (λ (n : ℕ). IsSame n m x y) (sym (here k)) (h m x y refl refl refl))
mix_tables k (suc i) (m ∷ ms) (x ∷ xs) (y ∷ ys) e h =
    ap (λ (ts : List LeafTable). leaf_of k m.grant y.kept ∷ ts)
    (mix_tables (k + 1) i ms xs ys (omega (arith, e))
    (λ n a b f g d. subst (λ (j : ℕ). IsSame j n a b) (sym (behind k i)) (h n a b f g d)))

-- states ------------------------------------------------------------------------------------------------------------

pub mixtures_sound : MixturesAreSound
mixtures_sound p s t h k n =
    let long : length t.members ≡ length s.members = k.all_members ∙ sym h.all_members in
    record {
      exprs = h.exprs;
      all_members = long_mix n s.members t.members long ∙ h.all_members;
      members = λ i m x there at.
          mix_has (λ (o : Option MemberOf). o ≡ Some x → IsSoundMember p m x) n i s.members t.members long
          (λ e. h.members i m x there e) (λ e. k.members i m x there e) at;
    }

-- the step at a member
abbrev next_change : (p : PolicyOf) (s t : State) → length t.members ≡ length s.members → (i : ℕ) (m : MemberItem)
    (x y : MemberOf) → slice_get p.members i ≡ Some m → slice_get s.members i ≡ Some x
    → slice_get t.members i ≡ Some y → ChangesAt p i (mixed i s t) (mixed (i + 1) s t)
next_change p s t long i m x y there was is = record {
  item = m;
  before = x;
  after = y;
  there = there;
  was = mix_next i s.members t.members long ∙ was;
  is =
      subst (λ (k : ℕ). slice_get (mix k s.members t.members) i ≡ Some y) (sym (add-one i))
      (mix_last i s.members t.members long ∙ is);
  exprs = refl;
  rest = λ j ne.
      subst (λ (k : ℕ). slice_get (mix k s.members t.members) j ≡ slice_get (mix i s.members t.members) j)
      (sym (add-one i)) (mix_rest i j s.members t.members long ne);
}

pub mixtures_change : MixturesChange
mixtures_change p s t long i m x y there was is =
    record { changes = next_change p s t long i m x y there was is; item = refl; before = refl; after = refl }

pub mixtures_turn : SettingsAreReady → MembersChange → ChangesCanBeTaken → MixturesTurn
mixtures_turn ready change taken p h s t sound after i m x y there was is delta turn =
    let long : length t.members ≡ length s.members = after.all_members ∙ sym sound.all_members in
    let first = mixtures_sound p s t sound after i in
    let second = mixtures_sound p s t sound after (i + 1) in
    let r : RulesChange p i (mixed i s t) (mixed (i + 1) s t) (next_change p s t long i m x y there was is) s.switches
    delta =
    record { member = turn.member; rules = turn.rules } in
    record {
      good = (ready p h (mixed i s t) first).good;
      good_after = (ready p h (mixed (i + 1) s t) second).good;
      changes =
          change p h (mixed i s t) (mixed (i + 1) s t) first second i (next_change p s t long i m x y there was is)
          s.switches delta r;
      can = λ composed of rules e.
          taken p h (mixed i s t) (mixed (i + 1) s t) first second i (next_change p s t long i m x y there was is)
          s.switches composed of delta r rules e;
    }

pub mixtures_stay : MixturesStay
mixtures_stay p s t long i m x y there was is same = record {
  exprs = refl;
  leaves =
      subst (λ (k : ℕ). tables_with p.members (mix k s.members t.members)
      ≡ tables_with p.members (mix i s.members t.members)) (sym (add-one i))
      (mix_tables 0 i p.members s.members t.members long
      (λ n a b f g d.
      let item : m ≡ n = some_same (sym there ∙ f) in
      let before : x ≡ a = some_same (sym was ∙ g) in
      let after : y ≡ b = some_same (sym is ∙ d) in
      subst (λ (z : MemberOf). IsSame (0 + i) n a z) after
      (subst (λ (z : MemberOf). IsSame (0 + i) n z y) before
      (subst (λ (z : MemberItem). IsSame (0 + i) z x y) item
      (subst (λ (j : ℕ). IsSame j m x y) (sym (from_zero i)) same)))));
}

pub mixtures_lead : MixturesLead
mixtures_lead s t exprs long = record {
  first = refl;
  last = record { exprs = exprs; kept = ap (map kept_of) (sym (mix_all s.members t.members long)) };
}
