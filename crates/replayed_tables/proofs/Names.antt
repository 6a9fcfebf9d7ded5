-- The names of sessions are words, and no two switches have one name.
use Rattle.std.proofs.Common.{◌≡◌, ◌∙◌, ℕ, zero, suc, ◌+◌, ◌==◌, ◌&&◌, ◌||◌, Bool, true, false, true≢false, not, List}
use Rattle.std.proofs.Common.{[]}
use Rattle.std.proofs.Common.{◌∷◌, ◌++◌, map, Option, Some, refl, sym, ap, subst}
use Rattle.std.proofs.lemmas.Bool.{eq-eqb, eqb-false, ne_eqb}
use Rattle.std.specs.Char.{is_ascii_digit, is_ascii_lowercase}
use Rattle.std.specs.Prelude.{length, nat_eq, nat_lt, slice_get}
use Rattle.std.specs.Cmp.Lexicographic.{pointwise}
use Rattle.std.specs.List.{AllByRecursion, enumerate_from, list_all}
use Rattle.std.specs.Option.{option_map_or}
use Rattle.member_state.proofs.Lists.{eqb_flip}
use Rattle.policies.specs.Policies.{PolicyOf}
use Rattle.policies.specs.Sound.{AreUnlikeSwitches, EachToEarlier, IsSound, IsSoundMember, IsSoundSwitch}
use Rattle.policies.specs.Names.{is_name, is_name_byte}
use Rattle.policies.specs.declared.policy.MemberItem.{MemberItem}
use Rattle.policy_meaning.proofs.Booleans.{some_injective, split_and}
use Rattle.report_lines.specs.Lines.{is_word}
use Rattle.switch_state.proofs.Fitting.{all_joined}
use Rattle.virtual_topology.specs.declared.plan.SwitchItem.{SwitchItem}
use Rattle.machine_meaning.specs.Names.{switch_name}
use Rattle.replay_report.specs.Sessions.{named_member, named_switch, sessions_of}
use Rattle.replay_report.specs.declared.sessions.Named.{Named}
use Rattle.written_tables.proofs.Reported.{name_word}
use Rattle.replayed_tables.proofs.Plain.{controller_word, vsw_word}

-- a name is itself, and names differ whichever is named first
pub same_self : (name : List ℕ) → pointwise nat_eq name name ≡ true
same_self [] = refl
same_self (c ∷ name) = ap (λ b. b && pointwise nat_eq name name) (eq-eqb c c refl) ∙ same_self name

pub same_flips : (a b : List ℕ) → pointwise nat_eq a b ≡ pointwise nat_eq b a
same_flips [] [] = refl
same_flips [] (d ∷ b) = refl
same_flips (c ∷ a) [] = refl
same_flips (c ∷ a) (d ∷ b) = (λ i. eqb_flip c d i && same_flips a b i)

-- each switch is unlike each other one
unlike_first : (x : SwitchItem) (items : List SwitchItem) → AllByRecursion (λ y. AreUnlikeSwitches y x) items → (k : ℕ)
    (y : SwitchItem) → slice_get items k ≡ Some y → pointwise nat_eq y.name x.name ≡ false
unlike_first x [] h k y at = absurd (cc at)
unlike_first x (z ∷ items) h zero y at =
    subst (λ (w : SwitchItem). pointwise nat_eq w.name x.name ≡ false) (some_injective at) h.0.names
unlike_first x (z ∷ items) h (suc k) y at = unlike_first x items h.1 k y at

pub unlike : (items : List SwitchItem) → EachToEarlier AreUnlikeSwitches items → (i : ℕ) (x : SwitchItem)
    → slice_get items i ≡ Some x → (k : ℕ) (y : SwitchItem) → slice_get items k ≡ Some y → (k == i) ≡ false
    → pointwise nat_eq x.name y.name ≡ false
unlike [] h i x at k y there differ = absurd (cc at)
unlike (z ∷ items) h zero x at zero y there differ = absurd (eqb-false 0 0 differ refl)
unlike (z ∷ items) h zero x at (suc k) y there differ =
    same_flips x.name y.name
    ∙ subst (λ (w : SwitchItem). pointwise nat_eq y.name w.name ≡ false) (some_injective at)
    (unlike_first z items h.0 k y there)
unlike (z ∷ items) h (suc i) x at zero y there differ =
    subst (λ (w : SwitchItem). pointwise nat_eq x.name w.name ≡ false) (some_injective there)
    (unlike_first z items h.0 i x at)
unlike (z ∷ items) h (suc i) x at (suc k) y there differ =
    unlike items h.1 i x at k y there (ne_eqb k i (λ e. eqb-false (suc k) (suc i) differ (ap suc e)))

-- members' names -----------------------------------------------------------------------------------------------------

-- of words
word_both : (a b : List ℕ) → is_word a ≡ true → is_word b ≡ true → is_word (a ++ b) ≡ true
word_both [] b h k = k
word_both (c ∷ a) b h k = by (not ((c == 10) || (c == 32))) h (λ e. word_both a b e k)
  where
    by : (t : Bool) → (t && is_word a) ≡ true → (is_word a ≡ true → is_word (a ++ b) ≡ true)
        → (t && is_word (a ++ b)) ≡ true
    by true e f = f e
    by false e f = e

and_false : (b : Bool) → (b && false) ≡ false
and_false true = refl
and_false false = refl

-- a byte of a name is no `@` (64)
no_at_byte : (c : ℕ) → is_name_byte c ≡ true → c ≡ 64 → ⊥
no_at_byte c h e = true≢false (sym h ∙ ap is_name_byte e)

no_at : (name c v : List ℕ) → list_all is_name_byte name ≡ true
    → pointwise nat_eq name ((c ++ 64 ∷ []) ++ v) ≡ false
no_at [] [] v h = refl
no_at [] (d ∷ c) v h = refl
no_at (x ∷ name) [] v h =
    ap (λ b. b && pointwise nat_eq name v)
    (ne_eqb x 64 (no_at_byte x (split_and (is_name_byte x) (list_all is_name_byte name) h).0))
no_at (x ∷ name) (d ∷ c) v h =
    ap (λ b. nat_eq x d && b) (no_at name c v (split_and (is_name_byte x) (list_all is_name_byte name) h).1)
    ∙ and_false (nat_eq x d)

-- all bytes of a name
name_all : (name : List ℕ) → is_name name ≡ true → list_all is_name_byte name ≡ true
name_all [] h = refl
name_all (c ∷ name) h =
    let parts = split_and (is_ascii_lowercase c && nat_lt (length name) 16) (list_all is_name_byte name) h in
    let letter = split_and (is_ascii_lowercase c) (nat_lt (length name) 16) parts.0 in
    ap (λ b. ((b || is_ascii_digit c) || (c == 95)) && list_all is_name_byte name) letter.0 ∙ parts.1

members_from : (name : List ℕ) → list_all is_name_byte name ≡ true → (j : ℕ) (ms : List MemberItem)
    → AllByRecursion (λ (x : Named). pointwise nat_eq name x.name ≡ false) (map named_member (enumerate_from j ms))
members_from name h j [] = tt
members_from name h j (m ∷ ms) = (no_at name m.controller m.vsw h, members_from name h (j + 1) ms)

name_at : (items : List SwitchItem) → AllByRecursion IsSoundSwitch items → (n : ℕ) (item : SwitchItem)
    → slice_get items n ≡ Some item → is_name item.name ≡ true
name_at [] h n item at = absurd (cc at)
name_at (x ∷ items) h zero item at =
    subst (λ (y : SwitchItem). is_name y.name ≡ true) (some_injective at) h.0.name
name_at (x ∷ items) h (suc n) item at = name_at items h.1 n item at

-- no member's session has the name of a switch
pub members_apart : (p : PolicyOf) → IsSound p → (n : ℕ) (item : SwitchItem) → slice_get p.switches n ≡ Some item
    → AllByRecursion (λ (x : Named). pointwise nat_eq (switch_name p n) x.name ≡ false)
    (map named_member (enumerate_from 0 p.members))
members_apart p policy n item at =
    members_from (switch_name p n)
    (subst (λ (name : List ℕ). list_all is_name_byte name ≡ true)
    (sym (ap (λ (o : Option SwitchItem). option_map_or (λ (x : SwitchItem). x.name) o []) at))
    (name_all item.name (name_at p.switches policy.limits.switches n item at))) 0 p.members

-- names of sessions are words
switch_words : (j : ℕ) (items : List SwitchItem) → AllByRecursion IsSoundSwitch items
    → AllByRecursion (λ (x : Named). is_word x.name ≡ true) (map named_switch (enumerate_from j items))
switch_words j [] h = tt
switch_words j (x ∷ items) h = (name_word x.name h.0.name, switch_words (j + 1) items h.1)

module _ (p : PolicyOf) (policy : IsSound p) where
  member_words : (j : ℕ) (ms : List MemberItem) → AllByRecursion (IsSoundMember p.virtuals) ms
      → AllByRecursion (λ (x : Named). is_word x.name ≡ true) (map named_member (enumerate_from j ms))
  member_words j [] h = tt
  member_words j (m ∷ ms) h = (
    word_both (m.controller ++ 64 ∷ []) m.vsw
        (word_both m.controller (64 ∷ []) (controller_word p policy m h.0) refl) (vsw_word p policy m h.0),
    member_words (j + 1) ms h.1,
  )

  pub session_words : AllByRecursion (λ (x : Named). is_word x.name ≡ true) (sessions_of p)
  session_words =
      all_joined (λ (x : Named). is_word x.name ≡ true) (map named_member (enumerate_from 0 p.members))
      (map named_switch (enumerate_from 0 p.switches)) (member_words 0 p.members policy.limits.members)
      (switch_words 0 p.switches policy.limits.switches)
