-- Bytes that are read as an event are those that are written of it.
use Rattle.std.proofs.Common.{◌≡◌, ℕ, ◌≤◌, Bool, true, false, eqb, leb, ltb, List, [], ◌∷◌, ◌++◌, length, drop}
use Rattle.std.proofs.Common.{Option, Some, None, refl, sym, ap, ap₂, subst, ◌∙◌, arith, ◌⊎◌, inl, inr}
use Rattle.std.specs.Prelude.{option_and_then, option_map, ◌&&◌, if◌then◌else◌, slice_index}
use Rattle.std.specs.List.{list_all}
use Rattle.std.proofs.lemmas.Bool.{eqb-true, leb-true, ltb-true}
use Rattle.std.proofs.lemmas.List.{append_assoc, append-nil, drop_all, length-drop}
use Rattle.of10_actions.proofs.Digits.{IsBytes-rest}
use Rattle.byteorder.specs.Endian.{big_bytes}
use Rattle.of10_actions.specs.Reading.{u32_at, u64_at}
use Rattle.of10_actions.specs.Spelling.{IsBytes}
use Rattle.of10_msgs.proofs.Fields.{split}
use Rattle.of10_msgs.proofs.FoundParts.{number_lt}
use Rattle.cv_io.specs.declared.leaf.Session.{Session}
use Rattle.cv_io.specs.declared.leaf.Who.{Who}
use Rattle.cv_io.specs.declared.leaf.Who.TheVariants.{Member, Switch, Audit}
use Rattle.events.specs.Kept.{IsKept, IsKnown, IsSession}
use Rattle.events.specs.Reading.{fields_of, flag_of, frame_at, in_round, is_ascii, lone_session_at, policy_at}
use Rattle.events.specs.Reading.{reading, session_at, tick_at, up, up_at, when, who_at, who_of, with_frame}
use Rattle.events.specs.Spelling.{flag, session_bytes, spelling, who_bytes}
use Rattle.events.specs.declared.event.Event.{Event}
use Rattle.events.specs.declared.event.Event.TheVariants.{Up, Gone, Tick, Take, Policy}

-- tests that passed
chosen : {A : Type 0} (b : Bool) (x y z : A) → (if b then x else y) ≡ z
    → ((b ≡ true) × (x ≡ z)) ⊎ ((b ≡ false) × (y ≡ z))
chosen true x y z e = inl (refl, e)
chosen false x y z e = inr (refl, e)

passed : {A : Type 0} (b : Bool) (o : Option A) (x : A) → when b o ≡ Some x → (b ≡ true) × (o ≡ Some x)
passed true o x e = (refl, e)
passed false o x e = absurd cc

both : (a b : Bool) → (a && b) ≡ true → (a ≡ true) × (b ≡ true)
both true b e = (refl, e)
both false b e = absurd cc

some_is : {A : Type 0} (x y : A) → Some x ≡ Some y → x ≡ y
some_is x y e = cc

map_some : {A B : Type 0} (f : A → B) (o : Option A) (y : B) → option_map f o ≡ Some y
    → (x : A) × (o ≡ Some x) × (f x ≡ y)
map_some f (Some x) y e = (x, refl, some_is (f x) y e)
map_some f None y e = absurd cc

then_some : {A B : Type 0} (f : A → Option B) (o : Option A) (y : B) → option_and_then f o ≡ Some y
    → (x : A) × (o ≡ Some x) × (f x ≡ Some y)
then_some f (Some x) y e = (x, refl, e)
then_some f None y e = absurd cc

-- who is read stands at the front
record IsWho (x : List ℕ) (w : Who) : Type 0 where
  whole : x ≡ who_bytes w ++ drop 5 x
  known : IsKnown w

module _ (b n : ℕ) (w : Who) where
  abbrev behind_switch : Option Who
  behind_switch = if eqb b 2 then when (eqb n 0) (Some Audit) else None

  abbrev behind_member : Option Who
  behind_member = if eqb b 1 then when (ltb n 16) (Some (Switch n)) else behind_switch

  abbrev IsFront : Type 0
  IsFront = (b ∷ big_bytes 4 n ≡ who_bytes w) × IsKnown w

  abbrev Front : ℕ → Option Who → Option Who → Type 0
  Front k x y = ((eqb b k ≡ true) × (x ≡ Some w)) ⊎ ((eqb b k ≡ false) × (y ≡ Some w))

  is_front : (v : Who) → v ≡ w → (b ∷ big_bytes 4 n ≡ who_bytes v) × IsKnown v → IsFront
  is_front v is h = subst (λ (u : Who). (b ∷ big_bytes 4 n ≡ who_bytes u) × IsKnown u) is h

  is_audit : Front 2 (when (eqb n 0) (Some Audit)) None → IsFront
  is_audit (inl h) =
      let p = passed (eqb n 0) (Some Audit) w h.1 in
      is_front Audit (some_is Audit w p.1)
      (ap₂ (λ (k m : ℕ). k ∷ big_bytes 4 m) (eqb-true b 2 h.0) (eqb-true n 0 p.0), tt)
  is_audit (inr h) = absurd cc

  is_switch : Front 1 (when (ltb n 16) (Some (Switch n))) behind_switch → IsFront
  is_switch (inl h) =
      let p = passed (ltb n 16) (Some (Switch n)) w h.1 in
      is_front (Switch n) (some_is (Switch n) w p.1)
      (ap (λ (k : ℕ). k ∷ big_bytes 4 n) (eqb-true b 1 h.0), ltb-true n 16 p.0)
  is_switch (inr h) = is_audit (chosen (eqb b 2) (when (eqb n 0) (Some Audit)) None (Some w) h.1)

  is_member : Front 0 (when (ltb n 32) (Some (Member n))) behind_member → IsFront
  is_member (inl h) =
      let p = passed (ltb n 32) (Some (Member n)) w h.1 in
      is_front (Member n) (some_is (Member n) w p.1)
      (ap (λ (k : ℕ). k ∷ big_bytes 4 n) (eqb-true b 0 h.0), ltb-true n 32 p.0)
  is_member (inr h) =
      is_switch (chosen (eqb b 1) (when (ltb n 16) (Some (Switch n))) behind_switch (Some w) h.1)

  who_is : who_of b n ≡ Some w → IsFront
  who_is e = is_member (chosen (eqb b 0) (when (ltb n 32) (Some (Member n))) behind_member (Some w) e)

who_found : (x : List ℕ) (w : Who) → IsBytes x → 5 ≤ length x → who_at x ≡ Some w → IsWho x w
who_found [] w fits long e = absurd (omega (arith, long))
who_found (b ∷ rest) w fits long e =
    let n = u32_at 1 (b ∷ rest) in
    let is = who_is b n w e in
    let tail : rest ≡ big_bytes 4 n ++ drop 5 (b ∷ rest) = split 4 1 (b ∷ rest) fits long in record {
      whole = ap (λ (y : List ℕ). b ∷ y) tail ∙ ap (λ (y : List ℕ). y ++ drop 5 (b ∷ rest)) is.0;
      known = is.1;
    }

-- a session that is read stands at the front
pub record IsAtFront (x : List ℕ) (s : Session) : Type 0 where
  pub whole : x ≡ session_bytes s ++ drop 13 x
  pub kept : IsSession s

pub session_found : (x : List ℕ) (s : Session) → IsBytes x → 13 ≤ length x → session_at x ≡ Some s → IsAtFront x s
session_found x s fits long e =
    let m = map_some (in_round (u64_at 5 x)) (who_at x) s e in
    let w = m.0 in
    let round = u64_at 5 x in
    let found = who_found x w fits (omega (arith, long)) m.1 in
    let tail : drop 5 x ≡ big_bytes 8 round ++ drop 13 x = split 8 5 x fits long in
    let whole : x ≡ session_bytes (in_round round w) ++ drop 13 x =
    found.whole ∙ (ap (λ (y : List ℕ). who_bytes w ++ y) tail
    ∙ sym (append_assoc (who_bytes w) (big_bytes 8 round) (drop 13 x))) in
    subst (IsAtFront x) m.2
    (record { whole = whole; kept = record { who = found.known; round = number_lt 8 5 x fits } })

-- bytes of a length, and nothing behind
ended : (n : ℕ) (x front : List ℕ) → length x ≡ n → x ≡ front ++ drop n x → x ≡ front
ended n x front long whole =
    whole ∙ (ap (λ (y : List ℕ). front ++ y) (drop_all n x (omega (arith, long))) ∙ append-nil front)

-- the fields of an event that is read
record AreFields (kind : ℕ) (x : List ℕ) (e : Event) : Type 0 where
  whole : kind ∷ x ≡ spelling e
  kept : IsKept e

flag_is : (b : ℕ) (arp : Bool) → flag_of b ≡ Some arp → b ≡ flag arp
flag_is b arp e = first (chosen (eqb b 0) (Some false) (if eqb b 1 then Some true else None) (Some arp) e) where
  second : ((eqb b 1 ≡ true) × (Some true ≡ Some arp)) ⊎ ((eqb b 1 ≡ false) × (◌≡◌ {A = Option Bool} None (Some arp)))
      → b ≡ flag arp
  second (inl h) = eqb-true b 1 h.0 ∙ ap flag (some_is true arp h.1)
  second (inr h) = absurd cc

  first : ((eqb b 0 ≡ true) × (Some false ≡ Some arp))
      ⊎ ((eqb b 0 ≡ false) × ((if eqb b 1 then Some true else None) ≡ Some arp)) → b ≡ flag arp
  first (inl h) = eqb-true b 0 h.0 ∙ ap flag (some_is false arp h.1)
  first (inr h) = second (chosen (eqb b 1) (Some true) None (Some arp) h.1)

-- six bytes are five and the last
six : (x : List ℕ) → length x ≡ 6 → drop 5 x ≡ slice_index x 5 ∷ []
six (a ∷ b ∷ c ∷ d ∷ e ∷ f ∷ []) long = refl
six [] long = absurd (omega (arith, long))
six (a ∷ []) long = absurd (omega (arith, long))
six (a ∷ b ∷ []) long = absurd (omega (arith, long))
six (a ∷ b ∷ c ∷ []) long = absurd (omega (arith, long))
six (a ∷ b ∷ c ∷ d ∷ []) long = absurd (omega (arith, long))
six (a ∷ b ∷ c ∷ d ∷ e ∷ []) long = absurd (omega (arith, long))
six (a ∷ b ∷ c ∷ d ∷ e ∷ f ∷ g ∷ x) long = absurd (omega (arith, long))

up_found : (x : List ℕ) (e : Event) → IsBytes x → up_at x ≡ Some e → AreFields 1 x e
up_found x e fits is =
    let p = passed (eqb (length x) 6) (option_and_then (up (flag_of (slice_index x 5))) (who_at x)) e is in
    let long : length x ≡ 6 = eqb-true (length x) 6 p.0 in
    let t = then_some (up (flag_of (slice_index x 5))) (who_at x) e p.1 in
    let m = map_some (Up t.0) (flag_of (slice_index x 5)) e t.2 in
    let found = who_found x t.0 fits (omega (arith, long)) t.1 in
    let last : drop 5 x ≡ flag m.0 ∷ [] = six x long ∙ ap (λ (b : ℕ). b ∷ []) (flag_is (slice_index x 5) m.0 m.1) in
    let whole : x ≡ who_bytes t.0 ++ flag m.0 ∷ [] = found.whole ∙ ap (λ (y : List ℕ). who_bytes t.0 ++ y) last in
    subst (AreFields 1 x) m.2 (record { whole = ap (λ (y : List ℕ). 1 ∷ y) whole; kept = found.known })

frame_found : (x : List ℕ) (e : Event) → IsBytes x → frame_at x ≡ Some e → AreFields 2 x e
frame_found x e fits is =
    let p =
    passed (leb 13 (length x) && leb (length x) 65548) (option_map (with_frame (drop 13 x)) (session_at x)) e is in
    let tests = both (leb 13 (length x)) (leb (length x) 65548) p.0 in
    let low : 13 ≤ length x = leb-true 13 (length x) tests.0 in
    let high : length x ≤ 65548 = leb-true (length x) 65548 tests.1 in
    let m = map_some (with_frame (drop 13 x)) (session_at x) e p.1 in
    let found = session_found x m.0 fits low m.1 in
    let short : length (drop 13 x) ≤ 65535 = omega (arith, length-drop 13 x, low, high) in
    subst (AreFields 2 x) m.2 (record { whole = ap (λ (y : List ℕ). 2 ∷ y) found.whole; kept = (found.kept, short) })

lone_found : (x : List ℕ) (s : Session) → IsBytes x → lone_session_at x ≡ Some s → (x ≡ session_bytes s) × IsSession s
lone_found x s fits is =
    let p = passed (eqb (length x) 13) (session_at x) s is in
    let long : length x ≡ 13 = eqb-true (length x) 13 p.0 in
    let found = session_found x s fits (omega (arith, long)) p.1 in
    (ended 13 x (session_bytes s) long found.whole, found.kept)

gone_found : (x : List ℕ) (e : Event) → IsBytes x → option_map Gone (lone_session_at x) ≡ Some e → AreFields 3 x e
gone_found x e fits is =
    let m = map_some Gone (lone_session_at x) e is in
    let found = lone_found x m.0 fits m.1 in
    subst (AreFields 3 x) m.2 (record { whole = ap (λ (y : List ℕ). 3 ∷ y) found.0; kept = found.1 })

take_found : (x : List ℕ) (e : Event) → IsBytes x → option_map Take (lone_session_at x) ≡ Some e → AreFields 5 x e
take_found x e fits is =
    let m = map_some Take (lone_session_at x) e is in
    let found = lone_found x m.0 fits m.1 in
    subst (AreFields 5 x) m.2 (record { whole = ap (λ (y : List ℕ). 5 ∷ y) found.0; kept = found.1 })

tick_found : (x : List ℕ) (e : Event) → IsBytes x → tick_at x ≡ Some e → AreFields 4 x e
tick_found x e fits is =
    let p = passed (eqb (length x) 8) (Some (Tick (u64_at 0 x))) e is in
    let long : length x ≡ 8 = eqb-true (length x) 8 p.0 in
    let whole : x ≡ big_bytes 8 (u64_at 0 x) =
    ended 8 x (big_bytes 8 (u64_at 0 x)) long (split 8 0 x fits (omega (arith, long))) in
    subst (AreFields 4 x) (some_is (Tick (u64_at 0 x)) e p.1)
    (record { whole = ap (λ (y : List ℕ). 4 ∷ y) whole; kept = number_lt 8 0 x fits })

policy_found : (x : List ℕ) (e : Event) → IsBytes x → policy_at x ≡ Some e → AreFields 6 x e
policy_found x e fits is =
    let ascii = list_all is_ascii (drop 4 x) in
    let p = passed (leb 4 (length x) && (leb (length x) 1028 && ascii)) (Some (Policy (u32_at 0 x) (drop 4 x))) e is in
    let tests = both (leb 4 (length x)) (leb (length x) 1028 && ascii) p.0 in
    let more = both (leb (length x) 1028) ascii tests.1 in
    let low : 4 ≤ length x = leb-true 4 (length x) tests.0 in
    let high : length x ≤ 1028 = leb-true (length x) 1028 more.0 in
    let short : length (drop 4 x) ≤ 1024 = omega (arith, length-drop 4 x, low, high) in
    let whole : x ≡ big_bytes 4 (u32_at 0 x) ++ drop 4 x = split 4 0 x fits low in
    subst (AreFields 6 x) (some_is (Policy (u32_at 0 x) (drop 4 x)) e p.1)
    (record { whole = ap (λ (y : List ℕ). 6 ∷ y) whole; kept = (number_lt 4 0 x fits, (short, more.1)) })

-- fields of a kind are those of a number
of_kind : (kind n : ℕ) (x : List ℕ) (e : Event) → eqb kind n ≡ true → AreFields n x e
    → (kind ∷ x ≡ spelling e) × IsKept e
of_kind kind n x e same f = (ap (λ (k : ℕ). k ∷ x) (eqb-true kind n same) ∙ f.whole, f.kept)

fields_found : (kind : ℕ) (x : List ℕ) (e : Event) → IsBytes x → fields_of kind x ≡ Some e
    → (kind ∷ x ≡ spelling e) × IsKept e
fields_found kind x e fits is = go1 (chosen (eqb kind 1) (up_at x) f2 (Some e) is) where
  f6 : Option Event
  f6 = if eqb kind 6 then policy_at x else None

  f5 : Option Event
  f5 = if eqb kind 5 then option_map Take (lone_session_at x) else f6

  f4 : Option Event
  f4 = if eqb kind 4 then tick_at x else f5

  f3 : Option Event
  f3 = if eqb kind 3 then option_map Gone (lone_session_at x) else f4

  f2 : Option Event
  f2 = if eqb kind 2 then frame_at x else f3

  Goal : Type 0
  Goal = (kind ∷ x ≡ spelling e) × IsKept e

  Split : ℕ → Option Event → Option Event → Type 0
  Split n a b = ((eqb kind n ≡ true) × (a ≡ Some e)) ⊎ ((eqb kind n ≡ false) × (b ≡ Some e))

  go6 : Split 6 (policy_at x) None → Goal
  go6 (inl h) = of_kind kind 6 x e h.0 (policy_found x e fits h.1)
  go6 (inr h) = absurd cc

  go5 : Split 5 (option_map Take (lone_session_at x)) f6 → Goal
  go5 (inl h) = of_kind kind 5 x e h.0 (take_found x e fits h.1)
  go5 (inr h) = go6 (chosen (eqb kind 6) (policy_at x) None (Some e) h.1)

  go4 : Split 4 (tick_at x) f5 → Goal
  go4 (inl h) = of_kind kind 4 x e h.0 (tick_found x e fits h.1)
  go4 (inr h) = go5 (chosen (eqb kind 5) (option_map Take (lone_session_at x)) f6 (Some e) h.1)

  go3 : Split 3 (option_map Gone (lone_session_at x)) f4 → Goal
  go3 (inl h) = of_kind kind 3 x e h.0 (gone_found x e fits h.1)
  go3 (inr h) = go4 (chosen (eqb kind 4) (tick_at x) f5 (Some e) h.1)

  go2 : Split 2 (frame_at x) f3 → Goal
  go2 (inl h) = of_kind kind 2 x e h.0 (frame_found x e fits h.1)
  go2 (inr h) = go3 (chosen (eqb kind 3) (option_map Gone (lone_session_at x)) f4 (Some e) h.1)

  go1 : Split 1 (up_at x) f2 → Goal
  go1 (inl h) = of_kind kind 1 x e h.0 (up_found x e fits h.1)
  go1 (inr h) = go2 (chosen (eqb kind 2) (frame_at x) f3 (Some e) h.1)

pub nothing_else : (bytes : List ℕ) (e : Event) → IsBytes bytes → reading bytes ≡ Some e
    → (bytes ≡ spelling e) × IsKept e
nothing_else [] e fits is = absurd cc
nothing_else (kind ∷ x) e fits is = fields_found kind x e (IsBytes-rest kind x fits) is
