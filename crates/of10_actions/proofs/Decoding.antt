-- What an action that was read says of its bytes.
use Rattle.std.proofs.Common.{◌≡◌, ℕ, zero, suc, ◌+◌, ◌-◌, ◌%◌, ◌^◌, ◌<◌, ◌≤◌, Bool, true, false, cond, eqb, ltb, List}
use Rattle.std.proofs.Common.{[], ◌∷◌, ◌++◌, length, take, drop, Option, Some, None, Result, Ok, Err, refl, sym, ap}
use Rattle.std.proofs.Common.{subst, ◌∙◌, arith, eqb-true}
use Rattle.std.specs.Prelude.{◌&&◌, nat_le, nat_lt, slice_index}
use Rattle.std.proofs.lemmas.Bool.{ltb-false, leb-true}
use Rattle.byteorder.specs.Endian.{big_number, big_bytes}
use Rattle.byteorder.specs.Numbers.{big_from-lt, big_from-take}
use Rattle.std.proofs.lemmas.List.{length-take, length-drop}
use Rattle.of10_actions.specs.declared.action.Action.{Action}
use Rattle.of10_actions.specs.declared.action.Action.TheVariants as actions
use Rattle.of10_actions.specs.declared.fault.ActionFault.{ActionFault}
use Rattle.of10_actions.specs.declared.fault.ActionFault.TheVariants.{BadLen, BadVendor}
use Rattle.of10_actions.specs.declared.kind.Kind.{Kind}
use Rattle.of10_actions.specs.declared.kind.Kind.TheVariants.{Output, SetVlanVid, SetVlanPcp, StripVlan, SetDlSrc}
use Rattle.of10_actions.specs.declared.kind.Kind.TheVariants.{SetDlDst, SetNwSrc, SetNwDst, SetNwTos, SetTpSrc}
use Rattle.of10_actions.specs.declared.kind.Kind.TheVariants.{SetTpDst, Enqueue}
use Rattle.of10_actions.specs.declared.kind.TheConstants.{VENDOR}
use Rattle.of10_actions.specs.Actions.{IsInRange, FitsTypes}
use Rattle.of10_actions.specs.Kinds.{kind_of, length_of, number_of, type_of}
use Rattle.of10_actions.specs.Reading.{u16_at, u32_at, u48_at, unless, action_of, or_bad_argument, is_long, of_kind}
use Rattle.of10_actions.specs.Reading.{action_at}
use Rattle.of10_actions.specs.Spelling.{IsBytes, Spells, with_free, start, arguments}
use Rattle.of10_actions.proofs.Digits.{IsBytes-take, IsBytes-drop, bytes_back}

-- ---- tests that passed

guard_ok : (b : Bool) (x : Result Action ActionFault) (f : ActionFault) (a : Action) → cond b x (Err f) ≡ Ok a
    → (b ≡ true) × (x ≡ Ok a)
guard_ok true x f a e = (refl, e)
guard_ok false x f a e = absurd cc

guard_not : (b : Bool) (x : Result Action ActionFault) (f : ActionFault) (a : Action) → cond b (Err f) x ≡ Ok a
    → (b ≡ false) × (x ≡ Ok a)
guard_not true x f a e = absurd cc
guard_not false x f a e = (refl, e)

unless_some : (b : Bool) (x a : Action) → unless b x ≡ Some a → (b ≡ false) × (x ≡ a)
unless_some true x a e = absurd cc
unless_some false x a e = (refl, cc)

option_is : {A : Type 0} (x y : A) → Some x ≡ Some y → x ≡ y
option_is x y e = cc

and_both : (a b : Bool) → (a && b) ≡ true → (a ≡ true) × (b ≡ true)
and_both true b e = (refl, e)
and_both false b e = absurd cc

argued_ok : (at : ℕ) (o : Option Action) (a : Action) → or_bad_argument at o ≡ Ok a → o ≡ Some a
argued_ok at None a e = absurd cc
argued_ok at (Some x) a e = cc

-- what a read action says of its type and length, of kind k
pub record IsRead (k : Kind) (bytes : List ℕ) (a : Action) : Type 0 where
  pub kind : kind_of (u16_at 0 bytes) ≡ Some k
  pub length_is : u16_at 2 bytes ≡ length_of k
  pub long : length_of k ≤ length bytes
  pub action : action_of k bytes ≡ Some a

typed_ok : (at : ℕ) (o : Option Kind) (bytes : List ℕ) (a : Action) → kind_of (u16_at 0 bytes) ≡ o
    → of_kind at o bytes ≡ Ok a → (k : Kind) × IsRead k bytes a
typed_ok at None bytes a is e = absurd cc
typed_ok at (Some k) bytes a is e =
    let g = guard_ok (is_long k bytes) (or_bad_argument at (action_of k bytes)) (BadLen at) a e in
    let both = and_both (eqb (u16_at 2 bytes) (length_of k)) (nat_le (length_of k) (length bytes)) g.0 in (
      k,
      record {
        kind = is;
        length_is = eqb-true _ _ both.0;
        long = leb-true _ _ both.1;
        action = argued_ok at (action_of k bytes) a g.1;
      },
    )

pub is_read : (at : ℕ) (bytes : List ℕ) (a : Action) → action_at at bytes ≡ Ok a → (k : Kind) × IsRead k bytes a
unfolding action_at
is_read at bytes a e =
    let g = guard_not (ltb (length bytes) 4)
    (cond (eqb (u16_at 0 bytes) VENDOR) (Err (BadVendor at)) (of_kind at (kind_of (u16_at 0 bytes)) bytes))
    (BadLen at) a e in
    let h = guard_not (eqb (u16_at 0 bytes) VENDOR) (of_kind at (kind_of (u16_at 0 bytes)) bytes) (BadVendor at) a
    g.1 in
    typed_ok at (kind_of (u16_at 0 bytes)) bytes a refl h.1

-- the type of the action of a type
pub type_is : (k : Kind) (bytes : List ℕ) (a : Action) → action_of k bytes ≡ Some a → type_of a ≡ k
type_is SetVlanVid bytes a e =
    sym (ap type_of (unless_some (nat_lt 4095 (u16_at 4 bytes)) (actions.SetVlanVid (u16_at 4 bytes)) a e).1)
type_is SetVlanPcp bytes a e =
    sym (ap type_of (unless_some (nat_lt 7 (slice_index bytes 4)) (actions.SetVlanPcp (slice_index bytes 4)) a e).1)
type_is Output bytes a e = sym (ap type_of (option_is (actions.Output (u16_at 4 bytes) (u16_at 6 bytes)) a e))
type_is StripVlan bytes a e = sym (ap type_of (option_is actions.StripVlan a e))
type_is SetDlSrc bytes a e = sym (ap type_of (option_is (actions.SetDlSrc (u48_at 4 bytes)) a e))
type_is SetDlDst bytes a e = sym (ap type_of (option_is (actions.SetDlDst (u48_at 4 bytes)) a e))
type_is SetNwSrc bytes a e = sym (ap type_of (option_is (actions.SetNwSrc (u32_at 4 bytes)) a e))
type_is SetNwDst bytes a e = sym (ap type_of (option_is (actions.SetNwDst (u32_at 4 bytes)) a e))
type_is SetNwTos bytes a e =
    sym (ap type_of (option_is (actions.SetNwTos (slice_index bytes 4 - slice_index bytes 4 % 4)) a e))
type_is SetTpSrc bytes a e = sym (ap type_of (option_is (actions.SetTpSrc (u16_at 4 bytes)) a e))
type_is SetTpDst bytes a e = sym (ap type_of (option_is (actions.SetTpDst (u16_at 4 bytes)) a e))
type_is Enqueue bytes a e = sym (ap type_of (option_is (actions.Enqueue (u16_at 4 bytes) (u32_at 12 bytes)) a e))

-- the number of a type
pub number_is : (n : ℕ) (k : Kind) → kind_of n ≡ Some k → n ≡ number_of k
number_is zero k e = ap number_of (option_is Output k e)
number_is (suc zero) k e = ap number_of (option_is SetVlanVid k e)
number_is (suc (suc zero)) k e = ap number_of (option_is SetVlanPcp k e)
number_is (suc (suc (suc zero))) k e = ap number_of (option_is StripVlan k e)
number_is (suc (suc (suc (suc zero)))) k e = ap number_of (option_is SetDlSrc k e)
number_is (suc (suc (suc (suc (suc zero))))) k e = ap number_of (option_is SetDlDst k e)
number_is (suc (suc (suc (suc (suc (suc zero)))))) k e = ap number_of (option_is SetNwSrc k e)
number_is (suc (suc (suc (suc (suc (suc (suc zero))))))) k e = ap number_of (option_is SetNwDst k e)
number_is (suc (suc (suc (suc (suc (suc (suc (suc zero)))))))) k e = ap number_of (option_is SetNwTos k e)
number_is (suc (suc (suc (suc (suc (suc (suc (suc (suc zero))))))))) k e = ap number_of (option_is SetTpSrc k e)
number_is (suc (suc (suc (suc (suc (suc (suc (suc (suc (suc zero)))))))))) k e = ap number_of (option_is SetTpDst k e)
number_is (suc (suc (suc (suc (suc (suc (suc (suc (suc (suc (suc zero))))))))))) k e =
    ap number_of (option_is Enqueue k e)
number_is (suc (suc (suc (suc (suc (suc (suc (suc (suc (suc (suc (suc n)))))))))))) k e = absurd cc

-- ---- fields and their bytes

join : {A : Type 0} (xs us ys vs : List A) → xs ≡ us → ys ≡ vs → xs ++ ys ≡ us ++ vs
join xs us ys vs p q = rw (p, q) refl

-- the bytes of the number at a place
field : (n at : ℕ) (bytes : List ℕ) → at + n ≤ length bytes → IsBytes bytes
    → big_bytes n (big_number n (drop at bytes)) ≡ take n (drop at bytes)
field n at bytes long fits =
    let part = take n (drop at bytes) in
    ap (big_bytes n) (sym (big_from-take 0 n n (drop at bytes) (omega arith)))
    ∙ bytes_back n part (omega (arith, length-take n (drop at bytes), length-drop at bytes))
    (IsBytes-take n (drop at bytes) (IsBytes-drop at bytes fits))

number_lt : (n at : ℕ) (bytes : List ℕ) → IsBytes bytes → big_number n (drop at bytes) < 256 ^ n
number_lt n at bytes fits = big_from-lt 0 n (drop at bytes) (IsBytes-drop at bytes fits)

-- type and length
starts : (k : Kind) (bytes : List ℕ) (a : Action) → IsRead k bytes a → 4 ≤ length bytes → IsBytes bytes
    → start k ≡ take 2 bytes ++ take 2 (drop 2 bytes)
starts k bytes a read long fits =
    join (big_bytes 2 (number_of k)) (take 2 bytes) (big_bytes 2 (length_of k)) (take 2 (drop 2 bytes))
    (ap (big_bytes 2) (sym (number_is (u16_at 0 bytes) k read.kind)) ∙ field 2 0 bytes (omega arith) fits)
    (ap (big_bytes 2) (sym read.length_is) ∙ field 2 2 bytes (omega arith) fits)

-- what is known of an action that was read: its bytes, and its numbers
pub record IsFound (a : Action) (bytes : List ℕ) : Type 0 where
  pub spells : Spells a bytes
  pub in_range : IsInRange a
  pub fits : FitsTypes a

found-Output : (b0 b1 b2 b3 b4 b5 b6 b7 : ℕ) (rest : List ℕ) (a : Action)
    → let bytes = b0 ∷ b1 ∷ b2 ∷ b3 ∷ b4 ∷ b5 ∷ b6 ∷ b7 ∷ rest in IsRead Output bytes a → IsBytes bytes
    → IsFound a (b0 ∷ b1 ∷ b2 ∷ b3 ∷ b4 ∷ b5 ∷ b6 ∷ b7 ∷ [])
found-Output b0 b1 b2 b3 b4 b5 b6 b7 rest a read fits =
    let bytes : List ℕ = b0 ∷ b1 ∷ b2 ∷ b3 ∷ b4 ∷ b5 ∷ b6 ∷ b7 ∷ rest in
    let made : Action = actions.Output (u16_at 4 bytes) (u16_at 6 bytes) in
    let is : made ≡ a = option_is made a read.action in
    let first = starts Output bytes a read (omega arith) fits in
    let after : arguments made (0) ([]) ≡ b4 ∷ b5 ∷ b6 ∷ b7 ∷ [] =
    join (big_bytes 2 (big_number 2 (drop 4 bytes))) (b4 ∷ b5 ∷ [])
    (big_bytes 2 (big_number 2 (drop 6 bytes)) ++ []) (b6 ∷ b7 ∷ []) (field 2 4 bytes (omega arith) fits)
    (field 2 6 bytes (omega arith) fits) in
    let spelled : with_free made (0) ([]) ≡ b0 ∷ b1 ∷ b2 ∷ b3 ∷ b4 ∷ b5 ∷ b6 ∷ b7 ∷ [] =
    join (start Output) (b0 ∷ b1 ∷ b2 ∷ b3 ∷ []) (arguments made (0) ([])) (b4 ∷ b5 ∷ b6 ∷ b7 ∷ []) first after in
    subst (λ (x : Action). IsFound x (b0 ∷ b1 ∷ b2 ∷ b3 ∷ b4 ∷ b5 ∷ b6 ∷ b7 ∷ [])) is (record {
      spells = record { low = 0; pad = []; low_fits = omega arith; pad_fits = refl; whole = sym spelled };
      in_range = tt;
      fits = (number_lt 2 4 bytes fits, number_lt 2 6 bytes fits);
    })

found-SetVlanVid : (b0 b1 b2 b3 b4 b5 b6 b7 : ℕ) (rest : List ℕ) (a : Action)
    → let bytes = b0 ∷ b1 ∷ b2 ∷ b3 ∷ b4 ∷ b5 ∷ b6 ∷ b7 ∷ rest in IsRead SetVlanVid bytes a → IsBytes bytes
    → IsFound a (b0 ∷ b1 ∷ b2 ∷ b3 ∷ b4 ∷ b5 ∷ b6 ∷ b7 ∷ [])
found-SetVlanVid b0 b1 b2 b3 b4 b5 b6 b7 rest a read fits =
    let bytes : List ℕ = b0 ∷ b1 ∷ b2 ∷ b3 ∷ b4 ∷ b5 ∷ b6 ∷ b7 ∷ rest in
    let made : Action = actions.SetVlanVid (u16_at 4 bytes) in
    let test = unless_some (nat_lt 4095 (u16_at 4 bytes)) made a read.action in
    let is : made ≡ a = test.1 in
    let first = starts SetVlanVid bytes a read (omega arith) fits in
    let after : arguments made (0) (b6 ∷ b7 ∷ []) ≡ b4 ∷ b5 ∷ b6 ∷ b7 ∷ [] =
    join (big_bytes 2 (big_number 2 (drop 4 bytes))) (b4 ∷ b5 ∷ []) (b6 ∷ b7 ∷ []) (b6 ∷ b7 ∷ [])
    (field 2 4 bytes (omega arith) fits) refl in
    let spelled : with_free made (0) (b6 ∷ b7 ∷ []) ≡ b0 ∷ b1 ∷ b2 ∷ b3 ∷ b4 ∷ b5 ∷ b6 ∷ b7 ∷ [] =
    join (start SetVlanVid) (b0 ∷ b1 ∷ b2 ∷ b3 ∷ []) (arguments made (0) (b6 ∷ b7 ∷ [])) (b4 ∷ b5 ∷ b6 ∷ b7 ∷ [])
    first after in
    subst (λ (x : Action). IsFound x (b0 ∷ b1 ∷ b2 ∷ b3 ∷ b4 ∷ b5 ∷ b6 ∷ b7 ∷ [])) is (record {
      spells = record { low = 0; pad = b6 ∷ b7 ∷ []; low_fits = omega arith; pad_fits = refl; whole = sym spelled };
      in_range = omega (arith, ltb-false _ _ test.0);
      fits = number_lt 2 4 bytes fits;
    })

found-SetVlanPcp : (b0 b1 b2 b3 b4 b5 b6 b7 : ℕ) (rest : List ℕ) (a : Action)
    → let bytes = b0 ∷ b1 ∷ b2 ∷ b3 ∷ b4 ∷ b5 ∷ b6 ∷ b7 ∷ rest in IsRead SetVlanPcp bytes a → IsBytes bytes
    → IsFound a (b0 ∷ b1 ∷ b2 ∷ b3 ∷ b4 ∷ b5 ∷ b6 ∷ b7 ∷ [])
found-SetVlanPcp b0 b1 b2 b3 b4 b5 b6 b7 rest a read fits =
    let bytes : List ℕ = b0 ∷ b1 ∷ b2 ∷ b3 ∷ b4 ∷ b5 ∷ b6 ∷ b7 ∷ rest in
    let made : Action = actions.SetVlanPcp b4 in
    let test = unless_some (nat_lt 7 b4) made a read.action in
    let is : made ≡ a = test.1 in
    let first = starts SetVlanPcp bytes a read (omega arith) fits in
    let after : arguments made (0) (b5 ∷ b6 ∷ b7 ∷ []) ≡ b4 ∷ b5 ∷ b6 ∷ b7 ∷ [] = refl in
    let spelled : with_free made (0) (b5 ∷ b6 ∷ b7 ∷ []) ≡ b0 ∷ b1 ∷ b2 ∷ b3 ∷ b4 ∷ b5 ∷ b6 ∷ b7 ∷ [] =
    join (start SetVlanPcp) (b0 ∷ b1 ∷ b2 ∷ b3 ∷ []) (arguments made (0) (b5 ∷ b6 ∷ b7 ∷ []))
    (b4 ∷ b5 ∷ b6 ∷ b7 ∷ []) first after in
    subst (λ (x : Action). IsFound x (b0 ∷ b1 ∷ b2 ∷ b3 ∷ b4 ∷ b5 ∷ b6 ∷ b7 ∷ [])) is (record {
      spells = record {
        low = 0;
        pad = b5 ∷ b6 ∷ b7 ∷ [];
        low_fits = omega arith;
        pad_fits = refl;
        whole = sym spelled;
      };
      in_range = omega (arith, ltb-false _ _ test.0);
      fits = fits 4;
    })

found-StripVlan : (b0 b1 b2 b3 b4 b5 b6 b7 : ℕ) (rest : List ℕ) (a : Action)
    → let bytes = b0 ∷ b1 ∷ b2 ∷ b3 ∷ b4 ∷ b5 ∷ b6 ∷ b7 ∷ rest in IsRead StripVlan bytes a → IsBytes bytes
    → IsFound a (b0 ∷ b1 ∷ b2 ∷ b3 ∷ b4 ∷ b5 ∷ b6 ∷ b7 ∷ [])
found-StripVlan b0 b1 b2 b3 b4 b5 b6 b7 rest a read fits =
    let bytes : List ℕ = b0 ∷ b1 ∷ b2 ∷ b3 ∷ b4 ∷ b5 ∷ b6 ∷ b7 ∷ rest in
    let made : Action = actions.StripVlan in
    let is : made ≡ a = option_is made a read.action in
    let first = starts StripVlan bytes a read (omega arith) fits in
    let after : arguments made (0) (b4 ∷ b5 ∷ b6 ∷ b7 ∷ []) ≡ b4 ∷ b5 ∷ b6 ∷ b7 ∷ [] = refl in
    let spelled : with_free made (0) (b4 ∷ b5 ∷ b6 ∷ b7 ∷ []) ≡ b0 ∷ b1 ∷ b2 ∷ b3 ∷ b4 ∷ b5 ∷ b6 ∷ b7 ∷ [] =
    join (start StripVlan) (b0 ∷ b1 ∷ b2 ∷ b3 ∷ []) (arguments made (0) (b4 ∷ b5 ∷ b6 ∷ b7 ∷ []))
    (b4 ∷ b5 ∷ b6 ∷ b7 ∷ []) first after in
    subst (λ (x : Action). IsFound x (b0 ∷ b1 ∷ b2 ∷ b3 ∷ b4 ∷ b5 ∷ b6 ∷ b7 ∷ [])) is (record {
      spells = record {
        low = 0;
        pad = b4 ∷ b5 ∷ b6 ∷ b7 ∷ [];
        low_fits = omega arith;
        pad_fits = refl;
        whole = sym spelled;
      };
      in_range = tt;
      fits = tt;
    })

found-SetDlSrc : (b0 b1 b2 b3 b4 b5 b6 b7 b8 b9 b10 b11 b12 b13 b14 b15 : ℕ) (rest : List ℕ) (a : Action)
    → let bytes = b0 ∷ b1 ∷ b2 ∷ b3 ∷ b4 ∷ b5 ∷ b6 ∷ b7 ∷ b8 ∷ b9 ∷ b10 ∷ b11 ∷ b12 ∷ b13 ∷ b14 ∷ b15 ∷ rest in
    IsRead SetDlSrc bytes a → IsBytes bytes
    → IsFound a (b0 ∷ b1 ∷ b2 ∷ b3 ∷ b4 ∷ b5 ∷ b6 ∷ b7 ∷ b8 ∷ b9 ∷ b10 ∷ b11 ∷ b12 ∷ b13 ∷ b14 ∷ b15 ∷ [])
found-SetDlSrc b0 b1 b2 b3 b4 b5 b6 b7 b8 b9 b10 b11 b12 b13 b14 b15 rest a read fits =
    let bytes : List ℕ = b0 ∷ b1 ∷ b2 ∷ b3 ∷ b4 ∷ b5 ∷ b6 ∷ b7 ∷ b8 ∷ b9 ∷ b10 ∷ b11 ∷ b12 ∷ b13 ∷ b14 ∷ b15 ∷ rest in
    let made : Action = actions.SetDlSrc (u48_at 4 bytes) in
    let is : made ≡ a = option_is made a read.action in
    let first = starts SetDlSrc bytes a read (omega arith) fits in
    let after : arguments made (0) (b10 ∷ b11 ∷ b12 ∷ b13 ∷ b14 ∷ b15 ∷ [])
    ≡ b4 ∷ b5 ∷ b6 ∷ b7 ∷ b8 ∷ b9 ∷ b10 ∷ b11 ∷ b12 ∷ b13 ∷ b14 ∷ b15 ∷ [] =
    join (big_bytes 6 (big_number 6 (drop 4 bytes))) (b4 ∷ b5 ∷ b6 ∷ b7 ∷ b8 ∷ b9 ∷ [])
    (b10 ∷ b11 ∷ b12 ∷ b13 ∷ b14 ∷ b15 ∷ []) (b10 ∷ b11 ∷ b12 ∷ b13 ∷ b14 ∷ b15 ∷ [])
    (field 6 4 bytes (omega arith) fits) refl in
    let spelled : with_free made (0) (b10 ∷ b11 ∷ b12 ∷ b13 ∷ b14 ∷ b15 ∷ [])
    ≡ b0 ∷ b1 ∷ b2 ∷ b3 ∷ b4 ∷ b5 ∷ b6 ∷ b7 ∷ b8 ∷ b9 ∷ b10 ∷ b11 ∷ b12 ∷ b13 ∷ b14 ∷ b15 ∷ [] =
    join (start SetDlSrc) (b0 ∷ b1 ∷ b2 ∷ b3 ∷ []) (arguments made (0) (b10 ∷ b11 ∷ b12 ∷ b13 ∷ b14 ∷ b15 ∷ []))
    (b4 ∷ b5 ∷ b6 ∷ b7 ∷ b8 ∷ b9 ∷ b10 ∷ b11 ∷ b12 ∷ b13 ∷ b14 ∷ b15 ∷ []) first after in
    subst
    (λ (x : Action). IsFound x
    (b0 ∷ b1 ∷ b2 ∷ b3 ∷ b4 ∷ b5 ∷ b6 ∷ b7 ∷ b8 ∷ b9 ∷ b10 ∷ b11 ∷ b12 ∷ b13 ∷ b14 ∷ b15 ∷ [])) is (record {
      spells = record {
        low = 0;
        pad = b10 ∷ b11 ∷ b12 ∷ b13 ∷ b14 ∷ b15 ∷ [];
        low_fits = omega arith;
        pad_fits = refl;
        whole = sym spelled;
      };
      in_range = number_lt 6 4 bytes fits;
      fits = omega (arith, number_lt 6 4 bytes fits);
    })

found-SetDlDst : (b0 b1 b2 b3 b4 b5 b6 b7 b8 b9 b10 b11 b12 b13 b14 b15 : ℕ) (rest : List ℕ) (a : Action)
    → let bytes = b0 ∷ b1 ∷ b2 ∷ b3 ∷ b4 ∷ b5 ∷ b6 ∷ b7 ∷ b8 ∷ b9 ∷ b10 ∷ b11 ∷ b12 ∷ b13 ∷ b14 ∷ b15 ∷ rest in
    IsRead SetDlDst bytes a → IsBytes bytes
    → IsFound a (b0 ∷ b1 ∷ b2 ∷ b3 ∷ b4 ∷ b5 ∷ b6 ∷ b7 ∷ b8 ∷ b9 ∷ b10 ∷ b11 ∷ b12 ∷ b13 ∷ b14 ∷ b15 ∷ [])
found-SetDlDst b0 b1 b2 b3 b4 b5 b6 b7 b8 b9 b10 b11 b12 b13 b14 b15 rest a read fits =
    let bytes : List ℕ = b0 ∷ b1 ∷ b2 ∷ b3 ∷ b4 ∷ b5 ∷ b6 ∷ b7 ∷ b8 ∷ b9 ∷ b10 ∷ b11 ∷ b12 ∷ b13 ∷ b14 ∷ b15 ∷ rest in
    let made : Action = actions.SetDlDst (u48_at 4 bytes) in
    let is : made ≡ a = option_is made a read.action in
    let first = starts SetDlDst bytes a read (omega arith) fits in
    let after : arguments made (0) (b10 ∷ b11 ∷ b12 ∷ b13 ∷ b14 ∷ b15 ∷ [])
    ≡ b4 ∷ b5 ∷ b6 ∷ b7 ∷ b8 ∷ b9 ∷ b10 ∷ b11 ∷ b12 ∷ b13 ∷ b14 ∷ b15 ∷ [] =
    join (big_bytes 6 (big_number 6 (drop 4 bytes))) (b4 ∷ b5 ∷ b6 ∷ b7 ∷ b8 ∷ b9 ∷ [])
    (b10 ∷ b11 ∷ b12 ∷ b13 ∷ b14 ∷ b15 ∷ []) (b10 ∷ b11 ∷ b12 ∷ b13 ∷ b14 ∷ b15 ∷ [])
    (field 6 4 bytes (omega arith) fits) refl in
    let spelled : with_free made (0) (b10 ∷ b11 ∷ b12 ∷ b13 ∷ b14 ∷ b15 ∷ [])
    ≡ b0 ∷ b1 ∷ b2 ∷ b3 ∷ b4 ∷ b5 ∷ b6 ∷ b7 ∷ b8 ∷ b9 ∷ b10 ∷ b11 ∷ b12 ∷ b13 ∷ b14 ∷ b15 ∷ [] =
    join (start SetDlDst) (b0 ∷ b1 ∷ b2 ∷ b3 ∷ []) (arguments made (0) (b10 ∷ b11 ∷ b12 ∷ b13 ∷ b14 ∷ b15 ∷ []))
    (b4 ∷ b5 ∷ b6 ∷ b7 ∷ b8 ∷ b9 ∷ b10 ∷ b11 ∷ b12 ∷ b13 ∷ b14 ∷ b15 ∷ []) first after in
    subst
    (λ (x : Action). IsFound x
    (b0 ∷ b1 ∷ b2 ∷ b3 ∷ b4 ∷ b5 ∷ b6 ∷ b7 ∷ b8 ∷ b9 ∷ b10 ∷ b11 ∷ b12 ∷ b13 ∷ b14 ∷ b15 ∷ [])) is (record {
      spells = record {
        low = 0;
        pad = b10 ∷ b11 ∷ b12 ∷ b13 ∷ b14 ∷ b15 ∷ [];
        low_fits = omega arith;
        pad_fits = refl;
        whole = sym spelled;
      };
      in_range = number_lt 6 4 bytes fits;
      fits = omega (arith, number_lt 6 4 bytes fits);
    })

found-SetNwSrc : (b0 b1 b2 b3 b4 b5 b6 b7 : ℕ) (rest : List ℕ) (a : Action)
    → let bytes = b0 ∷ b1 ∷ b2 ∷ b3 ∷ b4 ∷ b5 ∷ b6 ∷ b7 ∷ rest in IsRead SetNwSrc bytes a → IsBytes bytes
    → IsFound a (b0 ∷ b1 ∷ b2 ∷ b3 ∷ b4 ∷ b5 ∷ b6 ∷ b7 ∷ [])
found-SetNwSrc b0 b1 b2 b3 b4 b5 b6 b7 rest a read fits =
    let bytes : List ℕ = b0 ∷ b1 ∷ b2 ∷ b3 ∷ b4 ∷ b5 ∷ b6 ∷ b7 ∷ rest in
    let made : Action = actions.SetNwSrc (u32_at 4 bytes) in
    let is : made ≡ a = option_is made a read.action in
    let first = starts SetNwSrc bytes a read (omega arith) fits in
    let after : arguments made (0) ([]) ≡ b4 ∷ b5 ∷ b6 ∷ b7 ∷ [] =
    join (big_bytes 4 (big_number 4 (drop 4 bytes))) (b4 ∷ b5 ∷ b6 ∷ b7 ∷ []) [] []
    (field 4 4 bytes (omega arith) fits) refl in
    let spelled : with_free made (0) ([]) ≡ b0 ∷ b1 ∷ b2 ∷ b3 ∷ b4 ∷ b5 ∷ b6 ∷ b7 ∷ [] =
    join (start SetNwSrc) (b0 ∷ b1 ∷ b2 ∷ b3 ∷ []) (arguments made (0) ([])) (b4 ∷ b5 ∷ b6 ∷ b7 ∷ []) first after in
    subst (λ (x : Action). IsFound x (b0 ∷ b1 ∷ b2 ∷ b3 ∷ b4 ∷ b5 ∷ b6 ∷ b7 ∷ [])) is (record {
      spells = record { low = 0; pad = []; low_fits = omega arith; pad_fits = refl; whole = sym spelled };
      in_range = tt;
      fits = number_lt 4 4 bytes fits;
    })

found-SetNwDst : (b0 b1 b2 b3 b4 b5 b6 b7 : ℕ) (rest : List ℕ) (a : Action)
    → let bytes = b0 ∷ b1 ∷ b2 ∷ b3 ∷ b4 ∷ b5 ∷ b6 ∷ b7 ∷ rest in IsRead SetNwDst bytes a → IsBytes bytes
    → IsFound a (b0 ∷ b1 ∷ b2 ∷ b3 ∷ b4 ∷ b5 ∷ b6 ∷ b7 ∷ [])
found-SetNwDst b0 b1 b2 b3 b4 b5 b6 b7 rest a read fits =
    let bytes : List ℕ = b0 ∷ b1 ∷ b2 ∷ b3 ∷ b4 ∷ b5 ∷ b6 ∷ b7 ∷ rest in
    let made : Action = actions.SetNwDst (u32_at 4 bytes) in
    let is : made ≡ a = option_is made a read.action in
    let first = starts SetNwDst bytes a read (omega arith) fits in
    let after : arguments made (0) ([]) ≡ b4 ∷ b5 ∷ b6 ∷ b7 ∷ [] =
    join (big_bytes 4 (big_number 4 (drop 4 bytes))) (b4 ∷ b5 ∷ b6 ∷ b7 ∷ []) [] []
    (field 4 4 bytes (omega arith) fits) refl in
    let spelled : with_free made (0) ([]) ≡ b0 ∷ b1 ∷ b2 ∷ b3 ∷ b4 ∷ b5 ∷ b6 ∷ b7 ∷ [] =
    join (start SetNwDst) (b0 ∷ b1 ∷ b2 ∷ b3 ∷ []) (arguments made (0) ([])) (b4 ∷ b5 ∷ b6 ∷ b7 ∷ []) first after in
    subst (λ (x : Action). IsFound x (b0 ∷ b1 ∷ b2 ∷ b3 ∷ b4 ∷ b5 ∷ b6 ∷ b7 ∷ [])) is (record {
      spells = record { low = 0; pad = []; low_fits = omega arith; pad_fits = refl; whole = sym spelled };
      in_range = tt;
      fits = number_lt 4 4 bytes fits;
    })

found-SetNwTos : (b0 b1 b2 b3 b4 b5 b6 b7 : ℕ) (rest : List ℕ) (a : Action)
    → let bytes = b0 ∷ b1 ∷ b2 ∷ b3 ∷ b4 ∷ b5 ∷ b6 ∷ b7 ∷ rest in IsRead SetNwTos bytes a → IsBytes bytes
    → IsFound a (b0 ∷ b1 ∷ b2 ∷ b3 ∷ b4 ∷ b5 ∷ b6 ∷ b7 ∷ [])
found-SetNwTos b0 b1 b2 b3 b4 b5 b6 b7 rest a read fits =
    let bytes : List ℕ = b0 ∷ b1 ∷ b2 ∷ b3 ∷ b4 ∷ b5 ∷ b6 ∷ b7 ∷ rest in
    let made : Action = actions.SetNwTos (b4 - b4 % 4) in
    let is : made ≡ a = option_is made a read.action in
    let first = starts SetNwTos bytes a read (omega arith) fits in
    let after : arguments made (b4 % 4) (b5 ∷ b6 ∷ b7 ∷ []) ≡ b4 ∷ b5 ∷ b6 ∷ b7 ∷ [] =
    ap (λ (n : ℕ). n ∷ b5 ∷ b6 ∷ b7 ∷ []) (omega arith) in
    let spelled : with_free made (b4 % 4) (b5 ∷ b6 ∷ b7 ∷ []) ≡ b0 ∷ b1 ∷ b2 ∷ b3 ∷ b4 ∷ b5 ∷ b6 ∷ b7 ∷ [] =
    join (start SetNwTos) (b0 ∷ b1 ∷ b2 ∷ b3 ∷ []) (arguments made (b4 % 4) (b5 ∷ b6 ∷ b7 ∷ []))
    (b4 ∷ b5 ∷ b6 ∷ b7 ∷ []) first after in
    subst (λ (x : Action). IsFound x (b0 ∷ b1 ∷ b2 ∷ b3 ∷ b4 ∷ b5 ∷ b6 ∷ b7 ∷ [])) is (record {
      spells = record {
        low = b4 % 4;
        pad = b5 ∷ b6 ∷ b7 ∷ [];
        low_fits = omega arith;
        pad_fits = refl;
        whole = sym spelled;
      };
      in_range = omega arith;
      fits = omega (arith, fits 4);
    })

found-SetTpSrc : (b0 b1 b2 b3 b4 b5 b6 b7 : ℕ) (rest : List ℕ) (a : Action)
    → let bytes = b0 ∷ b1 ∷ b2 ∷ b3 ∷ b4 ∷ b5 ∷ b6 ∷ b7 ∷ rest in IsRead SetTpSrc bytes a → IsBytes bytes
    → IsFound a (b0 ∷ b1 ∷ b2 ∷ b3 ∷ b4 ∷ b5 ∷ b6 ∷ b7 ∷ [])
found-SetTpSrc b0 b1 b2 b3 b4 b5 b6 b7 rest a read fits =
    let bytes : List ℕ = b0 ∷ b1 ∷ b2 ∷ b3 ∷ b4 ∷ b5 ∷ b6 ∷ b7 ∷ rest in
    let made : Action = actions.SetTpSrc (u16_at 4 bytes) in
    let is : made ≡ a = option_is made a read.action in
    let first = starts SetTpSrc bytes a read (omega arith) fits in
    let after : arguments made (0) (b6 ∷ b7 ∷ []) ≡ b4 ∷ b5 ∷ b6 ∷ b7 ∷ [] =
    join (big_bytes 2 (big_number 2 (drop 4 bytes))) (b4 ∷ b5 ∷ []) (b6 ∷ b7 ∷ []) (b6 ∷ b7 ∷ [])
    (field 2 4 bytes (omega arith) fits) refl in
    let spelled : with_free made (0) (b6 ∷ b7 ∷ []) ≡ b0 ∷ b1 ∷ b2 ∷ b3 ∷ b4 ∷ b5 ∷ b6 ∷ b7 ∷ [] =
    join (start SetTpSrc) (b0 ∷ b1 ∷ b2 ∷ b3 ∷ []) (arguments made (0) (b6 ∷ b7 ∷ [])) (b4 ∷ b5 ∷ b6 ∷ b7 ∷ [])
    first after in
    subst (λ (x : Action). IsFound x (b0 ∷ b1 ∷ b2 ∷ b3 ∷ b4 ∷ b5 ∷ b6 ∷ b7 ∷ [])) is (record {
      spells = record { low = 0; pad = b6 ∷ b7 ∷ []; low_fits = omega arith; pad_fits = refl; whole = sym spelled };
      in_range = tt;
      fits = number_lt 2 4 bytes fits;
    })

found-SetTpDst : (b0 b1 b2 b3 b4 b5 b6 b7 : ℕ) (rest : List ℕ) (a : Action)
    → let bytes = b0 ∷ b1 ∷ b2 ∷ b3 ∷ b4 ∷ b5 ∷ b6 ∷ b7 ∷ rest in IsRead SetTpDst bytes a → IsBytes bytes
    → IsFound a (b0 ∷ b1 ∷ b2 ∷ b3 ∷ b4 ∷ b5 ∷ b6 ∷ b7 ∷ [])
found-SetTpDst b0 b1 b2 b3 b4 b5 b6 b7 rest a read fits =
    let bytes : List ℕ = b0 ∷ b1 ∷ b2 ∷ b3 ∷ b4 ∷ b5 ∷ b6 ∷ b7 ∷ rest in
    let made : Action = actions.SetTpDst (u16_at 4 bytes) in
    let is : made ≡ a = option_is made a read.action in
    let first = starts SetTpDst bytes a read (omega arith) fits in
    let after : arguments made (0) (b6 ∷ b7 ∷ []) ≡ b4 ∷ b5 ∷ b6 ∷ b7 ∷ [] =
    join (big_bytes 2 (big_number 2 (drop 4 bytes))) (b4 ∷ b5 ∷ []) (b6 ∷ b7 ∷ []) (b6 ∷ b7 ∷ [])
    (field 2 4 bytes (omega arith) fits) refl in
    let spelled : with_free made (0) (b6 ∷ b7 ∷ []) ≡ b0 ∷ b1 ∷ b2 ∷ b3 ∷ b4 ∷ b5 ∷ b6 ∷ b7 ∷ [] =
    join (start SetTpDst) (b0 ∷ b1 ∷ b2 ∷ b3 ∷ []) (arguments made (0) (b6 ∷ b7 ∷ [])) (b4 ∷ b5 ∷ b6 ∷ b7 ∷ [])
    first after in
    subst (λ (x : Action). IsFound x (b0 ∷ b1 ∷ b2 ∷ b3 ∷ b4 ∷ b5 ∷ b6 ∷ b7 ∷ [])) is (record {
      spells = record { low = 0; pad = b6 ∷ b7 ∷ []; low_fits = omega arith; pad_fits = refl; whole = sym spelled };
      in_range = tt;
      fits = number_lt 2 4 bytes fits;
    })

found-Enqueue : (b0 b1 b2 b3 b4 b5 b6 b7 b8 b9 b10 b11 b12 b13 b14 b15 : ℕ) (rest : List ℕ) (a : Action)
    → let bytes = b0 ∷ b1 ∷ b2 ∷ b3 ∷ b4 ∷ b5 ∷ b6 ∷ b7 ∷ b8 ∷ b9 ∷ b10 ∷ b11 ∷ b12 ∷ b13 ∷ b14 ∷ b15 ∷ rest in
    IsRead Enqueue bytes a → IsBytes bytes
    → IsFound a (b0 ∷ b1 ∷ b2 ∷ b3 ∷ b4 ∷ b5 ∷ b6 ∷ b7 ∷ b8 ∷ b9 ∷ b10 ∷ b11 ∷ b12 ∷ b13 ∷ b14 ∷ b15 ∷ [])
found-Enqueue b0 b1 b2 b3 b4 b5 b6 b7 b8 b9 b10 b11 b12 b13 b14 b15 rest a read fits =
    let bytes : List ℕ = b0 ∷ b1 ∷ b2 ∷ b3 ∷ b4 ∷ b5 ∷ b6 ∷ b7 ∷ b8 ∷ b9 ∷ b10 ∷ b11 ∷ b12 ∷ b13 ∷ b14 ∷ b15 ∷ rest in
    let made : Action = actions.Enqueue (u16_at 4 bytes) (u32_at 12 bytes) in
    let is : made ≡ a = option_is made a read.action in
    let first = starts Enqueue bytes a read (omega arith) fits in
    let after : arguments made (0) (b6 ∷ b7 ∷ b8 ∷ b9 ∷ b10 ∷ b11 ∷ [])
    ≡ b4 ∷ b5 ∷ b6 ∷ b7 ∷ b8 ∷ b9 ∷ b10 ∷ b11 ∷ b12 ∷ b13 ∷ b14 ∷ b15 ∷ [] =
    join (big_bytes 2 (big_number 2 (drop 4 bytes))) (b4 ∷ b5 ∷ [])
    ((b6 ∷ b7 ∷ b8 ∷ b9 ∷ b10 ∷ b11 ∷ []) ++ big_bytes 4 (big_number 4 (drop 12 bytes)))
    (b6 ∷ b7 ∷ b8 ∷ b9 ∷ b10 ∷ b11 ∷ b12 ∷ b13 ∷ b14 ∷ b15 ∷ []) (field 2 4 bytes (omega arith) fits)
    (join (b6 ∷ b7 ∷ b8 ∷ b9 ∷ b10 ∷ b11 ∷ []) (b6 ∷ b7 ∷ b8 ∷ b9 ∷ b10 ∷ b11 ∷ [])
    (big_bytes 4 (big_number 4 (drop 12 bytes))) (b12 ∷ b13 ∷ b14 ∷ b15 ∷ []) refl
    (field 4 12 bytes (omega arith) fits)) in
    let spelled : with_free made (0) (b6 ∷ b7 ∷ b8 ∷ b9 ∷ b10 ∷ b11 ∷ [])
    ≡ b0 ∷ b1 ∷ b2 ∷ b3 ∷ b4 ∷ b5 ∷ b6 ∷ b7 ∷ b8 ∷ b9 ∷ b10 ∷ b11 ∷ b12 ∷ b13 ∷ b14 ∷ b15 ∷ [] =
    join (start Enqueue) (b0 ∷ b1 ∷ b2 ∷ b3 ∷ []) (arguments made (0) (b6 ∷ b7 ∷ b8 ∷ b9 ∷ b10 ∷ b11 ∷ []))
    (b4 ∷ b5 ∷ b6 ∷ b7 ∷ b8 ∷ b9 ∷ b10 ∷ b11 ∷ b12 ∷ b13 ∷ b14 ∷ b15 ∷ []) first after in
    subst
    (λ (x : Action). IsFound x
    (b0 ∷ b1 ∷ b2 ∷ b3 ∷ b4 ∷ b5 ∷ b6 ∷ b7 ∷ b8 ∷ b9 ∷ b10 ∷ b11 ∷ b12 ∷ b13 ∷ b14 ∷ b15 ∷ [])) is (record {
      spells = record {
        low = 0;
        pad = b6 ∷ b7 ∷ b8 ∷ b9 ∷ b10 ∷ b11 ∷ [];
        low_fits = omega arith;
        pad_fits = refl;
        whole = sym spelled;
      };
      in_range = tt;
      fits = (number_lt 2 4 bytes fits, number_lt 4 12 bytes fits);
    })

-- bytes that are many enough, one by one
eight : (P : List ℕ → Type 0)
    → ((b0 b1 b2 b3 b4 b5 b6 b7 : ℕ) (rest : List ℕ) → P (b0 ∷ b1 ∷ b2 ∷ b3 ∷ b4 ∷ b5 ∷ b6 ∷ b7 ∷ rest))
    → (bytes : List ℕ) → 8 ≤ length bytes → P bytes
eight P there (b0 ∷ b1 ∷ b2 ∷ b3 ∷ b4 ∷ b5 ∷ b6 ∷ b7 ∷ rest) long = there b0 b1 b2 b3 b4 b5 b6 b7 rest
eight P there bytes long = absurd (omega (arith, long))

sixteen : (P : List ℕ → Type 0)
    → ((b0 b1 b2 b3 b4 b5 b6 b7 b8 b9 b10 b11 b12 b13 b14 b15 : ℕ) (rest : List ℕ)
    → P (b0 ∷ b1 ∷ b2 ∷ b3 ∷ b4 ∷ b5 ∷ b6 ∷ b7 ∷ b8 ∷ b9 ∷ b10 ∷ b11 ∷ b12 ∷ b13 ∷ b14 ∷ b15 ∷ rest)) → (bytes : List ℕ)
    → 16 ≤ length bytes → P bytes
sixteen P there (b0 ∷ b1 ∷ b2 ∷ b3 ∷ b4 ∷ b5 ∷ b6 ∷ b7 ∷ b8 ∷ b9 ∷ b10 ∷ b11 ∷ b12 ∷ b13 ∷ b14 ∷ b15 ∷ rest) long =
    there b0 b1 b2 b3 b4 b5 b6 b7 b8 b9 b10 b11 b12 b13 b14 b15 rest
sixteen P there bytes long = absurd (omega (arith, long))

-- an action that was read is spelled by its bytes
found : (k : Kind) (bytes : List ℕ) (a : Action) → IsRead k bytes a → IsBytes bytes
    → IsFound a (take (length_of k) bytes)
found Output bytes a read fits = eight (λ xs. IsRead Output xs a → IsBytes xs
    → IsFound a (take 8 xs)) (λ b0 b1 b2 b3 b4 b5 b6 b7 rest. found-Output b0 b1 b2 b3 b4 b5 b6 b7 rest a) bytes
    read.long read fits
found SetVlanVid bytes a read fits = eight (λ xs. IsRead SetVlanVid xs a → IsBytes xs
    → IsFound a (take 8 xs)) (λ b0 b1 b2 b3 b4 b5 b6 b7 rest. found-SetVlanVid b0 b1 b2 b3 b4 b5 b6 b7 rest a) bytes
    read.long read fits
found SetVlanPcp bytes a read fits = eight (λ xs. IsRead SetVlanPcp xs a → IsBytes xs
    → IsFound a (take 8 xs)) (λ b0 b1 b2 b3 b4 b5 b6 b7 rest. found-SetVlanPcp b0 b1 b2 b3 b4 b5 b6 b7 rest a) bytes
    read.long read fits
found StripVlan bytes a read fits = eight (λ xs. IsRead StripVlan xs a → IsBytes xs
    → IsFound a (take 8 xs)) (λ b0 b1 b2 b3 b4 b5 b6 b7 rest. found-StripVlan b0 b1 b2 b3 b4 b5 b6 b7 rest a) bytes
    read.long read fits
found SetDlSrc bytes a read fits = sixteen (λ xs. IsRead SetDlSrc xs a → IsBytes xs
    → IsFound a (take 16 xs))
    (λ b0 b1 b2 b3 b4 b5 b6 b7 b8 b9 b10 b11 b12 b13 b14 b15 rest. found-SetDlSrc b0 b1 b2 b3 b4 b5 b6 b7 b8 b9 b10 b11
    b12 b13 b14 b15 rest a) bytes read.long read fits
found SetDlDst bytes a read fits = sixteen (λ xs. IsRead SetDlDst xs a → IsBytes xs
    → IsFound a (take 16 xs))
    (λ b0 b1 b2 b3 b4 b5 b6 b7 b8 b9 b10 b11 b12 b13 b14 b15 rest. found-SetDlDst b0 b1 b2 b3 b4 b5 b6 b7 b8 b9 b10 b11
    b12 b13 b14 b15 rest a) bytes read.long read fits
found SetNwSrc bytes a read fits = eight (λ xs. IsRead SetNwSrc xs a → IsBytes xs
    → IsFound a (take 8 xs)) (λ b0 b1 b2 b3 b4 b5 b6 b7 rest. found-SetNwSrc b0 b1 b2 b3 b4 b5 b6 b7 rest a) bytes
    read.long read fits
found SetNwDst bytes a read fits = eight (λ xs. IsRead SetNwDst xs a → IsBytes xs
    → IsFound a (take 8 xs)) (λ b0 b1 b2 b3 b4 b5 b6 b7 rest. found-SetNwDst b0 b1 b2 b3 b4 b5 b6 b7 rest a) bytes
    read.long read fits
found SetNwTos bytes a read fits = eight (λ xs. IsRead SetNwTos xs a → IsBytes xs
    → IsFound a (take 8 xs)) (λ b0 b1 b2 b3 b4 b5 b6 b7 rest. found-SetNwTos b0 b1 b2 b3 b4 b5 b6 b7 rest a) bytes
    read.long read fits
found SetTpSrc bytes a read fits = eight (λ xs. IsRead SetTpSrc xs a → IsBytes xs
    → IsFound a (take 8 xs)) (λ b0 b1 b2 b3 b4 b5 b6 b7 rest. found-SetTpSrc b0 b1 b2 b3 b4 b5 b6 b7 rest a) bytes
    read.long read fits
found SetTpDst bytes a read fits = eight (λ xs. IsRead SetTpDst xs a → IsBytes xs
    → IsFound a (take 8 xs)) (λ b0 b1 b2 b3 b4 b5 b6 b7 rest. found-SetTpDst b0 b1 b2 b3 b4 b5 b6 b7 rest a) bytes
    read.long read fits
found Enqueue bytes a read fits = sixteen (λ xs. IsRead Enqueue xs a → IsBytes xs
    → IsFound a (take 16 xs))
    (λ b0 b1 b2 b3 b4 b5 b6 b7 b8 b9 b10 b11 b12 b13 b14 b15 rest. found-Enqueue b0 b1 b2 b3 b4 b5 b6 b7 b8 b9 b10 b11
    b12 b13 b14 b15 rest a) bytes read.long read fits

pub action_found : (at : ℕ) (bytes : List ℕ) (a : Action) → action_at at bytes ≡ Ok a → IsBytes bytes
    → IsFound a (take (length_of (type_of a)) bytes)
action_found at bytes a e fits =
    let read = is_read at bytes a e in
    subst (λ (k : Kind). IsFound a (take (length_of k) bytes)) (sym (type_is read.0 bytes a read.1.action))
    (found read.0 bytes a read.1 fits)

-- an action that was read has its bytes
pub action_long : (at : ℕ) (bytes : List ℕ) (a : Action) → action_at at bytes ≡ Ok a
    → length_of (type_of a) ≤ length bytes
action_long at bytes a e =
    let read = is_read at bytes a e in
    subst (λ (k : Kind). length_of k ≤ length bytes) (sym (type_is read.0 bytes a read.1.action)) read.1.long
