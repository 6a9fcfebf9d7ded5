-- What is spelled so is read.
use Rattle.std.proofs.Common.{◌≡◌, ℕ, ◌<◌, ◌≤◌, Bool, true, false, cond, eqb, ltb, List, ◌++◌, length, drop, Option}
use Rattle.std.proofs.Common.{Some, Ok, Err, refl, ap, ◌∙◌, append_assoc, arith}
use Rattle.std.specs.Prelude.{◌&&◌, nat_le, nat_lt}
use Rattle.std.proofs.lemmas.Bool.{le-leb, le-ltb, eq-eqb, ne_eqb}
use Rattle.std.proofs.lemmas.List.{length-append, drop_at}
use Rattle.byteorder.specs.Endian.{big_number, big_bytes}
use Rattle.byteorder.specs.Numbers.{big_number-reads_back}
use Rattle.of10_actions.specs.declared.action.Action.{Action}
use Rattle.of10_actions.specs.declared.action.Action.TheVariants as actions
use Rattle.of10_actions.specs.declared.fault.ActionFault.TheVariants.{BadLen, BadVendor}
use Rattle.of10_actions.specs.declared.kind.Kind.{Kind}
use Rattle.of10_actions.specs.declared.kind.Kind.TheVariants.{Output, SetVlanVid, SetVlanPcp, StripVlan, SetDlSrc}
use Rattle.of10_actions.specs.declared.kind.Kind.TheVariants.{SetDlDst, SetNwSrc, SetNwDst, SetNwTos, SetTpSrc}
use Rattle.of10_actions.specs.declared.kind.Kind.TheVariants.{SetTpDst, Enqueue}
use Rattle.of10_actions.specs.declared.kind.TheConstants.{VENDOR}
use Rattle.of10_actions.specs.Actions.{IsInRange, FitsTypes}
use Rattle.of10_actions.specs.Kinds.{kind_of, length_of, number_of, type_of}
use Rattle.of10_actions.specs.Reading.{u16_at, u32_at, unless, action_of, or_bad_argument, is_long, of_kind, action_at}
use Rattle.of10_actions.specs.Spelling.{Spells, with_free, padding}
use Rattle.of10_actions.proofs.Decoding.{IsRead, number_is}

number_of-lt : (k : Kind) → number_of k < 12
number_of-lt Output = omega arith
number_of-lt SetVlanVid = omega arith
number_of-lt SetVlanPcp = omega arith
number_of-lt StripVlan = omega arith
number_of-lt SetDlSrc = omega arith
number_of-lt SetDlDst = omega arith
number_of-lt SetNwSrc = omega arith
number_of-lt SetNwDst = omega arith
number_of-lt SetNwTos = omega arith
number_of-lt SetTpSrc = omega arith
number_of-lt SetTpDst = omega arith
number_of-lt Enqueue = omega arith

no_vendor : (k : Kind) (n : ℕ) → n ≡ number_of k → eqb n VENDOR ≡ false
no_vendor k n is = ne_eqb n VENDOR (λ e. absurd (omega (arith, number_of-lt k, e, is)))

pub length_of-le : (k : Kind) → 8 ≤ length_of k
length_of-le Output = omega arith
length_of-le SetVlanVid = omega arith
length_of-le SetVlanPcp = omega arith
length_of-le StripVlan = omega arith
length_of-le SetDlSrc = omega arith
length_of-le SetDlDst = omega arith
length_of-le SetNwSrc = omega arith
length_of-le SetNwDst = omega arith
length_of-le SetNwTos = omega arith
length_of-le SetTpSrc = omega arith
length_of-le SetTpDst = omega arith
length_of-le Enqueue = omega arith

-- an action whose type, length and arguments are there is read
pub reads_action : (at : ℕ) (k : Kind) (bytes : List ℕ) (a : Action) → IsRead k bytes a → action_at at bytes ≡ Ok a
unfolding action_at
reads_action at k bytes a read =
    let four : ltb (length bytes) 4 ≡ false = le-ltb _ _ (omega (arith, read.long, length_of-le k)) in
    let own : eqb (u16_at 0 bytes) VENDOR ≡ false =
    no_vendor k (u16_at 0 bytes) (number_is (u16_at 0 bytes) k read.kind) in
    let same : eqb (u16_at 2 bytes) (length_of k) ≡ true = eq-eqb _ _ read.length_is in
    let enough : nat_le (length_of k) (length bytes) ≡ true = le-leb _ _ read.long in
    let long : is_long k bytes ≡ true = ap (λ (b : Bool). b && nat_le (length_of k) (length bytes)) same ∙ enough in
    ap (λ (b : Bool). cond b (Err (BadLen at))
    (cond (eqb (u16_at 0 bytes) VENDOR) (Err (BadVendor at)) (of_kind at (kind_of (u16_at 0 bytes)) bytes))) four
    ∙ (ap (λ (b : Bool). cond b (Err (BadVendor at)) (of_kind at (kind_of (u16_at 0 bytes)) bytes)) own
    ∙ (ap (λ (o : Option Kind). of_kind at o bytes) read.kind
    ∙ (ap (λ (b : Bool). cond b (or_bad_argument at (action_of k bytes)) (Err (BadLen at))) long
    ∙ ap (or_bad_argument at) read.action)))

-- the bytes of an action, and then others
spelled : (a : Action) (low : ℕ) (pad back : List ℕ) → FitsTypes a → IsInRange a → low < 4 → length pad ≡ padding a
    → IsRead (type_of a) (with_free a low pad ++ back) a
spelled (actions.Output port max_len) low pad back fits range low_fits pad_fits =
    record {
      kind = refl;
      length_is = refl;
      long = omega (arith, pad_fits, length-append pad back);
      action =
          ap (λ (n : ℕ). Some (actions.Output n (u16_at 6 (with_free (actions.Output port max_len) low pad ++ back))))
          (big_number-reads_back 2 port (big_bytes 2 max_len ++ (pad ++ back)) fits.0)
          ∙ ap (λ (n : ℕ). Some (actions.Output port n)) (big_number-reads_back 2 max_len (pad ++ back) fits.1);
    }
spelled (actions.SetVlanVid vid) low pad back fits range low_fits pad_fits =
    record {
      kind = refl;
      length_is = refl;
      long = omega (arith, pad_fits, length-append pad back);
      action =
          ap (λ (n : ℕ). unless (nat_lt 4095 n) (actions.SetVlanVid n)) (big_number-reads_back 2 vid (pad ++ back) fits)
          ∙ ap (λ (b : Bool). unless b (actions.SetVlanVid vid)) (le-ltb 4095 vid (omega (arith, range)));
    }
spelled (actions.SetVlanPcp pcp) low pad back fits range low_fits pad_fits =
    record {
      kind = refl;
      length_is = refl;
      long = omega (arith, pad_fits, length-append pad back);
      action = ap (λ (b : Bool). unless b (actions.SetVlanPcp pcp)) (le-ltb 7 pcp (omega (arith, range)));
    }
spelled (actions.StripVlan) low pad back fits range low_fits pad_fits =
    record { kind = refl; length_is = refl; long = omega (arith, pad_fits, length-append pad back); action = refl }
spelled (actions.SetDlSrc address) low pad back fits range low_fits pad_fits =
    record {
      kind = refl;
      length_is = refl;
      long = omega (arith, pad_fits, length-append pad back);
      action = ap (λ (n : ℕ). Some (actions.SetDlSrc n)) (big_number-reads_back 6 address (pad ++ back) range);
    }
spelled (actions.SetDlDst address) low pad back fits range low_fits pad_fits =
    record {
      kind = refl;
      length_is = refl;
      long = omega (arith, pad_fits, length-append pad back);
      action = ap (λ (n : ℕ). Some (actions.SetDlDst n)) (big_number-reads_back 6 address (pad ++ back) range);
    }
spelled (actions.SetNwSrc address) low pad back fits range low_fits pad_fits =
    record {
      kind = refl;
      length_is = refl;
      long = omega (arith, pad_fits, length-append pad back);
      action = ap (λ (n : ℕ). Some (actions.SetNwSrc n)) (big_number-reads_back 4 address (pad ++ back) fits);
    }
spelled (actions.SetNwDst address) low pad back fits range low_fits pad_fits =
    record {
      kind = refl;
      length_is = refl;
      long = omega (arith, pad_fits, length-append pad back);
      action = ap (λ (n : ℕ). Some (actions.SetNwDst n)) (big_number-reads_back 4 address (pad ++ back) fits);
    }
spelled (actions.SetNwTos tos) low pad back fits range low_fits pad_fits =
    record {
      kind = refl;
      length_is = refl;
      long = omega (arith, pad_fits, length-append pad back);
      action = ap (λ (n : ℕ). Some (actions.SetNwTos n)) (omega (arith, range, low_fits));
    }
spelled (actions.SetTpSrc port) low pad back fits range low_fits pad_fits =
    record {
      kind = refl;
      length_is = refl;
      long = omega (arith, pad_fits, length-append pad back);
      action = ap (λ (n : ℕ). Some (actions.SetTpSrc n)) (big_number-reads_back 2 port (pad ++ back) fits);
    }
spelled (actions.SetTpDst port) low pad back fits range low_fits pad_fits =
    record {
      kind = refl;
      length_is = refl;
      long = omega (arith, pad_fits, length-append pad back);
      action = ap (λ (n : ℕ). Some (actions.SetTpDst n)) (big_number-reads_back 2 port (pad ++ back) fits);
    }
spelled (actions.Enqueue port queue) low pad back fits range low_fits pad_fits =
    record {
      kind = refl;
      length_is = refl;
      long =
          omega (arith, pad_fits, length-append (pad ++ big_bytes 4 queue) back, length-append pad (big_bytes 4 queue));
      action =
          ap (λ (n : ℕ). Some (actions.Enqueue n (u32_at 12 (with_free (actions.Enqueue port queue) low pad ++ back))))
          (big_number-reads_back 2 port ((pad ++ big_bytes 4 queue) ++ back) fits.0)
          ∙ ap (λ (n : ℕ). Some (actions.Enqueue port n))
          (ap (big_number 4) (ap (drop 6) (append_assoc pad (big_bytes 4 queue) back)
          ∙ drop_at pad (big_bytes 4 queue ++ back) 6 pad_fits) ∙ big_number-reads_back 4 queue (back) fits.1);
    }

-- an action that is spelled at the front of bytes is read
pub reads_spelled : (at : ℕ) (a : Action) (front back : List ℕ) → FitsTypes a → IsInRange a → Spells a front
    → action_at at (front ++ back) ≡ Ok a
reads_spelled at a front back fits range spells =
    ap (λ (xs : List ℕ). action_at at (xs ++ back)) spells.whole
    ∙ reads_action at (type_of a) (with_free a spells.low spells.pad ++ back) a
    (spelled a spells.low spells.pad back fits range spells.low_fits spells.pad_fits)

with_free-length : (a : Action) (low : ℕ) (pad : List ℕ) → length pad ≡ padding a
    → length (with_free a low pad) ≡ length_of (type_of a)
with_free-length (actions.Output port max_len) low pad fits = omega (arith, fits)
with_free-length (actions.SetVlanVid vid) low pad fits = omega (arith, fits)
with_free-length (actions.SetVlanPcp pcp) low pad fits = omega (arith, fits)
with_free-length (actions.StripVlan) low pad fits = omega (arith, fits)
with_free-length (actions.SetDlSrc address) low pad fits = omega (arith, fits)
with_free-length (actions.SetDlDst address) low pad fits = omega (arith, fits)
with_free-length (actions.SetNwSrc address) low pad fits = omega (arith, fits)
with_free-length (actions.SetNwDst address) low pad fits = omega (arith, fits)
with_free-length (actions.SetNwTos tos) low pad fits = omega (arith, fits)
with_free-length (actions.SetTpSrc port) low pad fits = omega (arith, fits)
with_free-length (actions.SetTpDst port) low pad fits = omega (arith, fits)
with_free-length (actions.Enqueue port queue) low pad fits = omega (arith, fits, length-append pad (big_bytes 4 queue))

pub spells_length : (a : Action) (front : List ℕ) → Spells a front → length front ≡ length_of (type_of a)
spells_length a front spells = ap length spells.whole ∙ with_free-length a spells.low spells.pad spells.pad_fits
