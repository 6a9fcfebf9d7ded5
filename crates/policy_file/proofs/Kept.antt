-- What is read of keys is in range.
use Rattle.std.proofs.Common.{◌≡◌, ◌∙◌, sym, ap, subst, ℕ, zero, suc, ◌+◌, ◌≤◌, ◌<◌, ◌++◌, ℤ, pos, negsuc, Bool, true}
use Rattle.std.proofs.Common.{false, List, [], ◌∷◌, length, Option, Some, None, Result, Ok, Err, IfSome, codes, arith}
use Rattle.std.proofs.Common.{refl, length-append}
use Rattle.std.specs.List.{AllByRecursion, enumerate_from}
use Rattle.std.specs.Prelude.{slice_get, option_and_then, option_map, nat_lt, if◌then◌else◌}
use Rattle.std.proofs.lemmas.Bool.Decides.{nat_tests}
use Rattle.toml.specs.Data.{Data, string, integer, float, boolean, datetime, array, table, Members, get_member, as_str}
use Rattle.policies.specs.declared.fault.PolicyFault.{PolicyFault}
use Rattle.policy_file.specs.declared.keys.ItemKind.{ItemKind}
use Rattle.policy_file.specs.declared.section.Section.{Section}
use Rattle.policy_file.specs.declared.section.Section.TheVariants.{Item}
use Rattle.policy_file.specs.Heads.{or_absent}
use Rattle.policy_file.specs.Outcomes.{found}
use Rattle.policies.specs.Outcomes.{then_do}
use Rattle.policy_file.specs.Plans.{read_at, with_item, items_after}
use Rattle.policy_file.specs.Regions.{if_there}
use Rattle.policy_file.specs.Values.{within, within_range, number, if_fits, text_that}
use Rattle.policies.proofs.Outcomes.{done}

-- a number in a range
pub record IsWithin (least greatest n : ℕ) : Type 0 where
  pub least_is : least ≤ n
  pub greatest_is : n ≤ greatest

pub within_bounds : (least greatest k n : ℕ) → within least greatest k ≡ Some n → IsWithin least greatest n
within_bounds least greatest k n e =
    record { least_is = grind (arith, nat_tests); greatest_is = grind (arith, nat_tests) }

pub number_within : (least greatest : ℕ) (d : Data) (n : ℕ) → number least greatest d ≡ Some n
    → IsWithin least greatest n
number_within least greatest (integer (pos k)) n e = within_bounds least greatest k n e
number_within least greatest (integer (negsuc k)) n e = absurd (cc)
number_within least greatest (string s) n e = absurd (cc)
number_within least greatest (float x) n e = absurd (cc)
number_within least greatest (boolean b) n e = absurd (cc)
number_within least greatest (datetime t) n e = absurd (cc)
number_within least greatest (array ds) n e = absurd (cc)
number_within least greatest (table ms) n e = absurd (cc)

pub absent_within : (least greatest absent : ℕ) (o : Option Data) (n : ℕ) → IsWithin least greatest absent
    → or_absent absent (number least greatest) o ≡ Some n → IsWithin least greatest n
absent_within least greatest absent (Some d) n h e = number_within least greatest d n e
absent_within least greatest absent None n h e = let p : absent ≡ n = cc in subst (IsWithin least greatest) p h

option_within : (least greatest : ℕ) (o : Option Data) (n : ℕ) → option_and_then (number least greatest) o ≡ Some n
    → IsWithin least greatest n
option_within least greatest (Some d) n e = number_within least greatest d n e
option_within least greatest None n e = absurd (cc)

pub read_within : (least greatest : ℕ) (k : List ℕ) (ms : Members) (n : ℕ)
    → read_at (number least greatest) k ms ≡ Some n → IsWithin least greatest n
read_within least greatest k ms n e = option_within least greatest (get_member k ms) n e

fits_test : (test : List ℕ → Bool) (s t : List ℕ) → if_fits test s ≡ Some t → test t ≡ true
fits_test test s t e = grind arith

pub text_passes : (test : List ℕ → Bool) (d : Data) (t : List ℕ) → text_that test d ≡ Some t → test t ≡ true
text_passes test (string s) t e = fits_test test s t e
text_passes test (integer i) t e = absurd (cc)
text_passes test (float x) t e = absurd (cc)
text_passes test (boolean b) t e = absurd (cc)
text_passes test (datetime d) t e = absurd (cc)
text_passes test (array ds) t e = absurd (cc)
text_passes test (table ms) t e = absurd (cc)

pub absent_passes : (test : List ℕ → Bool) (absent : List ℕ) (o : Option Data) (t : List ℕ) → test absent ≡ true
    → or_absent absent (text_that test) o ≡ Some t → test t ≡ true
absent_passes test absent (Some d) t h e = text_passes test d t e
absent_passes test absent None t h e = let p : absent ≡ t = cc in subst (λ s. test s ≡ true) p h

option_passes : (test : List ℕ → Bool) (o : Option Data) (t : List ℕ) → option_and_then (text_that test) o ≡ Some t
    → test t ≡ true
option_passes test (Some d) t e = text_passes test d t e
option_passes test None t e = absurd (cc)

pub read_passes : (test : List ℕ → Bool) (k : List ℕ) (ms : Members) (t : List ℕ)
    → read_at (text_that test) k ms ≡ Some t → test t ≡ true
read_passes test k ms t e = option_passes test (get_member k ms) t e

mapped_passes : (test : List ℕ → Bool) (d : Data) (o : Option (List ℕ)) (t : Option (List ℕ)) → text_that test d ≡ o
    → option_map Some o ≡ Some t → IfSome t (λ s. test s ≡ true)
mapped_passes test d None t r e = absurd (cc)
mapped_passes test d (Some s) t r e = let p : Some s ≡ t = cc in
    subst (λ (o : Option (List ℕ)). IfSome o (λ s. test s ≡ true)) p (text_passes test d s r)

pub there_passes : (test : List ℕ → Bool) (o : Option Data) (t : Option (List ℕ)) → if_there (text_that test) o ≡ Some t
    → IfSome t (λ s. test s ≡ true)
there_passes test None t e = let p : None ≡ t = cc in
    subst (λ (o : Option (List ℕ)). IfSome o (λ s. test s ≡ true)) p tt
there_passes test (Some d) t e = mapped_passes test d (text_that test d) t refl e

-- each item that is read has P
pub record Gives {A : Type 0} (read : List A → Section → Members → Result A PolicyFault) (P : A → Type 0) : Type 0 where
  pub each : (earlier : List A) (s : Section) (ms : Members) (x : A) → read earlier s ms ≡ Ok x → P x

all_and : {A : Type 0} (P : A → Type 0) (xs : List A) (x : A) → AllByRecursion P xs → P x
    → AllByRecursion P (xs ++ x ∷ [])
all_and P [] x h p = (p, tt)
all_and P (y ∷ ys) x h p = (h.0, all_and P ys x h.1 p)

with_each : {A : Type 0} (read : List A → Section → Members → Result A PolicyFault) (P : A → Type 0) → Gives read P
    → (s : Section) (earlier : List A) (d : Data) (xs : List A) → AllByRecursion P earlier
    → with_item read s earlier d ≡ Ok xs → AllByRecursion P xs
with_each read P g s earlier (table ms) xs h e =
    let r = done (read earlier s ms) (λ x. Ok (earlier ++ x ∷ [])) xs e in
    let p : earlier ++ r.value ∷ [] ≡ xs = cc r.second in
    subst (AllByRecursion P) p (all_and P earlier r.value h (g.each earlier s ms r.value r.first))
with_each read P g s earlier (string t) xs h e = let p : earlier ≡ xs = cc in subst (AllByRecursion P) p h
with_each read P g s earlier (integer t) xs h e = let p : earlier ≡ xs = cc in subst (AllByRecursion P) p h
with_each read P g s earlier (float t) xs h e = let p : earlier ≡ xs = cc in subst (AllByRecursion P) p h
with_each read P g s earlier (boolean t) xs h e = let p : earlier ≡ xs = cc in subst (AllByRecursion P) p h
with_each read P g s earlier (datetime t) xs h e = let p : earlier ≡ xs = cc in subst (AllByRecursion P) p h
with_each read P g s earlier (array t) xs h e = let p : earlier ≡ xs = cc in subst (AllByRecursion P) p h

pub items_each : {A : Type 0} (read : List A → Section → Members → Result A PolicyFault) (P : A → Type 0) → Gives read P
    → (kind : ItemKind) (earlier : List A) (is : List (ℕ × Data)) (xs : List A) → AllByRecursion P earlier
    → items_after read kind earlier is ≡ Ok xs → AllByRecursion P xs
items_each read P g kind earlier [] xs h e = let p : earlier ≡ xs = cc in subst (AllByRecursion P) p h
items_each read P g kind earlier (i ∷ is) xs h e =
    let r = done (with_item read (Item kind i.0) earlier i.1) (λ more. items_after read kind more is) xs e in
    items_each read P g kind r.value is xs (with_each read P g (Item kind i.0) earlier i.1 r.value h r.first) r.second
