-- Items that are unlike those before them, and the ports of switches.
use Rattle.std.proofs.Common.{◌≡◌, ◌∙◌, sym, ap, subst, ℕ, ◌+◌, ◌≤◌, ◌==◌, ◌&&◌, ◌||◌, ◌++◌, Bool, true, false, not}
use Rattle.std.proofs.Common.{List, [], ◌∷◌, Option, Some, None, Result, Ok, Err, codes, arith, refl}
use Rattle.std.proofs.lemmas.Bool.Decides.{nat_tests}
use Rattle.std.specs.List.{AllByRecursion, enumerate_from, list_any}
use Rattle.std.specs.Prelude.{option_and_then, option_map, if◌then◌else◌}
use Rattle.toml.specs.Data.{Data, string, integer, float, boolean, datetime, array, table, Members, get_member, as_str}
use Rattle.virtual_topology.specs.declared.plan.SwitchItem.{SwitchItem}
use Rattle.virtual_topology.specs.declared.plan.VirtualItem.{VirtualItem}
use Rattle.virtual_topology.specs.Places.{same_name}
use Rattle.policies.specs.declared.fault.PolicyFault.{PolicyFault}
use Rattle.policy_file.specs.declared.keys.ItemKind.{ItemKind}
use Rattle.policies.specs.declared.policy.MemberItem.{MemberItem}
use Rattle.policy_file.specs.declared.section.Section.{Section}
use Rattle.policy_file.specs.declared.section.Section.TheVariants.{Item}
use Rattle.policy_file.specs.Documents.{as_list}
use Rattle.policy_file.specs.Outcomes.{found}
use Rattle.policies.specs.Outcomes.{then_do}
use Rattle.policy_file.specs.Plans.{read_at, is_taken, if_new, with_item, items_after}
use Rattle.policies.specs.Sound.{EachToEarlier, IsOtherPort, IsPortNumber}
use Rattle.policy_file.specs.Values.{number, are_distinct, each_of, port, ports, if_distinct}
use Rattle.policies.proofs.Outcomes.{done}
use Rattle.policy_file.proofs.Kept.{number_within}

-- each item that is read is so to those before it
pub record IsReadApart {A : Type 0} (read : List A → Section → Members → Result A PolicyFault) (R : A → A
    → Type 0) : Type 0 where
  pub each : (earlier : List A) (s : Section) (ms : Members) (x : A) → read earlier s ms ≡ Ok x
      → AllByRecursion (R x) earlier

pub all_end : {A : Type 0} (P : A → Type 0) (xs : List A) (x : A) → AllByRecursion P xs → P x
    → AllByRecursion P (xs ++ x ∷ [])
all_end P [] x h p = (p, tt)
all_end P (y ∷ ys) x h p = (h.0, all_end P ys x h.1 p)

pub earlier_end : {A : Type 0} (R : A → A → Type 0) (xs : List A) (x : A) → EachToEarlier R xs → AllByRecursion (R x) xs
    → EachToEarlier R (xs ++ x ∷ [])
earlier_end R [] x h k = (tt, tt)
earlier_end R (y ∷ ys) x h k = (all_end (λ z. R z y) ys x h.0 k.0, earlier_end R ys x h.1 k.1)

with_earlier : {A : Type 0} (read : List A → Section → Members → Result A PolicyFault) (R : A → A → Type 0)
    → IsReadApart read R → (s : Section) (earlier : List A) (d : Data) (xs : List A) → EachToEarlier R earlier
    → with_item read s earlier d ≡ Ok xs → EachToEarlier R xs
with_earlier read R g s earlier (table ms) xs h e =
    let r = done (read earlier s ms) (λ x. Ok (earlier ++ x ∷ [])) xs e in
    let p : earlier ++ r.value ∷ [] ≡ xs = cc r.second in
    subst (EachToEarlier R) p (earlier_end R earlier r.value h (g.each earlier s ms r.value r.first))
with_earlier read R g s earlier (string t) xs h e = let p : earlier ≡ xs = cc in subst (EachToEarlier R) p h
with_earlier read R g s earlier (integer t) xs h e = let p : earlier ≡ xs = cc in subst (EachToEarlier R) p h
with_earlier read R g s earlier (float t) xs h e = let p : earlier ≡ xs = cc in subst (EachToEarlier R) p h
with_earlier read R g s earlier (boolean t) xs h e = let p : earlier ≡ xs = cc in subst (EachToEarlier R) p h
with_earlier read R g s earlier (datetime t) xs h e = let p : earlier ≡ xs = cc in subst (EachToEarlier R) p h
with_earlier read R g s earlier (array t) xs h e = let p : earlier ≡ xs = cc in subst (EachToEarlier R) p h

pub items_apart : {A : Type 0} (read : List A → Section → Members → Result A PolicyFault) (R : A → A → Type 0)
    → IsReadApart read R → (kind : ItemKind) (earlier : List A) (is : List (ℕ × Data)) (xs : List A)
    → EachToEarlier R earlier → items_after read kind earlier is ≡ Ok xs → EachToEarlier R xs
items_apart read R g kind earlier [] xs h e = let p : earlier ≡ xs = cc in subst (EachToEarlier R) p h
items_apart read R g kind earlier (i ∷ is) xs h e =
    let r = done (with_item read (Item kind i.0) earlier i.1) (λ more. items_after read kind more is) xs e in
    items_apart read R g kind r.value is xs (with_earlier read R g (Item kind i.0) earlier i.1 r.value h r.first)
    r.second

or_false : (a b : Bool) → a || b ≡ false → (a ≡ false) × (b ≡ false)
or_false false b e = (refl, e)
or_false true b e = absurd (cc)

-- a value that no earlier item has
pub not_any : {A : Type 0} (t : A → Bool) (xs : List A) → list_any t xs ≡ false → AllByRecursion (λ x. t x ≡ false) xs
not_any t [] e = tt
not_any t (x ∷ xs) e = let h = or_false (t x) (list_any t xs) e in (h.0, not_any t xs h.1)

new_one : {B : Type 0} (taken : B → Bool) (x y : B) (b : Bool) → taken x ≡ b → (if b then None else Some x) ≡ Some y
    → taken y ≡ false
new_one taken x y true t e = absurd (cc)
new_one taken x y false t e = let p : x ≡ y = cc in subst (λ (z : _). taken z ≡ false) p t

pub not_taken : {B : Type 0} (taken : B → Bool) (o : Option B) (y : B) → option_and_then (if_new taken) o ≡ Some y
    → taken y ≡ false
not_taken taken None y e = absurd (cc)
not_taken taken (Some x) y e = new_one taken x y (taken x) refl e

pub unlike_all : {A B : Type 0} (same : B → B → Bool) (value_of : A → B) (earlier : List A) (x : B)
    → is_taken same value_of earlier x ≡ false → AllByRecursion (λ item. same x (value_of item) ≡ false) earlier
unlike_all same value_of earlier x e = not_any (λ item. same x (value_of item)) earlier e

-- the numbers of a list of ports
each_next : {A B : Type 0} (read : A → Option B) (P : B
    → Type 0) (x : A) (o : Option B) (r : Option (List B)) (ys : List B) → read x ≡ o
    → ((y : B) → read x ≡ Some y → P y) → ((zs : List B) → r ≡ Some zs → AllByRecursion P zs)
    → option_and_then (λ y. option_map (λ ys. y ∷ ys) r) o ≡ Some ys → AllByRecursion P ys
each_next read P x None r ys t f g e = absurd (cc)
each_next read P x (Some y) None ys t f g e = absurd (cc)
each_next read P x (Some y) (Some zs) ys t f g e = let p : y ∷ zs ≡ ys = cc in
    subst (AllByRecursion P) p (f y t, g zs refl)

pub each_all : {A B : Type 0} (read : A → Option B) (P : B → Type 0) → ((x : A) (y : B) → read x ≡ Some y → P y)
    → (xs : List A) (ys : List B) → each_of read xs ≡ Some ys → AllByRecursion P ys
each_all read P f [] ys e = let p : [] ≡ ys = cc in subst (AllByRecursion P) p tt
each_all read P f (x ∷ xs) ys e = each_next read P x (read x) (each_of read xs) ys refl (f x)
    (λ zs k. each_all read P f xs zs k) e

distinct_is : (ns ms : List ℕ) → if_distinct (λ a b. a == b) ns ≡ Some ms → ns ≡ ms
distinct_is ns ms e = grind arith

port_number : (d : Data) (n : ℕ) → port d ≡ Some n → IsPortNumber n
port_number d n e = let k = number_within 1 65279 d n e in (k.least_is, k.greatest_is)

listed_ports : (o : Option (List ℕ)) (ns : List ℕ) → option_and_then (if_distinct (λ a b. a == b)) o ≡ Some ns
    → o ≡ Some ns
listed_ports None ns e = absurd (cc)
listed_ports (Some ms) ns e = ap Some (distinct_is ms ns e)

ports_in : (o : Option (List Data)) (ns : List ℕ)
    → option_and_then (λ ds. option_and_then (if_distinct (λ a b. a == b)) (each_of port ds)) o ≡ Some ns
    → AllByRecursion IsPortNumber ns
ports_in None ns e = absurd (cc)
ports_in (Some ds) ns e = each_all port IsPortNumber port_number ds ns (listed_ports (each_of port ds) ns e)

pub ports_within : (o : Option Data) (ns : List ℕ) → option_and_then ports o ≡ Some ns → AllByRecursion IsPortNumber ns
ports_within None ns e = absurd (cc)
ports_within (Some d) ns e = ports_in (as_list d) ns e

-- the numbers of such a list are distinct
other_way : (a b : ℕ) → (a == b) ≡ false → (b == a) ≡ false
other_way a b e = grind (arith, nat_tests)

others : (n : ℕ) (ms : List ℕ) → AllByRecursion (λ m. (n == m) ≡ false) ms → AllByRecursion (λ m. IsOtherPort m n) ms
others n [] h = tt
others n (m ∷ ms) h = (other_way n m h.0, others n ms h.1)

both_true : (a b : Bool) → (not a && b) ≡ true → (a ≡ false) × (b ≡ true)
both_true false b e = (refl, e)
both_true true b e = absurd (cc)

each_other : (ns : List ℕ) → are_distinct (λ a b. a == b) ns ≡ true → EachToEarlier IsOtherPort ns
each_other [] e = tt
each_other (n ∷ ns) e =
    let h = both_true (list_any (λ m. n == m) ns) (are_distinct (λ a b. a == b) ns) e in
    (others n ns (not_any (λ m. n == m) ns h.0), each_other ns h.1)

if_so : (ms ns : List ℕ) (b : Bool) → are_distinct (λ a b. a == b) ms ≡ b → (if b then Some ms else None) ≡ Some ns
    → EachToEarlier IsOtherPort ns
if_so ms ns true t e = let p : ms ≡ ns = cc in subst (EachToEarlier IsOtherPort) p (each_other ms t)
if_so ms ns false t e = absurd (cc)

listed_once : (o : Option (List ℕ)) (ns : List ℕ) → option_and_then (if_distinct (λ a b. a == b)) o ≡ Some ns
    → EachToEarlier IsOtherPort ns
listed_once None ns e = absurd (cc)
listed_once (Some ms) ns e = if_so ms ns (are_distinct (λ a b. a == b) ms) refl e

once_in : (o : Option (List Data)) (ns : List ℕ)
    → option_and_then (λ ds. option_and_then (if_distinct (λ a b. a == b)) (each_of port ds)) o ≡ Some ns
    → EachToEarlier IsOtherPort ns
once_in None ns e = absurd (cc)
once_in (Some ds) ns e = listed_once (each_of port ds) ns e

pub ports_once : (o : Option Data) (ns : List ℕ) → option_and_then ports o ≡ Some ns → EachToEarlier IsOtherPort ns
ports_once None ns e = absurd (cc)
ports_once (Some d) ns e = once_in (as_list d) ns e
