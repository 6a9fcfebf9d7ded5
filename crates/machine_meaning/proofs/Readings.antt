-- The expressions of a state name members of their virtual switches.
use Rattle.std.proofs.Common.{◌≡◌, ◌∙◌, ℕ, zero, suc, ◌+◌, ◌<◌, ◌==◌, Bool, true, false, List, [], ◌∷◌, length, map}
use Rattle.std.proofs.Common.{Option, Some, None, Result, Ok, Err, arith, refl, sym, ap, ap₂, subst, eqb-true}
use Rattle.std.specs.Prelude.{filter_map, if◌then◌else◌, slice_get, zip}
use Rattle.std.specs.List.{AllByRecursion, cons_option, enumerate_from}
use Rattle.std.specs.Option.{option_map_or}
use Rattle.std.proofs.lemmas.Bool.{ltb-true}
use Rattle.std.proofs.lemmas.List.FromFn.{length-enumerate_from}
use Rattle.policy_expr.specs.Policy.{Policy, member, override, parallel, sequential}
use Rattle.policy_expr.specs.Reading.{reading}
use Rattle.policy_expr.specs.declared.fault.ExprFault.{ExprFault}
use Rattle.policy_expr.specs.declared.member.MemberName.{MemberName}
use Rattle.policies.specs.Exprs.{all_of, expr_of, name_at, name_of, names, or_fault}
use Rattle.policies.specs.Outcomes.{then_do}
use Rattle.policies.specs.Policies.{PolicyOf}
use Rattle.policies.specs.declared.fault.PolicyFault.{PolicyFault}
use Rattle.policies.specs.declared.policy.MemberItem.{MemberItem}
use Rattle.policies.proofs.Outcomes.{done}
use Rattle.policy_meaning.specs.CentralFact.{EachLeft, EachMember}
use Rattle.policy_setting.specs.Settings.{expr_at}
use Rattle.policy_setting.proofs.Parts.{numbered}
use Rattle.virtual_topology.specs.declared.plan.VirtualItem.{VirtualItem}
use Rattle.machine_meaning.specs.Sound.{AreExpressions, with_text}
use Rattle.machine_meaning.proofs.Expressions.{IfPlain, lefts_read, members_read}
use Rattle.machine_meaning.proofs.Numbered.{behind, from_zero, here}

-- members of a virtual switch ---------------------------------------------------------------------------------------

-- the member of a number is one of the virtual switch
pub record IsMemberAt (members : List MemberItem) (v i : ℕ) : Type 0 where
  pub item : MemberItem
  pub there : slice_get members i ≡ Some item
  pub of : item.grant.ports.v ≡ v

-- it may only output and send to itself
abbrev pub IsPlainAt : List MemberItem → ℕ → Type 0
IsPlainAt members i = (m : MemberItem) → slice_get members i ≡ Some m → m.grant.actions < 4

all_filter_mapped : {A B : Type 0} (P : A → Type 0) (Q : B → Type 0) (f : A → Option B)
    → ((x : A) → P x → (y : B) → f x ≡ Some y → Q y) → (xs : List A) → AllByRecursion P xs
    → AllByRecursion Q (filter_map f xs)
all_filter_mapped P Q f g [] h = tt
all_filter_mapped {A} {B} P Q f g (x ∷ xs) h = by (f x) refl (all_filter_mapped P Q f g xs h.1)
  where
    by : (o : Option B) → f x ≡ o → AllByRecursion Q (filter_map f xs)
        → AllByRecursion Q (cons_option o (filter_map f xs))
    by None e rest = rest
    by (Some y) e rest = (g x h.0 y e, rest)

-- a member that is named is there, and is so
pub named_so : (members : List MemberItem) (v : ℕ) (Q : MemberName → Type 0)
    → ((i : ℕ × MemberItem) → slice_get members i.0 ≡ Some i.1 → i.1.grant.ports.v ≡ v → Q (name_of i))
    → AllByRecursion Q (names members v)
named_so members v Q f =
    all_filter_mapped (λ (i : ℕ × MemberItem). slice_get members i.0 ≡ Some i.1) Q (name_at v)
    (λ i there y e. by i there y (i.1.grant.ports.v == v) refl e) (enumerate_from 0 members) (numbered members)
  where
    by : (i : ℕ × MemberItem) → slice_get members i.0 ≡ Some i.1 → (y : MemberName) → (b : Bool)
        → (i.1.grant.ports.v == v) ≡ b → (if b then Some (name_of i) else None) ≡ Some y → Q y
    by i there y true t e = let p : name_of i ≡ y = cc (e) in subst Q p (f i there (eqb-true i.1.grant.ports.v v t))
    by i there y false t e = absurd (cc (e))

all_there : (members : List MemberItem) (v : ℕ)
    → AllByRecursion (λ (m : MemberName). IsMemberAt members v m.index) (names members v)
all_there members v =
    named_so members v (λ (m : MemberName). IsMemberAt members v m.index)
    (λ i there of. record { item = i.1; there = there; of = of })

all_plain : (members : List MemberItem) (v : ℕ) → AllByRecursion (IfPlain (IsPlainAt members)) (names members v)
all_plain members v =
    named_so members v (IfPlain (IsPlainAt members))
    (λ i there of plain m at.
    let p : i.1 ≡ m = cc (there, at) in
    subst (λ (m : MemberItem). m.grant.actions < 4) p (ltb-true i.1.grant.actions 4 plain))

-- expressions by number ---------------------------------------------------------------------------------------------

record IsReadAt {A B : Type 0} (read : A → Result B PolicyFault) (ys : List B) (n : ℕ) (x : A) : Type 0 where
  value : B
  at : slice_get ys n ≡ Some value
  is : read x ≡ Ok value

read_at : {A B : Type 0} (read : ℕ × A → Result B PolicyFault) (k : ℕ) (xs : List A) (ys : List B)
    → all_of read (enumerate_from k xs) ≡ Ok ys → (n : ℕ) (x : A) → slice_get xs n ≡ Some x
    → IsReadAt read ys n (k + n, x)
read_at read k [] ys e n x at = absurd (cc (at))
read_at {A} {B} read k (a ∷ xs) ys e zero x at =
    let first = done (read (k, a)) (λ y. then_do (all_of read (enumerate_from (k + 1) xs)) (λ zs. Ok (y ∷ zs))) ys e in
    let second = done (all_of read (enumerate_from (k + 1) xs)) (λ zs. Ok (first.value ∷ zs)) ys first.second in
    let joined : first.value ∷ second.value ≡ ys = cc second.second in
    let p : a ≡ x = cc at in
    record {
      value = first.value;
      at = ap (λ (zs : List B). slice_get zs 0) (sym joined);
      is = ap₂ (λ (i : ℕ) (z : A). read (i, z)) (sym (here k)) (sym p) ∙ first.first;
    }
read_at {A} {B} read k (a ∷ xs) ys e (suc n) x at =
    let first = done (read (k, a)) (λ y. then_do (all_of read (enumerate_from (k + 1) xs)) (λ zs. Ok (y ∷ zs))) ys e in
    let second = done (all_of read (enumerate_from (k + 1) xs)) (λ zs. Ok (first.value ∷ zs)) ys first.second in
    let joined : first.value ∷ second.value ≡ ys = cc second.second in
    let r = read_at read (k + 1) xs second.value second.first n x at in
    record {
      value = r.value;
      at = ap (λ (zs : List B). slice_get zs (suc n)) (sym joined) ∙ r.at;
      is = ap (λ (i : ℕ). read (i, x)) (sym (behind k n)) ∙ r.is;
    }

record IsZippedAt {X Y Z : Type 0} (f : X × Y → Z) (xs : List X) (ys : List Y) (n : ℕ) (x : X) : Type 0 where
  other : Y
  at : slice_get (map f (zip xs ys)) n ≡ Some (f (x, other))

zipped_at : {X Y Z : Type 0} (f : X × Y → Z) (xs : List X) (ys : List Y) → length ys ≡ length xs → (n : ℕ) (x : X)
    → slice_get xs n ≡ Some x → IsZippedAt f xs ys n x
zipped_at f [] ys e n x at = absurd (cc (at))
zipped_at f (a ∷ xs) [] e n x at = absurd (omega (arith, e))
zipped_at f (a ∷ xs) (b ∷ ys) e zero x at =
    let p : a ≡ x = cc at in record { other = b; at = ap (λ z. Some (f (z, b))) p }
zipped_at f (a ∷ xs) (b ∷ ys) e (suc n) x at =
    let r = zipped_at f xs ys (omega (arith, e)) n x at in record { other = r.other; at = r.at }

read_as_is : (name : List ℕ) (r : Result Policy ExprFault) (e : Policy) → or_fault name r ≡ Ok e → r ≡ Ok e
read_as_is name (Ok p) e h = cc (h)
read_as_is name (Err fault) e h = absurd (cc (h))

-- the expression of a virtual switch was read from some text
pub record IsReadFrom (p : PolicyOf) (v : ℕ) (e : Policy) : Type 0 where
  pub text : List ℕ
  pub is : reading (names p.members v) text ≡ Ok e

pub read_from : (p : PolicyOf) (exprs : List Policy) → AreExpressions p exprs → (v : ℕ) (x : VirtualItem)
    → slice_get p.virtuals v ≡ Some x → IsReadFrom p v (expr_at exprs v)
read_from p exprs h v x at =
    let z = zipped_at with_text p.virtuals h.texts h.long v x at in
    let r = read_at (expr_of p.members) 0 (map with_text (zip p.virtuals h.texts)) exprs h.read v
    (with_text (x, z.other)) z.at in
    let e = ap (λ (o : Option Policy). option_map_or (λ (q : Policy). q) o (member 0)) r.at in
    record {
      text = z.other;
      is =
          ap (λ (i : ℕ). reading (names p.members i) z.other) (sym (from_zero v))
          ∙ (read_as_is x.name (reading (names p.members (0 + v)) z.other) r.value r.is ∙ ap Ok (sym e));
    }

-- the members of an expression of a state are members of its virtual switch
pub members_at : (p : PolicyOf) (exprs : List Policy) → AreExpressions p exprs → (v : ℕ) (x : VirtualItem)
    → slice_get p.virtuals v ≡ Some x → EachMember (IsMemberAt p.members v) (expr_at exprs v)
members_at p exprs h v x at =
    let r = read_from p exprs h v x at in
    members_read (IsMemberAt p.members v) (names p.members v) r.text (expr_at exprs v) (all_there p.members v) r.is

-- and those of left operands of `+` only output or send to themselves
pub lefts_at : (p : PolicyOf) (exprs : List Policy) → AreExpressions p exprs → (v : ℕ) (x : VirtualItem)
    → slice_get p.virtuals v ≡ Some x → EachLeft (IsPlainAt p.members) (expr_at exprs v)
lefts_at p exprs h v x at =
    let r = read_from p exprs h v x at in
    lefts_read (IsPlainAt p.members) (names p.members v) r.text (expr_at exprs v) (all_plain p.members v) r.is

as_many : {A B : Type 0} (read : A → Result B PolicyFault) (xs : List A) (ys : List B) → all_of read xs ≡ Ok ys
    → length ys ≡ length xs
as_many read [] ys e = let p : [] ≡ ys = cc e in ap length (sym p)
as_many read (x ∷ xs) ys e =
    let first = done (read x) (λ y. then_do (all_of read xs) (λ zs. Ok (y ∷ zs))) ys e in
    let second = done (all_of read xs) (λ zs. Ok (first.value ∷ zs)) ys first.second in
    let p : first.value ∷ second.value ≡ ys = cc second.second in
    ap length (sym p) ∙ ap suc (as_many read xs second.value second.first)

length_zipped : {X Y Z : Type 0} (f : X × Y → Z) (xs : List X) (ys : List Y) → length ys ≡ length xs
    → length (map f (zip xs ys)) ≡ length xs
length_zipped f [] ys e = refl
length_zipped f (x ∷ xs) [] e = absurd (omega (arith, e))
length_zipped f (x ∷ xs) (y ∷ ys) e = ap suc (length_zipped f xs ys (omega (arith, e)))

-- there is one for each virtual switch
pub one_each : (p : PolicyOf) (exprs : List Policy) → AreExpressions p exprs → length exprs ≡ length p.virtuals
one_each p exprs h =
    as_many (expr_of p.members) (enumerate_from 0 (map with_text (zip p.virtuals h.texts))) exprs h.read
    ∙ (length-enumerate_from 0 (map with_text (zip p.virtuals h.texts))
    ∙ length_zipped with_text p.virtuals h.texts h.long)

-- what is true of members is true in expressions --------------------------------------------------------------------

pub each_weaker : (P Q : ℕ → Type 0) → ((i : ℕ) → P i → Q i) → (e : Policy) → EachMember P e → EachMember Q e
each_weaker P Q f (member i) h = f i h
each_weaker P Q f (parallel a b) h = (each_weaker P Q f a h.0, each_weaker P Q f b h.1)
each_weaker P Q f (sequential a b) h = (each_weaker P Q f a h.0, each_weaker P Q f b h.1)
each_weaker P Q f (override a b) h = (each_weaker P Q f a h.0, each_weaker P Q f b h.1)

pub lefts_weaker : (P Q : ℕ → Type 0) → ((i : ℕ) → P i → Q i) → (e : Policy) → EachLeft P e → EachLeft Q e
lefts_weaker P Q f (member i) h = tt
lefts_weaker P Q f (parallel a b) h = (each_weaker P Q f a h.0, lefts_weaker P Q f a h.1, lefts_weaker P Q f b h.2)
lefts_weaker P Q f (sequential a b) h = (lefts_weaker P Q f a h.0, lefts_weaker P Q f b h.1)
lefts_weaker P Q f (override a b) h = (lefts_weaker P Q f a h.0, lefts_weaker P Q f b h.1)

-- two facts together
each_both : (P Q S : ℕ → Type 0) → ((i : ℕ) → P i → Q i → S i) → (e : Policy) → EachMember P e → EachMember Q e
    → EachMember S e
each_both P Q S f (member i) x y = f i x y
each_both P Q S f (parallel a b) x y = (each_both P Q S f a x.0 y.0, each_both P Q S f b x.1 y.1)
each_both P Q S f (sequential a b) x y = (each_both P Q S f a x.0 y.0, each_both P Q S f b x.1 y.1)
each_both P Q S f (override a b) x y = (each_both P Q S f a x.0 y.0, each_both P Q S f b x.1 y.1)

pub lefts_both : (P Q S : ℕ → Type 0) → ((i : ℕ) → P i → Q i → S i) → (e : Policy) → EachMember P e → EachLeft Q e
    → EachLeft S e
lefts_both P Q S f (member i) m h = tt
lefts_both P Q S f (parallel a b) m h =
    (each_both P Q S f a m.0 h.0, lefts_both P Q S f a m.0 h.1, lefts_both P Q S f b m.1 h.2)
lefts_both P Q S f (sequential a b) m h = (lefts_both P Q S f a m.0 h.0, lefts_both P Q S f b m.1 h.1)
lefts_both P Q S f (override a b) m h = (lefts_both P Q S f a m.0 h.0, lefts_both P Q S f b m.1 h.1)
