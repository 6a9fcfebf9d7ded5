-- The expression of a virtual switch names each of its members.
use Rattle.std.proofs.Common.{◌≡◌, ◌≢◌, ◌∙◌, ℕ, zero, suc, ◌+◌, ◌==◌, ◌&&◌, ◌||◌, Bool, true, false, true≢false, List}
use Rattle.std.proofs.Common.{[], ◌∷◌, ◌++◌, map, Option, Some, None, refl, sym, ap, ap₂, subst, eqb-true, eq-eqb}
use Rattle.std.specs.Prelude.{IfSome, filter_map, if◌then◌else◌, option_map, slice_get}
use Rattle.std.specs.List.{AllByRecursion, cons_option, enumerate_from, list_any}
use Rattle.std.proofs.lemmas.Slice.Eq.{bytes_eq-Decides}
use Rattle.policy_expr.specs.Grammar.{Derives, Strength, bare, more_atoms, more_pars, more_seqs, named}
use Rattle.policy_expr.specs.Grammar.{names_in, nested, one_atom, one_par, one_seq}
use Rattle.policy_expr.specs.Members.{first_repeated, first_unknown, first_unused, index_of, is_among, same_name}
use Rattle.policy_expr.specs.Policy.{Policy, members_of}
use Rattle.policy_expr.specs.Signs.{Sign, chain, fallback, plus, signs_of}
use Rattle.policy_expr.specs.declared.fault.ExprFault.TheVariants.{Twice, Unknown, Unused}
use Rattle.policy_expr.specs.declared.member.MemberName.{MemberName}
use Rattle.policy_expr.proofs.Accepted.{reading_accepted}
use Rattle.policies.specs.Exprs.{name_at, name_of, names}
use Rattle.policies.specs.Policies.{PolicyOf}
use Rattle.policies.specs.Sound.{AreUnlikeMembers, EachToEarlier, IsSound, IsSoundMember as IsSoundItem, StandsAt}
use Rattle.policies.specs.declared.policy.MemberItem.{MemberItem}
use Rattle.policy_setting.specs.Settings.{expr_at}
use Rattle.virtual_topology.proofs.Counted.{neither}
use Rattle.virtual_topology.specs.declared.plan.VirtualItem.{VirtualItem}
use Rattle.machine_meaning.specs.Sound.{AreExpressions}
use Rattle.machine_meaning.proofs.Expressions.{in_nested, names_append, no_option}
use Rattle.machine_meaning.proofs.Grants.{item_of}
use Rattle.machine_meaning.proofs.Numbered.{behind, from_zero, here}
use Rattle.machine_meaning.proofs.Places.{at_place}
use Rattle.machine_meaning.proofs.Readings.{read_from}
use Rattle.machine_meaning.proofs.Unchanged.{all_weaker}

-- the number is one of these
abbrev pub is_in : ℕ → List ℕ → Bool
is_in i js = list_any (λ j. i == j) js

or_true : (b : Bool) → (b || true) ≡ true
or_true true = refl
or_true false = refl

-- leaves ------------------------------------------------------------------------------------------------------------

map_both : {X Y : Type 0} (f : X → Y) (xs ys : List X) → map f xs ++ map f ys ≡ map f (xs ++ ys)
map_both f [] ys = refl
map_both f (x ∷ xs) ys = ap (λ zs. f x ∷ zs) (map_both f xs ys)

module _ (members : List MemberName) where
  joined : (a b : Policy) (left right : List Sign) → members_of a ≡ map (index_of members) (names_in left)
      → members_of b ≡ map (index_of members) (names_in right)
      → members_of a ++ members_of b ≡ map (index_of members) (names_in left ++ names_in right)
  joined a b left right e f =
      ap₂ (λ (is js : List ℕ). is ++ js) e f ∙ map_both (index_of members) (names_in left) (names_in right)

  -- the members of a tree are those of its names
  tree_members : (depth : ℕ) (st : Strength) (signs : List Sign) (p : Policy) → Derives members depth st signs p
      → members_of p ≡ map (index_of members) (names_in signs)
  tree_members _ _ _ _ (named depth n) = refl
  tree_members _ _ _ _ (nested depth inner p d) =
      tree_members _ _ inner p d ∙ ap (map (index_of members)) (sym (in_nested inner))
  tree_members _ _ _ _ (one_atom depth signs p d) = tree_members _ _ signs p d
  tree_members _ _ _ _ (one_seq depth signs p d) = tree_members _ _ signs p d
  tree_members _ _ _ _ (one_par depth signs p d) = tree_members _ _ signs p d
  tree_members _ _ _ _ (more_atoms depth left right a b d e) =
      joined a b left right (tree_members _ _ left a d) (tree_members _ _ right b e)
      ∙ ap (map (index_of members)) (sym (names_append left (chain ∷ right)))
  tree_members _ _ _ _ (more_seqs depth left right a b d e) =
      joined a b left right (tree_members _ _ left a d) (tree_members _ _ right b e)
      ∙ ap (map (index_of members)) (sym (names_append left (plus ∷ right)))
  tree_members _ _ _ _ (more_pars depth left right a b d e) =
      joined a b left right (tree_members _ _ left a d) (tree_members _ _ right b e)
      ∙ ap (map (index_of members)) (sym (names_append left (fallback ∷ right)))

  -- a member whose name is among these is one of theirs
  among_in : (i : ℕ) (name : List ℕ) → index_of members name ≡ i → (ns : List (List ℕ)) → is_among ns name ≡ true
      → is_in i (map (index_of members) ns) ≡ true
  among_in i name own [] e = absurd (true≢false (sym e))
  among_in i name own (n ∷ ns) e = by (same_name n name) refl e (among_in i name own ns)
    where
      by : (b : Bool) → same_name n name ≡ b → (if b then true else is_among ns name) ≡ true
          → (is_among ns name ≡ true → is_in i (map (index_of members) ns) ≡ true)
          → ((i == index_of members n) || is_in i (map (index_of members) ns)) ≡ true
      by true t f g =
          let same : n ≡ name = (bytes_eq-Decides n name).0 t in
          ap (λ b. b || is_in i (map (index_of members) ns))
          (eq-eqb i (index_of members n) (sym own ∙ ap (index_of members) (sym same)))
      by false t f g = ap (λ b. (i == index_of members n) || b) (g f) ∙ or_true (i == index_of members n)

-- each member's name is among those that are used
all_used : (ns : List (List ℕ)) (members : List MemberName) → first_unused ns members ≡ None
    → AllByRecursion (λ (m : MemberName). is_among ns m.name ≡ true) members
all_used ns [] e = tt
all_used ns (m ∷ ms) e = by (is_among ns m.name) refl e (all_used ns ms)
  where
    by : (b : Bool) → is_among ns m.name ≡ b → (if b then first_unused ns ms else Some m.name) ≡ None
        → (first_unused ns ms ≡ None → AllByRecursion (λ (m : MemberName). is_among ns m.name ≡ true) ms)
        → AllByRecursion (λ (m : MemberName). is_among ns m.name ≡ true) (m ∷ ms)
    by true t f g = (t, g f)
    by false t f g = absurd (cc)

-- members of one virtual switch -------------------------------------------------------------------------------------

module _ (v : ℕ) where
  -- two members of the virtual switch have two names
  abbrev Unlike : MemberItem → MemberItem → Type 0
  Unlike a b = a.grant.ports.v ≡ v → b.grant.ports.v ≡ v → a.controller ≢ b.controller

  -- what holds of all names holds of that of a member
  name_among : (Q : MemberName → Type 0) (k i : ℕ) (items : List MemberItem) (m : MemberItem)
      → AllByRecursion Q (filter_map (name_at v) (enumerate_from k items)) → slice_get items i ≡ Some m
      → m.grant.ports.v ≡ v → Q (name_of (k + i, m))
  name_among Q k i [] m h at of = absurd (cc at)
  name_among Q k zero (a ∷ bs) m h at of = by (a.grant.ports.v == v) (eq-eqb a.grant.ports.v v (own ∙ of)) h
    where
      same : a ≡ m
      same = cc at

      own : a.grant.ports.v ≡ m.grant.ports.v
      own = ap (λ (y : MemberItem). y.grant.ports.v) same

      by : (b : Bool) → b ≡ true
          → AllByRecursion Q
          (cons_option (if b then Some (name_of (k, a)) else None) (filter_map (name_at v) (enumerate_from (k + 1) bs)))
          → Q (name_of (k + 0, m))
      by true t h = subst (λ (j : ℕ). Q (name_of (j, m))) (here k)
          (subst (λ (y : MemberItem). Q (name_of (k, y))) same h.0)
      by false t h = absurd (true≢false (sym t))
  name_among Q k (suc i) (a ∷ bs) m h at of =
      by (a.grant.ports.v == v) h (λ r. name_among Q (k + 1) i bs m r at of)
    where
      rest : List MemberName
      rest = filter_map (name_at v) (enumerate_from (k + 1) bs)

      by : (b : Bool) → AllByRecursion Q (cons_option (if b then Some (name_of (k, a)) else None) rest)
          → (AllByRecursion Q rest → Q (name_of ((k + 1) + i, m))) → Q (name_of (k + suc i, m))
      by true h f = subst (λ (j : ℕ). Q (name_of (j, m))) (behind k i) (f h.1)
      by false h f = subst (λ (j : ℕ). Q (name_of (j, m))) (behind k i) (f h)

  -- the name of a member gives its number
  own_index : (k i : ℕ) (items : List MemberItem) (m : MemberItem) → EachToEarlier Unlike items
      → slice_get items i ≡ Some m → m.grant.ports.v ≡ v
      → index_of (filter_map (name_at v) (enumerate_from k items)) m.controller ≡ k + i
  own_index k i [] m u at of = absurd (cc at)
  own_index k zero (a ∷ bs) m u at of =
      ap (λ (b : Bool). index_of (cons_option (if b then Some (name_of (k, a)) else None) rest) m.controller)
      (eq-eqb a.grant.ports.v v (ap (λ (y : MemberItem). y.grant.ports.v) same ∙ of))
      ∙ (ap (λ (b : Bool). if b then k else index_of rest m.controller)
      ((bytes_eq-Decides a.controller m.controller).1 (ap (λ (y : MemberItem). y.controller) same))
      ∙ here k)
    where
      same : a ≡ m
      same = cc at

      rest : List MemberName
      rest = filter_map (name_at v) (enumerate_from (k + 1) bs)
  own_index k (suc i) (a ∷ bs) m u at of =
      by (a.grant.ports.v == v) refl (own_index (k + 1) i bs m u.1 at of ∙ behind k i)
    where
      rest : List MemberName
      rest = filter_map (name_at v) (enumerate_from (k + 1) bs)

      named_so : (a.grant.ports.v == v) ≡ true → (c : Bool) → same_name a.controller m.controller ≡ c
          → index_of rest m.controller ≡ k + suc i → (if c then k else index_of rest m.controller) ≡ k + suc i
      named_so t true f e =
          absurd (at_place (λ (y : MemberItem). Unlike y a) bs i m u.0 at of (eqb-true a.grant.ports.v v t)
          (sym ((bytes_eq-Decides a.controller m.controller).0 f)))
      named_so t false f e = e

      by : (b : Bool) → (a.grant.ports.v == v) ≡ b → index_of rest m.controller ≡ k + suc i
          → index_of (cons_option (if b then Some (name_of (k, a)) else None) rest) m.controller ≡ k + suc i
      by true t e = named_so t (same_name a.controller m.controller) refl e
      by false t e = e

  -- as a sound policy has them
  module _ (virtuals : List VirtualItem) (x : VirtualItem) (there : slice_get virtuals v ≡ Some x) where
    stands : (m : MemberItem) → StandsAt virtuals m → m.grant.ports.v ≡ v → x.name ≡ m.vsw
    stands m h of =
        subst (λ (o : Option VirtualItem). IfSome o (λ (y : VirtualItem). y.name ≡ m.vsw))
        (ap (slice_get virtuals) of ∙ there) h

    unlike : (a b : MemberItem) → StandsAt virtuals a → StandsAt virtuals b → AreUnlikeMembers a b → Unlike a b
    unlike a b h k u own other same =
        let vsw : a.vsw ≡ b.vsw = sym (stands a h own) ∙ stands b k other in
        true≢false
        (sym (ap₂ (λ (f g : Bool). f && g) ((bytes_eq-Decides a.controller b.controller).1 same)
        ((bytes_eq-Decides a.vsw b.vsw).1 vsw)) ∙ u)

    later_unlike : (b : MemberItem) → StandsAt virtuals b → (bs : List MemberItem)
        → AllByRecursion (StandsAt virtuals) bs
        → AllByRecursion (λ (a : MemberItem). AreUnlikeMembers a b) bs
        → AllByRecursion (λ (a : MemberItem). Unlike a b) bs
    later_unlike b k [] h u = tt
    later_unlike b k (a ∷ bs) h u = (unlike a b h.0 k u.0, later_unlike b k bs h.1 u.1)

    each_unlike : (items : List MemberItem) → AllByRecursion (StandsAt virtuals) items
        → EachToEarlier AreUnlikeMembers items → EachToEarlier Unlike items
    each_unlike [] h u = tt
    each_unlike (b ∷ bs) h u = (later_unlike b h.0 bs h.1 u.0, each_unlike bs h.1 u.1)

-- a policy ----------------------------------------------------------------------------------------------------------

-- each member is one of the expression of its virtual switch
pub is_named : (p : PolicyOf) → IsSound p → (exprs : List Policy) → AreExpressions p exprs → (i : ℕ) (m : MemberItem)
    → slice_get p.members i ≡ Some m → is_in i (members_of (expr_at exprs m.grant.ports.v)) ≡ true
is_named p h exprs expressions i m at =
    let v = m.grant.ports.v in
    let x = item_of p h i m at in
    let r = read_from p exprs expressions v x.item x.there in
    let members = names p.members v in
    let a = reading_accepted members r.text (expr_at exprs v) r.is in
    let ns = names_in (bare (signs_of r.text)) in
    let first = neither (option_map Unknown (first_unknown members ns)) _ a.rules in
    let second = neither (option_map Twice (first_repeated [] ns)) _ first.1 in
    let third = neither (option_map Unused (first_unused ns members)) _ second.1 in
    let used = all_used ns members (no_option Unused (first_unused ns members) third.0) in
    let stand =
    all_weaker (IsSoundItem p.virtuals) (StandsAt p.virtuals) (λ y k. k.stands) p.members h.limits.members in
    let own =
    own_index v 0 i p.members m (each_unlike v p.virtuals x.item x.there p.members stand h.limits.unlike_members) at
    refl
    ∙ from_zero i in
    subst (λ (js : List ℕ). is_in i js ≡ true)
    (sym (tree_members members _ _ (bare (signs_of r.text)) (expr_at exprs v) a.expression.derives))
    (among_in members i m.controller own ns
    (name_among v (λ (y : MemberName). is_among ns y.name ≡ true) 0 i p.members m used at refl))
