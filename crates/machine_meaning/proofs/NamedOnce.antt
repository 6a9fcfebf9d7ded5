-- An expression that was read has at most twelve leaves, and names no member twice.
use Rattle.std.proofs.Common.{◌≡◌, ◌≢◌, ◌∙◌, ℕ, suc, ◌≤◌, Bool, true, false, true≢false, List, [], ◌∷◌, ◌++◌, length}
use Rattle.std.proofs.Common.{map}
use Rattle.std.proofs.Common.{Option, Some, None, Ok, refl, sym, ap, ap₂, subst}
use Rattle.std.specs.Prelude.{if◌then◌else◌, nat_lt, option_map, slice_get}
use Rattle.std.specs.List.{AllByRecursion}
use Rattle.std.proofs.lemmas.Bool.{ltb-false}
use Rattle.std.proofs.lemmas.Slice.Eq.{bytes_eq-Decides}
use Rattle.policy_expr.specs.Grammar.{Derives, Strength, bare, more_atoms, more_pars, more_seqs, named}
use Rattle.policy_expr.specs.Grammar.{names_in, nested, one_atom, one_par, one_seq}
use Rattle.policy_expr.specs.Members.{first_repeated, first_unknown, first_unused, index_of, is_among}
use Rattle.policy_expr.specs.Members.{same_name}
use Rattle.policy_expr.specs.Policy.{Policy, members_of}
use Rattle.policy_expr.specs.Reading.{reading}
use Rattle.policy_expr.specs.Signs.{Sign, chain, fallback, plus, signs_of}
use Rattle.policy_expr.specs.Sizes.{leaf_count}
use Rattle.policy_expr.specs.declared.fault.ExprFault.TheVariants.{TooMany, Twice, Unknown, Unused}
use Rattle.policy_expr.specs.declared.member.MemberName.{MemberName}
use Rattle.policy_expr.proofs.Accepted.{reading_accepted}
use Rattle.policies.specs.Exprs.{names}
use Rattle.policies.specs.Policies.{PolicyOf}
use Rattle.policies.specs.declared.policy.MemberItem.{MemberItem}
use Rattle.policy_meaning.specs.LeafFact.{EachPair}
use Rattle.policy_setting.proofs.Parts.{mapped_pairs, pairs_weaker}
use Rattle.policy_setting.specs.Settings.{expr_at}
use Rattle.virtual_topology.proofs.Counted.{neither}
use Rattle.virtual_topology.specs.declared.plan.VirtualItem.{VirtualItem}
use Rattle.machine_meaning.specs.Sound.{AreExpressions}
use Rattle.machine_meaning.proofs.Expressions.{Known, all_known, in_nested, names_append, no_option}
use Rattle.machine_meaning.proofs.Readings.{named_so, read_from}

-- leaves ------------------------------------------------------------------------------------------------------------

map_both : {X Y : Type 0} (f : X → Y) (xs ys : List X) → map f xs ++ map f ys ≡ map f (xs ++ ys)
map_both f [] ys = refl
map_both f (x ∷ xs) ys = ap (λ zs. f x ∷ zs) (map_both f xs ys)

module _ (members : List MemberName) where
  joined : (a b : Policy) (left right : List Sign) → members_of a ≡ map (index_of members) (names_in left)
      → members_of b ≡ map (index_of members) (names_in right)
      → members_of a ++ members_of b ≡ map (index_of members) (names_in left ++ names_in right)
  joined a b left right e f =
      ap₂ (λ (is js : List ℕ). is ++ js) e f ∙ map_both (index_of members) (names_in left) (names_in right)

  -- the members of a tree are those of its names
  tree_members : (depth : ℕ) (st : Strength) (signs : List Sign) (p : Policy) → Derives members depth st signs p
      → members_of p ≡ map (index_of members) (names_in signs)
  tree_members _ _ _ _ (named depth n) = refl
  tree_members _ _ _ _ (nested depth inner p d) =
      tree_members _ _ inner p d ∙ ap (map (index_of members)) (sym (in_nested inner))
  tree_members _ _ _ _ (one_atom depth signs p d) = tree_members _ _ signs p d
  tree_members _ _ _ _ (one_seq depth signs p d) = tree_members _ _ signs p d
  tree_members _ _ _ _ (one_par depth signs p d) = tree_members _ _ signs p d
  tree_members _ _ _ _ (more_atoms depth left right a b d e) =
      joined a b left right (tree_members _ _ left a d) (tree_members _ _ right b e)
      ∙ ap (map (index_of members)) (sym (names_append left (chain ∷ right)))
  tree_members _ _ _ _ (more_seqs depth left right a b d e) =
      joined a b left right (tree_members _ _ left a d) (tree_members _ _ right b e)
      ∙ ap (map (index_of members)) (sym (names_append left (plus ∷ right)))
  tree_members _ _ _ _ (more_pars depth left right a b d e) =
      joined a b left right (tree_members _ _ left a d) (tree_members _ _ right b e)
      ∙ ap (map (index_of members)) (sym (names_append left (fallback ∷ right)))

-- names -------------------------------------------------------------------------------------------------------------

abbrev Unlike : List ℕ → List ℕ → Type 0
Unlike a b = same_name a b ≡ false

-- what isn't among names with one more isn't among them, and isn't that one
among_more : (seen : List (List ℕ)) (n k : List ℕ) → is_among (seen ++ n ∷ []) k ≡ false
    → (is_among seen k ≡ false) × Unlike n k
among_more [] n k e = by (same_name n k) refl e
  where
    by : (b : Bool) → same_name n k ≡ b → (if b then true else false) ≡ false → (false ≡ false) × Unlike n k
    by true t f = absurd (true≢false f)
    by false t f = (refl, t)
among_more (m ∷ ms) n k e = by (same_name m k) e (among_more ms n k)
  where
    by : (b : Bool) → (if b then true else is_among (ms ++ n ∷ []) k) ≡ false
        → (is_among (ms ++ n ∷ []) k ≡ false → (is_among ms k ≡ false) × Unlike n k)
        → ((if b then true else is_among ms k) ≡ false) × Unlike n k
    by true t f = absurd (true≢false t)
    by false t f = f t

record Fresh (seen ns : List (List ℕ)) : Type 0 where
  unseen : AllByRecursion (λ n. is_among seen n ≡ false) ns
  pairs : EachPair Unlike ns

split_more : (seen : List (List ℕ)) (n : List ℕ) (ns : List (List ℕ))
    → AllByRecursion (λ k. is_among (seen ++ n ∷ []) k ≡ false) ns
    → AllByRecursion (λ k. is_among seen k ≡ false) ns × AllByRecursion (Unlike n) ns
split_more seen n [] h = (tt, tt)
split_more seen n (k ∷ ks) h =
    let r = among_more seen n k h.0 in
    let rest = split_more seen n ks h.1 in
    ((r.0, rest.0), (r.1, rest.1))

never_again : (seen ns : List (List ℕ)) → first_repeated seen ns ≡ None → Fresh seen ns
never_again seen [] e = record { unseen = tt; pairs = tt }
never_again seen (n ∷ ns) e = by (is_among seen n) refl e (never_again (seen ++ n ∷ []) ns)
  where
    by : (b : Bool) → is_among seen n ≡ b → (if b then Some n else first_repeated (seen ++ n ∷ []) ns) ≡ None
        → (first_repeated (seen ++ n ∷ []) ns ≡ None → Fresh (seen ++ n ∷ []) ns) → Fresh seen (n ∷ ns)
    by true t f g = absurd (cc)
    by false t f g =
        let r = g f in
        let s = split_more seen n ns r.unseen in
        record { unseen = (t, s.0); pairs = (s.1, r.pairs) }

-- the member of a name is called so
found_named : (f : ℕ → Option (List ℕ)) (members : List MemberName) (n : List ℕ)
    → AllByRecursion (λ (m : MemberName). f m.index ≡ Some m.name) members → Known members n
    → f (index_of members n) ≡ Some n
found_named f [] n h e = absurd (true≢false (sym e))
found_named f (m ∷ ms) n h e = by (same_name m.name n) refl e (found_named f ms n h.1)
  where
    by : (b : Bool) → same_name m.name n ≡ b
        → (if b then true else is_among (map (λ (m : MemberName). m.name) ms) n) ≡ true
        → (is_among (map (λ (m : MemberName). m.name) ms) n ≡ true → f (index_of ms n) ≡ Some n)
        → f (if b then m.index else index_of ms n) ≡ Some n
    by true t q g = h.0 ∙ ap (λ (k : List ℕ). Some k) ((bytes_eq-Decides m.name n).0 t)
    by false t q g = g q

some_same : {X : Type 0} {x y : X} → Some x ≡ Some y → x ≡ y
some_same e = cc

-- so no two names have one member
two_members : (f : ℕ → Option (List ℕ)) (members : List MemberName)
    → AllByRecursion (λ (m : MemberName). f m.index ≡ Some m.name) members → (a b : List ℕ) → Known members a
    → Known members b → Unlike a b → index_of members a ≢ index_of members b
two_members f members h a b k l unlike e =
    let same : a ≡ b = some_same (sym (found_named f members a h k) ∙ (ap f e ∙ found_named f members b h l)) in
    true≢false (sym ((bytes_eq-Decides a b).1 same) ∙ unlike)

-- what was read -----------------------------------------------------------------------------------------------------

abbrev IsOnce : Policy → Type 0
IsOnce e = EachPair (λ (i j : ℕ). i ≢ j) (members_of e)

few_names : (n : ℕ) → (if nat_lt 12 n then Some (TooMany n) else None) ≡ None → n ≤ 12
few_names n e = by (nat_lt 12 n) refl e
  where
    by : (b : Bool) → nat_lt 12 n ≡ b → (if b then Some (TooMany n) else None) ≡ None → n ≤ 12
    by true t f = absurd (cc)
    by false t f = ltb-false 12 n t

long_map : {X Y : Type 0} (f : X → Y) (xs : List X) → length (map f xs) ≡ length xs
long_map f [] = refl
long_map f (x ∷ xs) = ap suc (long_map f xs)

-- an expression with few leaves, each of another member
pub record IsShort (e : Policy) : Type 0 where
  pub few : leaf_count e ≤ 12
  pub once : EachPair (λ (i j : ℕ). i ≢ j) (members_of e)

read_short : (f : ℕ → Option (List ℕ)) (members : List MemberName) (text : List ℕ) (p : Policy)
    → AllByRecursion (λ (m : MemberName). f m.index ≡ Some m.name) members → reading members text ≡ Ok p → IsShort p
read_short f members text p h e =
    let a = reading_accepted members text p e in
    let ns = names_in (bare (signs_of text)) in
    let first = neither (option_map Unknown (first_unknown members ns)) _ a.rules in
    let second = neither (option_map Twice (first_repeated [] ns)) _ first.1 in
    let third = neither (option_map Unused (first_unused ns members)) _ second.1 in
    let fourth = neither (if nat_lt 12 (length ns) then Some (TooMany (length ns)) else None) _ third.1 in
    let tree = tree_members members _ _ (bare (signs_of text)) p a.expression.derives in
    let fresh = never_again [] ns (no_option Twice (first_repeated [] ns) second.0) in
    let known = all_known members ns (no_option Unknown (first_unknown members ns) first.0) in
    record {
      few =
          subst (λ (k : ℕ). k ≤ 12) (sym (ap length tree ∙ long_map (index_of members) ns))
          (few_names (length ns) fourth.0);
      once =
          subst (EachPair (λ (i j : ℕ). i ≢ j)) (sym tree)
          (mapped_pairs (index_of members) (λ (i j : ℕ). i ≢ j) ns
          (pairs_weaker (Known members) Unlike (λ a b. index_of members a ≢ index_of members b)
          (two_members f members h) ns known fresh.pairs));
    }

-- each expression of a state is so
pub short_at : (p : PolicyOf) (exprs : List Policy) → AreExpressions p exprs → (v : ℕ) (x : VirtualItem)
    → slice_get p.virtuals v ≡ Some x → IsShort (expr_at exprs v)
short_at p exprs h v x at =
    let r = read_from p exprs h v x at in
    let f : ℕ → Option (List ℕ) = λ i. option_map (λ (m : MemberItem). m.controller) (slice_get p.members i) in
    read_short f (names p.members v) r.text (expr_at exprs v)
    (named_so p.members v (λ (m : MemberName). f m.index ≡ Some m.name)
    (λ i there of. ap (option_map (λ (m : MemberItem). m.controller)) there)) r.is
