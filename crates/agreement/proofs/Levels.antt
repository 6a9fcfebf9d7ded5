-- All rules of a node, and of a whole virtual switch, are below its size.
use Rattle.std.proofs.Common.{◌≡◌, ℕ, suc, ◌-◌, ◌<◌, Bool, true, false, ◌||◌, List, [], ◌∷◌, Some, refl, ap, ◌∙◌, sym}
use Rattle.std.proofs.Common.{subst, arith, mul-one, eqb-true, Option, None}
use Rattle.std.specs.Prelude.{◌==◌, if◌then◌else◌, map, slice_get}
use Rattle.std.specs.List.{AllByRecursion}
use Rattle.std.proofs.lemmas.List.Folds.{list_any-append}
use Rattle.of10_match.specs.Fields.{HeaderOf, MatchOf}
use Rattle.of10_match.specs.Matching.{agree, either, holds, meet}
use Rattle.of10_match.proofs.FieldTests.{overlaps-fields}
use Rattle.policy_meaning.specs.Best.{Below, EachAt}
use Rattle.policy_meaning.specs.EveryNode.{IsSoundNetwork}
use Rattle.policy_meaning.specs.Hops.{hop_size, node}
use Rattle.policy_meaning.specs.Leaf.{has_port}
use Rattle.policy_meaning.specs.Networks.{enters, fabric_of, ports_of, switch_rules, switch_size}
use Rattle.policy_meaning.specs.declared.network.Link.{Link}
use Rattle.policy_meaning.specs.declared.network.Network.{Network}
use Rattle.policy_meaning.specs.declared.network.VirtualSwitch.{VirtualSwitch}
use Rattle.policy_meaning.specs.declared.rule.Rule.{Rule}
use Rattle.policy_meaning.specs.Walk.{takes}
use Rattle.policy_meaning.proofs.Booleans.{some_injective}
use Rattle.policy_meaning.proofs.Meeting.{meet_holds, some_meet}
use Rattle.switch_meaning.specs.Placing.{untagged}
use Rattle.policy_meaning.proofs.BestLemmas.{best_most}
use Rattle.policy_meaning.proofs.Everywhere.{every_node, switch-says}
use Rattle.policy_meaning.proofs.Lists.{all-map}
use Rattle.agreement.proofs.Holder.{holder, holder-held, holder-port, holder-ports, holder-tag}
use Rattle.agreement.proofs.NodeRules.{Names, node-names}
use Rattle.agreement.proofs.WholeRules.{RuleKeeps}

-- what each item says of all is true of itself
on_itself : {A : Type 0} (G : A → Type 0) (R : A → A → Type 0) (xs : List A) → AllByRecursion G xs
    → ((x : A) → G x → AllByRecursion (R x) xs) → AllByRecursion (λ x. R x x) xs
on_itself G R [] g f = tt
on_itself G R (x ∷ xs) g f = ((f x g.0).0, on_itself G R xs g.1 (λ y h. (f y h).1))

or_left : (a b : Bool) → a ≡ true → (a || b) ≡ true
or_left a b e = rw e refl

-- an outside port is a port
pub has-outside : (x : VirtualSwitch) (p : ℕ) → has_port x.outside p ≡ true → has_port (ports_of x) p ≡ true
has-outside x p has = list_any-append (λ q. q == p) x.outside (map (λ (l : Link). l.port) x.links) ∙ or_left _ _ has

-- a header that comes by an outside port, and is taken, enters
pub enters-outside : (net : Network) (v : ℕ) (x : VirtualSwitch) (h : HeaderOf) → slice_get net.switches v ≡ Some x
    → takes x.spread h ≡ true → has_port x.outside h.in_port ≡ true → enters net v h ≡ true
enters-outside net v x h at taken has =
    let there : has_port (ports_of x) h.in_port ≡ true = has-outside x h.in_port has in
    rw (at, there, taken) refl

-- each rule of a node of a hop or more names the port
pub all-name : (net : Network) (hops v q : ℕ) → 0 < hops → AllByRecursion (Names q) (node (fabric_of net) hops v q)
all-name net hops v q lt =
    let one : suc (hops - 1) ≡ hops = omega arith in
    subst (λ (n : ℕ). AllByRecursion (Names q) (node (fabric_of net) n v q)) one
    (node-names (fabric_of net) (hops - 1) v q)

-- what a spread virtual switch leaves of a match
abbrev pub left_of : Bool → MatchOf → Option MatchOf
left_of spread m = if spread then meet m untagged else Some m

named-tag : (o : Option ℕ) → agree o (Some 65535) ≡ true → either o (Some 65535) ≡ Some 65535
named-tag None e = refl
named-tag (Some w) e = ap Some (eqb-true w 65535 e)

left-taken : (b : Bool) (q : ℕ) (m n : MatchOf) → left_of b m ≡ Some n → takes b (holder q n) ≡ true
left-taken false q m n e = refl
left-taken true q m n e =
    let s = some_meet m untagged n e in
    let tag : n.dl_vlan ≡ Some 65535 = ap (λ (z : MatchOf). z.dl_vlan) (sym s.1)
    ∙ named-tag m.dl_vlan (overlaps-fields m untagged s.0).dl_vlan in
    rw (holder-tag q n 65535 tag) refl

-- a header that it holds, the match holds
pub left-holds : (b : Bool) (m n : MatchOf) (h : HeaderOf) → left_of b m ≡ Some n → holds n h ≡ true → holds m h ≡ true
left-holds false m n h e p = ap (λ (z : MatchOf). holds z h) (some_injective e) ∙ p
left-holds true m n h e p = let s = some_meet m untagged n e in
    (meet_holds m untagged h (ap (λ (z : MatchOf). holds z h) s.1 ∙ p) s.0).0

pub left-port : (b : Bool) (m n : MatchOf) (p : ℕ) → left_of b m ≡ Some n → m.in_port ≡ Some p → n.in_port ≡ Some p
left-port false m n p e f = ap (λ (z : MatchOf). z.in_port) (sym (some_injective e)) ∙ f
left-port true m n p e f = ap (λ (z : MatchOf). z.in_port) (sym (some_meet m untagged n e).1)
    ∙ ap (λ o. either o None) f

all-for : {A B : Type 0} (P : B → A → Type 0) (xs : List A) → ((b : B) → AllByRecursion (P b) xs)
    → AllByRecursion (λ x. (b : B) → P b x) xs
all-for P [] f = tt
all-for P (x ∷ xs) f = ((λ b. (f b).0), all-for P xs (λ b. (f b).1))

all-if : {A : Type 0} (Q : Type 0) (P : A → Type 0) (xs : List A) → (Q → AllByRecursion P xs)
    → AllByRecursion (λ x. Q → P x) xs
all-if Q P [] f = tt
all-if Q P (x ∷ xs) f = ((λ q. (f q).0), all-if Q P xs (λ q. (f q).1))

module _ (net : Network) (good : IsSoundNetwork net) (hops v : ℕ) (x : VirtualSwitch)
    (at : slice_get net.switches v ≡ Some x) (q : ℕ) (has : has_port x.outside q ≡ true) where
  abbrev size : ℕ
  size = hop_size (fabric_of net) hops v

  -- what is left of a rule
  abbrev LeavesOf : Rule → MatchOf → Type 0
  LeavesOf r m = left_of x.spread r.m ≡ Some m

  -- as the best of those that hold the header of what is left
  rule-below : (r : Rule) → Names q r → (m : MatchOf) → LeavesOf r m
      → EachAt (holder q m) (Below size) (node (fabric_of net) hops v q)
  rule-below r n m l =
      let k = holder q m in
      let port : k.in_port ≡ q = holder-port q m q (left-port x.spread r.m m q l n) in
      let says = every_node net good hops v k
      (enters-outside net v x k at (left-taken x.spread q r.m m l) (ap (λ p. has_port x.outside p) port ∙ has)) in
      subst (λ (p : ℕ). EachAt k (Below size) (node (fabric_of net) hops v p)) port
      (best_most k says.best size says.below)

  abbrev pub LeftBelow : Rule → Type 0
  LeftBelow r = (m : MatchOf) → LeavesOf r m → r.level < size

  pub all-below : 0 < hops → AllByRecursion LeftBelow (node (fabric_of net) hops v q)
  all-below lt =
      all-map (λ (r : Rule). (m : MatchOf) → LeavesOf r m → holds r.m (holder q m) ≡ true
      → Below size r) LeftBelow (node (fabric_of net) hops v q)
      (λ r f m l. f m l (left-holds x.spread r.m m (holder q m) l (holder-held q m)))
      (on_itself (Names q) (λ (r y : Rule). (m : MatchOf) → LeavesOf r m → holds y.m (holder q m) ≡ true
      → Below size y) (node (fabric_of net) hops v q) (all-name net hops v q lt)
      (λ r n. all-for (λ (m : MatchOf) (y : Rule). LeavesOf r m → holds y.m (holder q m) ≡ true
      → Below size y) (node (fabric_of net) hops v q)
      (λ m. all-if (LeavesOf r m) (λ (y : Rule). holds y.m (holder q m) ≡ true
      → Below size y) (node (fabric_of net) hops v q) (rule-below r n m))))

-- where links lead nowhere, sizes over hops are those of the expression
size-alone : (net : Network) (n v : ℕ) (x : VirtualSwitch) → slice_get net.switches v ≡ Some x → x.links ≡ []
    → hop_size (fabric_of net) (suc n) v ≡ switch_size net.tables (Some x)
size-alone net n v x at none = rw (at, none) (mul-one (switch_size net.tables (Some x)))

-- all rules of a whole virtual switch are below its size
module _ (net : Network) (good : IsSoundNetwork net) (v : ℕ) (x : VirtualSwitch)
    (at : slice_get net.switches v ≡ Some x)
    (keeps : AllByRecursion (RuleKeeps x.outside) (switch_rules net.tables (Some x))) (q : ℕ)
    (has : has_port x.outside q ≡ true) where
  whole-rule-below : (r : Rule) → RuleKeeps x.outside r
      → EachAt (holder q r.m) (Below (switch_size net.tables (Some x))) (switch_rules net.tables (Some x))
  whole-rule-below r n =
      let k = holder q r.m in
      let says = switch-says net.tables x (good.switches v x at) k
      (has-outside x k.in_port (holder-ports x.outside q r.m has n)) in
      best_most k says.best (switch_size net.tables (Some x)) says.below

  pub whole-below : (hops : ℕ) → 0 < hops → x.links ≡ []
      → AllByRecursion (Below (hop_size (fabric_of net) hops v)) (switch_rules net.tables (Some x))
  whole-below hops lt none =
      let one : suc (hops - 1) ≡ hops = omega arith in
      let size : switch_size net.tables (Some x) ≡ hop_size (fabric_of net) hops v =
      sym (size-alone net (hops - 1) v x at none) ∙ ap (λ n. hop_size (fabric_of net) n v) one in
      all-map (λ (r : Rule). holds r.m (holder q r.m) ≡ true
      → Below (switch_size net.tables (Some x)) r) (Below (hop_size (fabric_of net) hops v))
      (switch_rules net.tables (Some x))
      (λ r f. let lt : r.level < switch_size net.tables (Some x) = f (holder-held q r.m) in omega arith)
      (on_itself (RuleKeeps x.outside) (λ (r y : Rule). holds y.m (holder q r.m) ≡ true
      → Below (switch_size net.tables (Some x)) y) (switch_rules net.tables (Some x)) keeps whole-rule-below)
