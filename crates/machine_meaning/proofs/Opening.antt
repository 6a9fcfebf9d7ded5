-- The opening state is sound.
use Rattle.std.proofs.Common.{◌≡◌, ◌∙◌, ℕ, ◌+◌, zero, suc, Bool, false, List, [], ◌∷◌, map, Some, None}
use Rattle.std.proofs.Common.{Result, Ok, Err, IsOk, IfOk, ◌||◌, sym, ap, subst, arith, refl}
use Rattle.std.specs.Prelude.{◌++◌, slice_get, zip, flat_map, unwrap_or}
use Rattle.std.specs.List.{AllByRecursion, IsDistinct, enumerate_from}
use Rattle.std.specs.Option.{option_map_or}
use Rattle.std.specs.List.Sorted.{IsStrictlySortedBy}
use Rattle.std.proofs.lemmas.Bool.{false≢true}
use Rattle.std.proofs.lemmas.List.{length-map}
use Rattle.cv_io.specs.Leaves.{same_leaf}
use Rattle.cv_io.specs.declared.leaf.Leaf.{Leaf}
use Rattle.install_plan.specs.declared.written.Written.{Written}
use Rattle.member_state.proofs.Plans.{opening_kept}
use Rattle.policy_expr.specs.Policy.{Policy}
use Rattle.policies.specs.Exprs.{exprs_of}
use Rattle.policies.specs.Policies.{PolicyOf, plan}
use Rattle.policies.specs.Sound.{IsSound, IsSoundMember as IsSoundItem}
use Rattle.policies.specs.Widths.{too_wide_in}
use Rattle.policies.specs.declared.fault.PolicyFault.{PolicyFault}
use Rattle.policies.specs.declared.policy.MemberItem.{MemberItem}
use Rattle.switch_state.specs.Known.{is_outstanding}
use Rattle.virtual_topology.specs.declared.plan.SwitchItem.{SwitchItem}
use Rattle.virtual_topology.specs.declared.plan.VirtualItem.{VirtualItem}
use Rattle.machine_meaning.specs.Counted.{leaves_in, leaves_of}
use Rattle.machine_meaning.specs.Laws.{OpeningIsSound}
use Rattle.machine_meaning.specs.Sound.{AreTyped, AreExpressions, AreSoundCounts, IsSoundMember, IsSoundSwitch}
use Rattle.machine_meaning.specs.Sound.{stands, with_text}
use Rattle.machine_meaning.specs.States.{MemberOf, SwitchOf, exprs_read, new_member, new_switch, nothing_stands}
use Rattle.machine_meaning.specs.States.{opening}
use Rattle.machine_meaning.proofs.Places.{at_place, made_of}

-- each virtual switch with its own text is itself
own_texts : (vs : List VirtualItem) → map with_text (zip vs (map (λ (v : VirtualItem). v.expr) vs)) ≡ vs
own_texts [] = refl
own_texts (v ∷ vs) = ap (λ (ws : List VirtualItem). v ∷ ws) (own_texts vs)

-- expressions that can be read are read
read_them : (r : Result (List Policy) PolicyFault) → IsOk r → r ≡ Ok (exprs_read r)
read_them (Ok exprs) h = refl
read_them (Err fault) h = absurd (false≢true h)

-- and what holds of them holds of what is read
of_read : (P : List Policy → Type 0) (r : Result (List Policy) PolicyFault) → IsOk r → IfOk r P → P (exprs_read r)
of_read P (Ok exprs) h q = q
of_read P (Err fault) h q = absurd (false≢true h)

opening_exprs : (p : PolicyOf) → IsSound p → AreExpressions p (opening p).exprs
opening_exprs p h = record {
  texts = map (λ (v : VirtualItem). v.expr) p.virtuals;
  long = length-map p.virtuals (λ (v : VirtualItem). v.expr);
  read =
      ap (λ (vs : List VirtualItem). exprs_of vs p.members) (own_texts p.virtuals)
      ∙ read_them (exprs_of p.virtuals p.members) h.together.expressions;
  fit =
      of_read (λ exprs. too_wide_in (plan p) p.members exprs p.hops ≡ None) (exprs_of p.virtuals p.members)
      h.together.expressions h.together.widths;
}

-- members have no entries
new_sound : (p : PolicyOf) (m : MemberItem) → IsSoundItem p.virtuals m → IsSoundMember p m (new_member m)
unfolding IsDistinct
new_sound p m h = record {
  outbox = λ e. refl;
  sound = record {
    table = record {
      begun = omega arith;
      given = tt;
      fits = omega arith;
      written = tt;
      once = tt;
      apart = tt;
    };
    kept = opening_kept m.bits m.entries h.least_bits h.most_bits;
  };
  within = tt;
  limit = refl;
  few = omega arith;
  size = refl;
}

opening_members : (p : PolicyOf) → IsSound p → (n : ℕ) (m : MemberItem) (x : MemberOf) → slice_get p.members n ≡ Some m
    → slice_get (map new_member p.members) n ≡ Some x → IsSoundMember p m x
opening_members p h n m x at got =
    let r = made_of new_member p.members n x got in
    let e : r.item ≡ m = cc (at, r.at) in
    subst (IsSoundMember p m) (ap new_member (sym e) ∙ r.is)
    (new_sound p m (at_place (IsSoundItem p.virtuals) p.members n m h.limits.members at))

opening_typed : (ms : List MemberItem) → AllByRecursion AreTyped (map new_member ms)
opening_typed [] = tt
opening_typed (m ∷ ms) = (tt, opening_typed ms)

-- nothing stands anywhere
stands_nowhere : (ss : List SwitchItem) (n : ℕ) → unwrap_or (slice_get (map nothing_stands ss) n) [] ≡ []
stands_nowhere [] n = refl
stands_nowhere (s ∷ ss) zero = refl
stands_nowhere (s ∷ ss) (suc n) = stands_nowhere ss n

opening_switches : (p : PolicyOf) (n : ℕ) (x : SwitchOf) → slice_get (map new_switch p.switches) n ≡ Some x
    → IsSoundSwitch p (opening p) n x
unfolding IsDistinct
opening_switches p n x got =
    let r = made_of new_switch p.switches n x got in
    let none = stands_nowhere p.switches n in
    subst (IsSoundSwitch p (opening p) n) r.is
    (record {
      outbox = λ e. refl;
      down = λ e. (refl, none);
      gives = λ e. absurd (false≢true e);
      begun = omega arith;
      cookies = rw none tt;
      deleted = tt;
      once = rw none tt;
      xid = omega arith;
    })

-- no leaf matters
no_leaves : (ms : List MemberItem) (k : ℕ) → flat_map leaves_in (enumerate_from k (map new_member ms)) ≡ []
no_leaves [] k = refl
no_leaves (m ∷ ms) k = no_leaves ms (k + 1)

leaves_nowhere : (p : PolicyOf) → leaves_of (opening p) ≡ []
leaves_nowhere p = ap (λ (leaves : List Leaf). leaves ++ []) (no_leaves p.members 0)

-- no cookie is outstanding
abbrev out_at : List SwitchItem → ℕ → ℕ → Bool
out_at ss n cookie =
    option_map_or (λ (x : SwitchOf). is_outstanding x.known cookie) (slice_get (map new_switch ss) n) false

none_outstanding : (ss : List SwitchItem) (n cookie : ℕ) → out_at ss n cookie ≡ false
none_outstanding [] n cookie = refl
none_outstanding (s ∷ ss) zero cookie = refl
none_outstanding (s ∷ ss) (suc n) cookie = none_outstanding ss n cookie

opening_counts : (p : PolicyOf) → AreSoundCounts (opening p)
unfolding IsDistinct IsStrictlySortedBy
opening_counts p = record {
  sorted = tt;
  live = λ n cookie.
      sym (ap (λ (ws : List Written). stands ws cookie || out_at p.switches n cookie) (stands_nowhere p.switches n)
      ∙ none_outstanding p.switches n cookie);
  once = subst (IsDistinct same_leaf) (sym (leaves_nowhere p)) tt;
  given = λ n serial h. absurd (false≢true h);
  kept = λ n serial h. refl;
  going = λ n serial h. refl;
  gone = λ n serial h k. refl;
}

pub opening_sound : OpeningIsSound
opening_sound p h = record {
  exprs = opening_exprs p h;
  all_members = length-map p.members new_member;
  all_switches = length-map p.switches new_switch;
  all_standing = length-map p.switches nothing_stands;
  members = opening_members p h;
  typed = opening_typed p.members;
  switches = opening_switches p;
  counts = opening_counts p;
  waiting = tt;
  owed = tt;
  written = (omega arith, omega arith);
}
