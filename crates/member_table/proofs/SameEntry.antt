-- The comparison of entries decides whether they are the same.
use Rattle.std.proofs.Common.{◌≡◌, ◌==◌, ◌&&◌, ℕ, Bool, true, refl, ap, sym, ◌∙◌, eqb-true, Decides}
use Rattle.std.specs.Cmp.Lexicographic.{pointwise, pointwise_decides}
use Rattle.std.proofs.lemmas.Bool.Decides.{Decides-and, Decides-eqb, Decides-like}
use Rattle.of10_match.specs.Same.{same_match}
use Rattle.of10_match.proofs.Same.{match_decides}
use Rattle.of10_actions.specs.contracts.action.ActionPartialEq.TheImpl.{ghosts as derived_action}
use Rattle.of10_actions.specs.declared.action.Action.{Action}
use Rattle.of10_actions.specs.declared.action.Action.TheVariants.{Output, SetVlanVid, SetVlanPcp, StripVlan, SetDlSrc}
use Rattle.of10_actions.specs.declared.action.Action.TheVariants.{SetDlDst, SetNwSrc, SetNwDst, SetNwTos, SetTpSrc}
use Rattle.of10_actions.specs.declared.action.Action.TheVariants.{SetTpDst, Enqueue}
use Rattle.member_table.specs.declared.entry.Entry.{Entry}
use Rattle.member_table.proofs.Least.{and_true}

action-is : (a b : Action) → derived_action.eq a b ≡ true → a ≡ b
action-is (Output p n) (Output q m) e = let s = and_true (p == q) (n == m) e in
    λ i. Output (eqb-true p q s.0 i) (eqb-true n m s.1 i)
action-is (SetVlanVid v) (SetVlanVid w) e = ap SetVlanVid (eqb-true v w e)
action-is (SetVlanPcp v) (SetVlanPcp w) e = ap SetVlanPcp (eqb-true v w e)
action-is StripVlan StripVlan e = refl
action-is (SetDlSrc v) (SetDlSrc w) e = ap SetDlSrc (eqb-true v w e)
action-is (SetDlDst v) (SetDlDst w) e = ap SetDlDst (eqb-true v w e)
action-is (SetNwSrc v) (SetNwSrc w) e = ap SetNwSrc (eqb-true v w e)
action-is (SetNwDst v) (SetNwDst w) e = ap SetNwDst (eqb-true v w e)
action-is (SetNwTos v) (SetNwTos w) e = ap SetNwTos (eqb-true v w e)
action-is (SetTpSrc v) (SetTpSrc w) e = ap SetTpSrc (eqb-true v w e)
action-is (SetTpDst v) (SetTpDst w) e = ap SetTpDst (eqb-true v w e)
action-is (Enqueue p n) (Enqueue q m) e = let s = and_true (p == q) (n == m) e in
    λ i. Enqueue (eqb-true p q s.0 i) (eqb-true n m s.1 i)
action-is _ _ e = cc

action-self : (a : Action) → derived_action.eq a a ≡ true
action-self (Output p n) = (Decides-and (p == p) (n == n) (Decides-eqb p p) (Decides-eqb n n)).1 (refl, refl)
action-self (SetVlanVid v) = (Decides-eqb v v).1 refl
action-self (SetVlanPcp v) = (Decides-eqb v v).1 refl
action-self StripVlan = refl
action-self (SetDlSrc v) = (Decides-eqb v v).1 refl
action-self (SetDlDst v) = (Decides-eqb v v).1 refl
action-self (SetNwSrc v) = (Decides-eqb v v).1 refl
action-self (SetNwDst v) = (Decides-eqb v v).1 refl
action-self (SetNwTos v) = (Decides-eqb v v).1 refl
action-self (SetTpSrc v) = (Decides-eqb v v).1 refl
action-self (SetTpDst v) = (Decides-eqb v v).1 refl
action-self (Enqueue p n) = (Decides-and (p == p) (n == n) (Decides-eqb p p) (Decides-eqb n n)).1 (refl, refl)

action_decides : (a b : Action) → Decides (derived_action.eq a b) (a ≡ b)
action_decides a b = (action-is a b, λ e. ap (derived_action.eq a) (sym e) ∙ action-self a)

-- numbers, and then the rest
number_and : {P : Type 0} (a b : ℕ) (rest : Bool) → Decides rest P → Decides ((a == b) && rest) ((a ≡ b) × P)
number_and a b rest d = Decides-and (a == b) rest (Decides-eqb a b) d

pub entry_decides : (d e : Entry) → Decides
    ((d.serial == e.serial) &&
    (pointwise ◌==◌ d.raw e.raw &&
    (same_match d.normal e.normal &&
    ((d.priority == e.priority) &&
    ((d.rank == e.rank) && ((d.cookie == e.cookie) && ((d.idle == e.idle) && ((d.hard == e.hard)
    && ((d.flags == e.flags) &&
    (pointwise derived_action.eq d.actions e.actions && ((d.added == e.added) && (d.last == e.last))))))))))))
    (d ≡ e)
entry_decides d e =
    Decides-like _
    (λ t. λ i. record {
      serial = t.0 i;
      raw = t.1.0 i;
      normal = t.1.1.0 i;
      priority = t.1.1.1.0 i;
      rank = t.1.1.1.1.0 i;
      cookie = t.1.1.1.1.1.0 i;
      idle = t.1.1.1.1.1.1.0 i;
      hard = t.1.1.1.1.1.1.1.0 i;
      flags = t.1.1.1.1.1.1.1.1.0 i;
      actions = t.1.1.1.1.1.1.1.1.1.0 i;
      added = t.1.1.1.1.1.1.1.1.1.1.0 i;
      last = t.1.1.1.1.1.1.1.1.1.1.1 i;
    })
    (λ s. (
      ap (λ (z : Entry). z.serial) s,
      (
        ap (λ (z : Entry). z.raw) s,
        (
          ap (λ (z : Entry). z.normal) s,
          (
            ap (λ (z : Entry). z.priority) s,
            (
              ap (λ (z : Entry). z.rank) s,
              (
                ap (λ (z : Entry). z.cookie) s,
                (
                  ap (λ (z : Entry). z.idle) s,
                  (
                    ap (λ (z : Entry). z.hard) s,
                    (
                      ap (λ (z : Entry). z.flags) s,
                      (ap (λ (z : Entry). z.actions) s, (ap (λ (z : Entry). z.added) s, ap (λ (z : Entry). z.last) s)),
                    ),
                  ),
                ),
              ),
            ),
          ),
        ),
      ),
    ))
    (number_and d.serial e.serial _
    (Decides-and (pointwise ◌==◌ d.raw e.raw) _ (pointwise_decides Decides-eqb d.raw e.raw)
    (Decides-and (same_match d.normal e.normal) _ (match_decides d.normal e.normal)
    (number_and d.priority e.priority _
    (number_and d.rank e.rank _
    (number_and d.cookie e.cookie _
    (number_and d.idle e.idle _ (number_and d.hard e.hard _ (number_and d.flags e.flags _
    (Decides-and (pointwise derived_action.eq d.actions e.actions) _
    (pointwise_decides action_decides d.actions e.actions)
    (number_and d.added e.added _ (Decides-eqb d.last e.last))))))))))))
