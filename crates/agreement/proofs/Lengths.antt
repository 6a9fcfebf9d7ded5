-- How many bytes the actions of entries have.
use Rattle.std.proofs.Common.{◌≡◌, ℕ, ◌+◌, ◌*◌, ◌<◌, ◌≤◌, Bool, true, false, List, [], ◌∷◌, ◌++◌, Option, Some, None}
use Rattle.std.proofs.Common.{refl, ap, ◌∙◌, sym, subst, arith, length, length-append}
use Rattle.std.specs.Prelude.{◌==◌, filter, filter_map, flat_map, if◌then◌else◌, map, not, option_map, option_to_list}
use Rattle.std.specs.Prelude.{slice_get}
use Rattle.std.specs.List.{AllByRecursion, enumerate_from}
use Rattle.std.proofs.lemmas.Grind.{flat_map-append}
use Rattle.std.proofs.Math.Nat.{mul-le-mul_left, mul-le-mul_right}
use Rattle.of10_actions.specs.Fields.{RewriteOf}
use Rattle.of10_actions.specs.Kinds.{length_of, type_of}
use Rattle.of10_actions.specs.Numbers.{CONTROLLER}
use Rattle.of10_actions.specs.Rewriting.{and_then, no_rewrite}
use Rattle.of10_actions.specs.Spelling.{spelling, spellings}
use Rattle.of10_actions.specs.declared.action.Action.{Action}
use Rattle.of10_actions.specs.declared.action.Action.TheVariants.{Output, SetDlDst, SetDlSrc, SetNwDst, SetNwSrc}
use Rattle.of10_actions.specs.declared.action.Action.TheVariants.{SetNwTos, SetTpDst, SetTpSrc, SetVlanVid, StripVlan}
use Rattle.of10_actions.specs.declared.effects.Out.{Out}
use Rattle.of10_actions.specs.declared.effects.Tail.TheVariants.{Nothing}
use Rattle.of10_actions.proofs.Encoding.{spells_length}
use Rattle.of10_actions.proofs.Lists.{spelling_spells}
use Rattle.policy_expr.specs.Sizes.{leaf_count}
use Rattle.policy_meaning.specs.Hops.{node}
use Rattle.policy_meaning.specs.Networks.{entering, fabric_of, ports_of, switch_rules}
use Rattle.policy_meaning.specs.Switches.{SwitchOf}
use Rattle.policy_meaning.specs.Written.{HasLeaves, IsWrittenBy, field_writes, set_writes, writes, writes_from}
use Rattle.policy_meaning.specs.declared.fabric.Entering.{Entering}
use Rattle.policy_meaning.specs.declared.rule.Rule.{Rule}
use Rattle.policy_meaning.proofs.Lists.{all-append, all-each, all-filter_map, all-flat_map, all-map, all-mapped}
use Rattle.policy_meaning.proofs.Lists.{all-zip}
use Rattle.policy_meaning.proofs.WrittenRules.{nodes-are-written, nodes-have-leaves, rules-are-written}
use Rattle.policy_meaning.proofs.WrittenRules.{rules-have-leaves}
use Rattle.policy_meaning.proofs.Writes.{sets-set, writes-ended, writes-lower}
use Rattle.switch_meaning.specs.Fixed.{drop_entry, drops, fixed_entries, guard, guards, is_guarded, transit}
use Rattle.switch_meaning.specs.Fixed.{transit_actions, transits, transits_to}
use Rattle.switch_meaning.specs.Placing.{actions_from, actions_of, entry_of, going, ingress_of, is_silent, outs_written}
use Rattle.switch_meaning.specs.Placing.{retag, set_unless, sets, tells, way_of}
use Rattle.of10_actions.specs.Same.{same_action}
use Rattle.switch_meaning.specs.Wirings.{next_hop}
use Rattle.switch_meaning.specs.declared.entry.PhysEntry.{PhysEntry}
use Rattle.switch_meaning.specs.declared.entry.Site.{Site}
use Rattle.switch_meaning.specs.declared.placing.Way.{Way}
use Rattle.switch_meaning.specs.declared.wiring.Outside.{Outside}
use Rattle.switch_meaning.specs.declared.wiring.SwitchPort.{SwitchPort}
use Rattle.switch_meaning.specs.declared.wiring.Wiring.{Wiring}
use Rattle.switch_meaning.proofs.Items.{all-filter}
use Rattle.agreement.specs.declared.state.Setting.{Setting}
use Rattle.agreement.specs.Entries.{dropping, enters_on, entries_for, entries_of, flat, is_whole, placed, ports_at}
use Rattle.agreement.specs.Entries.{site_at}
use Rattle.agreement.specs.Lengths.{AddFits, AddsFit, IsWrittenWithin, ListsAreShort, bytes_of}
use Rattle.agreement.specs.Premises.{IsSoundSetting}
use Rattle.agreement.proofs.Alone.{all-numbered}
use Rattle.agreement.proofs.RuleEntries.{written}

-- how many bytes actions have
size : List Action → ℕ
size xs = length (spellings xs)

size-append : (xs ys : List Action) → size (xs ++ ys) ≡ size xs + size ys
unfolding size
size-append xs ys = ap length (flat_map-append spelling xs ys) ∙ length-append (spellings xs) (spellings ys)

size-none : size [] ≡ 0
unfolding size
size-none = refl

size-cons : (a : Action) (xs : List Action) → size (a ∷ xs) ≡ length_of (type_of a) + size xs
unfolding size
size-cons a xs = length-append (spelling a) (spellings xs)
    ∙ ap (λ z. z + length (spellings xs)) (spells_length a (spelling a) (spelling_spells a))

size-if : (b : Bool) (a : Action) → length_of (type_of a) ≤ 16
    → size (if b then [] else a ∷ []) ≤ 16 * (if b then 0 else 1)
size-if true a le = omega (arith, size-none)
size-if false a le = omega (arith, size-cons a [], size-none)

-- one field
size-field : (set : ℕ → Action) → ((u v : ℕ) → same_action (set u) (set v) ≡ (u == v))
    → ((v : ℕ) → length_of (type_of (set v)) ≤ 16) → (x y : Option ℕ)
    → size (set_unless (option_map set x) (option_map set y)) ≤ 16 * field_writes x y
size-field set same long x None = omega (arith, size-none)
size-field set same long None (Some v) = omega (arith, size-cons (set v) [], size-none, long v)
size-field set same long (Some u) (Some v) =
    subst (λ b. size (if b then [] else set v ∷ []) ≤ 16 * (if u == v then 0 else 1)) (sym (same u v))
    (size-if (u == v) (set v) (long v))

seven : (a b c d e f g : List Action)
    → size (a ++ (b ++ (c ++ (d ++ (e ++ (f ++ (g ++ [])))))))
    ≡ size a + (size b + (size c + (size d + (size e + (size f + size g)))))
seven a b c d e f g =
    let s1 = size-append a (b ++ (c ++ (d ++ (e ++ (f ++ (g ++ [])))))) in
    let s2 = size-append b (c ++ (d ++ (e ++ (f ++ (g ++ []))))) in
    let s3 = size-append c (d ++ (e ++ (f ++ (g ++ [])))) in
    let s4 = size-append d (e ++ (f ++ (g ++ []))) in
    let s5 = size-append e (f ++ (g ++ [])) in
    let s6 = size-append f (g ++ []) in
    let s7 = size-append g [] in
    omega (arith, s1, s2, s3, s4, s5, s6, s7, size-none)

size-sets : (now want : RewriteOf) → size (sets now want) ≤ 16 * set_writes now want
size-sets now want =
    let all = seven (set_unless (option_map SetDlSrc now.dl_src) (option_map SetDlSrc want.dl_src))
    (set_unless (option_map SetDlDst now.dl_dst) (option_map SetDlDst want.dl_dst))
    (set_unless (option_map SetNwSrc now.nw_src) (option_map SetNwSrc want.nw_src))
    (set_unless (option_map SetNwDst now.nw_dst) (option_map SetNwDst want.nw_dst))
    (set_unless (option_map SetNwTos now.nw_tos) (option_map SetNwTos want.nw_tos))
    (set_unless (option_map SetTpSrc now.tp_src) (option_map SetTpSrc want.tp_src))
    (set_unless (option_map SetTpDst now.tp_dst) (option_map SetTpDst want.tp_dst)) in
    let f1 = size-field SetDlSrc (λ u v. refl) (λ v. omega arith) now.dl_src want.dl_src in
    let f2 = size-field SetDlDst (λ u v. refl) (λ v. omega arith) now.dl_dst want.dl_dst in
    let f3 = size-field SetNwSrc (λ u v. refl) (λ v. omega arith) now.nw_src want.nw_src in
    let f4 = size-field SetNwDst (λ u v. refl) (λ v. omega arith) now.nw_dst want.nw_dst in
    let f5 = size-field SetNwTos (λ u v. refl) (λ v. omega arith) now.nw_tos want.nw_tos in
    let f6 = size-field SetTpSrc (λ u v. refl) (λ v. omega arith) now.tp_src want.tp_src in
    let f7 = size-field SetTpDst (λ u v. refl) (λ v. omega arith) now.tp_dst want.tp_dst in
    omega (arith, all, f1, f2, f3, f4, f5, f6, f7)

size-tag : (b : Bool) (u : ℕ) → size (if b then [] else SetVlanVid u ∷ []) ≤ 8
size-tag true u = omega (arith, size-none)
size-tag false u = omega (arith, size-cons (SetVlanVid u) [], size-none)

size-retag : (t u : Option ℕ) → size (retag t u) ≤ 8
size-retag None None = omega (arith, size-none)
size-retag (Some t) None = omega (arith, size-cons StripVlan [], size-none)
size-retag None (Some u) = omega (arith, size-cons (SetVlanVid u) [], size-none)
size-retag (Some t) (Some u) = size-tag (t == u) u

module _ (w : Wiring) (switch : ℕ) (ingress : Option ℕ) where
  size-going : (way : Option Way) (now : RewriteOf) (tag : Option ℕ) (r : RewriteOf) (later : RewriteOf → Option ℕ
      → List Action) (n : ℕ) →
      ((now : RewriteOf) (tag : Option ℕ) → size (later now tag) ≤ 16 * (set_writes now r + n))
      → size (going way now tag r later) ≤ 16 * (set_writes now r + (1 + n))
  size-going None now tag r later n le = let l : size (later now tag) ≤ 16 * (set_writes now r + n) = le now tag in
      omega arith
  size-going (Some way) now tag r later n le =
      let rest = later (and_then now r) way.tag in
      let l : size rest ≤ 16 * (set_writes (and_then now r) r + n) = le (and_then now r) way.tag in
      let none : set_writes (and_then now r) r ≡ 0 = sets-set now r in
      let a = size-append (sets now r) (retag tag way.tag ++ (Output way.port 0 ∷ rest)) in
      let b = size-append (retag tag way.tag) (Output way.port 0 ∷ rest) in
      let c = size-cons (Output way.port 0) rest in
      let s = size-sets now r in
      let t = size-retag tag way.tag in
      omega (arith, a, b, c, s, t)

  size-from : (outs : List Out) (now : RewriteOf) (tag : Option ℕ)
      → size (actions_from w switch ingress now tag outs) ≤ 16 * writes_from now outs Nothing
  size-from [] now tag = omega (arith, size-none)
  size-from (o ∷ os) now tag =
      size-going (way_of w switch ingress o.dest) now tag o.rewrite
      (λ now tag. actions_from w switch ingress now tag os) (writes_from o.rewrite os Nothing)
      (λ now tag. let a : size (actions_from w switch ingress now tag os) ≤ 16 * writes_from now os Nothing =
      size-from os now tag in let b : writes_from now os Nothing ≤ set_writes now o.rewrite + writes_from o.rewrite
      os Nothing = writes-lower now o.rewrite os Nothing in omega arith)

  size-telling : (b : Bool) (xs : List Action)
      → size ((if b then Output CONTROLLER 65535 ∷ [] else []) ++ xs) ≤ size xs + 8
  size-telling true xs = omega (arith, size-cons (Output CONTROLLER 65535) xs)
  size-telling false xs = omega arith

  size-of : (outs : List Out) → size (actions_of w switch ingress outs) ≤ 16 * writes_from no_rewrite outs Nothing + 8
  size-of outs =
      let a = size-telling (tells outs) (actions_from w switch ingress no_rewrite None outs) in
      let b = size-from outs no_rewrite None in
      omega (arith, a, b)

-- outs that are left out write nothing
left-out : (b : Bool) (r : RewriteOf) (o : Out) (os : List Out) (n : ℕ) → writes_from o.rewrite os Nothing ≤ n
    → writes_from r (if b then o ∷ os else os) Nothing ≤ set_writes r o.rewrite + (1 + n)
left-out true r o os n le = omega arith
left-out false r o os n le = let a : writes_from r os Nothing ≤ set_writes r o.rewrite + writes_from o.rewrite os
    Nothing = writes-lower r o.rewrite os Nothing in omega arith

writes-filter : (p : Out → Bool) (r : RewriteOf) (outs : List Out)
    → writes_from r (filter p outs) Nothing ≤ writes_from r outs Nothing
writes-filter p r [] = omega arith
writes-filter p r (o ∷ os) = left-out (p o) r o (filter p os) (writes_from o.rewrite os Nothing)
    (writes-filter p o.rewrite os)

written-by : (whole : Bool) (p : Out → Bool) (outs : List Out)
    → writes_from no_rewrite (if whole then filter p outs else outs) Nothing ≤ writes_from no_rewrite outs Nothing
written-by true p outs = writes-filter p no_rewrite outs
written-by false p outs = omega arith

-- a rule of few leaves, each written by few actions
pub record IsShort (n m : ℕ) (r : Rule) : Type 0 where
  pub written : IsWrittenBy n r
  pub leaves : HasLeaves m r

module _ (n m : ℕ) where
  abbrev Short : PhysEntry → Type 0
  Short e = bytes_of e ≤ 16 * (n * m) + 8

  entry-short : (w : Wiring) (site : Site) (r : Rule) (d : PhysEntry) → IsShort n m r
      → entry_of w site (flat r) ≡ Some d → Short d
  unfolding size
  entry-short w site r d short e =
      let u = written w site (flat r) d e in
      let a = size-of w site.switch (ingress_of w site (flat r)) (outs_written site (flat r)) in
      let b : writes_from no_rewrite (outs_written site (flat r)) Nothing ≤ writes_from no_rewrite r.outs Nothing =
      written-by site.whole (λ (o : Out). not (is_silent site.v r.m.in_port o.dest)) r.outs in
      let c : writes_from no_rewrite r.outs Nothing ≤ writes r.outs r.tail = writes-ended no_rewrite r.outs r.tail in
      let f : writes r.outs r.tail ≤ n * length r.ancestry = short.written in
      let g : n * length r.ancestry ≤ n * m = mul-le-mul_left n short.leaves in
      subst (λ (acts : List Action). length (spellings acts) ≤ 16 * (n * m) + 8) (sym u.actions)
      (omega (arith, a, b, c, f, g))

  placed-short : (w : Wiring) (site : Site) (outside : List ℕ) (e : Entering) → AllByRecursion (IsShort n m) e.rules
      → AllByRecursion Short (placed w site outside e)
  placed-short w site outside e short = by (enters_on w site outside e.port)
    where
      by : (b : Bool) → AllByRecursion Short (if b then filter_map (λ r. entry_of w site (flat r)) e.rules else [])
      by true = all-filter_map (IsShort n m) Short (λ r. entry_of w site (flat r)) e.rules
          (λ r d f s. entry-short w site r d s f) short
      by false = tt

  -- the fixed entries
  module _ (pos : 0 < n * m) where
    carried : (b : Bool) (p : ℕ) (o : Option ℕ)
        → size (if b then StripVlan ∷ Output p 0 ∷ [] else map (λ p. Output p 0) (option_to_list o)) ≤ 16
    carried true p o = omega (arith, size-cons StripVlan (Output p 0 ∷ []), size-cons (Output p 0) [], size-none)
    carried false p None = omega (arith, size-none)
    carried false p (Some q) = omega (arith, size-cons (Output q 0) [], size-none)

    transit-short : (w : Wiring) (at : SwitchPort) (goal : Outside) (tag : ℕ) → Short (transit w at goal tag)
    unfolding size
    transit-short w at goal tag =
        let a : size (transit_actions w at.switch goal) ≤ 16 =
        carried (goal.at.switch == at.switch) goal.at.port (next_hop w at.switch goal.at.switch) in
        omega (arith, a)

    all-short : (w : Wiring) (switch : ℕ) → AllByRecursion Short (fixed_entries w switch)
    all-short w switch =
        all-append Short (guards w switch) (transits w switch)
        (all-mapped (λ (o : Outside). Unit {0}) Short guard (filter (is_guarded switch) w.outside) (λ o _. omega arith)
        (all-each (λ (o : Outside). Unit {0}) (filter (is_guarded switch) w.outside) (λ o. tt)))
        (all-flat_map (λ (o : Outside). Unit {0}) Short (transits_to w switch) w.outside
        (λ o _. all-flat_map (λ (t : ℕ). Unit {0}) Short _ (option_to_list o.tag)
        (λ t _. all-mapped (λ (s : SwitchPort). Unit {0}) Short (λ (s : SwitchPort). transit w s o t) _
        (λ s _. transit-short w s o t) (all-each (λ (s : SwitchPort). Unit {0}) _ (λ s. tt)))
        (all-each (λ (t : ℕ). Unit {0}) (option_to_list o.tag) (λ t. tt)))
        (all-each (λ (o : Outside). Unit {0}) w.outside (λ o. tt)))

    drops-short : (w : Wiring) (switch : ℕ) (ports : List ℕ) (b : Bool)
        → AllByRecursion Short (if b then drops w switch ports else [])
    drops-short w switch ports true = all-mapped (λ (p : ℕ). Unit {0}) Short drop_entry _ (λ p _. omega arith)
        (all-each (λ (p : ℕ). Unit {0}) _ (λ p. tt))
    drops-short w switch ports false = tt

module _ (s : Setting) (most each : ℕ) (pos : 0 < most) (pos' : 0 < each) (good : IsSoundSetting s)
    (within : IsWrittenWithin s most each) where
  abbrev total : ℕ
  total = s.hops * most

  is_at : ℕ × SwitchOf → Type 0
  is_at i = slice_get s.network.switches i.0 ≡ Some i.1

  node-short : (v p : ℕ) → AllByRecursion (IsShort each total) (node (fabric_of s.network) s.hops v p)
  node-short v p =
      all-map (λ r. IsWrittenBy each r × HasLeaves total r) (IsShort each total) (node (fabric_of s.network) s.hops v p)
      (λ r q. record { written = q.0; leaves = q.1 })
      (all-zip (IsWrittenBy each) (HasLeaves total) (node (fabric_of s.network) s.hops v p)
      (nodes-are-written each pos' s.network within.actions good.network s.hops v p)
      (nodes-have-leaves s.network most within.leaves s.hops v p))

  own-short : (v : ℕ) (x : SwitchOf) → slice_get s.network.switches v ≡ Some x
      → AllByRecursion (IsShort each total) (switch_rules s.network.tables (Some x))
  own-short v x at =
      let g = good.network.switches v x at in
      let few : leaf_count x.expr ≤ most = within.leaves v x at in
      let hop : 1 ≤ s.hops = good.hops in
      let more : 1 * most ≤ s.hops * most = mul-le-mul_right most hop in
      all-map (λ r. IsWrittenBy each r × HasLeaves (leaf_count x.expr) r) (IsShort each total)
      (switch_rules s.network.tables (Some x)) (λ r q. let l : length r.ancestry ≤ leaf_count x.expr = q.1 in
      record { written = q.0; leaves = omega arith })
      (all-zip (IsWrittenBy each) (HasLeaves (leaf_count x.expr)) (switch_rules s.network.tables (Some x))
      (rules-are-written each pos' s.network.tables within.actions (ports_of x) x.expr g.members g.lefts)
      (rules-have-leaves s.network.tables (ports_of x) x.expr))

  entering-short : (v : ℕ) (x : SwitchOf) → slice_get s.network.switches v ≡ Some x → (b : Bool) →
      AllByRecursion (λ (e : Entering). AllByRecursion (IsShort each total) e.rules)
      (if b then record { port = None; rules = switch_rules s.network.tables (Some x) } ∷ []
      else map (λ p. record { port = Some p; rules = node (fabric_of s.network) s.hops v p }) x.outside)
  entering-short v x at true = (own-short v x at, tt)
  entering-short v x at false = all-mapped (λ p. Unit {0})
      (λ (e : Entering). AllByRecursion (IsShort each total) e.rules) _ x.outside (λ p _. node-short v p)
      (all-each (λ p. Unit {0}) x.outside (λ p. tt))

  switch-short : (switch v : ℕ) (x : SwitchOf) → slice_get s.network.switches v ≡ Some x
      → AllByRecursion (Short each total) (entries_for s switch (v, x))
  switch-short switch v x at =
      all-flat_map (λ (e : Entering). AllByRecursion (IsShort each total) e.rules) (Short each total)
      (placed s.wiring (site_at switch v x) x.outside) (entering s.network s.hops v (Some x))
      (λ e q. placed-short each total s.wiring (site_at switch v x) x.outside e q) (entering-short v x at x.whole)

  positive : 0 < each * total
  positive =
      let hop : 1 ≤ s.hops = good.hops in
      let a : 1 * most ≤ s.hops * most = mul-le-mul_right most hop in
      let one : 1 ≤ s.hops * most = omega arith in
      let b : each * 1 ≤ each * (s.hops * most) = mul-le-mul_left each one in
      omega arith

  pub lists-short : (switch : ℕ) → AllByRecursion (Short each total) (entries_of s switch)
  lists-short switch =
      all-append (Short each total) (flat_map (entries_for s switch) (enumerate_from 0 s.network.switches))
      (fixed_entries s.wiring switch ++ dropping s switch)
      (all-flat_map (λ (i : ℕ × SwitchOf). slice_get s.network.switches i.0 ≡ Some i.1) (Short each total)
      (entries_for s switch) (enumerate_from 0 s.network.switches)
      (λ i at. switch-short switch i.0 i.1 at) (all-numbered s.network.switches))
      (all-append (Short each total) (fixed_entries s.wiring switch) (dropping s switch)
      (all-short each total positive s.wiring switch)
      (drops-short each total positive s.wiring switch (ports_at s switch) (is_whole s switch)))

pub lists-are-short : ListsAreShort
lists-are-short s most each pos pos' good within switch = lists-short s most each pos pos' good within switch

pub adds-fit : AddsFit
adds-fit s good limits switch =
    let all : AllByRecursion AddFits (entries_of s switch) =
    all-map (Short 64 (s.hops * 12)) AddFits (entries_of s switch)
    (λ e short. let a : bytes_of e ≤ 16 * (64 * (s.hops * 12)) + 8 = short in let h = limits.hops in omega arith)
    (lists-short s 12 64 (omega arith) (omega arith) good limits.within switch) in
    (all, all-filter AddFits _ _ (all-filter AddFits _ (entries_of s switch) all))
