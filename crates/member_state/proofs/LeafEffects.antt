-- What actions do, action by action: what holds of their outs and their tail.
use Rattle.std.proofs.Common.{◌≡◌, ◌∙◌, ℕ, ◌<◌, ◌≤◌, ◌^◌, ◌/◌, ◌%◌, ◌==◌, Bool, true, false, ◌||◌, List, [], ◌∷◌, ◌++◌}
use Rattle.std.proofs.Common.{map, Option, Some, None, IfSome, IsTrue, if◌then◌else◌, refl, sym, ap, arith, true≢false}
use Rattle.std.proofs.Common.{eqb-true, eq-eqb, ne_eqb}
use Rattle.std.specs.List.{AllByRecursion, list_any}
use Rattle.std.specs.Option.{option_or}
use Rattle.of10_actions.specs.Actions.{IsInRange}
use Rattle.of10_actions.specs.Effects.{dests_of, effects_from, effects_of, ends_or, flood_of, outs_of, set_by, tail_of}
use Rattle.of10_actions.specs.Fields.{RewriteOf}
use Rattle.of10_actions.specs.Numbers.{ACTION, ALL, CONTROLLER, FLOOD, IN_PORT, MAX, NORMAL}
use Rattle.of10_actions.specs.Rewriting.{and_then, no_rewrite}
use Rattle.of10_actions.specs.declared.action.Action.{Action}
use Rattle.of10_actions.specs.declared.action.Action.TheVariants.{Output, SetVlanVid, SetVlanPcp, StripVlan, SetDlSrc}
use Rattle.of10_actions.specs.declared.action.Action.TheVariants.{SetDlDst, SetNwSrc, SetNwDst, SetNwTos, SetTpSrc}
use Rattle.of10_actions.specs.declared.action.Action.TheVariants.{SetTpDst, Enqueue}
use Rattle.of10_actions.specs.declared.effects.Dest.{Dest}
use Rattle.of10_actions.specs.declared.effects.Dest.TheVariants.{Port, Flood, Ingress, Tell}
use Rattle.of10_actions.specs.declared.effects.Effects.{Effects}
use Rattle.of10_actions.specs.declared.effects.Out.{Out}
use Rattle.of10_actions.specs.declared.effects.PortView.{PortView}
use Rattle.of10_actions.specs.declared.effects.Tail.{Tail}
use Rattle.of10_actions.specs.declared.effects.Tail.TheVariants.{Nothing, Pass, Link}
use Rattle.grants.specs.Granted.{IsServed}
use Rattle.grants.specs.Names.{has_bit}
use Rattle.grants.specs.Ports.{is_one_of}
use Rattle.grants.specs.Rows.{grants, is_refused, kind_of, output_kind}
use Rattle.grants.specs.declared.grant.Grant.{Grant}
use Rattle.grants.specs.declared.kind.Kind.TheVariants as kinds
use Rattle.policy_meaning.specs.CentralFact.{ArePlain}
use Rattle.policy_meaning.specs.Ranged.{AllInRange, SetsInRange, TailInRange}
use Rattle.policy_meaning.proofs.Lists.{all-append, all-each, all-mapped}
use Rattle.agreement.specs.Premises.{GoesWithin}

-- what holds of the rewrite in force, of outs and of tails
module _ (ports : PortView) (member : ℕ) (A : Action → Type 0) (I : RewriteOf → Type 0) (O : Out → Type 0)
    (T : Tail → Type 0)
    (step : (r : RewriteOf) (a : Action) → I r → A a → I (and_then r (set_by a)))
    (out : (r : RewriteOf) (port max_len : ℕ) → I r → A (Output port max_len)
    → AllByRecursion O (outs_of r (dests_of ports member port)))
    (tail : (r : RewriteOf) (port max_len : ℕ) → I r → A (Output port max_len) → T (tail_of ports r port))
    (none : T Nothing) where
  abbrev Holds : Effects → Type 0
  Holds e = AllByRecursion O e.outs × T e.tail

  ended : (t : Tail) (outs : List Out) (later : Effects) → T t → AllByRecursion O outs → Holds later
      → Holds (ends_or t outs later)
  ended Nothing outs later h a l = (all-append O outs later.outs a l.0, l.1)
  ended (Pass r) outs later h a l = (tt, h)
  ended (Link r port) outs later h a l = (tt, h)

  pub effects_hold : (r : RewriteOf) (actions : List Action) → I r → AllByRecursion A actions
      → AllByRecursion O (effects_from ports member r actions).outs × T (effects_from ports member r actions).tail
  effects_hold r [] i a = (tt, none)
  effects_hold r (Output port max_len ∷ actions) i a =
      ended (tail_of ports r port) (outs_of r (dests_of ports member port)) (effects_from ports member r actions)
      (tail r port max_len i a.0) (out r port max_len i a.0) (effects_hold r actions i a.1)
  effects_hold r (action ∷ actions) i a = effects_hold (and_then r (set_by action)) actions (step r action i a.0) a.1

each_out : (O : Out → Type 0) (r : RewriteOf) → ((dest : Dest) → O (record { rewrite = r; dest = dest }))
    → (dests : List Dest) → AllByRecursion O (outs_of r dests)
each_out O r h [] = tt
each_out O r h (dest ∷ dests) = (h dest, each_out O r h dests)

-- ---- values in range

either_range : (P : ℕ → Type 0) (a b : Option ℕ) → IfSome a P → IfSome b P → IfSome (option_or a b) P
either_range P None b p q = q
either_range P (Some x) b p q = p

then_range : (r s : RewriteOf) → SetsInRange r → SetsInRange s → SetsInRange (and_then r s)
then_range r s f g = record {
  dl_src = either_range (λ v. v < 2 ^ 48) s.dl_src r.dl_src g.dl_src f.dl_src;
  dl_dst = either_range (λ v. v < 2 ^ 48) s.dl_dst r.dl_dst g.dl_dst f.dl_dst;
  nw_tos = either_range (λ v. v % 4 ≡ 0) s.nw_tos r.nw_tos g.nw_tos f.nw_tos;
}

nothing_range : SetsInRange no_rewrite
nothing_range = record { dl_src = tt; dl_dst = tt; nw_tos = tt }

set_range : (a : Action) → IsInRange a → SetsInRange (set_by a)
set_range (SetDlSrc address) h = record { dl_src = h; dl_dst = tt; nw_tos = tt }
set_range (SetDlDst address) h = record { dl_src = tt; dl_dst = h; nw_tos = tt }
set_range (SetNwTos tos) h = record { dl_src = tt; dl_dst = tt; nw_tos = h }
set_range (SetNwSrc address) h = record { dl_src = tt; dl_dst = tt; nw_tos = tt }
set_range (SetNwDst address) h = record { dl_src = tt; dl_dst = tt; nw_tos = tt }
set_range (SetTpSrc port) h = record { dl_src = tt; dl_dst = tt; nw_tos = tt }
set_range (SetTpDst port) h = record { dl_src = tt; dl_dst = tt; nw_tos = tt }
set_range (Output port max_len) h = nothing_range
set_range (SetVlanVid vid) h = nothing_range
set_range (SetVlanPcp pcp) h = nothing_range
set_range StripVlan h = nothing_range
set_range (Enqueue port queue) h = nothing_range

pub effects_range : (ports : PortView) (member : ℕ) (actions : List Action) → AllByRecursion IsInRange actions
    → AllInRange (effects_of ports member actions).outs (effects_of ports member actions).tail
effects_range ports member actions a =
    effects_hold ports member IsInRange SetsInRange (λ (o : Out). SetsInRange o.rewrite) TailInRange
    (λ r x i h. then_range r (set_by x) i (set_range x h))
    (λ r port max_len i h. each_out (λ (o : Out). SetsInRange o.rewrite) r (λ dest. i) (dests_of ports member port))
    (λ r port max_len i h. by r port i (port == NORMAL) (list_any (λ link. link == port) ports.links))
    tt no_rewrite actions nothing_range a
  where
    by : (r : RewriteOf) (port : ℕ) → SetsInRange r → (n l : Bool)
        → TailInRange (if n then Pass r else if l then Link r port else Nothing)
    by r port i true l = i
    by r port i false true = i
    by r port i false false = tt

-- ---- ports of one virtual switch

each_dest : (P : Dest → Type 0) (r : RewriteOf) (dests : List Dest) → AllByRecursion P dests
    → AllByRecursion (λ (o : Out). P o.dest) (outs_of r dests)
each_dest P r [] a = tt
each_dest P r (dest ∷ dests) a = (a.0, each_dest P r dests a.1)

pub effects_within : (ports : PortView) (member : ℕ) (actions : List Action)
    → AllByRecursion (λ (o : Out). GoesWithin ports.v o.dest) (effects_of ports member actions).outs
effects_within ports member actions =
    (effects_hold ports member (λ a. Unit {0}) (λ r. Unit {0}) (λ (o : Out). GoesWithin ports.v o.dest) (λ t. Unit {0})
    (λ r x i h. tt)
    (λ r port max_len i h. each_dest (GoesWithin ports.v) r (dests_of ports member port)
    (by port (port == IN_PORT) ((port == FLOOD) || (port == ALL)) (port == CONTROLLER)
    (list_any (λ outside. outside == port) ports.outside)))
    (λ r port max_len i h. tt)
    tt no_rewrite actions tt (all-each (λ a. Unit {0}) actions (λ a. tt))).0
  where
    flood : (outside : List ℕ) → AllByRecursion (GoesWithin ports.v) (map (λ port. Flood ports.v port) outside)
    flood [] = tt
    flood (p ∷ ps) = (refl, flood ps)

    by : (port : ℕ) (i f c o : Bool)
        → AllByRecursion (GoesWithin ports.v)
        (if i then Ingress ∷ [] else if f then flood_of ports else if c then Tell member ACTION ∷ [] else if o then
        Port ports.v port ∷ [] else [])
    by port true f c o = (tt, tt)
    by port false true c o = flood ports.outside
    by port false false true o = (tt, tt)
    by port false false false true = (refl, tt)
    by port false false false false = tt

-- ---- outputs and CONTROLLER alone

module _ (g : Grant) (v : PortView) (few : g.actions < 4) (numbers : AllByRecursion (λ p. p < MAX) g.ports.links) where
  -- a higher bit isn't set
  off : (d : ℕ) → g.actions / d ≡ 0 → ((g.actions / d) % 2 == 1) ≡ false
  off d z = rw z refl

  abbrev IsServedSo : Action → Type 0
  IsServedSo a = IsTrue (grants g (kind_of true g v a)) × IsServed true g v a

  not_both : (b : Bool) → b ≡ true → b ≡ false → ⊥
  not_both true t f = true≢false f
  not_both false t f = true≢false (sym t)

  sets_nothing : (r : RewriteOf) (a : Action) → r ≡ no_rewrite → IsServedSo a → and_then r (set_by a) ≡ no_rewrite
  sets_nothing r (Output port max_len) i h = ap (λ q. and_then q no_rewrite) i
  sets_nothing r (SetDlSrc address) i h = absurd (not_both _ h.0 (off (2 ^ 4) (omega arith)))
  sets_nothing r (SetDlDst address) i h = absurd (not_both _ h.0 (off (2 ^ 5) (omega arith)))
  sets_nothing r (SetNwSrc address) i h = absurd (not_both _ h.0 (off (2 ^ 6) (omega arith)))
  sets_nothing r (SetNwDst address) i h = absurd (not_both _ h.0 (off (2 ^ 7) (omega arith)))
  sets_nothing r (SetNwTos tos) i h = absurd (not_both _ h.0 (off (2 ^ 8) (omega arith)))
  sets_nothing r (SetTpSrc port) i h = absurd (not_both _ h.0 (off (2 ^ 9) (omega arith)))
  sets_nothing r (SetTpDst port) i h = absurd (not_both _ h.0 (off (2 ^ 10) (omega arith)))
  sets_nothing r (SetVlanVid vid) i h = absurd (true≢false (sym h.0))
  sets_nothing r (SetVlanPcp pcp) i h = absurd (true≢false (sym h.0))
  sets_nothing r StripVlan i h = absurd (true≢false (sym h.0))
  sets_nothing r (Enqueue port queue) i h = absurd (true≢false (sym h.0))

  none_so_high : (ps : List ℕ) → AllByRecursion (λ p. p < MAX) ps → list_any (λ p. p == CONTROLLER) ps ≡ false
  none_so_high [] a = refl
  none_so_high (p ∷ ps) a = let less : p < MAX = a.0 in rw
      (ne_eqb p CONTROLLER (λ s. absurd (omega arith)), none_so_high ps a.1) refl

  ends_nothing : (r : RewriteOf) (port max_len : ℕ) → IsServedSo (Output port max_len) → tail_of g.ports r port
      ≡ Nothing
  ends_nothing r port max_len h = served (is_refused true g v port) h.1 h.0
    where
      by : (c n l : Bool) → (port == CONTROLLER) ≡ c → (port == NORMAL) ≡ n → is_one_of g.ports.links port ≡ l
          → IsTrue (grants g
          (Some (if c then kinds.Controller else if n then kinds.Pass else if l then kinds.Link else
          kinds.Output)))
          → (if n then Pass r else if l then Link r port else Nothing) ≡ Nothing
      by true true l c n o k = absurd (true≢false (sym n ∙ ap (λ p. p == NORMAL) (eqb-true port CONTROLLER c)))
      by true false true c n o k = absurd
          (true≢false
          (sym o ∙ (ap (is_one_of g.ports.links) (eqb-true port CONTROLLER c) ∙ none_so_high g.ports.links numbers)))
      by true false false c n o k = refl
      by false true l c n o k = absurd (not_both _ k (off (2 ^ 2) (omega arith)))
      by false false true c n o k = absurd (not_both _ k (off (2 ^ 3) (omega arith)))
      by false false false c n o k = refl

      served : (b : Bool) → b ≡ false
          → IsTrue (grants g (Some (if b then kinds.Output else output_kind g port)))
          → tail_of g.ports r port ≡ Nothing
      served true s k = absurd (true≢false s)
      served false s k = by (port == CONTROLLER) (port == NORMAL) (is_one_of g.ports.links port) refl refl refl k

  pub effects_plain : (member : ℕ) (actions : List Action) → AllByRecursion IsServedSo actions
      → ArePlain (effects_of g.ports member actions).outs (effects_of g.ports member actions).tail
  effects_plain member actions a =
      let both = effects_hold g.ports member IsServedSo (λ r. r ≡ no_rewrite) (λ (o : Out). o.rewrite ≡ no_rewrite)
      (λ t. t ≡ Nothing) sets_nothing
      (λ r port max_len i h. each_out (λ (o : Out). o.rewrite ≡ no_rewrite) r (λ dest. i)
      (dests_of g.ports member port)) (λ r port max_len i h. ends_nothing r port max_len h) refl no_rewrite
      actions refl a in
      record { sets = both.0; ends = both.1 }
