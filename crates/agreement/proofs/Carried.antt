-- A packet with the tag of a port is carried there, over cables, and leaves without the tag.
use Rattle.std.proofs.Common.{◌≡◌, ◌≢◌, ℕ, zero, suc, ◌<◌, ◌≤◌, inl, inr, Bool, true, false, ◌&&◌, List, [], ◌∷◌}
use Rattle.std.proofs.Common.{Option, Some, None, refl, ap, ◌∙◌, sym, subst, arith, eq-eqb, eqb-true, length}
use Rattle.std.proofs.lemmas.List.{append-nil}
use Rattle.std.specs.Prelude.{◌==◌, IfSome, map}
use Rattle.std.specs.List.{list_any}
use Rattle.of10_match.specs.Fields.{HeaderOf}
use Rattle.of10_actions.specs.Numbers.{IN_PORT, CONTROLLER, MAX}
use Rattle.policy_meaning.proofs.Booleans.{or_right}
use Rattle.switch_meaning.specs.BestLaw.{IsBestEntry}
use Rattle.switch_meaning.specs.Firing.{both_fired, fire, fire_entry, output, sent, unsent}
use Rattle.switch_meaning.specs.Fixed.{arrivals, passes, transit, transit_actions}
use Rattle.switch_meaning.specs.Following.{Choice, both_seen, copies_at, fires_on, follow, unseen}
use Rattle.switch_meaning.specs.Keys.{flow_of}
use Rattle.switch_meaning.specs.Wirings.{far_end, next_hop, outside_at, same_spot}
use Rattle.switch_meaning.specs.declared.entry.FlowEntry.{FlowEntry}
use Rattle.switch_meaning.specs.declared.entry.PhysEntry.{PhysEntry}
use Rattle.switch_meaning.specs.declared.fired.Fired.{Fired}
use Rattle.switch_meaning.specs.declared.fired.Left.{Left}
use Rattle.switch_meaning.specs.declared.fired.Seen.{Seen}
use Rattle.switch_meaning.specs.declared.wiring.Outside.{Outside}
use Rattle.switch_meaning.specs.declared.wiring.SwitchPort.{SwitchPort}
use Rattle.switch_meaning.specs.declared.wiring.Wiring.{Wiring}
use Rattle.switch_meaning.proofs.Items.{apart}
use Rattle.agreement.specs.declared.state.Setting.{Setting}
use Rattle.agreement.specs.Entries.{entries_of}
use Rattle.agreement.specs.Premises.{GetsTo, GoesOn, IsSoundSetting}
use Rattle.agreement.specs.Reach.{IsSwitchOf, between}
use Rattle.agreement.specs.Seeing.{but_in_port}
use Rattle.agreement.proofs.Cables.{found-there, is_end, no-end, peer-end, spot-self}
use Rattle.agreement.proofs.Fixed.{find-any}
use Rattle.agreement.proofs.Guarded.{transit-is-best}

-- an output by a number of a port, other than that of the packet
pub output-plain : (port : ℕ) (h : HeaderOf) → port < MAX → port ≢ h.in_port → output port h ≡ sent port h
output-plain port h lt ne =
    rw (
      apart port CONTROLLER (λ (e : port ≡ CONTROLLER). omega arith),
      apart port IN_PORT (λ (e : port ≡ IN_PORT). omega arith),
      apart port h.in_port ne,
    ) refl

-- just this packet leaves, but for its in_port
pub record Arrives (at : SwitchPort) (header : HeaderOf) (seen : Seen) : Type 0 where
  pub outs : map but_in_port seen.outs ≡ record { at = at; header = header } ∷ []
  pub copies : seen.copies ≡ []

-- the one packet that a switch sends arrives where it does
one-goes : (at : SwitchPort) (header : HeaderOf) (switch : ℕ) (seen : Seen) → Arrives at header seen
    → Arrives at header (both_seen (copies_at switch []) (both_seen seen unseen))
one-goes at header switch seen a = record {
  outs = ap (λ (xs : List Left). map but_in_port xs) (append-nil seen.outs) ∙ a.outs;
  copies = append-nil seen.copies ∙ a.copies;
}

module _ (s : Setting) (good : IsSoundSetting s) (v p q t : ℕ) (start goal : Outside)
    (from : outside_at s.wiring v p ≡ Some start) (at : outside_at s.wiring v q ≡ Some goal) (tag : goal.tag ≡ Some t)
    (choice : Choice) (uses : (switch : ℕ) → IsSwitchOf s v switch → (way : List ℕ) (hd : HeaderOf) (best : PhysEntry)
    → IsBestEntry hd (entries_of s switch) best → choice way switch hd ≡ Some (flow_of best)) where
  abbrev w : Wiring
  w = s.wiring

  abbrev to : ℕ
  to = goal.at.switch

  -- the spots on the way
  abbrev pub on_way : SwitchPort → Bool
  on_way spot = list_any (same_spot spot) (arrivals w (length w.cables) start.at.switch to)

  abbrev pub Visits : ℕ → ℕ → Type 0
  Visits c switch = (spot : SwitchPort) → list_any (same_spot spot) (arrivals w c switch to) ≡ true → on_way spot ≡ true

  -- the header as it leaves
  abbrev pub final : HeaderOf → HeaderOf
  final hd = record hd { in_port = 0; dl_vlan = 65535 }

  goal-open : far_end w goal.at ≡ None
  goal-open = let g : IfSome (Some goal) (λ o. far_end w o.at ≡ None) = rw at at (good.placing.open_ends v q) in g

  goal-number : goal.at.port < MAX
  goal-number = let g : IfSome (Some goal) (λ (o : Outside). o.at.port < MAX) =
      rw at at (good.placing.wiring.numbers v q) in g

  passing : (spot : SwitchPort) → on_way spot ≡ true → passes w spot goal ≡ true
  passing spot on =
      let m = (found-there v p w.outside start from).0 in let n = (found-there v q w.outside goal at).0 in
      find-any (λ (o : Outside). (o.v == v) && (o.port == p))
      (λ (o : Outside). (o.v == goal.v) && list_any (same_spot spot) (arrivals w (length w.cables) o.at.switch to))
      w.outside start from
      (rw (eq-eqb start.v goal.v (m.0 ∙ sym n.0), on) refl)

  steps-on : (c switch : ℕ) (port : ℕ) (peer : SwitchPort) → (switch == to) ≡ false → next_hop w switch to ≡ Some port
      → far_end w (record { switch = switch; port = port }) ≡ Some peer
      → arrivals w (suc c) switch to ≡ peer ∷ arrivals w c peer.switch to
  steps-on c switch port peer away hop cable = rw (away, hop, cable) (append-nil (peer ∷ arrivals w c peer.switch to))

  pub visits-peer : (c switch port : ℕ) (peer : SwitchPort) → (switch == to) ≡ false → next_hop w switch to ≡ Some port
      → far_end w (record { switch = switch; port = port }) ≡ Some peer → Visits (suc c) switch
      → (on_way peer ≡ true) × Visits c peer.switch
  visits-peer c switch port peer away hop cable visits =
      let e = steps-on c switch port peer away hop cable in (
        visits peer (ap (λ (xs : List SwitchPort). list_any (same_spot peer) xs) e ∙ rw (spot-self peer) refl),
        λ spot f. visits spot (ap (λ (xs : List SwitchPort). list_any (same_spot spot) xs) e
            ∙ or_right (same_spot spot peer) (list_any (same_spot spot) (arrivals w c peer.switch to)) f),
      )

  -- what a switch on the way does
  abbrev made : SwitchPort → PhysEntry
  made spot = transit w spot goal t

  fires-there : (spot : SwitchPort) (way : List ℕ) (hd : HeaderOf) → hd.in_port ≡ spot.port → hd.dl_vlan ≡ t
      → is_end w.cables spot ≡ true → on_way spot ≡ true
      → fire_entry (choice way spot.switch hd) hd ≡ fire (transit_actions w spot.switch goal) hd
  fires-there spot way hd comes carries is on =
      ap (λ (z : Option FlowEntry). fire_entry z hd)
      (uses spot.switch (between p q spot.port start goal from at on) way hd (made spot)
      (transit-is-best s good v q t goal at tag spot is (passing spot on) hd comes carries))

  leaves-goal : (spot : SwitchPort) (hd : HeaderOf) → hd.in_port ≡ spot.port → is_end w.cables spot ≡ true
      → spot.switch ≡ to → fire (transit_actions w spot.switch goal) hd
      ≡ record { outs = record { port = goal.at.port; header = record hd { dl_vlan = 65535 } } ∷ []; copies = [] }
  leaves-goal spot hd comes is here =
      let ne : goal.at.port ≢ hd.in_port = λ e.
      let same : goal.at ≡ spot = λ i. record { switch = (sym here) i; port = (e ∙ comes) i } in
      let f : is_end w.cables spot ≡ false = ap (λ (z : SwitchPort). is_end w.cables z) (sym same)
      ∙ no-end w.cables goal.at goal-open in cc in
      let sends : output goal.at.port (record hd { dl_vlan = 65535 })
      ≡ sent goal.at.port (record hd { dl_vlan = 65535 }) =
      output-plain goal.at.port (record hd { dl_vlan = 65535 }) goal-number ne in
      rw (eq-eqb goal.at.switch spot.switch (sym here))
      (ap (λ (f : Fired). both_fired unsent (both_fired f unsent)) sends)

  passes-on : (spot : SwitchPort) (port : ℕ) (hd : HeaderOf) → (goal.at.switch == spot.switch) ≡ false
      → next_hop w spot.switch to ≡ Some port → port < MAX → port ≢ hd.in_port
      → fire (transit_actions w spot.switch goal) hd
      ≡ record { outs = record { port = port; header = hd } ∷ []; copies = [] }
  passes-on spot port hd away hop lt ne =
      rw (away, hop) (ap (λ (f : Fired). both_fired f unsent) (output-plain port hd lt ne))

  other-way : (a b : ℕ) → (a == b) ≡ false → (b == a) ≡ false
  other-way a b e = apart b a (λ f. let g : (a == b) ≡ true = eq-eqb a b (sym f) in cc)

  abbrev Carried : ℕ → ℕ → ℕ → Type 0
  Carried n c m = (way : List ℕ) (spot : SwitchPort) (hd : HeaderOf) → hd.in_port ≡ spot.port → hd.dl_vlan ≡ t
      → is_end w.cables spot ≡ true → on_way spot ≡ true
      → IfSome (next_hop w spot.switch to) (λ (port : ℕ). port ≢ spot.port)
      → GetsTo w to n spot.switch → Visits c spot.switch
      → Arrives goal.at (final hd) (follow w choice m way spot.switch hd)

  -- at the goal it leaves
  at-goal : (m : ℕ) (way : List ℕ) (spot : SwitchPort) (hd : HeaderOf) → hd.in_port ≡ spot.port → hd.dl_vlan ≡ t
      → is_end w.cables spot ≡ true → on_way spot ≡ true → spot.switch ≡ to
      → Arrives goal.at (final hd) (follow w choice (suc m) way spot.switch hd)
  at-goal m way spot hd comes carries is on here =
      let f = fires-there spot way hd comes carries is on ∙ leaves-goal spot hd comes is here in
      let place : record { switch = spot.switch; port = goal.at.port } ≡ goal.at =
      λ i. record { switch = here i; port = goal.at.port } in
      let far : far_end w (record { switch = spot.switch; port = goal.at.port }) ≡ None =
      ap (λ (z : SwitchPort). far_end w z) place ∙ goal-open in
      subst (λ (g : Fired). Arrives goal.at (final hd) (fires_on w (follow w choice m) way spot.switch g)) (sym f)
      (rw far (record { outs = λ i. record { at = place i; header = final hd } ∷ []; copies = refl }))

  -- else it goes on
  goes-further : (n c m : ℕ) → Carried n c m → (way : List ℕ) (spot : SwitchPort) (hd : HeaderOf)
      → hd.in_port ≡ spot.port → hd.dl_vlan ≡ t → is_end w.cables spot ≡ true → on_way spot ≡ true
      → IfSome (next_hop w spot.switch to) (λ (port : ℕ). port ≢ spot.port)
      → (spot.switch == to) ≡ false → GoesOn w to (GetsTo w to n) spot.switch → Visits (suc c) spot.switch
      → Arrives goal.at (final hd) (follow w choice (suc m) way spot.switch hd)
  goes-further n c m carried way spot hd comes carries is on back away g visits =
      let ne' : g.port ≢ spot.port = let z : IfSome (Some g.port) (λ (port : ℕ). port ≢ spot.port) =
      rw (g.hop) at back in z in
      let ne : g.port ≢ hd.in_port = λ e. ne' (e ∙ comes) in
      let f = fires-there spot way hd comes carries is on
      ∙ passes-on spot g.port hd (other-way spot.switch goal.at.switch away) g.hop g.number ne in
      let next = visits-peer c spot.switch g.port g.peer away g.hop g.cable visits in
      let arrives = carried (0 ∷ way) g.peer (record hd { in_port = g.peer.port }) refl carries
      (peer-end w.cables (record { switch = spot.switch; port = g.port }) g.peer g.cable) next.0 g.onward g.rest
      next.1 in
      subst (λ (z : Fired). Arrives goal.at (final hd) (fires_on w (follow w choice m) way spot.switch z)) (sym f)
      (rw (g.cable) (one-goes goal.at (final hd) spot.switch
      (follow w choice m (0 ∷ way) g.peer.switch (record hd { in_port = g.peer.port })) arrives))

  step : (n c m : ℕ) → Carried n c m → (way : List ℕ) (spot : SwitchPort) (hd : HeaderOf) → hd.in_port ≡ spot.port
      → hd.dl_vlan ≡ t → is_end w.cables spot ≡ true → on_way spot ≡ true
      → IfSome (next_hop w spot.switch to) (λ (port : ℕ). port ≢ spot.port)
      → (b : Bool) → (spot.switch == to) ≡ b → GetsTo w to (suc n) spot.switch → Visits (suc c) spot.switch
      → Arrives goal.at (final hd) (follow w choice (suc m) way spot.switch hd)
  step n c m carried way spot hd comes carries is on back true e g visits =
      at-goal m way spot hd comes carries is on (eqb-true spot.switch to e)
  step n c m carried way spot hd comes carries is on back false e (inl f) visits =
      at-goal m way spot hd comes carries is on f
  step n c m carried way spot hd comes carries is on back false e (inr g) visits =
      goes-further n c m carried way spot hd comes carries is on back e g visits

  -- a packet with the tag gets to the port
  pub carried : (n c m : ℕ) → n ≤ c → n < m → Carried n c m
  carried n c zero le lt way spot hd comes carries is on back g visits = absurd (omega arith)
  carried zero c (suc m) le lt way spot hd comes carries is on back g visits =
      at-goal m way spot hd comes carries is on g
  carried (suc n) zero (suc m) le lt way spot hd comes carries is on back g visits = absurd (omega arith)
  carried (suc n) (suc c) (suc m) le lt way spot hd comes carries is on back g visits =
      step n c m (carried n c m (omega arith) (omega arith)) way spot hd comes carries is on back (spot.switch == to)
      refl g visits
