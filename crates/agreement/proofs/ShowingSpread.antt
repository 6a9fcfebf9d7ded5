-- What is seen of a packet of a spread virtual switch: its outs leave there, or are carried to the switches of their
-- ports.
use Rattle.std.proofs.Common.{◌≡◌, ◌≢◌, ℕ, zero, suc, ◌<◌, ◌≤◌, inl, inr, Bool, true, false, List, [], ◌∷◌, ◌++◌}
use Rattle.std.proofs.Common.{Option, Some, None, refl, ap, ◌∙◌, sym, subst, arith, eq-eqb, eqb-true, length}
use Rattle.std.specs.Prelude.{◌==◌, ◌-◌, IfSome, filter_map, if◌then◌else◌, is_some, map, slice_get}
use Rattle.std.specs.List.{AllByRecursion, cons_option, list_any}
use Rattle.std.specs.Option.{option_and_then}
use Rattle.of10_match.specs.Fields.{HeaderOf}
use Rattle.of10_actions.specs.Fields.{RewriteOf}
use Rattle.of10_actions.specs.Rewriting.{apply}
use Rattle.of10_actions.specs.declared.effects.Dest.{Dest}
use Rattle.of10_actions.specs.declared.effects.Dest.TheVariants.{Port, Flood, Ingress, Tell}
use Rattle.of10_actions.specs.declared.effects.Out.{Out}
use Rattle.of10_actions.specs.Numbers.{IN_PORT, CONTROLLER, MAX}
use Rattle.policy_meaning.specs.HopFact.{leaving}
use Rattle.policy_meaning.specs.Networks.{switch_spread}
use Rattle.policy_meaning.specs.declared.walking.PortOut.{PortOut}
use Rattle.switch_meaning.specs.BestLaw.{IsBestEntry}
use Rattle.switch_meaning.specs.Following.{Choice, all_go, follow}
use Rattle.switch_meaning.specs.Keys.{flow_of}
use Rattle.switch_meaning.specs.Placing.{way_of, way_to, written_port}
use Rattle.switch_meaning.specs.Wirings.{far_end, outside_at, same_spot}
use Rattle.switch_meaning.specs.Fixed.{arrivals}
use Rattle.switch_meaning.specs.declared.entry.PhysEntry.{PhysEntry}
use Rattle.switch_meaning.specs.declared.fired.Left.{Left}
use Rattle.switch_meaning.specs.declared.fired.Seen.{Seen}
use Rattle.switch_meaning.specs.declared.fired.Sent.{Sent}
use Rattle.switch_meaning.specs.declared.placing.Way.{Way}
use Rattle.switch_meaning.specs.declared.wiring.Outside.{Outside}
use Rattle.switch_meaning.specs.declared.wiring.SwitchPort.{SwitchPort}
use Rattle.switch_meaning.proofs.Going.{GoesWell, IsGood, by_way, goes, leaves}
use Rattle.switch_meaning.proofs.Items.{apart}
use Rattle.agreement.specs.declared.state.Setting.{Setting}
use Rattle.agreement.specs.Entries.{entries_of}
use Rattle.agreement.specs.Premises.{GetsTo, GoesOn, GoesWithin, IsSoundSetting}
use Rattle.agreement.specs.Reach.{IsSwitchOf}
use Rattle.agreement.specs.Seeing.{but_in_port, comes_by, left_at}
use Rattle.agreement.proofs.Cables.{peer-end}
use Rattle.agreement.proofs.Carried.{Arrives, carried, final, visits-peer}
use Rattle.agreement.proofs.Guarded.{has-tag}
use Rattle.agreement.specs.Followed.{AreNumbered, IsNumbered}
use Rattle.agreement.proofs.Showing.{Shows, port-shows}

-- a port, written as IN_PORT where the packet came by it
leaves-written : (a q : ℕ) (h : HeaderOf) → h.in_port ≡ a → q < MAX → (b : Bool) → (a == q) ≡ b
    → leaves (if b then IN_PORT else q) h ≡ Some (record { port = q; header = h })
leaves-written a q h e lt true t = ap (λ (x : ℕ). Some (record { port = x; header = h })) (e ∙ eqb-true a q t)
leaves-written a q h e lt false t =
    rw (
      apart q IN_PORT (λ (f : q ≡ IN_PORT). omega arith),
      apart q h.in_port (λ (f : q ≡ h.in_port). let g : (a == q) ≡ true = eq-eqb a q (sym (f ∙ e)) in cc),
    ) refl

leaves-other : (q : ℕ) (h : HeaderOf) → q < MAX → q ≢ h.in_port → leaves q h ≡ Some (record { port = q; header = h })
leaves-other q h lt ne = rw (apart q IN_PORT (λ (f : q ≡ IN_PORT). omega arith), apart q h.in_port ne) refl

written-plain : (b : Bool) (q : ℕ) → q < MAX → (if b then IN_PORT else q) ≢ CONTROLLER
written-plain true q lt e = omega arith
written-plain false q lt e = omega arith

some_tag : (t : Option ℕ) → is_some t ≡ true → (u : ℕ) × (t ≡ Some u)
some_tag None e = cc
some_tag (Some u) e = (u, refl)

map-both : (f : Left → Left) (xs ys : List Left) → map f (xs ++ ys) ≡ map f xs ++ map f ys
map-both f [] ys = refl
map-both f (x ∷ xs) ys = ap (λ zs. f x ∷ zs) (map-both f xs ys)

module _ (s : Setting) (good : IsSoundSetting s) (v : ℕ) (h : HeaderOf) (o : Outside)
    (at : outside_at s.wiring v h.in_port ≡ Some o) (lone : switch_spread (slice_get s.network.switches v) ≡ true)
    (plain : h.dl_vlan ≡ 65535)
    (choice : Choice) (uses : (switch : ℕ) → IsSwitchOf s v switch → (way : List ℕ) (hd : HeaderOf) (best : PhysEntry)
    → IsBestEntry hd (entries_of s switch) best → choice way switch hd ≡ Some (flow_of best)) where
  abbrev here : ℕ
  here = o.at.switch

  abbrev k : HeaderOf
  k = comes_by o.at.port h

  abbrev on : List ℕ → ℕ → HeaderOf → Seen
  on = follow s.wiring choice (length s.switches)

  -- the way to a port of another switch
  record Far (q : ℕ) (b : Outside) : Type 0 where
    t : ℕ
    tag : b.tag ≡ Some t
    away : (here == b.at.switch) ≡ false
    steps : ℕ
    cables : suc steps ≤ length s.wiring.cables
    switches : suc steps ≤ length s.switches
    way : GoesOn s.wiring b.at.switch (GetsTo s.wiring b.at.switch steps) here

  far-by : (q : ℕ) (b : Outside) → outside_at s.wiring v q ≡ Some b → (here == b.at.switch) ≡ false → (n : ℕ)
      → GetsTo s.wiring b.at.switch n here → n ≤ length s.wiring.cables → n ≤ length s.switches → Far q b
  far-by q b f away zero g lc ls = let u : (here == b.at.switch) ≡ true = eq-eqb here b.at.switch g in cc
  far-by q b f away (suc n) (inl g) lc ls = let u : (here == b.at.switch) ≡ true = eq-eqb here b.at.switch g in cc
  far-by q b f away (suc n) (inr g) lc ls =
      let tag = some_tag b.tag (has-tag s good v q b f lone) in
      record { t = tag.0; tag = tag.1; away = away; steps = n; cables = lc; switches = ls; way = g }

  far : (q : ℕ) (b : Outside) → outside_at s.wiring v q ≡ Some b → (here == b.at.switch) ≡ false → Far q b
  far q b f away = let way = good.placing.ways v h.in_port q o b at f in
      far-by q b f away way.steps way.way way.cables way.switches

  flipped : (a b : ℕ) → (a == b) ≡ false → (b == a) ≡ false
  flipped a b e = apart b a (λ f. let g : (a == b) ≡ true = eq-eqb a b (sym f) in cc)

  open_end : far_end s.wiring o.at ≡ None
  open_end = let g : IfSome (Some o) (λ o. far_end s.wiring o.at ≡ None) =
      rw at at (good.placing.open_ends v h.in_port) in g

  number : (q : ℕ) (b : Outside) → outside_at s.wiring v q ≡ Some b → b.at.port < MAX
  number q b f = let g : IfSome (Some b) (λ (o : Outside). o.at.port < MAX) =
      rw f at (good.placing.wiring.numbers v q) in g

  -- the port of the cable is not that of the packet
  not-back : (q : ℕ) (b : Outside) (f : Far q b) → f.way.port ≢ o.at.port
  not-back q b f e =
      let spot : record { switch = here; port = f.way.port } ≡ o.at = λ i. record { switch = here; port = e i } in
      let none : far_end s.wiring (record { switch = here; port = f.way.port }) ≡ None =
      ap (λ (z : SwitchPort). far_end s.wiring z) spot ∙ open_end in
      let some = f.way.cable in cc

  abbrev way_there : Outside → Option Way
  way_there b = way_to s.wiring here (Some o.at.port) b

  way-near : (b : Outside) → (here == b.at.switch) ≡ true
      → way_there b ≡ Some (record { tag = None; port = written_port (Some o.at.port) b.at.port })
  way-near b e = rw (eq-eqb b.at.switch here (sym (eqb-true here b.at.switch e))) refl

  way-far : (q : ℕ) (b : Outside) (f : Far q b) → way_there b ≡ Some (record { tag = Some f.t; port = f.way.port })
  way-far q b f = rw (flipped here b.at.switch f.away, f.tag, f.way.hop) refl

  near-good : (q : ℕ) (b : Outside) (x : Way) → outside_at s.wiring v q ≡ Some b
      → Some (record { tag = None; port = written_port (Some o.at.port) b.at.port }) ≡ Some x → IsGood k x
  near-good q b x f e =
      let same : record { tag = None; port = written_port (Some o.at.port) b.at.port } ≡ x = cc in
      subst (λ (z : Way). IsGood k z) same
      (record { port = written-plain (o.at.port == b.at.port) b.at.port (number q b f); strips = inr plain })

  far-good : (q : ℕ) (b : Outside) (f : Far q b) (x : Way)
      → Some (record { tag = Some f.t; port = f.way.port }) ≡ Some x → IsGood k x
  far-good q b f x e =
      let same : record { tag = Some f.t; port = f.way.port } ≡ x = cc in
      let lt = f.way.number in
      subst (λ (z : Way). IsGood k z) same
      (record { port = λ (c : f.way.port ≡ CONTROLLER). omega arith; strips = inr plain })

  way-good : (q : ℕ) (b : Outside) (x : Way) → outside_at s.wiring v q ≡ Some b → (c : Bool) → (here == b.at.switch) ≡ c
      → way_there b ≡ Some x → IsGood k x
  way-good q b x f true c e = near-good q b x f (sym (way-near b c) ∙ e)
  way-good q b x f false c e = let g = far q b f c in far-good q b g x (sym (way-far q b g) ∙ e)

  port-good : (q : ℕ) (m : Option Outside) → outside_at s.wiring v q ≡ m → (x : Way)
      → option_and_then way_there m ≡ Some x → IsGood k x
  port-good q None f x e = cc
  port-good q (Some b) f x e = way-good q b x f (here == b.at.switch) refl e

  pub out-good : (d : Dest) → GoesWithin v d → IsNumbered d → (x : Way)
      → way_of s.wiring here (Some o.at.port) d ≡ Some x → IsGood k x
  out-good (Port u q) g n x e = port-good q (outside_at s.wiring v q) refl x
      (ap (λ z. option_and_then way_there (outside_at s.wiring z q)) (sym g) ∙ e)
  out-good (Flood u q) g n x e = port-good q (outside_at s.wiring v q) refl x
      (ap (λ z. option_and_then way_there (outside_at s.wiring z q)) (sym g) ∙ e)
  out-good Ingress g n x e = absurd n
  out-good (Tell who reason) g n x e = cc

  -- what leaves by an out
  abbrev by_out : RewriteOf → Option Way → Option Sent
  by_out r way = option_and_then (by_way k r) way

  near-sent : (q : ℕ) (b : Outside) (r : RewriteOf) → outside_at s.wiring v q ≡ Some b
      → by_out r (Some (record { tag = None; port = written_port (Some o.at.port) b.at.port }))
      ≡ Some (record { port = b.at.port; header = apply r k })
  near-sent q b r f = leaves-written o.at.port b.at.port (apply r k) refl (number q b f) (o.at.port == b.at.port) refl

  abbrev on_wire : ℕ → RewriteOf → HeaderOf
  on_wire t r = apply r (record k { dl_vlan = t })

  far-sent : (q : ℕ) (b : Outside) (f : Far q b) (r : RewriteOf)
      → by_out r (Some (record { tag = Some f.t; port = f.way.port }))
      ≡ Some (record { port = f.way.port; header = on_wire f.t r })
  far-sent q b f r = leaves-other f.way.port (on_wire f.t r) f.way.number (not-back q b f)

  abbrev ShowsHere : List Sent → List PortOut → Type 0
  ShowsHere sent outs = Shows s.wiring good.placing.open_ends o.at h on sent outs

  -- it arrives at the port
  arrives : (q : ℕ) (b : Outside) (bf : outside_at s.wiring v q ≡ Some b) (f : Far q b) (r : RewriteOf) (place : ℕ)
      → Arrives b.at (final s good v h.in_port q f.t o b at bf f.tag choice uses (on_wire f.t r))
      (on (place ∷ []) f.way.peer.switch (record (on_wire f.t r) { in_port = f.way.peer.port }))
  arrives q b bf f r place =
      let cables = f.cables in let switches = f.switches in
      let one : suc (length s.wiring.cables - 1) ≡ length s.wiring.cables = omega arith in
      let start = visits-peer s good v h.in_port q f.t o b at bf f.tag choice uses (length s.wiring.cables - 1) here
      f.way.port f.way.peer f.away f.way.hop f.way.cable
      (λ spot e. ap (λ n. list_any (same_spot spot) (arrivals s.wiring n here b.at.switch)) (sym one) ∙ e) in
      carried s good v h.in_port q f.t o b at bf f.tag choice uses f.steps (length s.wiring.cables - 1)
      (length s.switches) (omega arith) (omega arith)
      (place ∷ []) f.way.peer (record (on_wire f.t r) { in_port = f.way.peer.port }) refl refl
      (peer-end s.wiring.cables (record { switch = here; port = f.way.port }) f.way.peer f.way.cable) start.0
      f.way.onward f.way.rest start.1

  far-shows : (q : ℕ) (b : Outside) → outside_at s.wiring v q ≡ Some b
      → (f : Far q b) (r : RewriteOf) (sent : List Sent) (outs : List PortOut) → ShowsHere sent outs
      → ShowsHere (record { port = f.way.port; header = on_wire f.t r } ∷ sent)
      (record { v = v; port = q; rewrite = r } ∷ outs)
  far-shows q b bf f r sent outs shows place =
      let a = arrives q b bf f r place in
      let last : record { at = b.at; header = record (apply r h) { in_port = 0; dl_vlan = 65535 } }
      ≡ record { at = b.at; header = comes_by 0 (apply r h) } =
      λ i. record { at = b.at; header = record (apply r h) { in_port = 0; dl_vlan = (sym plain) i } } in
      let y = on (place ∷ []) f.way.peer.switch (record (on_wire f.t r) { in_port = f.way.peer.port }) in
      let rest = all_go s.wiring on [] here (suc place) sent in
      rw (f.way.cable, bf) (
        map-both but_in_port y.outs rest.outs ∙ (λ i. a.outs i ++ (shows (suc place)).0 i)
            ∙ ap (λ (z : Left). z ∷ map but_in_port (filter_map (left_at s.wiring h) outs)) last,
        (λ i. a.copies i ++ (shows (suc place)).1 i),
      )

  open-at : (q : ℕ) (b : Outside) → outside_at s.wiring v q ≡ Some b → far_end s.wiring b.at ≡ None
  open-at q b f = let g : IfSome (Some b) (λ o. far_end s.wiring o.at ≡ None) = rw f at (good.placing.open_ends v q) in
      g

  way-shows : (q : ℕ) (b : Outside) (r : RewriteOf) → outside_at s.wiring v q ≡ Some b → (c : Bool)
      → (here == b.at.switch) ≡ c → (sent : List Sent) (outs : List PortOut) → ShowsHere sent outs
      → ShowsHere (cons_option (by_out r (way_there b)) sent) (record { v = v; port = q; rewrite = r } ∷ outs)
  way-shows q b r f true c sent outs shows =
      subst (λ (z : Option Sent). ShowsHere (cons_option z sent) (record { v = v; port = q; rewrite = r } ∷ outs))
      (sym (ap (by_out r) (way-near b c) ∙ near-sent q b r f))
      (port-shows s.wiring good.placing.open_ends o.at h on v q r (Some b) f (open-at q b f)
      (sym (eqb-true here b.at.switch c)) sent outs shows)
  way-shows q b r f false c sent outs shows =
      let g = far q b f c in
      subst (λ (z : Option Sent). ShowsHere (cons_option z sent) (record { v = v; port = q; rewrite = r } ∷ outs))
      (sym (ap (by_out r) (way-far q b g) ∙ far-sent q b g r)) (far-shows q b f g r sent outs shows)

  port-goes : (q : ℕ) (r : RewriteOf) (m : Option Outside) → outside_at s.wiring v q ≡ m
      → (sent : List Sent) (outs : List PortOut) → ShowsHere sent outs
      → ShowsHere (cons_option (by_out r (option_and_then way_there m)) sent)
      (record { v = v; port = q; rewrite = r } ∷ outs)
  port-goes q r None f sent outs shows = port-shows s.wiring good.placing.open_ends o.at h on v q r None f tt tt sent
      outs shows
  port-goes q r (Some b) f sent outs shows = way-shows q b r f (here == b.at.switch) refl sent outs shows

  to-port : (u q : ℕ) (r : RewriteOf) → u ≡ v → (sent : List Sent) (outs : List PortOut) → ShowsHere sent outs
      → ShowsHere (cons_option (by_out r (option_and_then way_there (outside_at s.wiring u q))) sent)
      (record { v = u; port = q; rewrite = r } ∷ outs)
  to-port u q r e sent outs shows =
      subst (λ (z : ℕ). ShowsHere (cons_option (by_out r (option_and_then way_there (outside_at s.wiring z q))) sent)
      (record { v = z; port = q; rewrite = r } ∷ outs)) (sym e)
      (port-goes q r (outside_at s.wiring v q) refl sent outs shows)

  out-shows : (r : RewriteOf) (d : Dest) → GoesWithin v d → IsNumbered d → (sent : List Sent) (outs : List PortOut)
      → ShowsHere sent outs
      → ShowsHere (cons_option (by_out r (way_of s.wiring here (Some o.at.port) d)) sent)
      (cons_option (leaving r d) outs)
  out-shows r (Port u q) g n sent outs shows = to-port u q r g sent outs shows
  out-shows r (Flood u q) g n sent outs shows = to-port u q r g sent outs shows
  out-shows r Ingress g n sent outs shows = absurd n
  out-shows r (Tell who reason) g n sent outs shows = shows

  -- all outs go, and show the packets that are to leave
  pub outs-go : (outs : List Out) → AllByRecursion (λ (d : Out). GoesWithin v d.dest) outs → AreNumbered outs
      → ShowsHere (filter_map (goes k s.wiring here (Some o.at.port)) outs)
      (filter_map (λ (d : Out). leaving d.rewrite d.dest) outs)
  outs-go [] g n = λ place. (refl, refl)
  outs-go (d ∷ ds) g n = out-shows d.rewrite d.dest g.0 n.0 (filter_map (goes k s.wiring here (Some o.at.port)) ds)
      (filter_map (λ (d : Out). leaving d.rewrite d.dest) ds) (outs-go ds g.1 n.1)

  pub all-good : (outs : List Out) → AllByRecursion (λ (d : Out). GoesWithin v d.dest) outs → AreNumbered outs
      → AllByRecursion (GoesWell k s.wiring here (Some o.at.port)) outs
  all-good [] g n = tt
  all-good (d ∷ ds) g n = (out-good d.dest g.0 n.0, all-good ds g.1 n.1)
