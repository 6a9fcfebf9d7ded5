-- What is seen of a packet of a whole virtual switch: its rules stand for all ports, so that outs to the port by which
-- a
-- packet came are silent.
use Rattle.std.proofs.Common.{◌≡◌, ℕ, suc, Bool, true, false, ◌&&◌, ◌||◌, ◌==◌, List, [], ◌∷◌, Option, Some, None, refl}
use Rattle.std.proofs.Common.{ap, ◌∙◌, sym, eqb-true, eq-eqb}
use Rattle.std.proofs.lemmas.List.{append-nil}
use Rattle.std.specs.Prelude.{IfSome, filter, filter_map, if◌then◌else◌, not}
use Rattle.std.specs.List.{AllByRecursion, cons_option}
use Rattle.std.specs.Option.{option_eq}
use Rattle.of10_match.specs.Fields.{HeaderOf}
use Rattle.of10_actions.specs.Fields.{RewriteOf}
use Rattle.of10_actions.specs.Rewriting.{apply}
use Rattle.of10_actions.specs.declared.effects.Dest.{Dest}
use Rattle.of10_actions.specs.declared.effects.Dest.TheVariants.{Port, Flood, Ingress, Tell}
use Rattle.of10_actions.specs.declared.effects.Out.{Out}
use Rattle.policy_meaning.specs.Walk.{here, port_out, telling}
use Rattle.policy_meaning.specs.declared.walking.PortOut.{PortOut}
use Rattle.policy_meaning.specs.declared.walking.Told.{Told}
use Rattle.switch_meaning.specs.FiringLaw.{StaysOn, leaves_by, said, sent_at}
use Rattle.switch_meaning.specs.Following.{fires_on}
use Rattle.switch_meaning.specs.Placing.{is_silent, is_telling, tells}
use Rattle.switch_meaning.specs.Wirings.{far_end, outside_at}
use Rattle.switch_meaning.specs.declared.fired.Seen.{Seen}
use Rattle.switch_meaning.specs.declared.fired.Sent.{Sent}
use Rattle.switch_meaning.specs.declared.wiring.Outside.{Outside}
use Rattle.switch_meaning.specs.declared.wiring.Wiring.{Wiring}
use Rattle.switch_meaning.proofs.Items.{list_any-filter}
use Rattle.agreement.specs.Seeing.{Alike, comes_by, expected}
use Rattle.agreement.proofs.Showing.{Shows, copies-by, is_any, port-shows}

module _ (w : Wiring) (open_ends : (v p : ℕ) → IfSome (outside_at w v p) (λ o. far_end w o.at ≡ None)) (v : ℕ)
    (h : HeaderOf) (o : Outside) (at : outside_at w v h.in_port ≡ Some o) (on : List ℕ → ℕ → HeaderOf → Seen) where
  -- the outs that speak of the packet
  abbrev speaks : Out → Bool
  speaks d = not (is_silent v (Some h.in_port) d.dest)

  abbrev leaves : Out → Option Sent
  leaves d = leaves_by w (comes_by o.at.port h) d.rewrite d.dest

  abbrev goes : Out → Option PortOut
  goes d = port_out v h.in_port d.rewrite d.dest

  abbrev ShowsHere : List Sent → List PortOut → Type 0
  ShowsHere sent outs = Shows w open_ends o.at h on sent outs

  same-test : (p q : ℕ) (b : Bool) → (p == q) ≡ b → (q == p) ≡ b
  same-test p q true e = eq-eqb q p (sym (eqb-true p q e))
  same-test p q false e = other (q == p) refl
    where
      other : (b : Bool) → (q == p) ≡ b → b ≡ false
      other true t = let s : (p == q) ≡ true = eq-eqb p q (sym (eqb-true q p t)) in cc
      other false t = refl

  ingress-shows : (r : RewriteOf) (sent : List Sent) (outs : List PortOut) → ShowsHere sent outs
      → ShowsHere (record { port = o.at.port; header = apply r (comes_by o.at.port h) } ∷ sent)
      (record { v = v; port = h.in_port; rewrite = r } ∷ outs)
  ingress-shows r sent outs s place =
      let ends : IfSome (Some o) (λ o. far_end w o.at ≡ None) = rw at at (open_ends v h.in_port) in
      rw (at, ends) (
        λ i. record { at = o.at; header = comes_by 0 (apply r h) } ∷ (s (suc place)).0 i,
        (s (suc place)).1,
      )

  -- by whether it is silent
  to-port : (u q : ℕ) (r : RewriteOf) (d : Dest) (b c : Bool) → b ≡ c
      → leaves_by w (comes_by o.at.port h) r d ≡ sent_at (outside_at w u q) (apply r (comes_by o.at.port h))
      → StaysOn w o.at.switch d → IfSome (outside_at w u q) (λ (o' : Outside). o'.at.switch ≡ o.at.switch)
      → (xs : List Out) (outs : List PortOut) → ShowsHere (filter_map leaves xs) outs
      → ShowsHere (filter_map leaves (if not b then record { rewrite = r; dest = d } ∷ xs else xs))
      (cons_option (if c then None else Some (record { v = u; port = q; rewrite = r })) outs)
  to-port u q r d true true e l stays lies xs outs s = s
  to-port u q r d true false e l stays lies xs outs s = cc
  to-port u q r d false true e l stays lies xs outs s = cc
  to-port u q r d false false e l stays lies xs outs s =
      λ place. rw l (port-shows w open_ends o.at h on u q r (outside_at w u q) refl (open_ends u q) lies
      (filter_map leaves xs) outs s place)

  same-silent : (u q : ℕ) → ((u == v) && option_eq ◌==◌ (Some h.in_port) (Some q)) ≡ ((u == v) && (q == h.in_port))
  same-silent u q = ap (λ b. (u == v) && b) (sym (same-test h.in_port q (h.in_port == q) refl))

  out-shows : (r : RewriteOf) (d : Dest) → StaysOn w o.at.switch d → (xs : List Out) (outs : List PortOut)
      → ShowsHere (filter_map leaves xs) outs
      → ShowsHere
      (filter_map leaves (if speaks (record { rewrite = r; dest = d }) then record { rewrite = r; dest = d } ∷ xs
      else xs)) (cons_option (port_out v h.in_port r d) outs)
  out-shows r (Port u q) stays xs outs s =
      to-port u q r (Port u q) ((u == v) && option_eq ◌==◌ (Some h.in_port) (Some q)) ((u == v) && (q == h.in_port))
      (same-silent u q) refl stays stays xs outs s
  out-shows r (Flood u q) stays xs outs s =
      to-port u q r (Flood u q) ((u == v) && option_eq ◌==◌ (Some h.in_port) (Some q)) ((u == v) && (q == h.in_port))
      (same-silent u q) refl stays stays xs outs s
  out-shows r Ingress stays xs outs s = ingress-shows r (filter_map leaves xs) outs s
  out-shows r (Tell who reason) stays xs outs s = s

  outs-show : (outs : List Out) → AllByRecursion (λ (d : Out). StaysOn w o.at.switch d.dest) outs
      → ShowsHere (filter_map leaves (filter speaks outs)) (filter_map goes outs)
  outs-show [] stays = λ place. (refl, refl)
  outs-show (d ∷ ds) stays = out-shows d.rewrite d.dest stays.0 (filter speaks ds) (filter_map goes ds)
      (outs-show ds stays.1)

  -- who is silent tells nobody
  silent-tells : (d : Dest) → not (is_silent v (Some h.in_port) d) ≡ false → is_telling d ≡ false
  silent-tells (Port u q) e = refl
  silent-tells (Flood u q) e = refl
  silent-tells Ingress e = refl
  silent-tells (Tell who reason) e = cc

  tells-next : (r : RewriteOf) (d : Dest) (b : Bool) (xs : List Told) → b ≡ is_any xs
      → (is_telling d || b) ≡ is_any (cons_option (telling h.in_port r d) xs)
  tells-next r (Port u q) b xs e = e
  tells-next r (Flood u q) b xs e = e
  tells-next r Ingress b xs e = e
  tells-next r (Tell who reason) b xs e = refl

  tells-any : (outs : List Out)
      → tells outs ≡ is_any (filter_map (λ (d : Out). telling h.in_port d.rewrite d.dest) outs)
  tells-any [] = refl
  tells-any (d ∷ ds) = tells-next d.rewrite d.dest (tells ds)
      (filter_map (λ (d : Out). telling h.in_port d.rewrite d.dest) ds) (tells-any ds)

  -- a switch that sends what the speaking outs say shows what they are at their virtual switch
  pub whole-shows : (outs : List Out) → AllByRecursion (λ (d : Out). StaysOn w o.at.switch d.dest) outs
      → Alike (fires_on w on [] o.at.switch (said w (comes_by o.at.port h) (filter speaks outs)))
      (expected w o.at h (here v h.in_port outs))
  whole-shows outs stays =
      let shows = outs-show outs stays 0 in
      let told = filter_map (λ (d : Out). telling h.in_port d.rewrite d.dest) outs in
      record {
        outs = shows.0;
        copies =
            rw (shows.1) (append-nil _
            ∙ copies-by o.at h told (tells (filter speaks outs))
            (list_any-filter (λ (d : Out). is_telling d.dest) speaks outs (λ d e. silent-tells d.dest e)
            ∙ tells-any outs));
      }
