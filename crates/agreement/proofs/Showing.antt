-- What is seen of a packet whose outs all leave at once.
use Rattle.std.proofs.Common.{◌≡◌, ℕ, suc, Bool, true, false, ◌||◌, List, [], ◌∷◌, Option, Some, None, refl, ap, ◌∙◌}
use Rattle.std.proofs.Common.{sym}
use Rattle.std.specs.Prelude.{IfSome, filter_map, if◌then◌else◌, map}
use Rattle.std.specs.List.{AllByRecursion, cons_option}
use Rattle.std.proofs.lemmas.List.{append-nil}
use Rattle.of10_match.specs.Fields.{HeaderOf}
use Rattle.of10_actions.specs.Fields.{RewriteOf}
use Rattle.of10_actions.specs.Rewriting.{apply}
use Rattle.of10_actions.specs.declared.effects.Dest.{Dest}
use Rattle.of10_actions.specs.declared.effects.Dest.TheVariants.{Port, Flood, Ingress, Tell}
use Rattle.of10_actions.specs.declared.effects.Out.{Out}
use Rattle.policy_meaning.specs.HopFact.{AreThose, leaving, told_by, without_in_port}
use Rattle.policy_meaning.specs.declared.walking.PortOut.{PortOut}
use Rattle.policy_meaning.specs.declared.walking.Told.{Told}
use Rattle.policy_meaning.specs.declared.walking.Walked.{Walked}
use Rattle.switch_meaning.specs.FiringLaw.{StaysOn, leaves_by, said, sent_at}
use Rattle.switch_meaning.specs.Following.{all_go, fires_on}
use Rattle.switch_meaning.specs.Placing.{is_telling, tells}
use Rattle.switch_meaning.specs.Wirings.{far_end, outside_at}
use Rattle.switch_meaning.specs.declared.fired.Seen.{Seen}
use Rattle.switch_meaning.specs.declared.fired.Sent.{Sent}
use Rattle.switch_meaning.specs.declared.wiring.Outside.{Outside}
use Rattle.switch_meaning.specs.declared.wiring.SwitchPort.{SwitchPort}
use Rattle.switch_meaning.specs.declared.wiring.Wiring.{Wiring}
use Rattle.agreement.specs.Seeing.{Alike, but_in_port, comes_by, copy_at, expected, left_at}
use Rattle.agreement.specs.Followed.{AreNumbered, IsNumbered}

module _ (w : Wiring) (open_ends : (v p : ℕ) → IfSome (outside_at w v p) (λ o. far_end w o.at ≡ None)) (at : SwitchPort)
    (h : HeaderOf) (on : List ℕ → ℕ → HeaderOf → Seen) where
  -- what the packet gives that some outs send
  abbrev pub gone : List Sent → ℕ → Seen
  gone sent place = all_go w on [] at.switch place sent

  abbrev leaves : Out → Option Sent
  leaves o = leaves_by w (comes_by at.port h) o.rewrite o.dest

  -- what is sent shows what is to leave
  abbrev pub Shows : List Sent → List PortOut → Type 0
  Shows sent outs = (place : ℕ)
      → (map but_in_port (gone sent place).outs ≡ map but_in_port (filter_map (left_at w h) outs))
      × ((gone sent place).copies ≡ [])

  pub port-shows : (v p : ℕ) (r : RewriteOf) (o : Option Outside) → outside_at w v p ≡ o
      → IfSome o (λ o. far_end w o.at ≡ None) → IfSome o (λ (o : Outside). o.at.switch ≡ at.switch)
      → (sent : List Sent) (outs : List PortOut) → Shows sent outs
      → Shows (cons_option (sent_at o (apply r (comes_by at.port h))) sent)
      (record { v = v; port = p; rewrite = r } ∷ outs)
  port-shows v p r None e end lies sent outs s place = rw e (s place)
  port-shows v p r (Some o) e end lies sent outs s place =
      let spot : record { switch = at.switch; port = o.at.port } ≡ o.at =
      λ i. record { switch = (sym lies) i; port = o.at.port } in
      let far : far_end w (record { switch = at.switch; port = o.at.port }) ≡ None =
      ap (λ (z : SwitchPort). far_end w z) spot ∙ end in
      rw (e, far) (
        λ i. record { at = spot i; header = comes_by 0 (apply r h) } ∷ (s (suc place)).0 i,
        (s (suc place)).1,
      )

  out-shows : (r : RewriteOf) (d : Dest) → StaysOn w at.switch d → IsNumbered d
      → (sent : List Sent) (outs : List PortOut) → Shows sent outs
      → Shows (cons_option (leaves_by w (comes_by at.port h) r d) sent) (cons_option (leaving r d) outs)
  out-shows r (Port v p) stays n sent outs s =
      port-shows v p r (outside_at w v p) refl (open_ends v p) stays sent outs s
  out-shows r (Flood v p) stays n sent outs s =
      port-shows v p r (outside_at w v p) refl (open_ends v p) stays sent outs s
  out-shows r Ingress stays n sent outs s = absurd n
  out-shows r (Tell member reason) stays n sent outs s = s

  -- what leaves by outs that all lie on the switch
  pub outs-show : (outs : List Out) → AllByRecursion (λ (o : Out). StaysOn w at.switch o.dest) outs → AreNumbered outs
      → Shows (filter_map leaves outs) (filter_map (λ (o : Out). leaving o.rewrite o.dest) outs)
  outs-show [] stays n = λ place. (refl, refl)
  outs-show (o ∷ os) stays n = out-shows o.rewrite o.dest stays.0 n.0 (filter_map leaves os)
      (filter_map (λ (o : Out). leaving o.rewrite o.dest) os) (outs-show os stays.1 n.1)

-- somebody is told where some out tells
abbrev pub is_any : {A : Type 0} → List A → Bool
is_any [] = false
is_any (x ∷ xs) = true

tells-next : (r : RewriteOf) (d : Dest) (b : Bool) (xs : List Out) → b ≡ is_any xs
    → (is_telling d || b) ≡ is_any (cons_option (told_by r d) xs)
tells-next r (Port v p) b xs e = e
tells-next r (Flood v p) b xs e = e
tells-next r Ingress b xs e = e
tells-next r (Tell member reason) b xs e = refl

tells-any : (outs : List Out) → tells outs ≡ is_any (filter_map (λ (o : Out). told_by o.rewrite o.dest) outs)
tells-any [] = refl
tells-any (o ∷ os) = tells-next o.rewrite o.dest (tells os) (filter_map (λ (o : Out). told_by o.rewrite o.dest) os)
    (tells-any os)

pub copies-by : (at : SwitchPort) (h : HeaderOf) (told : List Told) (b : Bool) → b ≡ is_any told →
    map (λ k. record { switch = at.switch; header = k }) (if b then comes_by at.port h ∷ [] else []) ≡ copy_at at h told
copies-by at h [] true e = cc
copies-by at h [] false e = refl
copies-by at h (t ∷ ts) true e = refl
copies-by at h (t ∷ ts) false e = cc

any-map : {A B : Type 0} (f : A → B) (xs : List A) → is_any (map f xs) ≡ is_any xs
any-map f [] = refl
any-map f (x ∷ xs) = refl

pub copies-told : (at : SwitchPort) (h : HeaderOf) (outs : List Out) (walked : Walked) → AreThose outs walked →
    map (λ k. record { switch = at.switch; header = k }) (if tells outs then comes_by at.port h ∷ [] else [])
    ≡ copy_at at h walked.told
copies-told at h outs walked those = copies-by at h walked.told (tells outs)
    (tells-any outs ∙ (ap is_any those.tellings ∙ any-map without_in_port walked.told))

-- a switch whose packets show those of the walk, and that makes a copy where an out tells, shows what the walk says
pub fired-shows : (w : Wiring) (open_ends : (v p : ℕ) → IfSome (outside_at w v p) (λ o. far_end w o.at ≡ None))
    (at : SwitchPort) (h : HeaderOf) (on : List ℕ → ℕ → HeaderOf
    → Seen) (sent : List Sent) (outs : List Out) (walked : Walked)
    → Shows w open_ends at h on sent (filter_map (λ (o : Out). leaving o.rewrite o.dest) outs) → AreThose outs walked
    → Alike
    (fires_on w on [] at.switch
    (record { outs = sent; copies = if tells outs then comes_by at.port h ∷ [] else [] })) (expected w at h walked)
fired-shows w open_ends at h on sent outs walked s those =
    let shows = s 0 in
    record {
      outs = shows.0 ∙ ap (λ (xs : List PortOut). map but_in_port (filter_map (left_at w h) xs)) those.ports;
      copies = rw (shows.1) (append-nil _ ∙ copies-told at h outs walked those);
    }

-- a switch that sends what the outs of a rule say shows what the walk says
pub said-shows : (w : Wiring) → ((v p : ℕ) → IfSome (outside_at w v p) (λ o. far_end w o.at ≡ None))
    → (at : SwitchPort) (h : HeaderOf) (on : List ℕ → ℕ → HeaderOf → Seen) (outs : List Out) (walked : Walked)
    → AllByRecursion (λ (o : Out). StaysOn w at.switch o.dest) outs → AreNumbered outs → AreThose outs walked
    → Alike (fires_on w on [] at.switch (said w (comes_by at.port h) outs)) (expected w at h walked)
said-shows w open_ends at h on outs walked stays n those =
    fired-shows w open_ends at h on (filter_map (λ (o : Out). leaves_by w (comes_by at.port h) o.rewrite o.dest) outs)
    outs walked (outs-show w open_ends at h on outs stays n) those
