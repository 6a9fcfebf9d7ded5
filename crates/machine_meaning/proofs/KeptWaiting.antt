-- What is waited for stays so while sessions come up and go, and parts are told.
use Rattle.std.proofs.Common.{◌≡◌, ◌∙◌, ℕ, zero, suc, ◌<◌, ◌==◌, Bool, true, false, true≢false, not, List, [], ◌∷◌}
use Rattle.std.proofs.Common.{◌++◌, length, map, filter, filter_map, flat_map, Option, Some, None, IfSome, option_map}
use Rattle.std.proofs.Common.{slice_get, refl, sym, ap, subst, arith, if◌then◌else◌, unwrap_or}
use Rattle.std.proofs.lemmas.List.{length-map}
use Rattle.std.proofs.lemmas.Option.{slice_get-map}
use Rattle.std.specs.List.{AllByRecursion}
use Rattle.std.specs.Option.{option_map_or}
use Rattle.cv_io.specs.declared.leaf.Who.TheVariants.{Switch}
use Rattle.of10_stats.specs.declared.reply.PortStat.{PortStat}
use Rattle.policies.specs.Policies.{PolicyOf}
use Rattle.switch_state.specs.Known.{KnownOf, nothing_known, unanswered}
use Rattle.virtual_topology.specs.declared.plan.TopologyPlan.{TopologyPlan}
use Rattle.waitings.specs.Lists.{changed_first}
use Rattle.waitings.specs.Ports.{purpose_told, taking_ports, told_of}
use Rattle.waitings.specs.Waitings.{asker_of, is_asked_by, is_done, is_of_barriers, is_part, part_with_xid}
use Rattle.waitings.specs.Waitings.{unless_more, unwritten, with_xid, without_barrier, without_part, without_parts_of}
use Rattle.waitings.specs.declared.state.Asker.{Asker}
use Rattle.waitings.specs.declared.state.Part.{Part}
use Rattle.waitings.specs.declared.state.Purpose.{Purpose}
use Rattle.waitings.specs.declared.state.Purpose.TheVariants as purposes
use Rattle.waitings.specs.declared.state.Waiting.{Waiting}
use Rattle.machine_meaning.specs.Barriers.{unanswered_at, unanswered_of}
use Rattle.machine_meaning.specs.Polls.{switches_up}
use Rattle.machine_meaning.specs.Sessions.{is_up}
use Rattle.machine_meaning.specs.States.{State, SwitchOf}
use Rattle.machine_meaning.specs.Ways.{switches_of}
use Rattle.machine_meaning.proofs.Quiet.{StillWaits}
use Rattle.machine_meaning.proofs.Unchanged.{all_weaker}
use Rattle.machine_meaning.proofs.WhoIsUp.{IsUpAt, is_up_switch, off, on, stays_up, switch_up, up_still}

-- lists -------------------------------------------------------------------------------------------------------------

pub all_both : {X : Type 0} (P : X → Type 0) (xs ys : List X) → AllByRecursion P xs → AllByRecursion P ys
    → AllByRecursion P (xs ++ ys)
all_both P [] ys h k = k
all_both P (x ∷ xs) ys h k = (h.0, all_both P xs ys h.1 k)

-- what holds of each holds of what is made of each
pub all_made : {X Y : Type 0} (P : X → Type 0) (Q : Y → Type 0) (f : X → Y) → ((x : X) → P x → Q (f x)) → (xs : List X)
    → AllByRecursion P xs → AllByRecursion Q (map f xs)
all_made P Q f g [] h = tt
all_made P Q f g (x ∷ xs) h = (g x h.0, all_made P Q f g xs h.1)

-- of what passes a test more may hold
pub all_passing : {X : Type 0} (P Q : X → Type 0) (test : X → Bool) → ((x : X) → test x ≡ true → P x → Q x)
    → (xs : List X) → AllByRecursion P xs → AllByRecursion Q (filter test xs)
all_passing P Q test g [] h = tt
all_passing P Q test g (x ∷ xs) h = by (test x) refl (all_passing P Q test g xs h.1)
  where
    by : (b : Bool) → test x ≡ b → AllByRecursion Q (filter test xs)
        → AllByRecursion Q (if b then x ∷ filter test xs else filter test xs)
    by true e rest = (g x e h.0, rest)
    by false e rest = rest

all_first : {X : Type 0} (P : X → Type 0) (test : X → Bool) (f : X → X) → ((x : X) → P x → P (f x)) → (xs : List X)
    → AllByRecursion P xs → AllByRecursion P (changed_first test f xs)
all_first P test f g [] h = tt
all_first P test f g (x ∷ xs) h = by (test x) (all_first P test f g xs h.1)
  where
    by : (b : Bool) → AllByRecursion P (changed_first test f xs)
        → AllByRecursion P (if b then f x ∷ xs else x ∷ changed_first test f xs)
    by true rest = (g x h.0, h.1)
    by false rest = (h.0, rest)

all_flat : {X Y : Type 0} (P : Y → Type 0) (f : X → List Y) → ((x : X) → AllByRecursion P (f x)) → (xs : List X)
    → AllByRecursion P (flat_map f xs)
all_flat P f g [] = tt
all_flat P f g (x ∷ xs) = all_both P (f x) (flat_map f xs) (g x) (all_flat P f g xs)

-- waitings ----------------------------------------------------------------------------------------------------------

-- a part of a switch that is up, where these are
abbrev pub IsPartOfUp : List Bool → Part → Type 0
IsPartOfUp us part = IsUpAt us part.switch

-- who asked is up
abbrev pub IsAskedByUp : List Bool → Purpose → Type 0
IsAskedByUp us purpose = IfSome (asker_of purpose) (λ (a : Asker). IsUpAt us a.member)

-- parts are of switches that are up, and who asked is up
pub record IsAwaited (switches members : List Bool) (w : Waiting) : Type 0 where
  pub parts : AllByRecursion (IsPartOfUp switches) w.parts
  pub asker : IsAskedByUp members w.purpose

-- a member goes, and what it asked for isn't waited for any more
asker_stays : (us : List Bool) (n : ℕ) (o : Option Asker)
    → not (option_map_or (λ (a : Asker). a.member == n) o false) ≡ true → IfSome o (λ (a : Asker). IsUpAt us a.member)
    → IfSome o (λ (a : Asker). IsUpAt (off us n) a.member)
asker_stays us n None e h = tt
asker_stays us n (Some a) e h = by (a.member == n) refl e
  where
    by : (b : Bool) → (a.member == n) ≡ b → not b ≡ true → IsUpAt (off us n) a.member
    by true t e = absurd (true≢false (sym e))
    by false t e = stays_up us n a.member t h

module _ (switches members : List Bool) (ws : List Waiting) (all : AllByRecursion (IsAwaited switches members) ws) where
  pub member_gone : (n : ℕ)
      → AllByRecursion (IsAwaited switches (off members n)) (filter (λ (w : Waiting). not (is_asked_by n w)) ws)
  member_gone n =
      all_passing (IsAwaited switches members) (IsAwaited switches (off members n))
      (λ (w : Waiting). not (is_asked_by n w))
      (λ w e h. record { parts = h.parts; asker = asker_stays members n (asker_of w.purpose) e h.asker }) ws all

  -- a switch goes, and no part of it is waited for any more
  pub switch_gone : (n : ℕ) → AllByRecursion (IsAwaited (off switches n) members) (map (without_parts_of n) ws)
  switch_gone n =
      all_made (IsAwaited switches members) (IsAwaited (off switches n) members) (without_parts_of n)
      (λ w h. record {
        parts =
            all_passing (IsPartOfUp switches) (IsPartOfUp (off switches n))
            (λ (part : Part). not (part.switch == n)) (λ part e k. one part e k) w.parts h.parts;
        asker = h.asker;
      }) ws all
    where
      one : (part : Part) → not (part.switch == n) ≡ true → IsPartOfUp switches part → IsPartOfUp (off switches n) part
      one part e h = by (part.switch == n) refl e
        where
          by : (b : Bool) → (part.switch == n) ≡ b → not b ≡ true → IsUpAt (off switches n) part.switch
          by true t e = absurd (true≢false (sym e))
          by false t e = stays_up switches n part.switch t h

  pub member_come : (n : ℕ) → AllByRecursion (IsAwaited switches (on members n)) ws
  member_come n =
      all_weaker (IsAwaited switches members) (IsAwaited switches (on members n))
      (λ w h. record { parts = h.parts; asker = asked (asker_of w.purpose) h.asker }) ws all
    where
      asked : (o : Option Asker) → IfSome o (λ (a : Asker). IsUpAt members a.member)
          → IfSome o (λ (a : Asker). IsUpAt (on members n) a.member)
      asked None h = tt
      asked (Some a) h = up_still members n a.member h

  pub switch_come : (n : ℕ) → AllByRecursion (IsAwaited (on switches n) members) ws
  switch_come n =
      all_weaker (IsAwaited switches members) (IsAwaited (on switches n) members)
      (λ w h. record {
        parts =
            all_weaker (IsPartOfUp switches) (IsPartOfUp (on switches n))
            (λ part k. up_still switches n part.switch k) w.parts h.parts;
        asker = h.asker;
      }) ws all

-- answers -----------------------------------------------------------------------------------------------------------

module _ (switches members : List Bool) where
  abbrev IsSo : Waiting → Type 0
  IsSo w = IsAwaited switches members w

  fewer_parts : (test : Part → Bool) (w : Waiting) → IsSo w → IsSo (record w { parts = filter test w.parts })
  fewer_parts test w h = record {
    parts =
        all_passing (IsPartOfUp switches) (IsPartOfUp switches) test (λ part e k. k) w.parts h.parts;
    asker = h.asker;
  }

  -- a barrier is answered
  barrier_passed : (n number : ℕ) (w : Waiting) → IsSo w → IsSo (without_barrier n number w)
  barrier_passed n number w h = by (is_of_barriers w.purpose)
    where
      by : (b : Bool) → IsSo (if b then without_part n number w else w)
      by true = fewer_parts (λ (part : Part). not (is_part n number part)) w h
      by false = h

  pub barriers_passed : (n number : ℕ) (ws : List Waiting) → AllByRecursion IsSo ws
      → AllByRecursion IsSo (map (without_barrier n number) ws)
  barriers_passed n number ws h = all_made IsSo IsSo (without_barrier n number) (barrier_passed n number) ws h

  -- a part of a poll is told
  part_taken : (more : Bool) (n xid : ℕ) (w : Waiting) → IsSo w → IsSo (unless_more more n xid w)
  part_taken true n xid w h = h
  part_taken false n xid w h = fewer_parts (λ (part : Part). not (is_part n xid part)) w h

  pub flows_taken : (test : Waiting → Bool) (more : Bool) (n xid : ℕ) (ws : List Waiting) → AllByRecursion IsSo ws
      → AllByRecursion IsSo (changed_first test (unless_more more n xid) ws)
  flows_taken test more n xid ws h = all_first IsSo test (unless_more more n xid) (part_taken more n xid) ws h

  asked_still : (stats : List PortStat) (purpose : Purpose) → IsAskedByUp members purpose
      → IsAskedByUp members (purpose_told stats purpose)
  asked_still stats (purposes.Flow asker f) h = h
  asked_still stats (purposes.Aggregate asker f) h = h
  asked_still stats (purposes.Port asker port_no told) h = h
  asked_still stats (purposes.Idle doubts) h = h
  asked_still stats (purposes.Barrier asker) h = h

  pub ports_taken : (test : Waiting → Bool) (t : TopologyPlan) (n xid : ℕ) (more : Bool) (stats : List PortStat)
      (ws : List Waiting) → AllByRecursion IsSo ws
      → AllByRecursion IsSo (changed_first test (taking_ports t n xid more stats) ws)
  ports_taken test t n xid more stats ws h =
      all_first IsSo test (taking_ports t n xid more stats)
      (λ w k. let told = filter_map (told_of t n w.v) stats in
      part_taken more n xid (record w { purpose = purpose_told told w.purpose })
      (record { parts = k.parts; asker = asked_still told w.purpose k.asker })) ws h

  -- a poll is asked of a switch
  xids_written : (n xid : ℕ) (parts : List Part) → AllByRecursion (IsPartOfUp switches) parts
      → AllByRecursion (IsPartOfUp switches) (map (part_with_xid n xid) parts)
  xids_written n xid parts h =
      all_made (IsPartOfUp switches) (IsPartOfUp switches) (part_with_xid n xid) one parts h
    where
      one : (part : Part) → IsPartOfUp switches part → IsPartOfUp switches (part_with_xid n xid part)
      one part h = by (is_part n 0 part)
        where
          by : (b : Bool) → IsPartOfUp switches (if b then record part { number = xid } else part)
          by true = h
          by false = h

  pub asked_of : (v n xid : ℕ) (w : Waiting) → IsSo w → IsSo (with_xid v n xid w)
  asked_of v n xid w h = by (w.v == v)
    where
      by : (b : Bool) → IsSo (if b then record w { parts = map (part_with_xid n xid) w.parts } else w)
      by true = record { parts = xids_written n xid w.parts h.parts; asker = h.asker }
      by false = h

-- and still as much is waited for
pub still_waits : (v n xid : ℕ) (w : Waiting) → StillWaits w → StillWaits (with_xid v n xid w)
still_waits v n xid w h = by (w.v == v)
  where
    by : (b : Bool) → StillWaits (if b then record w { parts = map (part_with_xid n xid) w.parts } else w)
    by true = let same = length-map w.parts (part_with_xid n xid) in omega (arith, same, h)
    by false = h

-- what is left isn't done
pub left_waits : (w : Waiting) → not (is_done w) ≡ true → StillWaits w
left_waits w e = by (length w.parts) e
  where
    by : (k : ℕ) → not (k == 0) ≡ true → 0 < k
    by zero e = absurd (true≢false (sym e))
    by (suc k) e = omega arith

-- what begins -------------------------------------------------------------------------------------------------------

-- a poll asks switches that are up
pub polled_up : (p : PolicyOf) (s : State) (v : ℕ)
    → AllByRecursion (IsPartOfUp (map switch_up s.switches)) (map unwritten (switches_up p s v))
polled_up p s v = each (switches_of p v)
  where
    each : (ns : List ℕ)
        → AllByRecursion (IsPartOfUp (map switch_up s.switches)) (map unwritten (filter (λ n. is_up s (Switch n)) ns))
    each [] = tt
    each (n ∷ ns) = by (is_up s (Switch n)) refl (each ns)
      where
        by : (b : Bool) → is_up s (Switch n) ≡ b
            → AllByRecursion (IsPartOfUp (map switch_up s.switches))
            (map unwritten (filter (λ n. is_up s (Switch n)) ns))
            → AllByRecursion (IsPartOfUp (map switch_up s.switches))
            (map unwritten
            (if b then n ∷ filter (λ n. is_up s (Switch n)) ns else filter (λ n. is_up s (Switch n)) ns))
        by true e rest = (sym (is_up_switch s n) ∙ e, rest)
        by false e rest = rest

-- nothing is known of switches that are down
abbrev pub DownUnknown : State → Type 0
DownUnknown s =
    (n : ℕ) (x : SwitchOf) → slice_get s.switches n ≡ Some x → x.outbox.up ≡ false → x.known ≡ nothing_known 0

-- barriers wait for switches that are up
pub barriers_up : (p : PolicyOf) (s : State) (v : ℕ) → DownUnknown s
    → AllByRecursion (IsPartOfUp (map switch_up s.switches)) (unanswered_of p s v)
barriers_up p s v unknown = all_flat (IsPartOfUp (map switch_up s.switches)) (unanswered_at s) each (switches_of p v)
  where
    numbered : (n : ℕ) (numbers : List ℕ) → IsUpAt (map switch_up s.switches) n
        → AllByRecursion (IsPartOfUp (map switch_up s.switches))
        (map (λ number. record { switch = n; number = number }) numbers)
    numbered n [] h = tt
    numbered n (k ∷ ks) h = (h, numbered n ks h)

    each : (n : ℕ) → AllByRecursion (IsPartOfUp (map switch_up s.switches)) (unanswered_at s n)
    each n = by (slice_get s.switches n) refl
      where
        by : (o : Option SwitchOf) → slice_get s.switches n ≡ o
            → AllByRecursion (IsPartOfUp (map switch_up s.switches))
            (map (λ number. record { switch = n; number = number })
            (option_map_or (λ (x : SwitchOf). unanswered x.known) o []))
        by None e = tt
        by (Some x) e = at x.outbox.up refl
          where
            at : (u : Bool) → x.outbox.up ≡ u
                → AllByRecursion (IsPartOfUp (map switch_up s.switches))
                (map (λ number. record { switch = n; number = number }) (unanswered x.known))
            at true t =
                numbered n (unanswered x.known)
                (ap (λ (o : Option Bool). unwrap_or o false)
                (slice_get-map switch_up s.switches n ∙ ap (option_map switch_up) e) ∙ t)
            at false t =
                subst (λ (known : KnownOf). AllByRecursion (IsPartOfUp (map switch_up s.switches))
                (map (λ number. record { switch = n; number = number }) (unanswered known)))
                (sym (unknown n x e t)) tt
