-- What follows where no row applies.
use Rattle.std.proofs.Common.{◌≡◌, ◌∙◌, ℕ, ◌-◌, Bool, true, false, ◌==◌, ◌||◌, not, List, [], ◌∷◌, length, map, take}
use Rattle.std.proofs.Common.{find, position, sum_by, Option, Some, None, option_map, IfSome, IsTrue, refl, sym, cond}
use Rattle.std.proofs.Common.{if◌then◌else◌, nat_lt, ltb-false, lt-ltb, arith, true≢false, ◌<◌, Result, Ok, Err, OnOk}
use Rattle.std.specs.List.{list_any, position_or_len, AllByRecursion}
use Rattle.of10_match.specs.Fields.{HeaderOf, MatchOf}
use Rattle.of10_actions.specs.Numbers.{IN_PORT, TABLE, NORMAL, FLOOD, ALL, CONTROLLER}
use Rattle.of10_actions.specs.declared.action.Action.{Action}
use Rattle.of10_actions.specs.declared.action.Action.TheVariants.{Output, SetVlanVid, SetVlanPcp, StripVlan, SetDlSrc}
use Rattle.of10_actions.specs.declared.action.Action.TheVariants.{SetDlDst, SetNwSrc, SetNwDst, SetNwTos, SetTpSrc}
use Rattle.of10_actions.specs.declared.action.Action.TheVariants.{SetTpDst, Enqueue}
use Rattle.of10_actions.specs.declared.effects.PortView.{PortView}
use Rattle.grants.specs.Denials.{Answers}
use Rattle.grants.specs.Granted.{AreGranted, IsGranted, IsGrantedOut, IsServed, goes_somewhere}
use Rattle.grants.specs.Names.{fields}
use Rattle.grants.specs.Ports.{in_region, meets_region, sees}
use Rattle.grants.specs.Rows.{action_row, action_rows, count_row, end_row, entry_rows, field_row, first_of, grants}
use Rattle.grants.specs.Rows.{in_port_row, is_beyond, is_end, is_port_wrong, is_refused, kind_of, output_row}
use Rattle.grants.specs.Rows.{packet_rows, region_row, weight, when}
use Rattle.grants.specs.declared.denial.Denial.{Denial}
use Rattle.grants.specs.declared.denial.Detail.{Detail}
use Rattle.grants.specs.declared.denial.Detail.TheVariants.{G11}
use Rattle.grants.specs.declared.denial.Why.TheVariants as why
use Rattle.of10_msgs.specs.declared.message.PacketOut.{PacketOut}
use Rattle.grants.specs.declared.grant.Grant.{Grant}

-- no row applies: neither the first nor one of the others
none_of : (row : Option Denial) (rows : List (Option Denial)) → first_of (row ∷ rows) ≡ None
    → (row ≡ None) × (first_of rows ≡ None)
none_of None rows e = (refl, e)
none_of (Some d) rows e = absurd (cc)

unmet : (test : Bool) (detail : Detail) → when test detail ≡ None → test ≡ false
unmet true detail e = absurd (cc)
unmet false detail e = refl

held : (test : Bool) → not test ≡ false → IsTrue test
held true e = refl
held false e = absurd (true≢false e)

each_none : (row : Action → Option Denial) (list : List Action) → first_of (map row list) ≡ None
    → AllByRecursion (λ a. row a ≡ None) list
each_none row [] e = tt
each_none row (a ∷ list) e = let n = none_of (row a) (map row list) e in (n.0, each_none row list n.1)

weaker : {X : Type 0} (P Q : X → Type 0) → ((x : X) → P x → Q x) → (xs : List X) → AllByRecursion P xs
    → AllByRecursion Q xs
weaker P Q w [] a = tt
weaker P Q w (x ∷ xs) a = (w x a.0, weaker P Q w xs a.1)

served : (in_flow : Bool) (g : Grant) (v : PortView) (a : Action) → output_row in_flow g v a ≡ None
    → IsServed in_flow g v a
served in_flow g v (Output port n) e = unmet (is_refused in_flow g v port) _ e
served in_flow g v (SetVlanVid x) e = tt
served in_flow g v (SetVlanPcp x) e = tt
served in_flow g v StripVlan e = tt
served in_flow g v (SetDlSrc x) e = tt
served in_flow g v (SetDlDst x) e = tt
served in_flow g v (SetNwSrc x) e = tt
served in_flow g v (SetNwDst x) e = tt
served in_flow g v (SetNwTos x) e = tt
served in_flow g v (SetTpSrc x) e = tt
served in_flow g v (SetTpDst x) e = tt
served in_flow g v (Enqueue x y) e = tt

mapped_none : {X Y : Type 0} (f : X → Y) (o : Option X) → option_map f o ≡ None → o ≡ None
mapped_none f None e = refl
mapped_none f (Some x) e = absurd (cc)

found_none : {X : Type 0} (p : X → Bool) (xs : List X) → find p xs ≡ None → AllByRecursion (λ x. p x ≡ false) xs
found_none p [] e = tt
found_none p (x ∷ xs) e = by (p x) refl e (λ n. found_none p xs n)
  where
    by : (b : Bool) → p x ≡ b → cond b (Some x) (find p xs) ≡ None
        → (find p xs ≡ None → AllByRecursion (λ y. p y ≡ false) xs)
        → (p x ≡ false) × AllByRecursion (λ y. p y ≡ false) xs
    by true t e r = absurd (cc)
    by false t e r = (t, r e)

within_more : {X : Type 0} (p : X → Bool) (x : X) (xs : List X) (b : Bool) → p x ≡ b
    → (list_any p xs ≡ true → position_or_len p xs < length xs) → list_any p (x ∷ xs) ≡ true
    → position_or_len p (x ∷ xs) < length (x ∷ xs)
within_more p x xs true e more h = rw e (omega arith)
within_more p x xs false e more h = let r = more (rw e at h) in rw e (omega arith)

any_within : {X : Type 0} (p : X → Bool) (xs : List X) → list_any p xs ≡ true → position_or_len p xs < length xs
any_within p [] h = absurd (true≢false (sym h))
any_within p (x ∷ xs) h = within_more p x xs (p x) refl (any_within p xs) h

position-any : {X : Type 0} (p : X → Bool) (xs : List X) → list_any p xs ≡ true
    → position p xs ≡ Some (position_or_len p xs)
position-any p xs h = rw (lt-ltb (position_or_len p xs) (length xs) (any_within p xs h)) refl

position_none : {X : Type 0} (p : X → Bool) (xs : List X) → position p xs ≡ None → list_any p xs ≡ false
position_none p xs e = by (list_any p xs) refl
  where
    by : (b : Bool) → list_any p xs ≡ b → list_any p xs ≡ false
    by true t = let n : None ≡ Some (position_or_len p xs) = sym e ∙ position-any p xs t in absurd (cc)
    by false t = t

visible : (g : Grant) (o : Option ℕ) → in_port_row g o ≡ None → IfSome o (λ port. IsTrue (sees g.ports port))
visible g None e = tt
visible g (Some port) e = held (sees g.ports port) (unmet (not (sees g.ports port)) _ e)

pub actions_granted : (in_flow : Bool) (g : Grant) (v : PortView) (list : List Action)
    → first_of (action_rows in_flow g v list) ≡ None → AreGranted in_flow g v list
actions_granted in_flow g v list e =
    let kinds = none_of (first_of (map (action_row in_flow g v) list))
    (first_of (map (output_row in_flow g v) list) ∷ end_row g list ∷ count_row g list ∷ []) e in
    let outputs = none_of (first_of (map (output_row in_flow g v) list)) (end_row g list ∷ count_row g list ∷ [])
    kinds.1 in
    let ends = none_of (end_row g list) (count_row g list ∷ []) outputs.1 in
    let count = none_of (count_row g list) [] ends.1 in
    let few : nat_lt 64 (sum_by (weight g) list) ≡ false = unmet (nat_lt 64 (sum_by (weight g) list)) _ count.0 in
    record {
      kinds = weaker (λ a. action_row in_flow g v a ≡ None) (λ a. IsTrue (grants g (kind_of in_flow g v a)))
          (λ a n. held (grants g (kind_of in_flow g v a)) (unmet (not (grants g (kind_of in_flow g v a))) _ n)) list
          (each_none (action_row in_flow g v) list kinds.0);
      outputs = weaker (λ a. output_row in_flow g v a ≡ None) (λ a. IsServed in_flow g v a)
          (λ a n. served in_flow g v a n) list (each_none (output_row in_flow g v) list outputs.0);
      ends = position_none (is_end g) (take (length list - 1) list)
          (mapped_none _ (position (is_end g) (take (length list - 1) list)) ends.0);
      few = ltb-false 64 (sum_by (weight g) list) few;
    }

pub entry_granted : (g : Grant) (v : PortView) (m : MatchOf) (list : List Action)
    → first_of (entry_rows g v m list) ≡ None → IsGranted g v m list
entry_granted g v m list e =
    let field =
    none_of (field_row g m) (region_row g m ∷ in_port_row g m.in_port ∷ first_of (action_rows true g v list) ∷ [])
    e in
    let region = none_of (region_row g m) (in_port_row g m.in_port ∷ first_of (action_rows true g v list) ∷ [])
    field.1 in
    let port = none_of (in_port_row g m.in_port) (first_of (action_rows true g v list) ∷ []) region.1 in
    let acts = none_of (first_of (action_rows true g v list)) [] port.1 in
    record {
      match_ = record {
        fields = found_none (is_beyond g m) fields (mapped_none _ (find (is_beyond g m) fields) field.0);
        region = held (meets_region g m) (unmet (not (meets_region g m)) _ region.0);
        in_port = visible g m.in_port port.0;
      };
      actions = actions_granted true g v list acts.0;
    }

-- what is served in a FLOW_MOD goes somewhere
pub somewhere : (g : Grant) (v : PortView) (port : ℕ) → is_refused true g v port ≡ false
    → goes_somewhere g.ports port ≡ true
somewhere g v port e = by (port == IN_PORT) (port == FLOOD) (port == ALL) (port == CONTROLLER) (port == NORMAL)
    (port == TABLE) (length v.links == 0) (sees g.ports port) e
  where
    by : (i f a c n t l s : Bool)
        → (if f || c then false else if n then false else if t then true else if i || a then not l else not s) ≡ false
        → (i || (f || (a || (c || (n || s))))) ≡ true
    by true f a c n t l s e = refl
    by false true a c n t l s e = refl
    by false false true c n t l s e = refl
    by false false false true n t l s e = refl
    by false false false false true t l s e = refl
    by false false false false false true l s e = absurd (true≢false e)
    by false false false false false false l true e = refl
    by false false false false false false l false e = absurd (true≢false e)

-- what holds where no row applies holds of an Ok
pub on_ok : {A : Type 0} (denied : Option Denial) (result : Result A Denial) (P : Type 0) → (denied ≡ None → P)
    → Answers denied result → OnOk result P
on_ok denied (Ok done) P f e = f e
on_ok denied (Err denial) P f e = tt

-- a PACKET_OUT that no row refuses
pub packet_granted : (g : Grant) (v : PortView) (m : PacketOut) (h : HeaderOf)
    → first_of (action_rows false g v m.actions) ≡ None → first_of (packet_rows g m h) ≡ None → IsGrantedOut g v m h
packet_granted g v m h acts e =
    let allowed = none_of (when (not g.packet_out) (G11 why.Grant))
    (when (is_port_wrong g m) (G11 why.Port) ∷ when (not (in_region g h)) (G11 why.Region) ∷ []) e in
    let port = none_of (when (is_port_wrong g m) (G11 why.Port)) (when (not (in_region g h)) (G11 why.Region) ∷ [])
    allowed.1 in
    let region = none_of (when (not (in_region g h)) (G11 why.Region)) [] port.1 in
    record {
      actions = actions_granted false g v m.actions acts;
      allowed = held g.packet_out (unmet (not g.packet_out) _ allowed.0);
      port = unmet (is_port_wrong g m) _ port.0;
      region = held (in_region g h) (unmet (not (in_region g h)) _ region.0);
    }
