-- What is read of members, and of the whole file, is in range.
use Rattle.std.proofs.Common.{◌≡◌, ◌∙◌, sym, ap, subst, ℕ, zero, suc, ◌+◌, ◌≤◌, ◌<◌, ◌++◌, ◌==◌, Bool, true, false}
use Rattle.std.proofs.Common.{List, [], ◌∷◌, length, Option, Some, None, Result, Ok, Err, IfSome, codes, arith, refl}
use Rattle.std.proofs.Common.{length-append}
use Rattle.std.specs.List.{AllByRecursion, enumerate_from}
use Rattle.std.specs.Prelude.{slice_get, option_and_then, option_map, nat_lt, if◌then◌else◌}
use Rattle.std.specs.List.{list_any}
use Rattle.std.specs.Prelude.{position}
use Rattle.std.proofs.lemmas.List.Quantifiers.{position-Some}
use Rattle.std.proofs.lemmas.Option.{get_or_from_slice_get, slice_get_within}
use Rattle.std.proofs.lemmas.Slice.Eq.{bytes_eq-Decides}
use Rattle.std.proofs.lemmas.Bool.Decides.{nat_tests}
use Rattle.toml.specs.Data.{Data, string, integer, float, boolean, datetime, array, table, Members, get_member, as_bool}
use Rattle.toml.specs.Data.{as_str}
use Rattle.grants.specs.declared.grant.Grant.{Grant}
use Rattle.virtual_topology.specs.declared.plan.SwitchItem.{SwitchItem}
use Rattle.virtual_topology.specs.declared.plan.TopologyPlan.{TopologyPlan}
use Rattle.virtual_topology.specs.declared.plan.VirtualItem.{VirtualItem}
use Rattle.virtual_topology.specs.Places.{same_name}
use Rattle.policies.specs.declared.fault.PolicyFault.{PolicyFault}
use Rattle.policy_file.specs.declared.head.Head.{Head}
use Rattle.policy_file.specs.declared.keys.ItemKind.{ItemKind}
use Rattle.policy_file.specs.declared.keys.ItemKind.TheVariants.{Switch, Cable, Virtual, Link, Member}
use Rattle.policy_file.specs.declared.keys.Version.{Version}
use Rattle.policy_file.specs.declared.keys.Version.TheVariants.{One, Two}
use Rattle.policy_file.specs.declared.member.Place.{Place}
use Rattle.policy_file.specs.declared.member.Rights.{Rights}
use Rattle.policies.specs.declared.policy.MemberItem.{MemberItem}
use Rattle.policy_file.specs.declared.reading.Draft.{Draft}
use Rattle.policy_file.specs.declared.section.Section.{Section}
use Rattle.policy_file.specs.declared.section.Section.TheVariants.{Top, Item}
use Rattle.policy_file.specs.Heads.{head_of, first_of, last_of, items_at, or_absent}
use Rattle.policy_file.specs.Listed.{items, version_of}
use Rattle.policy_file.specs.Members.{is_used, place, ports_at, region_in, region_key, rights, member}
use Rattle.policies.specs.Sound.{is_at}
use Rattle.policy_file.specs.Members.{member_with, numbered, virtual_at, number_of, next_member, members_of}
use Rattle.policy_file.specs.Members.{new_controller}
use Rattle.policy_file.specs.Outcomes.{found}
use Rattle.policies.specs.Outcomes.{then_do}
use Rattle.policy_file.specs.Plans.{dpid_is_taken, name_is_taken, new_dpid, new_name, plan_of, switch, virtual_switch}
use Rattle.policy_file.specs.Plans.{switches as switches_of, virtuals as virtuals_of, pairs, read_at, if_new, with_item}
use Rattle.policy_file.specs.Plans.{items_after}
use Rattle.policy_file.specs.Reading.{draft_of, policy_of, number_of as number_of_version}
use Rattle.policies.specs.Sound.{IsSoundGrant, IsSoundMember, IsSoundSwitch, EachToEarlier, IsSoundVirtual}
use Rattle.policies.specs.Sound.{AreUnlikeSwitches, AreUnlikeVirtuals, AreUnlikeMembers, KeepsLimits, StandsAt}
use Rattle.policy_file.specs.Values.{address, dpid, expression, name, number, ports}
use Rattle.policies.specs.Names.{is_name, is_address}
use Rattle.policy_file.specs.Words.{actions, fields, nothing, virtual_ports}
use Rattle.policy_file.specs.Regions.{all_headers, if_there}
use Rattle.policy_file.proofs.Granted.{AreApart, regions_apart, side_rises, side_there}
use Rattle.policy_file.proofs.Outcomes.{found_some}
use Rattle.policies.proofs.Outcomes.{done}
use Rattle.policy_file.proofs.PortNumbers.{virtual_ports_within}
use Rattle.policy_file.proofs.Unlike.{IsReadApart, items_apart, not_any, not_taken, unlike_all, ports_once}
use Rattle.policy_file.proofs.Unlike.{ports_within}
use Rattle.policy_file.proofs.Kept.{IsWithin, absent_within, read_within, read_passes, absent_passes, there_passes}
use Rattle.policy_file.proofs.Kept.{Gives, items_each}

new_is : {B : Type 0} (taken : B → Bool) (x y : B) → if_new taken x ≡ Some y → x ≡ y
new_is taken x y e = grind arith

new_among : {B : Type 0} (taken : B → Bool) (o : Option B) (y : B) → option_and_then (if_new taken) o ≡ Some y
    → o ≡ Some y
new_among taken (Some x) y e = ap Some (new_is taken x y e)
new_among taken None y e = absurd (cc)

record PlaceIsKept (p : Place) : Type 0 where
  controller : is_name p.controller ≡ true
  bits : IsWithin 2 15 p.bits
  entries : IsWithin 1 4096 p.entries
  address : is_address p.address ≡ true

place_kept : (earlier : List MemberItem) (s : Section) (ms : Members) (p : Place) → place earlier s ms ≡ Ok p
    → PlaceIsKept p
place_kept earlier s ms p e =
    let a = done (found s (codes "actions") (or_absent 0 actions (get_member (codes "actions") ms))) _ p e in
    let b =
    done (found s (codes "address") (or_absent (codes "127.0.0.1:6634") address (get_member (codes "address") ms)))
    _ p a.second in
    let c = done (found s (codes "bits") (read_at (number 2 15) (codes "bits") ms)) _ p b.second in
    let d = done (found s (codes "controller") (new_controller earlier ms)) _ p c.second in
    let f = done (found s (codes "entries") (or_absent 1024 (number 1 4096) (get_member (codes "entries") ms))) _ p
    d.second in
    let controller : is_name d.value ≡ true =
    read_passes is_name (codes "controller") ms d.value
    (new_among (λ c. is_used earlier c (read_at as_str (codes "virtual") ms)) (read_at name (codes "controller") ms)
    d.value (found_some s (codes "controller") _ d.value d.first)) in
    let bits = read_within 2 15 (codes "bits") ms c.value (found_some s (codes "bits") _ c.value c.first) in
    let entries = absent_within 1 4096 1024 (get_member (codes "entries") ms) f.value
    (record { least_is = omega arith; greatest_is = omega arith })
    (found_some s (codes "entries") _ f.value f.first) in
    let address = absent_passes is_address (codes "127.0.0.1:6634") (get_member (codes "address") ms) b.value refl
    (found_some s (codes "address") _ b.value b.first) in
    let same : record { actions = a.value; address = b.value; bits = c.value; controller = d.value; entries = f.value }
    ≡ p = cc f.second in
    subst PlaceIsKept same (record { controller = controller; bits = bits; entries = entries; address = address })

-- a virtual switch and its number, which is this one
record IsNumbered (virtuals : List VirtualItem) (o : Option ℕ) (v : ℕ × VirtualItem) : Type 0 where
  there : slice_get virtuals v.0 ≡ Some v.1
  at : o ≡ Some v.0

at_place : (virtuals : List VirtualItem) (n : ℕ) (x : Option VirtualItem) (v : ℕ × VirtualItem)
    → slice_get virtuals n ≡ x → option_map (λ y. (n, y)) x ≡ Some v → IsNumbered virtuals (Some n) v
at_place virtuals n None v r e = absurd (cc)
at_place virtuals n (Some y) v r e = let p : (n, y) ≡ v = cc e in
    subst (IsNumbered virtuals (Some n)) p (record { there = r; at = refl })

at_number : (virtuals : List VirtualItem) (o : Option ℕ) (v : ℕ × VirtualItem)
    → option_and_then (λ n. option_map (λ x. (n, x)) (slice_get virtuals n)) o ≡ Some v → IsNumbered virtuals o v
at_number virtuals None v e = absurd (cc)
at_number virtuals (Some n) v e = at_place virtuals n (slice_get virtuals n) v refl e

numbered_there : (virtuals : List VirtualItem) (ms : Members) (v : ℕ × VirtualItem) → numbered virtuals ms ≡ Some v
    → IsNumbered virtuals (virtual_at virtuals ms) v
numbered_there virtuals ms v e = at_number virtuals (virtual_at virtuals ms) v e

-- the name that the file has is that of the virtual switch
named_there : (virtuals : List VirtualItem) (o : Option (List ℕ)) (n : ℕ) (x : VirtualItem)
    → option_and_then (λ s. position (λ (v : VirtualItem). same_name v.name s) virtuals) o ≡ Some n
    → slice_get virtuals n ≡ Some x → o ≡ Some x.name
named_there virtuals None n x e t = absurd (cc)
named_there virtuals (Some s) n x e t =
    let p = position-Some (λ (v : VirtualItem). same_name v.name s) virtuals n x e in
    let is : same_name x.name s ≡ true = subst (λ (v : VirtualItem). same_name v.name s ≡ true)
    (get_or_from_slice_get virtuals n x x t) p.1 in
    ap Some (sym ((bytes_eq-Decides x.name s).0 is))

-- the boxes of a member's region
rights_apart : (version : Version) (virtuals : List VirtualItem) (s : Section) (ms : Members) (r : Rights)
    → rights version virtuals s ms ≡ Ok r → AreApart r.regions
rights_apart version virtuals s ms r e =
    let a = done (found s (codes "match") (or_absent nothing fields (get_member (codes "match") ms))) _ r e in
    let b = done (found s (codes "misses") (or_absent true as_bool (get_member (codes "misses") ms))) _ r a.second in
    let c = done (found s (codes "packet_out") (or_absent false as_bool (get_member (codes "packet_out") ms))) _ r
    b.second in
    let d = done (found s (codes "ports") (ports_at virtuals ms)) _ r c.second in
    let f =
    done (found s (region_key version)
    (or_absent all_headers (region_in version) (get_member (region_key version) ms))) _ r d.second in
    let region : or_absent all_headers (region_in version) (get_member (region_key version) ms) ≡ Some f.value =
    found_some s (region_key version) _ f.value f.first in
    let same : record {
      nameable = a.value;
      misses = b.value;
      packet_out = c.value;
      listed = d.value;
      regions = f.value;
    } ≡ r = cc f.second in
    subst (λ (x : Rights). AreApart x.regions) same
    (regions_apart version (get_member (region_key version) ms) f.value region)

-- what a grant shows of the virtual switch that it is for
grant_sound : (number : ℕ) (v : VirtualItem) (place : Place) (r : Rights) → AreApart r.regions
    → IsSoundGrant (member_with number v place r).grant v
grant_sound number v place r h = record {
  rising = record { outside = side_rises v r.listed false; links = side_rises v r.listed true };
  outside = side_there v r.listed false;
  links = side_there v r.listed true;
  boxes = h.boxes;
  apart = h.apart;
}

shown : (virtuals : List VirtualItem) (v : ℕ × VirtualItem) (g : Grant) → slice_get virtuals v.0 ≡ Some v.1
    → IsSoundGrant g v.1 → IfSome (slice_get virtuals v.0) (IsSoundGrant g)
shown virtuals v g e h = rw e h

stands : (virtuals : List VirtualItem) (v : ℕ × VirtualItem) → slice_get virtuals v.0 ≡ Some v.1
    → IfSome (slice_get virtuals v.0) (λ (x : VirtualItem). x.name ≡ v.1.name)
stands virtuals v e = rw e refl

member_sound : (version : Version) (virtuals : List VirtualItem) (earlier : List MemberItem) (s : Section)
    (ms : Members) (m : MemberItem) → member version virtuals earlier s ms ≡ Ok m → IsSoundMember virtuals m
member_sound version virtuals earlier s ms m e =
    let a = done (place earlier s ms) _ m e in
    let b = done (rights version virtuals s ms) _ m a.second in
    let c = done (found s (codes "virtual") (numbered virtuals ms)) _ m b.second in
    let k = place_kept earlier s ms a.value a.first in
    let n = numbered_there virtuals ms c.value (found_some s (codes "virtual") _ c.value c.first) in
    let same : member_with c.value.0 c.value.1 a.value b.value ≡ m = cc c.second in
    subst (IsSoundMember virtuals) same (record {
      controller = k.controller;
      there = slice_get_within virtuals c.value.0 c.value.1 n.there;
      stands = stands virtuals c.value n.there;
      grant = shown virtuals c.value (member_with c.value.0 c.value.1 a.value b.value).grant n.there
          (grant_sound c.value.0 c.value.1 a.value b.value (rights_apart version virtuals s ms b.value b.first));
      least_bits = k.bits.least_is;
      most_bits = k.bits.greatest_is;
      some_entries = k.entries.least_is;
      most_entries = k.entries.greatest_is;
      address = k.address;
    })

-- switches: their names, ports, and that each is unlike those before it
all_two : {A : Type 0} (P Q S : A → Type 0) → ((x : A) → P x → Q x → S x) → (xs : List A) → AllByRecursion P xs
    → AllByRecursion Q xs → AllByRecursion S xs
all_two P Q S f [] h k = tt
all_two P Q S f (x ∷ xs) h k = (f x h.0 k.0, all_two P Q S f xs h.1 k.1)

switch_sound : Gives switch IsSoundSwitch
switch_sound = record {
  each = λ earlier s ms x e.
      let a = done (found s (codes "dpid") (new_dpid (λ (s : SwitchItem). s.dpid) earlier ms)) _ x e in
      let b = done (found s (codes "name") (new_name (λ (s : SwitchItem). s.name) earlier ms)) _ x a.second in
      let c = done (found s (codes "ports") (read_at ports (codes "ports") ms)) _ x b.second in
      let same : record { name = b.value; dpid = a.value; ports = c.value } ≡ x = cc c.second in
      let named : is_name b.value ≡ true =
      read_passes is_name (codes "name") ms b.value
      (new_among (name_is_taken (λ (s : SwitchItem). s.name) earlier) (read_at name (codes "name") ms) b.value
      (found_some s (codes "name") _ b.value b.first)) in
      subst IsSoundSwitch same (record {
        name = named;
        ports = ports_within (get_member (codes "ports") ms) c.value (found_some s (codes "ports") _ c.value c.first);
        once = ports_once (get_member (codes "ports") ms) c.value (found_some s (codes "ports") _ c.value c.first);
      });
}

virtual_sound : Gives virtual_switch IsSoundVirtual
virtual_sound = record {
  each = λ earlier s ms x e.
      let a = done (found s (codes "dpid") (new_dpid (λ (s : VirtualItem). s.dpid) earlier ms)) _ x e in
      let b = done (found s (codes "expr") (read_at expression (codes "expr") ms)) _ x a.second in
      let c = done (found s (codes "name") (new_name (λ (s : VirtualItem). s.name) earlier ms)) _ x b.second in
      let d = done (found s (codes "ports") (read_at virtual_ports (codes "ports") ms)) _ x c.second in
      let same : record { name = c.value; dpid = a.value; ports = d.value; expr = b.value } ≡ x = cc d.second in
      let read = found_some s (codes "ports") _ d.value d.first in
      let named : is_name c.value ≡ true =
      read_passes is_name (codes "name") ms c.value
      (new_among (name_is_taken (λ (s : VirtualItem). s.name) earlier) (read_at name (codes "name") ms) c.value
      (found_some s (codes "name") _ c.value c.first)) in
      subst IsSoundVirtual same (record {
        name = named;
        ports = virtual_ports_within (get_member (codes "ports") ms) d.value read;
      });
}

switches_unlike : IsReadApart switch AreUnlikeSwitches
switches_unlike = record {
  each = λ earlier s ms x e.
      let a = done (found s (codes "dpid") (new_dpid (λ (s : SwitchItem). s.dpid) earlier ms)) _ x e in
      let b = done (found s (codes "name") (new_name (λ (s : SwitchItem). s.name) earlier ms)) _ x a.second in
      let c = done (found s (codes "ports") (read_at ports (codes "ports") ms)) _ x b.second in
      let same : record { name = b.value; dpid = a.value; ports = c.value } ≡ x = cc c.second in
      let dpids = unlike_all (λ n m. n == m) (λ (s : SwitchItem). s.dpid) earlier a.value
      (not_taken (dpid_is_taken (λ (s : SwitchItem). s.dpid) earlier) (read_at dpid (codes "dpid") ms) a.value
      (found_some s (codes "dpid") _ a.value a.first)) in
      let names = unlike_all same_name (λ (s : SwitchItem). s.name) earlier b.value
      (not_taken (name_is_taken (λ (s : SwitchItem). s.name) earlier) (read_at name (codes "name") ms) b.value
      (found_some s (codes "name") _ b.value b.first)) in
      subst (λ (x : SwitchItem). AllByRecursion (AreUnlikeSwitches x) earlier) same
      (all_two (λ (o : SwitchItem). (a.value == o.dpid) ≡ false) (λ (o : SwitchItem). same_name b.value o.name ≡ false)
      (AreUnlikeSwitches (record { name = b.value; dpid = a.value; ports = c.value }))
      (λ o d n. record { names = n; dpids = d }) earlier dpids names);
}

virtuals_unlike : IsReadApart virtual_switch AreUnlikeVirtuals
virtuals_unlike = record {
  each = λ earlier s ms x e.
      let a = done (found s (codes "dpid") (new_dpid (λ (s : VirtualItem). s.dpid) earlier ms)) _ x e in
      let b = done (found s (codes "expr") (read_at expression (codes "expr") ms)) _ x a.second in
      let c = done (found s (codes "name") (new_name (λ (s : VirtualItem). s.name) earlier ms)) _ x b.second in
      let d = done (found s (codes "ports") (read_at virtual_ports (codes "ports") ms)) _ x c.second in
      let same : record { name = c.value; dpid = a.value; ports = d.value; expr = b.value } ≡ x = cc d.second in
      let dpids = unlike_all (λ n m. n == m) (λ (s : VirtualItem). s.dpid) earlier a.value
      (not_taken (dpid_is_taken (λ (s : VirtualItem). s.dpid) earlier) (read_at dpid (codes "dpid") ms) a.value
      (found_some s (codes "dpid") _ a.value a.first)) in
      let names = unlike_all same_name (λ (s : VirtualItem). s.name) earlier c.value
      (not_taken (name_is_taken (λ (s : VirtualItem). s.name) earlier) (read_at name (codes "name") ms) c.value
      (found_some s (codes "name") _ c.value c.first)) in
      subst (λ (x : VirtualItem). AllByRecursion (AreUnlikeVirtuals x) earlier) same
      (all_two (λ (o : VirtualItem). (a.value == o.dpid) ≡ false)
      (λ (o : VirtualItem). same_name c.value o.name ≡ false)
      (AreUnlikeVirtuals (record { name = c.value; dpid = a.value; ports = d.value; expr = b.value }))
      (λ o d n. record { names = n; dpids = d }) earlier dpids names);
}

-- a member is unlike those before it
place_new : (earlier : List MemberItem) (s : Section) (ms : Members) (p : Place) → place earlier s ms ≡ Ok p
    → is_used earlier p.controller (read_at as_str (codes "virtual") ms) ≡ false
place_new earlier s ms p e =
    let a = done (found s (codes "actions") (or_absent 0 actions (get_member (codes "actions") ms))) _ p e in
    let b =
    done (found s (codes "address") (or_absent (codes "127.0.0.1:6634") address (get_member (codes "address") ms)))
    _ p a.second in
    let c = done (found s (codes "bits") (read_at (number 2 15) (codes "bits") ms)) _ p b.second in
    let d = done (found s (codes "controller") (new_controller earlier ms)) _ p c.second in
    let f = done (found s (codes "entries") (or_absent 1024 (number 1 4096) (get_member (codes "entries") ms))) _ p
    d.second in
    let same : record { actions = a.value; address = b.value; bits = c.value; controller = d.value; entries = f.value }
    ≡ p = cc f.second in
    subst (λ (p : Place). is_used earlier p.controller (read_at as_str (codes "virtual") ms) ≡ false) same
    (not_taken (λ c. is_used earlier c (read_at as_str (codes "virtual") ms)) (read_at name (codes "controller") ms)
    d.value (found_some s (codes "controller") _ d.value d.first))

member_unlike : (version : Version) (virtuals : List VirtualItem) (earlier : List MemberItem) (s : Section)
    (ms : Members) (m : MemberItem) → member version virtuals earlier s ms ≡ Ok m
    → AllByRecursion (AreUnlikeMembers m) earlier
member_unlike version virtuals earlier s ms m e =
    let a = done (place earlier s ms) _ m e in
    let b = done (rights version virtuals s ms) _ m a.second in
    let c = done (found s (codes "virtual") (numbered virtuals ms)) _ m b.second in
    let new = place_new earlier s ms a.value a.first in
    let n = numbered_there virtuals ms c.value (found_some s (codes "virtual") _ c.value c.first) in
    let named : read_at as_str (codes "virtual") ms ≡ Some c.value.1.name =
    named_there virtuals (read_at as_str (codes "virtual") ms) c.value.0 c.value.1 n.at n.there in
    let free : list_any (is_at a.value.controller c.value.1.name) earlier ≡ false =
    subst (λ (o : Option (List ℕ)). is_used earlier a.value.controller o ≡ false) named new in
    let same : member_with c.value.0 c.value.1 a.value b.value ≡ m = cc c.second in
    subst (λ (m : MemberItem). AllByRecursion (AreUnlikeMembers m) earlier) same
    (not_any (is_at a.value.controller c.value.1.name) earlier free)

-- a member that may come next, and that its number is below 32
record IsNext (r : Result MemberItem PolicyFault) (s : Section) (m : MemberItem) : Type 0 where
  read : r ≡ Ok m
  below : number_of s < 32

next_is : (r : Result MemberItem PolicyFault) (s : Section) (f : PolicyFault) (m : MemberItem)
    → (if nat_lt (number_of s) 32 then r else Err f) ≡ Ok m → IsNext r s m
next_is r s f m e = record { read = grind (arith, nat_tests); below = grind (arith, nat_tests) }

next_sound : (version : Version) (virtuals : List VirtualItem)
    → Gives (next_member version virtuals) (IsSoundMember virtuals)
next_sound version virtuals = record {
  each = λ earlier s ms m e. member_sound version virtuals earlier s ms m
      (next_is (member version virtuals earlier s ms) s _ m e).read;
}

next_unlike : (version : Version) (virtuals : List VirtualItem)
    → IsReadApart (next_member version virtuals) AreUnlikeMembers
next_unlike version virtuals = record {
  each = λ earlier s ms m e. member_unlike version virtuals earlier s ms m
      (next_is (member version virtuals earlier s ms) s _ m e).read;
}

record IsFew (n : ℕ) (xs : List MemberItem) : Type 0 where
  upto : length xs ≤ n
  few : length xs ≤ 32

one_more : (n : ℕ) (earlier : List MemberItem) (m : MemberItem) → IsFew n earlier → n < 32
    → IsFew (n + 1) (earlier ++ m ∷ [])
one_more n earlier m h lt = record { upto = simp length-append (omega arith); few = simp length-append (omega arith) }

no_more : (n : ℕ) (earlier more : List MemberItem) → IsFew n earlier → earlier ≡ more → IsFew (n + 1) more
no_more n earlier more h p = subst (IsFew (n + 1)) p (record { upto = omega arith; few = h.few })

with_few : (version : Version) (virtuals : List VirtualItem) (n : ℕ) (earlier : List MemberItem) (d : Data)
    (more : List MemberItem) → IsFew n earlier
    → with_item (next_member version virtuals) (Item Member n) earlier d ≡ Ok more → IsFew (n + 1) more
with_few version virtuals n earlier (table ms) more h e =
    let r = done (next_member version virtuals earlier (Item Member n) ms) _ more e in
    let below =
    (next_is (member version virtuals earlier (Item Member n) ms) (Item Member n) _ r.value r.first).below in
    let p : earlier ++ r.value ∷ [] ≡ more = cc r.second in
    subst (IsFew (n + 1)) p (one_more n earlier r.value h below)
with_few version virtuals n earlier (string t) more h e = no_more n earlier more h (cc e)
with_few version virtuals n earlier (integer t) more h e = no_more n earlier more h (cc e)
with_few version virtuals n earlier (float t) more h e = no_more n earlier more h (cc e)
with_few version virtuals n earlier (boolean t) more h e = no_more n earlier more h (cc e)
with_few version virtuals n earlier (datetime t) more h e = no_more n earlier more h (cc e)
with_few version virtuals n earlier (array t) more h e = no_more n earlier more h (cc e)

few_items : (version : Version) (virtuals : List VirtualItem) (n : ℕ) (ds : List Data) (earlier xs : List MemberItem)
    → IsFew n earlier → items_after (next_member version virtuals) Member earlier (enumerate_from n ds) ≡ Ok xs
    → length xs ≤ 32
few_items version virtuals n [] earlier xs h e = let p : earlier ≡ xs = cc e in
    subst (λ (ms : List MemberItem). length ms ≤ 32) p h.few
few_items version virtuals n (d ∷ ds) earlier xs h e =
    let r = done (with_item (next_member version virtuals) (Item Member n) earlier d) _ xs e in
    few_items version virtuals (n + 1) ds r.value xs (with_few version virtuals n earlier d r.value h r.first) r.second

record FirstIsKept (f : ℕ × List ℕ) : Type 0 where
  hops : IsWithin 1 4 f.0
  listen : is_address f.1 ≡ true

first_kept : (file : Members) (f : ℕ × List ℕ) → first_of file ≡ Ok f → FirstIsKept f
first_kept file f e =
    let a = done (items_at file Cable) _ f e in
    let hops = done (found Top (codes "hops") (or_absent 4 (number 1 4) (get_member (codes "hops") file))) _ f
    a.second in
    let b = done (items_at file Link) _ f hops.second in
    let listen =
    done (found Top (codes "listen")
    (or_absent (codes "127.0.0.1:6633") address (get_member (codes "listen") file))) _ f b.second in
    let c = done (items_at file Member) _ f listen.second in
    let same : (hops.value, listen.value) ≡ f = cc c.second in
    subst FirstIsKept same (record {
      hops = absent_within 1 4 4 (get_member (codes "hops") file) hops.value
          (record { least_is = omega arith; greatest_is = omega arith })
          (found_some Top (codes "hops") _ hops.value hops.first);
      listen = absent_passes is_address (codes "127.0.0.1:6633") (get_member (codes "listen") file) listen.value refl
          (found_some Top (codes "listen") _ listen.value listen.first);
    })

record LastIsKept (l : ℕ × Option (List ℕ) × Version) : Type 0 where
  rounds : IsWithin 1 1000000 l.0
  standby : IfSome l.1 (λ a. is_address a ≡ true)

last_kept : (file : Members) (l : ℕ × Option (List ℕ) × Version) → last_of file ≡ Ok l → LastIsKept l
last_kept file l e =
    let rounds =
    done (found Top (codes "rounds") (or_absent 1000 (number 1 1000000) (get_member (codes "rounds") file))) _ l
    e in
    let standby = done (found Top (codes "standby") (if_there address (get_member (codes "standby") file))) _ l
    rounds.second in
    let a = done (items_at file Switch) _ l standby.second in
    let version = done (found Top (codes "version") (version_of file)) _ l a.second in
    let b = done (items_at file Virtual) _ l version.second in
    let same : (rounds.value, standby.value, version.value) ≡ l = cc b.second in
    subst LastIsKept same (record {
      rounds = absent_within 1 1000000 1000 (get_member (codes "rounds") file) rounds.value
          (record { least_is = omega arith; greatest_is = omega arith })
          (found_some Top (codes "rounds") _ rounds.value rounds.first);
      standby = there_passes is_address (get_member (codes "standby") file) standby.value
          (found_some Top (codes "standby") _ standby.value standby.first);
    })

record HeadIsKept (h : Head) : Type 0 where
  hops : IsWithin 1 4 h.hops
  rounds : IsWithin 1 1000000 h.rounds
  listen : is_address h.listen ≡ true
  standby : IfSome h.standby (λ a. is_address a ≡ true)

head_kept : (file : Members) (h : Head) → head_of file ≡ Ok h → HeadIsKept h
head_kept file h e =
    let first = done (first_of file) _ h e in
    let last = done (last_of file) _ h first.second in
    let f = first_kept file first.value first.first in
    let l = last_kept file last.value last.first in
    let same : record {
      version = last.value.2;
      hops = first.value.0;
      listen = first.value.1;
      standby = last.value.1;
      rounds = last.value.0;
    } ≡ h = cc last.second in
    subst HeadIsKept same (record { hops = f.hops; rounds = l.rounds; listen = f.listen; standby = l.standby })

version_number : (v : Version) → IsWithin 1 2 (number_of_version v)
version_number One = record { least_is = omega arith; greatest_is = omega arith }
version_number Two = record { least_is = omega arith; greatest_is = omega arith }

-- the switches and virtual switches of a plan
record PlanIsKept (p : TopologyPlan) : Type 0 where
  switches : AllByRecursion IsSoundSwitch p.switches
  virtuals : AllByRecursion IsSoundVirtual p.virtuals
  unlike_switches : EachToEarlier AreUnlikeSwitches p.switches
  unlike_virtuals : EachToEarlier AreUnlikeVirtuals p.virtuals

plan_kept : (file : Members) (p : TopologyPlan) → plan_of file ≡ Ok p → PlanIsKept p
plan_kept file p e =
    let a = done (switches_of file) _ p e in
    let b = done (pairs Cable file) _ p a.second in
    let c = done (virtuals_of file) _ p b.second in
    let d = done (pairs Link file) _ p c.second in
    let same : record { switches = a.value; cables = b.value; virtuals = c.value; links = d.value } ≡ p = cc d.second in
    subst PlanIsKept same (record {
      switches = items_each switch IsSoundSwitch switch_sound Switch [] (enumerate_from 0 (items file Switch)) a.value
          tt a.first;
      virtuals = items_each virtual_switch IsSoundVirtual virtual_sound Virtual []
          (enumerate_from 0 (items file Virtual)) c.value tt c.first;
      unlike_switches = items_apart switch AreUnlikeSwitches switches_unlike Switch []
          (enumerate_from 0 (items file Switch)) a.value tt a.first;
      unlike_virtuals = items_apart virtual_switch AreUnlikeVirtuals virtuals_unlike Virtual []
          (enumerate_from 0 (items file Virtual)) c.value tt c.first;
    })

pub limits_kept : (file : Members) (d : Draft) → draft_of file ≡ Ok d → KeepsLimits (policy_of d)
limits_kept file d e =
    let head = done (head_of file) _ d e in
    let plan = done (plan_of file) _ d head.second in
    let members = done (members_of head.value.version plan.value.virtuals file) _ d plan.second in
    let h = head_kept file head.value head.first in
    let k = plan_kept file plan.value plan.first in
    let v = version_number head.value.version in
    let reads = next_member head.value.version plan.value.virtuals in
    let same : record { head = head.value; plan = plan.value; members = members.value } ≡ d = cc members.second in
    subst (λ (d : Draft). KeepsLimits (policy_of d)) same (record {
      first_version = v.least_is;
      last_version = v.greatest_is;
      some_hops = h.hops.least_is;
      most_hops = h.hops.greatest_is;
      some_rounds = h.rounds.least_is;
      most_rounds = h.rounds.greatest_is;
      listen = h.listen;
      standby = h.standby;
      few_members = few_items head.value.version plan.value.virtuals 0 (items file Member) [] members.value
          (record { upto = omega arith; few = omega arith }) members.first;
      members = items_each reads (IsSoundMember plan.value.virtuals) (next_sound head.value.version plan.value.virtuals)
          Member [] (enumerate_from 0 (items file Member)) members.value tt members.first;
      switches = k.switches;
      virtuals = k.virtuals;
      unlike_switches = k.unlike_switches;
      unlike_virtuals = k.unlike_virtuals;
      unlike_members = items_apart reads AreUnlikeMembers (next_unlike head.value.version plan.value.virtuals) Member []
          (enumerate_from 0 (items file Member)) members.value tt members.first;
    })
