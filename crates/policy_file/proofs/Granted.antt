-- What is read of a grant is sound: its ports rise, and its boxes stand apart.
use Rattle.std.proofs.Common.{◌≡◌, ◌∙◌, sym, ap, subst, refl, ℕ, ◌==◌, ◌&&◌, ◌||◌, ◌++◌, Bool, true, false, List, []}
use Rattle.std.proofs.Common.{◌∷◌, Option, Some, None, codes, map, filter, arith}
use Rattle.std.specs.List.{AllByRecursion, list_all, list_any}
use Rattle.std.specs.List.Sorted.{IsStrictlyIncreasing}
use Rattle.std.specs.Prelude.{option_and_then, option_map, if◌then◌else◌, is_none, is_some, nat_le, nat_lt, length}
use Rattle.std.specs.Prelude.{OnSome, IsTrue}
use Rattle.std.proofs.lemmas.Bool.Decides.{nat_tests}
use Rattle.toml.specs.Data.{Data, Members, as_table}
use Rattle.of10_match.specs.Fields.{MatchOf}
use Rattle.of10_match.specs.Matching.{everything, overlaps}
use Rattle.of10_match.specs.Ranges.{IsMatch}
use Rattle.of10_match.specs.Normal.{IsNormal, is_ip, is_ip_or_arp, is_tagged, has_ports, kept, normal}
use Rattle.of10_match.proofs.Same.{match_decides}
use Rattle.virtual_topology.specs.declared.plan.VirtualItem.{VirtualItem}
use Rattle.virtual_topology.specs.declared.plan.VirtualPort.{VirtualPort}
use Rattle.policy_file.specs.declared.keys.Version.{Version}
use Rattle.policy_file.specs.declared.keys.Version.TheVariants.{One, Two}
use Rattle.policy_file.specs.Documents.{as_list}
use Rattle.policy_file.specs.Heads.{or_absent}
use Rattle.policy_file.specs.Members.{region_in}
use Rattle.policy_file.specs.Regions.{all_headers, at, box, box_of, boxes, ether, fields_named, if_normal, is_normal}
use Rattle.policy_file.specs.Regions.{link_fields, names_fields, prefix, tos, vlan, with_box, with_network_fields}
use Rattle.policy_file.specs.Regions.{with_transport_fields}
use Rattle.policies.specs.Sound.{EachToEarlier, IsSoundBox, LiesApart, has_at_side, is_at_side}
use Rattle.policy_file.specs.Values.{all_after, number}
use Rattle.policies.specs.Views.{inserted, is_named, on_side, rising_with, side}
use Rattle.policy_file.proofs.Options.{mapped, through}
use Rattle.policy_file.proofs.Ranged.{named_in_range}
use Rattle.policies.proofs.Rising.{increasing_from, inserted_rises}
use Rattle.policy_file.proofs.Unlike.{all_end, earlier_end, not_any}

-- boxes
-- ------------------------------------------------------------------------------------------------------------------

link_port : (ms : Members) (m : MatchOf) → link_fields ms ≡ Some m → m.in_port ≡ None
link_port ms m e =
    let a = through _ (at ether (codes "dl_src") ms) m e in
    let b = through _ (at ether (codes "dl_dst") ms) m a.second in
    let c = through _ (at vlan (codes "dl_vlan") ms) m b.second in
    let d = mapped _ (at (number 0 65535) (codes "dl_type") ms) m c.second in
    ap (λ (x : MatchOf). x.in_port) (sym d.second)

network_port : (l : MatchOf) (ms : Members) (m : MatchOf) → with_network_fields l ms ≡ Some m → m.in_port ≡ l.in_port
network_port l ms m e =
    let a = through _ (at tos (codes "nw_tos") ms) m e in
    let b = through _ (at (number 0 255) (codes "nw_proto") ms) m a.second in
    let c = through _ (at prefix (codes "nw_src") ms) m b.second in
    let d = mapped _ (at prefix (codes "nw_dst") ms) m c.second in
    ap (λ (x : MatchOf). x.in_port) (sym d.second)

transport_port : (l : MatchOf) (ms : Members) (m : MatchOf) → with_transport_fields l ms ≡ Some m
    → m.in_port ≡ l.in_port
transport_port l ms m e =
    let a = through _ (at (number 0 65535) (codes "tp_src") ms) m e in
    let b = mapped _ (at (number 0 65535) (codes "tp_dst") ms) m a.second in
    ap (λ (x : MatchOf). x.in_port) (sym b.second)

named_port : (ms : Members) (m : MatchOf) → fields_named ms ≡ Some m → m.in_port ≡ None
named_port ms m e =
    let a = through _ (link_fields ms) m e in
    let b = through _ (with_network_fields a.via ms) m a.second in
    transport_port b.via ms m b.second ∙ (network_port a.via ms b.via b.first ∙ link_port ms a.via a.first)

on_kept : {A : Type 0} (b : Bool) (o : Option A) → kept b o ≡ o → OnSome o (IsTrue b)
on_kept true None e = tt
on_kept true (Some x) e = refl
on_kept false None e = tt
on_kept false (Some x) e = absurd (cc)

normal_is : (m : MatchOf) → normal m ≡ m → IsNormal m
normal_is m e = record {
  dl_vlan_pcp = on_kept (is_tagged m.dl_vlan) m.dl_vlan_pcp (ap (λ (x : MatchOf). x.dl_vlan_pcp) e);
  nw_tos = on_kept (is_ip m.dl_type) m.nw_tos (ap (λ (x : MatchOf). x.nw_tos) e);
  nw_proto = on_kept (is_ip_or_arp m.dl_type) m.nw_proto (ap (λ (x : MatchOf). x.nw_proto) e);
  nw_src = on_kept (is_ip_or_arp m.dl_type) m.nw_src (ap (λ (x : MatchOf). x.nw_src) e);
  nw_dst = on_kept (is_ip_or_arp m.dl_type) m.nw_dst (ap (λ (x : MatchOf). x.nw_dst) e);
  tp_src = on_kept (is_ip m.dl_type && has_ports m.nw_proto) m.tp_src (ap (λ (x : MatchOf). x.tp_src) e);
  tp_dst = on_kept (is_ip m.dl_type && has_ports m.nw_proto) m.tp_dst (ap (λ (x : MatchOf). x.tp_dst) e);
}

sound_if : (n m : MatchOf) (b : Bool) → is_normal n ≡ b → IsMatch n → n.in_port ≡ None
    → (if b then Some n else None) ≡ Some m → IsSoundBox m
sound_if n m false t range port e = absurd (cc)
sound_if n m true t range port e =
    let same : n ≡ m = cc in
    subst IsSoundBox same
    (record { range = range; normal = normal_is n ((match_decides (normal n) n).0 t); port = port })

named_box : (ms : Members) (m : MatchOf) (b : Bool)
    → (if b then option_and_then if_normal (fields_named ms) else None) ≡ Some m → IsSoundBox m
named_box ms m false e = absurd (cc)
named_box ms m true e =
    let a = through if_normal (fields_named ms) m e in
    sound_if a.via m (is_normal a.via) refl (named_in_range ms a.via a.first) (named_port ms a.via a.first) a.second

box_sound : (d : Data) (m : MatchOf) → box d ≡ Some m → IsSoundBox m
box_sound d m e = let a = through box_of (as_table d) m e in named_box a.via m (names_fields a.via) a.second

-- boxes of which no two hold a header
pub record AreApart (bs : List MatchOf) : Type 0 where
  pub boxes : AllByRecursion IsSoundBox bs
  pub apart : EachToEarlier LiesApart bs

added : (earlier bs : List MatchOf) (m : MatchOf) (b : Bool) → list_any (λ e. overlaps e m) earlier ≡ b → IsSoundBox m
    → AreApart earlier → (if b then None else Some (earlier ++ m ∷ [])) ≡ Some bs → AreApart bs
added earlier bs m true t g h e = absurd (cc)
added earlier bs m false t g h e =
    let same : earlier ++ m ∷ [] ≡ bs = cc in
    subst AreApart same (record {
      boxes = all_end IsSoundBox earlier m h.boxes g;
      apart = earlier_end LiesApart earlier m h.apart (not_any (λ e. overlaps e m) earlier t);
    })

with_box_apart : (earlier bs : List MatchOf) (d : Data) → AreApart earlier → with_box earlier d ≡ Some bs → AreApart bs
with_box_apart earlier bs d h e =
    let a = through _ (box d) bs e in
    added earlier bs a.via (list_any (λ x. overlaps x a.via) earlier) refl (box_sound d a.via a.first) h a.second

after_apart : (ds : List Data) (earlier bs : List MatchOf) → AreApart earlier → all_after with_box earlier ds ≡ Some bs
    → AreApart bs
after_apart [] earlier bs h e = let same : earlier ≡ bs = cc in subst AreApart same h
after_apart (d ∷ ds) earlier bs h e =
    let a = through (λ more. all_after with_box more ds) (with_box earlier d) bs e in
    after_apart ds a.via bs (with_box_apart earlier a.via d h a.first) a.second

none_apart : AreApart []
none_apart = record { boxes = tt; apart = tt }

one_apart : (m : MatchOf) → IsSoundBox m → AreApart (m ∷ [])
one_apart m g = record { boxes = (g, tt); apart = (tt, tt) }

boxes_apart : (ds : List Data) (bs : List MatchOf) (b : Bool) → (if b then all_after with_box [] ds else None) ≡ Some bs
    → AreApart bs
boxes_apart ds bs false e = absurd (cc)
boxes_apart ds bs true e = after_apart ds [] bs none_apart e

region_apart : (version : Version) (d : Data) (bs : List MatchOf) → region_in version d ≡ Some bs → AreApart bs
region_apart One d bs e = let a = mapped (λ m. m ∷ []) (box d) bs e in
    subst AreApart a.second (one_apart a.via (box_sound d a.via a.first))
region_apart Two d bs e =
    let a = through boxes (as_list d) bs e in
    boxes_apart a.via bs (nat_lt 0 (length a.via) && nat_le (length a.via) 16) a.second

everything_sound : IsSoundBox everything
everything_sound = record {
  range = record {
    in_port = tt;
    dl_src = tt;
    dl_dst = tt;
    dl_vlan = tt;
    dl_vlan_pcp = tt;
    dl_type = tt;
    nw_tos = tt;
    nw_proto = tt;
    nw_src = tt;
    nw_dst = tt;
    tp_src = tt;
    tp_dst = tt;
  };
  normal = normal_is everything refl;
  port = refl;
}

-- the boxes that are read of a region, or that of everything
pub regions_apart : (version : Version) (o : Option Data) (bs : List MatchOf)
    → or_absent all_headers (region_in version) o ≡ Some bs → AreApart bs
regions_apart version None bs e = let same : all_headers ≡ bs = cc in
    subst AreApart same (one_apart everything everything_sound)
regions_apart version (Some d) bs e = region_apart version d bs e

-- ports
-- ------------------------------------------------------------------------------------------------------------------

all_rise : (ns rising : List ℕ) → IsStrictlyIncreasing rising → IsStrictlyIncreasing (rising_with rising ns)
all_rise [] rising up = up
all_rise (n ∷ ns) rising up = all_rise ns (inserted n rising) (inserted_rises n rising up)

-- the ports of a side rise
pub side_rises : (v : VirtualItem) (listed : Option (List ℕ)) (links : Bool)
    → IsStrictlyIncreasing (side v listed links)
side_rises v listed links = all_rise (map (λ (p : VirtualPort). p.port) (filter (on_side listed links) v.ports)) []
    (increasing_from [] 0 tt)

module _ (P : ℕ → Type 0) where
  kept_or : (n x : ℕ) (xs : List ℕ) → AllByRecursion P (x ∷ xs) → AllByRecursion P (inserted n xs) → (b : Bool)
      → AllByRecursion P (if b then x ∷ xs else x ∷ inserted n xs)
  kept_or n x xs h more true = h
  kept_or n x xs h more false = (h.0, more)

  before_or : (n x : ℕ) (xs : List ℕ) → P n → AllByRecursion P (x ∷ xs) → AllByRecursion P (inserted n xs)
      → (a b : Bool)
      → AllByRecursion P (if a then n ∷ x ∷ xs else (if b then x ∷ xs else x ∷ inserted n xs))
  before_or n x xs p h more true b = (p, h)
  before_or n x xs p h more false b = kept_or n x xs h more b

  all_inserted : (n : ℕ) (xs : List ℕ) → P n → AllByRecursion P xs → AllByRecursion P (inserted n xs)
  all_inserted n [] p h = (p, tt)
  all_inserted n (x ∷ xs) p h = before_or n x xs p h (all_inserted n xs p h.1) (nat_lt n x) (n == x)

  all_with : (ns rising : List ℕ) → AllByRecursion P ns → AllByRecursion P rising
      → AllByRecursion P (rising_with rising ns)
  all_with [] rising h k = k
  all_with (n ∷ ns) rising h k = all_with ns (inserted n rising) h.1 (all_inserted n rising h.0 k)

or_right : (a b : Bool) → b ≡ true → a || b ≡ true
or_right false b e = e
or_right true b e = refl

and_left : (a b : Bool) → a && b ≡ true → a ≡ true
and_left true b e = refl
and_left false b e = absurd (cc)

-- what is there is there in a longer list
all_later : (links : Bool) (x : VirtualPort) (xs : List VirtualPort) (ns : List ℕ)
    → AllByRecursion (λ n. list_any (is_at_side links n) xs ≡ true) ns
    → AllByRecursion (λ n. list_any (is_at_side links n) (x ∷ xs) ≡ true) ns
all_later links x xs [] h = tt
all_later links x xs (n ∷ ns) h =
    (or_right (is_at_side links n x) (list_any (is_at_side links n) xs) h.0, all_later links x xs ns h.1)

here : (links : Bool) (x : VirtualPort) (xs : List VirtualPort) → (if links then is_none x.at else is_some x.at) ≡ true
    → list_any (is_at_side links x.port) (x ∷ xs) ≡ true
here links x xs e = let same : (x.port == x.port) ≡ true = grind (arith, nat_tests) in
    λ i. (same i && e i) || list_any (is_at_side links x.port) xs

-- the ports of these that are wanted are among them
abbrev AreThere : Bool → List VirtualPort → List VirtualPort → Type 0
AreThere links xs wanted = AllByRecursion (λ n. list_any (is_at_side links n) xs ≡ true)
    (map (λ (p : VirtualPort). p.port) wanted)

next_there : (listed : Option (List ℕ)) (links : Bool) (x : VirtualPort) (xs wanted : List VirtualPort)
    → AreThere links xs wanted
    → (b : Bool) → on_side listed links x ≡ b → AreThere links (x ∷ xs) (if b then x ∷ wanted else wanted)
next_there listed links x xs wanted h true e = (here links x xs (and_left _ _ e), all_later links x xs _ h)
next_there listed links x xs wanted h false e = all_later links x xs _ h

listed_there : (listed : Option (List ℕ)) (links : Bool) (xs : List VirtualPort)
    → AreThere links xs (filter (on_side listed links) xs)
listed_there listed links [] = tt
listed_there listed links (x ∷ xs) = next_there listed links x xs (filter (on_side listed links) xs)
    (listed_there listed links xs) (on_side listed links x) refl

-- and the virtual switch has them
pub side_there : (v : VirtualItem) (listed : Option (List ℕ)) (links : Bool)
    → AllByRecursion (λ n. has_at_side v links n ≡ true) (side v listed links)
side_there v listed links = all_with (λ n. has_at_side v links n ≡ true)
    (map (λ (p : VirtualPort). p.port) (filter (on_side listed links) v.ports)) [] (listed_there listed links v.ports)
    tt
