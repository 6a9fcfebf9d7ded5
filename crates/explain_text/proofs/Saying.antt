-- An answer is put together of its parts.
use Rattle.std.proofs.Common.{◌≡◌, ℕ, Bool, true, false, ◌&&◌, List, [], ◌++◌, Option, Some, None, refl, ap, ◌∙◌, sym}
use Rattle.std.proofs.Common.{append_assoc, map}
use Rattle.std.specs.Prelude.{◌+◌, ◌==◌, filter_map, flat_map, if◌then◌else◌, option_to_list}
use Rattle.explain_path.specs.declared.trace.HopTrace.{HopTrace}
use Rattle.install_plan.specs.declared.written.Written.{Written}
use Rattle.of10_match.specs.Fields.{HeaderOf}
use Rattle.of10_match.specs.Numbers.{ARP, IPV4}
use Rattle.pkt_bytes.specs.Headers.{header_in, link_header, no_header, with_arp, with_ipv4, with_payload}
use Rattle.pkt_bytes.specs.Ipv4.{ipv4_at}
use Rattle.pkt_bytes.specs.Link.{link_of}
use Rattle.pkt_bytes.specs.Numbers.{has}
use Rattle.pkt_bytes.specs.declared.ipv4.Ipv4.{Ipv4}
use Rattle.pkt_bytes.specs.declared.link.Payload.{Payload}
use Rattle.policy_meaning.specs.declared.walking.Walked.{Walked}
use Rattle.virtual_topology.specs.declared.plan.TopologyPlan.{TopologyPlan}
use Rattle.explain_text.specs.Findings.{findings, of_hop, of_out, of_switch, of_told}
use Rattle.explain_text.specs.declared.finding.Finding.{Finding}

-- a header has the port by which the frame came
ipv4-port : (o : Option Ipv4) (bytes : List ℕ) (h : HeaderOf) → (with_ipv4 o bytes h).in_port ≡ h.in_port
ipv4-port None bytes h = refl
ipv4-port (Some ip) bytes h = refl

payload-port : (p : Payload) (bytes : List ℕ) (h : HeaderOf) → (with_payload p bytes h).in_port ≡ h.in_port
payload-port p bytes h = by (p.dl_type == IPV4) (p.dl_type == ARP && has (p.place + 28) bytes)
  where
    by : (b c : Bool)
        → (if b then with_ipv4 (ipv4_at p.place bytes) bytes h else (if c then with_arp p.place bytes h else h)).in_port
        ≡ h.in_port
    by true c = ipv4-port (ipv4_at p.place bytes) bytes h
    by false true = refl
    by false false = refl

header-port : (port : ℕ) (bytes : List ℕ) → (header_in port bytes).in_port ≡ port
header-port port bytes = by (has 14 bytes)
  where
    by : (b : Bool)
        → (if b then with_payload (link_of bytes).payload bytes (link_header (link_of bytes) port bytes)
        else no_header port).in_port ≡ port
    by true = payload-port (link_of bytes).payload bytes (link_header (link_of bytes) port bytes)
    by false = refl

-- so to say that it came by it changes nothing
pub came-by : (port : ℕ) (bytes : List ℕ) → record (header_in port bytes) { in_port = port } ≡ header_in port bytes
came-by port bytes = ap (λ n. record (header_in port bytes) { in_port = n }) (sym (header-port port bytes))

regroup : {A : Type 0} (a b c d : List A) → ((a ++ b) ++ c) ++ d ≡ a ++ (b ++ (c ++ d))
regroup a b c d = append_assoc (a ++ b) c d ∙ append_assoc a b (c ++ d)

-- what was said part by part
pub all-said : (plan : TopologyPlan) (hops : List HopTrace) (walked : Walked) (switch : ℕ)
    (used : Option (Option Written))
    (none a b c d : List Finding) (entry : Option Finding) → none ≡ [] → a ≡ none ++ flat_map of_hop hops
    → b ≡ a ++ filter_map (of_out plan) walked.outs → c ≡ b ++ map of_told walked.told
    → option_to_list entry ≡ of_switch switch used → d ≡ c ++ option_to_list entry
    → d ≡ findings plan hops walked switch used
all-said plan hops walked switch used none a b c d entry start first second third last end =
    let told = map of_told walked.told in
    let outs = filter_map (of_out plan) walked.outs in
    let one = first ∙ ap (λ said. said ++ flat_map of_hop hops) start in
    let two = second ∙ ap (λ said. said ++ outs) one in
    let three = third ∙ ap (λ said. said ++ told) two in
    end ∙ (ap (λ more. c ++ more) last ∙ (ap (λ said. said ++ of_switch switch used) three
    ∙ regroup (flat_map of_hop hops) outs told (of_switch switch used)))
