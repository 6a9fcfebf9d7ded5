-- The definitions, computed on examples.
use Rattle.std.specs.Prelude.{◌≡◌, Some, None}
use Rattle.of10_match.specs.Fields.{MatchOf}
use Rattle.of10_match.specs.Matching.{everything}
use Rattle.of10_actions.specs.Fields.{RewriteOf}
use Rattle.of10_actions.specs.Rewriting.{no_rewrite}
use Rattle.pull_back.specs.Pulling.{pull, image, whole}

-- packets go to the server at 2.0.0.1
abbrev pub to_server : RewriteOf
to_server = record no_rewrite { nw_dst = Some 0x02000001 }

abbrev pub ipv4 : MatchOf
ipv4 = record everything { dl_type = Some 0x0800 }

-- IPv4 packets to 2.0.0.0/8, to 3.0.0.0/8 and to the server, and ARP to 10.0.0.0/8
abbrev pub to_net_2 : MatchOf
to_net_2 = record ipv4 { nw_dst = Some (record { addr = 0x02000000; len = 8 }) }

abbrev pub to_net_3 : MatchOf
to_net_3 = record ipv4 { nw_dst = Some (record { addr = 0x03000000; len = 8 }) }

abbrev pub at_server : MatchOf
at_server = record ipv4 { nw_dst = Some (whole 0x02000001) }

abbrev pub arp : MatchOf
arp = record everything { dl_type = Some 0x0806; nw_dst = Some (record { addr = 0x0a000000; len = 8 }) }

-- a net with the server is no longer asked for, another has no pull, and ARP stays as it is
pub record Pulls : Type 0 where
  pub fits : pull to_server to_net_2 ≡ Some ipv4
  pub misses : pull to_server to_net_3 ≡ None
  pub other_type : pull to_server arp ≡ Some arp

-- IPv4 packets are at the server, ARP stays as it is, and of what has no type nothing more is known
pub record Images : Type 0 where
  pub ipv4 : image to_server to_net_3 ≡ at_server
  pub other_type : image to_server arp ≡ arp
  pub any_type : image to_server everything ≡ everything
