-- Matches before and after a rewrite: the pull of a match and its image, field by field.
use Rattle.std.specs.Prelude.{ℕ, Bool, true, false, ◌&&◌, Option, Some, None, if◌then◌else◌}
use Rattle.of10_match.specs.Fields.{MatchOf}
use Rattle.of10_match.specs.Matching.{fits, fits_prefix, each}
use Rattle.of10_match.specs.declared.header.Prefix.{Prefix}
use Rattle.of10_actions.specs.Fields.{RewriteOf}
use Rattle.of10_actions.specs.Rewriting.{is_ip, is_tcp_udp}

-- whether the match names this value
abbrev pub names : Option ℕ → (ℕ → Bool) → Bool
names None test = false
names (Some v) test = test v

-- whether a rewrite sets nw fields of the headers of a match
abbrev pub sets_nw : MatchOf → Bool
sets_nw m = names m.dl_type is_ip

-- whether a rewrite sets tp fields of the headers of a match
abbrev pub sets_tp : MatchOf → Bool
sets_tp m = names m.dl_type is_ip && names m.nw_proto is_tcp_udp

-- the value that a rewrite sets fits what the match asks of the field
abbrev pub set_fits : {A B : Type 0} → (Option A → B → Bool) → Bool → Option B → Option A → Bool
set_fits fit b None m = true
set_fits fit b (Some v) m = if b then fit m v else true

-- what is asked of the field before the rewrite
abbrev pub unset : {A B : Type 0} → Bool → Option B → Option A → Option A
unset b None m = m
unset b (Some v) m = if b then None else m

-- whether some header that the match asks for comes out of the rewrite: each value that is set fits
abbrev pub can_pull : RewriteOf → MatchOf → Bool
can_pull r m =
    each true (set_fits fits true r.dl_src m.dl_src) (set_fits fits true r.dl_dst m.dl_dst) true true true
    (set_fits fits (sets_nw m) r.nw_tos m.nw_tos) true (set_fits fits_prefix (sets_nw m) r.nw_src m.nw_src)
    (set_fits fits_prefix (sets_nw m) r.nw_dst m.nw_dst) (set_fits fits (sets_tp m) r.tp_src m.tp_src)
    (set_fits fits (sets_tp m) r.tp_dst m.tp_dst)

-- what is asked of a header before the rewrite, where it can be pulled
abbrev pub pulled : RewriteOf → MatchOf → MatchOf
pulled r m = record m {
  dl_src = unset true r.dl_src m.dl_src;
  dl_dst = unset true r.dl_dst m.dl_dst;
  nw_tos = unset (sets_nw m) r.nw_tos m.nw_tos;
  nw_src = unset (sets_nw m) r.nw_src m.nw_src;
  nw_dst = unset (sets_nw m) r.nw_dst m.nw_dst;
  tp_src = unset (sets_tp m) r.tp_src m.tp_src;
  tp_dst = unset (sets_tp m) r.tp_dst m.tp_dst;
}

-- the match of the headers that the match holds after the rewrite, or none
abbrev pub pull : RewriteOf → MatchOf → Option MatchOf
pull r m = if can_pull r m then Some (pulled r m) else None

-- what is known of a field after the rewrite
abbrev pub set_in : {A B : Type 0} → (B → A) → Bool → Option B → Option A → Option A
set_in whole b None m = m
set_in whole b (Some v) m = if b then Some (whole v) else m

-- a whole address as a prefix
abbrev pub whole : ℕ → Prefix
whole address = record { addr = address; len = 32 }

-- a match that holds the rewritten header for each header that m holds
abbrev pub image : RewriteOf → MatchOf → MatchOf
image r m = record m {
  dl_src = set_in (λ v. v) true r.dl_src m.dl_src;
  dl_dst = set_in (λ v. v) true r.dl_dst m.dl_dst;
  nw_tos = set_in (λ v. v) (sets_nw m) r.nw_tos m.nw_tos;
  nw_src = set_in whole (sets_nw m) r.nw_src m.nw_src;
  nw_dst = set_in whole (sets_nw m) r.nw_dst m.nw_dst;
  tp_src = set_in (λ v. v) (sets_tp m) r.tp_src m.tp_src;
  tp_dst = set_in (λ v. v) (sets_tp m) r.tp_dst m.tp_dst;
}
