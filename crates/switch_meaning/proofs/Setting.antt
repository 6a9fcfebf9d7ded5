-- Firing the sets of an action list.
use Rattle.std.proofs.Common.{◌≡◌, ℕ, Bool, true, false, Option, Some, None, List, [], ◌∷◌, ◌++◌, refl, ap, ◌∙◌, sym}
use Rattle.std.proofs.Common.{eqb-true, append_assoc}
use Rattle.std.specs.Prelude.{◌==◌, if◌then◌else◌, option_map}
use Rattle.of10_match.specs.Fields.{HeaderOf}
use Rattle.of10_actions.specs.Fields.{RewriteOf}
use Rattle.of10_actions.specs.Rewriting.{apply, set_to, is_ip, has_tcp_udp, no_rewrite, IsSetToo, Extends}
use Rattle.of10_actions.specs.declared.action.Action.{Action}
use Rattle.of10_actions.specs.declared.action.Action.TheVariants.{SetDlSrc, SetDlDst, SetNwSrc, SetNwDst, SetNwTos}
use Rattle.of10_actions.specs.declared.action.Action.TheVariants.{SetTpSrc, SetTpDst}
use Rattle.switch_meaning.specs.Firing.{fire}
use Rattle.switch_meaning.specs.Placing.{sets, set_unless}
use Rattle.of10_actions.specs.Same.{same_action}

-- a field that is set to what it is
set-twice : (b : Bool) (o : Option ℕ) (v x : ℕ) → o ≡ Some v → set_to b (Some v) (set_to b o x) ≡ set_to b o x
set-twice true None v x e = cc
set-twice true (Some w) v x e = cc
set-twice false None v x e = refl
set-twice false (Some w) v x e = refl

-- a field that is set twice
set-over : (b : Bool) (now want : Option ℕ) (x : ℕ) → IsSetToo want now
    → set_to b want (set_to b now x) ≡ set_to b want x
set-over b None want x c = refl
set-over b (Some v) None x c = absurd c
set-over true (Some v) (Some w) x c = refl
set-over false (Some v) (Some w) x c = refl

-- one set, or none where the field has the value: `one` sets that field alone
module _ (act : ℕ → Action) (one : Option ℕ → RewriteOf) (same_act : (w v : ℕ)
    → same_action (act w) (act v) ≡ (w == v)) (sets_it : (v : ℕ) (acts : List Action) (h : HeaderOf)
    → fire (act v ∷ acts) h ≡ fire acts (apply (one (Some v)) h)) (sets_none : (h : HeaderOf)
    → apply (one None) h ≡ h) where
  same_or_set : (v w : ℕ) (acts : List Action) (h : HeaderOf) → ((u : ℕ) → Some w ≡ Some u → apply (one (Some u)) h ≡ h)
      → (b : Bool) → same_action (act w) (act v) ≡ b
      → fire ((if b then [] else act v ∷ []) ++ acts) h ≡ fire acts (apply (one (Some v)) h)
  same_or_set v w acts h same true e = ap (λ (k : HeaderOf). fire acts k)
      (sym (same v (ap Some (eqb-true w v (sym (same_act w v) ∙ e)))))
  same_or_set v w acts h same false e = sets_it v acts h

  fire-set_unless : (now want : Option ℕ) (acts : List Action) (h : HeaderOf)
      → ((v : ℕ) → now ≡ Some v → apply (one (Some v)) h ≡ h)
      → fire (set_unless (option_map act now) (option_map act want) ++ acts) h ≡ fire acts (apply (one want) h)
  fire-set_unless now None acts h same = ap (λ (k : HeaderOf). fire acts k) (sym (sets_none h))
  fire-set_unless None (Some v) acts h same = sets_it v acts h
  fire-set_unless (Some w) (Some v) acts h same = same_or_set v w acts h same (same_action (act w) (act v)) refl

-- the sets that lead from one rewrite to one that extends it
pub fire-sets : (now want : RewriteOf) (acts : List Action) (h : HeaderOf) → Extends want now
    → fire (sets now want ++ acts) (apply now h) ≡ fire acts (apply want h)
fire-sets now want acts h c =
    let a7 = set_unless (option_map SetTpDst now.tp_dst) (option_map SetTpDst want.tp_dst) ++ acts in
    let a6 = set_unless (option_map SetTpSrc now.tp_src) (option_map SetTpSrc want.tp_src) ++ a7 in
    let a5 = set_unless (option_map SetNwTos now.nw_tos) (option_map SetNwTos want.nw_tos) ++ a6 in
    let a4 = set_unless (option_map SetNwDst now.nw_dst) (option_map SetNwDst want.nw_dst) ++ a5 in
    let a3 = set_unless (option_map SetNwSrc now.nw_src) (option_map SetNwSrc want.nw_src) ++ a4 in
    let a2 = set_unless (option_map SetDlDst now.dl_dst) (option_map SetDlDst want.dl_dst) ++ a3 in
    let h0 = apply now h in
    let h1 = apply (record no_rewrite { dl_src = want.dl_src }) h0 in
    let h2 = apply (record no_rewrite { dl_dst = want.dl_dst }) h1 in
    let h3 = apply (record no_rewrite { nw_src = want.nw_src }) h2 in
    let h4 = apply (record no_rewrite { nw_dst = want.nw_dst }) h3 in
    let h5 = apply (record no_rewrite { nw_tos = want.nw_tos }) h4 in
    let h6 = apply (record no_rewrite { tp_src = want.tp_src }) h5 in
    simp append_assoc (
    fire-set_unless SetDlSrc (λ o. record no_rewrite { dl_src = o }) (λ _ _. refl) (λ _ _ _. refl) (λ _. refl)
    now.dl_src want.dl_src a2 h0 (λ v e. λ i. record h0 { dl_src = set-twice true now.dl_src v h.dl_src e i })
    ∙ (fire-set_unless SetDlDst (λ o. record no_rewrite { dl_dst = o }) (λ _ _. refl) (λ _ _ _. refl) (λ _. refl)
    now.dl_dst want.dl_dst a3 h1 (λ v e. λ i. record h1 { dl_dst = set-twice true now.dl_dst v h.dl_dst e i })
    ∙ (fire-set_unless SetNwSrc (λ o. record no_rewrite { nw_src = o }) (λ _ _. refl) (λ _ _ _. refl) (λ _. refl)
    now.nw_src want.nw_src a4 h2
    (λ v e. λ i. record h2 { nw_src = set-twice (is_ip h.dl_type) now.nw_src v h.nw_src e i })
    ∙ (fire-set_unless SetNwDst (λ o. record no_rewrite { nw_dst = o }) (λ _ _. refl) (λ _ _ _. refl) (λ _. refl)
    now.nw_dst want.nw_dst a5 h3
    (λ v e. λ i. record h3 { nw_dst = set-twice (is_ip h.dl_type) now.nw_dst v h.nw_dst e i })
    ∙ (fire-set_unless SetNwTos (λ o. record no_rewrite { nw_tos = o }) (λ _ _. refl) (λ _ _ _. refl) (λ _. refl)
    now.nw_tos want.nw_tos a6 h4
    (λ v e. λ i. record h4 { nw_tos = set-twice (is_ip h.dl_type) now.nw_tos v h.nw_tos e i })
    ∙ (fire-set_unless SetTpSrc (λ o. record no_rewrite { tp_src = o }) (λ _ _. refl) (λ _ _ _. refl) (λ _. refl)
    now.tp_src want.tp_src a7 h5
    (λ v e. λ i. record h5 { tp_src = set-twice (has_tcp_udp h.dl_type h.nw_proto) now.tp_src v h.tp_src e i })
    ∙ (fire-set_unless SetTpDst (λ o. record no_rewrite { tp_dst = o }) (λ _ _. refl) (λ _ _ _. refl) (λ _. refl)
    now.tp_dst want.tp_dst acts h6
    (λ v e. λ i. record h6 { tp_dst = set-twice (has_tcp_udp h.dl_type h.nw_proto) now.tp_dst v h.tp_dst e i })
    ∙ ap (λ (k : HeaderOf). fire acts k) (λ i. record h {
      dl_src = set-over true now.dl_src want.dl_src h.dl_src c.dl_src i;
      dl_dst = set-over true now.dl_dst want.dl_dst h.dl_dst c.dl_dst i;
      nw_src = set-over (is_ip h.dl_type) now.nw_src want.nw_src h.nw_src c.nw_src i;
      nw_dst = set-over (is_ip h.dl_type) now.nw_dst want.nw_dst h.nw_dst c.nw_dst i;
      nw_tos = set-over (is_ip h.dl_type) now.nw_tos want.nw_tos h.nw_tos c.nw_tos i;
      tp_src = set-over (has_tcp_udp h.dl_type h.nw_proto) now.tp_src want.tp_src h.tp_src c.tp_src i;
      tp_dst = set-over (has_tcp_udp h.dl_type h.nw_proto) now.tp_dst want.tp_dst h.tp_dst c.tp_dst i;
    }))))))))
