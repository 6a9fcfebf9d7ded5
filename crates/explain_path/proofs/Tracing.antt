-- One evaluation after the other.
use Rattle.std.proofs.Common.{◌≡◌, ℕ, suc, true, false, List, [], ◌∷◌, ◌++◌, Some, None, refl, ap, ◌∙◌, sym, append-nil}
use Rattle.std.specs.Prelude.{slice_get}
use Rattle.std.proofs.lemmas.List.{append_assoc}
use Rattle.of10_match.specs.Fields.{HeaderOf}
use Rattle.policy_meaning.specs.Hops.{leads}
use Rattle.policy_meaning.specs.Switches.{SwitchOf}
use Rattle.policy_meaning.specs.Walk.{arriving, takes}
use Rattle.policy_meaning.specs.declared.network.Network.{Network}
use Rattle.policy_meaning.specs.declared.network.Onward.{Onward}
use Rattle.explain_path.specs.Traces.{does, hop_trace, trace}
use Rattle.explain_path.specs.declared.trace.HopTrace.{HopTrace}

module _ (net : Network) (hops n v : ℕ) (h : HeaderOf) (ts : List HopTrace) (k : hops ≡ suc n) where
  module _ (s : SwitchOf) (get : slice_get net.switches v ≡ Some s) where
    module _ (t1 t2 : List HopTrace) (taken : takes s.spread h ≡ true) where
      abbrev this : HopTrace
      this = hop_trace net.tables s.expr v h

      -- the walk ends here
      pub ends-here : t1 ≡ ts ++ this ∷ [] → leads (does net.tables s.expr h).tail s.links h.in_port ≡ None
          → t1 ≡ ts ++ trace net hops v h
      ends-here e l = let whole : this ∷ [] ≡ trace net hops v h = rw (k, get, taken, l) refl in e
          ∙ ap (λ z. ts ++ z) whole

      -- the walk goes on
      pub goes-on : (on : Onward) → t1 ≡ ts ++ this ∷ []
          → leads (does net.tables s.expr h).tail s.links h.in_port ≡ Some on →
          t2 ≡ t1 ++ trace net n on.place.v (arriving on.rewrite on.place.port h) → t2 ≡ ts ++ trace net hops v h
      goes-on on e l f =
          let rest = trace net n on.place.v (arriving on.rewrite on.place.port h) in
          let whole : this ∷ rest ≡ trace net hops v h = rw (k, get, taken, l) refl in
          f ∙ (ap (λ z. z ++ rest) e ∙ (append_assoc ts (this ∷ []) rest ∙ ap (λ z. ts ++ z) whole))

    pub not-taken : takes s.spread h ≡ false → ts ≡ ts ++ trace net hops v h
    not-taken e = let none : [] ≡ trace net hops v h = rw (k, get, e) refl in sym (append-nil ts)
        ∙ ap (λ z. ts ++ z) none

  pub not-there : slice_get net.switches v ≡ None → ts ≡ ts ++ trace net hops v h
  not-there get = let none : [] ≡ trace net hops v h = rw (k, get) refl in sym (append-nil ts) ∙ ap (λ z. ts ++ z) none
