-- What an opening over memory says of the bytes.
use Rattle.std.proofs.Common.{◌≡◌, ℕ, Bool, true, false, List, [], ◌++◌, Option, Some, refl, sym, ap, subst, ◌∙◌}
use Rattle.std.proofs.Common.{append_assoc}
use Rattle.std.specs.Prelude.{Result, Ok, Err, IfErr, IfOk, OnOk}
use Rattle.std.proofs.lemmas.List.{append-nil}
use Rattle.of10_frames.specs.Frames.{IsUnfinished}
use Rattle.sessions.specs.declared.ends.Greeted.{Greeted}
use Rattle.sessions.specs.declared.ends.OpenEnd.{OpenEnd}
use Rattle.sessions.specs.declared.ends.OpenEnd.TheVariants as ends
use Rattle.sessions.specs.Greetings.{is_hello, to_switch}
use Rattle.sessions.specs.Opening.{IsGreeted, IsKnown, IsNoSwitch, IsNotOpened}
use Rattle.sessions.specs.Reading.{HasKept, HasNext}
use Rattle.sessions.specs.Streams.{Appends, IsCutShort, SourceEnded}
use Rattle.tcp_links.specs.declared.opening.Verdict.{Verdict}
use Rattle.tcp_links.specs.declared.opening.Verdict.TheVariants as verdicts
use Rattle.tcp_links.specs.Verdicts.{BeginsShort, BeginsWith, IsJudgedMember, IsJudgedSwitch, SaysOfSwitch}
use Rattle.tcp_links.specs.Verdicts.{verdict_of}

-- the value of an item
some-is : (xs ys : List ℕ) → Some xs ≡ Some ys → xs ≡ ys
some-is xs ys e = cc

ok-is : {T E : Type 0} (x y : T) (r : Result T E) → r ≡ Ok x → r ≡ Ok y → x ≡ y
ok-is x y r a b = cc

-- what holds of the verdict holds of the one that was said
said : {T : Type 0} (P : Verdict T → Type 0) (r : Result T OpenEnd) (w v : Verdict T) → verdict_of r ≡ Ok w
    → verdict_of r ≡ Ok v → P w → P v
said P r w v a b p = subst P (ok-is w v (verdict_of r) a b) p

module _ (bytes left kept : List ℕ) where
  -- the first frame of what was read is that of the bytes
  begins : (greets : Bool) (first : List ℕ) → HasNext (Some bytes) (Some left) [] kept first → is_hello first ≡ greets
      → BeginsWith greets bytes
  begins greets first n is = record {
    first = first;
    rest = kept ++ n.next.0;
    whole = n.whole;
    hello = is;
    parts = n.next.1 ∙ (ap (λ z. z ++ n.next.0) n.parts ∙ append_assoc first kept n.next.0);
  }

  -- what is kept is the front of the bytes
  front : (k : HasKept (Some bytes) (Some left) [] kept) → bytes ≡ kept ++ k.next.0
  front k = k.next.1 ∙ ap (λ z. z ++ k.next.0) (sym k.parts)

  -- all were read, and are kept
  unfinished : HasKept (Some bytes) (Some left) [] kept → SourceEnded (Some left) kept → IsUnfinished bytes
  unfinished k e =
      let none : k.next.0 ≡ [] = sym (some-is left k.next.0 k.next.2) ∙ e.end in
      subst IsUnfinished (sym (front k ∙ (ap (λ z. kept ++ z) none ∙ append-nil kept))) e.unfinished

  short : (len : ℕ) → HasKept (Some bytes) (Some left) [] kept → IsCutShort kept len → BeginsShort len bytes
  short len k s = record { first = kept; rest = k.next.0; short = s; parts = front k }

  module _ {T : Type 0} (faults risen : ℕ) where
    member-said : (r : Result T OpenEnd) (v : Verdict T) → verdict_of r ≡ Ok v
        → OnOk r (IsGreeted (Some bytes) (Some left) [] kept)
        → IfErr r (IsNotOpened (Some bytes) (Some left) [] kept faults risen true)
        → IsJudgedMember bytes v
    member-said (Ok peer) v is g h = said (IsJudgedMember bytes) (Ok peer) (verdicts.Open peer) v refl is
        (begins true g.hello g.first g.greets)
    member-said (Err ends.Ended) v is g h = said (IsJudgedMember bytes) (Err ends.Ended) verdicts.More v refl is
        (unfinished h.0 h.1)
    member-said (Err (ends.Short len)) v is g h = said (IsJudgedMember bytes) (Err (ends.Short len))
        (verdicts.Refused (ends.Short len)) v refl is (short len h.0 h.1)
    member-said (Err ends.NoHello) v is g h = said (IsJudgedMember bytes) (Err ends.NoHello)
        (verdicts.Refused ends.NoHello) v refl is (begins false h.other h.first h.greets)
    member-said (Err ends.NoFeatures) v is g h = absurd h
    member-said (Err (ends.Unknown dpid)) v is g h = absurd h
    member-said (Err ends.ReadFault) v is g h = let never : true ≡ false = h.1.unreliable in absurd (cc)
    member-said (Err ends.WriteFault) v is g h = absurd (cc)
    member-said (Err ends.Memory) v is g h = absurd (cc)

-- a source of these bytes, and a framer that is empty at first
module _ {T : Type 0} (bytes given left old kept : List ℕ) (faults risen : ℕ) (sound : Bool) (e : given ≡ bytes)
    (n : old ≡ []) (s : sound ≡ true) where
  pub member-judged : (r : Result T OpenEnd) (v : Verdict T) → verdict_of r ≡ Ok v
      → OnOk r (IsGreeted (Some given) (Some left) old kept)
      → IfErr r (IsNotOpened (Some given) (Some left) old kept faults risen sound)
      → IsJudgedMember bytes v
  member-judged r v is g h = member-said bytes left kept faults risen r v is
      (subst (λ z. OnOk r (IsGreeted (Some z) (Some left) [] kept)) e
      (subst (λ z. OnOk r (IsGreeted (Some given) (Some left) z kept)) n g))
      (subst (λ z. IfErr r (IsNotOpened (Some z) (Some left) [] kept faults risen true)) e
      (subst (λ z. IfErr r (IsNotOpened (Some given) (Some left) z kept faults risen true)) n
      (subst (λ z. IfErr r (IsNotOpened (Some given) (Some left) old kept faults risen z)) s h)))

module _ (dpids bytes left kept answer : List ℕ) (faults risen sink_faults sink_risen wants wanted : ℕ) where
  -- what is kept is all that is written
  held-is : (xs : List ℕ) → Appends (Some []) (Some answer) xs → answer ≡ xs
  held-is xs e = some-is answer xs e

  of : (v : Verdict Greeted) → SaysOfSwitch dpids bytes answer left kept v → IsJudgedSwitch dpids bytes answer v
  of v h = record { left = left; kept = kept; says = h }

  switch-said : (r : Result Greeted OpenEnd) (v : Verdict Greeted) → verdict_of r ≡ Ok v
      → IfOk r (IsKnown (Some bytes) (Some left) [] kept (Some []) (Some answer) dpids)
      → IfErr r (IsNoSwitch (Some bytes) (Some left) [] kept (Some []) (Some answer) dpids faults risen true
      sink_faults sink_risen wants wanted true)
      → IsJudgedSwitch dpids bytes answer v
  switch-said (Ok peer) v is g h = said (IsJudgedSwitch dpids bytes answer) (Ok peer) (verdicts.Open peer) v refl is
      (of (verdicts.Open peer) g)
  switch-said (Err ends.Ended) v is g h = said (IsJudgedSwitch dpids bytes answer) (Err ends.Ended) verdicts.More v
      refl is (of verdicts.More (h.0, h.1.unfinished, h.1.end))
  switch-said (Err (ends.Short len)) v is g h = said (IsJudgedSwitch dpids bytes answer) (Err (ends.Short len))
      (verdicts.Refused (ends.Short len)) v refl is (of (verdicts.Refused (ends.Short len)) h)
  switch-said (Err ends.NoHello) v is g h = said (IsJudgedSwitch dpids bytes answer) (Err ends.NoHello)
      (verdicts.Refused ends.NoHello) v refl is
      (of (verdicts.Refused ends.NoHello) (h.0, held-is (to_switch []) h.1))
  switch-said (Err ends.NoFeatures) v is g h = said (IsJudgedSwitch dpids bytes answer) (Err ends.NoFeatures)
      (verdicts.Refused ends.NoFeatures) v refl is (of (verdicts.Refused ends.NoFeatures) h)
  switch-said (Err (ends.Unknown dpid)) v is g h = said (IsJudgedSwitch dpids bytes answer) (Err (ends.Unknown dpid))
      (verdicts.Refused (ends.Unknown dpid)) v refl is (of (verdicts.Refused (ends.Unknown dpid)) h)
  switch-said (Err ends.ReadFault) v is g h = let never : true ≡ false = h.1.unreliable in absurd (cc)
  switch-said (Err ends.WriteFault) v is g h = absurd (cc)
  switch-said (Err ends.Memory) v is g h = absurd (cc)

-- a source of these bytes, a sink that holds nothing, and a framer that is empty at first
module _ (dpids bytes given left old kept held answer : List ℕ) (faults risen sink_faults sink_risen wants wanted : ℕ)
    (sound sounds : Bool) (e : given ≡ bytes) (n : old ≡ []) (b : held ≡ []) (s : sound ≡ true) (t : sounds ≡ true)
  where
    pub switch-judged : (r : Result Greeted OpenEnd) (v : Verdict Greeted) → verdict_of r ≡ Ok v
        → IfOk r (IsKnown (Some given) (Some left) old kept (Some held) (Some answer) dpids)
        → IfErr r (IsNoSwitch (Some given) (Some left) old kept (Some held) (Some answer) dpids faults risen sound
        sink_faults sink_risen wants wanted sounds)
        → IsJudgedSwitch dpids bytes answer v
    switch-judged r v is g h = switch-said dpids bytes left kept answer faults risen sink_faults sink_risen wants wanted
        r v is
        (subst (λ z. IfOk r (IsKnown (Some z) (Some left) [] kept (Some []) (Some answer) dpids)) e
        (subst (λ z. IfOk r (IsKnown (Some given) (Some left) z kept (Some []) (Some answer) dpids)) n
        (subst (λ z. IfOk r (IsKnown (Some given) (Some left) old kept (Some z) (Some answer) dpids)) b g)))
        (subst (λ z. IfErr r (IsNoSwitch (Some z) (Some left) [] kept (Some []) (Some answer) dpids faults risen true
        sink_faults sink_risen wants wanted true)) e
        (subst (λ z. IfErr r (IsNoSwitch (Some given) (Some left) z kept (Some []) (Some answer) dpids faults risen true
        sink_faults sink_risen wants wanted true)) n
        (subst (λ z. IfErr r (IsNoSwitch (Some given) (Some left) old kept (Some z) (Some answer) dpids faults risen true
        sink_faults sink_risen wants wanted true)) b
        (subst (λ z. IfErr r (IsNoSwitch (Some given) (Some left) old kept (Some held) (Some answer) dpids faults risen z
        sink_faults sink_risen wants wanted true)) s
        (subst (λ z. IfErr r (IsNoSwitch (Some given) (Some left) old kept (Some held) (Some answer) dpids faults risen
        sound sink_faults sink_risen wants wanted z)) t h)))))
