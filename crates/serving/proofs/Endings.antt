-- Lines of the audit that are taken and written at the end of a run, one by one.
use Rattle.std.proofs.Common.{◌≡◌, ◌+◌, ℕ, true, false, List, [], ◌∷◌, ◌++◌, Option, All, length, take, refl, sym, ap}
use Rattle.std.proofs.Common.{subst, ◌∙◌, append_assoc}
use Rattle.std.proofs.Math.Seq.{take-append-add}
use Rattle.std.proofs.lemmas.List.{append-nil}
use Rattle.std.proofs.lemmas.List.Concat.{flat_map-append}
use Rattle.std.proofs.lemmas.List.Elements.{All-nil, All-push}
use Rattle.events.specs.declared.event.Event.{Event}
use Rattle.events.specs.declared.event.Event.TheVariants.{Take}
use Rattle.events.specs.declared.event.Reply.{Reply}
use Rattle.events.specs.declared.event.Reply.TheVariants.{Taken}
use Rattle.policy_lock.specs.History.{IsLegal, after, entry}
use Rattle.policy_lock.specs.declared.machine.Machine.{Ghosts}
use Rattle.policy_lock.specs.declared.view.Entry.{Entry}
use Rattle.policy_lock.proofs.Histories.{after-append, legal-snoc}
use Rattle.sessions.specs.Streams.{Appends, AppendsSome}
use Rattle.sessions.proofs.Bytes.{appends-more, appends-none}
use Rattle.endpoint_works.specs.Audits.{audit, lines}
use Rattle.serving.specs.Endings.{WroteRest, WroteRestUpTo}
use Rattle.serving.specs.Histories.{TakesLine, lines_taken}
use Rattle.serving.proofs.Audits.{taken-both}

-- a taking of a line
abbrev pub taking : List ℕ → Entry Event Reply
taking line = entry [] (Take audit) (Taken line)

pub lines-both : (a b : List (List ℕ)) → lines (a ++ b) ≡ lines a ++ lines b
lines-both a b = flat_map-append (λ (x : List ℕ). x ++ 10 ∷ []) a b

lines-more : (rest : List (Entry Event Reply)) (line : List ℕ)
    → lines (lines_taken (rest ++ taking line ∷ [])) ≡ lines (lines_taken rest) ++ (line ++ 10 ∷ [])
lines-more rest line =
    ap lines (taken-both rest (taking line ∷ []))
    ∙ (lines-both (lines_taken rest) (line ∷ [])
    ∙ ap (λ z. lines (lines_taken rest) ++ z) (append-nil (line ++ 10 ∷ [])))

module _ {M S : Type 0} (g : Ghosts M Event Reply S) where
  pub wrote-none : (s : S) (a : Option (List ℕ)) → WroteRest g s s a a
  wrote-none s a = record {
    rest = [];
    takings = All-nil TakesLine;
    legal = record {};
    means = refl;
    wrote = appends-none a;
  }

  module _ (s t u : S) (a b c : Option (List ℕ)) (h : WroteRest g s t a b) (line : List ℕ)
      (busy : g.idle t (Take audit) ≡ false) (found : Taken line ≡ g.reply t (Take audit))
      (next : u ≡ g.next t (Take audit)) where
    legal : IsLegal g s (h.rest ++ taking line ∷ [])
    legal =
        legal-snoc g s h.rest [] (Take audit) (Taken line) h.legal
        (subst (λ (v : S). g.idle v (Take audit) ≡ false) h.means busy)
        (subst (λ (v : S). Taken line ≡ g.reply v (Take audit)) h.means found)

    means : u ≡ after g s (h.rest ++ taking line ∷ [])
    means = next ∙ (ap (λ (v : S). g.next v (Take audit)) h.means ∙ sym (after-append g s h.rest (taking line ∷ [])))

    takings : All TakesLine (h.rest ++ taking line ∷ [])
    takings = All-push TakesLine h.rest (taking line) h.takings (refl, (line, refl))

    -- a line is taken and written
    pub wrote-more : Appends b c (line ++ 10 ∷ []) → WroteRest g s u a c
    wrote-more w = record {
      rest = h.rest ++ taking line ∷ [];
      takings = takings;
      legal = legal;
      means = means;
      wrote = subst (Appends a c) (sym (lines-more h.rest line))
          (appends-more a b c (lines (lines_taken h.rest)) (line ++ 10 ∷ []) h.wrote w);
    }

    -- a line is taken, of which some is written
    pub wrote-part : AppendsSome b c (line ++ 10 ∷ []) → WroteRestUpTo g s u a c
    wrote-part w = record {
      rest = h.rest ++ taking line ∷ [];
      takings = takings;
      legal = legal;
      count = length (lines (lines_taken h.rest)) + w.0;
      wrote = subst (λ z. Appends a c (take (length (lines (lines_taken h.rest)) + w.0) z))
          (sym (lines-more h.rest line))
          (subst (Appends a c) (sym (take-append-add (lines (lines_taken h.rest)) (line ++ 10 ∷ []) w.0))
          (appends-more a b c (lines (lines_taken h.rest)) (take w.0 (line ++ 10 ∷ [])) h.wrote w.1));
    }
