-- How a replay goes on: what was written, what waits, and the report from here on stay the whole report; the steps that
-- were counted and those from here on stay at most those of the whole.
use Rattle.std.proofs.Common.{◌≡◌, ◌<◌, ◌≤◌, ◌+◌, ℕ, List, [], ◌++◌, Option, Some, None, Result, Ok, Err, length, take}
use Rattle.std.proofs.Common.{sym, ap, ◌∙◌, subst, refl, append_assoc, arith, le_refl}
use Rattle.std.proofs.lemmas.List.{append-nil}
use Rattle.policies.specs.Policies.{PolicyOf}
use Rattle.replay_report.specs.Playing.{Played}
use Rattle.replay_report.specs.Reports.{Progress, Report, after_text, cut_after, cut_off, cut_report_of, ended, further}
use Rattle.replay_report.specs.Reports.{plays_from}
use Rattle.replay_report.specs.Reports.{no_steps, plays_last, refused, report_of, start, steps_from, steps_in}
use Rattle.replay_report.specs.Reports.{steps_of_last, taken}
use Rattle.replay_report.specs.Takings.{as_line}
use Rattle.replay_report.specs.declared.kind.Kind.{Kind}
use Rattle.replay_report.specs.declared.kind.Kind.TheVariants.{Long}
use Rattle.replay_report.proofs.Followed.{behind_feed, line_at, long_refused, part_goes_on, whole_done, whole_refused}
use Rattle.replay_report.proofs.Splitting.{before}
use Rattle.replay_report.proofs.Summing.{part_counts}
use Rattle.script_text.specs.declared.form.Form.{Form}
use Rattle.covisor_proxy.specs.Asked.{cut_given_of, given_of}
use Rattle.covisor_proxy.specs.Chunks.{Gave, GoesOn, IsAtEnd, LinesOf}
use Rattle.covisor_proxy.specs.Following.{Begins, Breaks, Comes, Does, FallsShort, Follows, IsBegun}
use Rattle.covisor_proxy.specs.Outcomes.{Counts, Moment, bytes_of, moment}
use Rattle.covisor_proxy.specs.Written.{Appends, AppendsShort, AppendsSome}
use Rattle.covisor_proxy.specs.declared.lines.Taken.TheVariants.{Whole, Part}
use Rattle.covisor_proxy.proofs.Appending.{appends_both, appends_none, short_after, short_more, some_after, some_more}
use Rattle.covisor_proxy.proofs.Counting.{at_most, cut-steps-are, line-done, line-most, steps-are, still}
use Rattle.covisor_proxy.proofs.Reading.{gave-both, gave-none, rest_in, script-is}

-- a text before another
pub after_after : (a b : List ℕ) (r : Report) → after_text a (after_text b r) ≡ after_text (a ++ b) r
after_after a b r = ap (λ (t : List ℕ). record r { told = t }) (sym (append_assoc a b r.told))

pub report-is : (form : Form) (p : PolicyOf) (script : List ℕ)
    → report_of form p script ≡ plays_from form p (plays_last form p) (start p) [] script
unfolding report_of
report-is form p script = refl

pub cut-is : (form : Form) (p : PolicyOf) (read : List ℕ)
    → cut_report_of form p read ≡ plays_from form p cut_after (start p) [] read
unfolding cut_report_of
cut-is form p read = refl

-- nothing was read yet
begins_so : (form : Form) (p : PolicyOf) (m : Moment)
    → Follows form p m m (start p) (record { line = []; unread = [] }) []
begins_so form p m = record {
  read = [];
  written = [];
  gave = gave-none m.left;
  appends = appends_none m.held;
  goes = λ ending rest. refl;
  counts = λ ending rest. le_refl (m.steps + steps_from form p ending (start p) [] rest);
}

pub follows-start : (form : Form) (p : PolicyOf) (m : Moment) (at : Progress) (lines : LinesOf) (w : List ℕ)
    → IsBegun at p
    → lines ≡ record { line = []; unread = [] } → w ≡ [] → Follows form p m m at lines w
unfolding IsBegun
follows-start form p m at lines w b l e =
    subst (λ (x : Progress). Follows form p m m x lines w) (sym b)
    (subst (λ (x : LinesOf). Follows form p m m (start p) x w) (sym l)
    (subst (λ (x : List ℕ). Follows form p m m (start p) (record { line = []; unread = [] }) x) (sym e)
    (begins_so form p m)))

-- a part of a line was taken
pub follows-part : (form : Form) (p : PolicyOf) (old new : Moment) (at : Progress) (lines next : LinesOf) (w : List ℕ)
    → Follows form p old new at lines w → GoesOn Part lines next → Follows form p old new at next w
follows-part form p old new at lines next w f g = record {
  read = f.read;
  written = f.written;
  gave = f.gave;
  appends = f.appends;
  goes = λ ending rest.
      ap (λ (x : List ℕ). after_text (f.written ++ w) (plays_from form p ending at x (next.unread ++ rest))) g.1
      ∙ ap (λ (x : List ℕ). after_text (f.written ++ w)
      (plays_from form p ending at (lines.line ++ lines.unread) (x ++ rest))) g.2
      ∙ ap (after_text (f.written ++ w)) (part_goes_on form p ending at lines.line lines.unread rest g.0)
      ∙ f.goes ending rest;
  counts = λ ending rest.
      subst (λ (n : ℕ). new.steps + n ≤ old.steps + steps_from form p ending (start p) [] (f.read ++ rest))
      (sym (ap (λ (x : List ℕ). steps_from form p ending at x (next.unread ++ rest)) g.1
      ∙ ap (λ (x : List ℕ). steps_from form p ending at (lines.line ++ lines.unread) (x ++ rest)) g.2
      ∙ part_counts form p ending at lines.line lines.unread rest g.0))
      (f.counts ending rest);
}

-- what a line whose line feed is there does
done_onward : (form : Form) (p : PolicyOf) (ending : List ℕ → Progress
    → Report) (at : Progress) (lines next : LinesOf) (rest : List ℕ) (played : Played)
    → GoesOn Whole lines next → taken form p at next.line (length next.line + 1) ≡ Ok played
    → after_text played.text (plays_from form p ending (further (length next.line + 1) at played.stand) []
    (next.unread ++ rest))
    ≡ plays_from form p ending at lines.line (lines.unread ++ rest)
done_onward form p ending at lines next rest played g t =
    subst (λ (x : List ℕ). taken form p at x (length x + 1) ≡ Ok played
    → after_text played.text (plays_from form p ending (further (length x + 1) at played.stand) []
    (next.unread ++ rest))
    ≡ plays_from form p ending at lines.line (lines.unread ++ rest))
    (sym g.1)
    (λ e. ap (λ (x : List ℕ). after_text played.text
    (plays_from form p ending (further (length (line_at lines.line lines.unread) + 1) at played.stand) []
    (x ++ rest))) g.2
    ∙ whole_done form p ending at lines.line lines.unread rest played g.0 e)
    t

refused_onward : (form : Form) (p : PolicyOf) (ending : List ℕ → Progress
    → Report) (at : Progress) (lines next : LinesOf) (rest : List ℕ) (kind : Kind)
    → GoesOn Whole lines next → taken form p at next.line (length next.line + 1) ≡ Err kind
    → plays_from form p ending at lines.line (lines.unread ++ rest) ≡ refused kind at
refused_onward form p ending at lines next rest kind g t =
    sym (whole_refused form p ending at lines.line lines.unread rest kind g.0
    (subst (λ (x : List ℕ). taken form p at x (length x + 1) ≡ Err kind) g.1 t))

-- the steps of a line that was done come before those that follow it
line_after : (before steps line played after here most : ℕ) → steps ≤ before + line → line ≡ played
    → played + after ≡ here → before + here ≤ most
    → steps + after ≤ most
line_after before steps line played after here most a b c d = omega (arith, a, b, c, d)

-- a line was done
pub follows-line : (form : Form) (p : PolicyOf) (old new : Moment) (held : Option (List ℕ)) (writes steps : ℕ)
    (at at' : Progress) (lines next : LinesOf) (w w' : List ℕ)
    → Follows form p old new at lines w → GoesOn Whole lines next
    → Does (taken form p at next.line (length next.line + 1)) (length next.line + 1) at at' new.held held w w'
    → steps ≤ new.steps + steps_in (taken form p at next.line (length next.line + 1))
    → Follows form p old (moment new.left new.reads held writes steps) at' (record next { line = [] }) w'
follows-line form p old new held writes steps at at' lines next w w' f g d s =
    let texts : (f.written ++ d.written) ++ w' ≡ (f.written ++ w) ++ d.played.text =
    append_assoc f.written d.written w' ∙ ap (λ z. f.written ++ z) d.waits
    ∙ sym (append_assoc f.written w d.played.text) in
    record {
      read = f.read;
      written = f.written ++ d.written;
      gave = f.gave;
      appends = appends_both old.held new.held held f.written d.written f.appends d.appends;
      goes = λ ending rest.
          ap (λ (x : Progress). after_text ((f.written ++ d.written) ++ w')
          (plays_from form p ending x [] (next.unread ++ rest))) d.progress
          ∙ ap (λ (x : List ℕ). after_text x
          (plays_from form p ending (further (length next.line + 1) at d.played.stand) [] (next.unread ++ rest)))
          texts
          ∙ sym (after_after (f.written ++ w) d.played.text
          (plays_from form p ending (further (length next.line + 1) at d.played.stand) [] (next.unread ++ rest)))
          ∙ ap (after_text (f.written ++ w)) (done_onward form p ending at lines next rest d.played g d.is)
          ∙ f.goes ending rest;
      counts = λ ending rest.
          line_after new.steps steps (steps_in (taken form p at next.line (length next.line + 1))) d.played.steps
          (steps_from form p ending at' [] (next.unread ++ rest))
          (steps_from form p ending at lines.line (lines.unread ++ rest))
          (old.steps + steps_from form p ending (start p) [] (f.read ++ rest))
          s
          (ap steps_in d.is)
          (ap (λ (x : Progress). d.played.steps + steps_from form p ending x [] (next.unread ++ rest)) d.progress
          ∙ line-done form p ending at lines next rest d.played g d.is)
          (f.counts ending rest);
    }

-- what waited was written, and more was read
pub follows-read : (form : Form) (p : PolicyOf) (old new next : Moment) (at : Progress) (lines more : LinesOf)
    (w : List ℕ)
    → Follows form p old new at lines w → lines.unread ≡ [] → Appends new.held next.held w
    → Gave new.left next.left more.unread → more.line ≡ lines.line
    → next.steps ≡ new.steps → Follows form p old next at more []
follows-read form p old new next at lines more w f none a g same steps = record {
  read = f.read ++ more.unread;
  written = f.written ++ w;
  gave = gave-both old.left new.left next.left f.read more.unread f.gave g;
  appends = appends_both old.held new.held next.held f.written w f.appends a;
  goes = λ ending rest.
      ap (λ (x : List ℕ). after_text x (plays_from form p ending at more.line (more.unread ++ rest)))
      (append-nil (f.written ++ w))
      ∙ ap (λ (x : List ℕ). after_text (f.written ++ w) (plays_from form p ending at x (more.unread ++ rest))) same
      ∙ ap (λ (x : List ℕ). after_text (f.written ++ w)
      (plays_from form p ending at lines.line (x ++ (more.unread ++ rest)))) (sym none)
      ∙ f.goes ending (more.unread ++ rest)
      ∙ ap (plays_from form p ending (start p) []) (sym (append_assoc f.read more.unread rest));
  counts = λ ending rest.
      subst (λ (n : ℕ). n + steps_from form p ending at more.line (more.unread ++ rest) ≤ old.steps + steps_from form p
      ending (start p) [] ((f.read ++ more.unread) ++ rest))
      (sym steps)
      (subst (λ (x : List ℕ). new.steps + steps_from form p ending at x (more.unread ++ rest) ≤ old.steps + steps_from
      form p ending (start p) [] ((f.read ++ more.unread) ++ rest))
      (sym same)
      (subst (λ (x : List ℕ). new.steps + steps_from form p ending at lines.line (more.unread ++ rest) ≤ old.steps +
      steps_from form p ending (start p) [] x)
      (sym (append_assoc f.read more.unread rest))
      (subst (λ (x : List ℕ). new.steps + steps_from form p ending at lines.line (x ++ (more.unread ++ rest)) ≤
      old.steps + steps_from form p ending (start p) [] (f.read ++ (more.unread ++ rest)))
      none
      (f.counts ending (more.unread ++ rest)))));
}

-- ---- where a replay ends

-- what the script takes from here on
abbrev pub left_steps : Form → PolicyOf → Moment → Progress → LinesOf → ℕ
left_steps form p new at lines = steps_from form p (steps_of_last form p) at lines.line
    (lines.unread ++ rest_in new.left)

-- no more was counted than the script takes
within : (before steps more most : ℕ) → steps ≤ before + more → before + more ≤ most → steps ≤ most
within before steps more most a b = omega (arith, a, b)

all_counts : (form : Form) (p : PolicyOf) (old new next : Moment) (at : Progress) (lines : LinesOf) (w : List ℕ)
    → (f : Follows form p old new at lines w) → next.steps ≤ new.steps + left_steps form p new at lines
    → Counts (given_of form p (f.read ++ rest_in new.left)).steps old next
all_counts form p old new next at lines w f s =
    subst (λ (n : ℕ). next.steps ≤ old.steps + n) (sym (steps-are form p (f.read ++ rest_in new.left)))
    (within new.steps next.steps (left_steps form p new at lines)
    (old.steps + steps_from form p (steps_of_last form p) (start p) [] (f.read ++ rest_in new.left))
    s (f.counts (steps_of_last form p) (rest_in new.left)))

-- the report from here on is a text and an end
report_here : (form : Form) (p : PolicyOf) (old new : Moment) (at : Progress) (lines : LinesOf) (w text : List ℕ)
    (last : Report)
    → (f : Follows form p old new at lines w)
    → plays_from form p (plays_last form p) at lines.line (lines.unread ++ rest_in new.left) ≡ after_text text last
    → report_of form p (f.read ++ rest_in new.left) ≡ after_text (f.written ++ (w ++ text)) last
report_here form p old new at lines w text last f e =
    report-is form p (f.read ++ rest_in new.left)
    ∙ sym (f.goes (plays_last form p) (rest_in new.left))
    ∙ ap (after_text (f.written ++ w)) e
    ∙ after_after (f.written ++ w) text last
    ∙ ap (λ (x : List ℕ). after_text x last) (append_assoc f.written w text)

-- nothing more of it is written
pub comes : (form : Form) (p : PolicyOf) (old new next : Moment) (at : Progress) (lines : LinesOf) (w text : List ℕ)
    (last : Report)
    → Follows form p old new at lines w
    → plays_from form p (plays_last form p) at lines.line (lines.unread ++ rest_in new.left) ≡ after_text text last
    → next.held ≡ new.held → next.steps ≤ new.steps + left_steps form p new at lines
    → Comes (given_of form p) last old next (w ++ text)
comes form p old new next at lines w text last f e same s = record {
  script = f.read ++ rest_in new.left;
  written = f.written;
  is = script-is old.left new.left f.read f.gave;
  appends = subst (λ (x : Option (List ℕ)). Appends old.held x f.written) (sym same) f.appends;
  report = report_here form p old new at lines w text last f e;
  counts = all_counts form p old new next at lines w f s;
}

pub comes-refused : (form : Form) (p : PolicyOf) (old new next : Moment) (at : Progress) (lines mid : LinesOf)
    (w : List ℕ) (kind : Kind)
    → Follows form p old new at lines w → GoesOn Whole lines mid
    → taken form p at mid.line (length mid.line + 1) ≡ Err kind
    → next.held ≡ new.held → next.steps ≤ new.steps + left_steps form p new at lines
    → Comes (given_of form p) (refused kind at) old next w
comes-refused form p old new next at lines mid w kind f g t same s =
    subst (Comes (given_of form p) (refused kind at) old next) (append-nil w)
    (comes form p old new next at lines w [] (refused kind at) f
    (refused_onward form p (plays_last form p) at lines mid (rest_in new.left) kind g t) same s)

pub comes-long : (form : Form) (p : PolicyOf) (old new : Moment) (at : Progress) (lines : LinesOf) (w : List ℕ)
    → Follows form p old new at lines w → 140000 < length lines.line
    → Comes (given_of form p) (refused Long at) old new w
comes-long form p old new at lines w f long =
    subst (Comes (given_of form p) (refused Long at) old new) (append-nil w)
    (comes form p old new new at lines w [] (refused Long at) f
    (sym (long_refused form p at lines.line (lines.unread ++ rest_in new.left) long)) refl
    (still new.steps new.steps (left_steps form p new at lines) refl))

-- the beginning of the report was written
pub begins : (form : Form) (p : PolicyOf) (old new next : Moment) (at : Progress) (lines : LinesOf) (w text : List ℕ)
    (last : Report)
    → Follows form p old new at lines w
    → plays_from form p (plays_last form p) at lines.line (lines.unread ++ rest_in new.left) ≡ after_text text last
    → AppendsSome new.held next.held (w ++ text) → next.steps ≤ new.steps + left_steps form p new at lines
    → Begins (given_of form p) old next
begins form p old new next at lines w text last f e a s =
    let whole : bytes_of (report_of form p (f.read ++ rest_in new.left))
    ≡ (f.written ++ (w ++ text)) ++ (last.told ++ last.last) =
    ap bytes_of (report_here form p old new at lines w text last f e)
    ∙ append_assoc (f.written ++ (w ++ text)) last.told last.last in
    record {
      script = f.read ++ rest_in new.left;
      is = script-is old.left new.left f.read f.gave;
      written = subst (AppendsSome old.held next.held) (sym whole)
          (some_more old.held next.held (f.written ++ (w ++ text)) (last.told ++ last.last)
          (some_after old.held new.held next.held f.written (w ++ text) f.appends a));
      counts = all_counts form p old new next at lines w f s;
    }

pub begins-here : (form : Form) (p : PolicyOf) (old new next : Moment) (at : Progress) (lines : LinesOf) (w : List ℕ)
    → Follows form p old new at lines w → AppendsSome new.held next.held w
    → next.steps ≤ new.steps + left_steps form p new at lines
    → Begins (given_of form p) old next
begins-here form p old new next at lines w f a s =
    begins form p old new next at lines w []
    (plays_from form p (plays_last form p) at lines.line (lines.unread ++ rest_in new.left)) f refl
    (some_more new.held next.held w [] a) s

-- and not all that waited
falls : (form : Form) (p : PolicyOf) (old new next : Moment) (at : Progress) (lines : LinesOf) (w text : List ℕ)
    (last : Report)
    → Follows form p old new at lines w
    → plays_from form p (plays_last form p) at lines.line (lines.unread ++ rest_in new.left) ≡ after_text text last
    → AppendsShort new.held next.held (w ++ text) → next.steps ≤ new.steps + left_steps form p new at lines
    → FallsShort (given_of form p) old next
falls form p old new next at lines w text last f e a s =
    let told : (report_of form p (f.read ++ rest_in new.left)).told ≡ (f.written ++ (w ++ text)) ++ last.told =
    ap (λ (r : Report). r.told) (report_here form p old new at lines w text last f e) in
    record {
      script = f.read ++ rest_in new.left;
      is = script-is old.left new.left f.read f.gave;
      short = subst (AppendsShort old.held next.held) (sym told)
          (short_more old.held next.held (f.written ++ (w ++ text)) last.told
          (short_after old.held new.held next.held f.written (w ++ text) f.appends a));
      counts = all_counts form p old new next at lines w f s;
    }

pub falls-here : (form : Form) (p : PolicyOf) (old new next : Moment) (at : Progress) (lines : LinesOf) (w : List ℕ)
    → Follows form p old new at lines w → AppendsShort new.held next.held w
    → next.steps ≤ new.steps + left_steps form p new at lines
    → FallsShort (given_of form p) old next
falls-here form p old new next at lines w f a s =
    falls form p old new next at lines w []
    (plays_from form p (plays_last form p) at lines.line (lines.unread ++ rest_in new.left)) f refl
    (short_more new.held next.held w [] a) s

pub falls-line : (form : Form) (p : PolicyOf) (old new next : Moment) (at : Progress) (lines mid : LinesOf)
    (w : List ℕ) (played : Played)
    → Follows form p old new at lines w → GoesOn Whole lines mid
    → taken form p at mid.line (length mid.line + 1) ≡ Ok played
    → AppendsShort new.held next.held (w ++ played.text) → next.steps ≤ new.steps + left_steps form p new at lines
    → FallsShort (given_of form p) old next
falls-line form p old new next at lines mid w played f g t a s =
    falls form p old new next at lines w played.text
    (plays_from form p (plays_last form p) (further (length mid.line + 1) at played.stand) []
    (mid.unread ++ rest_in new.left)) f
    (sym (done_onward form p (plays_last form p) at lines mid (rest_in new.left) played g t)) a s

-- a line takes no more than the script from it on
pub line-left : (form : Form) (p : PolicyOf) (new : Moment) (steps : ℕ) (at : Progress) (lines mid : LinesOf)
    → GoesOn Whole lines mid
    → steps ≤ new.steps + steps_in (taken form p at mid.line (length mid.line + 1))
    → steps ≤ new.steps + left_steps form p new at lines
line-left form p new steps at lines mid g s =
    at_most steps new.steps (steps_in (taken form p at mid.line (length mid.line + 1))) (left_steps form p new at lines)
    s
    (line-most form p (steps_of_last form p) at lines mid (rest_in new.left) g)

-- a read failed
cut_here : (form : Form) (p : PolicyOf) (at : Progress) (line unread : List ℕ) → unread ≡ []
    → plays_from form p cut_after at line (unread ++ []) ≡ cut_off at
cut_here form p at line unread none = ap (λ (x : List ℕ). plays_from form p cut_after at line (x ++ [])) none

cut_counts : (form : Form) (p : PolicyOf) (old new next : Moment) (at : Progress) (lines : LinesOf) (w : List ℕ)
    → (f : Follows form p old new at lines w) → next.steps ≡ new.steps
    → Counts (cut_given_of form p f.read).steps old next
cut_counts form p old new next at lines w f same =
    subst (λ (n : ℕ). next.steps ≤ old.steps + n) (sym (cut-steps-are form p f.read))
    (subst (λ (x : List ℕ). next.steps ≤ old.steps + steps_from form p no_steps (start p) [] x) (append-nil f.read)
    (within new.steps next.steps (steps_from form p no_steps at lines.line (lines.unread ++ []))
    (old.steps + steps_from form p no_steps (start p) [] (f.read ++ []))
    (still next.steps new.steps (steps_from form p no_steps at lines.line (lines.unread ++ [])) same)
    (f.counts no_steps [])))

pub breaks : (form : Form) (p : PolicyOf) (old new next : Moment) (at : Progress) (lines : LinesOf) (w : List ℕ)
    → Follows form p old new at lines w → lines.unread ≡ [] → Appends new.held next.held w → next.left ≡ new.left
    → next.steps ≡ new.steps
    → Breaks (cut_given_of form p) old next
breaks form p old new next at lines w f none a same steps =
    let e : cut_report_of form p f.read ≡ after_text (f.written ++ w) (cut_off at) =
    cut-is form p f.read
    ∙ ap (plays_from form p cut_after (start p) []) (sym (append-nil f.read))
    ∙ sym (f.goes cut_after [])
    ∙ ap (after_text (f.written ++ w)) (cut_here form p at lines.line lines.unread none) in
    let told : (cut_report_of form p f.read).told ≡ f.written ++ w = ap (λ (r : Report). r.told) e
    ∙ append-nil (f.written ++ w) in
    record {
      read = f.read;
      gave = subst (λ (x : Option (List ℕ)). Gave old.left x f.read) (sym same) f.gave;
      appends = subst (Appends old.held next.held) (sym told)
          (appends_both old.held new.held next.held f.written w f.appends a);
      last = ap (λ (r : Report). r.last) e;
      status = ap (λ (r : Report). r.status) e;
      counts = cut_counts form p old new next at lines w f steps;
    }
