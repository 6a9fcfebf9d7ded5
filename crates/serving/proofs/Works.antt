-- The works of a run, each in its place.
use Rattle.std.proofs.Common.{◌≡◌, ◌<◌, ◌+◌, ◌*◌, ℕ, zero, suc, List, [], ◌∷◌, ◌++◌, ◌||◌, Bool, true, false, All, drop}
use Rattle.std.proofs.Common.{length, map, refl, sym, ap, ◌∙◌, subst, arith}
use Rattle.std.specs.List.{list_any}
use Rattle.std.proofs.lemmas.List.Elements.{All-cons, All-head, All-nil, All-tail}
use Rattle.outside.specs.Works.{AllChanged}
use Rattle.serving.specs.Works.{AreTeams, IsTeam}

module _ {L S T : Type 0} (IsReader : L → S → T → Type 0) (IsWriter : S → T → Type 0) where
  -- two for each line
  pub teams-count : (lines : List L) (seats : List S) (works : List T) → AreTeams IsReader IsWriter lines seats works
      → length works ≡ 2 * length lines
  teams-count [] seats works is = ap length is.1
  teams-count (line ∷ lines) seats works is =
      let h = teams-count lines is.other_seats is.other_works is.rest in let e = ap length is.are_works in grind arith

  -- two more
  pub teams-more : (lines : List L) (seats : List S) (works : List T) (line : L) (first second : S) (reader writer : T)
      → AreTeams IsReader IsWriter lines seats works → IsReader line first reader → IsWriter second writer
      → AreTeams IsReader IsWriter (lines ++ line ∷ []) (seats ++ first ∷ second ∷ []) (works ++ reader ∷ writer ∷ [])
  teams-more [] seats works line first second reader writer is r w = record {
    first = first;
    second = second;
    other_seats = [];
    reader = reader;
    writer = writer;
    other_works = [];
    are_seats = ap (λ (l : List S). l ++ first ∷ second ∷ []) is.0;
    are_works = ap (λ (l : List T). l ++ reader ∷ writer ∷ []) is.1;
    reads = r;
    writes = w;
    rest = (refl, refl);
  }
  teams-more (l ∷ lines) seats works line first second reader writer is r w = record {
    first = is.first;
    second = is.second;
    other_seats = is.other_seats ++ first ∷ second ∷ [];
    reader = is.reader;
    writer = is.writer;
    other_works = is.other_works ++ reader ∷ writer ∷ [];
    are_seats = ap (λ (x : List S). x ++ first ∷ second ∷ []) is.are_seats;
    are_works = ap (λ (x : List T). x ++ reader ∷ writer ∷ []) is.are_works;
    reads = is.reads;
    writes = is.writes;
    rest = teams-more lines is.other_seats is.other_works line first second reader writer is.rest r w;
  }

  -- what holds of each work
  pub teams-all : (X : T → Type 0)
      → ((line : L) (s : S) (t : T) → IsReader line s t → X t) → ((s : S) (t : T) → IsWriter s t → X t)
      → (lines : List L) (seats : List S) (works : List T) → AreTeams IsReader IsWriter lines seats works → All X works
  teams-all X r w [] seats works is = subst (All X) (sym is.1) (All-nil X)
  teams-all X r w (line ∷ lines) seats works is =
      subst (All X) (sym is.are_works)
      (All-cons X is.reader (is.writer ∷ is.other_works) (r line is.first is.reader is.reads)
      (All-cons X is.writer is.other_works (w is.second is.writer is.writes)
      (teams-all X r w lines is.other_seats is.other_works is.rest)))

  -- what is read of a seat is read of its work
  pub teams-same : {X : Type 0} (f : S → X) (h : T → X)
      → ((line : L) (s : S) (t : T) → IsReader line s t → h t ≡ f s) → ((s : S) (t : T) → IsWriter s t → h t ≡ f s)
      → (lines : List L) (seats : List S) (works : List T) → AreTeams IsReader IsWriter lines seats works
      → map h works ≡ map f seats
  teams-same f h r w [] seats works is = ap (map h) is.1 ∙ ap (map f) (sym is.0)
  teams-same {X} f h r w (line ∷ lines) seats works is =
      ap (map h) is.are_works
      ∙ (ap (λ (x : X). x ∷ h is.writer ∷ map h is.other_works) (r line is.first is.reader is.reads)
      ∙ (ap (λ (x : X). f is.first ∷ x ∷ map h is.other_works) (w is.second is.writer is.writes)
      ∙ (ap (λ (x : List X). f is.first ∷ f is.second ∷ x)
      (teams-same f h r w lines is.other_seats is.other_works is.rest)
      ∙ ap (map f) (sym is.are_seats))))

or_true : (b : Bool) → (b || true) ≡ true
or_true true = refl
or_true false = refl

All-weaker : {X : Type 0} {P Q : X → Type 0} (xs : List X) → All P xs → ((x : X) → P x → Q x) → All Q xs
All-weaker xs all f = λ k d lt. f _ (all k d lt)

-- a list that is what is left of it behind the first is empty, and so is one of no length
pub nothing-left : {X : Type 0} (l : List X) → l ≡ drop 1 l → l ≡ []
nothing-left [] e = refl
nothing-left (x ∷ l) e = absurd (let n = ap length e in grind arith)

pub nothing-long : {X : Type 0} (l : List X) → length l ≡ 0 → l ≡ []
nothing-long [] e = refl
nothing-long (x ∷ l) e = absurd (grind arith)

-- what any of these is, each that is makes known
pub any-known : {T : Type 0} (f : T → Bool) (b : Bool) (works : List T) → list_any f works ≡ b
    → All (λ t. f t ≡ true → b ≡ true) works
any-known f b [] e = All-nil (λ t. f t ≡ true → b ≡ true)
any-known f b (t ∷ works) e =
    All-cons (λ u. f u ≡ true → b ≡ true) t works (λ yes. sym e ∙ ap (λ x. x || list_any f works) yes)
    (All-weaker {P = λ u. f u ≡ true → list_any f works ≡ true} {Q = λ u. f u ≡ true
    → b ≡ true} works (any-known f (list_any f works) works refl)
    (λ u h yes. sym e ∙ (ap (λ x. f t || x) (h yes) ∙ or_true (f t))))

pub any-none : {T : Type 0} (f : T → Bool) (works : List T) → All (λ t. f t ≡ false) works → list_any f works ≡ false
any-none f [] all = refl
any-none f (t ∷ works) all =
    ap (λ x. x || list_any f works) (All-head (λ u. f u ≡ false) t works all)
    ∙ any-none f works (All-tail (λ u. f u ≡ false) t works all)

-- works that have changed, of which more is known
pub changed-and : {T : Type 0} (changes : T → T → Type 0) (X : T → Type 0) (works others : List T)
    → AllChanged changes works others → All X others → AllChanged (λ t u. changes t u × X u) works others
changed-and changes X works others c all = (c.0, λ i d lt. (c.1 i d lt, all i d (let n = c.0 in grind arith)))

module _ {L S T : Type 0} (IsReader : L → S → T → Type 0) (IsWriter : S → T → Type 0) where
  -- the same lines and seats
  pub teams-at : (lines same : List L) (seats now : List S) (works : List T)
      → AreTeams IsReader IsWriter lines seats works
      → same ≡ lines → now ≡ seats → AreTeams IsReader IsWriter same now works
  teams-at lines same seats now works is l s =
      subst (λ (x : List L). AreTeams IsReader IsWriter x now works) (sym l)
      (subst (λ (x : List S). AreTeams IsReader IsWriter lines x works) (sym s) is)

  -- what is known of lines
  pub teams-lines : (X : L → Type 0) (lines : List L) (seats : List S) (works : List T)
      → AreTeams IsReader IsWriter lines seats works → All X lines
      → AreTeams (λ line s t. X line × IsReader line s t) IsWriter lines seats works
  teams-lines X [] seats works is x = is
  teams-lines X (line ∷ lines) seats works is x = record {
    first = is.first;
    second = is.second;
    other_seats = is.other_seats;
    reader = is.reader;
    writer = is.writer;
    other_works = is.other_works;
    are_seats = is.are_seats;
    are_works = is.are_works;
    reads = (All-head X line lines x, is.reads);
    writes = is.writes;
    rest = teams-lines X lines is.other_seats is.other_works is.rest (All-tail X line lines x);
  }

  -- what is known of lines and of seats
  pub teams-known : (X : L → Type 0) (Y : S → Type 0) (lines : List L) (seats : List S) (works : List T)
      → AreTeams IsReader IsWriter lines seats works → All X lines → All Y seats
      → AreTeams (λ line s t. X line × Y s × IsReader line s t) (λ s t. Y s × IsWriter s t) lines seats works
  teams-known X Y [] seats works is x y = is
  teams-known X Y (line ∷ lines) seats works is x y =
      let z = subst (All Y) is.are_seats y in
      let z1 = All-tail Y is.first (is.second ∷ is.other_seats) z in
      record {
        first = is.first;
        second = is.second;
        other_seats = is.other_seats;
        reader = is.reader;
        writer = is.writer;
        other_works = is.other_works;
        are_seats = is.are_seats;
        are_works = is.are_works;
        reads = (All-head X line lines x, All-head Y is.first (is.second ∷ is.other_seats) z, is.reads);
        writes = (All-head Y is.second is.other_seats z1, is.writes);
        rest = teams-known X Y lines is.other_seats is.other_works is.rest (All-tail X line lines x)
            (All-tail Y is.second is.other_seats z1);
      }

module _ {L S T : Type 0} (IsReader : L → S → T → Type 0) (IsWriter : S → T → Type 0)
    (Reads : L → S → T → Type 0) (Writes : S → T → Type 0) where
  module _ (changes : T → T → Type 0) where
    changed-next : (x : T) (works others : List T) → AllChanged changes (x ∷ works) others
        → (y : T) × ((ys : List T) × (others ≡ y ∷ ys) × changes x y × AllChanged changes works ys)
    changed-next x works [] c = absurd (let n = c.0 in grind arith)
    changed-next x works (y ∷ ys) c =
        (y, (ys, refl, c.1 0 x (grind arith), ((let n = c.0 in grind arith), λ i d lt. c.1 (suc i) d (grind arith))))

    -- each work has changed in its place
    pub teams-changed : (lines : List L) (seats : List S) (works others : List T)
        → AreTeams IsReader IsWriter lines seats works
        → AllChanged changes works others
        → ((line : L) (s : S) (t u : T) → IsReader line s t → changes t u → Reads line s u)
        → ((s : S) (t u : T) → IsWriter s t → changes t u → Writes s u)
        → AreTeams Reads Writes lines seats others
    teams-changed [] seats works others is c r w = (is.0, nothing-long others (c.0 ∙ ap length is.1))
    teams-changed (line ∷ lines) seats works others is c r w =
        let n = changed-next is.reader (is.writer ∷ is.other_works) others
        (subst (λ (l : List T). AllChanged changes l others) is.are_works c) in
        let m = changed-next is.writer is.other_works n.1.0 n.1.3 in
        record {
          first = is.first;
          second = is.second;
          other_seats = is.other_seats;
          reader = n.0;
          writer = m.0;
          other_works = m.1.0;
          are_seats = is.are_seats;
          are_works = n.1.1 ∙ ap (λ (l : List T). n.0 ∷ l) m.1.1;
          reads = r line is.first is.reader n.0 is.reads n.1.2;
          writes = w is.second is.writer m.0 is.writes m.1.2;
          rest = teams-changed lines is.other_seats is.other_works m.1.0 is.rest m.1.3 r w;
        }

module _ {L S T : Type 0} (IsReader : L → S → T → Type 0) (IsWriter : S → T → Type 0) where
  -- what is known of each work is known of what is read of it
  pub teams-map : {U : Type 0} (h : T → U) (P : L → S → U → Type 0) (Q : S → U → Type 0)
      → ((line : L) (s : S) (t : T) → IsReader line s t → P line s (h t)) → ((s : S) (t : T) → IsWriter s t → Q s (h t))
      → (lines : List L) (seats : List S) (works : List T) → AreTeams IsReader IsWriter lines seats works
      → AreTeams P Q lines seats (map h works)
  teams-map h P Q r w [] seats works is = (is.0, ap (map h) is.1)
  teams-map h P Q r w (line ∷ lines) seats works is = record {
    first = is.first;
    second = is.second;
    other_seats = is.other_seats;
    reader = h is.reader;
    writer = h is.writer;
    other_works = map h is.other_works;
    are_seats = is.are_seats;
    are_works = ap (map h) is.are_works;
    reads = r line is.first is.reader is.reads;
    writes = w is.second is.writer is.writes;
    rest = teams-map h P Q r w lines is.other_seats is.other_works is.rest;
  }
