-- What is read derives: what each state says of the signs that led to it.
use Rattle.std.proofs.Common.{◌≡◌, ◌∙◌, ℕ, suc, ◌-◌, ◌<◌, ◌≤◌, Bool, true, false, List, [], ◌∷◌, ◌++◌, length, nat_lt}
use Rattle.std.proofs.Common.{Option, None, Some, Result, Ok, Err, if◌then◌else◌, refl, sym, ap, subst, append_assoc}
use Rattle.std.proofs.Common.{arith}
use Rattle.std.proofs.lemmas.Bool.{ltb-true}
use Rattle.std.proofs.lemmas.List.{append-nil}
use Rattle.policy_expr.specs.declared.member.MemberName.{MemberName}
use Rattle.policy_expr.specs.Policy.{Policy, member, parallel, sequential, override}
use Rattle.policy_expr.specs.Members.{index_of}
use Rattle.policy_expr.specs.Signs.{Sign, name, plus, chain, fallback, opening, closing, other}
use Rattle.policy_expr.specs.Reading.{State, Pending, Read, nothing, joined, whole, after_chain, after_plus}
use Rattle.policy_expr.specs.Reading.{after_fallback, step, operand_step, operator_step, closed, run, run_on, ended}
use Rattle.policy_expr.specs.Reading.{ended_at, end_result, start}
use Rattle.policy_expr.specs.Grammar.{Strength, over, par, seq, atom, Derives, named, nested, one_atom, one_seq}
use Rattle.policy_expr.specs.Grammar.{one_par, more_atoms, more_seqs, more_pars, bare, name_of, names_in}
use Rattle.policy_expr.proofs.Steps.{names_in-append}

module _ (members : List MemberName) where
  -- the signs of what is pending for one operator: a part, and the operator
  pub record Part (depth : ℕ) (strength : Strength) (operator : Sign) (signs : List Sign) (p : Policy) : Type 0 where
    pub front : List Sign
    pub derives : Derives members depth strength front p
    pub ends : signs ≡ front ++ operator ∷ []

  abbrev pub Parts : ℕ → Strength → Sign → Option Policy → List Sign → Type 0
  Parts depth strength operator None signs = signs ≡ []
  Parts depth strength operator (Some p) signs = Part depth strength operator signs p

  -- the signs inside of parentheses, before the operand
  pub record Left (depth : ℕ) (f : Pending) (signs : List Sign) : Type 0 where
    pub overs : List Sign
    pub pars : List Sign
    pub seqs : List Sign
    pub over_part : Parts depth over fallback f.over overs
    pub par_part : Parts depth par plus f.par pars
    pub seq_part : Parts depth seq chain f.seq seqs
    pub all : signs ≡ overs ++ (pars ++ seqs)

  chained_derives : (depth : ℕ) (o : Option Policy) (before signs : List Sign) (p : Policy)
      → Parts depth seq chain o before → Derives members depth atom signs p
      → Derives members depth seq (before ++ signs) (joined sequential o p)
  chained_derives depth None before signs p none d = rw none (one_atom depth signs p d)
  chained_derives depth (Some left) before signs p part d =
      let joins : before ++ signs ≡ part.front ++ chain ∷ signs =
      rw part.ends (append_assoc part.front (chain ∷ []) signs) in
      rw joins (more_atoms depth part.front signs left p part.derives d)

  summed_derives : (depth : ℕ) (o : Option Policy) (before signs : List Sign) (p : Policy)
      → Parts depth par plus o before → Derives members depth seq signs p
      → Derives members depth par (before ++ signs) (joined parallel o p)
  summed_derives depth None before signs p none d = rw none (one_seq depth signs p d)
  summed_derives depth (Some left) before signs p part d =
      let joins : before ++ signs ≡ part.front ++ plus ∷ signs =
      rw part.ends (append_assoc part.front (plus ∷ []) signs) in
      rw joins (more_seqs depth part.front signs left p part.derives d)

  whole_derives : (depth : ℕ) (o : Option Policy) (before signs : List Sign) (p : Policy)
      → Parts depth over fallback o before → Derives members depth par signs p
      → Derives members depth over (before ++ signs) (joined override o p)
  whole_derives depth None before signs p none d = rw none (one_par depth signs p d)
  whole_derives depth (Some left) before signs p part d =
      let joins : before ++ signs ≡ part.front ++ fallback ∷ signs =
      rw part.ends (append_assoc part.front (fallback ∷ []) signs) in
      rw joins (more_pars depth part.front signs left p part.derives d)

  -- the inside of parentheses with its last operand
  left_whole : (depth : ℕ) (f : Pending) (before signs : List Sign) (p : Policy) → Left depth f before
      → Derives members depth atom signs p → Derives members depth over (before ++ signs) (whole f p)
  left_whole depth f before signs p l d =
      let joins : before ++ signs ≡ l.overs ++ (l.pars ++ (l.seqs ++ signs)) =
      rw l.all (append_assoc l.overs (l.pars ++ l.seqs) signs
      ∙ ap (λ s. l.overs ++ s) (append_assoc l.pars l.seqs signs)) in
      rw joins (whole_derives depth f.over l.overs _ _ l.over_part
      (summed_derives depth f.par l.pars _ _ l.par_part (chained_derives depth f.seq l.seqs signs p l.seq_part d)))

  -- the signs outside of the innermost parentheses
  abbrev pub Outer : List Pending → List Sign → Type 0
  Outer [] signs = signs ≡ []
  Outer (f ∷ fs) signs = (before : List Sign) × (inner : List Sign) × Outer fs before × Left (32 - length fs) f inner
      × (signs ≡ before ++ (inner ++ opening ∷ []))

  -- the signs of the last operand
  abbrev pub Last : ℕ → Option Policy → List Sign → Type 0
  Last depth None signs = signs ≡ []
  Last depth (Some p) signs = Derives members depth atom signs p

  -- what a state says of the signs that led to it
  pub record Stands (s : State) (signs : List Sign) : Type 0 where
    pub outer : List Sign
    pub inner : List Sign
    pub last : List Sign
    pub outer_part : Outer s.outside outer
    pub inner_part : Left (32 - length s.outside) s.inside inner
    pub last_part : Last (32 - length s.outside) s.operand last
    pub room : length s.outside ≤ 32
    pub all : signs ≡ outer ++ (inner ++ last)
    pub names : s.names ≡ names_in signs

  abbrev IfStands : Option State → List Sign → Type 0
  IfStands None signs = Unit {0}
  IfStands (Some s) signs = Stands s signs

  nothing_left : (depth : ℕ) → Left depth nothing []
  nothing_left depth = record {
    overs = [];
    pars = [];
    seqs = [];
    over_part = refl;
    par_part = refl;
    seq_part = refl;
    all = refl;
  }

  pub start_stands : Stands start []
  start_stands = record {
    outer = [];
    inner = [];
    last = [];
    outer_part = refl;
    inner_part = nothing_left 32;
    last_part = refl;
    room = omega arith;
    all = refl;
    names = refl;
  }

  -- the names with those of one sign more
  one_more : (names : List (List ℕ)) (signs : List Sign) (sign : Sign) → names ≡ names_in signs
      → names ++ name_of sign ≡ names_in (signs ++ sign ∷ [])
  one_more names signs sign same = ap (λ ns. ns ++ name_of sign) same
      ∙ sym (names_in-append signs (sign ∷ []) ∙ ap (λ ns. names_in signs ++ ns) (append-nil (name_of sign)))

  -- an operand is wanted: a name, or a parenthesis opens
  name_stands : (s : State) (signs : List Sign) (n : List ℕ) → s.operand ≡ None → Stands s signs
      → Stands (record {
        outside = s.outside;
        inside = s.inside;
        operand = Some (member (index_of members n));
        names = s.names ++ n ∷ [];
      }) (signs ++ name n ∷ [])
  name_stands s signs n wanted st =
      let none : st.last ≡ [] = subst (λ (o : Option Policy). Last (32 - length s.outside) o st.last) wanted
      st.last_part in
      record {
        outer = st.outer;
        inner = st.inner;
        last = name n ∷ [];
        outer_part = st.outer_part;
        inner_part = st.inner_part;
        last_part = named (32 - length s.outside) n;
        room = st.room;
        all = rw (st.all, none) (simp append_assoc);
        names = one_more s.names signs (name n) st.names;
      }

  open_stands : (s : State) (signs : List Sign) → s.operand ≡ None → length s.outside < 32 → Stands s signs
      → Stands (record { outside = s.inside ∷ s.outside; inside = nothing; operand = None; names = s.names })
      (signs ++ opening ∷ [])
  open_stands s signs wanted fits st =
      let none : st.last ≡ [] = subst (λ (o : Option Policy). Last (32 - length s.outside) o st.last) wanted
      st.last_part in
      record {
        outer = st.outer ++ (st.inner ++ opening ∷ []);
        inner = [];
        last = [];
        outer_part = (st.outer, st.inner, st.outer_part, st.inner_part, refl);
        inner_part = nothing_left (32 - suc (length s.outside));
        last_part = refl;
        room = omega arith;
        all = rw (st.all, none) (simp (append_assoc, append-nil));
        names = sym (append-nil s.names) ∙ one_more s.names signs opening st.names;
      }

  -- an operand was read: an operator follows, or a parenthesis closes
  abbrev having : List Pending → Pending → Policy → List (List ℕ) → State
  having outside inside p names = record { outside = outside; inside = inside; operand = Some p; names = names }

  abbrev wanting : List Pending → Pending → List (List ℕ) → State
  wanting outside inside names = record { outside = outside; inside = inside; operand = None; names = names }

  -- an operator adds no name
  same_names : (names : List (List ℕ)) (signs : List Sign) (sign : Sign) → name_of sign ≡ [] → names ≡ names_in signs
      → names ≡ names_in (signs ++ sign ∷ [])
  same_names names signs sign nameless same = sym (ap (λ ns. names ++ ns) nameless ∙ append-nil names)
      ∙ one_more names signs sign same

  -- the inside, the operand and the operator make the inside before the next operand
  operator_stands :
      (outside : List Pending) (inside after : Pending) (p : Policy) (names : List (List ℕ)) (signs : List Sign)
      (sign : Sign) → name_of sign ≡ []
      → (st : Stands (having outside inside p names) signs)
      → Left (32 - length outside) after (st.inner ++ (st.last ++ sign ∷ []))
      → Stands (wanting outside after names) (signs ++ sign ∷ [])
  operator_stands outside inside after p names signs sign nameless st left = record {
    outer = st.outer;
    inner = st.inner ++ (st.last ++ sign ∷ []);
    last = [];
    outer_part = st.outer_part;
    inner_part = left;
    last_part = refl;
    room = st.room;
    all = rw st.all (simp (append_assoc, append-nil));
    names = same_names names signs sign nameless st.names;
  }

  chain_left : (depth : ℕ) (inside : Pending) (p : Policy) (inner last : List Sign) → Left depth inside inner
      → Derives members depth atom last p → Left depth (after_chain inside p) (inner ++ (last ++ chain ∷ []))
  chain_left depth inside p inner last l d = record {
    overs = l.overs;
    pars = l.pars;
    seqs = (l.seqs ++ last) ++ chain ∷ [];
    over_part = l.over_part;
    par_part = l.par_part;
    seq_part = record {
      front = l.seqs ++ last;
      derives = chained_derives depth inside.seq l.seqs last p l.seq_part d;
      ends = refl;
    };
    all = rw l.all (simp append_assoc);
  }

  plus_left : (depth : ℕ) (inside : Pending) (p : Policy) (inner last : List Sign) → Left depth inside inner
      → Derives members depth atom last p → Left depth (after_plus inside p) (inner ++ (last ++ plus ∷ []))
  plus_left depth inside p inner last l d = record {
    overs = l.overs;
    pars = (l.pars ++ (l.seqs ++ last)) ++ plus ∷ [];
    seqs = [];
    over_part = l.over_part;
    par_part = record {
      front = l.pars ++ (l.seqs ++ last);
      derives =
          summed_derives depth inside.par l.pars _ _ l.par_part
          (chained_derives depth inside.seq l.seqs last p l.seq_part d);
      ends = refl;
    };
    seq_part = refl;
    all = rw l.all (simp (append_assoc, append-nil));
  }

  fallback_left : (depth : ℕ) (inside : Pending) (p : Policy) (inner last : List Sign) → Left depth inside inner
      → Derives members depth atom last p → Left depth (after_fallback inside p) (inner ++ (last ++ fallback ∷ []))
  fallback_left depth inside p inner last l d = record {
    overs = (inner ++ last) ++ fallback ∷ [];
    pars = [];
    seqs = [];
    over_part = record { front = inner ++ last; derives = left_whole depth inside inner last p l d; ends = refl };
    par_part = refl;
    seq_part = refl;
    all = simp (append_assoc, append-nil);
  }

  close_stands : (outside : List Pending) (inside : Pending) (p : Policy) (names : List (List ℕ)) (signs : List Sign)
      → Stands (having outside inside p names) signs → IfStands (closed outside inside p names) (signs ++ closing ∷ [])
  close_stands [] inside p names signs st = tt
  close_stands (f ∷ fs) inside p names signs st =
      let outer = st.outer_part in
      let depth = 32 - suc (length fs) in
      let deeper : suc depth ≡ 32 - length fs = omega (arith, st.room) in
      let inner_whole = nested depth (st.inner ++ st.last) (whole inside p)
      (left_whole depth inside st.inner st.last p st.inner_part st.last_part) in
      record {
        outer = outer.0;
        inner = outer.1;
        last = opening ∷ ((st.inner ++ st.last) ++ closing ∷ []);
        outer_part = outer.2;
        inner_part = outer.3;
        last_part =
            subst (λ d. Derives members d atom (opening ∷ ((st.inner ++ st.last) ++ closing ∷ [])) (whole inside p))
            deeper inner_whole;
        room = omega (arith, st.room);
        all = rw (st.all, outer.4) (simp append_assoc);
        names = same_names names signs closing refl st.names;
      }

  operator_step_stands : (outside : List Pending) (inside : Pending) (p : Policy) (names : List (List ℕ))
      (signs : List Sign) (sign : Sign) → Stands (having outside inside p names) signs
      → IfStands (operator_step p (having outside inside p names) sign) (signs ++ sign ∷ [])
  operator_step_stands outside inside p names signs chain st =
      operator_stands outside inside (after_chain inside p) p names signs chain refl st
      (chain_left _ inside p st.inner st.last st.inner_part st.last_part)
  operator_step_stands outside inside p names signs plus st =
      operator_stands outside inside (after_plus inside p) p names signs plus refl st
      (plus_left _ inside p st.inner st.last st.inner_part st.last_part)
  operator_step_stands outside inside p names signs fallback st =
      operator_stands outside inside (after_fallback inside p) p names signs fallback refl st
      (fallback_left _ inside p st.inner st.last st.inner_part st.last_part)
  operator_step_stands outside inside p names signs closing st = close_stands outside inside p names signs st
  operator_step_stands outside inside p names signs (name n) st = tt
  operator_step_stands outside inside p names signs opening st = tt
  operator_step_stands outside inside p names signs other st = tt

  operand_step_stands : (outside : List Pending) (inside : Pending) (names : List (List ℕ)) (signs : List Sign)
      (sign : Sign) → Stands (wanting outside inside names) signs
      → IfStands (operand_step members (wanting outside inside names) sign) (signs ++ sign ∷ [])
  operand_step_stands outside inside names signs (name n) st =
      name_stands (wanting outside inside names) signs n refl st
  operand_step_stands outside inside names signs opening st = by_room (nat_lt (length outside) 32) refl
    where
      by_room : (b : Bool) → nat_lt (length outside) 32 ≡ b
          → IfStands
          (if b then Some (record { outside = inside ∷ outside; inside = nothing; operand = None; names = names })
          else None) (signs ++ opening ∷ [])
      by_room true fits = open_stands (wanting outside inside names) signs refl (ltb-true _ _ fits) st
      by_room false full = tt
  operand_step_stands outside inside names signs plus st = tt
  operand_step_stands outside inside names signs chain st = tt
  operand_step_stands outside inside names signs fallback st = tt
  operand_step_stands outside inside names signs closing st = tt
  operand_step_stands outside inside names signs other st = tt

  step_at_stands : (operand : Option Policy) (outside : List Pending) (inside : Pending) (names : List (List ℕ))
      (signs : List Sign) (sign : Sign)
      → Stands (record { outside = outside; inside = inside; operand = operand; names = names }) signs
      → IfStands (step members (record { outside = outside; inside = inside; operand = operand; names = names }) sign)
      (signs ++ sign ∷ [])
  step_at_stands None outside inside names signs sign st = operand_step_stands outside inside names signs sign st
  step_at_stands (Some p) outside inside names signs sign st = operator_step_stands outside inside p names signs sign st

  -- a step keeps what a state says
  pub step_stands : (s after : State) (signs : List Sign) (sign : Sign) → Stands s signs
      → step members s sign ≡ Some after → Stands after (signs ++ sign ∷ [])
  step_stands s after signs sign st taken =
      subst (λ (o : Option State). IfStands o (signs ++ sign ∷ [])) taken
      (step_at_stands s.operand s.outside s.inside s.names signs sign st)

  ended_at_derives : (outside : List Pending) (inside : Pending) (operand : Option Policy) (names : List (List ℕ))
      (signs : List Sign) (read : Read)
      → Stands (record { outside = outside; inside = inside; operand = operand; names = names }) signs
      → ended_at outside inside operand names ≡ Some read
      → Derives members 32 over signs read.policy × (read.names ≡ names_in signs)
  ended_at_derives (f ∷ fs) inside operand names signs read st end = cc
  ended_at_derives [] inside None names signs read st end = cc
  ended_at_derives [] inside (Some p) names signs read st end =
      let policy : whole inside p ≡ read.policy = cc in
      let all : signs ≡ st.inner ++ st.last = rw st.outer_part at st.all in (
        rw all (subst (Derives members 32 over (st.inner ++ st.last)) policy
            (left_whole 32 inside st.inner st.last p st.inner_part st.last_part)),
        sym (ap (λ (o : Option Read). names_read o) end) ∙ st.names,
      )
    where
      names_read : Option Read → List (List ℕ)
      names_read None = []
      names_read (Some r) = r.names

  -- where the text may end, the signs derive
  pub ended_derives : (s : State) (signs : List Sign) (read : Read) → Stands s signs → ended s ≡ Some read
      → Derives members 32 over signs read.policy × (read.names ≡ names_in signs)
  ended_derives s signs read st end = ended_at_derives s.outside s.inside s.operand s.names signs read st end

  abbrev pub RunDerives : List Sign → Result Read ℕ → Type 0
  RunDerives signs (Err at) = Unit {0}
  RunDerives signs (Ok read) = Derives members 32 over signs read.policy × (read.names ≡ names_in signs)

  pub run_derives : (end : ℕ) (s : State) (before : List Sign) (signs : List (ℕ × Sign)) → Stands s before
      → RunDerives (before ++ bare signs) (run members end s signs)
  run_derives end s before [] st = by_end (ended s) refl
    where
      by_end : (o : Option Read) → ended s ≡ o → RunDerives (before ++ []) (end_result end o)
      by_end None e = tt
      by_end (Some read) e = rw (append-nil before) (ended_derives s before read st e)
  run_derives end s before (sign ∷ signs) st =
      by_step (step members s sign.1) refl
      (λ after st_after. run_derives end after (before ++ sign.1 ∷ []) signs st_after)
    where
      by_step : (o : Option State) → step members s sign.1 ≡ o
          → ((after : State) → Stands after (before ++ sign.1 ∷ [])
          → RunDerives ((before ++ sign.1 ∷ []) ++ bare signs) (run members end after signs))
          → RunDerives (before ++ sign.1 ∷ bare signs) (run_on sign.0 o (λ after. run members end after signs))
      by_step None e rest = tt
      by_step (Some after) e rest = subst (λ all. RunDerives all (run members end after signs))
          (append_assoc before (sign.1 ∷ []) (bare signs)) (rest after (step_stands s after before sign.1 st e))

  -- what is read derives
  pub read_derives : (end : ℕ) (signs : List (ℕ × Sign)) (read : Read) → run members end start signs ≡ Ok read
      → Derives members 32 over (bare signs) read.policy × (read.names ≡ names_in (bare signs))
  read_derives end signs read done = subst (RunDerives (bare signs)) done (run_derives end start [] signs start_stands)
