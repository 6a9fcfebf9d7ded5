-- The grammar of expressions over signs:
--   over = par { "|>" par }    par = seq { "+" seq }    seq = atom { ">>" atom }    atom = NAME | "(" over ")"
-- All operators group to the left.
use Rattle.std.specs.Prelude.{◌≡◌, ℕ, suc, ◌≤◌, length, List, [], ◌∷◌, ◌++◌, map}
use Rattle.policy_expr.specs.declared.member.MemberName.{MemberName}
use Rattle.policy_expr.specs.Policy.{Policy, member, parallel, sequential, override}
use Rattle.policy_expr.specs.Signs.{Sign, name, plus, chain, fallback, opening, closing, other, signs_of}
use Rattle.policy_expr.specs.Members.{index_of}

-- what a part of an expression may be, from the weakest to the strongest
pub data Strength : Type 0 where
  over : Strength
  par : Strength
  seq : Strength
  atom : Strength

-- The signs derive from the grammar with this policy as their tree. Parentheses are nested at most `depth` deep.
pub data Derives (members : List MemberName) : ℕ → Strength → List Sign → Policy → Type 0 where
  named : (depth : ℕ) (n : List ℕ) → Derives members depth atom (name n ∷ []) (member (index_of members n))
  nested : (depth : ℕ) (signs : List Sign) (p : Policy) → Derives members depth over signs p
      → Derives members (suc depth) atom (opening ∷ (signs ++ closing ∷ [])) p
  one_atom : (depth : ℕ) (signs : List Sign) (p : Policy) → Derives members depth atom signs p
      → Derives members depth seq signs p
  one_seq : (depth : ℕ) (signs : List Sign) (p : Policy) → Derives members depth seq signs p
      → Derives members depth par signs p
  one_par : (depth : ℕ) (signs : List Sign) (p : Policy) → Derives members depth par signs p
      → Derives members depth over signs p
  more_atoms : (depth : ℕ) (left right : List Sign) (p q : Policy) → Derives members depth seq left p
      → Derives members depth atom right q → Derives members depth seq (left ++ chain ∷ right) (sequential p q)
  more_seqs : (depth : ℕ) (left right : List Sign) (p q : Policy) → Derives members depth par left p
      → Derives members depth seq right q → Derives members depth par (left ++ plus ∷ right) (parallel p q)
  more_pars : (depth : ℕ) (left right : List Sign) (p q : Policy) → Derives members depth over left p
      → Derives members depth par right q → Derives members depth over (left ++ fallback ∷ right) (override p q)

-- the signs without their places
abbrev pub bare : List (ℕ × Sign) → List Sign
bare signs = map (λ sign. sign.1) signs

-- the names among signs
abbrev pub name_of : Sign → List (List ℕ)
name_of (name n) = n ∷ []
name_of plus = []
name_of chain = []
name_of fallback = []
name_of opening = []
name_of closing = []
name_of other = []

abbrev pub names_in : List Sign → List (List ℕ)
names_in [] = []
names_in (sign ∷ signs) = name_of sign ++ names_in signs

-- a text is an expression with this tree: it is short enough, and its signs derive
pub record IsExpression (members : List MemberName) (text : List ℕ) (p : Policy) : Type 0 where
  pub short : length text ≤ 1024
  pub derives : Derives members 32 over (bare (signs_of text)) p

-- what cannot stand where it does: the sign at the front of the rest, or the text's end
abbrev pub Stops : List MemberName → ℕ → List Sign → List (ℕ × Sign) → ℕ → Type 0
Stops members end before [] at = (at ≡ end) × ((p : Policy) → ¬ Derives members 32 over before p)
Stops members end before (sign ∷ rest) at =
    (at ≡ sign.0) × ((more : List Sign) (p : Policy) → ¬ Derives members 32 over (before ++ sign.1 ∷ more) p)

-- The signs before a place can be continued to an expression, and with what stands there they cannot.
pub record IsFirstFault (members : List MemberName) (end : ℕ) (signs : List (ℕ × Sign)) (at : ℕ) : Type 0 where
  pub before : List (ℕ × Sign)
  pub rest : List (ℕ × Sign)
  pub split : signs ≡ before ++ rest
  pub continued : (more : List Sign) × (p : Policy) × Derives members 32 over (bare before ++ more) p
  pub stops : Stops members end (bare before) rest at
