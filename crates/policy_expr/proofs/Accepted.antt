-- What reading gives is what the grammar and the rules say.
use Rattle.std.proofs.Common.{◌≡◌, ◌∙◌, ℕ, ◌≤◌, inl, inr, Bool, true, false, List, [], length, nat_lt, Option, None}
use Rattle.std.proofs.Common.{Some, Result, Ok, Err, if◌then◌else◌, refl, sym, ap, subst}
use Rattle.std.proofs.lemmas.Bool.{ltb-true, ltb-false, le-ltb}
use Rattle.policy_expr.specs.declared.member.MemberName.{MemberName}
use Rattle.policy_expr.specs.declared.fault.ExprFault.{ExprFault}
use Rattle.policy_expr.specs.declared.fault.ExprFault.TheVariants.{Syntax, Unknown, Twice, Unused, TooMany}
use Rattle.policy_expr.specs.declared.fault.ExprFault.TheVariants.{ParallelLeft, Memory}
use Rattle.policy_expr.specs.Policy.{Policy}
use Rattle.std.specs.Option.{option_map, option_or}
use Rattle.policy_expr.specs.Members.{first_unknown, first_repeated, first_unused, first_left, left_leaves}
use Rattle.policy_expr.specs.Signs.{signs_of}
use Rattle.policy_expr.specs.Reading.{Read, run, start, refusal, unless, judged, reading}
use Rattle.policy_expr.specs.Grammar.{Derives, over, bare, names_in, IsExpression}
use Rattle.policy_expr.specs.Outcomes.{IsFaultOf}
use Rattle.policy_expr.specs.Accepting.{read_as, IsAccepted, IsFaultIn}
use Rattle.policy_expr.proofs.Complete.{derived_read}
use Rattle.policy_expr.proofs.Sound.{read_derives}
use Rattle.policy_expr.proofs.FirstFault.{first_fault}

-- no rule on names has a fault of syntax
never_syntax :
    (a b c : Option (List ℕ)) (d : Bool) (n : ℕ) (e : Option (List ℕ)) (at : ℕ)
    → option_or (option_map Unknown a)
    (option_or (option_map Twice b)
    (option_or (option_map Unused c)
    (option_or (if d then Some (TooMany n) else None) (option_map ParallelLeft e)))) ≡ Some (Syntax at) → ⊥
never_syntax (Some x) b c d n e at same = cc
never_syntax None (Some x) c d n e at same = cc
never_syntax None None (Some x) d n e at same = cc
never_syntax None None None true n e at same = cc
never_syntax None None None false n (Some x) at same = cc
never_syntax None None None false n None at same = cc

module _ (members : List MemberName) (text : List ℕ) where
  abbrev ran : Result Read ℕ
  ran = run members (length text) start (signs_of text)

  -- what a result of reading says
  abbrev Says : Result Policy ExprFault → Type 0
  Says (Ok p) = IsAccepted members text p
  Says (Err fault) = IsFaultIn members text fault

  -- a refusal is never want of memory, nor of syntax
  refused : (o : Option ExprFault) (read : Read) → length text ≤ 1024 → ran ≡ Ok read → refusal members read ≡ o
      → Says (unless o read.policy)
  refused o read short done judged = by_fault o judged
    where
      derivation : Derives members 32 over (bare (signs_of text)) read.policy
          × (read.names ≡ names_in (bare (signs_of text)))
      derivation = read_derives members (length text) (signs_of text) read done

      expression : IsExpression members text read.policy
      expression = record { short = short; derives = derivation.0 }

      same : read ≡ read_as text read.policy
      same = ap (λ ns. record { policy = read.policy; names = ns }) derivation.1

      by_fault : (o : Option ExprFault) → refusal members read ≡ o → Says (unless o read.policy)
      by_fault None judged = record { expression = expression; rules = ap (refusal members) (sym same) ∙ judged }
      by_fault (Some (Unknown n)) judged = (read.policy, expression, ap (refusal members) (sym same) ∙ judged)
      by_fault (Some (Twice n)) judged = (read.policy, expression, ap (refusal members) (sym same) ∙ judged)
      by_fault (Some (Unused n)) judged = (read.policy, expression, ap (refusal members) (sym same) ∙ judged)
      by_fault (Some (TooMany n)) judged = (read.policy, expression, ap (refusal members) (sym same) ∙ judged)
      by_fault (Some (ParallelLeft n)) judged = (read.policy, expression, ap (refusal members) (sym same) ∙ judged)
      by_fault (Some (Syntax at)) judged =
          absurd (never_syntax (first_unknown members read.names) (first_repeated [] read.names)
          (first_unused read.names members) (nat_lt 12 (length read.names)) (length read.names)
          (first_left members (left_leaves false read.policy) read.names) at judged)
      by_fault (Some Memory) judged = tt

  says_run : (r : Result Read ℕ) → length text ≤ 1024 → ran ≡ r → Says (judged members r)
  says_run (Ok read) short done = refused (refusal members read) read short done refl
  says_run (Err at) short done = inr (short, first_fault members (length text) at (signs_of text) done)

  says : Says (reading members text)
  says = by_length (nat_lt 1024 (length text)) refl
    where
      by_length : (b : Bool) → nat_lt 1024 (length text) ≡ b
          → Says (if b then Err (Syntax 1024) else judged members ran)
      by_length true long = inl (ltb-true _ _ long, refl)
      by_length false short = says_run ran (ltb-false _ _ short) refl

  -- what reading gives is accepted
  pub reading_accepted : (p : Policy) → reading members text ≡ Ok p → IsAccepted members text p
  reading_accepted p done = subst Says done says

  -- the fault that reading gives is that of the text
  pub reading_fault : (fault : ExprFault) → IsFaultOf (reading members text) fault → IsFaultIn members text fault
  reading_fault Memory given = tt
  reading_fault (Syntax at) given = subst Says given says
  reading_fault (Unknown n) given = subst Says given says
  reading_fault (Twice n) given = subst Says given says
  reading_fault (Unused n) given = subst Says given says
  reading_fault (TooMany n) given = subst Says given says
  reading_fault (ParallelLeft n) given = subst Says given says

  -- what is accepted is given
  pub accepted_reading : (p : Policy) → IsAccepted members text p → reading members text ≡ Ok p
  accepted_reading p a =
      let short : nat_lt 1024 (length text) ≡ false = le-ltb _ _ a.expression.short in
      let done : ran ≡ Ok (read_as text p) =
      derived_read members (length text) (signs_of text) p a.expression.derives in
      rw (short, done, a.rules) refl

  -- a text that is accepted has no fault
  pub accepted_fault : (p : Policy) (fault : ExprFault) → IsAccepted members text p
      → IsFaultOf (reading members text) fault → fault ≡ Memory
  accepted_fault p Memory a given = refl
  accepted_fault p (Syntax at) a given = let done = accepted_reading p a in cc
  accepted_fault p (Unknown n) a given = let done = accepted_reading p a in cc
  accepted_fault p (Twice n) a given = let done = accepted_reading p a in cc
  accepted_fault p (Unused n) a given = let done = accepted_reading p a in cc
  accepted_fault p (TooMany n) a given = let done = accepted_reading p a in cc
  accepted_fault p (ParallelLeft n) a given = let done = accepted_reading p a in cc

  -- two derivations of the text have one tree
  pub same_tree : (p q : Policy) → IsExpression members text p → IsExpression members text q → p ≡ q
  same_tree p q left right =
      let first : ran ≡ Ok (read_as text p) = derived_read members (length text) (signs_of text) p left.derives in
      let second : ran ≡ Ok (read_as text q) = derived_read members (length text) (signs_of text) q right.derives in
      let same : read_as text p ≡ read_as text q = cc in
      ap (λ (r : Read). r.policy) same
