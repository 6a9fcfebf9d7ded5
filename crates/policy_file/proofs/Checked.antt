-- What checks of a file find, one after the other.
use Rattle.std.proofs.Common.{◌≡◌, ◌∙◌, sym, subst, ◌≤◌, ◌⊎◌, inl, inr, ℕ, Bool, true, false, List, length, Option}
use Rattle.std.proofs.Common.{Some, None, Result, Ok, Err, arith, refl}
use Rattle.std.specs.Prelude.{IsUtf8, nat_le, if◌then◌else◌}
use Rattle.std.specs.Str.{is_utf8}
use Rattle.std.proofs.lemmas.Bool.Decides.{nat_tests}
use Rattle.std.proofs.lemmas.Str.{IsUtf8-from_is_utf8}
use Rattle.toml.specs.Data.{Members}
use Rattle.toml.specs.Parse.{parse_document}
use Rattle.virtual_topology.specs.Faults.{Answers}
use Rattle.policies.specs.declared.fault.PolicyFault.{PolicyFault}
use Rattle.policies.specs.declared.fault.PolicyFault.TheVariants.{Memory, Long}
use Rattle.policy_file.specs.declared.reading.Draft.{Draft}
use Rattle.policy_file.specs.Listed.{unlisted_in, missing_in}
use Rattle.policies.specs.Outcomes.{Gives, then_do, unless}
use Rattle.policy_file.specs.Reading.{document_of, draft_of, fits, policy_in_bytes, policy_of, policy_of_document}
use Rattle.policy_file.specs.Reading.{whole}

-- bytes that are no document
refused_by : (bytes : List ℕ) (b : Bool) → is_utf8 bytes ≡ b → (IsUtf8 bytes → parse_document bytes ≡ None)
    → (if b then parse_document bytes else None) ≡ None
refused_by bytes true e f = f (IsUtf8-from_is_utf8 bytes e)
refused_by bytes false e f = refl

pub refused_document : (bytes : List ℕ) → (IsUtf8 bytes → parse_document bytes ≡ None) → document_of bytes ≡ None
refused_document bytes f = refused_by bytes (is_utf8 bytes) refl f

-- steps over any answers: the definitions are long, so that no tactic should look into them
step : {A B : Type 0} (r : Result A PolicyFault) (x : A) (next : A → Result B PolicyFault) → r ≡ Ok x
    → then_do r next ≡ next x
step r x next e i = then_do (e i) next

pass : {A : Type 0} (o : Option PolicyFault) (rest : Result A PolicyFault) → o ≡ None → unless o rest ≡ rest
pass o rest e i = unless (e i) rest

-- what a step, a check that finds nothing, one that finds a fault, and the last check give
pub step_gives : {A : Type 0} (read : Result A PolicyFault) (x : A) (next : A
    → Result (Unit {0}) PolicyFault) (r : Result (Unit {0}) PolicyFault) → read ≡ Ok x → Gives (next x) r
    → Gives (then_do read next) r
step_gives read x next r e h = subst (λ (out : Result (Unit {0}) PolicyFault). Gives out r) (sym (step read x next e)) h

pub pass_gives : (o : Option PolicyFault) (rest r : Result (Unit {0}) PolicyFault) → o ≡ None → Gives rest r
    → Gives (unless o rest) r
pass_gives o rest r none h = subst (λ (out : Result (Unit {0}) PolicyFault). Gives out r) (sym (pass o rest none)) h

pub stop_gives : (o : Option PolicyFault) (rest : Result (Unit {0}) PolicyFault) (fault : PolicyFault)
    → (fault ≡ Memory) ⊎ (o ≡ Some fault) → (fault ≡ Memory) ⊎ (unless o rest ≡ Err fault)
stop_gives o rest fault (inl m) = inl m
stop_gives o rest fault (inr s) = inr (λ i. unless (s i) rest)

pub last_gives : (o : Option PolicyFault) (last r : Result (Unit {0}) PolicyFault) → last ≡ Ok tt → Answers Memory r o
    → Gives (unless o last) r
last_gives o last (Ok x) is none = pass o last none ∙ is
last_gives o last (Err fault) is (inl m) = inl m
last_gives o last (Err fault) is (inr s) = inr (λ i. unless (s i) last)

short : (n most : ℕ) → n ≤ most → nat_le n most ≡ true
short n most h = grind (arith, nat_tests)

-- a file whose keys may all be so, and what doesn't fit together
pub read_whole : (bytes : List ℕ) (file : Members) (d : Draft) (fault : PolicyFault) → length bytes ≤ 1048576
    → document_of bytes ≡ Some file → unlisted_in file ≡ None → missing_in file ≡ None → draft_of file ≡ Ok d
    → (fault ≡ Memory) ⊎ (fits (policy_of d) ≡ Err fault) → (fault ≡ Memory) ⊎ (policy_in_bytes bytes ≡ Err fault)
read_whole bytes file d fault le doc u m k (inl wanted) = inl wanted
read_whole bytes file d fault le doc u m k (inr s) =
    inr ((λ i. if short (length bytes) 1048576 le i then policy_of_document (doc i) else Err Long)
    ∙ (pass (unlisted_in file) (unless (missing_in file) (then_do (draft_of file) whole)) u
    ∙ (pass (missing_in file) (then_do (draft_of file) whole) m
    ∙ (step (draft_of file) d whole k ∙ (λ i. then_do (s i) (λ _. Ok (policy_of d)))))))
