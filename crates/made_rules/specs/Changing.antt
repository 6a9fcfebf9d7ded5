-- A change of a node's rules that is made ready: what comes is there, and what goes is there still.
use Rattle.std.specs.Prelude.{◌≡◌, ℕ, Bool, List, [], ◌∷◌, ◌++◌, Contains, IsPermutation, if◌then◌else◌, map}
use Rattle.std.specs.List.Sorted.{IsStrictlySortedBy}
use Rattle.std.specs.Ordering.{nat_cmp}
use Rattle.rule_ancestry.specs.Holding.{Held, id_of, item_of}
use Rattle.made_rules.specs.declared.made.Made.{Made}
use Rattle.made_rules.specs.Parting.{AreApart, was_of as old_of, is_of as new_of}
use Rattle.made_rules.specs.Rules.{rule_held, rules_in}
use Rattle.made_rules.specs.declared.parting.Both.{Both}
use Rattle.made_rules.specs.declared.stay.Stay.{Stay}

-- a change as contracts see it: the ids that go, those that come, and the rules that stay with other origins
pub record ChangeOf : Type 0 where
  pub gone : List ℕ
  pub come : List ℕ
  pub stays : List Stay

-- a rule that stays: as it was, as it will be, and until then made of both
abbrev pub was_of : Stay → Held Made
was_of s = record { id = s.id; item = record { rule = s.rule; origins = s.was } }

abbrev pub is_of : Stay → Held Made
is_of s = record { id = s.id; item = record { rule = s.rule; origins = s.is } }

abbrev pub wide_of : Stay → Held Made
wide_of s = record { id = s.id; item = record { rule = s.rule; origins = s.was ++ s.is } }

-- one of the two
abbrev pub side_of : Bool → Stay → Held Made
side_of back s = if back then was_of s else is_of s

-- the rules that stay are held, made of both
abbrev pub AreWide : List (Held Made) → List Stay → Type 0
AreWide held stays = (rest : List (Held Made)) × IsPermutation held (rest ++ map wide_of stays)

-- From the rules before, whose ids rise, without the ids that are lost and with those that are made: nothing is lost
-- but what
-- goes, what stays keeps its id, and no rule both goes and comes.
pub record IsReady (before now : List (Held Made)) (lost : List ℕ) (made : List Made) (change : ChangeOf) : Type 0 where
  pub kept : List (Held Made)
  pub going : List (Held Made)
  pub coming : List (Held Made)
  pub rises : IsStrictlySortedBy nat_cmp (map id_of before)
  pub was : IsPermutation before ((kept ++ going) ++ map was_of change.stays)
  pub is : IsPermutation now (((kept ++ coming) ++ going) ++ map wide_of change.stays)
  pub gone : map id_of going ≡ change.gone
  pub come : map id_of coming ≡ change.come
  pub lost_are : IsPermutation lost (map id_of (going ++ map was_of change.stays))
  pub made_are : IsPermutation made (map item_of (coming ++ map is_of change.stays))
  pub apart : (g c : Held Made) → Contains going g → Contains coming c → g.item.rule ≡ c.item.rule → ⊥

-- the rules once a change is settled
abbrev pub settled : {before now : List (Held Made)} {lost : List ℕ} {made : List Made} {change : ChangeOf}
    → IsReady before now lost made change → List (Held Made)
settled {change = change} r = (r.kept ++ r.coming) ++ map is_of change.stays

-- these ids are of items that are held, each of another
pub record AreHeld (ids : List ℕ) (held : List (Held Made)) : Type 0 where
  pub items : List (Held Made)
  pub rest : List (Held Made)
  pub ids_are : map id_of items ≡ ids
  pub all : IsPermutation held (items ++ rest)

-- a rule that is made anew is held under its id
pub record IsOld (held : List (Held Made)) (both : Both) : Type 0 where
  pub rest : List (Held Made)
  pub was : Held Made
  pub same : rule_held was ≡ old_of both
  pub all : IsPermutation held (rest ++ was ∷ [])

-- so are some
pub record AreOld (held : List (Held Made)) (both : List Both) : Type 0 where
  pub rest : List (Held Made)
  pub was : List (Held Made)
  pub same : rules_in was ≡ map old_of both
  pub all : IsPermutation held (rest ++ was)

-- a rule as it is made anew, under its id
abbrev pub anew : Both → Held Made
anew b = record { id = b.id; item = b.made }

-- it is held, made of both sides
pub record IsWidened (rest : List (Held Made)) (was : Held Made) (both : Both) (held : List (Held Made))
    (stay : Stay) : Type 0 where
  pub as_was : was_of stay ≡ was
  pub as_is : is_of stay ≡ anew both
  pub all : IsPermutation held (rest ++ wide_of stay ∷ [])

-- it is noted
pub record NotesOne (rest : List (Held Made)) (was : Held Made) (both : Both) (held : List (Held Made))
    (stays stays' : List Stay) : Type 0 where
  pub stay : Stay
  pub widened : IsWidened rest was both held stay
  pub noted : stays' ≡ stays ++ stay ∷ []

-- so are some
pub record AreWidened (rest was : List (Held Made)) (both : List Both) (held : List (Held Made))
    (stays : List Stay) : Type 0 where
  pub as_was : map was_of stays ≡ was
  pub as_is : map is_of stays ≡ map anew both
  pub all : IsPermutation held (rest ++ map wide_of stays)

-- the rules that are held, told apart: what goes and what stays of those that are lost, what comes of those that are
-- made
pub record IsPlan (held : List (Held Made)) (lost : List ℕ) (made : List Made) (gone : List ℕ) (come : List Made)
    (both : List Both) : Type 0 where
  pub kept : List (Held Made)
  pub going : List (Held Made)
  pub staying : List (Held Made)
  pub all : IsPermutation held ((kept ++ going) ++ staying)
  pub gone_are : map id_of going ≡ gone
  pub both_are : rules_in staying ≡ map old_of both
  pub lost_are : IsPermutation lost (map id_of (going ++ staying))
  pub made_are : IsPermutation made (come ++ map new_of both)
  pub apart : AreApart (rules_in going) come
