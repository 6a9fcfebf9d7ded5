-- Strangers: how many there may be, what they may say, and who goes for whom.
use Rattle.std.specs.Prelude.{◌≡◌, ℕ, ◌<◌, ◌≤◌, ◌==◌, ◌-◌, Bool, List, [], ◌∷◌, ◌++◌, Option, Some, None, All}
use Rattle.std.specs.Prelude.{count_by, length, nat_le, slice_get, slice_index_or}
use Rattle.std.specs.List.{IsFirstMaxByKey, remove}
use Rattle.switch_arrivals.specs.declared.strangers.Ousted.{Ousted}
use Rattle.switch_arrivals.specs.declared.strangers.Stranger.{Stranger}

module _ {C : Type 0} where
  -- at most 64, of whom none has said more than 131,072 bytes
  abbrev pub AreBounded : List (Stranger C) → Type 0
  AreBounded strangers = (length strangers ≤ 64) × All (λ (s : Stranger C). length s.said ≤ 131072) strangers

  -- how many are of a host
  abbrev pub crowd : List (Stranger C) → (host : ℕ) → ℕ
  crowd strangers host = count_by (λ (s : Stranger C). s.host == host) strangers

  -- as many are of the host of the stranger at a place
  abbrev pub IsCrowdOf : List (Stranger C) → (place size : ℕ) → Type 0
  IsCrowdOf strangers place size = (s : Stranger C) → size ≡ crowd strangers (slice_index_or strangers place s).host

  -- among the first so many, it is the place of the first of those whose host has most
  abbrev pub IsCrowdingAmong : List (Stranger C) → (many place : ℕ) → Type 0
  IsCrowdingAmong strangers many place =
      IsFirstMaxByKey (λ (s : Stranger C). crowd strangers s.host) strangers many place

  -- it is the place of the oldest of the host that has most, where the oldest stands first
  abbrev pub IsCrowding : List (Stranger C) → ℕ → Type 0
  IsCrowding strangers place = IsCrowdingAmong strangers (length strangers) place

  -- it has waited so long, in milliseconds
  abbrev pub is_late : (now patience : ℕ) → Stranger C → Bool
  is_late now patience s = nat_le patience (now - s.since)

  -- it has said so much more
  abbrev pub with_said : List ℕ → Stranger C → Stranger C
  with_said bytes s = record s { said = s.said ++ bytes }

  -- it was told so much in all
  abbrev pub with_told : ℕ → Stranger C → Stranger C
  with_told told s = record s { told = told }

  -- a newcomer stands behind the others; where there were 64, the oldest of the host that had most went
  abbrev pub IsAdmitted : (before after : List (Stranger C)) → Stranger C → Option (Ousted C) → Type 0
  IsAdmitted before after newcomer None = (length before < 64) × (after ≡ before ++ newcomer ∷ [])
  IsAdmitted before after newcomer (Some out) = (length before ≡ 64)
      × IsCrowding before out.place
      × (slice_get before out.place ≡ Some out.stranger)
      × (after ≡ remove before out.place ++ newcomer ∷ [])
