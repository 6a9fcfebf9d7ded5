-- Numbers that the counts take over, and take back.
use Rattle.std.proofs.Common.{◌≡◌, ◌∙◌, ℕ, true, false, Option, Some, None, refl, sym, ap, true≢false}
use Rattle.std.specs.BTreeMap.{is_at}
use Rattle.std.specs.Prelude.{is_some, option_map}
use Rattle.stats_map.specs.Counting.{CountsOf, Place, cookie_at, place_cmp, renumbered, reported, reported_on}
use Rattle.stats_map.specs.Counting.{with_numbers}
use Rattle.stats_map.specs.Pending.{ended_if, ended_now}
use Rattle.stats_map.proofs.Reporting.{found-written, told-back}
use Rattle.switch_meaning.specs.Counts.{Cookie, Numbers}

-- the numbers of a cookie, as they are read
abbrev pub numbers_of : Cookie → ℕ × ℕ
numbers_of c = (c.numbers.packets, c.numbers.bytes)

module _ (place : Place) (numbers : Numbers) (s : CountsOf) where
  -- numbers of a cookie that doesn't matter change nothing
  pub unknown : cookie_at place s ≡ None → reported place numbers false s ≡ s
  unknown none = ap (λ o. reported_on o place numbers false s) none

  module _ (c : Cookie) (there : cookie_at place s ≡ Some c) where
    -- those of one that does are in its place
    told_once : reported place numbers false s ≡ renumbered place (with_numbers numbers c) s
    told_once = ap (λ o. reported_on o place numbers false s) there

    found : cookie_at place (renumbered place (with_numbers numbers c) s) ≡ Some (with_numbers numbers c)
    found = found-written (is_at (place_cmp place)) (with_numbers numbers c) s.live (ap is_some there)

  -- the numbers that were read before are told again
  pub taken_back : (read : ℕ × ℕ) → Some read ≡ option_map numbers_of (cookie_at place s)
      → reported place (record { packets = read.0; bytes = read.1 }) false (reported place numbers false s) ≡ s
  taken_back read h = by (cookie_at place s) refl h
    where
      by : (o : Option Cookie) → cookie_at place s ≡ o → Some read ≡ option_map numbers_of o
          → reported place (record { packets = read.0; bytes = read.1 }) false (reported place numbers false s) ≡ s
      by None there none = absurd (true≢false (ap is_some none))
      by (Some c) there some =
          let same : read ≡ numbers_of c = cc in
          let after = reported place numbers false s in
          ap (λ (r : ℕ × ℕ). reported place (record { packets = r.0; bytes = r.1 }) false after) same
          ∙ told-back place c numbers s there

  -- a last report of numbers that were told ends the cookie as it is
  pub last_once : reported place numbers true (reported place numbers false s)
      ≡ ended_now place (reported place numbers false s)
  last_once = by (cookie_at place s) refl
    where
      by : (o : Option Cookie) → cookie_at place s ≡ o
          → reported place numbers true (reported place numbers false s)
          ≡ ended_now place (reported place numbers false s)
      by None there =
          let same = unknown there in
          ap (reported place numbers true) same
          ∙ (ap (λ o. reported_on o place numbers true s) there
          ∙ (sym (ap (λ o. ended_if o place s) there) ∙ sym (ap (ended_now place) same)))
      by (Some c) there =
          let after = renumbered place (with_numbers numbers c) s in
          let once = told_once c there in
          ap (reported place numbers true) once
          ∙ (ap (λ o. reported_on o place numbers true after) (found c there)
          ∙ (sym (ap (λ o. ended_if o place after) (found c there)) ∙ sym (ap (ended_now place) once)))
