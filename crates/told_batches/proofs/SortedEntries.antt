-- A stable sort by key puts entries by key, as it puts rows.
use Rattle.std.proofs.Common.{◌≡◌, ◌∙◌, ◌+◌, Bool, true, false, List, [], ◌∷◌, ap, arith, filter, length}
use Rattle.std.proofs.Common.{map, refl, sym}
use Rattle.std.specs.Prelude.{if◌then◌else◌}
use Rattle.std.specs.Cmp.{IsStrictWeakOrder}
use Rattle.std.specs.List.Sorted.{IsSortedBy, IsStableBy, ties}
use Rattle.std.specs.Ordering.{is_le, is_lt}
use Rattle.std.proofs.lemmas.List.{get_or-map, length-map}
use Rattle.std.proofs.lemmas.List.Sorted.{ranks_by}
use Rattle.install_plan.specs.Tables.{entry_of}
use Rattle.install_plan.specs.declared.written.Written.{Written}
use Rattle.shared_rows.specs.Rows.{by_key as rows_by_key, put_by_key as put_row}
use Rattle.shared_rows.proofs.Sorting.{is_lower, stable_sorted}
use Rattle.switch_meaning.specs.Batches.{by_key, key_cmp, put_by_key}
use Rattle.switch_meaning.specs.declared.entry.PhysEntry.{PhysEntry}
use Rattle.switch_meaning.proofs.ByKey.{key_total}

-- the first comes before the second
abbrev pub comes_before : PhysEntry → PhysEntry → Bool
comes_before d e = is_lt (key_cmp d e)

pub weak_order : IsStrictWeakOrder comes_before
weak_order = ranks_by key_total (λ (e : PhysEntry). e)

-- rows by key have entries by key
put_entries : (w : Written) (ws : List Written) → map entry_of (put_row w ws) ≡ put_by_key w.entry (map entry_of ws)
put_entries w [] = refl
put_entries w (x ∷ xs) = by (is_le (key_cmp w.entry x.entry)) (put_entries w xs)
  where
    by : (b : Bool) → map entry_of (put_row w xs) ≡ put_by_key w.entry (map entry_of xs)
        → map entry_of (if b then w ∷ x ∷ xs else x ∷ put_row w xs)
        ≡ (if b then w.entry ∷ x.entry ∷ map entry_of xs else x.entry ∷ put_by_key w.entry (map entry_of xs))
    by true e = refl
    by false e = ap (λ es. x.entry ∷ es) e

entries_put : (ws : List Written) → map entry_of (rows_by_key ws) ≡ by_key (map entry_of ws)
entries_put [] = refl
entries_put (w ∷ ws) = put_entries w (rows_by_key ws) ∙ ap (put_by_key w.entry) (entries_put ws)

-- an entry as a row, whatever its cookie
abbrev row : PhysEntry → Written
row e = record { entry = e; cookie = 0 }

entries_of_rows : (es : List PhysEntry) → map entry_of (map row es) ≡ es
entries_of_rows [] = refl
entries_of_rows (e ∷ es) = ap (λ ds. e ∷ ds) (entries_of_rows es)

kept_rows : (p : Written → Bool) (es : List PhysEntry) → filter p (map row es) ≡ map row (filter (λ e. p (row e)) es)
kept_rows p [] = refl
kept_rows p (e ∷ es) = by (p (row e)) (kept_rows p es)
  where
    by : (b : Bool) → filter p (map row es) ≡ map row (filter (λ d. p (row d)) es)
        → (if b then row e ∷ filter p (map row es) else filter p (map row es))
        ≡ map row (if b then e ∷ filter (λ d. p (row d)) es else filter (λ d. p (row d)) es)
    by true same = ap (λ ws. row e ∷ ws) same
    by false same = same

rows_sorted : (es : List PhysEntry) → IsSortedBy comes_before es → IsSortedBy is_lower (map row es)
rows_sorted es up k d low lt =
    let long : length (map row es) ≡ length es = length-map es row in
    let first = get_or-map row es k d.entry d (omega arith) in
    let second = get_or-map row es (k + 1) d.entry d (omega arith) in
    (λ i. is_lower (second i) (first i)) ∙ up k d.entry (omega arith) (omega arith)

rows_stable : (es sorted : List PhysEntry) → IsStableBy comes_before es sorted
    → IsStableBy is_lower (map row es) (map row sorted)
rows_stable es sorted same t =
    kept_rows (ties is_lower t) sorted ∙ (ap (map row) (same t.entry) ∙ sym (kept_rows (ties is_lower t) es))

pub stable_entries : (es sorted : List PhysEntry) → IsSortedBy comes_before sorted → IsStableBy comes_before es sorted
    → sorted ≡ by_key es
stable_entries es sorted up same =
    let rows = stable_sorted (map row es) (map row sorted) (rows_sorted sorted up) (rows_stable es sorted same) in
    sym (entries_of_rows sorted)
    ∙ (ap (map entry_of) rows
    ∙ (entries_put (map row es) ∙ ap by_key (entries_of_rows es)))
