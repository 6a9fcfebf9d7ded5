use Rattle.std.proofs.Common.{◌≡◌, ◌∙◌, ◌++◌, ◌∷◌, [], List, None, sym, ap, ap₂}
use Rattle.std.specs.Map.{lookup}
use Rattle.indexmap.proofs.CallerLemmas.{insert_entry-new}
use Rattle.exact_gate.specs.InsideBuckets.{BucketOf}
use Rattle.exact_gate.specs.Standing.{one_key}
use Rattle.exact_gate.specs.declared.key.Key.{Key}
use Rattle.exact_gate.proofs.Bucketed.{no_item, not_before, taken_more}
use Rattle.exact_gate.proofs.buckets.copy_at.Goals as goal

pub returns-in_ok-insert-in-Some : goal.returns-in_ok-insert-in-Some
returns-in_ok-insert-in-Some c =
    let bs = c.args.buckets.now.entries in
    let i = c.args.place in
    let k = c.in-Some.pair.0.now in
    let b = c.in-Some.pair.1.now in
    let none : lookup (one_key k) c.args.copied.now.entries ≡ None =
    ap (λ (cs : List (Key × BucketOf)). lookup (one_key k) cs) c.requires.so_far
    ∙ not_before bs i (k, b) c.requires.once (sym c.in-Some.ensures.entry) in
    c.in_ok-insert-in-Some.ensures.entries
    ∙ (insert_entry-new one_key c.args.copied.now k c.in_ok-copy-in-Some.field-0 none
    ∙ (ap₂ (λ (cs : List (Key × BucketOf)) (x : BucketOf). cs ++ (k, x) ∷ []) c.requires.so_far
    c.in_ok-copy-in-Some.ensures ∙ sym (taken_more bs i (k, b) (sym c.in-Some.ensures.entry))))

pub returns-in-None : goal.returns-in-None
returns-in-None c =
    absurd (no_item c.args.buckets.now.entries c.args.place c.requires.within (sym c.in-None.ensures.entry))
