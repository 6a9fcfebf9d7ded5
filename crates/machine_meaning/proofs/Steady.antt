-- What holds of leaves, cookies and counts stays so until switches are composed.
use Rattle.std.proofs.Common.{◌≡◌, ℕ, Bool, nat_lt, refl, subst, sym, ◌^◌, ◌<◌}
use Rattle.stats_map.specs.Counting.{CountsOf}
use Rattle.machine_meaning.specs.Counted.{leaf_at}
use Rattle.machine_meaning.proofs.CountEffects.{IsKeptLeaf, down_leaf, last_leaf}
use Rattle.machine_meaning.proofs.KeptCookies.{AreKeptCookies, begun_cookies, ended_cookies, known_cookies}
use Rattle.machine_meaning.proofs.KeptCookies.{removed_cookies}
use Rattle.machine_meaning.proofs.KeptLeaves.{AreKeptLeaves, leaves, leaves_expired, leaves_moved, leaves_unseen}
use Rattle.machine_meaning.proofs.Views.{IsStable, View}

-- an entry mattered as the event began
abbrev pub mattered : View → ℕ → ℕ → Bool
mattered v n k = nat_lt 0 (leaves v.members v.owed n k)

-- what is kept of counts
abbrev pub AreKeptCounts : View → CountsOf → Type 0
AreKeptCounts start counts = (n k : ℕ) → IsKeptLeaf (leaf_at n k) (mattered start n k) start.counts counts

pub record IsSteady (start v : View) : Type 0 where
  pub next : v.next ≡ start.next
  pub leaves : AreKeptLeaves start v
  pub cookies : AreKeptCookies v.standing v.switches v.counts v.next
  pub counts : AreKeptCounts start v.counts

-- other members and what is owed are as they were
pub same_leaves : (start v w : View) → w.members ≡ v.members → w.owed ≡ v.owed → AreKeptLeaves start v
    → AreKeptLeaves start w
same_leaves start v w members owed h = record {
  next = λ n. rw members (h.next n);
  once = λ n k. rw (members, owed) (h.once n k);
  given = λ n k. rw (members, owed) (h.given n k);
  old = λ n k. rw (members, owed) (h.old n k);
}

pub steady : (start : View) → IsStable (IsSteady start)
steady start = record {
  member = λ n f same v h. record {
    next = h.next;
    leaves = leaves_unseen start v n f same h.leaves;
    cookies = h.cookies;
    counts = h.counts;
  };
  ended = λ n v h. record {
    next = h.next;
    leaves = same_leaves start v _ refl refl h.leaves;
    cookies = ended_cookies v.standing v.switches v.counts v.next h.cookies n;
    counts = λ m k. down_leaf (leaf_at m k) (mattered start m k) start.counts n v.counts (h.counts m k);
  };
  begun = λ n v down h. record {
    next = h.next;
    leaves = same_leaves start v _ refl refl h.leaves;
    cookies = begun_cookies v.standing v.switches v.counts v.next h.cookies n down;
    counts = h.counts;
  };
  known = λ n f same v x at up h. record {
    next = h.next;
    leaves = same_leaves start v _ refl refl h.leaves;
    cookies =
        let s = same x.known in
        known_cookies v.standing v.switches v.counts v.next h.cookies n f x at up
        (subst (λ (xid : ℕ). xid < 2 ^ 32) (sym s.xid) (h.cookies.sides n x at).xid) s.first s.deleted;
    counts = h.counts;
  };
  removed = λ n cookie numbers v x at up taken h. record {
    next = h.next;
    leaves = same_leaves start v _ refl refl h.leaves;
    cookies = removed_cookies v.standing v.switches v.counts v.next h.cookies n cookie numbers x at up taken;
    counts = λ m k. last_leaf (leaf_at m k) (mattered start m k) start.counts (n, cookie) numbers v.counts
        (h.counts m k);
  };
  moved = λ n reason now f gone v x at move h. record {
    next = h.next;
    leaves = leaves_moved start v n reason now f gone x at move h.leaves;
    cookies = h.cookies;
    counts = h.counts;
  };
  expired = λ now v h. record {
    next = h.next;
    leaves = leaves_expired start v now h.leaves;
    cookies = h.cookies;
    counts = h.counts;
  };
}
