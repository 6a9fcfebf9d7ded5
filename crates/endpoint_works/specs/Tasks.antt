-- What a work has become.
use Rattle.std.specs.Prelude.{◌≡◌, ℕ, Bool, true, false, List, [], IfSome, Option, Result, Ok, Err}
use Rattle.outside.specs.Connections.{Connection}
use Rattle.cv_io.specs.declared.leaf.Session.{Session}
use Rattle.cv_io.specs.declared.memory.Memory.{Memory}
use Rattle.sessions.specs.declared.desk.Post.{Post}
use Rattle.endpoint_works.specs.Audits.{AuditPosts, HasAudited, IsAuditEnd}
use Rattle.endpoint_works.specs.Chains.{AreRounds}
use Rattle.endpoint_works.specs.declared.audit.AuditEnd.{AuditEnd}
use Rattle.endpoint_works.specs.declared.receiving.Received.{Received}
use Rattle.endpoint_works.specs.declared.side.Side.{Side}

module _ {P : Type 0} (posts : P → List Post) (ended : P → Session → ℕ → Type 0) (later : P → P → Type 0) where
  -- a work that takes connections has come to an end: what it posted, of each that its dial gave, and that these were
  -- all,
  -- unless the dial failed
  pub record HasReceived (side : Side) (is_reliable : Bool) (links left : Option (List Connection)) (v w : P)
      (end : Received) : Type 0 where
    pub passes : List P
    pub rounds : AreRounds posts ended later side end.wanted links left v w passes
    pub all : end.failed ≡ false → IfSome left (λ links. links ≡ [])
    pub dials : is_reliable ≡ true → end.failed ≡ false

-- the audit's work has come to an end: what it posted and wrote, to a sink whose faults were so many
abbrev pub HasWrittenAudit : (posts : List Post) (held written : Option (List ℕ)) (faults risen : ℕ) (now : List Post)
    → Result AuditEnd Memory → Type 0
HasWrittenAudit posts held written faults risen now (Ok end) =
    AuditPosts posts held written now end × IsAuditEnd faults risen end
HasWrittenAudit posts held written faults risen now (Err m) = HasAudited posts held written now × (risen ≡ faults)
