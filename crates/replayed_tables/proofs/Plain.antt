-- Lines of a report that are no messages: they have no line feeds, and none begins with `to`.
use Rattle.std.proofs.Common.{◌≡◌, ◌∙◌, ℕ, zero, suc, ◌+◌, ◌-◌, ◌<◌, ◌/◌, ◌%◌, ◌==◌, ◌&&◌, Bool, true, false, not}
use Rattle.std.proofs.Common.{nat_lt}
use Rattle.std.proofs.Common.{List, [], ◌∷◌, ◌++◌, Option, Some, None, if◌then◌else◌, map, option_map, arith, refl, ap}
use Rattle.std.proofs.Common.{subst}
use Rattle.std.proofs.lemmas.Bool.{ne_eqb}
use Rattle.std.specs.Fmt.{digit_glyph, digits, digits_onto}
use Rattle.std.specs.Prelude.{IfSome, codes, decimal, length, slice_get}
use Rattle.std.specs.List.{AllByRecursion}
use Rattle.std.specs.Option.{option_map_or}
use Rattle.events.specs.declared.event.PolicyRefusal.{PolicyRefusal}
use Rattle.events.specs.declared.event.PolicyRefusal.TheVariants.{Expr, TooWide}
use Rattle.explain_text.specs.Lines.{controller_name, finding_text, kind_text, used_text}
use Rattle.explain_text.specs.declared.finding.Finding.{Finding}
use Rattle.explain_text.specs.declared.finding.Finding.TheVariants as findings
use Rattle.grants.specs.Names.{field_at}
use Rattle.grants.specs.declared.denial.Denial.{Denial}
use Rattle.grants.specs.declared.denial.Detail.{Detail}
use Rattle.grants.specs.declared.denial.Detail.TheVariants as details
use Rattle.grants.specs.declared.denial.Rule2.{Rule2}
use Rattle.grants.specs.declared.denial.Rule2.TheVariants as rules
use Rattle.grants.specs.declared.denial.Why.{Why}
use Rattle.grants.specs.declared.denial.Why.TheVariants as reasons
use Rattle.grants.specs.declared.field.Field.{Field}
use Rattle.grants.specs.declared.field.Field.TheVariants as fields
use Rattle.hex.specs.Hex.{encode_lower}
use Rattle.member_replies.specs.Audit.{session_name}
use Rattle.member_replies.specs.Refusals.{deny_line, detail_text, name_of, reason_text, rule_text}
use Rattle.policy_expr.specs.declared.fault.ExprFault.TheVariants as expr
use Rattle.policies.specs.Policies.{PolicyOf}
use Rattle.policies.specs.Sound.{IsSound, IsSoundMember, IsSoundVirtual}
use Rattle.policies.specs.declared.policy.MemberItem.{MemberItem}
use Rattle.policy_meaning.proofs.Booleans.{some_injective}
use Rattle.pkt_bytes.specs.Rewritten.{rewritten}
use Rattle.report_lines.specs.Lines.{is_line, is_word}
use Rattle.report_lines.specs.ReadBack.{IsPlain, Other}
use Rattle.report_lines.proofs.Digits.{hex_line}
use Rattle.report_lines.proofs.ReadingBack.{both_lines, word_line}
use Rattle.script_text.specs.Lines.{cause_text, outcome_text}
use Rattle.script_text.specs.declared.audit.DownCause.{DownCause}
use Rattle.script_text.specs.declared.audit.DownCause.TheVariants as causes
use Rattle.virtual_topology.specs.declared.plan.VirtualItem.{VirtualItem}
use Rattle.machine_meaning.specs.Names.{switch_name, virtual_name}
use Rattle.machine_meaning.specs.Replacing.{refusal_kind}
use Rattle.written_tables.specs.AuditLines.{IsAuditLine, is_denied, is_down, is_noted, is_replaced, is_slow}
use Rattle.written_tables.proofs.Reported.{name_word, names_are_words}

abbrev pub IsLineOf : List ℕ → Type 0
IsLineOf text = is_line text ≡ true

-- numbers in digits
glyph_line : (d : ℕ) → (digit_glyph false d == 10) ≡ false
glyph_line d = by (nat_lt d 10)
  where
    by : (b : Bool) → ((if b then 48 + d else 87 + d) == 10) ≡ false
    by true = ne_eqb (48 + d) 10 (λ e. omega (arith, e))
    by false = ne_eqb (87 + d) 10 (λ e. omega (arith, e))

digits_line : (k n : ℕ) (acc : List ℕ) → IsLineOf acc → IsLineOf (digits_onto k 10 false n acc)
digits_line zero n acc h = h
digits_line (suc k) n acc h = by (n / 10 == 0) (digits_line k (n / 10) (digit_glyph false (n % 10) ∷ acc) more)
  where
    more : IsLineOf (digit_glyph false (n % 10) ∷ acc)
    more = ap (λ b. not b && is_line acc) (glyph_line (n % 10)) ∙ h

    by : (b : Bool) → IsLineOf (digits_onto k 10 false (n / 10) (digit_glyph false (n % 10) ∷ acc))
        → IsLineOf (if b then digit_glyph false (n % 10) ∷ acc
        else digits_onto k 10 false (n / 10) (digit_glyph false (n % 10) ∷ acc))
    by true later = more
    by false later = later

pub decimal_line : (n : ℕ) → IsLineOf (decimal n)
unfolding digits
decimal_line n = digits_line 64 n [] refl

-- words before and behind
with_word : (word text : List ℕ) → IsLineOf word → IsLineOf text → IsLineOf (word ++ text)
with_word word text h k = both_lines word text h k

numbered : (word : List ℕ) (n : ℕ) → IsLineOf word → IsLineOf (word ++ decimal n)
numbered word n h = with_word word (decimal n) h (decimal_line n)

-- denials -----------------------------------------------------------------------------------------------------------

rule_line : (r : Rule2) → IsLineOf (rule_text r)
rule_line rules.Form = refl
rule_line rules.G1 = refl
rule_line rules.G2 = refl
rule_line rules.G3 = refl
rule_line rules.G4 = refl
rule_line rules.G5 = refl
rule_line rules.G6 = refl
rule_line rules.G7 = refl
rule_line rules.G8 = refl
rule_line rules.G9 = refl
rule_line rules.G10 = refl
rule_line rules.G11 = refl
rule_line rules.Overlap = refl
rule_line rules.Entries = refl
rule_line rules.Budget = refl

reason_line : (w : Why) → IsLineOf (reason_text w)
reason_line reasons.Grant = refl
reason_line reasons.Port = refl
reason_line reasons.Region = refl

name_line : (o : Option Field) → IsLineOf (name_of o)
name_line None = refl
name_line (Some fields.InPort) = refl
name_line (Some fields.DlSrc) = refl
name_line (Some fields.DlDst) = refl
name_line (Some fields.DlVlan) = refl
name_line (Some fields.DlVlanPcp) = refl
name_line (Some fields.DlType) = refl
name_line (Some fields.NwTos) = refl
name_line (Some fields.NwProto) = refl
name_line (Some fields.NwSrc) = refl
name_line (Some fields.NwDst) = refl
name_line (Some fields.TpSrc) = refl
name_line (Some fields.TpDst) = refl

two_numbers : (word middle : List ℕ) (n k : ℕ) → IsLineOf word → IsLineOf middle
    → IsLineOf (word ++ (decimal n ++ (middle ++ decimal k)))
two_numbers word middle n k h m =
    with_word word (decimal n ++ (middle ++ decimal k)) h
    (with_word (decimal n) (middle ++ decimal k) (decimal_line n) (numbered middle k m))

detail_line : (d : Detail) → IsLineOf (detail_text d)
detail_line (details.Form kind code) = two_numbers (codes "error=") (codes ",") kind code refl refl
detail_line (details.G1 command) = numbered (codes "command=") command refl
detail_line details.G2Emerg = refl
detail_line (details.G2Kind kind) = numbered (codes "type=") kind refl
detail_line (details.G3 buffer) = numbered (codes "buffer=") buffer refl
detail_line (details.G4 field) = with_word (codes "field=") (name_of (field_at field)) refl (name_line (field_at field))
detail_line details.G5 = refl
detail_line (details.G6 port) = numbered (codes "port=") port refl
detail_line (details.G7 action) = numbered (codes "action=") action refl
detail_line (details.G8 port) = numbered (codes "port=") port refl
detail_line (details.G9 at) = numbered (codes "at=") at refl
detail_line (details.G10 count) = numbered (codes "count=") count refl
detail_line (details.G11 why) = with_word (codes "why=") (reason_text why) refl (reason_line why)
detail_line (details.Overlap serial) = numbered (codes "with=") serial refl
detail_line (details.Entries limit) = numbered (codes "limit=") limit refl
detail_line (details.Budget ranks limit) = two_numbers (codes "ranks=") (codes " limit=") ranks limit refl refl

cause_line : (c : DownCause) → IsLineOf (cause_text c)
cause_line causes.Gone = refl
cause_line causes.Again = refl
cause_line causes.Slow = refl
cause_line causes.Error = refl
cause_line causes.Form = refl
cause_line causes.Removal = refl

refusal_line : (r : PolicyRefusal) → IsLineOf (refusal_kind r)
refusal_line (Expr (expr.Syntax at)) = refl
refusal_line (Expr (expr.Unknown name)) = refl
refusal_line (Expr (expr.Twice name)) = refl
refusal_line (Expr (expr.Unused name)) = refl
refusal_line (Expr (expr.TooMany leaves)) = refl
refusal_line (Expr (expr.ParallelLeft name)) = refl
refusal_line (Expr expr.Memory) = refl
refusal_line (TooWide needed limit) = refl

outcome_line : (o : Option PolicyRefusal) → IsLineOf (outcome_text (option_map refusal_kind o))
outcome_line None = refl
outcome_line (Some r) = with_word (codes " refused=") (refusal_kind r) refl (refusal_line r)

kind_line : (kind : ℕ) → IsLineOf (kind_text kind)
kind_line kind = by (kind == 0) (kind == 1)
  where
    by : (a b : Bool) → IsLineOf (if a then codes "outside"
        else (if b then codes "miss" else codes "entry serial=" ++ decimal (kind - 2)))
    by true b = refl
    by false true = refl
    by false false = numbered (codes "entry serial=") (kind - 2) refl

used_line : (used : Bool) → IsLineOf (codes " used=" ++ used_text used)
used_line true = refl
used_line false = refl

-- lines of the audit ------------------------------------------------------------------------------------------------

-- a place that is there
there_is : (xs : List VirtualItem) (n : ℕ) → n < length xs → slice_get xs n ≡ None → ⊥
there_is [] n lt e = omega (arith, lt)
there_is (x ∷ xs) zero lt e = cc e
there_is (x ∷ xs) (suc n) lt e = there_is xs n (omega (arith, lt)) e

module _ (p : PolicyOf) (policy : IsSound p) where
  switch_line : (n : ℕ) → IsLineOf (switch_name p n)
  switch_line n = word_line (switch_name p n) (names_are_words p policy n)

  virtual_word : (xs : List VirtualItem) → AllByRecursion IsSoundVirtual xs → (i : ℕ)
      → is_word (option_map_or (λ (x : VirtualItem). x.name) (slice_get xs i) []) ≡ true
  virtual_word [] h i = refl
  virtual_word (x ∷ xs) h zero = name_word x.name h.0.name
  virtual_word (x ∷ xs) h (suc i) = virtual_word xs h.1 i

  virtual_line : (v : ℕ) → IsLineOf (virtual_name p v)
  virtual_line v = word_line (virtual_name p v) (virtual_word p.virtuals policy.limits.virtuals v)

  member_at : (ms : List MemberItem) → AllByRecursion (IsSoundMember p.virtuals) ms → (n : ℕ) (m : MemberItem)
      → slice_get ms n ≡ Some m → IsSoundMember p.virtuals m
  member_at [] h n m at = absurd (cc at)
  member_at (x ∷ ms) h zero m at = subst (IsSoundMember p.virtuals) (some_injective at) h.0
  member_at (x ∷ ms) h (suc n) m at = member_at ms h.1 n m at

  pub controller_word : (m : MemberItem) → IsSoundMember p.virtuals m → is_word m.controller ≡ true
  controller_word m h = name_word m.controller h.controller

  -- the name of a member's virtual switch
  pub vsw_word : (m : MemberItem) → IsSoundMember p.virtuals m → is_word m.vsw ≡ true
  vsw_word m h = by (slice_get p.virtuals m.grant.ports.v) refl h.stands
    where
      by : (o : Option VirtualItem) → slice_get p.virtuals m.grant.ports.v ≡ o
          → IfSome o (λ (v : VirtualItem). v.name ≡ m.vsw) → is_word m.vsw ≡ true
      by None at e = absurd (there_is p.virtuals m.grant.ports.v h.there at)
      by (Some v) at e =
          subst (λ (name : List ℕ). is_word name ≡ true) e
          (subst (λ (o : Option VirtualItem). is_word (option_map_or (λ (x : VirtualItem). x.name) o []) ≡ true) at
          (virtual_word p.virtuals policy.limits.virtuals m.grant.ports.v))

  -- controller and virtual switch, with words about them
  session_line : (m : MemberItem) → IsSoundMember p.virtuals m → IsLineOf (session_name m.controller m.vsw)
  session_line m h =
      with_word m.controller (codes "@" ++ m.vsw) (word_line m.controller (controller_word m h))
      (with_word (codes "@") m.vsw refl (word_line m.vsw (vsw_word m h)))

  denied_line : (m : MemberItem) → IsSoundMember p.virtuals m → (xid : ℕ) (d : Denial)
      → IsLineOf (deny_line m.controller m.vsw xid d)
  denied_line m h xid d =
      let end = codes " " ++ detail_text d.detail in
      let rule = rule_text d.rule ++ end in
      let ruled = codes " rule=" ++ rule in
      let number = decimal xid ++ ruled in
      let xided = codes " xid=" ++ number in
      let vsw = m.vsw ++ xided in
      let vswed = codes " vsw=" ++ vsw in
      with_word (codes "deny ctl=") (m.controller ++ vswed) refl
      (with_word m.controller vswed (word_line m.controller (controller_word m h))
      (with_word (codes " vsw=") vsw refl
      (with_word m.vsw xided (word_line m.vsw (vsw_word m h))
      (with_word (codes " xid=") number refl
      (with_word (decimal xid) ruled (decimal_line xid)
      (with_word (codes " rule=") rule refl
      (with_word (rule_text d.rule) end (rule_line d.rule)
      (with_word (codes " ") (detail_text d.detail) refl (detail_line d.detail)))))))))

  pub line_plain : {line : List ℕ} → IsAuditLine p line → IsPlain (Other line)
  line_plain (is_denied n m at xid d) =
      (denied_line m (member_at p.members policy.limits.members n m at) xid d, refl)
  line_plain (is_replaced v r) = (
    with_word (codes "policy vsw=") (virtual_name p v ++ outcome_text (option_map refusal_kind r)) refl
        (with_word (virtual_name p v) (outcome_text (option_map refusal_kind r)) (virtual_line v) (outcome_line r)),
    refl,
  )
  line_plain (is_down n cause) = (
    with_word (codes "down ") (switch_name p n ++ (codes " why=" ++ cause_text cause)) refl
        (with_word (switch_name p n) (codes " why=" ++ cause_text cause) (switch_line n)
        (with_word (codes " why=") (cause_text cause) refl (cause_line cause))),
    refl,
  )
  line_plain (is_slow n m at) = (
    with_word (codes "slow ") (session_name m.controller m.vsw) refl
        (session_line m (member_at p.members policy.limits.members n m at)),
    refl,
  )
  line_plain (is_noted n) = (
    with_word (codes "note ") (switch_name p n ++ codes " noarp") refl
        (with_word (switch_name p n) (codes " noarp") (switch_line n) refl),
    refl,
  )

  pub lines_plain : (lines : List (List ℕ)) → AllByRecursion (IsAuditLine p) lines
      → AllByRecursion IsPlain (map Other lines)
  lines_plain [] h = tt
  lines_plain (line ∷ lines) h = (line_plain h.0, lines_plain lines h.1)

  -- lines of answers
  member_line : (n : ℕ) → IsLineOf (controller_name p n)
  member_line n = by (slice_get p.members n) refl
    where
      by : (o : Option MemberItem) → slice_get p.members n ≡ o
          → IsLineOf (option_map_or (λ (m : MemberItem). m.controller) o [])
      by None at = refl
      by (Some m) at =
          word_line m.controller (controller_word m (member_at p.members policy.limits.members n m at))

  finding_line : (bytes : List ℕ) (f : Finding) → IsLineOf (finding_text p bytes f)
  finding_line bytes (findings.Hop v port) =
      with_word (codes "hop vsw=") (virtual_name p v ++ (codes " port=" ++ decimal port)) refl
      (with_word (virtual_name p v) (codes " port=" ++ decimal port) (virtual_line v)
      (numbered (codes " port=") port refl))
  finding_line bytes (findings.Leaf l) =
      let used = codes " used=" ++ used_text l.used in
      let kind = codes " kind=" ++ (kind_text l.kind ++ used) in
      with_word (codes "leaf ctl=") (controller_name p l.member ++ kind) refl
      (with_word (controller_name p l.member) kind (member_line l.member)
      (with_word (codes " kind=") (kind_text l.kind ++ used) refl
      (with_word (kind_text l.kind) used (kind_line l.kind) (used_line l.used))))
  finding_line bytes (findings.Out switch port rewrite) =
      let packet = codes " " ++ encode_lower (rewritten rewrite bytes) in
      with_word (codes "out ") (switch_name p switch ++ (codes ":" ++ (decimal port ++ packet))) refl
      (with_word (switch_name p switch) (codes ":" ++ (decimal port ++ packet)) (switch_line switch)
      (with_word (codes ":") (decimal port ++ packet) refl
      (with_word (decimal port) packet (decimal_line port) (hex_line (rewritten rewrite bytes)))))
  finding_line bytes (findings.Tell member reason) =
      with_word (codes "tell ctl=") (controller_name p member ++ (codes " reason=" ++ decimal reason)) refl
      (with_word (controller_name p member) (codes " reason=" ++ decimal reason) (member_line member)
      (numbered (codes " reason=") reason refl))
  finding_line bytes (findings.Entry switch cookie priority) =
      let rank = codes " priority=" ++ decimal priority in
      with_word (codes "entry switch=") (switch_name p switch ++ (codes " cookie=" ++ (decimal cookie ++ rank))) refl
      (with_word (switch_name p switch) (codes " cookie=" ++ (decimal cookie ++ rank)) (switch_line switch)
      (with_word (codes " cookie=") (decimal cookie ++ rank) refl
      (with_word (decimal cookie) rank (decimal_line cookie) (numbered (codes " priority=") priority refl))))
  finding_line bytes (findings.Down switch) =
      with_word (codes "entry switch=") (switch_name p switch ++ codes " down") refl
      (with_word (switch_name p switch) (codes " down") (switch_line switch) refl)

  finding_plain : (bytes : List ℕ) (f : Finding) → IsPlain (Other (finding_text p bytes f))
  finding_plain bytes (findings.Hop v port) = (finding_line bytes (findings.Hop v port), refl)
  finding_plain bytes (findings.Leaf l) = (finding_line bytes (findings.Leaf l), refl)
  finding_plain bytes (findings.Out switch port rewrite) = (finding_line bytes (findings.Out switch port rewrite), refl)
  finding_plain bytes (findings.Tell member reason) = (finding_line bytes (findings.Tell member reason), refl)
  finding_plain bytes (findings.Entry switch cookie priority) =
      (finding_line bytes (findings.Entry switch cookie priority), refl)
  finding_plain bytes (findings.Down switch) = (finding_line bytes (findings.Down switch), refl)

  pub findings_plain : (bytes : List ℕ) (fs : List Finding)
      → AllByRecursion IsPlain (map Other (map (finding_text p bytes) fs))
  findings_plain bytes [] = tt
  findings_plain bytes (f ∷ fs) = (finding_plain bytes f, findings_plain bytes fs)

-- a session whose bytes show a short length
pub short_plain : (name : List ℕ) (len : ℕ) → is_word name ≡ true
    → IsPlain (Other (codes "short " ++ (name ++ (codes " " ++ decimal len))))
short_plain name len h = (
  with_word (codes "short ") (name ++ (codes " " ++ decimal len)) refl
      (with_word name (codes " " ++ decimal len) (word_line name h) (numbered (codes " ") len refl)),
  refl,
)
