-- The fields and the kinds of action that a grant names, each by a bit.
use Rattle.std.specs.Prelude.{ℕ, Bool, ◌==◌, ◌/◌, ◌%◌, ◌^◌, List, [], ◌∷◌, Option, slice_get, codes}
use Rattle.grants.specs.declared.field.Field.{Field}
use Rattle.grants.specs.declared.field.Field.TheVariants.{InPort, DlSrc, DlDst, DlVlan, DlVlanPcp, DlType, NwTos}
use Rattle.grants.specs.declared.field.Field.TheVariants.{NwProto, NwSrc, NwDst, TpSrc, TpDst}
use Rattle.grants.specs.declared.kind.Kind.{Kind}
use Rattle.grants.specs.declared.kind.Kind.TheVariants.{Output, Controller, Pass, Link, SetDlSrc, SetDlDst, SetNwSrc}
use Rattle.grants.specs.declared.kind.Kind.TheVariants.{SetNwDst, SetNwTos, SetTpSrc, SetTpDst}

-- the fields, by their bits from 0
abbrev pub fields : List Field
fields = InPort ∷ DlSrc ∷ DlDst ∷ DlVlan ∷ DlVlanPcp ∷ DlType ∷ NwTos ∷ NwProto ∷ NwSrc ∷ NwDst ∷ TpSrc ∷ TpDst ∷ []

-- the field of a bit
abbrev pub field_at : ℕ → Option Field
field_at bit = slice_get fields bit

-- the bit of a field
abbrev pub field_bit : Field → ℕ
field_bit InPort = 0
field_bit DlSrc = 1
field_bit DlDst = 2
field_bit DlVlan = 3
field_bit DlVlanPcp = 4
field_bit DlType = 5
field_bit NwTos = 6
field_bit NwProto = 7
field_bit NwSrc = 8
field_bit NwDst = 9
field_bit TpSrc = 10
field_bit TpDst = 11

-- the name of a field, in a policy file and an audit line
abbrev pub field_name : Field → List ℕ
field_name InPort = codes "in_port"
field_name DlSrc = codes "dl_src"
field_name DlDst = codes "dl_dst"
field_name DlVlan = codes "dl_vlan"
field_name DlVlanPcp = codes "dl_vlan_pcp"
field_name DlType = codes "dl_type"
field_name NwTos = codes "nw_tos"
field_name NwProto = codes "nw_proto"
field_name NwSrc = codes "nw_src"
field_name NwDst = codes "nw_dst"
field_name TpSrc = codes "tp_src"
field_name TpDst = codes "tp_dst"

-- the kinds of action, by their bits from 0
abbrev pub kinds : List Kind
kinds = Output ∷ Controller ∷ Pass ∷ Link ∷ SetDlSrc ∷ SetDlDst ∷ SetNwSrc ∷ SetNwDst ∷ SetNwTos ∷ SetTpSrc ∷ SetTpDst
    ∷ []

-- the kind of a bit
abbrev pub kind_at : ℕ → Option Kind
kind_at bit = slice_get kinds bit

-- the bit of a kind
abbrev pub kind_bit : Kind → ℕ
kind_bit Output = 0
kind_bit Controller = 1
kind_bit Pass = 2
kind_bit Link = 3
kind_bit SetDlSrc = 4
kind_bit SetDlDst = 5
kind_bit SetNwSrc = 6
kind_bit SetNwDst = 7
kind_bit SetNwTos = 8
kind_bit SetTpSrc = 9
kind_bit SetTpDst = 10

-- the name of a kind, in a policy file
abbrev pub kind_name : Kind → List ℕ
kind_name Output = codes "output"
kind_name Controller = codes "controller"
kind_name Pass = codes "pass"
kind_name Link = codes "link"
kind_name SetDlSrc = codes "set_dl_src"
kind_name SetDlDst = codes "set_dl_dst"
kind_name SetNwSrc = codes "set_nw_src"
kind_name SetNwDst = codes "set_nw_dst"
kind_name SetNwTos = codes "set_nw_tos"
kind_name SetTpSrc = codes "set_tp_src"
kind_name SetTpDst = codes "set_tp_dst"

-- a bit of a mask is set
abbrev pub has_bit : ℕ → ℕ → Bool
has_bit mask bit = (mask / 2 ^ bit) % 2 == 1
