-- A body that was read is spelled by its bytes.
use Rattle.std.proofs.Common.{◌≡◌, ℕ, ◌+◌, ◌-◌, ◌*◌, ◌/◌, ◌%◌, ◌≤◌, Bool, true, false, cond, eqb, ltb, eqb-true, List}
use Rattle.std.proofs.Common.{[], ◌∷◌, ◌++◌, length, take, drop, Result, Ok, Err, refl, sym, ap, subst, ◌∙◌, arith}
use Rattle.std.specs.Prelude.{◌&&◌, nat_le, slice_index}
use Rattle.std.proofs.lemmas.Bool.{leb-true, ltb-false}
use Rattle.std.proofs.lemmas.List.{append-nil, drop_all, drop_at, length-append, take_at}
use Rattle.std.proofs.lemmas.List.Elements.{All-from_recursion}
use Rattle.byteorder.specs.Endian.{big_bytes, big_number}
use Rattle.of10_actions.specs.declared.action.Action.{Action as ActionOf}
use Rattle.of10_actions.specs.declared.fault.ActionFault.{ActionFault}
use Rattle.of10_actions.specs.Reading.{reading as actions_in}
use Rattle.of10_actions.specs.Spelling.{IsBytes}
use Rattle.of10_actions.proofs.Digits.{IsBytes-drop, IsBytes-take}
use Rattle.of10_actions.proofs.Lists.{read_is_spelled}
use Rattle.of10_msgs.specs.Bodies.{kind_of}
use Rattle.of10_msgs.specs.Kinds.{is_among, lengths_of}
use Rattle.of10_msgs.specs.Ranges.{FitsTypes, HasAddress, IsInRange, PortFits}
use Rattle.of10_msgs.specs.Reading.{body_at, features_reply_of, flow_mod_of, flow_removed_of, listed, packet_out_at}
use Rattle.of10_msgs.specs.Reading.{packet_out_of, port_at, ports_at, with_actions}
use Rattle.of10_msgs.specs.Spelling.{Free, body_with, flow_mod_fields, packet_out_fields, port_bytes}
use Rattle.of10_msgs.specs.declared.fault.FormFault.{FormFault}
use Rattle.of10_msgs.specs.declared.fault.FormFault.TheVariants.{BadLen}
use Rattle.of10_msgs.specs.declared.kind.Kind.{Kind}
use Rattle.of10_msgs.specs.declared.kind.Kind.TheVariants as kinds
use Rattle.of10_msgs.specs.declared.message.Body.{Body}
use Rattle.of10_msgs.specs.declared.message.Body.TheVariants.{Hello, Error, EchoRequest, EchoReply, FeaturesRequest}
use Rattle.of10_msgs.specs.declared.message.Body.TheVariants.{GetConfigRequest, GetConfigReply, SetConfig, PacketIn}
use Rattle.of10_msgs.specs.declared.message.Body.TheVariants.{PortStatus, PacketOut, FlowMod, PortMod, StatsRequest}
use Rattle.of10_msgs.specs.declared.message.Body.TheVariants.{StatsReply, BarrierRequest, BarrierReply}
use Rattle.of10_msgs.specs.declared.message.Body.TheVariants.{QueueGetConfigRequest, QueueGetConfigReply}
use Rattle.of10_msgs.proofs.Fields.{split}
use Rattle.of10_msgs.proofs.FoundParts.{byte, clear_twice, length_part, number_lt, part, port_fits, port_found}
use Rattle.of10_msgs.proofs.FoundParts.{ports_fit, ports_found}
use Rattle.of10_msgs.proofs.SpelledBodies.{IsFree, length_clear}

-- what a body of a type that was read says of its frame
pub record Found (k : Kind) (frame : List ℕ) (b : Body) : Type 0 where
  pub free : Free
  pub kind : kind_of b ≡ k
  pub ok : IsFree b free
  pub whole : drop 8 frame ≡ body_with b free
  pub fits : FitsTypes b
  pub range : IsInRange b

abbrev nothing_free : Free
nothing_free = record { pad = []; m = []; actions = [] }

abbrev done : Body → Result Body FormFault
done b = Ok b

ok_is : (x y : Body) → done x ≡ done y → x ≡ y
ok_is x y e = cc

-- what was found of the body that was read
found_as : (k : Kind) (frame : List ℕ) (x b : Body) → done x ≡ done b → Found k frame x → Found k frame b
found_as k frame x b e found = subst (Found k frame) (ok_is x b e) found

and_both : (a b : Bool) → (a && b) ≡ true → (a ≡ true) × (b ≡ true)
and_both true b e = (refl, e)
and_both false b e = absurd cc

-- a body with actions that was read
actions_ok : (r : Result (List ActionOf) ActionFault) (f : List ActionOf → Body) (b : Body)
    → with_actions (listed r) f ≡ Ok b → (list : List ActionOf) × (r ≡ Ok list) × (done (f list) ≡ done b)
actions_ok (Ok list) f b e = (list, refl, e)
actions_ok (Err fault) f b e = absurd cc

guard_not : (t : Bool) (f : FormFault) (x : Result Body FormFault) (b : Body) → cond t (Err f) x ≡ Ok b
    → (t ≡ false) × (x ≡ Ok b)
guard_not true f x b e = absurd cc
guard_not false f x b e = (refl, e)

features_found : (frame : List ℕ) → IsBytes frame → is_among (lengths_of kinds.FeaturesReply) (length frame) ≡ true
    → Found kinds.FeaturesReply frame (features_reply_of frame)
unfolding features_reply_of
features_found frame fits long =
    let both = and_both (nat_le 32 (length frame)) (eqb ((length frame - 32) % 48) 0) long in
    let room : 32 ≤ length frame = leb-true _ _ both.0 in
    let n = (length frame - 32) / 48 in
    let none_left : (length frame - 32) % 48 ≡ 0 = eqb-true _ _ both.1 in
    let whole : 32 + 48 * n ≡ length frame = omega (arith, none_left, room) in
    let each = ports_fit n 32 frame fits whole in
    let ports = ports_at n 32 frame in
    let pad = take 3 (drop 21 frame) in
    let tables : List ℕ → List ℕ = λ x. slice_index frame 20 ∷ x in
    let f5 = ports_found n 32 frame fits whole in
    let f4 = split 4 28 frame fits (omega arith)
    ∙ ap (λ (x : List ℕ). big_bytes 4 (big_number 4 (drop 28 frame)) ++ x) f5 in
    let f3 = split 4 24 frame fits (omega arith)
    ∙ ap (λ (x : List ℕ). big_bytes 4 (big_number 4 (drop 24 frame)) ++ x) f4 in
    let f2 = part 3 21 frame ∙ ap (λ (x : List ℕ). pad ++ x) f3 in
    let f1 = byte 20 frame (omega arith) ∙ ap tables f2 in
    let f0 = split 4 16 frame fits (omega arith)
    ∙ ap (λ (x : List ℕ). big_bytes 4 (big_number 4 (drop 16 frame)) ++ x) f1 in
    record {
      free = record { pad = pad; m = []; actions = [] };
      kind = refl;
      ok = record { pad = length_part 3 21 frame (omega arith); matched = refl; actions = tt };
      whole = split 8 8 frame fits (omega arith)
          ∙ ap (λ (x : List ℕ). big_bytes 8 (big_number 8 (drop 8 frame)) ++ x) f0;
      fits = (
        number_lt 8 8 frame fits,
        number_lt 4 16 frame fits,
        number_lt 4 24 frame fits,
        number_lt 4 28 frame fits,
        All-from_recursion PortFits ports each.0,
      );
      range = All-from_recursion HasAddress ports each.1;
    }

packet_in_found : (frame : List ℕ) → IsBytes frame → 18 ≤ length frame
    → Found kinds.PacketIn frame
    (PacketIn (big_number 4 (drop 8 frame)) (big_number 2 (drop 12 frame)) (big_number 2 (drop 14 frame))
    (slice_index frame 16) (drop 18 frame))
packet_in_found frame fits long =
    let pad = take 1 (drop 17 frame) in
    let f3 = byte 16 frame (omega arith) ∙ ap (λ (x : List ℕ). slice_index frame 16 ∷ x) (part 1 17 frame) in
    let f2 = split 2 14 frame fits (omega arith)
    ∙ ap (λ (x : List ℕ). big_bytes 2 (big_number 2 (drop 14 frame)) ++ x) f3 in
    let f1 = split 2 12 frame fits (omega arith)
    ∙ ap (λ (x : List ℕ). big_bytes 2 (big_number 2 (drop 12 frame)) ++ x) f2 in
    record {
      free = record { pad = pad; m = []; actions = [] };
      kind = refl;
      ok = record { pad = length_part 1 17 frame (omega arith); matched = refl; actions = tt };
      whole = split 4 8 frame fits (omega arith)
          ∙ ap (λ (x : List ℕ). big_bytes 4 (big_number 4 (drop 8 frame)) ++ x) f1;
      fits = (number_lt 4 8 frame fits, number_lt 2 12 frame fits, number_lt 2 14 frame fits);
      range = tt;
    }

removed_found : (frame : List ℕ) → IsBytes frame → length frame ≡ 88
    → Found kinds.FlowRemoved frame (flow_removed_of frame)
unfolding flow_removed_of
removed_found frame fits long =
    let m = take 40 (drop 8 frame) in
    let m_long : length m ≡ 40 = length_part 40 8 frame (omega arith) in
    let p = take 1 (drop 59 frame) in
    let q = take 2 (drop 70 frame) in
    let p_long : length p ≡ 1 = length_part 1 59 frame (omega arith) in
    let q_long : length q ≡ 2 = length_part 2 70 frame (omega arith) in
    let cut1 : take 1 (p ++ q) ≡ p = take_at p q 1 p_long in
    let cut2 : drop 1 (p ++ q) ≡ q = drop_at p q 1 p_long in
    let f9 = split 8 80 frame fits (omega arith)
    ∙ (ap (λ (x : List ℕ). big_bytes 8 (big_number 8 (drop 80 frame)) ++ x) (drop_all 88 frame (omega arith))
    ∙ append-nil (big_bytes 8 (big_number 8 (drop 80 frame)))) in
    let f8 = split 8 72 frame fits (omega arith)
    ∙ ap (λ (x : List ℕ). big_bytes 8 (big_number 8 (drop 72 frame)) ++ x) f9 in
    let counts = big_bytes 8 (big_number 8 (drop 72 frame)) ++ big_bytes 8 (big_number 8 (drop 80 frame)) in
    let f7 = part 2 70 frame ∙ (ap (λ (x : List ℕ). q ++ x) f8 ∙ ap (λ (x : List ℕ). x ++ counts) (sym cut2)) in
    let f6 = split 2 68 frame fits (omega arith)
    ∙ ap (λ (x : List ℕ). big_bytes 2 (big_number 2 (drop 68 frame)) ++ x) f7 in
    let f5 = split 4 64 frame fits (omega arith)
    ∙ ap (λ (x : List ℕ). big_bytes 4 (big_number 4 (drop 64 frame)) ++ x) f6 in
    let f4 = split 4 60 frame fits (omega arith)
    ∙ ap (λ (x : List ℕ). big_bytes 4 (big_number 4 (drop 60 frame)) ++ x) f5 in
    let times = big_bytes 4 (big_number 4 (drop 60 frame))
    ++ (big_bytes 4 (big_number 4 (drop 64 frame))
    ++ (big_bytes 2 (big_number 2 (drop 68 frame)) ++ (drop 1 (p ++ q) ++ counts))) in
    let f3 = part 1 59 frame ∙ (ap (λ (x : List ℕ). p ++ x) f4 ∙ ap (λ (x : List ℕ). x ++ times) (sym cut1)) in
    let f2 = byte 58 frame (omega arith) ∙ ap (λ (x : List ℕ). slice_index frame 58 ∷ x) f3 in
    let f1 = split 2 56 frame fits (omega arith)
    ∙ ap (λ (x : List ℕ). big_bytes 2 (big_number 2 (drop 56 frame)) ++ x) f2 in
    let f0 = split 8 48 frame fits (omega arith)
    ∙ ap (λ (x : List ℕ). big_bytes 8 (big_number 8 (drop 48 frame)) ++ x) f1 in
    record {
      free = record { pad = p ++ q; m = m; actions = [] };
      kind = refl;
      ok = record { pad = omega (arith, length-append p q, p_long, q_long); matched = refl; actions = tt };
      whole = part 40 8 frame ∙ ap (λ (x : List ℕ). m ++ x) f0;
      fits = (
        length_clear m ∙ m_long,
        number_lt 8 48 frame fits,
        number_lt 2 56 frame fits,
        number_lt 4 60 frame fits,
        number_lt 4 64 frame fits,
        number_lt 2 68 frame fits,
        number_lt 8 72 frame fits,
        number_lt 8 80 frame fits,
      );
      range = clear_twice m m_long;
    }

port_status_found : (frame : List ℕ) → IsBytes frame → length frame ≡ 64
    → Found kinds.PortStatus frame (PortStatus (slice_index frame 8) (port_at 16 frame))
port_status_found frame fits long =
    let pad = take 7 (drop 9 frame) in
    let port = port_at 16 frame in
    let each = port_fits 16 frame fits (omega arith) in
    let f2 = port_found 16 frame fits (omega arith)
    ∙ (ap (λ (x : List ℕ). port_bytes port ++ x) (drop_all 64 frame (omega arith))
    ∙ append-nil (port_bytes port)) in
    let f1 = part 7 9 frame ∙ ap (λ (x : List ℕ). pad ++ x) f2 in
    record {
      free = record { pad = pad; m = []; actions = [] };
      kind = refl;
      ok = record { pad = length_part 7 9 frame (omega arith); matched = refl; actions = tt };
      whole = byte 8 frame (omega arith) ∙ ap (λ (x : List ℕ). slice_index frame 8 ∷ x) f1;
      fits = each.0;
      range = each.1;
    }

flow_mod_found : (frame : List ℕ) (list : List ActionOf) → IsBytes frame → 72 ≤ length frame
    → actions_in (drop 72 frame) ≡ Ok list → Found kinds.FlowMod frame (FlowMod (flow_mod_of list frame))
unfolding flow_mod_of flow_mod_fields
flow_mod_found frame list fits long read =
    let m = take 40 (drop 8 frame) in
    let m_long : length m ≡ 40 = length_part 40 8 frame (omega arith) in
    let spelled = read_is_spelled (drop 72 frame) list (IsBytes-drop 72 frame fits) read in
    let f7 = split 2 70 frame fits (omega arith) in
    let f6 = split 2 68 frame fits (omega arith)
    ∙ ap (λ (x : List ℕ). big_bytes 2 (big_number 2 (drop 68 frame)) ++ x) f7 in
    let f5 = split 4 64 frame fits (omega arith)
    ∙ ap (λ (x : List ℕ). big_bytes 4 (big_number 4 (drop 64 frame)) ++ x) f6 in
    let f4 = split 2 62 frame fits (omega arith)
    ∙ ap (λ (x : List ℕ). big_bytes 2 (big_number 2 (drop 62 frame)) ++ x) f5 in
    let f3 = split 2 60 frame fits (omega arith)
    ∙ ap (λ (x : List ℕ). big_bytes 2 (big_number 2 (drop 60 frame)) ++ x) f4 in
    let f2 = split 2 58 frame fits (omega arith)
    ∙ ap (λ (x : List ℕ). big_bytes 2 (big_number 2 (drop 58 frame)) ++ x) f3 in
    let f1 = split 2 56 frame fits (omega arith)
    ∙ ap (λ (x : List ℕ). big_bytes 2 (big_number 2 (drop 56 frame)) ++ x) f2 in
    let f0 = split 8 48 frame fits (omega arith)
    ∙ ap (λ (x : List ℕ). big_bytes 8 (big_number 8 (drop 48 frame)) ++ x) f1 in
    record {
      free = record { pad = []; m = m; actions = drop 72 frame };
      kind = refl;
      ok = record { pad = refl; matched = refl; actions = spelled.0 };
      whole = part 40 8 frame ∙ ap (λ (x : List ℕ). m ++ x) f0;
      fits = record {
        m = length_clear m ∙ m_long;
        cookie = number_lt 8 48 frame fits;
        command = number_lt 2 56 frame fits;
        idle_timeout = number_lt 2 58 frame fits;
        hard_timeout = number_lt 2 60 frame fits;
        priority = number_lt 2 62 frame fits;
        buffer_id = number_lt 4 64 frame fits;
        out_port = number_lt 2 68 frame fits;
        flags = number_lt 2 70 frame fits;
        actions = spelled.1.1;
      };
      range = (clear_twice m m_long, spelled.1.0);
    }

packet_out_found : (frame : List ℕ) (list : List ActionOf) (n : ℕ) → IsBytes frame → n ≡ big_number 2 (drop 14 frame)
    → 16 + n ≤ length frame → actions_in (take n (drop 16 frame)) ≡ Ok list
    → Found kinds.PacketOut frame (PacketOut (packet_out_of list n frame))
unfolding packet_out_of packet_out_fields
packet_out_found frame list n fits is long read =
    let actions = take n (drop 16 frame) in
    let size : length actions ≡ n = length_part n 16 frame long in
    let spelled = read_is_spelled actions list (IsBytes-take n (drop 16 frame) (IsBytes-drop 16 frame fits)) read in
    let f2 = split 2 14 frame fits (omega arith)
    ∙ (ap (λ (x : List ℕ). big_bytes 2 (big_number 2 (drop 14 frame)) ++ x) (part n 16 frame)
    ∙ ap (λ (k : ℕ). big_bytes 2 k ++ (actions ++ drop (16 + n) frame)) (sym is ∙ sym size)) in
    let f1 = split 2 12 frame fits (omega arith)
    ∙ ap (λ (x : List ℕ). big_bytes 2 (big_number 2 (drop 12 frame)) ++ x) f2 in
    record {
      free = record { pad = []; m = []; actions = actions };
      kind = refl;
      ok = record { pad = refl; matched = refl; actions = spelled.0 };
      whole = split 4 8 frame fits (omega arith)
          ∙ ap (λ (x : List ℕ). big_bytes 4 (big_number 4 (drop 8 frame)) ++ x) f1;
      fits = record {
        buffer_id = number_lt 4 8 frame fits;
        in_port = number_lt 2 12 frame fits;
        actions = spelled.1.1;
      };
      range = spelled.1.0;
    }

packet_out_read : (frame : List ℕ) (b : Body) → IsBytes frame
    → packet_out_at (big_number 2 (drop 14 frame)) frame ≡ Ok b → Found kinds.PacketOut frame b
unfolding packet_out_at
packet_out_read frame b fits read =
    let n = big_number 2 (drop 14 frame) in
    let g = guard_not (ltb (length frame) (16 + n)) (BadLen 13 (length frame))
    (with_actions (listed (actions_in (take n (drop 16 frame)))) (λ list. PacketOut (packet_out_of list n frame))) b
    read in
    let a = actions_ok (actions_in (take n (drop 16 frame))) (λ list. PacketOut (packet_out_of list n frame)) b g.1 in
    found_as kinds.PacketOut frame (PacketOut (packet_out_of a.0 n frame)) b a.2
    (packet_out_found frame a.0 n fits refl (ltb-false _ _ g.0) a.1)

-- a body that is two numbers of 16 bits
two_found : (frame : List ℕ) → IsBytes frame → length frame ≡ 12
    → drop 8 frame ≡ big_bytes 2 (big_number 2 (drop 8 frame)) ++ big_bytes 2 (big_number 2 (drop 10 frame))
two_found frame fits long =
    split 2 8 frame fits (omega arith)
    ∙ ap (λ (x : List ℕ). big_bytes 2 (big_number 2 (drop 8 frame)) ++ x)
    (split 2 10 frame fits (omega arith)
    ∙ (ap (λ (x : List ℕ). big_bytes 2 (big_number 2 (drop 10 frame)) ++ x) (drop_all 12 frame (omega arith))
    ∙ append-nil (big_bytes 2 (big_number 2 (drop 10 frame)))))

nothing_left : (frame : List ℕ) → length frame ≡ 8 → drop 8 frame ≡ []
nothing_left frame long = drop_all 8 frame (omega arith)

pub body_found : (k : Kind) (frame : List ℕ) (b : Body) → IsBytes frame → is_among (lengths_of k) (length frame) ≡ true
    → body_at k frame ≡ Ok b → Found k frame b
body_found kinds.Hello frame b fits long read =
    found_as kinds.Hello frame (Hello (drop 8 frame)) b read
    (record {
      free = nothing_free;
      kind = refl;
      ok = record { pad = refl; matched = refl; actions = tt };
      whole = refl;
      fits = tt;
      range = tt;
    })
body_found kinds.Error frame b fits long read =
    let room : 12 ≤ length frame = leb-true _ _ long in
    let whole = split 2 8 frame fits (omega arith)
    ∙ ap (λ (x : List ℕ). big_bytes 2 (big_number 2 (drop 8 frame)) ++ x) (split 2 10 frame fits (omega arith)) in
    found_as kinds.Error frame (Error (big_number 2 (drop 8 frame)) (big_number 2 (drop 10 frame)) (drop 12 frame)) b
    read (record {
      free = nothing_free;
      kind = refl;
      ok = record { pad = refl; matched = refl; actions = tt };
      whole = whole;
      fits = (number_lt 2 8 frame fits, number_lt 2 10 frame fits);
      range = tt;
    })
body_found kinds.EchoRequest frame b fits long read =
    found_as kinds.EchoRequest frame (EchoRequest (drop 8 frame)) b read
    (record {
      free = nothing_free;
      kind = refl;
      ok = record { pad = refl; matched = refl; actions = tt };
      whole = refl;
      fits = tt;
      range = tt;
    })
body_found kinds.EchoReply frame b fits long read =
    found_as kinds.EchoReply frame (EchoReply (drop 8 frame)) b read
    (record {
      free = nothing_free;
      kind = refl;
      ok = record { pad = refl; matched = refl; actions = tt };
      whole = refl;
      fits = tt;
      range = tt;
    })
body_found kinds.Vendor frame b fits long read = absurd cc
body_found kinds.FeaturesRequest frame b fits long read =
    found_as kinds.FeaturesRequest frame FeaturesRequest b read
    (record {
      free = nothing_free;
      kind = refl;
      ok = record { pad = refl; matched = refl; actions = tt };
      whole = nothing_left frame (eqb-true _ _ long);
      fits = tt;
      range = tt;
    })
body_found kinds.FeaturesReply frame b fits long read =
    found_as kinds.FeaturesReply frame (features_reply_of frame) b read (features_found frame fits long)
body_found kinds.GetConfigRequest frame b fits long read =
    found_as kinds.GetConfigRequest frame GetConfigRequest b read
    (record {
      free = nothing_free;
      kind = refl;
      ok = record { pad = refl; matched = refl; actions = tt };
      whole = nothing_left frame (eqb-true _ _ long);
      fits = tt;
      range = tt;
    })
body_found kinds.GetConfigReply frame b fits long read =
    found_as kinds.GetConfigReply frame (GetConfigReply (big_number 2 (drop 8 frame)) (big_number 2 (drop 10 frame))) b
    read (record {
      free = nothing_free;
      kind = refl;
      ok = record { pad = refl; matched = refl; actions = tt };
      whole = two_found frame fits (eqb-true _ _ long);
      fits = (number_lt 2 8 frame fits, number_lt 2 10 frame fits);
      range = tt;
    })
body_found kinds.SetConfig frame b fits long read =
    found_as kinds.SetConfig frame (SetConfig (big_number 2 (drop 8 frame)) (big_number 2 (drop 10 frame))) b read
    (record {
      free = nothing_free;
      kind = refl;
      ok = record { pad = refl; matched = refl; actions = tt };
      whole = two_found frame fits (eqb-true _ _ long);
      fits = (number_lt 2 8 frame fits, number_lt 2 10 frame fits);
      range = tt;
    })
body_found kinds.PacketIn frame b fits long read =
    found_as kinds.PacketIn frame
    (PacketIn (big_number 4 (drop 8 frame)) (big_number 2 (drop 12 frame)) (big_number 2 (drop 14 frame))
    (slice_index frame 16) (drop 18 frame)) b read (packet_in_found frame fits (leb-true _ _ long))
body_found kinds.FlowRemoved frame b fits long read =
    found_as kinds.FlowRemoved frame (flow_removed_of frame) b read (removed_found frame fits (eqb-true _ _ long))
body_found kinds.PortStatus frame b fits long read =
    found_as kinds.PortStatus frame (PortStatus (slice_index frame 8) (port_at 16 frame)) b read
    (port_status_found frame fits (eqb-true _ _ long))
body_found kinds.PacketOut frame b fits long read = packet_out_read frame b fits read
body_found kinds.FlowMod frame b fits long read =
    let a = actions_ok (actions_in (drop 72 frame)) (λ list. FlowMod (flow_mod_of list frame)) b read in
    found_as kinds.FlowMod frame (FlowMod (flow_mod_of a.0 frame)) b a.2
    (flow_mod_found frame a.0 fits (leb-true _ _ long) a.1)
body_found kinds.PortMod frame b fits long read =
    found_as kinds.PortMod frame (PortMod (drop 8 frame)) b read
    (record {
      free = nothing_free;
      kind = refl;
      ok = record { pad = refl; matched = refl; actions = tt };
      whole = refl;
      fits = tt;
      range = tt;
    })
body_found kinds.StatsRequest frame b fits long read =
    found_as kinds.StatsRequest frame (StatsRequest (drop 8 frame)) b read
    (record {
      free = nothing_free;
      kind = refl;
      ok = record { pad = refl; matched = refl; actions = tt };
      whole = refl;
      fits = tt;
      range = tt;
    })
body_found kinds.StatsReply frame b fits long read =
    found_as kinds.StatsReply frame (StatsReply (drop 8 frame)) b read
    (record {
      free = nothing_free;
      kind = refl;
      ok = record { pad = refl; matched = refl; actions = tt };
      whole = refl;
      fits = tt;
      range = tt;
    })
body_found kinds.BarrierRequest frame b fits long read =
    found_as kinds.BarrierRequest frame BarrierRequest b read
    (record {
      free = nothing_free;
      kind = refl;
      ok = record { pad = refl; matched = refl; actions = tt };
      whole = nothing_left frame (eqb-true _ _ long);
      fits = tt;
      range = tt;
    })
body_found kinds.BarrierReply frame b fits long read =
    found_as kinds.BarrierReply frame BarrierReply b read
    (record {
      free = nothing_free;
      kind = refl;
      ok = record { pad = refl; matched = refl; actions = tt };
      whole = nothing_left frame (eqb-true _ _ long);
      fits = tt;
      range = tt;
    })
body_found kinds.QueueGetConfigRequest frame b fits long read =
    found_as kinds.QueueGetConfigRequest frame (QueueGetConfigRequest (drop 8 frame)) b read
    (record {
      free = nothing_free;
      kind = refl;
      ok = record { pad = refl; matched = refl; actions = tt };
      whole = refl;
      fits = tt;
      range = tt;
    })
body_found kinds.QueueGetConfigReply frame b fits long read =
    found_as kinds.QueueGetConfigReply frame (QueueGetConfigReply (drop 8 frame)) b read
    (record {
      free = nothing_free;
      kind = refl;
      ok = record { pad = refl; matched = refl; actions = tt };
      whole = refl;
      fits = tt;
      range = tt;
    })
