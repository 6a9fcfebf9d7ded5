-- The next frame is kept, or read for.
use Rattle.std.proofs.Common.{◌≡◌, ℕ, Bool, List, ◌++◌, Option, take, sym, ap, subst, ◌∙◌, append_assoc}
use Rattle.outside.specs.Outside.{Rose, TakesNext}
use Rattle.of10_frames.specs.Frames.{IsUnfinished}
use Rattle.sessions.specs.declared.incoming.Stop.{Stop}
use Rattle.sessions.specs.declared.incoming.Stop.TheVariants as stops
use Rattle.sessions.specs.InsideReading.{IsReadStop}
use Rattle.sessions.specs.Reading.{HasStopped}
use Rattle.sessions.specs.Streams.{Reads}
use Rattle.sessions.proofs.Bytes.{reads-more, reads-one}

module _ (a b : Option (List ℕ)) (old mid read : List ℕ) (reads : Reads a b read) (kept : mid ≡ old ++ read) where
  -- nothing more is read
  pub stops-read : (c : Option (List ℕ)) (f m g : ℕ) (w v : Bool) (stop : Stop) → IsUnfinished mid → m ≡ f → v ≡ w
      → IsReadStop b c m g v stop → HasStopped a c old mid f g w stop
  stops-read c f m g w v stops.Ended u e i h = (
    record { read = read; next = subst (λ z. Reads a z read) (sym h.0) reads; parts = kept },
    record { unfinished = u; end = h.1 },
  )
  stops-read c f m g w v (stops.Short len) u e i h = absurd h
  stops-read c f m g w v stops.ReadFault u e i h = (
    record { read = read; next = subst (λ z. Reads a z read) (sym h.0) reads; parts = kept },
    record { unfinished = u; rose = subst (λ z. Rose z g) e h.1; unreliable = sym i ∙ h.2 },
  )
  stops-read c f m g w v stops.Memory u e i h = absurd h

  -- more is read
  pub reads-next : (c : Option (List ℕ)) (n : ℕ) (into : List ℕ) → TakesNext b c n into
      → Reads a c (read ++ take n into)
  reads-next c n into h = reads-more a b c read (take n into) reads (reads-one b c n into h)

  -- and kept
  pub keeps-next : (new piece : List ℕ) → new ≡ mid ++ piece → new ≡ old ++ (read ++ piece)
  keeps-next new piece e = e ∙ (ap (λ z. z ++ piece) kept ∙ append_assoc old read piece)
