-- The last bits of the fields of a message's cells.
use Rattle.std.specs.Prelude.{◌≡◌, ℕ, ◌+◌, ◌*◌, List, [], ◌∷◌}
use Rattle.rtcm_msg.specs.declared.layout.LastBits.{LastBits}

-- The fields of the first of `count` cells whose data begin at a bit end with these bits.
abbrev pub EndWith : List ℕ → ℕ → ℕ → List ℕ → Type 0
EndWith [] count place lasts = Unit {0}
EndWith (w ∷ ws) count place [] = ⊥
EndWith (w ∷ ws) count place (last ∷ lasts) = (last + 1 ≡ place + w) × EndWith ws count (place + count * w) lasts

-- The last bits of cells whose fields have these widths.
abbrev pub AreLast : List ℕ → LastBits → Type 0
AreLast widths b =
    EndWith widths b.count b.place (b.range ∷ b.phase ∷ b.lock ∷ b.half_cycle ∷ b.strength ∷ b.rate ∷ [])
