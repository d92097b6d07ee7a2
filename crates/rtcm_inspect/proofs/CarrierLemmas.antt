-- The values of a cell with and without its carrier.
use Rattle.rtcm_inspect.proofs.Names.{map, get_or-replicate, Glonass, satellites, band_of, code_of, channel_hertz, hertz_in, CellValues, LosesUnknownCarriers, values_by, ◌≡◌, ◌-◌, ◌<◌, ap, ap₂, cons_option, every_channel, filter_map, if◌then◌else◌, is_some, lock_by, observed, option_and_then, option_map, seen_in, signal_of_id, ChannelsValue, Entry, Satellite, SignalAt, System, entries, Msm, Bool, true, false, ◌&&◌, nat_le, nat_tests, ℕ, List, [], ◌∷◌, Option, Some, None, refl, arith, HeardCell, slot_count, Form, LockTime}
use Rattle.rtcm_inspect.specs.SignalLaws.{values_of}

-- ---- with a channel for each slot each carrier is known

bounded : (id : ℕ) → (nat_le 1 id && nat_le id 27) ≡ true → id - 1 < 27
bounded id h = grind (arith, nat_tests, h)

known_always : (system : System) (id : ℕ) (g : SignalAt) → (nat_le 1 id && nat_le id (satellites system)) ≡ true
    → is_some (hertz_in every_channel (record { system = system; id = id }) g) ≡ true
known_always Glonass id g h =
    ap (λ (o : Option ℕ). is_some (option_map (channel_hertz (band_of (code_of g))) o)) (get_or-replicate slot_count (id - 1) (Some 7) None (bounded id h))
known_always other id g h = refl

-- ---- a value at a carrier

cell_values : (channels : ChannelsValue) (lock : LockTime) (e : Entry) (u : Satellite) (g : SignalAt) → is_some (hertz_in every_channel u g) ≡ true
    → values_of (observed channels lock e u g) ≡ values_by channels (observed every_channel lock e u g)
cell_values channels lock e u g known = grind arith

module _ (channels : ChannelsValue) (form : Form) (system : System) where
  abbrev with_channels : Entry → ChannelsValue → Option SignalAt → Option Satellite → Option HeardCell
  with_channels e c g u = option_and_then (λ u. option_map (observed c (lock_by form e.lock) e u) g) u

  one_cell : (e : Entry) (xs ys : List HeardCell) → map values_of xs ≡ map (values_by channels) ys
      → map values_of (cons_option (seen_in channels form system e) xs) ≡ map (values_by channels) (cons_option (seen_in every_channel form system e) ys)
  one_cell e xs ys same = by (nat_le 1 e.satellite && nat_le e.satellite (satellites system)) refl (signal_of_id system e.signal) where
    by : (b : Bool) → (nat_le 1 e.satellite && nat_le e.satellite (satellites system)) ≡ b → (g : Option SignalAt)
        → map values_of (cons_option (with_channels e channels g (if b then Some (record { system = system; id = e.satellite }) else None)) xs)
        ≡ map (values_by channels) (cons_option (with_channels e every_channel g (if b then Some (record { system = system; id = e.satellite }) else None)) ys)
    by true h (Some g) =
        ap₂ (λ (v : CellValues) (vs : List CellValues). v ∷ vs) (cell_values channels (lock_by form e.lock) e (record { system = system; id = e.satellite }) g (known_always system e.satellite g h)) same
    by true h None = same
    by false h g = same

  all_cells : (es : List Entry) → map values_of (filter_map (seen_in channels form system) es) ≡ map (values_by channels) (filter_map (seen_in every_channel form system) es)
  all_cells [] = refl
  all_cells (e ∷ es) = one_cell e (filter_map (seen_in channels form system) es) (filter_map (seen_in every_channel form system) es) (all_cells es)

pub unknown_carriers : LosesUnknownCarriers
unknown_carriers s (Msm v) = all_cells s.plan.channels v.form v.msm.system (entries (Msm v))
unknown_carriers s other = refl
