-- Packing and unpacking undo each other.
use Rattle.rtcm_msg.proofs.Names.{ap, ◌<◌, ℕ, ℤ, Bool, true, false, lit≤, ◌≡◌, ◌^◌, ◌≤◌, ◌∙◌, refl, arith, Form, Satellite, Cell, Contents, total_width, packed, unpacked, invalid_rough_rate, invalid_fine_rate, is_fine, has_rates, satellite_table_by, rate_table, cell_table_by, cell_table, satellite_contents, FitsIf, satellite_of, rate_in, cell_contents, cell_of, satellite_widths, cell_widths, IsSatelliteData, IsCellData, satellite_number, satellite_data, cell_number, cell_data, satellite_table, FitsSatellite, rate_contents}
use Rattle.rtcm_msg.proofs.LayoutLaws.{FitAll, have_signs, packed_fits, unpacked_fit, packed-unpacked}
use Rattle.rtcm_msg.specs.declared.view.Form.TheVariants as forms

satellite_signs : (rates : Bool) → have_signs (satellite_table_by rates) ≡ true
satellite_signs false = refl
satellite_signs true = refl

cell_signs_by : (fine rates : Bool) → have_signs (cell_table_by fine rates) ≡ true
cell_signs_by false false = refl
cell_signs_by false true = refl
cell_signs_by true false = refl
cell_signs_by true true = refl

cell_signs : (f : Form) → have_signs (cell_table f) ≡ true
cell_signs f = cell_signs_by (is_fine f) (has_rates f)

-- ---- satellites

satellite_fit : (rates : Bool) (s : Satellite) → FitsSatellite rates s
    → FitAll (satellite_table_by rates) (satellite_contents rates s)
satellite_fit false s h = (h.whole, (h.fraction, tt))
satellite_fit true s h = (h.whole, (h.extended, (h.fraction, (h.rate, tt))))

satellite_is : (rates : Bool) (cs : Contents (satellite_table_by rates)) → FitAll (satellite_table_by rates) cs
    → FitsSatellite rates (satellite_of rates cs)
satellite_is false cs h = record { whole = h.0; extended = lit≤ tt; fraction = h.1.0; rate = refl }
satellite_is true cs h = record { whole = h.0; extended = h.1.0; fraction = h.1.1.0; rate = h.1.1.1.0 }

-- What a form has no field for is fixed.
fixed : (s : Satellite) → s.extended < 1 → s.rate ≡ invalid_rough_rate
    → record { whole = s.whole; extended = 0; fraction = s.fraction; rate = invalid_rough_rate } ≡ s
fixed s e r = let z : s.extended ≡ 0 = omega (arith, e) in rw (z, r) refl

pub satellite_fits : (f : Form) (s : Satellite) → IsSatelliteData f s
    → satellite_number f s < 2 ^ total_width (satellite_widths f)
satellite_fits f s h =
    let rates = has_rates f in
    packed_fits (satellite_table f) (satellite_contents rates s) (satellite_signs rates) (satellite_fit rates s h)

pub satellite_in_range : (f : Form) (n : ℕ) → IsSatelliteData f (satellite_data f n)
satellite_in_range f n =
    satellite_is (has_rates f) _ (unpacked_fit (satellite_table f) n (satellite_signs (has_rates f)))

contents_kept : (rates : Bool) (cs : Contents (satellite_table_by rates))
    → satellite_contents rates (satellite_of rates cs) ≡ cs
contents_kept false cs = refl
contents_kept true cs = refl

pub satellite_same : (f : Form) (n : ℕ) → n < 2 ^ total_width (satellite_widths f)
    → satellite_number f (satellite_data f n) ≡ n
satellite_same f n h =
    rw (contents_kept (has_rates f) (unpacked (satellite_table f) n))
    (packed-unpacked (satellite_table f) n (satellite_signs (has_rates f)) h)

-- ---- cells

rate_fit : (rates : Bool) (z : ℤ) → FitsIf rates 15 invalid_fine_rate z
    → FitAll (rate_table rates) (rate_contents rates z)
rate_fit false z h = tt
rate_fit true z h = (h, tt)

rate_is : (rates : Bool) (cs : Contents (rate_table rates)) → FitAll (rate_table rates) cs
    → FitsIf rates 15 invalid_fine_rate (rate_in rates cs)
rate_is false cs h = refl
rate_is true cs h = h.0

rate_back : (rates : Bool) (cs : Contents (rate_table rates)) → rate_contents rates (rate_in rates cs) ≡ cs
rate_back false cs = refl
rate_back true cs = refl

cell_fit : (f : Form) (c : Cell) → IsCellData f c → FitAll (cell_table f) (cell_contents (is_fine f) (has_rates f) c)
cell_fit f c h = (h.range, (h.phase, (h.lock, (tt, (h.strength, rate_fit (has_rates f) c.rate h.rate)))))

pub cell_fits : (f : Form) (c : Cell) → IsCellData f c → cell_number f c < 2 ^ total_width (cell_widths f)
cell_fits f c h =
    packed_fits (cell_table f) (cell_contents (is_fine f) (has_rates f) c) (cell_signs f) (cell_fit f c h)

pub cell_in_range : (f : Form) (n : ℕ) → IsCellData f (cell_data f n)
cell_in_range f n =
    let h = unpacked_fit (cell_table f) n (cell_signs f) in
    record {
      range = h.0;
      phase = h.1.0;
      lock = h.1.1.0;
      strength = h.1.1.1.1.0;
      rate = rate_is (has_rates f) _ h.1.1.1.1.1;
    }

contents_back : (f : Form) (cs : Contents (cell_table f))
    → cell_contents (is_fine f) (has_rates f) (cell_of (is_fine f) (has_rates f) cs) ≡ cs
contents_back f (range, (phase, (lock, (half_cycle, (strength, end))))) =
    ap (λ (r : Contents (rate_table (has_rates f))). (range, (phase, (lock, (half_cycle, (strength, r))))))
    (rate_back (has_rates f) end)

pub cell_same : (f : Form) (n : ℕ) → n < 2 ^ total_width (cell_widths f) → cell_number f (cell_data f n) ≡ n
cell_same f n h =
    ap (packed (cell_table f)) (contents_back f (unpacked (cell_table f) n))
    ∙ packed-unpacked (cell_table f) n (cell_signs f) h

-- ---- widths

-- The total widths of the fields of a satellite and of a cell, so that the largest message fits a frame.
pub narrow : (f : Form) → (total_width (satellite_widths f) ≤ 36) × (total_width (cell_widths f) ≤ 80)
narrow forms.Msm4 = (lit≤ tt, lit≤ tt)
narrow forms.Msm5 = (lit≤ tt, lit≤ tt)
narrow forms.Msm6 = (lit≤ tt, lit≤ tt)
narrow forms.Msm7 = (lit≤ tt, lit≤ tt)
