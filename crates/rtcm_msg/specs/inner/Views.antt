-- Messages that are read from their bytes.
use Rattle.std.specs.Prelude.{◌≡◌, ℕ, ◌+◌, ◌*◌, ◌≤◌, List, length}
use Rattle.rtcm_msg.specs.declared.view.Form.{Form}
use Rattle.rtcm_msg.specs.declared.view.Data.{Data}
use Rattle.rtcm_msg.specs.declared.view.Data.TheVariants as datas
use Rattle.rtcm_msg.specs.declared.layout.LastBits.{LastBits}
use Rattle.rtcm_msg.specs.inner.LastBits.{AreLast}
use Rattle.rtcm_msg.specs.inner.Rows.{rows_at}
use Rattle.rtcm_bits.specs.Bits.{bits_of}
use Rattle.rtcm_bits.specs.FrameOf.{longest_message}
use Rattle.rtcm_msg.specs.Msm.{satellite_mask_bits, most_pairs}
use Rattle.rtcm_msg.specs.Packed.{total_width}
use Rattle.rtcm_msg.specs.Forms.{satellite_widths, cell_widths}

-- The data of n satellites or cells, the fields of each packed in one number.
abbrev pub satellite_rows : Form → ℕ → Data → List ℕ
satellite_rows form n (datas.Bits bytes satellites_at b) =
    rows_at (satellite_widths form) n (bits_of bytes.now) satellites_at
satellite_rows form n (datas.Packed satellites cells) = satellites.now

abbrev pub cell_rows : Form → ℕ → Data → List ℕ
cell_rows form n (datas.Bits bytes satellites_at b) = rows_at (cell_widths form) n (bits_of bytes.now) b.place
cell_rows form n (datas.Packed satellites cells) = cells.now

-- The bytes contain the data of this number of satellites from a bit on, and of this number of cells.
pub record AreWithin (form : Form) (bytes satellites satellites_at cells : ℕ) (b : LastBits) : Type 0 where
  pub small : bytes ≤ longest_message
  pub satellites_after : 64 ≤ satellites_at
  pub cells_after : 64 ≤ b.place
  pub satellites_there : satellites_at + satellites * total_width (satellite_widths form) ≤ 8 * bytes
  pub cells_there : b.place + cells * total_width (cell_widths form) ≤ 8 * bytes
  pub cell_count : b.count ≡ cells
  pub last : AreLast (cell_widths form) b

abbrev pub AreIn : Form → ℕ → ℕ → Data → Type 0
AreIn form satellites cells (datas.Bits bytes satellites_at b) =
    AreWithin form (length bytes.now) satellites satellites_at cells b
AreIn form satellites cells (datas.Packed s c) = (length s.now ≡ satellites) × (length c.now ≡ cells)

pub record AreDataOf (form : Form) (satellites cells : ℕ) (rows : Data) : Type 0 where
  pub satellites_few : satellites ≤ satellite_mask_bits
  pub cells_few : cells ≤ most_pairs
  pub there : AreIn form satellites cells rows
