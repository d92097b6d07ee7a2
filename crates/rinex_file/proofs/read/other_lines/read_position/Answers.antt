use Rattle.rinex_file.proofs.HeaderRows.Agree.{lengths-back, coordinate-fits, number_at}
use Rattle.rinex_file.proofs.Names.{exactly, arith, refl, ◌≡◌, ◌∙◌, ap, ℤ, ℕ, List, w64, to_z, of_z, fits_signed_from_abs, to_z-of_z, row_label, Position, then_some, StationValues, IsCoordinate, position_line, IsPosition, common_steps}
use Rattle.rinex_file.proofs.read.other_lines.read_position.Goals as goal

abbrev at : ℤ → ℤ → ℤ → StationValues
at x y z = record { x = x; y = y; z = z; height = 0 }

-- the columns of the line of a position contain its numbers
there : (line : List ℕ) (w : StationValues) → IsPosition w → line ≡ position_line w → (number_at 0 line ≡ w.x) × (number_at 14 line ≡ w.y) × (number_at 28 line ≡ w.z)
there line w is e = grind (arith, lengths-back, coordinate-fits, (lengths-back w.x w.y w.z (row_label Position) (coordinate-fits w.x is.0) (coordinate-fits w.y is.1) (coordinate-fits w.z is.2)))

all_stay : (x y z : ℤ) → IsCoordinate x → IsCoordinate y → IsCoordinate z → at (to_z w64 (of_z w64 x)) (to_z w64 (of_z w64 y)) (to_z w64 (of_z w64 z)) ≡ at x y z
all_stay x y z a b c = grind (arith, to_z-of_z, fits_signed_from_abs, coordinate-fits, common_steps)

pub returns : goal.returns
returns c =
    let x = c.coordinate_in.ensures in
    let y = c.coordinate_in-2.ensures in
    let z = c.coordinate_in-3.ensures in
    let kept = all_stay c.coordinate_in.result c.coordinate_in-2.result c.coordinate_in-3.result x.fits y.fits z.fits in
    exactly IsPosition position_line (at c.coordinate_in.result c.coordinate_in-2.result c.coordinate_in-3.result) (c.then_some.ensures ∙ ap (then_some c.is_same.result) kept)
    (x.fits, y.fits, z.fits, refl)
    (λ w is e.
    let all = there c.args.line.now w is e in
    (grind (arith, is.3)))
    (c.as_slice.ensures.value ∙ c.position_line.ensures ∙ ap position_line kept) c.is_same.ensures
