use Rattle.rtcm_msg.proofs.Names.{ℕ, ◌≡◌, Bool, List, arith, sym, subst, ones-le, err_from_is_err_and, System, Cursor, MsmHeader, Form, MasksValue, pair_count}
use Rattle.rtcm_msg.proofs.ViewLaws.{AfterMasks, Found, first_short, second_short, whole, are_within}
use Rattle.rtcm_msg.proofs.view.view_msm.Goals as goal

-- The message by the place of its cells in the view.
abbrev placed : {form : Form} {g : System} {bits : List Bool} {c : Cursor} {h : MsmHeader} {s : MasksValue} {n place m at q : ℕ} → q ≡ at → Found form g bits c h s n place m at → Found form g bits c h s n place m q
placed {form} {g} {bits} {c} {h} {s} {n} {place} {m} e f = subst (λ (x : ℕ). Found form g bits c h s n place m x) (sym e) f

pub returns-in_err-cells_at : goal.returns-in_err-cells_at
returns-in_err-cells_at c =
    let p = err_from_is_err_and c.from_residual-in_err-cells_at.result c.from_residual-in_err-cells_at.ensures.1 in
    let head : AfterMasks c.args.system c.args.bytes.now c.in_ok-header.header c.in_ok-header.masks c.in_ok-header.satellites_at = record { header = c.in_ok-header.ensures.read.0; masks = c.in_ok-header.ensures.read.1; there = c.in_ok-header.ensures.within.1 } in
    rw (p.1, p.2) (first_short c.args.form c.args.system head c.widths.ensures.satellites c.satellites.ensures c.in_err-cells_at.ensures.exact)

pub returns-in_err-end_of_data : goal.returns-in_err-end_of_data
returns-in_err-end_of_data c =
    let p = err_from_is_err_and c.from_residual-in_err-end_of_data.result c.from_residual-in_err-end_of_data.ensures.1 in
    let head : AfterMasks c.args.system c.args.bytes.now c.in_ok-header.header c.in_ok-header.masks c.in_ok-header.satellites_at = record { header = c.in_ok-header.ensures.read.0; masks = c.in_ok-header.ensures.read.1; there = c.in_ok-header.ensures.within.1 } in
    rw (p.1, p.2) (second_short c.args.system head (record { satellite_fields = c.widths.ensures.satellites; cell_fields = c.widths.ensures.cells; satellites = c.satellites.ensures; cells = c.cells.ensures.value })
    c.in_ok-cells_at.ensures.exact c.in_ok-cells_at.ensures.within.there c.in_err-end_of_data.ensures.exact)

pub invariant_of-result : goal.invariant_of-result
invariant_of-result c =
    let head : AfterMasks c.args.system c.args.bytes.now c.in_ok-header.header c.in_ok-header.masks c.in_ok-header.satellites_at = record { header = c.in_ok-header.ensures.read.0; masks = c.in_ok-header.ensures.read.1; there = c.in_ok-header.ensures.within.1 } in
    let here = placed c.last_bits.ensures.place
    (whole head (record { satellite_fields = c.widths.ensures.satellites; cell_fields = c.widths.ensures.cells; satellites = c.satellites.ensures; cells = c.cells.ensures.value })
    c.in_ok-cells_at.ensures.exact c.in_ok-cells_at.ensures.within.there c.in_ok-end_of_data.ensures.exact c.in_ok-end_of_data.ensures.within.there c.in_ok-header.ensures.is_header c.cells.ensures.sets) in (
      here.value,
      record {
        satellites_few = rw c.satellites.ensures (ones-le 64 c.in_ok-header.masks.satellites c.cells.ensures.sets.satellites);
        cells_few = rw c.cells.ensures.value (let few = ones-le (pair_count c.in_ok-header.masks.satellites c.in_ok-header.masks.signals) c.in_ok-header.masks.cells c.cells.ensures.sets.cells in omega (arith, few, c.cells.ensures.sets.few));
        there = are_within c.args.bytes.now c.requires.small (omega (arith, c.in_ok-header.ensures.within.0)) here.order here.satellites_there here.cells_there c.last_bits.ensures.count c.last_bits.ensures.last;
      },
    )

pub returns : goal.returns
returns c =
    let head : AfterMasks c.args.system c.args.bytes.now c.in_ok-header.header c.in_ok-header.masks c.in_ok-header.satellites_at = record { header = c.in_ok-header.ensures.read.0; masks = c.in_ok-header.ensures.read.1; there = c.in_ok-header.ensures.within.1 } in
    (placed c.last_bits.ensures.place
    (whole head (record { satellite_fields = c.widths.ensures.satellites; cell_fields = c.widths.ensures.cells; satellites = c.satellites.ensures; cells = c.cells.ensures.value })
    c.in_ok-cells_at.ensures.exact c.in_ok-cells_at.ensures.within.there c.in_ok-end_of_data.ensures.exact c.in_ok-end_of_data.ensures.within.there c.in_ok-header.ensures.is_header c.cells.ensures.sets)).read
