use Rattle.rtcm_msg.proofs.Names.{common_steps, ℕ, List, refl, ◌*◌, ◌∙◌, ap, arith, length, err_from_is_err_and, end_of_rows}
use Rattle.rtcm_msg.proofs.HeadLaws.{station_missing, station_whole}
use Rattle.rtcm_msg.proofs.station.view_station.Goals as goal

pub returns-in_err-end_of_fields : goal.returns-in_err-end_of_fields
returns-in_err-end_of_fields c =
    let p = err_from_is_err_and c.from_residual.result c.from_residual.ensures.1 in
    rw (p.1, p.2)
    (rw (station_missing c.args.bytes.now c.args.has_height _ c.requires.there (c.in_err-end_of_fields.ensures.exact ∙ ap (λ (ws : List ℕ). end_of_rows ws 1 (8 * length c.args.bytes.now) 12) (grind arith))) refl)

pub returns : goal.returns
returns c = grind (arith, common_steps, station_whole)
