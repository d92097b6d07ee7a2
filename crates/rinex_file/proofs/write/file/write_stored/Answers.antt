use Rattle.rinex_file.proofs.Writing.Stored.{epoch_whole, one_more}
use Rattle.rinex_file.proofs.Rows.Sizes.{all_values_fit}
use Rattle.rinex_file.proofs.Names.{◌∙◌, ◌++◌, refl, ap, ap₂, subst, sym, length, append-nil, List, All, flat_map, take_all, civil_of, joined, change_lines, epoch_line, satellite_line, HasRoom, SignalValues, SatelliteRow, Stamped, satellite_row, common_steps, arith}
use Rattle.rinex_file.proofs.write.file.write_stored.Goals.{After-as_slice-values}
use Rattle.rinex_file.proofs.write.file.write_stored.Goals as goal

pub loop-stored-init : goal.loop-stored-init
loop-stored-init c =
    let old = c.args.text.now.inner.items in
    let rows = c.as_slice-rows.result.now in
    c.in_ok-write_whole.ensures.written.whole ∙ ap₂ (λ a b. a ++ b) c.in_ok-write_change.ensures (c.as_slice.ensures.value ∙ c.epoch_line.ensures)
    ∙ ap (λ (e : Stamped). (old ++ joined (change_lines e.change)) ++ epoch_line (civil_of e.time) (length rows)) c.epoch.view_is ∙ sym (append-nil _)

-- the line has room for the satellite
room : (c : After-as_slice-values) → HasRoom (satellite_row c.stored.inside.system c.stored.inside.satellite c.stored.inside.signal_values.items)
room c = grind (arith, subst (All HasRoom) (sym (c.as_slice-rows.ensures.value ∙ ap (λ (e : Stamped). e.rows) c.epoch.view_is)) c.requires)

pub put_values-size-requires-clause-id : goal.put_values-size-requires-clause-id
put_values-size-requires-clause-id c = let (id, values, few) = room ((goal.at.put_values-size-requires-clause-id c).After-as_slice-values) in id

pub put_values-size-requires-clause-room : goal.put_values-size-requires-clause-room
put_values-size-requires-clause-room c = grind (arith, common_steps, all_values_fit, room ((goal.at.put_values-size-requires-clause-room c).After-as_slice-values))

pub put_values-size-requires-clause-few : goal.put_values-size-requires-clause-few
put_values-size-requires-clause-few c = grind (arith, common_steps, c.as_slice-values.ensures.value, room)

pub loop-stored-preserved : goal.loop-stored-preserved
loop-stored-preserved c =
    let row = ap (λ (es : List SignalValues). satellite_line (satellite_row c.stored.inside.system c.stored.inside.satellite es)) c.as_slice-values.ensures.value ∙ ap satellite_line c.stored.view_is in
    one_more satellite_line c.as_slice-rows.result.now c.loop-stored.stored-index _ c.loop-stored-test.true c.stored-item.is c.loop-stored.invariant
    (c.in_ok-write_whole-2.ensures.written.whole ∙ ap (λ l. c.loop-stored.text.inner.items ++ l) (c.put_values-size.ensures.text ∙ row))

pub returns : goal.returns
returns c =
    let rows = c.as_slice-rows.result.now in
    let e = c.args.epoch.now in
    epoch_whole c.args.text.now.inner.items refl (c.as_slice-rows.ensures.value ∙ ap (λ (e : Stamped). e.rows) c.epoch.view_is) refl refl refl
    (c.loop-stored.invariant ∙ ap (λ (r : List SatelliteRow). ((c.args.text.now.inner.items ++ joined (change_lines e.change)) ++ epoch_line (civil_of e.time) (length rows)) ++ flat_map satellite_line r) (take_all c.loop-stored.stored-index rows c.loop-stored-test.false))
