use Rattle.rinex_file.proofs.Rows.Columns.{columns_put, front_kept}
use Rattle.rinex_file.proofs.Names.{arith, ◌≡◌, ◌+◌, ◌*◌, ◌-◌, length, most_line}
use Rattle.rinex_file.proofs.write.satellite.put_columns.Goals as goal

pub returns-clause-columns : goal.returns-clause-columns
returns-clause-columns c all room less columns =
    let wide : 3 + 64 * c.args.place + 64 - (3 + 64 * c.args.place) ≡ 64 = omega arith in
    let size : length c.args.row.now ≡ most_line = omega arith in
    columns_put c.args.row.now c.put_signal.new.columns c.args.place all c.args.values.now (omega (arith, size)) wide c.put_signal.ensures.text room less columns

pub returns-clause-front : goal.returns-clause-front
returns-clause-front c = grind (arith, c.requires.few, front_kept)
