use Rattle.rinex_file.proofs.Rows.Columns.{apart_over, blank_after, left_over, line_shown, next_blank, places_are, same_columns}
use Rattle.rinex_file.proofs.Names.{arith, ◌∙◌, ap, sym, subst, ◌∷◌, ◌++◌, [], letter, number_of, padded, entries_of, satellite_line, HasColumns, IsBlankBut}
use Rattle.rinex_file.proofs.write.satellite.put_satellite_line.Goals.{After-blank_columns}
use Rattle.rinex_file.proofs.write.satellite.put_satellite_line.Goals as goal

-- the row has the values of the cells, and no others
shown : (c : After-blank_columns) → HasColumns 0 c.put_cells-own.result (entries_of c.args.plan.now c.args.system c.args.id c.args.cells.now) c.blank_columns.new.row
shown c =
    let used = c.args.used.now in
    let few = c.put_cells-own.ensures.few in
    c.blank_columns.ensures.columns _ _ (apart_over used _ c.requires.blank.few few) (left_over few (c.put_cells-own.ensures.columns used (same_columns c.begin_columns.ensures.rest c.requires.blank)))

pub end_columns-requires : goal.end_columns-requires
end_columns-requires c = let places = places_are c.put_cells-own.result c.put_cells-own.ensures.few in omega (arith, places.1)

pub returns-clause-text : goal.returns-clause-text
unfolding satellite_line
returns-clause-text c =
    let all = shown ((goal.at.returns-clause-text c).After-blank_columns) in
    let places = places_are c.put_cells-own.result c.put_cells-own.ensures.few in
    let front = c.blank_columns.ensures.front ∙ c.put_cells-own.ensures.front ∙ c.begin_columns.ensures.front in
    c.end_columns.ensures.text ∙ ap (λ t. t ++ 10 ∷ []) (line_shown all places.0 places.1 (letter c.args.system ∷ padded 2 (number_of c.args.system c.args.id)) front)

pub returns-clause-blank : goal.returns-clause-blank
returns-clause-blank c =
    let all = shown ((goal.at.returns-clause-blank c).After-blank_columns) in
    let few = c.put_cells-own.ensures.few in
    let places = places_are c.put_cells-own.result few in
    subst (IsBlankBut c.put_cells-own.result) (sym (c.end_columns.ensures.blank (blank_after all places.0 places.1))) (next_blank all places.0 places.1 few)
