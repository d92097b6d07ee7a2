use Rattle.command_line.proofs.CommandLineLemmas.{versioned, why}
use Rattle.command_line.proofs.AcceptedLemmas.{found_command}
use Rattle.command_line.proofs.NeededLemmas.{rows_fit}
use Rattle.command_line.proofs.Names.{◌∙◌, inl, inr, map, option_map, ap, subst, refl, IfErr-weaker, IsAmong, App, IsProgram, Text, app_of, texts, kind_of, program, start_of, needed_set, with_commands}
use Rattle.command_line.proofs.cli.parse.Goals as goal

pub returns : goal.returns
returns c =
    let rows = c.program_rows.ensures in
    let all = program rows.0 rows.1 in
    let is : IsProgram all = (rows.0, rows.1, rows.2, rows.3, refl) in
    let words = texts c.args.words.now in
    let sets = map (needed_set (option_map (λ n. n.now) c.asked.result)) c.program_rows.result.1 in
    let same = c.in_ok-program.ensures
    ∙ ap (λ (a : App). with_commands a sets) (versioned _ _ _ c.version.ensures c.subcommand_required-start.ensures c.described.ensures)
    ∙ ap (λ (name : Text). with_commands (start_of name) sets) rows.4 in
    let fits = rows_fit (app_of c.in_ok-program.program) rows.0 rows.1 _ c.asked.result words rows.5 c.asked.ensures same in
    let parse = c.try_get_matches_from in
    record {
      asked = found_command (app_of c.in_ok-program.program) all words parse.result is fits.1 fits.0 (parse.ensures.kinds fits.0) parse.ensures.matches;
      refused = IfErr-weaker parse.result _ _ (λ e h. elim h [
        | inl memory ↦ inl memory
        | inr among ↦ inr (all, is, subst (IsAmong (kind_of e)) fits.1.0 among)
      ]) (why _ parse.result (parse.ensures.kinds fits.0));
    }
