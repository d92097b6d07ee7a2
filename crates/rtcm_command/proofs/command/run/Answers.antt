use Rattle.rtcm_command.proofs.CommandLemmas.{ends_so, file_found, inspection_found, option_refused, sub_found}
use Rattle.rtcm_command.proofs.OptionLemmas.{bad_text, no_device, refused_complete, source_fault}
use Rattle.rtcm_command.proofs.Names.{culprit, HaveFailedBy, CommandFault, ◌∙◌, inl, inr, refl, sym, devices_of, options_of, writer_of}
use Rattle.rtcm_command.proofs.command.run.Goals as goal

pub returns-in-frames : goal.returns-in-frames
returns-in-frames g c =
    inspection_found _ _ _ c.run_frames.result c.of_inspection.ensures (sub_found _ c.in-Some.ensures.name c.in-Some.ensures.rows) (inl (c.in-frames.is, c.run_frames.ensures))

pub returns-in-show : goal.returns-in-show
returns-in-show g c =
    inspection_found _ _ _ c.list-listed.result c.of_inspection-in-show.ensures (sub_found _ c.in-Some.ensures.name c.in-Some.ensures.rows)
    (inr (inl (c.in-show.is, rw (sym c.has_flag.ensures ∙ c.if-has_flag.true) c.list-listed.ensures)))

pub returns-in-show-2 : goal.returns-in-show-2
returns-in-show-2 g c =
    inspection_found _ _ _ c.run_show.result c.of_inspection-in-show-2.ensures (sub_found _ c.in-Some.ensures.name c.in-Some.ensures.rows)
    (inr (inl (c.in-show.is, rw (sym c.has_flag.ensures ∙ c.if-has_flag.false) c.run_show.ensures)))

pub returns-in-signals : goal.returns-in-signals
returns-in-signals g c =
    inspection_found _ _ _ c.run_signals.result c.of_inspection-in-signals.ensures (sub_found _ c.in-Some.ensures.name c.in-Some.ensures.rows) (inr (inr (inl (c.in-signals.is, (c.station_of.result, c.station_of.ensures, c.run_signals.ensures)))))

pub returns-in_ok-source-in-options : goal.returns-in_ok-source-in-options
returns-in_ok-source-in-options g c =
    inspection_found _ _ _ c.run_options.result c.of_inspection-in-options.ensures (sub_found _ c.in-Some.ensures.name c.in-Some.ensures.rows)
    (inr (inr (inr (c.in-options.is, (c.station_of-in-options.result, c.station_of-in-options.ensures, (c.in_ok-source-in-options.source, c.in_ok-source-in-options.ensures, c.run_options.ensures))))))

pub returns-in-convert : goal.returns-in-convert
returns-in-convert g c =
    (_, _, sub_found _ c.in-Some.ensures.name c.in-Some.ensures.rows, ends_so c.convert.result _ _ (λ x h. inl (c.in-convert.is, h)) (λ f h. (inl (c.in-convert.is, h.0), h.1)) c.convert.ensures)

pub returns-in_ok-complete-in-check : goal.returns-in_ok-complete-in-check
returns-in_ok-complete-in-check g c =
    file_found _ _ _ c.run_check_with.result c.of_file.ensures (sub_found _ c.in-Some.ensures.name c.in-Some.ensures.rows)
    (inl (c.in-check.is, (c.in_ok-complete-in-check.complete, c.in_ok-complete-in-check.ensures, rw (← c.has_flag-times.ensures) c.run_check_with.ensures.ends)))

pub returns-in_ok-every-in-quality : goal.returns-in_ok-every-in-quality
returns-in_ok-every-in-quality g c =
    let found = sub_found _ c.in-Some.ensures.name c.in-Some.ensures.rows in
    file_found _ _ _ c.run_quality.result c.of_file-in-quality.ensures found
    (inr (c.in-quality.is, (c.in_ok-every-in-quality.every, c.in_ok-every-in-quality.ensures, c.run_quality.ensures.ends)))

pub returns-in_err-source-in-options : goal.returns-in_err-source-in-options
returns-in_err-source-in-options g c =
    let d = devices_of g.R.Read.remaining g.W.Write.contents g.W.Deliver.waiting c.args.reader.now c.args.writer.now in
    let refused = c.in_err-source-in-options.ensures in
    let none = source_fault (λ (f : CommandFault). HaveFailedBy (culprit f) d d) (options_of c.in-Some.options.now) c.in_err-source-in-options.field-0.0 (refl, refl) (refl, refl) refused in
    option_refused d (writer_of g.E.Write.contents g.E.Deliver.waiting c.args.faults.now) c.from_residual.result c.from_residual.ensures.1 (sub_found _ c.in-Some.ensures.name c.in-Some.ensures.rows) refl none (inr (inr (inr (inl (c.in-options.is, refused, (refl, refl))))))

pub returns-in_err-complete-in-check : goal.returns-in_err-complete-in-check
returns-in_err-complete-in-check g c =
    let d = devices_of g.R.Read.remaining g.W.Write.contents g.W.Deliver.waiting c.args.reader.now c.args.writer.now in
    let set = c.in_err-complete-in-check.ensures in
    option_refused d (writer_of g.E.Write.contents g.E.Deliver.waiting c.args.faults.now) c.from_residual-in_err-complete-in-check.result c.from_residual-in_err-complete-in-check.ensures.1 (sub_found _ c.in-Some.ensures.name c.in-Some.ensures.rows) refl (no_device c.in_err-complete-in-check.field-0.0 d (refused_complete (options_of c.in-Some.options.now) c.in_err-complete-in-check.field-0.0 set)) (inr (inr (inr (inr (inl (c.in-check.is, set), (refl, refl))))))

pub returns-in_err-every-in-quality : goal.returns-in_err-every-in-quality
returns-in_err-every-in-quality g c =
    let found = sub_found _ c.in-Some.ensures.name c.in-Some.ensures.rows in
    let d = devices_of g.R.Read.remaining g.W.Write.contents g.W.Deliver.waiting c.args.reader.now c.args.writer.now in
    let set = c.in_err-every-in-quality.ensures in
    option_refused d (writer_of g.E.Write.contents g.E.Deliver.waiting c.args.faults.now) c.from_residual-in_err-every-in-quality.result c.from_residual-in_err-every-in-quality.ensures.1 found (bad_text set) (refl, refl) (inr (inr (inr (inr (inr (c.in-quality.is, set), (refl, refl))))))
