use Rattle.rtcm_command.proofs.ConvertLemmas.{ends_refused}
use Rattle.rtcm_command.proofs.Names.{◌≡◌, ◌∙◌, ap, nat_lt, report_line, subst, ℕ, List, Result, Ok, Err, BadSetup, Report, PrintsLine, options_of, CommandFault, devices_of, writer_of}
use Rattle.command_faults.specs.declared.fault.CommandFault.TheVariants as faults
use Rattle.rtcm_command.proofs.command.convert.Goals as goal

pub returns-in_err-setup : goal.returns-in_err-setup
returns-in_err-setup g c =
    ends_refused (devices_of g.R.Read.remaining g.W.Write.contents g.W.Deliver.waiting c.args.reader.now c.args.writer.now) (options_of c.args.options.now) c.from_residual.result c.in_err-setup.field-0.0 (writer_of g.E.Write.contents g.E.Deliver.waiting c.args.faults.now) c.from_residual.ensures.1 c.in_err-setup.ensures

pub returns : goal.returns
returns g c =
    let at = writer_of g.E.Write.contents g.E.Deliver.waiting in
    let end = c.in_ok-report.ensures in (
      end.ends.0,
      (
        c.in_ok-setup.setup,
        c.in_ok-report.report,
        c.in_ok-setup.ensures,
        (λ bad. let no : ◌≡◌ {A = Result Report CommandFault} (Ok c.in_ok-report.report) (Err (faults.Convert BadSetup)) = end.bad_setup.1 bad in cc),
        end.ends.1,
        subst (λ (t : List ℕ). PrintsLine t (at c.args.faults.now) (at c.print_line.new.faults)) (c.as_bytes.ensures.text ∙ c.report_line.ensures ∙ ap (λ (n : ℕ). report_line (nat_lt 0 n) c.in_ok-report.report) c.signals-has_glonass.ensures.count)
            c.print_line.ensures,
      ),
    )
