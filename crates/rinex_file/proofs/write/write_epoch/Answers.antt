use Rattle.rinex_file.proofs.Writing.Sent.{epoch_parts}
use Rattle.rinex_file.proofs.Names.{all_written, more_written, none_written, part_written, ◌≡◌, ◌∙◌, [], append-nil, ap₂, refl, sym, ℕ, List, civil_of, epoch_line}
use Rattle.rinex_file.proofs.write.write_epoch.Goals as goal

first_line : {line buffer : List ℕ} {t n time count : ℕ} → line ≡ buffer → buffer ≡ epoch_line (civil_of t) n → t ≡ time → n ≡ count → line ≡ epoch_line (civil_of time) count
first_line {t} {n} is text at many = is ∙ text ∙ ap₂ (λ t n. epoch_line (civil_of t) n) at many

pub returns-in_err-write_whole-clause-written : goal.returns-in_err-write_whole-clause-written
returns-in_err-write_whole-clause-written g c =
    let line = first_line c.as_slice.ensures.value c.put_epoch.ensures c.time.ensures c.satellites.ensures.count in
    part_written _ _ c.from_residual.result c.from_residual.ensures.1 (none_written g.W.Write.contents c.args.writer.now _) (epoch_parts c.args.plan.now c.args.epoch.now.epoch) line c.in_err-write_whole.ensures.written

pub returns-in_err-write_systems-clause-written : goal.returns-in_err-write_systems-clause-written
returns-in_err-write_systems-clause-written g c =
    let line = first_line c.as_slice.ensures.value c.put_epoch.ensures c.time.ensures c.satellites.ensures.count in
    let first = more_written (none_written g.W.Write.contents c.args.writer.now _) (epoch_parts c.args.plan.now c.args.epoch.now.epoch) line c.in_ok-write_whole.ensures.written in
    part_written [] _ c.from_residual-in_err-write_systems.result c.from_residual-in_err-write_systems.ensures.1 first (sym (append-nil _)) refl c.in_err-write_systems.ensures

pub returns-clause-written : goal.returns-clause-written
returns-clause-written g c =
    let line = first_line c.as_slice.ensures.value c.put_epoch.ensures c.time.ensures c.satellites.ensures.count in
    let first = more_written (none_written g.W.Write.contents c.args.writer.now _) (epoch_parts c.args.plan.now c.args.epoch.now.epoch) line c.in_ok-write_whole.ensures.written in
    all_written (more_written first (sym (append-nil _)) refl c.in_ok-write_systems.ensures)
