use Rattle.rinex_file.proofs.FileLines.{lines_are_lines, lines_are_short}
use Rattle.rinex_file.proofs.Reading.Header.{text_header}
use Rattle.rinex_file.proofs.Reading.Lines.{only_stored, out_of_memory, said_of}
use Rattle.rinex_file.specs.declared.read.fault.ReadFault.TheVariants.{Memory}
use Rattle.rinex_file.proofs.Names.{◌≡◌, arith, common_steps, ok_or, subst, sym, FileValue, HasHeader, IfSome, IsReadOr, Option}
use Rattle.rinex_file.proofs.read.file.read_file.Goals as goal

pub returns-in-Ok-clause-fault : goal.returns-in-Ok-clause-fault
returns-in-Ok-clause-fault g c =
    let (has, only) = c.in-Ok.ensures.epochs in
    let begins = said_of (g.R.Read.remaining c.args.reader.now.inner) _ HasHeader (λ bytes same. subst HasHeader (sym same) (text_header has.v has.is)) has.text in
    grind (arith, common_steps, out_of_memory _ begins, c.ok_or.ensures)

-- the file, or a fault if memory ran out
read_or : (o : Option FileValue) (file v : FileValue) → IfSome o (λ f. f ≡ file) → v ≡ file → IsReadOr v (ok_or o Memory)
read_or o file v some same = grind (arith, common_steps)

pub returns-in-Ok-clause-only : goal.returns-in-Ok-clause-only
returns-in-Ok-clause-only g c = λ v is few.
    said_of (g.R.Read.remaining c.args.reader.now.inner) _ _ (λ bytes h same. rw c.ok_or.ensures.value (read_or c.file_of.result _ v c.file_of.ensures (h same).1)) (c.in-Ok.ensures.epochs.1 v is few)

pub returns-in-Err-clause-only : goal.returns-in-Err-clause-only
returns-in-Err-clause-only g c = λ v is few. only_stored lines_are_lines lines_are_short _ c.in-Err.fault v c.in-Err.ensures.epochs is few
