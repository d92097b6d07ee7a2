-- The end of a check of a file.
use Rattle.rinex_inspect.proofs.Names.{arith, common_steps, Printed, ◌≡◌, inr, sym, subst, ℕ, List, Option, Result, Ok, Err, IfSome, IsNoFault, FileValue, file_text, IsFileValue, ReadFault, ⊤, IsErrAnd, Keeps, FileFault, IsCheckedOr, passed, Devices, Writer, EndsCheck, WriterFailures, CheckOptions, IsOutput, culprit, AreInside, times_in}
use Rattle.rinex_inspect.specs.declared.fault.FileFault.TheVariants as faults

-- what holds for all bytes holds for known ones
pub where_known : (Q : List ℕ → Type 0) (r : Option (List ℕ)) → ((input : List ℕ) → Q input) → IfSome r Q
where_known Q r step = grind (arith, common_steps)

-- a fault of reading is one of checking
pub refused : (o : CheckOptions) (v : FileValue) (e : ReadFault) (w w' : Option (List ℕ)) → IsNoFault e → IsCheckedOr o v (Err (faults.File e)) w w'
refused o v e w w' h = grind (arith, common_steps)

-- the writer didn't fail
pub none_written : (e : ReadFault) (before after : ℕ) → after ≡ before → WriterFailures (culprit (faults.File e)) before after
none_written e before after same = grind (arith, common_steps)

-- the output of a file was written, or a part of it
pub checked : {R W : Type 0} {out : List ℕ} (o : CheckOptions) (d d2 : Devices R W) (ended : Result ⊤ FileFault)
    → ((v : FileValue) × IsFileValue v × IfSome d.reader.unread (λ input. input ≡ file_text v) × AreInside o.complete (times_in v.epochs) × IsOutput o v out) → d2.reader.device.failures ≡ d.reader.device.failures → Printed faults.Write ended d.writer d2.writer out
    → EndsCheck o ended d d2
checked {out = out} o d d2 (Ok u) f same p = ((same, p.ends.0, p.ends.1), (f.0, f.1, f.2, f.3, (out, f.4, p.ends.2)))
checked {out = out} o d d2 (Err fault) f same p =
    subst (λ (f : FileFault). EndsCheck {A = ⊤} o (Err f) d d2) (sym p.ends.0) ((same, p.ends.1.0), inr (inr (f.0, f.1, f.2, f.3, (out, f.4, p.ends.1.1))))

-- the same for each file value that was read
pub checked_or : {W : Type 0} {out : List ℕ} {w w2 : Writer W} (o : CheckOptions) (ended : Result ⊤ FileFault) (v : FileValue) → AreInside o.complete (times_in v.epochs) → IsOutput o v out
    → Printed faults.Write ended w w2 out → IsCheckedOr o v ended w.written w2.written
checked_or {out = out} o (Ok u) v inside of p = (inside, (out, of, p.ends.2))
checked_or {out = out} {w} {w2} o (Err fault) v inside of p = subst (λ (f : FileFault). IsCheckedOr o v (Err f) w.written w2.written) (sym p.ends.0) (inr (out, of, p.ends.1.1))

-- the same if the writer failed before anything was read
pub kept_first : {fault : FileFault} (o : CheckOptions) (w w2 : Option (List ℕ)) (ended : Result ⊤ FileFault) (v : FileValue) → IsErrAnd ended (λ y. y ≡ fault) → fault ≡ faults.Write → Keeps w w2
    → IsCheckedOr o v ended w w2
kept_first {fault} o w w2 ended v is write kept = grind (arith, common_steps, passed)
