-- The meaning of the exit status.
use Rattle.rtcm_command.proofs.Names.{common_steps, IfSome, string_bytes, Global, String, refusal_line, ◌≡◌, ◌∙◌, inl, inr, refl, sym, subst, codes, ap, option_map, ℕ, List, Option, Some, Result, Ok, Err, arith, ⊤, ◌≢◌, IsCommand, box_value, option_map_or, Box, subcommand_rows, subcommand_rows_of, Row, Text, out-SubCommand, SubCommand, kind_of, Error, ArgMatches, AreFine, AreUntouched, Devices, EndsInspection, Reader, Writer, culprit, SelectsCommand, IsFoundIn, RefusesWords, FailsParsing, AreRefused, AreRefusedBy, EndsCommand, EndsFound, HasCommand, HasCompleted, HasDone, HasStopped, HasStoppedEarly, StopsPrinting, fault_status, status_of, error_line, length, lit<, ◌<◌, PrintsLine, PrintsSome, PrintsFault, InspectFault, Ends, of_inspection, EndsOnFile, FileFault, of_file, CommandFault, HaveFailedBy, IsErrAnd, passed}
use Rattle.clap.specs.declared.error.kind.ErrorKind.TheVariants as kind
use Rattle.rinex_inspect.specs.Faults as of_files
use Rattle.rtcm_inspect.specs.Devices as inspection
use Rattle.command_faults.specs.declared.fault.CommandFault.TheVariants as faults

-- if the error is the version's text, the words ask for the version
pub is_version : (words : List Text) (e : Error) → RefusesWords words e → kind_of e ≡ kind.DisplayVersion → FailsParsing words kind.DisplayVersion
is_version words e (inl memory) version = grind (arith, common_steps)
is_version words e (inr answered) version = subst (FailsParsing words) version answered

one_two : ◌≡◌ {A = ℕ} 1 2 → ⊥
one_two e = omega (arith, e)

never_zero : (fault : CommandFault) → fault_status fault ≡ 0 → ⊥
never_zero fault e = grind (arith, common_steps)

-- the end of a command in other terms
pub ends_so : {A R W : Type 0} {P Q : A → Type 0} {S T : CommandFault → Type 0} (ended : Result A CommandFault) (d d2 : Devices R W) → ((x : A) → P x → Q x) → ((fault : CommandFault) → S fault → T fault)
    → Ends culprit ended d d2 P S → Ends culprit ended d d2 Q T
ends_so ended d d2 done stopped h = grind (arith, common_steps)

module _ {R W : Type 0} (n : Text) (o : List Row) (d d2 : Devices R W) where
  inspection_fine : EndsInspection (Ok tt) n o d d2 → AreFine d d2
  inspection_fine h = grind (arith, common_steps)

  inspection_failed : (e : InspectFault) → EndsInspection (Err e) n o d d2 → HaveFailedBy (inspection.culprit e) d d2
  inspection_failed e h = grind (arith, common_steps)

  ends_inspected : {E : Type 0} (ended : Result ⊤ InspectFault) (e : Writer E) → EndsInspection ended n o d d2 → EndsCommand (of_inspection ended) n o e e d d2
  ends_inspected (Ok u) e h = (inspection_fine h, inr (inl h, refl))
  ends_inspected (Err f) e h = (inspection_failed f h, (inr (inl (f, refl, h)), refl))

  file_fine : EndsOnFile (Ok tt) n o d d2 → AreFine d d2
  file_fine h = grind (arith, common_steps)

  file_failed : (e : FileFault) → EndsOnFile (Err e) n o d d2 → HaveFailedBy (of_files.culprit e) d d2
  file_failed e h = grind (arith, common_steps)

  ends_on_file : {E : Type 0} (ended : Result ⊤ FileFault) (e : Writer E) → EndsOnFile ended n o d d2 → EndsCommand (of_file ended) n o e e d d2
  ends_on_file (Ok u) e h = (file_fine h, inr (inr h, refl))
  ends_on_file (Err f) e h = (file_failed f h, (inr (inr (inl (f, refl, h))), refl))

pub has_command : (words : List Text) (m : ArgMatches) → IsFoundIn words m → HasCommand m
has_command words m found = (found.0, found.1, found.2, found.3)

-- a subcommand by its name and its options
pub sub_found : {Z : Type 0} {n : Text} {o : List Row} (sub : Option (Box SubCommand Z)) → Some n ≡ option_map (λ b. (out-SubCommand (box_value b)).name.now) sub
    → Some o ≡ option_map (λ p. p.1) (subcommand_rows sub) → subcommand_rows sub ≡ Some (n, o)
sub_found sub h h' = grind (arith, common_steps)

no_other : (n : Text) → IsCommand n → (n ≢ codes "frames") → (n ≢ codes "show") → (n ≢ codes "signals") → (n ≢ codes "options") → (n ≢ codes "convert") → (n ≢ codes "check") → (n ≢ codes "quality") → ⊥
no_other n h f s g p v c q = grind (arith, common_steps)

-- the command that was found is one of these
pub is_named : {n : Text} {o : List Row} (m : ArgMatches) → HasCommand m → subcommand_rows_of m ≡ Some (n, o) → (n ≢ codes "frames") → (n ≢ codes "show") → (n ≢ codes "signals") → (n ≢ codes "options") → (n ≢ codes "convert")
    → (n ≢ codes "check") → (n ≢ codes "quality") → ⊥
is_named {n} m (name, options, one, found) rows = no_other n (subst IsCommand (ap (λ (x : Option (Text × List Row)). option_map_or (λ p. p.0) x n) (sym found ∙ rows)) one)

-- how a command that reads a stream and doesn't convert it ended
pub inspection_found : {R W E : Type 0} {ended : Result ⊤ CommandFault} {rows : Option (Text × List Row)} {n : Text} {o : List Row} (d d2 : Devices R W) (e : Writer E) (inspection : Result ⊤ InspectFault) → ended ≡ of_inspection inspection → rows ≡ Some (n, o)
    → EndsInspection inspection n o d d2 → EndsFound ended rows e e d d2
inspection_found {n = n} {o} d d2 e inspection same found h = grind (arith, common_steps, ends_inspected)

-- how a command that reads a file ended
pub file_found : {R W E : Type 0} {ended : Result ⊤ CommandFault} {rows : Option (Text × List Row)} {n : Text} {o : List Row} (d d2 : Devices R W) (e : Writer E) (read : Result ⊤ FileFault) → ended ≡ of_file read → rows ≡ Some (n, o)
    → EndsOnFile read n o d d2 → EndsFound ended rows e e d d2
file_found {n = n} {o} d d2 e read same found h = grind (arith, common_steps, ends_on_file)

-- an option of a command is refused, and nothing is read or written
pub option_refused : {R W E : Type 0} {rows : Option (Text × List Row)} {n : Text} {o : List Row} {fault known : CommandFault} (d : Devices R W) (e : Writer E) (ended : Result ⊤ CommandFault) → IsErrAnd ended (λ y. y ≡ fault) → rows ≡ Some (n, o)
    → fault ≡ known → HaveFailedBy (culprit known) d d → HasStopped n o d d fault → EndsFound ended rows e e d d
option_refused {n = n} {o} {fault} d e ended is found same none stopped =
    (n, o, found, passed ended fault (λ r. EndsCommand r n o e e d d) is (subst (λ (f : CommandFault). HaveFailedBy (culprit f) d d) (sym same) none, (stopped, refl)))

-- a command that was found twice is the same
asked : {found : Option (Text × List Row)} {n n2 : Text} {o o2 : List Row} (words : List Text) → found ≡ Some (n, o) → found ≡ Some (n2, o2) → SelectsCommand words n o → SelectsCommand words n2 o2
asked words p q a = (a.0, a.1, a.2, a.3 ∙ sym p ∙ q)

-- a fault that was printed after the command, which prints none
printed_after : {E : Type 0} (e e1 e2 : Writer E) (text : List ℕ) → e1 ≡ e → PrintsLine text e1 e2 → PrintsLine text e e2
printed_after {E = E} e e1 e2 text same h = subst (λ (x : Writer E). PrintsLine text x e2) same h

-- a command that the words ask for: the writer for faults was e, was e1 when the command ended, and is e2 at the end
pub record Served {R W E : Type 0} (d d2 : Devices R W) (e e1 e2 : Writer E) (words : List Text) (m : ArgMatches) (ended : Result ⊤ CommandFault) (status : ℕ) : Type 0 where
  pub is : status ≡ status_of ended
  pub line : PrintsFault ended e1 e2
  pub found : IsFoundIn words m
  pub end : EndsFound ended (subcommand_rows_of m) e e1 d d2

module _ {R W E : Type 0} {d d2 : Devices R W} {e e1 e2 : Writer E} {words : List Text} {m : ArgMatches} {status : ℕ} where
  asks : (ended : Result ⊤ CommandFault) (s : Served d d2 e e1 e2 words m ended status) → SelectsCommand words s.end.0 s.end.1
  asks ended s = asked words s.found.3 s.end.2 s.found.4

  pub served : (ended : Result ⊤ CommandFault) → Served d d2 e e1 e2 words m ended status → status ≡ 0 → HasCompleted words e e2 d d2
  served (Ok u) s zero =
      let end = s.end in
      inl (end.0, end.1, asks (Ok u) s, end.3.0, subst (λ (x : Writer E). HasDone end.0 end.1 e x d d2) (sym s.line) end.3.1)
  served (Err fault) s zero = absurd (never_zero fault (sym s.is ∙ zero))

  pub failed_to_serve : (ended : Result ⊤ CommandFault) → Served d d2 e e1 e2 words m ended status → status ≡ 1 → HasStoppedEarly words e e2 d d2
  failed_to_serve (Ok u) s one = absurd (let bad : 0 ≡ 1 = sym s.is ∙ one in omega (arith, bad))
  failed_to_serve (Err fault) s one =
      let end = s.end in
      inl (end.0, end.1, fault, asks (Err fault) s, sym s.is ∙ one, end.3.0, end.3.1.0, printed_after e e1 e2 (error_line fault) end.3.1.1 s.line)

pub answered_in_part : {R W E : Type 0} (d d2 : Devices R W) (e e2 : Writer E) (words : List Text) (error : Error) → RefusesWords words error → d2.reader ≡ d.reader → StopsPrinting (kind_of error) e e2 d.writer d2.writer
    → HasStoppedEarly words e e2 d d2
answered_in_part d d2 e e2 words error refused same (inl memory) = inr (inr ((ap (λ (r : Reader _). r.device) same, memory.1), memory.2))
answered_in_part d d2 e e2 words error refused same (inr part) = inr (inl (is_version words error refused part.0, same, part.1, part.2))

-- the line of `Memory` isn't empty
pub memory_line : 0 < length (error_line faults.Memory)
unfolding error_line
memory_line = lit< tt

-- what is printed of a refusal isn't empty
refusal_some : (text : Option (String Global)) → IfSome text (λ t. 0 < length (string_bytes t)) → 0 < length (refusal_line (option_map string_bytes text))
refusal_some text some = grind (arith, common_steps, memory_line)

pub refusal_printed : {E : Type 0} (e e2 : Writer E) (text : Option (String Global)) → IfSome text (λ t. 0 < length (string_bytes t))
    → PrintsLine (refusal_line (option_map string_bytes text)) e e2 → PrintsSome e e2
refusal_printed e e2 text some line = (refusal_line (option_map string_bytes text), refusal_some text some, line)

-- a command with status 2 is refused before anything is read
refused_by : {R W : Type 0} (d d2 : Devices R W) (name : Text) (options : List Row) (fault : CommandFault) → fault_status fault ≡ 2 → HasStopped name options d d2 fault → AreRefusedBy name options fault × AreUntouched d d2
refused_by d d2 name options fault two h = grind (arith, common_steps, one_two)

pub refused_at_two : {R W E : Type 0} {d d2 : Devices R W} {e e1 e2 : Writer E} {words : List Text} {m : ArgMatches} {status : ℕ} (ended : Result ⊤ CommandFault) → Served d d2 e e1 e2 words m ended status → status ≡ 2
    → AreRefused words e e2 × AreUntouched d d2
refused_at_two (Ok u) s two = absurd (let bad : 0 ≡ 2 = sym s.is ∙ two in omega (arith, bad))
refused_at_two {d = d} {d2} {e} {e1} {e2} (Err fault) s two =
    let end = s.end in
    let same : fault_status fault ≡ 2 = sym s.is ∙ two in
    let refused = refused_by d d2 end.0 end.1 fault same end.3.1.0 in
    (inr (end.0, end.1, fault, asks (Err fault) s, refused.0, same, printed_after e e1 e2 (error_line fault) end.3.1.1 s.line), refused.1)

pub refused_words : {E : Type 0} (e e2 : Writer E) (words : List Text) (error : Error) → RefusesWords words error → (kind_of error ≢ kind.DisplayVersion) → (kind_of error ≢ kind.OutOfMemory)
    → PrintsSome e e2 → AreRefused words e e2
refused_words e e2 words error (inl memory) version some text = absurd (some memory)
refused_words e e2 words error (inr answered) version some text = inl (kind_of error, answered, version, text)
