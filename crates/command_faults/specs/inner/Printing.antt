-- The line of a fault on standard error, whose failures are ignored: it was e, and is e'.
use Rattle.std.specs.Prelude.{◌≡◌, Result, Ok, Err}
use Rattle.devices.specs.Devices.{Writer}
use Rattle.devices.specs.Printing.{PrintsLine}
use Rattle.command_faults.specs.ErrorLines.{error_line}
use Rattle.command_faults.specs.declared.fault.CommandFault.{CommandFault}

-- nothing was written after success, and the line of the fault at a fault
abbrev pub PrintsFault : {A E : Type 0} → Result A CommandFault → (e e' : Writer E) → Type 0
PrintsFault (Ok x) e e' = e' ≡ e
PrintsFault (Err fault) e e' = PrintsLine (error_line fault) e e'
