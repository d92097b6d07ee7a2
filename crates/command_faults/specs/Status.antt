-- The exit status.
use Rattle.std.specs.Prelude.{ℕ, Result, Ok, Err}
use Rattle.command_faults.specs.declared.fault.CommandFault.{CommandFault}
use Rattle.command_faults.specs.declared.fault.CommandFault.TheVariants as faults

-- the exit status of a fault: 1 if memory ran out, for a text of the header or a plan that is refused, and if the command
-- stopped; 2 if not one of two options or not all of three are given, and for any other invalid option
abbrev pub fault_status : CommandFault → ℕ
fault_status faults.Memory = 1
fault_status (faults.Header e) = 1
fault_status (faults.Plan e) = 1
fault_status (faults.Convert e) = 1
fault_status (faults.Inspect e) = 1
fault_status (faults.File e) = 1
fault_status other = 2

-- the exit status of a command with this result
abbrev pub status_of : {A : Type 0} → Result A CommandFault → ℕ
status_of (Ok x) = 0
status_of (Err fault) = fault_status fault
