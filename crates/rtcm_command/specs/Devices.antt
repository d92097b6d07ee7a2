-- The faults of a command: of what they are, and which device failed.
use Rattle.std.specs.Prelude.{◌≡◌, ℕ, List, Option, Result, Ok, Err}
use Rattle.devices.specs.Device.{Device}
use Rattle.devices.specs.Devices.{Changes, Culprit, Devices, NoDevice, Writer, Writes}
use Rattle.rtcm_convert.specs.Faults as conversion
use Rattle.rtcm_convert.specs.declared.fault.Fault.{Fault}
use Rattle.rtcm_inspect.specs.Devices as inspection
use Rattle.rtcm_inspect.specs.declared.fault.InspectFault.{InspectFault}
use Rattle.rinex_inspect.specs.Faults as of_files
use Rattle.rinex_inspect.specs.declared.fault.FileFault.{FileFault}
use Rattle.command_faults.specs.declared.fault.CommandFault.{CommandFault}
use Rattle.command_faults.specs.declared.fault.CommandFault.TheVariants as faults

-- the result of a command that reads a stream and doesn't convert it
abbrev pub of_inspection : {A : Type 0} → Result A InspectFault → Result A CommandFault
of_inspection (Ok x) = Ok x
of_inspection (Err e) = Err (faults.Inspect e)

-- the result of a command that reads a file
abbrev pub of_file : {A : Type 0} → Result A FileFault → Result A CommandFault
of_file (Ok x) = Ok x
of_file (Err e) = Err (faults.File e)

-- a conversion was stopped by this fault
abbrev pub IsOfConversion : (Fault → Type 0) → CommandFault → Type 0
IsOfConversion Stops fault = (e : Fault) × (fault ≡ faults.Convert e) × Stops e

-- the device that failed at a fault
abbrev pub culprit : CommandFault → Culprit
culprit (faults.Convert e) = conversion.culprit e
culprit (faults.Inspect e) = inspection.culprit e
culprit (faults.File e) = of_files.culprit e
culprit other = NoDevice

-- P relates the writer for faults and the devices, before and after
abbrev pub Runs : {R W E : Type 0} → (R → Option (List ℕ)) → (r r' : Device R) → (W → Option (List ℕ)) → (W → List ℕ)
    → (w w' : Device W) → (E → Option (List ℕ)) → (E → List ℕ) → (e e' : Device E)
    → ((e e' : Writer E) → (d d' : Devices R W) → Type 0) → Type 0
Runs remaining r r' contents waiting w w' printed unsent e e' P = Writes printed unsent e e' (λ e e'.
    Changes remaining r r' contents waiting w w' (P e e'))
