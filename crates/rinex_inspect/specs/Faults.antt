-- The fault of a command that reads a file: its name and what it carries, as words, and the device that failed at it.
-- The words agree with the manual page.
use Rattle.std.specs.Prelude.{ℕ, List, [], ◌∷◌, codes, decimal}
use Rattle.devices.specs.Devices.{Culprit, NoDevice, TheReader, TheWriter}
use Rattle.rinex_file.specs.declared.read.fault.ReadFault.{ReadFault}
use Rattle.rinex_file.specs.declared.read.fault.ReadFault.TheVariants as reading
use Rattle.rinex_inspect.specs.declared.fault.FileFault.{FileFault}
use Rattle.rinex_inspect.specs.declared.fault.FileFault.TheVariants as faults

-- a line of a file, counted from 1
abbrev pub read_words : ReadFault → List (List ℕ)
read_words reading.Memory = codes "Memory" ∷ []
read_words reading.Read = codes "Read" ∷ []
read_words (reading.BadHeader k) = codes "BadHeader" ∷ decimal k ∷ []
read_words (reading.BadEpoch k) = codes "BadEpoch" ∷ decimal k ∷ []
read_words (reading.BadEvent k) = codes "BadEvent" ∷ decimal k ∷ []
read_words (reading.BadSatellite k) = codes "BadSatellite" ∷ decimal k ∷ []
read_words (reading.CutShort k) = codes "CutShort" ∷ decimal k ∷ []
read_words reading.TooLong = codes "TooLong" ∷ []

abbrev pub file_words : FileFault → List (List ℕ)
file_words (faults.File e) = read_words e
file_words faults.Write = codes "Write" ∷ []
file_words (faults.OtherDay k) = codes "OtherDay" ∷ decimal k ∷ []

-- the device that failed at a fault
abbrev pub culprit : FileFault → Culprit
culprit (faults.File reading.Read) = TheReader
culprit faults.Write = TheWriter
culprit other = NoDevice
