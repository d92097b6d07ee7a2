-- What the command `convert` has read and written: the devices were d and are d', and the writer for faults was e and is
-- e'.
use Rattle.std.specs.Prelude.{◌≡◌, ◌⊎◌, ℕ, List, Option, Result, IfSome, []}
use Rattle.rtcm_convert.specs.SetupValues.{IsBad}
use Rattle.rtcm_convert.specs.declared.setup.Setup.{Setup}
use Rattle.rtcm_convert.specs.Made.{IsMadeEmpty, IsMadeWith, IsMadeToLimit, IsMadeSoFar, IsMadeInPart}
use Rattle.devices.specs.Devices.{AreUntouched, Devices, Ends, Writer}
use Rattle.rtcm_convert.specs.declared.fault.Fault.{Fault}
use Rattle.rtcm_convert.specs.declared.fault.Fault.TheVariants as convert
use Rattle.rtcm_convert.specs.declared.report.Report.{Report}
use Rattle.rtcm_command.specs.Devices.{IsOfConversion, culprit}
use Rattle.devices.specs.Printing.{PrintsLine}
use Rattle.rtcm_command.specs.Reports.{report_line}
use Rattle.obs_epoch.specs.Sets.{is_decoded}
use Rattle.gnss_system.specs.declared.system.System.TheVariants.{Glonass}
use Rattle.clap.specs.Walk.{Row}
use Rattle.command_faults.specs.declared.fault.CommandFault.{CommandFault}
use Rattle.rtcm_command.specs.SetupOptions.{IsSetupOf, IsSetupRefused}

-- the file of the bytes that the reader had was written, which has an epoch, and this is its report
abbrev pub MakesFile : {R W : Type 0} → Setup → Report → (d d' : Devices R W) → Type 0
MakesFile x report d d' = IfSome d.reader.unread (IsMadeWith x report d.writer.written d'.writer.written)

-- A conversion with the setup that these options give, which is in range, read everything that the reader had, and
-- wrote the file of its frames, which has an epoch. Its report was printed.
abbrev pub IsConverted : {R W E : Type 0} → List Row → (d d' : Devices R W) → (e e' : Writer E) → Type 0
IsConverted options d d' e e' =
    (x : Setup) × (report : Report) × IsSetupOf options x × (IsBad x → ⊥) × MakesFile x report d d'
    × PrintsLine (report_line (is_decoded x.gatherer.plan Glonass) report) e e'

-- the file of the bytes that the reader had has no epoch and is empty, for this reason
abbrev pub MakesNoEpoch : {R W : Type 0} → Setup → Fault → (d d' : Devices R W) → Type 0
MakesNoEpoch x fault d d' =
    IfSome d.reader.unread (IsMadeEmpty x fault d.writer.written d'.writer.written) × (d'.writer.waiting ≡ [])

-- P relates the bytes left to read and the bytes written, before and after
abbrev pub Moves : {R W : Type 0} → (d d' : Devices R W) → ((r r' w w' : Option (List ℕ)) → Type 0) → Type 0
Moves d d' P = P d.reader.unread d'.reader.unread d.writer.written d'.writer.written

-- What a conversion with this setup has read and written at a fault: at `Read` the file of the epochs that the bytes
-- before close, at `Write` a part of the file, and at `TooLong` the file of the epochs that the bytes up to the limit
-- close.
abbrev pub StopsConversion : {R W : Type 0} → Setup → (d d' : Devices R W) → Fault → Type 0
StopsConversion x d d' convert.Read = Moves d d' (IsMadeSoFar x) × (d'.writer.waiting ≡ [])
StopsConversion x d d' convert.Write = Moves d d' (IsMadeInPart x)
StopsConversion x d d' convert.TooLong = Moves d d' (IsMadeToLimit x) × (d'.writer.waiting ≡ [])
StopsConversion x d d' convert.NoEpoch = MakesNoEpoch x convert.NoEpoch d d'
StopsConversion x d d' (convert.NoneChosen counts) = MakesNoEpoch x (convert.NoneChosen counts) d d'
StopsConversion x d d' convert.BadSetup = IsBad x × AreUntouched d d'
StopsConversion x d d' convert.Memory = AreUntouched d d'
StopsConversion x d d' other = ⊥

-- how a conversion with this setup ended
abbrev pub EndsConversion : {R W : Type 0} → Result Report CommandFault → Setup → (d d' : Devices R W) → Type 0
EndsConversion result x d d' =
    Ends culprit result d d' (λ report. MakesFile x report d d') (IsOfConversion (StopsConversion x d d'))

-- The setup of these options is refused, and nothing was read or written; or the conversion that they ask for was
-- stopped.
abbrev pub StopsConverting : {R W : Type 0} → List Row → (d d' : Devices R W) → CommandFault → Type 0
StopsConverting options d d' fault =
    (IsSetupRefused options fault × AreUntouched d d')
    ⊎ ((x : Setup) × IsSetupOf options x × IsOfConversion (StopsConversion x d d') fault)

-- how such a command ended; it prints no fault
abbrev pub EndsConverting : {A R W E : Type 0} → Result A CommandFault → List Row → (e e' : Writer E) → (d d' : Devices R W)
    → Type 0
EndsConverting result options e e' d d' =
    Ends culprit result d d' (λ _. IsConverted options d d' e e') (λ fault. StopsConverting options d d' fault × (e' ≡ e))
