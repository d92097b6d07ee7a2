-- Texts that are written in one call and delivered: the writer was w, and is w'.
use Rattle.std.specs.Prelude.{◌≡◌, ◌⊎◌, ◌<◌, ℕ, List, Result, Ok, Err, [], length}
use Rattle.std.specs.Io.KnownBytes.{Appends, Keeps}
use Rattle.devices.specs.Device.{AppendsPrefix, HasFailed}
use Rattle.devices.specs.Devices.{Devices, Writer}

-- nothing was read, and the bytes written are the same
abbrev pub IsUnread : {R W : Type 0} → (d d' : Devices R W) → Type 0
IsUnread d d' = (d'.reader.device ≡ d.reader.device) × Keeps d.writer.written d'.writer.written

-- the bytes written are the same, and none of them waits in the writer
abbrev pub IsDelivered : {W : Type 0} → (w w' : Writer W) → Type 0
IsDelivered w w' = Keeps w.written w'.written × (w'.waiting ≡ [])

-- The bytes that waited in the writer were delivered; or it failed once, with this fault.
abbrev pub EndsDelivery : {A F W : Type 0} → F → Result A F → (w w' : Writer W) → Type 0
EndsDelivery failed (Ok x) w w' = (w'.device.failures ≡ w.device.failures) × IsDelivered w w'
EndsDelivery failed (Err fault) w w' =
    (fault ≡ failed) × HasFailed w.device.failures w'.device.failures × Keeps w.written w'.written

-- the text was written, nothing waits in the writer, and it didn't fail
abbrev pub PrintsText : {W : Type 0} → List ℕ → (w w' : Writer W) → Type 0
PrintsText text w w' =
    (w'.device.failures ≡ w.device.failures) × (w'.waiting ≡ []) × Appends w.written w'.written text

-- the writer failed once, and accepted a prefix of the text
abbrev pub PrintsPart : {W : Type 0} → List ℕ → (w w' : Writer W) → Type 0
PrintsPart text w w' = HasFailed w.device.failures w'.device.failures × AppendsPrefix w.written w'.written text

-- one or the other, with this fault
abbrev pub EndsPrinting : {A F W : Type 0} → F → Result A F → List ℕ → (w w' : Writer W) → Type 0
EndsPrinting failed (Ok x) text w w' = PrintsText text w w'
EndsPrinting failed (Err fault) text w w' = (fault ≡ failed) × PrintsPart text w w'

-- ---- standard error, whose failures are ignored: it was e, and is e'

-- the line was written, and nothing waits; or the writer failed once, and accepted a prefix of it
abbrev pub PrintsLine : {E : Type 0} → List ℕ → (e e' : Writer E) → Type 0
PrintsLine text e e' = PrintsText text e e' ⊎ PrintsPart text e e'

-- the same of a text of one byte or more
abbrev pub PrintsSome : {E : Type 0} → (e e' : Writer E) → Type 0
PrintsSome e e' = (text : List ℕ) × (0 < length text) × PrintsLine text e e'
