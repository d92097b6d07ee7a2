-- The names that proofs cite, passed on from one place. Declares nothing.
pub use Rattle.devices.specs.Buffering.{buffer_bytes, contents_of}
pub use Rattle.devices.specs.Device.{AppendsPrefix, Device, HasFailed, SendsBytes, WritesText, failures_after_write}
pub use Rattle.std.proofs.Common.{Err, List, MatchResult, Ok, Option, Result, Some, [], ap, append-nil, arith, drop, false, length, length-take, refl, rules, subst, sym, take, true, vec_capacity, ℕ, ◌++◌, ◌+◌, ◌-◌, ◌∙◌, ◌≡◌, ◌≤◌}
pub use Rattle.std.proofs.KnownBytes.{Appends-kept, Appends-nil, Appends-trans, Keeps-refl, Keeps-trans, append_known-grown, append_known-moved}
pub use Rattle.std.proofs.lemmas.List.{append_assoc, drop-drop, drop_all, take-append-drop, take_rest}
pub use Rattle.std.specs.Io.KnownBytes.{Appends, Keeps, append_known}
pub use Rattle.devices.specs.Devices.{Writer, writer_of}
pub use Rattle.devices.specs.Printing.{EndsDelivery, EndsPrinting, IsDelivered, PrintsText}
pub use Rattle.devices.specs.declared.counted.DeviceFailed.{DeviceFailed}
pub use Rattle.rtcm_bits.specs.Prefix.{IsPrefix}
pub use Rattle.std.proofs.lemmas.Grind.{common_steps}
pub use Rattle.std.specs.Prelude.{⊤}
pub use Rattle.std.specs.Result.{IsErrAnd}
