-- The contents of a message other than the data of satellites and cells.
use Rattle.std.specs.Prelude.{Option, Some, None, option_map}
use Rattle.gnss_system.specs.declared.system.System.{System}
use Rattle.rtcm_msg.specs.declared.summary.Summary.{Summary}
use Rattle.rtcm_msg.specs.declared.header.MsmHeader.{MsmHeader}
use Rattle.rtcm_msg.specs.declared.message.Message.{Message}
use Rattle.rtcm_msg.specs.Messages.{by_message}

-- Of a multiple signal message with this header.
abbrev pub header_summary : MsmHeader → Summary
header_summary h = record { station = Some h.station; time = Some h.time; more = Some h.more; point = None }

abbrev pub summary : Message → Summary
summary v =
    by_message (λ p. record { station = Some p.station; time = None; more = None; point = Some p })
    (λ form m. header_summary m.header)
    (λ n set. record { station = option_map (λ p. p.0) set; time = None; more = option_map (λ p. p.1) set; point = None }) v

-- The system of a multiple signal message.
abbrev pub system_of : Message → Option System
system_of v = by_message (λ p. None) (λ form m. Some m.system) (λ n set. None) v
