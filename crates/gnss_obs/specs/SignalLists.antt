-- The signals of a plan.
use Rattle.std.specs.Prelude.{ℕ, List, map}
use Rattle.gnss_system.specs.Signals.{SignalAt}

-- The indices of signals in the table of their system.
abbrev pub indices : List SignalAt → List ℕ
indices ss = map (λ s. s.index) ss
