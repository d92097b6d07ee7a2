-- What a converter holds of the frames that it processed.
use Rattle.std.specs.Prelude.{◌≡◌, ℕ, ◌*◌, ◌≤◌, List, drop, length}
use Rattle.gnss_system.specs.declared.system.System.{System}
use Rattle.gnss_system.specs.SystemValues.{value_of}
use Rattle.rtcm_bits.specs.FrameOf.{longest_frame}
use Rattle.rtcm_scan.specs.Decided.{decided, decided_frames}
use Rattle.rtcm_scan.specs.Frames.{Framed, frames_of}
use Rattle.rtcm_scan.specs.Looks.{examined, examined_now, most, most_looks, most_now}
use Rattle.gnss_obs.specs.Values.{most_cells, cells_of}
use Rattle.rtcm_convert.specs.declared.converter.Kept.{Kept}
use Rattle.obs_epoch.specs.Times.{Timed, timed}
use Rattle.obs_epoch.specs.Cells.{firsts}
use Rattle.obs_epoch.specs.Loss.{times}
use Rattle.obs_epoch.specs.Epochs.{closed_times}
use Rattle.obs_epoch.specs.GathererAfter.{most_locks, locked_in, held_at}
use Rattle.rtcm_convert.specs.Converted.{SetupValue, messages_of}

-- the messages of these frames with their times
abbrev pub timed_of : SetupValue → List Framed → List Timed
timed_of s fs = timed s.gatherer (messages_of s fs)

-- the cells of a system of the epoch of the greatest time: the pending one or, if none is pending, the one closed last
abbrev pub cells_kept : SetupValue → System → List Framed → ℕ
cells_kept s system fs = length (cells_of system (held_at s.gatherer (timed_of s fs)))

-- the number of satellites and signals of which an epoch of these times has a kept cell with a valid phase and a known
-- lock
abbrev pub locks_at : SetupValue → List Framed → List ℕ → ℕ
locks_at s fs ts = length (firsts (locked_in s.gatherer (timed_of s fs) ts))

-- the number of lock records after the epochs that these frames close
abbrev pub locks_kept : SetupValue → List Framed → ℕ
locks_kept s fs = locks_at s fs (closed_times s.gatherer (timed_of s fs))

-- the number of lock records after all epochs, when the stream has ended
abbrev pub locks_in_all : SetupValue → List Framed → ℕ
locks_in_all s fs = locks_at s fs (times (timed_of s fs))

-- ---- what a converter holds and has examined

-- the bounds that hold at every moment, when `taken` bytes were accepted
pub record IsWithinBounds (taken : ℕ) (k : Kept) : Type 0 where
  pub held : k.held ≤ longest_frame
  pub cells : (system : System) → value_of system k.cells ≤ most_cells
  pub locks : k.locks ≤ most_locks
  pub examined : k.examined ≤ most_looks * taken
  pub most : k.most ≤ most_looks

-- the values after these bytes were accepted
pub record IsKeptNow (s : SetupValue) (b : List ℕ) (k : Kept) : Type 0 where
  pub held : k.held ≡ length (drop (decided b) b)
  pub cells : (system : System) → value_of system k.cells ≡ cells_kept s system (decided_frames b)
  pub locks : k.locks ≡ locks_kept s (decided_frames b)
  pub examined : k.examined ≡ examined_now b
  pub most : k.most ≡ most_now b

-- the values after the stream of these bytes was ended
pub record IsKeptAtEnd (s : SetupValue) (b : List ℕ) (k : Kept) : Type 0 where
  pub held : k.held ≡ 0
  pub cells : (system : System) → value_of system k.cells ≡ cells_kept s system (frames_of b)
  pub locks : k.locks ≡ locks_in_all s (frames_of b)
  pub examined : k.examined ≡ examined b
  pub most : k.most ≡ most b
