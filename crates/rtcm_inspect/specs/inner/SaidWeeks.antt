-- The weeks that ephemerides say, while the stream is read.
use Rattle.std.specs.Prelude.{◌≡◌, ℕ, ◌==◌, false, get_or, length, List, Option}
use Rattle.std.specs.List.{list_any}
use Rattle.rtcm_scan.specs.Frames.{Framed}
use Rattle.rtcm_inspect.specs.FirstTwo.{first_two}
use Rattle.rtcm_inspect.specs.SentWeeks.{rests_in, whole_in}
use Rattle.rtcm_inspect.specs.declared.said_weeks.SaidWeeks.{SaidWeeks}
use Rattle.rtcm_inspect.specs.declared.said_weeks.WeekSet.{WeekSet}

-- these numbers were added, which are below a size
pub record AreSaid (x : WeekSet) (size : ℕ) (ns : List ℕ) : Type 0 where
  pub room : length x.added.items ≡ size
  pub added : (n : ℕ) → get_or x.added.items n false ≡ list_any (λ m. m == n) ns
  pub first : x.first ≡ first_two ns

-- what the ephemerides of these frames say
pub record AreSaidIn (x : SaidWeeks) (wanted : Option ℕ) (fs : List Framed) : Type 0 where
  pub whole : AreSaid x.whole 16_384 (whole_in wanted fs)
  pub rests : AreSaid x.rests 1_024 (rests_in wanted fs)
