-- The channels in a message, one satellite after the other.
use Rattle.rtcm_msg.proofs.Names.{ℕ, ◌≡◌, ◌+◌, ◌^◌, ◌<◌, ◌≤◌, ◌∙◌, Bool, true, false, List, [], length, count_ones, refl, sym, arith, FormedMsm, Form, ids, channels_by, has_channels, sent_channels, satellite_data}
use Rattle.rtcm_msg.proofs.FormLaws.{satellite_in_range}
use Rattle.rtcm_msg.proofs.PairLaws.{ids_none}
use Rattle.rtcm_msg.proofs.CountLaws.{ids_count}
use Rattle.rtcm_msg.specs.declared.message.Message.TheVariants as messages

pub channels_none : (f : Form) (n : ℕ) (rows : List ℕ) → n ≡ 0 → channels_by f (ids 64 n) rows ≡ []
channels_none f n rows e = rw (e, ids_none 64) refl

pub none_sent : (v : FormedMsm) (b : Bool) → b ≡ has_channels v.form v.msm → b ≡ false → channels_by v.form (ids 64 0) v.msm.satellites ≡ sent_channels (messages.Msm v)
none_sent v b e h = let no : has_channels v.form v.msm ≡ false = sym e ∙ h in channels_none v.form 0 v.msm.satellites refl ∙ rw no refl

pub all_sent : (v : FormedMsm) (b : Bool) (n : ℕ) → b ≡ has_channels v.form v.msm → b ≡ true → n ≡ v.msm.sets.satellites
    → channels_by v.form (ids 64 n) v.msm.satellites ≡ sent_channels (messages.Msm v)
all_sent v b n e h is = let yes : has_channels v.form v.msm ≡ true = sym e ∙ h in rw (is, yes) refl

pub none_left : (rows : List ℕ) → length (ids 64 0) + 0 ≤ length rows
none_left rows = rw (ids_none 64) (omega arith)

pub all_left : (n m k : ℕ) (rows : List ℕ) → n ≡ m → m < 2 ^ 64 → k ≡ length rows → k ≡ count_ones m → length (ids 64 n) + 0 ≤ length rows
all_left n m k rows is fits count set = let size = ids_count 64 m fits in rw is (omega (arith, size, count, set))

pub number_small : (f : Form) (n : ℕ) → (satellite_data f n).extended < 16
number_small f n = grind (arith, satellite_in_range)
