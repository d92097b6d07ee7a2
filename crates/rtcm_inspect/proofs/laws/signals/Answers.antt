use Rattle.rtcm_inspect.proofs.CarrierLemmas.{unknown_carriers}
use Rattle.rtcm_inspect.proofs.FirstMsmLemmas.{first_msm}
use Rattle.rtcm_inspect.proofs.PlannedLemmas.{all_planned, plan_read}
use Rattle.rtcm_inspect.proofs.SetLemmas.{loses_none}
use Rattle.rtcm_inspect.proofs.SkipLemmas.{frames_skip}
use Rattle.rtcm_inspect.proofs.ValuedLemmas.{valued_keys}
use Rattle.rtcm_inspect.proofs.Names.{channels_in, valued_in}
use Rattle.rtcm_inspect.proofs.laws.signals.Goals as goal

pub returns : goal.returns
returns c = record {
  columns = λ s fs plan. all_planned (channels_in s.station fs) s (valued_in s.station fs) plan (valued_keys s.station fs);
  read = λ wanted fs some. plan_read c.signal_tables.ensures.code_reads_back (valued_in wanted fs) some (valued_keys wanted fs);
  skips = λ s fs plan set earlier. frames_skip set s earlier fs (all_planned (channels_in s.station fs) s (valued_in s.station fs) plan (valued_keys s.station fs));
  carriers = unknown_carriers;
  first = first_msm;
  all = λ s fs plan. loses_none s fs (all_planned (channels_in s.station fs) s (valued_in s.station fs) plan (valued_keys s.station fs));
}
