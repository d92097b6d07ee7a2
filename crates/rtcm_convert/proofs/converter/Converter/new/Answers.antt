-- A new converter has examined, counted and written nothing.
use Rattle.rtcm_convert.proofs.FaultLemmas.{not_err}
use Rattle.rtcm_convert.proofs.PartLemmas.{same_fault}
use Rattle.rtcm_convert.proofs.converter.Converter.new.Goals.{then-setup-gt-MOST_BYTES-via-then-setup-gt-MOST_BYTES, then-setup-gt-MOST_BYTES-via-else-setup-gt-MOST_BYTES+then-not-fits_message}
use Rattle.rtcm_convert.proofs.Names.{true≢false, Err, BadSetup, ◌≡◌, ◌≤◌, most_bytes, ℕ, List, [], subst, refl, sym, inl, inr, arith, ap, AreStationValues, Setup, setup_value, IsBad, IsBadStart, decided_frames, frames_before, IsDrained, HasExamined, Framed, frames_of, frames_from, known_frames, new_scan, FramerValue, HasFiledFrames, HasDrained, passed}
use Rattle.rtcm_convert.proofs.converter.Converter.new.Goals as goal

bad_start : (x : Setup) → AreStationValues x.gatherer.initial → x.limit ≤ most_bytes → IsBad x → IsBadStart x
bad_start x fits within (inl unfit) = absurd (unfit fits)
bad_start x fits within (inr (inl over)) = absurd (omega (arith, within, over))
bad_start x fits within (inr (inr start)) = start

none_known : (v : FramerValue) (limit : ℕ) → v ≡ new_scan limit → [] ≡ known_frames v.has_ended []
unfolding decided_frames frames_before frames_of frames_from
none_known v limit e = sym (ap (λ (x : FramerValue). known_frames x.has_ended []) e)

new_drained : (v : FramerValue) (limit : ℕ) → v ≡ new_scan limit → HasExamined v [] [] → IsDrained v [] [] → HasDrained v []
new_drained v limit e framer drained = record {
  framer = subst (λ (l : List Framed). HasExamined v [] l) (none_known v limit e) framer;
  drained = subst (λ (l : List Framed). IsDrained v [] l) (none_known v limit e) drained;
}

pub returns-then-setup-gt-MOST_BYTES-clause-bad : goal.returns-then-setup-gt-MOST_BYTES-clause-bad
returns-then-setup-gt-MOST_BYTES-clause-bad c = (
  λ _. elim c.then-setup-gt-MOST_BYTES.branch [
    | then-setup-gt-MOST_BYTES-via-then-setup-gt-MOST_BYTES w ↦ inr (inl w.if-setup-gt-MOST_BYTES.true)
    | then-setup-gt-MOST_BYTES-via-else-setup-gt-MOST_BYTES+then-not-fits_message w ↦ inl (λ a. true≢false (sym (w.if-not-fits_message.ensures.1 a)))
  ],
  λ _. refl,
)

pub returns-in_err-file_writer-clause-bad : goal.returns-in_err-file_writer-clause-bad
returns-in_err-file_writer-clause-bad c =
    let bad = c.in_err-file_writer.ensures.bad in
    let x = c.args.setup in
    passed c.from_residual.result _ (λ q. (q ≡ Err BadSetup → IsBad x) × (IsBad x → q ≡ Err BadSetup)) c.from_residual.ensures.1 (
      λ e. inr (inr (bad.0 (same_fault _ _ e))),
      λ b. same_fault _ _ (bad.1 (bad_start x (c.if-not-fits_message.ensures.0 refl) c.if-setup-gt-MOST_BYTES.false b)),
    )

pub returns-in_default-clause-bad : goal.returns-in_default-clause-bad
returns-in_default-clause-bad c =
    (λ e. cc, λ b. absurd (not_err _ _ (c.in_ok-file_writer.ensures.bad.1 (bad_start c.args.setup (c.if-not-fits_message.ensures.0 refl) c.if-setup-gt-MOST_BYTES.false b))))

pub returns-clause-history : goal.returns-clause-history
returns-clause-history c =
    let x = c.args.setup in
    let n = c.in-Ok.ensures in
    let d = new_drained c.in-Ok.framer _ n.new n.history n.drained in
    record {
      going = record { fine = refl; more = refl };
      drained = record {
        scan = d;
        file_writer = subst (λ (l : List Framed). HasFiledFrames c.in_ok-file_writer.file_writer (setup_value x) l) (none_known _ _ n.new) c.in_ok-file_writer.ensures.history;
      };
    }

pub invariant_of-result : goal.invariant_of-result
invariant_of-result c =
    let n = c.in-Ok.ensures in
    record {
      going = λ _. c.in_ok-file_writer.ensures.going;
      listening = λ _. ap (λ (v : FramerValue). v.has_ended) n.new;
      ready = λ _. ap (λ (v : FramerValue). v.is_ready) n.new;
      drained = λ _. ([], new_drained c.in-Ok.framer _ n.new n.history n.drained);
      examined = ([], [], n.history);
    }
