use Rattle.rtcm_convert.proofs.FaultLemmas.{run_known, never, not_of_setup, not_err}
use Rattle.rtcm_convert.proofs.PartLemmas.{same_fault}
use Rattle.rtcm_convert.proofs.WholeLemmas.{BeganNew, run_made, run_empty, run_read, run_long, run_write}
use Rattle.rtcm_convert.proofs.Names.{◌≡◌, refl, Err, IsBad, LeftBy, BadSetup, Failed, Finished, passed}
use Rattle.rtcm_convert.proofs.whole.convert_stream.Goals as goal

pub returns : goal.returns
returns g c =
    let v = c.in_ok-converter.converter in
    let h = c.in_ok-converter.ensures in
    let w = c.run-answer.new.self in
    let r = c.run-answer.result in
    let n = c.run-answer.ensures in
    let from = g.R.Read.remaining c.args.reader.now.inner in
    let new : BeganNew v w c.args.setup = record { nothing = c.prefix.ensures.nothing; history = h.history; same = n.left.0.0; limit = h.fresh.0 } in
    let left = n.left.0.1 h.history.going in
    let no = never (λ f. LeftBy f w) run_known r left in
    record {
      made = run_made from _ _ r new (c.read_back.ensures.some h.fits) n.whole;
      empty = λ fault none e. run_empty _ from _ _ new (n.empty fault none e);
      long = λ e. run_long new (n.long e);
      read = λ e. run_read from _ new (n.read e);
      write = λ e. run_write from _ new (n.write e);
      sent = n.sent;
      devices = (n.reader, n.writer);
      bad_setup = (λ e. absurd (no BadSetup refl e), λ b. absurd (not_err v BadSetup (h.bad.1 b)));
      untouched = not_of_setup (λ f. LeftBy f w) run_known _ r left refl refl;
      only = (no Failed refl, no Finished refl);
    }

pub returns-in_err-converter-clause-bad_setup : goal.returns-in_err-converter-clause-bad_setup
returns-in_err-converter-clause-bad_setup g c =
    let bad = c.in_err-converter.ensures.bad in
    passed c.from_residual.result _ (λ q. (q ≡ Err BadSetup → IsBad c.args.setup) × (IsBad c.args.setup → q ≡ Err BadSetup)) c.from_residual.ensures.1
    (λ e. bad.0 (same_fault _ BadSetup e), λ b. same_fault _ BadSetup (bad.1 b))
