use Rattle.rtcm_convert.proofs.Names.{ℕ, Option, IfSome, subst, AreStationValues, IsInterval, AreSound, frames_of, decided_frames, setup_value}
use Rattle.rtcm_convert.proofs.laws.read_back.Goals as goal

pub returns : goal.returns
returns c =
    let x = setup_value c.args.setup.now in
    let sound : AreStationValues c.args.setup.now.gatherer.initial → AreSound x = λ given. record { texts = c.head.ensures.texts; plan = c.head.ensures.plan; initial = given; interval = subst (λ (o : Option ℕ). IfSome o IsInterval) c.interval_milliseconds.ensures.value c.interval_milliseconds.ensures.bound } in
    record {
      file = λ given b. c.readable.ensures.file x (frames_of b) (sound given);
      some = λ given b. c.readable.ensures.some x (frames_of b) (sound given);
      so_far = λ given b. c.readable.ensures.so_far x (decided_frames b) (sound given);
      zero = c.readable.ensures.zero;
    }
