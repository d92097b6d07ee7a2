use Rattle.rtcm_msg.proofs.Names.{◌+◌, arith, ids}
use Rattle.rtcm_msg.proofs.PairLaws.{satellite_left, signal_left, next_row}
use Rattle.rtcm_msg.proofs.pairs.with_signals.Goals as goal

pub returns-else-pairs-eq0-clause-first : goal.returns-else-pairs-eq0-clause-first
returns-else-pairs-eq0-clause-first c = (satellite_left c.args.pairs.index c.args.pairs.satellites (ids 32 c.args.pairs.signals) (ids 32 c.args.pairs.all) c.requires.some, omega arith)

pub split_first-requires-clause-some : goal.split_first-requires-clause-some
split_first-requires-clause-some c = satellite_left c.args.pairs.index c.args.pairs.satellites (ids 32 c.args.pairs.signals) (ids 32 c.args.pairs.all) c.requires.some

pub returns-then-pairs-eq0-clause-same : goal.returns-then-pairs-eq0-clause-same
returns-then-pairs-eq0-clause-same c = next_row c.args.pairs.index c.args.pairs.satellites c.args.pairs.signals c.split_first.result.0 c.split_first.result.1 c.args.pairs.all (omega arith) c.split_first.ensures.first

pub returns-then-pairs-eq0-clause-first : goal.returns-then-pairs-eq0-clause-first
returns-then-pairs-eq0-clause-first c =
    let some = rw (← returns-then-pairs-eq0-clause-same c) at c.requires.some in (
      satellite_left (c.args.pairs.index + 1) c.split_first.result.1 (ids 32 c.args.pairs.all) (ids 32 c.args.pairs.all) some,
      signal_left (c.args.pairs.index + 1) (ids 64 c.split_first.result.1) c.args.pairs.all some,
    )
