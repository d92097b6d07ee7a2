use Rattle.rtcm_bits.proofs.Names.{◌∷◌, replicate}
use Rattle.rtcm_bits.proofs.EntryLemmas.{entry_right}
use Rattle.rtcm_bits.proofs.RegisterLemmas.{check_below}
use Rattle.rtcm_bits.proofs.tables.entry.Goals as goal

pub returns-clause-value : goal.returns-clause-value
returns-clause-value c = entry_right c.args.zeros c.args.byte c.ranges.byte.fits c.requires

pub returns-clause-bound : goal.returns-clause-bound
returns-clause-bound c = rw (entry_right c.args.zeros c.args.byte c.ranges.byte.fits c.requires) (check_below (c.args.byte ∷ replicate c.args.zeros 0))
