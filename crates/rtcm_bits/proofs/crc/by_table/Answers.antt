use Rattle.rtcm_bits.proofs.TableLemmas.{table_step, table_below, moved_up}
use Rattle.rtcm_bits.proofs.crc.by_table.Goals as goal

pub returns : goal.returns
returns c = record {
  bound = table_below c.args.register c.entry.result _ c.entry.ensures.value;
  steps = table_step c.args.register _ c.args.byte c.entry.result c.requires c.ranges.byte.fits c.entry.ensures.value (moved_up c.args.register c.entry.result);
}
