use Rattle.gnss_obs.proofs.Names.{◌∙◌, ap, sym, Cell}
use Rattle.gnss_obs.proofs.SetLemmas.{one_satellite_more}
use Rattle.gnss_obs.proofs.epoch_cells.satellites_of.Goals as goal

pub loop-i-preserved : goal.loop-i-preserved
loop-i-preserved c = one_satellite_more c.args.system c.args.cells.now c.loop-i.set c.loop-i.i c.index-cells-i.result c.requires.held c.loop-i-test.true c.index-cells-i.is (c.id.ensures.value ∙ ap (λ (x : Cell). x.satellite.id) (sym c.index-cells-i.is)) c.loop-i.invariant
