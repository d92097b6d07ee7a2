use Rattle.rinex_file.proofs.HeaderRows.Slots.{slots_counted}
use Rattle.rinex_file.proofs.Names.{◌∙◌}
use Rattle.rinex_file.proofs.header.lists.slots_in.Goals as goal

pub returns-clause-value : goal.returns-clause-value
returns-clause-value c = c.count.ensures.count ∙ slots_counted c.args.channels.now
