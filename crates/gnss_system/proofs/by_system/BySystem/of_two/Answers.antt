use Rattle.std.proofs.Common.{ap, rules}
use Rattle.gnss_system.specs.declared.by_system.BySystem.{BySystem}
use Rattle.gnss_system.proofs.SystemLaws.{is_tabulated}
use Rattle.gnss_system.proofs.by_system.BySystem.of_two.Goals as goal

pub returns : goal.returns
returns g c =
    ap (λ (v : BySystem g.row.T.Denot). record v { gps = c.args.gps; galileo = c.args.galileo })
    (is_tabulated c.each.result (λ s. c.args.other) (λ s. let given = c.each.ensures s in search rules))
