use Rattle.obs_epoch.proofs.Names.{◌≡◌, ◌≤◌, ◌∙◌, ap, arith, length, map, systems, value_of, is_tabulated, passed_all, is_lost_in, CellLists, cells_of, mark_if}
use Rattle.obs_epoch.proofs.marks.mark_systems.Goals as goal

pub returns : goal.returns
returns c =
    let e = c.args.epoch.now in
    let f = mark_if (is_lost_in c.args.marks.now) in
    let enough : length systems ≤ c.loop-i.i = omega (arith, c.loop-i-test.false) in
    c.loop-i.invariant.rest
    ∙ ap (λ (cells : CellLists). record e { epoch = record e.epoch { cells = cells } })
    (is_tabulated c.loop-i.epoch.epoch.cells (λ s. map f (cells_of s e.epoch))
    (passed_all (λ s cells. cells ≡ map f (value_of s e.epoch.cells)) (λ s cells. cells ≡ value_of s e.epoch.cells) c.loop-i.epoch.epoch.cells c.loop-i.i enough c.loop-i.invariant.cells))
