use Rattle.obs_epoch.proofs.Names.{◌&&◌, ◌∙◌, List, sym, ap, ap₂, Bool, true, false, get_or, is_lost_in, Cell, EpochValue}
use Rattle.obs_epoch.proofs.MarksLemmas.{marked_in_is}
use Rattle.obs_epoch.proofs.marks.mark_cell.Goals as goal

pub returns-then-is_lost : goal.returns-then-is_lost
returns-then-is_lost c =
    let e = c.args.epoch.now in
    let is = c.index-cells-at.is ∙ ap (λ (l : List Cell). get_or l c.args.at c.index-cells-at.result) c.cells.ensures.cells in
    c.mark.ensures ∙ ap (λ (v : EpochValue). record e { epoch = v }) (marked_in_is c.args.marks.now c.args.system c.args.at e.epoch c.index-cells-at.result c.requires.at is true
    (ap₂ (λ (a b : Bool). a && b) (sym c.is_some.ensures ∙ c.if-is_some.true) (sym c.is_lost.ensures ∙ c.if-is_lost.true)))

pub returns-else-is_lost : goal.returns-else-is_lost
returns-else-is_lost c =
    let e = c.args.epoch.now in
    let is = c.index-cells-at.is ∙ ap (λ (l : List Cell). get_or l c.args.at c.index-cells-at.result) c.cells.ensures.cells in
    ap (λ (v : EpochValue). record e { epoch = v }) (marked_in_is c.args.marks.now c.args.system c.args.at e.epoch c.index-cells-at.result c.requires.at is false
    (ap₂ (λ (a b : Bool). a && b) (sym c.is_some.ensures ∙ c.if-is_some.true) (sym c.is_lost.ensures ∙ c.if-is_lost.false)))

pub returns-else-is_some : goal.returns-else-is_some
returns-else-is_some c =
    let e = c.args.epoch.now in
    let is = c.index-cells-at.is ∙ ap (λ (l : List Cell). get_or l c.args.at c.index-cells-at.result) c.cells.ensures.cells in
    ap (λ (v : EpochValue). record e { epoch = v }) (marked_in_is c.args.marks.now c.args.system c.args.at e.epoch c.index-cells-at.result c.requires.at is false
    (ap (λ (a : Bool). a && is_lost_in c.args.marks.now c.index-cells-at.result) (sym c.is_some.ensures ∙ c.if-is_some.false)))
