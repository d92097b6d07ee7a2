use Rattle.rinex_file.proofs.Names.{refl, value_of}
use Rattle.rinex_file.proofs.HeaderRows.End.{valid_by}
use Rattle.rinex_file.proofs.read.head_so_far.HeadSoFar.are_valid.Goals as goal

pub returns : goal.returns
returns c =
    let held = c.self.invariant in
    valid_by (λ s. (value_of s c.self.inside.types).signals) c.self.view_is c.are_texts.ensures held.3 c.are_channels.ensures held.0 held.1 (λ s. (held.2 s).0) refl
