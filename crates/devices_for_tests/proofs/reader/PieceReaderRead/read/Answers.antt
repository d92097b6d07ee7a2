use Rattle.std.proofs.Common.{◌<◌, ◌≡◌, ◌∙◌, ap, length, min}
use Rattle.devices_for_tests.proofs.ReadLemmas.{read_gives, not_empty}
use Rattle.devices_for_tests.proofs.reader.PieceReaderRead.read.Goals as goal

pub returns-clause-bytes : goal.returns-clause-bytes
returns-clause-bytes c =
    let same : c.self-2.inside.rest.now ≡ c.self.inside.rest.now = ap (λ r. r.rest) c.self-2.view_is ∙ c.piece_left.ensures.rest in
    let left : 0 < length c.self-2.inside.rest.now = not_empty c.self.inside.rest.now _ c.is_empty.result c.is_empty.ensures c.if-is_empty.false same in
    rw (← c.self.view_is) (read_gives c.args.buf.now c.piece_left.result
    same (c.copy_from_slice.ensures.after ∙ c.split_at.ensures.front) c.split_at.ensures.back (c.min-n.ensures ∙ ap (λ m. min m (length c.self-2.inside.rest.now)) c.min.ensures) c.piece_left.ensures.some left)
