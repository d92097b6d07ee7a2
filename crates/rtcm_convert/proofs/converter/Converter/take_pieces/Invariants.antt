use Rattle.rtcm_convert.proofs.PiecesLemmas.{HasTaken}
use Rattle.rtcm_convert.proofs.Names.{◌≡◌, ◌+◌, take, length, flat_map, IsGoing}
use Rattle.rtcm_convert.proofs.converter.Converter.take_pieces.Given as goal

abbrev pub invariant-loop-piece : goal.invariant-loop-piece
invariant-loop-piece g l =
    let contents = g.W.Write.contents in
    record {
      came : HasTaken l.fn.self l.self (contents l.fn.writer.inner) (contents l.writer.inner) (flat_map (λ piece. piece.items) (take l.piece-index l.pieces));
      taken : l.self.scan.taken ≡ l.fn.self.scan.taken + length (flat_map (λ piece. piece.items) (take l.piece-index l.pieces));
      going : IsGoing l.self;
      limit : l.self.scan.limit ≡ l.fn.self.scan.limit;
      fine : l.writer.failures ≡ l.fn.writer.failures;
      unread : l.writer.widest ≡ l.fn.writer.widest;
    }
