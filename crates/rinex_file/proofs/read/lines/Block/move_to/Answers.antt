use Rattle.rinex_file.proofs.Reading.Lines.{IsFeed, moved, moved_of, left_ahead, no_feed}
use Rattle.rinex_file.proofs.Names.{arith, ◌≡◌, ℕ, List, length, Option, unwrap_or, min-le_left, drop-cons, length-take-le, eqb-true, IsFirstByte, is_byte}
use Rattle.rinex_file.proofs.read.lines.Block.move_to.Goals as goal

-- no line feed is before the first one
first_feed : (near : List ℕ) (r : Option ℕ) (room feed : ℕ) → IsFirstByte (is_byte 10) near r → length near ≡ room → feed ≡ unwrap_or r room → IsFeed near feed
first_feed near r room feed first size is = grind (arith, no_feed, drop-cons, eqb-true)

pub returns : goal.returns
returns c = grind (arith, c.memchr.ensures, c.min-room.ensures, c.unwrap_or-feed.ensures, min-le_left, first_feed, length-take-le, moved_of, moved, left_ahead)
