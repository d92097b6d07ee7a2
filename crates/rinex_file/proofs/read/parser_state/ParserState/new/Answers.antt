use Rattle.rinex_file.proofs.Names.{refl}
use Rattle.rinex_file.proofs.Reading.Header.{header_starts}
use Rattle.rinex_file.proofs.read.parser_state.ParserState.new.Goals as goal

pub returns-clause-starts : goal.returns-clause-starts
returns-clause-starts c = header_starts _ refl c.new-head.ensures
