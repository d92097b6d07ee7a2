use Rattle.rinex_file.proofs.Reading.Epochs.{bad_of, goes_on, passed, stopped}
use Rattle.rinex_file.proofs.Reading.Events.{event_taken, event_shows, sound_event, position_taken, position_shows, no_position, sound_position}
use Rattle.rinex_file.proofs.Reading.Header.{no_header, header_taken, header_shows, header_ended, ended_shows, sound_start, sound_header}
use Rattle.rinex_file.proofs.Names.{arith, common_steps, IsPosition, Option, ReadsExactly, StationValues, position_line, ◌≡◌, ◌<◌, ℕ, List, subst, sym, ◌∙◌, ParserState, Expected, Header, Epoch, EventPosition, EventHeight, History, FollowsHistory, IsNext, progress_at, Known, StepsTo, ExpectsRow, ExpectsHeader, refl}
use Rattle.rinex_file.proofs.read.parser_state.ParserState.take.Goals as goal

pub returns-in_err-self-in-Header : goal.returns-in_err-self-in-Header
returns-in_err-self-in-Header c = grind (arith, passed, no_header)

abbrev at_head : ParserState → Known → Expected → ParserState
at_head c k expected = record c { expected = expected; head = k }

-- the header continues, or it ends
headed : {c : ParserState} {h : History} {place : ℕ} {line : List ℕ} (k : Known) (next : Expected) → c.expected ≡ Header place → FollowsHistory c h → StepsTo c.head place line k next
    → (after : History) × IsNext c (at_head c k next) line h after
headed {c} {h} {place} {line} k (Header next) expected history goes =
    let s = progress_at c h in
    let (epochs, rows, here) = sound_header s place expected history.sound in
    goes_on (Header next) k c.change c.time history (epochs, rows, goes.at) (header_taken s line expected goes) (header_shows s line expected goes)
    (λ inside. subst ExpectsRow expected inside) (λ other. absurd (other (subst ExpectsHeader (sym expected) tt)))
headed {c} {h} {place} {line} k Epoch expected history end =
    let s = progress_at c h in
    let (epochs, rows, here) = sound_header s place expected history.sound in
    goes_on Epoch k c.change c.time history (sound_start s k end.is epochs, rows) (header_ended s line expected epochs end) (ended_shows s line expected epochs end)
    (λ inside. subst ExpectsRow expected inside) (λ other. absurd (other (subst ExpectsHeader (sym expected) tt)))
headed k other expected history goes = absurd goes

pub returns-in_ok-self-in-Header : goal.returns-in_ok-self-in-Header
returns-in_ok-self-in-Header c = λ h history. headed c.take.new.self _ c.in-Header.is history c.in_ok-self-in-Header.ensures

pub returns-in-Epoch : goal.returns-in-Epoch
returns-in-Epoch c = λ h history.
    let s = progress_at c.args.self.now h in
    let shown = c.is_same.ensures.0 c.if-is_same.true ∙ c.event_line.ensures in
    goes_on EventPosition c.args.self.now.head c.args.self.now.change c.args.self.now.time history
    (sound_event s c.in-Epoch.is history.sound (subst (λ (n : ℕ). 0 < n) history.counted.epochs c.if-self-gt0.true)) (event_taken s c.args.line.now c.in-Epoch.is shown)
    (event_shows s c.args.line.now c.in-Epoch.is shown) (λ inside. subst ExpectsRow c.in-Epoch.is inside) (λ other. refl)

-- what is read of the line of a position
abbrev Reads : List ℕ → Option StationValues → Type 0
Reads line r = ReadsExactly IsPosition position_line line r

pub returns-in_err-position-in-EventPosition : goal.returns-in_err-position-in-EventPosition
returns-in_err-position-in-EventPosition c = grind (arith, common_steps, c.from_residual-in_err-position-in-EventPosition.ensures, c.in_err-position-in-EventPosition.ensures, c.in-EventPosition.is, c.read_position.ensures, stopped, bad_of, no_position)

pub returns-in_ok-position-in-EventPosition : goal.returns-in_ok-position-in-EventPosition
returns-in_ok-position-in-EventPosition c = λ h history.
    let s = progress_at c.args.self.now h in
    let p = c.in_ok-position-in-EventPosition.position in
    let (is, shown, only) = subst (Reads c.args.line.now) c.in_ok-position-in-EventPosition.ensures.ok_part c.read_position.ensures in
    goes_on (EventHeight p) c.args.self.now.head c.args.self.now.change c.args.self.now.time history
    (sound_position s p c.in-EventPosition.is history.sound is) (position_taken s p c.args.line.now c.in-EventPosition.is only) (position_shows s p c.args.line.now c.in-EventPosition.is shown)
    (λ inside. subst ExpectsRow c.in-EventPosition.is inside) (λ other. refl)
