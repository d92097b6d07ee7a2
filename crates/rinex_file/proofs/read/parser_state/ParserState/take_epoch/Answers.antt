use Rattle.rinex_file.proofs.Reading.Epochs.{Begins, bad_of, goes_on, stopped, epoch_taken, epoch_shows, few_satellites, no_epoch, sound_begun, sound_epoch, outside_after}
use Rattle.rinex_file.proofs.Names.{refused, ◌∙◌, planned_in, civil_of, epoch_line, List, Option, ReadsExactly, ◌<◌, ◌≤◌, ℕ, subst, sym, IsTime, progress_at, Progress, MayBegin, Satellite, refl}
use Rattle.rinex_file.proofs.read.parser_state.ParserState.take_epoch.Goals as goal

pub may_begin-requires : goal.may_begin-requires
may_begin-requires c = record { between = λ h history. (sound_epoch (progress_at c.args.self.now h) c.args.change c.requires.expected history.sound).0 }

-- the line of an epoch that may begin has room for its number of satellites
fits : (s : Progress) (w : ℕ × ℕ) → Begins s w → IsTime w.0 × w.1 ≤ 999
fits s w (time, may) = (time, few_satellites (planned_in s.known.shown.plan) w.1 may.room)

-- what is read of the line
abbrev Reads : List ℕ → Option (ℕ × ℕ) → Type 0
Reads line r = ReadsExactly (λ (e : ℕ × ℕ). IsTime e.0 × e.1 ≤ 999) (λ (e : ℕ × ℕ). epoch_line (civil_of e.0) e.1) line r

pub returns-in_err-time : goal.returns-in_err-time
returns-in_err-time c = stopped c.args.self.now _ c.args.line.now _ c.from_residual.ensures.1 (λ e same. same ∙ bad_of c.in_err-time.ensures.value c.in_err-time.ensures.ok_part) (λ h history.
    no_epoch _ c.args.change c.args.line.now c.requires.expected (λ none both. c.requires.event none (subst (λ (n : ℕ). 0 < n) (sym history.counted.epochs) both.0, both.1))
    (λ w is. (subst (Reads c.args.line.now) c.in_err-time.ensures.ok_part c.read_epoch_line.ensures) w (fits _ w is)))

pub returns-then-not-may_begin : goal.returns-then-not-may_begin
returns-then-not-may_begin c = λ h history.
    let s = progress_at c.args.self.now h in
    no_epoch s c.args.change c.args.line.now c.requires.expected (λ none both. c.requires.event none (subst (λ (n : ℕ). 0 < n) (sym history.counted.epochs) both.0, both.1))
    (λ w is line. refused c.may_begin.result _ (c.may_begin.ensures h history) c.if-not-may_begin.true
    (subst (λ (p : ℕ × ℕ). MayBegin s p.0 p.1) ((subst (Reads c.args.line.now) c.in_ok-time.ensures.ok_part c.read_epoch_line.ensures).2 w (fits s w is) line) is.1))

pub returns : goal.returns
returns c = λ h history.
    let s = progress_at c.args.self.now h in
    let (read, rows, change, same) = sound_epoch s c.args.change c.requires.expected history.sound in
    let (is, shown, only) = subst (Reads c.args.line.now) c.in_ok-time.ensures.ok_part c.read_epoch_line.ensures in
    let time = c.in_ok-time.time in
    let may = (c.may_begin.ensures h history).0 c.if-not-may_begin.false in
    goes_on (Satellite _) c.args.self.now.head c.args.change time history (sound_begun read rows may is.0 change same)
    (epoch_taken s c.args.change rows shown (λ w begins. only w (fits s w begins)) c.requires.expected
    (λ none both. c.requires.event none (subst (λ (k : ℕ). 0 < k) (sym history.counted.epochs) both.0, both.1)))
    (epoch_shows s c.args.change time _ c.args.line.now c.requires.expected rows shown) (outside_after c.args.self.now.expected c.args.change c.requires.expected) (λ other. refl)
