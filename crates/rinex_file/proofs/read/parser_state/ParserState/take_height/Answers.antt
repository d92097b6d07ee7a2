use Rattle.rinex_file.proofs.Reading.Epochs.{bad_of, goes_on, stopped}
use Rattle.rinex_file.proofs.Reading.Events.{height_taken, height_shows, no_height, same_height, sound_height}
use Rattle.rinex_file.proofs.Names.{refused, ◌≡◌, ◌∙◌, ◌<◌, ◌^◌, ReadsExactly, height_line, sym, ap, subst, refl, ℕ, List, Option, unwrap_or, StationValues, changed_by, ParserState, Expected, EventEpoch, History, IsNext, ExpectsRow, progress_at, common_steps, arith}
use Rattle.rinex_file.proofs.read.parser_state.ParserState.take_height.Goals as goal

-- the current station values, by those that changed last
current : (k s : ParserState) (result : StationValues) → k ≡ s → result ≡ unwrap_or k.values k.head.shown.values → result ≡ changed_by s.head.shown.values s.values
current k s result same is = is ∙ grind (arith, common_steps) ∙ ap (λ (t : ParserState). changed_by t.head.shown.values t.values) same

abbrev then : ParserState → Expected → ParserState
then k expected = record k { expected = expected }

next_of : (k s : ParserState) (expected : Expected) (line : List ℕ) (h : History) → k ≡ s → (after : History) × IsNext s (then s expected) line h after → (after : History) × IsNext s (then k expected) line h after
next_of k s expected line h same is = subst (λ (t : ParserState). (after : History) × IsNext s (then t expected) line h after) (sym same) is

-- what is read of the line
abbrev Reads : List ℕ → Option ℕ → Type 0
Reads line r = ReadsExactly (λ n. n < 2 ^ 16) height_line line r

pub returns-in_err-height : goal.returns-in_err-height
returns-in_err-height c = stopped c.args.self.now _ c.args.line.now _ c.from_residual.ensures.1 (λ e same. same ∙ bad_of c.in_err-height.ensures.value c.in_err-height.ensures.ok_part) (λ h history.
    no_height (progress_at c.args.self.now h) c.args.position c.args.line.now c.requires.expected (subst (Reads c.args.line.now) c.in_err-height.ensures.ok_part c.read_delta.ensures))

pub returns-then-is_same : goal.returns-then-is_same
returns-then-is_same c = λ h history.
    same_height (progress_at c.args.self.now h) c.args.position c.args.line.now c.requires.expected c.in_ok-height.height (subst (Reads c.args.line.now) c.in_ok-height.ensures.ok_part c.read_delta.ensures).2
    (c.is_same.ensures.exact.0 c.if-is_same.true ∙ current _ c.args.self.now c.unwrap_or.result c.self.view_is c.unwrap_or.ensures ∙ history.counted.values c.args.self.now.head.shown.values)

pub returns : goal.returns
returns c = λ h history.
    let s = progress_at c.args.self.now h in
    let p = c.args.position in
    let height = c.in_ok-height.height in
    let (small, shown, only) = subst (Reads c.args.line.now) c.in_ok-height.ensures.ok_part c.read_delta.ensures in
    let now = current _ c.args.self.now c.unwrap_or.result c.self.view_is c.unwrap_or.ensures ∙ history.counted.values c.args.self.now.head.shown.values in
    next_of _ c.args.self.now (EventEpoch (record p { height = height })) c.args.line.now h c.self.view_is
    (goes_on (EventEpoch (record p { height = height })) c.args.self.now.head c.args.self.now.change c.args.self.now.time history
    (sound_height s p height c.requires.expected history.sound small (λ other. refused c.is_same.result _ c.is_same.ensures.exact c.if-is_same.false (other ∙ sym now)))
    (height_taken s p c.args.line.now c.requires.expected height only) (height_shows s p height c.args.line.now c.requires.expected shown)
    (λ inside. subst ExpectsRow c.requires.expected inside) (λ other. refl))
