-- The line is refused unless it is the text of a row whose rank rises. One row more keeps the history of the file;
-- with the last one expected, the epoch is complete, and its counts, times and station values go on.
use Rattle.rinex_file.proofs.Reading.Epochs.{bad_of, stopped, rise_after, rise_last, values_more, row_taken, row_shows, last_shows, no_row, bad_row, last_taken, sound_open, few_at, sound_row, sound_closed}
use Rattle.rinex_file.proofs.FewRows.{some_rank}
use Rattle.rinex_file.proofs.Names.{is_some, open_epochs, arith, ◌≡◌, ◌∙◌, ◌+◌, ◌-◌, ◌<◌, ◌∷◌, ◌++◌, [], ℕ, suc, List, sym, ap, subst, length, length-append, Bool, Option, Some, None, IfSome, map, ◌↔◌, IsStrictlyIncreasing, map-append, sum_by-append, System, Satellite, SatelliteRow, Stamped, StationValues, IsSatelliteRow, changed_by, rank_of, time_stamped, satellite_line, Progress, ReadsExactly, some_if, EpochTimes, AreTimes, AreTimesOrNone, IsLast, changes_of, stamped_at, progress_at, rows_in, common_steps, with_satellite, with_whole_epoch}
use mir.Val.{bool_byte}
use Rattle.rinex_file.proofs.read.parser_state.ParserState.take_satellite.Goals as goal

pub read_row-requires : goal.read_row-requires
read_row-requires c =
    let (h, history) = c.requires.history in
    let few = few_at (progress_at c.args.self.now h) c.args.left c.requires.expected history.sound in
    record { few = λ s. let most = few s in let is = c.planned_signals-planned.ensures s in omega (arith, most, is) }

-- at least one of the lines is expected
one_expected : (left : ℕ) (s : Progress) → s.expected ≡ Satellite left → 0 < left → s.expected ≡ Satellite (suc (left - 1))
one_expected left s expected some = let n : left ≡ suc (left - 1) = omega (arith, some) in expected ∙ ap Satellite n

-- the satellite of a line, if these numbers of signals are planned
abbrev Shows : (System → ℕ) → List ℕ → Bool → SatelliteRow → Type 0
Shows signals line b seen = ReadsExactly (IsSatelliteRow signals) satellite_line line (some_if b seen)

shows : {read signals : System → ℕ} (line : List ℕ) {r b : Bool} (seen : SatelliteRow) → ((s : System) → read s ≡ signals s) → r ≡ b → Shows read line r seen → Shows signals line b seen
shows {read} {signals} line {b = b} seen same y h = subst (λ (f : System → ℕ). Shows f line b seen) (λ i s. same s i) (subst (λ (r : Bool). Shows read line r seen) y h)

-- the ranks and a greater one are increasing, and those alone
increasing : {signals : System → ℕ} (rows : List SatelliteRow) {seen : SatelliteRow} (last : ℕ) {rank : ℕ} → IsLast (map rank_of rows) last → IsSatelliteRow signals seen → rank ≡ rank_of seen
    → (last < rank) ↔ IsStrictlyIncreasing (map rank_of rows ++ rank_of seen ∷ [])
increasing {signals} rows {seen} last is row same =
    subst (λ (n : ℕ). (last < n) ↔ IsStrictlyIncreasing (map rank_of rows ++ rank_of seen ∷ [])) (sym same) (is (rank_of seen) (some_rank signals seen row))

last_rank : (rows : List SatelliteRow) (seen : SatelliteRow) (n : ℕ) → n ≡ rank_of seen → IsStrictlyIncreasing (map rank_of rows ++ rank_of seen ∷ []) → IsLast (map rank_of (rows ++ seen ∷ [])) n
last_rank rows seen n same rise m some =
    let ends : map rank_of (rows ++ seen ∷ []) ≡ map rank_of rows ++ n ∷ [] = map-append rank_of rows (seen ∷ []) ∙ ap (λ m. map rank_of rows ++ m ∷ []) (sym same) in
    let all = subst IsStrictlyIncreasing (sym (map-append rank_of rows (seen ∷ []))) rise in
    (rise_after _ _ n m ends all, rise_last _ _ n m ends)

pub returns-in_err-ok_or : goal.returns-in_err-ok_or
returns-in_err-ok_or c = stopped c.args.self.now _ c.args.line.now _ c.from_residual.ensures.1 (λ e same. same ∙ bad_of c.in_err-ok_or.ensures.value c.in_err-ok_or.ensures.ok_part) (λ h history.
    let s = progress_at c.args.self.now h in
    let (read, begun, some, room) = sound_open s c.args.left c.requires.expected history.sound in
    no_row s (c.args.left - 1) c.args.line.now (one_expected c.args.left s c.requires.expected some)
    (shows c.args.line.now c.read_row.new.row c.planned_signals-planned.ensures (ap is_some c.in_err-ok_or.ensures.ok_part) c.read_row.ensures))

pub returns-then-rank-self : goal.returns-then-rank-self
returns-then-rank-self c = λ h history.
    let s = progress_at c.args.self.now h in
    let seen = c.read_row.new.row in
    let (read, begun, some, room) = sound_open s c.args.left c.requires.expected history.sound in
    let shown = shows c.args.line.now seen c.planned_signals-planned.ensures (ap is_some c.in_ok-ok_or.ensures.ok_part) c.read_row.ensures in
    bad_row s (c.args.left - 1) c.args.line.now (one_expected c.args.left s c.requires.expected some) seen shown.2
    (λ rise. let more = (increasing h.rows _ history.counted.rank shown.0 c.rank_of-rank.ensures).1 rise in omega (arith, more, c.if-rank-self.true))

last_before : (all : List ℕ) (times : Option EpochTimes) (time : ℕ) → AreTimesOrNone all times → IsStrictlyIncreasing (all ++ time ∷ []) → IfSome times (λ t. t.last < time)
last_before all None time are rise = tt
last_before all (Some t) time are rise = let (front, last) = are.last in rise_last all front t.last time last rise

pub with_later-requires : goal.with_later-requires
with_later-requires c =
    let (h, history) = c.requires.history in
    let (read, begun, some, room) = sound_open (progress_at c.args.self.now h) c.args.left c.requires.expected history.sound in
    last_before _ c.args.self.now.times c.args.self.now.time history.counted.times begun.later

row_counted : (es : List Stamped) (rows : List SatelliteRow) (seen : SatelliteRow) (n : ℕ) → n ≡ rows_in es + length rows → n + 1 ≡ rows_in es + length (rows ++ seen ∷ [])
row_counted es rows seen n e = let size : length (rows ++ seen ∷ []) ≡ length rows + 1 = length-append rows (seen ∷ []) in omega (arith, e, size)

one_longer : (es : List Stamped) (e : Stamped) (n : ℕ) → n ≡ length es → n + 1 ≡ length (es ++ e ∷ [])
one_longer es e n all = let size : length (es ++ e ∷ []) ≡ length es + 1 = length-append es (e ∷ []) in omega (arith, all, size)

pub returns-then-left-gt1 : goal.returns-then-left-gt1
returns-then-left-gt1 c = λ h history.
    let s = progress_at c.args.self.now h in
    let (read, begun, some, room) = sound_open s c.args.left c.requires.expected history.sound in
    let shown = shows c.args.line.now _ c.planned_signals-planned.ensures (ap is_some c.in_ok-ok_or.ensures.ok_part) c.read_row.ensures in
    let rise = (increasing h.rows _ history.counted.rank shown.0 c.rank_of-rank.ensures).0 c.if-rank-self.false in
    let more : 0 < c.args.left - 1 = let n = c.if-left-gt1.true in omega (arith, n) in (
      with_satellite h c.read_row.new.row,
      record {
        history = record {
          sound = sound_row s (c.args.left - 1) c.requires.expected history.sound shown.0 rise more (omega (arith, some));
          counted =
              let old = history.counted in
              record {
                times = old.times;
                rank = last_rank h.rows _ c.rank_of-rank.result c.rank_of-rank.ensures rise;
                values = old.values;
                epochs = old.epochs;
                satellites = row_counted h.epochs h.rows _ c.args.self.now.counts.satellites old.satellites;
                events = old.events;
              };
        };
        follows = row_taken s (c.args.left - 1) c.args.line.now (one_expected c.args.left s c.requires.expected some) _ shown.1 shown.2;
        shows = row_shows s (c.args.left - 1) c.args.line.now (one_expected c.args.left s c.requires.expected some) _ shown.1;
        room = λ n few. let begun = ap open_epochs c.requires.expected in (omega (arith, begun, few.0), omega (arith, few.1));
        adds = grind (arith, common_steps, c.requires.expected);
      },
    )

changed : (o : Option StationValues) (b : Bool) → b ≡ is_some o → bool_byte b ≡ changes_of o
changed o b is = grind arith

pub returns : goal.returns
returns c = λ h history.
    let seen = c.read_row.new.row in
    let (read, begun, some, room) = sound_open _ c.args.left c.requires.expected history.sound in
    let shown = shows c.args.line.now seen c.planned_signals-planned.ensures (ap is_some c.in_ok-ok_or.ensures.ok_part) c.read_row.ensures in
    let rise = (increasing h.rows _ history.counted.rank shown.0 c.rank_of-rank.ensures).0 c.if-rank-self.false in
    let last : c.args.left ≡ suc 0 = let n = c.if-left-gt1.false in omega (arith, n, some) in
    let epoch = stamped_at c.args.self.now.change c.args.self.now.time (h.rows ++ seen ∷ []) in (
      with_whole_epoch (with_satellite h seen) c.args.self.now.change c.args.self.now.time,
      record {
        history = record {
          sound = sound_closed _ 0 c.requires.expected history.sound shown.0 rise;
          counted =
              let old = history.counted in
              record {
                times = subst (λ (ts : List ℕ). AreTimes ts c.with_later.result) (sym (map-append time_stamped h.epochs (epoch ∷ []))) (c.with_later.ensures _ old.times);
                rank = λ n some. (λ less k room. absurd (omega (arith, room)), λ rise. some);
                values = λ v. (grind (arith, c.or-self.ensures)) ∙ ap (λ (w : StationValues). changed_by w c.args.self.now.change) (old.values v) ∙ sym (values_more v h.epochs epoch);
                epochs = one_longer h.epochs epoch c.args.self.now.counts.epochs old.epochs;
                satellites = grind (arith, length-append, sum_by-append, old.satellites);
                events = grind (arith, sum_by-append, changed c.args.self.now.change c.is_some.result c.is_some.ensures, old.events);
              };
        };
        follows = last_taken _ c.args.line.now (c.requires.expected ∙ ap Satellite last) seen shown.1 shown.2;
        shows = last_shows _ c.args.line.now (c.requires.expected ∙ ap Satellite last) seen shown.1;
        room = λ n few. let begun = ap open_epochs c.requires.expected in (omega (arith, begun, few.0), grind (arith, few.1));
        adds = grind (arith, common_steps, c.requires.expected);
      },
    )
