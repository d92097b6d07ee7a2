use Rattle.rinex_file.proofs.HeaderRows.Types.{IsInLine, still_grows, read_here, index_read, taken_more, taken_before}
use Rattle.rinex_file.proofs.Names.{at_some, unmapped, arith, ◌≡◌, ◌∙◌, sym, ap, refl, subst, none-some, ℕ, List, [], ◌∷◌, length, take, min, ◌+◌, ◌<◌, ◌≤◌, Ok, take_at, take_min, System, SignalAt, IsSignal, AreTypes, signals_begun, table, indices, IsAppended, IsOf, length_push, short_table, types_with}
use Rattle.rinex_file.proofs.read.types.take_signals.Goals as goal

-- the index of the signal is below that of the first one of the next line, and there are that many
there : {system : System} {all line : List ℕ} {row place end a count : ℕ} → AreTypes system all → line ≡ types_with system (length all) all row → signals_begun row ≤ place → place < end → end ≡ min a count → a ≡ signals_begun (row + 1)
    → length all ≡ count → count ≤ length (table system) → IsInLine system all line row place
there {system} are is low less least next size bound = grind (arith, short_table)

pub returns-in_err-signal-clause-bad : goal.returns-in_err-signal-clause-bad
returns-in_err-signal-clause-bad c = λ refused before all l size.
    let here = there l.are l.is c.loop-place.invariant.from c.loop-place-test.true c.min-end.ensures c.signals_begun.ensures size c.requires.count in
    none-some _ (sym c.in_err-signal.ensures.ok_part ∙ read_here here c.signal_in.ensures.read)

pub returns-then-not-branch-clause-bad : goal.returns-then-not-branch-clause-bad
returns-then-not-branch-clause-bad c = λ refused before all l size.
    let here = there l.are l.is c.loop-place.invariant.from c.loop-place-test.true c.min-end.ensures c.signals_begun.ensures size c.requires.count in
    taken_before c.loop-place.place c.in_ok-signal.signal c.loop-place.signals l.are (index_read (read_here here c.signal_in.ensures.read) c.in_ok-signal.ensures.ok_part) here.less
    (c.add.ensures.old (unmapped _ _ _ _ c.map_err.ensures.cases c.in_ok-map_err.was ∙ ap Ok c.if-not-branch.true)).1 (c.loop-place.invariant.read before all l size)

pub loop-place-preserved : goal.loop-place-preserved
loop-place-preserved c =
    let inv = c.loop-place.invariant in
    let added : IsAppended c.loop-place.signals _ c.add.new.self = c.add.ensures.new (unmapped _ _ _ _ c.map_err.ensures.cases c.in_ok-map_err.was ∙ ap Ok c.if-not-branch.false) in
    record {
      of = subst (λ (t : System). IsOf t c.add.new.self) (at_some _ _ (λ (t : SignalAt). (t.system ≡ c.args.system) × IsSignal t) c.in_ok-signal.ensures.ok_part c.signal_in.ensures.system).0 added.2;
      grows = still_grows c.args.signals.now c.loop-place.signals c.add.new.self inv.grows (ap (take (length c.loop-place.signals)) added.0 ∙ take_at c.loop-place.signals (_ ∷ []) (length c.loop-place.signals) refl);
      size = ap length added.0 ∙ length_push c.loop-place.signals _ ∙ ap (λ n. n + 1) inv.size;
      from = omega (arith, inv.from);
      to = omega arith;
      read = λ before all l size.
          let here = there l.are l.is inv.from c.loop-place-test.true c.min-end.ensures c.signals_begun.ensures size c.requires.count in
          ap indices added.0 ∙ taken_more all c.loop-place.place _ c.loop-place.signals (index_read (read_here here c.signal_in.ensures.read) c.in_ok-signal.ensures.ok_part) here.less (inv.read before all l size);
    }

pub returns-clause-taken : goal.returns-clause-taken
returns-clause-taken c = λ before all l size.
    let inv = c.loop-place.invariant in
    let to = inv.to in
    inv.read before all l size ∙ grind (arith, take_min, c.loop-place-test.false, c.min-end.ensures, c.signals_begun.ensures)
