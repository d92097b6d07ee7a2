use Rattle.rinex_inspect.proofs.Names.{◌≡◌, ◌∙◌, ◌<◌, ap, sym, subst, Bool, true, List, [], ℕ, cond, codes, ◌++◌, nat_lt, plan_of, lt-ltb, present_line, SatelliteRecord, contents_in, record_at}
use Rattle.rinex_inspect.proofs.QualityTexts.{lost_is, present_is, record_is}
use Rattle.rinex_inspect.proofs.quality_lines.satellite_line.Goals as goal

pub returns-then-record-gt0 : goal.returns-then-record-gt0
returns-then-record-gt0 c =
    let t = c.args.rated.now.table.now in let s = c.args.system in let i = c.args.i in let plan = plan_of c.args.rated.now.file.now in
    let here : c.index.result.now ≡ record_at t s i = record_is t s i (ap (λ v. v.items) c.of.ensures) c.args.rated.now.fits.places c.requires.place c.index.ensures in
    let some : nat_lt 0 (record_at t s i).presence.epochs ≡ true = lt-ltb 0 _ (subst (λ (r : SatelliteRecord). 0 < r.presence.epochs) here c.if-record-gt0.true) in
    present_is plan (contents_in t) s i (ap (λ (r : SatelliteRecord). r.presence) here) (lost_is t s plan i c.signals.result.now here c.signals.ensures.indices c.lost_of-lost.ensures)
    (c.put.ensures ∙ ap (λ (l : List ℕ). l ++ codes "satellite") c.new-line.ensures) c.add_satellite.ensures.text c.add_presence.ensures.text c.add_count.ensures.text c.finish.ensures
    ∙ sym (ap (λ (b : Bool). cond b (present_line plan (contents_in t) s i) []) some)
