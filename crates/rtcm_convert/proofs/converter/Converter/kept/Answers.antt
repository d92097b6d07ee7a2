use Rattle.rtcm_convert.proofs.Names.{rules, refl, ◌∙◌, length, sym, ap, cells_of}
use Rattle.gnss_system.proofs.SystemLaws.{is_tabulated, value_tabulated}
use Rattle.rtcm_convert.proofs.converter.Converter.kept.Goals as goal

pub returns-clause-value : goal.returns-clause-value
returns-clause-value c =
    let cells = is_tabulated c.each.result (λ s. length (cells_of s c.args.self.now.file_writer.gatherer.epoch)) (λ s. let given = c.each.ensures s in search rules) in
    rw (c.held.ensures.value, cells, c.locks.ensures.value, c.examined.ensures.value, c.most.ensures.value) refl

pub returns-clause-bounds : goal.returns-clause-bounds
returns-clause-bounds c = record {
  held = let h = c.held.ensures in rw (← h.value) h.bound;
  cells = λ s. rw (value_tabulated s (λ s. length (cells_of s c.args.self.now.file_writer.gatherer.epoch))) (let given = c.each.ensures s in search rules);
  locks = let h = c.locks.ensures in rw (← h.value) h.bound;
  examined = let h = c.examined.ensures in rw (← h.value) h.bound;
  most = let h = c.most.ensures in rw (← h.value) h.bound;
}

pub returns-clause-now : goal.returns-clause-now
returns-clause-now c = λ s b h. record {
  held = ap length (c.held.ensures.undecided s b h);
  cells = λ system. value_tabulated system (λ s. length (cells_of s c.args.self.now.file_writer.gatherer.epoch)) ∙ (let given = c.each.ensures system in search rules);
  locks = sym c.locks.ensures.value ∙ c.locks.ensures.now s b h;
  examined = sym c.examined.ensures.value ∙ c.examined.ensures.now s b h;
  most = sym c.most.ensures.value ∙ c.most.ensures.now s b h;
}
