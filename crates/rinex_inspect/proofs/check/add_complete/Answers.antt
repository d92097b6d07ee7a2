use Rattle.rinex_inspect.proofs.Names.{line_but, append_assoc}
use Rattle.rinex_inspect.proofs.check.add_complete.Goals as goal

pub returns-in-Some : goal.returns-in-Some
unfolding line_but
returns-in-Some c = simp (c.in-Some.is, c.finish.ensures, c.add_count.ensures.text, c.add_number.ensures.text, c.put.ensures, c.saturating_sub-in-Some.ensures, c.saturating_sub.ensures, c.size-size.ensures, append_assoc)
