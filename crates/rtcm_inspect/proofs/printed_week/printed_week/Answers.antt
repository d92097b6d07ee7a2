use Rattle.rtcm_inspect.proofs.printed_week.printed_week.Goals as goal

pub returns-in-Near : goal.returns-in-Near
returns-in-Near c = λ fs h. rw c.in-Near.is (c.dated_week.ensures fs h)

pub returns-in-Ephemerides : goal.returns-in-Ephemerides
returns-in-Ephemerides c = λ fs h. rw c.in-Ephemerides.is (c.sent_week.ensures fs h)
