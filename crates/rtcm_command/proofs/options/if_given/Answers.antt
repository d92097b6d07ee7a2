use Rattle.std.specs.Fn.{FnOnceReturnsAt}
use Rattle.rtcm_command.proofs.OptionLemmas.{none_given, some_given}
use Rattle.rtcm_command.proofs.Names.{None, Some, found_of}
use Rattle.rtcm_command.proofs.options.if_given.Goals as goal

pub returns-in-Some-read : goal.returns-in-Some-read
returns-in-Some-read g c =
    some_given (FnOnceReturnsAt g.F.FnOnce c.args.read) c.args.fault (found_of c.args.options.now) c.args.name.now c.get_str.result c.in-Some.text (Some c.in-Some-read.found) c.get_str.ensures c.in-Some.is (λ t is. (c.in-Some.text, c.in-Some-read.ensures, is))

pub returns-in-None-read : goal.returns-in-None-read
returns-in-None-read g c =
    some_given (FnOnceReturnsAt g.F.FnOnce c.args.read) c.args.fault (found_of c.args.options.now) c.args.name.now c.get_str.result c.in-Some.text None c.get_str.ensures c.in-Some.is (λ t is. (c.in-Some.text, c.in-None-read.ensures, is))

pub returns-in-None : goal.returns-in-None
returns-in-None g c = none_given (FnOnceReturnsAt g.F.FnOnce c.args.read) c.args.fault (found_of c.args.options.now) c.args.name.now c.get_str.result c.get_str.ensures c.in-None.is
