use Rattle.rtcm_command.proofs.ConvertLemmas.{Faulted, conversion_stopped, given_bad}
use Rattle.rtcm_command.proofs.Names.{refl, IsBad, devices_of}
use Rattle.rtcm_command.proofs.convert.run_convert.Goals as goal

pub returns-in-Err-clause-ends : goal.returns-in-Err-clause-ends
returns-in-Err-clause-ends g c =
    let end = c.in-Err.ensures in
    let at = devices_of g.R.Read.remaining g.W.Write.contents g.W.Deliver.waiting in
    let s : Faulted c.args.setup (at c.args.reader.now c.args.writer.now) (at c.convert_stream.new.reader c.convert_stream.new.writer) c.in-Err.fault = record { sent = end.sent; empty = end.empty; long = end.long; read = end.read; write = end.write; bad = end.bad_setup; untouched = end.untouched; only = end.only } in
    ((end.devices.0.0, end.devices.1.0), (c.in-Err.fault, refl, conversion_stopped c.in-Err.fault s))

pub returns-in-Err-clause-bad_setup : goal.returns-in-Err-clause-bad_setup
returns-in-Err-clause-bad_setup g c = given_bad c.in-Err.fault (IsBad c.args.setup) c.in-Err.ensures.bad_setup
