use Rattle.rinex_file.proofs.Writing.Stored.{lines_have_room, all_written}
use Rattle.rinex_file.proofs.Names.{sym, subst, All, HaveRowsRoom}
use Rattle.rinex_file.proofs.write.file.write_file.Goals as goal

pub write_stored-requires : goal.write_stored-requires
write_stored-requires c =
    let rooms = subst (All HaveRowsRoom) (sym c.as_slice-epochs.ensures.value) (lines_have_room _ c.file.invariant.0) in
    subst HaveRowsRoom (sym c.epoch-item.is) (rooms c.loop-epoch.epoch-index c.epoch-item.result c.loop-epoch-test.true)

pub returns : goal.returns
returns c =
    let (first, at, written) = c.loop-epoch.invariant in
    all_written c.args.text.now.inner.items c.loop-epoch.epoch-index c.file.view_is c.file.invariant.0 c.as_slice-epochs.ensures.value at
    c.loop-epoch-test.false written
