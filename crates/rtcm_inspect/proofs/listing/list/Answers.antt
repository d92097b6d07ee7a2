use Rattle.rtcm_inspect.proofs.StreamLemmas.{started}
use Rattle.rtcm_inspect.proofs.ListingLemmas.{Stopped, listed_all, listing_stopped, new_listing}
use Rattle.rtcm_inspect.proofs.Names.{Err, subst, sym, ⊤, InspectFault, EndsListing, Lists, devices_of, listing_lines}
use Rattle.rtcm_inspect.proofs.listing.list.Goals as goal

pub returns-in-Ok-read : goal.returns-in-Ok-read
returns-in-Ok-read g c =
    let contents = g.W.Write.contents in
    let began = started (Lists contents) c.in-Ok.ensures.new c.prefix.ensures.empty c.in-Ok.ensures.history c.in-Ok.ensures.drained
    (new_listing contents c.args.listing c.args.writer.now) in
    let end = c.in-Ok-read.ensures in
    let all = listed_all g.R.Read.remaining contents g.W.Deliver.waiting c.read_frames-read.new.self c.read_frames-read.new.sink c.read_frames-read.new.out c.args.reader.now c.read_frames-read.new.reader began end.ended end.whole in
    ((end.reader.1, all.1, end.sent), all.0)

pub returns-in-Err : goal.returns-in-Err
returns-in-Err g c =
    let contents = g.W.Write.contents in
    let remaining = g.R.Read.remaining in
    let waiting = g.W.Deliver.waiting in
    let began = started (Lists contents) c.in-Ok.ensures.new c.prefix.ensures.empty c.in-Ok.ensures.history c.in-Ok.ensures.drained
    (new_listing contents c.args.listing c.args.writer.now) in
    let end = c.in-Err.ensures in
    let stopped : Stopped remaining contents waiting c.in-Ok.framer c.read_frames-read.new.self c.args.listing c.read_frames-read.new.sink c.args.writer.now c.read_frames-read.new.out c.args.reader.now c.read_frames-read.new.reader c.in-Err.fault = record { passed = end.fault; still = end.going; sent = end.sent; failed = end.reader.0 } in
    let at = devices_of remaining contents waiting in
    subst (λ (f : InspectFault). EndsListing {A = ⊤} (Err f) c.args.limit (listing_lines c.args.listing) (at c.args.reader.now c.args.writer.now) (at c.read_frames-read.new.reader c.read_frames-read.new.out)) (sym c.from.ensures)
    (listing_stopped c.in-Err.fault began stopped)
