-- Each end of a run: refused at once, finished, or stopped by Read, TooLong or the file's writer, with the record of
-- what was made, for a value of the converter with its parts inside.
use Rattle.rtcm_convert.proofs.FaultLemmas.{writer_after}
use Rattle.rtcm_convert.proofs.FeedLemmas.{read_of, long_of, sink_of, writer_at, reader_at, fed_fit}
use Rattle.rtcm_convert.proofs.FinishLemmas.{left_after, not_of_finish, reader_after, sent_after}
use Rattle.rtcm_convert.proofs.RunLemmas.{going_on, ran_whole, ran_empty, run_finishing, rest_taken, rest_faulty, rest_long, rest_part, rest_device}
use Rattle.rtcm_convert.proofs.StreamLemmas.{piece_fine}
use Rattle.rtcm_convert.proofs.Names.{Report, ⊤, ◌∙◌, ap, refl, rules, IfOk-weaker, IsRunFault, Read, TooLong, inl, inr, up_to_limit, Conversion}
use Rattle.rtcm_convert.proofs.converter.Converter.run.Goals as goal

pub invariant_of-self : goal.invariant_of-self
invariant_of-self g c =
    fed_fit c.in-Ok.ensures.whole.0 c.self.invariant (going_on c.self.view_is c.in_ok-refuse.ensures.going) c.read_pieces.ensures.same.can c.in-Ok.ensures.end.1 c.read_pieces.ensures.same.ended c.read_pieces.ensures.same.some c.in-Ok.ensures.whole.2.0

pub returns-in-Ok : goal.returns-in-Ok
returns-in-Ok g c =
    let go = going_on c.self.view_is c.in_ok-refuse.ensures.going in
    let listening = c.self.invariant.listening go in
    let ok = c.in-Ok.ensures in
    let n = c.finish.ensures in
    let r = c.finish.result in
    let p = rest_taken g.W.Write.contents (g.R.Read.remaining c.args.reader.now.inner) (g.R.Read.remaining c.read_pieces.new.reader.inner) (record { bounds = c.kept.ensures.bounds; values = c.kept.ensures.now }) listening (c.read_pieces.ensures.same.ended ∙ listening) ok.whole in
    let d = piece_fine g.W.Write.contents ok.whole.0 ok.whole.2.0 (c.self.invariant.drained go) in
    let left = n.left.0.1 (record { fine = go.fine; more = go.more }) in
    record {
      refused = search rules;
      whole = rw (← c.self.view_is) (IfOk-weaker r _ _ (λ _. ran_whole _ _ p ok.end.0) n.whole);
      empty = rw (← c.self.view_is) (λ fault none h. ran_empty _ _ p ok.end.0 (n.empty fault none h));
      long = λ e. absurd (not_of_finish _ r left TooLong refl e);
      read = λ e. absurd (not_of_finish _ r left Read refl e);
      write = rw (← c.self.view_is) (λ h. inr (run_finishing c.finish.new.self _ _ p ok.end.0 n.taken (n.part h)));
      sent = sent_after _ r _ _ _ left n.sent;
      reader = reader_after _ r c.args.reader.now c.read_pieces.new.reader left ok.reader.1 ok.reader.2;
      writer = writer_after r c.args.writer.now c.read_pieces.new.out c.finish.new.writer d.1 d.2 n.device;
      left = ((n.left.0.0 ∙ c.read_pieces.ensures.same.limit ∙ ap (λ (x : Conversion). x.scan.limit) c.self.view_is, λ _. left_after IsRunFault _ r (λ f k. inr (inr k)) left), n.left.1);
    }

pub returns-in-Err-clause-read : goal.returns-in-Err-clause-read
returns-in-Err-clause-read g c =
    let listening = c.self.invariant.listening (going_on c.self.view_is c.in_ok-refuse.ensures.going) in
    λ e. rw (← c.self.view_is) (rest_faulty g.W.Write.contents _ _ listening (c.read_pieces.ensures.same.ended ∙ listening) (read_of c.in-Err.fault _ _ _ c.from.ensures c.in-Err.ensures.fault e))

pub returns-in-Err-clause-long : goal.returns-in-Err-clause-long
returns-in-Err-clause-long g c =
    let listening = c.self.invariant.listening (going_on c.self.view_is c.in_ok-refuse.ensures.going) in
    λ e. rw (← c.self.view_is) (rest_long g.W.Write.contents _ _ listening (c.read_pieces.ensures.same.ended ∙ listening) (long_of c.in-Err.fault _ _ _ c.from.ensures c.in-Err.ensures.fault e))

pub returns-in-Err-clause-write : goal.returns-in-Err-clause-write
returns-in-Err-clause-write g c =
    let listening = c.self.invariant.listening (going_on c.self.view_is c.in_ok-refuse.ensures.going) in
    λ e. inl (rw (← c.self.view_is) (rest_part g.W.Write.contents _ _ c.filed.ensures.grows c.prefix.ensures.decided listening (sink_of c.in-Err.fault _ _ _ c.from.ensures c.in-Err.ensures.fault e)))

pub returns-in-Err-clause-reader : goal.returns-in-Err-clause-reader
returns-in-Err-clause-reader g c = reader_at Report ⊤ c.in-Err.fault c.args.reader.now c.read_pieces.new.reader c.from.ensures c.in-Err.ensures.reader

pub returns-in-Err-clause-writer : goal.returns-in-Err-clause-writer
returns-in-Err-clause-writer g c =
    let d = c.self.invariant.drained (going_on c.self.view_is c.in_ok-refuse.ensures.going) in
    writer_at Report c.in-Err.fault c.args.writer.now c.read_pieces.new.out c.from.ensures c.in-Err.ensures.fault
    (λ k. let e = piece_fine g.W.Write.contents k.0 k.2.0 d in (e.1, e.2)) (λ k. let e = piece_fine g.W.Write.contents (up_to_limit c.self.inside.framer k.0) k.2.passes d in (e.1, e.2)) (λ k. rest_device k d)
