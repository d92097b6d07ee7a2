-- The calls from the last to the first: a further count is one more `add_count-K`.
use Rattle.rtcm_command.proofs.Names.{◌∷◌, ◌++◌, ◌≡◌, List, ℕ, [], refl, codes, counts_named, report_line, end_line}
use Rattle.line_texts.specs.Lines.{with_words}
use Rattle.rtcm_command.proofs.convert.report_line.Goals as goal

words_split : (text : List ℕ) (first last : List (List ℕ)) → with_words text (first ++ last) ≡ with_words (with_words text first) last
words_split text [] last = refl
words_split text (w ∷ ws) last = words_split (text ++ 0x20 ∷ w) ws last

pub returns : goal.returns
unfolding report_line
returns c =
    end_line [] (codes "bytes") (counts_named c.args.has_glonass c.args.report.now) c.finish.ensures
    (rw (
      c.add_count-13.ensures.text,
      c.add_channel_count.ensures.text,
      c.add_count-12.ensures.text,
      c.add_count-11.ensures.text,
      c.add_count-10.ensures.text,
      c.add_count-9.ensures.text,
      c.add_count-8.ensures.text,
      c.add_count-7.ensures.text,
      c.add_count-6.ensures.text,
      c.add_count-5.ensures.text,
      c.add_count-4.ensures.text,
      c.add_count-3.ensures.text,
      c.add_count-2.ensures.text,
      c.add_count.ensures.text,
      c.add_number.ensures.text,
      c.put.ensures,
      c.new-line.ensures,
    ) (simp words_split refl))
