use Rattle.rtcm_msg.proofs.Names.{ℕ, ◌≡◌, ◌≤◌, ◌∙◌, List, option_and_then, length, take, ap, lit≤, bits_of, field_at, sent_week, week_by, week_fields}
use Rattle.rtcm_msg.proofs.LongLaws.{field_in_front}
use Rattle.rtcm_msg.proofs.weeks.sent_week.Goals as goal

by_number : {n : ℕ} (bytes : List ℕ) → 61 ≤ length bytes → n ≡ field_at (bits_of (take 61 bytes)) 0 12 → option_and_then (week_by bytes) (week_fields n) ≡ sent_week bytes
by_number bytes long is = ap (λ (n : ℕ). option_and_then (week_by bytes) (week_fields n)) (is ∙ field_in_front bytes 61 0 12 long (lit≤ tt))

pub returns-in_err-fields-clause-value : goal.returns-in_err-fields-clause-value
returns-in_err-fields-clause-value c =
    let l = c.in_ok-get.ensures.lookup.0 in
    c.from_residual-in_err-fields.ensures ∙ ap (option_and_then (week_by c.args.bytes.now)) c.in_err-fields.ensures.value
    ∙ by_number c.args.bytes.now l.1 (rw l.2 at c.number_at.ensures.value)

pub returns-clause-value : goal.returns-clause-value
returns-clause-value c =
    let l = c.in_ok-get.ensures.lookup.0 in
    c.read_week.ensures.value ∙ ap (option_and_then (week_by c.args.bytes.now)) c.in_ok-fields.ensures.value
    ∙ by_number c.args.bytes.now l.1 (rw l.2 at c.number_at.ensures.value)
