use Rattle.rinex_columns.proofs.Names.{◌≡◌, ◌^◌, ◌<◌, drop, digits_from}
use Rattle.rinex_columns.proofs.read.digits_in.Given as goal

-- the rest of the text continues the number so far, which has at most one digit for each byte
abbrev pub invariant-loop-b : goal.invariant-loop-b
invariant-loop-b l = record {
  same : digits_from l.number (drop l.b-index l.text) ≡ digits_from 0 l.text;
  bound : l.number < 10 ^ l.b-index;
}
