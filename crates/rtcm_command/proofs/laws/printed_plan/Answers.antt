use Rattle.rtcm_command.proofs.PrintedPlanLemmas.{DateLaws, ReadLaws, dated_as_printed, dated_as_sent, started_as_found, words_printed}
use Rattle.rtcm_command.proofs.laws.printed_plan.Goals as goal

pub returns : goal.returns
returns c =
    let read : ReadLaws = record {
      plan = c.signals.ensures.read;
      channels = c.channels.ensures;
      some_channels = c.channels-2.ensures.some;
      station = c.numbers.ensures.station;
      week = c.numbers.ensures.week;
      leap = c.numbers.ensures.leap;
      position = c.station.ensures.read;
      zero = c.station.ensures.zero;
      range = c.lengths.ensures.first;
    } in
    let date : DateLaws = record { free = c.near.ensures.leap; dated = c.near.ensures.dated; some = c.signals.ensures.first; small = c.near.ensures.small } in
    record { words = words_printed; found = started_as_found read; dated = dated_as_printed read date; sent = dated_as_sent read date }
