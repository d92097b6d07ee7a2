-- The names that proofs cite, passed on from one place. Declares nothing.
pub use Rattle.gnss_obs.specs.Dates.{IsCivilOf}
pub use Rattle.gnss_obs.specs.Plans.{between_commas, onto_first}
pub use Rattle.gnss_obs.specs.Channels.{AreChannels, ChannelsValue, most_number, no_channels, number_at, slot_count}
pub use Rattle.gnss_obs.specs.Weeks.{week, weeks}
pub use Rattle.line_texts.specs.Lines.{line, with_words}
pub use Rattle.line_texts.specs.Digits.{four_digits}
pub use Rattle.line_texts.specs.Metres.{size_text}
pub use Rattle.std.proofs.lemmas.Bool.{and_from, and_parts, le-leb, le-ltb, lt-ltb, or_parts, true≢false}
pub use Rattle.std.proofs.lemmas.Bool.Decides.{nat_tests}
pub use Rattle.std.proofs.lemmas.Fmt.{decimal_digit, decimal_is_IsNumeral, decimal_nonempty, digits_decimal, digits_value-decimal, length-decimal-le, first_decimal}
pub use Rattle.std.proofs.lemmas.Grind.{common_steps}
pub use Rattle.std.proofs.lemmas.List.{drop_at, get_or_append_left, get_or_at, length_push, take_at, length-take-le, set_at, take_more, take_all}
pub use Rattle.std.proofs.lemmas.List.Elements.{All-head, All-tail, All-take}
pub use Rattle.std.proofs.lemmas.List.Folds.{list_all-append, list_any-append}
pub use Rattle.std.proofs.lemmas.List.Sums.{AllPass-from_list_all, position_or_len_is}
pub use Rattle.std.specs.List.{after_first, before_first, join_with_byte, list_all, list_any, position_or_len}
pub use Rattle.std.specs.Prelude.{MatchOption, if◌then◌else◌, nat_lt, option_and_then, ⊤, ◌↔◌}
pub use Rattle.std.specs.Result.{result_ok}
pub use Rattle.std.proofs.Common.{All, Bool, IfSome, List, None, Option, Some, [], ap, append-nil, append_assoc, arith, decimal, false, get_or, inl, inr, length, length-append, refl, replicate, rules, subst, sym, take, true, ℕ, ◌*◌, ◌++◌, ◌+◌, ◌-◌, ◌<◌, ◌==◌, ◌^◌, ◌∙◌, ◌∷◌, ◌≡◌, ◌≤◌, ◌≢◌, ◌/◌, ◌%◌, pos, not, Result, Ok, Err, Bor, option_map, drop, codes, lit≤}
pub use Rattle.gnss_obs.specs.declared.civil.Civil.{Civil}
pub use Rattle.rinex_columns.specs.Read.{digits_from, digits_in, next_digit}
pub use Rattle.line_texts.specs.Dates.{IsHourOf, IsTimeAt, IsWeekNumber, IsWeekOf, civil_in}
pub use Rattle.line_texts.specs.Lengths.{after_byte, cut, decimals_of, fixed_by, fixed_point, is_digit, length_below, number_of}
pub use Rattle.std.proofs.lemmas.Str.Parse.{IsNumeralModel, digits_value_short, numerals_by_fold, parse_plain}
pub use Rattle.std.proofs.lemmas.Str.Pattern.{starts_char, strip_prefix_char}
pub use Rattle.std.specs.Str.Parse.{IsNumeral, ParsesUnsigned, digits_value, signed_digits_value, without_leading_sign}
pub use Rattle.line_texts.specs.ChannelTexts.{after_comma, channel_of, channel_text, channels_after, channels_of, channels_text, slot_channel_of, slot_of, slot_text, slot_texts, with_entry}
