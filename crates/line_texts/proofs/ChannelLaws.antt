-- Channels that are read from text, and those that were written.
use Rattle.line_texts.proofs.LengthLaws.{cut_first, decimal_read, no_byte, own}
use Rattle.line_texts.proofs.LineLaws.{first_code, is_comma, join-push, last_code}
use Rattle.line_texts.proofs.Names.{AreChannels, ChannelsValue, most_number, no_channels, number_at, slot_count, le-leb, ◌≡◌, ◌∙◌, ◌+◌, ◌-◌, ◌<◌, ◌≤◌, ◌^◌, ◌++◌, ◌∷◌, [], ℕ, true, false, List, Option, Some, None, All, All-head, All-tail, IfSome, ⊤, ap, append-nil, append_assoc, arith, between_commas, decimal, decimal_digit, digits_decimal, get_or, get_or_at, is_digit, join_with_byte, length, length-append, length-decimal-le, list_all, list_any, list_any-append, nat_tests, option_and_then, refl, replicate, sym, take, common_steps, first_decimal, length-take-le, set_at, take_more, All-take, after_comma, channel_of, channel_text, channels_after, channels_of, channels_text, slot_channel_of, slot_of, slot_text, slot_texts, with_entry}

-- ---- a slot and its channel

fits : (n : ℕ) → n < 100 → n < 2 ^ 64
fits n h = omega (arith, h)

slot_read : (slot : ℕ) → 1 ≤ slot → slot ≤ slot_count → slot_of (decimal slot) ≡ Some slot
slot_read slot some few = grind (arith, first_decimal, fits, nat_tests, decimal_read, le-leb)

negative_read : (n : ℕ) → n < 7 → channel_of (0x2D ∷ decimal (7 - n)) ≡ Some n
negative_read n h = grind (arith, decimal_read, fits, le-leb)

positive_read : (n : ℕ) → 7 ≤ n → n ≤ most_number → channel_of (decimal (n - 7)) ≡ Some n
positive_read n least most = grind (arith, nat_tests, decimal_read, fits, decimal_digit, le-leb)

channel_read : (n : ℕ) → n ≤ most_number → channel_of (channel_text n) ≡ Some n
channel_read n h = grind (arith, negative_read, nat_tests, positive_read)

digits_of : (n : ℕ) → n < 100 → list_all is_digit (decimal n) ≡ true
digits_of n h = digits_decimal own n (fits n h)

entry_read : (slot n : ℕ) → 1 ≤ slot → slot ≤ slot_count → n ≤ most_number → slot_channel_of (slot_text slot n) ≡ Some (slot, n)
entry_read slot n some few small = grind (arith, cut_first, no_byte, digits_of, slot_read, channel_read)

-- ---- a text with a byte, and without a comma

pub record IsPlain (text : List ℕ) : Type 0 where
  pub plain : list_any is_comma text ≡ false
  pub some : 0 < length text

no_comma : (ds : List ℕ) → list_all is_digit ds ≡ true → list_any is_comma ds ≡ false
no_comma [] h = refl
no_comma (d ∷ ds) h = grind (arith, nat_tests, h, no_comma ds (grind (arith, h)))

channel_plain : (n : ℕ) → n ≤ most_number → list_any is_comma (channel_text n) ≡ false
channel_plain n h = grind (arith, is_comma, no_comma, digits_of)

slot_plain : (slot n : ℕ) → slot ≤ slot_count → n ≤ most_number → IsPlain (slot_text slot n)
slot_plain slot n few small = grind (arith, list_any-append, is_comma, no_comma, digits_of, channel_plain, length-append)

ArePlain : List (List ℕ) → Type 0
ArePlain [] = ⊤
ArePlain (t ∷ ts) = IsPlain t × ArePlain ts

-- texts between commas
apart : (t : List ℕ) (ts : List (List ℕ)) → ArePlain (t ∷ ts) → between_commas (join_with_byte 0x2C (t ∷ ts)) ≡ t ∷ ts
unfolding ArePlain
apart t [] h = last_code t h.0.plain
apart t (u ∷ us) h = first_code t (join_with_byte 0x2C (u ∷ us)) h.0.plain ∙ ap (λ (l : List (List ℕ)). t ∷ l) (apart u us h.1)

join_some : (t : List ℕ) (ts : List (List ℕ)) → ArePlain (t ∷ ts) → 0 < length (join_with_byte 0x2C (t ∷ ts))
unfolding ArePlain
join_some t ts h = grind (arith, length-append)

-- ---- the slots of a list

abbrev pub AreNumbers : ChannelsValue → Type 0
AreNumbers channels = All (λ number. IfSome number (λ n. n ≤ most_number)) channels

slots_plain : (slot : ℕ) (ns : ChannelsValue) → slot + length ns ≤ 28 → AreNumbers ns → ArePlain (slot_texts slot ns)
unfolding ArePlain
slots_plain slot [] few small = tt
slots_plain slot (None ∷ ns) few small = slots_plain (slot + 1) ns (omega (arith, few)) (All-tail (λ number. IfSome number (λ n. n ≤ most_number)) None ns small)
slots_plain slot (Some n ∷ ns) few small = grind (arith, common_steps, slot_plain, All-head, All-tail, slots_plain (slot + 1) ns (omega (arith, few)) (All-tail (λ number. IfSome number (λ n. n ≤ most_number)) (Some n) ns small))

abbrev nones : ChannelsValue → ChannelsValue
nones ns = replicate (length ns) None

-- the slots from one on are read, whose texts these are, after those before it
abbrev Reads : (front : ChannelsValue) (slot : ℕ) (ns : ChannelsValue) → Type 0
Reads front slot ns = channels_after (front ++ nones ns) (slot_texts slot ns) ≡ Some (front ++ ns)

shifted : (front : ChannelsValue) (x : Option ℕ) (slot : ℕ) (ns : ChannelsValue) → Reads (front ++ x ∷ []) slot ns → channels_after (front ++ x ∷ nones ns) (slot_texts slot ns) ≡ Some (front ++ x ∷ ns)
shifted front x slot ns h = grind (arith, append_assoc)

-- a slot without a channel gets one
entered : (front : ChannelsValue) (slot n : ℕ) (ns : ChannelsValue) → slot ≡ length front + 1 → slot ≤ slot_count → n ≤ most_number → with_entry (front ++ None ∷ nones ns) (slot_text slot n) ≡ Some (front ++ Some n ∷ nones ns)
entered front slot n ns at few small = grind (arith, get_or_at, set_at, entry_read)

reads : (front : ChannelsValue) (slot : ℕ) (ns : ChannelsValue) → slot ≡ length front + 1 → slot + length ns ≤ 28 → AreNumbers ns → Reads front slot ns
reads front slot [] at few small = refl
reads front slot (None ∷ ns) at few small = grind (arith, shifted, length-append, All-tail, reads (front ++ None ∷ []) (slot + 1) ns (omega (arith, at, length-append front (None ∷ []))) (omega (arith, few)) (All-tail (λ number. IfSome number (λ n. n ≤ most_number)) None ns small))
reads front slot (Some n ∷ ns) at few small =
    ap (option_and_then (λ channels. channels_after channels (slot_texts (slot + 1) ns)))
    (entered front slot n ns at (omega (arith, few)) (All-head (λ number. IfSome number (λ n. n ≤ most_number)) (Some n) ns small))
    ∙ shifted front (Some n) (slot + 1) ns
    (reads (front ++ Some n ∷ []) (slot + 1) ns (omega (arith, at, length-append front (Some n ∷ []))) (omega (arith, few)) (All-tail (λ number. IfSome number (λ n. n ≤ most_number)) (Some n) ns small))

of_text : (text : List ℕ) → 0 < length text → channels_of text ≡ channels_after no_channels (between_commas text)
of_text text some = grind arith

pub channels_read : (channels : ChannelsValue) → AreChannels channels → channels_of (channels_text channels) ≡ Some channels
channels_read channels are = by (slot_texts 1 channels) refl (slots_plain 1 channels (omega (arith, are.slots)) are.each) where
  all : channels_after no_channels (slot_texts 1 channels) ≡ Some channels
  all = ap (λ (k : ℕ). channels_after (replicate k None) (slot_texts 1 channels)) (sym are.slots) ∙ reads [] 1 channels refl (omega (arith, are.slots)) are.each

  by : (texts : List (List ℕ)) → slot_texts 1 channels ≡ texts → ArePlain texts → channels_of (join_with_byte 0x2C texts) ≡ Some channels
  by [] e plain = ap (channels_after no_channels) (sym e) ∙ all
  by (t ∷ ts) e plain = of_text (join_with_byte 0x2C (t ∷ ts)) (join_some t ts plain) ∙ ap (channels_after no_channels) (apart t ts plain ∙ sym e) ∙ all

-- ---- the text is read entry by entry: these known channels and the rest of it give what the whole does

last_entry : (o : Option ChannelsValue) → option_and_then (λ channels. Some channels) o ≡ o
last_entry o = grind arith

module _ (known : ChannelsValue) (rest text : List ℕ) (same : channels_after known (between_commas rest) ≡ channels_after no_channels (between_commas text)) where
  pub entry_refused : (entry after : List ℕ) → 0 < length text → between_commas rest ≡ entry ∷ between_commas after → with_entry known entry ≡ None → channels_of text ≡ None
  entry_refused entry after some split none = grind (arith, common_steps, of_text)

  pub entry_taken : (entry after : List ℕ) {channels : ChannelsValue} → between_commas rest ≡ entry ∷ between_commas after → with_entry known entry ≡ Some channels
      → channels_after channels (between_commas after) ≡ channels_after no_channels (between_commas text)
  entry_taken entry after split taken = sym (ap (channels_after known) split ∙ ap (option_and_then (λ channels. channels_after channels (between_commas after))) taken) ∙ same

  pub entry_last : 0 < length text → between_commas rest ≡ rest ∷ [] → with_entry known rest ≡ channels_of text
  entry_last some split = sym (of_text text some ∙ sym same ∙ ap (channels_after known) split ∙ last_entry (with_entry known rest))

-- ---- the text is written slot by slot

texts_more : (slot : ℕ) (ns : ChannelsValue) (x : Option ℕ) → slot_texts slot (ns ++ x ∷ []) ≡ slot_texts slot ns ++ slot_texts (slot + length ns) (x ∷ [])
texts_more slot [] x = ap (λ (k : ℕ). slot_texts k (x ∷ [])) (omega arith)
texts_more slot (None ∷ ns) x = texts_more (slot + 1) ns x ∙ ap (λ (k : ℕ). slot_texts (slot + 1) ns ++ slot_texts k (x ∷ [])) (omega arith)
texts_more slot (Some n ∷ ns) x = ap (λ (l : List (List ℕ)). slot_text slot n ∷ l) (texts_more (slot + 1) ns x ∙ ap (λ (k : ℕ). slot_texts (slot + 1) ns ++ slot_texts k (x ∷ [])) (omega arith))

after_some : (text more : List ℕ) → 0 < length text → after_comma text more ≡ text ++ 0x2C ∷ more
after_some text more some = grind arith

joined_more : (ts : List (List ℕ)) (t : List ℕ) → ArePlain ts → after_comma (join_with_byte 0x2C ts) t ≡ join_with_byte 0x2C (ts ++ t ∷ [])
joined_more [] t h = refl
joined_more (x ∷ xs) t h = after_some (join_with_byte 0x2C (x ∷ xs)) t (join_some x xs h) ∙ sym (join-push x xs t)

-- the texts of the slots before the one at place i, and of that one, which has this number or none
module _ (channels : ChannelsValue) (i : ℕ) (are : AreChannels channels) (within : i < length channels) where
  next_texts : slot_texts 1 (take (i + 1) channels) ≡ slot_texts 1 (take i channels) ++ slot_texts (i + 1) (get_or channels i None ∷ [])
  next_texts = grind (arith, common_steps, take_more, texts_more, length-take-le)

  pub slot_none : get_or channels i None ≡ None → channels_text (take (i + 1) channels) ≡ channels_text (take i channels)
  slot_none none = ap (join_with_byte 0x2C) (next_texts ∙ ap (λ (x : Option ℕ). slot_texts 1 (take i channels) ++ slot_texts (i + 1) (x ∷ [])) none ∙ append-nil (slot_texts 1 (take i channels)))

  pub slot_some : (n : ℕ) → get_or channels i None ≡ Some n → channels_text (take (i + 1) channels) ≡ after_comma (channels_text (take i channels)) (slot_text (i + 1) n)
  slot_some n is = grind (arith, common_steps, next_texts, joined_more, slots_plain, length-take-le, All-take)

pub number_here : (channels : ChannelsValue) (i : ℕ) → number_at channels (i + 1) ≡ get_or channels i None
number_here channels i = ap (λ (k : ℕ). get_or channels k None) (omega arith)

-- the length of a slot's text
channel_short : (n : ℕ) → n ≤ most_number → length (channel_text n) ≤ 2
channel_short n h = grind (arith, length-decimal-le, fits)

pub slot_short : (old : List ℕ) (slot n : ℕ) → slot ≤ slot_count → n ≤ most_number → length (after_comma old (slot_text slot n)) ≤ length old + 6
slot_short old slot n few small = grind (arith, length-append, length-decimal-le, fits, channel_short, length-append (decimal slot) (0x3A ∷ channel_text n), length-decimal-le 2 slot (omega arith) (omega (arith, few)) (fits slot (omega (arith, few))), fits slot (omega (arith, few)), channel_short n small)
