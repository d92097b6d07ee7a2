-- Slots with a channel: which may follow others, their line, and what is read from it.
use Rattle.rinex_file.proofs.HeaderRows.Agree.{less_or}
use Rattle.rinex_file.proofs.HeaderRows.Lists.{item_in_line, up_to}
use Rattle.rinex_file.proofs.Digits.Padded.{two_digits}
use Rattle.rinex_file.proofs.HeaderRows.Types.{content_first}
use Rattle.rinex_file.proofs.Names.{refused, All-set, length-filter, digits_in-padded, digits_in-whole, length-right, count_by, IsLineOfSlots, TakesOrRefusesSlots, AreSlots, SlotNumber, channel_text, last_slot, slot_text, slots_columns, slots_from, slots_front, slots_in_line, slots_of, AreChannels, ChannelsValue, most_number, no_channels, number_at, slot_count, with_number, slots_with, common_steps, All, All-head, All-replicate, All-tail, IfSome, List, None, Option, Some, [], ap, append-nil, append_assoc, arith, decimal, digits_in, drop, drop-append-le, drop-cons, drop-drop, drop-take, IsTrue, ◌↔◌, drop_all, flat_map, flat_map-append, get_or, length, length-append, length-decimal-le, length-drop, length-set, min, padded, refl, right, set, suc, sym, take, take-append-le, take_all, take_at, take_more, filter, is_some, zero, ◌*◌, ◌++◌, ◌+◌, ◌-◌, ◌/◌, ◌%◌, ◌<◌, ◌∙◌, ◌∷◌, ◌≡◌, ◌≤◌, ℕ, Bool, if◌then◌else◌, subst, lt-ltb, le-ltb, line_with, row_label, Slots}

-- ---- slots that follow others

-- there is a slot for each
pub slots_room : (last : ℕ) (ss : List SlotNumber) → AreSlots last ss → last + length ss ≤ slot_count
slots_room last [] are = omega (arith, are)
slots_room last (s ∷ ss) are = let less = are.0 in let more = slots_room s.slot ss are.2 in omega (arith, less, more)

slots_after : (a b : ℕ) (ss : List SlotNumber) → a ≤ b → AreSlots b ss → AreSlots a ss
slots_after a b [] low are = omega (arith, low, are)
slots_after a b (s ∷ ss) low are = let less = are.0 in (omega (arith, low, less), are.1, are.2)

-- the rest of slots are after the last of the others
pub rest_are : (last j : ℕ) (ss : List SlotNumber) → AreSlots last ss → AreSlots (last_slot last (take j ss)) (drop j ss)
rest_are last (suc j) (s ∷ ss) are = rest_are s.slot j ss are.2
rest_are last j ss are = are

pub last_bound : (last : ℕ) (ss : List SlotNumber) → AreSlots last ss → last_slot last ss ≤ slot_count
last_bound last [] are = are
last_bound last (s ∷ ss) are = last_bound s.slot ss are.2

pub last_push : (last : ℕ) (ss : List SlotNumber) (s : SlotNumber) → last_slot last (ss ++ s ∷ []) ≡ s.slot
last_push last [] s = refl
last_push last (t ∷ ss) s = last_push t.slot ss s

-- ---- the slots of channels

abbrev IsNumber : Option ℕ → Type 0
IsNumber number = IfSome number (λ n. n ≤ most_number)

slots_from_are : (last : ℕ) (c : ChannelsValue) → last + length c ≡ slot_count → All IsNumber c → AreSlots last (slots_from (suc last) c)
slots_from_are last [] size each = omega (arith, size)
slots_from_are last (None ∷ c) size each = slots_after last (suc last) (slots_from (suc (suc last)) c) (omega arith) (slots_from_are (suc last) c (omega (arith, size)) (All-tail IsNumber None c each))
slots_from_are last (Some n ∷ c) size each = (omega arith, All-head IsNumber (Some n) c each, slots_from_are (suc last) c (omega (arith, size)) (All-tail IsNumber (Some n) c each))

pub slots_are : (c : ChannelsValue) → AreChannels c → AreSlots 0 (slots_of c)
slots_are c are = let size = are.slots in slots_from_are 0 c (omega (arith, size)) are.each

-- channels with the same slots are the same
first_from : (low : ℕ) (c : ChannelsValue) (s : SlotNumber) (ss : List SlotNumber) → slots_from low c ≡ s ∷ ss → low ≤ s.slot
first_from low [] s ss e = cc
first_from low (None ∷ c) s ss e = let l = first_from (suc low) c s ss e in omega (arith, l)
first_from low (Some n ∷ c) s ss e = let same : low ≡ s.slot = ap (λ (l : List SlotNumber). (get_or l 0 s).slot) e in omega (arith, same)

same_from : (low : ℕ) (c d : ChannelsValue) → length c ≡ length d → slots_from low c ≡ slots_from low d → c ≡ d
same_from low [] [] size e = refl
same_from low (None ∷ c) (None ∷ d) size e = ap (λ (l : ChannelsValue). None ∷ l) (same_from (suc low) c d (omega (arith, size)) e)
same_from low (None ∷ c) (Some n ∷ d) size e = let l = first_from (suc low) c _ _ e in absurd (omega (arith, l))
same_from low (Some m ∷ c) (None ∷ d) size e = let l = first_from (suc low) d _ _ (sym e) in absurd (omega (arith, l))
same_from low (Some m ∷ c) (Some n ∷ d) size e = grind (arith, (same_from (suc low) c d (omega (arith, size)) (ap (λ (l : List SlotNumber). drop 1 l) e)))
same_from low c d size e = absurd (omega (arith, size))

pub same_channels : (c d : ChannelsValue) → AreChannels c → AreChannels d → slots_of c ≡ slots_of d → c ≡ d
same_channels c d a b e = same_from 1 c d (a.slots ∙ sym b.slots) e

pub no_slots : slots_of no_channels ≡ []
no_slots = refl

pub no_channels_are : AreChannels no_channels
no_channels_are = record { slots = refl; each = All-replicate IsNumber slot_count None tt }

-- ---- one more slot

later_last : (a b most : ℕ) (ss : List SlotNumber) → last_slot a ss ≤ most → b ≤ most → last_slot b ss ≤ most
later_last a b most [] h low = low
later_last a b most (s ∷ ss) h low = h

at_least : (last low : ℕ) (c : ChannelsValue) → last ≤ low → last ≤ last_slot last (slots_from low c)
at_least last low [] le = omega arith
at_least last low (None ∷ c) le = at_least last (suc low) c (omega (arith, le))
at_least last low (Some n ∷ c) le = let more = at_least low (suc low) c (omega arith) in omega (arith, le, more)

none_after : (last low : ℕ) (c : ChannelsValue) → last < low → last_slot last (slots_from low c) ≤ last → slots_from low c ≡ []
none_after last low [] less le = refl
none_after last low (None ∷ c) less le = none_after last (suc low) c (omega (arith, less)) le
none_after last low (Some n ∷ c) less le = let more = at_least low (suc low) c (omega arith) in absurd (omega (arith, less, le, more))

abbrev pub at : ℕ → ℕ → SlotNumber
at slot number = record { slot = slot; number = number }

added_from : (last i n : ℕ) (c : ChannelsValue) → last_slot last (slots_from (suc last) c) ≤ last + i → i < length c → slots_from (suc last) (set c i (Some n)) ≡ slots_from (suc last) c ++ at (suc last + i) n ∷ []
added_from last i n [] le less = absurd (omega (arith, less))
added_from last zero n (None ∷ c) le less = grind (arith, none_after)
added_from last zero n (Some m ∷ c) le less = let more = at_least (suc last) (suc (suc last)) c (omega arith) in absurd (omega (arith, le, more))
added_from last (suc i) n (None ∷ c) le less = grind (arith, later_last, (added_from (suc last) i n c (later_last last (suc last) (suc last + i) (slots_from (suc (suc last)) c) (omega (arith, le)) (omega arith)) (omega (arith, less))))
added_from last (suc i) n (Some m ∷ c) le less = grind (arith, (added_from (suc last) i n c (omega (arith, le)) (omega (arith, less))))

pub slot_added : (c : ChannelsValue) (slot n : ℕ) → AreChannels c → last_slot 0 (slots_of c) < slot → slot ≤ slot_count → slots_of (with_number c slot n) ≡ slots_of c ++ at slot n ∷ []
slot_added c slot n are less few = grind (arith, added_from)

-- ---- more slots, after the last

pub number_set : (c : ChannelsValue) (i n : ℕ) → AreChannels c → n ≤ most_number → AreChannels (set c i (Some n))
number_set c i n are few = record { slots = length-set c i (Some n) ∙ are.slots; each = All-set IsNumber c i (Some n) few are.each }

pub record More (c : ChannelsValue) (count : ℕ) : Type 0 where
  pub channels : ChannelsValue
  pub are : AreChannels channels
  pub more : List SlotNumber
  pub is : slots_of channels ≡ slots_of c ++ more
  pub size : length more ≡ count

pub more_slots : (count : ℕ) (c : ChannelsValue) → AreChannels c → count + last_slot 0 (slots_of c) ≤ slot_count → More c count
more_slots zero c are room = record { channels = c; are = are; more = []; is = sym (append-nil (slots_of c)); size = refl }
more_slots (suc count) c are room =
    let slot = suc (last_slot 0 (slots_of c)) in
    let added = slot_added c slot 0 are (omega arith) (omega (arith, room)) in
    let last : last_slot 0 (slots_of (with_number c slot 0)) ≡ slot = ap (last_slot 0) added ∙ last_push 0 (slots_of c) (at slot 0) in
    let next = more_slots count (with_number c slot 0) (number_set c (slot - 1) 0 are (omega arith)) (omega (arith, room, last)) in
    grind (arith, common_steps)

-- ---- slot by slot

-- the slot of a number, if there is one
abbrev pub one_slot : ℕ → Option ℕ → List SlotNumber
one_slot slot None = []
one_slot slot (Some n) = at slot n ∷ []

taken_from : (low k : ℕ) (c : ChannelsValue) → k < length c → slots_from low (take (suc k) c) ≡ slots_from low (take k c) ++ one_slot (low + k) (get_or c k None)
taken_from low k [] less = absurd (omega (arith, less))
taken_from low zero (None ∷ c) less = refl
taken_from low zero (Some n ∷ c) less = let same : low ≡ low + 0 = omega arith in ap (λ (k : ℕ). at k n ∷ []) same
taken_from low (suc k) (number ∷ c) less = grind (arith, (taken_from (suc low) k c (omega (arith, less))))

-- the slots of one number more
pub slots_taken : (c : ChannelsValue) (k : ℕ) → k < length c → slots_of (take (k + 1) c) ≡ slots_of (take k c) ++ one_slot (k + 1) (number_at c (k + 1))
slots_taken c k less = grind (arith, taken_from)

-- the last slot of one number more
pub last_taken : (c : ChannelsValue) (k : ℕ) → k < length c → last_slot 0 (slots_of (take (k + 1) c)) ≡ (if is_some (number_at c (k + 1)) then k + 1 else last_slot 0 (slots_of (take k c)))
last_taken c k less = grind (arith, slots_taken, append-nil, last_push)

counted_from : (low : ℕ) (c : ChannelsValue) → length (filter is_some c) ≡ length (slots_from low c)
counted_from low [] = refl
counted_from low (None ∷ c) = counted_from (suc low) c
counted_from low (Some n ∷ c) = ap suc (counted_from (suc low) c)

pub slots_counted : (c : ChannelsValue) → count_by is_some c ≡ length (slots_of c)
slots_counted c = sym (length-filter is_some c) ∙ counted_from 1 c

-- ---- a line

abbrev pub in_line : ℕ → List SlotNumber → List SlotNumber
in_line row ss = take slots_in_line (drop (slots_in_line * row) ss)

-- a slot that is in the line, or isn't
line_more : (row : ℕ) (ss : List SlotNumber) (s : SlotNumber) → length ss / 8 ≡ row → in_line row (ss ++ s ∷ []) ≡ in_line row ss ++ s ∷ []
line_more row ss s here = grind (arith, common_steps, length-drop, length-append, drop-append-le, take_all)

-- a slot of another line
line_other : (row : ℕ) (ss : List SlotNumber) (s : SlotNumber) → (length ss / 8 ≡ row → ⊥) → in_line row (ss ++ s ∷ []) ≡ in_line row ss
line_other row ss s other = grind (arith, less_or, length-append, drop_all, common_steps, length-drop, drop-append-le, take-append-le)

-- these columns follow others
abbrev pub ArePut : ℕ → List SlotNumber → List ℕ → List ℕ → Type 0
ArePut row ss old new = new ≡ old ++ flat_map slot_text (in_line row ss)

pub put_here : {row : ℕ} (ss : List SlotNumber) (s : SlotNumber) (old : List ℕ) {content new : List ℕ} → ArePut row ss old content → new ≡ content ++ slot_text s → length ss / 8 ≡ row → ArePut row (ss ++ s ∷ []) old new
put_here ss s old are e here = grind (arith, append_assoc, line_more, flat_map-append, append-nil)

pub put_elsewhere : {row : ℕ} (ss : List SlotNumber) (s : SlotNumber) (old : List ℕ) {content : List ℕ} → ArePut row ss old content → (length ss / 8 ≡ row → ⊥) → ArePut row (ss ++ s ∷ []) old content
put_elsewhere {row} ss s old are other = are ∙ ap (λ (l : List SlotNumber). old ++ flat_map slot_text l) (sym (line_other row ss s other))

-- the line depends on the slots up to it alone
same_in_line : (row : ℕ) (a b : List SlotNumber) → take (8 * suc row) a ≡ take (8 * suc row) b → in_line row a ≡ in_line row b
same_in_line row a b e = cut a ∙ ap (drop (8 * row)) e ∙ sym (cut b) where
  cut : (ss : List SlotNumber) → in_line row ss ≡ drop (8 * row) (take (8 * suc row) ss)
  cut ss = let next : 8 * row + 8 ≡ 8 * suc row = omega arith in sym (drop-take (8 * row) 8 ss) ∙ ap (λ (n : ℕ). drop (8 * row) (take n ss)) next

pub same_slots_line : (row count : ℕ) (a b : List SlotNumber) → take (8 * suc row) a ≡ take (8 * suc row) b → slots_with count a row ≡ slots_with count b row
same_slots_line row count a b e = ap (λ (l : List SlotNumber). line_with (Slots row) (slots_front count row ++ flat_map slot_text l)) (same_in_line row a b e)

-- ---- the columns of a slot

slot_columns : (slot : ℕ) (channel : List ℕ) → slot ≤ slot_count → 82 ∷ (padded 2 slot ++ 32 ∷ (channel ++ 32 ∷ [])) ≡ 82 ∷ (48 + slot / 10) ∷ (48 + slot % 10) ∷ 32 ∷ (channel ++ 32 ∷ [])
slot_columns slot channel few = ap (λ (p : List ℕ). 82 ∷ (p ++ 32 ∷ (channel ++ 32 ∷ []))) (two_digits slot (omega (arith, few)))

pub slot_low : (slot n : ℕ) → slot ≤ slot_count → n < 7 → 82 ∷ (48 + slot / 10) ∷ (48 + slot % 10) ∷ 32 ∷ 45 ∷ (48 + (7 - n)) ∷ 32 ∷ [] ≡ slot_text (at slot n)
slot_low slot n few low = sym (slot_columns slot (channel_text n) few ∙ ap (λ b. 82 ∷ (48 + slot / 10) ∷ (48 + slot % 10) ∷ 32 ∷ ((if b then 45 ∷ (48 + (7 - n)) ∷ [] else 32 ∷ (48 + (n - 7)) ∷ []) ++ 32 ∷ [])) (lt-ltb n 7 low))

pub slot_high : (slot n : ℕ) → slot ≤ slot_count → 7 ≤ n → 82 ∷ (48 + slot / 10) ∷ (48 + slot % 10) ∷ 32 ∷ 32 ∷ (48 + (n - 7)) ∷ 32 ∷ [] ≡ slot_text (at slot n)
slot_high slot n few high = sym (slot_columns slot (channel_text n) few ∙ ap (λ b. 82 ∷ (48 + slot / 10) ∷ (48 + slot % 10) ∷ 32 ∷ ((if b then 45 ∷ (48 + (7 - n)) ∷ [] else 32 ∷ (48 + (n - 7)) ∷ []) ++ 32 ∷ [])) (le-ltb n 7 high))

-- the slot and the channel in the columns of a slot
abbrev ShowsSlot : SlotNumber → List ℕ → Type 0
ShowsSlot s text = (take 2 (drop 1 text) ≡ padded 2 s.slot) × (take 2 (drop 4 text) ≡ channel_text s.number)

each_slot : (last : ℕ) (ss : List SlotNumber) (i : ℕ) (d : SlotNumber) → AreSlots last ss → i < length ss → ((get_or ss i d).slot ≤ slot_count) × ((get_or ss i d).number ≤ most_number)
each_slot last [] i d are less = absurd (omega (arith, less))
each_slot last (s ∷ ss) zero d are less = let room = slots_room s.slot ss are.2 in (omega (arith, room), are.1)
each_slot last (s ∷ ss) (suc i) d are less = each_slot s.slot ss i d are.2 (omega (arith, less))

length-front : (count row : ℕ) → count < 1000 → length (slots_front count row) ≡ 4
length-front count zero few = grind (arith, length-append, length-right 3 (decimal count) (length-decimal-le 3 count (omega arith) (omega (arith, few)) (omega (arith, few))))
length-front count (suc row) few = refl

-- ---- what a line of slots has

module _ {row before : ℕ} {line : List ℕ} {old all : List SlotNumber} (l : IsLineOfSlots row line before old all) where
  few_slots : length all ≤ slot_count
  few_slots = let room = slots_room 0 all l.are in omega (arith, room)

  pub number_read : row ≡ 0 → digits_in (take 3 (drop 0 line)) ≡ length all
  number_read first =
      let number = right 3 (decimal (length all)) in
      let few = few_slots in
      let size = length-decimal-le 3 (length all) (omega arith) (omega (arith, few)) (omega (arith, few)) in
      let slots = flat_map slot_text (in_line 0 all) in
      let content = content_first (slots_columns (length all) all 0) (row_label (Slots 0)) in
      ap (λ (t : List ℕ). digits_in (take 3 t)) (l.is ∙ ap (slots_with (length all) all) first ∙ content.1 ∙ append_assoc (number ++ 32 ∷ []) slots content.0 ∙ append_assoc number (32 ∷ []) (slots ++ content.0))
      ∙ ap digits_in (take_at number (32 ∷ (slots ++ content.0)) 3 (length-right 3 (decimal (length all)) size)) ∙ digits_in-whole 3 (length all) (omega (arith, few))

  -- the slots that are left after the last
  pub room_left : (n : ℕ) → n ≤ length all → last_slot 0 (take n all) + (length all - n) ≤ slot_count
  room_left n few = let room = slots_room (last_slot 0 (take n all)) (drop n all) (rest_are 0 n all l.are) in let size = length-drop n all in omega (arith, room, size)

  module _ (q : ℕ) (d : SlotNumber) (few : q < 8) (less : 8 * row + q < length all) where
    abbrev pub slot_here : SlotNumber
    slot_here = get_or all (8 * row + q) d

    pub bounds_here : (slot_here.slot ≤ slot_count) × (slot_here.number ≤ most_number)
    bounds_here = each_slot 0 all (8 * row + q) d l.are less

    pub later_here : last_slot 0 (take (8 * row + q) all) < slot_here.slot
    later_here = (subst (AreSlots (last_slot 0 (take (8 * row + q) all))) (drop-cons all (8 * row + q) d less) (rest_are 0 (8 * row + q) all l.are)).0

    row_line : ShowsSlot slot_here (drop (4 + 7 * q) line)
    row_line =
        let count = few_slots in
        let low = λ (i : ℕ) (h : i < length all). let bound = (each_slot 0 all i d l.are h).0 in lower (get_or all i d).slot bound in
        let item = item_in_line slot_text 7 4 8 (λ q. 7 * q) refl (λ q. omega arith) (slots_front (length all) row) (row_label (Slots row)) all (8 * row) q d (length-front (length all) row (omega (arith, count)))
        (λ i h. grind (arith, two_digits, length-append, low i h)) few less in
        subst (ShowsSlot slot_here) (sym (ap (drop (4 + 7 * q)) l.is ∙ item.1)) (grind (arith, two_digits, low (8 * row + q) less)) where
          lower : (slot : ℕ) → slot ≤ slot_count → slot < 100
          lower slot few = omega (arith, few)

    pub slot_read : digits_in (take 2 (drop (4 + 7 * q + 1) line)) ≡ slot_here.slot
    slot_read =
        let bound = bounds_here.0 in
        ap (λ (t : List ℕ). digits_in (take 2 t)) (sym (drop-drop 1 (4 + 7 * q) line)) ∙ ap digits_in row_line.0 ∙ digits_in-padded 2 slot_here.slot (omega arith) (omega (arith, bound)) (omega (arith, bound))

    pub channel_read : take 2 (drop (4 + 7 * q + 4) line) ≡ channel_text slot_here.number
    channel_read = ap (take 2) (sym (drop-drop 4 (4 + 7 * q) line)) ∙ row_line.1

-- what a line has in the columns of the slot at an index
pub record HasSlot (line : List ℕ) (all : List SlotNumber) (q place : ℕ) (s : SlotNumber) : Type 0 where
  pub slot : digits_in (take 2 (drop (4 + 7 * q + 1) line)) ≡ s.slot
  pub channel : take 2 (drop (4 + 7 * q + 4) line) ≡ channel_text s.number
  pub low : last_slot 0 (take place all) < s.slot
  pub high : s.slot ≤ slot_count
  pub number : s.number ≤ most_number
  pub more : take (place + 1) all ≡ take place all ++ s ∷ []

abbrev pub no_slot : SlotNumber
no_slot = at 0 0

pub has_slot : {row before index end : ℕ} {line : List ℕ} {old all : List SlotNumber} → IsLineOfSlots row line before old all → 8 * row ≤ index → index < end → end ≤ 8 * row + 8 → end ≤ length all
    → HasSlot line all (index - 8 * row) index (get_or all index no_slot)
has_slot {row} {index = index} {line = line} {all = all} l low less end few =
    let same : 8 * row + (index - 8 * row) ≡ index = omega (arith, low) in
    let q : index - 8 * row < 8 = omega (arith, low, less, end) in
    let inside : 8 * row + (index - 8 * row) < length all = omega (arith, low, less, few) in
    let bounds = bounds_here l (index - 8 * row) no_slot q inside in
    subst (λ (place : ℕ). HasSlot line all (index - 8 * row) place (get_or all place no_slot)) same (record {
      slot = slot_read l (index - 8 * row) no_slot q inside;
      channel = channel_read l (index - 8 * row) no_slot q inside;
      low = later_here l (index - 8 * row) no_slot q inside;
      high = bounds.0;
      number = bounds.1;
      more = take_more all (8 * row + (index - 8 * row)) no_slot inside;
    })

-- ---- the result of a line of slots

-- the number of slots that is read
pub count_is : {row before n : ℕ} {line : List ℕ} {old all : List SlotNumber} → IsLineOfSlots row line before old all → (0 < row → before ≡ n) → (row ≡ 0 → n ≡ digits_in (take 3 (drop 0 line))) → length all ≡ n
count_is {row = zero} l later first = sym (first refl ∙ number_read l refl)
count_is {row = suc row} l later first = sym (l.later (omega arith)) ∙ later (omega arith)

pub too_many : {row before n : ℕ} {line : List ℕ} {old all : List SlotNumber} → IsLineOfSlots row line before old all → length all ≡ n → slot_count < n → ⊥
too_many l size more = let room = slots_room 0 _ l.are in omega (arith, room, size, more)

pub no_room : {row before n last end : ℕ} {line : List ℕ} {old all new : List SlotNumber} → IsLineOfSlots row line before old all → length all ≡ n → end ≤ n → new ≡ take end all → last ≡ last_slot 0 new → slot_count < n - end + last → ⊥
no_room {end = end} l size few is at more =
    omega (arith, room_left l end (omega (arith, size, few)), at ∙ ap (last_slot 0) is, size, more)

pub line_judged : {row before count : ℕ} {line again : List ℕ} {old new : List SlotNumber} (b : Bool) → (IsTrue b ↔ (line ≡ again)) → again ≡ slots_with count new row → (0 < row → before ≡ count)
    → length new ≡ min (8 * suc row) count → count + last_slot 0 new ≤ length new + slot_count → take (8 * row) new ≡ old
    → ((all : List SlotNumber) → IsLineOfSlots row line before old all → (length all ≡ count) × (new ≡ take (8 * suc row) all)) → TakesOrRefusesSlots row line before old count new b
line_judged b compared shown later size room grows taken = grind (arith, common_steps, refused, same_slots_line, up_to)
