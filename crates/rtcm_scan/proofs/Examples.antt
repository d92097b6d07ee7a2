-- Worked streams.
use Rattle.rtcm_scan.proofs.Names.{◌≡◌, [], ◌∷◌, refl, replicate, uint, number_from, bits_of, crc, bits_remainder, remainder, add_front, generator, begins_frame, is_open, frames_of, frames_from, skipped_before, decided, decided_frames, frames_before, places, is_tried, tried, examined, examined_now, most, most_now, spans_of, spans_now, greatest_below}

empty_message : frames_of (0xD3 ∷ 0 ∷ 0 ∷ 0x47 ∷ 0xEA ∷ 0x4B ∷ []) ≡ record { offset = 0; message = [] } ∷ []
unfolding frames_of frames_from begins_frame crc bits_remainder remainder add_front generator uint number_from bits_of
empty_message = refl

-- the header at the first place has a length of 768 bytes
late_frame : frames_of (0xD3 ∷ 0xD3 ∷ 0 ∷ 0 ∷ 0x47 ∷ 0xEA ∷ 0x4B ∷ []) ≡ record { offset = 1; message = [] } ∷ []
unfolding frames_of frames_from begins_frame crc bits_remainder remainder add_front generator uint number_from bits_of
late_frame = refl

late_frame_waits : decided_frames (0xD3 ∷ 0xD3 ∷ 0 ∷ 0 ∷ 0x47 ∷ 0xEA ∷ 0x4B ∷ []) ≡ []
unfolding decided_frames frames_before decided places is_tried is_open frames_of frames_from begins_frame crc bits_remainder remainder add_front generator uint number_from bits_of
late_frame_waits = refl

late_frame_examined : examined (0xD3 ∷ 0xD3 ∷ 0 ∷ 0 ∷ 0x47 ∷ 0xEA ∷ 0x4B ∷ []) ≡ 13
unfolding spans_of tried places is_tried frames_of frames_from begins_frame crc bits_remainder remainder add_front generator uint number_from bits_of
late_frame_examined = refl

late_frame_examined_now : examined_now (0xD3 ∷ 0xD3 ∷ 0 ∷ 0 ∷ 0x47 ∷ 0xEA ∷ 0x4B ∷ []) ≡ 7
unfolding spans_now decided_frames frames_before decided is_open tried places is_tried frames_of frames_from begins_frame crc bits_remainder remainder add_front generator uint number_from bits_of
late_frame_examined_now = refl

ten_preambles : examined (replicate 10 0xD3) ≡ 55
unfolding spans_of tried places is_tried frames_of frames_from begins_frame crc bits_remainder remainder add_front generator uint number_from bits_of
ten_preambles = refl

-- the frame of a message 1005
station_frame : examined (0xD3 ∷ 0x00 ∷ 0x13 ∷ 0x3E ∷ 0xD7 ∷ 0xD3 ∷ 0x02 ∷ 0x02 ∷ 0x98 ∷ 0x0E ∷ 0xDE ∷ 0xEF ∷ 0x34 ∷ 0xB4 ∷ 0xBD ∷ 0x62 ∷ 0xAC ∷ 0x09 ∷ 0x41 ∷ 0x98 ∷ 0x6F ∷ 0x33 ∷ 0x36 ∷ 0x0B ∷ 0x98 ∷ []) ≡ 44
unfolding spans_of tried places is_tried frames_of frames_from begins_frame crc bits_remainder remainder add_front generator uint number_from bits_of
station_frame = refl

station_frame_most : most (0xD3 ∷ 0x00 ∷ 0x13 ∷ 0x3E ∷ 0xD7 ∷ 0xD3 ∷ 0x02 ∷ 0x02 ∷ 0x98 ∷ 0x0E ∷ 0xDE ∷ 0xEF ∷ 0x34 ∷ 0xB4 ∷ 0xBD ∷ 0x62 ∷ 0xAC ∷ 0x09 ∷ 0x41 ∷ 0x98 ∷ 0x6F ∷ 0x33 ∷ 0x36 ∷ 0x0B ∷ 0x98 ∷ []) ≡ 2
unfolding spans_of greatest_below tried places is_tried frames_of frames_from begins_frame crc bits_remainder remainder add_front generator uint number_from bits_of
station_frame_most = refl

ten_preambles_most : most (replicate 10 0xD3) ≡ 10
unfolding spans_of greatest_below tried places is_tried frames_of frames_from begins_frame crc bits_remainder remainder add_front generator uint number_from bits_of
ten_preambles_most = refl

-- `D3 00 06 D3 00 00 47 EA 4B 00 00 00`: the outer CRC is invalid
inner_frame : examined (0xD3 ∷ 0 ∷ 6 ∷ 0xD3 ∷ 0 ∷ 0 ∷ 0x47 ∷ 0xEA ∷ 0x4B ∷ 0 ∷ 0 ∷ 0 ∷ []) ≡ 23
unfolding spans_of tried places is_tried frames_of frames_from begins_frame crc bits_remainder remainder add_front generator uint number_from bits_of
inner_frame = refl

nothing_examined : examined [] ≡ 0
unfolding spans_of greatest_below tried places is_tried frames_of frames_from begins_frame crc bits_remainder remainder add_front generator uint number_from bits_of
nothing_examined = refl

nothing_most : most [] ≡ 0
unfolding spans_of greatest_below tried places is_tried frames_of frames_from begins_frame crc bits_remainder remainder add_front generator uint number_from bits_of
nothing_most = refl

empty_message_examined : examined (0xD3 ∷ 0x00 ∷ 0x00 ∷ 0x47 ∷ 0xEA ∷ 0x4B ∷ []) ≡ 6
unfolding spans_of greatest_below tried places is_tried frames_of frames_from begins_frame crc bits_remainder remainder add_front generator uint number_from bits_of
empty_message_examined = refl

empty_message_most : most (0xD3 ∷ 0x00 ∷ 0x00 ∷ 0x47 ∷ 0xEA ∷ 0x4B ∷ []) ≡ 1
unfolding spans_of greatest_below tried places is_tried frames_of frames_from begins_frame crc bits_remainder remainder add_front generator uint number_from bits_of
empty_message_most = refl

late_frame_most : most (0xD3 ∷ 0xD3 ∷ 0x00 ∷ 0x00 ∷ 0x47 ∷ 0xEA ∷ 0x4B ∷ []) ≡ 2
unfolding spans_of greatest_below tried places is_tried frames_of frames_from begins_frame crc bits_remainder remainder add_front generator uint number_from bits_of
late_frame_most = refl

late_frame_most_now : most_now (0xD3 ∷ 0xD3 ∷ 0x00 ∷ 0x00 ∷ 0x47 ∷ 0xEA ∷ 0x4B ∷ []) ≡ 1
unfolding spans_now greatest_below decided_frames frames_before decided is_open tried places is_tried frames_of frames_from begins_frame crc bits_remainder remainder add_front generator uint number_from bits_of
late_frame_most_now = refl

inner_frame_most : most (0xD3 ∷ 0x00 ∷ 0x06 ∷ 0xD3 ∷ 0x00 ∷ 0x00 ∷ 0x47 ∷ 0xEA ∷ 0x4B ∷ 0x00 ∷ 0x00 ∷ 0x00 ∷ []) ≡ 2
unfolding spans_of greatest_below tried places is_tried frames_of frames_from begins_frame crc bits_remainder remainder add_front generator uint number_from bits_of
inner_frame_most = refl

cut_station_frame_examined : examined (0xD3 ∷ 0x00 ∷ 0x13 ∷ 0x3E ∷ 0xD7 ∷ 0xD3 ∷ 0x02 ∷ 0x02 ∷ 0x98 ∷ 0x0E ∷ 0xDE ∷ 0xEF ∷ 0x34 ∷ 0xB4 ∷ 0xBD ∷ 0x62 ∷ 0xAC ∷ 0x09 ∷ 0x41 ∷ 0x98 ∷ 0x6F ∷ 0x33 ∷ 0x36 ∷ 0x0B ∷ []) ≡ 65
unfolding spans_of greatest_below tried places is_tried frames_of frames_from begins_frame crc bits_remainder remainder add_front generator uint number_from bits_of
cut_station_frame_examined = refl

cut_station_frame_most : most (0xD3 ∷ 0x00 ∷ 0x13 ∷ 0x3E ∷ 0xD7 ∷ 0xD3 ∷ 0x02 ∷ 0x02 ∷ 0x98 ∷ 0x0E ∷ 0xDE ∷ 0xEF ∷ 0x34 ∷ 0xB4 ∷ 0xBD ∷ 0x62 ∷ 0xAC ∷ 0x09 ∷ 0x41 ∷ 0x98 ∷ 0x6F ∷ 0x33 ∷ 0x36 ∷ 0x0B ∷ []) ≡ 3
unfolding spans_of greatest_below tried places is_tried frames_of frames_from begins_frame crc bits_remainder remainder add_front generator uint number_from bits_of
cut_station_frame_most = refl

cut_station_frame_examined_now : examined_now (0xD3 ∷ 0x00 ∷ 0x13 ∷ 0x3E ∷ 0xD7 ∷ 0xD3 ∷ 0x02 ∷ 0x02 ∷ 0x98 ∷ 0x0E ∷ 0xDE ∷ 0xEF ∷ 0x34 ∷ 0xB4 ∷ 0xBD ∷ 0x62 ∷ 0xAC ∷ 0x09 ∷ 0x41 ∷ 0x98 ∷ 0x6F ∷ 0x33 ∷ 0x36 ∷ 0x0B ∷ []) ≡ 24
unfolding spans_now greatest_below decided_frames frames_before decided is_open tried places is_tried frames_of frames_from begins_frame crc bits_remainder remainder add_front generator uint number_from bits_of
cut_station_frame_examined_now = refl

-- places in no frame
late_frame_skipped : skipped_before 7 (frames_of (0xD3 ∷ 0xD3 ∷ 0 ∷ 0 ∷ 0x47 ∷ 0xEA ∷ 0x4B ∷ [])) ≡ 1
unfolding places frames_of frames_from begins_frame crc bits_remainder remainder add_front generator uint number_from bits_of
late_frame_skipped = refl

inner_frame_skipped : skipped_before 12 (frames_of (0xD3 ∷ 0 ∷ 6 ∷ 0xD3 ∷ 0 ∷ 0 ∷ 0x47 ∷ 0xEA ∷ 0x4B ∷ 0 ∷ 0 ∷ 0 ∷ [])) ≡ 6
unfolding places frames_of frames_from begins_frame crc bits_remainder remainder add_front generator uint number_from bits_of
inner_frame_skipped = refl

late_frame_undecided : decided (0xD3 ∷ 0xD3 ∷ 0 ∷ 0 ∷ 0x47 ∷ 0xEA ∷ 0x4B ∷ []) ≡ 0
unfolding decided places is_tried is_open frames_of frames_from begins_frame crc bits_remainder remainder add_front generator uint number_from bits_of
late_frame_undecided = refl
