-- The definitions at known values.
use Rattle.rtcm_bits.proofs.Names.{◌≡◌, [], ◌∷◌, take, drop, refl, negsuc, uint, number, number_from, bits_of, signed, crc, bits_remainder, remainder, add_front, generator, frame_bytes, WindowValue, nothing_held, pushed, looked, looked_through, without_front}

-- the byte B5 is 5 in three bits and -11 in five
first_field : number (take 3 (bits_of (0xB5 ∷ []))) ≡ 5
unfolding uint bits_of number_from
first_field = refl

second_field : signed 5 (number (drop 3 (bits_of (0xB5 ∷ [])))) ≡ negsuc 10
unfolding uint bits_of number_from
second_field = refl

-- a message without a byte
empty_frame : frame_bytes [] ≡ 0xD3 ∷ 0x00 ∷ 0x00 ∷ 0x47 ∷ 0xEA ∷ 0x4B ∷ []
unfolding crc bits_remainder remainder add_front generator uint number_from bits_of
empty_frame = refl

-- a message 1005
station_frame : crc (0xD3 ∷ 0x00 ∷ 0x13 ∷ 0x3E ∷ 0xD7 ∷ 0xD3 ∷ 0x02 ∷ 0x02 ∷ 0x98 ∷ 0x0E ∷ 0xDE ∷ 0xEF ∷ 0x34 ∷ 0xB4 ∷ 0xBD ∷ 0x62 ∷ 0xAC ∷ 0x09 ∷ 0x41 ∷ 0x98 ∷ 0x6F ∷ 0x33 ∷ []) ≡ 0x360B98
unfolding crc bits_remainder remainder add_front generator uint number_from bits_of
station_frame = refl

-- five bytes: two looks at the first one, the next two passed on, and the first one dropped
four_left : WindowValue
four_left = record { bytes = 11 ∷ 12 ∷ 13 ∷ 14 ∷ []; looks = 1 ∷ 1 ∷ 0 ∷ 0 ∷ []; examined = 4; most = 2 }

window_looks : without_front (looked_through (looked (looked (pushed (pushed (pushed (pushed (pushed nothing_held 10) 11) 12) 13) 14) 0) 0) 1 2) 1 ≡ four_left
unfolding four_left
window_looks = refl
