-- Values worked out by hand, which the definitions compute.
use Rattle.gnss_obs.proofs.Names.{pos, negsuc, ◌≡◌, refl, Some, None, true, false, channel_hertz, nearest_pseudorange, nearest_phase, nearest_doppler, nearest_strength, strength_digit, times4, times7, lost}

-- 70 ms, and the next range that MSM7 encodes
range : nearest_pseudorange (pos 150323855360) ≡ pos 20985472060
range = refl

next_range : nearest_pseudorange (pos 150323855364) ≡ pos 20985472061
next_range = refl

-- a tie below zero: -24615937.5 thousandths of a cycle of L1
tie_below_zero : nearest_phase 1575420000 (negsuc 33554431) ≡ negsuc 24615937
tie_below_zero = refl

-- 0.0001 m/s on L1 and on L5: more and less than half a thousandth of a hertz
slow_on_l1 : nearest_doppler 1575420000 (pos 1) ≡ negsuc 0
slow_on_l1 = refl

slow_on_l5 : nearest_doppler 1176450000 (pos 1) ≡ pos 0
slow_on_l5 = refl

-- the carriers of channels -7, 0 and 6 of GLONASS
lowest_g1 : channel_hertz 1 0 ≡ 1_598_062_500
lowest_g1 = refl

middle_g1 : channel_hertz 1 7 ≡ 1_602_000_000
middle_g1 = refl

middle_g2 : channel_hertz 2 7 ≡ 1_246_000_000
middle_g2 = refl

highest_g1 : channel_hertz 1 13 ≡ 1_605_375_000
highest_g1 = refl

highest_g2 : channel_hertz 2 13 ≡ 1_248_625_000
highest_g2 = refl

-- 45.0625 dB-Hz is a tie
strong : nearest_strength 721 ≡ pos 45063
strong = refl

strong_digit : strength_digit (pos 45063) ≡ 7
strong_digit = refl

-- the ends of the lock times
first4 : times4 0 ≡ record { least = Some 0; upper = Some 32 }
first4 = refl

last4 : times4 15 ≡ record { least = Some 524288; upper = None }
last4 = refl

before_last7 : times7 703 ≡ record { least = Some 66060288; upper = Some 67108864 }
before_last7 = refl

last7 : times7 704 ≡ record { least = Some 67108864; upper = None }
last7 = refl

unknown7 : times7 705 ≡ record { least = None; upper = None }
unknown7 = refl

-- lock was lost if its upper bound is the elapsed time, not if its upper bound is greater
as_old : lost (Some 0) (Some 0) (Some 1) 1 ≡ true
as_old = refl

older : lost (Some 63) (Some 63) (Some 64) 63 ≡ false
older = refl
