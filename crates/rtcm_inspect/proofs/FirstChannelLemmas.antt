-- The channel of a slot is the first valid one.
use Rattle.rtcm_inspect.proofs.Names.{option_or, get_or-replicate, length-replicate, common_steps, arith, Bool, ChannelsValue, List, None, Option, Some, [], if◌then◌else◌, length, most_number, nat_le, nat_tests, no_channels, number_at, slot_count, sym, with_first, with_sent, ℕ, ◌&&◌, ◌-◌, ◌==◌, ◌∷◌, ◌≡◌, ◌≤◌, AreFirstChannels, first_valid}
use Rattle.rtcm_inspect.proofs.FirstLemmas.{or_none}

abbrev is_first : ℕ → ℕ × ℕ → Bool
is_first slot p = (p.0 == slot) && nat_le p.1 most_number

abbrev one_valid : ℕ → ℕ × ℕ → Option ℕ
one_valid slot p = if is_first slot p then Some p.1 else None

same_length : (known : ChannelsValue) (p : ℕ × ℕ) → length known ≡ slot_count → length (with_first known p) ≡ slot_count
same_length known p h = grind (arith, common_steps, h)

step : (known : ChannelsValue) (p : ℕ × ℕ) (slot : ℕ) → length known ≡ slot_count → 1 ≤ slot → slot ≤ slot_count
    → number_at (with_first known p) slot ≡ option_or (number_at known slot) (one_valid slot p)
step known p slot h low high = grind (arith, common_steps, nat_tests, h, low, high)

either : (a : Option ℕ) (b : Bool) (n : ℕ) (rest : Option ℕ) → option_or (option_or a (if b then Some n else None)) rest ≡ option_or a (if b then Some n else rest)
either a b n rest = grind arith

found : (slot : ℕ) (p : ℕ × ℕ) (ps : List (ℕ × ℕ)) → first_valid slot (p ∷ ps) ≡ (if is_first slot p then Some p.1 else first_valid slot ps)
found slot p ps = grind arith

after_all : (known : ChannelsValue) (sent : List (ℕ × ℕ)) (slot : ℕ) → length known ≡ slot_count → 1 ≤ slot → slot ≤ slot_count
    → number_at (with_sent known sent) slot ≡ option_or (number_at known slot) (first_valid slot sent)
after_all known [] slot h low high = sym (or_none (number_at known slot))
after_all known (p ∷ ps) slot h low high = grind (arith, same_length, step, either, found, (after_all (with_first known p) ps slot (same_length known p h) low high))

nothing_known : (slot : ℕ) → 1 ≤ slot → slot ≤ slot_count → number_at no_channels slot ≡ None
nothing_known slot low high = get_or-replicate slot_count (slot - 1) None None (omega (arith, low, high))

pub first_channels : AreFirstChannels
first_channels wanted fs slot low high = grind (arith, common_steps, after_all, length-replicate, nothing_known)
