-- The content of a buffer before and after it is written.
use Rattle.devices.proofs.Names.{◌≡◌, ℕ, ◌+◌, ◌-◌, ◌≤◌, List, [], ◌++◌, length, take, drop, sym, take-append-drop, take_rest, drop-drop, drop_all}

-- n more bytes were written
pub more_out : (items slice : List ℕ) (sent n : ℕ) → slice ≡ items → drop sent items ≡ take n (take (length slice - sent) (drop sent slice)) ++ drop (sent + n) items
more_out items slice sent n e = rw (e, take_rest items sent, ← drop-drop n sent items) (sym (take-append-drop n (drop sent items)))

-- all bytes were written
pub all_out : (items left : List ℕ) (sent : ℕ) → length items ≤ sent → left ≡ [] → drop sent items ≡ left
all_out items left sent h e = rw e (drop_all sent items h)

-- bytes were appended to those in the buffer
pub one_more : (waiting items new bytes : List ℕ) (sent : ℕ) → sent ≡ 0 → waiting ≡ drop sent items → new ≡ items ++ bytes → drop sent new ≡ waiting ++ bytes
one_more waiting items new bytes sent z w e = rw (w, z) e
