-- What a converter holds.
use Rattle.rtcm_convert.proofs.Names.{◌≡◌, ℕ, List, true, ap, ◌∙◌, Option, None, length, frames_of, Closed, GatherSetup, Heard, timed, times, closed_so_far, GathererValue, locked_in, firsts, HasGatheredEpochs, is_done, SetupValue, messages_of, locks_at, locks_in_all, Conversion, HasFinished, ◌&&◌, AllClosed}
use Rattle.obs_epoch.specs.Clock.{is_pending}

-- when the stream has ended, all epochs are closed
pub closed_all : AllClosed → (v : GathererValue) (s : GatherSetup) (ms : List Heard) → v.has_ended ≡ true → closed_so_far s (timed s ms) (is_done v s ms None) ≡ times (timed s ms)
closed_all all v s ms over = ap (λ b. closed_so_far s (timed s ms) (b && is_pending s (timed s ms))) over ∙ all s (timed s ms)

-- one record for each key that is locked in an epoch that counts
abbrev pub HasKeys : GathererValue → ℕ → Type 0
HasKeys v n = (s : GatherSetup) (ms : List Heard) (es : List Closed) (again : Option Heard) → HasGatheredEpochs v s ms es again
    → n ≡ length (firsts (locked_in s (timed s ms) (closed_so_far s (timed s ms) (is_done v s ms again))))

pub locks_all : AllClosed → (v : Conversion) (n : ℕ) → HasKeys v.file_writer.gatherer n → (s : SetupValue) (b : List ℕ) → HasFinished v s b → n ≡ locks_in_all s (frames_of b)
locks_all all v n keys s b x =
    let g = x.gathered in
    keys s.gatherer (messages_of s (frames_of b)) g.epochs None g.gathers
    ∙ ap (locks_at s (frames_of b)) (closed_all all v.file_writer.gatherer s.gatherer (messages_of s (frames_of b)) g.ended)
