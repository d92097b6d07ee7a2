-- The bytes written are the text of a file value.
use Rattle.rtcm_convert.proofs.Names.{◌≡◌, ℕ, ◌<◌, Bool, List, [], ◌∷◌, ◌++◌, length, filter, refl, sym, subst, arith, Option, Some, None, Result, Ok, Err, append-nil, IfSome, AllByRecursion, cons_option, Framed, Message, MsgFault, IsMessage, MsmSet, message_with, PlanValue, Closed, Heard, IsPrefix, all_epochs, closed_epochs, ClosedComeFirst, IsHeard, MessagesAreHeard, EpochsAreGathered, TimesRise, AreGatheredEpochs, HeaderLists, AreTexts, gathered, AreSignals, HasSatellite, IsGatheredFile, SetupValue, heard_of, message_of, messages_of, written_epochs, text_of_epochs, text_with, file, so_far, epochs_in, IsFileText, HasValue, IsReadable, AreSound, AreChannels, IsInterval, common_steps}
use Rattle.rtcm_bits.proofs.SmallLaws.{all_filter}

-- the laws of the crates below on messages, epochs and files
pub record Known : Type 0 where
  pub value : (set : MsmSet) (bytes : List ℕ) (m : Message) → message_with set bytes ≡ Ok m → IsMessage m
  pub heard : MessagesAreHeard
  pub epochs : EpochsAreGathered
  pub first : ClosedComeFirst
  pub gathered : IsGatheredFile
  pub text : IsFileText

-- ---- messages

message_heard : Known → (s : SetupValue) (bytes : List ℕ) (r : Result Message MsgFault) → AreChannels s.gatherer.plan.channels → message_with s.set bytes ≡ r → IfSome (heard_of s.gatherer.plan.channels s.gatherer.leap_seconds r) IsHeard
message_heard k s bytes (Ok m) are e = k.heard s.gatherer.plan.channels s.gatherer.leap_seconds m are (k.value s.set bytes m e)
message_heard k s bytes (Err fault) are e = tt

messages_heard : Known → (s : SetupValue) (fs : List Framed) → AreChannels s.gatherer.plan.channels → AllByRecursion IsHeard (messages_of s fs)
messages_heard k s [] are = tt
messages_heard k s (f ∷ fs) are = by (message_of s f) (message_heard k s f.message (message_with s.set f.message) are refl) (messages_heard k s fs are) where
  by : (o : Option Heard) → IfSome o IsHeard → AllByRecursion IsHeard (messages_of s fs) → AllByRecursion IsHeard (cons_option o (messages_of s fs))
  by None h l = l
  by (Some m) h l = (h, l)

-- ---- some of the epochs

rise_filter : (p : Closed → Bool) (es : List Closed) → TimesRise es → TimesRise (filter p es)
rise_filter p [] h = tt
rise_filter p (e ∷ es) h = grind (arith, common_steps, all_filter, rise_filter p es h.1)

written_some : (es : List Closed) → AllByRecursion HasSatellite (written_epochs es)
written_some [] = tt
written_some (e ∷ es) = grind (arith, common_steps, written_some es)

all_front : (P : Closed → Type 0) (es rest : List Closed) → AllByRecursion P (es ++ rest) → AllByRecursion P es
all_front P [] rest h = tt
all_front P (e ∷ es) rest h = (h.0, all_front P es rest h.1)

rise_front : (es rest : List Closed) → TimesRise (es ++ rest) → TimesRise es
rise_front [] rest h = tt
rise_front (e ∷ es) rest h = (all_front (λ f. e.epoch.time < f.epoch.time) es rest h.0, rise_front es rest h.1)

front : (plan : PlanValue) (es all : List Closed) → IsPrefix es all → AreGatheredEpochs plan all → AreGatheredEpochs plan es
front plan es all p h = grind (arith, common_steps, all_front, rise_front)

-- ---- their text

text_valued : Known → {texts : HeaderLists} (interval : Option ℕ) {plan : PlanValue} (es : List Closed) → AreTexts texts → IfSome interval IsInterval → AreSignals plan → AreGatheredEpochs plan es → AllByRecursion HasSatellite es
    → 0 < length es → HasValue (text_of_epochs texts interval plan es)
unfolding text_of_epochs
text_valued k interval [] x i p h some none = absurd (omega (arith, none))
text_valued k {texts} interval {plan} (e ∷ es) x i p h some none =
    (gathered texts interval plan e.values (e ∷ es), k.gathered texts interval plan e es x i p h some, k.text texts interval plan e es)

with_valued : Known → (s : SetupValue) (es : List Closed) → AreSound s → AreGatheredEpochs s.gatherer.plan es → 0 < length (written_epochs es) → HasValue (text_with s es)
with_valued k s es sound h = grind (arith, common_steps, text_valued, all_filter, rise_filter, written_some)

no_text : (texts : HeaderLists) (interval : Option ℕ) (plan : PlanValue) (es : List Closed) → (0 < length es → HasValue (text_of_epochs texts interval plan es)) → IsReadable (text_of_epochs texts interval plan es)
unfolding text_of_epochs
no_text texts interval plan es h = grind (arith, common_steps)

with_readable : Known → (s : SetupValue) (es : List Closed) → AreSound s → AreGatheredEpochs s.gatherer.plan es → IsReadable (text_with s es)
with_readable k s es sound h = no_text s.texts s.gatherer.choice.interval s.gatherer.plan (written_epochs es) (with_valued k s es sound h)

pub file_valued : Known → (s : SetupValue) (fs : List Framed) → AreSound s → 0 < epochs_in s fs → HasValue (file s fs)
file_valued k s fs sound some = with_valued k s (all_epochs s.gatherer (messages_of s fs)) sound (k.epochs s.gatherer (messages_of s fs) sound.initial (messages_heard k s fs sound.plan.channels)) some

pub file_readable : Known → (s : SetupValue) (fs : List Framed) → AreSound s → IsReadable (file s fs)
file_readable k s fs sound = with_readable k s (all_epochs s.gatherer (messages_of s fs)) sound (k.epochs s.gatherer (messages_of s fs) sound.initial (messages_heard k s fs sound.plan.channels))

pub so_far_readable : Known → (s : SetupValue) (fs : List Framed) → AreSound s → IsReadable (so_far s fs)
so_far_readable k s fs sound =
    let ms = messages_of s fs in
    let all = subst (λ l. AreGatheredEpochs s.gatherer.plan (all_epochs s.gatherer l)) (sym (append-nil ms)) (k.epochs s.gatherer ms sound.initial (messages_heard k s fs sound.plan.channels)) in
    with_readable k s (closed_epochs s.gatherer ms) sound (front s.gatherer.plan (closed_epochs s.gatherer ms) (all_epochs s.gatherer (ms ++ [])) (k.first s.gatherer ms []) all)
