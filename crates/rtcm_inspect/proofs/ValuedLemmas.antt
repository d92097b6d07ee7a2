-- The cells with a value are of listed satellites and signals.
use Rattle.rtcm_inspect.proofs.Names.{common_steps, MsmValue, heard_msm, ◌≡◌, ℕ, Bool, true, false, List, [], ◌∷◌, arith, filter, All, Option, Result, Ok, Err, filter_map, cond, option_map_or, All-nil, All-cons, All-append, All-filter, System, Entry, Message, Msm, entries, MsgFault, message_at, Framed, Heard, inspected, every_channel, seen_in, HeardCell, IsKey, inspected_of, brings_value, is_of_station, valued, valued_of, valued_in, Form}

-- what holds for each cell that is seen, holds for those of entries and for those of them that count
all_seen : (P : HeardCell → Type 0) (form : Form) (system : System) → ((x : HeardCell) → IsKey x × (x.satellite.system ≡ system) → P x) → (es : List Entry) → All P (filter_map (seen_in every_channel form system) es)
all_seen P form system each [] = All-nil P
all_seen P form system each (e ∷ es) = grind (arith, common_steps, All-cons, (all_seen P form system each es))

all_valued : (P : HeardCell → Type 0) (wanted : Option ℕ) (m : Heard) → All P m.cells → All P (valued wanted m)
all_valued P wanted m h = by (is_of_station wanted m) where
  by : (b : Bool) → All P (cond b (filter brings_value m.cells) [])
  by true = All-filter brings_value P m.cells h
  by false = All-nil P

all_heard : (m : Message) → All IsKey (inspected m).cells
all_heard (Msm m) = all_seen IsKey m.form m.msm.system (λ x h. h.0) (entries (Msm m))
all_heard other = All-nil IsKey

-- the cells of a message
pub message_keys : (wanted : Option ℕ) (m : Message) → All IsKey (valued wanted (inspected m))
message_keys wanted m = all_valued IsKey wanted (inspected m) (all_heard m)

frame_keys : (wanted : Option ℕ) (f : Framed) → All IsKey (valued_of wanted f)
frame_keys wanted f = by (message_at f.message) where
  by : (r : Result Message MsgFault) → All IsKey (option_map_or (valued wanted) (inspected_of r) [])
  by (Ok m) = message_keys wanted m
  by (Err e) = All-nil IsKey

-- the system of the cells of an MSM
pub valued_system : (wanted : Option ℕ) (form : Form) (v : MsmValue) (es : List Entry) → All (λ x. x.satellite.system ≡ v.system) (valued wanted (heard_msm every_channel 0 form v es))
valued_system wanted form v es =
    all_valued (λ x. x.satellite.system ≡ v.system) wanted (heard_msm every_channel 0 form v es) (all_seen (λ x. x.satellite.system ≡ v.system) form v.system (λ x h. h.1) es)

-- the cells of frames
pub valued_keys : (wanted : Option ℕ) (fs : List Framed) → All IsKey (valued_in wanted fs)
valued_keys wanted [] = All-nil IsKey
valued_keys wanted (f ∷ fs) = All-append IsKey (valued_of wanted f) (valued_in wanted fs) (frame_keys wanted f) (valued_keys wanted fs)
