-- A conversion of GPS and Galileo alone.
use Rattle.obs_epoch.proofs.Names.{◌≡◌, ◌⊎◌, inl, inr, refl, ap, ℕ, List, ◌∷◌, Bool, true, false, Some, filter_map, Result, Ok, Err, arith, System, tabulated_same, BySystem, Gps, Galileo, ChannelsValue, PlanValue, bits_of, message_at, message_with, other_of, Entry, Form, Message, heard, heard_of, seen_in, unlisted_in, is_always_decoded, is_decoded, set_of, and_parts, []}
use Rattle.rtcm_msg.specs.Numbers.{default_set}
use Rattle.rtcm_msg.specs.Sets.{is_in_set, message_by_table}
use Rattle.rtcm_msg.specs.declared.fault.MsgFault.{MsgFault}
use Rattle.rtcm_msg.specs.declared.number.Forms.TheVariants.{FourAndSeven}
use Rattle.rtcm_msg.specs.declared.number.MsmSet.{MsmSet}
use Rattle.obs_epoch.specs.TwoSystems.{AreReadPlainly, PlansTwo, plain_cell_of, plain_heard, plain_of, plain_unlisted}

-- What is decoded is the default set.
pub default_decoded : (plan : PlanValue) → PlansTwo plan → set_of plan FourAndSeven ≡ default_set
default_decoded plan two =
    ap (λ (systems : BySystem Bool). record { systems = systems; forms = FourAndSeven }) (tabulated_same (is_decoded plan) is_always_decoded same) where
      same : (s : System) → is_decoded plan s ≡ is_always_decoded s
      same s = grind arith

-- GPS or Galileo.
abbrev IsOfTwo : System → Type 0
IsOfTwo s = (s ≡ Gps) ⊎ (s ≡ Galileo)

-- ---- cells

cell_same : (channels : ChannelsValue) (form : Form) (s : System) (e : Entry) → IsOfTwo s → seen_in channels form s e ≡ plain_cell_of form s e
cell_same channels form s e h0 = grind arith

cells_same : (channels : ChannelsValue) (form : Form) (s : System) (es : List Entry) → IsOfTwo s
    → filter_map (seen_in channels form s) es ≡ filter_map (plain_cell_of form s) es
cells_same channels form s [] of = refl
cells_same channels form s (e ∷ es) of = grind (arith, cell_same, cells_same channels form s es of)

unlisted_same : (channels : ChannelsValue) (form : Form) (s : System) (es : List Entry) → IsOfTwo s
    → unlisted_in channels form s es ≡ plain_unlisted form s es
unlisted_same channels form s [] of = refl
unlisted_same channels form s (e ∷ es) of = grind (arith, cell_same, unlisted_same channels form s es of)

-- ---- messages

message_same : (channels : ChannelsValue) (leap : ℕ) (m : Message) → is_in_set default_set m ≡ true → heard channels leap m ≡ plain_heard m
message_same channels leap m within = grind (arith, cells_same, unlisted_same, and_parts)

-- ---- what is decoded

-- the laws of message sets
pub record MessageSets : Type 0 where
  pub inside : (set : MsmSet) (bytes : List ℕ) (m : Message) → message_at bytes ≡ Ok m → is_in_set set m ≡ true → message_with set bytes ≡ Ok m
  pub outside : (set : MsmSet) (bytes : List ℕ) (m : Message) → message_at bytes ≡ Ok m → is_in_set set m ≡ false → message_with set bytes ≡ Ok (other_of (bits_of bytes))
  pub refused : (set : MsmSet) (bytes : List ℕ) (e : MsgFault) → message_at bytes ≡ Err e → (message_with set bytes ≡ Err e) ⊎ (message_with set bytes ≡ Ok (other_of (bits_of bytes)))

pub default_heard : MessageSets → (channels : ChannelsValue) (leap : ℕ) (bytes : List ℕ)
    → heard_of channels leap (message_with default_set bytes) ≡ plain_of (message_with default_set bytes)
default_heard laws channels leap bytes = by (message_at bytes) refl where
  within : (m : Message) → message_at bytes ≡ Ok m → (b : Bool) → is_in_set default_set m ≡ b
      → heard_of channels leap (message_with default_set bytes) ≡ plain_of (message_with default_set bytes)
  within m read true is = rw (laws.inside default_set bytes m read is) (ap Some (message_same channels leap m is))
  within m read false is = rw (laws.outside default_set bytes m read is) (ap Some (message_same channels leap (other_of (bits_of bytes)) refl))

  by : (r : Result Message MsgFault) → message_at bytes ≡ r
      → heard_of channels leap (message_with default_set bytes) ≡ plain_of (message_with default_set bytes)
  by (Ok m) read = within m read (is_in_set default_set m) refl
  by (Err e) read = elim (laws.refused default_set bytes e read) [
    | inl err ↦ (rw err refl)
    | inr other ↦ (rw other (ap Some (message_same channels leap (other_of (bits_of bytes)) refl)))
  ]

pub read_plainly : MessageSets → ((bytes : List ℕ) → message_with default_set bytes ≡ message_by_table bytes) → AreReadPlainly
read_plainly laws table plan two channels leap bytes = grind (arith, default_decoded, default_heard)
