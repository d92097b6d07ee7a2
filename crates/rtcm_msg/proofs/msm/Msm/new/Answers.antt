use Rattle.rtcm_msg.proofs.Names.{ℕ, ◌≡◌, ◌∙◌, true, Option, count_ones, length, ap, arith, System, MasksValue, MsmHeader, is_time, header_fault, msm_refusal, option_map, option_or, OutOfRange, Field}
use Rattle.rtcm_msg.proofs.msm.Msm.new.Goals as goal

chained : {h a b h' a' b' q r : Option Field} → h' ≡ h → a' ≡ a → b' ≡ b → q ≡ option_or h' a' → r ≡ option_or q b' → option_or (option_or h a) b ≡ r
chained x y z e f = cc (x, y, z, e, f)

-- After the time and the numbers of satellites and cells only a field can be refused.
by_field : (g : System) (h : MsmHeader) (s : MasksValue) (m n : ℕ) (a b r : Option Field) → is_time g h.time ≡ true → m ≡ count_ones s.satellites → n ≡ count_ones s.cells
    → option_or (option_or (header_fault h) a) b ≡ r → msm_refusal g h s m n a b ≡ option_map OutOfRange r
by_field g h s m n a b r time first second fields = whole ∙ ap (option_map OutOfRange) fields
  where
    whole : msm_refusal g h s m n a b ≡ option_map OutOfRange (option_or (option_or (header_fault h) a) b)
    whole = grind (arith, time, first, second)

pub returns-in-Some-clause-refused : goal.returns-in-Some-clause-refused
returns-in-Some-clause-refused c =
    let time : is_time c.args.system c.args.header.time ≡ true = grind (arith, c.if-not-is_time.false, c.is_time.ensures) in
    let first : length c.args.satellites.now ≡ count_ones c.args.masks.satellites = grind (arith, c.if-satellites-counts.false, c.satellites.ensures) in
    let second : length c.args.cells.now ≡ count_ones c.args.masks.cells = grind (arith, c.if-cells-counts.false, c.cells.ensures.value) in
    by_field c.args.system c.args.header c.args.masks _ _ _ _ _ time first second
    (chained c.header_fault.ensures.first c.satellite_fault.ensures.first c.cell_fault.ensures.first c.or.ensures c.or-2.ensures) ∙ ap (option_map OutOfRange) c.in-Some.is

pub returns-clause-accepted : goal.returns-clause-accepted
returns-clause-accepted c =
    let time : is_time c.args.system c.args.header.time ≡ true = grind (arith, c.if-not-is_time.false, c.is_time.ensures) in
    let first : length c.args.satellites.now ≡ count_ones c.args.masks.satellites = grind (arith, c.if-satellites-counts.false, c.satellites.ensures) in
    let second : length c.args.cells.now ≡ count_ones c.args.masks.cells = grind (arith, c.if-cells-counts.false, c.cells.ensures.value) in
    by_field c.args.system c.args.header c.args.masks _ _ _ _ _ time first second
    (chained c.header_fault.ensures.first c.satellite_fault.ensures.first c.cell_fault.ensures.first c.or.ensures c.or-2.ensures) ∙ ap (option_map OutOfRange) c.in_default.is
