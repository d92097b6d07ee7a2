use Rattle.rinex_file.proofs.HeaderRows.Letters.{one_letter}
use Rattle.rinex_file.proofs.Rows.Sizes.{front_line}
use Rattle.rinex_file.proofs.Names.{value_of, letter_back, letter_found, system_of_letter, arith, ◌≡◌, ◌∙◌, sym, ap, subst, ℕ, List, Option, Some, None, is_some, slice_get, System, SatelliteRow, IsSatelliteRow, IsRow, satellites, satellite_line, letter, ReadsExactly, some_if, IsRowOf, same_Some, common_steps}
use Rattle.rinex_file.proofs.read.row.read_row.Goals as goal

is_of : (signals : System → ℕ) (system : System) (s : SatelliteRow) → s.system ≡ system → IsSatelliteRow signals s → IsRowOf system (signals system) s
is_of signals system s same is = (same, subst (λ (r : System). IsRow (satellites r) (signals r) s.row) same is.row)

-- the first byte of a line
first_is : (line : List ℕ) (v : SatelliteRow) → line ≡ satellite_line v → slice_get line 0 ≡ Some (letter v.system)
first_is line v e = ap (λ l. slice_get l 0) (e ∙ front_line v)

-- if the line begins with the letter of a system, each satellite is one of this system
of_all : (signals : System → ℕ) (system : System) (line : List ℕ) (r : Option SatelliteRow) → slice_get line 0 ≡ Some (letter system)
    → ReadsExactly (IsRowOf system (signals system)) satellite_line line r → ReadsExactly (IsSatelliteRow signals) satellite_line line r
of_all signals system line found letter read = grind (arith, common_steps, is_of, one_letter, same_Some, first_is)

-- a line with another first byte is that of no satellite
no_letter : (line : List ℕ) (b : ℕ) (v : SatelliteRow) → Some b ≡ slice_get line 0 → system_of_letter b ≡ None → line ≡ satellite_line v → ⊥
no_letter line b v at none e =
    let is : b ≡ letter v.system = same_Some _ _ (at ∙ first_is line v e) in
    let clash : None ≡ Some v.system = sym none ∙ ap system_of_letter is ∙ letter_back v.system in
    cc

no_byte : (line : List ℕ) (v : SatelliteRow) → None ≡ slice_get line 0 → line ≡ satellite_line v → ⊥
no_byte line v at e = let same : None ≡ Some (letter v.system) = at ∙ first_is line v e in cc

pub returns-in_err-first : goal.returns-in_err-first
returns-in_err-first c = rw c.from_residual.ensures (λ v is e. no_byte c.args.line.now v c.in_err-first.ensures.value e)

pub returns-in_err-system : goal.returns-in_err-system
returns-in_err-system c = rw c.from_residual-in_err-system.ensures (λ v is e. no_letter c.args.line.now _ v c.in_ok-first.ensures.value (sym c.in_err-system.ensures) e)

pub read_of-requires-clause-first : goal.read_of-requires-clause-first
read_of-requires-clause-first c = sym c.in_ok-first.ensures.value ∙ ap Some (sym (letter_found _ c.in_ok-system.system (sym c.in_ok-system.ensures)))

pub returns : goal.returns
returns c =
    let system = c.in_ok-system.system in
    let found = letter_found _ system (sym c.in_ok-system.ensures) in
    of_all (λ s. value_of s c.args.planned.now) system c.args.line.now _ (sym c.in_ok-first.ensures.value ∙ ap Some (sym found))
    (subst (λ (n : ℕ). ReadsExactly (IsRowOf system n) satellite_line c.args.line.now (some_if (is_some c.read_of.result) c.read_of.new.row)) c.of.ensures c.read_of.ensures)
