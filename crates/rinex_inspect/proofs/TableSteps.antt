-- Tables of epochs: none, one more, and one line more.
use Rattle.rinex_inspect.proofs.Names.{get_or-set_other, get_or-set_same, ◌≡◌, ◌∙◌, ◌+◌, ◌-◌, ◌^◌, ◌<◌, ◌≤◌, ◌==◌, ◌++◌, ◌∷◌, [], ℕ, Bool, true, false, suc, List, get_or, length, refl, ap, sym, subst, arith, map, list_any, IsStrictlyIncreasing, and_from, and_parts, eq-eqb, eqb-false, eqb-true, ◌||◌, length-set, HasAdded, length-append, map-append, system_same, system_self, System, Satellite, satellites, index_of, is_system, rank_of, time_stamped, SatelliteRow, Stamped, with_read, times_in, has_line, is_row_of, last_of, satellite_at, SatelliteRecord, Table, HasAddedRow, IsBlankRecord, IsBlankTable, IsRecordOf, IsTableOf, begun, no_record, record_at, records_in, common_steps}
use Rattle.rinex_inspect.proofs.PresenceLemmas.{last_is}
use Rattle.rinex_inspect.proofs.TableLemmas.{record_begun, record_other, record_this}

-- ---- no epoch

blank_record : (r : SatelliteRecord) (s : Satellite) → IsBlankRecord r → IsRecordOf r s []
blank_record r s is = grind (arith, common_steps)

pub blank_table : (t : Table) → IsBlankTable t → IsTableOf t []
blank_table t is = grind (arith, common_steps, blank_record)

-- ---- one epoch more

last_time : (xs : List Stamped) (e : Stamped) → last_of (times_in (xs ++ e ∷ [])) ≡ e.time
last_time xs e = ap last_of (map-append time_stamped xs (e ∷ [])) ∙ last_is (times_in xs) e.time

pub table_begun : (t : Table) (xs : List Stamped) (e : Stamped) {time : ℕ} → length xs < 2 ^ 62 → e.rows ≡ [] → e.time ≡ time → IsTableOf t xs → IsTableOf (begun time t) (xs ++ e ∷ [])
table_begun t xs e few none same is = record {
  epochs = let was = is.epochs in omega (arith, was, few, length-append xs (e ∷ []));
  time = sym same ∙ sym (last_time xs e);
  size = is.size;
  each = λ s i less. record_begun (record_at t s i) (satellite_at s i) xs e none (is.each s i less);
}

-- ---- one line more

abbrev pub own : SatelliteRow → Satellite
own row = record { system = row.system; id = row.row.satellite }

module _ (t t2 : Table) (row : SatelliteRow) (add : HasAddedRow row t t2) (some : 1 ≤ row.row.satellite) where
  -- the record of another satellite
  kept : (s : System) (i : ℕ) → is_row_of (satellite_at s i) row ≡ false → record_at t2 s i ≡ record_at t s i
  kept s i out = grind (arith, common_steps, system_self, system_same, get_or-set_other, eqb-false)

  pub table_added : (xs : List Stamped) (e : Stamped) → length xs < 2 ^ 62 → row.row.satellite ≤ satellites row.system → has_line (own row) e ≡ false → IsTableOf t (xs ++ e ∷ [])
      → IsTableOf t2 (xs ++ with_read e row ∷ [])
  table_added xs e few most out is = record {
    epochs = add.epochs ∙ is.epochs ∙ length-append xs (e ∷ []) ∙ sym (length-append xs (with_read e row ∷ []));
    time = add.time ∙ is.time ∙ last_time xs e ∙ sym (last_time xs (with_read e row));
    size = λ s. sized s (is_system s row.system) refl (is.size s);
    each = λ s i less. by s i (is_row_of (satellite_at s i) row) refl (is.each s i less);
  } where
    sized : (s : System) (b : Bool) → is_system s row.system ≡ b → length (records_in t s) ≡ satellites s → length (records_in t2 s) ≡ satellites s
    sized s false e was = ap length (add.other s (λ same. let bad = system_self s row.system same in cc)) ∙ was
    sized s true e was =
        let same : s ≡ row.system = system_same s row.system e in
        ap (λ (x : System). length (records_in t2 x)) same ∙ ap length add.this.1 ∙ length-set (records_in t row.system) (row.row.satellite - 1) add.this.0 ∙ ap (λ (x : System). length (records_in t x)) (sym same) ∙ was

    self : is_row_of (own row) row ≡ true
    self = and_from (is_system row.system row.system) (row.row.satellite == row.row.satellite) (system_self row.system row.system refl) (eq-eqb row.row.satellite row.row.satellite refl)

    more : List Stamped
    more = xs ++ with_read e row ∷ []

    j : ℕ
    j = row.row.satellite - 1

    number : j + 1 ≡ row.row.satellite
    number = omega (arith, some)

    here : IsRecordOf (record_at t row.system j) (satellite_at row.system j) (xs ++ e ∷ []) → IsRecordOf (record_at t2 row.system j) (satellite_at row.system j) more
    here was =
        let q = record_at t row.system j in
        let s : Satellite = satellite_at row.system j in
        let same : s ≡ own row = ap (λ (n : ℕ). record { system = row.system; id = n }) number in
        let at : record_at t2 row.system j ≡ add.this.0 = ap (λ (l : List SatelliteRecord). get_or l j no_record) add.this.1 ∙ get_or-set_same (records_in t row.system) j add.this.0 no_record (omega (arith, is.size row.system, most, some)) in
        let times : t.time ≡ e.time = is.time ∙ last_time xs e in
        let last : t.epochs ≡ length xs + 1 = is.epochs ∙ length-append xs (e ∷ []) in
        let step : HasAdded t.epochs e.time row.row.signal_values q add.this.0 = subst (λ (n : ℕ). HasAdded t.epochs n row.row.signal_values q add.this.0) times add.this.2 in
        let clear : has_line s e ≡ false = ap (λ (x : Satellite). has_line x e) same ∙ out in
        let mine : is_row_of s row ≡ true = ap (λ (x : Satellite). is_row_of x row) same ∙ self in
        subst (λ (r : SatelliteRecord). IsRecordOf r s more) (sym at) (record_this q add.this.0 s xs e row t.epochs clear mine last (omega (arith, last, few)) step was)

    by : (s : System) (i : ℕ) (b : Bool) → is_row_of (satellite_at s i) row ≡ b → IsRecordOf (record_at t s i) (satellite_at s i) (xs ++ e ∷ []) → IsRecordOf (record_at t2 s i) (satellite_at s i) more
    by s i false other was = subst (λ (r : SatelliteRecord). IsRecordOf r (satellite_at s i) more) (sym (kept s i other)) (record_other (record_at t s i) (satellite_at s i) xs e row other was)
    by s i true mine was =
        let both = and_parts (is_system s row.system) (row.row.satellite == i + 1) mine in
        let same : s ≡ row.system = system_same s row.system both.0 in
        let count : row.row.satellite ≡ i + 1 = eqb-true row.row.satellite (i + 1) both.1 in
        let index : i ≡ j = omega (arith, count) in
        let first = subst (λ (x : System). IsRecordOf (record_at t x i) (satellite_at x i) (xs ++ e ∷ [])) same was in
        let second = subst (λ (n : ℕ). IsRecordOf (record_at t row.system n) (satellite_at row.system n) (xs ++ e ∷ [])) index first in
        subst (λ (x : System). IsRecordOf (record_at t2 x i) (satellite_at x i) more) (sym same) (subst (λ (n : ℕ). IsRecordOf (record_at t2 row.system n) (satellite_at row.system n) more) (sym index) (here second))

-- ---- a satellite has one line in an epoch

pub rise_tail : (x : ℕ) (xs : List ℕ) → IsStrictlyIncreasing (x ∷ xs) → IsStrictlyIncreasing xs
rise_tail x xs h = λ k fits. let next = h (suc k) (omega (arith, fits)) in grind (arith, next)

pub below_last : (ys : List ℕ) (y n : ℕ) → IsStrictlyIncreasing (y ∷ (ys ++ n ∷ [])) → y < n
below_last [] y n h = h 0 (omega arith)
below_last (z ∷ ys) y n h = let first = h 0 (omega (arith, length-append ys (n ∷ []))) in let rest = below_last ys z n (rise_tail y (z ∷ (ys ++ n ∷ [])) h) in omega (arith, first, rest)

pub none_same : (rows : List SatelliteRow) (row : SatelliteRow) → IsStrictlyIncreasing (map rank_of (rows ++ row ∷ [])) → list_any (is_row_of (own row)) rows ≡ false
none_same [] row rise = refl
none_same (x ∷ rows) row rise =
    let less : rank_of x < rank_of row = below_last (map rank_of rows) (rank_of x) (rank_of row) (subst IsStrictlyIncreasing (ap (λ (l : List ℕ). rank_of x ∷ l) (map-append rank_of rows (row ∷ []))) rise) in
    by (none_same rows row (rise_tail (rank_of x) (map rank_of (rows ++ row ∷ [])) rise)) (is_row_of (own row) x) refl less where
      by : list_any (is_row_of (own row)) rows ≡ false → (b : Bool) → is_row_of (own row) x ≡ b → rank_of x < rank_of row → (b || list_any (is_row_of (own row)) rows) ≡ false
      by rest false e less = rest
      by rest true e less =
          let both = and_parts (is_system row.system x.system) (x.row.satellite == row.row.satellite) e in
          let same : index_of row.system ≡ index_of x.system = ap index_of (system_same row.system x.system both.0) in
          let number : x.row.satellite ≡ row.row.satellite = eqb-true x.row.satellite row.row.satellite both.1 in
          absurd (omega (arith, same, number, less))
