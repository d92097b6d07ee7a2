-- The names that proofs cite, passed on from one place. Declares nothing.
pub use Rattle.rinex_columns.specs.Numbers.{fixed, padded, right}
pub use Rattle.rinex_columns.specs.Read.{digits_from, digits_in, has, next_digit, number_in}
pub use Rattle.std.proofs.Common.{List, [], ap, append_assoc, arith, decimal, drop, length, length-append, refl, replicate, rules, suc, sym, unsigned_abs, zero, ℕ, ℤ, ◌%◌, ◌*◌, ◌++◌, ◌+◌, ◌/◌, ◌<◌, ◌^◌, ◌∙◌, ◌∷◌, ◌≡◌}
pub use Rattle.std.proofs.Math.Nat.{div-le_self, mod-le, mod-lt, pow-le-pow_right, pow-suc}
pub use Rattle.std.proofs.lemmas.Fmt.{decimal_by_steps, length-decimal-le}
pub use Rattle.std.proofs.lemmas.Grind.{common_steps}
pub use Rattle.std.proofs.lemmas.List.{length-replicate, take_all}
pub use Rattle.std.proofs.lemmas.Nat.{div-add-mod', pow-add}
pub use Rattle.std.specs.Fmt.{sign_text}
pub use Rattle.std.specs.Int.{is_negative}
pub use Rattle.std.specs.Prelude.{Bool, false, pos, ◌-◌, ◌==◌, ◌||◌, ◌≤◌}
