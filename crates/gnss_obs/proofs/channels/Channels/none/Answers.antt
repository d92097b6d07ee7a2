use Rattle.gnss_obs.proofs.Names.{ℕ, ◌≤◌, Option, None, IfSome, refl, All-replicate, most_number, slot_count}
use Rattle.gnss_obs.proofs.channels.Channels.none.Goals as goal

pub invariant_of-result : goal.invariant_of-result
invariant_of-result c = record {
  slots = refl;
  each = All-replicate (λ (number : Option ℕ). IfSome number (λ n. n ≤ most_number)) slot_count None tt;
}
