-- A view and its message.
use Rattle.obs_epoch.proofs.Names.{arith, ◌≡◌, Bool, true, FormedMsm, Msm, entries, heard_by, GathererValue, load_entries, loaded_where, no_counts}
use Rattle.obs_epoch.proofs.EntryLemmas.{load_entries_is}

-- The entries of a view, if the message is accepted.
pub loaded_view : (m : FormedMsm) (is_accepted : Bool) (g : GathererValue) → is_accepted ≡ true
    → load_entries m.form m.msm.system (record { state = g; counts = no_counts }) (entries (Msm m)) ≡ loaded_where is_accepted g (heard_by g.clock.setup (Msm m))
loaded_view m is_accepted g is = grind (arith, load_entries_is)
