use Rattle.rtcm_msg.proofs.Names.{◌≡◌, take, map, EachBelow}
use Rattle.rtcm_msg.proofs.msm.pack.Given as goal

abbrev pub invariant-loop-item : goal.invariant-loop-item
invariant-loop-item g l = (l.packed.items ≡ map (g.T.HasFields.number l.form) (take l.item-index l.items)) × EachBelow (g.T.HasFields.width l.form) l.packed.items
