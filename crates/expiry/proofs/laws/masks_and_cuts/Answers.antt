use Rattle.expiry.proofs.Leaving.{masks_leave}
use Rattle.expiry.proofs.Cutting.{horizons_expire, cuts_keep}
use Rattle.expiry.proofs.laws.masks_and_cuts.Goals as goal

pub returns-clause-masks : goal.returns-clause-masks
returns-clause-masks c = masks_leave

pub returns-clause-horizons : goal.returns-clause-horizons
returns-clause-horizons c = horizons_expire

pub returns-clause-cuts : goal.returns-clause-cuts
returns-clause-cuts c = cuts_keep
