use Rattle.spaced_set_laws.proofs.ApartSets.{spaced_in_profile, never_refused}
use Rattle.spaced_set_laws.proofs.laws.small_sets_apart_are_spaced.Goals as goal

pub returns-clause-spaced : goal.returns-clause-spaced
returns-clause-spaced c = spaced_in_profile

pub returns-clause-never_refused : goal.returns-clause-never_refused
returns-clause-never_refused c = never_refused
