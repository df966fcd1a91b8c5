use Rattle.c_place.proofs.choosing.chosen_target.Goals as goal

pub merged-requires-clause-second : goal.merged-requires-clause-second
merged-requires-clause-second c = (c.requires.second _ c.in-Some.is).0
