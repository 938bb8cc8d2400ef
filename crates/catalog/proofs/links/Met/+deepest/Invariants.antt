use Rattle.catalog.proofs.links.Met.+deepest.Given as goal

abbrev pub decreases-deepest : goal.decreases-deepest
decreases-deepest l = l.room
