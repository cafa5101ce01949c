use Rattle.string_painting.proofs.painter.paint_at_depths.Goals as goal

pub returns-in-Two-Two : goal.returns-in-Two-Two
returns-in-Two-Two c = rw c.at_depths-known.ensures at c.paint_codes.ensures

pub returns-in-Two-Four : goal.returns-in-Two-Four
returns-in-Two-Four c = rw c.at_depths-known-in-Two-Four.ensures at c.paint_codes-in-Two-Four.ensures

pub returns-in-Two-Eight : goal.returns-in-Two-Eight
returns-in-Two-Eight c = rw c.at_depths-known-in-Two-Eight.ensures at c.paint_codes-in-Two-Eight.ensures

pub returns-in-Four-Four : goal.returns-in-Four-Four
returns-in-Four-Four c = rw c.at_depths-known-in-Four-Four.ensures at c.paint_codes-in-Four-Four.ensures

pub returns-in-Four-Eight : goal.returns-in-Four-Eight
returns-in-Four-Eight c = rw c.at_depths-known-in-Four-Eight.ensures at c.paint_codes-in-Four-Eight.ensures

pub returns-in-Eight-Eight : goal.returns-in-Eight-Eight
returns-in-Eight-Eight c = rw c.at_depths-known-in-Eight-Eight.ensures at c.paint_codes-in-Eight-Eight.ensures
