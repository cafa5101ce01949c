-- The memory of a receiver that is free after what it was handed (EN 300 743, clause 5.2): all of it where no epoch is
-- known, and else what the epoch leaves.
use Rattle.std.specs.Prelude.{ℕ, ◌-◌, List, [], ◌∷◌, Option, Some, None}
use Rattle.sub_base.specs.declared.profile.Profile.{Profile}
use Rattle.stream_syntax.specs.Segments.{Page}
use Rattle.decoder_model.specs.Contents.{page_in_set}
use Rattle.decoder_model.specs.Nodes.{nodes_of, pixels_used}
use Rattle.decoder_model.specs.Readings.{Content, Reading}
use Rattle.decoder_model.specs.Sets.{Delivery}
use Rattle.decoder_model.specs.Taken.{Taken, segments_of, taken_of}
use Rattle.decoder_model.specs.Verdict.{known_epoch}

-- the bytes of the pixel buffer that the sets of an epoch hold; none where no epoch is known
abbrev pub pixels_held : Option (List (List Content)) → ℕ
pixels_held None = 0
pixels_held (Some sets) = pixels_used (taken_of (segments_of sets))

-- the nodes of a composition of taken segments with that page; none without a page
abbrev pub nodes_with_page : Taken → Option Page → ℕ
nodes_with_page taken None = 0
nodes_with_page taken (Some page) = nodes_of taken page

-- the nodes that the sets of an epoch, the latest first, hold with the page of the latest; none where no epoch is
-- known
abbrev pub nodes_held : Option (List (List Content)) → ℕ
nodes_held None = 0
nodes_held (Some []) = 0
nodes_held (Some (set ∷ before)) = nodes_with_page (taken_of (segments_of (set ∷ before))) (page_in_set set)

-- the bytes of the pixel buffer that are free after a past, in a receiver of a profile with that anchor
abbrev pub free_pixels_after : Profile → ℕ → List (Delivery Reading) → ℕ
free_pixels_after profile anchor past = profile.pixels - pixels_held (known_epoch profile anchor past)

-- the nodes of the composition memory that are free after a past, in a receiver of a profile with that anchor
abbrev pub free_nodes_after : Profile → ℕ → List (Delivery Reading) → ℕ
free_nodes_after profile anchor past = profile.nodes - nodes_held (known_epoch profile anchor past)
