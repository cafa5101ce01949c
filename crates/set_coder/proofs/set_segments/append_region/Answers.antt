use Rattle.std.proofs.Common.{◌∙◌, ap, map, length, sym, subst, List}
use Rattle.std.specs.List.{flat_map}
use Rattle.std.proofs.lemmas.List.{length-map}
use Rattle.stream_syntax.specs.Fields.{FitsFields}
use Rattle.stream_syntax.specs.Segments.{listing_fields}
use Rattle.stream_syntax.specs.declared.region.Listing.{Listing}
use Rattle.set_coder.specs.SetSegments.{listing_of}
use Rattle.set_coder.proofs.WritableLaws.{fits_listings}
use Rattle.set_coder.proofs.set_segments.append_region.Goals as goal

pub append_listed-requires-clause-many : goal.append_listed-requires-clause-many
append_listed-requires-clause-many c =
    ap length
    (c.as_slice-2.ensures.value ∙ c.in_ok-listings.ensures
    ∙ ap (map (listing_of c.args.epoch.now)) c.as_slice.ensures)
    ∙ length-map c.args.sent.now.cues (listing_of c.args.epoch.now)

pub append_listed-requires-clause-fit : goal.append_listed-requires-clause-fit
append_listed-requires-clause-fit c =
    subst (λ (ls : List Listing). FitsFields (flat_map listing_fields ls))
    (sym
    (c.as_slice-2.ensures.value ∙ c.in_ok-listings.ensures
    ∙ ap (map (listing_of c.args.epoch.now)) c.as_slice.ensures))
    (fits_listings c.args.epoch.now c.args.sent.now.cues c.requires.usable c.requires.sent.cues)
