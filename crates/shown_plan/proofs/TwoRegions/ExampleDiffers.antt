-- Behind the set that sends the page again, region 0 has the pixel of its cue in a receiver that was there before, and
-- code 0 in one that enters with that set.
use Rattle.std.proofs.Common.{◌≡◌, ◌∙◌, List, [], ◌∷◌, refl, sym, arith}
use Rattle.sub_base.specs.Profile.{profile_of}
use Rattle.sub_base.specs.declared.profile.ProfileName.TheVariants.{Sd}
use Rattle.stream_syntax.specs.declared.page.State.TheVariants.{Acquisition}
use Rattle.decoder_model.specs.Kept.{epoch_of}
use Rattle.decoder_model.specs.Pixels.{painted_listings, pixel_of}
use Rattle.decoder_model.specs.Readings.{Content}
use Rattle.decoder_model.specs.Taken.{segments_of, taken_among, taken_of}
use Rattle.shown_plan.specs.HiddenRegions.{AreHiddenOtherwise, IsHiddenExample}
use Rattle.shown_plan.proofs.TwoRegions.Example.{script}
use Rattle.shown_plan.proofs.TwoRegions.ExamplePlan.{first_set, is_plan, second_set, sets, third_set}
use Rattle.shown_plan.proofs.TwoRegions.ExampleSets.{all_said, contents, contents_in}

abbrev before : List (List Content)
before = contents_in second_set [] ∷ contents_in first_set (0 ∷ 1 ∷ []) ∷ []

abbrev now : List Content
now = contents_in third_set (1 ∷ [])

-- one that was there has the version of the segment, and keeps the pixel
keeps_pixel : pixel_of (taken_of (segments_of (now ∷ before))) 0 0 0 ≡ 1
unfolding pixel_of segments_of taken_among painted_listings
keeps_pixel = refl

-- one that enters there takes the segment, and fills the region
has_fill : pixel_of (taken_of (segments_of (now ∷ []))) 0 0 0 ≡ 0
unfolding pixel_of segments_of taken_among painted_listings
has_fill = refl

differ_hidden : AreHiddenOtherwise before [] now 0 0 0
unfolding epoch_of segments_of taken_among
differ_hidden = record {
  knows_first = refl;
  knows_second = refl;
  page = record {
    time_out = 6;
    version = 1;
    state = Acquisition;
    entries = record { region = 1; x = 0; y = 1 } ∷ [];
  };
  is_page = refl;
  hidden = refl;
  version = 0;
  version_first = refl;
  version_second = refl;
  differ = λ e. (let no : 1 ≡ 0 = sym keeps_pixel ∙ e ∙ has_fill in absurd (omega (arith, no)));
}

pub hidden_example : IsHiddenExample (profile_of Sd)
hidden_example = record {
  script = script;
  sets = sets;
  plan = is_plan;
  page = 1;
  differ = record {
    contents = contents;
    said = all_said;
    last = 2;
    last_set = now;
    is_last = refl;
    entry = 2;
    later = omega arith;
    entry_set = third_set;
    is_entry = refl;
    acquisition = refl;
    region = 0;
    x = 0;
    y = 0;
    otherwise = differ_hidden;
  };
}
