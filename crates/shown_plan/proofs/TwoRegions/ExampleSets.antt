-- What a receiver reads of the sets of the script with two regions, on page 1.
use Rattle.std.proofs.Common.{◌≡◌, ℕ, zero, suc, ◌^◌, ◌<◌, Bool, true, false, nat_lt, List, [], ◌∷◌, ◌++◌, get_or, map, refl, sym, subst, arith, All}
use Rattle.std.specs.List.{AllByRecursion, AllZip, list_all}
use Rattle.std.proofs.lemmas.Bool.Decides.{nat_tests}
use Rattle.std.proofs.lemmas.List.Elements.{All-cons, All-from_recursion, All-head, All-nil, All-tail}
use Rattle.sub_base.specs.Depth.{code_count}
use Rattle.sub_base.specs.declared.depth.Depth.{Depth}
use Rattle.sub_base.specs.declared.depth.Depth.TheVariants.{Two, Eight}
use Rattle.stream_syntax.specs.FieldBlocks.{AreFieldBlocks, DrawsPicture, IsDrawnAs}
use Rattle.stream_syntax.specs.Fields.{Field, FitsFields, number, reserved}
use Rattle.stream_syntax.specs.PixelBlocks.{AreParts, IsNoDeeper, Part, line_end, runs_after, string}
use Rattle.stream_syntax.specs.PixelCodes.{IsCode, IsRowString, bits, bits_of, ending, pixel, spelled as spelled_code}
use Rattle.stream_syntax.specs.SegmentTests.{AreBlocks}
use Rattle.stream_syntax.specs.Segments.{HasShownColours, IsValid, IsWritable, SegmentValue, end_of_set, spelled, written_fields}
use Rattle.pixel_codes.proofs.RowStrings.{row_string}
use Rattle.pixel_codes.specs.Private.Least.{chosen_within, eight_none, eight_some, four_none, four_some, two_none, two_some}
use Rattle.pixel_codes.specs.Private.Rows.{codes_of, runs_of}
use Rattle.segments.proofs.Spellings.{written_segment}
use Rattle.page_epoch.specs.declared.planned_set.PlannedSet.{PlannedSet}
use Rattle.set_coder.specs.SetSegments.{IsObjectOf, leading_segments, object_segment}
use Rattle.decoder_model.specs.Readings.{AreObjectFields, AreReadings, Content, read}
use Rattle.shown_plan.specs.HiddenRegions.{IsSaid}
use Rattle.shown_plan.proofs.TwoRegions.Example.{epoch, picture, script}
use Rattle.shown_plan.proofs.TwoRegions.ExamplePlan.{first_set, last_set, second_set, sets, third_set}
use Rattle.shown_plan.proofs.Segments.ReadSets.{plain}

-- ---- the blocks of the picture

-- the string of a pixel of code 1
one_pixel : IsRowString Two (1 ∷ []) (0x40 ∷ [])
unfolding bits bits_of spelled_code ending codes_of runs_of chosen_within two_some two_none four_some four_none
    eight_some eight_none
one_pixel =
    let string =
    row_string Two (1 ∷ []) [] (0x40 ∷ []) 0
    (All-from_recursion (λ code. code < code_count Two) (1 ∷ []) (omega arith, tt)) small (0x40 ∷ [], refl)
    (omega arith)
    refl in
    subst (IsRowString Two (1 ∷ [])) (sym string.1) string.2
  where
    small : (i d : ℕ) → i < 1 → get_or (0x40 ∷ []) i d < 256
    small zero d inside = omega arith
    small (suc i) d inside = absurd (omega (arith, inside))

abbrev top : List ℕ
top = 0x10 ∷ 0x40 ∷ 0xF0 ∷ []

abbrev bottom : List ℕ
bottom = 0xF0 ∷ []

abbrev top_parts : List Part
top_parts = string Two (pixel 1 ∷ []) ∷ line_end ∷ []

abbrev bottom_parts : List Part
bottom_parts = line_end ∷ []

code_is : All (IsCode Two) (pixel 1 ∷ [])
code_is = All-from_recursion (IsCode Two) (pixel 1 ∷ []) ((omega arith, omega arith), tt)

top_is : (region : Depth) → IsNoDeeper Two region → AreParts region top_parts top
unfolding bits bits_of spelled_code ending
top_is region deep = (
  0x10 ∷ 0x40 ∷ [],
  0xF0 ∷ [],
  refl,
  (deep, 0x40 ∷ [], refl, record { each = code_is; fill = []; text = refl; short = omega arith }),
  (0xF0 ∷ [], [], refl, refl, refl),
)

bottom_is : (region : Depth) → AreParts region bottom_parts bottom
bottom_is region = (0xF0 ∷ [], [], refl, refl, refl)

top_drawn : IsDrawnAs Two top ((1 ∷ []) ∷ [])
top_drawn = record {
  runs = runs_after Two [] top_parts;
  block = record { parts = top_parts; whole = top_is Two (omega arith); drawn = refl };
  drawn = (runs_after Two [] top_parts, [], refl, (refl, refl, refl, [], refl, refl), refl);
}

bottom_drawn : IsDrawnAs Two bottom []
bottom_drawn = record {
  runs = [];
  block = record { parts = bottom_parts; whole = bottom_is Two; drawn = refl };
  drawn = refl;
}

blocks : AreFieldBlocks picture Two top bottom
blocks = record {
  top_block = (top, (top, [], refl, (0x40 ∷ [], one_pixel, refl), refl), refl);
  shared = λ equal. absurd (omega (arith, equal.even));
  own = λ differ. refl;
}

drawn : DrawsPicture picture Two top bottom
drawn = record {
  top_rows = top_drawn;
  shared = λ equal. absurd (omega (arith, equal.even));
  own = λ differ. bottom_drawn;
}

valid_blocks : AreBlocks top bottom
valid_blocks = record {
  top_runs = runs_after Eight [] top_parts;
  top_is = record { parts = top_parts; whole = top_is Eight (omega arith); drawn = refl };
  bottom_runs = [];
  bottom_is = record { parts = bottom_parts; whole = bottom_is Eight; drawn = refl };
}

-- ---- segments and what is read of them

-- the object of the cue at a place
abbrev object_at : ℕ → SegmentValue
object_at place = object_segment place false top bottom

abbrev object_read : ℕ → Content
object_read place = record { value = object_at place; top = top_parts; bottom = bottom_parts }

first_object : IsObjectOf script.pictures epoch 0 (object_at 0)
first_object = record { top = top; bottom = bottom; blocks = blocks; drawn = drawn; value = refl }

second_object : IsObjectOf script.pictures epoch 1 (object_at 1)
second_object = record { top = top; bottom = bottom; blocks = blocks; drawn = drawn; value = refl }

-- a test of numbers against their rows
abbrev is_fit : Field → Bool
is_fit (number width n) = nat_lt n (2 ^ width)
is_fit (reserved width) = true

fits_if : (fields : List Field) → list_all is_fit fields ≡ true → FitsFields fields
fits_if [] fit = tt
fits_if (number width n ∷ fields) fit =
    (grind (arith, nat_tests, fit), fits_if fields (grind (arith, nat_tests, fit)))
fits_if (reserved width ∷ fields) fit = (tt, fits_if fields (grind (arith, nat_tests, fit)))

abbrev IsValidShown : SegmentValue → Type 0
IsValidShown value = IsValid value × HasShownColours value

writable_if : (values : List SegmentValue)
    → list_all (λ value. list_all is_fit (written_fields 1 value)) values ≡ true
    → AllByRecursion IsValidShown values → All (IsWritable 1) values
writable_if [] fit valid = All-nil (IsWritable 1)
writable_if (value ∷ values) fit valid =
    All-cons (IsWritable 1) value values
    (record {
      fits = fits_if (written_fields 1 value) (grind (arith, nat_tests, fit));
      valid = valid.0.0;
      shown = valid.0.1;
    })
    (writable_if values (grind (arith, nat_tests, fit)) valid.1)

abbrev values_of : List Content → List SegmentValue
values_of contents = map (λ (content : Content). content.value) contents

abbrev HasFields : Content → Type 0
HasFields content = AreObjectFields content.value content.top content.bottom

-- what can be written is read
all_read : (contents : List Content) → All (IsWritable 1) (values_of contents) → AllByRecursion HasFields contents
    → AreReadings (map (spelled 1) (values_of contents)) (map read contents)
all_read [] written fields = tt
all_read (content ∷ contents) written fields = (
  record {
    segment =
        written_segment 1 content.value (All-head (IsWritable 1) content.value (values_of contents) written);
    fields = fields.0;
  },
  all_read contents (All-tail (IsWritable 1) content.value (values_of contents) written) fields.1,
)

-- a set of such objects
abbrev values_in : PlannedSet → List ℕ → List SegmentValue
values_in set places = leading_segments script epoch set ++ (map object_at places ++ end_of_set ∷ [])

abbrev pub contents_in : PlannedSet → List ℕ → List Content
contents_in set places =
    map plain (leading_segments script epoch set) ++ (map object_read places ++ plain end_of_set ∷ [])

first_written : All (IsWritable 1) (values_in first_set (0 ∷ 1 ∷ []))
first_written = writable_if (values_in first_set (0 ∷ 1 ∷ [])) refl (
  ((omega arith, omega arith, tt), tt),
  (
    (tt, tt),
    (
      ((omega arith, omega arith), tt),
      (((omega arith, omega arith), tt), ((valid_blocks, tt), ((valid_blocks, tt), ((tt, tt), tt)))),
    ),
  ),
)

pub first_said : IsSaid script 1 first_set (contents_in first_set (0 ∷ 1 ∷ []))
first_said = record {
  segments = values_in first_set (0 ∷ 1 ∷ []);
  are = record {
    epoch = epoch;
    found = refl;
    objects = object_at 0 ∷ object_at 1 ∷ [];
    drawn = (first_object, (second_object, tt));
    fit = first_written;
    whole = refl;
  };
  read_as = all_read (contents_in first_set (0 ∷ 1 ∷ [])) first_written (
    (refl, refl),
    (
      (refl, refl),
      (
        (refl, refl),
        (
          (refl, refl),
          (
            (top_is Eight (omega arith), bottom_is Eight),
            ((top_is Eight (omega arith), bottom_is Eight), ((refl, refl), tt)),
          ),
        ),
      ),
    ),
  );
}

second_written : All (IsWritable 1) (values_in second_set [])
second_written = writable_if (values_in second_set []) refl ((tt, tt), ((tt, tt), tt))

pub second_said : IsSaid script 1 second_set (contents_in second_set [])
second_said = record {
  segments = values_in second_set [];
  are = record {
    epoch = epoch;
    found = refl;
    objects = [];
    drawn = tt;
    fit = second_written;
    whole = refl;
  };
  read_as = all_read (contents_in second_set []) second_written ((refl, refl), ((refl, refl), tt));
}

third_written : All (IsWritable 1) (values_in third_set (1 ∷ []))
third_written = writable_if (values_in third_set (1 ∷ [])) refl (
  ((omega arith, omega arith, tt), tt),
  (
    (tt, tt),
    (
      ((omega arith, omega arith), tt),
      (((omega arith, omega arith), tt), ((valid_blocks, tt), ((tt, tt), tt))),
    ),
  ),
)

pub third_said : IsSaid script 1 third_set (contents_in third_set (1 ∷ []))
third_said = record {
  segments = values_in third_set (1 ∷ []);
  are = record {
    epoch = epoch;
    found = refl;
    objects = object_at 1 ∷ [];
    drawn = (second_object, tt);
    fit = third_written;
    whole = refl;
  };
  read_as = all_read (contents_in third_set (1 ∷ [])) third_written (
    (refl, refl),
    (
      (refl, refl),
      ((refl, refl), ((refl, refl), ((top_is Eight (omega arith), bottom_is Eight), ((refl, refl), tt)))),
    ),
  );
}

last_written : All (IsWritable 1) (values_in last_set [])
last_written = writable_if (values_in last_set []) refl ((tt, tt), ((tt, tt), tt))

pub last_said : IsSaid script 1 last_set (contents_in last_set [])
last_said = record {
  segments = values_in last_set [];
  are = record {
    epoch = epoch;
    found = refl;
    objects = [];
    drawn = tt;
    fit = last_written;
    whole = refl;
  };
  read_as = all_read (contents_in last_set []) last_written ((refl, refl), ((refl, refl), tt));
}

abbrev pub contents : List (List Content)
contents =
    contents_in first_set (0 ∷ 1 ∷ []) ∷ contents_in second_set [] ∷ contents_in third_set (1 ∷ [])
    ∷ contents_in last_set [] ∷ []

pub all_said : AllZip (IsSaid script 1) sets contents
all_said = (first_said, (second_said, (third_said, (last_said, tt))))
