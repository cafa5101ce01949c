-- One more valid record keeps what is true of a script's values.
use Rattle.std.proofs.Common.{◌≡◌, ◌∙◌, refl, sym, ap, subst, ℕ, ◌+◌, ◌<◌, ◌≤◌, ◌==◌, Bool, true, false, not, if◌then◌else◌, nat_lt, nat_le, List, [], ◌∷◌, ◌++◌, length, chars, sum_by, Option, Some, None, is_some, option_map, arith}
use Rattle.std.specs.Prelude.{slice_get}
use Rattle.std.specs.List.{list_any}
use Rattle.std.proofs.lemmas.Bool.Decides.{nat_tests}
use Rattle.bitmap_font.specs.Font.{FontValue}
use Rattle.cue_records.specs.declared.limits.TheConstants.{LONGEST_SCRIPT}
use Rattle.cue_list.specs.declared.epoch.Cue.{Cue}
use Rattle.cue_list.specs.declared.epoch.Epoch.{Epoch}
use Rattle.cue_records.specs.declared.region.Region.{Region}
use Rattle.cue_records.specs.declared.row_values.PictureHead.{PictureHead}
use Rattle.cue_records.specs.declared.row_kind.RowKind.TheVariants as kinds
use Rattle.cue_records.specs.CellFaults.{value_at, number_fault, placing_cells, place_cells, cue_cells, epoch_cells, display_cells, refresh_cells}
use Rattle.cue_records.specs.Cells.{cell_at}
use Rattle.cue_list.specs.Past.{ScriptPast, is_close, region_with, head_by, cue_by, cue_with, with_last}
use Rattle.cue_list.specs.RowFaults.{is_used, is_early, head_at, regions_of}
use Rattle.cue_records.specs.Regions.{share_row, has_room_at}
use Rattle.cue_records.specs.RowValues.{region_in, colour_in, head_in, placing_in, is_through}
use Rattle.cue_records.specs.Rows.{Row}
use Rattle.cue_list.specs.Sound.{IsTick}
use Rattle.cue_list.specs.Private.State.{next_with, with_region, with_colour, with_cue}
use Rattle.cue_list.specs.TextSizes.{text_head}
use Rattle.cue_list.proofs.FactLaws.{IsValidRow, IsValidPlacing, number-range, epoch-valid, region-valid, colour-valid, place-valid, cue-valid}
use Rattle.cue_records.proofs.TestLaws.{passed, both-false}
use Rattle.cue_list.proofs.EpochLaws.{IsCueOf, epoch-region, epoch-colour, epoch-cue, region-cells, colour-row, tick-range, get-last}
use Rattle.cue_list.proofs.PastLaws.{row_with}
use Rattle.cue_list.proofs.SoundLaws.{EpochFacts, EpochFacts-none, EpochFacts-new, EpochFacts-changed, EpochFacts-heads, TickFacts, TickFacts-new, TickFacts-same, TickFacts-colour, TickFacts-cue, colours_of, cues_of, in_last, sum-last, length-push}

-- what is true of what is found by looking back over valid records that name these ticks
pub record SoundPast (past : ScriptPast) (ticks : List ℕ) : Type 0 where
  pub display : 2 ≤ past.rows → (1 ≤ past.width) × (past.width ≤ 1920) × (1 ≤ past.height)
      × (past.height ≤ 1080)
  pub refresh : 3 ≤ past.rows → (1 ≤ past.seconds) × (past.seconds ≤ 60)
  pub late : is_some past.epoch ≡ true → 3 ≤ past.rows
  pub epochs : EpochFacts past.origin past.width past.height past.heads past.ended past.epoch
  pub ticks_named : TickFacts past.ended past.epoch ticks
  pub few : length past.ended + in_last (λ _. 1) past.epoch ≤ 512
  pub colours_counted : sum_by colours_of past.ended + in_last colours_of past.epoch ≤ past.colours
  pub cues_counted : sum_by cues_of past.ended + in_last cues_of past.epoch ≤ past.cues

-- ---- small facts

is-same : (a b : ℕ) → not (a == b) ≡ false → a ≡ b
is-same a b h = grind (arith, nat_tests)

not-less : (a b : ℕ) → nat_lt a b ≡ false → b ≤ a
not-less a b h = grind (arith, nat_tests)

not-least : (a b : ℕ) → nat_le a b ≡ false → b < a
not-least a b h = grind (arith, nat_tests)

pub given-epoch : (o : Option Epoch) → not (is_some o) ≡ false → (e : Epoch) × (o ≡ Some e)
given-epoch None h = absurd (let never : true ≡ false = h in cc)
given-epoch (Some e) h = (e, refl)

-- without an epoch yet
no-epoch : (o : Option Epoch) (rows : ℕ) → (is_some o ≡ true → 3 ≤ rows) → rows ≤ 2 → o ≡ None
no-epoch None rows late early = refl
no-epoch (Some e) rows late early = absurd (let three = late refl in omega arith)

-- the display and the refresh stand before the other records
later-display : (past : ScriptPast) (ticks : List ℕ) → SoundPast past ticks → 3 ≤ past.rows → (1 ≤ past.width)
    × (past.width ≤ 1920) × (1 ≤ past.height) × (past.height ≤ 1080)
later-display past ticks sound three = sound.display (omega arith)

-- a tick that is near none
far-from : (past : ScriptPast) (ticks : List ℕ) (tick : ℕ)
    → ((t : ℕ) → past.is_near t ≡ list_any (is_close t) ticks) → past.is_near tick ≡ false
    → list_any (is_close tick) ticks ≡ false
far-from past ticks tick near h = sym (near tick) ∙ h

-- ---- cues

named-place : (o : Option ℕ) (heads : List PictureHead) (head : PictureHead) → head_at heads o ≡ Some head
    → (k : ℕ) × (o ≡ Some k) × (slice_get heads k ≡ Some head)
named-place None heads head h = absurd (let never : None ≡ Some head = h in cc)
named-place (Some k) heads head h = (k, refl, h)

inside-region : (region : Region) (x y : ℕ) (head : PictureHead) → has_room_at region x y head ≡ true
    → (x + head.width ≤ region.width) × (y + head.height ≤ region.height)
inside-region region x y head h = (grind (arith, nat_tests), grind (arith, nat_tests))

placing-ticks : (origin : ℕ) (cells : Row) → placing_cells origin cells ≡ None
    → IsTick origin (placing_in cells).start × IsTick origin (placing_in cells).end
unfolding placing_cells placing_in
placing-ticks origin cells h =
    let start = passed (number_fault origin (origin + LONGEST_SCRIPT) (cell_at cells 1)) _ h in
    let end = passed (number_fault origin (origin + LONGEST_SCRIPT) (cell_at cells 2)) _ start.1 in
    (tick-range origin (cell_at cells 1) start.0, tick-range origin (cell_at cells 2) end.0)

placed-cue : (past : ScriptPast) (epoch : Epoch) (number k : ℕ) (cells : Row) (through : Bool) (region : Region)
    (head : PictureHead) (heads : List PictureHead) → past.epoch ≡ Some epoch
    → IsValidPlacing past (placing_in cells) region head → IsTick past.origin (placing_in cells).start
    × IsTick past.origin (placing_in cells).end → slice_get heads k ≡ Some head
    → IsCueOf past.origin epoch.start epoch.regions heads (cue_with number cells k through)
placed-cue past epoch number k cells through region head heads is placed ticks drawn =
    let sides = inside-region region (placing_in cells).x (placing_in cells).y head placed.inside in
    let span = placed.span in
    record {
      starts = ticks.0;
      ends = ticks.1;
      within = not-less _ _ (ap (is_early (placing_in cells).start) (sym is) ∙ span.within);
      lasts = not-least _ _ span.lasts;
      short = not-less _ _ span.short;
      region = region;
      found =
          ap (λ (o : Option Epoch). region_with (placing_in cells).region (regions_of o)) (sym is) ∙ placed.found;
      head = head;
      drawn = drawn;
      across = sides.0;
      down = sides.1;
      shallow = placed.shallow;
    }

-- ---- one record more, in the last epoch

changed-epoch : (past : ScriptPast) (change : Epoch → Epoch) (epoch : Epoch) → past.epoch ≡ Some epoch
    → option_map change past.epoch ≡ Some (change epoch)
changed-epoch past change epoch is = ap (option_map change) is

-- ---- each kind

pub sound-origin : (font : FontValue) (past : ScriptPast) (ticks : List ℕ) (number : ℕ) (cells : Row)
    → SoundPast past ticks → IsValidRow font past kinds.Origin number cells
    → SoundPast (next_with font past (row_with kinds.Origin number cells)) ticks
sound-origin font past ticks number cells sound row =
    let none : past.rows ≡ 0 = is-same past.rows 0 row.placed in
    let closed : past.epoch ≡ None = no-epoch past.epoch past.rows sound.late (omega arith) in
    record {
      display = λ two. absurd (omega arith);
      refresh = λ three. absurd (omega arith);
      late = λ some. let three = sound.late some in omega arith;
      epochs = EpochFacts-none _ _ _ _ _ _ (sound.epochs.first closed) closed;
      ticks_named = sound.ticks_named;
      few = sound.few;
      colours_counted = sound.colours_counted;
      cues_counted = sound.cues_counted;
    }

pub sound-display : (font : FontValue) (past : ScriptPast) (ticks : List ℕ) (number : ℕ) (cells : Row)
    → SoundPast past ticks → IsValidRow font past kinds.Display number cells
    → SoundPast (next_with font past (row_with kinds.Display number cells)) ticks
unfolding display_cells
sound-display font past ticks number cells sound row =
    let one : past.rows ≡ 1 = is-same past.rows 1 row.placed in
    let closed : past.epoch ≡ None = no-epoch past.epoch past.rows sound.late (omega arith) in
    let wide = passed (number_fault 1 1920 (cell_at cells 1)) _ row.cells_right in
    let high = passed (number_fault 1 1080 (cell_at cells 2)) [] wide.1 in
    let width = number-range 1 1920 (cell_at cells 1) wide.0 in
    let height = number-range 1 1080 (cell_at cells 2) high.0 in
    record {
      display = λ two. (width.0, width.1, height.0, height.1);
      refresh = λ three. absurd (omega arith);
      late = λ some. let three = sound.late some in omega arith;
      epochs = EpochFacts-none _ _ _ _ _ _ (sound.epochs.first closed) closed;
      ticks_named = sound.ticks_named;
      few = sound.few;
      colours_counted = sound.colours_counted;
      cues_counted = sound.cues_counted;
    }

pub sound-refresh : (font : FontValue) (past : ScriptPast) (ticks : List ℕ) (number : ℕ) (cells : Row)
    → SoundPast past ticks → IsValidRow font past kinds.Refresh number cells
    → SoundPast (next_with font past (row_with kinds.Refresh number cells)) ticks
unfolding refresh_cells
sound-refresh font past ticks number cells sound row =
    let two : past.rows ≡ 2 = is-same past.rows 2 row.placed in
    record {
      display = λ _. sound.display (omega arith);
      refresh = λ _. number-range 1 60 (cell_at cells 1) row.cells_right;
      late = λ some. let three = sound.late some in omega arith;
      epochs = sound.epochs;
      ticks_named = sound.ticks_named;
      few = sound.few;
      colours_counted = sound.colours_counted;
      cues_counted = sound.cues_counted;
    }

counted-epochs : (ended : List Epoch) (epoch : Option Epoch)
    → length (with_last ended epoch) ≡ length ended + in_last (λ _. 1) epoch
counted-epochs ended None = omega arith
counted-epochs ended (Some epoch) = length-push ended epoch

room-epochs : (ended : List Epoch) (epoch : Option Epoch)
    → nat_le 512 (length ended + (if is_some epoch then 1 else 0)) ≡ false
    → length ended + in_last (λ _. 1) epoch < 512
room-epochs ended None h = not-least _ _ h
room-epochs ended (Some epoch) h = not-least _ _ h

pub sound-epoch : (font : FontValue) (past : ScriptPast) (ticks : List ℕ) (number : ℕ) (cells : Row)
    → SoundPast past ticks → IsValidRow font past kinds.Epoch number cells
    → ((t : ℕ) → past.is_near t ≡ list_any (is_close t) ticks)
    → SoundPast (next_with font past (row_with kinds.Epoch number cells)) (value_at cells 1 ∷ ticks)
unfolding epoch_cells
sound-epoch font past ticks number cells sound row near =
    let three : 3 ≤ past.rows = not-less past.rows 3 row.placed in
    let tests = epoch-valid past (value_at cells 1) row.content in
    let tick = tick-range past.origin (cell_at cells 1) row.cells_right in
    let far = far-from past ticks (value_at cells 1) near tests.2 in
    let room = room-epochs past.ended past.epoch row.room in
    let many = counted-epochs past.ended past.epoch in
    let colours = sum-last colours_of past.ended past.epoch in
    let cues = sum-last cues_of past.ended past.epoch in
    let colours_before = sound.colours_counted in
    let cues_before = sound.cues_counted in
    record {
      display = λ _. later-display past ticks sound three;
      refresh = λ _. sound.refresh three;
      late = λ _. omega arith;
      epochs =
          EpochFacts-new past.origin past.width past.height (value_at cells 1) number past.heads past.ended past.epoch
          sound.epochs tick tests.0 tests.1;
      ticks_named = TickFacts-new past.ended past.epoch ticks (value_at cells 1) number sound.ticks_named far;
      few = omega arith;
      colours_counted = omega arith;
      cues_counted = omega arith;
    }

no-cues : (cues : List Cue) → nat_lt 0 (length cues) ≡ false → cues ≡ []
no-cues [] h = refl
no-cues (cue ∷ cues) h = absurd (let none = not-less 0 (length (cue ∷ cues)) h in omega arith)

unused : (epoch : Epoch) → is_used (Some epoch) ≡ false → epoch.cues ≡ []
unused epoch h = no-cues epoch.cues (both-false (nat_lt 0 (length epoch.colours)) (nat_lt 0 (length epoch.cues)) h).1

pub sound-region : (font : FontValue) (past : ScriptPast) (ticks : List ℕ) (number : ℕ) (cells : Row)
    → SoundPast past ticks → IsValidRow font past kinds.Region number cells
    → SoundPast (next_with font past (row_with kinds.Region number cells)) ticks
sound-region font past ticks number cells sound row =
    let place = both-false (not (is_some past.epoch)) (is_used past.epoch) row.placed in
    let open_epoch = given-epoch past.epoch place.0 in
    let epoch = open_epoch.0 in
    let is : past.epoch ≡ Some epoch = open_epoch.1 in
    let three : 3 ≤ past.rows = sound.late (ap is_some is) in
    let region = region_in cells in
    let new_is : option_map (with_region region) past.epoch ≡ Some (with_region region epoch) =
    changed-epoch past (with_region region) epoch is in
    let tests = region-valid past region row.content in
    let regions : regions_of past.epoch ≡ epoch.regions = ap regions_of is in
    let few : length epoch.regions < 64 =
    not-least _ _ (ap (λ (o : Option Epoch). nat_le 64 (length (regions_of o))) (sym is) ∙ row.room) in
    let old : EpochFacts past.origin past.width past.height past.heads past.ended (Some epoch) =
    subst (EpochFacts past.origin past.width past.height past.heads past.ended) is sound.epochs in
    let better =
    epoch-region past.origin past.width past.height past.heads epoch region (old.last epoch refl)
    (region-cells cells row.cells_right) few (unused epoch (ap is_used (sym is) ∙ place.1))
    (ap (λ (rs : List Region). is_some (region_with region.id rs)) (sym regions) ∙ tests.0) tests.1
    (ap (list_any (share_row region)) (sym regions) ∙ tests.2) in
    let new : EpochFacts past.origin past.width past.height past.heads past.ended (Some (with_region region epoch)) =
    EpochFacts-changed past.origin past.width past.height past.heads past.ended epoch (with_region region epoch) old
    refl better in
    let ticks_old : TickFacts past.ended (Some epoch) ticks =
    subst (λ (o : Option Epoch). TickFacts past.ended o ticks) is sound.ticks_named in
    let count : (f : Epoch → ℕ) → f (with_region region epoch) ≡ f epoch
    → in_last f (option_map (with_region region) past.epoch)
    ≡ in_last f past.epoch = λ (f : Epoch → ℕ) same. ap (in_last f) new_is
    ∙ (same ∙ sym (ap (in_last f) is)) in
    let one = count (λ _. 1) refl in
    let colours = count colours_of refl in
    let cues = count cues_of refl in
    let few_before = sound.few in
    let colours_before = sound.colours_counted in
    let cues_before = sound.cues_counted in
    record {
      display = λ _. later-display past ticks sound three;
      refresh = λ _. sound.refresh three;
      late = λ _. omega arith;
      epochs = subst (EpochFacts past.origin past.width past.height past.heads past.ended) (sym new_is) new;
      ticks_named =
          subst (λ (o : Option Epoch). TickFacts past.ended o ticks) (sym new_is)
          (TickFacts-same past.ended epoch (with_region region epoch) ticks ticks_old refl);
      few = omega arith;
      colours_counted = omega arith;
      cues_counted = omega arith;
    }

pub sound-colour : (font : FontValue) (past : ScriptPast) (ticks : List ℕ) (number : ℕ) (cells : Row)
    → SoundPast past ticks → IsValidRow font past kinds.Colour number cells
    → ((t : ℕ) → past.is_near t ≡ list_any (is_close t) ticks)
    → SoundPast (next_with font past (row_with kinds.Colour number cells)) ((colour_in number cells).tick ∷ ticks)
sound-colour font past ticks number cells sound row near =
    let open_epoch = given-epoch past.epoch row.placed in
    let epoch = open_epoch.0 in
    let is : past.epoch ≡ Some epoch = open_epoch.1 in
    let three : 3 ≤ past.rows = sound.late (ap is_some is) in
    let colour = colour_in number cells in
    let new_is : option_map (with_colour colour) past.epoch ≡ Some (with_colour colour epoch) =
    changed-epoch past (with_colour colour) epoch is in
    let tests = colour-valid past colour row.content in
    let within : epoch.start ≤ colour.tick = not-less _ _ (ap (is_early colour.tick) (sym is) ∙ tests.1) in
    let far = far-from past ticks colour.tick near tests.2 in
    let old : EpochFacts past.origin past.width past.height past.heads past.ended (Some epoch) =
    subst (EpochFacts past.origin past.width past.height past.heads past.ended) is sound.epochs in
    let better =
    epoch-colour past.origin past.width past.height past.heads epoch colour (old.last epoch refl)
    (colour-row past.origin epoch.start number cells row.cells_right tests.0 within) in
    let new : EpochFacts past.origin past.width past.height past.heads past.ended (Some (with_colour colour epoch)) =
    EpochFacts-changed past.origin past.width past.height past.heads past.ended epoch (with_colour colour epoch) old
    refl better in
    let ticks_old : TickFacts past.ended (Some epoch) ticks =
    subst (λ (o : Option Epoch). TickFacts past.ended o ticks) is sound.ticks_named in
    let count : (f : Epoch → ℕ)
    → in_last f (option_map (with_colour colour) past.epoch)
    ≡ f (with_colour colour epoch) = λ (f : Epoch → ℕ). ap (in_last f) new_is in
    let before : (f : Epoch → ℕ) → in_last f past.epoch ≡ f epoch = λ (f : Epoch → ℕ). ap (in_last f) is in
    let one_more = length-push epoch.colours colour in
    let one = count (λ _. 1) in let one_old = before (λ _. 1) in
    let colours = count colours_of in let colours_old = before colours_of in
    let cues = count cues_of in let cues_old = before cues_of in
    let few_before = sound.few in
    let colours_before = sound.colours_counted in
    let cues_before = sound.cues_counted in
    record {
      display = λ _. later-display past ticks sound three;
      refresh = λ _. sound.refresh three;
      late = λ _. omega arith;
      epochs = subst (EpochFacts past.origin past.width past.height past.heads past.ended) (sym new_is) new;
      ticks_named =
          subst (λ (o : Option Epoch). TickFacts past.ended o (colour.tick ∷ ticks)) (sym new_is)
          (TickFacts-colour past.ended epoch colour ticks ticks_old far);
      few = omega arith;
      colours_counted = omega arith;
      cues_counted = omega arith;
    }

pub sound-picture : (font : FontValue) (past : ScriptPast) (ticks : List ℕ) (number : ℕ) (cells : Row)
    → SoundPast past ticks → IsValidRow font past kinds.Picture number cells
    → SoundPast (next_with font past (row_with kinds.Picture number cells)) ticks
sound-picture font past ticks number cells sound row =
    let three : 3 ≤ past.rows = not-less past.rows 3 row.placed in
    record {
      display = λ _. later-display past ticks sound three;
      refresh = λ _. sound.refresh three;
      late = λ _. omega arith;
      epochs =
          EpochFacts-heads past.origin past.width past.height past.heads (head_in cells ∷ []) past.ended past.epoch
          sound.epochs;
      ticks_named = sound.ticks_named;
      few = sound.few;
      colours_counted = sound.colours_counted;
      cues_counted = sound.cues_counted;
    }

-- a cue that is added to the last epoch, whose start and end are far from the ticks so far
pub sound-cue-with : (past new : ScriptPast) (ticks : List ℕ) (epoch : Epoch) (cue : Cue) (more : List PictureHead)
    → SoundPast past ticks → past.epoch ≡ Some epoch
    → new ≡ record past {
      rows = past.rows + 1;
      epoch = Some (with_cue (Some cue) epoch);
      cues = past.cues
          + 1;
      heads = past.heads ++ more;
      codes = new.codes;
      is_near = new.is_near;
    }
    → IsCueOf past.origin epoch.start epoch.regions (past.heads ++ more) cue
    → list_any (is_close cue.start) ticks ≡ false → list_any (is_close cue.end) ticks ≡ false
    → is_close cue.start cue.end ≡ false
    → SoundPast new (cue.start ∷ cue.end ∷ ticks)
sound-cue-with past new ticks epoch cue more sound is made right start_far end_far apart =
    let three : 3 ≤ past.rows = sound.late (ap is_some is) in
    let heads = past.heads ++ more in
    let old : EpochFacts past.origin past.width past.height heads past.ended (Some epoch) =
    subst (EpochFacts past.origin past.width past.height heads past.ended) is
    (EpochFacts-heads past.origin past.width past.height past.heads more past.ended past.epoch sound.epochs) in
    let better = epoch-cue past.origin past.width past.height heads epoch cue (old.last epoch refl) right in
    let new_epochs : EpochFacts past.origin past.width past.height heads past.ended (Some (with_cue (Some cue) epoch)) =
    EpochFacts-changed past.origin past.width past.height heads past.ended epoch (with_cue (Some cue) epoch) old
    refl better in
    let ticks_old : TickFacts past.ended (Some epoch) ticks =
    subst (λ (o : Option Epoch). TickFacts past.ended o ticks) is sound.ticks_named in
    let before : (f : Epoch → ℕ) → in_last f past.epoch ≡ f epoch = λ (f : Epoch → ℕ). ap (in_last f) is in
    let one_more = length-push epoch.cues cue in
    let one_old = before (λ _. 1) in
    let colours_old = before colours_of in
    let cues_old = before cues_of in
    let few_before = sound.few in
    let colours_before = sound.colours_counted in
    let cues_before = sound.cues_counted in
    subst (λ (p : ScriptPast). SoundPast p (cue.start ∷ cue.end ∷ ticks)) (sym made) (record {
      display = λ _. later-display past ticks sound three;
      refresh = λ _. sound.refresh three;
      late = λ _. omega arith;
      epochs = new_epochs;
      ticks_named = TickFacts-cue past.ended epoch cue ticks ticks_old start_far end_far apart;
      few = omega arith;
      colours_counted = omega arith;
      cues_counted = omega arith;
    })

append-none : {A : Type 0} (xs : List A) → xs ≡ xs ++ []
append-none [] = refl
append-none (x ∷ xs) = ap (λ ys. x ∷ ys) (append-none xs)

pub sound-place : (font : FontValue) (past : ScriptPast) (ticks : List ℕ) (number : ℕ) (cells : Row)
    → SoundPast past ticks → IsValidRow font past kinds.Place number cells
    → ((t : ℕ) → past.is_near t ≡ list_any (is_close t) ticks)
    → SoundPast (next_with font past (row_with kinds.Place number cells))
    ((placing_in cells).start ∷ (placing_in cells).end ∷ ticks)
unfolding place_cells
sound-place font past ticks number cells sound row near =
    let open_epoch = given-epoch past.epoch row.placed in
    let epoch = open_epoch.0 in
    let is : past.epoch ≡ Some epoch = open_epoch.1 in
    let cell_tests = passed (placing_cells past.origin cells) _ row.cells_right in
    let times = placing-ticks past.origin cells cell_tests.0 in
    let tests = place-valid past (placing_in cells) (cell_at cells 7) row.content in
    let region = tests.0 in
    let head = tests.1 in
    let placed = tests.3 in
    let place = named-place (past.named (cell_at cells 7)) past.heads head tests.2 in
    let cue = cue_with number cells place.0 (is_through cells) in
    let heads_same = append-none past.heads in
    let drawn = subst (λ (hs : List PictureHead). slice_get hs place.0 ≡ Some head) heads_same place.2 in
    let cue_is : cue_by past.named (length past.heads) kinds.Place number cells ≡ Some cue =
    ap (option_map (λ (k : ℕ). cue_with number cells k (is_through cells))) place.1 in
    let epoch_is : option_map (with_cue (cue_by past.named (length past.heads) kinds.Place number cells)) past.epoch
    ≡ Some (with_cue (Some cue) epoch) =
    ap (λ (c : Option Cue). option_map (with_cue c) past.epoch) cue_is ∙ ap (option_map (with_cue (Some cue))) is in
    let new = next_with font past (row_with kinds.Place number cells) in
    sound-cue-with past new ticks epoch cue [] sound is
    (λ i. record new { epoch = epoch_is i; heads = heads_same i })
    (placed-cue past epoch number place.0 cells (is_through cells) region head (past.heads ++ []) is placed times drawn)
    (far-from past ticks cue.start near placed.span.start_far) (far-from past ticks cue.end near placed.span.end_far)
    placed.span.apart

region-head : (font : FontValue) (regions : List Region) (cells : Row) (region : Region)
    → region_with (placing_in cells).region regions ≡ Some region
    → head_by font regions kinds.Cue cells ≡ Some (text_head font region.depth (chars (cell_at cells 8)))
unfolding placing_in
region-head font regions cells region found =
    ap (option_map (λ (r : Region). text_head font r.depth (chars (cell_at cells 8)))) found

pub sound-cue : (font : FontValue) (past : ScriptPast) (ticks : List ℕ) (number : ℕ) (cells : Row)
    → SoundPast past ticks → IsValidRow font past kinds.Cue number cells
    → ((t : ℕ) → past.is_near t ≡ list_any (is_close t) ticks)
    → SoundPast (next_with font past (row_with kinds.Cue number cells))
    ((placing_in cells).start ∷ (placing_in cells).end ∷ ticks)
unfolding cue_cells
sound-cue font past ticks number cells sound row near =
    let open_epoch = given-epoch past.epoch row.placed in
    let epoch = open_epoch.0 in
    let is : past.epoch ≡ Some epoch = open_epoch.1 in
    let cell_tests = passed (placing_cells past.origin cells) _ row.cells_right in
    let times = placing-ticks past.origin cells cell_tests.0 in
    let tests =
    cue-valid font past (placing_in cells) (value_at cells 6) (value_at cells 7) (chars (cell_at cells 8))
    row.content in
    let region = tests.0 in
    let placed = tests.1 in
    let head = text_head font region.depth (chars (cell_at cells 8)) in
    let cue = cue_with number cells (length past.heads) false in
    let head_is : head_by font (regions_of past.epoch) kinds.Cue cells ≡ Some head =
    region-head font (regions_of past.epoch) cells region placed.found in
    let heads_are : with_last past.heads (head_by font (regions_of past.epoch) kinds.Cue cells) ≡ past.heads ++ head
    ∷ [] = ap (with_last past.heads) head_is in
    let epoch_is : option_map (with_cue (Some cue)) past.epoch ≡ Some (with_cue (Some cue) epoch) =
    ap (option_map (with_cue (Some cue))) is in
    let new = next_with font past (row_with kinds.Cue number cells) in
    sound-cue-with past new ticks epoch cue (head ∷ []) sound is
    (λ i. record new { epoch = epoch_is i; heads = heads_are i })
    (placed-cue past epoch number (length past.heads) cells false region head (past.heads ++ head ∷ []) is placed
    times (get-last past.heads head))
    (far-from past ticks cue.start near placed.span.start_far) (far-from past ticks cue.end near placed.span.end_far)
    placed.span.apart
