-- A script with one record more, none of which has a part up to a horizon, goes on above it.
use Rattle.std.proofs.Common.{◌≡◌, ◌∙◌, inl, inr, refl, sym, ap, subst, ℕ, zero, suc, ◌+◌, ◌*◌, ◌<◌, Bool, false, List, [], ◌∷◌, ◌++◌, length, get_or, find, All, Option, Some, None, option_map, arith, length-append}
use Rattle.std.specs.List.{flat_map}
use Rattle.std.proofs.lemmas.List.{append-nil, get_or-append-add}
use Rattle.bitmap_font.specs.Font.{FontValue}
use Rattle.sub_base.specs.Picture.{Picture}
use Rattle.sub_base.specs.declared.pace.TheConstants.{SECOND}
use Rattle.cue_records.specs.CellFaults.{value_at}
use Rattle.cue_records.specs.Cells.{cell_at}
use Rattle.cue_list.specs.Drawn.{Brings}
use Rattle.cue_list.specs.Past.{colours_in, cue_by, cue_with, cues_in, ended_epochs, epoch_of, heads_in, last_epoch, number_in, place_named, regions_in, with_last}
use Rattle.cue_records.specs.Records.{Record, is}
use Rattle.cue_records.specs.RowValues.{colour_in, placing_in, region_in}
use Rattle.cue_records.specs.Rows.{Row}
use Rattle.cue_list.specs.ScriptRows.{AreDrawn, Lists}
use Rattle.cue_list.specs.Sound.{ticks_of, ticks_of_cue}
use Rattle.cue_list.specs.declared.epoch.Cue.{Cue}
use Rattle.cue_list.specs.declared.epoch.Epoch.{Epoch}
use Rattle.cue_records.specs.declared.row_kind.RowKind.{RowKind}
use Rattle.cue_records.specs.declared.row_kind.RowKind.TheVariants as kinds
use Rattle.cue_list.specs.declared.script.Script.{Script}
use Rattle.cue_list.proofs.OneScript.{one_drawn}
use Rattle.grown_script_laws.specs.Growth.{AreAbove, EpochGrows, EpochsGrow, Grows}
use Rattle.page_epoch.proofs.ListLaws.{All-none, All-one}
use Rattle.page_epoch.proofs.SoundLaws.{plain}

-- ---- epochs that go on

-- an epoch is itself one that goes on
grows_itself : (horizon : ℕ) (epoch : Epoch) → EpochGrows horizon epoch epoch
grows_itself horizon epoch = record {
  start = refl;
  row = refl;
  regions = inl refl;
  more_cues = [];
  cues = sym (append-nil epoch.cues);
  cues_above = All-none (λ tick. horizon < tick);
  more_colours = [];
  colours = sym (append-nil epoch.colours);
  colours_above = All-none (λ tick. horizon < tick);
}

pub grow_themselves : (horizon : ℕ) (epochs : List Epoch) → EpochsGrow horizon epochs epochs
grow_themselves horizon [] = All-none (λ tick. horizon < tick)
grow_themselves horizon (epoch ∷ epochs) = (grows_itself horizon epoch, grow_themselves horizon epochs)

-- one epoch more, above the horizon
one_more : (horizon : ℕ) (epochs : List Epoch) (epoch : Epoch) → AreAbove horizon (ticks_of epoch)
    → EpochsGrow horizon epochs (epochs ++ epoch ∷ [])
one_more horizon [] epoch above = subst (AreAbove horizon) (sym (append-nil (ticks_of epoch))) above
one_more horizon (first ∷ epochs) epoch above = (grows_itself horizon first, one_more horizon epochs epoch above)

last_grows : (horizon : ℕ) (ended : List Epoch) (old new : Epoch) → EpochGrows horizon old new
    → EpochsGrow horizon (ended ++ old ∷ []) (ended ++ new ∷ [])
last_grows horizon [] old new grows = (grows, All-none (λ tick. horizon < tick))
last_grows horizon (first ∷ ended) old new grows =
    (grows_itself horizon first, last_grows horizon ended old new grows)

-- what holds of each item holds of the last one
all_last : {X : Type 0} (P : X → Type 0) (xs : List X) (x : X) → All P (xs ++ x ∷ []) → P x
all_last P xs x each =
    let within : length xs < length (xs ++ x ∷ []) = omega (arith, length-append xs (x ∷ [])) in
    let place : length xs ≡ length xs + 0 = omega arith in
    subst P (ap (λ (n : ℕ). get_or (xs ++ x ∷ []) n x) place ∙ get_or-append-add xs (x ∷ []) 0 x)
    (each (length xs) x within)

-- the last epoch goes on, where there is one
found_grows : (horizon : ℕ) (P : Epoch → Type 0) (ended : List Epoch) (found : Option Record)
    (old new : Record → Epoch)
    → ((one : Record) → found ≡ Some one → P (new one) → EpochGrows horizon (old one) (new one))
    → All P (with_last ended (option_map new found))
    → EpochsGrow horizon (with_last ended (option_map old found)) (with_last ended (option_map new found))
found_grows horizon P ended None old new grows each = grow_themselves horizon ended
found_grows horizon P ended (Some one) old new grows each =
    last_grows horizon ended (old one) (new one) (grows one refl (all_last P ended (new one) each))

-- each cue ends behind its start
abbrev Lasts : Epoch → Type 0
Lasts epoch = All (λ (cue : Cue). cue.start < cue.end) epoch.cues

-- ---- one record more

abbrev pub row_with : RowKind → ℕ → Row → Record
row_with kind number cells = record { number = number; kind = kind; cells = cells }

-- the first tick that a record has a part in, behind these
abbrev pub start_of : RowKind → Row → Option Epoch → Option ℕ
start_of kinds.Epoch cells epoch = Some (value_at cells 1)
start_of kinds.Place cells epoch = Some (value_at cells 1)
start_of kinds.Cue cells epoch = Some (value_at cells 1)
start_of kinds.Colour cells epoch = Some (value_at cells 1)
start_of kinds.Region cells epoch = option_map (λ (one : Epoch). one.start) epoch
start_of _ cells epoch = None

-- it lies above the horizon
abbrev pub IsLate : ℕ → Option ℕ → Type 0
IsLate horizon first = (tick : ℕ) → first ≡ Some tick → horizon < tick

-- origin, display and refresh
abbrev pub IsHead : RowKind → Type 0
IsHead kinds.Origin = Unit {0}
IsHead kinds.Display = Unit {0}
IsHead kinds.Refresh = Unit {0}
IsHead _ = ⊥

cue_above : (horizon : ℕ) (cue : Cue) → horizon < cue.start → cue.start < cue.end
    → AreAbove horizon (flat_map ticks_of_cue (cue ∷ []))
cue_above horizon cue above lasts zero d within = above
cue_above horizon cue above lasts (suc zero) d within = omega (arith, above, lasts)
cue_above horizon cue above lasts (suc (suc k)) d within = absurd (omega (arith, within))

-- a cue more, or none
cue_more : (horizon number : ℕ) (cells : Row) (cues : List Cue) (cue : Option Cue)
    → ((one : Cue) → cue ≡ Some one → horizon < one.start)
    → All (λ (cue : Cue). cue.start < cue.end) (with_last cues cue)
    → (more : List Cue) × (with_last cues cue ≡ cues ++ more) × AreAbove horizon (flat_map ticks_of_cue more)
cue_more horizon number cells cues None above lasts =
    ([], sym (append-nil cues), All-none (λ tick. horizon < tick))
cue_more horizon number cells cues (Some one) above lasts = (
  one ∷ [],
  refl,
  cue_above horizon one (above one refl)
      (all_last (λ (cue : Cue). cue.start < cue.end) cues one lasts),
)

-- the cue of a record starts at the record's tick
named_start : (horizon number : ℕ) (cells : Row) (place : Option ℕ) (through : Bool) (one : Cue)
    → horizon < value_at cells 1
    → option_map (λ place. cue_with number cells place through) place ≡ Some one → horizon < one.start
unfolding placing_in
named_start horizon number cells None through one above same = absurd (let never : None ≡ Some one = same in cc)
named_start horizon number cells (Some place) through one above same =
    let cue : cue_with number cells place through ≡ one =
    let some : Some (cue_with number cells place through) ≡ Some one = same in cc in
    subst (λ (cue : Cue). horizon < cue.start) cue above

-- an epoch with a cue more
epoch_with_cue : (horizon number : ℕ) (cells : Row) (old new : Epoch) (cue : Option Cue)
    → new.start ≡ old.start → new.row ≡ old.row → new.regions ≡ old.regions → new.colours ≡ old.colours
    → new.cues ≡ with_last old.cues cue → ((one : Cue) → cue ≡ Some one → horizon < one.start) → Lasts new
    → EpochGrows horizon old new
epoch_with_cue horizon number cells old new cue start line regions colours cues above lasts =
    let more = cue_more horizon number cells old.cues cue above
    (subst (λ (cues : List Cue). All (λ (cue : Cue). cue.start < cue.end) cues) cues lasts) in
    record {
      start = start;
      row = line;
      regions = inl regions;
      more_cues = more.0;
      cues = cues ∙ more.1;
      cues_above = more.2;
      more_colours = [];
      colours = colours ∙ sym (append-nil old.colours);
      colours_above = All-none (λ tick. horizon < tick);
    }

-- epochs behind one record more
epochs_grow_by : (horizon : ℕ) (font : FontValue) (earlier : List Record) (kind : RowKind) (number : ℕ) (cells : Row)
    → (IsHead kind → ⊥) → IsLate horizon (start_of kind cells (last_epoch font earlier))
    → All Lasts (with_last (ended_epochs font (row_with kind number cells ∷ earlier))
    (last_epoch font (row_with kind number cells ∷ earlier)))
    → EpochsGrow horizon (with_last (ended_epochs font earlier) (last_epoch font earlier))
    (with_last (ended_epochs font (row_with kind number cells ∷ earlier))
    (last_epoch font (row_with kind number cells ∷ earlier)))
unfolding colour_in region_in
epochs_grow_by horizon font earlier kinds.Origin number cells no_head late lasts = absurd (no_head tt)
epochs_grow_by horizon font earlier kinds.Display number cells no_head late lasts = absurd (no_head tt)
epochs_grow_by horizon font earlier kinds.Refresh number cells no_head late lasts = absurd (no_head tt)
epochs_grow_by horizon font earlier kinds.Epoch number cells no_head late lasts =
    let first = row_with kinds.Epoch number cells in
    one_more horizon (with_last (ended_epochs font earlier) (last_epoch font earlier))
    (epoch_of font (first ∷ earlier) first)
    (All-one (λ tick. horizon < tick) (value_at cells 1) (late (value_at cells 1) refl))
epochs_grow_by horizon font earlier kinds.Region number cells no_head late lasts =
    let next = row_with kinds.Region number cells in
    found_grows horizon Lasts (ended_epochs font earlier) (find (is kinds.Epoch) earlier) (epoch_of font earlier)
    (epoch_of font (next ∷ earlier))
    (λ one found last. record {
      start = refl;
      row = refl;
      regions = inr (late (value_at one.cells 1)
          (ap (λ (there : Option Record). option_map (λ (epoch : Epoch). epoch.start)
          (option_map (epoch_of font earlier) there)) found));
      more_cues = [];
      cues = sym (append-nil (cues_in font earlier));
      cues_above = All-none (λ tick. horizon < tick);
      more_colours = [];
      colours = sym (append-nil (colours_in earlier));
      colours_above = All-none (λ tick. horizon < tick);
    }) lasts
epochs_grow_by horizon font earlier kinds.Colour number cells no_head late lasts =
    let next = row_with kinds.Colour number cells in
    found_grows horizon Lasts (ended_epochs font earlier) (find (is kinds.Epoch) earlier) (epoch_of font earlier)
    (epoch_of font (next ∷ earlier))
    (λ one found last. record {
      start = refl;
      row = refl;
      regions = inl refl;
      more_cues = [];
      cues = sym (append-nil (cues_in font earlier));
      cues_above = All-none (λ tick. horizon < tick);
      more_colours = colour_in number cells ∷ [];
      colours = refl;
      colours_above = All-one (λ tick. horizon < tick) (value_at cells 1) (late (value_at cells 1) refl);
    }) lasts
epochs_grow_by horizon font earlier kinds.Picture number cells no_head late lasts =
    grow_themselves horizon (with_last (ended_epochs font earlier) (last_epoch font earlier))
epochs_grow_by horizon font earlier kinds.Place number cells no_head late lasts =
    let next = row_with kinds.Place number cells in
    let named = place_named font earlier in
    let count = length (heads_in font earlier) in
    found_grows horizon Lasts (ended_epochs font earlier) (find (is kinds.Epoch) earlier) (epoch_of font earlier)
    (epoch_of font (next ∷ earlier))
    (λ one found last. epoch_with_cue horizon number cells (epoch_of font earlier one)
    (epoch_of font (next ∷ earlier) one) (cue_by named count kinds.Place number cells) refl refl refl refl refl
    (λ cue same. named_start horizon number cells (named (cell_at cells 7)) _ cue (late (value_at cells 1) refl) same)
    last) lasts
epochs_grow_by horizon font earlier kinds.Cue number cells no_head late lasts =
    let next = row_with kinds.Cue number cells in
    let named = place_named font earlier in
    let count = length (heads_in font earlier) in
    found_grows horizon Lasts (ended_epochs font earlier) (find (is kinds.Epoch) earlier) (epoch_of font earlier)
    (epoch_of font (next ∷ earlier))
    (λ one found last. epoch_with_cue horizon number cells (epoch_of font earlier one)
    (epoch_of font (next ∷ earlier) one) (cue_by named count kinds.Cue number cells) refl refl refl refl refl
    (λ cue same. named_start horizon number cells (Some count) false cue (late (value_at cells 1) refl) same)
    last) lasts
epochs_grow_by horizon font earlier kinds.Other number cells no_head late lasts =
    grow_themselves horizon (with_last (ended_epochs font earlier) (last_epoch font earlier))

-- ---- pictures

-- pictures that a record brings come behind the others
brought_more : (font : FontValue) (earlier : List Record) (kind : RowKind) (cells : Row) (old new : List Picture)
    → Brings font (regions_in earlier) kind cells old new → (more : List Picture) × (new ≡ old ++ more)
brought_more font earlier kinds.Origin cells old new same = ([], same ∙ sym (append-nil old))
brought_more font earlier kinds.Display cells old new same = ([], same ∙ sym (append-nil old))
brought_more font earlier kinds.Refresh cells old new same = ([], same ∙ sym (append-nil old))
brought_more font earlier kinds.Epoch cells old new same = ([], same ∙ sym (append-nil old))
brought_more font earlier kinds.Region cells old new same = ([], same ∙ sym (append-nil old))
brought_more font earlier kinds.Colour cells old new same = ([], same ∙ sym (append-nil old))
brought_more font earlier kinds.Picture cells old new brings = (brings.picture ∷ [], brings.added)
brought_more font earlier kinds.Place cells old new same = ([], same ∙ sym (append-nil old))
brought_more font earlier kinds.Cue cells old new brings = (brings.picture ∷ [], brings.added)
brought_more font earlier kinds.Other cells old new same = ([], same ∙ sym (append-nil old))

pictures_grow : (font : FontValue) (earlier : List Record) (next : Record) (old new : List Picture)
    → AreDrawn font earlier old → AreDrawn font (next ∷ earlier) new → (more : List Picture) × (new ≡ old ++ more)
pictures_grow font earlier next old new drawn (before, again, brings) =
    let same : before ≡ old = one_drawn font earlier before old again drawn in
    let added = brought_more font earlier next.kind next.cells before new brings in
    (added.0, added.1 ∙ ap (λ (pictures : List Picture). pictures ++ added.0) same)

-- ---- the first records

-- a number of a head's record stays
head_stays : (head kind : RowKind) (place number : ℕ) (cells : Row) (earlier : List Record) → IsHead head
    → (IsHead kind → ⊥)
    → number_in head place (row_with kind number cells ∷ earlier) ≡ number_in head place earlier
head_stays kinds.Origin kinds.Origin place number cells earlier is_head no_head = absurd (no_head tt)
head_stays kinds.Origin kinds.Display place number cells earlier is_head no_head = absurd (no_head tt)
head_stays kinds.Origin kinds.Refresh place number cells earlier is_head no_head = absurd (no_head tt)
head_stays kinds.Origin kinds.Epoch place number cells earlier is_head no_head = refl
head_stays kinds.Origin kinds.Region place number cells earlier is_head no_head = refl
head_stays kinds.Origin kinds.Colour place number cells earlier is_head no_head = refl
head_stays kinds.Origin kinds.Picture place number cells earlier is_head no_head = refl
head_stays kinds.Origin kinds.Place place number cells earlier is_head no_head = refl
head_stays kinds.Origin kinds.Cue place number cells earlier is_head no_head = refl
head_stays kinds.Origin kinds.Other place number cells earlier is_head no_head = refl
head_stays kinds.Display kinds.Origin place number cells earlier is_head no_head = absurd (no_head tt)
head_stays kinds.Display kinds.Display place number cells earlier is_head no_head = absurd (no_head tt)
head_stays kinds.Display kinds.Refresh place number cells earlier is_head no_head = absurd (no_head tt)
head_stays kinds.Display kinds.Epoch place number cells earlier is_head no_head = refl
head_stays kinds.Display kinds.Region place number cells earlier is_head no_head = refl
head_stays kinds.Display kinds.Colour place number cells earlier is_head no_head = refl
head_stays kinds.Display kinds.Picture place number cells earlier is_head no_head = refl
head_stays kinds.Display kinds.Place place number cells earlier is_head no_head = refl
head_stays kinds.Display kinds.Cue place number cells earlier is_head no_head = refl
head_stays kinds.Display kinds.Other place number cells earlier is_head no_head = refl
head_stays kinds.Refresh kinds.Origin place number cells earlier is_head no_head = absurd (no_head tt)
head_stays kinds.Refresh kinds.Display place number cells earlier is_head no_head = absurd (no_head tt)
head_stays kinds.Refresh kinds.Refresh place number cells earlier is_head no_head = absurd (no_head tt)
head_stays kinds.Refresh kinds.Epoch place number cells earlier is_head no_head = refl
head_stays kinds.Refresh kinds.Region place number cells earlier is_head no_head = refl
head_stays kinds.Refresh kinds.Colour place number cells earlier is_head no_head = refl
head_stays kinds.Refresh kinds.Picture place number cells earlier is_head no_head = refl
head_stays kinds.Refresh kinds.Place place number cells earlier is_head no_head = refl
head_stays kinds.Refresh kinds.Cue place number cells earlier is_head no_head = refl
head_stays kinds.Refresh kinds.Other place number cells earlier is_head no_head = refl
head_stays kinds.Epoch kind place number cells earlier is_head no_head = absurd is_head
head_stays kinds.Region kind place number cells earlier is_head no_head = absurd is_head
head_stays kinds.Colour kind place number cells earlier is_head no_head = absurd is_head
head_stays kinds.Picture kind place number cells earlier is_head no_head = absurd is_head
head_stays kinds.Place kind place number cells earlier is_head no_head = absurd is_head
head_stays kinds.Cue kind place number cells earlier is_head no_head = absurd is_head
head_stays kinds.Other kind place number cells earlier is_head no_head = absurd is_head

-- ---- scripts

-- these records list the script's values
abbrev pub ListsScript : FontValue → List Record → Script → Type 0
ListsScript font rows script =
    Lists font rows script.origin script.width script.height script.refresh script.epochs script.pictures

-- a script with a record more goes on above a horizon that the record's first tick lies above
pub script_grows : (horizon : ℕ) (font : FontValue) (earlier : List Record) (next : Record) (old new : Script)
    → (IsHead next.kind → ⊥) → IsLate horizon (start_of next.kind next.cells (last_epoch font earlier))
    → ListsScript font earlier old → ListsScript font (next ∷ earlier) new → Grows horizon old new
script_grows horizon font earlier next old new no_head late was is =
    let usual = plain new.origin new.width new.height new.refresh new.epochs new.pictures new.sound in
    let listed = subst (λ (epochs : List Epoch). All Lasts epochs) is.epochs_are usual.lasting in
    let grown = epochs_grow_by horizon font earlier next.kind next.number next.cells no_head late listed in
    let drawn = pictures_grow font earlier next old.pictures new.pictures was.pictures_are is.pictures_are in
    let From : List Epoch → Type 0 = λ epochs. EpochsGrow horizon epochs new.epochs in
    let stays = λ (head : RowKind) (place : ℕ) (is_head : IsHead head).
    head_stays head next.kind place next.number next.cells earlier is_head no_head in
    record {
      origin = is.origin_is ∙ stays kinds.Origin 1 tt ∙ sym was.origin_is;
      width = is.width_is ∙ stays kinds.Display 1 tt ∙ sym was.width_is;
      height = is.height_is ∙ stays kinds.Display 2 tt ∙ sym was.height_is;
      refresh = is.refresh_is ∙ ap (λ (n : ℕ). SECOND * n) (stays kinds.Refresh 1 tt) ∙ sym was.refresh_is;
      more_pictures = drawn.0;
      pictures = drawn.1;
      epochs = subst From (sym was.epochs_are)
          (subst (EpochsGrow horizon (with_last (ended_epochs font earlier) (last_epoch font earlier)))
          (sym is.epochs_are) grown);
    }

-- two scripts of the same records go on as each other, above any horizon
pub same_script_grows : (horizon : ℕ) (font : FontValue) (rows : List Record) (old new : Script)
    → ListsScript font rows old → ListsScript font rows new → Grows horizon old new
same_script_grows horizon font rows old new was is = record {
  origin = is.origin_is ∙ sym was.origin_is;
  width = is.width_is ∙ sym was.width_is;
  height = is.height_is ∙ sym was.height_is;
  refresh = is.refresh_is ∙ sym was.refresh_is;
  more_pictures = [];
  pictures = one_drawn font rows new.pictures old.pictures is.pictures_are was.pictures_are
      ∙ sym (append-nil old.pictures);
  epochs = subst (EpochsGrow horizon old.epochs) (was.epochs_are ∙ sym is.epochs_are)
      (grow_themselves horizon old.epochs);
}
