-- The values of a valid script are sound.
use Rattle.std.proofs.Common.{zero, suc, ◌≡◌, ◌∙◌, inl, inr, refl, sym, ap, subst, ℕ, ◌+◌, ◌*◌, ◌<◌, ◌≤◌, ◌==◌, true, false, not, List, [], ◌∷◌, ◌++◌, length, map, get_or, sum_by, Option, Some, None, is_some, arith}
use Rattle.std.specs.Prelude.{All, slice_get}
use Rattle.std.specs.List.{list_any, flat_map}
use Rattle.std.proofs.lemmas.List.Quantifiers.{all_pairs_push}
use Rattle.std.proofs.lemmas.List.Sums.{sum_by-append}
use Rattle.sub_base.specs.Depth.{bits_of}
use Rattle.sub_base.specs.Picture.{Picture, IsPicture, picture_of}
use Rattle.sub_base.specs.declared.depth.Depth.TheVariants.{Two}
use Rattle.bitmap_font.specs.Font.{FontValue}
use Rattle.cue_list.specs.declared.epoch.Cue.{Cue}
use Rattle.cue_list.specs.declared.epoch.Epoch.{Epoch}
use Rattle.cue_records.specs.declared.region.Region.{Region}
use Rattle.cue_records.specs.declared.fault.ScriptKind.{ScriptKind}
use Rattle.cue_records.specs.declared.row_values.PictureHead.{PictureHead}
use Rattle.cue_list.specs.declared.reader.Reader.{Reader}
use Rattle.cue_records.specs.declared.row_kind.RowKind.{RowKind}
use Rattle.cue_records.specs.declared.row_kind.RowKind.TheVariants as kinds
use Rattle.cue_list.specs.Drawn.{Brings}
use Rattle.cue_records.specs.CellFaults.{fails, is_text_row}
use Rattle.cue_records.specs.declared.fault.ScriptKind.TheVariants as faults
use Rattle.cue_list.specs.Private.HasRead.{HasRead}
use Rattle.cue_list.specs.Past.{ScriptPast, is_close, looking_back, last_epoch, ticks_by, ticks_in, with_last, regions_in}
use Rattle.cue_records.specs.RowValues.{area, colour_in, placing_in}
use Rattle.cue_records.specs.Records.{Record, cells_of, records_of, records_before, record_at}
use Rattle.cue_list.specs.RowFaults.{fault_with, fault_of, shape_fault}
use Rattle.cue_records.specs.Rows.{Row}
use Rattle.cue_list.specs.ScriptRows.{AreValidRecords, AreDrawn, Lists, IsScript}
use Rattle.cue_list.specs.Authored.{picture_at_place}
use Rattle.cue_list.specs.Sound.{IsSoundScript, IsEpoch, IsCue, IsColourRow, IsRegion, Follows, ticks_of}
use Rattle.cue_list.specs.Private.State.{IsReader, past_of, head_of, next_with}
use Rattle.cue_list.proofs.EpochLaws.{IsEpochOf, IsCueOf}
use Rattle.cue_list.proofs.FactLaws.{IsValidRow-from}
use Rattle.cue_records.proofs.TestLaws.{passed, not-wrong}
use Rattle.cue_list.proofs.PastLaws.{row_with, looking-back-more}
use Rattle.cue_list.proofs.ReadLaws.{before-more, cue-open, all-read}
use Rattle.cue_list.proofs.SoundLaws.{EpochFacts-none, member-last, member-flat, colours_of, cues_of, in_last, sum-last, length-push}
use Rattle.cue_list.proofs.SoundSteps.{SoundPast, sound-origin, sound-display, sound-refresh, sound-epoch, sound-region, sound-colour, sound-picture, sound-place, sound-cue}
use Rattle.cue_list.proofs.TicksApartLaws.{Member, Member-at}

-- ---- records one after another

unknown-none : (cells : Row) → shape_fault kinds.Other cells ≡ None → ⊥
unfolding shape_fault
unknown-none cells h =
    let count : List (Option ScriptKind) = fails (not (length cells == cells_of kinds.Other)) faults.Count ∷ [] in
    let text = not-wrong (not (is_text_row cells)) faults.NotUtf8 (fails true faults.Unknown ∷ count) h in
    let never : true ≡ false = (not-wrong true faults.Unknown count text.1).0 in
    cc

sound-next : (font : FontValue) (past : ScriptPast) (ticks : List ℕ) (kind : RowKind) (number : ℕ) (cells : Row)
    → SoundPast past ticks → fault_with font past (row_with kind number cells) ≡ None
    → ((t : ℕ) → past.is_near t ≡ list_any (is_close t) ticks)
    → SoundPast (next_with font past (row_with kind number cells)) (ticks_by kind cells ++ ticks)
unfolding colour_in placing_in
sound-next font past ticks kinds.Origin number cells sound none near =
    sound-origin font past ticks number cells sound (IsValidRow-from font past kinds.Origin number cells none)
sound-next font past ticks kinds.Display number cells sound none near =
    sound-display font past ticks number cells sound (IsValidRow-from font past kinds.Display number cells none)
sound-next font past ticks kinds.Refresh number cells sound none near =
    sound-refresh font past ticks number cells sound (IsValidRow-from font past kinds.Refresh number cells none)
sound-next font past ticks kinds.Epoch number cells sound none near =
    sound-epoch font past ticks number cells sound (IsValidRow-from font past kinds.Epoch number cells none) near
sound-next font past ticks kinds.Region number cells sound none near =
    sound-region font past ticks number cells sound (IsValidRow-from font past kinds.Region number cells none)
sound-next font past ticks kinds.Colour number cells sound none near =
    sound-colour font past ticks number cells sound (IsValidRow-from font past kinds.Colour number cells none) near
sound-next font past ticks kinds.Picture number cells sound none near =
    sound-picture font past ticks number cells sound (IsValidRow-from font past kinds.Picture number cells none)
sound-next font past ticks kinds.Place number cells sound none near =
    sound-place font past ticks number cells sound (IsValidRow-from font past kinds.Place number cells none) near
sound-next font past ticks kinds.Cue number cells sound none near =
    sound-cue font past ticks number cells sound (IsValidRow-from font past kinds.Cue number cells none) near
sound-next font past ticks kinds.Other number cells sound none near =
    absurd (unknown-none cells (passed (shape_fault kinds.Other cells) _ none).0)

sound-row : (font : FontValue) (earlier : List Record) (row : Record)
    → SoundPast (looking_back font earlier) (ticks_in earlier) → fault_of font earlier row ≡ None
    → SoundPast (looking_back font (row ∷ earlier)) (ticks_in (row ∷ earlier))
sound-row font earlier row sound none =
    let begun : row.kind ≡ kinds.Cue
    → is_some (last_epoch font earlier)
    ≡ true = λ (is : row.kind ≡ kinds.Cue). cue-open font (looking_back font earlier) row.kind row.number
    row.cells none is in
    subst (λ (past : ScriptPast). SoundPast past (ticks_in (row ∷ earlier)))
    (sym (looking-back-more font earlier row begun))
    (sound-next font (looking_back font earlier) (ticks_in earlier) row.kind row.number row.cells sound none
    (λ t. refl))

sound-none : (font : FontValue) → SoundPast (looking_back font []) []
sound-none font = record {
  display = λ two. absurd (omega arith);
  refresh = λ three. absurd (omega arith);
  late = λ some. absurd (let never : false ≡ true = some in cc);
  epochs = EpochFacts-none _ _ _ _ [] None refl refl;
  ticks_named =
      record {
        apart = record { each = λ first second m k. absurd m };
        each = λ u m. absurd m;
        last = λ e is u
            m. absurd (let never : None ≡ Some e = is in cc);
      };
  few = omega arith;
  colours_counted = omega arith;
  cues_counted = omega arith;
}

pub sound-rows : (font : FontValue) (all : List Record) (n : ℕ) → AreValidRecords font all n
    → SoundPast (looking_back font (records_before all n)) (ticks_in (records_before all n))
sound-rows font all zero valid_rows = sound-none font
sound-rows font all (suc n) valid_rows =
    let there = valid_rows.there in
    let within : n < length all = omega arith in
    let fewer : AreValidRecords font all n =
    record { there = omega arith; valid = λ k below. valid_rows.valid k (omega arith) } in
    let one : suc n ≡ n + 1 = omega arith in
    let more : records_before all (suc n) ≡ record_at all n ∷ records_before all n =
    ap (records_before all) one ∙ before-more all n within in
    subst (λ (rows : List Record). SoundPast (looking_back font rows) (ticks_in rows)) (sym more)
    (sound-row font (records_before all n) (record_at all n) (sound-rows font all n fewer)
    (valid_rows.valid n (omega arith)))

-- ---- pictures

whole-brought : (font : FontValue) (regions : List Region) (kind : RowKind) (cells : Row) (old new : List Picture)
    → ((p : Picture) → Member p old → IsPicture p) → Brings font regions kind cells old new → (p : Picture)
    → Member p new → IsPicture p
whole-brought font regions kinds.Origin cells old new each same p m = each p (subst (Member p) same m)
whole-brought font regions kinds.Display cells old new each same p m = each p (subst (Member p) same m)
whole-brought font regions kinds.Refresh cells old new each same p m = each p (subst (Member p) same m)
whole-brought font regions kinds.Epoch cells old new each same p m = each p (subst (Member p) same m)
whole-brought font regions kinds.Region cells old new each same p m = each p (subst (Member p) same m)
whole-brought font regions kinds.Colour cells old new each same p m = each p (subst (Member p) same m)
whole-brought font regions kinds.Picture cells old new each brings p m =
    elim (member-last p old brings.picture (subst (Member p) brings.added m))
    [ inl before ↦ each p before | inr same ↦ subst IsPicture (sym same) brings.drawn.whole ]
whole-brought font regions kinds.Place cells old new each same p m = each p (subst (Member p) same m)
whole-brought font regions kinds.Cue cells old new each brings p m =
    elim (member-last p old brings.picture (subst (Member p) brings.added m))
    [ inl before ↦ each p before | inr same ↦ subst IsPicture (sym same) brings.set.whole ]
whole-brought font regions kinds.Other cells old new each same p m = each p (subst (Member p) same m)

pub whole-pictures : (font : FontValue) (rows : List Record) (pictures : List Picture) → AreDrawn font rows pictures
    → (p : Picture) → Member p pictures → IsPicture p
whole-pictures font [] pictures drawn p m = absurd (subst (Member p) drawn m)
whole-pictures font (row ∷ earlier) pictures drawn p m =
    whole-brought font (regions_in earlier) row.kind row.cells drawn.0 pictures
    (whole-pictures font earlier drawn.0 drawn.1) drawn.2 p m

picture-at : (pictures : List Picture) (k : ℕ) (other : Picture) (head : PictureHead)
    → slice_get (map head_of pictures) k ≡ Some head → (k < length pictures)
    × (head_of (get_or pictures k other) ≡ head)
picture-at [] k other head h = absurd (let never : None ≡ Some head = h in cc)
picture-at (p ∷ pictures) zero other head h = (omega arith, cc)
picture-at (p ∷ pictures) (suc k) other head h =
    let more = picture-at pictures k other head h in (omega (arith, more.0), more.1)

pub area-heads : (pictures : List Picture)
    → sum_by area (map head_of pictures) ≡ sum_by (λ (picture : Picture). picture.width * picture.height) pictures
area-heads [] = refl
area-heads (p ∷ pictures) =
    let heads = sum_by-append area (head_of p ∷ []) (map head_of pictures) in
    let areas = sum_by-append (λ (picture : Picture). picture.width * picture.height) (p ∷ []) pictures in
    let rest = area-heads pictures in
    omega (arith, heads, areas, rest)

-- ---- epochs

all-of : {A : Type 0} (P : A → Type 0) (xs : List A) → ((x : A) → Member x xs → P x) → All P xs
all-of P xs each = λ k other within. each (get_or xs k other) (Member-at xs k other within)

pub cue-of : (origin start : ℕ) (regions : List Region) (pictures : List Picture) (cue : Cue)
    → IsCueOf origin start regions (map head_of pictures) cue → IsCue origin start regions pictures cue
cue-of origin start regions pictures cue is =
    let at = picture-at pictures cue.picture (picture_of 0 0 Two []) is.head is.drawn in
    let picture = picture_at_place pictures cue.picture in
    let wide : picture.width ≡ is.head.width = ap (λ (h : PictureHead). h.width) at.1 in
    let high : picture.height ≡ is.head.height = ap (λ (h : PictureHead). h.height) at.1 in
    let deep : head_of picture ≡ is.head = at.1 in
    let across = is.across in
    let down = is.down in
    record {
      starts = is.starts;
      ends = is.ends;
      within = is.within;
      lasts = is.lasts;
      short = is.short;
      picture = at.0;
      region = is.region;
      found = is.found;
      fits = record {
        across = omega arith;
        down = omega arith;
        shallow = subst (λ (h : PictureHead). bits_of h.depth ≤ bits_of is.region.depth) (sym deep) is.shallow;
      };
    }

pub epoch-of : (origin width height : ℕ) (pictures : List Picture) (epoch : Epoch)
    → IsEpochOf origin width height (map head_of pictures) epoch → IsEpoch origin width height pictures epoch
epoch-of origin width height pictures epoch is = record {
  starts = is.starts;
  regions = record { many = is.many; each = all-of (IsRegion width height) epoch.regions is.regions; apart = is.apart };
  colours = all-of (IsColourRow origin epoch.start) epoch.colours is.colours;
  cues =
      all-of (IsCue origin epoch.start epoch.regions pictures) epoch.cues
      (λ cue m. cue-of origin epoch.start epoch.regions pictures cue (is.cues cue m));
}

-- ---- the script

-- what a reader keeps is sound, once an epoch was started
pub IsSound-kept : (kept : Reader) (ticks : List ℕ) → IsReader kept → SoundPast (past_of kept) ticks
    → is_some kept.epoch ≡ true → ((p : Picture) → Member p kept.pictures.items → IsPicture p)
    → kept.codes ≡ sum_by area (map head_of kept.pictures.items)
    → IsSoundScript kept.origin kept.width kept.height (90000 * kept.seconds) (with_last kept.ended.items kept.epoch)
    kept.pictures.items
IsSound-kept kept ticks reader sound some whole counted = with-epoch kept.epoch refl
  where
    with-epoch : (o : Option Epoch) → kept.epoch ≡ o
        → IsSoundScript kept.origin kept.width kept.height (90000 * kept.seconds) (with_last kept.ended.items o)
        kept.pictures.items
    with-epoch None is = absurd (let never : false ≡ true = ap is_some (sym is) ∙ some in cc)
    with-epoch (Some epoch) is =
        let three : 3 ≤ kept.rows = sound.late some in
        let display = sound.display (omega arith) in
        let ended = kept.ended.items in
        let pictures = kept.pictures.items in
        let facts = sound.epochs in
        let named = sound.ticks_named in
        let count : (f : Epoch → ℕ) → in_last f kept.epoch ≡ f epoch =
        λ (f : Epoch → ℕ). ap (in_last f) is in
        let one = count (λ _. 1) in
        let colours = count colours_of in
        let cues = count cues_of in
        let few = sound.few in
        let colours_before = sound.colours_counted in
        let cues_before = sound.cues_counted in
        let colours_sum = sum-last colours_of ended (Some epoch) in
        let cues_sum = sum-last cues_of ended (Some epoch) in
        let many = length-push ended epoch in
        let few_colours = reader.few_colours in
        let few_cues = reader.few_cues in
        let few_named = reader.few_named in
        let few_pictures = reader.few_pictures in
        let few_codes = reader.few_codes in
        let areas = area-heads pictures in
        let each : (e : Epoch) → Member e (ended ++ epoch ∷ [])
        → IsEpoch kept.origin kept.width kept.height pictures e = λ e m. elim (member-last e ended epoch m) [
          | inl before ↦ epoch-of kept.origin kept.width kept.height pictures e (facts.each e before)
          | inr same ↦ subst (IsEpoch kept.origin kept.width kept.height pictures) (sym same)
              (epoch-of kept.origin kept.width kept.height pictures epoch (facts.last epoch is))
        ] in
        let tick : (u : ℕ) → Member u (flat_map ticks_of (ended ++ epoch ∷ []))
        → Member u ticks = λ u m. elim (member-flat ticks_of u ended epoch m)
        [ inl before ↦ named.each u before | inr last ↦ named.last epoch is u last ] in
        record {
          early = reader.origin;
          wide = (display.0, display.1);
          high = (display.2, display.3);
          seconds = kept.seconds;
          whole = refl;
          often = sound.refresh three;
          some_epoch = omega arith;
          few_epochs = omega arith;
          each = all-of (IsEpoch kept.origin kept.width kept.height pictures) (ended ++ epoch ∷ []) each;
          follow =
              all_pairs_push Follows ended epoch facts.follow
              (λ k other within. facts.follow_last epoch (get_or ended k other) is (Member-at ended k other within));
          apart = λ i j other before within.
              let all_ticks = flat_map ticks_of (ended ++ epoch ∷ []) in
              let first_within : i < length all_ticks = omega arith in
              named.apart.each (get_or all_ticks i other) (get_or all_ticks j other)
              (tick _ (Member-at all_ticks i other first_within)) (tick _ (Member-at all_ticks j other within));
          few_colours = omega arith;
          few_cues = omega arith;
          few_pictures = omega arith;
          drawn = all-of IsPicture pictures whole;
          small = omega arith;
        }

-- what a reader keeps after valid records is sound
pub IsSound-read : (bytes : List ℕ) (font : FontValue) (left : List Row) (kept : Reader)
    → HasRead bytes font left kept → is_some kept.epoch ≡ true
    → IsSoundScript kept.origin kept.width kept.height (90000 * kept.seconds) (with_last kept.ended.items kept.epoch)
    kept.pictures.items
IsSound-read bytes font left kept read some =
    let rows = records_before (records_of bytes) kept.rows in
    let sound : SoundPast (past_of kept) (ticks_in rows) =
    subst (λ (past : ScriptPast). SoundPast past (ticks_in rows)) (sym read.stands)
    (sound-rows font (records_of bytes) kept.rows read.valid) in
    let heads : map head_of kept.pictures.items ≡ (looking_back font rows).heads =
    ap (λ (past : ScriptPast). past.heads) read.stands in
    let codes : kept.codes ≡ (looking_back font rows).codes = ap (λ (past : ScriptPast). past.codes) read.stands in
    IsSound-kept kept (ticks_in rows) read.reader sound some (whole-pictures font rows kept.pictures.items read.drawn)
    (codes ∙ ap (sum_by area) (sym heads))

-- what a reader keeps after the last record is what the records list
pub IsScript-read : (bytes : List ℕ) (font : FontValue) (kept : Reader) → HasRead bytes font [] kept
    → is_some kept.epoch ≡ true
    → IsScript bytes font kept.origin kept.width kept.height (90000 * kept.seconds)
    (with_last kept.ended.items kept.epoch) kept.pictures.items
IsScript-read bytes font kept read some =
    let all = records_of bytes in
    let count : kept.rows ≡ length all = all-read bytes font [] kept read refl in
    let rows = records_before all kept.rows in
    let stands = read.stands in
    let lists : Lists font rows kept.origin kept.width kept.height (90000 * kept.seconds)
    (with_last kept.ended.items kept.epoch) kept.pictures.items = record {
      origin_is = ap (λ (past : ScriptPast). past.origin) stands;
      width_is = ap (λ (past : ScriptPast). past.width) stands;
      height_is = ap (λ (past : ScriptPast). past.height) stands;
      refresh_is = ap (λ (past : ScriptPast). 90000 * past.seconds) stands;
      some_epoch = ap (λ (past : ScriptPast). is_some past.epoch) (sym stands) ∙ some;
      epochs_are = ap (λ (past : ScriptPast). with_last past.ended past.epoch) stands;
      pictures_are = read.drawn;
    } in
    record {
      valid = subst (AreValidRecords font all) count read.valid;
      lists =
          subst (λ (n : ℕ). Lists font (records_before all n) kept.origin kept.width kept.height
          (90000 * kept.seconds) (with_last kept.ended.items kept.epoch) kept.pictures.items) count lists;
    }

-- the seconds of a refresh are few
pub few-seconds : (origin width height refresh : ℕ) (epochs : List Epoch) (pictures : List Picture)
    → IsSoundScript origin width height refresh epochs pictures → refresh ≤ 5400000
few-seconds origin width height refresh epochs pictures sound =
    let whole = sound.whole in let often = sound.often in omega arith
