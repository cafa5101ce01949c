use Rattle.std.proofs.Common.{◌≡◌, ◌∙◌, sym, ap, ℕ, ◌+◌, Bool, false, List, [], ◌∷◌, ◌++◌, length, chars, Option, Some, option_map}
use Rattle.bitmap_font.specs.Font.{FontValue}
use Rattle.cue_list.specs.declared.epoch.Cue.{Cue}
use Rattle.cue_list.specs.declared.epoch.Epoch.{Epoch}
use Rattle.cue_records.specs.declared.region.Region.{Region}
use Rattle.cue_records.specs.declared.row_values.PictureHead.{PictureHead}
use Rattle.cue_records.specs.declared.row_values.PlaceRow.{PlaceRow}
use Rattle.cue_records.specs.declared.row_kind.RowKind.TheVariants as kinds
use Rattle.cue_records.specs.CellFaults.{value_at}
use Rattle.cue_records.specs.Cells.{cell_at}
use Rattle.cue_list.specs.Past.{ScriptPast, with_last, region_with, head_by, cue_with}
use Rattle.cue_records.specs.RowValues.{area, placing_in}
use Rattle.cue_list.specs.RowFaults.{regions_of}
use Rattle.cue_records.specs.Rows.{Row}
use Rattle.cue_list.specs.Private.State.{area_of, with_cue, cue_next}
use Rattle.cue_list.specs.TextSizes.{text_head}
use Rattle.cue_list.specs.Private.Ticks.{near_with}

-- what a cue's record brings, by the record's cells
pub cue-next : (font : FontValue) (past : ScriptPast) (number : ℕ) (cells : Row) (placing : PlaceRow) (text : List ℕ)
    (head : PictureHead)
    (epoch : Option Epoch) (heads : List PictureHead) (codes : ℕ) (near : ℕ → Bool) (cue : Cue)
    → placing ≡ placing_in cells → text ≡ cell_at cells 8
    → option_map (λ region. text_head font region.depth (chars text))
    (region_with placing.region (regions_of past.epoch)) ≡ Some head
    → cue ≡ record {
      start = placing.start;
      end = placing.end;
      row = number;
      region = placing.region;
      x = placing.x;
      y = placing.y;
      picture = length past.heads;
      see_through = false;
    }
    → epoch ≡ option_map (with_cue (Some cue)) past.epoch
    → heads ≡ past.heads ++ head ∷ []
    → codes ≡ past.codes + area head
    → near ≡ near_with placing.start (near_with placing.end past.is_near)
    → record past { epoch = epoch; cues = past.cues + 1; heads = heads; codes = codes; is_near = near }
    ≡ cue_next font past number cells
unfolding placing_in
cue-next font past number cells placing text head epoch heads codes near cue placed said sized shown last listed counted
    named =
    let placed_region : placing.region ≡ value_at cells 3 = ap (λ (p : PlaceRow). p.region) placed in
    let head_with : List ℕ → ℕ
    → Option PictureHead = λ (t : List ℕ) (id : ℕ). option_map
    (λ (region : Region). text_head font region.depth (chars t)) (region_with id (regions_of past.epoch)) in
    let brought : head_by font (regions_of past.epoch) kinds.Cue cells ≡ Some head =
    sym (ap (λ (t : List ℕ). head_with t (value_at cells 3)) said)
    ∙ (sym (ap (head_with text) placed_region) ∙ sized) in
    let made : PlaceRow
    → Cue = λ (p : PlaceRow). record {
      start = p.start;
      end = p.end;
      row = number;
      region = p.region;
      x = p.x;
      y = p.y;
      picture = length past.heads;
      see_through = false;
    } in
    let is_cue : cue ≡ cue_with number cells (length past.heads) false = shown ∙ ap made placed in
    let near_of : PlaceRow → ℕ → Bool = λ (p : PlaceRow). near_with p.start (near_with p.end past.is_near) in
    let epoch_is : epoch ≡ option_map (with_cue (Some (cue_with number cells (length past.heads) false))) past.epoch =
    last ∙ ap (λ (c : Cue). option_map (with_cue (Some c)) past.epoch) is_cue in
    let heads_are : heads ≡ with_last past.heads (head_by font (regions_of past.epoch) kinds.Cue cells) =
    listed ∙ sym (ap (with_last past.heads) brought) in
    let codes_are : codes ≡ past.codes + area_of (head_by font (regions_of past.epoch) kinds.Cue cells) =
    counted ∙ sym (ap (λ (h : Option PictureHead). past.codes + area_of h) brought) in
    let near_is : near ≡ near_of (placing_in cells) = named ∙ ap near_of placed in
    λ i. record past {
      epoch = epoch_is i;
      cues = past.cues
          + 1;
      heads = heads_are i;
      codes = codes_are i;
      is_near = near_is i;
    }
