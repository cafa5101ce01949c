-- Whole segments: what is read is a segment with its value, and a segment with a value is read.
use Rattle.std.proofs.Common.{◌≡◌, ◌≢◌, ℕ, ◌+◌, ◌/◌, ◌<◌, ◌≤◌, Bool, true, false, cond, List, length, get_or, map, Option, Some, None, refl, sym, ap, subst, ◌∙◌, arith, inl, inr}
use Rattle.std.specs.Prelude.{not}
use Rattle.std.proofs.lemmas.Bool.{cases_eq, ltb-false, le-ltb, lt-ltb, ltb-true, ne_eqb}
use Rattle.stream_syntax.specs.declared.clut.ClutEntry.{ClutEntry}
use Rattle.stream_syntax.specs.declared.display.Window.{Window}
use Rattle.stream_syntax.specs.Fields.{Field, HasFields, FitsFields}
use Rattle.stream_syntax.specs.PixelCodes.{bits_of}
use Rattle.stream_syntax.specs.Segments.{Page, Region, Clut, Object, Display, SegmentValue, of_page, of_region, of_clut, of_object, of_display, end_of_set, passed_over, CodedEntry, page_fields, region_fields, clut_fields, object_fields, display_fields, free_bytes, IsPassedOver, IsBody, IsValid, IsWindowOf, entry_of}
use Rattle.stream_syntax.specs.SegmentTests.{body_tests, top_in, bottom_in, has_window, is_window, AreBlocks, page_tests, region_tests, clut_tests, object_tests, display_tests}
use Rattle.stream_syntax.specs.Tests.{first_fault, byte_at, word_at}
use Rattle.segments.specs.Reading.{window_in, page_in, region_in, clut_in, object_in, display_in, value_in}
use Rattle.segments.proofs.Bodies.{Found}
use Rattle.segments.proofs.Pages.{page_laid, page_again}
use Rattle.segments.proofs.Regions.{region_laid, region_again}
use Rattle.segments.proofs.Cluts.{clut_laid, clut_again}
use Rattle.segments.proofs.Objects.{object_laid, object_again}
use Rattle.segments.proofs.Displays.{display_laid, plain_again, window_again, further_in, free_laid, free_fits}
use Rattle.segments.proofs.Passing.{page_asks, page_passes, region_asks, region_passes, clut_asks, clut_passes, object_asks, object_passes, display_asks, display_passes, not_true, and_true, both_true}
use Rattle.segments.proofs.Shapes.{AreBytes}

-- ---- bodies

-- a body has a table of its value
pub record Laid (kind : ℕ) (body : List ℕ) (value : SegmentValue) : Type 0 where
  pub fields : List Field
  pub is_body : IsBody value kind fields
  pub has : HasFields fields (bits_of body)
  pub fits : FitsFields fields
  pub valid : IsValid value

differ : false ≡ true → ⊥
differ e = cc

abbrev Blocks : ℕ → List ℕ → Type 0
Blocks kind body = kind ≡ 19 → AreBlocks (top_in body) (bottom_in body)

page_body : (body : List ℕ) → AreBytes body → first_fault (page_tests body) ≡ None
    → Laid 16 body (of_page (page_in body))
page_body body fits none =
    let asks = page_asks body none in
    let laid = page_laid body fits asks.0 asks.1 in
    record { fields = page_fields (page_in body); is_body = (refl, refl); has = laid.0; fits = laid.1; valid = tt }

region_body : (body : List ℕ) → AreBytes body → first_fault (region_tests body) ≡ None
    → Laid 17 body (of_region (region_in body))
region_body body fits none =
    let asks = region_asks body none in
    let laid = region_laid body fits asks.0 asks.3 asks.4 asks.5 in
    record {
      fields = region_fields (get_or body 6 0 / 32) (region_in body);
      is_body = (refl, get_or body 6 0 / 32, refl);
      has = laid.0;
      fits = laid.1;
      valid = (asks.1, asks.2);
    }

clut_body : (body : List ℕ) → AreBytes body → first_fault (clut_tests body) ≡ None
    → Laid 18 body (of_clut (clut_in body))
clut_body body fits none =
    let asks = clut_asks body none in
    let laid = clut_laid body fits asks.0 asks.1 in
    record {
      fields = clut_fields (clut_in body).clut (clut_in body).version laid.0;
      is_body = (refl, laid.0, laid.1, refl);
      has = laid.2;
      fits = laid.3;
      valid = tt;
    }

object_body : (body : List ℕ) → AreBytes body → first_fault (object_tests body) ≡ None
    → AreBlocks (top_in body) (bottom_in body) → Laid 19 body (of_object (object_in body))
object_body body fits none blocks =
    let asks = object_asks body none in
    let laid = object_laid asks.0 body fits asks.1.0 (omega arith) asks.1.1 asks.1.3 in
    record {
      fields = object_fields asks.0 (object_in body);
      is_body = (refl, asks.0, refl);
      has = laid.0;
      fits = laid.1;
      valid = blocks;
    }

window_right : (body : List ℕ) → is_window body ≡ true
    → (word_at 5 body ≤ word_at 7 body) × (word_at 7 body < word_at 1 body + 1)
    × (word_at 9 body ≤ word_at 11 body) × (word_at 11 body < word_at 3 body + 1)
window_right body is =
    let a = and_true _ _ is in
    let b = and_true _ _ a.0 in
    let c = and_true _ _ b.0 in
    (ltb-false _ _ (not_true _ c.0), ltb-true _ _ c.1, ltb-false _ _ (not_true _ b.1), ltb-true _ _ a.1)

display_right : (body : List ℕ) (b : Bool) → has_window body ≡ b → (b ≡ true → is_window body ≡ true)
    → IsWindowOf (word_at 1 body + 1) (word_at 3 body + 1) (cond b (Some (window_in body)) None)
display_right body true e window = window_right body (window refl)
display_right body false e window = tt

display_body : (body : List ℕ) → AreBytes body → first_fault (display_tests body) ≡ None
    → Laid 20 body (of_display (display_in body))
display_body body fits none =
    let asks = display_asks body none in
    let laid = display_laid body fits asks.0 asks.1 in
    record {
      fields = display_fields (further_in body) (display_in body);
      is_body = (refl, further_in body, refl);
      has = laid.0;
      fits = laid.1;
      valid = (omega arith, omega arith, display_right body (has_window body) refl asks.2);
    }

end_body : (body : List ℕ) → Laid 128 body end_of_set
end_body body =
    record {
      fields = free_bytes (length body);
      is_body = (refl, length body, refl);
      has = free_laid body;
      fits = free_fits (length body);
      valid = tt;
    }

passed_body : (kind : ℕ) (body : List ℕ) → IsPassedOver kind → Laid kind body passed_over
passed_body kind body is =
    record {
      fields = free_bytes (length body);
      is_body = (is, length body, refl);
      has = free_laid body;
      fits = free_fits (length body);
      valid = tt;
    }

-- the value of a body of another type
passed_value : (kind : ℕ) (body : List ℕ) → kind ≢ 16 → kind ≢ 17 → kind ≢ 18 → kind ≢ 19
    → kind ≢ 20 → kind ≢ 128 → (value_in kind body ≡ passed_over)
    × (first_fault (body_tests kind body) ≡ None)
passed_value kind body a b c d e f =
    let a' = ne_eqb kind 16 a in
    let b' = ne_eqb kind 17 b in
    let c' = ne_eqb kind 18 c in
    let d' = ne_eqb kind 19 d in
    let e' = ne_eqb kind 20 e in
    let f' = ne_eqb kind 128 f in
    (rw (a', b', c', d', e', f') refl, rw (a', b', c', d', e') refl)

along : (kind : ℕ) (body : List ℕ) (value made : SegmentValue) → value ≡ value_in kind body
    → value_in kind body ≡ made → Laid kind body made → Laid kind body value
along kind body value made is at laid = subst (Laid kind body) (sym (is ∙ at)) laid

-- what was read without a fault has a table of its value
pub body_laid : (kind : ℕ) (body : List ℕ) (value : SegmentValue) → AreBytes body → kind < 256
    → Found kind body value → Blocks kind body → Laid kind body value
body_laid kind body value fits small found blocks =
    elim (cases_eq kind 16) [
      | inl e ↦ subst (λ (k : ℕ). Found k body value → Laid k body value) (sym e)
          (λ f. along 16 body value _ f.0 refl (page_body body fits f.1)) found
      | inr a ↦ elim (cases_eq kind 17) [
        | inl e ↦ subst (λ (k : ℕ). Found k body value → Laid k body value) (sym e)
            (λ f. along 17 body value _ f.0 refl (region_body body fits f.1)) found
        | inr b ↦ elim (cases_eq kind 18) [
          | inl e ↦ subst (λ (k : ℕ). Found k body value → Laid k body value) (sym e)
              (λ f. along 18 body value _ f.0 refl (clut_body body fits f.1)) found
          | inr c ↦ elim (cases_eq kind 19) [
            | inl e ↦ subst (λ (k : ℕ). Found k body value → Laid k body value) (sym e)
                (λ f. along 19 body value _ f.0 refl (object_body body fits f.1 (blocks e))) found
            | inr d ↦ elim (cases_eq kind 20) [
              | inl e ↦ subst (λ (k : ℕ). Found k body value → Laid k body value) (sym e)
                  (λ f. along 20 body value _ f.0 refl (display_body body fits f.1)) found
              | inr g ↦ elim (cases_eq kind 128) [
                | inl e ↦ subst (λ (k : ℕ). Found k body value → Laid k body value) (sym e)
                    (λ f. along 128 body value _ f.0 refl (end_body body)) found
                | inr h ↦ along kind body value passed_over found.0 (passed_value kind body a b c d g h).0
                    (passed_body kind body (small, a, b, c, d, g, h))
              ]
            ]
          ]
        ]
      ]
    ]

-- ---- a body with a table of its value is read

abbrev pub Reads : ℕ → List ℕ → SegmentValue → Type 0
Reads kind body value = Found kind body value × Blocks kind body

at_kind : (kind known : ℕ) (body : List ℕ) (value : SegmentValue) → kind ≡ known → Reads known body value
    → Reads kind body value
at_kind kind known body value e reads = subst (λ (k : ℕ). Reads k body value) (sym e) reads

page_reads : (value : Page) (body : List ℕ) → AreBytes body → FitsFields (page_fields value)
    → HasFields (page_fields value) (bits_of body) → Reads 16 body (of_page value)
page_reads value body fits fit has =
    let again = page_again value body fits fit has in
    ((ap of_page (sym again.0), page_passes body again.1 again.2), λ e. absurd (omega arith))

region_reads : (compatibility : ℕ) (value : Region) (body : List ℕ) → AreBytes body
    → FitsFields (region_fields compatibility value)
    → HasFields (region_fields compatibility value) (bits_of body) → (1 ≤ value.head.width)
    × (1 ≤ value.head.height) → Reads 17 body (of_region value)
region_reads compatibility value body fits fit has valid =
    let again = region_again compatibility value body fits fit has in
    let width : 1 ≤ word_at 2 body = subst (λ (r : Region). 1 ≤ r.head.width) (sym again.0) valid.0 in
    let height : 1 ≤ word_at 4 body = subst (λ (r : Region). 1 ≤ r.head.height) (sym again.0) valid.1 in (
      (ap of_region (sym again.0), region_passes body (again.1, width, height, again.2, again.3, again.4)),
      λ e. absurd
          (omega arith),
    )

clut_reads : (value : Clut) (coded : List CodedEntry) (body : List ℕ) → AreBytes body
    → map entry_of coded ≡ value.entries → FitsFields (clut_fields value.clut value.version coded)
    → HasFields (clut_fields value.clut value.version coded) (bits_of body) → Reads 18 body (of_clut value)
clut_reads value coded body fits are fit has =
    let again = clut_again value.clut value.version coded body fits fit has in
    let same : clut_in body ≡ value =
    again.0 ∙ ap (λ (es : List ClutEntry). record { clut = value.clut; version = value.version; entries = es })
    are in
    ((ap of_clut (sym same), clut_passes body again.1 again.2), λ e. absurd (omega arith))

object_reads : (padded : Bool) (value : Object) (body : List ℕ) → AreBytes body
    → FitsFields (object_fields padded value) → HasFields (object_fields padded value) (bits_of body)
    → AreBlocks value.top value.bottom → Reads 19 body (of_object value)
object_reads padded value body fits fit has valid =
    let again = object_again padded value body fits fit has in (
      (ap of_object (sym again.0), object_passes body padded (again.1, again.2, again.3, again.4)),
      λ e. subst
          (λ (o : Object). AreBlocks o.top o.bottom) (sym again.0) valid,
    )

is_window_there : (body : List ℕ) → (word_at 5 body ≤ word_at 7 body) × (word_at 7 body < word_at 1 body + 1)
    × (word_at 9 body ≤ word_at 11 body) × (word_at 11 body < word_at 3 body + 1) → is_window body ≡ true
is_window_there body (a, b, c, d) =
    both_true _ _
    (both_true _ _
    (both_true _ _ (ap not (le-ltb (word_at 7 body) (word_at 5 body) a))
    (lt-ltb (word_at 7 body) (word_at 1 body + 1) b)) (ap not (le-ltb (word_at 11 body) (word_at 9 body) c)))
    (lt-ltb (word_at 11 body) (word_at 3 body + 1) d)

abbrev windowed : ℕ → ℕ → ℕ → Option Window → Display
windowed version width height window = record { version = version; width = width; height = height; window = window }

some_window : (body : List ℕ) (version width height : ℕ) (window : Window) → has_window body ≡ true
    → display_in body ≡ windowed version width height (Some window) → IsWindowOf width height (Some window)
    → is_window body ≡ true
some_window body version width height window on same valid =
    let shown : display_in body
    ≡ windowed (byte_at 0 body / 16) (word_at 1 body + 1) (word_at 3 body + 1) (Some (window_in body)) = rw on
    refl in
    let both : windowed (byte_at 0 body / 16) (word_at 1 body + 1) (word_at 3 body + 1) (Some (window_in body))
    ≡ windowed version width height (Some window) = sym shown ∙ same in
    is_window_there body (subst (λ (d : Display). IsWindowOf d.width d.height d.window) (sym both) valid)

display_reads : (further version width height : ℕ) (window : Option Window) (body : List ℕ) → AreBytes body
    → FitsFields (display_fields further (windowed version width height window))
    → HasFields (display_fields further (windowed version width height window)) (bits_of body)
    → (1 ≤ width) × (1 ≤ height) × IsWindowOf width height window
    → Reads 20 body (of_display (windowed version width height window))
display_reads further version width height None body fits fit has valid =
    let again = plain_again further version width height body fits valid.0 valid.1 fit has in (
      (
        ap of_display (sym again.0),
        display_passes body again.1 (λ on. absurd (differ (sym again.2 ∙ on)))
            (λ on. absurd (differ (sym again.2 ∙ on))),
      ),
      λ e. absurd (omega arith),
    )
display_reads further version width height (Some window) body fits fit has valid =
    let again = window_again further version width height window body fits valid.0 valid.1 fit has in (
      (
        ap of_display (sym again.0),
        display_passes body (omega (arith, again.1)) (λ on. again.1)
            (λ on. some_window body version width height window again.2 again.0 valid.2),
      ),
      λ e. absurd (omega arith),
    )

pub body_again : (value : SegmentValue) (kind : ℕ) (body : List ℕ) (fields : List Field) → AreBytes body
    → IsBody value kind fields → FitsFields fields → HasFields fields (bits_of body) → IsValid value
    → Reads kind body value
body_again (of_page value) kind body fields fits (kind-is, is) fit has valid =
    at_kind kind 16 body (of_page value) kind-is
    (page_reads value body fits (subst FitsFields is fit)
    (subst (λ (fs : List Field). HasFields fs (bits_of body)) is has))
body_again (of_region value) kind body fields fits (kind-is, compatibility, is) fit has valid =
    at_kind kind 17 body (of_region value) kind-is
    (region_reads compatibility value body fits (subst FitsFields is fit)
    (subst (λ (fs : List Field). HasFields fs (bits_of body)) is has) valid)
body_again (of_clut value) kind body fields fits (kind-is, coded, are, is) fit has valid =
    at_kind kind 18 body (of_clut value) kind-is
    (clut_reads value coded body fits are (subst FitsFields is fit)
    (subst (λ (fs : List Field). HasFields fs (bits_of body)) is has))
body_again (of_object value) kind body fields fits (kind-is, padded, is) fit has valid =
    at_kind kind 19 body (of_object value) kind-is
    (object_reads padded value body fits (subst FitsFields is fit)
    (subst (λ (fs : List Field). HasFields fs (bits_of body)) is has) valid)
body_again (of_display value) kind body fields fits (kind-is, further, is) fit has valid =
    at_kind kind 20 body (of_display value) kind-is
    (display_reads further value.version value.width value.height value.window body fits (subst FitsFields is fit)
    (subst (λ (fs : List Field). HasFields fs (bits_of body)) is has) valid)
body_again end_of_set kind body fields fits (kind-is, further, is) fit has valid =
    at_kind kind 128 body end_of_set kind-is ((refl, refl), λ e. absurd (omega arith))
body_again passed_over kind body fields fits (other, further, is) fit has valid =
    let passed = passed_value kind body other.1 other.2 other.3 other.4 other.5 other.6 in
    ((sym passed.0, passed.1), λ e. absurd (other.4 e))
