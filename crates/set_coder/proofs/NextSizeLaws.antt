-- The segments of a set are measured one after the other: each is the first of those that are left.
use Rattle.std.proofs.Common.{◌≡◌, ℕ, ◌≤◌, List, ◌∷◌, ◌++◌, length, map, Option, Some, None, Bor, sym, ap, subst, ◌∙◌, arith}
use Rattle.std.specs.Prelude.{All, IfSome, option_to_list}
use Rattle.std.proofs.lemmas.List.{nil_from_length}
use Rattle.std.proofs.lemmas.List.Elements.{All-head, All-tail}
use Rattle.pes_packets.specs.Units.{IsSegmentLength}
use Rattle.page_epoch.specs.Sendable.{HasCue}
use Rattle.page_epoch.specs.declared.planned_set.SentClut.{SentClut}
use Rattle.page_epoch.specs.declared.planned_set.SentRegion.{SentRegion}
use Rattle.set_coder.specs.SetSizes.{region_size, clut_size, IsObjectSize, AreObjectSizes}
use Rattle.set_coder.specs.Private.SizesLeft.{IsMeasurable, IsNextSize}
use Rattle.set_coder.specs.declared.segment_sizes.SegmentSizes.{SegmentSizes}

-- those that are left, by what they are
abbrev parts : Option ℕ → Option ℕ → List SentRegion → List SentClut → List ℕ → Option ℕ → List ℕ
parts display page regions cluts objects last =
    option_to_list display
    ++ (option_to_list page
    ++ (map region_size regions ++ (map clut_size cluts ++ (objects ++ option_to_list last))))

abbrev after_regions : SegmentSizes → Option ℕ → Option ℕ → Bor (List SentRegion) → SegmentSizes
after_regions left display page regions =
    record {
      script = left.script;
      kept = left.kept;
      epoch = left.epoch;
      display = display;
      page = page;
      regions = regions;
      cluts = left.cluts;
      cues = left.cues;
      end = left.end;
    }

abbrev after_cluts : SegmentSizes → Option ℕ → Option ℕ → Bor (List SentClut) → SegmentSizes
after_cluts left display page cluts =
    record {
      script = left.script;
      kept = left.kept;
      epoch = left.epoch;
      display = display;
      page = page;
      regions = left.regions;
      cluts = cluts;
      cues = left.cues;
      end = left.end;
    }

abbrev after_cues : SegmentSizes → Option ℕ → Option ℕ → Bor (List ℕ) → SegmentSizes
after_cues left display page cues =
    record {
      script = left.script;
      kept = left.kept;
      epoch = left.epoch;
      display = display;
      page = page;
      regions = left.regions;
      cluts = left.cluts;
      cues = cues;
      end = left.end;
    }

nothing : (P : ℕ → Type 0) (o : Option ℕ) → o ≡ None → IfSome o P
nothing P None e = tt
nothing P (Some x) e = absurd (let f : Some x ≡ None = e in cc)

-- the first of the regions that are left
pub next_region : (left : SegmentSizes) (display page : Option ℕ) (sent : SentRegion) (rest : Bor (List SentRegion))
    (size : ℕ) → IsMeasurable left → display ≡ None → page ≡ None → left.display ≡ None
    → left.page ≡ None
    → left.regions.now ≡ sent ∷ rest.now → size ≡ region_size sent
    → IsNextSize left (after_regions left display page rest) size
next_region left display page sent rest size can d p none_d none_p here is =
    let all : All (λ (s : SentRegion). length s.cues ≤ 4096) (sent ∷ rest.now) =
    subst (All (λ (s : SentRegion). length s.cues ≤ 4096)) here can.regions in
    let few : length sent.cues ≤ 4096 = All-head (λ (s : SentRegion). length s.cues ≤ 4096) sent rest.now all in
    record {
      fits = (omega (arith, is), omega (arith, is, few));
      measurable = record {
        kept = can.kept;
        drawable = can.drawable;
        display = nothing IsSegmentLength display d;
        page = nothing IsSegmentLength page p;
        regions = All-tail (λ (s : SentRegion). length s.cues ≤ 4096) sent rest.now all;
        cluts = can.cluts;
        cues = can.cues;
        end = can.end;
      };
      first = λ sizes s. record {
        objects = s.objects;
        coded = s.coded;
        whole =
            ap (λ (n : ℕ). n ∷ sizes) is
            ∙ ap (λ (ns : List ℕ). region_size sent ∷ ns)
            (s.whole ∙ λ i. parts (d i) (p i) rest.now left.cluts.now s.objects left.end)
            ∙ sym (λ i. parts (none_d i) (none_p i) (here i) left.cluts.now s.objects left.end);
      };
      fewer =
          omega (
            arith,
            ap (λ (o : Option ℕ). length (option_to_list o)) d,
            ap
                (λ (o : Option ℕ). length (option_to_list o)) p,
            ap (λ (o : Option ℕ). length (option_to_list o))
                none_d,
            ap (λ (o : Option ℕ). length (option_to_list o)) none_p,
            ap length here,
          );
    }

-- the first of the CLUTs, where no region is left
pub next_clut : (left : SegmentSizes) (display page : Option ℕ) (sent : SentClut) (rest : Bor (List SentClut))
    (size : ℕ) → IsMeasurable left → display ≡ None → page ≡ None → left.display ≡ None
    → left.page ≡ None
    → length left.regions.now ≡ 0 → left.cluts.now ≡ sent ∷ rest.now → size ≡ clut_size sent
    → IsNextSize left (after_cluts left display page rest) size
next_clut left display page sent rest size can d p none_d none_p none_r here is =
    let all : All (λ (s : SentClut). length s.rows ≤ 8192) (sent ∷ rest.now) =
    subst (All (λ (s : SentClut). length s.rows ≤ 8192)) here can.cluts in
    let few : length sent.rows ≤ 8192 = All-head (λ (s : SentClut). length s.rows ≤ 8192) sent rest.now all in
    let empty = nil_from_length left.regions.now none_r in
    record {
      fits = (omega (arith, is), omega (arith, is, few));
      measurable = record {
        kept = can.kept;
        drawable = can.drawable;
        display = nothing IsSegmentLength display d;
        page = nothing IsSegmentLength page p;
        regions = can.regions;
        cluts = All-tail (λ (s : SentClut). length s.rows ≤ 8192) sent rest.now all;
        cues = can.cues;
        end = can.end;
      };
      first = λ sizes s. record {
        objects = s.objects;
        coded = s.coded;
        whole =
            ap (λ (n : ℕ). n ∷ sizes) is
            ∙ ap (λ (ns : List ℕ). clut_size sent ∷ ns)
            (s.whole ∙ λ i. parts (d i) (p i) (empty i) rest.now s.objects left.end)
            ∙ sym (λ i. parts (none_d i) (none_p i) (empty i) (here i) s.objects left.end);
      };
      fewer =
          omega (
            arith,
            ap (λ (o : Option ℕ). length (option_to_list o)) d,
            ap
                (λ (o : Option ℕ). length (option_to_list o)) p,
            ap (λ (o : Option ℕ). length (option_to_list o))
                none_d,
            ap (λ (o : Option ℕ). length (option_to_list o)) none_p,
            ap length here,
          );
    }

-- the object of the first of the cues, where nothing before them is left
pub next_object : (left : SegmentSizes) (display page : Option ℕ) (place : ℕ) (rest : Bor (List ℕ)) (size : ℕ)
    → IsMeasurable left → display ≡ None → page ≡ None → left.display ≡ None → left.page ≡ None
    → length left.regions.now ≡ 0 → length left.cluts.now ≡ 0 → left.cues.now ≡ place ∷ rest.now
    → IsObjectSize left.script.now.pictures left.epoch.now place size → IsSegmentLength size
    → IsNextSize left (after_cues left display page rest) size
next_object left display page place rest size can d p none_d none_p none_r none_c here is fits =
    let all : All (HasCue left.epoch.now) (place ∷ rest.now) = subst (All (HasCue left.epoch.now)) here can.cues in
    let regions = nil_from_length left.regions.now none_r in
    let cluts = nil_from_length left.cluts.now none_c in
    record {
      fits = fits;
      measurable = record {
        kept = can.kept;
        drawable = can.drawable;
        display = nothing IsSegmentLength display d;
        page = nothing IsSegmentLength page p;
        regions = can.regions;
        cluts = can.cluts;
        cues = All-tail (HasCue left.epoch.now) place rest.now all;
        end = can.end;
      };
      first = λ sizes s. record {
        objects = size ∷ s.objects;
        coded =
            subst (λ (places : List ℕ). AreObjectSizes left.script.now.pictures left.epoch.now places
            (size ∷ s.objects)) (sym here) (is, s.coded);
        whole =
            ap (λ (ns : List ℕ). size ∷ ns)
            (s.whole ∙ λ i. parts (d i) (p i) (regions i) (cluts i) s.objects left.end)
            ∙ sym (λ i. parts (none_d i) (none_p i) (regions i) (cluts i) (size ∷ s.objects) left.end);
      };
      fewer =
          omega (
            arith,
            ap (λ (o : Option ℕ). length (option_to_list o)) d,
            ap
                (λ (o : Option ℕ). length (option_to_list o)) p,
            ap (λ (o : Option ℕ). length (option_to_list o))
                none_d,
            ap (λ (o : Option ℕ). length (option_to_list o)) none_p,
            ap length here,
          );
    }
