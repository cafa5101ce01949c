-- Segments that are written one after the other: their bytes, and the longest of them.
use Rattle.std.proofs.Common.{Bool, ◌≡◌, ◌∙◌, ◌+◌, ◌-◌, ◌<◌, ◌≤◌, max, ℕ, List, [], ◌∷◌, ◌++◌, length, length-append, get_or, map, take, All, append-nil, append_assoc, sym, ap, subst, arith}
use Rattle.std.specs.List.{flat_map, list_any}
use Rattle.std.specs.Prelude.{filter}
use Rattle.std.specs.Str.{bytes_eq}
use Rattle.std.proofs.lemmas.Bool.Decides.{nat_tests}
use Rattle.std.proofs.lemmas.Grind.{flat_map-append}
use Rattle.std.proofs.lemmas.List.{get_or-map, map-append, take_all, take_more}
use Rattle.std.proofs.lemmas.List.Elements.{All-append, All-cons, All-head, filter-append}
use Rattle.stream_syntax.specs.Segments.{SegmentValue, of_display, spelled, IsWritable}
use Rattle.stream_syntax.specs.declared.page.State.{State}
use Rattle.stream_syntax.specs.declared.page.State.TheVariants.{Acquisition, ModeChange, Normal}
use Rattle.cue_list.specs.declared.script.Script.{Script}
use Rattle.set_coder.specs.SetSegments.{clut_segment_of, display_of_script, display_segments}
use Rattle.segments.specs.Sizes.{size_of}
use Rattle.segments.proofs.Sizes.{written_size}
use Rattle.cue_list.specs.declared.epoch.Epoch.{Epoch}
use Rattle.page_epoch.specs.declared.planned_set.SentClut.{SentClut}
use Rattle.page_epoch.specs.declared.planned_set.SentRegion.{SentRegion}
use Rattle.shown_plan.specs.NamedSets.{Names, named_region}
use Rattle.page_pair.specs.PairSets.{Paged, greatest_of, is_same_flag, on, paged_bytes, paged_length}
use Rattle.page_pair.specs.Private.Writing.{AreWritten, CanBeWritten, WritesMore, clut_bytes, cluts_by, when}
use Rattle.page_pair.specs.declared.written.Written.{Written}

-- ---- the greatest of numbers

max_apart : (a b c : ℕ) → max a (max b c) ≡ max (max a b) c
max_apart a b c = grind (arith, nat_tests)

max_none : (a : ℕ) → max a 0 ≡ max 0 a
max_none a = grind (arith, nat_tests)

pub greatest_more : (xs : List ℕ) (x : ℕ) → greatest_of (xs ++ x ∷ []) ≡ max (greatest_of xs) x
greatest_more [] x = max_none x
greatest_more (y ∷ xs) x = ap (max y) (greatest_more xs x) ∙ max_apart y (greatest_of xs) x

-- ---- one segment after another

-- what is written behind what was written
pub more_trans : (first second : List Paged) (old mid new : Written) → WritesMore first old mid
    → WritesMore second mid new → WritesMore (first ++ second) old new
more_trans first second old mid new before behind = λ so_far written.
    subst (λ (all : List Paged). AreWritten all new) (append_assoc so_far first second)
    (behind (so_far ++ first) (before so_far written))

-- nothing is written
pub more_none : (old : Written) → WritesMore [] old old
more_none old = λ so_far written. subst (λ (all : List Paged). AreWritten all old) (sym (append-nil so_far)) written

-- a segment is written from a place on, and taken note of
pub one_more : (page : ℕ) (value : SegmentValue) (old new : Written) (bytes : List ℕ) (begin : ℕ)
    → IsWritable page value → bytes ≡ old.bytes.items ++ spelled page value → begin ≡ length old.bytes.items
    → new.bytes.items ≡ bytes → new.longest ≡ max old.longest (length bytes - begin)
    → WritesMore (on page value ∷ []) old new
one_more page value old new bytes begin fits put begins kept noted = λ so_far written.
    let size : length bytes - begin ≡ size_of value =
    omega (
      arith,
      ap length put,
      length-append old.bytes.items (spelled page value),
      written_size page value
          fits,
      begins,
    )
    in
    record {
      fit =
          All-append CanBeWritten so_far (on page value ∷ []) written.fit
          (All-cons CanBeWritten (on page value) [] fits (λ k d inside. absurd (omega arith)));
      bytes =
          kept ∙ put ∙ ap (λ (front : List ℕ). front ++ spelled page value) written.bytes
          ∙ ap (λ (back : List ℕ). flat_map paged_bytes so_far ++ back) (sym (append-nil (spelled page value)))
          ∙ sym (flat_map-append paged_bytes so_far (on page value ∷ []));
      longest =
          noted ∙ ap (max old.longest) size ∙ ap (λ (n : ℕ). max n (size_of value)) written.longest
          ∙ sym (greatest_more (map paged_length so_far) (size_of value))
          ∙ ap greatest_of (sym (map-append paged_length so_far (on page value ∷ [])));
    }

-- nothing is written from a place on, and it is taken note of
pub none_more : (old new : Written) (bytes : List ℕ) (begin : ℕ) → bytes ≡ old.bytes.items
    → begin ≡ length old.bytes.items → new.bytes.items ≡ bytes
    → new.longest ≡ max old.longest (length bytes - begin) → WritesMore [] old new
none_more old new bytes begin put begins kept noted = λ so_far written.
    record {
      fit = subst (All CanBeWritten) (sym (append-nil so_far)) written.fit;
      bytes = kept ∙ put ∙ written.bytes ∙ ap (flat_map paged_bytes) (sym (append-nil so_far));
      longest =
          noted ∙ none old.longest (length bytes) begin (ap length put ∙ sym begins) ∙ written.longest
          ∙ ap (λ (all : List Paged). greatest_of (map paged_length all)) (sym (append-nil so_far));
    }
  where
    none : (m a b : ℕ) → a ≡ b → max m (a - b) ≡ m
    none m a b e = grind (arith, nat_tests)

-- the display of a set is written, where it has one
pub display_more : (script : Script) (state : State) (page : ℕ) (old new : Written) (bytes : List ℕ) (begin : ℕ)
    → All (IsWritable page) (display_segments script state)
    → bytes ≡ old.bytes.items ++ flat_map (spelled page) (display_segments script state)
    → begin ≡ length old.bytes.items → new.bytes.items ≡ bytes → new.longest ≡ max old.longest (length bytes - begin)
    → WritesMore (map (on page) (display_segments script state)) old new
display_more script Normal page old new bytes begin fit put begins kept noted =
    none_more old new bytes begin (put ∙ append-nil old.bytes.items) begins kept noted
display_more script Acquisition page old new bytes begin fit put begins kept noted =
    one_more page (of_display (display_of_script script)) old new bytes begin
    (All-head (IsWritable page) (of_display (display_of_script script)) [] fit)
    (put ∙ ap (λ (back : List ℕ). old.bytes.items ++ back)
    (append-nil (spelled page (of_display (display_of_script script))))) begins kept noted
display_more script ModeChange page old new bytes begin fit put begins kept noted =
    one_more page (of_display (display_of_script script)) old new bytes begin
    (All-head (IsWritable page) (of_display (display_of_script script)) [] fit)
    (put ∙ ap (λ (back : List ℕ). old.bytes.items ++ back)
    (append-nil (spelled page (of_display (display_of_script script))))) begins kept noted

-- ---- one item after another

-- one item of a list more
pub item_more : (segments : List Paged) (i : ℕ) (segment : Paged) (old mid new : Written) → i < length segments
    → segment ≡ get_or segments i segment → WritesMore (take i segments) old mid
    → WritesMore (segment ∷ []) mid new → WritesMore (take (i + 1) segments) old new
item_more segments i segment old mid new inside is so_far one =
    subst (λ (all : List Paged). WritesMore all old new)
    (sym (take_more segments i segment inside ∙ ap (λ s. take i segments ++ s ∷ []) (sym is)))
    (more_trans (take i segments) (segment ∷ []) old mid new so_far one)

pub items_all : (segments : List Paged) (i : ℕ) (old new : Written) → length segments ≤ i
    → WritesMore (take i segments) old new → WritesMore segments old new
items_all segments i old new all so_far =
    subst (λ (whole : List Paged). WritesMore whole old new) (take_all i segments all) so_far

-- one region more
pub region_more : (page : ℕ) (names : Names) (epoch : Epoch) (regions : List SentRegion) (i : ℕ) (sent : SentRegion)
    (old mid new : Written) → i < length regions → sent ≡ get_or regions i sent
    → WritesMore (map (on page) (map (named_region names epoch) (take i regions))) old mid
    → WritesMore (on page (named_region names epoch sent) ∷ []) mid new
    → WritesMore (map (on page) (map (named_region names epoch) (take (i + 1) regions))) old new
region_more page names epoch regions i sent old mid new inside is so_far one =
    let front = map (named_region names epoch) (take i regions) in
    subst (λ (all : List Paged). WritesMore all old new)
    (sym
    (ap (λ (rs : List SentRegion). map (on page) (map (named_region names epoch) rs))
    (take_more regions i sent inside ∙ ap (λ s. take i regions ++ s ∷ []) (sym is))
    ∙ ap (map (on page)) (map-append (named_region names epoch) (take i regions) (sent ∷ []))
    ∙ map-append (on page) front (named_region names epoch sent ∷ [])))
    (more_trans (map (on page) front) (on page (named_region names epoch sent) ∷ []) old mid new so_far one)

pub regions_all : (page : ℕ) (names : Names) (epoch : Epoch) (regions : List SentRegion) (i : ℕ) (old new : Written)
    → length regions ≤ i → WritesMore (map (on page) (map (named_region names epoch) (take i regions))) old new
    → WritesMore (map (on page) (map (named_region names epoch) regions)) old new
regions_all page names epoch regions i old new all so_far =
    subst (λ (rs : List SentRegion). WritesMore (map (on page) (map (named_region names epoch) rs)) old new)
    (take_all i regions all) so_far

-- display, page and regions of a language, one behind the other
pub head_more : (page : ℕ) (display : List SegmentValue) (segment : SegmentValue) (regions : List SegmentValue)
    (old first second new : Written) → WritesMore (map (on page) display) old first
    → WritesMore (on page segment ∷ []) first second → WritesMore (map (on page) regions) second new
    → WritesMore (map (on page) (display ++ (segment ∷ regions))) old new
head_more page display segment regions old first second new shown paged listed =
    subst (λ (all : List Paged). WritesMore all old new) (sym (map-append (on page) display (segment ∷ regions)))
    (more_trans (map (on page) display) (on page segment ∷ map (on page) regions) old first new shown
    (more_trans (on page segment ∷ []) (map (on page) regions) first second new paged listed))

-- ---- CLUTs that are shared, or are not

-- one CLUT more, where it is chosen
pub clut_more : (page : ℕ) (shared : Bool) (own others : List (List ℕ)) (epoch : Epoch) (cluts : List SentClut)
    (i : ℕ) (sent : SentClut) (bytes : List ℕ) (chosen : Bool) (old mid new : Written) → i < length cluts
    → sent ≡ get_or cluts i sent → own ≡ map (clut_bytes epoch) cluts → bytes ≡ get_or own i bytes
    → chosen ≡ is_same_flag shared (list_any (bytes_eq bytes) others)
    → WritesMore (map (on page) (cluts_by shared others epoch (take i cluts))) old mid
    → WritesMore (map (on page) (when chosen (clut_segment_of epoch sent))) mid new
    → WritesMore (map (on page) (cluts_by shared others epoch (take (i + 1) cluts))) old new
clut_more page shared own others epoch cluts i sent bytes chosen old mid new inside is owns own_is chooses so_far one =
    let test : SegmentValue → Bool =
    λ (clut : SegmentValue). is_same_flag shared (list_any (bytes_eq (spelled 0 clut)) others)
    in
    let value : SentClut → SegmentValue = clut_segment_of epoch in
    let front : List SegmentValue = map value (take i cluts) in
    let same : bytes ≡ clut_bytes epoch sent =
    own_is ∙ ap (λ (all : List (List ℕ)). get_or all i bytes) owns
    ∙ get_or-map (clut_bytes epoch) cluts i sent bytes inside ∙ ap (clut_bytes epoch) (sym is)
    in
    let chose : when (test (value sent)) (value sent) ≡ when chosen (value sent) =
    ap (λ (b : Bool). when b (value sent))
    (sym (chooses ∙ ap (λ (b : List ℕ). is_same_flag shared (list_any (bytes_eq b) others)) same))
    in
    subst (λ (all : List Paged). WritesMore all old new)
    (sym
    (ap (λ (cs : List SentClut). map (on page) (filter test (map value cs)))
    (take_more cluts i sent inside ∙ ap (λ s. take i cluts ++ s ∷ []) (sym is))
    ∙ ap (λ (vs : List SegmentValue). map (on page) (filter test vs)) (map-append value (take i cluts) (sent ∷ []))
    ∙ ap (map (on page)) (filter-append test front (value sent ∷ []))
    ∙ ap (λ (vs : List SegmentValue). map (on page) (filter test front ++ vs)) chose
    ∙ map-append (on page) (filter test front) (when chosen (value sent))))
    (more_trans (map (on page) (filter test front)) (map (on page) (when chosen (value sent))) old mid new so_far one)

pub cluts_all : (page : ℕ) (shared : Bool) (others : List (List ℕ)) (epoch : Epoch) (cluts : List SentClut) (i : ℕ)
    (old new : Written) → length cluts ≤ i
    → WritesMore (map (on page) (cluts_by shared others epoch (take i cluts))) old new
    → WritesMore (map (on page) (cluts_by shared others epoch cluts)) old new
cluts_all page shared others epoch cluts i old new all so_far =
    subst (λ (cs : List SentClut). WritesMore (map (on page) (cluts_by shared others epoch cs)) old new)
    (take_all i cluts all) so_far
