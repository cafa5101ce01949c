-- What is kept of the pages of a PID, between the segments of its PES packets.
use Rattle.std.specs.Prelude.{◌≡◌, ℕ, ◌+◌, ◌<◌, ◌≤◌, ◌==◌, nat_lt, Bool, true, false, ◌||◌, if◌then◌else◌, List, [], ◌∷◌, length, map, count_by}
use Rattle.std.specs.List.{AllByRecursion}
use Rattle.stream_syntax.specs.declared.wire.TheConstants.{CLUT_DEFINITION, OBJECT_DATA, PAGE_COMPOSITION}
use Rattle.pid_text.specs.PidUnits.{Head, SubtitleUnit, ancillaries, compositions, has_composition, has_page, is_ancillary, is_named}
use Rattle.pid_text.specs.PidText.{AreRising, MOST_PAGES, counted, is_in}
use Rattle.pid_text.specs.declared.page_tally.PageTally.{PageTally}

-- the pages of a PID, and whether it has more
pub record PageListing : Type 0 where
  pub entries : List PageTally
  pub more : Bool

-- the pages that the entries are of, in their order
abbrev pub pages_of : List PageTally → List ℕ
pages_of entries = map (λ entry. entry.page) entries

-- one more, up to the greatest number of 64 bits
abbrev pub one_more : ℕ → ℕ
one_more count = counted (count + 1)

-- a page of which nothing was counted
abbrev pub fresh : ℕ → PageTally
fresh number = record { page = number; compositions = 0; ancillaries = 0; waiting = 0; is_composed = false }

-- the entry with one segment of its page more, of that kind
abbrev pub with_segment : ℕ → PageTally → PageTally
with_segment kind entry =
    if kind == PAGE_COMPOSITION then record entry { is_composed = true }
    else if kind == CLUT_DEFINITION || kind == OBJECT_DATA then record entry { waiting = one_more entry.waiting }
    else entry

-- the entry once the PES packet has ended
abbrev pub closed : PageTally → PageTally
closed entry =
    if entry.is_composed then record entry {
      compositions = one_more entry.compositions;
      waiting = 0;
      is_composed = false;
    }
    else record entry { ancillaries = counted (entry.ancillaries + entry.waiting); waiting = 0 }

-- entries in rising order with one segment more
unfoldable pub noted : Head → List PageTally → List PageTally
noted head [] = with_segment head.kind (fresh head.page) ∷ []
noted head (entry ∷ entries) =
    if nat_lt entry.page head.page then entry ∷ noted head entries
    else if entry.page == head.page then with_segment head.kind entry ∷ entries
    else with_segment head.kind (fresh head.page) ∷ entry ∷ entries

-- a page is named in PES packets, or in the heads of one that has not ended
abbrev pub is_met : ℕ → List SubtitleUnit → List Head → Bool
is_met page units heads = is_named page units || has_page page heads

-- the entry has the counts of its page
pub record IsTallied (units : List SubtitleUnit) (heads : List Head) (entry : PageTally) : Type 0 where
  pub compositions_are : entry.compositions ≡ counted (compositions entry.page units)
  pub ancillaries_are : entry.ancillaries ≡ counted (ancillaries entry.page units)
  pub waiting_is : entry.waiting ≡ counted (count_by (is_ancillary entry.page) heads)
  pub composed_is : entry.is_composed ≡ has_composition entry.page heads

-- a page that was named and has no entry
pub record IsPassedOver (units : List SubtitleUnit) (heads : List Head) (entries : List PageTally)
    (page : ℕ) : Type 0 where
  pub met : is_met page units heads ≡ true
  pub left_out : is_in page (pages_of entries) ≡ false

-- the pages of these PES packets, and of the heads of one that has not ended, are listed
pub record IsListing (units : List SubtitleUnit) (heads : List Head) (listing : PageListing) : Type 0 where
  pub rising : AreRising (pages_of listing.entries)
  pub few : length listing.entries ≤ MOST_PAGES
  pub tallied : AllByRecursion (IsTallied units heads) listing.entries
  pub met : AllByRecursion (λ entry. is_met entry.page units heads ≡ true) listing.entries
  pub all : listing.more ≡ false → (page : ℕ) → IsPassedOver units heads listing.entries page → ⊥
  pub some : listing.more ≡ true → (page : ℕ) × IsPassedOver units heads listing.entries page
  pub full : listing.more ≡ true → length listing.entries ≡ MOST_PAGES
  pub lowest : (page : ℕ) → IsPassedOver units heads listing.entries page
      → AllByRecursion (λ entry. entry.page < page) listing.entries
