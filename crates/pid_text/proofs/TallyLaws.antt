-- What is counted of the PES packets of a PID, with one more.
use Rattle.std.proofs.Common.{◌≡◌, ℕ, ◌+◌, ◌-◌, ◌^◌, ◌∙◌, ◌⊎◌, inl, inr, false, List, [], ◌∷◌, ◌++◌, map, min, ap, arith, sym, subst, Some, None, filter_map, Ok, Err, append-nil, append_assoc}
use Rattle.std.proofs.lemmas.List.{length_push, reverse-append}
use Rattle.stream_syntax.specs.DataField.{Frame, frames_of}
use Rattle.stream_syntax.specs.Pes.{pes_of}
use Rattle.stream_syntax.specs.Tests.{byte_at, word_at}
use Rattle.stream_syntax.specs.declared.pes.PesFault.{PesFault}
use Rattle.segments.specs.Framing.{IsFirstFrame}
use Rattle.segments.specs.declared.frame.Frame.{Frame as FrameOfBytes}
use Rattle.pid_text.specs.PidText.{first_time}
use Rattle.pid_text.specs.PidUnits.{Head, SubtitleUnit, head_in, heads_of, read_as, subtitles_in}
use Rattle.pid_text.specs.Private.Listing.{IsListing, PageListing, closed}
use Rattle.pid_text.specs.Private.Tallying.{HasNoted, HasTallied}
use Rattle.pid_text.specs.declared.pid_tally.PidTally.{PidTally}
use Rattle.pid_text.proofs.ListingLaws.{listing_closed, nothing_listed}

-- nothing was counted
pub nothing_tallied : (tally : PidTally) → tally.units ≡ 0 → tally.first ≡ 0 → tally.last ≡ 0
    → tally.pages ≡ record { entries = []; more = false } → HasTallied [] tally
nothing_tallied tally units first last pages = record {
  count = units;
  first = first;
  last = last;
  pages = subst (IsListing [] []) (sym pages) nothing_listed;
}

-- ---- the segments of a field

pub none_noted : (frames left : List Frame) (pages : PageListing) → left ≡ frames → HasNoted frames left pages pages
none_noted frames left pages is = record {
  heads = [];
  counted_so = λ units listing. listing;
  all = ap (filter_map head_in) is;
}

pub one_noted : (frames left behind : List Frame) (old mid new : PageListing) (frame : FrameOfBytes)
    → HasNoted frames left old mid → IsFirstFrame left behind frame
    → ((units : List SubtitleUnit) (heads : List Head) → IsListing units heads mid
    → IsListing units (heads ++ record { kind = frame.kind; page = frame.page } ∷ []) new)
    → HasNoted frames behind old new
one_noted frames left behind old mid new frame so_far first notes =
    let head : Head = record { kind = frame.kind; page = frame.page } in
    let same : head ≡ record { kind = byte_at 1 first.bytes; page = word_at 2 first.bytes } =
    λ i. record { kind = first.is_frame.kind_is i; page = first.is_frame.page_is i } in
    let front : filter_map head_in left ≡ head ∷ filter_map head_in behind =
    ap (filter_map head_in) first.first ∙ ap (λ (h : Head). h ∷ filter_map head_in behind) (sym same) in record {
      heads = so_far.heads ++ head ∷ [];
      counted_so = λ units listing. notes units so_far.heads (so_far.counted_so units listing);
      all =
          append_assoc so_far.heads (head ∷ []) (filter_map head_in behind)
          ∙ ap (λ rest. so_far.heads ++ rest) (sym front) ∙ so_far.all;
    }

pub all_noted : (field : List ℕ) (left : List Frame) (old new : PageListing)
    → HasNoted (frames_of field) left old new → filter_map head_in left ≡ []
    → (units : List SubtitleUnit) → IsListing units [] old → IsListing units (heads_of field) new
unfolding heads_of
all_noted field left old new so_far none units listing =
    subst (λ (heads : List Head). IsListing units heads new)
    (sym (append-nil so_far.heads) ∙ ap (λ rest. so_far.heads ++ rest) (sym none) ∙ so_far.all)
    (so_far.counted_so units listing)

-- ---- a PES packet

first_more : (units : List SubtitleUnit) (unit : SubtitleUnit) (old : PidTally) (first : ℕ) → HasTallied units old
    → ((old.units ≡ 0) × (first ≡ unit.time)) ⊎ ((old.units ≡ 0 → ⊥) × (first ≡ old.first))
    → first ≡ first_time (units ++ unit ∷ [])
first_more [] unit old first tallied (inl fresh) = fresh.1
first_more [] unit old first tallied (inr later) = absurd (later.0 tallied.count)
first_more (one ∷ units) unit old first tallied (inl fresh) = absurd (omega (arith, tallied.count, fresh.0))
first_more (one ∷ units) unit old first tallied (inr later) = later.1 ∙ tallied.first

pub tallied_one : (units : List SubtitleUnit) (unit : SubtitleUnit) (old : PidTally) (first count : ℕ)
    (listed : PageListing) → HasTallied units old
    → ((old.units ≡ 0) × (first ≡ unit.time)) ⊎ ((old.units ≡ 0 → ⊥) × (first ≡ old.first))
    → count ≡ min (old.units + 1) (2 ^ 64 - 1) → IsListing units unit.heads listed
    → HasTallied (units ++ unit ∷ []) (record {
      units = count;
      first = first;
      last = unit.time;
      pages = record { entries = map closed listed.entries; more = listed.more };
    })
tallied_one units unit old first count listed tallied first_is count_is listing = record {
  count = omega (arith, count_is, tallied.count, length_push units unit);
  first = first_more units unit old first tallied first_is;
  last = ap first_time (sym (reverse-append units (unit ∷ [])));
  pages = listing_closed units unit listed listing;
}

-- what a unit is that was read, and one that is no PES packet of subtitles
pub read_unit : (bytes : List ℕ) (pes : ℕ × List ℕ) → pes_of bytes ≡ Ok pes
    → subtitles_in bytes ≡ Some (record { time = pes.0; heads = heads_of pes.1 })
unfolding subtitles_in
read_unit bytes pes is = ap read_as is

pub other_unit : (bytes : List ℕ) (fault : PesFault) → pes_of bytes ≡ Err fault → subtitles_in bytes ≡ None
unfolding subtitles_in
other_unit bytes fault is = ap read_as is

-- the tally with the time of the first PES packet
pub data HasFirst (old mid : PidTally) (time : ℕ) : Type 0 where
  is_first : old.units ≡ 0 → mid ≡ record old { first = time } → HasFirst old mid time
  is_later : (old.units ≡ 0 → ⊥) → mid ≡ old → HasFirst old mid time

pub tallied_pes : (units : List SubtitleUnit) (unit : SubtitleUnit) (old mid : PidTally) (count : ℕ)
    (listed pages : PageListing) → HasTallied units old → HasFirst old mid unit.time
    → count ≡ min (mid.units + 1) (2 ^ 64 - 1)
    → ((before : List SubtitleUnit) → IsListing before [] mid.pages → IsListing before unit.heads listed)
    → pages ≡ record { entries = map closed listed.entries; more = listed.more }
    → HasTallied (units ++ unit ∷ []) (record { units = count; first = mid.first; last = unit.time; pages = pages })
tallied_pes units unit old mid count listed pages tallied (is_first none is) count_is notes pages_are =
    subst (λ (all : PageListing). HasTallied (units ++ unit ∷ [])
    (record { units = count; first = mid.first; last = unit.time; pages = all }))
    (sym pages_are)
    (tallied_one units unit old mid.first count listed tallied (inl (none, ap (λ (t : PidTally). t.first) is))
    (count_is ∙ ap (λ (t : PidTally). min (t.units + 1) (2 ^ 64 - 1)) is)
    (notes units (subst (λ (t : PidTally). IsListing units [] t.pages) (sym is) tallied.pages)))
tallied_pes units unit old mid count listed pages tallied (is_later some is) count_is notes pages_are =
    subst (λ (all : PageListing). HasTallied (units ++ unit ∷ [])
    (record { units = count; first = mid.first; last = unit.time; pages = all }))
    (sym pages_are)
    (tallied_one units unit old mid.first count listed tallied (inr (some, ap (λ (t : PidTally). t.first) is))
    (count_is ∙ ap (λ (t : PidTally). min (t.units + 1) (2 ^ 64 - 1)) is)
    (notes units (subst (λ (t : PidTally). IsListing units [] t.pages) (sym is) tallied.pages)))
