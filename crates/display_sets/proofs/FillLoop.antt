-- A field whose segments are put behind those of an open set, one after another.
use Rattle.std.proofs.Common.{◌≡◌, ◌∙◌, ℕ, ◌<◌, ◌≤◌, ◌⊎◌, inl, inr, true, false, List, [], ◌∷◌, ◌++◌, length, Option, Some, refl, sym, ap, subst, arith, append-nil, append_assoc}
use Rattle.stream_syntax.specs.DataField.{Frame, segment, broken}
use Rattle.stream_syntax.specs.declared.segment_fault.SegmentFault.{SegmentFault}
use Rattle.decoder_model.specs.declared.pages.Pages.{Pages}
use Rattle.decoder_model.specs.Sets.{is_ended}
use Rattle.decoder_model.specs.declared.set_fault.SetFault.{SetFault}
use Rattle.decoder_model.specs.declared.set_fault.SetFault.TheVariants.{Segment}
use Rattle.std.specs.Prelude.{find}
use Rattle.sub_base.specs.Lists.{prefixes, has_some}
use Rattle.decoder_model.proofs.Growth.{ended_more}
use Rattle.display_sets.specs.Counted.{counted_in}
use Rattle.display_sets.specs.Filling.{AreOpen, EndsSet, Adds, EndsWithin, Fills, GrowsOpen}
use Rattle.display_sets.specs.Private.Hands.{is_still_open}
use Rattle.display_sets.specs.declared.filling.Filled.{Filled}
use Rattle.display_sets.specs.declared.filling.Filled.TheVariants.{Open, Ended}
use Rattle.display_sets.proofs.FillingLaws.{ends_broken}
use Rattle.display_sets.proofs.Searches.{first_found}

-- what counts of the field was put behind these frames so far, and their set is open still
pub record ArePassed (pages : Pages) (coded : ℕ) (field rest : List ℕ) (front : List Frame)
    (bytes : List ℕ) : Type 0 where
  pub passed : List Frame
  pub still : AreOpen coded (front ++ passed) bytes
  pub split : counted_in pages field ≡ passed ++ counted_in pages rest

-- the bytes began as those, whatever frames they were of
pub record IsFilling (pages : Pages) (coded : ℕ) (field rest start bytes : List ℕ) : Type 0 where
  pub longer : length start ≤ length bytes
  pub grown : (length start < length bytes) ⊎ (counted_in pages field ≡ counted_in pages rest)
  pub so_far : (front : List Frame) → AreOpen coded front start → ArePassed pages coded field rest front bytes

pub fill_begins : (pages : Pages) (coded : ℕ) (field start : List ℕ)
    → IsFilling pages coded field field start start
fill_begins pages coded field start = record {
  longer = omega arith;
  grown = inr refl;
  so_far =
      λ front. λ is. record {
        passed = [];
        still = subst (λ (frames : List Frame). AreOpen coded frames start)
            (sym (append-nil front)) is;
        split = refl;
      };
}

-- the set ends with the next frame
ends_at : (pages : Pages) (coded : ℕ) (field rest bytes content : List ℕ) (front : List Frame) (frame : Frame)
    (behind : List Frame) (fault : Option SetFault) (h : ArePassed pages coded field rest front bytes)
    → counted_in pages rest ≡ frame ∷ behind → EndsSet coded ((front ++ h.passed) ++ frame ∷ []) content fault
    → EndsWithin coded (front ++ counted_in pages field) content fault
ends_at pages coded field rest bytes content front frame behind fault h next is_end = record {
  first = (front ++ h.passed) ++ frame ∷ [];
  found =
      subst (λ (frames : List Frame). find (is_ended coded) (prefixes frames)
      ≡ Some ((front ++ h.passed) ++ frame ∷ []))
      (append_assoc front h.passed (frame ∷ behind) ∙ ap (λ left. front ++ (h.passed ++ left)) (sym next)
      ∙ ap (λ all. front ++ all) (sym h.split))
      (first_found (is_ended coded) (ended_more coded) (front ++ h.passed) frame behind h.still.no_end is_end.ended);
  is_end = is_end;
}

pub fill_broken : (pages : Pages) (coded : ℕ) (field rest start bytes : List ℕ) (fault : SegmentFault)
    (filled : Filled) → IsFilling pages coded field rest start bytes → counted_in pages rest ≡ broken fault ∷ []
    → filled ≡ Ended (Some (Segment fault)) → (front : List Frame) → AreOpen coded front start
    → Fills coded front (counted_in pages field) bytes filled
fill_broken pages coded field rest start bytes fault filled h next is front at_start =
    let there = h.so_far front at_start in
    subst (λ (end : Filled). Fills coded front (counted_in pages field) bytes end) (sym is)
    (ends_at pages coded field rest bytes bytes front (broken fault) [] (Some (Segment fault)) there next
    (ends_broken coded (front ++ there.passed) fault bytes bytes there.still))

-- it ends with a segment
pub fill_ended : (pages : Pages) (coded : ℕ) (field rest start bytes part behind new : List ℕ) (filled : Filled)
    → IsFilling pages coded field rest start bytes
    → counted_in pages rest ≡ segment part ∷ counted_in pages behind
    → is_still_open filled ≡ false
    → ((front : List Frame) → AreOpen coded front bytes → Adds coded front (segment part) new filled)
    → (front : List Frame) → AreOpen coded front start → Fills coded front (counted_in pages field) new filled
fill_ended pages coded field rest start bytes part behind new Open h next is adds front at_start = absurd (cc)
fill_ended pages coded field rest start bytes part behind new (Ended fault) h next is adds front at_start =
    let there = h.so_far front at_start in
    ends_at pages coded field rest bytes new front (segment part) (counted_in pages behind) fault there next
    (adds (front ++ there.passed) there.still)

pub grows_ended : (old new : List ℕ) (filled : Filled) → is_still_open filled ≡ false → GrowsOpen old new filled
grows_ended old new Open is = absurd (cc)
grows_ended old new (Ended fault) is = tt

-- it stays open
pub fill_more : (pages : Pages) (coded : ℕ) (field rest start bytes part behind new : List ℕ) (filled : Filled)
    → IsFilling pages coded field rest start bytes
    → counted_in pages rest ≡ segment part ∷ counted_in pages behind
    → is_still_open filled ≡ true
    → ((front : List Frame) → AreOpen coded front bytes → Adds coded front (segment part) new filled)
    → GrowsOpen bytes new filled → IsFilling pages coded field behind start new
fill_more pages coded field rest start bytes part behind new Open h next is adds grows =
    let longer = h.longer in
    record {
      longer = omega arith;
      grown = inl (omega arith);
      so_far = λ front. λ at_start.
          let there = h.so_far front at_start in
          record {
            passed = there.passed ++ segment part ∷ [];
            still =
                subst (λ (frames : List Frame). AreOpen coded frames new)
                (append_assoc front there.passed (segment part ∷ [])) (adds (front ++ there.passed) there.still);
            split =
                there.split ∙ ap (λ left. there.passed ++ left) next
                ∙ sym (append_assoc there.passed (segment part ∷ []) (counted_in pages behind));
          };
    }
fill_more pages coded field rest start bytes part behind new (Ended fault) h next is adds grows = absurd (cc)

-- nothing is left that counts
pub fill_open : (pages : Pages) (coded : ℕ) (field rest start bytes : List ℕ)
    → IsFilling pages coded field rest start bytes → counted_in pages rest ≡ []
    → (front : List Frame) → AreOpen coded front start → AreOpen coded (front ++ counted_in pages field) bytes
fill_open pages coded field rest start bytes h none front at_start =
    let there = h.so_far front at_start in
    let all : counted_in pages field ≡ there.passed =
    there.split ∙ ap (λ left. there.passed ++ left) none ∙ append-nil there.passed in
    subst (λ (more : List Frame). AreOpen coded (front ++ more) bytes) (sym all) there.still

pub grows_open : (pages : Pages) (coded : ℕ) (field rest start bytes : List ℕ)
    → IsFilling pages coded field rest start bytes → counted_in pages rest ≡ []
    → has_some (counted_in pages field) ≡ true → length start < length bytes
grows_open pages coded field rest start bytes h none some = by h.grown
  where
    by : (length start < length bytes) ⊎ (counted_in pages field ≡ counted_in pages rest)
        → length start < length bytes
    by (inl more) = more
    by (inr same) = let empty : has_some (counted_in pages field) ≡ false = ap has_some (same ∙ none) in absurd (cc)
