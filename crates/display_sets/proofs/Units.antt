-- A unit that is put to the set in hand.
use Rattle.std.proofs.Common.{◌≡◌, ◌∙◌, ℕ, ◌+◌, true, false, List, [], ◌∷◌, ◌++◌, Option, Some, None, Err, refl, sym, ap, subst, arith, append-nil, length-append}
use Rattle.std.specs.Prelude.{find, unwrap_or, IfNone}
use Rattle.std.specs.Option.{option_or}
use Rattle.std.proofs.lemmas.List.Sums.{sum_by-append}
use Rattle.sub_base.specs.Lists.{prefixes}
use Rattle.stream_syntax.specs.DataField.{Frame}
use Rattle.decoder_model.specs.Arrivals.{PesUnit}
use Rattle.decoder_model.specs.Frames.{segments_in}
use Rattle.decoder_model.specs.Sets.{is_ended, frames_in, size_in, units_to_end, first_fault_in, excess_in, handed, set_of}
use Rattle.decoder_model.specs.declared.set_fault.SetFault.{SetFault}
use Rattle.decoder_model.proofs.Growth.{frames-append, ended_more}
use Rattle.decoder_model.proofs.OnePacket.{first_end}
use Rattle.display_sets.specs.Filling.{AreBytes, AreOpen, EndsWithin, Fills}
use Rattle.display_sets.specs.Gathered.{ready_set, ready_in}
use Rattle.display_sets.specs.Private.Hands.{hand_with, ready_head}
use Rattle.display_sets.specs.Standing.{AreOfTime, IsInHand, IsReady, AreReady}
use Rattle.display_sets.specs.declared.hand.Hand.{Hand}
use Rattle.display_sets.specs.declared.filling.Filled.{Filled}
use Rattle.display_sets.specs.declared.filling.Filled.TheVariants.{Open, Ended}
use Rattle.display_sets.proofs.Runs.{HaveTime}
use Rattle.display_sets.proofs.RunSets.{found_ended}
use Rattle.display_sets.proofs.LastRun.{have_time_too}
use Rattle.display_sets.proofs.Searches.{first_found, none_found}

-- ---- one unit more of a run

module _ (coded : ℕ) (units : List PesUnit) (one : PesUnit) where
  frames_more : frames_in (units ++ one ∷ []) ≡ frames_in units ++ one.frames
  frames_more = frames-append units (one ∷ []) ∙ ap (λ last. frames_in units ++ last) (append-nil one.frames)

  size_more : size_in (units ++ one ∷ []) ≡ size_in units + one.size
  size_more =
      let sum : size_in (units ++ one ∷ []) ≡ size_in units + (0 + one.size) =
      sum_by-append (λ (one : PesUnit). one.size) units (one ∷ []) in
      omega arith

  of_time_more : HaveTime one.time units → AreOfTime one.time (units ++ one ∷ [])
  of_time_more h = record {
    some = omega (arith, length-append units (one ∷ []));
    all = have_time_too one.time units one h refl;
  }

  -- the run is ended with the unit, and not before it, so that all of its units count for its size
  all_count : is_ended coded (frames_in units) ≡ false → is_ended coded (frames_in (units ++ one ∷ [])) ≡ true
      → units_to_end coded (units ++ one ∷ []) ≡ units ++ one ∷ []
  all_count before after =
      ap (λ found. unwrap_or found (units ++ one ∷ []))
      (first_found (λ (front : List PesUnit). is_ended coded (frames_in front)) stays units one [] before after)
    where
      stays : (some more : List PesUnit) → is_ended coded (frames_in some) ≡ true
          → is_ended coded (frames_in (some ++ more)) ≡ true
      stays some more e =
          ap (is_ended coded) (frames-append some more) ∙ ended_more coded (frames_in some) (frames_in more) e

-- ---- the set that it ends

-- a set that has ended stands in the memory as it is handed out
handed_ready : (time size own : ℕ) (frames : List Frame) (bytes : List ℕ) (fault found : Option SetFault)
    → fault ≡ found → IfNone fault (AreBytes (segments_in frames) bytes) → size ≡ own
    → IsReady (handed time own frames found) (ready_set bytes (record { time = time; size = size; fault = fault }))
handed_ready time size own frames bytes None None is are same = (refl, same, (bytes, refl, are))
handed_ready time size own frames bytes (Some fault) (Some found) is are same =
    (refl, same, let one : fault ≡ found = cc in ap Err one)
handed_ready time size own frames bytes None (Some found) is are same = absurd (cc)
handed_ready time size own frames bytes (Some fault) None is are same = absurd (cc)

-- what is in hand and ready behind the unit
pub record IsTaken (coded : ℕ) (units : List PesUnit) (one : PesUnit) (hand : Hand) (bytes : List ℕ) : Type 0 where
  pub in_hand : IsInHand coded (units ++ one ∷ []) hand bytes
  pub ready : AreReady (set_of coded one.time (units ++ one ∷ []) false (first_end coded (units ++ one ∷ [])))
      (ready_in (ready_head hand) bytes)

left_open : (coded : ℕ) (units : List PesUnit) (one : PesUnit) (total : ℕ) (bytes : List ℕ)
    → HaveTime one.time units → total ≡ size_in units + one.size
    → AreOpen coded (frames_in units ++ one.frames) bytes
    → IsTaken coded units one (hand_with one.time total Open) bytes
left_open coded units one total bytes h size so_far =
    let frames = frames_more coded units one in
    let still : is_ended coded (frames_in (units ++ one ∷ [])) ≡ false =
    ap (is_ended coded) frames ∙ so_far.no_end in
    let none : first_end coded (units ++ one ∷ []) ≡ None =
    none_found (is_ended coded) (ended_more coded) (frames_in (units ++ one ∷ [])) still in
    record {
      in_hand = record {
        of_time = of_time_more coded units one h;
        size_is = size ∙ sym (size_more coded units one);
        frames = subst (λ (all : List Frame). AreOpen coded all bytes) (sym frames) so_far;
      };
      ready = subst (λ found. AreReady (set_of coded one.time (units ++ one ∷ []) false found) []) (sym none) tt;
    }

comes_whole : (coded : ℕ) (units : List PesUnit) (one : PesUnit) (total : ℕ) (bytes : List ℕ)
    (fault : Option SetFault) → HaveTime one.time units → is_ended coded (frames_in units) ≡ false
    → total ≡ size_in units + one.size → EndsWithin coded (frames_in units ++ one.frames) bytes fault
    → IsTaken coded units one (hand_with one.time total (Ended fault)) bytes
comes_whole coded units one total bytes fault h before size ends =
    let frames = frames_more coded units one in
    let found : first_end coded (units ++ one ∷ []) ≡ Some ends.first =
    ap (λ all. find (is_ended coded) (prefixes all)) frames ∙ ends.found in
    let after = found_ended coded (frames_in (units ++ one ∷ [])) ends.first found in
    let own : total ≡ size_in (units_to_end coded (units ++ one ∷ [])) =
    size ∙ sym (size_more coded units one) ∙ sym (ap size_in (all_count coded units one before after)) in
    record {
      in_hand = record { of_time = of_time_more coded units one h; ended = after };
      ready =
          subst (λ found. AreReady (set_of coded one.time (units ++ one ∷ []) false found)
          (ready_set bytes (record { time = one.time; size = total; fault = fault }) ∷ [])) (sym found) (
            handed_ready one.time total (size_in (units_to_end coded (units ++ one ∷ []))) ends.first bytes fault
                (option_or (first_fault_in ends.first) (excess_in coded ends.first)) ends.is_end.fault_is
                ends.is_end.bytes_are own,
            tt,
          );
    }

pub unit_taken : (coded : ℕ) (units : List PesUnit) (one : PesUnit) (total : ℕ) (bytes : List ℕ)
    (filled : Filled) → HaveTime one.time units → is_ended coded (frames_in units) ≡ false
    → total ≡ size_in units + one.size → Fills coded (frames_in units) one.frames bytes filled
    → IsTaken coded units one (hand_with one.time total filled) bytes
unit_taken coded units one total bytes Open h before size fills = left_open coded units one total bytes h size fills
unit_taken coded units one total bytes (Ended fault) h before size fills =
    comes_whole coded units one total bytes fault h before size fills
