-- Two streams that are joined, from moment to moment.
use Rattle.std.proofs.Common.{◌≡◌, ◌≤◌, ◌⊎◌, inl, inr, ℕ, ◌-◌, ◌*◌, true, List, [], length, refl, sym, subst, append-nil, arith}
use Rattle.std.specs.List.{concat}
use Rattle.std.proofs.lemmas.List.Elements.{All-nil}
use Rattle.sub_base.specs.Endpoints.{Received, Supplied}
use Rattle.sub_base.specs.Seen.{Seen, seen}
use Rattle.command_text.specs.Putting.{Buffered, IsPutOut, PutsOut}
use Rattle.command_text.proofs.PutOutLaws.{fresh, put_nothing}
use Rattle.packet_source.specs.declared.limits.TheConstants.{STREAM_LIMIT}
use Rattle.stream_syntax.specs.TransportPackets.{has_sync}
use Rattle.service_mux.specs.Multiplex.{frames_of, table_packets}
use Rattle.service_mux.specs.Private.Frames.{ArePassed, HaveJoined, HavePassed}
use Rattle.service_mux.specs.Private.Lanes.{HasPassed, IsSound, Keeps}
use Rattle.service_mux.specs.declared.lane.Lane.{Lane}
use Rattle.service_mux.specs.declared.mux_words.ServicePair.{ServicePair}
use Rattle.service_mux.proofs.LaneLaws.{few_passed}

-- ---- from moment to moment

-- before any frame
unfolded_none : (pair : ServicePair) → frames_of pair [] [] 0 ≡ table_packets pair
unfolding frames_of
unfolded_none pair = append-nil (table_packets pair)

pub join_none : (pair : ServicePair) (before : Seen) (out : Received) (one two : Lane) (was is : Buffered)
    → HasPassed before.first before.first one [] → HasPassed before.second before.second two [] → was ≡ fresh
    → PutsOut before.out out was is (concat (table_packets pair))
    → HaveJoined pair before (seen before.first before.second out) one two is 0
join_none pair before out one two was is first second is_fresh puts = record {
  passed = record {
    first = [];
    second = [];
    first_passed = first;
    second_passed = second;
    synced = (All-nil (λ (p : List ℕ). has_sync p ≡ true), All-nil (λ (p : List ℕ). has_sync p ≡ true));
    first_count = inl refl;
    second_count = inl refl;
    longest = inl (omega arith);
    first_kept = omega arith;
    second_kept = omega arith;
  };
  out =
      subst (λ (frames : List (List ℕ)). IsPutOut before.out out is (concat frames)) (sym (unfolded_none pair))
      (puts.extends before.out [] (put_nothing before.out was is_fresh));
}

pub still : (old new : Lane) (packets : List (List ℕ)) (frame : ℕ)
    → (old.is_ended ≡ true → new.is_ended ≡ true) → ArePassed old packets frame
    → ArePassed new packets frame
still old new packets frame kept (inl is) = inl is
still old new packets frame kept (inr ended) = inr (kept ended.0, ended.1)

-- the first stream was read on, and the second one
abbrev pub first_on : (before : Seen) (first next second : Supplied) (one one_new two : Lane) (frame : ℕ)
    → HavePassed before first second one two frame
    → Keeps first next one one_new → (one.is_ended ≡ true → one_new.is_ended ≡ true)
    → first.faults ≤ next.faults → HavePassed before next second one_new two frame
first_on before first next second one one_new two frame passed keeps ended kept = record {
  first = passed.first;
  second = passed.second;
  first_passed = keeps before.first passed.first passed.first_passed;
  second_passed = passed.second_passed;
  synced = passed.synced;
  first_count = still one one_new passed.first frame ended passed.first_count;
  second_count = passed.second_count;
  longest = passed.longest;
  first_kept = omega (arith, passed.first_kept, kept);
  second_kept = passed.second_kept;
}

abbrev pub second_on : (before : Seen) (first second next : Supplied) (one two two_new : Lane) (frame : ℕ)
    → HavePassed before first second one two frame
    → Keeps second next two two_new → (two.is_ended ≡ true → two_new.is_ended ≡ true)
    → second.faults ≤ next.faults → HavePassed before first next one two_new frame
second_on before first second next one two two_new frame passed keeps ended kept = record {
  first = passed.first;
  second = passed.second;
  first_passed = passed.first_passed;
  second_passed = keeps before.second passed.second passed.second_passed;
  synced = passed.synced;
  first_count = passed.first_count;
  second_count = still two two_new passed.second frame ended passed.second_count;
  longest = passed.longest;
  first_kept = passed.first_kept;
  second_kept = omega (arith, passed.second_kept, kept);
}

-- there are fewer frames than a stream has bytes
pub few_frames : (before : Seen) (first second : Supplied) (one two : Lane) (frame : ℕ)
    → HavePassed before first second one two frame → IsSound one → IsSound two → 188 * frame ≤ STREAM_LIMIT
few_frames before first second one two frame passed first_sound second_sound =
    few_by passed.longest (few_passed before.first first one passed.first passed.first_passed first_sound)
    (few_passed before.second second two passed.second passed.second_passed second_sound)
  where
    few_by : (frame ≤ length passed.first) ⊎ (frame ≤ length passed.second)
        → 188 * length passed.first ≤ STREAM_LIMIT → 188 * length passed.second ≤ STREAM_LIMIT
        → 188 * frame ≤ STREAM_LIMIT
    few_by (inl below) first_few second_few = omega (arith, below, first_few)
    few_by (inr below) first_few second_few = omega (arith, below, second_few)
