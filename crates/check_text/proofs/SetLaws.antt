-- Sets that are taken, one after the other, and the calls of a packet with them.
use Rattle.std.proofs.Common.{◌≡◌, ◌∙◌, ℕ, ◌+◌, Bool, true, false, if◌then◌else◌, List, [], ◌∷◌, ◌++◌, length, take, drop, reverse, Some, append-nil, append_assoc, refl, sym, ap, subst, arith}
use Rattle.std.specs.Prelude.{IsSome}
use Rattle.std.proofs.lemmas.List.{length-append}
use Rattle.buffer_model.specs.Calls.{Call}
use Rattle.buffer_model.specs.Meters as meters
use Rattle.buffer_model.specs.Meters.{Meter}
use Rattle.command_text.specs.Putting.{Buffered, PutsOut}
use Rattle.command_text.proofs.PutLaws.{PutsOut-both, PutsOut-nothing}
use Rattle.decoder_model.specs.PacketArrivals.{PacketArrival, is_break}
use Rattle.decoder_model.specs.Painting.{set_load}
use Rattle.decoder_model.specs.Readings.{AreDeliveriesRead, IsDeliveryRead, Reading}
use Rattle.decoder_model.specs.Sets.{Delivery}
use Rattle.decoder_model.specs.Verdict.{verdict_of}
use Rattle.decoder_model.specs.declared.set_end.SetEnd.{SetEnd}
use Rattle.display_sets.specs.Gathered.{ReadySet, first_ready, ready_sets, sets_behind}
use Rattle.decoder_model.specs.Received.{Reception}
use Rattle.set_receiver.specs.Receiving.{IsNextReceived, IsSameReception, SetReceiving, HasBeenFed, reception}
use Rattle.received_level_laws.specs.StreamCalls.{arrived_in, calls_of_packet, drop_where}
use Rattle.received_level_laws.specs.ToldSets.{ToldCall, call_of_end, calls_told, done_by, of_no_set}
use Rattle.received_level_laws.proofs.ToldLaws.{calls_more}
use Rattle.stream_syntax.specs.declared.transport.Event.{Event}
use Rattle.sub_base.specs.Endpoints.{Received}
use Rattle.sub_base.specs.declared.load.SetLoad.{SetLoad}
use Rattle.sub_base.specs.declared.pace.Pace.{Pace}
use Rattle.check_text.specs.CheckText.{set_line}
use Rattle.set_receiver.specs.Taking.{HasNextReceived}
use Rattle.set_receiver.proofs.PastLaws.{IsTaken, taken_past}
use Rattle.check_text.specs.Checking.{Counts, IsCheckedTo, TakesCalls, TakesSets, behind_first, told_with}
use Rattle.check_text.proofs.StepLaws.{arrived_silent, counted, drop_silent, one_told, text_one, told_one, with_both}

-- ---- one set

one_less : (sets : List ReadySet) → IsSome (first_ready sets) → 1 + length (sets_behind sets) ≡ length sets
one_less [] some = absurd (let never : false ≡ true = some in cc)
one_less (set ∷ sets) some = omega arith

module _ (old new : SetReceiving) (start fin : Meter) (before now : Received) (was is : Buffered) (end : SetEnd)
    (load : SetLoad) (done : ℕ)
    (has_next : HasNextReceived old)
    (takes : (ended : Bool) (packets : List (List ℕ)) (given rest : List (Delivery (List ℕ)))
    (delivery : Delivery (List ℕ)) → IsNextReceived ended packets given delivery rest old
    → HasBeenFed ended packets (given ++ delivery ∷ []) new)
    (answers : (ended : Bool) (packets : List (List ℕ)) (given rest : List (Delivery (List ℕ)))
    (delivery : Delivery (List ℕ)) (past : List (Delivery Reading)) (one : Delivery Reading)
    → IsNextReceived ended packets given delivery rest old → AreDeliveriesRead (reverse given) past
    → IsDeliveryRead delivery one
    → Some end ≡ verdict_of (reception old).profile (reception old).anchor past one)
    (loads : (ended : Bool) (packets : List (List ℕ)) (given rest : List (Delivery (List ℕ)))
    (delivery : Delivery (List ℕ)) (past : List (Delivery Reading)) (one : Delivery Reading)
    → IsNextReceived ended packets given delivery rest old → AreDeliveriesRead (reverse given) past
    → IsDeliveryRead delivery one
    → Some new.load ≡ set_load (reception old).profile (reception old).anchor past one)
    (load_is : load ≡ new.load)
    (same : IsSameReception old new)
    (some : IsSome (first_ready (ready_sets old.collecting.sets)))
    (left : ready_sets new.collecting.sets ≡ sets_behind (ready_sets old.collecting.sets))
    (counts : (past : List Call) → meters.IsMeterOf past start → meters.IsMeterOf (call_of_end end load ∷ past) fin)
    (done_at : (past : List Call) → meters.IsMeterOf past start
    → done ≡ done_by start.pace past (call_of_end end load))
    (same_pace : fin.pace ≡ start.pace)
    (puts : PutsOut before now was is
    (set_line (record { set = record { end = end; load = load }; done = done }))) where
  told_so : (made : Reception) (past : List (Delivery Reading)) (one : Delivery Reading) → reception old ≡ made
      → Some end ≡ verdict_of (reception old).profile (reception old).anchor past one
      → Some new.load ≡ set_load (reception old).profile (reception old).anchor past one
      → told_with made past (one ∷ []) ≡ told_one end load ∷ []
  told_so made past one own is_end is_load =
      one_told made past one end load
      (is_end ∙ (λ i. verdict_of (own i).profile (own i).anchor past one))
      (ap Some load_is ∙ is_load ∙ (λ i. set_load (own i).profile (own i).anchor past one))

  comes : (made : Reception) (pace : Pace) (ended : Bool) (packets : List (List ℕ)) (past : List (Delivery Reading))
      (told : List ToldCall) (text : List ℕ) → IsCheckedTo made pace ended old start packets past told text
      → IsTaken ended packets past old new end
  comes made pace ended packets past told text at =
      taken_past old new end has_next takes answers loads ended packets past at.taken

  at_one : (made : Reception) (pace : Pace) (ended : Bool) (packets : List (List ℕ)) (past : List (Delivery Reading))
      (told : List ToldCall) (text : List ℕ) (at : IsCheckedTo made pace ended old start packets past told text)
      (next : IsTaken ended packets past old new end)
      → IsCheckedTo made pace ended new fin packets (next.one ∷ past) (told ++ told_one end load ∷ [])
      (text ++ set_line (record { set = record { end = end; load = load }; done = done }))
  at_one made pace ended packets past told text at next = record {
    own = same ∙ at.own;
    taken = next.has;
    pace_is = same_pace ∙ at.pace_is;
    metered =
        subst (λ (calls : List Call). meters.IsMeterOf calls fin) (sym (calls_more told (told_one end load ∷ [])))
        (counts (calls_told told) at.metered);
    whole = text_one pace told text end load done
        (done_at (calls_told told) at.metered
        ∙ ap (λ (p : Pace). done_by p (calls_told told) (call_of_end end load)) at.pace_is) at.whole;
  }

  count_one : (calls : List ToldCall) → calls ≡ told_one end load ∷ []
      → length calls + length (ready_sets new.collecting.sets) ≡ length (ready_sets old.collecting.sets)
  count_one calls is =
      omega (
        arith,
        ap (λ (l : List ToldCall). length l) is,
        ap (λ (l : List ReadySet). length l) left,
        one_less
            (ready_sets old.collecting.sets) some,
      )

  -- the set that is ready was taken
  pub set_taken : TakesSets before now old new start fin was is
  set_taken = record {
    goes = λ made pace ended packets past told text. λ at.
        let next = comes made pace ended packets past told text at in
        let call = told_so made past next.one at.own next.verdict next.load in (
          next.one ∷ [],
          set_line (record { set = record { end = end; load = load }; done = done }),
          count_one (told_with made past (next.one ∷ [])) call,
          subst (λ (calls : List ToldCall). IsCheckedTo made pace ended new fin packets (next.one ∷ past)
              (told ++ calls)
              (text ++ set_line (record { set = record { end = end; load = load }; done = done })))
              (sym call) (at_one made pace ended packets past told text at next),
          puts,
        );
  }

-- ---- several sets

pub taken_nothing : (shown : Received) (receiving : SetReceiving) (meter : Meter) (buffer : Buffered)
    → TakesSets shown shown receiving receiving meter meter buffer buffer
taken_nothing shown receiving meter buffer = record {
  goes = λ made pace ended packets past told text. λ at. (
    [],
    [],
    omega arith,
    subst (λ (calls : List ToldCall). IsCheckedTo made pace ended receiving meter packets past calls (text ++ []))
        (sym (append-nil told))
        (subst (λ (line : List ℕ). IsCheckedTo made pace ended receiving meter packets past told line)
        (sym (append-nil text))
        at),
    PutsOut-nothing shown buffer,
  );
}

at_both : (made : Reception) (pace : Pace) (ended : Bool) (receiving : SetReceiving) (meter : Meter)
    (packets : List (List ℕ))
    (past more later : List (Delivery Reading)) (told : List ToldCall) (text first second : List ℕ)
    → IsCheckedTo made pace ended receiving meter packets (later ++ (more ++ past))
    ((told ++ told_with made past more) ++ told_with made (more ++ past) later) ((text ++ first) ++ second)
    → IsCheckedTo made pace ended receiving meter packets ((later ++ more) ++ past)
    (told ++ told_with made past (later ++ more))
    (text ++ (first ++ second))
at_both made pace ended receiving meter packets past more later told text first second at =
    subst (λ (all : List (Delivery Reading)). IsCheckedTo made pace ended receiving meter packets all
    (told ++ told_with made past (later ++ more)) (text ++ (first ++ second))) (sym (append_assoc later more past))
    (subst (λ (calls : List ToldCall). IsCheckedTo made pace ended receiving meter packets (later ++ (more ++ past))
    calls
    (text ++ (first ++ second)))
    (append_assoc told (told_with made past more) (told_with made (more ++ past) later)
    ∙ ap (λ (calls : List ToldCall). told ++ calls) (sym (with_both made past more later)))
    (subst (λ (line : List ℕ). IsCheckedTo made pace ended receiving meter packets (later ++ (more ++ past))
    ((told ++ told_with made past more) ++ told_with made (more ++ past) later) line)
    (append_assoc text first second) at))

count_both : (made : Reception) (past more later : List (Delivery Reading)) (a b c : ℕ)
    → length (told_with made past more) + b ≡ a → length (told_with made (more ++ past) later) + c ≡ b
    → length (told_with made past (later ++ more)) + c ≡ a
count_both made past more later a b c one other =
    omega (
      arith,
      one,
      other,
      ap (λ (l : List ToldCall). length l) (with_both made past more later),
      length-append
          (told_with made past more) (told_with made (more ++ past) later),
    )

pub taken_both : (a b c : Received) (old mid new : SetReceiving) (start between fin : Meter) (was half is : Buffered)
    → TakesSets a b old mid start between was half → TakesSets b c mid new between fin half is
    → TakesSets a c old new start fin was is
taken_both a b c old mid new start between fin was half is one other = record {
  goes = λ made pace ended packets past told text. λ at.
      let first = one.goes made pace ended packets past told text at in
      let second =
      other.goes made pace ended packets (first.0 ++ past) (told ++ told_with made past first.0) (text ++ first.1)
      first.3 in (
        second.0 ++ first.0,
        first.1 ++ second.1,
        count_both made past first.0 second.0 _ _ _ first.2 second.2,
        at_both made pace ended new fin packets past first.0 second.0 told text first.1 second.1 second.3,
        PutsOut-both a b c was half is first.1 second.1 first.4 second.4,
      );
}

-- ---- a packet

-- the calls of the sets that come with a packet, by the one that stands before its bytes
parted : (first : Bool) (sets : List ReadySet) (rest : List ReadySet) (one other : List ToldCall)
    → rest ≡ behind_first first sets → length one + length rest ≡ length sets
    → length other + 0 ≡ length rest
    → ((if first then take 1 (one ++ other) else []) ≡ one)
    × ((if first then drop 1 (one ++ other) else one ++ other) ≡ other)
parted true [] rest [] [] left few fewer = (refl, refl)
parted true [] rest [] (call ∷ other) left few fewer = absurd (omega (arith, few, fewer))
parted true [] rest (call ∷ one) other left few fewer = absurd (omega (arith, few))
parted true (set ∷ sets) rest [] other left few fewer =
    absurd (omega (arith, few, ap (λ (l : List ReadySet). length l) left))
parted true (set ∷ sets) rest (call ∷ []) other left few fewer = (refl, refl)
parted true (set ∷ sets) rest (call ∷ next ∷ one) other left few fewer =
    absurd (omega (arith, few, ap (λ (l : List ReadySet). length l) left))
parted false sets rest [] other left few fewer = (refl, refl)
parted false sets rest (call ∷ one) other left few fewer =
    absurd (omega (arith, few, ap (λ (l : List ReadySet). length l) left))

joined : (told a b c d e : List ToldCall)
    → ((((told ++ a) ++ b) ++ c) ++ d) ++ e ≡ told ++ (a ++ (b ++ (c ++ (d ++ e))))
joined told a b c d e =
    append_assoc (((told ++ a) ++ b) ++ c) d e ∙ append_assoc ((told ++ a) ++ b) c (d ++ e)
    ∙ append_assoc (told ++ a) b (c ++ (d ++ e)) ∙ append_assoc told a (b ++ (c ++ (d ++ e)))

module _ (event : Event) (arrival : PacketArrival) (slot : ℕ) where
  -- what breaks off, arrives, and is dropped with the packet
  abbrev breaks : List ToldCall
  breaks = drop_where of_no_set (is_break event)

  abbrev arrives : List ToldCall
  arrives = arrived_in of_no_set slot arrival.bytes

  abbrev drops : List ToldCall
  drops = drop_where of_no_set arrival.dropped

  packet_calls : (all one other : List ToldCall) → all ≡ one ++ other
      → ((if arrival.before then take 1 (one ++ other) else []) ≡ one)
      × ((if arrival.before then drop 1 (one ++ other) else one ++ other) ≡ other)
      → breaks ++ (one ++ (arrives ++ (other ++ drops))) ≡ calls_of_packet of_no_set event arrival slot all
  packet_calls all one other is both =
      ap (λ (l : List ToldCall). breaks ++ (l ++ (arrives ++ (other ++ drops)))) (sym both.0)
      ∙ ap (λ (l : List ToldCall). breaks
      ++ ((if arrival.before then take 1 (one ++ other) else []) ++ (arrives ++ (l ++ drops)))) (sym both.1)
      ∙ ap (calls_of_packet of_no_set event arrival slot) (sym is)

  module _ (a b c : Received) (old mid new : SetReceiving) (m0 m1 m2 m3 m4 m5 : Meter) (was half is : Buffered)
      (broken : Counts m0 m1 breaks)
      (one : TakesSets a b old mid m1 m2 was half)
      (left : ready_sets mid.collecting.sets ≡ behind_first arrival.before (ready_sets old.collecting.sets))
      (arrived : Counts m2 m3 arrives)
      (other : TakesSets b c mid new m3 m4 half is)
      (none : ready_sets new.collecting.sets ≡ [])
      (dropped : Counts m4 m5 drops) where
    -- what comes of the whole packet
    abbrev Comes_of : (made : Reception) (pace : Pace) (packets : List (List ℕ)) (past : List (Delivery Reading))
        (told : List ToldCall) (text : List ℕ) → Type 0
    Comes_of made pace packets past told text =
        (more : List (Delivery Reading)) × (line : List ℕ)
        × IsCheckedTo made pace false new m5 packets (more ++ past)
        (told ++ calls_of_packet of_no_set event arrival slot (told_with made past more)) (text ++ line)
        × PutsOut a c was is line

    second : (made : Reception) (pace : Pace) (packets : List (List ℕ)) (past more later : List (Delivery Reading))
        (told : List ToldCall) (text line after : List ℕ)
        → length (told_with made past more) + length (ready_sets mid.collecting.sets)
        ≡ length (ready_sets old.collecting.sets)
        → length (told_with made (more ++ past) later) + length (ready_sets new.collecting.sets)
        ≡ length (ready_sets mid.collecting.sets)
        → IsCheckedTo made pace false new m4 packets (later ++ (more ++ past))
        ((((told ++ breaks) ++ told_with made past more) ++ arrives) ++ told_with made (more ++ past) later)
        ((text ++ line) ++ after)
        → PutsOut a b was half line → PutsOut b c half is after → Comes_of made pace packets past told text
    second made pace packets past more later told text line after few fewer at puts more_puts =
        let first_calls : List ToldCall = told_with made past more in
        let other_calls : List ToldCall = told_with made (more ++ past) later in
        let rest : length other_calls + 0 ≡ length (ready_sets mid.collecting.sets) =
        omega (arith, fewer, ap (λ (l : List ReadySet). length l) none) in (
          later ++ more,
          line ++ after,
          subst (λ (all : List (Delivery Reading)). IsCheckedTo made pace false new m5 packets all
              (told ++ calls_of_packet of_no_set event arrival slot (told_with made past (later ++ more)))
              (text ++ (line ++ after))) (sym (append_assoc later more past))
              (subst (λ (l : List ℕ). IsCheckedTo made pace false new m5 packets (later ++ (more ++ past))
              (told ++ calls_of_packet of_no_set event arrival slot (told_with made past (later ++ more))) l)
              (append_assoc text line after)
              (subst (λ (calls : List ToldCall). IsCheckedTo made pace false new m5 packets (later ++ (more ++ past))
              calls
              ((text ++ line) ++ after))
              (joined told breaks first_calls arrives other_calls drops
              ∙ ap (λ (calls : List ToldCall). told ++ calls)
              (packet_calls (told_with made past (later ++ more)) first_calls other_calls
              (with_both made past more later)
              (parted arrival.before (ready_sets old.collecting.sets) (ready_sets mid.collecting.sets) first_calls
              other_calls left few
              rest)))
              (counted made pace false new m4 m5 packets (later ++ (more ++ past))
              ((((told ++ breaks) ++ first_calls) ++ arrives) ++ other_calls) drops ((text ++ line) ++ after)
              (drop_silent arrival.dropped) dropped at))),
          PutsOut-both a b c was half is line after puts more_puts,
        )

    first : (made : Reception) (pace : Pace) (packets : List (List ℕ)) (past more : List (Delivery Reading))
        (told : List ToldCall)
        (text line : List ℕ)
        → length (told_with made past more) + length (ready_sets mid.collecting.sets)
        ≡ length (ready_sets old.collecting.sets)
        → IsCheckedTo made pace false mid m2 packets (more ++ past) ((told ++ breaks) ++ told_with made past more)
        (text ++ line)
        → PutsOut a b was half line → Comes_of made pace packets past told text
    first made pace packets past more told text line few at puts =
        let next =
        other.goes made pace false packets (more ++ past) (((told ++ breaks) ++ told_with made past more) ++ arrives)
        (text ++ line)
        (counted made pace false mid m2 m3 packets (more ++ past) ((told ++ breaks) ++ told_with made past more) arrives
        (text ++ line) (arrived_silent slot arrival.bytes) arrived at) in
        second made pace packets past more next.0 told text line next.1 few next.2 next.3 puts next.4

    -- the calls of a packet, one after the other
    pub calls_taken : TakesCalls event arrival slot a c old new m0 m5 was is
    calls_taken = record {
      goes = λ made pace packets past told text. λ at.
          let next =
          one.goes made pace false packets past (told ++ breaks) text
          (counted made pace false old m0 m1 packets past told breaks text (drop_silent (is_break event)) broken at) in
          first made pace packets past next.0 told text next.1 next.2 next.3 next.4;
    }
