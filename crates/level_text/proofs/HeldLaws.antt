-- Packets that are held are taken one after the other, and those between them bring nothing.
use Rattle.std.proofs.Common.{◌≡◌, ◌∙◌, ℕ, zero, suc, ◌+◌, ◌<◌, ◌≤◌, ◌==◌, ◌⊎◌, inl, inr, Bool, true, false, if◌then◌else◌, IfSome, List, [], ◌∷◌, ◌++◌, length, drop, get_or, Option, Some, None, append-nil, append_assoc, length-append, refl, sym, ap, subst, arith}
use Rattle.std.specs.List.{AllByRecursion}
use Rattle.check_text.specs.Checking.{Checking, HasMetered}
use Rattle.check_text.specs.Others.{IsOther}
use Rattle.check_text.proofs.OtherLaws.{other_metered}
use Rattle.command_text.specs.Putting.{Buffered}
use Rattle.command_text.proofs.PutLaws.{PutsOut-both, PutsOut-nothing}
use Rattle.decoder_model.specs.Received.{Reception}
use Rattle.packet_walk.specs.Told.{TellsOne}
use Rattle.pcr_clock.specs.Arrivals.{IsBehind, last_tick, tick_between}
use Rattle.pcr_clock.specs.declared.arrival.NextSample.{NextSample}
use Rattle.pcr_clock.proofs.RunLaws.{between_first, between_last, between_rises}
use Rattle.set_receiver.specs.Receiving.{reception}
use Rattle.stream_syntax.specs.TransportPackets.{packet_fault, pid_of}
use Rattle.sub_base.specs.Endpoints.{Received}
use Rattle.level_text.specs.Held.{AreHeld, AreValidPackets, TakesHeld, end_tick, held_of, tick_in}
use Rattle.level_text.specs.declared.held.HeldPacket.{HeldPacket}
use Rattle.level_text.specs.declared.held.Run.{Run}

-- ---- ticks

-- they do not fall
pub between_up_to : (last : Option ℕ) (next : Option NextSample) (one other : ℕ) → IsBehind last next → one ≤ other
    → tick_between last one next ≤ tick_between last other next
between_up_to last next one zero is below =
    let same : one ≡ 0 = omega (arith, below) in
    subst (λ (n : ℕ). tick_between last n next ≤ tick_between last 0 next) (sym same) (omega arith)
between_up_to last next one (suc other) is below =
    by (nat_cases one other below) (between_up_to last next one other is)
  where
    nat_cases : (one other : ℕ) → one ≤ suc other → (one ≤ other) ⊎ (one ≡ suc other)
    nat_cases one other below = grind arith

    by : (one ≤ other) ⊎ (one ≡ suc other)
        → (one ≤ other → tick_between last one next ≤ tick_between last other next)
        → tick_between last one next ≤ tick_between last (suc other) next
    by (inl before) behind =
        let same : other + 1 ≡ suc other = omega arith in
        subst (λ (n : ℕ). tick_between last one next ≤ tick_between last n next) same
        (omega (arith, behind before, between_rises last other next is))
    by (inr at) behind =
        subst (λ (n : ℕ). tick_between last n next ≤ tick_between last (suc other) next) (sym at) (omega arith)

-- none comes behind the next sample
pub until_end : (last : Option ℕ) (next : Option NextSample) (behind end : ℕ) → IsBehind last next
    → IfSome next (λ sample. end ≤ sample.behind) → behind < end
    → tick_between last behind next ≤ end_tick last next
until_end last None behind end is within below = omega arith
until_end last (Some sample) behind end is within below =
    between_last last behind sample is (omega (arith, within, below))

pub last_until_end : (last : Option ℕ) (next : Option NextSample) → IsBehind last next
    → last_tick last ≤ end_tick last next
last_until_end last None is = omega arith
last_until_end last (Some sample) is =
    omega (arith, between_first last 0 (Some sample) is, between_last last 0 sample is (omega arith))

-- ---- packets of other PIDs

abbrev AreOthers : ℕ → List (List ℕ) → Type 0
AreOthers pid packets = AllByRecursion (IsOther pid) packets

-- where none is held, all are of other PIDs
none_own : (pid since : ℕ) (packets : List (List ℕ)) → [] ≡ held_of pid since packets → AreValidPackets pid packets
    → AreOthers pid packets
none_own pid since [] none sound = tt
none_own pid since (packet ∷ packets) none sound =
    by (pid_of packet == pid) refl none (λ rest. none_own pid (since + 1) packets rest sound.1)
  where
    by : (b : Bool) → (pid_of packet == pid) ≡ b
        → [] ≡ (if b then record { behind = since; packet = packet } ∷ held_of pid (since + 1) packets
        else held_of pid (since + 1) packets)
        → ([] ≡ held_of pid (since + 1) packets → AreOthers pid packets)
        → IsOther pid packet × AreOthers pid packets
    by true is none rest = absurd (cc)
    by false is none rest =
        (record { bytes = sound.0.bytes; faultless = sound.0.faultless; other = is }, rest none)

-- they were taken as well
others_metered : (slot_of : ℕ → ℕ) (sets : Checking) (taken packets : List (List ℕ)) (text : List ℕ)
    → AreOthers (reception sets.receiving).pid packets → HasMetered slot_of sets taken text
    → HasMetered slot_of sets (taken ++ packets) text
others_metered slot_of sets taken [] text are has =
    subst (λ (all : List (List ℕ)). HasMetered slot_of sets all text) (sym (append-nil taken)) has
others_metered slot_of sets taken (packet ∷ packets) text are has =
    subst (λ (all : List (List ℕ)). HasMetered slot_of sets all text) (append_assoc taken (packet ∷ []) packets)
    (others_metered slot_of sets (taken ++ packet ∷ []) packets text are.1
    (other_metered slot_of sets taken packet text are.0 has))

-- ---- the last one that is held

-- packets, with one of the PID and those behind it, which are of other PIDs
record LastOwn (pid since : ℕ) (front_held : List HeldPacket) (one : HeldPacket) (packets : List (List ℕ))
    : Type 0 where
  pub front : List (List ℕ)
  pub others : List (List ℕ)
  pub all : packets ≡ front ++ one.packet ∷ others
  pub own : front_held ≡ held_of pid since front
  pub place : since + length front ≡ one.behind
  pub sound : AreValidPackets pid front
  pub are_others : AreOthers pid others

last_own : (pid since : ℕ) (held : List HeldPacket) (one : HeldPacket) (packets : List (List ℕ))
    → held ++ one ∷ [] ≡ held_of pid since packets → AreValidPackets pid packets → LastOwn pid since held one packets
last_own pid since [] one [] is sound = absurd (cc)
last_own pid since (first ∷ held) one [] is sound = absurd (cc)
last_own pid since held one (packet ∷ packets) is sound =
    by (pid_of packet == pid) refl held is
    (λ rest mine. last_own pid (since + 1) rest one packets mine sound.1)
  where
    own : HeldPacket
    own = record { behind = since; packet = packet }

    by : (b : Bool) → (pid_of packet == pid) ≡ b → (held : List HeldPacket)
        → held ++ one ∷ [] ≡ (if b then own ∷ held_of pid (since + 1) packets else held_of pid (since + 1) packets)
        → ((rest : List HeldPacket) → rest ++ one ∷ [] ≡ held_of pid (since + 1) packets
        → LastOwn pid (since + 1) rest one packets)
        → LastOwn pid since held one (packet ∷ packets)
    by true test [] is rest =
        let first : one ≡ own = cc in
        let none : [] ≡ held_of pid (since + 1) packets = cc in
        record {
          front = [];
          others = packets;
          all = ap (λ (h : HeldPacket). h.packet ∷ packets) (sym first);
          own = refl;
          place =
              let here : since + 0 ≡ since = omega arith in here ∙ ap (λ (h : HeldPacket). h.behind) (sym first);
          sound = tt;
          are_others = none_own pid (since + 1) packets none sound.1;
        }
    by true test (first ∷ held) is rest =
        let head : first ≡ own = cc in
        let tail : held ++ one ∷ [] ≡ held_of pid (since + 1) packets = cc in
        let found = rest held tail in
        record {
          front = packet ∷ found.front;
          others = found.others;
          all = ap (λ (l : List (List ℕ)). packet ∷ l) found.all;
          own =
              (λ i. head i ∷ found.own i)
              ∙ sym (ap (λ (b : Bool). if b then own ∷ held_of pid (since + 1) found.front
              else held_of pid (since + 1) found.front) test);
          place =
              let on : since + suc (length found.front) ≡ since + 1 + length found.front = omega arith in
              on ∙ found.place;
          sound = (sound.0, found.sound);
          are_others = found.are_others;
        }
    by false test held is rest =
        let found = rest held is in
        record {
          front = packet ∷ found.front;
          others = found.others;
          all = ap (λ (l : List (List ℕ)). packet ∷ l) found.all;
          own =
              found.own
              ∙ sym (ap (λ (b : Bool). if b then own ∷ held_of pid (since + 1) found.front
              else held_of pid (since + 1) found.front) test);
          place =
              let on : since + suc (length found.front) ≡ since + 1 + length found.front = omega arith in
              on ∙ found.place;
          sound = (sound.0, found.sound);
          are_others = found.are_others;
        }

-- ---- one after the other

-- none is held
pub none_taken : (shown : Received) (sets : Checking) (buffer : Buffered) (run : Run)
    → TakesHeld shown shown sets sets buffer buffer run []
none_taken shown sets buffer run = record {
  goes = λ slot_of taken packets text none sound slots has. (
    [],
    subst (λ (front : List ℕ). HasMetered slot_of sets (taken ++ packets) front) (sym (append-nil text))
        (others_metered slot_of sets taken packets text
        (none_own (reception sets.receiving).pid run.since packets none sound) has),
    PutsOut-nothing shown buffer,
  );
}

-- one more was taken
pub one_more_taken : (a b c : Received) (old mid new : Checking) (was between is : Buffered) (run : Run)
    (held : List HeldPacket) (one : HeldPacket)
    → TakesHeld a b old mid was between run held
    → ((slot_of : ℕ → ℕ) (place : ℕ) → slot_of place ≡ tick_in run one.behind
    → TellsOne (HasMetered slot_of) b c mid new between is place one.packet)
    → reception mid.receiving ≡ reception old.receiving → reception new.receiving ≡ reception old.receiving
    → TakesHeld a c old new was is run (held ++ one ∷ [])
one_more_taken a b c old mid new was between is run held one told tells mid_same new_same = record {
  goes = λ slot_of taken packets text own sound slots has.
      let pid = (reception old.receiving).pid in
      let last = last_own pid run.since held one packets own sound in
      let place = length taken + length last.front in
      let counted : length packets ≡ length last.front + suc (length last.others) =
      ap (λ (l : List (List ℕ)). length l) last.all ∙ length-append last.front (one.packet ∷ last.others) in
      let first =
      told.goes slot_of taken last.front text last.own last.sound
      (λ k within. slots k (omega (arith, within, counted))) has in
      let at : slot_of place ≡ tick_in run one.behind =
      slots (length last.front) (omega (arith, counted)) ∙ ap (tick_in run) last.place in
      let second =
      (tells slot_of place at).goes (taken ++ last.front) (text ++ first.0) (length-append taken last.front) first.1 in
      let others : AreOthers (reception new.receiving).pid last.others =
      subst (λ (made : Reception). AreOthers made.pid last.others) (sym new_same) last.are_others in
      let whole : ((taken ++ last.front) ++ one.packet ∷ []) ++ last.others ≡ taken ++ packets =
      append_assoc (taken ++ last.front) (one.packet ∷ []) last.others
      ∙ append_assoc taken last.front (one.packet ∷ last.others)
      ∙ ap (λ (l : List (List ℕ)). taken ++ l) (sym last.all) in (
        first.0 ++ second.0,
        subst (λ (all : List (List ℕ)). HasMetered slot_of new all (text ++ (first.0 ++ second.0))) whole
            (subst (λ (front : List ℕ). HasMetered slot_of new
            (((taken ++ last.front) ++ one.packet ∷ []) ++ last.others) front) (append_assoc text first.0 second.0)
            (others_metered slot_of new ((taken ++ last.front) ++ one.packet ∷ []) last.others
            ((text ++ first.0) ++ second.0) others second.1)),
        PutsOut-both a b c was between is first.0 second.0 first.2 second.2,
      );
}

-- ---- what may be held

-- the first of those that are left, and those behind it
from_first : (pid from end index : ℕ) (held : List HeldPacket) (d : HeldPacket) → index < length held
    → AreHeld pid from end (drop index held)
    → (from ≤ (get_or held index d).behind) × ((get_or held index d).behind < end)
    × (packet_fault pid (get_or held index d).packet ≡ None)
    × AreHeld pid ((get_or held index d).behind + 1) end (drop (suc index) held)
from_first pid from end index [] d within are = absurd (omega (arith, within))
from_first pid from end zero (one ∷ held) d within are = are
from_first pid from end (suc index) (one ∷ held) d within are =
    from_first pid from end index held d (omega (arith, within)) are

pub first_held : (pid from end index : ℕ) (held : List HeldPacket) (d : HeldPacket) → index < length held
    → AreHeld pid from end (drop index held)
    → (from ≤ (get_or held index d).behind) × ((get_or held index d).behind < end)
    × (packet_fault pid (get_or held index d).packet ≡ None)
    × AreHeld pid ((get_or held index d).behind + 1) end (drop (index + 1) held)
first_held pid from end index held d within are =
    let one : suc index ≡ index + 1 = omega arith in
    let first = from_first pid from end index held d within are in (
      first.0,
      first.1,
      first.2,
      subst (λ (n : ℕ). AreHeld pid ((get_or held index d).behind + 1) end (drop n held)) one first.3,
    )

-- one more stands behind all others
pub one_more_held : (pid from behind : ℕ) (held : List HeldPacket) (packet : List ℕ) → from ≤ behind
    → AreHeld pid from behind held → packet_fault pid packet ≡ None
    → AreHeld pid from (behind + 1) (held ++ record { behind = behind; packet = packet } ∷ [])
one_more_held pid from behind [] packet low are faultless = (low, omega arith, faultless, tt)
one_more_held pid from behind (one ∷ held) packet low are faultless = (
  are.0,
  omega (arith, are.1),
  are.2,
  one_more_held pid (one.behind + 1) behind held packet (omega (arith, are.1)) are.3 faultless,
)

-- the same where more packets come
pub held_before : (pid from end later : ℕ) (held : List HeldPacket) → end ≤ later → AreHeld pid from end held
    → AreHeld pid from later held
held_before pid from end later [] low are = tt
held_before pid from end later (one ∷ held) low are =
    (are.0, omega (arith, are.1, low), are.2, held_before pid (one.behind + 1) end later held low are.3)
