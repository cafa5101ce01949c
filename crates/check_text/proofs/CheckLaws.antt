-- What `check` has told of packets, the packet of each place in the slot of that number.
use Rattle.std.proofs.Common.{◌≡◌, ◌∙◌, ℕ, ◌*◌, ◌<◌, ◌≤◌, ◌^◌, Bool, List, [], ◌∷◌, false, sym, ap, arith, mul-le-mul}
use Rattle.std.proofs.lemmas.List.{length-append}
use Rattle.command_text.specs.Putting.{Buffered}
use Rattle.packet_walk.specs.Told.{TellsOne}
use Rattle.decoder_model.specs.Received.{Reception}
use Rattle.set_receiver.specs.Receiving.{reception}
use Rattle.sub_base.specs.Endpoints.{Received}
use Rattle.sub_base.specs.Pace.{IsSending, pace_of, tick_of}
use Rattle.sub_base.specs.declared.pace.Pace.{Pace}
use Rattle.sub_base.specs.declared.profile.Profile.{Profile}
use Rattle.sub_base.specs.declared.profile.TheConstants.{LARGEST_BUFFER, LONGEST_STEP}
use Rattle.sub_base.proofs.ProfileLaws.{is_profile, is_step}
use Rattle.check_text.specs.CheckText.{IsCheckText, check_text}
use Rattle.check_text.specs.Checking.{Checking, HasChecked, HasMetered, IsSlow, own_slot}
use Rattle.check_text.specs.Courses.{Course, IsTextBy}
use Rattle.check_text.proofs.CourseLaws.{told_itself}
use Rattle.check_text.proofs.MeteredLaws.{metered_so_far}

-- the coded data buffer and the page memory of a profile with a step are of so many bytes and nodes at most
pub few_in_profile : (profile : Profile) → IsSending profile → (profile.coded ≤ LARGEST_BUFFER)
    × (profile.nodes < 2 ^ 31)
few_in_profile profile sending =
    let is = is_profile profile sending.0.0 sending.0.1 in (omega (arith, is.coded.1), omega (arith, is.nodes.1))

-- ---- slots

-- the ticks of slots
abbrev pub own_course : Pace → Course
own_course pace = record { slot_of = own_slot; pace = pace }

-- a text by slots of these numbers is that of `check`
pub check_text_by : (pace : Pace) (made : Reception) (ended : Bool) (packets : List (List ℕ)) (text : List ℕ)
    → pace ≡ pace_of made.anchor made.profile → IsTextBy (own_course pace) made ended packets text
    → IsCheckText made ended packets text
check_text_by pace made ended packets text pace_is is = record {
  told = is.told;
  are = is.are;
  whole =
      is.whole ∙ ap (check_text ended pace) (told_itself is.told)
      ∙ ap (λ (p : Pace). check_text ended p is.told) pace_is;
}

-- what was told of packets, where the stream does not end with them
pub text_so_far : (checking : Checking) (packets : List (List ℕ)) (text : List ℕ)
    → HasChecked checking packets text → IsCheckText (reception checking.receiving) false packets text
text_so_far checking packets text has =
    check_text_by checking.meter.pace (reception checking.receiving) false packets text has.pace
    (metered_so_far own_slot checking packets text has.metered)

-- the slots of a profile with a step are slow
pub slow_pace : (origin : ℕ) (profile : Profile) → IsSending profile → origin < 2 ^ 62 → IsSlow (pace_of origin profile)
slow_pace origin profile sending small = record {
  step = (is_step profile sending).1;
  origin = small;
}

-- the tick of a packet of a stream is small enough
pub tick_small : (pace : Pace) (place : ℕ) → IsSlow pace → place < 2 ^ 40 → tick_of pace place < 2 ^ 63
tick_small pace place slow small =
    let below : place ≤ 2 ^ 40 = omega (arith, small) in
    let most : place * pace.step ≤ 2 ^ 40 * LONGEST_STEP = mul-le-mul below slow.step in
    omega (arith, slow.origin, most)

-- ---- packets

-- nothing was told
pub nothing_checked : (checking : Checking) → HasMetered own_slot checking [] []
    → checking.meter.pace ≡ pace_of (reception checking.receiving).anchor (reception checking.receiving).profile
    → checking.meter.last ≡ 0 → HasChecked checking [] []
nothing_checked checking metered pace last = record {
  metered = metered;
  pace = pace;
  last = omega (arith, last);
}

-- a packet more
pub one_checked : (before now : Received) (old new : Checking) (was is : Buffered) (place : ℕ) (packet : List ℕ)
    → TellsOne (HasMetered own_slot) before now old new was is place packet
    → reception new.receiving ≡ reception old.receiving → new.meter.pace ≡ old.meter.pace
    → new.meter.last ≤ place
    → TellsOne HasChecked before now old new was is place packet
one_checked before now old new was is place packet tells same pace last = record {
  goes = λ packets text. λ count has.
      let told = tells.goes packets text count has.metered in (
        told.0,
        record {
          metered = told.1;
          pace =
              pace ∙ has.pace ∙ sym (ap (λ (made : Reception). pace_of made.anchor made.profile) same);
          last = omega (arith, last, count, length-append packets (packet ∷ []));
        },
        told.2,
      );
}
