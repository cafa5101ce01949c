-- A script of one cue that fills the display: what it authors is computed.
use Rattle.std.proofs.Common.{◌≡◌, ℕ, ◌<◌, ◌≤◌, false, [], ◌∷◌, inl, inr, refl, arith}
use Rattle.std.specs.Prelude.{AllPairs}
use Rattle.std.proofs.lemmas.List.Elements.{All-nil, All-cons, All-from_recursion}
use Rattle.std.proofs.lemmas.List.Kept.{AllPairs-cons}
use Rattle.sub_base.specs.Colour.{clear}
use Rattle.sub_base.specs.Picture.{Picture, IsPicture}
use Rattle.sub_base.specs.declared.depth.Depth.TheVariants.{Eight}
use Rattle.cue_list.specs.Authored.{authored_at, latest_row}
use Rattle.cue_list.specs.Sound.{IsSoundScript, IsEpoch, IsTick, IsRegion, AreSeparate, IsColourRow, IsCue, Follows, AreTicksApart}
use Rattle.cue_list.specs.declared.epoch.Cue.{Cue}
use Rattle.cue_list.specs.declared.epoch.Epoch.{Epoch}
use Rattle.cue_records.specs.declared.region.Region.{Region}
use Rattle.cue_list.specs.declared.script.Script.{Script}
use Rattle.page_epoch.proofs.ListLaws.{All-one}

one_pair : {X : Type 0} (R : X → X → Type 0) (x : X) → AllPairs R (x ∷ [])
one_pair R x = AllPairs-cons R x [] (All-nil (R x)) (λ i j d h l. absurd (omega arith))

-- two rows of codes on a display of four by two pixels, shown for a second from one second on
abbrev pub picture : Picture
picture = record { width = 4; height = 2; depth = Eight; codes = 1 ∷ 2 ∷ 2 ∷ 2 ∷ 3 ∷ 3 ∷ 3 ∷ 3 ∷ [] }

abbrev pub region : Region
region = record { id = 0; x = 0; y = 0; width = 4; height = 2; depth = Eight; clut = 0 }

abbrev pub cue : Cue
cue = record { start = 90000; end = 180000; row = 7; region = 0; x = 0; y = 0; picture = 0; see_through = false }

abbrev pub epoch : Epoch
epoch = record { start = 90000; row = 4; regions = region ∷ []; colours = []; cues = cue ∷ [] }

is_picture : IsPicture picture
is_picture = record {
  wide = (omega arith, omega arith);
  high = (omega arith, omega arith);
  full = refl;
  each =
      All-from_recursion (λ code. code < 256) (1 ∷ 2 ∷ 2 ∷ 2 ∷ 3 ∷ 3 ∷ 3 ∷ 3 ∷ []) (
        omega arith,
        (
          omega
              arith,
          (omega arith, (omega arith, (omega arith, (omega arith, (omega arith, (omega arith, tt)))))),
        ),
      );
}

tick : (n : ℕ) → n ≤ 3240000000 → IsTick 0 n
tick n h = record { late = omega arith; early = omega arith }

apart : AllPairs AreTicksApart (90000 ∷ 90000 ∷ 180000 ∷ [])
apart =
    AllPairs-cons AreTicksApart 90000 (90000 ∷ 180000 ∷ [])
    (All-cons (AreTicksApart 90000) 90000 (180000 ∷ []) (inl refl)
    (All-one (AreTicksApart 90000) 180000 (inr (inl (omega arith)))))
    (AllPairs-cons AreTicksApart 90000 (180000 ∷ []) (All-one (AreTicksApart 90000) 180000 (inr (inl (omega arith))))
    (one_pair AreTicksApart 180000))

pub is_sound : IsSoundScript 0 4 2 450000 (epoch ∷ []) (picture ∷ [])
is_sound = record {
  early = omega arith;
  wide = (omega arith, omega arith);
  high = (omega arith, omega arith);
  seconds = 5;
  whole = refl;
  often = (omega arith, omega arith);
  some_epoch = omega arith;
  few_epochs = omega arith;
  each = All-one (IsEpoch 0 4 2 (picture ∷ [])) epoch (record {
    starts = tick 90000 (omega arith);
    regions = record {
      many = omega arith;
      each =
          All-one (IsRegion 4 2) region
          (record {
            numbers = (omega arith, omega arith);
            wide = omega arith;
            high = omega arith;
            across = omega arith;
            down = omega arith;
          });
      apart = one_pair AreSeparate region;
    };
    colours = All-nil (IsColourRow 0 90000);
    cues =
        All-one (IsCue 0 90000 (region ∷ []) (picture ∷ [])) cue
        (record {
          starts = tick 90000 (omega arith);
          ends = tick 180000 (omega arith);
          within = omega arith;
          lasts = omega arith;
          short = omega arith;
          picture = omega arith;
          region = region;
          found = refl;
          fits = record { across = omega arith; down = omega arith; shallow = omega arith };
        });
  });
  follow = one_pair Follows epoch;
  apart = apart;
  few_colours = omega arith;
  few_cues = omega arith;
  few_pictures = omega arith;
  drawn = All-one IsPicture picture is_picture;
  small = omega arith;
}

abbrev pub script : Script
script =
    record {
      origin = 0;
      width = 4;
      height = 2;
      refresh = 450000;
      epochs = epoch ∷ [];
      pictures = picture
          ∷ [];
      sound = ∣ is_sound ∣₁;
    }

-- a place of it is clear before the cue, has the default colour of its code while it is shown, and is clear again
pub clear_before : authored_at script.epochs script.pictures 89999 0 0 ≡ clear
clear_before = refl

pub shown_while : authored_at script.epochs script.pictures 179999 0 0
    ≡ record { y = 0x51; cr = 0xF0; cb = 0x5A; t = 0xC0 }
unfolding latest_row
shown_while = refl

pub clear_after : authored_at script.epochs script.pictures 180000 0 0 ≡ clear
clear_after = refl
