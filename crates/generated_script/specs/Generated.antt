-- The script that is generated from a number: as many cues, in epochs of sixteen.
use Rattle.std.specs.Prelude.{◌≡◌, ℕ, ◌+◌, ◌-◌, ◌*◌, ◌/◌, ◌%◌, ◌==◌, ◌&&◌, min, not, if◌then◌else◌, List, [], ◌∷◌, map, flat_map, replicate}
use Rattle.std.specs.List.{range_with_len, AllZip}
use Rattle.sub_base.specs.Picture.{Picture}
use Rattle.sub_base.specs.declared.depth.Depth.TheVariants.{Four}
use Rattle.cue_list.specs.declared.epoch.Cue.{Cue}
use Rattle.cue_list.specs.declared.epoch.Epoch.{Epoch}
use Rattle.cue_records.specs.declared.region.Region.{Region}
use Rattle.cue_list.specs.declared.script.Script.{Script}

-- a row of the picture of cue k: eight runs of eight pixels, whose codes go on by one from run to run
abbrev pub generated_row : ℕ → ℕ → List ℕ
generated_row k y = flat_map (λ run. replicate 8 ((run + y / 3 + k) % 16)) (range_with_len 0 8)

-- the picture of cue k: 64 by 32 pixels of 4 bits
abbrev pub generated_picture : ℕ → Picture
generated_picture k = record {
  width = 64;
  height = 32;
  depth = Four;
  codes = flat_map (generated_row k) (range_with_len 0 32);
}

-- the tick at which cue k starts: a second after the cue before it
abbrev pub generated_start : ℕ → ℕ
generated_start k = 180000 + 90000 * k

-- how long cue k lasts: an odd one goes on into the second one after it, but for the last one of an epoch
abbrev pub generated_length : ℕ → ℕ
generated_length k = if k % 2 == 1 && not (k % 16 == 15) then 216000 else 63000

-- the two regions of each epoch: 96 by 48 pixels of 4 bits
abbrev pub generated_region : ℕ → Region
generated_region id =
    if id == 0 then record { id = 0; x = 16; y = 40; width = 96; height = 48; depth = Four; clut = 0 }
    else record { id = 1; x = 160; y = 100; width = 96; height = 48; depth = Four; clut = 0 }

-- this is cue k, whatever the number of its record is; the pictures of cues that are sixteen apart are the same
abbrev pub IsGeneratedCue : ℕ → Cue → Type 0
IsGeneratedCue k cue = cue ≡ record {
  start = generated_start k;
  end = generated_start k + generated_length k;
  row = cue.row;
  region = k % 2;
  x = 5 * k % 32;
  y = 3 * k % 16;
  picture = k % 16;
  see_through = k % 4 == 3;
}

-- this is epoch e of so many cues, in a file in which three records and those of the pictures stand before the epochs:
-- an epoch has its own record, those of its two regions, and those of its cues
pub record IsGeneratedEpoch (number e : ℕ) (epoch : Epoch) : Type 0 where
  pub start : epoch.start ≡ 180000 + 1440000 * e
  pub row : epoch.row ≡ 4 + min number 16 + 19 * e
  pub regions : epoch.regions ≡ generated_region 0 ∷ generated_region 1 ∷ []
  pub colours : epoch.colours ≡ []
  pub cues : AllZip IsGeneratedCue (range_with_len (16 * e) (min number (16 * e + 16) - 16 * e)) epoch.cues
  pub cue_rows : map (λ (cue : Cue). cue.row) epoch.cues
      ≡ range_with_len (epoch.row + 3) (min number (16 * e + 16) - 16 * e)

-- this is the script of so many cues: display of 320 by 180, a refresh each five seconds, an epoch for each sixteen
-- cues begun
pub record IsGenerated (number : ℕ) (script : Script) : Type 0 where
  pub origin : script.origin ≡ 0
  pub width : script.width ≡ 320
  pub height : script.height ≡ 180
  pub refresh : script.refresh ≡ 450000
  pub epochs : AllZip (IsGeneratedEpoch number) (range_with_len 0 ((number + 15) / 16)) script.epochs
  pub pictures : script.pictures ≡ map generated_picture (range_with_len 0 (min number 16))
