-- Marks at the entries of the tables of all CLUTs.
use Rattle.std.specs.Prelude.{◌≡◌, ℕ, ◌==◌, ◌≤◌, ◌<◌, ◌⊎◌, Bool, false, if◌then◌else◌, List, [], ◌∷◌, length, slice_index_or, All}
use Rattle.std.specs.List.{list_any}
use Rattle.sub_base.specs.Depth.{code_count}
use Rattle.sub_base.specs.declared.depth.Depth.{Depth}
use Rattle.decoder_model.specs.Nodes.{TableEntry, is_same_entry}
use Rattle.page_core.specs.Private.Inks.{ink_count}
use Rattle.page_core.specs.Memory.{ink_place}
use Rattle.page_core.specs.declared.marks.Mark.{Mark}
use Rattle.page_core.specs.declared.marks.Mark.TheVariants.{Unset, Counted, Set}

-- ---- stamps

-- the stamp of an entry that is set
abbrev pub all_set : ℕ
all_set = 65535

-- the mark of a stamp, where that is the current one
abbrev pub mark_by : ℕ → ℕ → Mark
mark_by current stamp = if stamp == all_set then Set else if stamp == current then Counted else Unset

-- a stamp is not behind the current one, or that of an entry that is set
abbrev pub IsStamp : ℕ → ℕ → Type 0
IsStamp current stamp = (stamp ≤ current) ⊎ (stamp ≡ all_set)

-- there is a stamp for each entry of each table
pub record AreStamps (current : ℕ) (stamps : List ℕ) : Type 0 where
  pub count : length stamps ≡ ink_count
  pub low : 0 < current
  pub high : current < all_set
  pub each : All (IsStamp current) stamps

-- only the stamps of entries that are set are left
abbrev pub AreSwept : List ℕ → List ℕ → Type 0
AreSwept old new =
    (i : ℕ) → i < length old
    → slice_index_or new i 0 ≡ (if slice_index_or old i 0 == all_set then all_set else 0)

-- ---- marks

-- a mark that is no more counted
abbrev pub uncounted : Mark → Mark
uncounted Unset = Unset
uncounted Counted = Unset
uncounted Set = Set

-- the mark of an entry, by whether it is set, and whether it is counted
abbrev pub mark_for : Bool → Bool → Mark
mark_for set counted = if set then Set else if counted then Counted else Unset

-- no entry is there twice
abbrev pub AreDifferent : List TableEntry → Type 0
AreDifferent [] = Unit {0}
AreDifferent (entry ∷ entries) = (list_any (is_same_entry entry) entries ≡ false) × AreDifferent entries

-- the marks tell which entries are set, each once, and which of the others are counted
pub record AreMarked (set counted : List TableEntry) (marks : List Mark) : Type 0 where
  pub different : AreDifferent set
  pub count : length marks ≡ ink_count
  pub each : (clut : ℕ) (depth : Depth) (number : ℕ) → clut < 256 → number < code_count depth →
      slice_index_or marks (ink_place clut depth number) Unset
      ≡ mark_for (list_any (is_same_entry (record { clut = clut; depth = depth; entry = number })) set)
      (list_any (is_same_entry (record { clut = clut; depth = depth; entry = number })) counted)
