-- Steps of a walk over the sub-blocks of a block.
use Rattle.std.proofs.Common.{◌≡◌, ◌∙◌, refl, sym, ap, subst, ℕ, ◌+◌, ◌<◌, ◌≤◌, List, [], ◌∷◌, ◌++◌, length, take, drop, Option, None, arith}
use Rattle.std.specs.Option.{option_or}
use Rattle.std.proofs.lemmas.List.{drop_at, length-append, length-drop}
use Rattle.sub_base.specs.declared.depth.Depth.{Depth}
use Rattle.stream_syntax.specs.PixelCodes.{Code, IsString}
use Rattle.stream_syntax.specs.PixelBlocks.{Part, string, table, line_end, entries_of, table_size, IsNoDeeper, AreParts, runs_from, runs_after, column_after}
use Rattle.stream_syntax.specs.declared.map_table.MapTable.{MapTable}
use Rattle.decoder_model.specs.Pixels.{code_by_run}
use Rattle.pixel_store.specs.Regions.{Regions, KeepsOthers, IsStringPainted, region_at}
use Rattle.pixel_codes.specs.declared.part.Head.{Head}
use Rattle.pixel_codes.specs.declared.part.Head.TheVariants.{PixelString, Table, LineEnd}
use Rattle.pixel_codes.specs.Heads.{head_of}
use Rattle.pixel_codes.proofs.Parts.{no_part}
use Rattle.pixel_codes.specs.Maps.{default_maps, with_table, table_between}
use Rattle.string_painting.specs.Painting.{laid_over, pixels_of_codes}
use Rattle.string_painting.specs.declared.drawing.Brush.{Brush}
use Rattle.string_painting.proofs.Written.{last_given-append, pixels_counted}
use Rattle.block_painting.specs.Writing.{IsWritten}
use Rattle.block_painting.specs.declared.painter.Step.{Step}
use Rattle.block_painting.specs.declared.painter.Step.TheVariants.{Passed, Deep, Ended}
use Rattle.block_painting.specs.declared.painter.Target.{Target}
use Rattle.block_painting.specs.Private.Heads.{Begins, AreBegun}
use Rattle.block_painting.specs.Private.Pens.{Stand, AreInForce, IsBehind}
use Rattle.block_painting.specs.Private.Walks.{IsTarget, code_by_runs, StandsAt, HasPainted, HasPassed, Paints, IsToldOf, Steps}
use Rattle.block_painting.proofs.Depths.{passes_nothing, passes_twice, passes_line_end, passes_table, passes_string, deep_here}
use Rattle.block_painting.proofs.Heads.{begun, begun_at}
use Rattle.block_painting.proofs.Strings.{string_written}
use Rattle.block_painting.proofs.Tables.{default_in_force, behind_string, behind_line, behind_table, in_force_between}
use Rattle.block_painting.proofs.Written.{keeps_all, keeps_twice, nothing_written, written_twice, written_as}

-- ---- walks

pub paints_nothing : (target : Target) (store : Regions) (stand : Stand) → Paints target store stand store stand
paints_nothing target store stand = record {
  others = keeps_all target.slot store;
  painted = λ before parts stands.
      record { passed = before; left = parts; stands = stands; whole = λ end written. written };
}

pub paints_twice : (target : Target) (a b c : Regions) (from mid to : Stand) → Paints target a from b mid
    → Paints target b mid c to → Paints target a from c to
paints_twice target a b c from mid to first second = record {
  others = keeps_twice target.slot a b c first.others second.others;
  painted = λ before parts stands.
      let one = first.painted before parts stands in
      let two = second.painted one.passed one.left one.stands in
      record {
        passed = two.passed;
        left = two.left;
        stands = two.stands;
        whole = λ end written. one.whole end (two.whole end written);
      };
}

-- one sub-block more
one_more : (target : Target) (before parts : List Part) (part : Part) (left : List Part) (old new : Regions)
    (to : Stand) → parts ≡ part ∷ left → StandsAt target (part ∷ before) left to
    → ((end : Regions)
    → IsWritten target.slot (code_by_runs target.place (runs_after target.region (part ∷ before) left)) new end
    → IsWritten target.slot (code_by_runs target.place (runs_after target.region before (part ∷ left))) old end)
    → HasPainted target before parts old new to
one_more target before parts part left old new to is stands whole = record {
  passed = part ∷ before;
  left = left;
  stands = stands;
  whole = λ end written.
      subst (λ (all : List Part).
      IsWritten target.slot (code_by_runs target.place (runs_after target.region before all)) old end) (sym is)
      (whole end written);
}

-- ---- the end of a line

pub paints_line_end : (target : Target) (store : Regions) (from : Stand) (body : List ℕ)
    → Begins LineEnd from.rest body
    → Paints target store from store (record {
      x = target.place.listing.x;
      row = from.row + 2;
      rest = body;
      maps = from.maps;
    })
paints_line_end target store from body begins = record {
  others = keeps_all target.slot store;
  painted = λ before parts stands.
      let b = begun_at target.region parts LineEnd from.rest body begins stands.whole in
      one_more target before parts line_end b.0 store store _ b.1 (record {
        behind = record {
          column = omega arith;
          line = omega (arith, stands.behind.line);
          tables = behind_line from.maps before stands.behind.tables;
        };
        whole = b.2;
      }) (λ end written. written);
}

-- ---- a map table

pub paints_table : (target : Target) (store : Regions) (from : Stand) (kind : MapTable) (body : List ℕ)
    → Begins (Table kind) from.rest body
    → Paints target store from store (record {
      x = from.x;
      row = from.row;
      rest = drop (table_size kind) body;
      maps = with_table kind (take (table_size kind) body) from.maps;
    })
paints_table target store from kind body begins = record {
  others = keeps_all target.slot store;
  painted = λ before parts stands.
      let b = begun_at target.region parts (Table kind) from.rest body begins stands.whole in
      let front = b.1 in
      let rest = b.2 in
      let after : drop (table_size kind) body ≡ rest =
      ap (drop (table_size kind)) b.4 ∙ drop_at front rest (table_size kind) b.5 in
      let force : AreInForce (with_table kind (take (table_size kind) body) from.maps)
      (table kind (entries_of kind front) ∷ before) =
      subst (λ (bytes : List ℕ). AreInForce (with_table kind (take (table_size kind) bytes) from.maps)
      (table kind (entries_of kind front) ∷ before)) (sym b.4)
      (behind_table kind from.maps before front rest b.5 stands.behind.tables) in
      one_more target before parts (table kind (entries_of kind front)) b.0 store store _ b.3 (record {
        behind = record { column = stands.behind.column; line = stands.behind.line; tables = force };
        whole = subst (AreParts target.region b.0) (sym after) b.6;
      }) (λ end written. written);
}

-- a map table that is cut is none
pub cut_table : (region : Depth) (parts : List Part) (kind : MapTable) (bytes body : List ℕ)
    → Begins (Table kind) bytes body → length body < table_size kind → AreParts region parts bytes → parts ≡ []
cut_table region parts kind bytes body begins short are =
    let b = begun_at region parts (Table kind) bytes body begins are in
    let long : length body ≡ length b.1 + length b.2 = ap length b.4 ∙ length-append b.1 b.2 in
    absurd (omega (arith, b.5, long, short))

-- ---- a string

-- how a string of a depth is laid over the region
abbrev pub brush_of : Target → Depth → Brush
brush_of target depth =
    record { string = depth; region = target.region; see_through = target.place.see_through }

-- a string of a depth is laid over its row, and the pen stands behind it
pub record LaysString (target : Target) (depth : Depth) (body : List ℕ) (old : Regions) (from : Stand)
    (new : Regions) (to : Stand) : Type 0 where
  pub others : KeepsOthers target.slot old new
  pub painted : (codes : List Code) (front rest : List ℕ) → body ≡ front ++ rest → IsString depth codes front →
      IsStringPainted from.x from.row
      (laid_over (brush_of target depth) (table_between depth target.region from.maps))
      (pixels_of_codes depth codes) (region_at old target.slot) (region_at new target.slot)
  pub behind : (codes : List Code) (front rest : List ℕ) → body ≡ front ++ rest → IsString depth codes front →
      to ≡ record {
        x = from.x + length (pixels_of_codes depth codes);
        row = from.row;
        rest = rest;
        maps = from.maps;
      }

pub paints_string : (target : Target) (depth : Depth) (body : List ℕ) (old : Regions) (from : Stand) (new : Regions)
    (to : Stand) → Begins (PixelString depth) from.rest body → LaysString target depth body old from new to
    → Paints target old from new to
paints_string target depth body old from new to begins lays = record {
  others = lays.others;
  painted = λ before parts stands.
      let b = begun_at target.region parts (PixelString depth) from.rest body begins stands.whole in
      string_passed before parts stands b.0 b.1 b.2 b.3 b.4 b.5 b.7 b.8;
} where
  string_passed : (before parts : List Part) → StandsAt target before parts from
      → (codes : List Code) (left : List Part) (front rest : List ℕ) → parts ≡ string depth codes ∷ left
      → body ≡ front ++ rest → IsString depth codes front → AreParts target.region left rest
      → HasPainted target before parts old new to
  string_passed before parts stands codes left front rest is cut spelled after =
      let at = lays.behind codes front rest cut spelled in
      let place = target.place in
      let column = column_after before in
      let more = runs_after target.region (string depth codes ∷ before) left in
      let here = runs_from target.region depth before column codes in
      let count = pixels_counted depth codes in
      let written : IsWritten target.slot (code_by_runs place here) old new =
      string_written (brush_of target depth) (table_between depth target.region from.maps) before
      (in_force_between (brush_of target depth) from.maps before stands.behind.tables) place.listing place.first_row
      column codes target.slot from.x from.row old new stands.behind.column stands.behind.line lays.others
      (lays.painted codes front rest cut spelled) in
      one_more target before parts (string depth codes) left old new to is
      (subst (StandsAt target (string depth codes ∷ before) left) (sym at) (record {
        behind = record {
          column = omega (arith, stands.behind.column, count);
          line = stands.behind.line;
          tables = behind_string from.maps before depth codes stands.behind.tables;
        };
        whole = after;
      }))
      (λ end next.
      written_as target.slot (λ x y. option_or (code_by_runs place more x y) (code_by_runs place here x y))
      (code_by_runs place (here ++ more)) old end
      (λ x y. sym (last_given-append (code_by_run place.see_through place.listing place.first_row x y) here more))
      (written_twice target.slot (code_by_runs place here) (code_by_runs place more) old new end written next))

-- a string that is too deep is none
pub too_deep : (region depth : Depth) (parts : List Part) (bytes body : List ℕ)
    → Begins (PixelString depth) bytes body → (IsNoDeeper depth region → ⊥) → AreParts region parts bytes
    → parts ≡ []
too_deep region depth parts bytes body begins deep are =
    absurd (deep (begun_at region parts (PixelString depth) bytes body begins are).6)

-- no byte is left
pub no_bytes : (region : Depth) (parts : List Part) (bytes : List ℕ) → bytes ≡ [] → AreParts region parts bytes
    → parts ≡ []
no_bytes region [] bytes none are = refl
no_bytes region (part ∷ parts) bytes none are = absurd (no_part region part are.0 are.1 are.3 (sym are.2 ∙ none))

-- no sub-block begins with this byte
pub no_head : (region : Depth) (parts : List Part) (first : ℕ) (bytes body : List ℕ) → bytes ≡ first ∷ body
    → head_of first ≡ None → AreParts region parts bytes → parts ≡ []
no_head region parts first bytes body cut none are =
    absurd (subst (λ (o : Option Head). AreBegun region o parts body) none
    (begun region parts first body (subst (AreParts region parts) cut are)))

-- ---- steps

-- a step that does nothing, since no sub-block begins there
pub ended_said : (target : Target) (store : Regions) (stand : Stand)
    → ((depth : Depth) (parts : List Part) → AreParts depth parts stand.rest → parts ≡ [])
    → Steps Ended target store stand store stand
ended_said target store stand ended = record {
  paints = paints_nothing target store stand;
  passes = passes_nothing target.region stand.rest;
  told = ended;
}

pub deep_said : (target : Target) (store : Regions) (stand : Stand) (depth : Depth) (body : List ℕ)
    → Begins (PixelString depth) stand.rest body → (IsNoDeeper depth target.region → ⊥)
    → Steps Deep target store stand store stand
deep_said target store stand depth body begins deep = record {
  paints = paints_nothing target store stand;
  passes = passes_nothing target.region stand.rest;
  told = (
    omega (arith, ap length begins.1),
    λ parts are. too_deep target.region depth parts stand.rest body begins deep are,
    deep_here target.region depth stand.rest body begins deep,
  );
}

pub line_end_said : (target : Target) (store : Regions) (from to : Stand) (body : List ℕ)
    → Begins LineEnd from.rest body
    → to ≡ record {
      x = target.place.listing.x;
      row = from.row + 2;
      rest = body;
      maps = from.maps;
    }
    → Steps Passed target store from store to
line_end_said target store from to body begins at =
    subst (Steps Passed target store from store) (sym at) (record {
      paints = paints_line_end target store from body begins;
      passes = passes_line_end target.region from.rest body begins;
      told = omega (arith, ap length begins.1);
    })

pub table_said : (target : Target) (store : Regions) (from to : Stand) (kind : MapTable) (body : List ℕ)
    → Begins (Table kind) from.rest body
    → to ≡ record {
      x = from.x;
      row = from.row;
      rest = drop (table_size kind) body;
      maps = with_table kind (take (table_size kind) body) from.maps;
    }
    → Steps Passed target store from store to
table_said target store from to kind body begins at =
    subst (Steps Passed target store from store) (sym at) (record {
      paints = paints_table target store from kind body begins;
      passes =
          passes_table target.region kind from.rest body (drop (table_size kind) body) begins
          (λ front after cut long.
          ap (drop (table_size kind)) cut ∙ drop_at front after (table_size kind) long)
          (omega (arith, length-drop (table_size kind) body));
      told = omega (arith, ap length begins.1, length-drop (table_size kind) body);
    })

pub cut_said : (target : Target) (store : Regions) (stand : Stand) (kind : MapTable) (body : List ℕ)
    → Begins (Table kind) stand.rest body → length body < table_size kind
    → Steps Ended target store stand store stand
cut_said target store stand kind body begins short =
    ended_said target store stand (λ depth parts are. cut_table depth parts kind stand.rest body begins short are)

pub string_said : (target : Target) (depth : Depth) (body : List ℕ) (old : Regions) (from : Stand) (new : Regions)
    (to : Stand) → Begins (PixelString depth) from.rest body → IsNoDeeper depth target.region
    → LaysString target depth body old from new to → length to.rest ≤ length body
    → Steps Passed target old from new to
string_said target depth body old from new to begins fits lays short = record {
  paints = paints_string target depth body old from new to begins lays;
  passes =
      passes_string target.region depth from.rest body to.rest begins fits
      (λ codes front after cut spelled. ap (λ (stand : Stand). stand.rest) (lays.behind codes front after cut spelled))
      short;
  told = omega (arith, ap length begins.1, short);
}

-- the slot keeps its region's depth
pub target_stays : (target : Target) (old new : Regions) → KeepsOthers target.slot old new → IsTarget target old
    → IsTarget target new
target_stays target old new keeps is = record {
  placed = subst (λ (n : ℕ). target.slot < n) (sym keeps.count) is.placed;
  depth = is.depth ∙ sym keeps.depth;
}

-- ---- a whole walk

-- the pen at the beginning of a block
abbrev pub start_stand : Target → List ℕ → Stand
start_stand target bytes = record {
  x = target.place.listing.x;
  row = target.place.listing.y + target.place.first_row;
  rest = bytes;
  maps = default_maps;
}

-- a walk over some bytes, of which some are left
pub record IsWalking (target : Target) (begin : Regions) (bytes : List ℕ) (now : Regions) (stand : Stand) : Type 0 where
  pub placed : IsTarget target now
  pub painted : Paints target begin (start_stand target bytes) now stand
  pub passed : HasPassed target.region bytes stand.rest

pub walk_goes_on : (target : Target) (begin : Regions) (bytes : List ℕ) (now next : Regions) (from to : Stand)
    (step : Step) → IsWalking target begin bytes now from → Steps step target now from next to
    → IsWalking target begin bytes next to
walk_goes_on target begin bytes now next from to step walking steps = record {
  placed = target_stays target now next steps.paints.others walking.placed;
  painted = paints_twice target begin now next (start_stand target bytes) from to walking.painted steps.paints;
  passed = passes_twice target.region bytes from.rest to.rest walking.passed steps.passes;
}

-- where no sub-block of the region is left, all of them are painted
pub walk_written : (target : Target) (begin : Regions) (bytes : List ℕ) (now : Regions) (stand : Stand)
    → IsWalking target begin bytes now stand
    → ((left : List Part) → AreParts target.region left stand.rest → left ≡ [])
    → (parts : List Part) → AreParts target.region parts bytes
    → IsWritten target.slot (code_by_runs target.place (runs_after target.region [] parts)) begin now
walk_written target begin bytes now stand walking ended parts are =
    let behind : IsBehind target.place [] (start_stand target bytes) =
    record { column = omega arith; line = omega arith; tables = default_in_force } in
    let all = walking.painted.painted [] parts (record { behind = behind; whole = are }) in
    let none : all.left ≡ [] = ended all.left all.stands.whole in
    all.whole now
    (nothing_written target.slot (code_by_runs target.place (runs_after target.region all.passed all.left)) now
    (λ x y. ap (λ (left : List Part). code_by_runs target.place (runs_after target.region all.passed left) x y) none))

-- what a step is known to have done
pub told_of : (step known : Step) (target : Target) (old : Regions) (from : Stand) (new : Regions) (to : Stand)
    → step ≡ known → Steps step target old from new to → IsToldOf known target.region from.rest to.rest
told_of step known target old from new to is steps =
    subst (λ (s : Step). IsToldOf s target.region from.rest to.rest) is steps.told
