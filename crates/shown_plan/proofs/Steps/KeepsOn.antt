-- One set of the plan more: what a receiver has of the epoch is as the plan says, behind it as behind the set before.
use Rattle.std.proofs.Common.{◌≡◌, ◌⊎◌, inl, inr, ℕ, zero, suc, ◌==◌, ◌<◌, ◌≤◌, Bool, true, false, List, [], ◌∷◌, ◌++◌, length, map, reverse, get_or, refl, sym, subst, arith}
use Rattle.std.specs.Prelude.{All}
use Rattle.std.specs.List.{AllPairs, Contains, flat_map}
use Rattle.std.proofs.lemmas.Bool.Decides.{nat_tests}
use Rattle.std.proofs.lemmas.List.{length-map, get_or-map}
use Rattle.std.proofs.lemmas.List.Elements.{All-cons, All-append, All-map, All-filter, All-contains_itself, Contains-append_left, Contains-append_right}
use Rattle.std.proofs.lemmas.List.Sorted.{IsPermutation-map, All-permutation}
use Rattle.sub_base.specs.Picture.{Picture}
use Rattle.stream_syntax.specs.Segments.{SegmentValue, of_page, of_region, of_clut, of_object, of_display, end_of_set, passed_over, is_entry_state}
use Rattle.stream_syntax.specs.declared.page.State.{State}
use Rattle.stream_syntax.specs.declared.page.State.TheVariants.{Normal, Acquisition, ModeChange}
use Rattle.cue_list.specs.Sound.{ticks_of, ticks_of_cue}
use Rattle.cue_records.specs.declared.row_values.ColourRow.{ColourRow}
use Rattle.cue_list.specs.declared.epoch.Epoch.{Epoch}
use Rattle.cue_list.specs.declared.script.Script.{Script}
use Rattle.page_epoch.proofs.ListLaws.{All-none, All-pieces}
use Rattle.page_epoch.proofs.RowLaws.{own_within}
use Rattle.page_epoch.specs.Live.{places_below}
use Rattle.page_epoch.specs.Plan.{IsCarried}
use Rattle.page_epoch.specs.Sendable.{IsSendableRegion, IsSendableIn}
use Rattle.page_epoch.specs.SentCluts.{no_row, row_at, rows_of_clut, defined_rows, rows_from, clut_with, sent_clut, named_cluts, sent_cluts, clut_version}
use Rattle.page_epoch.specs.declared.planned_set.PlannedSet.{PlannedSet}
use Rattle.page_epoch.specs.declared.planned_set.SentClut.{SentClut}
use Rattle.page_epoch.specs.declared.planned_set.SentRegion.{SentRegion}
use Rattle.set_coder.specs.SetSegments.{display_segments, clut_entry_of}
use Rattle.decoder_model.specs.Readings.{Content}
use Rattle.shown_plan.specs.NamedSets.{Names}
use Rattle.shown_plan.proofs.Steps.ClutChanges.{AreBetween, IsNextFor}
use Rattle.shown_plan.proofs.Steps.ClutRows.{AreSeenRows, defined_own}
use Rattle.shown_plan.proofs.Steps.Fair.{IsFairEpoch}
use Rattle.shown_plan.proofs.Steps.Keeps.{IsSentEntry, IsSentBy, IsSent}
use Rattle.shown_plan.proofs.Segments.Lists.{all_at, kept_pass}
use Rattle.shown_plan.proofs.Segments.Ordered.{displays_in, page_content, region_content, clut_content}
use Rattle.shown_plan.proofs.Segments.ReadSets.{plain, IsObject, IsReadSet, objects_of}
use Rattle.shown_plan.proofs.Segments.SetView.{new_cluts, new_regions, newest, reversed_all, reverse_map}

-- ---- what is used of a script and its plan

-- the instants of an epoch up to a tick, the latest first: all of its named ticks up to there are among them
pub record AreSeen (epoch : Epoch) (tick : ℕ) (earlier : List ℕ) : Type 0 where
  pub falls : AllPairs (λ (later before : ℕ). before < later) (tick ∷ earlier)
  pub all : (named : ℕ) → Contains (ticks_of epoch) named → named ≤ tick → Contains (tick ∷ earlier) named

-- a set of a plan in its epoch
pub record IsPlannedIn (epoch : Epoch) (set : PlannedSet) (earlier : List ℕ) : Type 0 where
  pub seen : AreSeen epoch set.pts earlier
  pub carried : IsCarried epoch (is_entry_state set.state) (set.pts ∷ earlier) set
  pub sendable : IsSendableIn epoch set

-- ---- the rows of a CLUT

row_named : (epoch : Epoch) (clut place : ℕ) → Contains (rows_of_clut epoch.colours clut) place
    → Contains (ticks_of epoch) (row_at epoch.colours place).tick
row_named epoch clut place there =
    let within : place < length epoch.colours =
    all_at (λ place. place < length epoch.colours) (rows_of_clut epoch.colours clut) place
    (own_within epoch.colours clut) there in
    Contains-append_right (epoch.start ∷ [])
    (map (λ (row : ColourRow). row.tick) epoch.colours ++ flat_map ticks_of_cue epoch.cues)
    (row_at epoch.colours place).tick
    (Contains-append_left (map (λ (row : ColourRow). row.tick) epoch.colours) (flat_map ticks_of_cue epoch.cues)
    (row_at epoch.colours place).tick (
      place,
      omega (arith, within, length-map epoch.colours (λ (row : ColourRow). row.tick)),
      get_or-map
          (λ (row : ColourRow). row.tick) epoch.colours place no_row (row_at epoch.colours place).tick within,
    ))

pub rows_seen : {width height : ℕ} {pictures : List Picture} {epoch : Epoch} {tick : ℕ} {earlier : List ℕ}
    (clut : ℕ) → IsFairEpoch width height pictures epoch → AreSeen epoch tick earlier
    → AreSeenRows epoch.colours clut tick earlier
rows_seen {epoch = epoch} {tick = tick} {earlier = earlier} clut fair seen =
    record {
      seen =
          λ k d within by_then. seen.all (row_at epoch.colours (get_or (rows_of_clut epoch.colours clut) k d)).tick
          (row_named epoch clut (get_or (rows_of_clut epoch.colours clut) k d)
          (All-contains_itself (rows_of_clut epoch.colours clut) k d within)) by_then;
      entries =
          λ k d within. fair.entries (get_or (rows_of_clut epoch.colours clut) k d) no_row
          (own_within epoch.colours clut k d within);
      before =
          All-cons (λ time. time ≤ tick) tick earlier (omega arith)
          (λ k d within. (let less = seen.falls 0 (suc k) d (omega arith) (omega arith) in omega (arith, less)));
    }

rows_between : (epoch : Epoch) (clut tick before : ℕ) (more : List ℕ) → AreSeen epoch tick (before ∷ more)
    → AreBetween epoch.colours clut before tick
rows_between epoch clut tick before more seen k d within by_then =
    by (seen.all (row_at epoch.colours (get_or (rows_of_clut epoch.colours clut) k d)).tick
    (row_named epoch clut (get_or (rows_of_clut epoch.colours clut) k d)
    (All-contains_itself (rows_of_clut epoch.colours clut) k d within)) by_then)
  where
    by : {time : ℕ} → Contains (tick ∷ before ∷ more) time → (time ≡ tick) ⊎ (time ≤ before)
    by {time} (zero, within, is) = inl (sym is)
    by {time} (suc zero, within, is) = inr (let same : before ≡ time = is in omega (arith, same))
    by {time} (suc (suc k), within, is) =
        inr (let less = seen.falls 1 (suc (suc k)) time (omega arith) (omega (arith, within)) in let same : get_or more
        k time ≡ time = is in omega (arith, less, same))

-- the next instant, as a CLUT sees it
pub next_instant : {width height : ℕ} {pictures : List Picture} {epoch : Epoch} {tick before : ℕ} {more : List ℕ}
    (clut : ℕ) → IsFairEpoch width height pictures epoch → AreSeen epoch tick (before ∷ more)
    → IsNextFor epoch.colours clut tick before more
next_instant {epoch = epoch} {tick = tick} {before = before} {more = more} clut fair seen =
    record {
      rise = seen.falls 0 1 0 (omega arith) (omega arith);
      between = rows_between epoch clut tick before more seen;
      rows = rows_seen clut fair seen;
    }

-- ---- each segment by itself

regions_sent : (names : Names) (epoch : Epoch) (tick : ℕ) (sent : List SentRegion)
    → All (IsSendableRegion epoch) sent → All (IsSent epoch tick) (map (region_content names epoch) sent)
regions_sent names epoch tick sent sendable =
    All-map (IsSent epoch tick) (region_content names epoch) sent
    (λ k d within. record {
      own = (sendable k d within).region;
      width = refl;
      height = refl;
      depth = refl;
      clut = refl;
    })

-- all rows that a set sends of a CLUT are the CLUT's, and have come
rows_sent : (colours : List ColourRow) (whole : Bool) (tick clut : ℕ)
    → All (λ place. Contains (rows_of_clut colours clut) place × ((row_at colours place).tick ≤ tick))
    (rows_from colours whole tick (defined_rows colours clut tick))
rows_sent colours true tick clut = defined_own colours clut tick
rows_sent colours false tick clut =
    All-filter (λ place. (row_at colours place).tick == tick)
    (λ place. Contains (rows_of_clut colours clut) place × ((row_at colours place).tick ≤ tick))
    (defined_rows colours clut tick) (defined_own colours clut tick)

cluts_sent : (epoch : Epoch) (whole : Bool) (tick : ℕ) (earlier : List ℕ)
    → All (IsSent epoch tick) (map (clut_content epoch) (sent_cluts epoch.colours whole (tick ∷ earlier)))
cluts_sent epoch whole tick earlier =
    All-map (IsSent epoch tick) (clut_content epoch) (sent_cluts epoch.colours whole (tick ∷ earlier))
    (All-pieces (λ (one : SentClut). IsSent epoch tick (clut_content epoch one))
    (sent_clut epoch.colours whole (tick ∷ earlier)) (named_cluts epoch.colours)
    (λ k d within. one_clut (get_or (named_cluts epoch.colours) k d)))
  where
    entry : (clut place : ℕ) → Contains (rows_of_clut epoch.colours clut) place
        × ((row_at epoch.colours place).tick ≤ tick) → IsSentEntry epoch tick clut (clut_entry_of epoch place)
    entry clut place own =
        record {
          place = place;
          there =
              all_at (λ place. place < length epoch.colours) (rows_of_clut epoch.colours clut) place
              (own_within epoch.colours clut) own.0;
          of_clut =
              (let mine : ((row_at epoch.colours place).clut == clut)
              ≡ true = all_at (λ place. ((row_at epoch.colours place).clut == clut) ≡ true)
              (rows_of_clut epoch.colours clut) place
              (kept_pass (λ place. (row_at epoch.colours place).clut == clut) (places_below (length epoch.colours)))
              own.0 in grind (arith, nat_tests));
          come = own.1;
          is = refl;
        }

    with_rows : (clut version : ℕ) (rows : List ℕ)
        → All (λ place. Contains (rows_of_clut epoch.colours clut) place
        × ((row_at epoch.colours place).tick ≤ tick)) rows
        → All (λ (one : SentClut). IsSent epoch tick (clut_content epoch one)) (clut_with clut version rows)
    with_rows clut version [] own = All-none _
    with_rows clut version (row ∷ rows) own =
        All-cons (λ (one : SentClut). IsSent epoch tick (clut_content epoch one))
        (record { clut = clut; version = version; rows = row ∷ rows }) []
        (All-map (IsSentEntry epoch tick clut) (clut_entry_of epoch) (row ∷ rows)
        (λ k d within. entry clut (get_or (row ∷ rows) k d) (own k d within))) (All-none _)

    one_clut : (clut : ℕ)
        → All (λ (one : SentClut). IsSent epoch tick (clut_content epoch one))
        (sent_clut epoch.colours whole (tick ∷ earlier) clut)
    one_clut clut =
        with_rows clut (clut_version epoch.colours clut (tick ∷ earlier))
        (rows_from epoch.colours whole tick (defined_rows epoch.colours clut tick))
        (rows_sent epoch.colours whole tick clut)

objects_sent : (epoch : Epoch) (tick : ℕ) (objects : List Content) → All IsObject objects
    → All (IsSent epoch tick) objects
objects_sent epoch tick objects all =
    λ k d within. (let object = all k d within in subst (IsSentBy epoch tick) (sym object.is) object.version)

displays_sent : (script : Script) (epoch : Epoch) (tick : ℕ) (state : State)
    → All (IsSent epoch tick) (map plain (display_segments script state))
displays_sent script epoch tick Normal = All-none _
displays_sent script epoch tick Acquisition = All-cons (IsSent epoch tick) _ [] tt (All-none _)
displays_sent script epoch tick ModeChange = All-cons (IsSent epoch tick) _ [] tt (All-none _)

-- a segment of a set up to a tick is one of a set up to a later one
pub later_sent : (epoch : Epoch) (before tick : ℕ) (content : Content) → before ≤ tick
    → IsSent epoch before content → IsSent epoch tick content
later_sent epoch before tick content order sent = by content.value sent
  where
    by : (value : SegmentValue) → IsSentBy epoch before value → IsSentBy epoch tick value
    by value sent = elim value as (λ v. IsSentBy epoch before v → IsSentBy epoch tick v) [
      | of_page v ↦ λ sent. tt
      | of_region v ↦ λ sent. sent
      | of_clut v ↦ λ sent k d
          within. (let entry = sent k d within in
          record {
            place = entry.place;
            there = entry.there;
            of_clut = entry.of_clut;
            come = (let come = entry.come in omega (arith, come, order));
            is = entry.is;
          })
      | of_object v ↦ λ sent. sent
      | of_display v ↦ λ sent. tt
      | end_of_set ↦ λ sent. tt
      | passed_over ↦ λ sent. tt
    ] sent

pub newest_sent : {script : Script} {epoch : Epoch} {set : PlannedSet} {contents : List Content}
    (is : IsReadSet script epoch set contents) (earlier : List ℕ) → IsPlannedIn epoch set earlier
    → All (IsSent epoch set.pts) (newest is)
newest_sent {script} {epoch} {set} {contents} is earlier planned =
    All-append (IsSent epoch set.pts) (reverse is.objects) _
    (reversed_all (IsSent epoch set.pts) is.objects (objects_sent epoch set.pts is.objects (objects_of is)))
    (All-append (IsSent epoch set.pts) (new_cluts is) _
    (subst (All (IsSent epoch set.pts)) (reverse_map (clut_content epoch) is.cluts)
    (reversed_all (IsSent epoch set.pts) (map (clut_content epoch) is.cluts) cluts))
    (All-append (IsSent epoch set.pts) (new_regions is) _
    (regions_sent is.names epoch set.pts (reverse set.regions)
    (reversed_all (IsSendableRegion epoch) set.regions planned.sendable.regions))
    (All-cons (IsSent epoch set.pts) (page_content script epoch set) (reverse (displays_in script set)) tt
    (reversed_all (IsSent epoch set.pts) (displays_in script set) (displays_sent script epoch set.pts set.state)))))
  where
    -- the CLUTs of the plan are, and so those that are sent in another order
    cluts : All (IsSent epoch set.pts) (map (clut_content epoch) is.cluts)
    cluts =
        All-permutation (IsSent epoch set.pts) (map (clut_content epoch) set.cluts) (map (clut_content epoch) is.cluts)
        (IsPermutation-map (clut_content epoch) set.cluts is.cluts is.permuted)
        (subst (λ (cluts : List SentClut). All (IsSent epoch set.pts) (map (clut_content epoch) cluts))
        (sym planned.carried.cluts) (cluts_sent epoch (is_entry_state set.state) set.pts earlier))
