-- What a memory has to do with one more set or loss.
use Rattle.std.proofs.Common.{◌≡◌, ◌∙◌, ℕ, ◌-◌, List, [], ◌∷◌, length, map, Option, Some, None, option_map, unwrap_or, refl, sym, ap, subst, arith}
use Rattle.std.specs.Option.{is_some, option_or}
use Rattle.decoder_model.specs.Free.{nodes_held, pixels_held}
use Rattle.decoder_model.specs.Ink.{ink_of}
use Rattle.decoder_model.specs.Kept.{lifted_behind, last_time, epoch_of}
use Rattle.std.specs.List.{list_any}
use Rattle.decoder_model.specs.Nodes.{is_same_entry, pixels_used, region_ids, clut_ids, table_entries}
use Rattle.decoder_model.specs.Readings.{Content, Reading}
use Rattle.decoder_model.specs.Sets.{Delivery, lost, whole, refused}
use Rattle.decoder_model.specs.Taken.{segments_of, taken_among, taken_of}
use Rattle.decoder_model.specs.Verdict.{sets_with, sets_since, known_epoch, if_kept, verdict_on_kept}
use Rattle.decoder_model.specs.declared.set_end.SetEnd.{SetEnd}
use Rattle.decoder_model.specs.Faults.{contents_in}
use Rattle.decoder_model.specs.declared.set_end.SetEnd.TheVariants.{Shown, Waiting, Broken, NotLater}
use Rattle.page_core.specs.Private.Accepted.{IsBefore, IsBegun, IsEarly}
use Rattle.page_core.specs.Private.Epochs.{IsStart}
use Rattle.page_core.specs.declared.epoch.Start.{Start}
use Rattle.page_core.specs.declared.epoch.Start.TheVariants.{Begins, GoesOn, Waits}
use Rattle.page_core.proofs.Handed.Standings.{WaitsOrShows, waits_or_shows, no_epoch}
use Rattle.decoder_model.specs.declared.set_fault.SetFault.{SetFault}
use Rattle.pixel_store.specs.Regions.{Regions}
use Rattle.page_core.specs.Composition.{Composition, KeptRegion, KeptClut, region_in, clut_in}
use Rattle.page_core.specs.Memory.{Memory, IsForgotten, IsSameReceiver, Forgets, HoldsSegments, IsMemoryAfter}

-- ---- nothing is known

-- what is forgotten has what no segments give
holds_nothing : (memory : Memory) → IsForgotten memory → HoldsSegments [] memory
unfolding taken_among region_ids clut_ids table_entries ink_of
holds_nothing memory forgotten =
    let is = forgotten.composition in
    let none : (id : ℕ) → region_in memory.composition id ≡ None =
    λ id. ap (λ (c : Composition). region_in c id) is in
    record {
      display = forgotten.display;
      region_ids = ap (λ (c : Composition). map (λ (kept : KeptRegion). kept.head.region) c.regions) is;
      heads = λ id. ap (option_map (λ (kept : KeptRegion). kept.head)) (none id);
      listings = λ id. ap (option_map (λ (kept : KeptRegion). kept.listings)) (none id);
      pixels = λ id x y kept found inside above. absurd (let e = sym (none id) ∙ found in cc);
      clut_ids = ap (λ (c : Composition). map (λ (kept : KeptClut). kept.clut) c.cluts) is;
      versions = λ id. ap (λ (c : Composition). option_map (λ (kept : KeptClut). kept.version) (clut_in c id)) is;
      inks = λ id depth number byte low. forgotten.inks id depth number byte low refl;
      set_entries = λ entry. ap (λ (c : Composition). list_any (is_same_entry entry) c.set_entries) is;
      set_count = ap (λ (c : Composition). length c.set_entries) is;
    }

no_segments : segments_of [] ≡ []
unfolding segments_of
no_segments = refl

nothing_off : (n : ℕ) → n ≡ n - 0
nothing_off n = omega arith

-- where no epoch is known, and all is forgotten
pub forgotten_stands : (past : List (Delivery Reading)) (memory : Memory)
    → memory.last ≡ last_time memory.anchor past → known_epoch memory.profile memory.anchor past ≡ None
    → IsForgotten memory → IsMemoryAfter past memory
forgotten_stands past memory last none forgotten =
    record {
      last = last;
      known = forgotten.known ∙ ap is_some (sym none);
      holds =
          subst (λ epoch. HoldsSegments (segments_of (unwrap_or epoch [])) memory) (sym none)
          (subst (λ segments. HoldsSegments segments memory) (sym no_segments) (holds_nothing memory forgotten));
      time_out = λ set before page is found. absurd (let e = sym none ∙ is in cc);
      entries = λ set before page is found. absurd (let e = sym none ∙ is in cc);
      free_nodes =
          ap (λ (c : Composition). c.free) forgotten.composition ∙ nothing_off memory.profile.nodes
          ∙ ap (λ epoch. memory.profile.nodes - nodes_held epoch) (sym none);
      free_pixels =
          ap (λ (s : Regions). s.free) forgotten.store ∙ nothing_off memory.profile.pixels
          ∙ ap (λ epoch. memory.profile.pixels - pixels_held epoch) (sym none);
    }

-- before the first set
pub nothing_handed : (memory : Memory) → memory.last ≡ None → IsForgotten memory → IsMemoryAfter [] memory
unfolding last_time sets_since
nothing_handed memory none forgotten = forgotten_stands [] memory none no_epoch forgotten

-- ---- one more set or loss

-- after a loss
pub loss_stands : (past : List (Delivery Reading)) (old new : Memory) → Forgets old new → IsMemoryAfter past old
    → IsMemoryAfter (lost ∷ past) new
unfolding last_time sets_since
loss_stands past old new forgets stands =
    forgotten_stands (lost ∷ past) new
    (forgets.last ∙ stands.last ∙ ap (λ anchor. last_time anchor past) (sym forgets.same.anchor)) no_epoch
    forgets.forgotten

-- after a set that was refused, at its lifted time
pub refused_stands : (past : List (Delivery Reading)) (pts size time : ℕ) (fault : SetFault) (old new : Memory)
    → IsMemoryAfter past old → lifted_behind old.anchor (last_time old.anchor past) pts ≡ Some time
    → new.last ≡ Some time → IsSameReceiver old new → IsForgotten new
    → IsMemoryAfter (refused pts size fault ∷ past) new
unfolding last_time sets_since
refused_stands past pts size time fault old new stands lifted last same forgotten =
    let is : lifted_behind new.anchor (last_time new.anchor past) pts ≡ Some time =
    ap (λ anchor. lifted_behind anchor (last_time anchor past) pts) same.anchor ∙ lifted in
    forgotten_stands (refused pts size fault ∷ past) new
    (last ∙ ap (λ (found : Option ℕ). option_or found (last_time new.anchor past)) (sym is))
    (ap (λ (found : Option ℕ). epoch_of
    (sets_with (sets_since new.profile new.anchor past) (refused pts size fault)
    (Some (if_kept found (last_time new.anchor past) (Broken fault))))) is ∙ no_epoch)
    forgotten

-- after a kept set that waits or is broken, where all is forgotten
pub ended_stands : (past : List (Delivery Reading)) (pts size time : ℕ) (readings : List Reading) (end : SetEnd)
    (old new : Memory) → IsMemoryAfter past old → lifted_behind old.anchor (last_time old.anchor past) pts ≡ Some time
    → verdict_on_kept old.profile (sets_since old.profile old.anchor past) readings ≡ end → IsEarly end
    → new.last ≡ Some time → IsSameReceiver old new → IsForgotten new
    → IsMemoryAfter (whole pts size readings ∷ past) new
unfolding last_time sets_since
ended_stands past pts size time readings end old new stands lifted verdict early last same forgotten =
    let sets = sets_since old.profile old.anchor past in
    let found : Option ℕ = lifted_behind old.anchor (last_time old.anchor past) pts in
    let times : last_time old.anchor (whole pts size readings ∷ past) ≡ Some time =
    ap (λ (o : Option ℕ). option_or o (last_time old.anchor past)) lifted in
    let epoch : known_epoch old.profile old.anchor (whole pts size readings ∷ past) ≡ None =
    ap (λ (o : Option ℕ). epoch_of
    (sets_with sets (whole pts size readings)
    (Some (if_kept o (last_time old.anchor past) (verdict_on_kept old.profile sets readings))))) lifted
    ∙ ap (λ (v : SetEnd). epoch_of (sets_with sets (whole pts size readings) (Some v))) verdict
    ∙ by sets end early
    (subst (WaitsOrShows sets (contents_in readings)) verdict (waits_or_shows old.profile sets readings)) in
    forgotten_stands (whole pts size readings ∷ past) new
    (last ∙ sym times ∙ ap (λ anchor. last_time anchor (whole pts size readings ∷ past)) (sym same.anchor))
    (ap (λ profile. known_epoch profile new.anchor (whole pts size readings ∷ past)) same.profile
    ∙ ap (λ anchor. known_epoch old.profile anchor (whole pts size readings ∷ past)) same.anchor ∙ epoch)
    forgotten
  where
    by : (sets : List (List Content)) (end : SetEnd) → IsEarly end → WaitsOrShows sets (contents_in readings) end
        → epoch_of (sets_with sets (whole pts size readings) (Some end)) ≡ None
    by sets Shown early is = absurd early
    by sets Waiting early is = is
    by sets (Broken fault) early is = no_epoch
    by sets (NotLater other) early is = absurd early

-- a set that is not kept changes nothing
pub still_stands : (past : List (Delivery Reading)) (delivery : Delivery Reading) (memory : Memory)
    → last_time memory.anchor (delivery ∷ past) ≡ last_time memory.anchor past
    → sets_since memory.profile memory.anchor (delivery ∷ past) ≡ sets_since memory.profile memory.anchor past
    → IsMemoryAfter past memory → IsMemoryAfter (delivery ∷ past) memory
still_stands past delivery memory times sets stands =
    let same : known_epoch memory.profile memory.anchor (delivery ∷ past)
    ≡ known_epoch memory.profile memory.anchor past = ap epoch_of sets in
    record {
      last = stands.last ∙ sym times;
      known = stands.known ∙ ap is_some (sym same);
      holds = subst (λ epoch. HoldsSegments (segments_of (unwrap_or epoch [])) memory) (sym same) stands.holds;
      time_out = λ set before page is found. stands.time_out set before page (sym same ∙ is) found;
      entries = λ set before page is found. stands.entries set before page (sym same ∙ is) found;
      free_nodes = stands.free_nodes ∙ ap (λ epoch. memory.profile.nodes - nodes_held epoch) (sym same);
      free_pixels = stands.free_pixels ∙ ap (λ epoch. memory.profile.pixels - pixels_held epoch) (sym same);
    }

pub refused_late : (past : List (Delivery Reading)) (pts size : ℕ) (fault : SetFault) (memory : Memory)
    → lifted_behind memory.anchor (last_time memory.anchor past) pts ≡ None → IsMemoryAfter past memory
    → IsMemoryAfter (refused pts size fault ∷ past) memory
unfolding last_time sets_since
refused_late past pts size fault memory late stands =
    still_stands past (refused pts size fault) memory
    (ap (λ (found : Option ℕ). option_or found (last_time memory.anchor past)) late)
    (ap (λ (found : Option ℕ). sets_with (sets_since memory.profile memory.anchor past) (refused pts size fault)
    (Some (if_kept found (last_time memory.anchor past) (Broken fault)))) late)
    stands

pub whole_late : (past : List (Delivery Reading)) (pts size : ℕ) (readings : List Reading) (memory : Memory)
    → lifted_behind memory.anchor (last_time memory.anchor past) pts ≡ None → IsMemoryAfter past memory
    → IsMemoryAfter (whole pts size readings ∷ past) memory
unfolding last_time sets_since
whole_late past pts size readings memory late stands =
    still_stands past (whole pts size readings) memory
    (ap (λ (found : Option ℕ). option_or found (last_time memory.anchor past)) late)
    (ap (λ (found : Option ℕ). sets_with (sets_since memory.profile memory.anchor past) (whole pts size readings)
    (Some (if_kept found (last_time memory.anchor past)
    (verdict_on_kept memory.profile (sets_since memory.profile memory.anchor past) readings)))) late)
    stands

-- ---- answers

-- that of a set that is not kept
pub late_answer : (past : List (Delivery Reading)) (pts : ℕ) (memory : Memory) (verdict answer : SetEnd)
    → IsMemoryAfter past memory → lifted_behind memory.anchor (last_time memory.anchor past) pts ≡ None
    → answer ≡ NotLater (unwrap_or memory.last 0)
    → Some answer
    ≡ Some (if_kept (lifted_behind memory.anchor (last_time memory.anchor past) pts)
    (last_time memory.anchor past) verdict)
late_answer past pts memory verdict answer stands late is =
    ap Some (is ∙ ap (λ (last : Option ℕ). NotLater (unwrap_or last 0)) stands.last
    ∙ ap (λ (found : Option ℕ). if_kept found (last_time memory.anchor past) verdict) (sym late))

-- and that of a set that is kept
pub kept_answer : (past : List (Delivery Reading)) (pts time : ℕ) (anchor : ℕ) (verdict answer : SetEnd)
    → lifted_behind anchor (last_time anchor past) pts ≡ Some time
    → answer ≡ verdict
    → Some answer
    ≡ Some (if_kept (lifted_behind anchor (last_time anchor past) pts) (last_time anchor past) verdict)
kept_answer past pts time anchor verdict answer kept is =
    ap Some (is ∙ ap (λ (found : Option ℕ). if_kept found (last_time anchor past) verdict) (sym kept))

-- ---- a set of an epoch

no_pixels : pixels_used (taken_of []) ≡ 0
unfolding taken_among region_ids
no_pixels = refl

-- where all is forgotten, nothing stands before the set
pub begun_anew : (memory : Memory) → IsForgotten memory → IsBefore [] memory
begun_anew memory forgotten = record {
  holds = subst (λ segments. HoldsSegments segments memory) (sym no_segments) (holds_nothing memory forgotten);
  free =
      ap (λ (s : Regions). s.free) forgotten.store ∙ nothing_off memory.profile.pixels
      ∙ ap (λ n. memory.profile.pixels - n) (sym no_pixels)
      ∙ ap (λ segments. memory.profile.pixels - pixels_used (taken_of segments)) (sym no_segments);
}

-- a set that does not go on with an epoch finds nothing
pub begun_by : (sets : List (List Content)) (set : List Content) (start : Start) (memory : Memory)
    → (start ≡ GoesOn → ⊥) → IsStart sets set start → IsForgotten memory → IsBegun sets set start memory
begun_by sets set GoesOn memory other is forgotten = absurd (other refl)
begun_by sets set Begins memory other is forgotten = (is, begun_anew memory forgotten)
begun_by sets set Waits memory other is forgotten = tt
