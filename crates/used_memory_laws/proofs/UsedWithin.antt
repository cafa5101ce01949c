-- While an epoch is known, its regions and its composition fit the receiver's memory.
use Rattle.std.proofs.Common.{◌≡◌, ◌∙◌, ◌⊎◌, inl, inr, ℕ, ◌+◌, ◌-◌, ◌≤◌, nat_lt, refl, sym, ap, subst, arith}
use Rattle.std.proofs.Common.{Bool, true, false, cond, List, [], ◌∷◌, ◌++◌, reverse, Option, Some, None}
use Rattle.std.specs.Option.{option_or, option_and_then}
use Rattle.std.proofs.lemmas.Bool.Decides.{nat_tests}
use Rattle.sub_base.specs.declared.profile.Profile.{Profile}
use Rattle.stream_syntax.specs.Segments.{Page}
use Rattle.stream_syntax.specs.declared.page.State.TheVariants.{Acquisition, ModeChange}
use Rattle.decoder_model.specs.Contents.{has_state, in_order, page_in_set, display_in_set}
use Rattle.decoder_model.specs.Faults.{contents_in, segment_fault, epoch_fault, display_fault, page_fault}
use Rattle.decoder_model.specs.Faults.{first_fault_by, region_changed, pixels_full, composition_fault, object_too_deep}
use Rattle.decoder_model.specs.Free.{free_pixels_after, free_nodes_after, pixels_held, nodes_held, nodes_with_page}
use Rattle.decoder_model.specs.Kept.{lifted_behind, last_time, epoch_of}
use Rattle.decoder_model.specs.Nodes.{nodes_of, pixels_used, region_ids}
use Rattle.decoder_model.specs.Readings.{Content, Reading}
use Rattle.decoder_model.specs.Sets.{Delivery, lost, whole, refused}
use Rattle.decoder_model.specs.Taken.{Taken, segments_of, taken_among, taken_of}
use Rattle.decoder_model.specs.Verdict.{shown_unless, verdict_in_epoch, verdict_with_page, verdict_on_segments}
use Rattle.decoder_model.specs.Verdict.{verdict_on_kept, if_kept, sets_with, sets_since, known_epoch}
use Rattle.decoder_model.specs.declared.set_end.SetEnd.{SetEnd}
use Rattle.decoder_model.specs.declared.set_end.SetEnd.TheVariants.{Shown, Waiting, Broken, NotLater}
use Rattle.decoder_model.specs.declared.set_fault.SetFault.{SetFault}
use Rattle.decoder_model.specs.declared.set_fault.SetFault.TheVariants.{CompositionFull}
use Rattle.decoder_model.proofs.AfterLoss.{still_unknown}
use Rattle.decoder_model.proofs.Epochs.{epoch_begun, epoch_on, epoch_entered}
use Rattle.page_core.proofs.Counts.PixelRoom.{neither}
use Rattle.used_memory_laws.proofs.MoreSegments.{HaveRoom, with_more}

-- ---- the sets of an epoch

-- the sets of an epoch fit: its last set has a page, its regions need at most the profile's bytes, and with that page
-- its composition at most the profile's nodes
pub record IsWithin (profile : Profile) (epoch : List (List Content)) : Type 0 where
  pub set : List Content
  pub before : List (List Content)
  pub page : Page
  pub placed : epoch ≡ set ∷ before
  pub has_page : page_in_set set ≡ Some page
  pub pixels : pixels_used (taken_of (segments_of epoch)) ≤ profile.pixels
  pub nodes : nodes_of (taken_of (segments_of epoch)) page ≤ profile.nodes

-- where these kept sets make an epoch known, it fits
abbrev pub KnownIsWithin : Profile → List (List Content) → Type 0
KnownIsWithin profile sets = (epoch : List (List Content)) → epoch_of sets ≡ Some epoch → IsWithin profile epoch

-- an epoch ends with its last set, and begins with it or goes on with the one that was known
pub record EndsWith (set : List Content) (sets epoch : List (List Content)) : Type 0 where
  pub before : List (List Content)
  pub placed : epoch ≡ set ∷ before
  pub behind : (before ≡ []) ⊎ (epoch_of sets ≡ Some before)

the_same : {X : Type 0} (a b : X) (found : Option X) → found ≡ Some a → found ≡ Some b → b ≡ a
the_same a b found is also = let same : Some a ≡ Some b = sym is ∙ also in cc

not_both : {X : Type 0} (x : X) (found : Option X) → found ≡ None → found ≡ Some x → ⊥
not_both x found none some = (let both : None ≡ Some x = sym none ∙ some in cc)

pub ends_with : (set : List Content) (sets epoch : List (List Content)) → epoch_of (set ∷ sets) ≡ Some epoch
    → EndsWith set sets epoch
ends_with set sets epoch is = by (has_state ModeChange set) (has_state Acquisition set) (epoch_of sets) refl refl refl
  where
    by : (changes enters : Bool) (known : Option (List (List Content))) → has_state ModeChange set ≡ changes
        → has_state Acquisition set ≡ enters → epoch_of sets ≡ known → EndsWith set sets epoch
    by true enters known changes e k = record {
      before = [];
      placed = the_same (set ∷ []) epoch (epoch_of (set ∷ sets)) (epoch_begun set sets changes) is;
      behind = inl refl;
    }
    by false enters (Some before) stays e k = record {
      before = before;
      placed = the_same (set ∷ before) epoch (epoch_of (set ∷ sets)) (epoch_on set sets before stays k) is;
      behind = inr k;
    }
    by false true None stays e k = record {
      before = [];
      placed = the_same (set ∷ []) epoch (epoch_of (set ∷ sets)) (epoch_entered set sets stays e k) is;
      behind = inl refl;
    }
    by false false None stays e k =
        absurd (not_both epoch (epoch_of (set ∷ sets)) (still_unknown set sets (stays, e) k) is)

-- ---- a set without a fault

-- what a set without a fault has passed
pub record Passes (profile : Profile) (before : List (List Content)) (set : List Content) (page : Page) : Type 0 where
  pub shapes : first_fault_by region_changed (segments_of before) set ≡ None
  pub rooms : first_fault_by (pixels_full profile) (segments_of before) set ≡ None
  pub nodes : composition_fault profile (taken_of (segments_of (set ∷ before))) page ≡ None

passes : (profile : Profile) (before : List (List Content)) (set : List Content) (page : Page)
    → epoch_fault profile before set page ≡ None → Passes profile before set page
unfolding epoch_fault
passes profile before set page none =
    let a : Option SetFault = option_and_then (display_fault profile) (display_in_set set) in
    let b : Option SetFault = page_fault (segments_of (set ∷ before)) page in
    let c : Option SetFault = first_fault_by region_changed (segments_of before) set in
    let d : Option SetFault = first_fault_by (pixels_full profile) (segments_of before) set in
    let e : Option SetFault = composition_fault profile (taken_of (segments_of (set ∷ before))) page in
    let f : Option SetFault = first_fault_by object_too_deep (segments_of before) set in
    let parts = by a b c d e f none in
    record { shapes = parts.0; rooms = parts.1; nodes = parts.2 }
  where
    by : (a b c d e f : Option SetFault)
        → option_or a (option_or b (option_or c (option_or d (option_or e (option_or f None))))) ≡ None
        → (c ≡ None) × (d ≡ None) × (e ≡ None)
    by a b c d e f none =
        let one = neither a (option_or b (option_or c (option_or d (option_or e (option_or f None))))) none in
        let two = neither b (option_or c (option_or d (option_or e (option_or f None)))) one.1 in
        let three = neither c (option_or d (option_or e (option_or f None))) two.1 in
        let four = neither d (option_or e (option_or f None)) three.1 in
        let five = neither e (option_or f None) four.1 in
        (three.0, four.0, five.0)

nodes_within : (profile : Profile) (taken : Taken) (page : Page) → composition_fault profile taken page ≡ None
    → nodes_of taken page ≤ profile.nodes
nodes_within profile taken page none = by (nat_lt profile.nodes (nodes_of taken page)) refl none
  where
    by : (full : Bool) → nat_lt profile.nodes (nodes_of taken page) ≡ full
        → cond full (Some (CompositionFull (nodes_of taken page))) None ≡ None
        → nodes_of taken page ≤ profile.nodes
    by true is none = absurd (cc)
    by false is none = grind (arith, nat_tests)

no_bytes : pixels_used (taken_of (segments_of [])) ≡ 0
unfolding segments_of taken_among region_ids
no_bytes = refl

set_first : (set : List Content) (before : List (List Content))
    → segments_of (set ∷ before) ≡ reverse (in_order set) ++ segments_of before
unfolding segments_of
set_first set before = refl

-- the regions of an epoch fit the buffer
abbrev RegionsFit : Profile → List (List Content) → Type 0
RegionsFit profile sets = pixels_used (taken_of (segments_of sets)) ≤ profile.pixels

-- with one set more that has no fault they still do
pixels_with : (profile : Profile) (set : List Content) (before : List (List Content)) (page : Page)
    → Passes profile before set page → RegionsFit profile before → RegionsFit profile (set ∷ before)
pixels_with profile set before page free within =
    subst (λ (segments : List Content). HaveRoom profile (taken_among segments)) (sym (set_first set before))
    (with_more profile (segments_of before) (in_order set) free.shapes free.rooms within)

pixels_before : (profile : Profile) (sets before : List (List Content))
    → (before ≡ []) ⊎ (epoch_of sets ≡ Some before) → KnownIsWithin profile sets → RegionsFit profile before
pixels_before profile sets before (inl none) known =
    subst (RegionsFit profile) (sym none) (omega (arith, no_bytes))
pixels_before profile sets before (inr is) known = (known before is).pixels

-- a set that is shown, with its page, goes on with what fits
shown_within : (profile : Profile) (sets : List (List Content)) (set first : List Content)
    (before : List (List Content)) (page : Page) → page_in_set set ≡ Some page
    → epoch_of (set ∷ sets) ≡ Some (first ∷ before) → epoch_fault profile before first page ≡ None
    → KnownIsWithin profile sets → KnownIsWithin profile (set ∷ sets)
shown_within profile sets set first before page has_page is none known epoch also =
    let end = ends_with set sets (first ∷ before) is in
    let mine : first ≡ set = (let e = end.placed in cc) in
    let rest : before ≡ end.before = (let e = end.placed in cc) in
    let same : epoch ≡ set ∷ before =
    the_same (first ∷ before) epoch (epoch_of (set ∷ sets)) is also ∙ ap (λ one. one ∷ before) mine in
    let free : Passes profile before set page =
    subst (λ (one : List Content). Passes profile before one page) mine (passes profile before first page none) in
    let fit : RegionsFit profile before =
    subst (RegionsFit profile) (sym rest) (pixels_before profile sets end.before end.behind known) in
    record {
      set = set;
      before = before;
      page = page;
      placed = same;
      has_page = has_page;
      pixels = subst (RegionsFit profile) (sym same) (pixels_with profile set before page free fit);
      nodes = subst (λ (sets : List (List Content)). nodes_of (taken_of (segments_of sets)) page ≤ profile.nodes)
          (sym same) (nodes_within profile (taken_of (segments_of (set ∷ before))) page free.nodes);
    }

-- ---- a set more, by its verdict

nothing_within : (profile : Profile) → KnownIsWithin profile []
unfolding epoch_of
nothing_within profile epoch is = absurd (cc)

-- no epoch is one of no set
not_empty : (set : List Content) (sets : List (List Content)) → epoch_of (set ∷ sets) ≡ Some [] → ⊥
not_empty set sets is = (let placed = (ends_with set sets [] is).placed in cc)

-- what holds with a set of that verdict
abbrev WithVerdict : Profile → List (List Content) → List Content → SetEnd → Type 0
WithVerdict profile sets set Shown = KnownIsWithin profile (set ∷ sets)
WithVerdict profile sets set Waiting = KnownIsWithin profile (set ∷ sets)
WithVerdict profile sets set (Broken fault) = Unit {0}
WithVerdict profile sets set (NotLater last) = Unit {0}

by_epoch : (profile : Profile) (sets : List (List Content)) (set : List Content) (page : Page)
    (epoch : Option (List (List Content))) → page_in_set set ≡ Some page → epoch_of (set ∷ sets) ≡ epoch
    → KnownIsWithin profile sets → WithVerdict profile sets set (verdict_in_epoch profile page epoch)
by_epoch profile sets set page None has_page is known = λ epoch also. absurd (let none = is in cc)
by_epoch profile sets set page (Some []) has_page is known = absurd (not_empty set sets is)
by_epoch profile sets set page (Some (first ∷ before)) has_page is known =
    by (epoch_fault profile before first page) refl
  where
    by : (fault : Option SetFault) → epoch_fault profile before first page ≡ fault
        → WithVerdict profile sets set (shown_unless fault)
    by None none = shown_within profile sets set first before page has_page is none known
    by (Some fault) found = tt

by_page : (profile : Profile) (sets : List (List Content)) (set : List Content) (page : Option Page)
    → page_in_set set ≡ page → KnownIsWithin profile sets
    → WithVerdict profile sets set (verdict_with_page profile sets set page)
by_page profile sets set None is known = tt
by_page profile sets set (Some page) is known = by_epoch profile sets set page (epoch_of (set ∷ sets)) is refl known

by_fault : (profile : Profile) (sets : List (List Content)) (set : List Content) (fault : Option SetFault)
    → KnownIsWithin profile sets → WithVerdict profile sets set (verdict_on_segments profile sets set fault)
by_fault profile sets set (Some fault) known = tt
by_fault profile sets set None known = by_page profile sets set (page_in_set set) refl known

-- the kept sets with one of that verdict
with_whole : (profile : Profile) (sets : List (List Content)) (time size : ℕ) (readings : List Reading)
    (verdict : SetEnd) → WithVerdict profile sets (contents_in readings) verdict → KnownIsWithin profile sets
    → KnownIsWithin profile (sets_with sets (whole time size readings) (Some verdict))
with_whole profile sets time size readings Shown with known = with
with_whole profile sets time size readings Waiting with known = with
with_whole profile sets time size readings (Broken fault) with known = nothing_within profile
with_whole profile sets time size readings (NotLater last) with known = known

with_lifted : (profile : Profile) (sets : List (List Content)) (last lifted : Option ℕ) (time size : ℕ)
    (readings : List Reading) → KnownIsWithin profile sets
    → KnownIsWithin profile
    (sets_with sets (whole time size readings) (Some (if_kept lifted last (verdict_on_kept profile sets readings))))
with_lifted profile sets last None time size readings known = known
with_lifted profile sets last (Some at) time size readings known =
    with_whole profile sets time size readings (verdict_on_kept profile sets readings)
    (by_fault profile sets (contents_in readings) (segment_fault readings) known) known

with_refused : (profile : Profile) (sets : List (List Content)) (last lifted : Option ℕ) (time size : ℕ)
    (fault : SetFault) → KnownIsWithin profile sets
    → KnownIsWithin profile (sets_with sets (refused time size fault) (Some (if_kept lifted last (Broken fault))))
with_refused profile sets last None time size fault known = known
with_refused profile sets last (Some at) time size fault known = nothing_within profile

-- the kept sets after any past
sets_within : (profile : Profile) (anchor : ℕ) (past : List (Delivery Reading))
    → KnownIsWithin profile (sets_since profile anchor past)
unfolding sets_since
sets_within profile anchor [] = nothing_within profile
sets_within profile anchor (lost ∷ past) = nothing_within profile
sets_within profile anchor (whole time size readings ∷ past) =
    with_lifted profile (sets_since profile anchor past) (last_time anchor past)
    (lifted_behind anchor (last_time anchor past) time) time size readings
    (sets_within profile anchor past)
sets_within profile anchor (refused time size fault ∷ past) =
    with_refused profile (sets_since profile anchor past) (last_time anchor past)
    (lifted_behind anchor (last_time anchor past) time) time size fault
    (sets_within profile anchor past)

-- ---- what is known after a past

pub epoch_within : (profile : Profile) (anchor : ℕ) (past : List (Delivery Reading)) (sets : List (List Content))
    → known_epoch profile anchor past ≡ Some sets
    → IsWithin profile sets
epoch_within profile anchor past sets known = sets_within profile anchor past sets known

-- what is held, and what is free, are all
pub pixels_are_all : (profile : Profile) (anchor : ℕ) (past : List (Delivery Reading))
    → pixels_held (known_epoch profile anchor past) + free_pixels_after profile anchor past ≡ profile.pixels
pixels_are_all profile anchor past = by (known_epoch profile anchor past) refl
  where
    by : (known : Option (List (List Content))) → known_epoch profile anchor past ≡ known
        → pixels_held known + (profile.pixels - pixels_held known) ≡ profile.pixels
    by None is = omega arith
    by (Some sets) is = omega (arith, (epoch_within profile anchor past sets is).pixels)

nodes_in : (profile : Profile) (sets : List (List Content)) → IsWithin profile sets
    → nodes_held (Some sets) ≤ profile.nodes
nodes_in profile sets within =
    let held : nodes_held (Some sets) ≡ nodes_of (taken_of (segments_of sets)) within.page =
    ap (λ sets. nodes_held (Some sets)) within.placed
    ∙ ap (nodes_with_page (taken_of (segments_of (within.set ∷ within.before)))) within.has_page
    ∙ ap (λ sets. nodes_of (taken_of (segments_of sets)) within.page) (sym within.placed) in
    omega (arith, held, within.nodes)

pub nodes_are_all : (profile : Profile) (anchor : ℕ) (past : List (Delivery Reading))
    → nodes_held (known_epoch profile anchor past) + free_nodes_after profile anchor past ≡ profile.nodes
nodes_are_all profile anchor past = by (known_epoch profile anchor past) refl
  where
    by : (known : Option (List (List Content))) → known_epoch profile anchor past ≡ known
        → nodes_held known + (profile.nodes - nodes_held known) ≡ profile.nodes
    by None is = omega arith
    by (Some sets) is = omega (arith, nodes_in profile sets (epoch_within profile anchor past sets is))
