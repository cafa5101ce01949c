-- The regions that a receiver has of an epoch are the epoch's, each once, and need no more bytes than the plan says.
use Rattle.std.proofs.Common.{◌≡◌, ◌≢◌, ◌∙◌, ℕ, zero, suc, ◌+◌, ◌-◌, ◌*◌, ◌/◌, ◌==◌, ◌&&◌, ◌≤◌, nat_lt, Bool, true, false, cond, eqb, List, [], ◌∷◌, ◌++◌, map, reverse, get_or, sum_by, Option, Some, None, refl, sym, ap, subst, arith}
use Rattle.std.specs.Prelude.{All, find, filter_map, IsSome}
use Rattle.std.specs.List.{AllPairs, Contains, cons_option}
use Rattle.std.specs.Option.{option_or, option_and_then, is_none}
use Rattle.std.proofs.lemmas.Bool.Decides.{nat_tests}
use Rattle.std.proofs.lemmas.List.Elements.{All-cons, All-contains_itself}
use Rattle.std.proofs.lemmas.List.Kept.{AllPairs-cons}
use Rattle.std.proofs.lemmas.List.Sums.{sum_by-cons}
use Rattle.sub_base.specs.Depth.{bits_of}
use Rattle.sub_base.specs.declared.profile.Profile.{Profile}
use Rattle.stream_syntax.specs.Segments.{SegmentValue, of_page, of_region, of_clut, of_object, of_display, end_of_set, passed_over, Region}
use Rattle.cue_list.specs.declared.epoch.Epoch.{Epoch}
use Rattle.cue_records.specs.declared.region.Region.{Region as AuthoredRegion}
use Rattle.page_epoch.proofs.ListLaws.{All-none, sum_mapped}
use Rattle.page_epoch.specs.Needs.{region_need, pixel_need}
use Rattle.set_coder.specs.SetSegments.{region_or_none, epoch_region as authored_region}
use Rattle.decoder_model.specs.Contents.{region_of, region_named, in_order}
use Rattle.decoder_model.specs.Faults.{first_fault_by, pixels_full, region_too_large}
use Rattle.decoder_model.specs.Nodes.{is_same, region_id, region_ids, region_bytes, bytes_of_region, pixels_used}
use Rattle.decoder_model.specs.Readings.{Content}
use Rattle.decoder_model.specs.Taken.{taken_among, taken_of, last_region}
use Rattle.decoder_model.specs.declared.set_fault.SetFault.TheVariants.{PixelFull}
use Rattle.decoder_model.proofs.NoFaults.{no_fault_by, sum_within}
use Rattle.decoder_model.proofs.TakenSets.{taken_all}
use Rattle.shown_plan.proofs.Steps.Keeps.{IsSentRegion, IsSentBy, IsSent}
use Rattle.shown_plan.proofs.Segments.Lists.{mapped_there, sum_same, different_all, different_pairs}
use Rattle.shown_plan.proofs.Segments.Parts.{HaveOwnIds}
use Rattle.shown_plan.proofs.Steps.SetFits.{before_sent, last_sent}

-- ---- regions by their ids

-- the ids of an epoch's regions
abbrev pub ids_of : Epoch → List ℕ
ids_of epoch = map (λ (region : AuthoredRegion). region.id) epoch.regions

-- a region is found by its own id
pub region_itself : (regions : List AuthoredRegion) (region : AuthoredRegion) → HaveOwnIds regions
    → Contains regions region → find (λ (other : AuthoredRegion). other.id == region.id) regions ≡ Some region
region_itself [] region apart there = absurd (omega (arith, there.1))
region_itself (first ∷ regions) region apart (zero, within, is) =
    let mine : (first.id == region.id) ≡ true =
    (let same : first.id ≡ region.id = ap (λ (r : AuthoredRegion). r.id) is in grind (arith, nat_tests)) in
    ap (λ b. cond b (Some first) (find (λ (other : AuthoredRegion). other.id == region.id) regions)) mine
    ∙ ap (λ r. Some r) is
region_itself (first ∷ regions) region apart (suc k, within, is) =
    let differ : first.id ≢ (get_or regions k region).id =
    apart 0 (suc k) region (omega arith) (omega (arith, within)) in
    let other : (first.id == region.id) ≡ false =
    (let same : (get_or regions k region).id
    ≡ region.id = ap (λ (r : AuthoredRegion). r.id) is in grind (arith, nat_tests)) in
    ap (λ b. cond b (Some first) (find (λ (other : AuthoredRegion). other.id == region.id) regions)) other
    ∙ region_itself regions region (λ i j d before inside. apart (suc i) (suc j) d (omega arith) (omega arith))
    (k, omega (arith, within), is)

pub authored_itself : (epoch : Epoch) (region : AuthoredRegion) → HaveOwnIds epoch.regions
    → Contains epoch.regions region → authored_region epoch region.id ≡ region
authored_itself epoch region apart there = ap region_or_none (region_itself epoch.regions region apart there)

-- an id that the epoch has is that of one of its regions
pub own_region : (regions : List AuthoredRegion) (id : ℕ)
    → IsSome (find (λ (region : AuthoredRegion). region.id == id) regions) → (region : AuthoredRegion)
    × Contains regions region × (region.id ≡ id)
own_region [] id some = absurd (let no : false ≡ true = some in cc)
own_region (first ∷ regions) id some = by (first.id == id) refl some (own_region regions id)
  where
    by : (b : Bool) → (first.id == id) ≡ b
        → IsSome (cond b (Some first) (find (λ (region : AuthoredRegion). region.id == id) regions))
        → (IsSome (find (λ (region : AuthoredRegion). region.id == id) regions) → (region : AuthoredRegion)
        × Contains regions region × (region.id ≡ id))
        → (region : AuthoredRegion) × Contains (first ∷ regions) region × (region.id ≡ id)
    by true e some again = (first, (0, omega arith, refl), grind (arith, nat_tests))
    by false e some again =
        (let rest = again some in (rest.0, (suc rest.1.0, omega (arith, rest.1.1), rest.1.2), rest.2))

-- ---- what a receiver has

-- the region of an id is known, with what is sent of the epoch's region
abbrev pub IsKnownId : Epoch → List Content → ℕ → Type 0
IsKnownId epoch taken id =
    (last : Region) × (last_region id taken ≡ Some last) × IsSentRegion epoch last × (last.head.region ≡ id)

-- each id among region segments is known, as the epoch's
ids_known : (epoch : Epoch) (tick : ℕ) (all taken : List Content) → All (IsSent epoch tick) all
    → ((id : ℕ) (content : Content) (region : Region) → Contains taken content
    → region_named id content ≡ Some region → (last : Region) × (last_region id all ≡ Some last))
    → All (IsKnownId epoch all) (map region_id (filter_map region_of taken))
ids_known epoch tick all [] sent found = All-none _
ids_known epoch tick all (content ∷ taken) sent found =
    by (region_of content) refl
    (ids_known epoch tick all taken sent
    (λ id other region there named. found id other region (suc there.0, omega (arith, there.1), there.2) named))
  where
    by : (region : Option Region) → region_of content ≡ region
        → All (IsKnownId epoch all) (map region_id (filter_map region_of taken))
        → All (IsKnownId epoch all) (map region_id (filter_map region_of (content ∷ taken)))
    by None e again =
        subst (λ (found : Option Region). All (IsKnownId epoch all)
        (map region_id (cons_option found (filter_map region_of taken)))) (sym e) again
    by (Some region) e again =
        subst (λ (found : Option Region). All (IsKnownId epoch all)
        (map region_id (cons_option found (filter_map region_of taken)))) (sym e)
        (All-cons (IsKnownId epoch all) region.head.region (map region_id (filter_map region_of taken))
        (let named : region_named region.head.region content ≡ Some region = named_by region e in
        let last = found region.head.region content region (0, omega arith, refl) named in
        let mine = last_sent epoch tick region.head.region all last.0 sent last.1 in (last.0, last.1, mine.0, mine.1))
        again)
      where
        named_by : (region : Region) → region_of content ≡ Some region
            → region_named region.head.region content ≡ Some region
        named_by region e =
            ap (λ found. option_and_then (λ (r : Region). cond (eqb r.head.region region.head.region) (Some r) None)
            found) e ∙ ap (λ b. cond b (Some region) None)
            (let same : eqb region.head.region region.head.region ≡ true = grind (arith, nat_tests) in same)

-- where some segment is of a region, a last one is
some_last : (id : ℕ) (segments : List Content) (content : Content) (region : Region) → Contains segments content
    → region_named id content ≡ Some region → (last : Region) × (last_region id segments ≡ Some last)
some_last id [] content region there named = absurd (omega (arith, there.1))
some_last id (first ∷ segments) content region (zero, within, is) named = by (region_named id first) refl
  where
    by : (found : Option Region) → region_named id first ≡ found → (last : Region)
        × (option_or (region_named id first) (last_region id segments) ≡ Some last)
    by (Some last) e = (last, ap (λ found. option_or found (last_region id segments)) e)
    by None e =
        absurd (let same : first ≡ content = is in let no : None ≡ Some region = sym e
        ∙ ap (region_named id) same ∙ named in cc)
some_last id (first ∷ segments) content region (suc k, within, is) named =
    by (region_named id first) refl (some_last id segments content region (k, omega (arith, within), is) named)
  where
    by : (found : Option Region) → region_named id first ≡ found → (last : Region)
        × (last_region id segments ≡ Some last) → (last : Region)
        × (option_or (region_named id first) (last_region id segments) ≡ Some last)
    by (Some last) e again = (last, ap (λ found. option_or found (last_region id segments)) e)
    by None e again = (again.0, ap (λ found. option_or found (last_region id segments)) e ∙ again.1)

-- the regions that are known are the epoch's, each once
pub record AreKnownIds (epoch : Epoch) (taken : List Content) : Type 0 where
  pub known : All (IsKnownId epoch taken) (region_ids (record { segments = taken }))
  pub apart : AllPairs (λ (a b : ℕ). a ≢ b) (region_ids (record { segments = taken }))

pub known_ids : (epoch : Epoch) (tick : ℕ) (taken : List Content) → All (IsSent epoch tick) taken
    → AreKnownIds epoch taken
unfolding region_ids
known_ids epoch tick taken sent =
    record {
      known =
          different_all is_same (IsKnownId epoch taken) (map region_id (filter_map region_of taken))
          (ids_known epoch tick taken taken sent
          (λ id content region there named. some_last id taken content region there named));
      apart =
          different_pairs is_same (map region_id (filter_map region_of taken))
          (λ (id : ℕ). (let same : (id == id) ≡ true = grind (arith, nat_tests) in same));
    }

-- a known id is one of the epoch's
pub known_contains : (epoch : Epoch) (taken : List Content) (id : ℕ) → IsKnownId epoch taken id
    → Contains (ids_of epoch) id
known_contains epoch taken id known =
    let region = own_region epoch.regions known.0.head.region known.2.own in
    subst (Contains (ids_of epoch)) (region.2 ∙ known.3)
    (mapped_there (λ (r : AuthoredRegion). r.id) epoch.regions region.0 region.1)

-- what known regions sum up to by their ids is at most what the epoch's regions do
pub ids_within : (epoch : Epoch) (taken : List Content) (f : ℕ → ℕ) → AreKnownIds epoch taken
    → sum_by f (region_ids (record { segments = taken })) ≤ sum_by f (ids_of epoch)
ids_within epoch taken f are =
    sum_within f (region_ids (record { segments = taken })) (ids_of epoch) are.apart
    (λ k d within. known_contains epoch taken (get_or (region_ids (record { segments = taken })) k d)
    (are.known k d within))

-- ---- bytes

abbrev pub pixels_by_id : Epoch → ℕ → ℕ
pixels_by_id epoch id = region_need (authored_region epoch id)

need_by_id : (epoch : Epoch) → HaveOwnIds epoch.regions
    → sum_by (pixels_by_id epoch) (ids_of epoch) ≡ pixel_need epoch.regions
need_by_id epoch apart =
    sum_mapped (pixels_by_id epoch) (λ (region : AuthoredRegion). region.id) epoch.regions
    ∙ sum_same (λ (region : AuthoredRegion). pixels_by_id epoch region.id) region_need epoch.regions
    (λ k d within. ap region_need
    (authored_itself epoch (get_or epoch.regions k d) apart (All-contains_itself epoch.regions k d within)))

sent_pixels : (epoch : Epoch) (id : ℕ) (region : Region) → IsSentRegion epoch region → region.head.region ≡ id
    → region_bytes region.head ≡ pixels_by_id epoch id
sent_pixels epoch id region sent own =
    (λ i. (sent.width i * bits_of (sent.depth i) + 7) / 8 * sent.height i) ∙ ap (pixels_by_id epoch) own

used_by_id : (epoch : Epoch) (taken : List Content) → AreKnownIds epoch taken
    → pixels_used (record { segments = taken })
    ≡ sum_by (pixels_by_id epoch) (region_ids (record { segments = taken }))
used_by_id epoch taken are =
    sum_same (λ id. bytes_of_region (last_region id taken)) (pixels_by_id epoch)
    (region_ids (record { segments = taken }))
    (λ k d within. (let known = are.known k d within in ap bytes_of_region known.1
    ∙ sent_pixels epoch (get_or (region_ids (record { segments = taken })) k d) known.0 known.2 known.3))

-- the regions that a receiver has of an epoch need no more bytes than the plan says
pub pixels_within : (epoch : Epoch) (taken : List Content) → HaveOwnIds epoch.regions → AreKnownIds epoch taken
    → pixels_used (record { segments = taken }) ≤ pixel_need epoch.regions
pixels_within epoch taken apart are =
    omega (arith, used_by_id epoch taken are, ids_within epoch taken (pixels_by_id epoch) are, need_by_id epoch apart)

-- and so with one that is new
new_within : (epoch : Epoch) (taken : List Content) (region : Region) → HaveOwnIds epoch.regions
    → AreKnownIds epoch taken → IsSentRegion epoch region → last_region region.head.region taken ≡ None
    → region_bytes region.head + pixels_used (record { segments = taken }) ≤ pixel_need epoch.regions
new_within epoch taken region apart are sent unknown =
    omega (
      arith,
      used_by_id epoch taken are,
      need_by_id epoch apart,
      sent_pixels epoch region.head.region region sent refl,
      sum_within (pixels_by_id epoch) (region.head.region ∷ region_ids (record { segments = taken })) (ids_of epoch)
          (AllPairs-cons (λ (a b : ℕ). a ≢ b) region.head.region (region_ids (record { segments = taken }))
          (λ k d within
          e. (let known = are.known k d within in let no : None ≡ Some known.0 = sym unknown
          ∙ ap (λ (id : ℕ). last_region id taken) e ∙ known.1 in absurd (cc))) are.apart)
          (All-cons (Contains (ids_of epoch)) region.head.region (region_ids (record { segments = taken })) own
          (λ k d within. known_contains epoch taken (get_or (region_ids (record { segments = taken })) k d)
          (are.known k d within))),
      sum_by-cons (pixels_by_id epoch) region.head.region (region_ids (record { segments = taken })),
    )
  where
    own : Contains (ids_of epoch) region.head.region
    own =
        (let mine = own_region epoch.regions region.head.region sent.own in subst (Contains (ids_of epoch)) mine.2
        (mapped_there (λ (r : AuthoredRegion). r.id) epoch.regions mine.0 mine.1))

none_too_large : (epoch : Epoch) (profile : Profile) (tick : ℕ) (earlier : List Content) (content : Content)
    → HaveOwnIds epoch.regions → pixel_need epoch.regions ≤ profile.pixels → All (IsSent epoch tick) earlier
    → IsSent epoch tick content → pixels_full profile earlier content ≡ None
none_too_large epoch profile tick earlier content apart enough sent own = by content.value refl own
  where
    taken : List Content
    taken = taken_among earlier

    are : AreKnownIds epoch taken
    are = known_ids epoch tick taken (taken_all (IsSent epoch tick) earlier sent)

    fits : (region : Region) → IsSentRegion epoch region → (found : Option Region)
        → last_region region.head.region taken ≡ found
        → region_too_large profile (taken_of earlier) region ≡ None
    fits region mine (Some last) known = rw known refl
    fits region mine None known =
        (let room = new_within epoch taken region apart are mine known in
        let test : nat_lt (profile.pixels - pixels_used (taken_of earlier)) (region_bytes region.head) ≡ false =
        (let low : region_bytes region.head
        ≤ profile.pixels - pixels_used (taken_of earlier) = omega arith in grind (arith, nat_tests)) in
        ap (λ b. cond (is_none (last_region region.head.region taken) && b)
        (Some (PixelFull (region_bytes region.head) (profile.pixels - pixels_used (taken_of earlier)))) None) test
        ∙ either (is_none (last_region region.head.region taken)))
      where
        either : (b : Bool)
            → cond (b && false)
            (Some (PixelFull (region_bytes region.head) (profile.pixels - pixels_used (taken_of earlier)))) None
            ≡ None
        either true = refl
        either false = refl

    by : (value : SegmentValue) → content.value ≡ value → IsSentBy epoch tick value
        → pixels_full profile earlier content ≡ None
    by value e own =
        elim value as
        (λ v. content.value ≡ v → IsSentBy epoch tick v → pixels_full profile earlier content ≡ None) [
          | of_page v ↦ λ e own. rw e refl
          | of_region v ↦ λ e own. rw e (fits v own (last_region v.head.region taken) refl)
          | of_clut v ↦ λ e own. rw e refl
          | of_object v ↦ λ e own. rw e refl
          | of_display v ↦ λ e own. rw e refl
          | end_of_set ↦ λ e own. rw e refl
          | passed_over ↦ λ e own. rw e refl
        ] e own

-- no region of the set is refused for want of bytes
pub pixels_fit : (epoch : Epoch) (profile : Profile) (tick : ℕ) (older set : List Content)
    → HaveOwnIds epoch.regions → pixel_need epoch.regions ≤ profile.pixels
    → All (IsSent epoch tick) (reverse (in_order set) ++ older)
    → first_fault_by (pixels_full profile) older set ≡ None
pixels_fit epoch profile tick older set apart enough sent =
    no_fault_by (pixels_full profile) older set (λ front back content parts.
    (let both = before_sent epoch tick older front back content set parts sent in none_too_large epoch profile tick
    (reverse front ++ older) content apart enough both.0 both.1))
