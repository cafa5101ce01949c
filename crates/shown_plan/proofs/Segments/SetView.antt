-- The taken segments of an epoch with one set of the plan more.
use Rattle.std.proofs.Common.{◌≡◌, ◌≢◌, ◌∙◌, ◌⊎◌, inl, inr, ℕ, suc, Bool, true, false, cond, eqb, List, [], ◌∷◌, ◌++◌, map, filter, reverse, get_or, None, refl, sym, ap, subst, arith}
use Rattle.std.specs.Prelude.{All}
use Rattle.std.specs.List.{AllPairs}
use Rattle.std.proofs.lemmas.Bool.Decides.{nat_tests}
use Rattle.std.proofs.lemmas.List.{reverse-append, append_assoc, append-nil, map-append}
use Rattle.std.proofs.lemmas.List.Elements.{All-head, All-tail, All-cons, All-append, All-map, filter-append}
use Rattle.std.proofs.lemmas.List.Kept.{AllPairs-cons}
use Rattle.stream_syntax.specs.declared.page.State.{State}
use Rattle.stream_syntax.specs.declared.page.State.TheVariants.{Normal, Acquisition, ModeChange}
use Rattle.cue_list.specs.declared.epoch.Epoch.{Epoch}
use Rattle.cue_list.specs.declared.script.Script.{Script}
use Rattle.page_epoch.proofs.ListLaws.{All-none}
use Rattle.page_epoch.specs.declared.planned_set.PlannedSet.{PlannedSet}
use Rattle.page_epoch.specs.declared.planned_set.SentClut.{SentClut}
use Rattle.page_epoch.specs.declared.planned_set.SentRegion.{SentRegion}
use Rattle.set_coder.specs.SetSegments.{display_segments}
use Rattle.decoder_model.specs.Contents.{region_named, clut_named, in_order}
use Rattle.decoder_model.specs.Readings.{Content}
use Rattle.decoder_model.specs.Taken.{segments_of, taken_among, is_taken}
use Rattle.decoder_model.proofs.TakenSets.{IsOther, taken_front}
use Rattle.shown_plan.specs.NamedSets.{Names}
use Rattle.shown_plan.proofs.Segments.Ordered.{displays_in, page_content, region_content, clut_content, regions_in, cluts_in, contents_in_order}
use Rattle.shown_plan.proofs.Segments.OwnIds.{AreSingle, single_head, single_tail, single_reversed}
use Rattle.shown_plan.proofs.Segments.ReadSets.{plain, IsObject, IsReadSet, objects_of}

-- ---- the set turned round

pub reverse_map : {X Y : Type 0} (f : X → Y) (xs : List X) → reverse (map f xs) ≡ map f (reverse xs)
reverse_map f [] = refl
reverse_map {X} {Y} f (x ∷ xs) =
    reverse-append (f x ∷ []) (map f xs) ∙ ap (λ rest. rest ++ f x ∷ []) (reverse_map f xs)
    ∙ sym (ap (map f) (reverse-append (x ∷ []) xs) ∙ mapped (reverse xs))
  where
    mapped : (ys : List X) → map f (ys ++ x ∷ []) ≡ map f ys ++ f x ∷ []
    mapped [] = refl
    mapped (y ∷ ys) = ap (λ rest. f y ∷ rest) (mapped ys)

-- the CLUTs, the regions, and the page and display of a set, the latest first
abbrev pub new_cluts : {script : Script} {epoch : Epoch} {set : PlannedSet} {contents : List Content}
    → IsReadSet script epoch set contents → List Content
new_cluts {epoch = epoch} is = map (clut_content epoch) (reverse is.cluts)

abbrev pub new_regions : {script : Script} {epoch : Epoch} {set : PlannedSet} {contents : List Content}
    → IsReadSet script epoch set contents → List Content
new_regions {epoch = epoch} {set = set} is = map (region_content is.names epoch) (reverse set.regions)

abbrev pub new_page : Script → Epoch → PlannedSet → List Content
new_page script epoch set = page_content script epoch set ∷ reverse (displays_in script set)

-- the segments of a set, the latest first
abbrev pub newest : {script : Script} {epoch : Epoch} {set : PlannedSet} {contents : List Content}
    → IsReadSet script epoch set contents → List Content
newest {script = script} {epoch = epoch} {set = set} is =
    reverse is.objects ++ (new_cluts is ++ (new_regions is ++ new_page script epoch set))

turned : (a d e : List Content) (b : Content) (c : List Content)
    → reverse (a ++ (b ∷ (c ++ (d ++ e)))) ≡ reverse e ++ (reverse d ++ (reverse c ++ (b ∷ reverse a)))
turned a d e b c =
    reverse-append a (b ∷ (c ++ (d ++ e)))
    ∙ ap (λ front. front ++ reverse a)
    (reverse-append (b ∷ []) (c ++ (d ++ e))
    ∙ ap (λ front. front ++ b ∷ [])
    (reverse-append c (d ++ e) ∙ ap (λ front. front ++ reverse c) (reverse-append d e)))
    ∙ append_assoc ((reverse e ++ reverse d) ++ reverse c) (b ∷ []) (reverse a)
    ∙ append_assoc (reverse e ++ reverse d) (reverse c) (b ∷ reverse a)
    ∙ append_assoc (reverse e) (reverse d) (reverse c ++ (b ∷ reverse a))

pub segments_more : (set : List Content) (sets : List (List Content))
    → segments_of (set ∷ sets) ≡ reverse (in_order set) ++ segments_of sets
unfolding segments_of
segments_more set sets = refl

pub newest_first : {script : Script} {epoch : Epoch} {set : PlannedSet} {contents : List Content}
    (is : IsReadSet script epoch set contents) (sets : List (List Content))
    → segments_of (contents ∷ sets) ≡ newest is ++ segments_of sets
newest_first {script} {epoch} {set} {contents} is sets =
    segments_more contents sets
    ∙ ap (λ all. all ++ segments_of sets)
    (ap reverse (contents_in_order is)
    ∙ turned (displays_in script set) (cluts_in is) is.objects (page_content script epoch set) (regions_in is)
    ∙ (λ i. reverse is.objects
    ++ (reverse_map (clut_content epoch) is.cluts i
    ++ (reverse_map (region_content is.names epoch) set.regions i ++ new_page script epoch set))))

-- ---- each is of another region and CLUT

-- a segment of no region and no CLUT
abbrev IsAnonymous : Content → Type 0
IsAnonymous content = (id : ℕ) → (region_named id content ≡ None) × (clut_named id content ≡ None)

anonymous_first : (a b : Content) → IsAnonymous a → IsOther a b
anonymous_first a b none id = (inl (none id).0, inl (none id).1)

anonymous_second : (a b : Content) → IsAnonymous b → IsOther a b
anonymous_second a b none id = (inr (none id).0, inr (none id).1)

pub pairs_append : {X : Type 0} (R : X → X → Type 0) (xs ys : List X) → AllPairs R xs → AllPairs R ys
    → All (λ x. All (R x) ys) xs → AllPairs R (xs ++ ys)
pairs_append R [] ys first second across = second
pairs_append R (x ∷ xs) ys first second across =
    AllPairs-cons R x (xs ++ ys)
    (All-append (R x) xs ys (λ k d within. first 0 (suc k) d (omega arith) (omega arith))
    (All-head (λ x. All (R x) ys) x xs across))
    (pairs_append R xs ys (λ i j d before within. first (suc i) (suc j) d (omega arith) (omega arith)) second
    (All-tail (λ x. All (R x) ys) x xs across))

anonymous_pairs : (xs ys : List Content) → All IsAnonymous xs → AllPairs IsOther ys → AllPairs IsOther (xs ++ ys)
anonymous_pairs [] ys none pairs = pairs
anonymous_pairs (x ∷ xs) ys none pairs =
    AllPairs-cons IsOther x (xs ++ ys)
    (λ k d within. anonymous_first x (get_or (xs ++ ys) k d) (All-head IsAnonymous x xs none))
    (anonymous_pairs xs ys (All-tail IsAnonymous x xs none) pairs)

pub reversed_all : {X : Type 0} (P : X → Type 0) (xs : List X) → All P xs → All P (reverse xs)
reversed_all P [] all = All-none P
reversed_all {X} P (x ∷ xs) all =
    subst (All P) (sym (reverse-append (x ∷ []) xs))
    (All-append P (reverse xs) (x ∷ []) (reversed_all P xs (All-tail P x xs all))
    (All-cons P x [] (All-head P x xs all) (All-none P)))

region_differs : (names : Names) (epoch : Epoch) (a b : SentRegion) → a.id ≢ b.id
    → IsOther (region_content names epoch a) (region_content names epoch b)
region_differs names epoch a b differ id = (by (eqb a.id id) (eqb b.id id) refl refl, inl refl)
  where
    by : (s t : Bool) → eqb a.id id ≡ s → eqb b.id id ≡ t
        → (region_named id (region_content names epoch a) ≡ None)
        ⊎ (region_named id (region_content names epoch b) ≡ None)
    by false t ea eb = inl (rw ea refl)
    by true false ea eb = inr (rw eb refl)
    by true true ea eb = absurd (differ (grind (arith, nat_tests)))

clut_differs : (epoch : Epoch) (a b : SentClut) → a.clut ≢ b.clut
    → IsOther (clut_content epoch a) (clut_content epoch b)
clut_differs epoch a b differ id = (inl refl, by (eqb a.clut id) (eqb b.clut id) refl refl)
  where
    by : (s t : Bool) → eqb a.clut id ≡ s → eqb b.clut id ≡ t
        → (clut_named id (clut_content epoch a) ≡ None) ⊎ (clut_named id (clut_content epoch b) ≡ None)
    by false t ea eb = inl (rw ea refl)
    by true false ea eb = inr (rw eb refl)
    by true true ea eb = absurd (differ (grind (arith, nat_tests)))

pub single_pairs : {X : Type 0} (R : Content → Content → Type 0) (number : X → ℕ) (content : X → Content)
    (xs : List X)
    → ((a b : X) → number a ≢ number b → R (content a) (content b)) → AreSingle number xs
    → AllPairs R (map content xs)
single_pairs R number content [] differ single = λ i j d before within. absurd (omega arith)
single_pairs R number content (x ∷ xs) differ single =
    AllPairs-cons R (content x) (map content xs)
    (All-map (R (content x)) content xs
    (λ k d within. differ x (get_or xs k d) (single_head number x xs single k d within)))
    (single_pairs R number content xs differ (single_tail number x xs single))

displays_anonymous : (script : Script) (state : State) → All IsAnonymous (map plain (display_segments script state))
displays_anonymous script Normal = All-none _
displays_anonymous script Acquisition = All-cons IsAnonymous _ [] (λ id. (refl, refl)) (All-none _)
displays_anonymous script ModeChange = All-cons IsAnonymous _ [] (λ id. (refl, refl)) (All-none _)

objects_anonymous : (objects : List Content) → All IsObject objects → All IsAnonymous objects
objects_anonymous objects all =
    λ k d within id. (let object = all k d within in (rw object.is refl, rw object.is refl))

-- each region and each CLUT has one segment in a set
pub record AreSentOnce {script : Script} {epoch : Epoch} {set : PlannedSet} {contents : List Content}
    (is : IsReadSet script epoch set contents) : Type 0 where
  pub regions : AreSingle (λ (sent : SentRegion). sent.id) set.regions
  pub cluts : AreSingle (λ (sent : SentClut). sent.clut) is.cluts

all_others : {script : Script} {epoch : Epoch} {set : PlannedSet} {contents : List Content}
    (is : IsReadSet script epoch set contents) → AreSentOnce is → AllPairs IsOther (newest is)
all_others {script} {epoch} {set} {contents} is once =
    anonymous_pairs (reverse is.objects) (new_cluts is ++ behind_cluts)
    (reversed_all IsAnonymous is.objects (objects_anonymous is.objects (objects_of is)))
    (pairs_append IsOther (new_cluts is) behind_cluts
    (single_pairs IsOther (λ (sent : SentClut). sent.clut) (clut_content epoch) (reverse is.cluts) (clut_differs epoch)
    (single_reversed (λ (sent : SentClut). sent.clut) is.cluts once.cluts))
    (pairs_append IsOther (new_regions is) last
    (single_pairs IsOther (λ (sent : SentRegion). sent.id) (region_content is.names epoch) (reverse set.regions)
    (region_differs is.names epoch) (single_reversed (λ (sent : SentRegion). sent.id) set.regions once.regions))
    last_pairs
    (All-map (λ a. All (IsOther a) last) (region_content is.names epoch) (reverse set.regions)
    (λ k d within n e inside. anonymous_second (region_content is.names epoch (get_or (reverse set.regions) k d))
    (get_or last n e) (last_anonymous n e inside))))
    (All-map (λ a. All (IsOther a) behind_cluts) (clut_content epoch) (reverse is.cluts)
    (λ k d within. All-append (IsOther (clut_content epoch (get_or (reverse is.cluts) k d))) (new_regions is) last
    (All-map (IsOther (clut_content epoch (get_or (reverse is.cluts) k d))) (region_content is.names epoch)
    (reverse set.regions) (λ n e inside id. (inl refl, inr refl)))
    (λ n e inside. anonymous_second (clut_content epoch (get_or (reverse is.cluts) k d)) (get_or last n e)
    (last_anonymous n e inside)))))
  where
    last : List Content
    last = new_page script epoch set

    last_anonymous : All IsAnonymous last
    last_anonymous =
        All-cons IsAnonymous (page_content script epoch set) (reverse (displays_in script set)) (λ id. (refl, refl))
        (reversed_all IsAnonymous (displays_in script set) (displays_anonymous script set.state))

    last_pairs : AllPairs IsOther last
    last_pairs =
        subst (AllPairs IsOther) (append-nil last)
        (anonymous_pairs last [] last_anonymous (λ i j d before within. absurd (omega arith)))

    behind_cluts : List Content
    behind_cluts = new_regions is ++ last

-- ---- what is taken

-- whether a segment is taken behind taken ones
abbrev pub keeps : List Content → Content → Bool
keeps taken content = is_taken taken content.value

-- of the segments of items, the latest first, those that are taken
abbrev pub kept_of : {X : Type 0} → (X → Content) → List Content → List X → List Content
kept_of content taken items = filter (keeps taken) (map content (reverse items))

pub parted_kept : {X : Type 0} (content : X → Content) (taken : List Content) (front own back : List X)
    → kept_of content taken (front ++ (own ++ back))
    ≡ kept_of content taken back ++ (kept_of content taken own ++ kept_of content taken front)
parted_kept content taken front own back =
    ap (λ items. filter (keeps taken) (map content items))
    (reverse-append front (own ++ back) ∙ ap (λ rest. rest ++ reverse front) (reverse-append own back))
    ∙ ap (filter (keeps taken))
    (map-append content (reverse back ++ reverse own) (reverse front)
    ∙ ap (λ rest. rest ++ map content (reverse front)) (map-append content (reverse back) (reverse own)))
    ∙ filter-append (keeps taken) (map content (reverse back) ++ map content (reverse own))
    (map content (reverse front))
    ∙ ap (λ rest. rest ++ kept_of content taken front)
    (filter-append (keeps taken) (map content (reverse back)) (map content (reverse own)))
    ∙ append_assoc (kept_of content taken back) (kept_of content taken own) (kept_of content taken front)

all_kept : (p : Content → Bool) (xs : List Content) → All (λ c. p c ≡ true) xs → filter p xs ≡ xs
all_kept p [] all = refl
all_kept p (x ∷ xs) all =
    ap (λ b. cond b (x ∷ filter p xs) (filter p xs)) (All-head (λ c. p c ≡ true) x xs all)
    ∙ ap (λ rest. x ∷ rest) (all_kept p xs (All-tail (λ c. p c ≡ true) x xs all))

objects_kept : (taken objects : List Content) → All IsObject objects → All (λ c. keeps taken c ≡ true) objects
objects_kept taken objects all = λ k d within. (let object = all k d within in rw object.is refl)

displays_kept : (script : Script) (taken : List Content) (state : State)
    → All (λ c. keeps taken c ≡ true) (map plain (display_segments script state))
displays_kept script taken Normal = All-none _
displays_kept script taken Acquisition = All-cons (λ c. keeps taken c ≡ true) _ [] refl (All-none _)
displays_kept script taken ModeChange = All-cons (λ c. keeps taken c ≡ true) _ [] refl (All-none _)

-- the taken segments with a set more: all of its objects, the CLUTs and regions whose versions are new, its page and
-- display
pub taken_now : {script : Script} {epoch : Epoch} {set : PlannedSet} {contents : List Content}
    (is : IsReadSet script epoch set contents) (sets : List (List Content)) → AreSentOnce is
    → taken_among (segments_of (contents ∷ sets))
    ≡ reverse is.objects
    ++ (filter (keeps (taken_among (segments_of sets))) (new_cluts is)
    ++ (filter (keeps (taken_among (segments_of sets))) (new_regions is)
    ++ (page_content script epoch set ∷ (reverse (displays_in script set) ++ taken_among (segments_of sets)))))
taken_now {script} {epoch} {set} {contents} is sets once =
    ap taken_among (newest_first is sets)
    ∙ taken_front (newest is) (segments_of sets) (all_others is once)
    ∙ ap (λ all. all ++ taken) kept
    ∙ append_assoc (reverse is.objects)
    (filter (keeps taken) (new_cluts is) ++ (filter (keeps taken) (new_regions is) ++ last)) taken
    ∙ ap (λ rest. reverse is.objects ++ rest)
    (append_assoc (filter (keeps taken) (new_cluts is)) (filter (keeps taken) (new_regions is) ++ last) taken
    ∙ ap (λ rest. filter (keeps taken) (new_cluts is) ++ rest)
    (append_assoc (filter (keeps taken) (new_regions is)) last taken))
  where
    taken : List Content
    taken = taken_among (segments_of sets)

    last : List Content
    last = new_page script epoch set

    last_kept : filter (keeps taken) last ≡ last
    last_kept =
        all_kept (keeps taken) last
        (All-cons (λ c. keeps taken c ≡ true) (page_content script epoch set) (reverse (displays_in script set)) refl
        (reversed_all (λ c. keeps taken c ≡ true) (displays_in script set) (displays_kept script taken set.state)))

    kept : filter (keeps taken) (newest is) ≡ reverse is.objects
        ++ (filter (keeps taken) (new_cluts is) ++ (filter (keeps taken) (new_regions is) ++ last))
    kept =
        filter-append (keeps taken) (reverse is.objects) (new_cluts is ++ (new_regions is ++ last))
        ∙ (λ i. all_kept (keeps taken) (reverse is.objects)
        (reversed_all (λ c. keeps taken c ≡ true) is.objects (objects_kept taken is.objects (objects_of is))) i
        ++ (filter-append (keeps taken) (new_cluts is) (new_regions is ++ last)
        ∙ ap (λ rest. filter (keeps taken) (new_cluts is) ++ rest)
        (filter-append (keeps taken) (new_regions is) last
        ∙ ap (λ rest. filter (keeps taken) (new_regions is) ++ rest) last_kept)) i)
