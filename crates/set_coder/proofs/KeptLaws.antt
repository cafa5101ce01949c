-- Blocks that are kept are those of the pictures of their numbers, and stay while more are kept.
use Rattle.std.proofs.Common.{◌≡◌, true, ℕ, ◌+◌, ◌<◌, ◌≤◌, ◌++◌, List, [], ◌∷◌, length, get_or, take, Option, Some, None, All, sym, ap, subst, ◌∙◌, arith}
use Rattle.std.proofs.Math.ListN.{get_or-append}
use Rattle.std.proofs.lemmas.Option.{get_or_from_slice_get}
use Rattle.std.proofs.lemmas.List.{length-append, take_all}
use Rattle.std.proofs.lemmas.List.Elements.{All-cons, All-append, All-nil, All-more}
use Rattle.std.proofs.lemmas.List.Quantifiers.{Any-push}
use Rattle.std.specs.Prelude.{Any, Contains, IfSome, is_some, slice_get}
use Rattle.sub_base.specs.Picture.{Picture}
use Rattle.sub_base.specs.declared.depth.Depth.{Depth}
use Rattle.cue_list.specs.declared.epoch.Cue.{Cue}
use Rattle.cue_list.specs.declared.epoch.Epoch.{Epoch}
use Rattle.cue_records.specs.declared.region.Region.{Region}
use Rattle.cue_list.specs.Past.{region_with}
use Rattle.set_coder.specs.declared.coded_picture.CodedPicture.{CodedPicture}
use Rattle.set_coder.specs.KeptBlocks.{IsCoded, FitsLargestBuffer, IsOf, IsPictureKept, IsCueKept}
use Rattle.set_coder.specs.Private.Keeping.{StaysInFront}

-- ---- each is right

-- it is right for the picture of its number
abbrev IsOneOf : List Picture → CodedPicture → Type 0
IsOneOf pictures coded = (d : Picture) → IsCoded (get_or pictures coded.number d) coded.region coded

coded_right : (pictures : List Picture) (picture : Picture) (number : ℕ) (region : Depth) (coded : CodedPicture)
    → slice_get pictures number ≡ Some picture
    → coded.number ≡ number → coded.region ≡ region → IsCoded picture region coded → IsOneOf pictures coded
coded_right pictures picture number region coded found n r right d =
    let same : get_or pictures number d ≡ picture = get_or_from_slice_get pictures number picture d found in
    subst (λ (p : Picture). IsCoded p coded.region coded) (sym same ∙ ap (λ (k : ℕ). get_or pictures k d) (sym n))
    (subst (λ (at : Depth). IsCoded picture at coded) (sym r) right)

-- one more picture is kept
pub one_more : (pictures : List Picture) (picture : Picture) (number : ℕ) (region : Depth) (coded : CodedPicture)
    (kept more : List CodedPicture) → slice_get pictures number ≡ Some picture
    → coded.number ≡ number → coded.region ≡ region → IsCoded picture region coded
    → All (IsOneOf pictures) kept → more ≡ kept ++ coded ∷ [] → All (IsOneOf pictures) more
one_more pictures picture number region coded kept more found n r right all e =
    subst (All (IsOneOf pictures)) (sym e)
    (All-append (IsOneOf pictures) kept (coded ∷ []) all
    (All-cons (IsOneOf pictures) coded [] (coded_right pictures picture number region coded found n r right)
    (All-nil (IsOneOf pictures))))

-- and no buffer is too small for any
pub one_more_small : (kept : List CodedPicture) (coded : CodedPicture) (more : List CodedPicture)
    → more ≡ kept ++ coded ∷ [] → FitsLargestBuffer coded → All FitsLargestBuffer kept → All FitsLargestBuffer more
one_more_small kept coded more e small all =
    subst (All FitsLargestBuffer) (sym e)
    (All-append FitsLargestBuffer kept (coded ∷ []) all
    (All-cons FitsLargestBuffer coded [] small (All-nil FitsLargestBuffer)))

-- ---- what is kept stays

-- of what blocks were kept, blocks are kept still
abbrev pub StaysKept : List CodedPicture → List CodedPicture → Type 0
StaysKept old new = (number : ℕ) (region : Depth) → Any (IsOf number region) old → Any (IsOf number region) new

-- what is said of the one that is found, where one is
pub some_given : {X : Type 0} (P Q : X → Type 0) (o : Option X) → IfSome o P → IfSome o Q
    → is_some o ≡ true → (x : X) × P x × Q x
some_given P Q None p q given = cc
some_given P Q (Some x) p q given = (x, p, q)

-- blocks that are found are kept
pub kept_found : (number : ℕ) (region : Depth) (coded : CodedPicture) (kept : List CodedPicture)
    → IsOf number region coded → Contains kept coded → Any (IsOf number region) kept
kept_found number region coded kept of among = (among.0, coded, among.1, among.2, of)

-- the blocks that are pushed are kept
pub last_kept : (number : ℕ) (region : Depth) (coded : CodedPicture) (kept more : List CodedPicture)
    → coded.number ≡ number → coded.region ≡ region → more ≡ kept ++ coded ∷ []
    → Any (IsOf number region) more
last_kept number region coded kept more n r e =
    subst (Any (IsOf number region)) (sym e) (Any-push (IsOf number region) kept coded (n, r))

-- those in front of them stay
pub front_stays : (kept more : List CodedPicture) → StaysInFront kept more → StaysKept kept more
front_stays kept more front = λ number region any.
    let within : any.0 < length (kept ++ front.0) = omega (arith, length-append kept front.0, any.2) in
    let here : get_or (kept ++ front.0) any.0 any.1 ≡ any.1 =
    get_or-append kept front.0 any.1 any.0 any.2 ∙ any.3 in
    subst (Any (IsOf number region)) (sym front.1) (any.0, any.1, within, here, any.4)

-- the picture of a cue is kept for the region that is found
pub cue_kept : (pictures : List Picture) (coded : List CodedPicture) (epoch : Epoch) (cue : Cue) (region : Region)
    → region_with cue.region epoch.regions ≡ Some region → IsPictureKept pictures coded cue.picture region.depth
    → IsCueKept pictures coded epoch cue
cue_kept pictures coded epoch cue region found kept = λ other is.
    let same : region ≡ other = cc in
    subst (λ (r : Region). IsPictureKept pictures coded cue.picture r.depth) same kept

-- and stays so
cue_stays : (pictures : List Picture) (kept more : List CodedPicture) (epoch : Epoch) (cue : Cue)
    → StaysKept kept more → IsCueKept pictures kept epoch cue → IsCueKept pictures more epoch cue
cue_stays pictures kept more epoch cue stay here =
    λ region found picture at can. stay cue.picture region.depth (here region found picture at can)

-- one more cue, which is read from the same list
pub next_cue : (pictures : List Picture) (epoch : Epoch) (cues items : List Cue) (i : ℕ) (d : Cue)
    (kept more : List CodedPicture) → i < length cues → items ≡ cues → StaysKept kept more
    → All (IsCueKept pictures kept epoch) (take i cues) → IsCueKept pictures more epoch (get_or items i d)
    → All (IsCueKept pictures more epoch) (take (i + 1) cues)
next_cue pictures epoch cues items i d kept more lt same stay all here =
    All-more (IsCueKept pictures more epoch) cues i d lt
    (λ k e within. cue_stays pictures kept more epoch (get_or (take i cues) k e) stay (all k e within))
    (subst (λ (cs : List Cue). IsCueKept pictures more epoch (get_or cs i d)) same here)

-- the pictures of the epoch's cues are kept
abbrev IsEpochKept : List Picture → List CodedPicture → Epoch → Type 0
IsEpochKept pictures coded epoch = All (IsCueKept pictures coded epoch) epoch.cues

-- one more epoch
pub next_epoch : (pictures : List Picture) (epochs : List Epoch) (i : ℕ) (epoch : Epoch)
    (kept more : List CodedPicture) → i < length epochs → epoch ≡ get_or epochs i epoch → StaysKept kept more
    → All (IsEpochKept pictures kept) (take i epochs) → IsEpochKept pictures more epoch
    → All (IsEpochKept pictures more) (take (i + 1) epochs)
next_epoch pictures epochs i epoch kept more lt is stay all here =
    All-more (IsEpochKept pictures more) epochs i epoch lt
    (λ k e within. let one = get_or (take i epochs) k e in λ j f inner. cue_stays pictures kept more one
    (get_or one.cues j f) stay (all k e within j f inner)) (subst (IsEpochKept pictures more) is here)

-- the first ones, where there are no more, are all
pub all_taken : {X : Type 0} (P : X → Type 0) (i : ℕ) (xs : List X) → length xs ≤ i → All P (take i xs)
    → All P xs
all_taken P i xs end all = subst (All P) (take_all i xs end) all
