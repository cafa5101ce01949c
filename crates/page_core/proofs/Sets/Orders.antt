-- A test of one kind of segments, over a set in the order in which its segments are handled.
use Rattle.std.proofs.Common.{◌≡◌, Bool, true, false, cond, List, [], ◌∷◌, ◌++◌, filter, reverse, Option, Some, None, refl, sym, ap, ◌∙◌, append_assoc}
use Rattle.std.specs.Option.{option_or, is_some}
use Rattle.std.proofs.lemmas.List.{reverse-append}
use Rattle.decoder_model.specs.Contents.{display_of, page_of, region_of, clut_of, object_of}
use Rattle.decoder_model.specs.Faults.{first_fault_by}
use Rattle.decoder_model.specs.Readings.{Content}
use Rattle.decoder_model.specs.declared.set_fault.SetFault.{SetFault}
use Rattle.page_core.specs.Private.RegionTests.{first_in, IsQuiet, before_regions}

abbrev pub is_display : Content → Bool
is_display content = is_some (display_of content)

abbrev pub is_page : Content → Bool
is_page content = is_some (page_of content)

abbrev pub is_region : Content → Bool
is_region content = is_some (region_of content)

abbrev pub is_clut : Content → Bool
is_clut content = is_some (clut_of content)

abbrev pub is_object : Content → Bool
is_object content = is_some (object_of content)

-- the first of a list behind others is the latest of these
pub moved : (content : Content) (xs before : List Content)
    → reverse (content ∷ xs) ++ before ≡ reverse xs ++ content ∷ before
moved content xs before =
    ap (λ ys. ys ++ before) (reverse-append (content ∷ []) xs) ∙ append_assoc (reverse xs) (content ∷ []) before

pub or_assoc : {X : Type 0} (a b c : Option X) → option_or a (option_or b c) ≡ option_or (option_or a b) c
or_assoc None b c = refl
or_assoc (Some x) b c = refl

or_none : {X : Type 0} (a : Option X) → option_or a None ≡ a
or_none None = refl
or_none (Some x) = refl

-- the first fault of two parts
pub first_in-append : (test : List Content → Content → Option SetFault) (older xs ys : List Content)
    → first_in test older (xs ++ ys) ≡ option_or (first_in test older xs) (first_in test (reverse xs ++ older) ys)
first_in-append test older [] ys = refl
first_in-append test older (x ∷ xs) ys =
    ap (option_or (test older x))
    (first_in-append test (x ∷ older) xs ys
    ∙ ap (λ before. option_or (first_in test (x ∷ older) xs) (first_in test before ys))
    (sym (moved x xs older)))
    ∙ or_assoc (test older x) (first_in test (x ∷ older) xs) (first_in test (reverse (x ∷ xs) ++ older) ys)

by_kind : (test : List Content → Content → Option SetFault) (kind : Content → Bool) (older : List Content)
    (x : Content) (rest : List Content) → (kind x ≡ true → test older x ≡ None)
    → ((before : List Content) → first_in test before rest ≡ None)
    → (hit : Bool) → kind x ≡ hit → first_in test older (cond hit (x ∷ rest) rest) ≡ None
by_kind test kind older x rest quiet none true is =
    ap (λ f. option_or f (first_in test (x ∷ older) rest)) (quiet is) ∙ none (x ∷ older)
by_kind test kind older x rest quiet none false is = none older

pub nothing_in : (test : List Content → Content → Option SetFault) (kind : Content → Bool)
    (older set : List Content) → IsQuiet test kind → first_in test older (filter kind set) ≡ None
nothing_in test kind older [] quiet = refl
nothing_in test kind older (x ∷ xs) quiet =
    by_kind test kind older x (filter kind xs) (quiet older x) (λ before. nothing_in test kind before xs quiet)
    (kind x) refl

-- a test of regions alone
pub first_of_regions : (test : List Content → Content → Option SetFault) (older set : List Content)
    → IsQuiet test is_display → IsQuiet test is_page → IsQuiet test is_clut → IsQuiet test is_object
    → first_fault_by test older set ≡ first_in test (before_regions older set) (filter is_region set)
first_of_regions test older set displays pages cluts objects =
    let d = filter is_display set in
    let p = filter is_page set in
    let r = filter is_region set in
    let c = filter is_clut set in
    let o = filter is_object set in
    first_in-append test older d (p ++ (r ++ (c ++ o)))
    ∙ ap (λ f. option_or f (first_in test (reverse d ++ older) (p ++ (r ++ (c ++ o)))))
    (nothing_in test is_display older set displays)
    ∙ first_in-append test (reverse d ++ older) p (r ++ (c ++ o))
    ∙ ap (λ f. option_or f (first_in test (before_regions older set) (r ++ (c ++ o))))
    (nothing_in test is_page (reverse d ++ older) set pages)
    ∙ first_in-append test (before_regions older set) r (c ++ o)
    ∙ ap (option_or (first_in test (before_regions older set) r)) (tail (reverse r ++ before_regions older set))
    ∙ or_none (first_in test (before_regions older set) r)
  where
    tail : (before : List Content) → first_in test before (filter is_clut set ++ filter is_object set) ≡ None
    tail before =
        first_in-append test before (filter is_clut set) (filter is_object set)
        ∙ ap (λ f. option_or f (first_in test (reverse (filter is_clut set) ++ before) (filter is_object set)))
        (nothing_in test is_clut before set cluts)
        ∙ nothing_in test is_object (reverse (filter is_clut set) ++ before) set objects
