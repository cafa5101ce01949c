-- The tests of the regions of a set by what the epoch had before it.
use Rattle.std.proofs.Common.{◌≡◌, ◌∙◌, ℕ, ◌||◌, Bool, true, false, cond, List, [], ◌∷◌, ◌++◌, filter, reverse, Option, Some, None, option_map, refl, sym, ap, subst}
use Rattle.std.specs.Option.{option_or, is_some}
use Rattle.stream_syntax.specs.Segments.{SegmentValue, of_region, Region}
use Rattle.decoder_model.specs.Contents.{region_in, region_named, page_of, display_of}
use Rattle.decoder_model.specs.Faults.{first_fault_by, changed_region, changed_from, region_changed}
use Rattle.decoder_model.specs.Readings.{Content}
use Rattle.decoder_model.specs.Taken.{has_new_version, is_taken, last_region, version_of_region, taken_among, taken_of, taken_region}
use Rattle.decoder_model.specs.declared.set_fault.SetFault.{SetFault}
use Rattle.page_core.specs.Composition.{Composition}
use Rattle.page_core.specs.Handed.{AreContents}
use Rattle.page_core.specs.Memory.{head_of}
use Rattle.page_core.specs.Private.RegionTests.{first_in, IsQuiet, before_regions, AreApart, HasHeads, IsAsBefore, head_in, is_new, fault_behind_head, fault_of_head}
use Rattle.page_core.specs.Private.Seen.{defines}
use Rattle.page_core.specs.Private.Walks.{is_region, IsNextOf}
use Rattle.page_core.proofs.Sets.Defining.{any_reversed, any_of_none, no_region_in_page, no_region_in_clut, no_region_in_object, no_region_in_display, unnamed}
use Rattle.page_core.proofs.Sets.Orders.{is_display, is_page, is_clut, is_object, first_of_regions}
use Rattle.page_core.proofs.Regions.Versions.{version_of_taken, given_by}

-- ---- what is as before the set

pub either_false : (a b : Bool) → (a || b) ≡ false → (a ≡ false) × (b ≡ false)
either_false false b is = (refl, is)
either_false true b is = absurd (cc)

not_some : {X : Type 0} (o : Option X) → is_some o ≡ false → o ≡ None
not_some None is = refl
not_some (Some x) is = absurd (cc)

same_either : {X : Type 0} (b : Bool) (x : X) → cond b x x ≡ x
same_either true x = refl
same_either false x = refl

-- segments that do not define a region change nothing of it
behind_others : (id : ℕ) (mid base : List Content) → defines id mid ≡ false → IsAsBefore base (mid ++ base) id
unfolding taken_among
behind_others id [] base none = record { last = refl; taken = refl }
behind_others id (content ∷ mid) base none =
    let parts = either_false (is_some (region_named id content)) (defines id mid) none in
    let here : region_named id content ≡ None = not_some (region_named id content) parts.0 in
    let rest = behind_others id mid base parts.1 in
    let kept = last_region id (taken_among (mid ++ base)) in
    record {
      last = ap (λ (o : Option Region). option_or o (last_region id (mid ++ base))) here ∙ rest.last;
      taken =
          given_by (region_named id) content (taken_among (mid ++ base)) (is_taken (mid ++ base) content.value)
          ∙ ap (λ (o : Option Region). cond (is_taken (mid ++ base) content.value) (option_or o kept) kept) here
          ∙ same_either (is_taken (mid ++ base) content.value) kept
          ∙ rest.taken;
    }

as_before-trans : {id : ℕ} {a b c : List Content} → IsAsBefore a b id → IsAsBefore b c id → IsAsBefore a c id
as_before-trans first second = record { last = second.last ∙ first.last; taken = second.taken ∙ first.taken }

-- nothing of a region is changed before it in its set
pub as_before : (id : ℕ) (set older mid : List Content) → defines id mid ≡ false
    → IsAsBefore older (mid ++ before_regions older set) id
as_before id set older mid none =
    let p : Content → Bool = λ content. is_some (region_named id content) in
    let displays = filter (λ content. is_some (display_of content)) set in
    let pages = filter (λ content. is_some (page_of content)) set in
    let no_display : defines id (reverse displays) ≡ false =
    any_reversed p displays
    ∙ any_of_none p (λ content. is_some (display_of content)) set
    (λ content is. unnamed id content (no_region_in_display content.value is)) in
    let no_page : defines id (reverse pages) ≡ false =
    any_reversed p pages
    ∙ any_of_none p (λ content. is_some (page_of content)) set
    (λ content is. unnamed id content (no_region_in_page content.value is)) in
    as_before-trans
    (as_before-trans (behind_others id (reverse displays) older no_display)
    (behind_others id (reverse pages) (reverse displays ++ older) no_page))
    (behind_others id mid (before_regions older set) none)

-- ---- changed regions

new_by_head : (region : Region) (last : Option Region)
    → has_new_version region.head.version (version_of_region last) ≡ is_new region.head (option_map head_of last)
new_by_head region None = refl
new_by_head region (Some last) = refl

changed_by_head : (region : Region) (last : Option Region)
    → changed_from region last ≡ fault_behind_head region.head (option_map head_of last)
changed_by_head region None = refl
changed_by_head region (Some last) = refl

-- a region is taken, by the head that is known
pub taken_by_head : (older earlier : List Content) (region : Region) → IsAsBefore older earlier region.head.region
    → is_taken earlier (of_region region)
    ≡ is_new region.head (option_map head_of (taken_region region.head.region (taken_of older)))
taken_by_head older earlier region before =
    ap (λ (last : Option Region). has_new_version region.head.version (version_of_region last)) before.last
    ∙ ap (has_new_version region.head.version) (sym (version_of_taken region.head.region older))
    ∙ new_by_head region (taken_region region.head.region (taken_of older))

-- the fault of a region by the head that is known
pub fault_by_head : (older earlier : List Content) (content : Content) (region : Region) (composition : Composition)
    → HasHeads older composition → of_region region ≡ content.value
    → IsAsBefore older earlier region.head.region
    → fault_of_head region.head (head_in composition region.head.region) ≡ region_changed earlier content
fault_by_head older earlier content region composition has is before =
    let last = taken_region region.head.region (taken_of older) in
    ap (fault_of_head region.head) (has region.head.region)
    ∙ ap (λ b. cond b (fault_behind_head region.head (option_map head_of last)) None)
    (sym (taken_by_head older earlier region before))
    ∙ ap (λ f. cond (is_taken earlier (of_region region)) f None) (sym (changed_by_head region last))
    ∙ ap (λ (o : Option Region). cond (is_taken earlier (of_region region)) (changed_from region o) None)
    (sym before.taken)
    ∙ ap (λ (v : SegmentValue). changed_region earlier v (region_in v)) is

-- ---- a walk over the regions of a set

-- how far a test has come, with these bytes left
pub record IsTested (test : List Content → Content → Option SetFault) (older set : List Content)
    (bytes : List ℕ) : Type 0 where
  pub mid : List Content
  pub left : List Content
  pub are : AreContents left bytes
  pub apart : AreApart mid (filter is_region left)
  pub same : first_in test (before_regions older set) (filter is_region set)
      ≡ first_in test (mid ++ before_regions older set) (filter is_region left)

-- the next region of the walk, and that nothing of it was changed before
pub record NextTested (test : List Content → Content → Option SetFault) (older set : List Content) (region : Region)
    (rest : List ℕ) : Type 0 where
  pub mid : List Content
  pub content : Content
  pub is : of_region region ≡ content.value
  pub before : IsAsBefore older (mid ++ before_regions older set) region.head.region
  pub more : List Content
  pub are : AreContents more rest
  pub apart : AreApart (content ∷ mid) (filter is_region more)
  pub same : first_in test (before_regions older set) (filter is_region set)
      ≡ option_or (test (mid ++ before_regions older set) content)
      (first_in test (content ∷ (mid ++ before_regions older set)) (filter is_region more))

module _ (test : List Content → Content → Option SetFault) (older set : List Content) where
  abbrev pub starts : (bytes : List ℕ) → AreContents set bytes → AreApart [] (filter is_region set)
      → IsTested test older set bytes
  starts bytes are apart = record { mid = []; left = set; are = are; apart = apart; same = refl }

  abbrev pub next_tested : (bytes rest : List ℕ) (region : Region)
      → ((other : List Content) → AreContents other bytes → IsNextOf is_region other (of_region region) rest)
      → IsTested test older set bytes → NextTested test older set region rest
  next_tested bytes rest region next t =
      let n = next t.left t.are in
      let apart = subst (AreApart t.mid) n.split t.apart in
      record {
        mid = t.mid;
        content = n.content;
        is = n.same;
        before = as_before region.head.region set older t.mid (apart.0 region (ap region_in (sym n.same)));
        more = n.more;
        are = n.are;
        apart = apart.1;
        same = t.same ∙ ap (first_in test (t.mid ++ before_regions older set)) n.split;
      }

  -- a region without a fault is passed
  abbrev pub passes : (rest : List ℕ) (region : Region) (n : NextTested test older set region rest)
      → test (n.mid ++ before_regions older set) n.content ≡ None → IsTested test older set rest
  passes rest region n none = record {
    mid = n.content ∷ n.mid;
    left = n.more;
    are = n.are;
    apart = n.apart;
    same =
        n.same ∙ ap
        (λ (f : Option SetFault). option_or f
        (first_in test (n.content ∷ (n.mid ++ before_regions older set)) (filter is_region n.more))) none;
  }

  -- a fault is that of the set
  pub fails : (rest : List ℕ) (region : Region) (fault : SetFault) (n : NextTested test older set region rest)
      → test (n.mid ++ before_regions older set) n.content ≡ Some fault
      → first_in test (before_regions older set) (filter is_region set) ≡ Some fault
  fails rest region fault n is =
      n.same ∙ ap
      (λ (f : Option SetFault). option_or f
      (first_in test (n.content ∷ (n.mid ++ before_regions older set)) (filter is_region n.more))) is

  -- where no region is left, there was no fault
  pub ends : (bytes : List ℕ)
      → ((other : List Content) → AreContents other bytes → filter is_region other ≡ [])
      → IsTested test older set bytes → first_in test (before_regions older set) (filter is_region set) ≡ None
  ends bytes none t = t.same ∙ ap (first_in test (t.mid ++ before_regions older set)) (none t.left t.are)

-- ---- over the set in order

quiet_display : IsQuiet region_changed is_display
quiet_display before content is = ap (changed_region before content.value) (no_region_in_display content.value is)

quiet_page : IsQuiet region_changed is_page
quiet_page before content is = ap (changed_region before content.value) (no_region_in_page content.value is)

quiet_clut : IsQuiet region_changed is_clut
quiet_clut before content is = ap (changed_region before content.value) (no_region_in_clut content.value is)

quiet_object : IsQuiet region_changed is_object
quiet_object before content is = ap (changed_region before content.value) (no_region_in_object content.value is)

pub changed_in_order : (older set : List Content)
    → first_fault_by region_changed older set
    ≡ first_in region_changed (before_regions older set) (filter is_region set)
changed_in_order older set = first_of_regions region_changed older set quiet_display quiet_page quiet_clut quiet_object
