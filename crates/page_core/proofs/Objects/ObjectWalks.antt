-- The objects of a set, taken one after another.
use Rattle.std.proofs.Common.{◌≡◌, ◌∙◌, Bool, true, false, cond, List, [], ◌∷◌, ◌++◌, filter, reverse, Option, Some, None, ℕ, refl, sym, ap, subst}
use Rattle.std.specs.Option.{option_or}
use Rattle.stream_syntax.specs.Segments.{Object, of_object}
use Rattle.decoder_model.specs.Faults.{object_too_deep}
use Rattle.decoder_model.specs.Readings.{Content, AreObjectFields}
use Rattle.decoder_model.specs.declared.set_fault.SetFault.{SetFault}
use Rattle.page_core.specs.Handed.{AreContents}
use Rattle.page_core.specs.Memory.{Memory, HoldsSegments}
use Rattle.page_core.specs.Private.RegionTests.{first_in}
use Rattle.page_core.specs.Private.SetSteps.{KeepsButObjects}
use Rattle.page_core.specs.Private.Walks.{is_object, IsNextOf}
use Rattle.page_core.proofs.Sets.Orders.{moved}

-- a content of a set has the sub-blocks of its fields
pub fields_there : (wanted : Content → Bool) (set more : List Content) (content : Content) (bytes : List ℕ)
    → AreContents set bytes → filter wanted set ≡ content ∷ more
    → AreObjectFields content.value content.top content.bottom
fields_there wanted [] more content bytes are split = absurd (cc)
fields_there wanted (first ∷ set) more content bytes (rest, begins, are) split =
    by (wanted first) split (λ later. fields_there wanted set more content rest are later)
  where
    by : (hit : Bool) → cond hit (first ∷ filter wanted set) (filter wanted set) ≡ content ∷ more
        → (filter wanted set ≡ content ∷ more → AreObjectFields content.value content.top content.bottom)
        → AreObjectFields content.value content.top content.bottom
    by true is later =
        let same : first
        ≡ content = cc in subst (λ (c : Content). AreObjectFields c.value c.top c.bottom) same begins.is_reading.fields
    by false is later = later is

-- how far the objects are taken, with these bytes left
pub record AreTaken (older set : List Content) (memory : Memory) (bytes : List ℕ) : Type 0 where
  pub earlier : List Content
  pub left : List Content
  pub are : AreContents left bytes
  pub holds : HoldsSegments earlier memory
  pub fault : first_in object_too_deep older (filter is_object set)
      ≡ first_in object_too_deep earlier (filter is_object left)
  pub behind : reverse (filter is_object set) ++ older ≡ reverse (filter is_object left) ++ earlier

-- the next object, and what comes behind it
pub record IsNextTaken (older set : List Content) (memory : Memory) (object : Object) (rest : List ℕ) : Type 0 where
  pub earlier : List Content
  pub content : Content
  pub is : of_object object ≡ content.value
  pub fields : AreObjectFields content.value content.top content.bottom
  pub holds : HoldsSegments earlier memory
  pub more : List Content
  pub are : AreContents more rest
  pub fault : first_in object_too_deep older (filter is_object set)
      ≡ option_or (object_too_deep earlier content)
      (first_in object_too_deep (content ∷ earlier) (filter is_object more))
  pub behind : reverse (filter is_object set) ++ older ≡ reverse (filter is_object more) ++ (content ∷ earlier)

module _ (older set : List Content) where
  pub none_taken : (memory : Memory) (bytes : List ℕ) → HoldsSegments older memory → AreContents set bytes
      → AreTaken older set memory bytes
  none_taken memory bytes holds are =
      record { earlier = older; left = set; are = are; holds = holds; fault = refl; behind = refl }

  abbrev pub next_taken : (memory : Memory) (bytes rest : List ℕ) (object : Object)
      → ((other : List Content) → AreContents other bytes → IsNextOf is_object other (of_object object) rest)
      → AreTaken older set memory bytes → IsNextTaken older set memory object rest
  next_taken memory bytes rest object next t =
      let n = next t.left t.are in
      record {
        earlier = t.earlier;
        content = n.content;
        is = n.same;
        fields = fields_there is_object t.left (filter is_object n.more) n.content bytes t.are n.split;
        holds = t.holds;
        more = n.more;
        are = n.are;
        fault = t.fault ∙ ap (first_in object_too_deep t.earlier) n.split;
        behind =
            t.behind ∙ ap (λ (contents : List Content). reverse contents ++ t.earlier) n.split
            ∙ moved n.content (filter is_object n.more) t.earlier;
      }

  -- one without a fault is taken
  pub one_taken : (old new : Memory) (object : Object) (rest : List ℕ) (n : IsNextTaken older set old object rest)
      → object_too_deep n.earlier n.content ≡ None → HoldsSegments (n.content ∷ n.earlier) new
      → AreTaken older set new rest
  one_taken old new object rest n none holds = record {
    earlier = n.content ∷ n.earlier;
    left = n.more;
    are = n.are;
    holds = holds;
    fault =
        n.fault ∙ ap
        (λ (f : Option SetFault). option_or f
        (first_in object_too_deep (n.content ∷ n.earlier) (filter is_object n.more))) none;
    behind = n.behind;
  }

  -- a fault is that of the set
  pub one_fails : (memory : Memory) (object : Object) (rest : List ℕ) (fault : SetFault)
      (n : IsNextTaken older set memory object rest) → object_too_deep n.earlier n.content ≡ Some fault
      → first_in object_too_deep older (filter is_object set) ≡ Some fault
  one_fails memory object rest fault n is =
      n.fault ∙ ap
      (λ (f : Option SetFault). option_or f
      (first_in object_too_deep (n.content ∷ n.earlier) (filter is_object n.more))) is

  -- where none is left, there was no fault, and all are taken
  pub all_without_fault : (memory : Memory) (bytes : List ℕ)
      → ((other : List Content) → AreContents other bytes → filter is_object other ≡ [])
      → AreTaken older set memory bytes
      → first_in object_too_deep older (filter is_object set) ≡ None
  all_without_fault memory bytes none t = t.fault ∙ ap (first_in object_too_deep t.earlier) (none t.left t.are)

  pub all_taken : (memory : Memory) (bytes : List ℕ)
      → ((other : List Content) → AreContents other bytes → filter is_object other ≡ [])
      → AreTaken older set memory bytes
      → HoldsSegments (reverse (filter is_object set) ++ older) memory
  all_taken memory bytes none t =
      subst (λ (segments : List Content). HoldsSegments segments memory)
      (sym (t.behind ∙ ap (λ (contents : List Content). reverse contents ++ t.earlier) (none t.left t.are))) t.holds

pub keeps_twice : {a b c : Memory} → KeepsButObjects a b → KeepsButObjects b c → KeepsButObjects a c
keeps_twice first second = record {
  profile = second.profile ∙ first.profile;
  page = second.page ∙ first.page;
  anchor = second.anchor ∙ first.anchor;
  last = second.last ∙ first.last;
  known = second.known ∙ first.known;
  time_out = second.time_out ∙ first.time_out;
  display = second.display ∙ first.display;
  size = second.size ∙ first.size;
  entries = second.entries ∙ first.entries;
  free = second.free ∙ first.free;
  cluts = second.cluts ∙ first.cluts;
  set_entries = second.set_entries ∙ first.set_entries;
  inks = second.inks ∙ first.inks;
  store_size = second.store_size ∙ first.store_size;
  store_free = second.store_free ∙ first.store_free;
}

pub keeps_all : (memory : Memory) → KeepsButObjects memory memory
keeps_all memory = record {
  profile = refl;
  page = refl;
  anchor = refl;
  last = refl;
  known = refl;
  time_out = refl;
  display = refl;
  size = refl;
  entries = refl;
  free = refl;
  cluts = refl;
  set_entries = refl;
  inks = refl;
  store_size = refl;
  store_free = refl;
}
