-- The CLUT segments of a set, counted one after another.
use Rattle.std.proofs.Common.{◌≡◌, ◌∙◌, ℕ, ◌+◌, ◌==◌, ◌<◌, ◌^◌, Bool, true, false, cond, List, [], ◌∷◌, ◌++◌, filter, length, reverse, Option, Some, None, option_map, refl, sym, ap, subst, arith}
use Rattle.std.specs.Prelude.{min, slice_index_or}
use Rattle.std.specs.Option.{is_some, option_or}
use Rattle.stream_syntax.specs.Segments.{of_clut, Clut}
use Rattle.decoder_model.specs.Contents.{clut_in as value_clut, clut_of, where_passes}
use Rattle.decoder_model.specs.Nodes.{clut_ids, table_entries}
use Rattle.decoder_model.specs.Readings.{Content}
use Rattle.decoder_model.specs.Taken.{version_of_clut, is_taken, last_clut, taken_among}
use Rattle.page_core.specs.Private.ClutSteps.{Placed, placed_by, with_entries_of, with_segment, entries_placed}
use Rattle.page_core.specs.Composition.{Composition, clut_in}
use Rattle.page_core.specs.Private.Counting.{AreCounted, CountsMore, HasVersions, IsClutCounted, clut_need, new_or_none, of_taken}
use Rattle.page_core.specs.Handed.{AreContents}
use Rattle.page_core.specs.Private.Walks.{IsNextOf, is_clut}
use Rattle.page_core.specs.declared.marks.Mark.{Mark}
use Rattle.page_core.proofs.ColourTables.ClutLaws.{clut_ids_with, taken_more, taken_same, version_by}
use Rattle.page_core.proofs.ColourTables.ClutNodes.{version_of}
use Rattle.page_core.proofs.ColourTables.ClutSegments.{need_grows}
use Rattle.page_core.proofs.Sets.Orders.{moved}
use Rattle.page_core.proofs.ColourTables.PlacedLaws.{placed_count}

-- ---- one segment

-- one whose version is known needs nothing
pub clut_not_counted : (earlier : List Content) (content : Content) (composition : Composition)
    (versions : List (Option ℕ)) (marks : List Mark) → is_taken earlier content.value ≡ false
    → HasVersions earlier composition versions
    → AreCounted (placed_by (taken_among earlier)) composition.set_entries marks
    → IsClutCounted earlier content composition versions marks 0
clut_not_counted earlier content composition versions marks held known counted =
    let same : taken_among earlier ≡ taken_among (content ∷ earlier) = sym (taken_same content earlier held) in
    record {
      known =
          λ id byte. known id byte ∙ ap (λ (segments : List Content). version_of_clut (last_clut id segments)) same;
      counted =
          subst (λ (segments : List Content). AreCounted (placed_by segments) composition.set_entries marks) same
          counted;
      exact = ap clut_need (sym same) ∙ omega arith;
    }

needs_one : (known : Option ℕ) (last : Option Clut) (ids : List ℕ) (id : ℕ) → known ≡ version_of_clut last
    → length (cond (is_some last) ids (id ∷ ids)) ≡ length ids + new_or_none known
needs_one None None ids id is = omega arith
needs_one (Some version) (Some last) ids id is = omega arith
needs_one None (Some last) ids id is = absurd (cc)
needs_one (Some version) None ids id is = absurd (cc)

-- by the taken segments
record IsCountedBy (now taken : List Content) (composition : Composition) (versions : List (Option ℕ))
    (marks : List Mark) (count : ℕ) : Type 0 where
  known : (id : ℕ) → id < 256
      → option_or (slice_index_or versions id None) (option_map version_of (clut_in composition id))
      ≡ version_of_clut (last_clut id now)
  counted : AreCounted (placed_by now) composition.set_entries marks
  exact : clut_need now ≡ clut_need taken + count

pub clut_counted : (earlier : List Content) (content : Content) (clut : Clut) (composition : Composition)
    (versions new_versions : List (Option ℕ)) (marks new_marks : List Mark) (known : Option ℕ)
    (entries count : ℕ) → of_clut clut ≡ content.value
    → is_taken earlier content.value ≡ true
    → known ≡ version_of_clut (last_clut clut.clut (taken_among earlier))
    → HasVersions earlier composition versions
    → ((other : ℕ) → other < 256
    → slice_index_or new_versions other None
    ≡ cond (clut.clut == other) (Some clut.version) (slice_index_or versions other None))
    → AreCounted (placed_by (taken_among earlier)) composition.set_entries marks
    → CountsMore (with_entries_of clut.clut clut.entries) marks new_marks entries
    → clut_need (taken_among (content ∷ earlier)) < 2 ^ 63
    → count ≡ min (new_or_none known + entries) 18446744073709551615
    → IsClutCounted earlier content composition new_versions new_marks count
clut_counted earlier content clut composition versions new_versions marks new_marks known entries count is takes
    known_is has set counted more few sum =
    let of : clut_of content ≡ Some clut = sym (ap value_clut is) in
    let taken = taken_among earlier in
    let all : taken_among (content ∷ earlier) ≡ content ∷ taken = taken_more content earlier takes in
    let placed : placed_by (content ∷ taken) ≡ with_entries_of clut.clut clut.entries (placed_by taken) =
    ap (λ (o : Option Clut). with_segment o (placed_by taken)) of in
    let need : clut_need (content ∷ taken) < 2 ^ 63 =
    subst (λ (segments : List Content). clut_need segments < 2 ^ 63) all few in
    let now : entries_placed (with_entries_of clut.clut clut.entries (placed_by taken))
    ≡ length (table_entries (of_taken (content ∷ taken))) = ap entries_placed (sym placed)
    ∙ placed_count (content ∷ taken) in
    let step = more (placed_by taken) composition.set_entries counted (omega (arith, need, now)) in
    let ids : length (clut_ids (of_taken (content ∷ taken)))
    ≡ length (clut_ids (of_taken taken)) + new_or_none known =
    ap length (clut_ids_with content clut taken of)
    ∙ needs_one known (last_clut clut.clut taken) (clut_ids (of_taken taken)) clut.clut known_is in
    let named : (asked : ℕ)
    → last_clut asked (content ∷ taken)
    ≡ option_or (cond (clut.clut == asked) (Some clut) None) (last_clut asked taken) = λ asked. ap
    (λ (o : Option Clut). option_or (where_passes (λ c. c.clut == asked) o) (last_clut asked taken)) of in
    let own : IsCountedBy (content ∷ taken) taken composition new_versions new_marks count = record {
      known = λ id byte.
          ap (λ (o : Option ℕ). option_or o (option_map version_of (clut_in composition id))) (set id byte)
          ∙ first (clut.clut == id) (slice_index_or versions id None) (option_map version_of (clut_in composition id))
          ∙ ap (cond (clut.clut == id) (Some clut.version)) (has id byte)
          ∙ version_by clut id (last_clut id taken) ∙ ap version_of_clut (sym (named id));
      counted = subst (λ (ps : List Placed). AreCounted ps composition.set_entries new_marks) (sym placed) step.0;
      exact =
          total (length (clut_ids (of_taken (content ∷ taken)))) (length (clut_ids (of_taken taken)))
          (new_or_none known) (length (table_entries (of_taken (content ∷ taken))))
          (length (table_entries (of_taken taken))) entries count ids
          (sym now ∙ step.1 ∙ ap (λ n. n + entries) (placed_count taken)) need sum;
    } in
    let behind =
    subst (λ (segments : List Content). IsCountedBy segments taken composition new_versions new_marks count)
    (sym all) own in
    record { known = behind.known; counted = behind.counted; exact = behind.exact }
  where
    first : (hit : Bool) (set kept : Option ℕ)
        → option_or (cond hit (Some clut.version) set) kept ≡ cond hit (Some clut.version) (option_or set kept)
    first true set kept = refl
    first false set kept = refl

    total : (new_ids ids one new_entries entries more count : ℕ) → new_ids ≡ ids + one
        → new_entries ≡ entries + more → new_ids + new_entries < 2 ^ 63
        → count ≡ min (one + more) 18446744073709551615 → new_ids + new_entries ≡ ids + entries + count
    total new_ids ids one new_entries entries more count a b few is = omega (arith, a, b, few, is)

-- ---- the walk

-- how far the CLUT segments are counted, with these bytes left
pub record IsCountingCluts (base set : List Content) (composition : Composition) (bytes : List ℕ)
    (versions : List (Option ℕ)) (marks : List Mark) (nodes : ℕ) : Type 0 where
  pub mid : List Content
  pub left : List Content
  pub are : AreContents left bytes
  pub known : HasVersions (mid ++ base) composition versions
  pub counted : AreCounted (placed_by (taken_among (mid ++ base))) composition.set_entries marks
  pub exact : clut_need (taken_among (mid ++ base)) ≡ clut_need (taken_among base) + nodes
  pub all : reverse (filter is_clut set) ++ base ≡ reverse (filter is_clut left) ++ (mid ++ base)

abbrev pub IsCountingAny : Composition → List Mark → List ℕ → List ℕ → List (Option ℕ) → List Mark
    → ℕ → Type 0
IsCountingAny composition old bytes rest versions marks nodes = (base set : List Content)
    → HasVersions base composition [] → AreCounted (placed_by (taken_among base)) composition.set_entries old
    → AreContents set bytes
    → clut_need (taken_among (reverse (filter is_clut set) ++ base)) < 2 ^ 63
    → IsCountingCluts base set composition rest versions marks nodes

pub cluts_begin : (composition : Composition) (marks : List Mark) (bytes : List ℕ) (versions : List (Option ℕ))
    → ((id : ℕ) → id < 256 → slice_index_or versions id None ≡ None)
    → IsCountingAny composition marks bytes bytes versions marks 0
cluts_begin composition marks bytes versions none base set known counted are few = record {
  mid = [];
  left = set;
  are = are;
  known =
      λ id byte. ap (λ (o : Option ℕ). option_or o (option_map version_of (clut_in composition id)))
      (none id byte) ∙ known id byte;
  counted = counted;
  exact = omega arith;
  all = refl;
}

pub cluts_go_on : (composition : Composition) (old marks new_marks : List Mark) (bytes here rest : List ℕ)
    (versions new_versions : List (Option ℕ)) (clut : Clut) (nodes count total : ℕ)
    → ((other : List Content) → AreContents other here → IsNextOf is_clut other (of_clut clut) rest)
    → ((earlier : List Content) (content : Content) → of_clut clut ≡ content.value
    → HasVersions earlier composition versions
    → AreCounted (placed_by (taken_among earlier)) composition.set_entries marks
    → clut_need (taken_among (content ∷ earlier)) < 2 ^ 63
    → IsClutCounted earlier content composition new_versions new_marks count)
    → total ≡ min (nodes + count) 18446744073709551615
    → IsCountingAny composition old bytes here versions marks nodes
    → IsCountingAny composition old bytes rest new_versions new_marks total
cluts_go_on composition old marks new_marks bytes here rest versions new_versions clut nodes count total next counts sum
    on base set known counted are few =
    let w = on base set known counted are few in
    let n = next w.left w.are in
    let all =
    w.all ∙ ap (λ xs. reverse xs ++ (w.mid ++ base)) n.split
    ∙ moved n.content (filter is_clut n.more) (w.mid ++ base) in
    let grows = need_grows (reverse (filter is_clut n.more)) (n.content ∷ (w.mid ++ base)) in
    let whole = ap (λ (segments : List Content). clut_need (taken_among segments)) all in
    let step = counts (w.mid ++ base) n.content n.same w.known w.counted (omega (arith, grows, whole, few)) in
    record {
      mid = n.content ∷ w.mid;
      left = n.more;
      are = n.are;
      known = step.known;
      counted = step.counted;
      exact =
          added (clut_need (taken_among (n.content ∷ (w.mid ++ base)))) (clut_need (taken_among (w.mid ++ base)))
          (clut_need (taken_among base)) nodes count total step.exact w.exact (omega (arith, grows, whole, few)) sum;
      all = all;
    }
  where
    added : (new now base nodes count total : ℕ) → new ≡ now + count → now ≡ base + nodes → new < 2 ^ 63
        → total ≡ min (nodes + count) 18446744073709551615 → new ≡ base + total
    added new now base nodes count total step exact few is = omega (arith, step, exact, few, is)

pub cluts_end : (composition : Composition) (old marks : List Mark) (bytes here : List ℕ)
    (versions : List (Option ℕ)) (nodes : ℕ) (base set : List Content)
    → ((other : List Content) → AreContents other here → filter is_clut other ≡ [])
    → IsCountingAny composition old bytes here versions marks nodes → HasVersions base composition []
    → AreCounted (placed_by (taken_among base)) composition.set_entries old → AreContents set bytes
    → clut_need (taken_among (reverse (filter is_clut set) ++ base)) < 2 ^ 63
    → clut_need (taken_among (reverse (filter is_clut set) ++ base)) ≡ clut_need (taken_among base) + nodes
cluts_end composition old marks bytes here versions nodes base set none on known counted are few =
    let w = on base set known counted are few in
    ap (λ (segments : List Content). clut_need (taken_among segments))
    (w.all ∙ ap (λ xs. reverse xs ++ (w.mid ++ base)) (none w.left w.are)) ∙ w.exact
