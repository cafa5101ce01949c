-- A set of a plan has one list of PES packets: a picture has one pair of blocks, a cue one object.
use Rattle.std.proofs.Common.{◌≡◌, ◌≢◌, ◌∙◌, refl, sym, ap, subst, ℕ, Bool, true, false, List, [], ◌∷◌, ◌++◌, map}
use Rattle.std.specs.Str.{bytes_eq}
use Rattle.std.proofs.lemmas.Slice.Eq.{bytes_eq-Decides}
use Rattle.sub_base.specs.declared.depth.Depth.{Depth}
use Rattle.sub_base.specs.Picture.{Picture, top_field, bottom_field, HasEqualFields}
use Rattle.stream_syntax.specs.FieldBlocks.{AreFieldBlocks, AreRowBlocks, IsFieldBlock, IsRowBlock, identity_table}
use Rattle.stream_syntax.specs.PixelBlocks.{string_type, line_end_type}
use Rattle.stream_syntax.specs.Segments.{SegmentValue, end_of_set}
use Rattle.cue_list.specs.declared.epoch.Epoch.{Epoch}
use Rattle.cue_list.specs.declared.script.Script.{Script}
use Rattle.page_epoch.specs.Live.{cue_at}
use Rattle.page_epoch.specs.declared.planned_set.PlannedSet.{PlannedSet}
use Rattle.pes_packets.specs.Units.{IsSharedOut}
use Rattle.pes_packets.proofs.OneSharing.{units_same}
use Rattle.pixel_codes.proofs.OneString.{one_string}
use Rattle.set_coder.specs.SetSegments.{AreObjectsOf, AreSetPackets, AreSetSegments, IsObjectOf, depth_of_cue, leading_segments, object_segment, picture_of_cue, segment_bytes, unit_packet}
use Rattle.set_coder.proofs.SetSizeLaws.{one_epoch}

-- ---- blocks

one_row_block : (depth : Depth) (row bytes others : List ℕ) → IsRowBlock depth row bytes
    → IsRowBlock depth row others → bytes ≡ others
one_row_block depth row bytes others (text, spelled, is) (again, spells, also) =
    is
    ∙ ap (λ (text : List ℕ). string_type depth ∷ (text ++ line_end_type ∷ []))
    (one_string depth row text again spelled spells)
    ∙ sym also

one_row_blocks : (depth : Depth) (rows : List (List ℕ)) (bytes others : List ℕ) → AreRowBlocks depth rows bytes
    → AreRowBlocks depth rows others → bytes ≡ others
one_row_blocks depth [] bytes others first second = first ∙ sym second
one_row_blocks depth (row ∷ rows) bytes others (front, rest, is, block, more) (head, tail, also, again, others_more) =
    let same : front ≡ head = one_row_block depth row front head block again in
    let behind : rest ≡ tail = one_row_blocks depth rows rest tail more others_more in
    is ∙ (λ i. same i ++ behind i) ∙ sym also

one_field_block : (depth region : Depth) (rows : List (List ℕ)) (bytes others : List ℕ)
    → IsFieldBlock depth region rows bytes → IsFieldBlock depth region rows others → bytes ≡ others
one_field_block depth region [] bytes others first second = first ∙ sym second
one_field_block depth region (row ∷ rows) bytes others (text, blocks, is) (again, more, also) =
    is
    ∙ ap (λ (text : List ℕ). identity_table depth region ++ text)
    (one_row_blocks depth (row ∷ rows) text again blocks more)
    ∙ sym also

-- the blocks of a picture's fields are one pair
pub one_blocks : (picture : Picture) (region : Depth) (a b c d : List ℕ) → AreFieldBlocks picture region a b
    → AreFieldBlocks picture region c d → (a ≡ c) × (b ≡ d)
one_blocks picture region a b c d p q =
    (one_field_block picture.depth region (top_field picture) a c p.top_block q.top_block, by (bytes_eq b d) refl)
  where
    by : (t : Bool) → bytes_eq b d ≡ t → b ≡ d
    by true e = (bytes_eq-Decides b d).0 e
    by false e =
        let other : b ≢ d =
        λ same. let bad : true ≡ false = sym ((bytes_eq-Decides b d).1 same) ∙ e in cc in
        let apart : HasEqualFields picture → ⊥ = λ equal. other (p.shared equal ∙ sym (q.shared equal)) in
        absurd (other (one_field_block picture.depth region (bottom_field picture) b d (p.own apart) (q.own apart)))

-- ---- segments

-- the object of a cue is one
pub one_object : (pictures : List Picture) (epoch : Epoch) (place : ℕ) (one other : SegmentValue)
    → IsObjectOf pictures epoch place one → IsObjectOf pictures epoch place other → one ≡ other
one_object pictures epoch place one other first second =
    let same =
    one_blocks (picture_of_cue pictures epoch place) (depth_of_cue epoch place) first.top first.bottom second.top
    second.bottom first.blocks second.blocks in
    let top = same.0 in
    let bottom = same.1 in
    first.value ∙ (λ i. object_segment place (cue_at epoch.cues place).see_through (top i) (bottom i))
    ∙ sym second.value

one_objects : (pictures : List Picture) (epoch : Epoch) (places : List ℕ) (ones others : List SegmentValue)
    → AreObjectsOf pictures epoch places ones → AreObjectsOf pictures epoch places others → ones ≡ others
one_objects pictures epoch [] [] [] first second = refl
one_objects pictures epoch [] [] (other ∷ others) first second = absurd second
one_objects pictures epoch [] (one ∷ ones) others first second = absurd first
one_objects pictures epoch (place ∷ places) [] others first second = absurd first
one_objects pictures epoch (place ∷ places) (one ∷ ones) [] first second = absurd second
one_objects pictures epoch (place ∷ places) (one ∷ ones) (other ∷ others) first second =
    let head : one ≡ other = one_object pictures epoch place one other first.0 second.0 in
    let tail : ones ≡ others = one_objects pictures epoch places ones others first.1 second.1 in
    λ i. head i ∷ tail i

-- the segments of a set are one list
pub one_segments : (script : Script) (page : ℕ) (set : PlannedSet) (segments others : List SegmentValue)
    → AreSetSegments script page set segments → AreSetSegments script page set others → segments ≡ others
one_segments script page set segments others first second =
    let epoch : second.epoch ≡ first.epoch =
    one_epoch second.epoch first.epoch (sym second.found ∙ first.found) in
    let Objects : Epoch → Type 0 =
    λ epoch. AreObjectsOf script.pictures epoch set.cues second.objects in
    let objects : first.objects ≡ second.objects =
    one_objects script.pictures first.epoch set.cues first.objects second.objects first.drawn
    (subst Objects epoch second.drawn) in
    first.whole
    ∙ (λ i. leading_segments script (sym epoch i) set ++ (objects i ++ end_of_set ∷ []))
    ∙ sym second.whole

-- ---- packets

-- the PES packets of a set are one list
pub one_packets : (script : Script) (page : ℕ) (set : PlannedSet) (packets others : List (List ℕ))
    → AreSetPackets script page set packets → AreSetPackets script page set others → packets ≡ others
one_packets script page set packets others first second =
    let segments : second.segments ≡ first.segments =
    one_segments script page set second.segments first.segments second.carried first.carried in
    let Shared : List SegmentValue → Type 0 =
    λ segments. IsSharedOut (segment_bytes page) segments second.units in
    let units : first.units ≡ second.units =
    units_same (segment_bytes page) first.segments first.units second.units first.shared
    (subst Shared segments second.shared) in
    first.are ∙ ap (map (unit_packet page set.pts)) units ∙ sym second.are
