-- Objects of cues: that they can be written, how many bytes they have, and one after another.
use Rattle.std.proofs.Common.{◌≡◌, ℕ, suc, ◌+◌, ◌<◌, ◌≤◌, ◌^◌, Bool, true, false, List, [], ◌∷◌, ◌++◌, length, get_or, drop, sym, ap, subst, ◌∙◌, append_assoc, arith}
use Rattle.std.specs.Prelude.{All}
use Rattle.std.specs.List.{flat_map}
use Rattle.std.proofs.lemmas.List.{append-nil, drop_more, drop_all}
use Rattle.std.proofs.lemmas.List.Elements.{All-cons, All-append, AllZip-get_or, length_all_zip}
use Rattle.std.proofs.lemmas.Grind.{flat_map-append}
use Rattle.std.proofs.lemmas.Option.{get_or_from_slice_get, slice_get-get_or}
use Rattle.sub_base.specs.Picture.{Picture, picture_of, top_field, bottom_field}
use Rattle.sub_base.specs.declared.depth.Depth.{Depth}
use Rattle.sub_base.specs.declared.load.TheConstants.{UNIT_ROOM}
use Rattle.sub_base.specs.declared.depth.Depth.TheVariants.{Two}
use Rattle.stream_syntax.specs.FieldBlocks.{AreFieldBlocks, AreFieldSizes, DrawsPicture}
use Rattle.stream_syntax.specs.Fields.{Field, FitsFields}
use Rattle.stream_syntax.specs.SegmentTests.{AreBlocks}
use Rattle.stream_syntax.specs.Segments.{SegmentValue, end_of_set, bytes_fields, padding, object_fields, is_odd, spelled, IsWritable}
use Rattle.segments.specs.Sizes.{object_size}
use Rattle.segments.proofs.Sizes.{body_size, written_size}
use Rattle.cue_list.specs.declared.epoch.Cue.{Cue}
use Rattle.cue_list.specs.declared.epoch.Epoch.{Epoch}
use Rattle.cue_records.specs.declared.region.Region.{Region}
use Rattle.page_epoch.specs.Live.{cue_at}
use Rattle.page_epoch.specs.Sendable.{HasCue}
use Rattle.set_coder.specs.SetSegments.{epoch_region, picture_of_cue, depth_of_cue, object_segment, IsObjectOf, AreObjectsOf}
use Rattle.set_coder.specs.SetSizes.{IsObjectSize, AreObjectSizes}
use Rattle.set_coder.specs.Usable.{IsDrawable, AreDrawable}
use Rattle.picture_fields.proofs.FieldLaws.{field_size, one_sizes}
use Rattle.set_coder.proofs.WritableLaws.{writable, flag_small}

-- bytes fit their rows
fits_bytes : (bytes : List ℕ) (fields : List Field) → ((i : ℕ) → get_or bytes i 0 < 256) → FitsFields fields
    → FitsFields (bytes_fields bytes ++ fields)
fits_bytes [] fields each fits = fits
fits_bytes (b ∷ bytes) fields each fits = (each 0, fits_bytes bytes fields (λ i. each (suc i)) fits)

fits_padding : (padded : Bool) → FitsFields (padding padded)
fits_padding false = tt
fits_padding true = (omega arith, tt)

-- an object that is short enough can be written, and has its head, its own seven bytes and its blocks, made even
pub object_writable : (page object : ℕ) (see_through : Bool) (top bottom : List ℕ) → page < 2 ^ 16
    → object < 2 ^ 16 → AreBlocks top bottom → ((i : ℕ) → get_or top i 0 < 256)
    → ((i : ℕ) → get_or bottom i 0 < 256)
    → length top + length bottom ≤ 65528 → object_size (length top) (length bottom) ≤ 65541
    → IsWritable page (object_segment object see_through top bottom)
    × (length (spelled page (object_segment object see_through top bottom))
    ≡ object_size (length top) (length bottom))
object_writable page object see_through top bottom page_fits object_fits blocks each_top each_bottom few even =
    let padded =
    is_odd (record { object = object; version = 0; see_through = see_through; top = top; bottom = bottom }) in
    let body : FitsFields
    (object_fields padded
    (record { object = object; version = 0; see_through = see_through; top = top; bottom = bottom })) = (
      object_fits,
      (
        omega
            arith,
        (
          omega
              arith,
          (
            flag_small
                see_through,
            (
              tt,
              (
                omega
                    arith,
                (omega arith, fits_bytes top _ each_top (fits_bytes bottom _ each_bottom (fits_padding padded))),
              ),
            ),
          ),
        ),
      ),
    ) in
    let value = object_segment object see_through top bottom in
    let whole = writable page value page_fits body (omega (arith, body_size value)) blocks tt in
    (whole, written_size page value whole)

-- an object that can be written has that many bytes
pub object_length : (page object : ℕ) (see_through : Bool) (top bottom : List ℕ)
    → IsWritable page (object_segment object see_through top bottom)
    → length (spelled page (object_segment object see_through top bottom))
    ≡ object_size (length top) (length bottom)
object_length page object see_through top bottom whole =
    written_size page (object_segment object see_through top bottom) whole

-- ---- the object of a cue

-- an item of a list that is there is the same by any default
same_item : {X : Type 0} (xs : List X) (i : ℕ) (d e : X) → i < length xs → get_or xs i d ≡ get_or xs i e
same_item xs i d e h = sym (get_or_from_slice_get xs i (get_or xs i d) e (slice_get-get_or xs i d h))

-- the picture of a cue and the depth of its region
pub object_named : (pictures seen : List Picture) (epoch : Epoch) (place : ℕ) (cue : Cue) (picture : Picture)
    (region : Region) → AreDrawable pictures epoch → HasCue epoch place → cue ≡ cue_at epoch.cues place
    → seen ≡ pictures → picture ≡ get_or seen cue.picture picture
    → region ≡ epoch_region epoch cue.region → (picture ≡ picture_of_cue pictures epoch place)
    × (region.depth ≡ depth_of_cue epoch place)
object_named pictures seen epoch place cue picture region drawable has named same is found =
    let here : IsDrawable pictures epoch (cue_at epoch.cues place) = drawable place _ has in
    let number : cue.picture ≡ (cue_at epoch.cues place).picture = ap (λ (c : Cue). c.picture) named in (
      is ∙ ap (λ (xs : List Picture). get_or xs cue.picture picture) same
          ∙ ap (λ (n : ℕ). get_or pictures n picture) number
          ∙ same_item pictures (cue_at epoch.cues place).picture picture (picture_of 0 0 Two []) here.picture,
      ap (λ (r : Region). r.depth) found ∙ ap (λ (c : Cue). (epoch_region epoch c.region).depth) named,
    )

-- the object with these blocks is that of the cue
pub object_is : (pictures : List Picture) (epoch : Epoch) (place : ℕ) (cue : Cue) (picture : Picture) (depth : Depth)
    (top bottom : List ℕ) → cue ≡ cue_at epoch.cues place → picture ≡ picture_of_cue pictures epoch place
    → depth ≡ depth_of_cue epoch place
    → AreFieldBlocks picture depth top bottom → DrawsPicture picture depth top bottom
    → IsObjectOf pictures epoch place (object_segment place cue.see_through top bottom)
object_is pictures epoch place cue picture depth top bottom named p d blocks drawn = record {
  top = top;
  bottom = bottom;
  blocks =
      subst (λ (x : Picture). AreFieldBlocks x (depth_of_cue epoch place) top bottom) p
      (subst (λ (x : Depth). AreFieldBlocks picture x top bottom) d blocks);
  drawn =
      subst (λ (x : Picture). DrawsPicture x (depth_of_cue epoch place) top bottom) p
      (subst (λ (x : Depth). DrawsPicture picture x top bottom) d drawn);
  value = ap (λ (c : Cue). object_segment place c.see_through top bottom) named;
}

pub block_sizes : (picture : Picture) (region : Depth) (top bottom : List ℕ)
    → AreFieldBlocks picture region top bottom → AreFieldSizes picture region (length top) (length bottom)
block_sizes picture region top bottom b = record {
  top_size = field_size picture.depth region (top_field picture) top b.top_block;
  shared = λ e. ap length (b.shared e);
  own = λ e. field_size picture.depth region (bottom_field picture) bottom (b.own e);
}

-- and the size of the object of the cue is that of its blocks
pub object_sized : (pictures : List Picture) (epoch : Epoch) (place size : ℕ) (picture : Picture) (depth : Depth)
    (top bottom : List ℕ) → picture ≡ picture_of_cue pictures epoch place → depth ≡ depth_of_cue epoch place
    → AreFieldBlocks picture depth top bottom → IsObjectSize pictures epoch place size
    → object_size (length top) (length bottom) ≡ size
object_sized pictures epoch place size picture depth top bottom p d blocks s =
    let here : AreFieldSizes (picture_of_cue pictures epoch place) (depth_of_cue epoch place) (length top)
    (length bottom) =
    subst (λ (x : Picture). AreFieldSizes x (depth_of_cue epoch place) (length top) (length bottom)) p
    (subst (λ (x : Depth). AreFieldSizes picture x (length top) (length bottom)) d
    (block_sizes picture depth top bottom blocks)) in
    let same =
    one_sizes (picture_of_cue pictures epoch place) (depth_of_cue epoch place) (length top) (length bottom) s.0 s.1
    here s.2 in
    ap (λ (n : ℕ). object_size n (length bottom)) same.0 ∙ ap (object_size s.0) same.1 ∙ sym s.3

-- ---- one object after another

-- the objects that are written, and those that are left
pub record Objects (pictures : List Picture) (epoch : Epoch) (page : ℕ) (cues old now : List ℕ)
    (i : ℕ) : Type 0 where
  pub done : List SegmentValue
  pub writable : All (IsWritable page) done
  pub bytes : now ≡ old ++ flat_map (spelled page) done
  pub drawn : (rest : List SegmentValue) → AreObjectsOf pictures epoch (drop i cues) rest
      → AreObjectsOf pictures epoch cues (done ++ rest)

pub objects_none : (pictures : List Picture) (epoch : Epoch) (page : ℕ) (cues old : List ℕ)
    → Objects pictures epoch page cues old old 0
objects_none pictures epoch page cues old =
    record {
      done = [];
      writable = λ k d h. absurd (omega arith);
      bytes = sym (append-nil old);
      drawn = λ rest are. are;
    }

-- there is room for the next object
pub object_room : (pictures : List Picture) (epoch : Epoch) (cues : List ℕ) (i : ℕ) → i < length cues
    → (sizes : List ℕ) × AreObjectSizes pictures epoch cues sizes × All (λ size. size ≤ UNIT_ROOM) sizes
    → (size : ℕ) × IsObjectSize pictures epoch (get_or cues i 0) size × (size ≤ UNIT_ROOM)
object_room pictures epoch cues i h room =
    let count = length_all_zip (IsObjectSize pictures epoch) cues room.0 room.1 in (
      get_or room.0 i 0,
      AllZip-get_or (IsObjectSize pictures epoch) cues room.0 i 0 0 room.1 h,
      room.2 i 0
          (omega (arith, count, h)),
    )

pub objects_more : (pictures : List Picture) (epoch : Epoch) (page : ℕ) (cues old now new : List ℕ) (i : ℕ)
    → i < length cues → Objects pictures epoch page cues old now i
    → (object : SegmentValue) × IsObjectOf pictures epoch (get_or cues i 0) object × IsWritable page object
    × (new ≡ now ++ spelled page object) → Objects pictures epoch page cues old new (i + 1)
objects_more pictures epoch page cues old now new i h o one = record {
  done = o.done ++ one.0 ∷ [];
  writable =
      All-append (IsWritable page) o.done (one.0 ∷ []) o.writable
      (All-cons (IsWritable page) one.0 [] one.2 (λ k d l. absurd (omega arith)));
  bytes =
      one.3 ∙ ap (λ (xs : List ℕ). xs ++ spelled page one.0) o.bytes
      ∙ append_assoc old (flat_map (spelled page) o.done) (spelled page one.0)
      ∙ ap (λ (xs : List ℕ). old ++ xs)
      (ap (λ (xs : List ℕ). flat_map (spelled page) o.done ++ xs) (sym (append-nil (spelled page one.0)))
      ∙ sym (flat_map-append (spelled page) o.done (one.0 ∷ [])));
  drawn = λ rest are.
      subst (AreObjectsOf pictures epoch cues) (sym (append_assoc o.done (one.0 ∷ []) rest))
      (o.drawn (one.0 ∷ rest)
      (subst (λ (places : List ℕ). AreObjectsOf pictures epoch places (one.0 ∷ rest))
      (sym (drop_more cues i 0 h)) (one.1, are)));
}

pub objects_drawn : (pictures : List Picture) (epoch : Epoch) (page : ℕ) (cues old now : List ℕ) (i : ℕ)
    → length cues ≤ i → Objects pictures epoch page cues old now i
    → (objects : List SegmentValue) × AreObjectsOf pictures epoch cues objects × All (IsWritable page) objects
    × (now ≡ old ++ flat_map (spelled page) objects)
objects_drawn pictures epoch page cues old now i h o = (
  o.done,
  subst (AreObjectsOf pictures epoch cues) (append-nil o.done)
      (o.drawn []
      (subst (λ (places : List ℕ). AreObjectsOf pictures epoch places []) (sym (drop_all i cues h))
      tt)),
  o.writable,
  o.bytes,
)

-- ---- the segments

-- the bytes of all segments, one after the other
pub bytes_are : (page : ℕ) (leading objects : List SegmentValue) (start first second whole : List ℕ)
    → start ≡ [] → first ≡ start ++ flat_map (spelled page) leading
    → second ≡ first ++ flat_map (spelled page) objects
    → whole ≡ second ++ spelled page end_of_set
    → whole ≡ flat_map (spelled page) (leading ++ (objects ++ end_of_set ∷ []))
bytes_are page leading objects start first second whole s a b c =
    let one = flat_map (spelled page) leading in
    let two = flat_map (spelled page) objects in
    let three = spelled page end_of_set in
    let text : flat_map (spelled page) (leading ++ (objects ++ end_of_set ∷ [])) ≡ one ++ (two ++ three) =
    flat_map-append (spelled page) leading (objects ++ end_of_set ∷ [])
    ∙ ap (λ (xs : List ℕ). one ++ xs)
    (flat_map-append (spelled page) objects (end_of_set ∷ [])
    ∙ ap (λ (xs : List ℕ). two ++ xs) (append-nil three)) in
    c ∙ ap (λ (xs : List ℕ). xs ++ three)
    (b ∙ ap (λ (xs : List ℕ). xs ++ two) (a ∙ ap (λ (xs : List ℕ). xs ++ one) s))
    ∙ append_assoc one two three ∙ sym text
