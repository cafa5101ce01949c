-- Each call takes a store that is one after some calls to a store that is one after these and that call.
use Rattle.std.proofs.Common.{◌≡◌, ◌≢◌, ◌∙◌, refl, sym, ap, subst, inl, inr, ℕ, ◌+◌, ◌-◌, ◌<◌, ◌≤◌, ◌⊎◌, Bool, true, false, cond, ltb, List, ◌∷◌, length, filter, find, get_or, map, Option, None, Some, arith}
use Rattle.std.specs.Prelude.{if◌then◌else◌, ◌&&◌, ◌==◌, unwrap_or}
use Rattle.std.proofs.lemmas.Bool.{cases_eq, cases_lt, eq-eqb, ne_eqb, lt-ltb, le-ltb, le-leb, lt-leb}
use Rattle.std.proofs.lemmas.List.{get_or-map, get_or_past, length-map}
use Rattle.std.proofs.lemmas.List.Sums.{sum_by-cons}
use Rattle.sub_base.specs.declared.depth.Depth.{Depth}
use Rattle.string_painting.specs.Painting.{laid_over, code_after, region_code}
use Rattle.string_painting.specs.declared.drawing.Brush.{Brush}
use Rattle.string_painting.proofs.Laying.{before_start, under, behind}
use Rattle.pixel_store.specs.Regions.{StoredRegion, Regions, IsPlaced, region_at, code_of, PlacesOne, KeepsOthers, IsFilled, IsRunPainted, IsStringPainted}
use Rattle.pixel_store.specs.Calls.{StoreCall, Place, Fill, PaintRun, PaintString, shown_code, string_code, covers, code_given, last_write, is_place, is_place_of, bytes_taken, placing, IsAfter}

found : (p : StoreCall → Bool) (call : StoreCall) (past : List StoreCall) → p call ≡ true
    → find p (call ∷ past) ≡ Some call
found p call past hit = ap (λ (b : Bool). cond b (Some call) (find p past)) hit

passed : (p : StoreCall → Bool) (call : StoreCall) (past : List StoreCall) → p call ≡ false
    → find p (call ∷ past) ≡ find p past
passed p call past miss = ap (λ (b : Bool). cond b (Some call) (find p past)) miss

-- the last write is that of the call, or that of the calls before
written : (slot x y : ℕ) (call : StoreCall) (past : List StoreCall) → covers slot x y call ≡ true
    → last_write slot x y (call ∷ past) ≡ code_given x (Some call)
written slot x y call past hit = ap (code_given x) (found (covers slot x y) call past hit)

unwritten : (slot x y : ℕ) (call : StoreCall) (past : List StoreCall) → covers slot x y call ≡ false
    → last_write slot x y (call ∷ past) ≡ last_write slot x y past
unwritten slot x y call past miss = ap (code_given x) (passed (covers slot x y) call past miss)

-- the sides of each region are kept
sides : (slot : ℕ) (old new : Regions) → KeepsOthers slot old new → (k : ℕ) →
    ((region_at new k).width ≡ (region_at old k).width) × ((region_at new k).height ≡ (region_at old k).height)
    × ((region_at new k).depth ≡ (region_at old k).depth)
sides slot old new keeps k = elim (cases_eq k slot) [
  | inl e ↦
      let Same : ℕ → Type 0 = λ m.
      ((region_at new m).width ≡ (region_at old m).width) × ((region_at new m).height ≡ (region_at old m).height)
      × ((region_at new m).depth ≡ (region_at old m).depth) in
      subst Same (sym e) (keeps.width, keeps.height, keeps.depth)
  | inr ne ↦
      let same = keeps.others k ne in (
        ap (λ (r : StoredRegion). r.width) same,
        ap (λ (r : StoredRegion). r.height) same,
        ap
            (λ (r : StoredRegion). r.depth) same,
      )
]

-- a call that changes the codes of one region
module _ (slot : ℕ) (old new : Regions) (keeps : KeepsOthers slot old new) (call : StoreCall) (past : List StoreCall)
    (after : IsAfter past old)
    (no_place : is_place call ≡ false) (no_place_of : (k : ℕ) → is_place_of k call ≡ false)
    (no_bytes : bytes_taken call ≡ 0)
    (elsewhere : (k x y : ℕ) → k ≢ slot → covers k x y call ≡ false)
    (here : (x y : ℕ) → IsPlaced old slot → x < (region_at old slot).width → y < (region_at old slot).height →
    code_of (region_at new slot) x y ≡ last_write slot x y (call ∷ past)) where
  changed_after : IsAfter (call ∷ past) new
  changed_after = record {
    count =
        keeps.count ∙ after.count
        ∙ sym (ap (λ (b : Bool). length (cond b (call ∷ filter is_place past) (filter is_place past))) no_place);
    placed = λ k is_in.
        let s = sides slot old new keeps k in
        passed (is_place_of k) call past (no_place_of k)
        ∙ after.placed k (subst (λ (n : ℕ). k < n) keeps.count is_in)
        ∙ (λ i. Some (Place k (sym s.0 i) (sym s.1 i) (sym s.2 i)));
    codes = λ k x y is_in column row.
        let s = sides slot old new keeps k in
        let old_in : IsPlaced old k = subst (λ (n : ℕ). k < n) keeps.count is_in in
        let old_column : x < (region_at old k).width = subst (λ (n : ℕ). x < n) s.0 column in
        let old_row : y < (region_at old k).height = subst (λ (n : ℕ). y < n) s.1 row in
        elim (cases_eq k slot) [
          | inl e ↦
              let Same : ℕ → Type 0 =
              λ m. IsPlaced old m → x < (region_at old m).width → y < (region_at old m).height →
              code_of (region_at new m) x y ≡ last_write m x y (call ∷ past) in
              subst Same (sym e) (here x y) old_in old_column old_row
          | inr ne ↦
              ap (λ (r : StoredRegion). code_of r x y) (keeps.others k ne) ∙ after.codes k x y old_in old_column old_row
              ∙ sym (unwritten k x y call past (elsewhere k x y ne))
        ];
    bytes = omega (arith, sum_by-cons bytes_taken call past, no_bytes, keeps.free, keeps.size, after.bytes);
  }

pub fill_after : (slot code : ℕ) (old new : Regions) → KeepsOthers slot old new
    → IsFilled code (region_at new slot) →
    (past : List StoreCall) → IsAfter past old → IsAfter (Fill slot code ∷ past) new
fill_after slot code old new keeps filled past after =
    changed_after slot old new keeps (Fill slot code) past after refl (λ k. refl) refl
    (λ k x y ne. ne_eqb slot k (λ e. ne (sym e)))
    (λ x y is_in column row.
    filled x y (subst (λ (n : ℕ). x < n) (sym keeps.width) column)
    (subst (λ (n : ℕ). y < n) (sym keeps.height) row)
    ∙ sym (written slot x y (Fill slot code) past (eq-eqb slot slot refl)))

pub run_after : (slot left row count code : ℕ) (old new : Regions) → KeepsOthers slot old new →
    IsRunPainted left row count code (region_at old slot) (region_at new slot) →
    (past : List StoreCall) → IsAfter past old → IsAfter (PaintRun slot left row count code ∷ past) new
run_after slot left row count code old new keeps painted past after =
    changed_after slot old new keeps (PaintRun slot left row count code) past after refl (λ k. refl) refl
    (λ k x y ne. rw (ne_eqb slot k (λ e. ne (sym e))) refl)
    (λ x y is_in column below. elim (cases_eq y row) [
      | inl e ↦ elim (cases_lt x left) [
        | inl before ↦ other x y is_in column below (inr (inl before))
            (rw (eq-eqb slot slot refl, eq-eqb row y (sym e), lt-leb left x before) refl)
        | inr from ↦ elim (cases_lt x (left + count)) [
          | inl inside ↦
              subst (λ (m : ℕ). code_of (region_at new slot) x m ≡ code) (sym e)
              (painted.covered x column (subst (λ (m : ℕ). m < (region_at old slot).height) e below) from inside)
              ∙ sym (written slot x y (PaintRun slot left row count code) past
              (rw (eq-eqb slot slot refl, eq-eqb row y (sym e), le-leb left x from, lt-ltb x (left + count) inside)
              refl))
          | inr behind ↦ other x y is_in column below (inr (inr behind))
              (rw (eq-eqb slot slot refl, eq-eqb row y (sym e), le-leb left x from, le-ltb x (left + count) behind)
              refl)
        ]
      ]
      | inr ne ↦ other x y is_in column below (inl ne)
          (rw (eq-eqb slot slot refl, ne_eqb row y (λ e. ne (sym e))) refl)
    ]) where
      other : (x y : ℕ) → IsPlaced old slot → x < (region_at old slot).width
          → y < (region_at old slot).height →
          (y ≢ row) ⊎ ((x < left) ⊎ (left + count ≤ x))
          → covers slot x y (PaintRun slot left row count code) ≡ false →
          code_of (region_at new slot) x y ≡ last_write slot x y (PaintRun slot left row count code ∷ past)
      other x y is_in column below where_it_is miss =
          painted.outside x y column below where_it_is ∙ after.codes slot x y is_in column below
          ∙ sym (unwritten slot x y (PaintRun slot left row count code) past miss)

-- what a string gives to a column: nothing before it, what its pixel there gives, nothing behind it
given_before : (left : ℕ) (codes : List (Option ℕ)) (x : ℕ) → x < left → string_code left codes x ≡ None
given_before left codes x h = let t : ltb x left ≡ true = lt-ltb _ _ h in rw t refl

given_on : (left : ℕ) (codes : List (Option ℕ)) (x : ℕ) → left ≤ x
    → string_code left codes x ≡ get_or codes (x - left) None
given_on left codes x h = let t : ltb x left ≡ false = le-ltb _ _ h in rw t refl

-- a pixel is laid over a code: the code that it gives, and where it gives none the code that was there
shown_over : (seen : Bool) (old code : ℕ)
    → (if seen then old else code) ≡ unwrap_or (if seen then None else Some code) old
shown_over true old code = refl
shown_over false old code = refl

-- the code in a column after a string: what it gives there, and where it gives nothing the code that was there
given_after : (brush : Brush) (table : List ℕ) (left : ℕ) (pixels : List ℕ) (x old : ℕ)
    → code_after (laid_over brush table) left pixels x old
    ≡ unwrap_or (string_code left (map (shown_code brush table) pixels) x) old
given_after brush table left pixels x old = elim (cases_lt x left) [
  | inl before ↦ before_start (laid_over brush table) left pixels x old before
      ∙ sym (ap kept (given_before left (map (shown_code brush table) pixels) x before))
  | inr on ↦ elim (cases_lt x (left + length pixels)) [
    | inl inside ↦ under (laid_over brush table) left pixels x old on inside
        ∙ shown_over (brush.see_through && (get_or pixels (x - left) 0 == 1)) old
        (region_code brush table (get_or pixels (x - left) 0))
        ∙ sym (ap kept (given_on left (map (shown_code brush table) pixels) x on
        ∙ get_or-map (shown_code brush table) pixels (x - left) 0 None (omega (arith, on, inside))))
    | inr past ↦ behind (laid_over brush table) left pixels x old past
        ∙ sym (ap kept (given_on left (map (shown_code brush table) pixels) x on
        ∙ get_or_past (map (shown_code brush table) pixels) (x - left) None
        (omega (arith, past, length-map pixels (shown_code brush table)))))
  ]
] where
  kept : Option ℕ → ℕ
  kept o = unwrap_or o old

pub string_after : (slot left row : ℕ) (brush : Brush) (table pixels : List ℕ) (old new : Regions)
    → KeepsOthers slot old new
    → IsStringPainted left row (laid_over brush table) pixels (region_at old slot) (region_at new slot)
    → (past : List StoreCall) → IsAfter past old
    → IsAfter (PaintString slot left row (map (shown_code brush table) pixels) ∷ past) new
string_after slot left row brush table pixels old new keeps painted past after =
    changed_after slot old new keeps call past after refl (λ k. refl) refl
    (λ k x y ne. rw (ne_eqb slot k (λ e. ne (sym e))) refl)
    (λ x y is_in column below. elim (cases_eq y row) [
      | inl e ↦ by_given x y e is_in column below (string_code left codes x) refl
      | inr ne ↦ painted.elsewhere x y column below ne ∙ after.codes slot x y is_in column below
          ∙ sym (unwritten slot x y call past (rw (eq-eqb slot slot refl, ne_eqb row y (λ e. ne (sym e))) refl))
    ]) where
      codes : List (Option ℕ)
      codes = map (shown_code brush table) pixels

      call : StoreCall
      call = PaintString slot left row codes

      by_given : (x y : ℕ) → y ≡ row → IsPlaced old slot → x < (region_at old slot).width
          → y < (region_at old slot).height → (given : Option ℕ) → string_code left codes x ≡ given
          → code_of (region_at new slot) x y ≡ last_write slot x y (call ∷ past)
      by_given x y e is_in column below None is =
          subst (λ (m : ℕ). code_of (region_at new slot) x m ≡ code_of (region_at old slot) x m) (sym e)
          (painted.here x column (subst (λ (m : ℕ). m < (region_at old slot).height) e below)
          ∙ given_after brush table left pixels x (code_of (region_at old slot) x row)
          ∙ ap (λ (o : Option ℕ). unwrap_or o (code_of (region_at old slot) x row)) is)
          ∙ after.codes slot x y is_in column below
          ∙ sym (unwritten slot x y call past (rw (eq-eqb slot slot refl, eq-eqb row y (sym e), is) refl))
      by_given x y e is_in column below (Some code) is =
          subst (λ (m : ℕ). code_of (region_at new slot) x m ≡ code) (sym e)
          (painted.here x column (subst (λ (m : ℕ). m < (region_at old slot).height) e below)
          ∙ given_after brush table left pixels x (code_of (region_at old slot) x row)
          ∙ ap (λ (o : Option ℕ). unwrap_or o (code_of (region_at old slot) x row)) is)
          ∙ sym (written slot x y call past (rw (eq-eqb slot slot refl, eq-eqb row y (sym e), is) refl)
          ∙ ap (λ (o : Option ℕ). unwrap_or o 0) is)

pub place_after : (width height : ℕ) (depth : Depth) (slot : ℕ) (old new : Regions)
    → PlacesOne width height depth slot old new →
    (past : List StoreCall) → IsAfter past old → IsAfter (Place slot width height depth ∷ past) new
place_after width height depth slot old new places past after = record {
  count = omega (arith, places.count, after.count, length-more);
  placed = λ k is_in. elim (cases_eq k slot) [
    | inl e ↦
        found (is_place_of k) (Place slot width height depth) past (eq-eqb slot k (sym e))
        ∙ (λ i. Some (Place (sym e i) width height depth))
        ∙ subst (λ (m : ℕ). Some (Place m width height depth) ≡ Some (placing m (region_at new m))) (sym e)
        (ap (λ (r : StoredRegion). Some (placing slot r)) (sym places.placed))
    | inr ne ↦
        passed (is_place_of k) (Place slot width height depth) past (ne_eqb slot k (λ e. ne (sym e)))
        ∙ after.placed k (earlier k is_in ne)
        ∙ ap (λ (r : StoredRegion). Some (placing k r)) (sym (places.kept k (earlier k is_in ne)))
  ];
  codes = λ k x y is_in column row. elim (cases_eq k slot) [
    | inl e ↦
        let Zero : ℕ → Type 0 = λ m. x < (region_at new m).width → y < (region_at new m).height
        → code_of (region_at new m) x y ≡ 0 in
        subst Zero (sym e) (λ column row.
        places.zeros x y (subst (λ (r : StoredRegion). x < r.width) places.placed column)
        (subst (λ (r : StoredRegion). y < r.height) places.placed row)) column row
        ∙ sym (written k x y (Place slot width height depth) past (eq-eqb slot k (sym e)))
    | inr ne ↦
        let same = places.kept k (earlier k is_in ne) in
        ap (λ (r : StoredRegion). code_of r x y) same
        ∙ after.codes k x y (earlier k is_in ne) (subst (λ (r : StoredRegion). x < r.width) same column)
        (subst (λ (r : StoredRegion). y < r.height) same row)
        ∙ sym (unwritten k x y (Place slot width height depth) past (ne_eqb slot k (λ e. ne (sym e))))
  ];
  bytes =
      omega (
        arith,
        sum_by-cons bytes_taken (Place slot width height depth)
            past,
        places.free,
        places.size,
        after.bytes,
      );
} where
  earlier : (k : ℕ) → IsPlaced new k → k ≢ slot → IsPlaced old k
  earlier k is_in ne = elim (cases_lt k (length old.regions)) [
    | inl short ↦ short
    | inr long ↦ absurd (ne (omega (arith, is_in, long, places.count, places.index)))
  ]

  length-more : length (Place slot width height depth ∷ filter is_place past) ≡ length (filter is_place past) + 1
  length-more = omega arith

-- a run outside of the region changes nothing
pub outside_after : (slot left row count code : ℕ) (store : Regions) → (region_at store slot).height ≤ row →
    (past : List StoreCall) → IsAfter past store → IsAfter (PaintRun slot left row count code ∷ past) store
outside_after slot left row count code store below =
    run_after slot left row count code store store
    (record {
      count = refl;
      others = λ other ne. refl;
      width = refl;
      height = refl;
      depth = refl;
      size = refl;
      free = refl;
    })
    (record {
      covered = λ x column inside from to. absurd (omega arith);
      outside = λ x y column inside
          where_it_is. refl;
    })
