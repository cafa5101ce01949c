-- The ticks that records name.
use Rattle.std.proofs.Common.{◌≡◌, ◌≢◌, ◌∙◌, ◌⊎◌, inl, inr, ℕ, ◌+◌, ◌<◌, ◌≤◌, ◌==◌, min, Bool, true, false, cond, List, [], ◌∷◌, ◌++◌, map, length, get_or, All, Option, None, Some, MatchOption, refl, sym, ap, subst, arith}
use Rattle.std.specs.List.{flat_map, Contains}
use Rattle.std.specs.List.Sorted.{IsStrictlyIncreasing}
use Rattle.std.specs.Ordering.{nat_cmp}
use Rattle.std.specs.BTreeMap.{BTreeMap, get, IsOrdered}
use Rattle.std.proofs.lemmas.Cmp.{nat_cmp_total}
use Rattle.std.proofs.lemmas.List.{map-append, length-map, get_or-map, get_or_default}
use Rattle.std.proofs.lemmas.List.Elements.{All-push, All-map, All-weaker, All-contains, Contains-push, Contains-append_left}
use Rattle.std.proofs.lemmas.Map.Keys.{below_from_sorted}
use Rattle.std.proofs.lemmas.Map.Lookups.{exact_unsigned}
use Rattle.std.proofs.lemmas.Map.Views.{All-found, btree_map_get_iff}
use Rattle.std.proofs.lemmas.Bool.{eqb-true, eqb-false}
use Rattle.cue_list.specs.declared.epoch.Epoch.{Epoch}
use Rattle.cue_records.specs.declared.row_values.ColourRow.{ColourRow}
use Rattle.cue_list.specs.declared.epoch.Cue.{Cue}
use Rattle.cue_list.specs.Sound.{ticks_of, ticks_of_cue}
use Rattle.page_epoch.specs.declared.events.Event.{Event}
use Rattle.page_epoch.specs.Instants.{named_ticks}
use Rattle.page_epoch.specs.Rows.{events_of, events_of_cue, event, IsLeastRow, least_of, Noted, least_event, AreLeastEvents}

-- ---- lists

pub contains_mapped : {X Y : Type 0} (f : X → Y) (xs : List X) (x : X) → Contains xs x → Contains (map f xs) (f x)
contains_mapped f xs x (k, h, e) =
    let long = length-map xs f in
    (k, subst (λ (n : ℕ). k < n) (sym long) h, get_or-map f xs k x (f x) h ∙ ap f e)

-- an element that f takes to y
pub record Source {X Y : Type 0} (f : X → Y) (xs : List X) (y : Y) : Type 0 where
  pub from : X
  pub there : Contains xs from
  pub is : f from ≡ y

pub source_of : {X Y : Type 0} (f : X → Y) (xs : List X) (d : X) (y : Y) → Contains (map f xs) y → Source f xs y
source_of f xs d y (k, h, e) =
    let long = length-map xs f in
    let short : k < length xs = subst (λ (n : ℕ). k < n) long h in
    record {
      from = get_or xs k d;
      there = (k, short, get_or_default xs k (get_or xs k d) d short);
      is = sym
          (get_or-map f xs k d y short) ∙ e;
    }

-- ---- one event more

least_among : (events : List Event) (e : Event) (r m : ℕ) → IsLeastRow events e.tick r
    → ((m ≡ e.row) × (e.row ≤ r)) ⊎ ((m ≡ r) × (r ≤ e.row)) → IsLeastRow (events ++ e ∷ []) e.tick m
least_among events e r m known (inl (same, below)) =
    subst (IsLeastRow (events ++ e ∷ []) e.tick) (sym same) (record {
      among = Contains-push events e;
      least = All-push (λ (other : Event). other.tick ≡ e.tick → e.row ≤ other.row) events e
          (All-weaker (λ (other : Event). other.tick ≡ e.tick → r ≤ other.row)
          (λ (other : Event). other.tick ≡ e.tick → e.row ≤ other.row)
          (λ other h t. let low = h t in omega arith) events known.least)
          (λ t. omega arith);
    })
least_among events e r m known (inr (same, above)) =
    subst (IsLeastRow (events ++ e ∷ []) e.tick) (sym same) (record {
      among = Contains-append_left events (e ∷ []) (event e.tick r) known.among;
      least =
          All-push (λ (other : Event). other.tick ≡ e.tick → r ≤ other.row) events e known.least (λ t. above);
    })

least_here : (events : List Event) (e : Event) (o : Option ℕ)
    → MatchOption o (All (λ other. other.tick ≢ e.tick) events) (IsLeastRow events e.tick) →
    IsLeastRow (events ++ e ∷ []) e.tick (least_of o e.row)
least_here events e None none = record {
  among = Contains-push events e;
  least = All-push (λ (other : Event). other.tick ≡ e.tick → e.row ≤ other.row) events e
      (All-weaker (λ (other : Event). other.tick ≢ e.tick)
      (λ (other : Event). other.tick ≡ e.tick → e.row ≤ other.row) (λ other ne t. absurd (ne t)) events
      none)
      (λ t. omega arith);
}
least_here events e (Some r) known = least_among events e r (min e.row r) known (grind arith)

least_elsewhere : (events : List Event) (e : Event) (tick : ℕ) (o : Option ℕ) → tick ≢ e.tick
    → MatchOption o (All (λ other. other.tick ≢ tick) events) (IsLeastRow events tick) →
    MatchOption o (All (λ other. other.tick ≢ tick) (events ++ e ∷ [])) (IsLeastRow (events ++ e ∷ []) tick)
least_elsewhere events e tick None ne none =
    All-push (λ (other : Event). other.tick ≢ tick) events e none (λ same. ne (sym same))
least_elsewhere events e tick (Some r) ne known = record {
  among = Contains-append_left events (e ∷ []) (event tick r) known.among;
  least =
      All-push (λ (other : Event). other.tick ≡ tick → r ≤ other.row) events e known.least
      (λ same. absurd (ne (sym same)));
}

noted_at : (events : List Event) (e : Event) (g h : ℕ → Option ℕ) (tick : ℕ) (b : Bool)
    → (tick == e.tick) ≡ b → Noted events g →
    h tick ≡ cond b (Some (least_of (g e.tick) e.row)) (g tick) →
    MatchOption (h tick) (All (λ other. other.tick ≢ tick) (events ++ e ∷ []))
    (IsLeastRow (events ++ e ∷ []) tick)
noted_at events e g h tick true t noted is =
    let same : tick ≡ e.tick = eqb-true tick e.tick t in
    let Here : Option ℕ
    → Type 0 = λ o. MatchOption o (All (λ other. other.tick ≢ tick) (events ++ e ∷ []))
    (IsLeastRow (events ++ e ∷ []) tick) in
    let At : ℕ → Type 0 = λ k. IsLeastRow (events ++ e ∷ []) k (least_of (g e.tick) e.row) in
    subst Here (sym is) (subst At (sym same) (least_here events e (g e.tick) (noted e.tick)))
noted_at events e g h tick false t noted is =
    let Here : Option ℕ
    → Type 0 = λ o. MatchOption o (All (λ other. other.tick ≢ tick) (events ++ e ∷ []))
    (IsLeastRow (events ++ e ∷ []) tick) in
    subst Here (sym is) (least_elsewhere events e tick (g tick) (eqb-false tick e.tick t) (noted tick))

pub Noted-more : (events : List Event) (e : Event) (g h : ℕ → Option ℕ) → Noted events g →
    ((tick : ℕ) → h tick ≡ cond (tick == e.tick) (Some (least_of (g e.tick) e.row)) (g tick))
    → Noted (events ++ e ∷ []) h
Noted-more events e g h noted is tick = noted_at events e g h tick (tick == e.tick) refl noted (is tick)

-- ---- all ticks

pub cue_ticks : (cues : List Cue)
    → map (λ (e : Event). e.tick) (flat_map events_of_cue cues) ≡ flat_map ticks_of_cue cues
cue_ticks [] = refl
cue_ticks (cue ∷ cues) = ap (λ xs. cue.start ∷ cue.end ∷ xs) (cue_ticks cues)

pub colour_ticks : (colours : List ColourRow)
    → map (λ (e : Event). e.tick) (map (λ (row : ColourRow). event row.tick row.row) colours)
    ≡ map (λ (row : ColourRow). row.tick) colours
colour_ticks [] = refl
colour_ticks (row ∷ rows) = ap (λ xs. row.tick ∷ xs) (colour_ticks rows)

epoch_ticks : (epoch : Epoch) → map (λ (e : Event). e.tick) (events_of epoch) ≡ ticks_of epoch
epoch_ticks epoch =
    ap (λ xs. epoch.start ∷ xs)
    (map-append (λ (e : Event). e.tick) (map (λ (row : ColourRow). event row.tick row.row) epoch.colours)
    (flat_map events_of_cue epoch.cues)
    ∙ ap (λ xs. xs ++ map (λ (e : Event). e.tick) (flat_map events_of_cue epoch.cues)) (colour_ticks epoch.colours)
    ∙ ap (λ xs. map (λ (row : ColourRow). row.tick) epoch.colours ++ xs) (cue_ticks epoch.cues))

pub event_ticks : (epochs : List Epoch)
    → map (λ (e : Event). e.tick) (flat_map events_of epochs) ≡ named_ticks epochs
event_ticks [] = refl
event_ticks (epoch ∷ epochs) =
    map-append (λ (e : Event). e.tick) (events_of epoch) (flat_map events_of epochs)
    ∙ ap (λ xs. xs ++ map (λ (e : Event). e.tick) (flat_map events_of epochs)) (epoch_ticks epoch)
    ∙ ap (λ xs. ticks_of epoch ++ xs) (event_ticks epochs)

-- ---- the table in order

entry_ticks : (entries : List (ℕ × ℕ))
    → map (λ (e : Event). e.tick) (map least_event entries) ≡ map (λ (e : ℕ × ℕ). e.0) entries
entry_ticks [] = refl
entry_ticks ((tick, row) ∷ entries) = ap (λ xs. tick ∷ xs) (entry_ticks entries)

found_row : (events : List Event) (g : ℕ → Option ℕ) (tick row : ℕ) → Noted events g → g tick ≡ Some row
    → IsLeastRow events tick row
found_row events g tick row noted is =
    let Here : Option ℕ → Type 0 =
    λ o. MatchOption o (All (λ other. other.tick ≢ tick) events) (IsLeastRow events tick) in
    subst Here is (noted tick)

-- a named tick is in the table
has_row : (events : List Event) (tick : ℕ) (o : Option ℕ)
    → MatchOption o (All (λ other. other.tick ≢ tick) events) (IsLeastRow events tick) →
    Source (λ (e : Event). e.tick) events tick → (row : ℕ) × (o ≡ Some row)
has_row events tick None none source =
    absurd (All-contains (λ (other : Event). other.tick ≢ tick) events source.from none source.there source.is)
has_row events tick (Some row) known source = (row, refl)

pub AreLeastEvents-from : (epochs : List Epoch) (table : BTreeMap ℕ ℕ) → IsOrdered nat_cmp table
    → Noted (flat_map events_of epochs) (get nat_cmp table) → AreLeastEvents epochs (map least_event table.entries)
AreLeastEvents-from epochs table ordered noted = record {
  rise = λ k h.
      let Rises : List ℕ → Type 0 = λ xs. IsStrictlyIncreasing xs in
      subst Rises (sym (entry_ticks table.entries))
      (λ k h. below_from_sorted (map (λ (e : ℕ × ℕ). e.0) table.entries) k (k + 1) 0 ordered (omega arith) h)
      k h;
  rows = All-map (λ (e : Event). IsLeastRow (flat_map events_of epochs) e.tick e.row) least_event table.entries
      (All-weaker (λ (e : ℕ × ℕ). get nat_cmp table e.0 ≡ Some e.1)
      (λ (e : ℕ × ℕ). IsLeastRow (flat_map events_of epochs) (least_event e).tick (least_event e).row)
      (λ e is. found_row (flat_map events_of epochs) (get nat_cmp table) e.0 e.1 noted is) table.entries
      (All-found nat_cmp_total table ordered));
  all = λ tick named.
      let source =
      source_of (λ (e : Event). e.tick) (flat_map events_of epochs) (event 0 0) tick
      (subst (λ xs. Contains xs tick) (sym (event_ticks epochs)) named) in
      let row = has_row (flat_map events_of epochs) tick (get nat_cmp table tick) (noted tick) source in
      contains_mapped (λ (e : Event). e.tick) (map least_event table.entries) (event tick row.0)
      (contains_mapped least_event table.entries (tick, row.0)
      ((btree_map_get_iff nat_cmp_total exact_unsigned table ordered tick row.0).0 row.1));
}
