-- Laws of the packets of several sets, one set after the other.
use Rattle.std.proofs.Common.{◌≡◌, ◌∙◌, refl, sym, ap, subst, zero, suc, ℕ, ◌+◌, ◌<◌, List, [], ◌∷◌, ◌++◌, length, get_or, take, map, All, arith}
use Rattle.std.specs.List.{AllZip, concat}
use Rattle.std.proofs.lemmas.List.{append-nil, get_or_default, length-map, map-append, take_more}
use Rattle.std.proofs.lemmas.List.Concat.{flat_map-append}
use Rattle.std.proofs.lemmas.List.Elements.{All-push}
use Rattle.cue_list.specs.declared.script.Script.{Script}
use Rattle.page_epoch.specs.declared.planned_set.PlannedSet.{PlannedSet}
use Rattle.set_coder.specs.SetSegments.{AreSetPackets}
use Rattle.set_coder.specs.SetSizes.{AreUnitSizes, IsSetLoad}
use Rattle.set_coder.proofs.SetSizeLaws.{one_unit_sizes}
use Rattle.sub_base.proofs.ListLaws.{pair_more}
use Rattle.sub_base.specs.declared.load.WriteLoad.{WriteLoad}
use Rattle.shown_stream.specs.Compiled.{all_units}
use Rattle.sent_sets.specs.SentStream.{AreSizedAs}
use Rattle.slot_stream.specs.SlotStream.{all_pieces, pieces_of}
use Rattle.script_stream.specs.Private.SetUnits.{AreSized, AreWritten, AreCut}
use Rattle.slot_stream.specs.UnitBytes.{AreUnitsOf}

module _ {A B : Type 0} (R : A → B → Type 0) where
  -- one more of the first list
  pub AllZip-more : (xs : List A) (ys : List B) (k : ℕ) (d : A) (y : B) → k < length xs
      → AllZip R (take k xs) ys → R (get_or xs k d) y → AllZip R (take (k + 1) xs) (ys ++ y ∷ [])
  AllZip-more xs ys k d y inside all one =
      subst (λ (front : List A). AllZip R front (ys ++ y ∷ [])) (sym (take_more xs k d inside))
      (pair_more R (take k xs) ys (get_or xs k d) y all one)

  -- the item at a place, and one more of the second list
  pub AllZip-step : (xs : List A) (ys new : List B) (k : ℕ) (x : A) (y : B) → k < length xs
      → AllZip R (take k xs) ys → x ≡ get_or xs k x → new ≡ ys ++ y ∷ [] → R x y
      → AllZip R (take (k + 1) xs) new
  AllZip-step xs ys new k x y inside all is_item is_new one =
      subst (AllZip R (take (k + 1) xs)) (sym is_new)
      (AllZip-more xs ys k x y inside all (subst (λ (a : A). R a y) is_item one))

  -- both are as long
  pub AllZip-length : (xs : List A) (ys : List B) → AllZip R xs ys → length xs ≡ length ys
  AllZip-length [] [] all = refl
  AllZip-length [] (b ∷ ys) all = absurd all
  AllZip-length (a ∷ xs) [] all = absurd all
  AllZip-length (a ∷ xs) (b ∷ ys) all = ap suc (AllZip-length xs ys all.1)

  -- what stands at a place
  pub AllZip-at : (xs : List A) (ys : List B) (k : ℕ) (d : A) (e : B) → k < length xs → AllZip R xs ys
      → R (get_or xs k d) (get_or ys k e)
  AllZip-at [] ys k d e inside all = absurd (omega arith)
  AllZip-at (a ∷ xs) [] k d e inside all = absurd all
  AllZip-at (a ∷ xs) (b ∷ ys) zero d e inside all = all.0
  AllZip-at (a ∷ xs) (b ∷ ys) (suc k) d e inside all = AllZip-at xs ys k d e (omega arith) all.1

-- as many sets are written as there are loads, and as there are lists of units
pub cut_many : (loads : List WriteLoad) (written : List (List ℕ)) (units : List (List (List ℕ)))
    → AreCut loads written units → (length loads ≡ length written) × (length units ≡ length written)
cut_many loads written units cut =
    let all = sym (length-map units concat) ∙ ap length cut.whole in (
      AllZip-length (λ (load : WriteLoad) (set_units : List (List ℕ)). map length set_units ≡ load.units) loads
          units cut.sized ∙ all,
      all,
    )

concat_at : (units : List (List (List ℕ))) (k : ℕ) → concat (get_or units k []) ≡ get_or (map concat units) k []
concat_at [] k = refl
concat_at (one ∷ units) zero = refl
concat_at (one ∷ units) (suc k) = concat_at units k

-- the units of a set among several
pub units_at : (loads : List WriteLoad) (written : List (List ℕ)) (units : List (List (List ℕ))) (k : ℕ)
    (d : WriteLoad) (bytes : List ℕ) → k < length written → bytes ≡ get_or written k bytes
    → AreCut loads written units → AreUnitsOf (get_or loads k d).units bytes (get_or units k [])
units_at loads written units k d bytes inside is_bytes cut = record {
  whole =
      concat_at units k ∙ ap (λ (all : List (List ℕ)). get_or all k []) cut.whole
      ∙ get_or_default written k [] bytes inside ∙ sym is_bytes;
  sized =
      AllZip-at (λ (load : WriteLoad) (set_units : List (List ℕ)). map length set_units ≡ load.units) loads units k
      d [] (omega (arith, inside, (cut_many loads written units cut).0)) cut.sized;
}

-- they are the same, where lengths and bytes are lent
pub lent_units : (lengths seen bytes lent : List ℕ) (units : List (List ℕ)) → seen ≡ lengths
    → lent ≡ bytes → AreUnitsOf lengths bytes units → AreUnitsOf seen lent units
lent_units lengths seen bytes lent units l b are =
    subst (λ (ns : List ℕ). AreUnitsOf ns lent units) (sym l)
    (subst (λ (xs : List ℕ). AreUnitsOf lengths xs units) (sym b) are)

-- the pieces of the units of one more set
pub all_pieces-more : (units : List (List (List ℕ))) (k : ℕ) → k < length units
    → all_pieces (all_units (take (k + 1) units)) ≡ all_pieces (all_units (take k units))
    ++ all_pieces (get_or units k [])
all_pieces-more units k inside =
    let one = get_or units k [] in
    let joined : all_units (take (k + 1) units) ≡ all_units (take k units) ++ one =
    ap all_units (take_more units k [] inside)
    ∙ flat_map-append (λ (set_units : List (List ℕ)). set_units) (take k units) (one ∷ [])
    ∙ ap (λ (us : List (List ℕ)). all_units (take k units) ++ us) (append-nil one) in
    ap all_pieces joined ∙ flat_map-append pieces_of (all_units (take k units)) one

-- the packets of one more set are written
pub written_more : (script : Script) (page : ℕ) (sets : List PlannedSet) (k : ℕ) (set : PlannedSet)
    (bytes : List ℕ) (packets : List (List ℕ)) (written new : List (List ℕ)) (units : List (List (List ℕ)))
    → k < length sets → set ≡ get_or sets k set
    → AreWritten script page (take k sets) written units → bytes ≡ concat packets
    → AreSetPackets script page set packets → AreUnitSizes script set (map length packets)
    → new ≡ written ++ bytes ∷ []
    → AreWritten script page (take (k + 1) sets) new (units ++ packets ∷ [])
written_more script page sets k set bytes packets written new units inside is so_far joined carried sized put = record {
  carried =
      AllZip-step (AreSetPackets script page) sets units (units ++ packets ∷ []) k set packets inside so_far.carried
      is refl carried;
  sized =
      AllZip-step (λ (one : PlannedSet) (set_units : List (List ℕ)). AreUnitSizes script one (map length set_units))
      sets units (units ++ packets ∷ []) k set packets inside so_far.sized is refl sized;
  whole =
      map-append concat units (packets ∷ [])
      ∙ ap (λ (all : List (List ℕ)). all ++ concat packets ∷ []) so_far.whole
      ∙ ap (λ (one : List ℕ). written ++ one ∷ []) (sym joined) ∙ sym put;
}

-- they have the lengths that the loads of their sets say
pub sized_as : (script : Script) (sets : List PlannedSet) (loads : List WriteLoad) (units : List (List (List ℕ)))
    → AllZip (IsSetLoad script) sets loads → AreSized script sets units → AreSizedAs loads units
sized_as script [] [] [] asked sized = tt
sized_as script [] [] (packets ∷ units) asked sized = absurd sized
sized_as script [] (load ∷ loads) units asked sized = absurd asked
sized_as script (set ∷ sets) [] units asked sized = absurd asked
sized_as script (set ∷ sets) (load ∷ loads) [] asked sized = absurd sized
sized_as script (set ∷ sets) (load ∷ loads) (packets ∷ units) asked sized = (
  one_unit_sizes script set (map length packets) load.units sized.0 asked.0.units,
  sized_as script sets loads units
      asked.1 sized.1,
)

-- what is written can be cut by the loads
pub written_cut : (script : Script) (page : ℕ) (sets : List PlannedSet) (loads : List WriteLoad)
    (written : List (List ℕ)) (units : List (List (List ℕ))) → AllZip (IsSetLoad script) sets loads
    → AreWritten script page sets written units → AreCut loads written units
written_cut script page sets loads written units asked w =
    record { whole = w.whole; sized = sized_as script sets loads units asked w.sized }

-- one more that P holds of
pub All-step : {X : Type 0} (P : X → Type 0) (xs new : List X) (x : X) → All P xs → new ≡ xs ++ x ∷ []
    → P x → All P new
All-step P xs new x all is_new one = subst (All P) (sym is_new) (All-push P xs x all one)
