-- The sets that are kept to be sent, one after the other, and the pieces of their units.
use Rattle.std.proofs.Common.{◌≡◌, ◌∙◌, refl, sym, ap, subst, zero, suc, ℕ, ◌+◌, ◌-◌, ◌<◌, ◌≤◌, ◌^◌, List, [], ◌∷◌, ◌++◌, length, get_or, take, map, arith}
use Rattle.std.specs.Prelude.{All, sum}
use Rattle.std.specs.List.{AllZip, concat}
use Rattle.std.proofs.lemmas.List.{append-nil, get_or_default, length-append, length-map, map-append, take_more}
use Rattle.std.proofs.lemmas.List.Concat.{flat_map-append}
use Rattle.std.proofs.lemmas.List.Elements.{All-nil, All-push}
use Rattle.sub_base.proofs.ListLaws.{pair_more}
use Rattle.sub_base.specs.Lists.{all_of}
use Rattle.sub_base.specs.declared.load.TheConstants.{UNIT_ROOM}
use Rattle.sub_base.specs.declared.load.WriteLoad.{WriteLoad}
use Rattle.schedule.specs.Slots.{IsLoad}
use Rattle.sent_sets.specs.RawSets.{RawSet, AreRawPackets}
use Rattle.sent_sets.specs.SentStream.{AreSizedAs}
use Rattle.slot_stream.specs.SlotStream.{all_pieces, pieces_of}
use Rattle.slot_stream.specs.UnitBytes.{AreUnitsOf}
use Rattle.splice.specs.SplicedSets.{ArePaintedIn, IsLoadOf, IsLongest}
use Rattle.splice.specs.Private.JoinedSets.{AreCut, HaveRoom, IsJoinedOf}
use Rattle.splice.specs.Private.Sendings.{IsSendingOf}
use Rattle.splice.specs.declared.joined.Joined.{Joined}
use Rattle.splice.specs.declared.sending.Sending.{Sending}

module _ {A B : Type 0} (R : A → B → Type 0) where
  -- both are as long
  pub AllZip-length : (xs : List A) (ys : List B) → AllZip R xs ys → length xs ≡ length ys
  AllZip-length [] [] all = refl
  AllZip-length [] (b ∷ ys) all = absurd all
  AllZip-length (a ∷ xs) [] all = absurd all
  AllZip-length (a ∷ xs) (b ∷ ys) all = ap suc (AllZip-length xs ys all.1)

  -- what stands at a place
  pub AllZip-at : (xs : List A) (ys : List B) (k : ℕ) (d : A) (e : B) → k < length xs → AllZip R xs ys
      → R (get_or xs k d) (get_or ys k e)
  AllZip-at [] ys k d e inside all = absurd (omega arith)
  AllZip-at (a ∷ xs) [] k d e inside all = absurd all
  AllZip-at (a ∷ xs) (b ∷ ys) zero d e inside all = all.0
  AllZip-at (a ∷ xs) (b ∷ ys) (suc k) d e inside all = AllZip-at xs ys k d e (omega arith) all.1

-- ---- pieces

-- as many sets are written as there are loads, and as there are lists of units
pub cut_many : (loads : List WriteLoad) (written : List (List ℕ)) (units : List (List (List ℕ)))
    → AreCut loads written units → (length loads ≡ length written) × (length units ≡ length written)
cut_many loads written units cut =
    let all = sym (length-map units concat) ∙ ap length cut.whole in (
      AllZip-length (λ (load : WriteLoad) (set_units : List (List ℕ)). map length set_units ≡ load.units) loads
          units cut.sized ∙ all,
      all,
    )

concat_at : (units : List (List (List ℕ))) (k : ℕ) → concat (get_or units k []) ≡ get_or (map concat units) k []
concat_at [] k = refl
concat_at (one ∷ units) zero = refl
concat_at (one ∷ units) (suc k) = concat_at units k

-- the units of a set among several
pub units_at : (loads : List WriteLoad) (written : List (List ℕ)) (units : List (List (List ℕ))) (k : ℕ)
    (d : WriteLoad) (bytes : List ℕ) → k < length written → bytes ≡ get_or written k bytes
    → AreCut loads written units → AreUnitsOf (get_or loads k d).units bytes (get_or units k [])
units_at loads written units k d bytes inside is_bytes cut = record {
  whole =
      concat_at units k ∙ ap (λ (all : List (List ℕ)). get_or all k []) cut.whole
      ∙ get_or_default written k [] bytes inside ∙ sym is_bytes;
  sized =
      AllZip-at (λ (load : WriteLoad) (set_units : List (List ℕ)). map length set_units ≡ load.units) loads units k
      d [] (omega (arith, inside, (cut_many loads written units cut).0)) cut.sized;
}

-- they are the same, where lengths and bytes are lent
pub lent_units : (lengths seen bytes lent : List ℕ) (units : List (List ℕ)) → seen ≡ lengths
    → lent ≡ bytes → AreUnitsOf lengths bytes units → AreUnitsOf seen lent units
lent_units lengths seen bytes lent units l b are =
    subst (λ (ns : List ℕ). AreUnitsOf ns lent units) (sym l)
    (subst (λ (xs : List ℕ). AreUnitsOf lengths xs units) (sym b) are)

-- the pieces of the units of one more set
pub all_pieces-more : (units : List (List (List ℕ))) (k : ℕ) → k < length units
    → all_pieces (all_of (take (k + 1) units)) ≡ all_pieces (all_of (take k units))
    ++ all_pieces (get_or units k [])
all_pieces-more units k inside =
    let one = get_or units k [] in
    let joined : all_of (take (k + 1) units) ≡ all_of (take k units) ++ one =
    ap all_of (take_more units k [] inside)
    ∙ flat_map-append (λ (set_units : List (List ℕ)). set_units) (take k units) (one ∷ [])
    ∙ ap (λ (us : List (List ℕ)). all_of (take k units) ++ us) (append-nil one) in
    ap all_pieces joined ∙ flat_map-append pieces_of (all_of (take k units)) one

-- ---- sets

pub no_sets : (joined : Joined) → joined.loads.items ≡ [] → joined.written.items ≡ [] → IsJoinedOf [] joined
no_sets joined loads written = record {
  asked = subst (λ (all : List WriteLoad). AllZip IsLoadOf [] all) (sym loads) tt;
  each = subst (λ (all : List WriteLoad). All IsLoad all) (sym loads) (All-nil IsLoad);
  many = ap length loads ∙ sym (ap length written);
  units = [];
  carried = tt;
  sized = subst (λ (all : List WriteLoad). AreSizedAs all []) (sym loads) tt;
  written = λ room. sym written;
}

-- what sending a set takes, with its time and its painting
is_load : (set : RawSet) (sending : Sending) (load : WriteLoad) (time painted : ℕ)
    → IsSendingOf set sending → load.load.pts ≡ time → load.load.size ≡ sending.size
    → load.load.painted ≡ painted → load.longest ≡ sending.longest → load.units ≡ sending.units.items
    → set.time ≡ time → ArePaintedIn set.segments painted → IsLoadOf set load
is_load set sending load time painted is pts size is_painted longest units at paints = record {
  time = pts ∙ sym at;
  packets = is.packets;
  carried = is.carried;
  units = units ∙ is.units;
  size = size ∙ is.size ∙ ap sum (sym units);
  painted = subst (ArePaintedIn set.segments) (sym is_painted) paints;
  longest = subst (λ (n : ℕ). IsLongest set.segments n) (sym longest) is.longest;
}

room_front : (loads : List WriteLoad) (load : WriteLoad) → HaveRoom (loads ++ load ∷ []) → HaveRoom loads
room_front loads load room = λ k d inside.
    subst (λ (one : WriteLoad). one.longest ≤ UNIT_ROOM) (front loads k d inside)
    (room k d (omega (arith, inside, length-append loads (load ∷ []))))
  where
    front : (xs : List WriteLoad) (k : ℕ) (d : WriteLoad) → k < length xs
        → get_or (xs ++ load ∷ []) k d ≡ get_or xs k d
    front [] k d inside = absurd (omega arith)
    front (x ∷ xs) zero d inside = refl
    front (x ∷ xs) (suc k) d inside = front xs k d (omega arith)

room_last : (loads : List WriteLoad) (load : WriteLoad) → HaveRoom (loads ++ load ∷ []) → load.longest ≤ UNIT_ROOM
room_last loads load room =
    subst (λ (one : WriteLoad). one.longest ≤ UNIT_ROOM) (last loads)
    (room (length loads) load (omega (arith, length-append loads (load ∷ []))))
  where
    last : (xs : List WriteLoad) → get_or (xs ++ load ∷ []) (length xs) load ≡ load
    last [] = refl
    last (x ∷ xs) = last xs

-- one set more
pub joined_more : (old new : Joined) (sets : List RawSet) (set : RawSet) (sending : Sending) (load : WriteLoad)
    (bytes : List ℕ) (time painted : ℕ) → IsJoinedOf sets old → IsSendingOf set sending → set.time ≡ time
    → time < 2 ^ 62 → ArePaintedIn set.segments painted → painted < 2 ^ 62
    → load.load.pts ≡ time → load.load.size ≡ sending.size → load.load.painted ≡ painted
    → load.longest ≡ sending.longest → load.units ≡ sending.units.items → bytes ≡ sending.bytes.items
    → new.loads.items ≡ old.loads.items ++ load ∷ [] → new.written.items ≡ old.written.items ++ bytes ∷ []
    → IsJoinedOf (sets ++ set ∷ []) new
joined_more old new sets set sending load bytes time painted so is at early paints few pts size is_painted longest units
    is_bytes loads written =
    let asks =
    is_load set sending load time painted is pts size is_painted longest units at paints in
    record {
      asked =
          subst (λ (all : List WriteLoad). AllZip IsLoadOf (sets ++ set ∷ []) all) (sym loads)
          (pair_more IsLoadOf sets old.loads.items set load so.asked asks);
      each =
          subst (λ (all : List WriteLoad). All IsLoad all) (sym loads)
          (All-push IsLoad old.loads.items load so.each
          (record {
            some = omega (arith, size, is.some);
            size = asks.size;
            pts = omega (arith, pts, early);
            painted = omega (arith, is_painted, few);
          }));
      many =
          omega (
            arith,
            ap length loads,
            ap length written,
            so.many,
            length-append old.loads.items (load ∷ []),
            length-append old.written.items (bytes ∷ []),
          );
      units = so.units ++ is.packets ∷ [];
      carried = pair_more AreRawPackets sets so.units set is.packets so.carried is.carried;
      sized =
          subst (λ (all : List WriteLoad). AreSizedAs all (so.units ++ is.packets ∷ [])) (sym loads)
          (pair_more (λ (one : WriteLoad) (set_units : List (List ℕ)). map length set_units ≡ one.units)
          old.loads.items so.units load is.packets so.sized (sym (units ∙ is.units)));
      written = λ room.
          let all = subst HaveRoom loads room in
          map-append concat so.units (is.packets ∷ [])
          ∙ ap (λ (front : List (List ℕ)). front ++ concat is.packets ∷ [])
          (so.written (room_front old.loads.items load all))
          ∙ ap (λ (one : List ℕ). old.written.items ++ one ∷ [])
          (sym (is_bytes
          ∙ is.bytes (subst (λ (n : ℕ). n ≤ UNIT_ROOM) longest (room_last old.loads.items load all))))
          ∙ sym written;
    }

-- where there is no load there is no set
pub none_asked : (sets : List RawSet) (loads : List WriteLoad) → AllZip IsLoadOf sets loads → loads ≡ [] → sets ≡ []
none_asked [] loads asked none = refl
none_asked (set ∷ sets) [] asked none = absurd asked
none_asked (set ∷ sets) (load ∷ loads) asked none = absurd (let e : load ∷ loads ≡ [] = none in cc)

-- the last load is that of the last set
pub last_asked : (sets : List RawSet) (loads : List WriteLoad) (d : WriteLoad) → AllZip IsLoadOf sets loads
    → 1 ≤ length loads
    → (before : List RawSet) × (set : RawSet) × (sets ≡ before ++ set ∷ [])
    × ((get_or loads (length loads - 1) d).load.pts ≡ set.time)
last_asked [] [] d asked some = absurd (omega (arith, some))
last_asked [] (load ∷ loads) d asked some = absurd asked
last_asked (set ∷ sets) [] d asked some = absurd asked
last_asked (set ∷ []) (load ∷ []) d asked some = ([], set, refl, asked.0.time)
last_asked (set ∷ []) (load ∷ next ∷ loads) d asked some = absurd asked.1
last_asked (set ∷ next ∷ sets) (load ∷ []) d asked some = absurd asked.1
last_asked (set ∷ next ∷ sets) (load ∷ other ∷ loads) d asked some =
    let more = last_asked (next ∷ sets) (other ∷ loads) d asked.1 (omega arith) in
    let place : length (load ∷ other ∷ loads) - 1 ≡ suc (length (other ∷ loads) - 1) = omega arith in (
      set ∷ more.0,
      more.1,
      ap (λ (all : List RawSet). set ∷ all) more.2,
      ap (λ (k : ℕ). (get_or (load ∷ other ∷ loads) k d).load.pts) place ∙ more.3,
    )

pub no_items : (loads : List WriteLoad) → length loads ≡ 0 → loads ≡ []
no_items [] none = refl
no_items (load ∷ loads) none = absurd (omega (arith, none))
