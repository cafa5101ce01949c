-- Of a stream that is shortly cut at most 14 pieces are missing between two that come.
use Rattle.std.proofs.Common.{◌≡◌, ◌∙◌, ℕ, ◌+◌, ◌-◌, ◌%◌, Bool, true, false, ◌&&◌, ◌||◌, not, cond, List, [], ◌∷◌, ◌++◌, length, map, Option, Some, None, refl, sym, ap, subst, arith, append_assoc}
use Rattle.std.specs.Prelude.{count_by}
use Rattle.std.specs.List.{AllByRecursion, list_any}
use Rattle.std.proofs.lemmas.Bool.{false≢true}
use Rattle.std.proofs.lemmas.List.Sums.{sum_by-append, sum_by-cons}
use Rattle.stream_syntax.specs.TransportPackets.{null_packet}
use Rattle.stream_syntax.specs.Units.{is_payload}
use Rattle.decoder_model.specs.Streams.{Sending, is_received, is_missed, IsShortlyCut}
use Rattle.slot_stream.specs.SlotStream.{Piece, packet_of, IsPiece}
use Rattle.slot_stream.proofs.LaidPackets.{laid, IsAhead}
use Rattle.shown_stream.proofs.Lost.LostPieces.{IsParted, parted, there_at, there_parts}
use Rattle.shown_stream.proofs.Lost.LostKinds.{AreNear}
use Rattle.slot_stream.proofs.SentPieces.{IsFree, says, null_is_no_payload, written_is_payload}

-- how many are missed since the last that was received, of sendings that end with these
pub record Since (pid : ℕ) (all left : List Sending) (k : ℕ) : Type 0 where
  pub before : List Sending
  pub first : Sending
  pub between : List Sending
  pub placed : all ≡ before ++ first ∷ (between ++ left)
  pub come : is_received pid first ≡ true
  pub none : list_any (is_received pid) between ≡ false
  pub count : count_by (is_missed pid) between ≡ k

abbrev pub SinceBy : ℕ → List Sending → List Sending → Option ℕ → Type 0
SinceBy pid all left None = (before : List Sending) × (all ≡ before ++ left)
SinceBy pid all left (Some k) = Since pid all left k

any-append : (p : Sending → Bool) (xs ys : List Sending) → list_any p xs ≡ false → list_any p ys ≡ false
    → list_any p (xs ++ ys) ≡ false
any-append p [] ys h g = g
any-append p (x ∷ xs) ys h g = by (p x) refl (any-append p xs ys)
  where
    by : (b : Bool) → p x ≡ b
        → (list_any p xs ≡ false → list_any p ys ≡ false → list_any p (xs ++ ys) ≡ false)
        → (p x || list_any p (xs ++ ys)) ≡ false
    by true is more =
        absurd (let no : (true || list_any p xs) ≡ false = sym (ap (λ b. b || list_any p xs) is)
        ∙ h in false≢true (sym no))
    by false is more =
        ap (λ b. b || list_any p (xs ++ ys)) is ∙ more (sym (ap (λ b. b || list_any p xs) is) ∙ h) g

-- how many of a list pass: of its first and of the others, and of two parts
count-one : (p : Sending → Bool) (x : Sending) (xs : List Sending) (b : Bool) → p x ≡ b
    → count_by p (x ∷ xs) ≡ cond {A = ℕ} b 1 0 + count_by p xs
count-one p x xs b is =
    sum_by-cons (λ (y : Sending). cond {A = ℕ} (p y) 1 0) x xs
    ∙ ap (λ (t : Bool). cond {A = ℕ} t 1 0 + count_by p xs) is

count-append : (p : Sending → Bool) (xs ys : List Sending) → count_by p (xs ++ ys) ≡ count_by p xs + count_by p ys
count-append p xs ys = sum_by-append (λ (y : Sending). cond {A = ℕ} (p y) 1 0) xs ys

-- null packets are neither received nor missed payload packets
not_of : (pid : ℕ) (one : Sending) → is_payload pid one.packet ≡ false → (is_received pid one ≡ false)
    × (is_missed pid one ≡ false)
not_of pid one none = (
  ap (λ b. one.received && b) none ∙ by one.received,
  ap (λ b. not one.received && b) none
      ∙ by (not one.received),
)
  where
    by : (b : Bool) → (b && false) ≡ false
    by true = refl
    by false = refl

nulls_aside : (pid : ℕ) (nulls : List Sending) → IsFree pid
    → AllByRecursion (λ (sending : Sending). sending.packet ≡ null_packet) nulls
    → (list_any (is_received pid) nulls ≡ false) × (count_by (is_missed pid) nulls ≡ 0)
nulls_aside pid [] free are = (refl, refl)
nulls_aside pid (one ∷ nulls) free are =
    let none = not_of pid one (ap (is_payload pid) are.0 ∙ null_is_no_payload pid free) in
    let more = nulls_aside pid nulls free are.1 in (
      ap (λ b. b || list_any (is_received pid) nulls) none.0
          ∙ more.0,
      omega (arith, count-one (is_missed pid) one nulls false none.1, more.1),
    )

is_there_by : (pid : ℕ) (one : Sending) (come : Bool) → is_payload pid one.packet ≡ true
    → one.received ≡ come → (is_received pid one ≡ come) × (is_missed pid one ≡ not come)
is_there_by pid one come payload is = (
  ap (λ b. one.received && b) payload ∙ ap (λ b. b && true) is
      ∙ by come,
  ap (λ b. not one.received && b) payload ∙ ap (λ b. not b && true) is ∙ by (not come),
)
  where
    by : (b : Bool) → (b && true) ≡ b
    by true = refl
    by false = refl

-- the parts of a list of sendings, with the nulls and the next one put to those between
regroup : (before between nulls : List Sending) (first one : Sending) (rest : List Sending)
    → before ++ first ∷ (between ++ (nulls ++ one ∷ rest)) ≡ before ++ first
    ∷ ((between ++ nulls) ++ one ∷ rest)
regroup before between nulls first one rest =
    ap (λ all. before ++ first ∷ all) (sym (append_assoc between nulls (one ∷ rest)))

-- so between two pieces that come at most 14 are missing
pub near_from : (pid from number : ℕ) (pieces : List Piece) (slots : List ℕ) (all sendings : List Sending)
    (since : Option ℕ) → IsFree pid → AllByRecursion IsPiece pieces → length pieces ≡ length slots
    → IsAhead from slots
    → laid pid from number pieces slots ≡ map (λ (sending : Sending). sending.packet) sendings
    → IsShortlyCut pid all → SinceBy pid all sendings since → AreNear since (there_at sendings from slots)
near_from pid from number [] [] all sendings since free are same ahead e short by_now = tt
near_from pid from number [] (slot ∷ slots) all sendings since free are same ahead e short by_now =
    absurd (omega arith)
near_from pid from number (piece ∷ pieces) [] all sendings since free are same ahead e short by_now =
    absurd (omega arith)
near_from pid from number (piece ∷ pieces) (slot ∷ slots) all sendings since free are same ahead e short by_now =
    let parts =
    parted sendings (slot - from) (packet_of pid number piece) (laid pid (slot + 1) (number + 1) pieces slots) e in
    subst (AreNear since)
    (sym (there_parts from slot slots sendings (packet_of pid number piece)
    (laid pid (slot + 1) (number + 1) pieces slots) parts ahead))
    (by parts parts.one.received refl since by_now
    (λ next h. near_from pid (slot + 1) (number + 1) pieces slots all parts.rest next free are.1 (omega arith)
    ahead.1 parts.others short h))
  where
    by : (parts : IsParted sendings (slot - from) (packet_of pid number piece)
        (laid pid (slot + 1) (number + 1) pieces slots)) (come : Bool) → parts.one.received ≡ come
        → (since : Option ℕ) → SinceBy pid all sendings since
        → ((next : Option ℕ) → SinceBy pid all parts.rest next
        → AreNear next (there_at parts.rest (slot + 1) slots))
        → AreNear since (parts.one.received ∷ there_at parts.rest (slot + 1) slots)
    by parts come is since by_now onward =
        subst (λ (b : Bool). AreNear since (b ∷ there_at parts.rest (slot + 1) slots)) (sym is)
        (step come is since by_now)
      where
        payload : is_payload pid parts.one.packet ≡ true
        payload =
            ap (is_payload pid) parts.is
            ∙ written_is_payload pid (number % 16) piece.starts piece.bytes (packet_of pid number piece)
            (says pid number piece free are.0)

        aside : (list_any (is_received pid) parts.nulls ≡ false) × (count_by (is_missed pid) parts.nulls ≡ 0)
        aside = nulls_aside pid parts.nulls free parts.all_null

        step : (come : Bool) → parts.one.received ≡ come → (since : Option ℕ)
            → SinceBy pid all sendings since → AreNear since (come ∷ there_at parts.rest (slot + 1) slots)
        step true is None by_now = onward (Some 0) (record {
          before = by_now.0 ++ parts.nulls;
          first = parts.one;
          between = [];
          placed =
              by_now.1 ∙ ap (λ rest. by_now.0 ++ rest) parts.are
              ∙ sym (append_assoc by_now.0 parts.nulls (parts.one ∷ parts.rest));
          come = (is_there_by pid parts.one true payload is).0;
          none = refl;
          count = refl;
        })
        step false is None by_now = onward None (
          by_now.0 ++ (parts.nulls ++ parts.one ∷ []),
          by_now.1 ∙ ap (λ rest. by_now.0 ++ rest)
              (parts.are ∙ sym (append_assoc parts.nulls (parts.one ∷ []) parts.rest))
              ∙ sym (append_assoc by_now.0 (parts.nulls ++ parts.one ∷ []) parts.rest),
        )
        step true is (Some k) by_now =
            let told = is_there_by pid parts.one true payload is in
            let placed : all ≡ by_now.before ++ by_now.first
            ∷ ((by_now.between ++ parts.nulls) ++ parts.one ∷ parts.rest) =
            by_now.placed ∙ ap (λ rest. by_now.before ++ by_now.first ∷ (by_now.between ++ rest)) parts.are
            ∙ regroup by_now.before by_now.between parts.nulls by_now.first parts.one parts.rest in
            let few =
            short by_now.before (by_now.between ++ parts.nulls) parts.rest by_now.first parts.one placed by_now.come
            told.0 (any-append (is_received pid) by_now.between parts.nulls by_now.none aside.0) in (
              omega (arith, few, count-append (is_missed pid) by_now.between parts.nulls, by_now.count, aside.1),
              onward (Some 0) (record {
                before = by_now.before ++ by_now.first ∷ (by_now.between ++ parts.nulls);
                first = parts.one;
                between = [];
                placed =
                    placed ∙ sym
                    (append_assoc by_now.before (by_now.first ∷ (by_now.between ++ parts.nulls))
                    (parts.one ∷ parts.rest));
                come = told.0;
                none = refl;
                count = refl;
              }),
            )
        step false is (Some k) by_now =
            let told = is_there_by pid parts.one false payload is in
            let next : List Sending = (by_now.between ++ parts.nulls) ++ parts.one ∷ [] in
            onward (Some (k + 1)) (record {
              before = by_now.before;
              first = by_now.first;
              between = next;
              placed =
                  by_now.placed ∙ ap (λ rest. by_now.before ++ by_now.first ∷ (by_now.between ++ rest)) parts.are
                  ∙ regroup by_now.before by_now.between parts.nulls by_now.first parts.one parts.rest
                  ∙ ap (λ rest. by_now.before ++ by_now.first ∷ rest)
                  (sym (append_assoc (by_now.between ++ parts.nulls) (parts.one ∷ []) parts.rest));
              come = by_now.come;
              none =
                  any-append (is_received pid) (by_now.between ++ parts.nulls) (parts.one ∷ [])
                  (any-append (is_received pid) by_now.between parts.nulls by_now.none aside.0)
                  (ap (λ b. b || false) told.0);
              count =
                  count-append (is_missed pid) (by_now.between ++ parts.nulls) (parts.one ∷ [])
                  ∙ omega (
                    arith,
                    count-append (is_missed pid) by_now.between
                        parts.nulls,
                    by_now.count,
                    aside.1,
                    count-one (is_missed pid) parts.one [] true told.1,
                  );
            })
