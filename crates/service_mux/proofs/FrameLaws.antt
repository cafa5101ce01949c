-- Frames of a multiplex, one after the other.
use Rattle.std.proofs.Common.{◌≡◌, ◌∙◌, ◌≤◌, ◌<◌, ◌⊎◌, inl, inr, ℕ, zero, suc, ◌+◌, ◌/◌, ◌%◌, List, [], ◌∷◌, ◌++◌, length, Some, None, refl, sym, ap, ap₂, append-nil, append_assoc, slice_get, arith}
use Rattle.std.specs.List.{concat, flat_map, range_with_len}
use Rattle.std.proofs.lemmas.List.Concat.{flat_map-append}
use Rattle.std.proofs.lemmas.List.Folds.{concat-append}
use Rattle.std.proofs.lemmas.Option.{slice_get_past}
use Rattle.psi_tables.specs.declared.service.Service.{Service}
use Rattle.service_mux.specs.Multiplex.{frame_of, frames_of, if_of, service_packet, table_packets, turn_packet}
use Rattle.service_mux.specs.declared.mux_words.ServicePair.{ServicePair}

-- ---- numbers one after the other

range_more : (n a : ℕ) → range_with_len a (n + 1) ≡ range_with_len a n ++ (a + n) ∷ []
range_more zero a = ap (λ (k : ℕ). k ∷ []) (omega arith)
range_more (suc n) a =
    let more : suc n + 1 ≡ suc (n + 1) = omega arith in
    let next : (a + 1) + n ≡ a + suc n = omega arith in
    ap (range_with_len a) more
    ∙ ap (λ (rest : List ℕ). a ∷ rest)
    (range_more n (a + 1) ∙ ap (λ (k : ℕ). range_with_len (a + 1) n ++ k ∷ []) next)

flat_more : {X : Type 0} (f : ℕ → List X) (n : ℕ)
    → flat_map f (range_with_len 0 (n + 1)) ≡ flat_map f (range_with_len 0 n) ++ f n
flat_more {X} f n =
    ap (flat_map f) (range_more n 0)
    ∙ flat_map-append f (range_with_len 0 n) ((0 + n) ∷ [])
    ∙ ap (λ (k : List X). flat_map f (range_with_len 0 n) ++ k) (append-nil (f (0 + n)) ∙ ap f (omega arith))

-- ---- packets of a service

get_kept : (packets more : List (List ℕ)) (frame : ℕ) → frame < length packets
    → slice_get (packets ++ more) frame ≡ slice_get packets frame
get_kept [] more frame below = absurd (omega arith)
get_kept (packet ∷ packets) more zero below = refl
get_kept (packet ∷ packets) more (suc frame) below = get_kept packets more frame (omega arith)

get_next : (packets : List (List ℕ)) (packet : List ℕ) (frame : ℕ) → length packets ≡ frame
    → slice_get (packets ++ packet ∷ []) frame ≡ Some packet
get_next [] packet zero is = refl
get_next [] packet (suc frame) is = absurd (omega (arith, is))
get_next (first ∷ packets) packet zero is = absurd (omega (arith, is))
get_next (first ∷ packets) packet (suc frame) is = get_next packets packet frame (omega (arith, is))

-- the packets of so many frames are there, or none comes behind them
abbrev pub AreThere : List (List ℕ) → List (List ℕ) → ℕ → Type 0
AreThere packets more count = (count ≤ length packets) ⊎ (more ≡ [])

service_kept : (service : Service) (packets more : List (List ℕ)) (count frame : ℕ)
    → AreThere packets more count → frame < count
    → service_packet service (packets ++ more) frame ≡ service_packet service packets frame
service_kept service packets more count frame (inl there) below =
    ap (if_of service.pid) (get_kept packets more frame (omega arith))
service_kept service packets more count frame (inr none) below =
    ap (λ (all : List (List ℕ)). service_packet service all frame)
    (ap (λ (m : List (List ℕ)). packets ++ m) none ∙ append-nil packets)

-- the packet of a frame is the next one of the stream, or the null packet where it has none
pub service_next : (service : Service) (packets : List (List ℕ)) (packet : List ℕ) (frame : ℕ)
    → length packets ≡ frame
    → service_packet service (packets ++ packet ∷ []) frame ≡ if_of service.pid (Some packet)
service_next service packets packet frame is = ap (if_of service.pid) (get_next packets packet frame is)

pub service_none : (service : Service) (packets : List (List ℕ)) (frame : ℕ) → length packets ≤ frame
    → service_packet service (packets ++ []) frame ≡ if_of service.pid None
service_none service packets frame few =
    ap (λ (all : List (List ℕ)). service_packet service all frame) (append-nil packets)
    ∙ ap (if_of service.pid) (slice_get_past packets frame few)

-- ---- frames

module _ (pair : ServicePair) (first one second two : List (List ℕ)) (count : ℕ)
    (first_there : AreThere first one count) (second_there : AreThere second two count) where
  frame_kept : (frame : ℕ) → frame < count
      → frame_of pair (first ++ one) (second ++ two) frame ≡ frame_of pair first second frame
  frame_kept frame below =
      ap₂ (λ (a b : List ℕ). turn_packet pair (1 + frame / 128) (frame % 128) ∷ a ∷ b ∷ [])
      (service_kept pair.one first one count frame first_there below)
      (service_kept pair.two second two count frame second_there below)

  frames_kept : (n : ℕ) → n ≤ count
      → flat_map (frame_of pair (first ++ one) (second ++ two)) (range_with_len 0 n)
      ≡ flat_map (frame_of pair first second) (range_with_len 0 n)
  frames_kept zero within = refl
  frames_kept (suc n) within =
      let next : suc n ≡ n + 1 = omega arith in
      let new = frame_of pair (first ++ one) (second ++ two) in
      let old = frame_of pair first second in
      ap (λ (k : ℕ). flat_map new (range_with_len 0 k)) next
      ∙ flat_more new n
      ∙ ap₂ (λ (a b : List (List ℕ)). a ++ b) (frames_kept n (omega arith)) (frame_kept n (omega arith))
      ∙ sym (flat_more old n)
      ∙ ap (λ (k : ℕ). flat_map old (range_with_len 0 k)) (sym next)

  -- the frames so far do not depend on the packets that come behind
  pub same_frames : frames_of pair (first ++ one) (second ++ two) count ≡ frames_of pair first second count
  unfolding frames_of
  same_frames = ap (λ (frames : List (List ℕ)). table_packets pair ++ frames) (frames_kept count (omega arith))

  -- one frame more
  next_frame : frames_of pair (first ++ one) (second ++ two) (count + 1) ≡ frames_of pair first second count
      ++ frame_of pair (first ++ one) (second ++ two) count
  unfolding frames_of
  next_frame =
      ap (λ (frames : List (List ℕ)). table_packets pair ++ frames)
      (flat_more (frame_of pair (first ++ one) (second ++ two)) count
      ∙ ap (λ (frames : List (List ℕ)). frames ++ frame_of pair (first ++ one) (second ++ two) count)
      (frames_kept count (omega arith)))
      ∙ sym (append_assoc (table_packets pair) (flat_map (frame_of pair first second) (range_with_len 0 count))
      (frame_of pair (first ++ one) (second ++ two) count))

  pub next_bytes : (a b : List ℕ) → service_packet pair.one (first ++ one) count ≡ a
      → service_packet pair.two (second ++ two) count ≡ b
      → concat (frames_of pair (first ++ one) (second ++ two) (count + 1))
      ≡ concat (frames_of pair first second count)
      ++ (turn_packet pair (1 + count / 128) (count % 128) ++ (a ++ b))
  next_bytes a b is_a is_b =
      ap concat next_frame
      ∙ concat-append (frames_of pair first second count) (frame_of pair (first ++ one) (second ++ two) count)
      ∙ ap (λ (more : List ℕ). concat (frames_of pair first second count) ++ more)
      (ap₂ (λ (x y : List ℕ). turn_packet pair (1 + count / 128) (count % 128) ++ (x ++ (y ++ []))) is_a is_b
      ∙ ap (λ (y : List ℕ). turn_packet pair (1 + count / 128) (count % 128) ++ (a ++ y)) (append-nil b))

-- the frames so far, and those up to a later one
pub later_frames : (pair : ServicePair) (first second : List (List ℕ)) (count more : ℕ)
    → (rest : List ℕ)
    × (concat (frames_of pair first second count) ++ rest ≡ concat (frames_of pair first second (count + more)))
unfolding frames_of
later_frames pair first second count zero =
    ([], append-nil _ ∙ ap (λ (k : ℕ). concat (frames_of pair first second k)) (omega arith))
later_frames pair first second count (suc more) =
    let frame = frame_of pair first second in
    let before = later_frames pair first second count more in
    let next : (count + more) + 1 ≡ count + suc more = omega arith in
    let whole : frames_of pair first second (count + suc more) ≡ frames_of pair first second (count + more)
    ++ frame (count + more) =
    ap (λ (k : ℕ). frames_of pair first second k) (sym next)
    ∙ ap (λ (frames : List (List ℕ)). table_packets pair ++ frames) (flat_more frame (count + more))
    ∙ sym (append_assoc (table_packets pair) (flat_map frame (range_with_len 0 (count + more)))
    (frame (count + more))) in (
      before.0 ++ concat (frame (count + more)),
      sym (append_assoc (concat (frames_of pair first second count)) before.0 (concat (frame (count + more))))
          ∙ ap (λ (k : List ℕ). k ++ concat (frame (count + more))) before.1
          ∙ sym (concat-append (frames_of pair first second (count + more)) (frame (count + more)))
          ∙ ap concat (sym whole),
    )
