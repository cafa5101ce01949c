-- What one unit more adds to the sets, by the last run: a set that it makes ready, and the set that it ends.
use Rattle.std.proofs.Common.{◌≡◌, ◌∙◌, ℕ, Bool, true, false, not, ◌&&◌, ◌||◌, ◌==◌, ltb, List, [], ◌∷◌, ◌++◌, Option, Some, None, refl, sym, ap, arith, append-nil, append_assoc}
use Rattle.std.specs.Prelude.{find}
use Rattle.std.specs.Bool.{if◌then◌else◌}
use Rattle.std.proofs.lemmas.Bool.Decides.{nat_tests}
use Rattle.std.proofs.lemmas.Bool.{eqb-true}
use Rattle.sub_base.specs.Lists.{prefixes}
use Rattle.stream_syntax.specs.DataField.{Frame}
use Rattle.decoder_model.specs.Arrivals.{PesUnit, unit}
use Rattle.decoder_model.specs.Frames.{segments_in}
use Rattle.decoder_model.specs.PacketArrivals.{of_time, is_in_hand, makes_ready}
use Rattle.decoder_model.specs.Sets.{Stretch, loss_between, run, Delivery, lost, whole, is_ended, frames_in, size_in, set_of, is_followed, sets_in}
use Rattle.decoder_model.proofs.Growth.{ended_more, ended_run, found_passes, found_is_front, whole_is_found}
use Rattle.decoder_model.proofs.OnePacket.{first_end}
use Rattle.display_sets.proofs.Runs.{HaveTime, has_time, all_of_time, none_of_time, none_has_time, Extends, begins, same_run, other_run, behind_loss, behind_run, last_of, IsStart, AreAlike, some_follow}

-- ---- ends

pub no_frames : (coded : ℕ) → is_ended coded [] ≡ false
no_frames coded = let never : ltb coded 0 ≡ false = grind (arith, nat_tests) in never

pub found_ended : (coded : ℕ) (frames front : List Frame) → find (is_ended coded) (prefixes frames) ≡ Some front
    → is_ended coded frames ≡ true
found_ended coded frames front e =
    let there = found_is_front (is_ended coded) frames front e in
    ap (is_ended coded) there.1
    ∙ ended_more coded front there.0 (found_passes (is_ended coded) (prefixes frames) front e)

none_ended : (coded : ℕ) (frames : List Frame) → find (is_ended coded) (prefixes frames) ≡ None
    → is_ended coded frames ≡ false
none_ended coded [] e = no_frames coded
none_ended coded (frame ∷ frames) e = by (is_ended coded (frame ∷ frames)) refl
  where
    by : (b : Bool) → is_ended coded (frame ∷ frames) ≡ b → b ≡ false
    by true is =
        let there = whole_is_found (is_ended coded) frame frames is in let both : Some there.0 ≡ None = sym there.1
        ∙ e in absurd (cc)
    by false is = refl

-- ---- what a unit adds

-- the set of a run as it stands
abbrev pub set_of_run : List PesUnit → List (Delivery (List ℕ))
set_of_run [] = []
set_of_run (first ∷ units) =
    whole first.time (size_in (first ∷ units)) (segments_in (frames_in (first ∷ units))) ∷ []

-- the set in hand that a unit behind the run makes ready
abbrev pub parted_by : ℕ → List PesUnit → PesUnit → List (Delivery (List ℕ))
parted_by coded units one = if makes_ready coded units (Some (unit one)) then set_of_run units else []

-- the set that it ends
abbrev pub ended_by : ℕ → List PesUnit → PesUnit → List (Delivery (List ℕ))
ended_by coded units one =
    if is_ended coded (frames_in (of_time one.time units)) then [] else
    set_of coded one.time (of_time one.time units ++ one ∷ []) false
    (first_end coded (of_time one.time units ++ one ∷ []))

abbrev pub added_by : ℕ → List PesUnit → PesUnit → List (Delivery (List ℕ))
added_by coded units one = parted_by coded units one ++ ended_by coded units one

-- where no unit is in hand, or the run has ended, none is made ready
pub makes-none : (coded : ℕ) (units : List PesUnit) (one : PesUnit) → is_in_hand coded units ≡ false
    → makes_ready coded units (Some (unit one)) ≡ false
makes-none coded units one e = ap (λ b. b && not (has_time one.time units)) e

-- nor where the unit has the run's time
pub makes-same : (coded : ℕ) (units : List PesUnit) (one : PesUnit) → has_time one.time units ≡ true
    → makes_ready coded units (Some (unit one)) ≡ false
makes-same coded units one e = ap (λ b. is_in_hand coded units && not b) e ∙ by (is_in_hand coded units)
  where
    by : (b : Bool) → (b && false) ≡ false
    by true = refl
    by false = refl

pub makes-other : (coded : ℕ) (units : List PesUnit) (one : PesUnit) → is_in_hand coded units ≡ true
    → has_time one.time units ≡ false → makes_ready coded units (Some (unit one)) ≡ true
makes-other coded units one e f = ap (λ b. is_in_hand coded units && not b) f ∙ ap (λ b. b && true) e

pub parted-none : (coded : ℕ) (units : List PesUnit) (one : PesUnit)
    → makes_ready coded units (Some (unit one)) ≡ false → parted_by coded units one ≡ []
parted-none coded units one e = ap (λ b. if b then set_of_run units else []) e

pub parted-some : (coded : ℕ) (units : List PesUnit) (one : PesUnit)
    → makes_ready coded units (Some (unit one)) ≡ true → parted_by coded units one ≡ set_of_run units
parted-some coded units one e = ap (λ b. if b then set_of_run units else []) e

pub ended-open : (coded : ℕ) (units joined : List PesUnit) (one : PesUnit) → of_time one.time units ≡ joined
    → is_ended coded (frames_in joined) ≡ false
    → ended_by coded units one
    ≡ set_of coded one.time (joined ++ one ∷ []) false (first_end coded (joined ++ one ∷ []))
ended-open coded units joined one e f =
    ap (λ (all : List PesUnit). if is_ended coded (frames_in all) then []
    else set_of coded one.time (all ++ one ∷ []) false (first_end coded (all ++ one ∷ []))) e
    ∙ ap (λ b. if b then []
    else set_of coded one.time (joined ++ one ∷ []) false (first_end coded (joined ++ one ∷ []))) f

pub ended-behind : (coded : ℕ) (units joined : List PesUnit) (one : PesUnit) → of_time one.time units ≡ joined
    → is_ended coded (frames_in joined) ≡ true → ended_by coded units one ≡ []
ended-behind coded units joined one e f =
    ap (λ (all : List PesUnit). if is_ended coded (frames_in all) then []
    else set_of coded one.time (all ++ one ∷ []) false (first_end coded (all ++ one ∷ []))) e
    ∙ ap (λ b. if b then []
    else set_of coded one.time (joined ++ one ∷ []) false (first_end coded (joined ++ one ∷ []))) f

-- ---- the sets

begun : (coded : ℕ) (one : PesUnit) (sets : List (Delivery (List ℕ)))
    → set_of coded one.time (one ∷ []) false (first_end coded (one ∷ [])) ≡ sets
    → sets ++ [] ≡ [] ++ added_by coded [] one
begun coded one sets e =
    append-nil sets ∙ sym e
    ∙ sym (ended-open coded [] [] one refl (no_frames coded))
    ∙ sym (ap (λ parted. parted ++ ended_by coded [] one) (parted-none coded [] one (makes-none coded [] one refl)))

gone_on : (coded : ℕ) (one first : PesUnit) (units : List PesUnit) (found : Option (List Frame))
    → HaveTime first.time units → (first.time == one.time) ≡ true → first_end coded (first ∷ units) ≡ found
    → sets_in coded false (run first (units ++ one ∷ []) ∷ [])
    ≡ (set_of coded first.time (first ∷ units) false found ++ []) ++ added_by coded (first ∷ units) one
gone_on coded one first units None alike same e =
    append-nil
    (set_of coded first.time (first ∷ (units ++ one ∷ [])) false
    (first_end coded (first ∷ (units ++ one ∷ []))))
    ∙ ap (λ time. set_of coded time (first ∷ (units ++ one ∷ [])) false
    (first_end coded (first ∷ (units ++ one ∷ [])))) (eqb-true first.time one.time same)
    ∙ sym (ended-open coded (first ∷ units) (first ∷ units) one
    (all_of_time first.time one.time (first ∷ units) (refl, alike) same)
    (none_ended coded (frames_in (first ∷ units)) e))
    ∙ sym (ap (λ parted. parted ++ ended_by coded (first ∷ units) one)
    (parted-none coded (first ∷ units) one
    (makes-same coded (first ∷ units) one (ap (λ b. b || has_time one.time units) same))))
gone_on coded one first units (Some front) alike same e =
    ap (λ sets. sets ++ []) (ended_run coded first units (one ∷ []) front false false e)
    ∙ sym (append-nil (set_of coded first.time (first ∷ units) false (Some front) ++ []))
    ∙ sym (ap (λ added. (set_of coded first.time (first ∷ units) false (Some front) ++ []) ++ added)
    (ap (λ parted. parted ++ ended_by coded (first ∷ units) one)
    (parted-none coded (first ∷ units) one
    (makes-same coded (first ∷ units) one (ap (λ b. b || has_time one.time units) same)))
    ∙ ended-behind coded (first ∷ units) (first ∷ units) one
    (all_of_time first.time one.time (first ∷ units) (refl, alike) same)
    (found_ended coded (frames_in (first ∷ units)) front e)))

followed : (coded : ℕ) (one first : PesUnit) (units : List PesUnit) (found : Option (List Frame))
    (last : List (Delivery (List ℕ))) → HaveTime first.time units → (first.time == one.time) ≡ false
    → first_end coded (first ∷ units) ≡ found
    → set_of coded one.time (one ∷ []) false (first_end coded (one ∷ [])) ≡ last
    → set_of coded first.time (first ∷ units) true found
    ++ (last ++ []) ≡ (set_of coded first.time (first ∷ units) false found ++ [])
    ++ added_by coded (first ∷ units) one
followed coded one first units None last alike other e ends =
    let hand : is_in_hand coded (first ∷ units) ≡ true =
    ap not (none_ended coded (frames_in (first ∷ units)) e) in
    ap (λ sets. set_of_run (first ∷ units) ++ sets)
    (append-nil last ∙ sym ends
    ∙ sym (ended-open coded (first ∷ units) [] one
    (none_of_time first.time one.time (first ∷ units) (refl, alike) other) (no_frames coded)))
    ∙ sym (ap (λ parted. parted ++ ended_by coded (first ∷ units) one)
    (parted-some coded (first ∷ units) one
    (makes-other coded (first ∷ units) one hand
    (none_has_time first.time one.time (first ∷ units) (refl, alike) other))))
followed coded one first units (Some front) last alike other e ends =
    let hand : is_in_hand coded (first ∷ units) ≡ false =
    ap not (found_ended coded (frames_in (first ∷ units)) front e) in
    ap (λ sets. set_of coded first.time (first ∷ units) false (Some front) ++ sets)
    (append-nil last ∙ sym ends
    ∙ sym (ended-open coded (first ∷ units) [] one
    (none_of_time first.time one.time (first ∷ units) (refl, alike) other) (no_frames coded))
    ∙ sym (ap (λ parted. parted ++ ended_by coded (first ∷ units) one)
    (parted-none coded (first ∷ units) one (makes-none coded (first ∷ units) one hand))))

same_follow : (one : PesUnit) (next : Stretch) (some all : List Stretch) → Extends one (next ∷ some) all
    → is_followed false (next ∷ some) ≡ is_followed false all
same_follow one next some all (same_run e) = refl
same_follow one next some all (other_run e) = refl
same_follow one next some all (behind_loss more) = refl
same_follow one next some all (behind_run more) = refl

pub sets_extend : (coded : ℕ) (one : PesUnit) (hand : List PesUnit) (some all : List Stretch)
    → Extends one some all → IsStart hand some → AreAlike (last_of hand some)
    → sets_in coded false all ≡ sets_in coded false some ++ added_by coded (last_of hand some) one
sets_extend coded one hand some all (begins) start alike =
    begun coded one (set_of coded one.time (one ∷ []) false (first_end coded (one ∷ []))) refl
    ∙ sym (ap (λ units. added_by coded units one) (start refl))
sets_extend coded one hand some all (same_run {first = first} {units = units} e) start alike = gone_on coded one first
    units (first_end coded (first ∷ units)) alike e refl
sets_extend coded one hand some all (other_run {first = first} {units = units} e) start alike =
    followed coded one first units (first_end coded (first ∷ units))
    (set_of coded one.time (one ∷ []) false (first_end coded (one ∷ []))) alike e refl refl
sets_extend coded one hand some all (behind_loss {some = behind} {all = rest} more) start alike =
    ap (λ sets. lost ∷ sets) (sets_extend coded one [] behind rest more (λ e. refl) alike)
sets_extend coded one hand some all
    (behind_run {first = first} {units = units} {next = next} {some = behind} {all = rest} more) start alike =
    let there =
    sets_extend coded one (first ∷ units) (next ∷ behind) rest more (some_follow (first ∷ units) next behind)
    alike in
    let here =
    set_of coded first.time (first ∷ units) (is_followed false (next ∷ behind))
    (first_end coded (first ∷ units)) in
    ap (λ followed. set_of coded first.time (first ∷ units) followed (first_end coded (first ∷ units))
    ++ sets_in coded false rest) (sym (same_follow one next behind rest more))
    ∙ ap (λ sets. here ++ sets) there
    ∙ sym (append_assoc here (sets_in coded false (next ∷ behind))
    (added_by coded (last_of (first ∷ units) (next ∷ behind)) one))

-- ---- the end of the stream

-- the set in hand as it stands
abbrev pub open_set : ℕ → List PesUnit → List (Delivery (List ℕ))
open_set coded units = if is_in_hand coded units then set_of_run units else []

last_set : (coded : ℕ) (first : PesUnit) (units : List PesUnit) (found : Option (List Frame))
    → first_end coded (first ∷ units) ≡ found
    → set_of coded first.time (first ∷ units) true found
    ++ [] ≡ (set_of coded first.time (first ∷ units) false found ++ []) ++ open_set coded (first ∷ units)
last_set coded first units None e =
    sym (ap (λ b. if not b then set_of_run (first ∷ units) else [])
    (none_ended coded (frames_in (first ∷ units)) e))
last_set coded first units (Some front) e =
    sym (ap (λ sets. (set_of coded first.time (first ∷ units) false (Some front) ++ []) ++ sets)
    (ap (λ b. if not b then set_of_run (first ∷ units) else [])
    (found_ended coded (frames_in (first ∷ units)) front e)))

pub sets_finish : (coded : ℕ) (hand : List PesUnit) (stretches : List Stretch) → IsStart hand stretches
    → sets_in coded true stretches ≡ sets_in coded false stretches ++ open_set coded (last_of hand stretches)
sets_finish coded hand [] start = sym (ap (open_set coded) (start refl))
sets_finish coded hand (loss_between ∷ rest) start =
    ap (λ sets. lost ∷ sets) (sets_finish coded [] rest (λ e. refl))
sets_finish coded hand (run first units ∷ []) start =
    last_set coded first units (first_end coded (first ∷ units)) refl
sets_finish coded hand (run first units ∷ loss_between ∷ rest) start =
    let here = set_of coded first.time (first ∷ units) false (first_end coded (first ∷ units)) in
    ap (λ sets. here ++ sets)
    (sets_finish coded (first ∷ units) (loss_between ∷ rest) (some_follow (first ∷ units) loss_between rest))
    ∙ sym (append_assoc here (sets_in coded false (loss_between ∷ rest))
    (open_set coded (last_of (first ∷ units) (loss_between ∷ rest))))
sets_finish coded hand (run first units ∷ run next more ∷ rest) start =
    let here = set_of coded first.time (first ∷ units) true (first_end coded (first ∷ units)) in
    ap (λ sets. here ++ sets)
    (sets_finish coded (first ∷ units) (run next more ∷ rest)
    (some_follow (first ∷ units) (run next more) rest))
    ∙ sym (append_assoc here (sets_in coded false (run next more ∷ rest))
    (open_set coded (last_of (first ∷ units) (run next more ∷ rest))))
