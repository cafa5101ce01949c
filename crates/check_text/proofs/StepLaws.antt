-- What is told, one call after the other.
use Rattle.std.proofs.Common.{◌≡◌, ◌∙◌, ℕ, ◌==◌, Bool, true, false, if◌then◌else◌, List, [], ◌∷◌, ◌++◌, map, reverse, Some, append-nil, append_assoc, refl, sym, ap, subst}
use Rattle.std.specs.List.{flat_map}
use Rattle.std.proofs.lemmas.List.{map-append, reverse-append}
use Rattle.std.proofs.lemmas.List.Concat.{flat_map-append}
use Rattle.buffer_model.specs.Calls.{Arrived, Call}
use Rattle.buffer_model.specs.Meters as meters
use Rattle.buffer_model.specs.Meters.{Meter}
use Rattle.decoder_model.specs.Painting.{set_load}
use Rattle.decoder_model.specs.Readings.{Reading}
use Rattle.decoder_model.specs.Sets.{Delivery}
use Rattle.decoder_model.specs.Verdict.{verdict_of}
use Rattle.decoder_model.specs.declared.set_end.SetEnd.{SetEnd}
use Rattle.decoder_model.specs.Received.{Reception}
use Rattle.set_receiver.specs.Receiving.{SetReceiving}
use Rattle.received_level_laws.specs.StreamCalls.{arrived_in, drop_where}
use Rattle.received_level_laws.specs.ToldSets.{ToldDoneSet, ToldCall, call_of_end, calls_told, done_by, of_no_set, of_set, set_told, told_call, told_sets, told_sets_behind}
use Rattle.received_level_laws.proofs.SetCalls.{set_tells}
use Rattle.received_level_laws.proofs.ToldLaws.{calls_more, one_more_tells, sets_more}
use Rattle.sub_base.specs.declared.load.SetLoad.{SetLoad}
use Rattle.sub_base.specs.declared.pace.Pace.{Pace}
use Rattle.check_text.specs.CheckText.{set_line, sets_text}
use Rattle.check_text.specs.Checking.{Counts, IsCheckedTo, told_with}

-- ---- texts

-- the lines of more told calls come behind those of the calls before
pub text_more : (pace : Pace) (told more : List ToldCall)
    → sets_text pace (told ++ more) ≡ sets_text pace told
    ++ flat_map set_line (told_sets_behind pace (reverse told) more)
text_more pace told more =
    ap (flat_map set_line) (sets_more pace told more)
    ∙ flat_map-append set_line (told_sets pace told) (told_sets_behind pace (reverse told) more)

-- calls of no set have no line
abbrev pub AreSilent : List ToldCall → Type 0
AreSilent more = (pace : Pace) (earlier : List ToldCall) → told_sets_behind pace earlier more ≡ []

pub drop_silent : (dropped : Bool) → AreSilent (drop_where of_no_set dropped)
drop_silent true pace earlier = refl
drop_silent false pace earlier = refl

pub arrived_silent : (slot bytes : ℕ) → AreSilent (arrived_in of_no_set slot bytes)
arrived_silent slot bytes = by (bytes == 0)
  where
    by : (none : Bool) → AreSilent (if none then [] else of_no_set (Arrived slot bytes) ∷ [])
    by true pace earlier = refl
    by false pace earlier = refl

text_same : (pace : Pace) (told more : List ToldCall) → AreSilent more
    → sets_text pace (told ++ more) ≡ sets_text pace told
text_same pace told more silent =
    text_more pace told more
    ∙ ap (λ (sets : List ToldDoneSet). sets_text pace told ++ flat_map set_line sets) (silent pace (reverse told))
    ∙ append-nil (sets_text pace told)

-- ---- calls

-- calls of no set were told
pub counted : (made : Reception) (pace : Pace) (ended : Bool) (receiving : SetReceiving) (old new : Meter)
    (packets : List (List ℕ)) (past : List (Delivery Reading)) (told more : List ToldCall) (text : List ℕ)
    → AreSilent more → Counts old new more → IsCheckedTo made pace ended receiving old packets past told text
    → IsCheckedTo made pace ended receiving new packets past (told ++ more) text
counted made pace ended receiving old new packets past told more text silent counts at = record {
  own = at.own;
  taken = at.taken;
  pace_is = counts.pace ∙ at.pace_is;
  metered =
      subst (λ (calls : List Call). meters.IsMeterOf calls new) (sym (calls_more told more))
      (counts.stands (calls_told told) at.metered);
  whole = at.whole ∙ sym (text_same pace told more silent);
}

-- ---- sets

-- the calls so far, the latest first
calls_turned : (told : List ToldCall) → map (λ (one : ToldCall). one.call) (reverse told) ≡ calls_told told
calls_turned [] = refl
calls_turned (one ∷ told) =
    ap (map (λ (one : ToldCall). one.call)) (reverse-append (one ∷ []) told)
    ∙ map-append (λ (one : ToldCall). one.call) (reverse told) (one ∷ [])
    ∙ ap (λ (calls : List Call). calls ++ one.call ∷ []) (calls_turned told)
    ∙ sym (reverse-append (one.call ∷ []) (map (λ (one : ToldCall). one.call) told))

-- a set with that end and load, told as one call
abbrev pub told_one : SetEnd → SetLoad → ToldCall
told_one end load = of_set (set_told (Some end) (Some load)) (call_of_end end load)

-- a set that comes next is told as one call
pub one_told : (made : Reception) (past : List (Delivery Reading)) (one : Delivery Reading) (end : SetEnd)
    (load : SetLoad)
    → Some end ≡ verdict_of made.profile made.anchor past one
    → Some load ≡ set_load made.profile made.anchor past one
    → told_with made past (one ∷ []) ≡ told_one end load ∷ []
one_told made past one end load is_end is_load =
    one_more_tells made.profile made.anchor past [] one
    ∙ set_tells made.profile made.anchor past one end load is_end is_load

-- its line comes behind those before
pub text_one : (pace : Pace) (told : List ToldCall) (text : List ℕ) (end : SetEnd) (load : SetLoad) (done : ℕ)
    → done ≡ done_by pace (calls_told told) (call_of_end end load) → text ≡ sets_text pace told
    → text ++ set_line (record { set = record { end = end; load = load }; done = done })
    ≡ sets_text pace (told ++ told_one end load ∷ [])
text_one pace told text end load done done_is whole =
    ap (λ (front : List ℕ). front ++ set_line (record { set = record { end = end; load = load }; done = done }))
    whole
    ∙ ap (λ (tick : ℕ). sets_text pace told
    ++ set_line (record { set = record { end = end; load = load }; done = tick }))
    (done_is ∙ ap (λ (calls : List Call). done_by pace calls (call_of_end end load)) (sym (calls_turned told)))
    ∙ ap (λ (line : List ℕ). sets_text pace told ++ line)
    (sym (append-nil
    (set_line
    (record {
      set = record { end = end; load = load };
      done = done_by pace
          (map (λ (one : ToldCall). one.call) (reverse told)) (call_of_end end load);
    }))))
    ∙ sym (text_more pace told (told_one end load ∷ []))

-- ---- several sets

-- those of more sets and losses come behind those before
pub with_both : (made : Reception) (past more later : List (Delivery Reading))
    → told_with made past (later ++ more) ≡ told_with made past more ++ told_with made (more ++ past) later
with_both made past more [] = sym (append-nil (told_with made past more))
with_both made past more (one ∷ later) =
    one_more_tells made.profile made.anchor past (later ++ more) one
    ∙ ap (λ (calls : List ToldCall). calls ++ told_call made.profile made.anchor ((later ++ more) ++ past) one)
    (with_both made past more later)
    ∙ append_assoc (told_with made past more) (told_with made (more ++ past) later)
    (told_call made.profile made.anchor ((later ++ more) ++ past) one)
    ∙ ap (λ (all : List (Delivery Reading)). told_with made past more
    ++ (told_with made (more ++ past) later ++ told_call made.profile made.anchor all one))
    (append_assoc later more past)
    ∙ ap (λ (calls : List ToldCall). told_with made past more ++ calls)
    (sym (one_more_tells made.profile made.anchor (more ++ past) later one))
