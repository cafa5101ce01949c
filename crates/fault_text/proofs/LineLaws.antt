-- The lines of a set that is shown, put out one after the other.
use Rattle.std.proofs.Common.{◌≡◌, ◌∙◌, ℕ, Bool, true, false, cond, List, [], ◌∷◌, ◌++◌, map, Option, Some, append-nil, append_assoc, refl, sym, ap, subst}
use Rattle.std.specs.Prelude.{codes, filter}
use Rattle.command_text.specs.Lines.{line_end, then_number}
use Rattle.command_text.specs.Putting.{Buffered, PutsOut}
use Rattle.command_text.proofs.PutLaws.{PutsOut-both, PutsOut-nothing}
use Rattle.decoder_model.specs.Readings.{Reading}
use Rattle.decoder_model.specs.Sets.{Delivery}
use Rattle.decoder_model.specs.Shown.{Standing, standing_after, window_of}
use Rattle.decoder_model.specs.declared.set_end.SetEnd.TheVariants.{Broken, NotLater, Shown, Waiting}
use Rattle.decoder_model.specs.declared.set_fault.SetFault.{SetFault}
use Rattle.display_sets.specs.Filling.{AreBytes}
use Rattle.page_core.specs.Edges.{is_outside, is_outside_in, passes_edge}
use Rattle.page_core.specs.Memory as cores
use Rattle.page_core.specs.Memory.{Memory}
use Rattle.page_core.specs.Scenes.{ShowsStanding}
use Rattle.set_definitions.specs.Definitions.{changed_lines, definitions_in, earlier_in}
use Rattle.set_definitions.specs.Knowing.{Knowledge, Knows}
use Rattle.set_definitions.specs.declared.definition.Definition.{Definition}
use Rattle.stream_syntax.specs.declared.page.PageEntry.{PageEntry}
use Rattle.sub_base.specs.Endpoints.{Received}
use Rattle.sub_base.specs.Lists.{all_of}
use Rattle.fault_text.specs.FaultText.{found_in, outside_line, set_count, set_line, set_text, shown_text, tally_line}
use Rattle.fault_text.specs.Faulting.{PutsChanges, PutsFront, PutsSet, outside_lines, rest_text}
use Rattle.fault_text.specs.declared.tally.Tally.{Tally}

-- ---- the text

rest_all : (number pts : ℕ) (lines : List (List ℕ)) → rest_text true number pts lines ≡ all_of lines
rest_all number pts [] = refl
rest_all number pts (line ∷ lines) = ap (λ (rest : List ℕ). line ++ rest) (rest_all number pts lines)

rest_whole : (number pts : ℕ) (lines : List (List ℕ)) → rest_text false number pts lines ≡ shown_text number pts lines
rest_whole number pts [] = refl
rest_whole number pts (line ∷ lines) =
    ap (λ (rest : List ℕ). set_line number pts Shown ++ (line ++ rest)) (rest_all number pts lines)

-- ---- the regions

same_outside : (standing : Standing) (memory : Memory) → ShowsStanding standing memory → (entry : PageEntry)
    → is_outside_in memory entry ≡ is_outside standing.scene entry
same_outside standing memory shows entry i =
    passes_edge (window_of (shows.display i)) entry (shows.heads entry.region i)

outside_are : (standing : Standing) (memory : Memory) → ShowsStanding standing memory → (entries : List PageEntry)
    → outside_lines memory entries ≡ map outside_line (filter (is_outside standing.scene) entries)
outside_are standing memory shows [] = refl
outside_are standing memory shows (entry ∷ entries) =
    (λ i. cond (same_outside standing memory shows entry i)
    (outside_line entry ∷ outside_are standing memory shows entries i)
    (outside_are standing memory shows entries i))
    ∙ by (is_outside standing.scene entry)
  where
    rest : List PageEntry
    rest = filter (is_outside standing.scene) entries

    by : (outside : Bool)
        → cond outside (outside_line entry ∷ map outside_line rest) (map outside_line rest)
        ≡ map outside_line (cond outside (entry ∷ rest) rest)
    by true = refl
    by false = refl

-- ---- prefixes

pub front_none : (shown : Received) (buffer : Buffered) (whole : List ℕ)
    → PutsFront shown shown buffer buffer whole whole
front_none shown buffer whole = record { told = []; out = PutsOut-nothing shown buffer; joined = refl }

pub front_one : (before now : Received) (was is : Buffered) (text left : List ℕ) → PutsOut before now was is text
    → PutsFront before now was is (text ++ left) left
front_one before now was is text left out = record { told = text; out = out; joined = refl }

pub front_both : (a b c : Received) (was between is : Buffered) (whole mid left : List ℕ)
    → PutsFront a b was between whole mid → PutsFront b c between is mid left → PutsFront a c was is whole left
front_both a b c was between is whole mid left one other = record {
  told = one.told ++ other.told;
  out = PutsOut-both a b c was between is one.told other.told one.out other.out;
  joined =
      one.joined ∙ ap (λ (rest : List ℕ). one.told ++ rest) other.joined ∙ sym (append_assoc one.told other.told left);
}

pub front_whole : (before now : Received) (was is : Buffered) (whole left : List ℕ) → left ≡ []
    → PutsFront before now was is whole left → PutsOut before now was is whole
front_whole before now was is whole left none front =
    subst (λ (text : List ℕ). PutsOut before now was is text)
    (sym (front.joined ∙ ap (λ (rest : List ℕ). front.told ++ rest) none ∙ append-nil front.told)) front.out

-- the rest behind a prefix
pub front_then : (a b c : Received) (was between is : Buffered) (whole left : List ℕ)
    → PutsFront a b was between whole left → PutsOut b c between is left → PutsOut a c was is whole
front_then a b c was between is whole left front out =
    subst (λ (text : List ℕ). PutsOut a c was is text) (sym front.joined)
    (PutsOut-both a b c was between is front.told left front.out out)

-- a line, and before it that of its set where that does not stand
pub line_first : (number pts : ℕ) (stands : Bool) (line : List ℕ) (rest : List (List ℕ)) (before now : Received)
    (was is : Buffered) → PutsOut before now was is ((cond stands [] (set_line number pts Shown)) ++ line)
    → PutsFront before now was is (rest_text stands number pts (line ∷ rest)) (rest_text true number pts rest)
line_first number pts stands line rest before now was is out =
    subst (λ (whole : List ℕ). PutsFront before now was is whole (rest_text true number pts rest))
    (append_assoc (cond stands [] (set_line number pts Shown)) line (rest_text true number pts rest))
    (front_one before now was is ((cond stands [] (set_line number pts Shown)) ++ line)
    (rest_text true number pts rest) out)

-- an entry whose region does not lie inside
pub entry_outside : (number pts : ℕ) (memory : Memory) (stands : Bool) (entry : PageEntry)
    (before now : Received) (was is : Buffered) → is_outside_in memory entry ≡ true
    → PutsOut before now was is ((cond stands [] (set_line number pts Shown)) ++ outside_line entry)
    → (left : List PageEntry) (more : List (List ℕ)) → PutsFront before now was is
    (rest_text stands number pts (outside_lines memory (entry ∷ left) ++ more))
    (rest_text true number pts (outside_lines memory left ++ more))
entry_outside number pts memory stands entry before now was is outside out left more =
    subst
    (λ (test : Bool). PutsFront before now was is
    (rest_text stands number pts
    (cond test (outside_line entry ∷ outside_lines memory left) (outside_lines memory left) ++ more))
    (rest_text true number pts (outside_lines memory left ++ more))) (sym outside)
    (line_first number pts stands (outside_line entry) (outside_lines memory left ++ more) before now was is out)

-- and one whose region does
pub entry_inside : (number pts : ℕ) (memory : Memory) (stands : Bool) (entry : PageEntry) (shown : Received)
    (buffer : Buffered) → is_outside_in memory entry ≡ false → (left : List PageEntry) (more : List (List ℕ))
    → PutsFront shown shown buffer buffer
    (rest_text stands number pts (outside_lines memory (entry ∷ left) ++ more))
    (rest_text stands number pts (outside_lines memory left ++ more))
entry_inside number pts memory stands entry shown buffer inside left more =
    subst
    (λ (test : Bool). PutsFront shown shown buffer buffer
    (rest_text stands number pts
    (cond test (outside_line entry ∷ outside_lines memory left) (outside_lines memory left) ++ more))
    (rest_text stands number pts (outside_lines memory left ++ more))) (sym inside)
    (front_none shown buffer (rest_text stands number pts (outside_lines memory left ++ more)))

-- ---- a set

-- what is found in a set that is shown
pub found_shown : (number pts : ℕ) (memory : Memory) (bytes : List ℕ) (stands : Bool) (before mid now : Received)
    (was between is : Buffered) (old begun new : Knowledge)
    → ((past : List (Delivery Reading)) → cores.IsMemoryAfter past memory
    → (standing : Standing) × (standing_after memory.profile memory.anchor past ≡ Some standing)
    × ShowsStanding standing memory)
    → ((more : List (List ℕ)) → PutsFront before mid was between
    (rest_text false number pts (outside_lines memory memory.composition.entries ++ more))
    (rest_text stands number pts more))
    → ((segments : List (List ℕ)) → AreBytes segments bytes → (earlier : List Definition) → Knows old earlier
    → Knows begun (earlier_in segments earlier))
    → PutsChanges bytes number pts stands mid now begun new between is
    → PutsSet memory bytes number pts Shown before now old new was is
found_shown number pts memory bytes stands before mid now was between is old begun new shows front begins changes =
    record {
      puts = λ past stood segments are earlier knows.
          let shown = shows past stood in
          let standing = shown.0 in
          let more = changed_lines (earlier_in segments earlier) (definitions_in segments) in
          subst (λ (text : List ℕ). PutsOut before now was is text)
          (ap (λ (lines : List (List ℕ)). rest_text false number pts (lines ++ more))
          (outside_are standing memory shown.2 memory.composition.entries
          ∙ ap (λ (entries : List PageEntry). map outside_line (filter (is_outside standing.scene) entries))
          shown.2.entries)
          ∙ rest_whole number pts (found_in (Some standing) ++ more)
          ∙ sym (ap (λ (found : Option Standing). set_text number pts Shown (found_in found ++ more)) shown.1))
          (front_then before mid now was between is _ (rest_text stands number pts more) (front more)
          (changes.goes segments are (earlier_in segments earlier) (begins segments are earlier knows)).0);
      knows = λ segments are earlier knows.
          (changes.goes segments are (earlier_in segments earlier) (begins segments are earlier knows)).1;
    }

-- a set that waits, is broken, or is not later
pub waiting_put : (number pts : ℕ) (memory : Memory) (bytes : List ℕ) (before now : Received) (was is : Buffered)
    (old new : Knowledge) → Knows new [] → PutsOut before now was is (set_line number pts Waiting)
    → PutsSet memory bytes number pts Waiting before now old new was is
waiting_put number pts memory bytes before now was is old new nothing out = record {
  puts = λ past stood segments are earlier knows. out;
  knows = λ segments are earlier knows. nothing;
}

pub broken_put : (fault : SetFault) (number pts : ℕ) (memory : Memory) (bytes : List ℕ) (before now : Received)
    (was is : Buffered) (old new : Knowledge) → Knows new []
    → PutsOut before now was is (set_line number pts (Broken fault))
    → PutsSet memory bytes number pts (Broken fault) before now old new was is
broken_put fault number pts memory bytes before now was is old new nothing out = record {
  puts = λ past stood segments are earlier knows. out;
  knows = λ segments are earlier knows. nothing;
}

pub later_put : (last number pts : ℕ) (memory : Memory) (bytes : List ℕ) (before now : Received)
    (was is : Buffered) (known : Knowledge) → PutsOut before now was is (set_line number pts (NotLater last))
    → PutsSet memory bytes number pts (NotLater last) before now known known was is
later_put last number pts memory bytes before now was is known out = record {
  puts = λ past stood segments are earlier knows. out;
  knows = λ segments are earlier knows. knows;
}

-- ---- the line of a tally

parts : (front d e f g h i l : List ℕ)
    → front ++ (d ++ e ++ f ++ g ++ h ++ i ++ l) ≡ front ++ d ++ e ++ f ++ g ++ h ++ i ++ l
parts front d e f g h i l =
    sym (append_assoc front (d ++ e ++ f ++ g ++ h ++ i) l)
    ∙ ap (λ (t : List ℕ). t ++ l)
    (sym (append_assoc front (d ++ e ++ f ++ g ++ h) i)
    ∙ ap (λ (t : List ℕ). t ++ i)
    (sym (append_assoc front (d ++ e ++ f ++ g) h)
    ∙ ap (λ (t : List ℕ). t ++ h)
    (sym (append_assoc front (d ++ e ++ f) g)
    ∙ ap (λ (t : List ℕ). t ++ g)
    (sym (append_assoc front (d ++ e) f)
    ∙ ap (λ (t : List ℕ). t ++ f) (sym (append_assoc front d e))))))

-- a prefix and a rest of it
pub tally_out : (tally : Tally) (sets : ℕ) (front rest : List ℕ) (a b c : Received) (was half is : Buffered)
    → sets ≡ set_count tally
    → front ≡ codes "sets" ++ then_number sets ++ codes " shown" ++ then_number tally.shown ++ codes " waiting"
    ++ then_number tally.waiting
    → rest ≡ codes " broken" ++ then_number tally.broken ++ codes " notlater" ++ then_number tally.not_later
    ++ codes " lost" ++ then_number tally.lost ++ line_end
    → PutsOut a b was half front → PutsOut b c half is rest → PutsOut a c was is (tally_line tally)
tally_out tally sets front rest a b c was half is counted front_is rest_is one other =
    subst (λ (text : List ℕ). PutsOut a c was is text)
    ((λ i. front_is i ++ rest_is i)
    ∙ parts
    (codes "sets" ++ then_number sets ++ codes " shown" ++ then_number tally.shown ++ codes " waiting"
    ++ then_number tally.waiting)
    (codes " broken") (then_number tally.broken) (codes " notlater") (then_number tally.not_later) (codes " lost")
    (then_number tally.lost) line_end
    ∙ ap (λ (n : ℕ). codes "sets" ++ then_number n ++ codes " shown" ++ then_number tally.shown ++ codes " waiting"
    ++ then_number tally.waiting ++ codes " broken" ++ then_number tally.broken ++ codes " notlater"
    ++ then_number tally.not_later ++ codes " lost" ++ then_number tally.lost ++ line_end) counted)
    (PutsOut-both a b c was half is front rest one other)
