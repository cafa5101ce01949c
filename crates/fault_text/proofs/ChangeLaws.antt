-- Definitions that are learned one after the other, with the lines of those that say something else.
use Rattle.std.proofs.Common.{◌≡◌, ◌∙◌, ℕ, ◌<◌, Bool, true, false, cond, List, [], ◌∷◌, ◌++◌, Option, Some, None, refl, sym, ap, subst}
use Rattle.command_text.specs.Putting.{Buffered, PutsOut}
use Rattle.decoder_model.specs.declared.set_end.SetEnd.TheVariants.{Shown}
use Rattle.display_sets.specs.Filling.{AreBytes}
use Rattle.set_definitions.specs.Definitions.{changed_lines, defined_behind, definition_of, definitions_in, last_said, same_version_line, says_else, then_others}
use Rattle.set_definitions.specs.Knowing.{Knowledge, Knows, Learns, said_at}
use Rattle.set_definitions.specs.declared.definition.Definition.{Definition}
use Rattle.set_definitions.specs.declared.definition.Said.{Said}
use Rattle.set_definitions.specs.declared.definition.TheConstants.{NAMES}
use Rattle.set_definitions.proofs.KnowLaws.{knows_more}
use Rattle.sub_base.specs.Endpoints.{Received}
use Rattle.fault_text.specs.FaultText.{set_line}
use Rattle.fault_text.specs.Faulting.{PutsChange, PutsChanges, PutsFront, rest_text}
use Rattle.fault_text.proofs.LineLaws.{front_both, front_none, front_whole, line_first}

-- ---- one

pub change_none : (number pts : ℕ) (stands : Bool) (shown : Received) (known : Knowledge) (buffer : Buffered)
    → PutsChange None number pts stands stands shown shown known known buffer buffer
change_none number pts stands shown known buffer = record {
  goes =
      λ earlier knows left. (front_none shown buffer (rest_text stands number pts (changed_lines earlier left)), knows);
}

says_so : (one : Definition) (old : Knowledge) (last : Option Said) (says : Bool) (earlier : List Definition)
    → one.name < NAMES → last ≡ said_at old one.name → says_else one.said last ≡ says → Knows old earlier
    → says_else one.said (last_said one.name earlier) ≡ says
says_so one old last says earlier within is test knows =
    ap (says_else one.said) (sym (is ∙ knows.says one.name within)) ∙ test

pub change_told : (number pts : ℕ) (stands : Bool) (one : Definition) (before now : Received) (old new : Knowledge)
    (was is : Buffered) (last : Option Said) → one.name < NAMES → last ≡ said_at old one.name → Learns old new one
    → says_else one.said last ≡ true
    → PutsOut before now was is ((cond stands [] (set_line number pts Shown)) ++ same_version_line one)
    → PutsChange (Some one) number pts stands true before now old new was is
change_told number pts stands one before now old new was is last within last_is learns test out = record {
  goes = λ earlier knows left. (
    subst
        (λ (says : Bool). PutsFront before now was is
        (rest_text stands number pts
        (cond says (same_version_line one ∷ changed_lines (one ∷ earlier) left) (changed_lines (one ∷ earlier) left)))
        (rest_text true number pts (changed_lines (one ∷ earlier) left)))
        (sym (says_so one old last true earlier within last_is test knows))
        (line_first number pts stands (same_version_line one) (changed_lines (one ∷ earlier) left) before now was is
        out),
    knows_more old new one earlier knows learns,
  );
}

pub change_untold : (number pts : ℕ) (stands : Bool) (one : Definition) (shown : Received) (old new : Knowledge)
    (buffer : Buffered) (last : Option Said) → one.name < NAMES → last ≡ said_at old one.name → Learns old new one
    → says_else one.said last ≡ false
    → PutsChange (Some one) number pts stands stands shown shown old new buffer buffer
change_untold number pts stands one shown old new buffer last within last_is learns test = record {
  goes = λ earlier knows left. (
    subst
        (λ (says : Bool). PutsFront shown shown buffer buffer
        (rest_text stands number pts
        (cond says (same_version_line one ∷ changed_lines (one ∷ earlier) left) (changed_lines (one ∷ earlier) left)))
        (rest_text stands number pts (changed_lines (one ∷ earlier) left)))
        (sym (says_so one old last false earlier within last_is test knows))
        (front_none shown buffer (rest_text stands number pts (changed_lines (one ∷ earlier) left))),
    knows_more old new one earlier knows learns,
  );
}

-- ---- several

-- of these segments those are left, behind these definitions
pub record ChangesLeft (segments : List (List ℕ)) (earlier : List Definition) (rest : List ℕ) (number pts : ℕ)
    (stands stand : Bool) (before now : Received) (new : Knowledge) (was is : Buffered) : Type 0 where
  pub left : List (List ℕ)
  pub are : AreBytes left rest
  pub known : List Definition
  pub knows : Knows new known
  pub front : PutsFront before now was is
      (rest_text stands number pts (changed_lines earlier (definitions_in segments)))
      (rest_text stand number pts (changed_lines known (definitions_in left)))
  pub same : defined_behind (definitions_in segments) earlier ≡ defined_behind (definitions_in left) known

pub record IsChanging (bytes rest : List ℕ) (number pts : ℕ) (stands stand : Bool) (before now : Received)
    (old new : Knowledge) (was is : Buffered) : Type 0 where
  pub goes : (segments : List (List ℕ)) → AreBytes segments bytes → (earlier : List Definition) → Knows old earlier
      → ChangesLeft segments earlier rest number pts stands stand before now new was is

pub changing_begin : (bytes : List ℕ) (number pts : ℕ) (stands : Bool) (shown : Received) (known : Knowledge)
    (buffer : Buffered) → IsChanging bytes bytes number pts stands stands shown shown known known buffer buffer
changing_begin bytes number pts stands shown known buffer = record {
  goes = λ segments are earlier knows. record {
    left = segments;
    are = are;
    known = earlier;
    knows = knows;
    front = front_none shown buffer (rest_text stands number pts (changed_lines earlier (definitions_in segments)));
    same = refl;
  };
}

others_behind : (found : Option Definition) (rest known : List Definition)
    → defined_behind (then_others found rest) known ≡ defined_behind rest (then_others found known)
others_behind None rest known = refl
others_behind (Some one) rest known = refl

pub changing_more : (bytes rest one behind : List ℕ) (number pts : ℕ) (stands stand next : Bool)
    (before mid now : Received) (old known new : Knowledge) (was between is : Buffered)
    → IsChanging bytes rest number pts stands stand before mid old known was between
    → ((segments : List (List ℕ)) → AreBytes segments rest
    → (more : List (List ℕ)) × (segments ≡ one ∷ more) × AreBytes more behind)
    → PutsChange (definition_of one) number pts stand next mid now known new between is
    → IsChanging bytes behind number pts stands next before now old new was is
changing_more bytes rest one behind number pts stands stand next before mid now old known new was between is so cut
    step =
    record {
      goes = λ segments are earlier knows.
          let left = so.goes segments are earlier knows in
          let parts = cut left.left left.are in
          let more = parts.0 in
          let change = step.goes left.known left.knows (definitions_in more) in
          record {
            left = more;
            are = parts.2;
            known = then_others (definition_of one) left.known;
            knows = change.1;
            front =
                front_both before mid now was between is _
                (rest_text stand number pts
                (changed_lines left.known (then_others (definition_of one) (definitions_in more)))) _
                (subst
                (λ (all : List (List ℕ)). PutsFront before mid was between
                (rest_text stands number pts (changed_lines earlier (definitions_in segments)))
                (rest_text stand number pts (changed_lines left.known (definitions_in all)))) parts.1 left.front)
                change.0;
            same =
                left.same
                ∙ ap (λ (all : List (List ℕ)). defined_behind (definitions_in all) left.known) parts.1
                ∙ others_behind (definition_of one) (definitions_in more) left.known;
          };
    }

pub changing_end : (bytes rest : List ℕ) (number pts : ℕ) (stands stand : Bool) (before now : Received)
    (old new : Knowledge) (was is : Buffered)
    → IsChanging bytes rest number pts stands stand before now old new was is
    → ((segments : List (List ℕ)) → AreBytes segments rest → segments ≡ [])
    → PutsChanges bytes number pts stands before now old new was is
changing_end bytes rest number pts stands stand before now old new was is so none = record {
  goes = λ segments are earlier knows.
      let left = so.goes segments are earlier knows in
      let empty = none left.left left.are in (
        front_whole before now was is _
            (rest_text stand number pts (changed_lines left.known (definitions_in left.left)))
            (ap (λ (all : List (List ℕ)). rest_text stand number pts (changed_lines left.known (definitions_in all)))
            empty)
            left.front,
        subst (Knows new)
            (sym (left.same
            ∙ ap (λ (all : List (List ℕ)). defined_behind (definitions_in all) left.known) empty)) left.knows,
      );
}
