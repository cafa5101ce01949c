-- What a writer writes is a PES packet that a subtitle reader takes.
use Rattle.std.proofs.Common.{◌≡◌, ℕ, ◌+◌, ◌^◌, ◌<◌, ◌≤◌, List, [], ◌∷◌, ◌++◌, length, take, drop, refl, sym, ap, ◌∙◌, arith, rules, append_assoc}
use Rattle.std.proofs.lemmas.List.{take-append-drop}
use Rattle.stream_syntax.specs.BitFields.{AreGroups}
use Rattle.stream_syntax.specs.Cutting.{IsUnit}
use Rattle.stream_syntax.specs.Pes.{pes_groups, written_form, written_pes, IsPes}

written_fits : (pts : ℕ) (field : List ℕ) → pts < 2 ^ 33 → length field ≤ 65527
    → AreGroups (pes_groups (written_form pts field))
written_fits pts field time short = search (rules, arith)

pub written_is_pes : (pts : ℕ) (field : List ℕ) → pts < 2 ^ 33 → length field ≤ 65527
    → take 2 field ≡ 0x20 ∷ 0 ∷ [] → IsPes (written_pes pts field) pts (drop 2 field)
written_is_pes pts field time short begins = record {
  form = written_form pts field;
  taken = record {
    fits = written_fits pts field time short;
    private_stream = refl;
    whole = omega arith;
    clear = refl;
    timed = omega arith;
    header = refl;
    time = refl;
    subtitles = sym (take-append-drop 2 field) ∙ ap (λ (front : List ℕ). front ++ drop 2 field) begins;
  };
  layout = refl;
}

-- two pieces behind one another
pub two_pieces : (old front back mid new : List ℕ) → mid ≡ old ++ front → new ≡ mid ++ back
    → new ≡ old ++ (front ++ back)
two_pieces old front back mid new first second =
    second ∙ ap (λ (xs : List ℕ). xs ++ back) first ∙ append_assoc old front back

-- it has as many bytes as its length says
pub written_is_unit : (pts : ℕ) (field : List ℕ) → length field ≤ 65527 → (size : ℕ)
    → 14 + length field ≤ size → IsUnit size (written_pes pts field)
written_is_unit pts field short size fits =
    record { prefix = refl; bounded = omega arith; whole = omega arith; fits = omega arith }
