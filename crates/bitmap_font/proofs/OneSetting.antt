-- The picture of a text is one.
use Rattle.std.proofs.Common.{◌≡◌, ◌∙◌, sym, ap, inl, inr, ℕ, ◌+◌, ◌*◌, ◌/◌, ◌%◌, ◌<◌, List, get_or, Result, Ok, Err, IfOk, arith}
use Rattle.std.proofs.lemmas.List.{ext_get_or}
use Rattle.std.proofs.lemmas.Nat.{div-add-mod'}
use Rattle.std.proofs.Math.Nat.{mod-lt, div-lt_iff_lt-mul}
use Rattle.sub_base.specs.declared.depth.Depth.{Depth}
use Rattle.sub_base.specs.Picture.{Picture, IsPicture, code_at}
use Rattle.bitmap_font.specs.declared.set_fault.SetFault.{SetFault}
use Rattle.bitmap_font.specs.Font.{FontValue}
use Rattle.bitmap_font.specs.Setting.{IsSetting}

-- pictures of the same sides with the same code at each place have the same codes
pub same_codes : (one other : Picture) → one.width ≡ other.width → one.height ≡ other.height → IsPicture one
    → IsPicture other →
    ((column row : ℕ) → column < one.width → row < one.height → code_at one column row ≡ code_at other column row)
    → one.codes ≡ other.codes
same_codes one other wide high first second each =
    ext_get_or 0 one.codes other.codes (first.full ∙ (λ i. wide i * high i) ∙ sym second.full)
    (λ place inside.
    let some = first.wide.0 in
    let column = place % one.width in
    let row = place / one.width in
    let across : column < one.width = mod-lt place (omega arith) in
    let down : row < one.height =
    (div-lt_iff_lt-mul {k = one.width} {x = place} {y = one.height} (omega arith)).1
    (omega (arith, inside, first.full)) in
    let is : row * one.width + column ≡ place = div-add-mod' place one.width in
    ap (λ (at : ℕ). get_or one.codes at 0) (sym is) ∙ each column row across down
    ∙ ap (λ (width : ℕ). get_or other.codes (row * width + column) 0) (sym wide)
    ∙ ap (λ (at : ℕ). get_or other.codes at 0) is)

-- the picture of a text is one
pub one_setting : (font : FontValue) (characters : List ℕ) (ink paper : ℕ) (depth : Depth) (one other : Picture)
    → IsSetting font characters ink paper depth one → IsSetting font characters ink paper depth other →
    IsPicture one → IsPicture other → one ≡ other
one_setting font characters ink paper depth one other first second whole full =
    let wide : one.width ≡ other.width = first.sides.wide ∙ sym second.sides.wide in
    let high : one.height ≡ other.height = first.sides.high ∙ sym second.sides.high in
    let deep : one.depth ≡ other.depth = first.sides.deep ∙ sym second.sides.deep in
    let codes : one.codes ≡ other.codes =
    same_codes one other wide high whole full (λ column row across down.
    elim (first.drawn column row across down) [
      | inl (inked, is) ↦ elim (second.drawn column row (omega (arith, across, wide)) (omega (arith, down, high))) [
        | inl (again, also) ↦ is ∙ sym also
        | inr (bare, also) ↦ absurd (bare inked)
      ]
      | inr (bare, is) ↦ elim (second.drawn column row (omega (arith, across, wide)) (omega (arith, down, high))) [
        | inl (inked, also) ↦ absurd (bare inked)
        | inr (again, also) ↦ is ∙ sym also
      ]
    ]) in
    λ i. record { width = wide i; height = high i; depth = deep i; codes = codes i }

-- so a picture that was made of a text is the one that is meant
pub one_made : (font : FontValue) (characters : List ℕ) (ink paper : ℕ) (depth : Depth)
    (result : Result Picture SetFault) → IfOk result (IsSetting font characters ink paper depth)
    → IfOk result IsPicture → (picture : Picture) → IsSetting font characters ink paper depth picture
    → IsPicture picture → IfOk result (λ made. made ≡ picture)
one_made font characters ink paper depth (Ok made) set whole picture is full =
    one_setting font characters ink paper depth made picture set is whole full
one_made font characters ink paper depth (Err fault) set whole picture is full = tt
