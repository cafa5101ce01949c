-- Why bytes are no font.
use Rattle.std.specs.Prelude.{◌≡◌, ◌⊎◌, ℕ, List, Result, MatchResult, ⊤}
use Rattle.bitmap_font.specs.declared.font_fault.FontFault.{FontFault}
use Rattle.bitmap_font.specs.declared.font_fault.FontFault.TheVariants.{Memory, Refused}
use Rattle.bitmap_font.specs.declared.set_fault.SetFault.{SetFault}
use Rattle.bitmap_font.specs.declared.set_fault.SetFault.TheVariants as sets
use Rattle.bitmap_font.specs.Reading.{IsRefusedLine}

-- why bytes are no font
abbrev pub IsFontFault : List ℕ → FontFault → Type 0
IsFontFault bytes Memory = ⊤
IsFontFault bytes (Refused line kind) = IsRefusedLine bytes line kind

-- this fault of a font is answered, or want of memory
abbrev pub IsFontRefusal : {T : Type 0} → FontFault → Result T FontFault → Type 0
IsFontRefusal fault result = MatchResult result (λ _. ⊥) (λ told. (told ≡ Memory) ⊎ (told ≡ fault))

-- this fault of a text is answered, or want of memory
abbrev pub IsSetRefusal : {T : Type 0} → SetFault → Result T SetFault → Type 0
IsSetRefusal fault result = MatchResult result (λ _. ⊥) (λ told. (told ≡ sets.Memory) ⊎ (told ≡ fault))
