use Rattle.std.proofs.Common.{◌≡◌, ◌∙◌, [], ◌∷◌, ◌++◌, IfSome, Option, Some, option_map, sym, ap, subst, rules}
use Rattle.bitmap_font.specs.declared.reader.Draft.{Draft}
use Rattle.bitmap_font.specs.Private.Reader.{IsDraft, IsFresh, draft_of}
use Rattle.bitmap_font.specs.Private.Steps.{finished}
use Rattle.bitmap_font.proofs.EncodedLaws.{past_ended}
use Rattle.bitmap_font.proofs.reader.Reader.end_glyph.Goals as goal

pub keep-requires-clause-fresh : goal.keep-requires-clause-fresh
keep-requires-clause-fresh c =
    let Fresh : Option Draft → Type 0 = λ draft. IfSome draft (IsFresh c.args.self.now.glyphs.items) in
    subst Fresh (sym c.in-Some.ensures.value) c.requires.reader.fresh c.in-Some-glyph_of.glyph.character
    c.in-Some-glyph_of.ensures.character

pub returns-in_ok-keep-clause-taken : goal.returns-in_ok-keep-clause-taken
returns-in_ok-keep-clause-taken c =
    let old = c.args.self.now in
    let is_draft : IsDraft c.in-Some.draft =
    subst (λ draft. IfSome draft IsDraft) (sym c.in-Some.ensures.value) c.requires.reader.draft in
    let one : c.in-Some-glyph_of.glyph ∷ [] ≡ finished (Some (draft_of c.in-Some.draft)) =
    c.in-Some-glyph_of.ensures.glyph in
    record {
      reader = search rules;
      valid = search rules;
      next =
          rw c.in-Some.ensures.after
          (past_ended old.properties old.bounds old.started (option_map draft_of old.draft) (draft_of c.in-Some.draft)
          old.glyphs.items c.keep.new.glyphs.items
          (ap (option_map draft_of) (sym c.in-Some.ensures.value)) (is_draft.lines.given (search rules))
          (c.in_ok-keep.ensures.kept ∙ ap (λ more. old.glyphs.items ++ more) one));
    }
