use Rattle.std.proofs.Common.{◌≡◌, ◌∙◌, ◌++◌, ◌∷◌, [], None, ap, refl, sym, subst}
use Rattle.service_tables.specs.Reading.{HasRead, ProgrammesRead}
use Rattle.service_tables.proofs.PatLaws.{maps_stay, none_found, none_listed, pat_stays}
use Rattle.service_tables.proofs.programmes.Programmes.feed.Goals as goal

pub returns-then-is_found-clause-read : goal.returns-then-is_found-clause-read
returns-then-is_found-clause-read c = λ packets is.
    pat_stays (record {
      sections = c.self.inside.sections;
      pat = c.self.inside.pat;
      programmes = c.self.inside.programmes.items;
      is_wanting = c.self.inside.is_wanting;
    })
    (record {
      sections = c.self.inside.sections;
      pat = c.self.inside.pat;
      programmes = c.feed_each.new.programmes.items;
      is_wanting = c.self.inside.is_wanting;
    })
    c.args.packet.now (sym c.is_found.ensures ∙ c.if-is_found.true) refl refl
    c.feed_each.ensures.entries c.feed_each.ensures.read
    packets
    (subst (λ (r : ProgrammesRead). HasRead r packets) (sym c.self.view_is) is)

pub returns-then-is_found-clause-same : goal.returns-then-is_found-clause-same
returns-then-is_found-clause-same c = λ none found packets is.
    let own : ProgrammesRead = record {
      sections = c.self.inside.sections;
      pat = c.self.inside.pat;
      programmes = c.self.inside.programmes.items;
      is_wanting = c.self.inside.is_wanting;
    } in
    let new : ProgrammesRead = record {
      sections = c.self.inside.sections;
      pat = c.self.inside.pat;
      programmes = c.feed_each.new.programmes.items;
      is_wanting = c.self.inside.is_wanting;
    } in
    maps_stay own new c.args.packet.now (sym c.is_found.ensures ∙ c.if-is_found.true) refl
    (pat_stays own new c.args.packet.now (sym c.is_found.ensures ∙ c.if-is_found.true) refl refl
    c.feed_each.ensures.entries c.feed_each.ensures.read)
    (c.feed_each.ensures.same none) found packets
    (subst (λ (r : ProgrammesRead). HasRead r packets) (sym c.self.view_is) is)

pub returns-else-is_found-clause-same : goal.returns-else-is_found-clause-same
returns-else-is_found-clause-same c = λ none found packets is.
    let before : c.args.self.now.pat.section ≡ None =
    ap (λ (r : ProgrammesRead). r.pat.section) (sym c.self.view_is)
    ∙ none_found c.self.inside.pat.section (sym c.is_found.ensures ∙ c.if-is_found.false) in
    let after : c.look_for_pat.new.self.pat.section ≡ None =
    ap (λ (r : ProgrammesRead). r.pat.section) (sym c.self-else-is_found.view_is)
    ∙ none_found c.self-else-is_found.inside.pat.section (sym c.is_found-else-is_found.ensures ∙ none) in
    none_listed c.look_for_pat.new.self (packets ++ c.args.packet.now ∷ []) after (c.look_for_pat.ensures packets is)
    ∙ sym (none_listed c.args.self.now packets before is)
