use Rattle.std.proofs.Common.{◌≡◌, ◌∙◌, ◌++◌, ◌∷◌, [], List, ap, drop, length, map, subst, sym, take, arith}
use Rattle.std.proofs.Math.Seq.{take-append_seam}
use Rattle.service_tables.specs.Reading.{HaveReadMaps, ProgrammeReading, map_of}
use Rattle.service_tables.proofs.programmes.feed_each.Goals as goal

-- all of them are written back
abbrev all_back : (c : goal.After-programmes-1) → take c.args.programmes.now.len
    (c.feed_all.new.programmes ++ drop (length c.feed_all.new.programmes) c.args.programmes.now.items)
    ≡ c.feed_all.new.programmes
all_back c =
    let all : c.args.programmes.now.len ≡ length c.feed_all.new.programmes =
    omega (
      arith,
      c.feed_all.auto.programmes,
      ap (λ (ps : List ProgrammeReading). length ps) c.as_mut_slice.ensures.value,
      c.args.programmes.now.ok.0,
    ) in
    ap (λ n. take n (c.feed_all.new.programmes ++ drop (length c.feed_all.new.programmes)
    c.args.programmes.now.items)) all
    ∙ take-append_seam c.feed_all.new.programmes
    (drop (length c.feed_all.new.programmes) c.args.programmes.now.items)

pub returns-clause-read : goal.returns-clause-read
returns-clause-read c = λ packets read.
    subst (λ (ps : List ProgrammeReading). HaveReadMaps ps (packets ++ c.args.packet.now ∷ [])) (sym (all_back c))
    (c.feed_all.ensures.read packets
    (subst (λ (ps : List ProgrammeReading). HaveReadMaps ps packets) (sym c.as_mut_slice.ensures.value) read))

pub returns-clause-same : goal.returns-clause-same
returns-clause-same c = λ none packets read.
    ap (map map_of) (all_back c)
    ∙ c.feed_all.ensures.same none packets
    (subst (λ (ps : List ProgrammeReading). HaveReadMaps ps packets) (sym c.as_mut_slice.ensures.value) read)
    ∙ ap (map map_of) c.as_mut_slice.ensures.value
