use Rattle.std.proofs.Common.{◌∙◌, ◌++◌, ◌∷◌, [], subst, sym, refl}
use Rattle.service_mux.specs.Private.Taking.{StandsIn}
use Rattle.service_mux.specs.declared.taker.Phase.{Phase}
use Rattle.service_mux.proofs.TakingLaws.{map_found, map_missed}
use Rattle.service_mux.proofs.taker.Taker.look_for_subtitles.Goals as goal

pub returns-in-Some : goal.returns-in-Some
returns-in-Some c = record {
  service = refl;
  stands = λ packets bytes. λ is.
      map_found c.args.self.now.service c.in-Some.pid c.args.self.now.reader c.args.packet.now
      (λ before stands. sym c.in-Some.is ∙ c.feed.ensures.named before stands)
      packets bytes
      (subst (λ (p : Phase). StandsIn p c.args.self.now.service c.args.self.now.reader packets bytes) c.requires is);
}

pub returns-in_default : goal.returns-in_default
returns-in_default c = record {
  service = refl;
  stands = λ packets bytes. λ is.
      subst (λ (p : Phase). StandsIn p c.args.self.now.service c.feed.new.self (packets ++ c.args.packet.now ∷ [])
      bytes) (sym c.requires)
      (map_missed c.args.self.now.service c.args.self.now.reader c.feed.new.self c.args.packet.now
      (λ before stands. sym c.in_default.is ∙ c.feed.ensures.named before stands)
      c.feed.ensures.goes_on packets bytes
      (subst (λ (p : Phase). StandsIn p c.args.self.now.service c.args.self.now.reader packets bytes) c.requires is));
}
