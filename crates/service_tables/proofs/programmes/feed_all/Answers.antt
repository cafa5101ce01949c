use Rattle.std.proofs.Common.{◌≡◌, ◌<◌, ◌&&◌, not, is_some, ℕ, List, false, length, subst, arith}
use Rattle.std.proofs.lemmas.List.{get_or_default}
use Rattle.service_tables.specs.Reading.{HasReadMap, ProgrammeReading, map_of, no_programme}
use Rattle.service_tables.proofs.ListLaws.{IsFed, one_more_come, one_more_fed, one_more_same}
use Rattle.service_tables.proofs.programmes.feed_all.Goals as goal

pub loop-programme-preserved : goal.loop-programme-preserved
loop-programme-preserved c =
    let below : c.loop-programme.programme-index < length c.loop-programme.programmes =
    omega (arith, c.loop-programme-test.true, c.loop-programme.auto.programmes) in
    let at =
    get_or_default c.loop-programme.programmes c.loop-programme.programme-index c.programme-item.result no_programme
    below in
    record {
      fed =
          one_more_fed _ _ _ _ _ c.loop-programme.invariant.fed below
          (subst (λ (p : ProgrammeReading). IsFed p c.feed-came.new.self c.args.packet.now) at
          (record { entry = c.feed-came.ensures.entry; read = c.feed-came.ensures.read }));
      come = one_more_come _ _ _ c.args.packet.now c.feed-came.new.self c.loop-programme.came c.feed-came.result
          c.loop-programme.invariant.fed c.loop-programme.invariant.come below
          (subst (λ (p : ProgrammeReading). c.feed-came.result
          ≡ (not (is_some p.map.section) && is_some c.feed-came.new.self.map.section)) at c.feed-came.ensures.came);
      same = one_more_same _ _ _ c.args.packet.now c.feed-came.new.self c.loop-programme.came c.feed-came.result
          c.loop-programme.invariant.fed c.loop-programme.invariant.same below
          (subst (λ (p : ProgrammeReading). c.feed-came.result ≡ false → (packets : List (List ℕ))
          → HasReadMap p packets
          → map_of c.feed-came.new.self ≡ map_of p) at c.feed-came.ensures.same);
    }
