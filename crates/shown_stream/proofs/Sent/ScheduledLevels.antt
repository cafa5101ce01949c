-- A schedule that is on time is one whose levels hold, wherever it is entered.
use Rattle.std.proofs.Common.{List, length}
use Rattle.std.specs.Prelude.{All}
use Rattle.sub_base.specs.declared.load.WriteLoad.{WriteLoad}
use Rattle.sub_base.specs.declared.pace.Pace.{Pace}
use Rattle.schedule.specs.Slots.{Timetable, IsLoad, IsSchedule, IsOnTime}
use Rattle.scheduled_level_laws.proofs.EnteredWithin.{Holds}
use Rattle.sent_sets.proofs.RisingSlots.{rises}

pub schedule_holds : (loads : List WriteLoad) (pace : Pace) (table : Timetable) → All IsLoad loads
    → IsSchedule loads (length loads) pace table → IsOnTime loads (length loads) pace table
    → Holds loads pace table
schedule_holds loads pace table each schedule on_time = record {
  are = record { each = each; count = schedule.packets; rise = rises loads (length loads) pace table schedule };
  room = λ i k inside within. (schedule.stands i k inside within).room;
  dones = schedule.dones;
  ready = on_time.ready;
}
