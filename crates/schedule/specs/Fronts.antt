-- What of a schedule belongs to the first sets alone.
use Rattle.std.specs.Prelude.{List, length, take}
use Rattle.sub_base.specs.declared.load.WriteLoad.{WriteLoad}
use Rattle.schedule.specs.Packets.{first_packet}
use Rattle.schedule.specs.Slots.{Timetable}

-- the slots, ends and done ticks of these sets in a schedule of them and of further ones behind them
abbrev pub front_of : List WriteLoad → Timetable → Timetable
front_of loads table = record {
  slots = take (first_packet loads (length loads)) table.slots;
  ends = take (length loads) table.ends;
  dones = take (length loads) table.dones;
}
