use Rattle.std.proofs.Common.{◌∙◌, Some, ap, rules, sym}
use Rattle.door_ports.specs.AllMemDoors.{all_ended}
use Rattle.door_ports.specs.MemDoors.{mem_ended}
use Rattle.door_ports.proofs.Closing.{handed_mem}
use Rattle.door_ports.proofs.mem_doors.MemDoorsDoors.TheImpl.Goals as goal

pub close-tells : goal.close-tells
close-tells x x' c = record {
  taken = search rules;
  served = search rules;
  ended = ap Some c.ensures.ended ∙ sym (handed_mem mem_ended (all_ended c.args.self.now) c.args.doors.items);
  later = search rules;
  rose = search rules;
  faultless = search rules;
}
