-- What a driver in memory exposes.
use Rattle.std.specs.Prelude.{List}
use Rattle.dra_ports.specs.Memory.{Plan, plan_of}
use Rattle.prepare_core.specs.declared.driver.DriverCall.{DriverCall}
use Rattle.prepare_core.specs.declared.mem_driver.MemDriver.{MemDriver}

abbrev pub calls_of : MemDriver → List DriverCall
calls_of d = d.calls.items

-- which calls fail, and how many did
abbrev pub driver_plan : MemDriver → Plan
driver_plan d = plan_of d.failures
