-- What a disk in memory exposes.
use Rattle.std.specs.Prelude.{List, [], ◌∷◌, ◌++◌, true, Result, Ok, Err, if◌then◌else◌}
use Rattle.dra_ports.specs.DiskContent.{Content, Sure}
use Rattle.dra_ports.specs.Memory.{Plan, after_call, after_fault, fails_next, plan_of}
use Rattle.mem_disk.specs.declared.disk.MemDisk.{MemDisk}

abbrev pub content_of : MemDisk → Content
content_of d = record { bytes = d.history.stage.bytes; sure = d.history.stage.sure; earlier = d.history.earlier; honest = true }

-- what was sure at each moment, the present one the last
abbrev pub moments_of : MemDisk → List Sure
moments_of d = (content_of d).earlier ++ (content_of d).sure ∷ []

-- which calls fail, and how many did
abbrev pub disk_plan : MemDisk → Plan
disk_plan d = plan_of d.failures

-- with one more call that may allocate: if it failed and isn't in the list, it was out of memory
abbrev pub after_change : {T E : Type 0} → Plan → Result T E → Plan
after_change p (Ok x) = after_call p
after_change p (Err e) = if fails_next p then after_call p else after_fault (after_call p)
