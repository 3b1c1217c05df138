-- The names of a claim's devices, as a container runtime gets them.
use Rattle.std.specs.Prelude.{ℕ, List, ◌++◌, codes, map}
use Rattle.object_fields.specs.declared.key.DeviceId.{DeviceId}
use Rattle.ckpt_journal.specs.declared.record.Claim.{Claim}

-- <driver>/device=<claim uid>-<device>
abbrev pub name_of : List ℕ → DeviceId → List ℕ
name_of uid d = d.driver ++ (codes "/device=" ++ (uid ++ (codes "-" ++ d.device)))

-- one per device, in order
abbrev pub names_of : Claim → List (List ℕ)
names_of c = map (name_of c.uid) c.devices
