-- Claims whose records may be read again.
use Rattle.std.specs.List.{AllByRecursion}
use Rattle.object_fields.specs.declared.key.Key.{Key}
use Rattle.ckpt_journal.specs.Names.{DeviceReadsBack, KeyReadsBack}
use Rattle.prepare_core.specs.declared.claim.ClaimForNode.{ClaimForNode}

-- the keys of the pod and of the claim, and the claim's device ids, are those that their printed forms read as
pub record IsReadable (p : Key) (c : ClaimForNode) : Type 0 where
  pub pod : KeyReadsBack p
  pub key : KeyReadsBack c.key
  pub devices : AllByRecursion DeviceReadsBack c.devices
