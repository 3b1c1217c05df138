-- The calls that a driver got.
use Rattle.std.specs.Prelude.{Bool, true, false, List, [], ◌∷◌, ◌++◌, Result, Ok, Err}
use Rattle.dra_ports.specs.declared.error.PortError.{PortError}
use Rattle.dra_ports.specs.declared.error.PortError.TheVariants.{Failed, Memory}
use Rattle.prepare_core.specs.declared.claim.ClaimForNode.{ClaimForNode}
use Rattle.prepare_core.specs.declared.driver.CallKind.{CallKind}
use Rattle.prepare_core.specs.declared.driver.DriverCall.{DriverCall}

abbrev pub call : CallKind → ClaimForNode → Bool → DriverCall
call kind claim ok = record { kind = kind; claim = claim; ok = ok }

-- the calls after one more; one that is out of memory did nothing and isn't exposed
abbrev pub after_call : {T : Type 0} → CallKind → ClaimForNode → Result T PortError → List DriverCall → List DriverCall
after_call kind claim (Ok x) before = before ++ call kind claim true ∷ []
after_call kind claim (Err Failed) before = before ++ call kind claim false ∷ []
after_call kind claim (Err Memory) before = before
