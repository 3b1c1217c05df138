-- What a selector evaluates to on a device.
use Rattle.std.specs.Prelude.{[], true, false, Result, Ok, Err}
use Rattle.cel_tree.specs.Ast.{Ast}
use Rattle.cel_value.specs.declared.value.Single.TheVariants as single
use Rattle.cel_value.specs.declared.value.Value.{Value}
use Rattle.cel_value.specs.declared.value.Value.TheVariants as value
use Rattle.cel_value.specs.declared.error.EvalError.{EvalError}
use Rattle.cel_value.specs.Device.{Device}
use Rattle.cel_meaning.specs.Meaning.{means}
use Rattle.pool_view.specs.declared.verdict.Cause.TheVariants.{Error, NotBool}
use Rattle.pool_view.specs.declared.verdict.Verdict.{Verdict}
use Rattle.pool_view.specs.declared.verdict.Verdict.TheVariants.{Yes, No, Fault}

-- True is Yes and false is No. Any other value is a fault, and so is an error.
abbrev pub verdict_of : Result Value EvalError → Verdict
verdict_of (Ok (value.Single (single.Bool true))) = Yes
verdict_of (Ok (value.Single (single.Bool false))) = No
verdict_of (Ok v) = Fault NotBool
verdict_of (Err e) = Fault (Error e)

-- what a selector, as a tree, evaluates to on the device
abbrev pub match_of : Device → Ast → Verdict
match_of device t = verdict_of (means device [] t)
