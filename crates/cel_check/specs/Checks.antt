-- What the check returns.
use Rattle.std.specs.Prelude.{◌≡◌, [], false, if◌then◌else◌, Result, Ok, Err}
use Rattle.cel_tree.specs.declared.types.Scalar.TheVariants as scalar
use Rattle.cel_tree.specs.declared.types.CelType.{CelType}
use Rattle.cel_tree.specs.declared.fault.Fault.{Fault}
use Rattle.cel_tree.specs.declared.fault.Fault.TheVariants as fault
use Rattle.cel_tree.specs.Ast.{Ast}
use Rattle.cel_tree.specs.Types.{accepts}
use Rattle.cel_tree.specs.Typing.{type_of}
use Rattle.cel_tree.specs.Typed.{Typed}
use Rattle.cel_tree.specs.HasType.{HasType}
use Rattle.cel_check.specs.declared.checks.CheckError.{CheckError}
use Rattle.cel_check.specs.declared.checks.CheckError.TheVariants.{NoSuchName, NoOverload, NotBool, NotSupported, Memory}
use Rattle.cel_check.specs.HasFault.{HasFault}

abbrev pub error_of : Fault → CheckError
error_of (fault.NotSupported span) = NotSupported span
error_of (fault.NoSuchName span) = NoSuchName span
error_of (fault.NoOverload span) = NoOverload span

-- the tree with its type, which must be bool or dyn
abbrev pub selector_of : Ast → CelType → Result Typed CheckError
selector_of t k = if accepts scalar.Bool k then Ok (record { tree = t; kind = k }) else Err (NotBool k)

abbrev pub checked_by : Ast → Result CelType Fault → Result Typed CheckError
checked_by t (Ok k) = selector_of t k
checked_by t (Err f) = Err (error_of f)

-- the tree with its type where no name is bound, or the first fault
abbrev pub checked_of : Ast → Result Typed CheckError
checked_of t = checked_by t (type_of [] t)

-- why a tree is no selector: its first fault, or its type, which is neither bool nor dyn
abbrev pub IsError : Ast → CheckError → Type 0
IsError t (NoSuchName span) = HasFault [] t (fault.NoSuchName span)
IsError t (NoOverload span) = HasFault [] t (fault.NoOverload span)
IsError t (NotBool k) = HasType [] t k × (accepts scalar.Bool k ≡ false)
IsError t (NotSupported span) = HasFault [] t (fault.NotSupported span)
IsError t Memory = ⊥
