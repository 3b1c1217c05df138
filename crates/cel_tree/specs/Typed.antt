-- A tree with its type.
use Rattle.std.specs.Prelude.{refl}
use Rattle.std.specs.Coded.{Coded, code_by, coded×}
use Rattle.cel_tree.specs.declared.types.CelType.{CelType}
use Rattle.cel_tree.specs.contracts.types.CelType as cel_type
use Rattle.cel_tree.specs.Ast.{Ast}
use Rattle.cel_tree.specs.Code.{coded_ast}

pub record Typed : Type 0 where
  pub tree : Ast
  pub kind : CelType

abbrev pub coded_typed : Coded Typed
coded_typed = code_by (Ast × CelType) (coded× coded_ast cel_type.the_row.coded) (λ t. (t.tree, t.kind)) (λ p. record { tree = p.0; kind = p.1 }) (λ t. refl)
