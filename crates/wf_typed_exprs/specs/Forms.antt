-- What the parts of an expression come to, by what they mean.
use Rattle.std.specs.Prelude.{Option, None, Some}
use Rattle.wf_ast.specs.declared.numbers.ExprId.{ExprId}
use Rattle.wf_ast.specs.declared.typed_code.Expr.{Expr}
use Rattle.wf_ast.specs.declared.typed_code.Expr.TheVariants as exprs
use Rattle.wf_named.specs.declared.nodes.Variable.{Variable}
use Rattle.wf_named.specs.declared.nodes.Variable.TheVariants as variables
use Rattle.wf_types_rules.specs.declared.meanings.PlacedMeaning.{PlacedMeaning}
use Rattle.wf_typed_exprs.specs.declared.elaborated.Elaborated.{Elaborated}

-- What names a variable.
abbrev pub naming : Variable → Expr
naming (variables.Const c) = exprs.Const c
naming (variables.Local x) = exprs.Local x
naming (variables.Field x) = exprs.Field x
naming (variables.Arg x) = exprs.Arg x

-- An end that may be absent, by its node.
abbrev pub node_of : Option Elaborated → Option ExprId
node_of None = None
node_of (Some e) = Some e.node

-- What it means.
abbrev pub value_of : Option Elaborated → Option PlacedMeaning
value_of None = None
value_of (Some e) = Some e.value
