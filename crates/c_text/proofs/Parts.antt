-- The texts of lists of nodes, and what is known of their parts.
use Rattle.std.proofs.Common.{◌≡◌, ℕ, ◌+◌, ◌<◌, List, [], ◌∷◌, ◌++◌, length, map, drop, None, subst, get_or, codes, refl, arith}
use Rattle.c_text.specs.declared.ids.CExprId.{CExprId}
use Rattle.c_text.specs.declared.kinds.COp.{COp}
use Rattle.c_text.specs.declared.kinds.CUint.TheVariants.{U8}
use Rattle.c_text.specs.declared.nodes.CType.TheVariants as type
use Rattle.c_text.specs.declared.nodes.CFieldType.TheVariants as held
use Rattle.c_text.specs.declared.nodes.CArg.{CArg}
use Rattle.c_text.specs.declared.nodes.CArg.TheVariants as arg
use Rattle.c_text.specs.declared.nodes.CField.{CField}
use Rattle.c_text.specs.declared.nodes.CParam.{CParam}
use Rattle.c_text.specs.declared.nodes.CLocal.{CLocal}
use Rattle.c_text.specs.CNodes.{Nodes, expr_of, operands_in, args_in, field_tree, param_tree, local_tree}
use Rattle.c_text.specs.CFits.{HasField, HasFields, HasParams, HasLocal, HasLocals, HasExprs, HasArgs}
use Rattle.c_text.specs.CLayout.{fields_text, more_params_text, locals_text, operands_text, args_text, more_args_text}
use Rattle.c_text.specs.CLines.{arg_text}
use Rattle.pens.proofs.Progress.{unroll}

abbrev pub fields_written : Nodes → List CField → List ℕ
fields_written nodes fs = fields_text (map (field_tree nodes.names) fs)

abbrev pub params_written : Nodes → List CParam → List ℕ
params_written nodes ps = more_params_text (map (param_tree nodes.names) ps)

abbrev pub locals_written : Nodes → List CLocal → List ℕ
locals_written nodes ls = locals_text (map (local_tree nodes.names (expr_of nodes)) ls)

abbrev pub operands_written : Nodes → COp → List CExprId → List ℕ
operands_written nodes op es = operands_text (operands_in (expr_of nodes) es) op

abbrev pub args_written : Nodes → List CArg → List ℕ
args_written nodes args = more_args_text (args_in nodes.names (expr_of nodes) args)

abbrev pub no_field : CField
no_field = record { kind = held.Plain (type.Uint U8); name = record { 0 = 0 }; count = None }

abbrev pub no_param : CParam
no_param = record { kind = type.Uint U8; name = record { 0 = 0 } }

abbrev pub no_local : CLocal
no_local = record { kind = type.Uint U8; name = record { 0 = 0 }; initial = None }

abbrev pub no_expr : CExprId
no_expr = record { 0 = 0 }

abbrev pub no_arg_given : CArg
no_arg_given = arg.Expr (record { 0 = 0 })

pub fields_rest : (nodes : Nodes) (fs : List CField) (i : ℕ) → i < length fs → HasFields nodes (drop i fs) → HasFields nodes (drop (i + 1) fs)
fields_rest nodes fs i within h = (subst (λ (xs : List CField). HasFields nodes xs) (unroll fs i no_field within) h).1

pub fields_here : (nodes : Nodes) (fs : List CField) (i : ℕ) → i < length fs → HasFields nodes (drop i fs) → HasField nodes (get_or fs i no_field)
fields_here nodes fs i within h = (subst (λ (xs : List CField). HasFields nodes xs) (unroll fs i no_field within) h).0

pub params_rest : (nodes : Nodes) (ps : List CParam) (i : ℕ) → i < length ps → HasParams nodes (drop i ps) → HasParams nodes (drop (i + 1) ps)
params_rest nodes ps i within h = (subst (λ (xs : List CParam). HasParams nodes xs) (unroll ps i no_param within) h).1

pub locals_rest : (nodes : Nodes) (ls : List CLocal) (i : ℕ) → i < length ls → HasLocals nodes (drop i ls) → HasLocals nodes (drop (i + 1) ls)
locals_rest nodes ls i within h = (subst (λ (xs : List CLocal). HasLocals nodes xs) (unroll ls i no_local within) h).1

pub locals_here : (nodes : Nodes) (ls : List CLocal) (i : ℕ) → i < length ls → HasLocals nodes (drop i ls) → HasLocal nodes (get_or ls i no_local)
locals_here nodes ls i within h = (subst (λ (xs : List CLocal). HasLocals nodes xs) (unroll ls i no_local within) h).0

pub exprs_rest : (below : ℕ) (es : List CExprId) (i : ℕ) → i < length es → HasExprs below (drop i es) → HasExprs below (drop (i + 1) es)
exprs_rest below es i within h = (subst (λ (xs : List CExprId). HasExprs below xs) (unroll es i no_expr within) h).1

pub args_rest : (nodes : Nodes) (below : ℕ) (args : List CArg) (i : ℕ) → i < length args → HasArgs nodes below (drop i args) → HasArgs nodes below (drop (i + 1) args)
args_rest nodes below args i within h = (subst (λ (xs : List CArg). HasArgs nodes below xs) (unroll args i no_arg_given within) h).1

pub args_step : (nodes : Nodes) (a : CArg) (args : List CArg) → args_written nodes (a ∷ args) ≡ (codes ", " ++ arg_text nodes.names (expr_of nodes) a) ++ args_written nodes args
args_step nodes (arg.Expr e) args = refl
args_step nodes (arg.SizeOf n) args = refl

pub args_first : (nodes : Nodes) (args : List CArg) → 0 < length args → args_text (args_in nodes.names (expr_of nodes) args) ≡ arg_text nodes.names (expr_of nodes) (get_or args 0 no_arg_given) ++ args_written nodes (drop 1 args)
args_first nodes [] h = absurd (omega (arith, h))
args_first nodes (arg.Expr e ∷ args) h = refl
args_first nodes (arg.SizeOf n ∷ args) h = refl
