-- What a statement reads apart from those that are looked at after it, and these: what follows it in its block or, after an
-- `if` that is the last of its block, what its `else` holds.
use Rattle.std.specs.Prelude.{ℕ, Bool, false, ◌||◌, if◌then◌else◌, List}
use Rattle.c_text.specs.declared.nodes.CArg.{CArg}
use Rattle.c_text.specs.declared.nodes.CArg.TheVariants as arg
use Rattle.c_text.specs.CGrammar.{is_finish}
use Rattle.c_text.specs.CNodes.{Nodes, expr_of}
use Rattle.c_text.specs.CTree.{Code, finish, nested, empty, assign, call, jump, branch, repeat, select, leave, case_label, default_label, name_label}
use Rattle.wf_exprs.specs.Reads.{expr_reads, args_read, target_reads, result_reads, value_reads, code_reads}

abbrev pub arg_reads : Nodes → (name : List ℕ) → CArg → Bool
arg_reads nodes name (arg.Expr e) = expr_reads name (expr_of nodes e.0)
arg_reads nodes name (arg.SizeOf n) = false

abbrev pub other_reads : (name : List ℕ) → (other rest : Code) → Bool
other_reads name other rest = if is_finish rest then false else code_reads name other

abbrev pub own_reads : (name : List ℕ) → Code → Bool
own_reads name finish = false
own_reads name (nested inner rest) = code_reads name inner
own_reads name (empty rest) = false
own_reads name (assign target value rest) = target_reads name target || expr_reads name value
own_reads name (call target function given rest) = result_reads name target || args_read name given
own_reads name (jump label rest) = false
own_reads name (branch test body otherwise other rest) = expr_reads name test || (code_reads name body || other_reads name other rest)
own_reads name (repeat test body rest) = expr_reads name test || code_reads name body
own_reads name (select on body rest) = expr_reads name on || code_reads name body
own_reads name (leave value rest) = value_reads name value
own_reads name (case_label n rest) = false
own_reads name (default_label rest) = false
own_reads name (name_label label rest) = false

abbrev pub next_of : Code → Code
next_of finish = finish
next_of (nested inner rest) = rest
next_of (empty rest) = rest
next_of (assign target value rest) = rest
next_of (call target function given rest) = rest
next_of (jump label rest) = rest
next_of (branch test body otherwise other rest) = if is_finish rest then other else rest
next_of (repeat test body rest) = rest
next_of (select on body rest) = rest
next_of (leave value rest) = rest
next_of (case_label n rest) = rest
next_of (default_label rest) = rest
next_of (name_label label rest) = rest
