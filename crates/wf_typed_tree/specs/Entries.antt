-- What is known of each expression of a typed package beside its tree, by number: where it stands, its type, and its number
-- where it is constant. The entries of a package are those of its methods in order, and of a method those of its locals' names
-- and of its body; the parts of an expression stand before the whole.
use Rattle.std.specs.Prelude.{ℕ, ◌+◌, List, [], ◌∷◌, ◌++◌, map, Option, None, Some, option_and_then, if◌then◌else◌}
use Rattle.std.specs.List.{flat_map}
use Rattle.wf_text.specs.declared.place.Place.{Place}
use Rattle.wf_base.specs.BaseTable.{row_of}
use Rattle.wf_ast.specs.declared.operators.Op.{Op}
use Rattle.wf_ast.specs.declared.typed_code.ExprNode.{ExprNode}
use Rattle.wf_ast.specs.declared.typed_nodes.TypedNodes.{TypedNodes}
use Rattle.wf_ast.specs.declared.types.Ty.{Ty}
use Rattle.wf_ast.specs.WellTyped.{is_pure}
use Rattle.wf_named.specs.declared.nodes.NamedCallee.{NamedCallee}
use Rattle.wf_named.specs.declared.nodes.NamedCallee.TheVariants as callees
use Rattle.wf_named.specs.declared.nodes.NamedPath.{NamedPath}
use Rattle.wf_named.specs.declared.nodes.Variable.TheVariants as variables
use Rattle.wf_named.specs.NamedTree.{NamedExprTree, path, index, slice, answer, chain, convert, negation, NamedPartTree, absent, present, NamedLinkTrees, no_link, link, NamedArgTrees, no_arg, more_args, NamedCallTree, call, NamedTargetTree, to_path, to_element, NamedClauseTrees, no_clause, more_clauses, LetterTrees, no_letter, more_letters, NamedViaTree, by_itself, via, NamedStmtTree, assign, keep, do_call, branch, loop, back, claim, NamedBlockTree, close, more_stmts, NamedArmTrees, no_else, otherwise, arm, NamedMethodTree, NamedPackageTree}
use Rattle.wf_types_rules.specs.declared.meanings.Meaning.{Meaning}
use Rattle.wf_types_rules.specs.declared.settings.Setting.{Setting}
use Rattle.wf_types_rules.specs.Meanings.{variable, constant_number, place_of}
use Rattle.wf_types_rules.specs.ExprTypes.{meaning}
use Rattle.wf_types_rules.specs.DeclaredTypes.{in_method}
use Rattle.wf_typed_tree.specs.ElaboratedExprs.{type_meant}
use Rattle.wf_typed_tree.specs.ElaboratedStmts.{type_of_update}

pub record Entry : Type 0 where
  pub at : Place
  pub ty : Ty
  pub constant : Option ℕ

-- The entries of the nodes of a package.
abbrev pub entries_in : List ExprNode → List Ty → List (Option ℕ) → List Entry
entries_in (n ∷ ns) (ty ∷ tys) (c ∷ cs) = record { at = n.at; ty = ty; constant = c } ∷ entries_in ns tys cs
entries_in ns tys cs = []

unfoldable pub entries : TypedNodes → List Entry
entries nodes = entries_in nodes.exprs nodes.types nodes.constants

-- What stands there and means this.
abbrev pub entry_of : Place → Option Meaning → Entry
entry_of at m = record { at = at; ty = type_meant m; constant = option_and_then constant_number m }

abbrev pub path_entry : Setting → NamedPath → Entry
path_entry s p = entry_of p.at (variable s p.of)

abbrev pub whole_entry : Setting → NamedExprTree → Entry
whole_entry s e = entry_of (place_of e) (meaning s e)

-- What a base method is called on.
abbrev pub callee_entries : Setting → NamedCallee → List Entry
callee_entries s (callees.Base on sig) = path_entry s on ∷ []
callee_entries s callee = []

abbrev pub answered_on : Setting → NamedCallTree → List Entry
answered_on s (call callee at mark args) = callee_entries s callee

-- The parts of an expression.
abbrev mutual
  pub part_entries : Setting → NamedExprTree → List Entry
  part_entries s (index p i at) = path_entry s p ∷ (part_entries s i ++ whole_entry s i ∷ [])
  part_entries s (slice p from to at) = path_entry s p ∷ (end_entries s from ++ end_entries s to)
  part_entries s (answer c) = answered_on s c
  part_entries s (chain op first links at) = (part_entries s first ++ whole_entry s first ∷ []) ++ link_entries s links
  part_entries s (convert e t at) = part_entries s e ++ whole_entry s e ∷ []
  part_entries s (negation e at) = part_entries s e ++ whole_entry s e ∷ []
  part_entries s e = []

  pub end_entries : Setting → NamedPartTree → List Entry
  end_entries s absent = []
  end_entries s (present e) = part_entries s e ++ whole_entry s e ∷ []

  pub link_entries : Setting → NamedLinkTrees → List Entry
  link_entries s no_link = []
  link_entries s (link sign e others) = (part_entries s e ++ whole_entry s e ∷ []) ++ link_entries s others

-- An expression, with its parts before it.
abbrev pub expr_entries : Setting → NamedExprTree → List Entry
expr_entries s e = part_entries s e ++ whole_entry s e ∷ []

-- What is written to.
abbrev pub target_entries : Setting → NamedTargetTree → List Entry
target_entries s (to_path p) = path_entry s p ∷ []
target_entries s (to_element p i at) = expr_entries s (index p i at)

-- A call that is a whole statement, or a whole right side. A path is handed on as it is.
abbrev pub handed_entries : Setting → NamedExprTree → List Entry
handed_entries s (path p) = path_entry s p ∷ []
handed_entries s e = expr_entries s e

abbrev pub arg_entries : Setting → NamedArgTrees → List Entry
arg_entries s no_arg = []
arg_entries s (more_args e others) = handed_entries s e ++ arg_entries s others

abbrev pub call_entries : Setting → NamedCallTree → List Entry
call_entries s (call callee at mark args) = callee_entries s callee ++ arg_entries s args

-- What stands right of `=`: what a pure base method answers is a value like any other.
abbrev pub assigned_entries : Setting → NamedExprTree → List Entry
assigned_entries s (answer (call (callees.Base on sig) at mark args)) =
    if is_pure (row_of sig).mark then expr_entries s (answer (call (callees.Base on sig) at mark args)) else call_entries s (call (callees.Base on sig) at mark args)
assigned_entries s (answer c) = call_entries s c
assigned_entries s e = expr_entries s e

-- An operator with `=` stands after its two operands.
abbrev pub update_entry : Setting → NamedTargetTree → (sign : Place) → Entry
update_entry s t sign = record { at = sign; ty = type_of_update s t; constant = None }

abbrev pub assign_entries : Setting → NamedTargetTree → Option Op → (sign : Place) → NamedExprTree → List Entry
assign_entries s t None sign e = target_entries s t ++ assigned_entries s e
assign_entries s t (Some op) sign e = target_entries s t ++ (expr_entries s e ++ update_entry s t sign ∷ [])

abbrev pub clause_entries : Setting → NamedClauseTrees → List Entry
clause_entries s no_clause = []
clause_entries s (more_clauses kind e at others) = expr_entries s e ++ clause_entries s others

abbrev pub letter_entries : Setting → LetterTrees → List Entry
letter_entries s no_letter = []
letter_entries s (more_letters letter e others) = expr_entries s e ++ letter_entries s others

abbrev pub via_entries : Setting → NamedViaTree → List Entry
via_entries s by_itself = []
via_entries s (via text given) = letter_entries s given

-- Statements. The body of a loop stands before its condition.
abbrev mutual
  pub stmt_entries : Setting → NamedStmtTree → List Entry
  stmt_entries s (assign t op sign e at) = assign_entries s t op sign e
  stmt_entries s (keep t c at) = target_entries s t ++ call_entries s c
  stmt_entries s (do_call c at) = call_entries s c
  stmt_entries s (branch arms at) = arms_entries s arms
  stmt_entries s (loop e clauses body at) = block_entries s body ++ (expr_entries s e ++ clause_entries s clauses)
  stmt_entries s (back e at) = end_entries s e
  stmt_entries s (claim e by at) = expr_entries s e ++ via_entries s by
  stmt_entries s st = []

  pub block_entries : Setting → NamedBlockTree → List Entry
  block_entries s (close at) = []
  block_entries s (more_stmts first others) = stmt_entries s first ++ block_entries s others

  pub arms_entries : Setting → NamedArmTrees → List Entry
  arms_entries s no_else = []
  arms_entries s (otherwise body) = block_entries s body
  arms_entries s (arm e body others) = (expr_entries s e ++ block_entries s body) ++ arms_entries s others

-- The names of a method's locals, which stand at these places, `n` being the number of the first.
abbrev pub local_entries : Setting → (n : ℕ) → List Place → List Entry
local_entries s n [] = []
local_entries s n (at ∷ places) = path_entry s (record { of = variables.Local (record { 0 = n }); at = at }) ∷ local_entries s (n + 1) places

abbrev pub method_entries : NamedPackageTree → NamedMethodTree → List Entry
method_entries p m = local_entries (in_method p m) 0 (map (λ x. x.name.at) m.locals) ++ block_entries (in_method p m) m.body

abbrev pub methods_entries : NamedPackageTree → List NamedMethodTree → List Entry
methods_entries p ms = flat_map (method_entries p) ms

-- All entries of a package, in the order of their numbers.
unfoldable pub package_entries : NamedPackageTree → List Entry
package_entries p = methods_entries p p.methods
