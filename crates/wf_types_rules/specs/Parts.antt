-- The parts of a package that the rules of types and effects speak of, each with what stands round it.
use Rattle.std.specs.Prelude.{◌≡◌, ℕ, ◌+◌, Bool, true, false, List, [], ◌∷◌, ◌++◌, map, Option, None, Some, slice_get}
use Rattle.std.specs.List.{flat_map}
use Rattle.wf_text.specs.declared.place.Place.{Place}
use Rattle.wf_base.specs.declared.marks.Mark.{Mark}
use Rattle.wf_ast.specs.declared.operators.Op.{Op}
use Rattle.wf_named.specs.declared.nodes.NamedCallee.{NamedCallee}
use Rattle.wf_named.specs.NamedTree.{NamedExprTree, path, index, slice, answer, chain, convert, negation, NamedPartTree, absent, present, NamedLinkTrees, no_link, link, NamedArgTrees, no_arg, more_args, NamedCallTree, call, NamedTypeTree, slice_of, array_of, base_type, struct_type, NamedBoundsTree, unrefined, refined, NamedTargetTree, to_path, to_element, NamedClauseTrees, no_clause, more_clauses, LetterTrees, no_letter, more_letters, NamedViaTree, by_itself, via, NamedStmtTree, assign, keep, do_call, branch, loop, leave, again, back, suspend, claim, NamedBlockTree, close, more_stmts, NamedArmTrees, no_else, otherwise, arm, Word, VarTree, ConstTree, NamedMethodTree, NamedPackageTree}
use Rattle.wf_types_rules.specs.declared.meanings.Constant.{Constant}
use Rattle.wf_types_rules.specs.declared.settings.Role.{Role}
use Rattle.wf_types_rules.specs.declared.settings.Role.TheVariants as roles
use Rattle.wf_types_rules.specs.declared.settings.Setting.{Setting}
use Rattle.wf_types_rules.specs.DeclaredTypes.{among_constants, constant_made, for_types, in_method}

pub data Part : Type 0 where
  -- an expression, as a whole or inside another
  expression : NamedExprTree → Part
  -- a call, and whether it stands inside an expression
  calling : (inside : Bool) → NamedCallTree → Part
  -- the value of the argument with this number
  argument : NamedCallee → (n : ℕ) → NamedExprTree → Part
  -- a type at its place, and each type that is one or stands in one
  placed_type : Role → NamedTypeTree → Part
  type_part : NamedTypeTree → Part
  constant_declared : ConstTree → Part
  status_declared : Word → Part
  -- what is written to
  target : NamedTargetTree → Part
  assigned : NamedTargetTree → (op : Option Op) → NamedExprTree → Part
  kept : NamedTargetTree → NamedCallTree → Part
  condition : NamedExprTree → Part
  letter_value : NamedExprTree → Part
  returned : (at : Place) → NamedPartTree → Part
  yielded : (at : Place) → NamedExprTree → Part
  -- the body of a method
  whole_body : NamedBlockTree → Part

-- What stands round a part, and the part.
pub record Site : Type 0 where
  pub around : Setting
  pub part : Part

-- The parts of an expression. A reader or writer that is handed on stands as an argument alone.
abbrev mutual
  pub expr_parts : NamedExprTree → List Part
  expr_parts (index p i at) = expression (index p i at) ∷ expr_parts i
  expr_parts (slice p from to at) = expression (slice p from to at) ∷ (end_parts from ++ end_parts to)
  expr_parts (answer (call callee at mark args)) = calling true (call callee at mark args) ∷ args_parts callee 0 args
  expr_parts (chain op first links at) = expression (chain op first links at) ∷ (expr_parts first ++ links_parts links)
  expr_parts (convert e t at) = expression (convert e t at) ∷ placed_type roles.Conversion t ∷ (expr_parts e ++ type_parts t)
  expr_parts (negation e at) = expression (negation e at) ∷ expr_parts e
  expr_parts e = expression e ∷ []

  pub end_parts : NamedPartTree → List Part
  end_parts absent = []
  end_parts (present e) = expr_parts e

  pub links_parts : NamedLinkTrees → List Part
  links_parts no_link = []
  links_parts (link sign e others) = expr_parts e ++ links_parts others

  pub args_parts : NamedCallee → (n : ℕ) → NamedArgTrees → List Part
  args_parts callee n no_arg = []
  args_parts callee n (more_args (path p) others) = argument callee n (path p) ∷ args_parts callee (n + 1) others
  args_parts callee n (more_args e others) = argument callee n e ∷ (expr_parts e ++ args_parts callee (n + 1) others)

  pub type_parts : NamedTypeTree → List Part
  type_parts (slice_of at element) = type_part (slice_of at element) ∷ type_parts element
  type_parts (array_of length at element) = type_part (array_of length at element) ∷ (expr_parts length ++ type_parts element)
  type_parts (base_type of at bounds) = type_part (base_type of at bounds) ∷ bounds_parts bounds
  type_parts (struct_type n at) = type_part (struct_type n at) ∷ []

  pub bounds_parts : NamedBoundsTree → List Part
  bounds_parts unrefined = []
  bounds_parts (refined low high) = end_parts low ++ expr_parts high

-- A call that stands by itself, as a statement or after `=` or `=?`.
abbrev pub whole_call_parts : NamedCallTree → List Part
whole_call_parts (call callee at mark args) = calling false (call callee at mark args) ∷ args_parts callee 0 args

abbrev pub value_parts : (op : Option Op) → NamedExprTree → List Part
value_parts None (answer c) = whole_call_parts c
value_parts op e = expr_parts e

abbrev pub target_parts : NamedTargetTree → List Part
target_parts (to_path p) = target (to_path p) ∷ []
target_parts (to_element p i at) = target (to_element p i at) ∷ expr_parts (index p i at)

abbrev pub condition_parts : NamedExprTree → List Part
condition_parts e = condition e ∷ expr_parts e

abbrev pub clauses_parts : NamedClauseTrees → List Part
clauses_parts no_clause = []
clauses_parts (more_clauses kind e at others) = condition_parts e ++ clauses_parts others

abbrev pub letters_parts : LetterTrees → List Part
letters_parts no_letter = []
letters_parts (more_letters letter e others) = letter_value e ∷ (expr_parts e ++ letters_parts others)

abbrev pub via_parts : NamedViaTree → List Part
via_parts by_itself = []
via_parts (via text given) = letters_parts given

abbrev mutual
  pub stmt_parts : NamedStmtTree → List Part
  stmt_parts (assign t op sign e at) = assigned t op e ∷ (target_parts t ++ value_parts op e)
  stmt_parts (keep t c at) = kept t c ∷ (target_parts t ++ whole_call_parts c)
  stmt_parts (do_call c at) = whole_call_parts c
  stmt_parts (branch arms at) = arms_parts arms
  stmt_parts (loop e clauses body at) = condition_parts e ++ (clauses_parts clauses ++ block_parts body)
  stmt_parts (leave outwards at) = []
  stmt_parts (again outwards at) = []
  stmt_parts (back e at) = returned at e ∷ end_parts e
  stmt_parts (suspend e at) = yielded at e ∷ expr_parts e
  stmt_parts (claim e by at) = condition_parts e ++ via_parts by

  pub block_parts : NamedBlockTree → List Part
  block_parts (close at) = []
  block_parts (more_stmts first others) = stmt_parts first ++ block_parts others

  pub arms_parts : NamedArmTrees → List Part
  arms_parts no_else = []
  arms_parts (otherwise body) = block_parts body
  arms_parts (arm e body others) = condition_parts e ++ (block_parts body ++ arms_parts others)

abbrev pub at_sites : Setting → List Part → List Site
at_sites s parts = map (λ x. record { around = s; part = x }) parts

-- A declared type with its parts.
abbrev pub declared_parts : Role → NamedTypeTree → List Part
declared_parts role t = placed_type role t ∷ type_parts t

abbrev pub variables_parts : Role → List VarTree → List Part
variables_parts role xs = flat_map (λ x. declared_parts role x.of) xs

-- Each constant knows those before it.
abbrev pub const_sites : List (Option Constant) → List ConstTree → List Site
const_sites known [] = []
const_sites known (c ∷ cs) =
    at_sites (among_constants known) (constant_declared c ∷ (declared_parts roles.Const c.of ++ expr_parts c.value)) ++ const_sites (known ++ constant_made known c ∷ []) cs

abbrev pub result_parts : Mark → Option NamedTypeTree → List Part
result_parts mark None = []
result_parts mark (Some t) = declared_parts (roles.Result mark) t

abbrev pub method_sites : NamedPackageTree → NamedMethodTree → List Site
method_sites p m =
    at_sites (for_types p) (variables_parts roles.Arg m.args ++ (variables_parts roles.Local m.locals ++ result_parts m.mark m.gives))
    ++ at_sites (in_method p m) (whole_body m.body ∷ block_parts m.body)

-- All parts of a package.
unfoldable pub sites : NamedPackageTree → List Site
sites p =
    const_sites [] p.consts ++ (at_sites (for_types p) (map status_declared p.statuses)
    ++ (at_sites (for_types p) (flat_map (λ x. variables_parts roles.Field x.fields) p.structs) ++ flat_map (method_sites p) p.methods))

-- The package has this part, with this round it.
abbrev pub IsPart : NamedPackageTree → Setting → Part → Type 0
IsPart p s part = (i : ℕ) × (slice_get (sites p) i ≡ Some (record { around = s; part = part }))
