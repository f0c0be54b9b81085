-- What the grammar gives every declaration beyond the shape of its tree, and no rule of names or types asks for again.
use Rattle.std.specs.Prelude.{◌^◌, Bool, true, false, ◌&&◌, nat_lt}
use Rattle.wf_ast.specs.declared.operators.Op.{Op}
use Rattle.wf_ast.specs.declared.parsed.WrittenMark.{WrittenMark}
use Rattle.wf_ast.specs.declared.parsed.WrittenMark.TheVariants as marks
use Rattle.wf_ast.specs.OperatorForms.{repeats, updates}
use Rattle.wf_ast.specs.ParsedTree.{ExprTree, number, index, slice, answer, chain, convert, negation, PartTree, absent, present, LinkTrees, no_link, link, GivenTrees, no_given, more_given, CallTree, call, TypeTree, slice_of, array_of, base_type, status_type, struct_type, BoundsTree, unrefined, refined}
use Rattle.wf_ast.specs.ParsedTree.{TargetTree, to_path, to_element, ClauseTrees, no_clause, more_clauses, ViaTree, by_itself, via, StmtTree, var, assign, keep, do_call, branch, loop, back, suspend, claim, BlockTree, close, more_stmts, ArmTrees, no_else, otherwise, arm}
use Rattle.wf_ast.specs.ParsedTree.{FieldTrees, no_field, more_fields, ResultTree, gives_nothing, gives, DeclTree, status, constant, structure, method}

-- An operator stands between two operands, or between more where it may stand in a row.
abbrev pub has_its_operands : Op → LinkTrees → Bool
has_its_operands op no_link = false
has_its_operands op (link sign e no_link) = true
has_its_operands op (link sign e (link sign_behind f others)) = repeats op

-- A literal has 64 bits. Indices, ends of slices, operands, arguments, lengths and bounds are expressions again.
abbrev mutual
  pub formed_expr : ExprTree → Bool
  formed_expr (number value at) = nat_lt value (2 ^ 64)
  formed_expr (index base place at) = formed_expr place
  formed_expr (slice base from to at) = formed_part from && formed_part to
  formed_expr (answer (call on name mark given)) = formed_given given
  formed_expr (chain op first links at) = has_its_operands op links && (formed_expr first && formed_links links)
  formed_expr (convert of to at) = formed_expr of && formed_type to
  formed_expr (negation of at) = formed_expr of
  formed_expr e = true

  pub formed_part : PartTree → Bool
  formed_part absent = true
  formed_part (present part) = formed_expr part

  pub formed_links : LinkTrees → Bool
  formed_links no_link = true
  formed_links (link sign operand others) = formed_expr operand && formed_links others

  pub formed_given : GivenTrees → Bool
  formed_given no_given = true
  formed_given (more_given name value others) = formed_expr value && formed_given others

  pub formed_type : TypeTree → Bool
  formed_type (slice_of at element) = formed_type element
  formed_type (array_of length at element) = formed_expr length && formed_type element
  formed_type (base_type name at bounds) = formed_bounds bounds
  formed_type (status_type at bounds) = formed_bounds bounds
  formed_type (struct_type name) = true

  pub formed_bounds : BoundsTree → Bool
  formed_bounds unrefined = true
  formed_bounds (refined low high) = formed_part low && formed_expr high

-- A call that is a whole statement, or stands after `=?`, has a mark.
abbrev pub is_marked : WrittenMark → Bool
is_marked marks.Unmarked = false
is_marked mark = true

abbrev pub formed_call : CallTree → Bool
formed_call (call on name mark given) = is_marked mark && formed_given given

abbrev pub formed_target : TargetTree → Bool
formed_target (to_path path) = true
formed_target (to_element base place at) = formed_expr place

abbrev pub formed_clauses : ClauseTrees → Bool
formed_clauses no_clause = true
formed_clauses (more_clauses kind condition at others) = formed_expr condition && formed_clauses others

abbrev pub formed_via : ViaTree → Bool
formed_via by_itself = true
formed_via (via axiom_name given) = formed_given given

abbrev pub has_arm : ArmTrees → Bool
has_arm (arm condition body others) = true
has_arm arms = false

-- Statements. The operator before an `=` gives a number, and an `if` has a condition.
abbrev mutual
  pub formed_stmt : StmtTree → Bool
  formed_stmt (var name of at) = formed_type of
  formed_stmt (assign target op sign value at) = updates op && (formed_target target && formed_expr value)
  formed_stmt (keep target c at) = formed_target target && formed_call c
  formed_stmt (do_call c at) = formed_call c
  formed_stmt (branch arms at) = has_arm arms && formed_arms arms
  formed_stmt (loop label condition clauses body at) = formed_expr condition && (formed_clauses clauses && formed_block body)
  formed_stmt (back value at) = formed_part value
  formed_stmt (suspend value at) = formed_expr value
  formed_stmt (claim goal by at) = formed_expr goal && formed_via by
  formed_stmt s = true

  pub formed_block : BlockTree → Bool
  formed_block (close at) = true
  formed_block (more_stmts first others) = formed_stmt first && formed_block others

  pub formed_arms : ArmTrees → Bool
  formed_arms no_else = true
  formed_arms (otherwise body) = formed_block body
  formed_arms (arm condition body others) = formed_expr condition && (formed_block body && formed_arms others)

-- The types of a declaration, its value, its body.
abbrev pub formed_fields : FieldTrees → Bool
formed_fields no_field = true
formed_fields (more_fields name of others) = formed_type of && formed_fields others

abbrev pub formed_result : ResultTree → Bool
formed_result gives_nothing = true
formed_result (gives of) = formed_type of

abbrev pub well_formed : DeclTree → Bool
well_formed (status public text at) = true
well_formed (constant public name of value at) = formed_type of && formed_expr value
well_formed (structure public name mark fields at) = formed_fields fields
well_formed (method public owner name mark args result body at) = formed_fields args && (formed_result result && formed_block body)
