-- What the grammar gives every resolved package, and no rule of names or types asks for again.
use Rattle.std.specs.Prelude.{◌^◌, Bool, true, false, not, ◌&&◌, nat_lt}
use Rattle.std.specs.List.{list_all}
use Rattle.wf_ast.specs.declared.operators.Op.{Op}
use Rattle.wf_ast.specs.WellTyped.{is_pure}
use Rattle.wf_ast.specs.OperatorForms.{repeats, updates}
use Rattle.wf_named.specs.NamedTree.{NamedExprTree, number, index, slice, answer, chain, convert, negation, NamedPartTree, absent, present, NamedLinkTrees, no_link, link, NamedArgTrees, no_arg, more_args, NamedCallTree, call, NamedTargetTree, to_path, to_element, NamedClauseTrees, no_clause, more_clauses, LetterTrees, no_letter, more_letters, NamedViaTree, by_itself, via, NamedStmtTree, assign, keep, do_call, branch, loop, back, suspend, claim, NamedBlockTree, close, more_stmts, NamedArmTrees, no_else, otherwise, arm, NamedPackageTree}

-- An operator stands between two operands, or between more where it may stand in a row.
abbrev pub has_operands : Op → NamedLinkTrees → Bool
has_operands op no_link = false
has_operands op (link sign e no_link) = true
has_operands op (link sign e (link sign_behind f others)) = repeats op

-- A literal has 64 bits. An index, an end of a slice, an operand and an argument are expressions again.
abbrev mutual
  pub by_grammar : NamedExprTree → Bool
  by_grammar (number value at) = nat_lt value (2 ^ 64)
  by_grammar (index p i at) = by_grammar i
  by_grammar (slice p from to at) = end_by_grammar from && end_by_grammar to
  by_grammar (answer (call callee at mark args)) = args_by_grammar args
  by_grammar (chain op first links at) = has_operands op links && (by_grammar first && links_by_grammar links)
  by_grammar (convert e t at) = by_grammar e
  by_grammar (negation e at) = by_grammar e
  by_grammar e = true

  pub end_by_grammar : NamedPartTree → Bool
  end_by_grammar absent = true
  end_by_grammar (present e) = by_grammar e

  pub links_by_grammar : NamedLinkTrees → Bool
  links_by_grammar no_link = true
  links_by_grammar (link sign e others) = by_grammar e && links_by_grammar others

  pub args_by_grammar : NamedArgTrees → Bool
  args_by_grammar no_arg = true
  args_by_grammar (more_args e others) = by_grammar e && args_by_grammar others

-- Statements. A call that is a whole statement, or stands after `=?`, has a mark, the operator before an `=` gives a
-- number, and an `if` has a condition.
abbrev pub call_by_grammar : NamedCallTree → Bool
call_by_grammar (call callee at mark args) = not (is_pure mark) && args_by_grammar args

abbrev pub target_by_grammar : NamedTargetTree → Bool
target_by_grammar (to_path p) = true
target_by_grammar (to_element p i at) = by_grammar i

abbrev pub clauses_by_grammar : NamedClauseTrees → Bool
clauses_by_grammar no_clause = true
clauses_by_grammar (more_clauses kind e at others) = by_grammar e && clauses_by_grammar others

abbrev pub letters_by_grammar : LetterTrees → Bool
letters_by_grammar no_letter = true
letters_by_grammar (more_letters letter e others) = by_grammar e && letters_by_grammar others

abbrev pub via_by_grammar : NamedViaTree → Bool
via_by_grammar by_itself = true
via_by_grammar (via text given) = letters_by_grammar given

abbrev pub has_condition : NamedArmTrees → Bool
has_condition (arm e body others) = true
has_condition arms = false

abbrev mutual
  pub stmt_by_grammar : NamedStmtTree → Bool
  stmt_by_grammar (assign t op sign e at) = updates op && (target_by_grammar t && by_grammar e)
  stmt_by_grammar (keep t c at) = target_by_grammar t && call_by_grammar c
  stmt_by_grammar (do_call c at) = call_by_grammar c
  stmt_by_grammar (branch arms at) = has_condition arms && arms_by_grammar arms
  stmt_by_grammar (loop e clauses body at) = by_grammar e && (clauses_by_grammar clauses && block_by_grammar body)
  stmt_by_grammar (back e at) = end_by_grammar e
  stmt_by_grammar (suspend e at) = by_grammar e
  stmt_by_grammar (claim e by at) = by_grammar e && via_by_grammar by
  stmt_by_grammar st = true

  pub block_by_grammar : NamedBlockTree → Bool
  block_by_grammar (close at) = true
  block_by_grammar (more_stmts first others) = stmt_by_grammar first && block_by_grammar others

  pub arms_by_grammar : NamedArmTrees → Bool
  arms_by_grammar no_else = true
  arms_by_grammar (otherwise body) = block_by_grammar body
  arms_by_grammar (arm e body others) = by_grammar e && (block_by_grammar body && arms_by_grammar others)

-- The bodies of all methods.
abbrev pub package_by_grammar : NamedPackageTree → Bool
package_by_grammar p = list_all (λ m. block_by_grammar m.body) p.methods
