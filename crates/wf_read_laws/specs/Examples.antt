-- Small parsed trees of which the tests are shown, those that no file has among them.
use Rattle.std.specs.Prelude.{ℕ, true, Option}
use Rattle.wf_ast.specs.declared.operators.Op.{Op}
use Rattle.wf_ast.specs.declared.parsed.Name.{Name}
use Rattle.wf_ast.specs.declared.parsed.Path.{Path}
use Rattle.wf_ast.specs.declared.parsed.Receiver.TheVariants as receivers
use Rattle.wf_ast.specs.declared.parsed.Root.TheVariants as roots
use Rattle.wf_ast.specs.declared.parsed.WrittenMark.{WrittenMark}
use Rattle.wf_ast.specs.ParsedTree.{ExprTree, number, truth, chain, LinkTrees, no_link, link, call, no_given, to_path, StmtTree, assign, do_call, branch, close, ArmTrees, no_else, otherwise, arm}
use Rattle.wf_named.specs.Examples.{at}

abbrev name : Name
name = record { text = record { 0 = 0 }; at = at 1 1 }

abbrev bare : Path
bare = record { root = roots.Bare; name = name; at = at 1 1 }

abbrev pub literal : ℕ → ExprTree
literal value = number value (at 1 5)

-- An operator with one, two and three operands.
abbrev behind_one : Op → LinkTrees → ExprTree
behind_one op links = chain op (literal 1) links (at 1 7)

abbrev pub of_one : Op → ExprTree
of_one op = behind_one op no_link

abbrev pub of_two : Op → ExprTree
of_two op = behind_one op (link (at 1 7) (literal 2) no_link)

abbrev pub of_three : Op → ExprTree
of_three op = behind_one op (link (at 1 7) (literal 2) (link (at 1 11) (literal 3) no_link))

-- A call that is a whole statement, and an assignment with this operator before the `=`.
abbrev pub called : WrittenMark → StmtTree
called mark = do_call (call (receivers.This (at 1 1)) name mark no_given) (at 1 1)

abbrev pub assigned : Option Op → StmtTree
assigned op = assign (to_path bare) op (at 1 3) (literal 1) (at 1 1)

-- An `if` with these arms.
abbrev pub branched : ArmTrees → StmtTree
branched arms = branch arms (at 1 1)

abbrev pub one_arm : ArmTrees
one_arm = arm (truth true (at 1 4)) (close (at 2 1)) no_else

abbrev pub else_alone : ArmTrees
else_alone = otherwise (close (at 2 1))
