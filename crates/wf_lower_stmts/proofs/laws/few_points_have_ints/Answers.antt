use Rattle.std.proofs.Common.{arith}
use Rattle.std.proofs.lemmas.List.Sums.{count_by-le-length}
use Rattle.wf_ast.specs.StatementOrder.{stands_before}
use Rattle.wf_meaning.specs.Remaining.{points_in}
use Rattle.wf_lower_stmts.proofs.laws.few_points_have_ints.Goals as goal

pub returns : goal.returns
returns c = λ body h site. omega (arith, h, count_by-le-length (λ point. stands_before point.at site.at) (points_in body))
