use Rattle.std.proofs.Common.{◌++◌, ap, codes, sym}
use Rattle.wf_ast.specs.declared.types.Ty.TheVariants.{Num, Reader, Writer}
use Rattle.wf_lower.specs.Bodies.{wrong_arg}
use Rattle.wf_lower.proofs.EntryLaws.{more_done, tests_as}
use Rattle.wf_lower.proofs.entries.add_wrong.Goals as goal

pub returns-in_ok-add_least-in-Num-clause-made : goal.returns-in_ok-add_least-in-Num-clause-made
returns-in_ok-add_least-in-Num-clause-made c =
    tests_as _ _ _ _ (wrong_arg (codes "a_" ++ c.args.name.now) (Num c.in-Num.width c.in-Num.lo c.in-Num.hi)) (wrong_arg (codes "a_" ++ c.args.name.now) c.args.ty) c.add_greatest.result (ap (wrong_arg (codes "a_" ++ c.args.name.now)) (sym c.in-Num.is))
    (more_done _ _ _ _ _ _ _ _ c.add_greatest.result c.in_ok-add_least-in-Num.ensures.made c.add_greatest.ensures.made)

pub returns-in-Reader-clause-made : goal.returns-in-Reader-clause-made
returns-in-Reader-clause-made c =
    tests_as _ _ _ _ (wrong_arg (codes "a_" ++ c.args.name.now) Reader) (wrong_arg (codes "a_" ++ c.args.name.now) c.args.ty) c.add_missing.result (ap (wrong_arg (codes "a_" ++ c.args.name.now)) (sym c.in-Reader.is)) c.add_missing.ensures.made

pub returns-in-Writer-clause-made : goal.returns-in-Writer-clause-made
returns-in-Writer-clause-made c =
    tests_as _ _ _ _ (wrong_arg (codes "a_" ++ c.args.name.now) Writer) (wrong_arg (codes "a_" ++ c.args.name.now) c.args.ty) c.add_missing-in-Writer.result (ap (wrong_arg (codes "a_" ++ c.args.name.now)) (sym c.in-Writer.is)) c.add_missing-in-Writer.ensures.made
