use Rattle.std.proofs.Common.{sym}
use Rattle.wf_exprs.specs.Exprs.{io_code}
use Rattle.wf_exprs.proofs.Growing.{retell}
use Rattle.wf_lower_stmts.proofs.PlaceLaws.{end_of_writer, end_of_other}
use Rattle.wf_lower_stmts.proofs.places.end_of.Goals as goal

pub returns-then-is_writer-clause-made : goal.returns-then-is_writer-clause-made
returns-then-is_writer-clause-made c = retell _ _ _ c.end_of_room.result (sym (end_of_writer (io_code c.args.scope.now.names c.args.n) c.args.ty (sym c.if-is_writer.ensures))) c.end_of_room.ensures.made

pub returns-else-is_writer-clause-made : goal.returns-else-is_writer-clause-made
returns-else-is_writer-clause-made c = retell _ _ _ c.buffer_member.result (sym (end_of_other (io_code c.args.scope.now.names c.args.n) c.args.ty (sym c.if-is_writer.ensures))) c.buffer_member.ensures.made
