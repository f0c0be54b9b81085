use Rattle.std.proofs.Common.{sym}
use Rattle.wf_exprs.specs.Exprs.{io_code}
use Rattle.wf_exprs.proofs.Growing.{retell}
use Rattle.wf_lower_stmts.proofs.PlaceLaws.{place_of_writer, place_of_other}
use Rattle.wf_lower_stmts.proofs.places.place_in.Goals as goal

pub returns-then-is_writer-clause-made : goal.returns-then-is_writer-clause-made
returns-then-is_writer-clause-made c = retell _ _ _ c.buffer_member.result (sym (place_of_writer (io_code c.args.scope.now.names c.args.n) c.args.ty (sym c.if-is_writer.ensures))) c.buffer_member.ensures.made

pub returns-else-is_writer-clause-made : goal.returns-else-is_writer-clause-made
returns-else-is_writer-clause-made c = retell _ _ _ c.buffer_member-else-is_writer.result (sym (place_of_other (io_code c.args.scope.now.names c.args.n) c.args.ty (sym c.if-is_writer.ensures))) c.buffer_member-else-is_writer.ensures.made
