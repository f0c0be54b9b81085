use Rattle.c_read_tokens.proofs.HeaderLaws.{line_there, line_lacks}
use Rattle.c_read_tokens.proofs.headers.behind_line.Goals as goal

pub returns-then-starts_with-clause-some : goal.returns-then-starts_with-clause-some
returns-then-starts_with-clause-some c = line_there c.args.line.now c.args.bytes.now c.split_at.result.1.now c.starts_with.result (rw c.as_bytes.ensures.value at c.starts_with.ensures.value) c.if-starts_with.true c.split_at.ensures.back

pub returns-else-starts_with-clause-none : goal.returns-else-starts_with-clause-none
returns-else-starts_with-clause-none c = line_lacks c.args.line.now c.args.bytes.now c.starts_with.result (rw c.as_bytes.ensures.value at c.starts_with.ensures.value) c.if-starts_with.false
