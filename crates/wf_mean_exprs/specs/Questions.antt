-- What buffers are asked.
use Rattle.wf_ast.specs.TypedTree.{Question, reader_length, reader_position, peek, writer_length, writer_position}
use Rattle.wf_mean_exprs.specs.declared.asking.Asked.{Asked}
use Rattle.wf_mean_exprs.specs.declared.asking.Asked.TheVariants as asked

abbrev pub question_of : Asked → Question
question_of asked.ReaderLength = reader_length
question_of asked.ReaderPosition = reader_position
question_of (asked.Peek form) = peek form
question_of asked.WriterLength = writer_length
question_of asked.WriterPosition = writer_position
