-- What the types of a public surface say in its plain data.
use Rattle.wf_base.specs.BaseTable.{bits_of}
use Rattle.wf_text.specs.Surface.{ArgKind as KindOfArg, number, flag, reader, writer, slice, AnswerKind as KindOfAnswer, status, numeric, truth, nothing}
use Rattle.wf_text.specs.HostActions.{Receiver}
use Rattle.wf_bufs.specs.declared.calls.ReceiverDecl.{ReceiverDecl}
use Rattle.wf_bufs.specs.declared.surfaces.ArgKind.{ArgKind}
use Rattle.wf_bufs.specs.declared.surfaces.ArgKind.TheVariants.{Number, Flag, Reader, Writer, Slice}
use Rattle.wf_bufs.specs.declared.surfaces.AnswerKind.{AnswerKind}
use Rattle.wf_bufs.specs.declared.surfaces.AnswerKind.TheVariants.{Status, Number as Num, Flag as Truth, Nothing}

abbrev pub arg_kind_of : ArgKind → KindOfArg
arg_kind_of (Number width) = number (bits_of width)
arg_kind_of Flag = flag
arg_kind_of Reader = reader
arg_kind_of Writer = writer
arg_kind_of (Slice width) = slice (bits_of width)

abbrev pub answer_kind_of : AnswerKind → KindOfAnswer
answer_kind_of Status = status
answer_kind_of (Num width) = numeric (bits_of width)
answer_kind_of Truth = truth
answer_kind_of Nothing = nothing

abbrev pub receiver_of : ReceiverDecl → Receiver
receiver_of declared = record { struct_number = declared.of.0; null = declared.null }
