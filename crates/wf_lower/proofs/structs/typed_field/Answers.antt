use Rattle.wf_lower.proofs.FieldLaws.{array_made, part_there, plain_made, uint_made}
use Rattle.wf_lower.proofs.structs.typed_field.Goals as goal

pub returns-in-Num-clause-made : goal.returns-in-Num-clause-made
returns-in-Num-clause-made c = rw c.in-Num.is (uint_made _ _ c.in-Num.width _ _ c.uint_of.ensures c.plain.ensures c.requires.name)

pub returns-in-Status-clause-made : goal.returns-in-Status-clause-made
returns-in-Status-clause-made c = rw c.in-Status.is (plain_made _ _ _ _ c.plain-in-Status.ensures tt c.requires.name)

pub returns-in-Array-clause-made : goal.returns-in-Array-clause-made
returns-in-Array-clause-made c = rw c.in-Array.is (array_made _ _ c.in-Array.width _ _ c.in-Array.len c.uint_of-in-Array.ensures c.literal.ensures.is c.literal.ensures.lawful c.requires.name)

pub returns-in-Flag-clause-made : goal.returns-in-Flag-clause-made
returns-in-Flag-clause-made c = rw c.in-Flag.is (plain_made _ _ _ _ c.plain-in-Flag.ensures tt c.requires.name)

pub returns-in-Reader-clause-made : goal.returns-in-Reader-clause-made
returns-in-Reader-clause-made c = rw c.in-Reader.is (plain_made _ _ _ _ c.plain-in-Reader.ensures tt c.requires.name)

pub returns-in-Writer-clause-made : goal.returns-in-Writer-clause-made
returns-in-Writer-clause-made c = rw c.in-Writer.is (plain_made _ _ _ _ c.plain-in-Writer.ensures tt c.requires.name)

pub returns-in-Slice-clause-made : goal.returns-in-Slice-clause-made
returns-in-Slice-clause-made c = rw c.in-Slice.is (plain_made _ _ _ _ c.plain-in-Slice.ensures tt c.requires.name)

pub part_field-requires-clause-known : goal.part_field-requires-clause-known
part_field-requires-clause-known c = part_there c.args.t.now c.args.ty c.in-Part.s c.in-Part.is c.requires.held
