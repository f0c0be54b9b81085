use Rattle.std.proofs.Common.{sym, subst}
use Rattle.wf_base.specs.declared.base_methods.BaseSig.{BaseSig}
use Rattle.wf_base.specs.declared.base_methods.BaseSig.TheVariants as sigs
use Rattle.wf_ast.specs.TypedTrees.{optional_target, tree_of}
use Rattle.wf_facts_exprs.specs.Claims.{claims_in}
use Rattle.wf_bounds_stmts.proofs.BaseLemmas.{counted, numeric_tree, skip_number, write_number, write_fast_number, copy_out_slice, copy_in_slices, skip_fast_numbers, Left, skip_left, write_left, copy_out_left}
use Rattle.wf_bounds_stmts.proofs.base_calls.call_base.Goals as goal

pub only-requires : goal.only-requires
only-requires c = counted c.args.t.now c.requires.typed c.args.call.at (optional_target (tree_of c.args.t.now) c.args.call.target) c.args.on c.args.sig c.args.call.args.now c.requires.well sigs.Skip c.in-Skip.is

pub only-requires-in-Write : goal.only-requires-in-Write
only-requires-in-Write c = counted c.args.t.now c.requires.typed c.args.call.at (optional_target (tree_of c.args.t.now) c.args.call.target) c.args.on c.args.sig c.args.call.args.now c.requires.well sigs.Write c.in-Write.is

pub both-requires : goal.both-requires
both-requires c = counted c.args.t.now c.requires.typed c.args.call.at (optional_target (tree_of c.args.t.now) c.args.call.target) c.args.on c.args.sig c.args.call.args.now c.requires.well sigs.SkipFast c.in-SkipFast.is

pub only-requires-in-WriteFast : goal.only-requires-in-WriteFast
only-requires-in-WriteFast c = counted c.args.t.now c.requires.typed c.args.call.at (optional_target (tree_of c.args.t.now) c.args.call.target) c.args.on c.args.sig c.args.call.args.now c.requires.well sigs.WriteFast c.in-WriteFast.is

pub only-requires-in-WriterCopy : goal.only-requires-in-WriterCopy
only-requires-in-WriterCopy c = counted c.args.t.now c.requires.typed c.args.call.at (optional_target (tree_of c.args.t.now) c.args.call.target) c.args.on c.args.sig c.args.call.args.now c.requires.well sigs.WriterCopy c.in-WriterCopy.is

pub only-requires-in-SliceCopy : goal.only-requires-in-SliceCopy
only-requires-in-SliceCopy c = counted c.args.t.now c.requires.typed c.args.call.at (optional_target (tree_of c.args.t.now) c.args.call.target) c.args.on c.args.sig c.args.call.args.now c.requires.well (sigs.SliceCopy c.in-SliceCopy.field-0) c.in-SliceCopy.is

pub skip_fast-requires-clause-actual : goal.skip_fast-requires-clause-actual
skip_fast-requires-clause-actual c = (skip_fast_numbers c.args.t.now c.requires.typed c.args.call.at (optional_target (tree_of c.args.t.now) c.args.call.target) c.args.on c.args.sig c.args.call.args.now c.requires.well c.both.result.0 c.both.result.1 c.both.ensures c.requires.there c.in-SkipFast.is).0

pub skip_fast-requires-clause-worst_case : goal.skip_fast-requires-clause-worst_case
skip_fast-requires-clause-worst_case c = (skip_fast_numbers c.args.t.now c.requires.typed c.args.call.at (optional_target (tree_of c.args.t.now) c.args.call.target) c.args.on c.args.sig c.args.call.args.now c.requires.well c.both.result.0 c.both.result.1 c.both.ensures c.requires.there c.in-SkipFast.is).1

pub write_fast-requires-clause-byte : goal.write_fast-requires-clause-byte
write_fast-requires-clause-byte c = write_fast_number c.args.t.now c.requires.typed c.args.call.at (optional_target (tree_of c.args.t.now) c.args.call.target) c.args.on c.args.sig c.args.call.args.now c.requires.well c.only-in-WriteFast.result c.only-in-WriteFast.ensures c.requires.there c.in-WriteFast.is

pub copy_out-requires-clause-source : goal.copy_out-requires-clause-source
copy_out-requires-clause-source c = copy_out_slice c.args.t.now c.requires.typed c.args.call.at (optional_target (tree_of c.args.t.now) c.args.call.target) c.args.on c.args.sig c.args.call.args.now c.requires.well c.only-in-WriterCopy.result c.only-in-WriterCopy.ensures c.requires.there c.in-WriterCopy.is

pub copy_in-requires-clause-on : goal.copy_in-requires-clause-on
copy_in-requires-clause-on c = (copy_in_slices c.args.t.now c.requires.typed c.args.call.at (optional_target (tree_of c.args.t.now) c.args.call.target) c.args.on c.args.sig c.args.call.args.now c.requires.well c.only-in-SliceCopy.result c.only-in-SliceCopy.ensures c.requires.there c.in-SliceCopy.field-0 c.in-SliceCopy.is).0

pub copy_in-requires-clause-source : goal.copy_in-requires-clause-source
copy_in-requires-clause-source c = (copy_in_slices c.args.t.now c.requires.typed c.args.call.at (optional_target (tree_of c.args.t.now) c.args.call.target) c.args.on c.args.sig c.args.call.args.now c.requires.well c.only-in-SliceCopy.result c.only-in-SliceCopy.ensures c.requires.there c.in-SliceCopy.field-0 c.in-SliceCopy.is).1

pub returns-in-Skip-clause-leaves : goal.returns-in-Skip-clause-leaves
returns-in-Skip-clause-leaves c =
    let P : BaseSig → Type 0 = λ sig. Left c.args.t.now (claims_in c.args.t.now c.args.facts.now.list) c.args.call.at (optional_target (tree_of c.args.t.now) c.args.call.target) (tree_of c.args.t.now c.args.on) c.await_handed.result c.await_handed.new.facts sig c.args.call.args.now in
    let number = skip_number c.args.t.now c.requires.typed c.args.call.at (optional_target (tree_of c.args.t.now) c.args.call.target) c.args.on c.args.sig c.args.call.args.now c.requires.well c.only.result c.only.ensures c.requires.there c.in-Skip.is in
    subst P (sym c.in-Skip.is) (skip_left c.args.t.now (claims_in c.args.t.now c.args.facts.now.list) c.args.call.at (optional_target (tree_of c.args.t.now) c.args.call.target) (tree_of c.args.t.now c.args.on) c.await_handed.result c.await_handed.new.facts c.args.call.args.now c.only.result c.only.ensures (numeric_tree c.args.t.now c.requires.typed c.only.result number) c.await_handed.ensures.settles)

pub returns-in-Write-clause-leaves : goal.returns-in-Write-clause-leaves
returns-in-Write-clause-leaves c =
    let P : BaseSig → Type 0 = λ sig. Left c.args.t.now (claims_in c.args.t.now c.args.facts.now.list) c.args.call.at (optional_target (tree_of c.args.t.now) c.args.call.target) (tree_of c.args.t.now c.args.on) c.await_handed-in-Write.result c.await_handed-in-Write.new.facts sig c.args.call.args.now in
    let number = write_number c.args.t.now c.requires.typed c.args.call.at (optional_target (tree_of c.args.t.now) c.args.call.target) c.args.on c.args.sig c.args.call.args.now c.requires.well c.only-in-Write.result c.only-in-Write.ensures c.requires.there c.in-Write.is in
    subst P (sym c.in-Write.is) (write_left c.args.t.now (claims_in c.args.t.now c.args.facts.now.list) c.args.call.at (optional_target (tree_of c.args.t.now) c.args.call.target) (tree_of c.args.t.now c.args.on) c.await_handed-in-Write.result c.await_handed-in-Write.new.facts c.args.call.args.now c.only-in-Write.result c.only-in-Write.ensures (numeric_tree c.args.t.now c.requires.typed c.only-in-Write.result number) c.await_handed-in-Write.ensures.settles)

pub returns-in-WriterCopy-clause-leaves : goal.returns-in-WriterCopy-clause-leaves
returns-in-WriterCopy-clause-leaves c =
    let P : BaseSig → Type 0 = λ sig. Left c.args.t.now (claims_in c.args.t.now c.args.facts.now.list) c.args.call.at (optional_target (tree_of c.args.t.now) c.args.call.target) (tree_of c.args.t.now c.args.on) c.copy_out.result c.copy_out.new.facts sig c.args.call.args.now in
    subst P (sym c.in-WriterCopy.is) (copy_out_left c.args.t.now (claims_in c.args.t.now c.args.facts.now.list) c.args.call.at (optional_target (tree_of c.args.t.now) c.args.call.target) (tree_of c.args.t.now c.args.on) c.copy_out.result c.copy_out.new.facts c.args.call.args.now c.only-in-WriterCopy.result c.io_of.result.0 c.only-in-WriterCopy.ensures c.io_of.ensures c.copy_out.ensures.settles)
