-- What begins a read of one byte, and of more.
use Rattle.std.proofs.Common.{◌≡◌, ◌<◌, ◌/◌, ℕ, true, false, refl, arith}
use Rattle.wf_base.specs.declared.base_methods.ReadForm.{ReadForm}
use Rattle.wf_base.specs.declared.base_methods.ReadForm.TheVariants as reads
use Rattle.wf_base.specs.BaseTable.{bits_of, read_width}
use Rattle.wf_ast.specs.TypedTree.{take_number}
use Rattle.c_text.specs.CTree.{Code, assign}
use Rattle.wf_exprs.specs.Names.{Names}
use Rattle.wf_exprs.specs.Words.{num}
use Rattle.wf_lower_stmts.specs.Forms.{held_local, count_local, when}
use Rattle.wf_lower_stmts.specs.Statements.{are_all_there, begun_call, take_all}
use Rattle.wf_lower_blocks.specs.Calls.{is_one_byte}

pub begun_one : (names : Names) (a : ℕ) (form : ReadForm) (rest : Code) → is_one_byte form ≡ true → rest ≡ begun_call names a (take_number form) rest
begun_one names a reads.ReadU8 rest h = refl
begun_one names a reads.ReadU16Be rest h = absurd (cc h)
begun_one names a reads.ReadU16Le rest h = absurd (cc h)
begun_one names a reads.ReadU32Be rest h = absurd (cc h)
begun_one names a reads.ReadU32Le rest h = absurd (cc h)
begun_one names a reads.ReadU64Be rest h = absurd (cc h)
begun_one names a reads.ReadU64Le rest h = absurd (cc h)

pub begun_more : (names : Names) (a : ℕ) (form : ReadForm) (rest : Code) → is_one_byte form ≡ false
    → assign held_local (num 0) (assign count_local (num 0) (when (are_all_there names a form) (take_all names a form) rest)) ≡ begun_call names a (take_number form) rest
begun_more names a reads.ReadU8 rest h = absurd (cc h)
begun_more names a reads.ReadU16Be rest h = refl
begun_more names a reads.ReadU16Le rest h = refl
begun_more names a reads.ReadU32Be rest h = refl
begun_more names a reads.ReadU32Le rest h = refl
begun_more names a reads.ReadU64Be rest h = refl
begun_more names a reads.ReadU64Le rest h = refl

-- A number that isn't one byte has two at least.
pub two_at_least : (form : ReadForm) → is_one_byte form ≡ false → 1 < bits_of (read_width form) / 8
two_at_least reads.ReadU8 h = absurd (cc h)
two_at_least reads.ReadU16Be h = omega arith
two_at_least reads.ReadU16Le h = omega arith
two_at_least reads.ReadU32Be h = omega arith
two_at_least reads.ReadU32Le h = omega arith
two_at_least reads.ReadU64Be h = omega arith
two_at_least reads.ReadU64Le h = omega arith
