-- The pointer of a slice is never a literal.
use Rattle.std.proofs.Common.{◌≡◌, Bool, true, false, Option, None, Some, refl}
use Rattle.wf_ast.specs.TypedTree.{SliceTree, slice, array, cut, local, field, arg}
use Rattle.c_text.specs.CTree.{ExprTree}
use Rattle.c_text.specs.CGrammar.{is_literal}
use Rattle.wf_exprs.specs.Names.{Names}
use Rattle.wf_exprs.specs.Exprs.{Rated, is_array, moved, part_pointer, lowered_slice, lowered_end}

moved_no_literal : (never : Bool) (p from : ExprTree) → is_literal (moved never p from) ≡ false
moved_no_literal true p from = refl
moved_no_literal false p from = refl

part_no_literal : (never : Bool) (p : ExprTree) (from : Option Rated) → is_literal p ≡ false → is_literal (part_pointer never p from) ≡ false
part_no_literal never p None h = h
part_no_literal never p (Some from) h = moved_no_literal never p from.code

pub no_literal : (names : Names) (t : SliceTree) → is_literal (lowered_slice names t).pointer ≡ false
no_literal names (slice at bits (local n)) = refl
no_literal names (slice at bits (field n)) = refl
no_literal names (slice at bits (arg n)) = refl
no_literal names (array at of count (local n)) = refl
no_literal names (array at of count (field n)) = refl
no_literal names (array at of count (arg n)) = refl
no_literal names (cut at cells from to) = part_no_literal (is_array cells) (lowered_slice names cells).pointer (lowered_end names from) (no_literal names cells)
