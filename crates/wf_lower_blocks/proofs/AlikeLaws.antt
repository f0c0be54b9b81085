-- Statements that write to targets that are alike are alike.
use Rattle.std.proofs.Common.{◌≡◌, ℕ, List, Option, Some, None, refl}
use Rattle.wf_base.specs.declared.base_methods.ReadForm.TheVariants as reads
use Rattle.wf_ast.specs.TypedPackage.{MethodTree}
use Rattle.wf_ast.specs.TypedTree.{ValueTree, Target, Awaited, take_number, skip, write, Called}
use Rattle.wf_lower_stmts.specs.BodyNodes.{AreAlike}
use Rattle.wf_lower_stmts.specs.Forms.{Form, held_local}
use Rattle.wf_lower_stmts.specs.Statements.{taken_byte, answer_local, awoken_call, lower_call, put_result}
use Rattle.c_text.specs.CTree.{ExprTree, Code}
use Rattle.wf_exprs.specs.Names.{Names}
use Rattle.wf_lower_stmts.proofs.AlikeLaws.{put_alike}

pub awoken_alike : (f : Form) (k : ℕ) (t u : Target) → AreAlike t u → (a : ℕ) (call : Awaited) (r : Code) → awoken_call f k t a call r ≡ awoken_call f k u a call r
awoken_alike f k t u h a (take_number reads.ReadU8) r = let e = put_alike f.names t u h (taken_byte f.names a) r in rw e refl
awoken_alike f k t u h a (take_number reads.ReadU16Be) r = let e = put_alike f.names t u h held_local r in rw e refl
awoken_alike f k t u h a (take_number reads.ReadU16Le) r = let e = put_alike f.names t u h held_local r in rw e refl
awoken_alike f k t u h a (take_number reads.ReadU32Be) r = let e = put_alike f.names t u h held_local r in rw e refl
awoken_alike f k t u h a (take_number reads.ReadU32Le) r = let e = put_alike f.names t u h held_local r in rw e refl
awoken_alike f k t u h a (take_number reads.ReadU64Be) r = let e = put_alike f.names t u h held_local r in rw e refl
awoken_alike f k t u h a (take_number reads.ReadU64Le) r = let e = put_alike f.names t u h held_local r in rw e refl
awoken_alike f k t u h a (skip n) r = refl
awoken_alike f k t u h a (write b) r = refl

pub result_alike : (names : Names) (t u : Target) → AreAlike t u → (into : Option ExprTree) (r : Code) → put_result names t into r ≡ put_result names u into r
result_alike names t u h None r = refl
result_alike names t u h (Some e) r = put_alike names t u h e r

pub call_alike : (f : Form) (t u : Target) → AreAlike t u → (called : Called) (callee : MethodTree) (given : List ValueTree) (r : Code) → lower_call f t called callee given r ≡ lower_call f u called callee given r
call_alike f t u h called callee given r = let w = h.wanted in let e = result_alike f.names t u h (answer_local callee.mark callee.gives) r in rw (w, e) refl
