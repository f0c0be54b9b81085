-- The body of a method's function, round the method's own statements.
use Rattle.std.proofs.Common.{◌≡◌, ℕ, Bool, true, false, List, Option, Some, None, refl, ◌∙◌}
use Rattle.std.specs.Prelude.{if◌then◌else◌}
use Rattle.wf_ast.specs.WellTyped.{is_coroutine}
use Rattle.wf_meaning.specs.Remaining.{number_of}
use Rattle.c_text.specs.declared.kinds.CNumber.TheVariants.{Int}
use Rattle.c_text.specs.CTree.{ExprTree, Code, finish, empty, assign, select, case_label}
use Rattle.c_meaning.specs.CStep.{Continuation, stop, behind, Place, by_name, find, first_of}
use Rattle.wf_exprs.specs.Names.{point_field}
use Rattle.wf_exprs.specs.Words.{num, of_self}
use Rattle.wf_lower_stmts.specs.Forms.{Form, resume_local, when_some}
use Rattle.wf_lower_stmts.specs.Lower.{ending, top, lower_trail}
use Rattle.wf_lower.specs.Bodies.{body_code, touched, resumed, statements_of}
use Rattle.wf_lower_laws.proofs.Straight.{ending_straight}
use Rattle.wf_lower_laws.proofs.Everywhere.{Everywhere, IsEasy, straight_everywhere}
use Rattle.wf_lower_laws.proofs.Bodies.{straight_finds, touches, takes_number}

over_none : (p q : Option Place) → q ≡ None → first_of p q ≡ p
over_none None q e = e
over_none (Some p) q e = refl

-- A name is looked for in the method's own statements.
module _ (f : Form) (name : List ℕ) where
  ending_none : (k : Continuation) → find (by_name name) (ending f) k ≡ None
  ending_none k = straight_finds (by_name name) finish (ending f) (ending_straight f) k

  looks : (coroutine : Bool) (target value test on : ExprTree) (own : Code)
      → find (by_name name) (if coroutine then assign target value (when_some test (resumed f) (select on (case_label (Int 0) (empty own)) (ending f))) else own) stop
      ≡ find (by_name name) own (if coroutine then behind finish (ending f) stop else stop)
  looks true target value test on own =
      straight_finds (by_name name) (select on (case_label (Int 0) (empty own)) (ending f)) _ (takes_number f target value test (select on (case_label (Int 0) (empty own)) (ending f))) stop
      ∙ over_none (find (by_name name) own (behind finish (ending f) stop)) (find (by_name name) (ending f) stop) (ending_none stop)
  looks false target value test on own = refl

  pub body_finds : (names : List (List ℕ)) (code : Code)
      → find (by_name name) (touched names code (body_code f)) stop ≡ find (by_name name) (statements_of f) (lower_trail f (number_of f.method.body) top)
  body_finds names code = straight_finds (by_name name) (body_code f) _ (touches names code (body_code f)) stop ∙ looks (is_coroutine f.method.mark) _ _ _ _ (statements_of f)

-- What holds of the method's own statements holds everywhere.
module _ (P : Code → Continuation → Type 0) (easy : IsEasy P) (f : Form) (selects : (on : ExprTree) → P (select on (case_label (Int 0) (empty (statements_of f))) (ending f)) stop) where
  around : (coroutine : Bool) (target value test on : ExprTree) (own : Code) → P (select on (case_label (Int 0) (empty own)) (ending f)) stop → Everywhere P own (if coroutine then behind finish (ending f) stop else stop)
      → Everywhere P (if coroutine then assign target value (when_some test (resumed f) (select on (case_label (Int 0) (empty own)) (ending f))) else own) stop
  around true target value test on own q h =
      straight_everywhere P easy (select on (case_label (Int 0) (empty own)) (ending f)) _ (takes_number f target value test (select on (case_label (Int 0) (empty own)) (ending f))) stop (
        q,
        ((easy.cases (Int 0) (empty own) _, (easy.empties own _, h)), straight_everywhere P easy finish (ending f) (ending_straight f) stop tt),
      )
  around false target value test on own q h = h

  pub body_everywhere : (names : List (List ℕ)) (code : Code) → Everywhere P (statements_of f) (lower_trail f (number_of f.method.body) top) → Everywhere P (touched names code (body_code f)) stop
  body_everywhere names code h =
      straight_everywhere P easy (body_code f) _ (touches names code (body_code f)) stop (around (is_coroutine f.method.mark) (of_self (point_field f.method.name)) (num 0) resume_local resume_local (statements_of f) (selects resume_local) h)
