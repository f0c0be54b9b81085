-- The body of a method has as many `while` statements as the method has loops.
use Rattle.std.proofs.Common.{◌≡◌, ℕ, ◌+◌, Bool, true, false, List, refl, arith}
use Rattle.std.specs.Prelude.{if◌then◌else◌}
use Rattle.wf_ast.specs.TypedTree.{Simple, break_from, continue_in, assign, await, perform, invoke, give_back, yield, claim, Site, Block, end, plain, choose, loop}
use Rattle.wf_ast.specs.TypedPackage.{MethodTree, PackageTree}
use Rattle.wf_ast.specs.WellTyped.{is_coroutine, breaks}
use Rattle.wf_meaning.specs.Remaining.{is_point, number_of}
use Rattle.c_text.specs.declared.kinds.CNumber.TheVariants.{Int}
use Rattle.c_text.specs.CTree.{ExprTree, Code, finish, empty, select, case_label, name_label}
use Rattle.c_text.specs.CTree as c
use Rattle.wf_exprs.specs.Names.{again_label, behind_label, point_field}
use Rattle.wf_exprs.specs.Words.{num, of_self}
use Rattle.wf_lower_stmts.specs.Forms.{Form, form_of, resume_local, when_some, resume_here}
use Rattle.wf_lower_stmts.specs.Statements.{awoken, lower_point, lower_plain, lower_simple}
use Rattle.wf_lower_stmts.specs.Lower.{lower, continues, again_here, ending, tail_of, top}
use Rattle.wf_lower.specs.Bodies.{body_code, own_names, touched, resumed, statements_of, entry_code}
use Rattle.wf_lower.specs.Unit.{initialize_code}
use Rattle.wf_lower_laws.specs.TurnLaw.{whiles, loops, LoopAlike}
use Rattle.wf_lower_laws.proofs.Straight.{Straight, over, assigned, calling, leaving, guarded, is_jump, plain_straight, begun_straight, awoken_straight, ending_straight, top_straight}
use Rattle.wf_lower_laws.proofs.Bodies.{touches, takes_number, entry_straight, initialize_straight}

straight_whiles : (rest code : Code) → Straight rest code → whiles code ≡ whiles rest
straight_whiles rest _ over = refl
straight_whiles rest _ (assigned target value code s) = straight_whiles rest code s
straight_whiles rest _ (calling target function given code s) = straight_whiles rest code s
straight_whiles rest _ (leaving value code s) = straight_whiles rest code s
straight_whiles rest _ (guarded test body code t s) = omega (arith, straight_whiles finish body t, straight_whiles rest code s)

if_whiles : (n : ℕ) (b : Bool) (c d : Code) → whiles c ≡ n → whiles d ≡ n → whiles (if b then c else d) ≡ n
if_whiles n true c d h j = h
if_whiles n false c d h j = j

point_whiles : (f : Form) (j : ℕ) (s : Simple) (rest : Code) → whiles (lower_point f j s rest) ≡ whiles rest
point_whiles f j s rest =
    omega (arith, straight_whiles (resume_here j (awoken f j s rest)) (lower_point f j s rest) (begun_straight f j s (resume_here j (awoken f j s rest))), straight_whiles rest (awoken f j s rest) (awoken_straight f j s rest))

plain_whiles : (b : Bool) (f : Form) (s : Simple) (rest : Code) → is_jump s ≡ b → whiles (lower_plain f s rest) ≡ whiles rest
plain_whiles false f s rest e = straight_whiles rest (lower_plain f s rest) (plain_straight f s rest e)
plain_whiles true f (break_from w) rest e = refl
plain_whiles true f (continue_in w) rest e = refl
plain_whiles true f (assign t op v) rest e = absurd (cc e)
plain_whiles true f (await at t a call) rest e = absurd (cc e)
plain_whiles true f (perform at t call) rest e = absurd (cc e)
plain_whiles true f (invoke at t keep mark called given_args) rest e = absurd (cc e)
plain_whiles true f (give_back v) rest e = absurd (cc e)
plain_whiles true f (yield n) rest e = absurd (cc e)
plain_whiles true f (claim goal ax) rest e = absurd (cc e)

simple_whiles : (f : Form) (j : ℕ) (s : Simple) (rest : Code) → whiles (lower_simple f j s rest) ≡ whiles rest
simple_whiles f j s rest = if_whiles (whiles rest) (is_point s) (lower_point f j s rest) (lower_plain f s rest) (point_whiles f j s rest) (plain_whiles (is_jump s) f s rest refl)

label_whiles : (b : Bool) (name : List ℕ) (rest : Code) → whiles (if b then name_label name (empty rest) else rest) ≡ whiles rest
label_whiles true name rest = refl
label_whiles false name rest = refl

pub block_whiles : (f : Form) (n : Site → ℕ) (b : Block) (tail : Code) → whiles (lower f n b tail) ≡ loops b + whiles tail
block_whiles f n end tail = omega arith
block_whiles f n (plain site s rest) tail = omega (arith, simple_whiles f (n site) s (lower f n rest tail), block_whiles f n rest tail)
block_whiles f n (choose site chained c a b rest) tail = omega (arith, block_whiles f n a finish, block_whiles f n b finish, block_whiles f n rest tail)
block_whiles f n (loop site head body rest) tail =
    omega (
      arith,
      block_whiles f n body (again_here site body),
      label_whiles (continues site.number body) (again_label site.number) finish,
      label_whiles (breaks site.number body) (behind_label site.number) (lower f n rest tail),
      block_whiles f n rest tail,
    )

around_whiles : (f : Form) (coroutine : Bool) (target value test on : ExprTree) (own : Code)
    → whiles (if coroutine then c.assign target value (when_some test (resumed f) (select on (case_label (Int 0) (empty own)) (ending f))) else own) ≡ whiles own
around_whiles f true target value test on own =
    let whole = select on (case_label (Int 0) (empty own)) (ending f) in
    omega (arith, straight_whiles whole (c.assign target value (when_some test (resumed f) whole)) (takes_number f target value test whole), straight_whiles finish (ending f) (ending_straight f))
around_whiles f false target value test on own = refl

body_whiles : (p : PackageTree) (m : MethodTree) → whiles (touched (own_names (form_of p m)) (body_code (form_of p m)) (body_code (form_of p m))) ≡ loops m.body
body_whiles p m =
    let f = form_of p m in
    omega (
      arith,
      straight_whiles (body_code f) (touched (own_names f) (body_code f) (body_code f)) (touches (own_names f) (body_code f) (body_code f)),
      around_whiles f (is_coroutine m.mark) (of_self (point_field m.name)) (num 0) resume_local resume_local (statements_of f),
      block_whiles f (number_of m.body) m.body (tail_of f top),
      straight_whiles finish (tail_of f top) (top_straight f),
    )

pub loop_alike : (p : PackageTree) → LoopAlike p
loop_alike p = record {
  bodies = body_whiles p;
  entries = λ n m. straight_whiles finish (entry_code p n m) (entry_straight p n m);
  inits = λ s. straight_whiles finish (initialize_code p s) (initialize_straight p s);
  helpers = λ sum bits. refl;
}
