-- What holds of every statement but a `switch` holds of all that a block is lowered to.
use Rattle.std.proofs.Common.{ℕ, Bool, true, false, List, refl}
use Rattle.std.specs.Prelude.{if◌then◌else◌}
use Rattle.wf_ast.specs.TypedTree.{Simple, break_from, continue_in, assign, await, perform, invoke, give_back, yield, claim, Site, Block, end, plain, choose, loop}
use Rattle.wf_ast.specs.WellTyped.{breaks}
use Rattle.c_text.specs.CTree.{ExprTree, Code, finish, empty, jump, repeat, name_label}
use Rattle.c_meaning.specs.CStep.{Continuation, behind, again}
use Rattle.wf_exprs.specs.Names.{again_label, behind_label}
use Rattle.wf_exprs.specs.Exprs.{lowered_cond}
use Rattle.wf_lower_stmts.specs.Forms.{Form}
use Rattle.wf_lower_stmts.specs.Statements.{lower_simple}
use Rattle.wf_lower_stmts.specs.Lower.{lower, continues, again_here, other_kind}
use Rattle.wf_lower_laws.proofs.Everywhere.{Everywhere, IsEasy}
use Rattle.wf_lower_laws.proofs.Jumps.{simple_everywhere}

module _ (P : Code → Continuation → Type 0) (easy : IsEasy P)
    (jumps : (label : List ℕ) (rest : Code) (k : Continuation) → P (jump label rest) k)
    (repeats : (test : ExprTree) (body rest : Code) (k : Continuation) → P (repeat test body rest) k)
    (names : (name : List ℕ) (rest : Code) (k : Continuation) → P (name_label name rest) k) (f : Form) (n : Site → ℕ) where
  one : (site : Site) (s : Simple) (rest : Code) (k : Continuation) → Everywhere P rest k → Everywhere P (lower_simple f (n site) s rest) k
  one site (break_from w) rest k h = (jumps _ rest k, h)
  one site (continue_in w) rest k h = (jumps _ rest k, h)
  one site (assign to op v) rest k h = simple_everywhere P easy f (n site) (assign to op v) rest k refl h
  one site (await at to a call) rest k h = simple_everywhere P easy f (n site) (await at to a call) rest k refl h
  one site (perform at to call) rest k h = simple_everywhere P easy f (n site) (perform at to call) rest k refl h
  one site (invoke at to keep mark called given_args) rest k h = simple_everywhere P easy f (n site) (invoke at to keep mark called given_args) rest k refl h
  one site (give_back v) rest k h = simple_everywhere P easy f (n site) (give_back v) rest k refl h
  one site (yield j) rest k h = simple_everywhere P easy f (n site) (yield j) rest k refl h
  one site (claim goal ax) rest k h = simple_everywhere P easy f (n site) (claim goal ax) rest k refl h

  labelled : (b : Bool) (name : List ℕ) (rest : Code) (k : Continuation) → Everywhere P rest k → Everywhere P (if b then name_label name (empty rest) else rest) k
  labelled true name rest k h = (names name (empty rest) k, (easy.empties rest k, h))
  labelled false name rest k h = h

  pub block_free : (b : Block) (tail : Code) (k : Continuation) → Everywhere P tail k → Everywhere P (lower f n b tail) k
  block_free end tail k h = h
  block_free (plain site s rest) tail k h = one site s (lower f n rest tail) k (block_free rest tail k h)
  block_free (choose site chained test a b rest) tail k h =
      let r = lower f n rest tail in
      let y = lower f n b finish in (
        easy.branches (lowered_cond f.names test) (lower f n a finish) (other_kind b) y r k,
        (block_free a finish (behind y r k) tt, (block_free b finish (behind finish r k) tt, block_free rest tail k h)),
      )
  block_free (loop site head body rest) tail k h =
      let r = if breaks site.number body then name_label (behind_label site.number) (empty (lower f n rest tail)) else lower f n rest tail in
      let x = lower f n body (again_here site body) in
      let test = lowered_cond f.names head.cond in (
        repeats test x r k,
        (
          block_free body (again_here site body) (again test x (behind finish r k)) (labelled (continues site.number body) (again_label site.number) finish (again test x (behind finish r k)) tt),
          labelled (breaks site.number body) (behind_label site.number) (lower f n rest tail) k (block_free rest tail k h),
        ),
      )
