-- How much text is left where a block is lowered.
use Rattle.std.proofs.Common.{◌≡◌, inl, inr, ℕ, ◌+◌, ◌≤◌, ◌<◌, Bool, true, false, List, refl, sym, subst, arith}
use Rattle.std.specs.Prelude.{if◌then◌else◌}
use Rattle.wf_ast.specs.TypedTree.{Simple, break_from, continue_in, assign, await, perform, invoke, give_back, yield, claim, Site, Block, end, plain, choose, loop}
use Rattle.wf_ast.specs.WellTyped.{breaks}
use Rattle.wf_meaning.specs.Remaining.{is_point}
use Rattle.c_text.specs.CTree.{Code, finish, empty, jump, name_label}
use Rattle.c_meaning.specs.CStep.{at, place_weight, code_weight, continuation_weight}
use Rattle.wf_exprs.specs.Names.{again_label, behind_label}
use Rattle.wf_lower_stmts.specs.Forms.{Form, resume_here}
use Rattle.wf_lower_stmts.specs.Statements.{awoken, lower_point, lower_plain, lower_simple}
use Rattle.wf_lower_stmts.specs.Lower.{lower, continues, behind_here, Trail, top, within_if, in_loop, tail_of, lower_trail, Loop, again_place, behind_place}
use Rattle.wf_lower_laws.proofs.Straight.{Straight, over, assigned, calling, leaving, guarded, is_jump, plain_straight, begun_straight, awoken_straight}
use Rattle.wf_lower_laws.proofs.Loops.{Around}

pub straight_weight : (rest code : Code) → Straight rest code → code_weight rest ≤ code_weight code
straight_weight rest _ over = omega arith
straight_weight rest _ (assigned target value code s) = omega (arith, straight_weight rest code s)
straight_weight rest _ (calling target function given code s) = omega (arith, straight_weight rest code s)
straight_weight rest _ (leaving value code s) = omega (arith, straight_weight rest code s)
straight_weight rest _ (guarded test body code t s) = omega (arith, straight_weight rest code s)

weight_if : (n : ℕ) (b : Bool) (c d : Code) → n ≤ code_weight c → n ≤ code_weight d → n ≤ code_weight (if b then c else d)
weight_if n true c d h j = h
weight_if n false c d h j = j

point_weight : (f : Form) (j : ℕ) (s : Simple) (rest : Code) → code_weight rest ≤ code_weight (lower_point f j s rest)
point_weight f j s rest =
    omega (arith, straight_weight (resume_here j (awoken f j s rest)) (lower_point f j s rest) (begun_straight f j s (resume_here j (awoken f j s rest))), straight_weight rest (awoken f j s rest) (awoken_straight f j s rest))

jump_weight : (b : Bool) (f : Form) (s : Simple) (rest : Code) → is_jump s ≡ b → code_weight rest ≤ code_weight (lower_plain f s rest)
jump_weight false f s rest e = straight_weight rest (lower_plain f s rest) (plain_straight f s rest e)
jump_weight true f (break_from w) rest e = omega arith
jump_weight true f (continue_in w) rest e = omega arith
jump_weight true f (assign t op v) rest e = absurd (cc e)
jump_weight true f (await at t a call) rest e = absurd (cc e)
jump_weight true f (perform at t call) rest e = absurd (cc e)
jump_weight true f (invoke at t keep mark called given_args) rest e = absurd (cc e)
jump_weight true f (give_back v) rest e = absurd (cc e)
jump_weight true f (yield n) rest e = absurd (cc e)
jump_weight true f (claim goal ax) rest e = absurd (cc e)

simple_weight : (f : Form) (j : ℕ) (s : Simple) (rest : Code) → code_weight rest ≤ code_weight (lower_simple f j s rest)
simple_weight f j s rest = weight_if (code_weight rest) (is_point s) (lower_point f j s rest) (lower_plain f s rest) (point_weight f j s rest) (jump_weight (is_jump s) f s rest refl)

module _ (f : Form) (n : Site → ℕ) where
  behind_weight : (site : Site) (body : Block) (rest : Code) → code_weight rest ≤ code_weight (behind_here site body rest)
  behind_weight site body rest = weight_if (code_weight rest) (breaks site.number body) (name_label (behind_label site.number) (empty rest)) rest (omega arith) (omega arith)

  pub block_weight : (b : Block) (tail : Code) → code_weight tail ≤ code_weight (lower f n b tail)
  block_weight end tail = omega arith
  block_weight (plain site s rest) tail = omega (arith, block_weight rest tail, simple_weight f (n site) s (lower f n rest tail))
  block_weight (choose site chained c a b rest) tail = omega (arith, block_weight rest tail)
  block_weight (loop site head body rest) tail = omega (arith, block_weight rest tail, behind_weight site body (lower f n rest tail))

  -- The end of the body of a loop round a place, with what follows it.
  abbrev pub end_weight : Trail → ℕ
  end_weight t = code_weight (tail_of f t) + continuation_weight (lower_trail f n t)

  abbrev pub end_of_body : Loop → Trail
  end_of_body it = in_loop it.site it.head it.body it.rest it.trail

  pub around_weight : (it : Loop) (t : Trail) → Around it t → end_weight (end_of_body it) ≤ end_weight t
  around_weight it top h = absurd h
  around_weight it (within_if passed rest t) h = omega (arith, around_weight it t h, block_weight rest (tail_of f t))
  around_weight it (in_loop site head body rest t) (inl e) =
      let P : Loop → Type 0 = λ l. end_weight (end_of_body l) ≤ end_weight (in_loop site head body rest t) in
      subst P (sym e) (omega arith)
  around_weight it (in_loop site head body rest t) (inr h) =
      omega (arith, around_weight it t h, block_weight rest (tail_of f t), behind_weight site body (lower f n rest (tail_of f t)))

  label_weight : (b : Bool) (name : List ℕ) (rest : Code) → b ≡ true → code_weight (if b then name_label name (empty rest) else rest) ≡ code_weight rest + 2
  label_weight true name rest h = omega arith
  label_weight false name rest h = absurd (cc h)

  -- A jump stands before the labels of each loop round it.
  pub before_behind : (it : Loop) (t : Trail) (name : List ℕ) (b : Block) → Around it t → breaks it.site.number it.body ≡ true
      → place_weight (behind_place f n it) < place_weight (at (jump name (lower f n b (tail_of f t))) (lower_trail f n t))
  before_behind it t name b h j =
      omega (arith, around_weight it t h, block_weight b (tail_of f t), label_weight (breaks it.site.number it.body) (behind_label it.site.number) (lower f n it.rest (tail_of f it.trail)) j)

  pub before_again : (it : Loop) (t : Trail) (name : List ℕ) (b : Block) → Around it t → continues it.site.number it.body ≡ true
      → place_weight (again_place f n it) < place_weight (at (jump name (lower f n b (tail_of f t))) (lower_trail f n t))
  before_again it t name b h j =
      omega (arith, around_weight it t h, block_weight b (tail_of f t), label_weight (continues it.site.number it.body) (again_label it.site.number) finish j)
