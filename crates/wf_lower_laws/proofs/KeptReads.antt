-- What a coroutine keeps of a started statement is read in its body.
use Rattle.std.proofs.Common.{◌≡◌, ◌⊎◌, inl, inr, ℕ, Bool, true, false, not, ◌||◌, List, refl}
use Rattle.std.specs.Prelude.{if◌then◌else◌, codes}
use Rattle.wf_base.specs.declared.base_methods.ReadForm.TheVariants.{ReadU8, ReadU16Be, ReadU16Le, ReadU32Be, ReadU32Le, ReadU64Be, ReadU64Le}
use Rattle.wf_ast.specs.TypedTree.{Target, Awaited, take_number, skip, write, Simple, assign, await, perform, invoke, break_from, continue_in, give_back, yield, claim, Site, Block, end, plain, choose, loop}
use Rattle.wf_ast.specs.WellTyped.{is_coroutine, breaks}
use Rattle.wf_meaning.specs.Entry.{short_write}
use Rattle.wf_meaning.specs.Remaining.{is_point, number_of}
use Rattle.c_text.specs.declared.kinds.CNumber.TheVariants.{Int}
use Rattle.c_text.specs.CTree.{Code, finish, empty, case_label, name_label, select}
use Rattle.c_text.specs.CTree as c_tree
use Rattle.wf_exprs.specs.Names.{behind_label, point_field}
use Rattle.wf_exprs.specs.Words.{num, of_self}
use Rattle.wf_exprs.specs.Exprs.{lowered_cond, status_constant}
use Rattle.wf_exprs.specs.Reads.{expr_reads, code_reads}
use Rattle.wf_lower_stmts.specs.Forms.{Form, resume_local, stays, holds_something, counts_bytes, awaits, keeps, suspend, resume_here, when_some}
use Rattle.wf_lower_stmts.specs.Lower.{lower, again_here, behind_here, ending, tail_of, top}
use Rattle.wf_lower_stmts.specs.Statements.{written_byte, awoken_call, awoken, lower_point, lower_plain, lower_simple}
use Rattle.wf_lower.specs.Bodies.{resumed, statements_of, body_code}
use Rattle.wf_lower_laws.proofs.Apart.{left_or, right_or}
use Rattle.wf_lower_laws.proofs.Names.{either_true}
use Rattle.wf_lower_laws.proofs.Straight.{straight_reads, plain_straight, begun_straight, awoken_straight}
use Rattle.wf_lower_laws.proofs.Bodies.{takes_number}

held_call : (f : Form) (k : ℕ) (t : Target) (a : ℕ) (call : Awaited) (rest : Code) → holds_something call ≡ true → code_reads (codes "held") (awoken_call f k t a call rest) ≡ true
held_call f k t a (take_number ReadU8) rest h = absurd (cc h)
held_call f k t a (take_number ReadU16Be) rest h = refl
held_call f k t a (take_number ReadU16Le) rest h = refl
held_call f k t a (take_number ReadU32Be) rest h = refl
held_call f k t a (take_number ReadU32Le) rest h = refl
held_call f k t a (take_number ReadU64Be) rest h = refl
held_call f k t a (take_number ReadU64Le) rest h = refl
held_call f k t a (skip n) rest h = refl
held_call f k t a (write n) rest h = right_or (code_reads (codes "held") (suspend f k (status_constant short_write) finish)) _ (left_or _ _ (byte (stays n) refl h))
  where
    byte : (b : Bool) → stays n ≡ b → not b ≡ true → expr_reads (codes "held") (written_byte f.names n) ≡ true
    byte true e g = absurd (cc g)
    byte false e g = rw e refl

count_call : (f : Form) (k : ℕ) (t : Target) (a : ℕ) (call : Awaited) (rest : Code) → counts_bytes call ≡ true → code_reads (codes "count") (awoken_call f k t a call rest) ≡ true
count_call f k t a (take_number ReadU8) rest h = absurd (cc h)
count_call f k t a (take_number ReadU16Be) rest h = refl
count_call f k t a (take_number ReadU16Le) rest h = refl
count_call f k t a (take_number ReadU32Be) rest h = refl
count_call f k t a (take_number ReadU32Le) rest h = refl
count_call f k t a (take_number ReadU64Be) rest h = refl
count_call f k t a (take_number ReadU64Le) rest h = refl
count_call f k t a (skip n) rest h = absurd (cc h)
count_call f k t a (write n) rest h = absurd (cc h)

module _ (f : Form) (number : Site → ℕ) (test : Awaited → Bool) (name : List ℕ) (one_call : (k : ℕ) (t : Target) (a : ℕ) (call : Awaited) (rest : Code) → test call ≡ true → code_reads name (awoken_call f k t a call rest) ≡ true) where
  resumes : (k : ℕ) (rest : Code) → code_reads name rest ≡ true → code_reads name (resume_here k rest) ≡ true
  resumes k rest h = h

  awaited_reads : (k : ℕ) (s : Simple) (rest : Code) → awaits test s ≡ true → code_reads name (lower_simple f k s rest) ≡ true
  awaited_reads k (await at t a call) rest h =
      straight_reads name (resume_here k (awoken f k (await at t a call) rest)) _ (begun_straight f k (await at t a call) (resume_here k (awoken f k (await at t a call) rest))) (resumes k (awoken_call f k t a call rest) (one_call k t a call rest h))
  awaited_reads k (assign t op v) rest h = absurd (cc h)
  awaited_reads k (perform at t call) rest h = absurd (cc h)
  awaited_reads k (invoke at t keep mark called ts) rest h = absurd (cc h)
  awaited_reads k (break_from v) rest h = absurd (cc h)
  awaited_reads k (continue_in v) rest h = absurd (cc h)
  awaited_reads k (give_back v) rest h = absurd (cc h)
  awaited_reads k (yield n) rest h = absurd (cc h)
  awaited_reads k (claim goal ax) rest h = absurd (cc h)

  plain_reads : (s : Simple) (rest : Code) → code_reads name rest ≡ true → code_reads name (lower_plain f s rest) ≡ true
  plain_reads (break_from v) rest h = h
  plain_reads (continue_in v) rest h = h
  plain_reads (assign t op v) rest h = straight_reads name rest _ (plain_straight f (assign t op v) rest refl) h
  plain_reads (await at t a call) rest h = h
  plain_reads (perform at t call) rest h = straight_reads name rest _ (plain_straight f (perform at t call) rest refl) h
  plain_reads (invoke at t keep mark called ts) rest h = straight_reads name rest _ (plain_straight f (invoke at t keep mark called ts) rest refl) h
  plain_reads (give_back v) rest h = straight_reads name rest _ (plain_straight f (give_back v) rest refl) h
  plain_reads (yield n) rest h = h
  plain_reads (claim goal ax) rest h = h

  simple_reads : (k : ℕ) (s : Simple) (rest : Code) → code_reads name rest ≡ true → code_reads name (lower_simple f k s rest) ≡ true
  simple_reads k s rest h = by (is_point s)
    where
      by : (b : Bool) → code_reads name (if b then lower_point f k s rest else lower_plain f s rest) ≡ true
      by true =
          straight_reads name (resume_here k (awoken f k s rest)) _ (begun_straight f k s (resume_here k (awoken f k s rest)))
          (resumes k (awoken f k s rest) (straight_reads name rest _ (awoken_straight f k s rest) h))
      by false = plain_reads s rest h

  label_reads : (b : Bool) (label : List ℕ) (rest : Code) → code_reads name rest ≡ true → code_reads name (if b then name_label label (empty rest) else rest) ≡ true
  label_reads true label rest h = h
  label_reads false label rest h = h

  pub block_reads : (b : Block) (tail : Code) → keeps test b ≡ true → code_reads name (lower f number b tail) ≡ true
  block_reads end tail h = absurd (cc h)
  block_reads (plain site s rest) tail h = by (either_true (awaits test s) (keeps test rest) h) (block_reads rest tail)
    where
      by : (awaits test s ≡ true) ⊎ (keeps test rest ≡ true) → (keeps test rest ≡ true → code_reads name (lower f number rest tail) ≡ true) → code_reads name (lower_simple f (number site) s (lower f number rest tail)) ≡ true
      by (inl e) more = awaited_reads (number site) s (lower f number rest tail) e
      by (inr e) more = simple_reads (number site) s (lower f number rest tail) (more e)
  block_reads (choose site chained c a b rest) tail h =
      right_or (expr_reads name (lowered_cond f.names c)) _ (by (either_true (keeps test a) (keeps test b || keeps test rest) h) (block_reads a finish) (block_reads b finish) (block_reads rest tail))
    where
      by : (keeps test a ≡ true) ⊎ ((keeps test b || keeps test rest) ≡ true) → (keeps test a ≡ true → code_reads name (lower f number a finish) ≡ true) → (keeps test b ≡ true → code_reads name (lower f number b finish) ≡ true)
          → (keeps test rest ≡ true → code_reads name (lower f number rest tail) ≡ true) → (code_reads name (lower f number a finish) || (code_reads name (lower f number b finish) || code_reads name (lower f number rest tail))) ≡ true
      by (inl e) x y z = left_or (code_reads name (lower f number a finish)) _ (x e)
      by (inr e) x y z = right_or (code_reads name (lower f number a finish)) _ (others (either_true (keeps test b) (keeps test rest) e))
        where
          others : (keeps test b ≡ true) ⊎ (keeps test rest ≡ true) → (code_reads name (lower f number b finish) || code_reads name (lower f number rest tail)) ≡ true
          others (inl q) = left_or (code_reads name (lower f number b finish)) _ (y q)
          others (inr q) = right_or (code_reads name (lower f number b finish)) _ (z q)
  block_reads (loop site head body rest) tail h =
      right_or (expr_reads name (lowered_cond f.names head.cond)) _ (by (either_true (keeps test body) (keeps test rest) h) (block_reads body (again_here site body)) (block_reads rest tail))
    where
      by : (keeps test body ≡ true) ⊎ (keeps test rest ≡ true) → (keeps test body ≡ true → code_reads name (lower f number body (again_here site body)) ≡ true) → (keeps test rest ≡ true → code_reads name (lower f number rest tail) ≡ true)
          → (code_reads name (lower f number body (again_here site body)) || code_reads name (behind_here site body (lower f number rest tail))) ≡ true
      by (inl e) x y = left_or (code_reads name (lower f number body (again_here site body))) _ (x e)
      by (inr e) x y = right_or (code_reads name (lower f number body (again_here site body))) _ (label_reads (breaks site.number body) (behind_label site.number) (lower f number rest tail) (y e))

  body_reads : code_reads name (statements_of f) ≡ true → code_reads name (body_code f) ≡ true
  body_reads h = by (is_coroutine f.method.mark)
    where
      by : (b : Bool) → code_reads name (if b then c_tree.assign (of_self (point_field f.method.name)) (num 0) (when_some resume_local (resumed f) (select resume_local (case_label (Int 0) (empty (statements_of f))) (ending f))) else statements_of f) ≡ true
      by true =
          straight_reads name (select resume_local (case_label (Int 0) (empty (statements_of f))) (ending f)) _ (takes_number f (of_self (point_field f.method.name)) (num 0) resume_local (select resume_local (case_label (Int 0) (empty (statements_of f))) (ending f)))
          (right_or (expr_reads name resume_local) _ (left_or (code_reads name (statements_of f)) _ h))
      by false = h

pub held_read : (f : Form) → keeps holds_something f.method.body ≡ true → code_reads (codes "held") (body_code f) ≡ true
held_read f h =
    let one = held_call f in
    body_reads f (number_of f.method.body) holds_something (codes "held") one (block_reads f (number_of f.method.body) holds_something (codes "held") one f.method.body (tail_of f top) h)

pub count_read : (f : Form) → keeps counts_bytes f.method.body ≡ true → code_reads (codes "count") (body_code f) ≡ true
count_read f h =
    let one = count_call f in
    body_reads f (number_of f.method.body) counts_bytes (codes "count") one (block_reads f (number_of f.method.body) counts_bytes (codes "count") one f.method.body (tail_of f top) h)
