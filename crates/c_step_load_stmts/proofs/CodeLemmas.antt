-- A statement's code, as its own instruction and the code of its parts.
use Rattle.std.proofs.Common.{◌≡◌, ◌+◌, ℕ, List, [], ◌∷◌, ◌++◌, length, Option, refl, sym, ap, ◌∙◌, arith}
use Rattle.std.proofs.lemmas.List.{append_assoc, length-append}
use Rattle.c_text.specs.declared.kinds.Otherwise.{Otherwise}
use Rattle.c_text.specs.CTree.{ExprTree, Args, Code, empty, assign, call, jump, branch, leave}
use Rattle.c_meaning.specs.CStep.{callee_of}
use Rattle.c_step_exprs.specs.declared.instrs.Instr.{Instr}
use Rattle.c_step_exprs.specs.Resolving.{value_code, place_code}
use Rattle.c_step_text.specs.declared.text.Arm.{Arm}
use Rattle.c_step_text.specs.declared.text.StmtInstr.{StmtInstr}
use Rattle.c_step_text.specs.declared.text.StmtInstr.TheVariants.{Assign, Goto, Test, Stuck}
use Rattle.c_step_text.specs.Flat.{FlatText, flat_text}
use Rattle.c_step_text.specs.Layout.{Names, go, past_both, second}
use Rattle.c_step_text.specs.Emitted.{span_of, arms_of, call_exprs, call_instr, jump_instr, return_exprs, return_instr, exprs_of, statements_of}
use Rattle.c_step_load_stmts.specs.Bodies.{with_exprs, with_arms, with_statement, with_code}

same_text : (s s' : List StmtInstr) (e e' : List Instr) (a a' : List Arm) → s ≡ s' → e ≡ e' → a ≡ a' → flat_text s e a ≡ flat_text s' e' a'
same_text s s' e e' a a' p q r = ap (λ (x : List StmtInstr). flat_text x e a) p ∙ (ap (λ (x : List Instr). flat_text s' x a) q ∙ ap (λ (x : List Arm). flat_text s' e' x) r)

-- One instruction, with expressions of its own.
pub one_more : (names : Names) (t : FlatText) (i next e : ℕ) (x : StmtInstr) (own : List Instr) (rest : Code) → e ≡ length (t.exprs ++ own)
    → flat_text (t.statements ++ x ∷ statements_of names (i + 1) next e (length t.arms) rest) (t.exprs ++ (own ++ exprs_of names rest)) (t.arms ++ arms_of (i + 1) rest)
    ≡ with_code names (with_statement (with_exprs t own) x) (i + 1) next rest
one_more names t i next e x own rest at =
    same_text (t.statements ++ x ∷ statements_of names (i + 1) next e (length t.arms) rest) ((t.statements ++ x ∷ []) ++ statements_of names (i + 1) next (length (t.exprs ++ own)) (length t.arms) rest)
    (t.exprs ++ (own ++ exprs_of names rest)) ((t.exprs ++ own) ++ exprs_of names rest) (t.arms ++ arms_of (i + 1) rest) (t.arms ++ arms_of (i + 1) rest)
    (ap (λ (n : ℕ). t.statements ++ x ∷ statements_of names (i + 1) next n (length t.arms) rest) at ∙ sym (append_assoc t.statements (x ∷ []) (statements_of names (i + 1) next (length (t.exprs ++ own)) (length t.arms) rest)))
    (sym (append_assoc t.exprs own (exprs_of names rest))) refl

-- One instruction alone.
pub none_more : (names : Names) (t : FlatText) (i next : ℕ) (x : StmtInstr) (rest : Code)
    → flat_text (t.statements ++ x ∷ statements_of names (i + 1) next (length t.exprs) (length t.arms) rest) (t.exprs ++ exprs_of names rest) (t.arms ++ arms_of (i + 1) rest)
    ≡ with_code names (with_statement t x) (i + 1) next rest
none_more names t i next x rest = ap (λ (ss : List StmtInstr). flat_text ss (t.exprs ++ exprs_of names rest) (t.arms ++ arms_of (i + 1) rest)) (sym (append_assoc t.statements (x ∷ []) (statements_of names (i + 1) next (length t.exprs) (length t.arms) rest)))

-- A block, an instruction after it, and what follows.
pub block_more : (names : Names) (t : FlatText) (i after : ℕ) (inner : Code) (y : StmtInstr) (j next e m : ℕ) (rest : Code) → e ≡ length (t.exprs ++ exprs_of names inner) → m ≡ length (t.arms ++ arms_of i inner)
    → flat_text (t.statements ++ (statements_of names i after (length t.exprs) (length t.arms) inner ++ (y ∷ statements_of names j next e m rest))) (t.exprs ++ (exprs_of names inner ++ exprs_of names rest)) (t.arms ++ (arms_of i inner ++ arms_of j rest))
    ≡ with_code names (with_statement (with_code names t i after inner) y) j next rest
block_more names t i after inner y j next e m rest at_e at_m =
    same_text (t.statements ++ (statements_of names i after (length t.exprs) (length t.arms) inner ++ (y ∷ statements_of names j next e m rest)))
    (((t.statements ++ statements_of names i after (length t.exprs) (length t.arms) inner) ++ y ∷ []) ++ statements_of names j next (length (t.exprs ++ exprs_of names inner)) (length (t.arms ++ arms_of i inner)) rest)
    (t.exprs ++ (exprs_of names inner ++ exprs_of names rest)) ((t.exprs ++ exprs_of names inner) ++ exprs_of names rest)
    (t.arms ++ (arms_of i inner ++ arms_of j rest)) ((t.arms ++ arms_of i inner) ++ arms_of j rest)
    (ap (λ (n : ℕ). t.statements ++ (statements_of names i after (length t.exprs) (length t.arms) inner ++ (y ∷ statements_of names j next n m rest))) at_e
    ∙ (ap (λ (n : ℕ). t.statements ++ (statements_of names i after (length t.exprs) (length t.arms) inner ++ (y ∷ statements_of names j next (length (t.exprs ++ exprs_of names inner)) n rest))) at_m
    ∙ (sym (append_assoc t.statements (statements_of names i after (length t.exprs) (length t.arms) inner) (y ∷ statements_of names j next (length (t.exprs ++ exprs_of names inner)) (length (t.arms ++ arms_of i inner)) rest))
    ∙ sym (append_assoc (t.statements ++ statements_of names i after (length t.exprs) (length t.arms) inner) (y ∷ []) (statements_of names j next (length (t.exprs ++ exprs_of names inner)) (length (t.arms ++ arms_of i inner)) rest)))))
    (sym (append_assoc t.exprs (exprs_of names inner) (exprs_of names rest))) (sym (append_assoc t.arms (arms_of i inner) (arms_of j rest)))

-- A block that another one follows at once.
pub code_more : (names : Names) (t : FlatText) (i after : ℕ) (inner : Code) (e m : ℕ) (ss : ℕ → ℕ → List StmtInstr) (es : List Instr) (as_ : List Arm) → e ≡ length (t.exprs ++ exprs_of names inner) → m ≡ length (t.arms ++ arms_of i inner)
    → flat_text (t.statements ++ (statements_of names i after (length t.exprs) (length t.arms) inner ++ ss e m)) (t.exprs ++ (exprs_of names inner ++ es)) (t.arms ++ (arms_of i inner ++ as_))
    ≡ flat_text ((with_code names t i after inner).statements ++ ss (length (with_code names t i after inner).exprs) (length (with_code names t i after inner).arms)) ((with_code names t i after inner).exprs ++ es) ((with_code names t i after inner).arms ++ as_)
code_more names t i after inner e m ss es as_ at_e at_m =
    same_text (t.statements ++ (statements_of names i after (length t.exprs) (length t.arms) inner ++ ss e m)) ((t.statements ++ statements_of names i after (length t.exprs) (length t.arms) inner) ++ ss (length (t.exprs ++ exprs_of names inner)) (length (t.arms ++ arms_of i inner)))
    (t.exprs ++ (exprs_of names inner ++ es)) ((t.exprs ++ exprs_of names inner) ++ es) (t.arms ++ (arms_of i inner ++ as_)) ((t.arms ++ arms_of i inner) ++ as_)
    (ap (λ (n : ℕ). t.statements ++ (statements_of names i after (length t.exprs) (length t.arms) inner ++ ss n m)) at_e
    ∙ (ap (λ (n : ℕ). t.statements ++ (statements_of names i after (length t.exprs) (length t.arms) inner ++ ss (length (t.exprs ++ exprs_of names inner)) n)) at_m
    ∙ sym (append_assoc t.statements (statements_of names i after (length t.exprs) (length t.arms) inner) (ss (length (t.exprs ++ exprs_of names inner)) (length (t.arms ++ arms_of i inner))))))
    (sym (append_assoc t.exprs (exprs_of names inner) es)) (sym (append_assoc t.arms (arms_of i inner) as_))

-- The statements, one form after the other.
module _ (names : Names) (t : FlatText) (i next : ℕ) (rest : Code) where
  pub assign_laid : (target v : ExprTree)
      → with_code names t i next (assign target v rest)
      ≡ with_code names (with_statement (with_exprs (with_exprs t (place_code names.scope target)) (value_code names.scope v)) (Assign (span_of (length t.exprs) (place_code names.scope target)) (span_of (length (t.exprs ++ place_code names.scope target)) (value_code names.scope v)) (go (i + 1) next rest))) (i + 1) next rest
  assign_laid target v =
      let size : length (t.exprs ++ place_code names.scope target) ≡ length t.exprs + length (place_code names.scope target) = length-append t.exprs (place_code names.scope target) in
      let whole : length ((t.exprs ++ place_code names.scope target) ++ value_code names.scope v) ≡ length (t.exprs ++ place_code names.scope target) + length (value_code names.scope v) = length-append (t.exprs ++ place_code names.scope target) (value_code names.scope v) in
      let x : ℕ → StmtInstr = λ n. Assign (span_of (length t.exprs) (place_code names.scope target)) (span_of n (value_code names.scope v)) (go (i + 1) next rest) in
      same_text _ _ (t.exprs ++ (place_code names.scope target ++ (value_code names.scope v ++ exprs_of names rest))) ((t.exprs ++ place_code names.scope target) ++ (value_code names.scope v ++ exprs_of names rest)) (t.arms ++ arms_of (i + 1) rest) (t.arms ++ arms_of (i + 1) rest)
      (ap (λ (n : ℕ). t.statements ++ Assign (span_of (length t.exprs) (place_code names.scope target)) (span_of n (value_code names.scope v)) (go (i + 1) next rest) ∷ statements_of names (i + 1) next (length t.exprs + length (place_code names.scope target) + length (value_code names.scope v)) (length t.arms) rest) (sym size))
      (sym (append_assoc t.exprs (place_code names.scope target) (value_code names.scope v ++ exprs_of names rest))) refl
      ∙ one_more names (with_exprs t (place_code names.scope target)) i next (length t.exprs + length (place_code names.scope target) + length (value_code names.scope v)) (Assign (span_of (length t.exprs) (place_code names.scope target)) (span_of (length (t.exprs ++ place_code names.scope target)) (value_code names.scope v)) (go (i + 1) next rest)) (value_code names.scope v) rest (omega (arith, size, whole))

  pub call_laid : (target : Option ExprTree) (function : List ℕ) (given : Args)
      → with_code names t i next (call target function given rest)
      ≡ with_code names (with_statement (with_exprs t (call_exprs (callee_of function) names target function given)) (call_instr (callee_of function) names (length t.exprs) (go (i + 1) next rest) target function given)) (i + 1) next rest
  call_laid target function given =
      one_more names t i next (length t.exprs + length (call_exprs (callee_of function) names target function given)) (call_instr (callee_of function) names (length t.exprs) (go (i + 1) next rest) target function given) (call_exprs (callee_of function) names target function given) rest (sym (length-append t.exprs (call_exprs (callee_of function) names target function given)))

  pub leave_laid : (v : Option ExprTree)
      → with_code names t i next (leave v rest)
      ≡ with_code names (with_statement (with_exprs t (return_exprs names names.result_type v)) (return_instr names (length t.exprs) names.result_type v)) (i + 1) next rest
  leave_laid v =
      one_more names t i next (length t.exprs + length (return_exprs names names.result_type v)) (return_instr names (length t.exprs) names.result_type v) (return_exprs names names.result_type v) rest (sym (length-append t.exprs (return_exprs names names.result_type v)))

  pub jump_laid : (label : List ℕ) → with_code names t i next (jump label rest) ≡ with_code names (with_statement t (jump_instr (names.labels label))) (i + 1) next rest
  jump_laid label = none_more names t i next (jump_instr (names.labels label)) rest

  pub empty_laid : with_code names t i next (empty rest) ≡ with_code names (with_statement t (Goto (go (i + 1) next rest))) (i + 1) next rest
  empty_laid = none_more names t i next (Goto (go (i + 1) next rest)) rest

  -- A condition or a number before a block.
  in_front : (x : StmtInstr) (v : List Instr) (cs : List Arm) (inner : Code) (after : ℕ) (y : StmtInstr) (j e e' m m' : ℕ) → e ≡ length (t.exprs ++ v) → e' ≡ e + length (exprs_of names inner) → m ≡ length (t.arms ++ cs) → m' ≡ m + length (arms_of (i + 1) inner)
      → flat_text (t.statements ++ x ∷ (statements_of names (i + 1) after e m inner ++ (y ∷ statements_of names j next e' m' rest))) (t.exprs ++ (v ++ (exprs_of names inner ++ exprs_of names rest))) (t.arms ++ (cs ++ (arms_of (i + 1) inner ++ arms_of j rest)))
      ≡ with_code names (with_statement (with_code names (with_statement (with_arms (with_exprs t v) cs) x) (i + 1) after inner) y) j next rest
  in_front x v cs inner after y j e e' m m' at_e at_e' at_m at_m' =
      let l : length ((t.exprs ++ v) ++ exprs_of names inner) ≡ length (t.exprs ++ v) + length (exprs_of names inner) = length-append (t.exprs ++ v) (exprs_of names inner) in
      let k : length ((t.arms ++ cs) ++ arms_of (i + 1) inner) ≡ length (t.arms ++ cs) + length (arms_of (i + 1) inner) = length-append (t.arms ++ cs) (arms_of (i + 1) inner) in
      same_text (t.statements ++ x ∷ (statements_of names (i + 1) after e m inner ++ (y ∷ statements_of names j next e' m' rest)))
      ((t.statements ++ x ∷ []) ++ (statements_of names (i + 1) after (length (t.exprs ++ v)) (length (t.arms ++ cs)) inner ++ (y ∷ statements_of names j next e' m' rest)))
      (t.exprs ++ (v ++ (exprs_of names inner ++ exprs_of names rest))) ((t.exprs ++ v) ++ (exprs_of names inner ++ exprs_of names rest))
      (t.arms ++ (cs ++ (arms_of (i + 1) inner ++ arms_of j rest))) ((t.arms ++ cs) ++ (arms_of (i + 1) inner ++ arms_of j rest))
      (ap (λ (n : ℕ). t.statements ++ x ∷ (statements_of names (i + 1) after n m inner ++ (y ∷ statements_of names j next e' m' rest))) at_e
      ∙ (ap (λ (n : ℕ). t.statements ++ x ∷ (statements_of names (i + 1) after (length (t.exprs ++ v)) n inner ++ (y ∷ statements_of names j next e' m' rest))) at_m
      ∙ sym (append_assoc t.statements (x ∷ []) (statements_of names (i + 1) after (length (t.exprs ++ v)) (length (t.arms ++ cs)) inner ++ (y ∷ statements_of names j next e' m' rest)))))
      (sym (append_assoc t.exprs v (exprs_of names inner ++ exprs_of names rest))) (sym (append_assoc t.arms cs (arms_of (i + 1) inner ++ arms_of j rest)))
      ∙ block_more names (with_statement (with_arms (with_exprs t v) cs) x) (i + 1) after inner y j next e' m' rest (omega (arith, at_e, at_e', l)) (omega (arith, at_m, at_m', k))

  pub branch_laid : (test : ExprTree) (body : Code) (kind : Otherwise) (other : Code)
      → with_code names t i next (branch test body kind other rest)
      ≡ with_code names (with_statement (with_code names (with_code names (with_statement (with_exprs t (value_code names.scope test)) (Test (span_of (length t.exprs) (value_code names.scope test)) (go (i + 1) (go (past_both i body other) next rest) body) (go (second i body) (go (past_both i body other) next rest) other))) (i + 1) (go (past_both i body other) next rest) body) (second i body) (go (past_both i body other) next rest) other) Stuck) (past_both i body other) next rest
  branch_laid test body kind other =
      let v : List Instr = value_code names.scope test in
      let x : StmtInstr = Test (span_of (length t.exprs) (value_code names.scope test)) (go (i + 1) (go (past_both i body other) next rest) body) (go (second i body) (go (past_both i body other) next rest) other) in
      let t1 : FlatText = with_statement (with_exprs t (value_code names.scope test)) (Test (span_of (length t.exprs) (value_code names.scope test)) (go (i + 1) (go (past_both i body other) next rest) body) (go (second i body) (go (past_both i body other) next rest) other)) in
      let after : ℕ = go (past_both i body other) next rest in
      let l1 : length (t.exprs ++ value_code names.scope test) ≡ length t.exprs + length (value_code names.scope test) = length-append t.exprs (value_code names.scope test) in
      let l2 : length ((t.exprs ++ value_code names.scope test) ++ exprs_of names body) ≡ length (t.exprs ++ value_code names.scope test) + length (exprs_of names body) = length-append (t.exprs ++ value_code names.scope test) (exprs_of names body) in
      let l3 : length (((t.exprs ++ value_code names.scope test) ++ exprs_of names body) ++ exprs_of names other) ≡ length ((t.exprs ++ value_code names.scope test) ++ exprs_of names body) + length (exprs_of names other) = length-append ((t.exprs ++ value_code names.scope test) ++ exprs_of names body) (exprs_of names other) in
      let k2 : length (t.arms ++ arms_of (i + 1) body) ≡ length t.arms + length (arms_of (i + 1) body) = length-append t.arms (arms_of (i + 1) body) in
      let k3 : length ((t.arms ++ arms_of (i + 1) body) ++ arms_of (second i body) other) ≡ length (t.arms ++ arms_of (i + 1) body) + length (arms_of (second i body) other) = length-append (t.arms ++ arms_of (i + 1) body) (arms_of (second i body) other) in
      let tail : ℕ → ℕ → List StmtInstr = λ e m. statements_of names (second i body) (go (past_both i body other) next rest) e m other ++ (Stuck ∷ statements_of names (past_both i body other) next (length t.exprs + length (value_code names.scope test) + length (exprs_of names body) + length (exprs_of names other)) (length t.arms + length (arms_of (i + 1) body) + length (arms_of (second i body) other)) rest) in
      same_text (t.statements ++ x ∷ (statements_of names (i + 1) after (length t.exprs + length v) (length t.arms) body ++ tail (length t.exprs + length v + length (exprs_of names body)) (length t.arms + length (arms_of (i + 1) body))))
      ((t.statements ++ x ∷ []) ++ (statements_of names (i + 1) after (length (t.exprs ++ v)) (length t.arms) body ++ tail (length t.exprs + length v + length (exprs_of names body)) (length t.arms + length (arms_of (i + 1) body))))
      (t.exprs ++ (v ++ (exprs_of names body ++ (exprs_of names other ++ exprs_of names rest)))) ((t.exprs ++ v) ++ (exprs_of names body ++ (exprs_of names other ++ exprs_of names rest)))
      (t.arms ++ (arms_of (i + 1) body ++ (arms_of (second i body) other ++ arms_of (past_both i body other) rest))) (t.arms ++ (arms_of (i + 1) body ++ (arms_of (second i body) other ++ arms_of (past_both i body other) rest)))
      (ap (λ (n : ℕ). t.statements ++ x ∷ (statements_of names (i + 1) after n (length t.arms) body ++ tail (length t.exprs + length v + length (exprs_of names body)) (length t.arms + length (arms_of (i + 1) body)))) (sym l1)
      ∙ sym (append_assoc t.statements (x ∷ []) (statements_of names (i + 1) after (length (t.exprs ++ v)) (length t.arms) body ++ tail (length t.exprs + length v + length (exprs_of names body)) (length t.arms + length (arms_of (i + 1) body)))))
      (sym (append_assoc t.exprs v (exprs_of names body ++ (exprs_of names other ++ exprs_of names rest)))) refl
      ∙ (code_more names t1 (i + 1) after body (length t.exprs + length v + length (exprs_of names body)) (length t.arms + length (arms_of (i + 1) body)) tail (exprs_of names other ++ exprs_of names rest) (arms_of (second i body) other ++ arms_of (past_both i body other) rest) (omega (arith, l1, l2)) (sym k2)
      ∙ block_more names (with_code names t1 (i + 1) after body) (second i body) after other Stuck (past_both i body other) next (length t.exprs + length v + length (exprs_of names body) + length (exprs_of names other)) (length t.arms + length (arms_of (i + 1) body) + length (arms_of (second i body) other)) rest (omega (arith, l1, l2, l3)) (omega (arith, k2, k3)))
