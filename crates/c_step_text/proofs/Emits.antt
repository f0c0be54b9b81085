-- A text in which a function's code is put down in the order of numbers is laid out.
use Rattle.std.proofs.Common.{◌≡◌, ℕ, zero, suc, ◌+◌, ◌-◌, Bool, true, false, List, [], ◌∷◌, ◌++◌, length, Option, Some, None, refl, sym, ap, ◌∙◌, arith, take, drop}
use Rattle.std.specs.Prelude.{if◌then◌else◌, nat_eq, slice_get, slice_range}
use Rattle.std.proofs.lemmas.List.{append_assoc, length-append, take_at, drop_at}
use Rattle.c_text.specs.CTree.{TypeTree, ExprTree, Args, no_arg, expr_arg, sizeof_arg, Code, finish, nested, empty, assign, call, jump, branch, repeat, select, leave, case_label, default_label, name_label}
use Rattle.c_meaning.specs.declared.values.Number.{Number}
use Rattle.c_meaning.specs.CValues.{literal_number, converted}
use Rattle.c_meaning.specs.CStep.{code_weight, by_case, Callee, memory_move, memory_set, own, callee_of}
use Rattle.c_step_exprs.specs.declared.instrs.Instr.{Instr}
use Rattle.c_step_exprs.specs.Resolving.{function_number, value_code, place_code, args_code}
use Rattle.c_step_text.specs.Flat.{Arm, StmtInstr, Back, Finish, Stuck, FlatText, Has, arm_of}
use Rattle.c_step_text.specs.Layout.{Names, go, past, past_both, second, first_number, number_here, seek, IsTarget, LaidZero, LaidOwn, LaidCall, LaidJump, LaidReturn, Laid}
use Rattle.c_step_text.specs.Acting.{Activation, names_of, end_of, IsLaid}
use Rattle.c_step_text.specs.Emitted.{StandAt, span_of, cases_of, arms_of, target_exprs, target_span, zero_exprs, zero_instr, own_exprs, own_instr, call_exprs, call_instr, jump_instr, return_exprs, return_instr, exprs_of, statements_of, function_statements}

-- Parts of a list.
module _ {A : Type 0} (all : List A) where
  at_left : (n : ℕ) (xs ys : List A) → StandAt all n (xs ++ ys) → StandAt all n xs
  at_left n xs ys h = record { front = h.front; rest = ys ++ h.rest; is = h.is ∙ ap (λ (zs : List A). h.front ++ zs) (append_assoc xs ys h.rest); size = h.size }

  at_right : (n k : ℕ) (xs ys : List A) → n + length xs ≡ k → StandAt all n (xs ++ ys) → StandAt all k ys
  at_right n k xs ys e h = record {
    front = h.front ++ xs;
    rest = h.rest;
    is = h.is ∙ (ap (λ (zs : List A). h.front ++ zs) (append_assoc xs ys h.rest) ∙ sym (append_assoc h.front xs (ys ++ h.rest)));
    size = length-append h.front xs ∙ (ap (λ (s : ℕ). s + length xs) h.size ∙ e);
  }

  one_on : (n k : ℕ) (x : A) → n + 1 ≡ k → n + length (x ∷ []) ≡ k
  one_on n k x e = omega (arith, e)

  at_tail : (n k : ℕ) (x : A) (xs : List A) → n + 1 ≡ k → StandAt all n (x ∷ xs) → StandAt all k xs
  at_tail n k x xs e h = at_right n k (x ∷ []) xs (one_on n k x e) h

  get_at : (front : List A) (n : ℕ) (x : A) (rest : List A) → length front ≡ n → slice_get (front ++ x ∷ rest) n ≡ Some x
  get_at [] zero x rest e = refl
  get_at [] (suc n) x rest e = absurd (omega (arith, e))
  get_at (y ∷ ys) zero x rest e = absurd (omega (arith, e))
  get_at (y ∷ ys) (suc n) x rest e = get_at ys n x rest (omega (arith, e))

  at_head : (n : ℕ) (x : A) (xs : List A) → StandAt all n (x ∷ xs) → slice_get all n ≡ Some x
  at_head n x xs h = ap (λ (zs : List A). slice_get zs n) h.is ∙ get_at h.front n x (xs ++ h.rest) h.size

  as_many : (n l : ℕ) → l ≡ n + l - n
  as_many n l = omega arith

  at_range : (n : ℕ) (xs : List A) → StandAt all n xs → slice_range all n (n + length xs) ≡ xs
  at_range n xs h =
      ap (λ (zs : List A). take (n + length xs - n) (drop n zs)) h.is
      ∙ (ap (λ (zs : List A). take (n + length xs - n) zs) (drop_at h.front (xs ++ h.rest) n h.size) ∙ take_at xs h.rest (n + length xs - n) (as_many n (length xs)))

-- How many instructions code has.
long_one : (xs : List StmtInstr) (w : ℕ) → length xs ≡ w → suc (length xs) ≡ w + 1
long_one xs w h = omega (arith, h)

long_two : (b : StmtInstr) (xs ys : List StmtInstr) (v w : ℕ) → length xs ≡ v → length ys ≡ w → suc (length (xs ++ b ∷ ys)) ≡ v + w + 2
long_two b xs ys v w h k = let l : length (xs ++ b ∷ ys) ≡ length xs + length (b ∷ ys) = length-append xs (b ∷ ys) in omega (arith, h, k, l)

long_three : (b : StmtInstr) (xs ys zs : List StmtInstr) (u v w : ℕ) → length xs ≡ u → length ys ≡ v → length zs ≡ w → suc (length (xs ++ (ys ++ b ∷ zs))) ≡ u + v + w + 2
long_three b xs ys zs u v w h k l =
    let p : length (xs ++ (ys ++ b ∷ zs)) ≡ length xs + length (ys ++ b ∷ zs) = length-append xs (ys ++ b ∷ zs) in
    let q : length (ys ++ b ∷ zs) ≡ length ys + length (b ∷ zs) = length-append ys (b ∷ zs) in
    omega (arith, h, k, l, p, q)

pub as_long : (names : Names) (code : Code) (i next e m : ℕ) → length (statements_of names i next e m code) ≡ code_weight code
as_long names finish i next e m = refl
as_long names (nested inner rest) i next e m = long_two _ _ _ (code_weight inner) (code_weight rest) (as_long names inner _ _ _ _) (as_long names rest _ _ _ _)
as_long names (empty rest) i next e m = long_one _ (code_weight rest) (as_long names rest _ _ _ _)
as_long names (assign target v rest) i next e m = long_one _ (code_weight rest) (as_long names rest _ _ _ _)
as_long names (call target function given rest) i next e m = long_one _ (code_weight rest) (as_long names rest _ _ _ _)
as_long names (jump label rest) i next e m = long_one _ (code_weight rest) (as_long names rest _ _ _ _)
as_long names (branch test body otherwise other rest) i next e m = long_three _ _ _ _ (code_weight body) (code_weight other) (code_weight rest) (as_long names body _ _ _ _) (as_long names other _ _ _ _) (as_long names rest _ _ _ _)
as_long names (repeat test body rest) i next e m = long_two _ _ _ (code_weight body) (code_weight rest) (as_long names body _ _ _ _) (as_long names rest _ _ _ _)
as_long names (select on body rest) i next e m = long_two _ _ _ (code_weight body) (code_weight rest) (as_long names body _ _ _ _) (as_long names rest _ _ _ _)
as_long names (leave v rest) i next e m = long_one _ (code_weight rest) (as_long names rest _ _ _ _)
as_long names (case_label n rest) i next e m = long_one _ (code_weight rest) (as_long names rest _ _ _ _)
as_long names (default_label rest) i next e m = long_one _ (code_weight rest) (as_long names rest _ _ _ _)
as_long names (name_label name rest) i next e m = long_one _ (code_weight rest) (as_long names rest _ _ _ _)

-- The cases of a block in order find what a case finds there.
module _ (n : Number) where
  arm_first : (b : Bool) (target : ℕ) (as_before : Option ℕ) (o : Option ℕ) → (if b then Some target else first_number as_before o) ≡ first_number (if b then Some target else as_before) o
  arm_first true target as_before o = refl
  arm_first false target as_before o = refl

  arm_append : (xs ys : List Arm) → arm_of n (xs ++ ys) ≡ first_number (arm_of n xs) (arm_of n ys)
  arm_append [] ys = refl
  arm_append (x ∷ xs) ys =
      ap (λ (o : Option ℕ). if nat_eq n.bits (converted n.ty x.number).bits then Some x.target else o) (arm_append xs ys)
      ∙ arm_first (nat_eq n.bits (converted n.ty x.number).bits) x.target (arm_of n xs) (arm_of n ys)

  joined : (xs ys : List Arm) (o p : Option ℕ) → arm_of n xs ≡ o → arm_of n ys ≡ p → arm_of n (xs ++ ys) ≡ first_number o p
  joined xs ys o p h k = arm_append xs ys ∙ (ap (λ (q : Option ℕ). first_number q (arm_of n ys)) h ∙ ap (λ (q : Option ℕ). first_number o q) k)

  arm_here : (b : Bool) (i : ℕ) (o p : Option ℕ) → o ≡ p → (if b then Some i else o) ≡ number_here b i p
  arm_here true i o p h = refl
  arm_here false i o p h = h

  cases_found : (i : ℕ) (code : Code) → arm_of n (cases_of i code) ≡ seek (by_case n) i code
  cases_found i finish = refl
  cases_found i (nested inner rest) = joined (cases_of (i + 1) inner) (cases_of (past i inner) rest) _ _ (cases_found (i + 1) inner) (cases_found (past i inner) rest)
  cases_found i (empty rest) = cases_found (i + 1) rest
  cases_found i (assign target v rest) = cases_found (i + 1) rest
  cases_found i (call target function given rest) = cases_found (i + 1) rest
  cases_found i (jump label rest) = cases_found (i + 1) rest
  cases_found i (branch test body otherwise other rest) =
      joined (cases_of (i + 1) body) (cases_of (second i body) other ++ cases_of (past_both i body other) rest) _ _ (cases_found (i + 1) body)
      (joined (cases_of (second i body) other) (cases_of (past_both i body other) rest) _ _ (cases_found (second i body) other) (cases_found (past_both i body other) rest))
  cases_found i (repeat test body rest) = joined (cases_of (i + 1) body) (cases_of (past i body) rest) _ _ (cases_found (i + 1) body) (cases_found (past i body) rest)
  cases_found i (select on body rest) = cases_found (past i body) rest
  cases_found i (leave v rest) = cases_found (i + 1) rest
  cases_found i (case_label k rest) = arm_here (nat_eq n.bits (converted n.ty (literal_number k)).bits) i (arm_of n (cases_of (i + 1) rest)) (seek (by_case n) (i + 1) rest) (cases_found (i + 1) rest)
  cases_found i (default_label rest) = cases_found (i + 1) rest
  cases_found i (name_label name rest) = cases_found (i + 1) rest

module _ (t : FlatText) (names : Names) where
  abbrev Statements : ℕ → List StmtInstr → Type 0
  Statements n xs = StandAt t.statements n xs

  abbrev Exprs : ℕ → List Instr → Type 0
  Exprs n xs = StandAt t.exprs n xs

  -- After a block and the one number that follows it.
  after_block : (n k : ℕ) (body : Code) (xs ys : List StmtInstr) (b : StmtInstr) → length xs ≡ code_weight body → n + code_weight body + 1 ≡ k → Statements n (xs ++ b ∷ ys) → Statements k ys
  after_block n k body xs ys b l e h =
      at_tail t.statements (n + code_weight body) k b ys e (at_right t.statements n (n + code_weight body) xs (b ∷ ys) (ap (λ (w : ℕ). n + w) l) h)

  target_laid : (e : ℕ) (target : Option ExprTree) → Exprs e (target_exprs names target) → IsTarget t names target (target_span names e target)
  target_laid e None x = tt
  target_laid e (Some target) x = at_range t.exprs e (place_code names.scope target) x

  zero_laid : (i e next : ℕ) (given : Args) → Exprs e (zero_exprs names given) → Has t i (zero_instr names e next given) → LaidZero t names i next given
  zero_laid i e next no_arg x has = has
  zero_laid i e next (expr_arg v others) x has = record { span = span_of e (value_code names.scope v); code = at_range t.exprs e (value_code names.scope v) x; has = has }
  zero_laid i e next (sizeof_arg name others) x has = has

  own_laid : (i e next : ℕ) (target : Option ExprTree) (o : Option ℕ) (given : Args) → Exprs e (own_exprs names target o given) → Has t i (own_instr names e next target o given) → LaidOwn t names i next target o given
  own_laid i e next target None given x has = has
  own_laid i e next target (Some function) given x has = record {
    place = target_span names e target;
    target_is = target_laid e target (at_left t.exprs e (target_exprs names target) (args_code names.scope given) x);
    span = span_of (e + length (target_exprs names target)) (args_code names.scope given);
    code = at_range t.exprs (e + length (target_exprs names target)) (args_code names.scope given) (at_right t.exprs e (e + length (target_exprs names target)) (target_exprs names target) (args_code names.scope given) refl x);
    has = has;
  }

  call_laid : (c : Callee) (i e next : ℕ) (target : Option ExprTree) (function : List ℕ) (given : Args) → Exprs e (call_exprs c names target function given) → Has t i (call_instr c names e next target function given)
      → LaidCall c t names i next target function given
  call_laid memory_move i e next target function given x has = record { span = span_of e (args_code names.scope given); code = at_range t.exprs e (args_code names.scope given) x; has = has }
  call_laid memory_set i e next target function given x has = zero_laid i e next given x has
  call_laid own i e next target function given x has = own_laid i e next target (function_number names.callable function) given x has

  jump_laid : (i : ℕ) (o : Option ℕ) → Has t i (jump_instr o) → LaidJump t i o
  jump_laid i None has = has
  jump_laid i (Some target) has = has

  return_laid : (i e : ℕ) (type : Option TypeTree) (v : Option ExprTree) → Exprs e (return_exprs names type v) → Has t i (return_instr names e type v) → LaidReturn t names i type v
  return_laid i e type None x has = has
  return_laid i e None (Some v) x has = has
  return_laid i e (Some type) (Some v) x has = record { span = span_of e (value_code names.scope v); code = at_range t.exprs e (value_code names.scope v) x; has = has }

  pub emitted : (i next e m : ℕ) (code : Code) → Statements i (statements_of names i next e m code) → Exprs e (exprs_of names code) → StandAt t.arms m (arms_of i code) → Laid t names i next code
  emitted i next e m finish s x a = tt
  emitted i next e m (nested inner rest) s x a =
      let f : ℕ = go (past i inner) next rest in
      let xs : List StmtInstr = statements_of names (i + 1) f e m inner in
      let ys : List StmtInstr = statements_of names (past i inner) next (e + length (exprs_of names inner)) (m + length (arms_of (i + 1) inner)) rest in
      let h : Statements (i + 1) (xs ++ Stuck ∷ ys) = at_tail t.statements i (i + 1) _ (xs ++ Stuck ∷ ys) refl s in (
        at_head t.statements i _ (xs ++ Stuck ∷ ys) s,
        emitted (i + 1) f e m inner (at_left t.statements (i + 1) xs (Stuck ∷ ys) h) (at_left t.exprs e (exprs_of names inner) (exprs_of names rest) x) (at_left t.arms m (arms_of (i + 1) inner) (arms_of (past i inner) rest) a),
        emitted (past i inner) next (e + length (exprs_of names inner)) (m + length (arms_of (i + 1) inner)) rest
            (after_block (i + 1) (past i inner) inner xs ys Stuck (as_long names inner (i + 1) f e m) (omega arith) h)
            (at_right t.exprs e (e + length (exprs_of names inner)) (exprs_of names inner) (exprs_of names rest) refl x)
            (at_right t.arms m (m + length (arms_of (i + 1) inner)) (arms_of (i + 1) inner) (arms_of (past i inner) rest) refl a),
      )
  emitted i next e m (empty rest) s x a =
      let xs : List StmtInstr = statements_of names (i + 1) next e m rest in
      (at_head t.statements i _ xs s, emitted (i + 1) next e m rest (at_tail t.statements i (i + 1) _ xs refl s) x a)
  emitted i next e m (assign target v rest) s x a =
      let p : List Instr = place_code names.scope target in
      let w : List Instr = value_code names.scope v in
      let y : Exprs (e + length p) (w ++ exprs_of names rest) = at_right t.exprs e (e + length p) p (w ++ exprs_of names rest) refl x in
      let xs : List StmtInstr = statements_of names (i + 1) next (e + length p + length w) m rest in (
        record {
          place = span_of e p;
          code = at_range t.exprs e p (at_left t.exprs e p (w ++ exprs_of names rest) x);
          of = record { span = span_of (e + length p) w; code = at_range t.exprs (e + length p) w (at_left t.exprs (e + length p) w (exprs_of names rest) y); has = at_head t.statements i _ xs s };
        },
        emitted (i + 1) next (e + length p + length w) m rest (at_tail t.statements i (i + 1) _ xs refl s) (at_right t.exprs (e + length p) (e + length p + length w) w (exprs_of names rest) refl y) a,
      )
  emitted i next e m (call target function given rest) s x a =
      let p : List Instr = call_exprs (callee_of function) names target function given in
      let xs : List StmtInstr = statements_of names (i + 1) next (e + length p) m rest in (
        call_laid (callee_of function) i e (go (i + 1) next rest) target function given (at_left t.exprs e p (exprs_of names rest) x) (at_head t.statements i _ xs s),
        emitted (i + 1) next (e + length p) m rest (at_tail t.statements i (i + 1) _ xs refl s) (at_right t.exprs e (e + length p) p (exprs_of names rest) refl x) a,
      )
  emitted i next e m (jump label rest) s x a =
      let xs : List StmtInstr = statements_of names (i + 1) next e m rest in
      (jump_laid i (names.labels label) (at_head t.statements i _ xs s), emitted (i + 1) next e m rest (at_tail t.statements i (i + 1) _ xs refl s) x a)
  emitted i next e m (branch test body otherwise other rest) s x a =
      let f : ℕ = go (past_both i body other) next rest in
      let v : List Instr = value_code names.scope test in
      let b : List Instr = exprs_of names body in
      let o : List Instr = exprs_of names other in
      let r : List Instr = exprs_of names rest in
      let e1 : ℕ = e + length v in
      let e2 : ℕ = e1 + length b in
      let e3 : ℕ = e2 + length o in
      let ab : List Arm = arms_of (i + 1) body in
      let ao : List Arm = arms_of (second i body) other in
      let ar : List Arm = arms_of (past_both i body other) rest in
      let xs : List StmtInstr = statements_of names (i + 1) f e1 m body in
      let ys : List StmtInstr = statements_of names (second i body) f e2 (m + length ab) other in
      let zs : List StmtInstr = statements_of names (past_both i body other) next e3 (m + length ab + length ao) rest in
      let h : Statements (i + 1) (xs ++ (ys ++ Stuck ∷ zs)) = at_tail t.statements i (i + 1) _ (xs ++ (ys ++ Stuck ∷ zs)) refl s in
      let l : length xs ≡ code_weight body = as_long names body (i + 1) f e1 m in
      let k : Statements (second i body) (ys ++ Stuck ∷ zs) = at_right t.statements (i + 1) (second i body) xs (ys ++ Stuck ∷ zs) (omega (arith, l)) h in
      let x1 : Exprs e1 (b ++ (o ++ r)) = at_right t.exprs e e1 v (b ++ (o ++ r)) refl x in
      let x2 : Exprs e2 (o ++ r) = at_right t.exprs e1 e2 b (o ++ r) refl x1 in
      let a1 : StandAt t.arms (m + length ab) (ao ++ ar) = at_right t.arms m (m + length ab) ab (ao ++ ar) refl a in (
        record { span = span_of e v; code = at_range t.exprs e v (at_left t.exprs e v (b ++ (o ++ r)) x); has = at_head t.statements i _ (xs ++ (ys ++ Stuck ∷ zs)) s },
        emitted (i + 1) f e1 m body (at_left t.statements (i + 1) xs (ys ++ Stuck ∷ zs) h) (at_left t.exprs e1 b (o ++ r) x1) (at_left t.arms m ab (ao ++ ar) a),
        emitted (second i body) f e2 (m + length ab) other (at_left t.statements (second i body) ys (Stuck ∷ zs) k) (at_left t.exprs e2 o r x2) (at_left t.arms (m + length ab) ao ar a1),
        emitted (past_both i body other) next e3 (m + length ab + length ao) rest
            (after_block (second i body) (past_both i body other) other ys zs Stuck (as_long names other (second i body) f e2 (m + length ab)) (omega arith) k)
            (at_right t.exprs e2 e3 o r refl x2) (at_right t.arms (m + length ab) (m + length ab + length ao) ao ar refl a1),
      )
  emitted i next e m (repeat test body rest) s x a =
      let f : ℕ = go (past i body) next rest in
      let v : List Instr = value_code names.scope test in
      let b : List Instr = exprs_of names body in
      let r : List Instr = exprs_of names rest in
      let e1 : ℕ = e + length v in
      let ab : List Arm = arms_of (i + 1) body in
      let ar : List Arm = arms_of (past i body) rest in
      let xs : List StmtInstr = statements_of names (i + 1) (second i body) e1 m body in
      let zs : List StmtInstr = statements_of names (past i body) next (e1 + length b) (m + length ab) rest in
      let back : StmtInstr = Back (span_of e v) (go (i + 1) (second i body) body) f in
      let h : Statements (i + 1) (xs ++ back ∷ zs) = at_tail t.statements i (i + 1) _ (xs ++ back ∷ zs) refl s in
      let l : length xs ≡ code_weight body = as_long names body (i + 1) (second i body) e1 m in
      let k : Statements (second i body) (back ∷ zs) = at_right t.statements (i + 1) (second i body) xs (back ∷ zs) (omega (arith, l)) h in
      let c : slice_range t.exprs e (e + length v) ≡ v = at_range t.exprs e v (at_left t.exprs e v (b ++ r) x) in
      let x1 : Exprs e1 (b ++ r) = at_right t.exprs e e1 v (b ++ r) refl x in (
        record { span = span_of e v; code = c; has = at_head t.statements i _ (xs ++ back ∷ zs) s },
        record { span = span_of e v; code = c; has = at_head t.statements (second i body) back zs k },
        emitted (i + 1) (second i body) e1 m body (at_left t.statements (i + 1) xs (back ∷ zs) h) (at_left t.exprs e1 b r x1) (at_left t.arms m ab ar a),
        emitted (past i body) next (e1 + length b) (m + length ab) rest (at_tail t.statements (second i body) (past i body) back zs (omega arith) k) (at_right t.exprs e1 (e1 + length b) b r refl x1) (at_right t.arms m (m + length ab) ab ar refl a),
      )
  emitted i next e m (select on body rest) s x a =
      let f : ℕ = go (past i body) next rest in
      let v : List Instr = value_code names.scope on in
      let b : List Instr = exprs_of names body in
      let r : List Instr = exprs_of names rest in
      let e1 : ℕ = e + length v in
      let cs : List Arm = cases_of (i + 1) body in
      let ab : List Arm = arms_of (i + 1) body in
      let ar : List Arm = arms_of (past i body) rest in
      let xs : List StmtInstr = statements_of names (i + 1) f e1 (m + length cs) body in
      let zs : List StmtInstr = statements_of names (past i body) next (e1 + length b) (m + length cs + length ab) rest in
      let h : Statements (i + 1) (xs ++ Stuck ∷ zs) = at_tail t.statements i (i + 1) _ (xs ++ Stuck ∷ zs) refl s in
      let x1 : Exprs e1 (b ++ r) = at_right t.exprs e e1 v (b ++ r) refl x in
      let a1 : StandAt t.arms (m + length cs) (ab ++ ar) = at_right t.arms m (m + length cs) cs (ab ++ ar) refl a in (
        record {
          arms = span_of m cs;
          finds = λ n. ap (arm_of n) (at_range t.arms m cs (at_left t.arms m cs (ab ++ ar) a)) ∙ cases_found n (i + 1) body;
          of = record { span = span_of e v; code = at_range t.exprs e v (at_left t.exprs e v (b ++ r) x); has = at_head t.statements i _ (xs ++ Stuck ∷ zs) s };
        },
        emitted (i + 1) f e1 (m + length cs) body (at_left t.statements (i + 1) xs (Stuck ∷ zs) h) (at_left t.exprs e1 b r x1) (at_left t.arms (m + length cs) ab ar a1),
        emitted (past i body) next (e1 + length b) (m + length cs + length ab) rest
            (after_block (i + 1) (past i body) body xs zs Stuck (as_long names body (i + 1) f e1 (m + length cs)) (omega arith) h)
            (at_right t.exprs e1 (e1 + length b) b r refl x1) (at_right t.arms (m + length cs) (m + length cs + length ab) ab ar refl a1),
      )
  emitted i next e m (leave v rest) s x a =
      let p : List Instr = return_exprs names names.result_type v in
      let xs : List StmtInstr = statements_of names (i + 1) next (e + length p) m rest in (
        return_laid i e names.result_type v (at_left t.exprs e p (exprs_of names rest) x) (at_head t.statements i _ xs s),
        emitted (i + 1) next (e + length p) m rest (at_tail t.statements i (i + 1) _ xs refl s) (at_right t.exprs e (e + length p) p (exprs_of names rest) refl x) a,
      )
  emitted i next e m (case_label n rest) s x a =
      let xs : List StmtInstr = statements_of names (i + 1) next e m rest in
      (at_head t.statements i _ xs s, emitted (i + 1) next e m rest (at_tail t.statements i (i + 1) _ xs refl s) x a)
  emitted i next e m (default_label rest) s x a =
      let xs : List StmtInstr = statements_of names (i + 1) next e m rest in
      (at_head t.statements i _ xs s, emitted (i + 1) next e m rest (at_tail t.statements i (i + 1) _ xs refl s) x a)
  emitted i next e m (name_label name rest) s x a =
      let xs : List StmtInstr = statements_of names (i + 1) next e m rest in
      (at_head t.statements i _ xs s, emitted (i + 1) next e m rest (at_tail t.statements i (i + 1) _ xs refl s) x a)

-- The text of a whole function.
pub emitted_function : (t : FlatText) (a : Activation) (e m : ℕ) → StandAt t.statements a.start (function_statements a e m) → StandAt t.exprs e (exprs_of (names_of a) a.running.body) → StandAt t.arms m (arms_of a.start a.running.body) → IsLaid t a
emitted_function t a e m s x c =
    let xs : List StmtInstr = statements_of (names_of a) a.start (end_of a) e m a.running.body in
    record {
      body = emitted t (names_of a) a.start (end_of a) e m a.running.body (at_left t.statements a.start xs (Finish ∷ []) s) x c;
      end = at_head t.statements (end_of a) Finish [] (at_right t.statements a.start (end_of a) xs (Finish ∷ []) (ap (λ (w : ℕ). a.start + w) (as_long (names_of a) a.running.body a.start (end_of a) e m)) s);
    }
