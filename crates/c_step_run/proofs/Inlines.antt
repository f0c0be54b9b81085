-- Calls in expressions.
use Rattle.std.proofs.Common.{◌≡◌, ℕ, ◌+◌, ◌≤◌, Bool, true, false, List, [], ◌∷◌, ◌++◌, length, map, IfSome, Option, Some, None, refl, sym, ap, ◌∙◌, subst, arith, take, drop}
use Rattle.std.specs.Prelude.{if◌then◌else◌, nat_le, slice_get, option_map, option_and_then, reverse}
use Rattle.std.proofs.lemmas.Bool.Decides.{nat_tests}
use Rattle.std.proofs.lemmas.List.{append-nil, length-reverse, length-take}
use Rattle.c_text.specs.CTree.{TypeTree, ExprTree}
use Rattle.c_meaning.specs.declared.cells.CellType.{CellType}
use Rattle.c_meaning.specs.declared.values.CValue.{CValue}
use Rattle.c_meaning.specs.CMemory.{Field, Object, Memory}
use Rattle.c_meaning.specs.CTypes.{Function, CScope, returned}
use Rattle.c_meaning.specs.CExprs.{cell_type, Surroundings, value}
use Rattle.c_meaning.specs.CStep.{result_value}
use Rattle.c_meaning.specs.CCall.{Program, scope_in, passed, returned_value, expression_call}
use Rattle.c_step_exprs.specs.declared.instrs.Instr.{Instr}
use Rattle.c_step_exprs.specs.Instrs.{Around, pushed, calls, as_cell, exec}
use Rattle.c_step_exprs.specs.Resolving.{value_code}
use Rattle.c_step_exprs.specs.Values.{around, AreCalled}
use Rattle.c_step_exprs.proofs.ValueRuns.{value_runs}
use Rattle.c_step_text.specs.Flat.{FlatText, code_in}
use Rattle.c_step_text.specs.Numbered.{expression_at}
use Rattle.c_step_frames.specs.Frames.{FrameView, param_type, passed_cells, call_object, on_top, Enters}
use Rattle.c_step_run.specs.declared.code.Inline.{Inline}
use Rattle.c_step_run.specs.declared.code.Func.{Func}
use Rattle.c_step_run.specs.Coding.{CodeView, InlineOf, args_of}
use Rattle.c_step_run.specs.Meaning.{seen_in, Comes}
use Rattle.c_step_run.proofs.Lookups.{Found}
use Rattle.c_step_run.proofs.Objects.{passed_alike, no_locals, as_many, too_few}

-- What a function in an expression returns.
pub record IsInline (t : FlatText) (scope : CScope) (ret : Option ExprTree) (type : Option TypeTree) (it : Inline) : Type 0 where
  pub e : ExprTree
  pub ty : TypeTree
  pub is_ret : ret ≡ Some e
  pub is_type : type ≡ Some ty
  pub code : code_in t it.value ≡ value_code scope e
  pub cell : it.ty ≡ cell_type ty

pub inline_parts : (t : FlatText) (scope : CScope) (ret : Option ExprTree) (type : Option TypeTree) (it : Inline) → InlineOf t scope ret type (Some it) → IsInline t scope ret type it
inline_parts t scope None type it h = absurd (cc (h))
inline_parts t scope (Some e) None it h = absurd (cc (h))
inline_parts t scope (Some e) (Some ty) it h = record { e = e; ty = ty; is_ret = refl; is_type = refl; code = h.0; cell = h.1 }

no_result : (type : Option TypeTree) → result_value type None ≡ None
no_result None = refl
no_result (Some ty) = refl

no_inline : (t : FlatText) (scope : CScope) (ret : Option ExprTree) (type : Option TypeTree) (v : ExprTree → Option CValue) → InlineOf t scope ret type None → result_value type (option_and_then v ret) ≡ None
no_inline t scope None type v h = no_result type
no_inline t scope (Some e) None v h = refl
no_inline t scope (Some e) (Some ty) v h = absurd h

-- An expression's instructions, with values below them on the stack.
one_value : (stack : List CValue) (o : Option CValue) → option_and_then (λ v. Some (v ∷ stack)) o ≡ option_map (λ v. v ∷ stack) o
one_value stack None = refl
one_value stack (Some v) = refl

pub value_puts : (s : Surroundings) (known : ℕ → List CValue → Option CValue) (e : ExprTree) (stack : List CValue) → AreCalled s known
    → exec (around s known) 0 (value_code s.scope e) stack ≡ option_map (λ v. v ∷ stack) (value s e)
value_puts s known e stack h =
    ap (λ (is : List Instr). exec (around s known) 0 is stack) (sym (append-nil (value_code s.scope e))) ∙ ((value_runs s known h e).by [] stack ∙ one_value stack (value s e))

-- Calls that give nothing.
pub no_call : (a : Around) (k count : ℕ) (stack : List CValue) → ((given : List CValue) → length given ≡ count → a.called k given ≡ None) → calls a k count stack ≡ None
no_call a k count stack h = by_count (nat_le count (length stack)) refl
  where
    by_count : (b : Bool) → nat_le count (length stack) ≡ b → (if b then pushed (a.called k (reverse (take count stack))) (drop count stack) else None) ≡ None
    by_count false e = refl
    by_count true e = ap (λ (o : Option CValue). pushed o (drop count stack)) (h (reverse (take count stack)) there)
      where
        there : length (reverse (take count stack)) ≡ count
        there = length-reverse (take count stack) ∙ (length-take count stack ∙ grind (arith, nat_tests, e))

pub no_call_here : (a : Around) (k count : ℕ) (stack : List CValue) → a.called k (on_top count stack) ≡ None → calls a k count stack ≡ None
no_call_here a k count stack h = by_count (nat_le count (length stack))
  where
    by_count : (b : Bool) → (if b then pushed (a.called k (reverse (take count stack))) (drop count stack) else None) ≡ None
    by_count false = refl
    by_count true = ap (λ (o : Option CValue). pushed o (drop count stack)) h

-- What is put on the stack by a call that gives this.
comes_by : (o : Option (List CValue)) (res : Option CValue) (rest after : List CValue) (b : Bool) (end : List CValue) → o ≡ pushed res rest → IfSome res (λ w. after ≡ rest) → Comes (pushed res after) b end → Comes o b end
comes_by o None rest after true end e s h = e ∙ h
comes_by o None rest after false end e s h = e
comes_by o (Some v) rest after true end e s h = e ∙ (ap (λ (xs : List CValue). Some (v ∷ xs)) (sym s) ∙ h)
comes_by o (Some v) rest after false end e s h = absurd (cc (h))

pub call_there : (a : Around) (k count : ℕ) (stack : List CValue) → count ≤ length stack → calls a k count stack ≡ pushed (a.called k (on_top count stack)) (drop count stack)
call_there a k count stack h = ap (λ (b : Bool). if b then pushed (a.called k (reverse (take count stack))) (drop count stack) else None) at_most
  where
    at_most : nat_le count (length stack) ≡ true
    at_most = grind (arith, nat_tests, h)

-- There are so many on top.
pub count_there : (count : ℕ) (stack : List CValue) → length (on_top count stack) ≡ count → count ≤ length stack
count_there count stack h = omega (arith, h, length-reverse (take count stack), length-take count stack)

module _ (c : CodeView) (frames args : List FrameView) (p : Program) (callable : List Function) (k : ℕ) (r : Found c frames args p callable k) where
  pub passed_is : (given : List CValue) (object : Object) → call_object (map param_type r.it.params) [] given ≡ Some object → passed r.it.params given ≡ Some object
  passed_is given object e = passed_alike r.it.params given ∙ (sym (no_locals (passed_cells (map param_type r.it.params) given)) ∙ e)

  pub passed_none : (given : List CValue) → call_object (map param_type r.it.params) [] given ≡ None → passed r.it.params given ≡ None
  passed_none given e = passed_alike r.it.params given ∙ (sym (no_locals (passed_cells (map param_type r.it.params) given)) ∙ e)

  -- Where arguments aren't passed, and where the function has no value in an expression.
  pub not_passed : (memory : Memory) (given : List CValue) → passed r.it.params given ≡ None → expression_at p callable k memory given ≡ None
  not_passed memory given e = r.expression memory given ∙ ap (λ (o : Option (List Field)). option_and_then (λ fields. returned_value p r.it (expression_call p r.front) (length memory) (memory ++ fields ∷ [])) o) e

  pub not_inline : r.coded.func.inline ≡ None → (memory : Memory) (given : List CValue) → expression_at p callable k memory given ≡ None
  not_inline e memory given = r.expression memory given ∙ by_passed (passed r.it.params given)
    where
      inlined : InlineOf c.text (scope_in p r.it) (returned r.it.body) r.it.result_type None
      inlined = subst (λ (o : Option Inline). InlineOf c.text (scope_in p r.it) (returned r.it.body) r.it.result_type o) e r.coded.inline

      by_passed : (o : Option (List Field)) → option_and_then (λ fields. returned_value p r.it (expression_call p r.front) (length memory) (memory ++ fields ∷ [])) o ≡ None
      by_passed None = refl
      by_passed (Some fields) = no_inline c.text (scope_in p r.it) (returned r.it.body) r.it.result_type
          (value (record { scope = scope_in p r.it; frame = length memory; memory = memory ++ fields ∷ []; called = λ name. expression_call p r.front name (memory ++ fields ∷ []) })) inlined

  -- The value that is returned.
  pub record CalledBy (it : Inline) (memory : Memory) (given : List CValue) (object : Object) (frame : ℕ) (stack : List CValue) : Type 0 where
    pub v : Option CValue
    pub puts : exec (seen_in p r.front frame (memory ++ object ∷ [])) 0 (code_in c.text it.value) stack ≡ option_map (λ w. w ∷ stack) v
    pub is : expression_at p callable k memory given ≡ option_and_then (as_cell it.ty) v

  called_by : (it : Inline) → r.coded.func.inline ≡ Some it → (memory : Memory) (given : List CValue) (object : Object) (frame : ℕ) (stack : List CValue)
      → frame ≡ length memory → call_object (map param_type r.it.params) [] given ≡ Some object → CalledBy it memory given object frame stack
  called_by it e memory given object frame stack at made = record {
    v = value s parts.e;
    puts = ap (λ (f : ℕ). exec (seen_in p r.front f (memory ++ object ∷ [])) 0 (code_in c.text it.value) stack) at
        ∙ (ap (λ (is : List Instr). exec (seen_in p r.front (length memory) (memory ++ object ∷ [])) 0 is stack) parts.code
        ∙ value_puts s (λ n them. expression_at p r.front n (memory ++ object ∷ []) them) parts.e stack ((r.coded.numbered (length memory)).values (memory ++ object ∷ [])));
    is = r.expression memory given
        ∙ (ap (λ (o : Option (List Field)). option_and_then (λ fields. returned_value p r.it (expression_call p r.front) (length memory) (memory ++ fields ∷ [])) o) (passed_is given object made)
        ∙ (ap (λ (o : Option ExprTree). result_value r.it.result_type (option_and_then (value s) o)) parts.is_ret
        ∙ (ap (λ (o : Option TypeTree). result_value o (value s parts.e)) parts.is_type
        ∙ ap (λ (t : CellType). option_and_then (as_cell t) (value s parts.e)) (sym parts.cell))));
  }
    where
      parts : IsInline c.text (scope_in p r.it) (returned r.it.body) r.it.result_type it
      parts = inline_parts c.text (scope_in p r.it) (returned r.it.body) r.it.result_type it (subst (λ (o : Option Inline). InlineOf c.text (scope_in p r.it) (returned r.it.body) r.it.result_type o) e r.coded.inline)

      s : Surroundings
      s = record { scope = scope_in p r.it; frame = length memory; memory = memory ++ object ∷ []; called = λ name. expression_call p r.front name (memory ++ object ∷ []) }

  -- What stands in the code and in the frames under the number.
  pub frame_is : (f : FrameView) → slice_get args k ≡ Some f → f ≡ args_of r.it
  frame_is f e = let q : Some f ≡ Some (args_of r.it) = sym e ∙ (ap (slice_get args) (sym r.size) ∙ r.coded.arguments) in cc (q)

  pub func_is : (func : Func) → slice_get c.functions k ≡ Some func → r.coded.func ≡ func
  func_is func e = let q : Some r.coded.func ≡ Some func = sym r.coded.is ∙ (ap (slice_get c.functions) r.size ∙ e) in cc (q)

  given_none : (f : FrameView) → f ≡ args_of r.it → (given : List CValue) → call_object f.params f.locals given ≡ None → call_object (map param_type r.it.params) [] given ≡ None
  given_none f e given h = subst (λ (x : FrameView). call_object x.params x.locals given ≡ None) e h

  given_some : (f : FrameView) → f ≡ args_of r.it → (given : List CValue) (object : Object) → call_object f.params f.locals given ≡ Some object → call_object (map param_type r.it.params) [] given ≡ Some object
  given_some f e given object h = subst (λ (x : FrameView). call_object x.params x.locals given ≡ Some object) e h

  pub wrong_count : (f : FrameView) (frame count : ℕ) (memory : Memory) (stack : List CValue) → slice_get args k ≡ Some f → (count ≡ length f.params → ⊥) → calls (seen_in p callable frame memory) k count stack ≡ None
  wrong_count f frame count memory stack e h =
      no_call (seen_in p callable frame memory) k count stack
      (λ given l. not_passed memory given (passed_alike r.it.params given ∙ too_few (map param_type r.it.params) given (λ q. h (sym l ∙ (sym q ∙ ap (λ (x : FrameView). length x.params) (sym (frame_is f e)))))))

  pub not_entered : (f : FrameView) (frame count : ℕ) (memory now : Memory) (stack left : List CValue) → slice_get args k ≡ Some f → count ≡ length f.params → Enters f memory stack false now left
      → calls (seen_in p callable frame memory) k count stack ≡ None
  not_entered f frame count memory now stack left e n h =
      no_call_here (seen_in p callable frame memory) k count stack
      (not_passed memory (on_top count stack) (passed_none (on_top count stack) (given_none f (frame_is f e) (on_top count stack) (ap (λ (m : ℕ). call_object f.params f.locals (on_top m stack)) n ∙ h.0))))

  pub no_value : (frame count : ℕ) (memory : Memory) (stack : List CValue) → r.coded.func.inline ≡ None → calls (seen_in p callable frame memory) k count stack ≡ None
  no_value frame count memory stack e = no_call (seen_in p callable frame memory) k count stack (λ given l. not_inline e memory given)

  pub inline_means : (f : FrameView) (func : Func) (it : Inline) (frame count : ℕ) (memory now : Memory) (stack left after end : List CValue) (res : Option CValue) (b : Bool)
      → slice_get args k ≡ Some f → slice_get c.functions k ≡ Some func → func.inline ≡ Some it → frame + 1 ≡ length memory → count ≡ length f.params → Enters f memory stack true now left
      → ((v : Option CValue) → exec (seen_in p r.front (frame + 1) now) 0 (code_in c.text it.value) left ≡ option_map (λ w. w ∷ left) v → (res ≡ option_and_then (as_cell it.ty) v) × IfSome res (λ w. after ≡ left))
      → Comes (pushed res after) b end → Comes (calls (seen_in p callable frame memory) k count stack) b end
  inline_means f func it frame count memory now stack left after end res b e fe ie at n h means comes =
      comes_by (calls (seen_in p callable frame memory) k count stack) res (drop count stack) after b end
      (call_there (seen_in p callable frame memory) k count stack (count_there count stack as_long)
      ∙ ap (λ (o : Option CValue). pushed o (drop count stack)) (ap (λ (m : ℕ). expression_at p callable k memory (on_top m stack)) n ∙ (called.is ∙ sym result.0)))
      (same_rest res result.1) comes
    where
      made : call_object (map param_type r.it.params) [] (on_top (length f.params) stack) ≡ Some h.0
      made = given_some f (frame_is f e) (on_top (length f.params) stack) h.0 h.1

      called : CalledBy it memory (on_top (length f.params) stack) h.0 (frame + 1) left
      called = called_by it (ap (λ (x : Func). x.inline) (func_is func fe) ∙ ie) memory (on_top (length f.params) stack) h.0 (frame + 1) left at made

      result : (res ≡ option_and_then (as_cell it.ty) called.v) × IfSome res (λ w. after ≡ left)
      result = means called.v (ap (λ (m : Memory). exec (seen_in p r.front (frame + 1) m) 0 (code_in c.text it.value) left) h.2 ∙ called.puts)

      as_long : length (on_top count stack) ≡ count
      as_long = ap (λ (m : ℕ). length (on_top m stack)) n
          ∙ (sym (as_many (map param_type r.it.params) (on_top (length f.params) stack) h.0 (sym (no_locals (passed_cells (map param_type r.it.params) (on_top (length f.params) stack))) ∙ made))
          ∙ (ap (λ (x : FrameView). length x.params) (sym (frame_is f e)) ∙ sym n))

      same_rest : (o : Option CValue) → IfSome o (λ w. after ≡ left) → IfSome o (λ w. after ≡ drop count stack)
      same_rest None q = tt
      same_rest (Some w) q = q ∙ (h.3 ∙ ap (λ (m : ℕ). drop m stack) (sym n))
