-- The code of a function, after the code of those before it.
use Rattle.std.proofs.Common.{◌≡◌, ℕ, ◌+◌, Bool, List, [], ◌∷◌, ◌++◌, length, Option, Some, None, Result, Ok, Err, OnOk, refl, ap, ◌∙◌, arith, append_assoc}
use Rattle.std.proofs.lemmas.List.{append-nil, length-append}
use Rattle.c_text.specs.CTree.{TypeTree, ExprTree, Code, leave, finish}
use Rattle.c_text.specs.CNodes.{Nodes}
use Rattle.c_meaning.specs.CTypes.{Function, CScope, returned}
use Rattle.c_meaning.specs.CExprs.{cell_type}
use Rattle.c_meaning.specs.CStep.{code_weight}
use Rattle.c_meaning.specs.CCall.{scope_in}
use Rattle.c_step_exprs.specs.declared.instrs.Instr.{Instr}
use Rattle.c_step_exprs.specs.Resolving.{value_code}
use Rattle.c_step_text.specs.declared.text.StmtInstr.{StmtInstr}
use Rattle.c_step_text.specs.declared.text.StmtInstr.TheVariants.{Finish}
use Rattle.c_step_text.specs.Flat.{FlatText, flat_text}
use Rattle.c_step_text.specs.Layout.{Names, go}
use Rattle.c_step_text.specs.Emitted.{exprs_of, arms_of, return_exprs, statements_of}
use Rattle.c_step_load_stmts.specs.Bodies.{with_code, with_statement, with_exprs}
use Rattle.c_step_run.specs.declared.code.Initial.{Initial}
use Rattle.c_step_run.specs.declared.code.Inline.{Inline}
use Rattle.c_step_run.specs.declared.code.Func.{Func}
use Rattle.c_step_run.specs.Coding.{CodeView, is_static, inline_length}
use Rattle.c_step_program.specs.Programs.{initial_exprs, initials_of, inline_of, inline_lengths, func_of, with_function}
use Rattle.c_step_program.proofs.Coded.{one_return, as_many_initials, inline_lengths_append}
use Rattle.c_step_load.specs.declared.loading.Build.{Build}
use Rattle.c_step_load.specs.Loading.{program_in, names_by, with_body, inline_by, IsBuilt}

-- Two facts of an answer.
pub both_ok : {A E P Q R : Type 0} (r : Result A E) → OnOk r P → OnOk r Q → (P → Q → R) → OnOk r R
both_ok (Ok x) p q f = f p q
both_ok (Err e) p q f = tt

-- A body, its end and the initial values of its locals, one after the other.
pub body_put : (names : Names) (t u v w : FlatText) (i next : ℕ) (code : Code) (initial : List Instr) → u ≡ with_code names t i next code → v ≡ with_statement u Finish → w ≡ with_exprs v initial → w ≡ with_body names t i next code initial
body_put names t u v w i next code initial a b c =
    c ∙ (ap (λ (x : FlatText). with_exprs x initial) (b ∙ ap (λ (x : FlatText). with_statement x Finish) a)
    ∙ (ap (λ (ss : List StmtInstr). flat_text ss ((t.exprs ++ exprs_of names code) ++ initial) (t.arms ++ arms_of i code)) (append_assoc t.statements (statements_of names i next (length t.exprs) (length t.arms) code) (Finish ∷ []))
    ∙ ap (λ (es : List Instr). flat_text (t.statements ++ (statements_of names i next (length t.exprs) (length t.arms) code ++ Finish ∷ [])) es (t.arms ++ arms_of i code)) (append_assoc t.exprs (exprs_of names code) initial)))

pub exprs_end : (names : Names) (t u v : FlatText) (i next : ℕ) (code : Code) → u ≡ with_code names t i next code → v ≡ with_statement u Finish → length v.exprs ≡ length t.exprs + length (exprs_of names code)
exprs_end names t u v i next code a b = ap (λ (x : FlatText). length x.exprs) (b ∙ ap (λ (x : FlatText). with_statement x Finish) a) ∙ length-append t.exprs (exprs_of names code)

-- The value of a function in an expression.
one_value : (names : Names) (x : ExprTree) (type : TypeTree) → names.result_type ≡ Some type → exprs_of names (leave (Some x) finish) ≡ value_code names.scope x
one_value names x type e = ap (λ (o : Option TypeTree). return_exprs names o (Some x) ++ []) e ∙ append-nil (value_code names.scope x)

inlined : (names : Names) (place : ℕ) (body : Code) (value : Option ExprTree) (type : Option TypeTree) → returned body ≡ value → names.result_type ≡ type → inline_by (record { from = place; to = place + length (exprs_of names body) }) value type ≡ inline_of names.scope place value type
inlined names place body None type e r = refl
inlined names place body (Some x) None e r = refl
inlined names place body (Some x) (Some type) e r = ap (λ (es : List Instr). Some (record { value = record { from = place; to = place + length es }; ty = cell_type type })) (ap (exprs_of names) (one_return body x e) ∙ one_value names x type r)

pub inline_is : (names : Names) (place to : ℕ) (body : Code) (type : Option TypeTree) (it : Option Inline) → names.result_type ≡ type → to ≡ place + length (exprs_of names body) → it ≡ inline_by (record { from = place; to = to }) (returned body) type → it ≡ inline_of names.scope place (returned body) type
inline_is names place to body type it r end is = is ∙ (ap (λ (n : ℕ). inline_by (record { from = place; to = n }) (returned body) type) end ∙ inlined names place body (returned body) type refl r)

-- A function more.
module _ (nodes : Nodes) (f : Function) (callable : List Function) (c : CodeView) where
  abbrev Scope_ : CScope
  Scope_ = scope_in (program_in nodes) f

  text_built : (t new : FlatText) (number next : ℕ) → t ≡ c.text → number ≡ length t.statements → next ≡ number + code_weight f.body + 0 → new ≡ with_body (names_by nodes f callable number) t number next f.body (initial_exprs Scope_ f.locals) → new ≡ (with_function (program_in nodes) f callable c).text
  text_built t new number next same at end is =
      let here : number ≡ length c.text.statements = at ∙ ap (λ (u : FlatText). length u.statements) same in
      let past : next ≡ length c.text.statements + code_weight f.body = omega (arith, end, here) in
      is ∙ (ap (λ (u : FlatText). with_body (names_by nodes f callable number) u number next f.body (initial_exprs Scope_ f.locals)) same
      ∙ (ap (λ (n : ℕ). with_body (names_by nodes f callable n) c.text n next f.body (initial_exprs Scope_ f.locals)) here
      ∙ ap (λ (n : ℕ). with_body (names_by nodes f callable (length c.text.statements)) c.text (length c.text.statements) n f.body (initial_exprs Scope_ f.locals)) past))

  pub record HasPut (t new : FlatText) (old now : List Initial) (number next from locals to : ℕ) : Type 0 where
    pub text : t ≡ c.text
    pub initials : old ≡ c.initials
    pub at : number ≡ length t.statements
    pub end : next ≡ number + code_weight f.body + 0
    pub exprs : from ≡ length t.exprs
    pub fields : locals ≡ length old
    pub put : new ≡ with_body (names_by nodes f callable number) t number next f.body (initial_exprs Scope_ f.locals)
    pub put_initials : now ≡ old ++ initials_of Scope_ (length f.params) (length t.exprs + length (exprs_of (names_by nodes f callable number) f.body)) f.locals
    pub to_is : to ≡ length t.exprs + length (exprs_of (names_by nodes f callable number) f.body)

  module _ (t new : FlatText) (old now : List Initial) (number next from locals to : ℕ) (h : HasPut t new old now number next from locals to) where
    here : number ≡ length c.text.statements
    here = h.at ∙ ap (λ (u : FlatText). length u.statements) h.text

    past : next ≡ length c.text.statements + code_weight f.body
    past = let e = h.end in let s = here in omega (arith, e, s)

    place : from ≡ length c.text.exprs
    place = h.exprs ∙ ap (λ (u : FlatText). length u.exprs) h.text

    initials_now : now ≡ (with_function (program_in nodes) f callable c).initials
    initials_now =
        h.put_initials
        ∙ (ap (λ (is : List Initial). is ++ initials_of Scope_ (length f.params) (length t.exprs + length (exprs_of (names_by nodes f callable number) f.body)) f.locals) h.initials
        ∙ (ap (λ (u : FlatText). c.initials ++ initials_of Scope_ (length f.params) (length u.exprs + length (exprs_of (names_by nodes f callable number) f.body)) f.locals) h.text
        ∙ ap (λ (n : ℕ). c.initials ++ initials_of Scope_ (length f.params) (length c.text.exprs + length (exprs_of (names_by nodes f callable n) f.body)) f.locals) here))

    fields_end : length now ≡ length c.initials + length f.locals
    fields_end = ap (λ (is : List Initial). length is) initials_now ∙ (length-append c.initials (initials_of Scope_ (length f.params) (length c.text.exprs + length (exprs_of (names_by nodes f callable (length c.text.statements)) f.body)) f.locals) ∙ ap (λ (n : ℕ). length c.initials + n) (as_many_initials Scope_ (length f.params) (length c.text.exprs + length (exprs_of (names_by nodes f callable (length c.text.statements)) f.body)) f.locals))

    inline_now : (it : Option Inline) → it ≡ inline_by (record { from = from; to = to }) (returned f.body) f.result_type → it ≡ inline_of Scope_ (length c.text.exprs) (returned f.body) f.result_type
    inline_now it is =
        let end : to ≡ length c.text.exprs + length (exprs_of (names_by nodes f callable (length c.text.statements)) f.body) = h.to_is ∙ (ap (λ (u : FlatText). length u.exprs + length (exprs_of (names_by nodes f callable number) f.body)) h.text ∙ ap (λ (n : ℕ). length c.text.exprs + length (exprs_of (names_by nodes f callable n) f.body)) here) in
        inline_is (names_by nodes f callable (length c.text.statements)) (length c.text.exprs) to f.body f.result_type it refl end (is ∙ ap (λ (n : ℕ). inline_by (record { from = n; to = to }) (returned f.body) f.result_type) place)

    func_now : (entry : ℕ) (turn : Bool) (it : Option Inline) (rank : ℕ) → entry ≡ go number next f.body → turn ≡ is_static f.linkage → it ≡ inline_by (record { from = from; to = to }) (returned f.body) f.result_type → rank ≡ inline_lengths c.functions
        → record { start = number; entry = entry; turn = turn; initials = record { from = locals; to = length now }; inline = it; rank = rank } ≡ func_of (program_in nodes) f c
    func_now entry turn it rank e u is r =
        let first : locals ≡ length c.initials = h.fields ∙ ap (λ (xs : List Initial). length xs) h.initials in
        rw (e, u, inline_now it is, r, first, fields_end, here, past) refl

    -- All of it is put down.
    pub function_built : (build after : Build) (entry : ℕ) (turn : Bool) (it : Option Inline) → IsBuilt build c → after.work.text ≡ new → after.work.left.items ≡ [] → after.initials.items ≡ now
        → entry ≡ go number next f.body → turn ≡ is_static f.linkage → it ≡ inline_by (record { from = from; to = to }) (returned f.body) f.result_type
        → after.functions.items ≡ build.functions.items ++ record { start = number; entry = entry; turn = turn; initials = record { from = locals; to = length now }; inline = it; rank = build.rank } ∷ []
        → after.rank ≡ build.rank + inline_length it → IsBuilt after (with_function (program_in nodes) f callable c)
    function_built build after entry turn it b text left initials e u is functions rank =
        let put_func : Func = record { start = number; entry = entry; turn = turn; initials = record { from = locals; to = length now }; inline = it; rank = build.rank } in
        let func = func_now entry turn it build.rank e u is b.rank in
        let sum : inline_lengths (c.functions ++ func_of (program_in nodes) f c ∷ []) ≡ inline_lengths c.functions + (inline_length (func_of (program_in nodes) f c).inline + 0) = inline_lengths_append c.functions (func_of (program_in nodes) f c ∷ []) in
        let value : inline_length it ≡ inline_length (func_of (program_in nodes) f c).inline = ap inline_length (inline_now it is) in
        let count = b.rank in
        record {
          text = text ∙ text_built t new number next h.text h.at h.end h.put;
          left = left;
          initials = initials ∙ initials_now;
          functions = functions ∙ (ap (λ (fs : List Func). fs ++ put_func ∷ []) b.functions ∙ ap (λ (g : Func). c.functions ++ g ∷ []) func);
          rank = omega (arith, rank, sum, value, count);
        }
