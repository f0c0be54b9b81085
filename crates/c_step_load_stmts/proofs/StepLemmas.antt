-- What was put down of a statement, and what is left, come to its code.
use Rattle.std.proofs.Common.{◌≡◌, ◌+◌, ℕ, List, [], ◌∷◌, ◌++◌, length, Option, Result, Ok, Err, OnOk, sym, ap, ◌∙◌}
use Rattle.std.specs.Prelude.{reverse}
use Rattle.wf_text.specs.declared.faults.NoMemory.{NoMemory}
use Rattle.c_text.specs.declared.ids.CStmtId.{CStmtId}
use Rattle.c_text.specs.declared.kinds.Otherwise.{Otherwise}
use Rattle.c_text.specs.CTree.{ExprTree, Args, Code, empty, assign, call, jump, branch, leave}
use Rattle.c_text.specs.CNodes.{Nodes, code_of}
use Rattle.c_meaning.specs.CTypes.{CScope}
use Rattle.c_meaning.specs.CStep.{callee_of}
use Rattle.c_step_exprs.specs.Resolving.{value_code, place_code}
use Rattle.c_step_text.specs.declared.text.Span.{Span}
use Rattle.c_step_text.specs.declared.text.StmtInstr.{StmtInstr}
use Rattle.c_step_text.specs.declared.text.StmtInstr.TheVariants.{Assign, Goto, Test, Stuck}
use Rattle.c_step_text.specs.Flat.{FlatText}
use Rattle.c_step_text.specs.Layout.{Names, go, past_both, second}
use Rattle.c_step_text.specs.Emitted.{span_of, call_exprs, call_instr, jump_instr, return_exprs, return_instr}
use Rattle.c_step_load_stmts.specs.declared.tasks.Task.{Task}
use Rattle.c_step_load_stmts.specs.declared.tasks.Task.TheVariants as task
use Rattle.c_step_load_stmts.specs.Bodies.{with_exprs, with_statement, with_code}
use Rattle.c_step_load_stmts.specs.Tasks.{with_tasks, finished}
use Rattle.c_step_load_stmts.proofs.CodeLemmas.{assign_laid, call_laid, leave_laid, jump_laid, empty_laid, branch_laid}
use Rattle.c_step_load_stmts.proofs.TaskLemmas.{four_finished}

-- Two things that hold after a step that was made.
pub on_two : {A : Type 0} (r : Result A NoMemory) (P Q R : Type 0) → (P → Q → R) → OnOk r P → OnOk r Q → OnOk r R
on_two (Ok x) P Q R f p q = f p q
on_two (Err fault) P Q R f p q = p

pub assign_step : (names : Names) (scope : CScope) (t u w : FlatText) (s r : Span) (n i next : ℕ) (rest : Code) (target v : ExprTree) → names.scope ≡ scope
    → u ≡ with_exprs t (place_code scope target) → w ≡ with_exprs u (value_code scope v) → s ≡ span_of (length t.exprs) (place_code scope target) → r ≡ span_of (length u.exprs) (value_code scope v) → n ≡ go (i + 1) next rest
    → with_code names (with_statement w (Assign s r n)) (i + 1) next rest ≡ with_code names t i next (assign target v rest)
assign_step names scope t u w s r n i next rest target v sc eu ew es er en = rw (ew, er, eu, es, en, sym sc) (sym (assign_laid names t i next rest target v))

pub call_step : (names : Names) (t w : FlatText) (x : StmtInstr) (n i next : ℕ) (rest : Code) (target : Option ExprTree) (function : List ℕ) (given : Args)
    → w ≡ with_exprs t (call_exprs (callee_of function) names target function given) → x ≡ call_instr (callee_of function) names (length t.exprs) n target function given → n ≡ go (i + 1) next rest
    → with_code names (with_statement w x) (i + 1) next rest ≡ with_code names t i next (call target function given rest)
call_step names t w x n i next rest target function given ew ex en = rw (ew, ex, en) (sym (call_laid names t i next rest target function given))

pub leave_step : (names : Names) (t w : FlatText) (x : StmtInstr) (i next : ℕ) (rest : Code) (v : Option ExprTree)
    → w ≡ with_exprs t (return_exprs names names.result_type v) → x ≡ return_instr names (length t.exprs) names.result_type v
    → with_code names (with_statement w x) (i + 1) next rest ≡ with_code names t i next (leave v rest)
leave_step names t w x i next rest v ew ex = rw (ew, ex) (sym (leave_laid names t i next rest v))

pub jump_step : (names : Names) (t : FlatText) (x : StmtInstr) (i next : ℕ) (rest : Code) (label : List ℕ) → x ≡ jump_instr (names.labels label)
    → with_code names (with_statement t x) (i + 1) next rest ≡ with_code names t i next (jump label rest)
jump_step names t x i next rest label ex = rw ex (sym (jump_laid names t i next rest label))

pub empty_step : (names : Names) (t : FlatText) (n i next : ℕ) (rest : Code) → n ≡ go (i + 1) next rest
    → with_code names (with_statement t (Goto n)) (i + 1) next rest ≡ with_code names t i next (empty rest)
empty_step names t n i next rest en = rw en (sym (empty_laid names t i next rest))

pub branch_step : (nodes : Nodes) (names : Names) (old new : List Task) (t w u : FlatText) (scope : CScope) (i next : ℕ) (test : ExprTree) (kind : Otherwise) (body other rest : CStmtId) (s : Span) (inside behind after sec met unmet : ℕ) → names.scope ≡ scope
    → inside ≡ i + 1 → behind ≡ past_both i (code_of nodes body.0) (code_of nodes other.0) → after ≡ go (past_both i (code_of nodes body.0) (code_of nodes other.0)) next (code_of nodes rest.0) → sec ≡ second i (code_of nodes body.0)
    → met ≡ go inside after (code_of nodes body.0) → unmet ≡ go sec after (code_of nodes other.0) → w ≡ with_exprs t (value_code scope test) → s ≡ span_of (length t.exprs) (value_code scope test)
    → u ≡ with_statement w (Test s met unmet) → new ≡ old ++ task.Code rest behind next ∷ task.Instr Stuck ∷ task.Code other sec after ∷ task.Code body inside after ∷ []
    → finished nodes names u new ≡ finished nodes names (with_code names t i next (branch test (code_of nodes body.0) kind (code_of nodes other.0) (code_of nodes rest.0))) old
branch_step nodes names old new t w u scope i next test kind body other rest s inside behind after sec met unmet sc a b c d m n ew es eu is =
    four_finished nodes old new (task.Code rest behind next) (task.Instr Stuck) (task.Code other sec after) (task.Code body inside after) is names u
    ∙ ap (λ (v : FlatText). with_tasks nodes names v (reverse old)) (rw (eu, ew, es, m, n, a, b, c, d, sym sc) (sym (branch_laid names t i next (code_of nodes rest.0) test (code_of nodes body.0) kind (code_of nodes other.0))))
