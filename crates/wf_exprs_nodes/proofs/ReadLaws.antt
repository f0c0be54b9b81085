-- What a block reads is what its first statement reads, or what is looked at after it.
use Rattle.std.proofs.Common.{◌≡◌, ℕ, Bool, true, false, ◌||◌, if◌then◌else◌, List, refl, ap, ◌∙◌}
use Rattle.c_text.specs.CGrammar.{is_finish}
use Rattle.c_text.specs.CTree.{Code, finish, nested, empty, assign, call, jump, branch, repeat, select, leave, case_label, default_label, name_label}
use Rattle.wf_exprs.specs.Reads.{expr_reads, args_read, target_reads, result_reads, code_reads}
use Rattle.wf_exprs_nodes.specs.Readers.{other_reads, own_reads, next_of}

or_assoc : (a b c : Bool) → (a || (b || c)) ≡ ((a || b) || c)
or_assoc true b c = refl
or_assoc false b c = refl

or_false : (a : Bool) → (a || false) ≡ a
or_false true = refl
or_false false = refl

other_first : (name : List ℕ) (other rest : Code) → (code_reads name other || code_reads name rest) ≡ (other_reads name other rest || code_reads name (if is_finish rest then other else rest))
other_first name other finish = or_false (code_reads name other)
other_first name other (nested x rest) = refl
other_first name other (empty rest) = refl
other_first name other (assign x y rest) = refl
other_first name other (call x y z rest) = refl
other_first name other (jump x rest) = refl
other_first name other (branch x y z w rest) = refl
other_first name other (repeat x y rest) = refl
other_first name other (select x y rest) = refl
other_first name other (leave x rest) = refl
other_first name other (case_label x rest) = refl
other_first name other (default_label rest) = refl
other_first name other (name_label x rest) = refl

pub reads_first : (name : List ℕ) (code : Code) → code_reads name code ≡ (own_reads name code || code_reads name (next_of code))
reads_first name finish = refl
reads_first name (nested inner rest) = refl
reads_first name (empty rest) = refl
reads_first name (assign target value rest) = or_assoc (target_reads name target) (expr_reads name value) (code_reads name rest)
reads_first name (call target function given rest) = or_assoc (result_reads name target) (args_read name given) (code_reads name rest)
reads_first name (jump label rest) = refl
reads_first name (branch test body otherwise other rest) =
    ap (λ x. expr_reads name test || (code_reads name body || x)) (other_first name other rest)
    ∙ ap (λ x. expr_reads name test || x) (or_assoc (code_reads name body) (other_reads name other rest) (code_reads name (if is_finish rest then other else rest)))
    ∙ or_assoc (expr_reads name test) (code_reads name body || other_reads name other rest) (code_reads name (if is_finish rest then other else rest))
reads_first name (repeat test body rest) = or_assoc (expr_reads name test) (code_reads name body) (code_reads name rest)
reads_first name (select on body rest) = or_assoc (expr_reads name on) (code_reads name body) (code_reads name rest)
reads_first name (leave value rest) = refl
reads_first name (case_label n rest) = refl
reads_first name (default_label rest) = refl
reads_first name (name_label label rest) = refl
