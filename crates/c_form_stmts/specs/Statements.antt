-- One statement of a function (6.8).
use Rattle.std.specs.Prelude.{◌≡◌, ◌+◌, nat_eq, IfSome, ℕ, Bool, true, false, ◌&&◌, ◌||◌, if◌then◌else◌, nat_lt, List, [], ◌∷◌, Option, Some, None, bytes_eq, option_map}
use Rattle.c_text.specs.declared.kinds.Linkage.{Linkage}
use Rattle.c_text.specs.declared.nodes.CType.{CType}
use Rattle.c_text.specs.declared.kinds.CNumber.TheVariants as literal
use Rattle.c_text.specs.CTree.{TypeTree, ExprTree, variable, number, Code, finish, nested, empty, assign, call, jump, branch, repeat, select, leave, case_label, default_label, name_label}
use Rattle.c_text.specs.CNodes.{Nodes, type_in}
use Rattle.c_text.specs.CFits.{HasType}
use Rattle.c_meaning.specs.CTypes.{Held, one, type_of, held_of}
use Rattle.c_meaning.specs.CStep.{callee_of}
use Rattle.c_meaning.specs.UnitForm.{Checked, has_type, is_number, may_assign, formed_call, may_loop, formed_return, cases_of, formed_cases}
use Rattle.c_form_exprs.specs.Front.{Within, scope_in}
use Rattle.c_form_stmts.specs.Lines.{LineTree}

-- What the statements of a function are checked against: names, linkage and result, and the numbers of the statements
-- that the labels stand at.
pub record Frame : Type 0 where
  pub within : Within
  pub linkage : Linkage
  pub result_type : Option CType
  pub labels : List (List ℕ × ℕ)

-- A statement by itself asks nothing of the body but its labels.
abbrev pub checked_in : Frame → Checked
checked_in frame = record { scope = scope_in frame.within; linkage = frame.linkage; result_type = option_map (type_in frame.within.front.nodes.names) frame.result_type; body = finish }

-- The label that a statement is.
abbrev pub label_of : Code → Option (List ℕ)
label_of (name_label name rest) = Some name
label_of finish = None
label_of (nested body rest) = None
label_of (empty rest) = None
label_of (assign target value rest) = None
label_of (call target function given rest) = None
label_of (jump label rest) = None
label_of (branch test body otherwise other rest) = None
label_of (repeat test body rest) = None
label_of (select on body rest) = None
label_of (leave value rest) = None
label_of (case_label n rest) = None
label_of (default_label rest) = None

-- The labels of statements.
abbrev pub name_before : Option (List ℕ) → List (List ℕ) → List (List ℕ)
name_before None names = names
name_before (Some name) names = name ∷ names

abbrev pub label_names : List LineTree → List (List ℕ)
label_names [] = []
label_names (l ∷ ls) = name_before (label_of l.code) (label_names ls)

-- The number of the first statement that is this label, where these are the statements from number `i` on.
abbrev pub is_label : List ℕ → Option (List ℕ) → Bool
is_label name None = false
is_label name (Some label) = bytes_eq name label

abbrev pub label_at : (i : ℕ) → List LineTree → List ℕ → Option ℕ
label_at i [] name = None
label_at i (l ∷ ls) name = if is_label name (label_of l.code) then Some i else label_at (i + 1) ls name

-- A `goto` in the statement with number `i` to the one with number `j` (6.8.6.1).
abbrev pub goes_to : Linkage → (i : ℕ) → Option ℕ → Bool
goes_to linkage i None = false
goes_to linkage i (Some j) = may_loop linkage || nat_lt i j

-- The statement with number `i`, where `find` finds labels.
abbrev pub formed_line : Checked → (find : List ℕ → Option ℕ) → (i : ℕ) → LineTree → Bool
formed_line c find i l = by_code l.code
  where
    by_code : Code → Bool
    by_code finish = true
    by_code (nested body rest) = true
    by_code (empty rest) = true
    by_code (assign target value rest) = may_assign (held_of c.scope target) (type_of c.scope value)
    by_code (call target function given rest) = formed_call (callee_of function) c target function given
    by_code (jump label rest) = goes_to c.linkage i (find label)
    by_code (branch test body otherwise other rest) = has_type c test
    by_code (repeat test body rest) = may_loop c.linkage && has_type c test
    by_code (select on body rest) = is_number (type_of c.scope on) && formed_cases (cases_of body)
    by_code (leave value rest) = formed_return c value c.result_type
    by_code (case_label n rest) = l.switched
    by_code (default_label rest) = l.switched
    by_code (name_label name rest) = true

-- The statements from number `i` on.
abbrev pub formed_lines : Checked → (find : List ℕ → Option ℕ) → (i : ℕ) → List LineTree → Bool
formed_lines c find i [] = true
formed_lines c find i (l ∷ ls) = formed_line c find i l && formed_lines c find (i + 1) ls

-- The cell that is assigned, where what an lvalue stands for is one.
abbrev pub assigned_cell : Option Held → Option TypeTree
assigned_cell (Some (one t)) = Some t
assigned_cell held = None

abbrev pub TellsCell : Nodes → Option CType → Option Held → Type 0
TellsCell nodes found held = (option_map (type_in nodes.names) found ≡ assigned_cell held) × IfSome found (HasType nodes)

-- The name that an expression is.
abbrev pub name_in : ExprTree → Option (List ℕ)
name_in (variable name) = Some name
name_in e = None

-- The literal `0`.
abbrev pub is_zero_literal : ExprTree → Bool
is_zero_literal (number (literal.Int n)) = nat_eq n 0
is_zero_literal e = false
