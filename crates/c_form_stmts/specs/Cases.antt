-- The cases of a `switch` by its statements (6.8.4.2p3).
use Rattle.std.specs.Prelude.{ℕ, Bool, true, false, not, ◌&&◌, List, [], ◌∷◌, nat_eq}
use Rattle.std.specs.List.{list_any}
use Rattle.indexmap.specs.IndexSet.{insert_key}
use Rattle.c_text.specs.declared.kinds.CNumber.TheVariants as literal
use Rattle.c_text.specs.CTree.{Code, finish, nested, empty, assign, call, jump, branch, repeat, select, leave, case_label, default_label, name_label}
use Rattle.c_form_stmts.specs.declared.cases.Mark.{Mark}
use Rattle.c_form_stmts.specs.declared.cases.Mark.TheVariants as mark
use Rattle.c_form_stmts.specs.Lines.{LineTree}

-- What a statement is for the `switch` round it.
abbrev pub mark_of : Code → Mark
mark_of (case_label n rest) = mark.Case n
mark_of (default_label rest) = mark.Default
mark_of finish = mark.None
mark_of (nested body rest) = mark.None
mark_of (empty rest) = mark.None
mark_of (assign target value rest) = mark.None
mark_of (call target function given rest) = mark.None
mark_of (jump label rest) = mark.None
mark_of (branch test body otherwise other rest) = mark.None
mark_of (repeat test body rest) = mark.None
mark_of (select on body rest) = mark.None
mark_of (leave value rest) = mark.None
mark_of (name_label name rest) = mark.None

-- A statement with this mark after the cases that were seen; `rest` tells whether what follows it fits.
abbrev pub case_fits : Mark → (seen : List ℕ) → (has_default : Bool) → (rest : List ℕ → Bool → Bool) → Bool
case_fits (mark.Case (literal.Int n)) seen has_default rest = not (list_any (nat_eq n) seen) && rest (insert_key nat_eq seen n) has_default
case_fits (mark.Case (literal.Unsigned n)) seen has_default rest = false
case_fits (mark.Case (literal.Long n)) seen has_default rest = false
case_fits mark.Default seen has_default rest = not has_default && rest seen true
case_fits mark.None seen has_default rest = rest seen has_default

-- The statements from here on have cases that are plain and differ from the ones seen and from each other, and no second
-- `default`.
abbrev pub cases_fit : (seen : List ℕ) → (has_default : Bool) → List LineTree → Bool
cases_fit seen has_default [] = true
cases_fit seen has_default (l ∷ ls) = case_fits (mark_of l.code) seen has_default (λ s d. cases_fit s d ls)
