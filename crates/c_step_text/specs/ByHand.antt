-- A text by hand, of the body
--     l: switch (1) { case 1: ; default: ; } while (1) { if (1) { goto l; } else { ; } } return;
-- Its numbers 6 and 11 are of no statement.
use Rattle.std.specs.Prelude.{[], ◌∷◌, List, Option, None, codes}
use Rattle.wf_num.specs.declared.c_arithmetic.CTy.TheVariants.{Int}
use Rattle.c_text.specs.declared.kinds.CNumber.TheVariants as literal
use Rattle.c_text.specs.declared.kinds.Otherwise.{Otherwise}
use Rattle.c_text.specs.CTree.{TypeTree, ExprTree, number, Code, finish, empty, jump, branch, repeat, select, leave, case_label, default_label, name_label}
use Rattle.c_meaning.specs.CTypes.{Function, CScope}
use Rattle.c_meaning.specs.CStep.{by_name}
use Rattle.c_step_exprs.specs.declared.instrs.Instr.TheVariants as does
use Rattle.c_step_exprs.specs.declared.instrs.Put.TheVariants as put
use Rattle.c_step_text.specs.Flat.{Span, Goto, Test, Back, Switch, Finish, Stuck, FlatText}
use Rattle.c_step_text.specs.Layout.{Names, seek}

abbrev pub one : ExprTree
one = number (literal.Int 1)

abbrev pub body_by_hand : Otherwise → Code
body_by_hand otherwise =
    name_label (codes "l")
    (select one (case_label (literal.Int 1) (empty (default_label (empty finish))))
    (repeat one (branch one (jump (codes "l") finish) otherwise (empty finish) finish)
    (leave None finish)))

abbrev pub all_of_one : Span
all_of_one = record { from = 0; to = 1 }

abbrev pub text_by_hand : FlatText
text_by_hand = record {
  statements =
      Goto 1
      ∷ Switch all_of_one all_of_one 4
      ∷ Goto 3
      ∷ Goto 4
      ∷ Goto 5
      ∷ Goto 7
      ∷ Stuck
      ∷ Test all_of_one 8 13
      ∷ Test all_of_one 9 10
      ∷ Goto 0
      ∷ Goto 12
      ∷ Stuck
      ∷ Back all_of_one 8 13
      ∷ Finish
      ∷ Finish
      ∷ [];
  exprs = does.Put (put.Number (record { ty = Int; bits = 1 })) ∷ [];
  arms = record { number = record { ty = Int; bits = 1 }; target = 2 } ∷ [];
}

abbrev pub names_by_hand : CScope → List Function → Option TypeTree → Otherwise → Names
names_by_hand scope callable result_type otherwise = record { scope = scope; callable = callable; result_type = result_type; labels = λ name. seek (by_name name) 0 (body_by_hand otherwise) }
