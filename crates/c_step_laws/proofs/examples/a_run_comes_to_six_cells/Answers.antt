use Rattle.std.proofs.Common.{inl, inr, [], ◌∷◌, Some, refl}
use Rattle.std.specs.Prelude.{codes}
use Rattle.c_text.specs.CTree.{expr_arg, no_arg}
use Rattle.c_meaning.specs.TextWords.{v, n}
use Rattle.c_step_laws.specs.ChainText.{first_object, second_object}
use Rattle.c_step_laws.specs.Passing.{callee, begins, goes}
use Rattle.c_step_laws.proofs.examples.a_run_comes_to_six_cells.Goals as goal

pub returns-clause-passes : goal.returns-clause-passes
returns-clause-passes c = record {
  turns = 1;
  enters = refl;
  object = first_object;
  is = refl;
  there = goes (first_object ∷ []) 0 _ refl refl (callee (record { target = Some (v "r"); function = codes "quadruple"; given = expr_arg (n 3) no_arg; rest = _; is = refl; of_text = refl; values = _; given_is = refl })
      (record {
        turns = 0;
        enters = refl;
        object = second_object;
        is = refl;
        there = begins 0 (first_object ∷ second_object ∷ []) refl (inr (record {
          it = record { function = codes "twice"; given = expr_arg (v "y") no_arg };
          stands = inl refl;
          values = _;
          given = refl;
          there = record { object = _; is = refl; there = inl refl };
        }));
      }));
}
