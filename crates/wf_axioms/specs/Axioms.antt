-- The axioms: comparisons of whole numbers that follow from others.
use Rattle.std.specs.Prelude.{ℕ, ◌+◌, Bool, List, [], ◌∷◌, ◌++◌, codes}
use Rattle.wf_ast.specs.Value.{compares}
use Rattle.wf_facts_exprs.specs.declared.facts.Cmp.{Cmp}
use Rattle.wf_facts_exprs.specs.declared.facts.Cmp.TheVariants.{Lt, Le, Eq, Ne, Ge, Gt}
use Rattle.wf_facts_exprs.specs.Claims.{order_of}
use Rattle.wf_axioms.specs.declared.axioms.Letter.{Letter}
use Rattle.wf_axioms.specs.declared.axioms.Letter.TheVariants.{A, B, C, D, B0, C0}
use Rattle.wf_axioms.specs.declared.axioms.Term.{Term}
use Rattle.wf_axioms.specs.declared.axioms.Term.TheVariants.{One, Sum, Zero}
use Rattle.wf_axioms.specs.declared.axioms.Axiom.{Axiom}
use Rattle.wf_axioms.specs.declared.axioms.Axiom.TheVariants.{LtByGt, LtByLtLt, LtByLtEq, LtByEqLt, LtByLtLe, LtByLeLt, GtByLt, LeByGe, LeByLeLe, LeByLeEq, LeByEqLe, GeByLe, LtSum, LtSums, LeSum, LeByLt, EqByLeLe, SumsByLeLe}

-- What follows, and what it follows from.
pub record Row : Type 0 where
  pub goal : Term × Cmp × Term
  pub premises : List (Term × Cmp × Term)

-- The table.
abbrev pub row_of : Axiom → Row
row_of LtByGt = record { goal = (One A, Lt, One B); premises = (One B, Gt, One A) ∷ [] }
row_of LtByLtLt = record { goal = (One A, Lt, One B); premises = (One A, Lt, One C) ∷ (One C, Lt, One B) ∷ [] }
row_of LtByLtEq = record { goal = (One A, Lt, One B); premises = (One A, Lt, One C) ∷ (One C, Eq, One B) ∷ [] }
row_of LtByEqLt = record { goal = (One A, Lt, One B); premises = (One A, Eq, One C) ∷ (One C, Lt, One B) ∷ [] }
row_of LtByLtLe = record { goal = (One A, Lt, One B); premises = (One A, Lt, One C) ∷ (One C, Le, One B) ∷ [] }
row_of LtByLeLt = record { goal = (One A, Lt, One B); premises = (One A, Le, One C) ∷ (One C, Lt, One B) ∷ [] }
row_of GtByLt = record { goal = (One A, Gt, One B); premises = (One B, Lt, One A) ∷ [] }
row_of LeByGe = record { goal = (One A, Le, One B); premises = (One B, Ge, One A) ∷ [] }
row_of LeByLeLe = record { goal = (One A, Le, One B); premises = (One A, Le, One C) ∷ (One C, Le, One B) ∷ [] }
row_of LeByLeEq = record { goal = (One A, Le, One B); premises = (One A, Le, One C) ∷ (One C, Eq, One B) ∷ [] }
row_of LeByEqLe = record { goal = (One A, Le, One B); premises = (One A, Eq, One C) ∷ (One C, Le, One B) ∷ [] }
row_of GeByLe = record { goal = (One A, Ge, One B); premises = (One B, Le, One A) ∷ [] }
row_of LtSum = record { goal = (One A, Lt, Sum B C); premises = (One A, Lt, One C) ∷ (Zero, Le, One B) ∷ [] }
row_of LtSums = record { goal = (One A, Lt, Sum B C); premises = (One A, Lt, Sum B0 C0) ∷ (One B0, Le, One B) ∷ (One C0, Le, One C) ∷ [] }
row_of LeSum = record { goal = (One A, Le, Sum A B); premises = (Zero, Le, One B) ∷ [] }
row_of LeByLt = record { goal = (One A, Le, One B); premises = (One A, Lt, One B) ∷ [] }
row_of EqByLeLe = record { goal = (One A, Eq, One B); premises = (One A, Le, One B) ∷ (One B, Le, One A) ∷ [] }
row_of SumsByLeLe = record { goal = (Sum A C, Le, Sum B D); premises = (One A, Le, One B) ∷ (One C, Le, One D) ∷ [] }

-- How an axiom is written: what follows, a colon, and the premises.
abbrev pub letter_text : Letter → List ℕ
letter_text A = codes "a"
letter_text B = codes "b"
letter_text C = codes "c"
letter_text D = codes "d"
letter_text B0 = codes "b0"
letter_text C0 = codes "c0"

abbrev pub term_text : Term → List ℕ
term_text (One l) = letter_text l
term_text (Sum l m) = codes "(" ++ letter_text l ++ codes " + " ++ letter_text m ++ codes ")"
term_text Zero = codes "0"

abbrev pub cmp_text : Cmp → List ℕ
cmp_text Lt = codes " < "
cmp_text Le = codes " <= "
cmp_text Eq = codes " == "
cmp_text Ne = codes " <> "
cmp_text Ge = codes " >= "
cmp_text Gt = codes " > "

abbrev pub comparison_text : Term × Cmp × Term → List ℕ
comparison_text c = term_text c.0 ++ cmp_text c.1 ++ term_text c.2

abbrev pub premises_text : List (Term × Cmp × Term) → List ℕ
premises_text [] = []
premises_text (c ∷ []) = comparison_text c
premises_text (c ∷ d ∷ cs) = comparison_text c ++ codes "; " ++ premises_text (d ∷ cs)

abbrev pub axiom_text : Axiom → List ℕ
axiom_text a = comparison_text (row_of a).goal ++ codes ": " ++ premises_text (row_of a).premises

-- A comparison of whole numbers, where each letter stands for one.
abbrev pub term_value : (Letter → ℕ) → Term → ℕ
term_value n (One l) = n l
term_value n (Sum l m) = n l + n m
term_value n Zero = 0

abbrev pub holds : (Letter → ℕ) → Term × Cmp × Term → Bool
holds n c = compares (order_of c.1) (term_value n c.0) (term_value n c.2)
