-- Assertions, alone and by an axiom.
use Rattle.std.specs.Prelude.{ℕ, ◌+◌, Bool, false, List, [], ◌∷◌, length, map, Option, None, Some, Result, Ok, Err, bytes_eq, min}
use Rattle.std.specs.List.{find}
use Rattle.wf_text.specs.declared.place.Place.{Place}
use Rattle.wf_text.specs.declared.rules.Rule.TheVariants.{B6, B7}
use Rattle.wf_text.specs.declared.rules.Refusal.{Refusal}
use Rattle.wf_ast.specs.TypedTree.{NumTree, CondTree}
use Rattle.wf_ast.specs.TypedTree as typed
use Rattle.wf_facts_exprs.specs.declared.facts.Cmp.{Cmp}
use Rattle.wf_facts_exprs.specs.Claims.{Claim, compared, stands, is_among}
use Rattle.wf_facts_exprs.specs.Given.{gives_sides}
use Rattle.wf_facts_exprs.specs.Demands.{demand, or_else, num_refusal, cond_refusal}
use Rattle.wf_axioms.specs.declared.axioms.Term.{Term}
use Rattle.wf_axioms.specs.declared.axioms.Axiom.{Axiom}
use Rattle.wf_axioms.specs.declared.axioms.Axiom.TheVariants.{LtByGt, LtByLtLt, LtByLtEq, LtByEqLt, LtByLtLe, LtByLeLt, GtByLt, LeByGe, LeByLeLe, LeByLeEq, LeByEqLe, GeByLe, LtSum, LtSums, LeSum, LeByLt, EqByLeLe, SumsByLeLe}
use Rattle.wf_axioms.specs.declared.asked.AxiomFault.{AxiomFault}
use Rattle.wf_axioms.specs.Axioms.{row_of, comparison_text, axiom_text}
use Rattle.wf_axioms.specs.Matching.{premises_for}
use Rattle.wf_loops.specs.LoopRules.{required}

-- The axiom that is written so.
abbrev pub axioms : List Axiom
axioms =
    LtByGt ∷ LtByLtLt ∷ LtByLtEq ∷ LtByEqLt ∷ LtByLtLe ∷ LtByLeLt ∷ GtByLt ∷ LeByGe ∷ LeByLeLe ∷ LeByLeEq ∷ LeByEqLe ∷ GeByLe ∷ LtSum ∷ LtSums ∷ LeSum
    ∷ LeByLt ∷ EqByLeLe ∷ SumsByLeLe ∷ []

abbrev pub axiom_named : List ℕ → Option Axiom
axiom_named text = find (λ a. bytes_eq (axiom_text a) text) axioms

-- Where the premises of an axiom begin in its text: after what follows from them and a colon, and after each other with a
-- semicolon.
abbrev pub offsets_from : (first : ℕ) → List (Term × Cmp × Term) → List ℕ
offsets_from n [] = []
offsets_from n (c ∷ cs) = n ∷ offsets_from (n + length (comparison_text c) + 2) cs

abbrev pub premise_offsets : Axiom → List ℕ
premise_offsets a = offsets_from (length (comparison_text (row_of a).goal) + 2) (row_of a).premises

-- The place of a byte inside a text that begins with its opening quote at a place. The last column that a place can have
-- stands for all beyond it, which no file reaches.
abbrev pub inside_text : (text : Place) → (offset : ℕ) → Place
inside_text text n = record { file = text.file; line = text.line; col = min (text.col + 1 + n) 4294967295 }

-- Every premise has to be given. It is refused at its first byte inside the text.
abbrev pub claim_given : List Claim → Claim → Bool
claim_given fs (compared x op y) = gives_sides fs x op y
claim_given fs (stands c answer) = is_among fs (stands c answer)

abbrev pub premises_refusal : List Claim → List Place → List Claim → Option Refusal
premises_refusal fs (at ∷ places) (premise ∷ premises) = or_else (demand (claim_given fs premise) B7 at) (premises_refusal fs places premises)
premises_refusal fs places premises = None

-- An axiom that isn't known, or that doesn't match the condition and what is given, is refused at the text.
abbrev pub matched_refusal : List Claim → (text : Place) → Axiom → Result (List Claim) AxiomFault → Option Refusal
matched_refusal fs text a (Err fault) = Some (record { rule = B6; at = text })
matched_refusal fs text a (Ok premises) = premises_refusal fs (map (inside_text text) (premise_offsets a)) premises

abbrev pub axiom_refusal : List Claim → (text : Place) → CondTree → (given : List (List ℕ × NumTree)) → Option Axiom → Option Refusal
axiom_refusal fs text goal given None = Some (record { rule = B6; at = text })
axiom_refusal fs text goal given (Some a) = matched_refusal fs text a (premises_for a goal given)

-- What is given for the letters is checked in written order.
abbrev pub given_refusal : List Claim → List (List ℕ × NumTree) → Option Refusal
given_refusal fs [] = None
given_refusal fs (g ∷ gs) = or_else (num_refusal fs false g.1) (given_refusal fs gs)

-- An assertion alone is required. By an axiom its condition is checked, and follows from the axiom's premises. `at` is the
-- statement's place.
abbrev pub claim_refusal : List Claim → (at : Place) → CondTree → Option typed.Axiom → Option Refusal
claim_refusal fs at goal None = required fs B6 at goal
claim_refusal fs at goal (Some a) =
    or_else (cond_refusal fs goal) (or_else (given_refusal fs a.given) (axiom_refusal fs a.at goal a.given (axiom_named a.text)))
