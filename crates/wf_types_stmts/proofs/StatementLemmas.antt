-- What is found at a statement after its parts.
use Rattle.std.proofs.Common.{◌≡◌, ◌∙◌, refl, sym, ap, ℕ, ◌+◌, ◌<◌, Bool, false, List, [], ◌∷◌, ◌++◌, length, drop, slice_index_or, Option, Some, None}
use Rattle.wf_text.specs.declared.place.Place.{Place}
use Rattle.wf_text.specs.declared.rules.Refusal.{Refusal}
use Rattle.wf_text.specs.declared.rules.Rule.TheVariants.{T2}
use Rattle.wf_text.specs.Precedence.{sooner, told}
use Rattle.wf_base.specs.declared.marks.Mark.{Mark}
use Rattle.wf_ast.specs.declared.operators.Op.{Op}
use Rattle.wf_ast.specs.declared.parsed.Given.{Given}
use Rattle.wf_ast.specs.declared.parsed.LoopClause.{LoopClause}
use Rattle.wf_named.specs.declared.nodes.NamedCallee.{NamedCallee}
use Rattle.wf_named.specs.declared.nodes.NamedPath.{NamedPath}
use Rattle.wf_named.specs.NamedTree.{NamedExprTree, number, status, truth, path, index, slice, answer, chain, convert, negation, NamedPartTree, absent, present, NamedArgTrees, call, NamedTargetTree, to_path, to_element, NamedBlockTree}
use Rattle.wf_named.specs.NamedTrees.{expr_at, clauses_at, letters_at}
use Rattle.wf_types_rules.specs.declared.meanings.Meaning.{Meaning}
use Rattle.wf_types_rules.specs.declared.meanings.PlacedMeaning.{PlacedMeaning}
use Rattle.wf_types_rules.specs.declared.settings.Setting.{Setting}
use Rattle.wf_types_rules.specs.Meanings.{place_of}
use Rattle.wf_types_rules.specs.ExprTypes.{meaning}
use Rattle.wf_types_rules.specs.Judgements.{at_if, value_of, end_value, target_place, target_meaning, target_value, right_value, not_assigned, no_value_assigned, two_operands, is_suspension_text, block_stops, closing_brace}
use Rattle.wf_types_rules.specs.Parts.{Part, target, assigned, kept, condition, letter_value, returned, yielded, whole_body, expr_parts, end_parts, target_parts, value_parts, whole_call_parts, condition_parts, clauses_parts, letters_parts}
use Rattle.wf_types_exprs.specs.Judged.{judged}
use Rattle.wf_types_exprs.proofs.JudgedLaws.{judged-append, judged-last}
use Rattle.wf_types_exprs.proofs.ListLemmas.{drop-one}
use Rattle.wf_types_stmts.specs.Statements.{target_found, assigned_found, operands_found, kept_found, condition_found, letter_found, return_found, yield_found, end_found}
use Rattle.wf_types_stmts.specs.Targets.{call_in, lacks_value}

-- Targets.
pub path_found : (s : Setting) (found : Option Refusal) (p : NamedPath) → target_found s (to_path p) found ≡ judged s found (target_parts (to_path p))
unfolding judged
path_found s found p = refl

element_alone : (s : Setting) (found : Option Refusal) (p : NamedPath) (i : NamedExprTree) (at : Place) → target_found s (to_element p i at) found ≡ judged s found (target (to_element p i at) ∷ [])
unfolding judged
element_alone s found p i at = refl

pub element_found : (s : Setting) (found begun after : Option Refusal) (p : NamedPath) (i : NamedExprTree) (at : Place) → begun ≡ target_found s (to_element p i at) found
    → after ≡ judged s begun (expr_parts (index p i at)) → after ≡ judged s found (target_parts (to_element p i at))
element_found s found begun after p i at same e =
    e ∙ ap (λ f. judged s f (expr_parts (index p i at))) (same ∙ element_alone s found p i at)
    ∙ sym (judged-append s found (target (to_element p i at) ∷ []) (expr_parts (index p i at)))

pub element_value : (s : Setting) (p : NamedPath) (i : NamedExprTree) (at : Place) (m : Option Meaning) → m ≡ meaning s (index p i at) → record { of = m; at = at } ≡ target_value s (to_element p i at)
element_value s p i at m e = let V : Option Meaning → PlacedMeaning = λ x. record { of = x; at = at } in ap V e

-- A whole after its parts.
behind : (s : Setting) (found before after : Option Refusal) (x : Part) (xs : List Part) → after ≡ judged s before (x ∷ []) → before ≡ judged s found xs → after ≡ judged s found (x ∷ xs)
behind s found before after x xs last e = last ∙ ap (λ f. judged s f (x ∷ [])) e ∙ judged-last s found x xs

-- And one list of parts after another.
pub then_parts : (s : Setting) (found before after : Option Refusal) (xs ys : List Part) → before ≡ judged s found xs → after ≡ judged s before ys → after ≡ judged s found (xs ++ ys)
then_parts s found before after xs ys first last = last ∙ ap (λ f. judged s f ys) first ∙ sym (judged-append s found xs ys)

-- `=`.
lacking : (s : Setting) (t : NamedTargetTree) (e : NamedExprTree) → at_if (lacks_value s e) (target_place t) ≡ no_value_assigned s (assigned t None e)
lacking s t (number v at) = refl
lacking s t (status n at) = refl
lacking s t (truth v at) = refl
lacking s t (path p) = refl
lacking s t (index p i at) = refl
lacking s t (slice p from to at) = refl
lacking s t (answer (call callee at mark args)) = refl
lacking s t (chain op first links at) = refl
lacking s t (convert e of at) = refl
lacking s t (negation e at) = refl

assigned_alone : (s : Setting) (found : Option Refusal) (t : NamedTargetTree) (e : NamedExprTree)
    → assigned_found (target_value s t) (right_value s e) (lacks_value s e) found ≡ judged s found (assigned t None e ∷ [])
unfolding judged
assigned_alone s found t e =
    ap (λ w. sooner (sooner found (told T2 (not_assigned (target_value s t) (right_value s e)))) (told T2 w)) (lacking s t e)

pub assigned_judged : (s : Setting) (found to before : Option Refusal) (t : NamedTargetTree) (e : NamedExprTree) (a v : PlacedMeaning) (lacks : Bool) → a ≡ target_value s t → v ≡ right_value s e → lacks ≡ lacks_value s e
    → to ≡ judged s found (target_parts t) → before ≡ judged s to (value_parts None e)
    → assigned_found a v lacks before ≡ judged s found (assigned t None e ∷ (target_parts t ++ value_parts None e))
assigned_judged s found to before t e a v lacks same value none first last =
    behind s found before (assigned_found a v lacks before) (assigned t None e) (target_parts t ++ value_parts None e)
    (ap (λ x. assigned_found x v lacks before) same ∙ ap (λ x. assigned_found (target_value s t) x lacks before) value
    ∙ ap (λ x. assigned_found (target_value s t) (right_value s e) x before) none ∙ assigned_alone s before t e)
    (then_parts s found to before (target_parts t) (value_parts None e) first last)

-- The right side of `=` where it is no call.
pub plain_right : (s : Setting) (e : NamedExprTree) → call_in e ≡ None → right_value s e ≡ value_of s e
plain_right s (number v at) h = refl
plain_right s (status n at) h = refl
plain_right s (truth v at) h = refl
plain_right s (path p) h = refl
plain_right s (index p i at) h = refl
plain_right s (slice p from to at) h = refl
plain_right s (answer c) h = absurd (cc h)
plain_right s (chain op first links at) h = refl
plain_right s (convert e of at) h = refl
plain_right s (negation e at) h = refl

pub plain_parts : (e : NamedExprTree) → call_in e ≡ None → value_parts None e ≡ expr_parts e
plain_parts (number v at) h = refl
plain_parts (status n at) h = refl
plain_parts (truth v at) h = refl
plain_parts (path p) h = refl
plain_parts (index p i at) h = refl
plain_parts (slice p from to at) h = refl
plain_parts (answer c) h = absurd (cc h)
plain_parts (chain op first links at) h = refl
plain_parts (convert e of at) h = refl
plain_parts (negation e at) h = refl

pub plain_lacks : (s : Setting) (e : NamedExprTree) → call_in e ≡ None → lacks_value s e ≡ false
plain_lacks s (number v at) h = refl
plain_lacks s (status n at) h = refl
plain_lacks s (truth v at) h = refl
plain_lacks s (path p) h = refl
plain_lacks s (index p i at) h = refl
plain_lacks s (slice p from to at) h = refl
plain_lacks s (answer c) h = absurd (cc h)
plain_lacks s (chain op first links at) h = refl
plain_lacks s (convert e of at) h = refl
plain_lacks s (negation e at) h = refl

-- An operator with `=`.
update_alone : (s : Setting) (found : Option Refusal) (t : NamedTargetTree) (op : Op) (e : NamedExprTree)
    → operands_found op (two_operands (target_value s t) (value_of s e)) found ≡ judged s found (assigned t (Some op) e ∷ [])
unfolding judged
update_alone s found t op e = refl

pub update_judged : (s : Setting) (found to before : Option Refusal) (t : NamedTargetTree) (op : Op) (e : NamedExprTree) (a v : PlacedMeaning) → a ≡ target_value s t → v ≡ value_of s e
    → to ≡ judged s found (target_parts t) → before ≡ judged s to (expr_parts e)
    → operands_found op (two_operands a v) before ≡ judged s found (assigned t (Some op) e ∷ (target_parts t ++ value_parts (Some op) e))
update_judged s found to before t op e a v same value first last =
    behind s found before (operands_found op (two_operands a v) before) (assigned t (Some op) e) (target_parts t ++ expr_parts e)
    (ap (λ x. operands_found op (two_operands x v) before) same ∙ ap (λ x. operands_found op (two_operands (target_value s t) x) before) value ∙ update_alone s before t op e)
    (then_parts s found to before (target_parts t) (expr_parts e) first last)

-- `=?`.
kept_alone : (s : Setting) (found : Option Refusal) (t : NamedTargetTree) (callee : NamedCallee) (at : Place) (mark : Mark) (args : NamedArgTrees)
    → kept_found s (target_meaning s t) callee at found ≡ judged s found (kept t (call callee at mark args) ∷ [])
unfolding judged
kept_alone s found t callee at mark args = refl

pub kept_judged : (s : Setting) (found to before : Option Refusal) (t : NamedTargetTree) (callee : NamedCallee) (at : Place) (mark : Mark) (args : NamedArgTrees) (a : PlacedMeaning) → a ≡ target_value s t
    → to ≡ judged s found (target_parts t) → before ≡ judged s to (whole_call_parts (call callee at mark args))
    → kept_found s a.of callee at before ≡ judged s found (kept t (call callee at mark args) ∷ (target_parts t ++ whole_call_parts (call callee at mark args)))
kept_judged s found to before t callee at mark args a same first last =
    behind s found before (kept_found s a.of callee at before) (kept t (call callee at mark args)) (target_parts t ++ whole_call_parts (call callee at mark args))
    (ap (λ (x : PlacedMeaning). kept_found s x.of callee at before) same ∙ kept_alone s before t callee at mark args)
    (then_parts s found to before (target_parts t) (whole_call_parts (call callee at mark args)) first last)

-- Conditions and letters.
condition_alone : (s : Setting) (found : Option Refusal) (e : NamedExprTree) → condition_found (value_of s e) found ≡ judged s found (condition e ∷ [])
unfolding judged
condition_alone s found e = refl

pub condition_judged : (s : Setting) (found before : Option Refusal) (e : NamedExprTree) (v : PlacedMeaning) → v ≡ value_of s e → before ≡ judged s found (expr_parts e)
    → condition_found v before ≡ judged s found (condition_parts e)
condition_judged s found before e v value h =
    behind s found before (condition_found v before) (condition e) (expr_parts e) (ap (λ x. condition_found x before) value ∙ condition_alone s before e) h

letter_alone : (s : Setting) (found : Option Refusal) (e : NamedExprTree) → letter_found (value_of s e) found ≡ judged s found (letter_value e ∷ [])
unfolding judged
letter_alone s found e = refl

pub letter_judged : (s : Setting) (found before : Option Refusal) (e : NamedExprTree) (v : PlacedMeaning) → v ≡ value_of s e → before ≡ judged s found (expr_parts e)
    → letter_found v before ≡ judged s found (letter_value e ∷ expr_parts e)
letter_judged s found before e v value h =
    behind s found before (letter_found v before) (letter_value e) (expr_parts e) (ap (λ x. letter_found x before) value ∙ letter_alone s before e) h

module _ (s : Setting) (ts : List NamedExprTree) (cs : List LoopClause) (i : ℕ) (d : LoopClause) (h : i < length cs) where
  pub clause_next : (before next : Option Refusal) → next ≡ judged s before (condition_parts (expr_at ts (slice_index_or cs i d).condition))
      → judged s next (clauses_parts (clauses_at ts (drop (i + 1) cs))) ≡ judged s before (clauses_parts (clauses_at ts (drop i cs)))
  clause_next before next e =
      let first = condition_parts (expr_at ts (slice_index_or cs i d).condition) in
      let others = clauses_parts (clauses_at ts (drop (i + 1) cs)) in
      ap (λ f. judged s f others) e ∙ sym (judged-append s before first others) ∙ sym (ap (λ xs. judged s before (clauses_parts (clauses_at ts xs))) (drop-one cs i d h))

module _ (s : Setting) (texts : List (List ℕ)) (ts : List NamedExprTree) (gs : List Given) (i : ℕ) (d : Given) (h : i < length gs) where
  pub letter_next : (before next : Option Refusal) → next ≡ judged s before (letter_value (expr_at ts (slice_index_or gs i d).value) ∷ expr_parts (expr_at ts (slice_index_or gs i d).value))
      → judged s next (letters_parts (letters_at texts ts (drop (i + 1) gs))) ≡ judged s before (letters_parts (letters_at texts ts (drop i gs)))
  letter_next before next e =
      let v = expr_at ts (slice_index_or gs i d).value in
      let others = letters_parts (letters_at texts ts (drop (i + 1) gs)) in
      ap (λ f. judged s f others) e ∙ sym (judged-append s before (letter_value v ∷ expr_parts v) others) ∙ sym (ap (λ xs. judged s before (letters_parts (letters_at texts ts xs))) (drop-one gs i d h))

-- Results.
return_alone : (s : Setting) (found : Option Refusal) (at : Place) (e : NamedPartTree) → return_found s (end_value s e) at found ≡ judged s found (returned at e ∷ [])
unfolding judged
return_alone s found at absent = refl
return_alone s found at (present e) = refl

pub return_judged : (s : Setting) (found before : Option Refusal) (at : Place) (e : NamedPartTree) (v : Option PlacedMeaning) → v ≡ end_value s e → before ≡ judged s found (end_parts e)
    → return_found s v at before ≡ judged s found (returned at e ∷ end_parts e)
return_judged s found before at e v value h =
    behind s found before (return_found s v at before) (returned at e) (end_parts e) (ap (λ x. return_found s x at before) value ∙ return_alone s before at e) h

yield_alone : (s : Setting) (found : Option Refusal) (at : Place) (e : NamedExprTree) → yield_found s (is_suspension_text s e) (place_of e) at found ≡ judged s found (yielded at e ∷ [])
unfolding judged
yield_alone s found at e = refl

pub yield_judged : (s : Setting) (found before : Option Refusal) (at place : Place) (e : NamedExprTree) (suspends : Bool) → suspends ≡ is_suspension_text s e → place ≡ place_of e
    → before ≡ judged s found (expr_parts e) → yield_found s suspends place at before ≡ judged s found (yielded at e ∷ expr_parts e)
yield_judged s found before at place e suspends same there h =
    behind s found before (yield_found s suspends place at before) (yielded at e) (expr_parts e)
    (ap (λ x. yield_found s x place at before) same ∙ ap (λ x. yield_found s (is_suspension_text s e) x at before) there ∙ yield_alone s before at e) h

-- The end of a body.
pub end_judged : (s : Setting) (found : Option Refusal) (body : NamedBlockTree) (stops : Bool) (at : Place) → stops ≡ block_stops body → at ≡ closing_brace body
    → end_found s stops at found ≡ judged s found (whole_body body ∷ [])
unfolding judged
end_judged s found body stops at same there = ap (λ x. end_found s x at found) same ∙ ap (λ x. end_found s (block_stops body) x found) there
