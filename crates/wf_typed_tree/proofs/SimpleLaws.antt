-- Every statement without blocks of its own keeps the rules.
use Rattle.std.proofs.Common.{◌≡◌, ℕ, zero, suc, Bool, true, false, not, ◌&&◌, ◌||◌, List, [], ◌∷◌, ◌++◌, length, map, Option, Some, None, refl, sym, ◌∙◌, subst, arith, nat_eq, nat_lt}
use Rattle.std.specs.Prelude.{option_map, option_and_then, is_some, slice_get, if◌then◌else◌}
use Rattle.std.specs.List.{list_all, list_any}
use Rattle.std.proofs.lemmas.Bool.Decides.{nat_tests}
use Rattle.wf_text.specs.declared.place.Place.{Place}
use Rattle.wf_text.specs.declared.rules.Rule.TheVariants.{T1, T2, T4, T5, E2, E5}
use Rattle.wf_base.specs.declared.marks.Mark.{Mark}
use Rattle.wf_base.specs.declared.marks.Mark.TheVariants.{Pure, Impure, Coroutine}
use Rattle.wf_base.specs.declared.widths.Width.{Width}
use Rattle.wf_base.specs.BaseTable.{bits_of}
use Rattle.wf_ast.specs.declared.operators.Op.{Op}
use Rattle.wf_ast.specs.declared.types.Ty.{Ty}
use Rattle.wf_ast.specs.declared.types.Ty.TheVariants as types
use Rattle.wf_ast.specs.BaseStatuses.{base_statuses}
use Rattle.wf_ast.specs.TypedTree.{Arith, NumTree, link, numeric, Target, ValueTree}
use Rattle.wf_ast.specs.TypedTree as typed
use Rattle.wf_ast.specs.TypedTrees.{OperatorKind, arithmetic, operator_kind, num_in, cond_in, chain_of, arithmetic_of}
use Rattle.wf_ast.specs.Same.{same_arith, arith_number}
use Rattle.wf_ast.specs.WellTyped.{Context, is_coroutine, may_go_into, is_shift, is_whole_number, well_part, well_num, well_cond, fits_type, well_assigned, is_operator, well_returned, is_suspension, well_axiom, well_simple}
use Rattle.wf_ast.specs.OperatorForms.{updates, is_arithmetic}
use Rattle.wf_named.specs.NamedTree.{NamedExprTree, status, answer, NamedPartTree, absent, present, NamedTypeTree, NamedTargetTree, LetterTrees, no_letter, more_letters, NamedViaTree, by_itself, via, Word, NamedMethodTree, NamedPackageTree}
use Rattle.wf_named.specs.WellNamed.{named_expr, named_part, named_target, named_letters, named_via}
use Rattle.wf_named.specs.Grammar.{by_grammar, end_by_grammar, target_by_grammar, letters_by_grammar, via_by_grammar}
use Rattle.wf_types_rules.specs.declared.meanings.Meaning.{Meaning}
use Rattle.wf_types_rules.specs.declared.meanings.Meaning.TheVariants as meanings
use Rattle.wf_types_rules.specs.declared.meanings.Operand.{Operand}
use Rattle.wf_types_rules.specs.Meanings.{all_of, constant_number, place_of}
use Rattle.wf_types_rules.specs.Meanings as meant
use Rattle.wf_types_rules.specs.Operands.{not_taken, not_fitting, not_shifted, not_of_one_width, common_width, left_width, are_taken, given, number_in, meaning_of_operator}
use Rattle.wf_types_rules.specs.ExprTypes.{operand_at, meaning}
use Rattle.wf_types_rules.specs.declared.settings.Role.TheVariants as roles
use Rattle.wf_types_rules.specs.DeclaredTypes.{declared, for_types}
use Rattle.wf_types_rules.specs.Parts.{expr_parts, end_parts, letters_parts, via_parts, condition_parts, target_parts, value_parts, assigned, returned, yielded}
use Rattle.wf_types_rules.specs.Judgements.{fails, both_fail, target_meaning, type_in, target_type, target_place, wrong_assigned, updated, wrong_update, unfit_update, wrong_result, wrong_return, yielded_outside, wrong_yield, is_suspension_text, wrong_letter}
use Rattle.wf_types_rules.specs.Judgements as judged
use Rattle.wf_types_rules.proofs.TypeRows as rows
use Rattle.wf_typed_tree.specs.ElaboratedExprs.{type_meant, number_or, expr_tree}
use Rattle.wf_typed_tree.specs.ElaboratedStmts.{unrefined, type_of_update, written_to, target_tree, update_tree, assign_tree, returned_tree, status_in, letter_trees, axiom_tree, loop_meant}
use Rattle.wf_typed_tree.specs.ElaboratedPackage.{seen_text, type_declared, typed_package}
use Rattle.wf_typed_tree.specs.MeaningTrees.{IsNumber, HasMeaning}
use Rattle.wf_typed_tree.proofs.NumberLemmas.{both, and-true, or-left, or-right, same-self, width-fits, varies-whole, whole-number}
use Rattle.wf_typed_tree.proofs.NoBreaks.{AllFine, fine-split, at-none, not-not, holds, both-hold}
use Rattle.wf_typed_tree.proofs.OperandLaws.{one-width-parts}
use Rattle.wf_typed_tree.proofs.OperatorLaws.{arithmetic-means}
use Rattle.wf_typed_tree.proofs.AllOperators.{shift-parts, shift-means, whole-tree, status-of}
use Rattle.wf_typed_tree.proofs.KnownMeanings.{HasValue, then-known, map-known, front-known}
use Rattle.wf_typed_tree.proofs.Agreement.{PackageIs, MethodIs, typed-statuses}
use Rattle.wf_typed_tree.proofs.DeclarationLaws.{declared-is}
use Rattle.wf_typed_tree.proofs.ValueLaws.{goes-into, fits-value, Accepts}
use Rattle.wf_typed_tree.proofs.BodyLaws.{around, names, context, ValueOf, value-of, condition-keeps, TargetIs}
use Rattle.wf_typed_tree.proofs.ArgLaws.{value-is}
use Rattle.wf_typed_tree.proofs.CallStmtLaws.{target-is}
use Rattle.wf_typed_tree.proofs.AssignedCallLaws.{call-assigned-keeps}

-- An operator with `=` gives a number of its target's width.
number-sort : (sort : OperatorKind) → is_arithmetic sort ≡ true → (op : Arith) × (sort ≡ arithmetic op)
number-sort (arithmetic op) h = (op, refl)
number-sort sort h = absurd (cc h)

first-number : (op : Arith) (o q : Operand) → not_taken (arithmetic op) (o ∷ q ∷ []) ≡ None → meant.is_number o.of ≡ true
first-number op o q h = by_shift (is_shift op) h
  where
    by_shift : (b : Bool) → (if b then not_shifted (o ∷ q ∷ []) else not_of_one_width None (o ∷ q ∷ [])) ≡ None → meant.is_number o.of ≡ true
    by_shift true k = (shift-parts o q k).left
    by_shift false k = (one-width-parts None o (q ∷ []) k).number

given-number : (op : Arith) (at : Place) (width : Width) (lo hi : ℕ) (q : Operand)
    → given (arithmetic op) (operand_at at (meanings.Typed (types.Num width lo hi)) ∷ q ∷ []) ≡ Some (meanings.Typed (all_of width))
given-number op at width lo hi q = by_shift (is_shift op)
  where
    all : List Operand
    all = operand_at at (meanings.Typed (types.Num width lo hi)) ∷ q ∷ []

    by_shift : (b : Bool) → number_in (if b then left_width all else common_width all) ≡ Some (meanings.Typed (all_of width))
    by_shift true = refl
    by_shift false = refl

operator-is : (sort : OperatorKind) (os : List Operand) (m : Meaning) → not_taken sort os ≡ None → not_fitting sort os ≡ None → given sort os ≡ Some m → meaning_of_operator sort os ≡ Some m
operator-is sort os m h k g = let taken : are_taken sort os ≡ true = rw (h, k) refl in rw taken g

update-means : (c : Context) (sign : Place) (op : Arith) (o q : Operand) (t u : ValueTree) (m : Meaning) → meaning_of_operator (arithmetic op) (o ∷ q ∷ []) ≡ Some m
    → HasMeaning c o.of t → HasMeaning c q.of u
    → HasMeaning c m (number_or sign (constant_number m) (chain_of sign (sign ∷ []) (type_meant (Some m)) (arithmetic op) (t ∷ u ∷ [])))
update-means c sign op o q t u m h k l = by_shift (is_shift op) refl
  where
    by_shift : (b : Bool) → is_shift op ≡ b → HasMeaning c m (number_or sign (constant_number m) (chain_of sign (sign ∷ []) (type_meant (Some m)) (arithmetic op) (t ∷ u ∷ [])))
    by_shift true e = shift-means c sign (sign ∷ []) op o q t u m e h (k, (l, tt))
    by_shift false e = arithmetic-means c sign (sign ∷ []) op o q [] t u [] m e h (k, (l, tt))

update-well : (c : Context) (target : Target) (at sign : Place) (op : Arith) (ty : Ty) (q : Operand) (t u : ValueTree)
    → not_taken (arithmetic op) (operand_at at (meanings.Typed ty) ∷ q ∷ []) ≡ None → not_fitting (arithmetic op) (operand_at at (meanings.Typed ty) ∷ q ∷ []) ≡ None
    → HasMeaning c (meanings.Typed ty) t → HasMeaning c q.of u → Accepts c ty target
    → (well_assigned c target (chain_of sign (sign ∷ []) (unrefined ty) (arithmetic op) (t ∷ u ∷ [])) && is_operator op (chain_of sign (sign ∷ []) (unrefined ty) (arithmetic op) (t ∷ u ∷ []))) ≡ true
update-well c target at sign op (types.Num width lo hi) q t u taken fitting left right accepts =
    let o : Operand = operand_at at (meanings.Typed (types.Num width lo hi)) in
    let means = operator-is (arithmetic op) (o ∷ q ∷ []) (meanings.Typed (all_of width)) taken fitting (given-number op at width lo hi q) in
    let tree : IsNumber c (bits_of width) (numeric (link sign sign op (bits_of width) false (num_in t) (num_in u))) = update-means c sign op o q t u (meanings.Typed (all_of width)) means left right in
    let same : link sign sign op (bits_of width) false (num_in t) (num_in u) ≡ tree.tree = cc tree.is in
    let F : NumTree → Type 0 = λ z. (may_go_into (bits_of width) z && well_num c z) ≡ true in
    let fit = subst F (sym same)
    (and-true (may_go_into (bits_of width) tree.tree) (well_num c tree.tree) (goes-into (bits_of width) tree.tree (width-fits tree.tree (bits_of width) tree.width))
    (and-true (is_whole_number tree.tree) (well_part c tree.tree) (varies-whole tree.tree tree.varies) tree.well)) in
    and-true (well_assigned c target (numeric (link sign sign op (bits_of width) false (num_in t) (num_in u)))) (same_arith op op)
    (accepts.assigned (numeric (link sign sign op (bits_of width) false (num_in t) (num_in u))) fit) (same-self (arith_number op))
update-well c target at sign op ty q t u taken fitting left right accepts = absurd (cc (first-number op (operand_at at (meanings.Typed ty)) q taken))

-- A method without a result gives nothing back; the texts of a suspension are those that a caller sees.
nothing-returned : {X : Type 0} (c : Context) (mark : Mark) (f : NamedTypeTree → X) (g : NamedTypeTree → Ty) (o : Option NamedTypeTree) → (is_coroutine mark || is_some (option_map f o)) ≡ false
    → well_returned c mark (option_map g o) None ≡ true
nothing-returned c Pure f g None h = refl
nothing-returned c Impure f g None h = refl
nothing-returned c Pure f g (Some t) h = absurd (cc h)
nothing-returned c Impure f g (Some t) h = absurd (cc h)
nothing-returned c Coroutine f g o h = absurd (cc h)

status-returned : (c : Context) (given : Option Ty) (m : Meaning) (t : ValueTree) → meant.is_status m ≡ true → HasMeaning c m t → well_returned c Coroutine given (Some t) ≡ true
status-returned c given m t h k =
    let it = status-of c m t h k in let P : ValueTree → Type 0 = λ u. well_returned c Coroutine given (Some u) ≡ true in subst P (sym it.is) it.well

kept-category : (name text : List ℕ) → is_suspension (Some text) ≡ is_suspension (Some (seen_text name text))
kept-category name [] = refl
kept-category name (byte ∷ rest) = refl

same-suspension : (name : List ℕ) (texts : List (List ℕ)) (ws : List Word) (k : ℕ)
    → is_suspension (slice_get (texts ++ map (λ (w : Word). w.text) ws) k) ≡ is_suspension (slice_get (texts ++ map (λ (w : Word). seen_text name w.text) ws) k)
same-suspension name [] [] k = refl
same-suspension name [] (w ∷ ws) zero = kept-category name w.text
same-suspension name [] (w ∷ ws) (suc k) = same-suspension name [] ws k
same-suspension name (x ∷ xs) ws zero = refl
same-suspension name (x ∷ xs) ws (suc k) = same-suspension name xs ws k

-- A jump means one of the loops round it.
pub among-loops : (loops : List ℕ) (k : ℕ) → nat_lt k (length loops) ≡ true → list_any (nat_eq (loop_meant loops k)) loops ≡ true
among-loops [] k h = absurd (grind (arith, nat_tests, h))
among-loops (w ∷ loops) zero h = or-left (nat_eq w w) (list_any (nat_eq w) loops) (same-self w)
among-loops (w ∷ loops) (suc k) h = or-right (nat_eq (loop_meant loops k) w) (list_any (nat_eq (loop_meant loops k)) loops) (among-loops loops k (grind (arith, nat_tests, h)))

module _ (p : NamedPackageTree) (n : ℕ) (m : NamedMethodTree) (is : MethodIs p m) (whole : PackageIs p) where
  target-typed : (t : NamedTargetTree) (to : TargetIs p n m is t) → target_type (around p n m is) t ≡ Some to.ty
  target-typed t to = then-known type_in (target_meaning (around p n m is) t) (meanings.Typed to.ty) to.ty to.means refl

  -- Assignments.
  value-assigned : (loops : List ℕ) (t : NamedTargetTree) (sign : Place) (e : NamedExprTree) → AllFine p (around p n m is) (assigned t None e ∷ (target_parts t ++ value_parts None e))
      → target_by_grammar t ≡ true → by_grammar e ≡ true → named_target (names p n m is) t ≡ true → named_expr (names p n m is) e ≡ true
      → well_simple (context p n m is) loops (assign_tree (around p n m is) t None sign e) ≡ true
  value-assigned loops t sign (answer c) h gt ge kt ke = call-assigned-keeps p n m is whole loops t c h gt ge kt ke
  value-assigned loops t sign e h gt ge kt ke =
      let parts = fine-split p (around p n m is) (target_parts t) (expr_parts e) h.1 in
      let to = target-is p n m is whole t parts.0 gt kt in
      let it = value-of p n m is e parts.1 ge ke in
      let taken = both-hold judged.takes (target_type (around p n m is) t) (meaning (around p n m is) e) to.ty it.of (target-typed t to) it.means
      (at-none _ (target_place t) (h.0 T2 wrong_assigned rows.wrong_assigned)) in
      let of : ValueTree = expr_tree (around p n m is) e in
      to.accepts.assigned of (fits-value (context p n m is) to.ty it.of of taken (value-is p n m is it.of of it.tree) it.tree)

  updated-value : (loops : List ℕ) (t : NamedTargetTree) (op : Op) (sign : Place) (e : NamedExprTree) → AllFine p (around p n m is) (assigned t (Some op) e ∷ (target_parts t ++ expr_parts e))
      → is_arithmetic (operator_kind op) ≡ true → target_by_grammar t ≡ true → by_grammar e ≡ true → named_target (names p n m is) t ≡ true → named_expr (names p n m is) e ≡ true
      → well_simple (context p n m is) loops (typed.assign (target_tree (around p n m is) t) (arithmetic_of (operator_kind op)) (update_tree (around p n m is) t op sign e)) ≡ true
  updated-value loops t op sign e h number gt ge kt ke =
      let parts = fine-split p (around p n m is) (target_parts t) (expr_parts e) h.1 in
      let to = target-is p n m is whole t parts.0 gt kt in
      let it = value-of p n m is e parts.1 ge ke in
      let sort = number-sort (operator_kind op) number in
      let o : Operand = operand_at (target_place t) (meanings.Typed to.ty) in
      let q : Operand = operand_at (place_of e) it.of in
      let all : updated (around p n m is) t e ≡ Some (o ∷ q ∷ []) =
      front-known _ _ o (q ∷ []) (map-known (operand_at (target_place t)) (target_meaning (around p n m is) t) (meanings.Typed to.ty) to.means)
      (front-known _ (Some []) q [] (map-known (operand_at (place_of e)) (meaning (around p n m is) e) it.of it.means) refl) in
      let T : Option (List Operand) → Type 0 = λ x. option_and_then (not_taken (operator_kind op)) x ≡ None in
      let U : Option (List Operand) → Type 0 = λ x. option_and_then (not_fitting (operator_kind op)) x ≡ None in
      let taken = subst T all (h.0 T1 wrong_update rows.wrong_update) in
      let fitting = subst U all (h.0 T5 unfit_update rows.unfit_update) in
      let TS : OperatorKind → Type 0 = λ s. not_taken s (o ∷ q ∷ []) ≡ None in
      let US : OperatorKind → Type 0 = λ s. not_fitting s (o ∷ q ∷ []) ≡ None in
      let target : Target = target_tree (around p n m is) t in
      let left : ValueTree = written_to (around p n m is) t in
      let right : ValueTree = expr_tree (around p n m is) e in
      let Q : OperatorKind → Type 0 = λ s. well_simple (context p n m is) loops (typed.assign target (arithmetic_of s) (chain_of sign (sign ∷ []) (type_of_update (around p n m is) t) s (left ∷ right ∷ []))) ≡ true in
      let R : Option Meaning → Type 0 = λ x. well_simple (context p n m is) loops (typed.assign target (Some sort.0) (chain_of sign (sign ∷ []) (unrefined (type_meant x)) (arithmetic sort.0) (left ∷ right ∷ []))) ≡ true in
      subst Q (sym sort.1)
      (subst R (sym to.means)
      (update-well (context p n m is) target (target_place t) sign sort.0 to.ty q left right (subst TS sort.1 taken) (subst US sort.1 fitting) to.value it.tree to.accepts))

  pub assign-keeps : (loops : List ℕ) (t : NamedTargetTree) (op : Option Op) (sign : Place) (e : NamedExprTree) → AllFine p (around p n m is) (assigned t op e ∷ (target_parts t ++ value_parts op e))
      → updates op ≡ true → target_by_grammar t ≡ true → by_grammar e ≡ true → named_target (names p n m is) t ≡ true → named_expr (names p n m is) e ≡ true
      → well_simple (context p n m is) loops (assign_tree (around p n m is) t op sign e) ≡ true
  assign-keeps loops t None sign e h u gt ge kt ke = value-assigned loops t sign e h gt ge kt ke
  assign-keeps loops t (Some op) sign e h u gt ge kt ke = updated-value loops t op sign e h u gt ge kt ke

  -- Results.
  result-fits : (mark : Mark) (t : NamedTypeTree) (e : NamedExprTree) (it : ValueOf p n m is e)
      → both_fail judged.takes (declared (for_types p) (roles.Result mark) t) (meaning (around p n m is) e) ≡ false → HasValue (declared (for_types p) (roles.Result mark) t)
      → fits_type (context p n m is) (type_declared p (roles.Result mark) t) (expr_tree (around p n m is) e) ≡ true
  result-fits mark t e it h ty =
      let taken = both-hold judged.takes (declared (for_types p) (roles.Result mark) t) (meaning (around p n m is) e) ty.0 it.of ty.1 it.means h in
      let of : ValueTree = expr_tree (around p n m is) e in
      let F : Ty → Type 0 = λ z. fits_type (context p n m is) z of ≡ true in
      subst F (sym (declared-is p (roles.Result mark) t ty.0 ty.1)) (fits-value (context p n m is) ty.0 it.of of taken (value-is p n m is it.of of it.tree) it.tree)

  value-returned : (mark : Mark) (o : Option NamedTypeTree) (e : NamedExprTree) (it : ValueOf p n m is e)
      → (if is_coroutine mark then fails meant.is_status (meaning (around p n m is) e) else wrong_result (option_map (declared (for_types p) (roles.Result mark)) o) (meaning (around p n m is) e)) ≡ false
      → ((t : NamedTypeTree) → o ≡ Some t → HasValue (declared (for_types p) (roles.Result mark) t))
      → well_returned (context p n m is) mark (option_map (type_declared p (roles.Result mark)) o) (Some (expr_tree (around p n m is) e)) ≡ true
  value-returned Coroutine o e it h all =
      status-returned (context p n m is) (option_map (type_declared p (roles.Result Coroutine)) o) it.of (expr_tree (around p n m is) e) (holds meant.is_status (meaning (around p n m is) e) it.of it.means h) it.tree
  value-returned Pure None e it h all = absurd (cc h)
  value-returned Impure None e it h all = absurd (cc h)
  value-returned Pure (Some t) e it h all = result-fits Pure t e it h (all t refl)
  value-returned Impure (Some t) e it h all = result-fits Impure t e it h (all t refl)

  pub return-keeps : (loops : List ℕ) (at : Place) (e : NamedPartTree) → AllFine p (around p n m is) (returned at e ∷ end_parts e) → end_by_grammar e ≡ true → named_part (names p n m is) e ≡ true
      → well_simple (context p n m is) loops (typed.give_back (returned_tree (around p n m is) e)) ≡ true
  return-keeps loops at absent h g k =
      nothing-returned (context p n m is) m.mark (declared (for_types p) (roles.Result m.mark)) (type_declared p (roles.Result m.mark)) m.gives
      (at-none _ at (h.0 T4 wrong_return rows.wrong_return))
  return-keeps loops at (present e) h g k =
      value-returned m.mark m.gives e (value-of p n m is e h.1 g k) (at-none _ at (h.0 T4 wrong_return rows.wrong_return)) is.gives

  -- Suspensions.
  suspension-seen : (e : NamedExprTree) → is_suspension_text (around p n m is) e ≡ true → is_suspension (slice_get (typed_package p).statuses (status_in e)) ≡ true
  suspension-seen (status k at) h =
      let P : List (List ℕ) → Type 0 = λ texts. is_suspension (slice_get texts k) ≡ true in
      subst P (sym (typed-statuses p)) (sym (same-suspension p.package_name base_statuses p.statuses k) ∙ h)
  suspension-seen e h = absurd (cc h)

  pub yield-keeps : (loops : List ℕ) (at : Place) (e : NamedExprTree) → AllFine p (around p n m is) (yielded at e ∷ expr_parts e)
      → well_simple (context p n m is) loops (typed.yield (status_in e)) ≡ true
  yield-keeps loops at e h =
      and-true (is_coroutine m.mark) (is_suspension (slice_get (typed_package p).statuses (status_in e)))
      (not-not (is_coroutine m.mark) (at-none (not (is_coroutine m.mark)) at (h.0 E2 yielded_outside rows.yielded_outside)))
      (suspension-seen e (not-not (is_suspension_text (around p n m is) e) (at-none (not (is_suspension_text (around p n m is) e)) (place_of e) (h.0 E5 wrong_yield rows.wrong_yield))))

  -- Assertions.
  letters-keep : (given : LetterTrees) → AllFine p (around p n m is) (letters_parts given) → letters_by_grammar given ≡ true → named_letters (names p n m is) given ≡ true
      → list_all (λ g. well_num (context p n m is) g.1) (letter_trees (around p n m is) given) ≡ true
  letters-keep no_letter h g k = refl
  letters-keep (more_letters letter e others) h g k =
      let grammar = both (by_grammar e) (letters_by_grammar others) g in
      let named = both (named_expr (names p n m is) e) (named_letters (names p n m is) others) k in
      let parts = fine-split p (around p n m is) (expr_parts e) (letters_parts others) h.1 in
      let it = value-of p n m is e parts.0 grammar.0 named.0 in
      let number = holds meant.is_number (meaning (around p n m is) e) it.of it.means
      (at-none (fails meant.is_number (meaning (around p n m is) e)) (place_of e) (h.0 T1 wrong_letter rows.wrong_letter)) in
      let t : ValueTree = expr_tree (around p n m is) e in
      let of = whole-tree (context p n m is) t (whole-number (context p n m is) it.of t number it.tree) in
      and-true (well_num (context p n m is) (num_in t)) _ (and-true (is_whole_number (num_in t)) (well_part (context p n m is) (num_in t)) of.0 of.1) (letters-keep others parts.1 grammar.1 named.1)

  via-keeps : (by : NamedViaTree) → AllFine p (around p n m is) (via_parts by) → via_by_grammar by ≡ true → named_via (names p n m is) by ≡ true
      → well_axiom (context p n m is) (axiom_tree (around p n m is) by) ≡ true
  via-keeps by_itself h g k = refl
  via-keeps (via text given) h g k = letters-keep given h g k

  pub claim-keeps : (loops : List ℕ) (e : NamedExprTree) (by : NamedViaTree) → AllFine p (around p n m is) (condition_parts e ++ via_parts by) → by_grammar e ≡ true → via_by_grammar by ≡ true
      → named_expr (names p n m is) e ≡ true → named_via (names p n m is) by ≡ true
      → well_simple (context p n m is) loops (typed.claim (cond_in (expr_tree (around p n m is) e)) (axiom_tree (around p n m is) by)) ≡ true
  claim-keeps loops e by h ge gb ke kb =
      let parts = fine-split p (around p n m is) (condition_parts e) (via_parts by) h in
      and-true (well_cond (context p n m is) (cond_in (expr_tree (around p n m is) e))) _ (condition-keeps p n m is e parts.0 ge ke) (via-keeps by parts.1 gb kb)
